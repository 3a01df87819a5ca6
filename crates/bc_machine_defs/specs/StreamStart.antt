-- The streams at the start of a run.
use Rattle.std.specs.Prelude.{ℕ, List, [], ◌∷◌, map, false}
use Rattle.bc_machine_defs.specs.Streams.{Input, Output, Content}

-- an input before anything has been read
abbrev pub fresh_input : List ℕ → List ℕ → Input
fresh_input name bytes = record { name = name; rest = bytes; ended = false }

-- an output before anything has been written
abbrev pub fresh_output : List ℕ → Output
fresh_output name = record { name = name; written = []; ended = false }

-- 1 if the table has a stream, else 0
abbrev pub first_number : {X : Type 0} → List X → ℕ
first_number [] = 0
first_number (x ∷ xs) = 1

-- input 1 and output 1 are selected, if they exist
abbrev pub opened : List Input → List Output → Content
opened inputs outputs = record {
  inputs = inputs;
  outputs = outputs;
  input = first_number inputs;
  output = first_number outputs;
}

-- the streams with inputs of these names and bytes, and outputs of these names
abbrev pub start_streams : List (List ℕ × List ℕ) → List (List ℕ) → Content
start_streams inputs outputs = opened (map (λ i. fresh_input i.0 i.1) inputs) (map fresh_output outputs)
