-- Which names of streams are rejected, and why.
use Rattle.std.specs.Prelude.{ℕ, List, [], ◌∷◌, ◌++◌, length, Option, Some, None, cond, nat_lt}
use Rattle.std.specs.List.{list_any}
use Rattle.std.specs.Str.{bytes_eq}
use Rattle.bc_machine.specs.declared.faults.StreamsError.{StreamsError}
use Rattle.bc_machine.specs.declared.faults.StreamsError.TheVariants.{NameTwice, NameTooLong}

-- the first wrong name of a table, after the names `before`: one of more than 255 bytes, or one that already occurred
abbrev pub refusal_from : List (List ℕ) → List (List ℕ) → Option StreamsError
refusal_from before [] = None
refusal_from before (name ∷ names) =
    cond (nat_lt 255 (length name)) (Some NameTooLong) (
    cond (list_any (λ known. bytes_eq known name) before) (Some NameTwice) (
    refusal_from (before ++ name ∷ []) names))

-- the first wrong name of a table
abbrev pub refusal_in : List (List ℕ) → Option StreamsError
refusal_in names = refusal_from [] names

abbrev pub first_of : Option StreamsError → Option StreamsError → Option StreamsError
first_of None second = second
first_of (Some fault) second = Some fault

-- the inputs are checked first
abbrev pub refusal_of : List (List ℕ) → List (List ℕ) → Option StreamsError
refusal_of inputs outputs = first_of (refusal_in inputs) (refusal_in outputs)
