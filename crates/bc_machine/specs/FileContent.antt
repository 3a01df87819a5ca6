-- The content of streams over readers and writers, given that readers say what remains of them and writers say what they have taken.
use Rattle.std.specs.Prelude.{ℕ, List, [], ◌∷◌, map, cond, false, Option, Some, None}
use Rattle.bc_machine_defs.specs.Streams.{Input, Output, Content, HoldBytes}
use Rattle.bc_machine.specs.Known.{AllKnown}
use Rattle.bc_machine_defs.specs.StreamStart.{fresh_input}
use Rattle.bc_machine.specs.declared.names.Named.{Named}
use Rattle.bc_machine.specs.declared.files.FileInput.{FileInput}
use Rattle.bc_machine.specs.declared.names.NamedOutput.{NamedOutput}
use Rattle.bc_machine.specs.declared.files.FileStreams.{FileStreams}

-- the bytes that a device says it holds, or none if it doesn't say
abbrev pub told : Option (List ℕ) → List ℕ
told None = []
told (Some bytes) = bytes

-- an input: its name, what remains of its reader, and whether it has been ended
abbrev pub file_input : {R : Type 0} → (R → Option (List ℕ)) → FileInput R → Input
file_input remaining i = record { name = i.name.items; rest = cond i.at_end [] (told (remaining i.reader)); ended = i.ended }

-- each output's name with the bytes that its writer says it holds
abbrev pub file_outputs : List NamedOutput → List (Option (List ℕ)) → List Output
file_outputs [] written = []
file_outputs (o ∷ os) [] = []
file_outputs (o ∷ os) (bytes ∷ written) =
    record { name = o.name.items; written = told bytes; ended = o.ended } ∷ file_outputs os written

-- the content of the streams
abbrev pub file_content : {R W : Type 0} → (R → Option (List ℕ)) → (W → Option (List ℕ)) → FileStreams R W → Content
file_content remaining contents f = record {
  inputs = map (file_input remaining) f.inputs.items;
  outputs = file_outputs f.outputs.items (map contents f.writers.items);
  input = f.input;
  output = f.output;
}

-- every reader and every writer says which bytes it holds
abbrev pub AllTold : {R W : Type 0} → (R → Option (List ℕ)) → (W → Option (List ℕ)) → FileStreams R W → Type 0
AllTold {R} remaining contents f =
    AllKnown (map (λ (i : FileInput R). remaining i.reader) f.inputs.items) × AllKnown (map contents f.writers.items)

-- the content is known: the devices say what they hold, and what remains of the readers consists of bytes
abbrev pub IsKnown : {R W : Type 0} → (R → Option (List ℕ)) → (W → Option (List ℕ)) → FileStreams R W → Type 0
IsKnown remaining contents f = AllTold remaining contents f × HoldBytes (file_content remaining contents f).inputs

-- the writers of the outputs, in order
abbrev pub file_writers : {R W : Type 0} → FileStreams R W → List W
file_writers f = f.writers.items

-- how often a device has failed
abbrev pub file_failures : {R W : Type 0} → FileStreams R W → ℕ
file_failures f = f.failures

-- inputs as they are passed in, before anything has been read
abbrev pub fresh_inputs : {R : Type 0} → (R → Option (List ℕ)) → List (Named R) → List Input
fresh_inputs {R} remaining named = map (λ (n : Named R). fresh_input n.name.items (told (remaining n.device))) named

-- outputs as they are passed in, each with what its writer has taken before
abbrev pub fresh_outputs : {W : Type 0} → (W → Option (List ℕ)) → List (Named W) → List Output
fresh_outputs {W} contents named = map (λ (n : Named W). record { name = n.name.items; written = told (contents n.device); ended = false }) named

-- the devices of these streams, in order
abbrev pub devices : {W : Type 0} → List (Named W) → List W
devices {W} named = map (λ (n : Named W). n.device) named

-- every device that is passed in says which bytes it holds
abbrev pub AllTell : {T : Type 0} → (T → Option (List ℕ)) → List (Named T) → Type 0
AllTell {T} bytes_told named = AllKnown (map (λ (n : Named T). bytes_told n.device) named)
