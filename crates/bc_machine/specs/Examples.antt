-- Worked examples of the streams.
use Rattle.std.specs.Prelude.{ℕ, ◌≡◌, List, [], ◌∷◌, Some, None, replicate}
use Rattle.std.proofs.Common.{refl}
use Rattle.bc_machine.specs.declared.faults.StreamsError.TheVariants.{NameTwice, NameTooLong}
use Rattle.bc_machine.specs.Refusal.{refusal_of}
use Rattle.bc_machine.specs.MemoryContent.{bytes_to}

-- the names A and B
abbrev one : List ℕ
one = 65 ∷ []

abbrev other : List ℕ
other = 66 ∷ []

twice : refusal_of (one ∷ other ∷ one ∷ []) [] ≡ Some NameTwice
twice = refl

-- an input and an output may have the same name
tables_apart : refusal_of (one ∷ other ∷ []) (one ∷ []) ≡ None
tables_apart = refl

long : refusal_of [] (replicate 256 65 ∷ []) ≡ Some NameTooLong
long = refl

long_enough : refusal_of [] (replicate 255 65 ∷ []) ≡ None
long_enough = refl

-- the length of a name is checked before duplicates, and the inputs before the outputs
length_first : refusal_of (replicate 256 65 ∷ replicate 256 65 ∷ []) (one ∷ one ∷ []) ≡ Some NameTooLong
length_first = refl

inputs_first : refusal_of (one ∷ one ∷ []) (replicate 256 65 ∷ []) ≡ Some NameTwice
inputs_first = refl

-- output 1 gets the bytes 7 and 9 of 7, 8 and 9, since 8 went to output 2
sent : bytes_to 1 ((1, 7) ∷ (2, 8) ∷ (1, 9) ∷ []) ≡ 7 ∷ 9 ∷ []
sent = refl
