-- Writing and ending the outputs of streams over writers.
use Rattle.std.proofs.Common.{◌≡◌, ℕ, ◌-◌, ◌<◌, ◌≤◌, zero, suc, List, [], ◌∷◌, ◌++◌, map, length, get_or, set, Option, Some, None, refl, ap, ◌∙◌, arith, slice_get, slice_set, subst}
use Rattle.std.specs.Prelude.{IsSome}
use Rattle.std.specs.Option.{option_map}
use Rattle.std.proofs.lemmas.Option.{slice_get_read, slice_get-map}
use Rattle.std.proofs.lemmas.List.{map-set}
use Rattle.bc_machine_defs.specs.Streams.{Output, numbered}
use Rattle.bc_machine.specs.Known.{AllKnown}
use Rattle.bc_machine.specs.FileContent.{told, file_outputs}
use Rattle.bc_machine.specs.declared.names.NamedOutput.{NamedOutput}
use Rattle.bc_machine.proofs.Tables.{numbered-get}

abbrev pub Told : Type 0
Told = Option (List ℕ)

abbrev pub file_output : NamedOutput → Told → Output
file_output o bytes = record { name = o.name.items; written = told bytes; ended = o.ended }

pub file_outputs-append : (os : List NamedOutput) (bytes : List Told) (o : NamedOutput) (b : Told) → length os ≡ length bytes
    → file_outputs (os ++ o ∷ []) (bytes ++ b ∷ []) ≡ file_outputs os bytes ++ file_output o b ∷ []
file_outputs-append [] [] o b h = refl
file_outputs-append [] (c ∷ bytes) o b h = absurd (omega arith)
file_outputs-append (p ∷ os) [] o b h = absurd (omega arith)
file_outputs-append (p ∷ os) (c ∷ bytes) o b h = let same : length os ≡ length bytes = omega arith in rw (file_outputs-append os bytes o b same) refl

pub file_outputs-get : (os : List NamedOutput) (bytes : List Told) (k : ℕ) (o : NamedOutput) (b : Told) → slice_get os k ≡ Some o → slice_get bytes k ≡ Some b
    → slice_get (file_outputs os bytes) k ≡ Some (file_output o b)
file_outputs-get [] bytes k o b h j = absurd cc
file_outputs-get (p ∷ os) [] k o b h j = absurd cc
file_outputs-get (p ∷ os) (c ∷ bytes) zero o b h j = let x : p ≡ o = cc in let y : c ≡ b = cc in rw (x, y) refl
file_outputs-get (p ∷ os) (c ∷ bytes) (suc k) o b h j = file_outputs-get os bytes k o b h j

pub file_outputs-written : (os : List NamedOutput) (bytes : List Told) (k : ℕ) (o : NamedOutput) (b : Told) → slice_get os k ≡ Some o
    → file_outputs os (set bytes k b) ≡ slice_set (file_outputs os bytes) k (file_output o b)
file_outputs-written [] bytes k o b h = absurd cc
file_outputs-written (p ∷ os) [] k o b h = refl
file_outputs-written (p ∷ os) (c ∷ bytes) zero o b h = let x : p ≡ o = cc in rw x refl
file_outputs-written (p ∷ os) (c ∷ bytes) (suc k) o b h = rw (file_outputs-written os bytes k o b h) refl

pub file_outputs-ended : (os : List NamedOutput) (bytes : List Told) (k : ℕ) (o : NamedOutput) (b : Told) → slice_get bytes k ≡ Some b
    → file_outputs (set os k o) bytes ≡ slice_set (file_outputs os bytes) k (file_output o b)
file_outputs-ended [] bytes k o b h = refl
file_outputs-ended (p ∷ os) [] k o b h = absurd cc
file_outputs-ended (p ∷ os) (c ∷ bytes) zero o b h = let y : c ≡ b = cc in rw y refl
file_outputs-ended (p ∷ os) (c ∷ bytes) (suc k) o b h = rw (file_outputs-ended os bytes k o b h) refl

pub names_of_outputs : (os : List NamedOutput) (bytes : List Told) → length os ≡ length bytes
    → map (λ (o : Output). o.name) (file_outputs os bytes) ≡ map (λ (o : NamedOutput). o.name.items) os
names_of_outputs [] bytes h = refl
names_of_outputs (o ∷ os) [] h = absurd (omega arith)
names_of_outputs (o ∷ os) (b ∷ bytes) h = let same : length os ≡ length bytes = omega arith in ap (λ names. o.name.items ∷ names) (names_of_outputs os bytes same)

pub length_outputs : (os : List NamedOutput) (bytes : List Told) → length os ≡ length bytes → length (file_outputs os bytes) ≡ length os
length_outputs [] bytes h = refl
length_outputs (o ∷ os) [] h = absurd (omega arith)
length_outputs (o ∷ os) (b ∷ bytes) h = let same : length os ≡ length bytes = omega arith in ap suc (length_outputs os bytes same)

-- if all devices say what they hold, each does
pub known_get : (all : List Told) (k : ℕ) (b : Told) → AllKnown all → slice_get all k ≡ Some b → IsSome b
known_get [] k b h j = absurd cc
known_get (None ∷ all) k b h j = absurd h
known_get (Some x ∷ all) zero b h j = let e : Some x ≡ b = cc in subst IsSome e refl
known_get (Some x ∷ all) (suc k) b h j = known_get all k b h j

pub known_set : (all : List Told) (k : ℕ) (b : Told) → AllKnown all → IsSome b → AllKnown (set all k b)
known_set [] k b h p = h
known_set (None ∷ all) k b h p = absurd h
known_set (Some x ∷ all) zero None h p = absurd cc
known_set (Some x ∷ all) zero (Some y) h p = h
known_set (Some x ∷ all) (suc k) b h p = known_set all k b h p

module _ {X : Type 0} (f : X → Told) (xs : List X) (n : ℕ) (x : X) (some : 0 < n) (within : n ≤ length xs) (is : x ≡ get_or xs (n - 1) x) where
  pub told_get : slice_get (map f xs) (n - 1) ≡ Some (f x)
  told_get =
      let less : n - 1 < length xs = omega arith in
      slice_get-map f xs (n - 1) ∙ ap (option_map f) (slice_get_read xs (length xs) (n - 1) x refl less is)

  pub known_at : AllKnown (map f xs) → IsSome (f x)
  known_at h = known_get (map f xs) (n - 1) (f x) h told_get

  pub known_after : (y : X) → AllKnown (map f xs) → IsSome (f y) → AllKnown (map f (set xs (n - 1) y))
  known_after y h p = rw (map-set f xs (n - 1) y) (known_set (map f xs) (n - 1) (f y) h p)

-- the output of a number
pub numbered_output : (n : ℕ) (os : List NamedOutput) (bytes : List Told) (o : NamedOutput) (b : Told) → 0 < n → n ≤ length os → o ≡ get_or os (n - 1) o → slice_get bytes (n - 1) ≡ Some b
    → numbered (file_outputs os bytes) n ≡ Some (file_output o b)
numbered_output n os bytes o b some within is at =
    let less : n - 1 < length os = omega arith in
    numbered-get (file_outputs os bytes) n some
    ∙ file_outputs-get os bytes (n - 1) o b (slice_get_read os (length os) (n - 1) o refl less is) at
