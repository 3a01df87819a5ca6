-- The loop over the names of a table.
use Rattle.std.proofs.Common.{◌≡◌, ℕ, ◌+◌, ◌<◌, ◌≤◌, List, [], ◌∷◌, ◌++◌, length, take, drop, map, get_or, Bool, true, false, nat_lt, Some, None, Option, refl, sym, ap, ◌∙◌, arith}
use Rattle.std.proofs.lemmas.List.{drop_more, take_more, map-append}
use Rattle.std.proofs.lemmas.Bool.Decides.{nat_tests}
use Rattle.std.specs.List.{list_any}
use Rattle.std.specs.Str.{bytes_eq}
use Rattle.bc_machine.specs.declared.faults.StreamsError.{StreamsError}
use Rattle.bc_machine.specs.declared.faults.StreamsError.TheVariants.{NameTwice}
use Rattle.bc_machine.specs.Refusal.{refusal_from, refusal_in, refusal_of, first_of}

is_short : (n : ℕ) → n ≤ 255 → nat_lt 255 n ≡ false
is_short n h = grind (arith, nat_tests)

abbrev pub stands_in : List ℕ → List (List ℕ) → Bool
stands_in name before = list_any (λ known. bytes_eq known name) before

-- the first name is right
pub refusal_from-passed : (before names : List (List ℕ)) (name : List ℕ) → length name ≤ 255 → stands_in name before ≡ false
    → refusal_from before (name ∷ names) ≡ refusal_from (before ++ name ∷ []) names
refusal_from-passed before names name short fresh = rw (is_short (length name) short, fresh) refl

-- the first name already occurred
pub refusal_from-twice : (before names : List (List ℕ)) (name : List ℕ) → length name ≤ 255 → stands_in name before ≡ true
    → refusal_from before (name ∷ names) ≡ Some NameTwice
refusal_from-twice before names name short found = rw (is_short (length name) short, found) refl

module _ {X : Type 0} (name_of : X → List ℕ) (table : List X) (i : ℕ) (x : X) (less : i < length table) (is : x ≡ get_or table i x) (short : length (name_of x) ≤ 255) where
  abbrev before : List (List ℕ)
  before = map name_of (take i table)

  names_from : map name_of (drop i table) ≡ name_of x ∷ map name_of (drop (i + 1) table)
  names_from = ap (map name_of) (drop_more table i x less) ∙ ap (λ y. name_of y ∷ map name_of (drop (i + 1) table)) (sym is)

  names_before : map name_of (take (i + 1) table) ≡ before ++ name_of x ∷ []
  names_before =
      ap (map name_of) (take_more table i x less)
      ∙ map-append name_of (take i table) (get_or table i x ∷ [])
      ∙ ap (λ y. before ++ name_of y ∷ []) (sym is)

  pub passes : stands_in (name_of x) before ≡ false
      → refusal_from before (map name_of (drop i table))
      ≡ refusal_from (map name_of (take (i + 1) table)) (map name_of (drop (i + 1) table))
  passes fresh = rw (names_from, names_before) (refusal_from-passed before (map name_of (drop (i + 1) table)) (name_of x) short fresh)

  pub repeats : stands_in (name_of x) before ≡ true → refusal_from before (map name_of (drop i table)) ≡ Some NameTwice
  repeats found = rw names_from (refusal_from-twice before (map name_of (drop (i + 1) table)) (name_of x) short found)

-- the names of outputs are checked if those of inputs are right
pub refusal_of-second : (inputs outputs : List (List ℕ)) (fault : Option StreamsError) → refusal_in inputs ≡ None → refusal_in outputs ≡ fault → refusal_of inputs outputs ≡ fault
refusal_of-second inputs outputs fault none second = ap (λ first. first_of first (refusal_in outputs)) none ∙ second
