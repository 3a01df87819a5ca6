-- Lists of derivations in memory, and the trees that they are.
use Rattle.std.proofs.Common.{◌≡◌, refl, ap, rules, ℕ, zero, suc, List, [], ◌∷◌, map, take, length}
use Rattle.std.specs.List.{swap}
use Rattle.bc_rules_defs.specs.declared.derivation.Derivation.{Derivation, Derivation', Row_of-Derivation, end_of-Derivation, more_of-Derivation, items-the_row-Derivation, out-Derivation, the_lemmas}
use Rattle.bc_rules_defs.specs.Rules.{by, part}
use Rattle.bc_rules_defs.specs.View.{derivation, derivations, derivations_of_row}
use Rattle.bc_cert_read.specs.Derived.{two_turned, last_turned, trees}

pub take_seen : (n : ℕ) (ds : List Derivation) → map derivation (take n ds) ≡ take n (map derivation ds)
take_seen zero ds = refl
take_seen (suc n) [] = refl
take_seen (suc n) (d ∷ ds) = ap (λ xs. derivation d ∷ xs) (take_seen n ds)

pub two_seen : (ds : List Derivation) → length ds ≡ 2 → map derivation (swap ds 0 1) ≡ two_turned (map derivation ds)
two_seen [] h = refl
two_seen (a ∷ []) h = cc
two_seen (a ∷ b ∷ []) h = refl
two_seen (a ∷ b ∷ c ∷ ds) h = cc

pub not_two_seen : (ds : List Derivation) → (length ds ≡ 2 → ⊥) → map derivation ds ≡ two_turned (map derivation ds)
not_two_seen [] h = refl
not_two_seen (a ∷ []) h = refl
not_two_seen (a ∷ b ∷ []) h = absurd (h refl)
not_two_seen (a ∷ b ∷ c ∷ ds) h = refl

pub three_seen : (ds : List Derivation) → length ds ≡ 3 → map derivation (swap ds 1 2) ≡ last_turned (map derivation ds)
three_seen [] h = refl
three_seen (a ∷ []) h = cc
three_seen (a ∷ b ∷ []) h = cc
three_seen (a ∷ b ∷ c ∷ []) h = refl
three_seen (a ∷ b ∷ c ∷ d ∷ ds) h = cc

pub not_three_seen : (ds : List Derivation) → (length ds ≡ 3 → ⊥) → map derivation ds ≡ last_turned (map derivation ds)
not_three_seen [] h = refl
not_three_seen (a ∷ []) h = refl
not_three_seen (a ∷ b ∷ []) h = refl
not_three_seen (a ∷ b ∷ c ∷ []) h = absurd (h refl)
not_three_seen (a ∷ b ∷ c ∷ d ∷ ds) h = refl

rows_seen : {n : _} (r : Row_of-Derivation n) → derivations_of_row r ≡ derivations (items-the_row-Derivation n r)
rows_seen end_of-Derivation = refl
rows_seen (more_of-Derivation d ds) = ap (part (derivation d)) (rows_seen ds)

-- a tree from the list of its parts
pub tree_view : (d : Derivation) → derivation d ≡ by (out-Derivation d).rule (derivations (out-Derivation d).parts.items)
tree_view (Derivation' r shape ps) = let h = rows_seen ps in search (rules, the_lemmas)

pub trees_seen : (ds : List Derivation) → derivations ds ≡ trees (map derivation ds)
trees_seen [] = refl
trees_seen (d ∷ ds) = ap (part (derivation d)) (trees_seen ds)
