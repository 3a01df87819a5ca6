-- The widest pair, when one of the lists is at its end.
use Rattle.std.proofs.Common.{◌≡◌, ℕ, ◌≤◌, refl, ap, ◌∙◌, List, [], ◌∷◌, length, drop}
use Rattle.std.proofs.lemmas.List.{drop_all}
use Rattle.bc_scope_defs.specs.FramesAlong.{widest}

no_place : (hs es : List ℕ) → widest hs [] es ≡ 0
no_place [] es = refl
no_place (h ∷ hs) es = refl

no_value : (hs xs : List ℕ) → widest hs xs [] ≡ 0
no_value [] xs = refl
no_value (h ∷ hs) [] = refl
no_value (h ∷ hs) (x ∷ xs) = refl

pub widest_places : (hs xs es : List ℕ) (i : ℕ) → length xs ≤ i → widest (drop i hs) (drop i xs) (drop i es) ≡ 0
widest_places hs xs es i h = ap (λ ys. widest (drop i hs) ys (drop i es)) (drop_all i xs h) ∙ no_place (drop i hs) (drop i es)

pub widest_values : (hs xs es : List ℕ) (i : ℕ) → length es ≤ i → widest (drop i hs) (drop i xs) (drop i es) ≡ 0
widest_values hs xs es i h = ap (λ ys. widest (drop i hs) (drop i xs) ys) (drop_all i es h) ∙ no_value (drop i hs) (drop i xs)
