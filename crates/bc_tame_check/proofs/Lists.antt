-- A list that is taken apart.
use Rattle.std.proofs.Common.{◌≡◌, ◌-◌, ◌≤◌, ◌∙◌, List, [], ◌∷◌, length, get_or, take, drop, sym, ap, arith}
use Rattle.std.proofs.lemmas.List.{take_rest}

whole : {A : Type 0} (xs : List A) (x : A) → 1 ≤ length xs → x ≡ get_or xs 0 x → xs ≡ x ∷ drop 1 xs
whole [] x l e = absurd (omega arith)
whole (y ∷ ys) x l e = ap (λ z. z ∷ ys) (sym e)

pub apart : {A : Type 0} (xs : List A) (x : A) → 1 ≤ length xs → x ≡ get_or xs 0 x → xs ≡ x ∷ take (length xs - 1) (drop 1 xs)
apart xs x l e = whole xs x l e ∙ ap (λ ys. x ∷ ys) (sym (take_rest xs 1))
