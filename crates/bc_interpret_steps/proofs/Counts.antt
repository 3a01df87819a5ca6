-- The number of a call's arguments, and lists that are taken apart.
use Rattle.std.proofs.Common.{◌≡◌, ◌-◌, ◌≤◌, ◌∙◌, List, [], ◌∷◌, length, get_or, take, drop, refl, sym, ap, arith}
use Rattle.std.proofs.lemmas.List.{take_rest}
use Rattle.bc_core.specs.declared.expression.CoreExp.{CoreExp}
use Rattle.bc_core.specs.Tree.{count}
use Rattle.bc_core.specs.View.{args}

pub count_args : (es : List CoreExp) → count (args es) ≡ length es
count_args [] = refl
count_args (e ∷ es) = let h = count_args es in omega arith

whole : {A : Type 0} (xs : List A) (x : A) → 1 ≤ length xs → x ≡ get_or xs 0 x → xs ≡ x ∷ drop 1 xs
whole [] x l e = absurd (omega arith)
whole (y ∷ ys) x l e = ap (λ z. z ∷ ys) (sym e)

pub apart : {A : Type 0} (xs : List A) (x : A) → 1 ≤ length xs → x ≡ get_or xs 0 x → xs ≡ x ∷ take (length xs - 1) (drop 1 xs)
apart xs x l e = whole xs x l e ∙ ap (λ ys. x ∷ ys) (sym (take_rest xs 1))
