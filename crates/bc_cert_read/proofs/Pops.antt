-- Lists whose elements are removed from the end.
use Rattle.std.proofs.Common.{◌≡◌, List, [], ◌∷◌, ◌++◌, Some, None, map, length, refl, ap, ◌∙◌, arith, length-append}
use Rattle.bc_word.specs.declared.operator.Op.{Op}
use Rattle.bc_core.specs.declared.expression.CoreExp.{CoreExp}
use Rattle.bc_core.specs.Tree.{Bin, Cond, Call}
use Rattle.bc_core.specs.View.{exp, args}
use Rattle.bc_cert_read.specs.Wholes.{one_of, two_of, three_of, called_of, with_argument}

pub one_popped : (items rest : List CoreExp) (e : CoreExp) → items ≡ rest ++ e ∷ [] → length items ≡ 1 → one_of (map exp items) ≡ Some (exp e)
one_popped items [] e h n = ap (λ xs. one_of (map exp xs)) h
one_popped items (x ∷ []) e h n = absurd (let m : length items ≡ 2 = ap length h in omega arith)
one_popped items (x ∷ y ∷ rest) e h n = absurd (let m : length items ≡ length (x ∷ y ∷ (rest ++ e ∷ [])) = ap length h in omega arith)

pub two_popped : (op : Op) (items mid rest : List CoreExp) (a b : CoreExp) → items ≡ mid ++ b ∷ [] → mid ≡ rest ++ a ∷ [] → length items ≡ 2 → two_of op (map exp items) ≡ Some (Bin op (exp a) (exp b))
two_popped op items mid [] a b h i n = ap (λ xs. two_of op (map exp xs)) (h ∙ ap (λ xs. xs ++ b ∷ []) i)
two_popped op items mid (x ∷ rest) a b h i n = absurd (let m : length items ≡ length (x ∷ ((rest ++ a ∷ []) ++ b ∷ [])) = ap length (h ∙ ap (λ xs. xs ++ b ∷ []) i) in let k = simp length-append at m in omega arith)

pub three_popped : (items mid more rest : List CoreExp) (a b c : CoreExp) → items ≡ mid ++ c ∷ [] → mid ≡ more ++ b ∷ [] → more ≡ rest ++ a ∷ [] → length items ≡ 3 → three_of (map exp items) ≡ Some (Cond (exp a) (exp b) (exp c))
three_popped items mid more [] a b c h i j n = ap (λ xs. three_of (map exp xs)) (h ∙ ap (λ xs. xs ++ c ∷ []) (i ∙ ap (λ xs. xs ++ b ∷ []) j))
three_popped items mid more (x ∷ rest) a b c h i j n = absurd (let m : length items ≡ length (x ∷ (((rest ++ a ∷ []) ++ b ∷ []) ++ c ∷ [])) = ap length (h ∙ ap (λ xs. xs ++ c ∷ []) (i ∙ ap (λ xs. xs ++ b ∷ []) j)) in let k = simp length-append at m in omega arith)

called_end : (rest : List CoreExp) (f : CoreExp) → called_of (map exp (rest ++ f ∷ [])) ≡ Some (Call (args rest) (exp f))
called_end [] f = refl
called_end (x ∷ []) f = refl
called_end (x ∷ y ∷ rest) f = ap (λ e. with_argument (exp x) e) (called_end (y ∷ rest) f)

pub call_popped : (items rest : List CoreExp) (f : CoreExp) → items ≡ rest ++ f ∷ [] → called_of (map exp items) ≡ Some (Call (args rest) (exp f))
call_popped items rest f h = ap (λ xs. called_of (map exp xs)) h ∙ called_end rest f

pub not_one : (items : List CoreExp) → (length items ≡ 1 → ⊥) → one_of (map exp items) ≡ None
not_one [] h = refl
not_one (x ∷ []) h = absurd (h refl)
not_one (x ∷ y ∷ items) h = refl

pub not_two : (op : Op) (items : List CoreExp) → (length items ≡ 2 → ⊥) → two_of op (map exp items) ≡ None
not_two op [] h = refl
not_two op (x ∷ []) h = refl
not_two op (x ∷ y ∷ []) h = absurd (h refl)
not_two op (x ∷ y ∷ z ∷ items) h = refl

pub not_three : (items : List CoreExp) → (length items ≡ 3 → ⊥) → three_of (map exp items) ≡ None
not_three [] h = refl
not_three (x ∷ []) h = refl
not_three (x ∷ y ∷ []) h = refl
not_three (x ∷ y ∷ z ∷ []) h = absurd (h refl)
not_three (x ∷ y ∷ z ∷ u ∷ items) h = refl
