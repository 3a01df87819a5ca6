-- Calls that pass.
use Rattle.std.proofs.Common.{◌≡◌, ℕ, ◌+◌, ◌≤◌, Bool, true, false, List, [], ◌∷◌, Option, Some, length, refl, sym, ap, ◌∙◌, subst, arith}
use Rattle.std.specs.Prelude.{◌||◌, IfSome}
use Rattle.bc_core.specs.Tree.{Exp, Glob, Load, Call, Args, count}
use Rattle.bc_core.specs.View.{args}
use Rattle.bc_core.specs.declared.expression.CoreExp.{CoreExp}
use Rattle.bc_tame.specs.Tame.{Note, notes_of, Known, Knows, Env, called, fits_call, spoken, fits_room, tame_exp, tame_args}
use Rattle.bc_tame_check.proofs.Tests.{and_true, most_true}

pub called_global : {K : Type 0} (E : Env) (g : ℕ) (e : Exp) (r : Option K) (f : K → Option Known) → e ≡ Load (Glob g)
    → IfSome r (λ k. E.callable g ≡ f k) → IfSome r (λ k. called E e ≡ f k)
called_global E g e r f is h = subst (λ x. IfSome r (λ k. called E x ≡ f k)) (sym is) h

pub count_args : (es : List CoreExp) → count (args es) ≡ length es
count_args [] = refl
count_args (e ∷ es) = let h = count_args es in omega arith

or_true : (a b : Bool) → b ≡ true → (a || b) ≡ true
or_true true b e = refl
or_true false b e = e

-- a call of a routine that is known
pub known_call : (E : Env) (es : List CoreExp) (f : Exp) (notes : List Note) (s : ℕ) (k : Known)
    → called E f ≡ Some k → fits_call (Some k) (length es) s E.size ≡ true → (fits_call (called E f) (count (args es)) s E.size || fits_room (spoken E f notes) s E.size) ≡ true
known_call E es f notes s k e fits =
    let fit : fits_call (called E f) (count (args es)) s E.size ≡ true =
    ap (λ c. fits_call c (count (args es)) s E.size) e ∙ ap (λ n. fits_call (Some k) n s E.size) (count_args es) ∙ fits in
    ap (λ t. t || fits_room (spoken E f notes) s E.size) fit

-- a call of a library routine that takes strings
pub said_fits : (E : Env) (f : Exp) (notes : List Note) (s g room : ℕ) → f ≡ Load (Glob g) → E.speaks g notes ≡ Some room → s + room ≤ E.size → fits_room (spoken E f notes) s E.size ≡ true
said_fits E f notes s g room is speaks fits =
    ap (λ h. fits_room (spoken E h notes) s E.size) is ∙ (ap (λ r. fits_room r s E.size) speaks ∙ most_true (s + room) E.size fits)

pub said_call : (E : Env) (es : Args) (f : Exp) (notes : List Note) (s : ℕ)
    → fits_room (spoken E f notes) s E.size ≡ true → (fits_call (called E f) (count es) s E.size || fits_room (spoken E f notes) s E.size) ≡ true
said_call E es f notes s fits = or_true (fits_call (called E f) (count es) s E.size) (fits_room (spoken E f notes) s E.size) fits

pub call_true : (E : Env) (R : Knows) (es : Args) (f : Exp) (s level : ℕ) → level ≡ s + 2 → tame_args E R es level ≡ true
    → (fits_call (called E f) (count es) s E.size || fits_room (spoken E f (notes_of E.text E.gives R es)) s E.size) ≡ true → tame_exp E R (Call es f) s ≡ true
call_true E R es f s level above all fits =
    and_true (tame_args E R es (s + 2)) (fits_call (called E f) (count es) s E.size || fits_room (spoken E f (notes_of E.text E.gives R es)) s E.size)
    (subst (λ n. tame_args E R es n ≡ true) above all) fits
