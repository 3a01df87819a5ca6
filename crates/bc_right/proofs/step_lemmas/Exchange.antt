-- Free operands may be evaluated in the other order.
use Rattle.std.proofs.Common.{◌≡◌, ◌⊎◌, inl, inr, ⊎_elim, ℕ, ◌+◌, ◌%◌, Bool, true, false, not, ◌||◌, Option, Some, None, refl, sym, ap, ◌∙◌, subst}
use Rattle.std.specs.Prelude.{cond}
use Rattle.bc_word.specs.declared.operator.Op.TheVariants as operators
use Rattle.bc_word.specs.Words.{value_of}
use Rattle.bc_core.specs.declared.operands.Operand.{Operand}
use Rattle.bc_core.specs.Tree.{Exp, Num, Frame, Glob, Place, Load, Bin}
use Rattle.bc_core.specs.Operand.{operand_of, content_of, sum_operand, moved}
use Rattle.bc_core.specs.Outcome.{State, Outcome, Done, Ended, Going, Wild, Run, followed, then_do, outweighed, second_side, both, write}
use Rattle.bc_core.specs.Value.{Context, has_call, given, value}
use Rattle.bc_core.specs.Laws.{IsCalm}
use Rattle.bc_core.proofs.Calm.{calm, no_left, no_right}
use Rattle.bc_right.specs.steps.Free.{are_free, is_direct, SameUnlessWild, FreeOperandsExchange, FreeSidesExchange}

not_direct : (o : Option Operand) → None ≡ o → is_direct o ≡ true → ⊥
not_direct None e h = cc
not_direct (Some o) e h = cc

-- the value of a direct operand depends on nothing
abbrev Fixed : (C : Context) → Exp → ℕ → ℕ → Type 0
Fixed C e p s = (v : ℕ) × ((st : State) → value C e p s st ≡ Done v st)

content_direct : (o : Option Operand) → is_direct (content_of o) ≡ true → ⊥
content_direct None h = cc
content_direct (Some o) h = by_direct o.direct h where
  by_direct : (d : Bool) → is_direct (cond d (Some (record o { direct = false })) None) ≡ true → ⊥
  by_direct true k = cc
  by_direct false k = cc

none_moved : (e : Exp) → is_direct (moved e None) ≡ true → ⊥
none_moved (Frame k) h = cc
none_moved (Glob n) h = cc
none_moved _ h = cc

sum_fixed : (C : Context) (a b : Exp) → is_direct (sum_operand a b) ≡ true → (p s : ℕ) → Fixed C (Bin operators.Add a b) p s
sum_fixed C (Frame k) (Num c) h p s = (((p + k) % 65536 + c) % 65536, λ st. refl)
sum_fixed C (Glob k) (Num c) h p s = (((8 + k) % 65536 + c) % 65536, λ st. refl)
sum_fixed C (Num c) (Frame k) h p s = ((c + (p + k) % 65536) % 65536, λ st. refl)
sum_fixed C (Num c) (Glob k) h p s = ((c + (8 + k) % 65536) % 65536, λ st. refl)
sum_fixed C a b h p s = absurd (none_moved b h)

fixed : (C : Context) (e : Exp) → is_direct (operand_of e) ≡ true → (p s : ℕ) → Fixed C e p s
fixed C (Num n) h p s = (n, λ st. refl)
fixed C (Frame k) h p s = ((p + k) % 65536, λ st. refl)
fixed C (Glob n) h p s = ((8 + n) % 65536, λ st. refl)
fixed C (Place m) h p s = (C.place m, λ st. refl)
fixed C (Load e) h p s = absurd (content_direct (operand_of e) h)
fixed C (Bin operators.Add a b) h p s = sum_fixed C a b h p s
fixed C _ h p s = cc

-- neither side contains a call or a VALOF
calm_exchange : {A : Type 0} (f : ℕ → ℕ → Run A) (va vb : Run ℕ) (st : State) (oa ob : Outcome ℕ) → va st ≡ oa → vb st ≡ ob → IsCalm st oa → IsCalm st ob
    → SameUnlessWild (second_side false oa vb f st) (followed ob (λ y. then_do va (λ x. f x y)))
calm_exchange f va vb st (Done x sa) (Done y sb) ea eb ca cb =
    let left : second_side false (Done x sa) vb f st ≡ f x y st =
    subst (λ z. followed (vb z) (λ w. f x w) ≡ f x y st) ca (ap (λ r. followed r (λ w. f x w)) eb ∙ ap (f x y) (sym cb)) in
    let right : followed (va sb) (λ u. f u y) ≡ f x y st =
    subst (λ z. followed (va z) (λ u. f u y) ≡ f x y st) cb (ap (λ r. followed r (λ u. f u y)) ea ∙ ap (f x y) (sym ca)) in
    inl (left ∙ sym right)
calm_exchange f va vb st (Done x sa) (Ended e streams) ea eb ca cb =
    inl (subst (λ z. followed (vb z) (λ w. f x w) ≡ Ended e streams) ca (ap (λ r. followed r (λ w. f x w)) eb))
calm_exchange f va vb st (Done x sa) Wild ea eb ca cb =
    inr (subst (λ z. followed (vb z) (λ w. f x w) ≡ Wild) ca (ap (λ r. followed r (λ w. f x w)) eb))
calm_exchange f va vb st (Ended e streams) (Done y sb) ea eb ca cb =
    inl (ap (outweighed e streams) eb ∙ subst (λ z. Ended e streams ≡ followed (va z) (λ u. f u y)) cb (sym (ap (λ r. followed r (λ u. f u y)) ea)))
calm_exchange f va vb st (Ended e streams) (Ended e1 streams1) ea eb ca cb = inl (ap (outweighed e streams) eb ∙ ap (λ z. Ended z streams) (ca.0 ∙ sym cb.0) ∙ ap (Ended e1) (ca.1 ∙ sym cb.1))
calm_exchange f va vb st (Ended e streams) Wild ea eb ca cb = inr (ap (outweighed e streams) eb)
calm_exchange f va vb st Wild ob ea eb ca cb = inr refl
calm_exchange f va vb st (Going streams) ob ea eb ca cb = absurd ca
calm_exchange f va vb st (Done x sa) (Going streams) ea eb ca cb = absurd cb
calm_exchange f va vb st (Ended e streams) (Going streams1) ea eb ca cb = absurd cb

-- a direct operand on the left, or on the right
left_exchange : {A : Type 0} (calls : Bool) (f : ℕ → ℕ → Run A) (va vb : Run ℕ) (v : ℕ) (st : State) (ob : Outcome ℕ) → ((z : State) → va z ≡ Done v z) → vb st ≡ ob
    → second_side calls (va st) vb f st ≡ followed ob (λ y. then_do va (λ x. f x y))
left_exchange calls f va vb v st ob k eb =
    ap (λ o. second_side calls o vb f st) (k st) ∙ ap (λ o. followed o (λ y. f v y)) eb ∙ by_cases ob where
      by_cases : (o : Outcome ℕ) → followed o (λ y. f v y) ≡ followed o (λ y. then_do va (λ x. f x y))
      by_cases (Done y sb) = ap (λ o. followed o (λ x. f x y)) (sym (k sb))
      by_cases (Ended e streams) = refl
      by_cases (Going streams) = refl
      by_cases Wild = refl

right_exchange : {A : Type 0} (calls : Bool) (f : ℕ → ℕ → Run A) (va vb : Run ℕ) (w : ℕ) (st : State) (oa : Outcome ℕ) → ((z : State) → vb z ≡ Done w z) → va st ≡ oa
    → second_side calls (va st) vb f st ≡ followed (vb st) (λ y. then_do va (λ x. f x y))
right_exchange calls f va vb w st oa k ea =
    ap (λ o. second_side calls o vb f st) ea ∙ by_cases calls oa ∙ sym (ap (λ o. followed o (λ x. f x w)) ea) ∙ sym (ap (λ o. followed o (λ y. then_do va (λ x. f x y))) (k st)) where
      by_cases : (calls : Bool) (o : Outcome ℕ) → second_side calls o vb f st ≡ followed o (λ x. f x w)
      by_cases calls (Done x sa) = ap (λ o. followed o (λ y. f x y)) (k sa)
      by_cases false (Ended e streams) = ap (outweighed e streams) (k st)
      by_cases true (Ended e streams) = refl
      by_cases calls (Going streams) = refl
      by_cases calls Wild = refl

or_cases : (a b : Bool) → (a || b) ≡ true → (a ≡ true) ⊎ (b ≡ true)
or_cases true b h = inl refl
or_cases false b h = inr h

not_true : (a : Bool) → not a ≡ true → a ≡ false
not_true false h = refl
not_true true h = cc

-- anything that is done with the values of two free expressions
pub sides_exchange : {A : Type 0} (C : Context) (l r : Exp) (f : ℕ → ℕ → Run A) → are_free l r ≡ true → (p s : ℕ) (st : State)
    → SameUnlessWild (both (has_call l || has_call r) (value C l p s) (value C r p s) f st) (then_do (value C r p s) (λ y. then_do (value C l p s) (λ x. f x y)) st)
sides_exchange C l r f h p s st =
    let va = value C l p s in
    let vb = value C r p s in
    let other = then_do vb (λ y. then_do va (λ x. f x y)) st in
    let source = both (has_call l || has_call r) va vb f st in
    let by_left : is_direct (operand_of l) ≡ true → SameUnlessWild source other =
    λ d. let k = fixed C l d p s in inl (left_exchange (has_call l || has_call r) f va vb k.0 st (vb st) k.1 refl) in
    let by_right : is_direct (operand_of r) ≡ true → SameUnlessWild source other =
    λ d. let k = fixed C r d p s in inl (right_exchange (has_call l || has_call r) f va vb k.0 st (va st) k.1 refl) in
    let by_calm : not (has_call l || has_call r) ≡ true → SameUnlessWild source other =
    λ d. let none = not_true _ d in
    subst (λ z. SameUnlessWild (second_side z (va st) vb f st) other) (sym none)
    (calm_exchange f va vb st (va st) (vb st) refl refl ((calm C l (no_left _ _ none) p s).0.from st) ((calm C r (no_right _ _ none) p s).0.from st)) in
    ⊎_elim (λ h1. ⊎_elim by_calm by_left (or_cases _ _ h1)) by_right (or_cases _ _ h)

pub free_operands_exchange : FreeOperandsExchange
free_operands_exchange C op l r h p s st = sides_exchange C l r (λ x y. given (value_of op x y)) h p (s + 1) st

pub free_sides_exchange : FreeSidesExchange
free_sides_exchange C v a h p s st = sides_exchange C v a (λ w address. write address w) h p s st
