-- An expression without call and VALOF changes nothing and takes no turn.
use Rattle.std.proofs.Common.{◌≡◌, ℕ, ◌+◌, ◌||◌, Bool, true, false, Option, Some, None, refl, sym, subst}
use Rattle.bc_word.specs.declared.operator.Op.{Op}
use Rattle.bc_word.specs.declared.operator.Op.TheVariants as operators
use Rattle.bc_word.specs.Words.{value_of}
use Rattle.bc_core.specs.Tree.{Exp, Num, Frame, Glob, Place, Load, Neg, Not, Bin, Cond, Call, Valof}
use Rattle.bc_core.specs.Store.{Cell, Dead, Unset, Set, cell_at}
use Rattle.bc_machine_defs.specs.Streams.{Content}
use Rattle.bc_core.specs.Outcome.{Ending, ZeroDivide, State, Outcome, Done, Ended, Going, Wild, Run, followed, then_do, choose, content_of_cell, outweighed, second_side}
use Rattle.bc_core.specs.Laws.{IsCalm, CallFreeIsCalm}
use Rattle.bc_core.specs.Value.{Context, Sense, has_call, truth_of_value, given, operated, operator_truth, sense}

pub record CalmRun {A : Type 0} (r : Run A) : Type 0 where
  pub from : (st : State) → IsCalm st (r st)

calm_done : {A : Type 0} (x : A) → CalmRun (Done x)
calm_done x = record { from = λ st. refl }

calm_then : {A B : Type 0} (r : Run A) (f : A → Run B) → CalmRun r → ((x : A) → CalmRun (f x)) → CalmRun (then_do r f)
calm_then {A = A} {B = B} r f h k = record { from = λ st. joined st (r st) (h.from st) } where
  joined : (st : State) (o : Outcome A) → IsCalm st o → IsCalm st (followed o f)
  joined st (Done x st1) c = subst (λ z. IsCalm st (f x z)) c ((k x).from st)
  joined st (Ended e streams) c = c
  joined st (Going streams) c = c
  joined st Wild c = tt

calm_choose : {A : Type 0} (t : Bool) (this that : Run A) → CalmRun this → CalmRun that → CalmRun (choose t this that)
calm_choose true this that h k = h
calm_choose false this that h k = k

calm_cell : (c : Cell) (st : State) → IsCalm st (content_of_cell c st)
calm_cell Dead st = tt
calm_cell Unset st = tt
calm_cell (Set w) st = refl

calm_given : (v : Option ℕ) → CalmRun (given v)
calm_given None = record { from = λ st. (refl, refl) }
calm_given (Some v) = calm_done v

calm_operated : (op : Op) (a b : Run ℕ) → CalmRun a → CalmRun b → CalmRun (operated op false a b)
calm_operated op a b h k = record { from = λ st. sides st (a st) (h.from st) } where
  weighed : (st : State) (e : Ending) (streams : Content) (o : Outcome ℕ) → (e ≡ ZeroDivide) × (streams ≡ st.streams) → IsCalm st (outweighed {A = ℕ} {B = ℕ} e streams o)
  weighed st e streams (Done y st2) c = c
  weighed st e streams (Ended e2 streams2) c = c
  weighed st e streams (Going streams2) c = c
  weighed st e streams Wild c = tt

  sides : (st : State) (o : Outcome ℕ) → IsCalm st o → IsCalm st (second_side false o b (λ x y. given (value_of op x y)) st)
  sides st (Done x st1) c = subst (λ z. IsCalm st (followed (b z) (λ y. given (value_of op x y)))) c ((calm_then b (λ y. given (value_of op x y)) k (λ y. calm_given (value_of op x y))).from st)
  sides st (Ended e streams) c = weighed st e streams (b st) c
  sides st (Going streams) c = c
  sides st Wild c = tt

calm_truth : (op : Op) (a b : Sense) (v : Run ℕ) → CalmRun a.truth → CalmRun b.truth → CalmRun v → CalmRun (operator_truth op a b v)
calm_truth operators.And a b v h k g = calm_then a.truth _ h (λ t. calm_choose t b.truth _ k (calm_done false))
calm_truth operators.Or a b v h k g = calm_then a.truth _ h (λ t. calm_choose t _ b.truth (calm_done true) k)
calm_truth _ a b v h k g = calm_then v _ g (λ w. calm_done _)

calm_value : (r : Run ℕ) → CalmRun r → CalmRun r × CalmRun (truth_of_value r)
calm_value r h = (h, calm_then r _ h (λ v. calm_done _))

pub no_left : (a b : Bool) → (a || b) ≡ false → a ≡ false
no_left false b h = refl
no_left true b h = cc

pub no_right : (a b : Bool) → (a || b) ≡ false → b ≡ false
no_right false b h = h
no_right true b h = cc

pub calm : (C : Context) (e : Exp) → has_call e ≡ false → (p s : ℕ) → CalmRun (sense C e p s).value × CalmRun (sense C e p s).truth
calm C (Num n) h p s = calm_value _ (calm_done _)
calm C (Frame k) h p s = calm_value _ (calm_done _)
calm C (Glob n) h p s = calm_value _ (calm_done _)
calm C (Place m) h p s = calm_value _ (calm_done _)
calm C (Load e) h p s = calm_value _ (calm_then _ _ (calm C e h p s).0 (λ a. record { from = λ st. calm_cell (cell_at st.cells a) st }))
calm C (Neg e) h p s = calm_value _ (calm_then _ _ (calm C e h p s).0 (λ v. calm_done _))
calm C (Not e) h p s = let c = calm C e h p s in (calm_then _ _ c.0 (λ v. calm_done _), calm_then _ _ c.1 (λ t. calm_done _))
calm C (Bin op a b) h p s =
    let ca = calm C a (no_left _ _ h) p (s + 1) in
    let cb = calm C b (no_right _ _ h) p (s + 1) in
    let v : CalmRun (sense C (Bin op a b) p s).value =
    subst (λ z. CalmRun (operated op z (sense C a p (s + 1)).value (sense C b p (s + 1)).value)) (sym h) (calm_operated op _ _ ca.0 cb.0) in
    (v, calm_truth op (sense C a p (s + 1)) (sense C b p (s + 1)) _ ca.1 cb.1 v)
calm C (Cond c x y) h p s =
    let cxy = no_left _ _ h in
    calm_value _ (calm_then _ _ (calm C c (no_left _ _ cxy) p s).1 (λ t. calm_choose t _ _ (calm C x (no_right _ _ cxy) p s).0 (calm C y (no_right _ _ h) p s).0))
calm C (Call es f) h p s = cc
calm C (Valof n) h p s = cc

pub call_free_is_calm : CallFreeIsCalm
call_free_is_calm C e h p s st = let c = calm C e h p s in (c.0.from st, c.1.from st)
