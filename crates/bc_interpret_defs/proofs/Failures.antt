-- A property of causes that each failing read of a pure expression gives its cause.
use Rattle.std.proofs.Common.{◌≡◌, ℕ, Bool, true, false, Option, Some, None}
use Rattle.std.specs.Prelude.{cond}
use Rattle.bc_word.specs.declared.operator.Op.{Op}
use Rattle.bc_word.specs.declared.operator.Op.TheVariants as operators
use Rattle.bc_word.specs.Words.{value_of}
use Rattle.bc_core.specs.Tree.{Exp, Num, Frame, Glob, Place, Load, Neg, Not, Bin, Cond, Call, Valof}
use Rattle.bc_core.specs.Value.{has_call}
use Rattle.bc_core.specs.Store.{cell_at}
use Rattle.bc_interpret_defs.specs.Causes.{Cause}
use Rattle.bc_interpret_defs.specs.Quiet.{Worth, Is, Divides, Fails, chained, paired, beside, found, quotient, Sight, Worths, truth_of_worth, operator_worth, combined, worth}
use Rattle.bc_interpret_defs.specs.Laws.{FailsBy}
use Rattle.bc_core.proofs.Calm.{no_left, no_right}

failing_chained : {A B : Type 0} (P : Cause → Type 0) (w : Worth A) (f : A → Worth B) → FailsBy P w → ((x : A) → FailsBy P (f x)) → FailsBy P (chained w f)
failing_chained P (Is x) f h k = k x
failing_chained P Divides f h k = tt
failing_chained P (Fails c) f h k = h

failing_beside : {A : Type 0} (B : Type 0) (P : Cause → Type 0) (w : Worth A) → FailsBy P w → FailsBy P (beside {B = B} w)
failing_beside B P (Is x) h = tt
failing_beside B P Divides h = tt
failing_beside B P (Fails c) h = h

failing_paired : {A B C : Type 0} (P : Cause → Type 0) (w : Worth A) (v : Worth B) (f : A → B → Worth C) → FailsBy P w → FailsBy P v → ((x : A) (y : B) → FailsBy P (f x y)) → FailsBy P (paired w v f)
failing_paired P (Is x) v f h k l = failing_chained P v (f x) k (l x)
failing_paired P Divides v f h k l = failing_beside _ P v k
failing_paired P (Fails c) v f h k l = h

failing_quotient : (P : Cause → Type 0) (v : Option ℕ) → FailsBy P (quotient v)
failing_quotient P None = tt
failing_quotient P (Some v) = tt

failing_choice : {A : Type 0} (P : Cause → Type 0) (t : Bool) (w v : Worth A) → FailsBy P w → FailsBy P v → FailsBy P (cond t w v)
failing_choice P true w v h k = h
failing_choice P false w v h k = k

failing_truth : (P : Cause → Type 0) (w : Worth ℕ) → FailsBy P w → FailsBy P (truth_of_worth w)
failing_truth P (Is x) h = tt
failing_truth P Divides h = tt
failing_truth P (Fails c) h = h

failing_operator : (P : Cause → Type 0) (op : Op) (a b : Worths) (w : Worth ℕ) → FailsBy P a.truth → FailsBy P b.truth → FailsBy P w → FailsBy P (operator_worth op a b w)
failing_operator P operators.And a b w h k l = failing_chained P a.truth (λ t. cond t b.truth (Is false)) h (λ t. failing_choice P t b.truth (Is false) k tt)
failing_operator P operators.Or a b w h k l = failing_chained P a.truth (λ t. cond t (Is true) b.truth) h (λ t. failing_choice P t (Is true) b.truth tt k)
failing_operator P op a b w h k l = failing_truth P w l

both_ways : (P : Cause → Type 0) (w : Worth ℕ) → FailsBy P w → FailsBy P w × FailsBy P (truth_of_worth w)
both_ways P w h = (h, failing_truth P w h)

-- a property that each failing read gives its cause
pub failing : (P : Cause → Type 0) (S : Sight) → ((a : ℕ) → FailsBy P (found a (cell_at S.cells a))) → (e : Exp) → has_call e ≡ false → FailsBy P (worth S e).value × FailsBy P (worth S e).truth
failing P S look (Num n) h = (tt, tt)
failing P S look (Frame k) h = (tt, tt)
failing P S look (Glob n) h = (tt, tt)
failing P S look (Place m) h = (tt, tt)
failing P S look (Load e) h =
    both_ways P (chained (worth S e).value (λ a. found a (cell_at S.cells a)))
    (failing_chained P (worth S e).value (λ a. found a (cell_at S.cells a)) (failing P S look e h).0 look)
failing P S look (Neg e) h =
    both_ways P (worth S (Neg e)).value (failing_chained P (worth S e).value _ (failing P S look e h).0 (λ v. tt))
failing P S look (Not e) h =
    let k = failing P S look e h in (failing_chained P (worth S e).value _ k.0 (λ v. tt), failing_chained P (worth S e).truth _ k.1 (λ v. tt))
failing P S look (Bin op a b) h =
    let k = failing P S look a (no_left _ _ h) in
    let l = failing P S look b (no_right _ _ h) in
    let v = failing_paired P (worth S a).value (worth S b).value (combined op) k.0 l.0 (λ x y. failing_quotient P (value_of op x y)) in
    (v, failing_operator P op (worth S a) (worth S b) (paired (worth S a).value (worth S b).value (combined op)) k.1 l.1 v)
failing P S look (Cond c x y) h =
    let cx = no_left _ _ h in
    let w = worth S c in
    both_ways P (worth S (Cond c x y)).value (failing_chained P w.truth (λ t. cond t (worth S x).value (worth S y).value) (failing P S look c (no_left _ _ cx)).1
    (λ t. failing_choice P t (worth S x).value (worth S y).value (failing P S look x (no_right _ _ cx)).0 (failing P S look y (no_right _ _ h)).0))
failing P S look (Call es f) h = cc
failing P S look (Valof n) h = cc
