-- For proofs: the worth of a pure expression (one with no call and no VALOF), and a small machine that computes it. A pure
-- expression reads cells and changes nothing. A zero divisor in a first operand ends it only if the second operand reads no wild cell.
-- A failure names the first wild access.
use Rattle.bc_interpret_defs.specs.Weight.{weight_of}
use Rattle.bc_interpret_defs.specs.Causes.{Cause, Malformed}
use Rattle.bc_interpret_defs.specs.Causes as causes
use Rattle.std.specs.Prelude.{ℕ, ◌≡◌, ◌<◌, ◌+◌, ◌%◌, cond, Bool, true, false, not, List, [], ◌∷◌, Option, Some, None}
use Rattle.bc_word.specs.declared.operator.Op.{Op}
use Rattle.bc_word.specs.declared.operator.Op.TheVariants.{And, Or}
use Rattle.bc_word.specs.Words.{value_of, negated, complemented}
use Rattle.bc_core.specs.Tree.{Exp, Num, Frame, Glob, Place, Load, Neg, Not, Bin, Cond}
use Rattle.bc_core.specs.Store.{Cell, Dead, Unset, Set, cell_at}
use Rattle.bc_core.specs.Outcome.{State, Run, Done, ends, wild, ZeroDivide}
use Rattle.bc_core.specs.Value.{is_true, has_call, value, truth}
use Rattle.bc_core.specs.Meaning.{context}
use Rattle.bc_core.specs.Meaning.{Call as Calling}

-- a result, a zero divisor, or the cause of a wild access
pub data Worth (A : Type 0) : Type 0 where
  Is : A → Worth A
  Divides : Worth A
  Fails : Cause → Worth A

-- a worth as a run that changes nothing
abbrev pub settled : {A : Type 0} → Worth A → Run A
settled (Is x) = Done x
settled Divides = ends ZeroDivide
settled (Fails c) = wild

-- continues with a result; a zero divisor or a wild access stays
abbrev pub chained : {A B : Type 0} → Worth A → (A → Worth B) → Worth B
chained (Is x) f = f x
chained Divides f = Divides
chained (Fails c) f = Fails c

-- the worth of an operand that is evaluated beside a zero divisor: its wild access, else the zero divisor
abbrev pub beside : {A B : Type 0} → Worth A → Worth B
beside (Is x) = Divides
beside Divides = Divides
beside (Fails c) = Fails c

-- a wild access in the second operand takes precedence over a zero divisor in the first
abbrev pub paired : {A B C : Type 0} → Worth A → Worth B → (A → B → Worth C) → Worth C
paired (Is x) w f = chained w (f x)
paired Divides w f = beside w
paired (Fails c) w f = Fails c

-- the result of reading address a, which holds this cell
abbrev pub found : ℕ → Cell → Worth ℕ
found a Dead = Fails (causes.Dead a)
found a Unset = Fails (causes.Unset a)
found a (Set w) = Is w

abbrev pub quotient : Option ℕ → Worth ℕ
quotient None = Divides
quotient (Some v) = Is v

-- all that a pure expression depends on: the cells, the addresses of labels, and the frame
pub record Sight : Type 0 where
  pub cells : List Cell
  pub address : ℕ → ℕ
  pub frame : ℕ

pub record Worths : Type 0 where
  pub value : Worth ℕ
  pub truth : Worth Bool

abbrev pub truth_of_worth : Worth ℕ → Worth Bool
truth_of_worth w = chained w (λ v. Is (is_true v))

abbrev pub by_worth : Worth ℕ → Worths
by_worth w = record { value = w; truth = truth_of_worth w }

abbrev pub operator_worth : Op → Worths → Worths → Worth ℕ → Worth Bool
operator_worth And a b v = chained a.truth (λ t. cond t b.truth (Is false))
operator_worth Or a b v = chained a.truth (λ t. cond t (Is true) b.truth)
operator_worth _ a b v = truth_of_worth v

abbrev pub combined : Op → ℕ → ℕ → Worth ℕ
combined op x y = quotient (value_of op x y)

abbrev pub operator_worths : Op → Worths → Worths → Worths
operator_worths op a b =
    let v = paired a.value b.value (combined op) in record { value = v; truth = operator_worth op a b v }

-- the worth of a pure expression, as a number and as a truth
abbrev pub worth : Sight → Exp → Worths
worth S (Num n) = by_worth (Is n)
worth S (Frame k) = by_worth (Is ((S.frame + k) % 65536))
worth S (Glob n) = by_worth (Is ((8 + n) % 65536))
worth S (Place m) = by_worth (Is (S.address m))
worth S (Load e) = by_worth (chained (worth S e).value (λ a. found a (cell_at S.cells a)))
worth S (Neg e) = by_worth (chained (worth S e).value (λ v. Is (negated v)))
worth S (Not e) = record {
  value = chained (worth S e).value (λ v. Is (complemented v));
  truth = chained (worth S e).truth (λ t. Is (not t));
}
worth S (Bin op a b) = operator_worths op (worth S a) (worth S b)
worth S (Cond c x y) = by_worth (chained (worth S c).truth (λ t. cond t (worth S x).value (worth S y).value))
worth S _ = by_worth (Fails Malformed)

-- the machine: its answers, its current work, and its continuations
pub data QuietAnswer : Type 0 where
  Number : ℕ → QuietAnswer
  Verdict : Bool → QuietAnswer

pub data QuietWork : Type 0 where
  Evaluate : Exp → QuietWork
  Decide : Exp → QuietWork
  Give : QuietAnswer → QuietWork
  -- a zero divisor has occurred
  Divided : QuietWork

-- the continuations
pub data QuietRest : Type 0 where
  Loads : QuietRest
  Negates : QuietRest
  Complements : QuietRest
  Opposes : QuietRest
  Tests : QuietRest
  Operates : Op → Exp → QuietRest
  Operated : Op → ℕ → QuietRest
  -- the second operand is evaluated although the first had a zero divisor
  Beside : QuietRest
  Conjoins : Exp → QuietRest
  Disjoins : Exp → QuietRest
  Selects : (this that : Exp) → QuietRest

pub record QuietAt : Type 0 where
  pub work : QuietWork
  pub rests : List QuietRest

-- a step: the next state, or the wild access that stops the machine
pub data QuietStep : Type 0 where
  On : QuietAt → QuietStep
  Stops : Cause → QuietStep

abbrev pub on : QuietWork → List QuietRest → QuietStep
on w rs = On (record { work = w; rests = rs })

-- begins to evaluate an expression for its value
abbrev pub evaluates : Sight → Exp → List QuietRest → QuietStep
evaluates S (Num n) rs = on (Give (Number n)) rs
evaluates S (Frame k) rs = on (Give (Number ((S.frame + k) % 65536))) rs
evaluates S (Glob n) rs = on (Give (Number ((8 + n) % 65536))) rs
evaluates S (Place m) rs = on (Give (Number (S.address m))) rs
evaluates S (Load e) rs = on (Evaluate e) (Loads ∷ rs)
evaluates S (Neg e) rs = on (Evaluate e) (Negates ∷ rs)
evaluates S (Not e) rs = on (Evaluate e) (Complements ∷ rs)
evaluates S (Bin op a b) rs = on (Evaluate a) (Operates op b ∷ rs)
evaluates S (Cond c x y) rs = on (Decide c) (Selects x y ∷ rs)
evaluates S _ rs = Stops Malformed

abbrev pub decides_operator : Op → Exp → Exp → List QuietRest → QuietStep
decides_operator And a b rs = on (Decide a) (Conjoins b ∷ rs)
decides_operator Or a b rs = on (Decide a) (Disjoins b ∷ rs)
decides_operator op a b rs = on (Evaluate (Bin op a b)) (Tests ∷ rs)

-- begins to evaluate an expression for its truth
abbrev pub decides : Exp → List QuietRest → QuietStep
decides (Not e) rs = on (Decide e) (Opposes ∷ rs)
decides (Bin op a b) rs = decides_operator op a b rs
decides e rs = on (Evaluate e) (Tests ∷ rs)

abbrev pub gives : Worth QuietAnswer → List QuietRest → QuietStep
gives (Is a) rs = on (Give a) rs
gives Divides rs = on Divided rs
gives (Fails c) rs = Stops c

abbrev pub as_number : Worth ℕ → Worth QuietAnswer
as_number w = chained w (λ v. Is (Number v))

abbrev pub as_verdict : Worth Bool → Worth QuietAnswer
as_verdict w = chained w (λ t. Is (Verdict t))

-- gives a number to this continuation
abbrev pub number_taken : Sight → QuietRest → ℕ → List QuietRest → QuietStep
number_taken S Loads v rs = gives (as_number (found v (cell_at S.cells v))) rs
number_taken S Negates v rs = on (Give (Number (negated v))) rs
number_taken S Complements v rs = on (Give (Number (complemented v))) rs
number_taken S Tests v rs = on (Give (Verdict (is_true v))) rs
number_taken S (Operates op b) v rs = on (Evaluate b) (Operated op v ∷ rs)
number_taken S (Operated op x) v rs = gives (as_number (combined op x v)) rs
number_taken S Beside v rs = on Divided rs
number_taken S _ v rs = Stops Malformed

-- gives a truth to this continuation
abbrev pub verdict_taken : QuietRest → Bool → List QuietRest → QuietStep
verdict_taken Opposes t rs = on (Give (Verdict (not t))) rs
verdict_taken (Conjoins b) t rs = cond t (on (Decide b) rs) (on (Give (Verdict false)) rs)
verdict_taken (Disjoins b) t rs = cond t (on (Give (Verdict true)) rs) (on (Decide b) rs)
verdict_taken (Selects x y) t rs = cond t (on (Evaluate x) rs) (on (Evaluate y) rs)
verdict_taken _ t rs = Stops Malformed

-- passes a zero divisor to this continuation
abbrev pub divided : QuietRest → List QuietRest → QuietStep
divided (Operates op b) rs = on (Evaluate b) (Beside ∷ rs)
divided _ rs = on Divided rs

abbrev pub number_given : Sight → ℕ → List QuietRest → QuietStep
number_given S v [] = on (Give (Number v)) []
number_given S v (r ∷ rs) = number_taken S r v rs

abbrev pub verdict_given : Bool → List QuietRest → QuietStep
verdict_given t [] = on (Give (Verdict t)) []
verdict_given t (r ∷ rs) = verdict_taken r t rs

abbrev pub divided_given : List QuietRest → QuietStep
divided_given [] = on Divided []
divided_given (r ∷ rs) = divided r rs

-- one step; without continuations an answer changes nothing
abbrev pub quiet_step : Sight → QuietWork → List QuietRest → QuietStep
quiet_step S (Evaluate e) rs = evaluates S e rs
quiet_step S (Decide e) rs = decides e rs
quiet_step S (Give (Number v)) rs = number_given S v rs
quiet_step S (Give (Verdict t)) rs = verdict_given t rs
quiet_step S Divided rs = divided_given rs

-- the meaning of the work and of the frames, as a worth
abbrev pub for_number : {A : Type 0} → (ℕ → Worth A) → QuietAnswer → Worth A
for_number f (Number v) = f v
for_number f (Verdict t) = Fails Malformed

abbrev pub for_verdict : {A : Type 0} → (Bool → Worth A) → QuietAnswer → Worth A
for_verdict f (Number v) = Fails Malformed
for_verdict f (Verdict t) = f t

abbrev pub first_side : Op → Worth QuietAnswer → Worth ℕ → Worth QuietAnswer
first_side op (Is (Number x)) w = chained w (λ y. as_number (combined op x y))
first_side op (Is (Verdict t)) w = Fails Malformed
first_side op Divides w = beside w
first_side op (Fails c) w = Fails c

abbrev pub quiet_rest : Sight → QuietRest → Worth QuietAnswer → Worth QuietAnswer
quiet_rest S Loads w = chained w (for_number (λ a. as_number (found a (cell_at S.cells a))))
quiet_rest S Negates w = chained w (for_number (λ v. Is (Number (negated v))))
quiet_rest S Complements w = chained w (for_number (λ v. Is (Number (complemented v))))
quiet_rest S Opposes w = chained w (for_verdict (λ t. Is (Verdict (not t))))
quiet_rest S Tests w = chained w (for_number (λ v. Is (Verdict (is_true v))))
quiet_rest S (Operates op b) w = first_side op w (worth S b).value
quiet_rest S (Operated op x) w = chained w (for_number (λ y. as_number (combined op x y)))
quiet_rest S Beside w = chained w (for_number (λ v. Divides))
quiet_rest S (Conjoins b) w = chained w (for_verdict (λ t. as_verdict (cond t (worth S b).truth (Is false))))
quiet_rest S (Disjoins b) w = chained w (for_verdict (λ t. as_verdict (cond t (Is true) (worth S b).truth)))
quiet_rest S (Selects x y) w = chained w (for_verdict (λ t. as_number (cond t (worth S x).value (worth S y).value)))

abbrev pub quiet_resume : Sight → List QuietRest → Worth QuietAnswer → Worth QuietAnswer
quiet_resume S [] w = w
quiet_resume S (r ∷ rs) w = quiet_resume S rs (quiet_rest S r w)

abbrev pub quiet_doing : Sight → QuietWork → Worth QuietAnswer
quiet_doing S (Evaluate e) = as_number (worth S e).value
quiet_doing S (Decide e) = as_verdict (worth S e).truth
quiet_doing S (Give a) = Is a
quiet_doing S Divided = Divides

abbrev pub quiet_meant : Sight → QuietWork → List QuietRest → Worth QuietAnswer
quiet_meant S w rs = quiet_resume S rs (quiet_doing S w)

abbrev pub quiet_after : Sight → QuietStep → Worth QuietAnswer
quiet_after S (Stops c) = Fails c
quiet_after S (On at) = quiet_meant S at.work at.rests

-- a number that each step of this machine decreases
abbrev pub quiet_weight_of : Exp → ℕ
quiet_weight_of e = weight_of (λ n. 1) e

abbrev pub quiet_work_weight : QuietWork → ℕ
quiet_work_weight (Evaluate e) = quiet_weight_of e
quiet_work_weight (Decide e) = quiet_weight_of e + 2
quiet_work_weight _ = 0

abbrev pub quiet_rest_weight : QuietRest → ℕ
quiet_rest_weight (Operates op b) = quiet_weight_of b + 2
quiet_rest_weight (Conjoins b) = quiet_weight_of b + 3
quiet_rest_weight (Disjoins b) = quiet_weight_of b + 3
quiet_rest_weight (Selects x y) = quiet_weight_of x + quiet_weight_of y + 1
quiet_rest_weight _ = 1

abbrev pub quiet_rests_weight : List QuietRest → ℕ
quiet_rests_weight [] = 0
quiet_rests_weight (r ∷ rs) = quiet_rest_weight r + quiet_rests_weight rs

abbrev pub quiet_weight : QuietWork → List QuietRest → ℕ
quiet_weight w rs = quiet_work_weight w + quiet_rests_weight rs

abbrev pub IsLighter : ℕ → QuietStep → Type 0
IsLighter m (Stops c) = Unit {0}
IsLighter m (On at) = quiet_weight at.work at.rests < m

-- the machine isn't finished: something is left to do
abbrev pub QuietMoves : QuietWork → List QuietRest → Type 0
QuietMoves (Give a) [] = ⊥
QuietMoves Divided [] = ⊥
QuietMoves w rs = Unit {0}
