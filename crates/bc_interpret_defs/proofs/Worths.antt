-- The worth of a pure expression is its value and its truth, and a step of the machine for such expressions preserves it.
use Rattle.std.proofs.Common.{◌≡◌, ℕ, ◌<◌, arith, ◌+◌, ◌||◌, List, [], ◌∷◌, Bool, true, false, Option, Some, None, refl, sym, ap, subst, ◌∙◌}
use Rattle.std.specs.Prelude.{not, cond}
use Rattle.bc_word.specs.declared.operator.Op.{Op}
use Rattle.bc_word.specs.declared.operator.Op.TheVariants as operators
use Rattle.bc_word.specs.Words.{value_of, negated, complemented}
use Rattle.bc_core.specs.Tree.{Exp, Num, Frame, Glob, Place, Load, Neg, Not, Bin, Cond, Call, Valof}
use Rattle.bc_core.specs.Store.{Cell, Dead, Unset, Set, cell_at}
use Rattle.bc_core.specs.Outcome.{State, Outcome, Done, Ended, Going, Wild, Run, ZeroDivide, followed, then_do, choose, read, content_of_cell, both, second_side}
use Rattle.bc_core.specs.Outcome as outcomes
use Rattle.bc_core.specs.Value.{Sense, has_call, is_true, given, truth_of_value, operated, operator_truth, sense}
use Rattle.bc_core.specs.Meaning.{Call as Calling, context}
use Rattle.bc_core.proofs.Calm.{no_left, no_right}
use Rattle.bc_interpret_defs.specs.Laws.{WorthIsValue, QuietStepsKeep, QuietStepsLessen}
use Rattle.bc_interpret_defs.specs.Causes.{Cause, Malformed}
use Rattle.bc_interpret_defs.specs.Quiet.{Worth, Is, Divides, Fails, settled, chained, paired, beside, found, quotient, Sight, Worths, truth_of_worth, operator_worth, combined, worth, QuietAnswer, Number, Verdict, Evaluate, Decide, Give, Divided, QuietRest, Loads, Negates, Complements, Opposes, Tests, Operates, Operated, Beside, Conjoins, Disjoins, Selects, evaluates, decides_operator, decides, gives, as_number, as_verdict, number_taken, verdict_taken, divided, for_number, for_verdict, first_side, quiet_rest, quiet_resume, quiet_meant, quiet_after, quiet_weight, quiet_rests_weight, IsLighter}

settled_found : (a : ℕ) (c : Cell) (st : State) → content_of_cell c st ≡ settled (found a c) st
settled_found a Dead st = refl
settled_found a Unset st = refl
settled_found a (Set w) st = refl

settled_quotient : (v : Option ℕ) (st : State) → given v st ≡ settled (quotient v) st
settled_quotient None st = refl
settled_quotient (Some v) st = refl

-- a run that is settled, and what is done with its value
settled_then : {A B : Type 0} (w : Worth A) (f : A → Run B) (g : A → Worth B) (st : State) → ((x : A) → f x st ≡ settled (g x) st) → followed (settled w st) f ≡ settled (chained w g) st
settled_then (Is x) f g st h = h x
settled_then Divides f g st h = refl
settled_then (Fails c) f g st h = refl

then_settled : {A B : Type 0} (r : Run A) (w : Worth A) (f : A → Run B) (g : A → Worth B) (st : State) → r st ≡ settled w st → ((x : A) → f x st ≡ settled (g x) st) → then_do r f st ≡ settled (chained w g) st
then_settled r w f g st e h = ap (λ o. followed o f) e ∙ settled_then w f g st h

settled_sides : (op : Op) (wa wb : Worth ℕ) (rb : Run ℕ) (st : State) → rb st ≡ settled wb st → second_side false (settled wa st) rb (λ x y. given (value_of op x y)) st ≡ settled (paired wa wb (combined op)) st
settled_sides op (Is x) wb rb st e = then_settled rb wb (λ y. given (value_of op x y)) (combined op x) st e (λ y. settled_quotient (value_of op x y) st)
settled_sides op Divides (Is y) rb st e = ap (outcomes.outweighed ZeroDivide st.streams) e
settled_sides op Divides Divides rb st e = ap (outcomes.outweighed ZeroDivide st.streams) e
settled_sides op Divides (Fails c) rb st e = ap (outcomes.outweighed ZeroDivide st.streams) e
settled_sides op (Fails c) wb rb st e = refl

settled_operated : (op : Op) (ra rb : Run ℕ) (wa wb : Worth ℕ) (st : State) → ra st ≡ settled wa st → rb st ≡ settled wb st → operated op false ra rb st ≡ settled (paired wa wb (combined op)) st
settled_operated op ra rb wa wb st ea eb = ap (λ o. second_side false o rb (λ x y. given (value_of op x y)) st) ea ∙ settled_sides op wa wb rb st eb

settled_choose : {A : Type 0} (t : Bool) (r1 r2 : Run A) (w1 w2 : Worth A) (st : State) → r1 st ≡ settled w1 st → r2 st ≡ settled w2 st → choose t r1 r2 st ≡ settled (cond t w1 w2) st
settled_choose true r1 r2 w1 w2 st e1 e2 = e1
settled_choose false r1 r2 w1 w2 st e1 e2 = e2

settled_truth : (r : Run ℕ) (w : Worth ℕ) (st : State) → r st ≡ settled w st → truth_of_value r st ≡ settled (truth_of_worth w) st
settled_truth r w st e = then_settled r w (λ v. Done (is_true v)) (λ v. Is (is_true v)) st e (λ v. refl)

settled_operator : (op : Op) (a b : Sense) (v : Run ℕ) (wa wb : Worths) (w : Worth ℕ) (st : State) → a.truth st ≡ settled wa.truth st → b.truth st ≡ settled wb.truth st → v st ≡ settled w st → operator_truth op a b v st ≡ settled (operator_worth op wa wb w) st
settled_operator operators.And a b v wa wb w st ea eb ev =
    then_settled a.truth wa.truth (λ t. choose t b.truth (Done false)) (λ t. cond t wb.truth (Is false)) st ea (λ t. settled_choose t b.truth (Done false) wb.truth (Is false) st eb refl)
settled_operator operators.Or a b v wa wb w st ea eb ev =
    then_settled a.truth wa.truth (λ t. choose t (Done true) b.truth) (λ t. cond t (Is true) wb.truth) st ea (λ t. settled_choose t (Done true) b.truth (Is true) wb.truth st refl eb)
settled_operator op a b v wa wb w st ea eb ev = settled_truth v w st ev

abbrev sight : (ℕ → ℕ) → ℕ → State → Sight
sight place p st = record { cells = st.cells; address = place; frame = p }

pub worth_is : (place : ℕ → ℕ) (call : Calling) (valof : ℕ → ℕ → ℕ → Run ℕ) (e : Exp) → has_call e ≡ false → (p s : ℕ) (st : State) → ((sense (context place call valof) e p s).value st ≡ settled (worth (sight place p st) e).value st) × ((sense (context place call valof) e p s).truth st ≡ settled (worth (sight place p st) e).truth st)
worth_is place call valof (Num n) h p s st = (refl, refl)
worth_is place call valof (Frame k) h p s st = (refl, refl)
worth_is place call valof (Glob n) h p s st = (refl, refl)
worth_is place call valof (Place m) h p s st = (refl, refl)
worth_is place call valof (Load e) h p s st =
    let r = (sense (context place call valof) e p s).value in
    let w = (worth (sight place p st) e).value in
    let k = then_settled r w read (λ a. found a (cell_at st.cells a)) st (worth_is place call valof e h p s st).0 (λ a. settled_found a (cell_at st.cells a) st) in
    (k, settled_truth (then_do r read) (chained w (λ a. found a (cell_at st.cells a))) st k)
worth_is place call valof (Neg e) h p s st =
    let r = (sense (context place call valof) e p s).value in
    let w = (worth (sight place p st) e).value in
    let k = then_settled r w (λ v. Done (negated v)) (λ v. Is (negated v)) st (worth_is place call valof e h p s st).0 (λ v. refl) in
    (k, settled_truth (then_do r (λ v. Done (negated v))) (chained w (λ v. Is (negated v))) st k)
worth_is place call valof (Not e) h p s st =
    let r = sense (context place call valof) e p s in
    let w = worth (sight place p st) e in
    let k = worth_is place call valof e h p s st in (
      then_settled r.value w.value (λ v. Done (complemented v)) (λ v. Is (complemented v)) st k.0 (λ v. refl),
      then_settled r.truth w.truth (λ t. Done (not t)) (λ t. Is (not t)) st k.1 (λ t. refl),
    )
worth_is place call valof (Bin op a b) h p s st =
    let C = context place call valof in
    let ra = sense C a p (s + 1) in
    let rb = sense C b p (s + 1) in
    let wa = worth (sight place p st) a in
    let wb = worth (sight place p st) b in
    let ka = worth_is place call valof a (no_left _ _ h) p (s + 1) st in
    let kb = worth_is place call valof b (no_right _ _ h) p (s + 1) st in
    let v : operated op (has_call a || has_call b) ra.value rb.value st ≡ settled (paired wa.value wb.value (combined op)) st =
    subst (λ z. operated op z ra.value rb.value st ≡ settled (paired wa.value wb.value (combined op)) st) (sym h) (settled_operated op ra.value rb.value wa.value wb.value st ka.0 kb.0) in
    (v, settled_operator op ra rb (operated op (has_call a || has_call b) ra.value rb.value) wa wb (paired wa.value wb.value (combined op)) st ka.1 kb.1 v)
worth_is place call valof (Cond c x y) h p s st =
    let C = context place call valof in
    let cx = no_left _ _ h in
    let S = sight place p st in
    let r : Run ℕ = then_do (sense C c p s).truth (λ t. choose t (sense C x p s).value (sense C y p s).value) in
    let w : Worth ℕ = chained (worth S c).truth (λ t. cond t (worth S x).value (worth S y).value) in
    let k : r st ≡ settled w st = then_settled (sense C c p s).truth (worth S c).truth (λ t. choose t (sense C x p s).value (sense C y p s).value) (λ t. cond t (worth S x).value (worth S y).value) st
    (worth_is place call valof c (no_left _ _ cx) p s st).1
    (λ t. settled_choose t (sense C x p s).value (sense C y p s).value (worth S x).value (worth S y).value st (worth_is place call valof x (no_right _ _ cx) p s st).0 (worth_is place call valof y (no_right _ _ h) p s st).0) in
    (k, settled_truth r w st k)
worth_is place call valof (Call es f) h p s st = cc
worth_is place call valof (Valof n) h p s st = cc

pub worth_is_value : WorthIsValue
worth_is_value place call valof e h p s st = worth_is place call valof e h p s st

re : {A B C D : Type 0} (w : Worth A) (f : A → Worth B) (g : B → Worth D) (h : A → Worth C) (k : C → Worth D) → ((x : A) → chained (f x) g ≡ chained (h x) k) → chained (chained w f) g ≡ chained (chained w h) k
re (Is x) f g h k e = e x
re Divides f g h k e = refl
re (Fails c) f g h k e = refl

by_number : {A : Type 0} (w : Worth ℕ) (f : ℕ → Worth A) → chained w f ≡ chained (as_number w) (for_number f)
by_number (Is x) f = refl
by_number Divides f = refl
by_number (Fails c) f = refl

beside_number : (w : Worth ℕ) → beside {B = QuietAnswer} w ≡ chained (as_number w) (for_number (λ v. Divides))
beside_number (Is x) = refl
beside_number Divides = refl
beside_number (Fails c) = refl

as_beside : (w : Worth ℕ) → as_number (beside w) ≡ beside w
as_beside (Is x) = refl
as_beside Divides = refl
as_beside (Fails c) = refl

as_chained : (w : Worth ℕ) (f : ℕ → Worth ℕ) → as_number (chained w f) ≡ chained w (λ y. as_number (f y))
as_chained (Is x) f = refl
as_chained Divides f = refl
as_chained (Fails c) f = refl

sides_worth : (op : Op) (a b : Worth ℕ) → as_number (paired a b (combined op)) ≡ first_side op (as_number a) b
sides_worth op (Is x) b = as_chained b (combined op x)
sides_worth op Divides b = as_beside b
sides_worth op (Fails c) b = refl

rest_fails : (S : Sight) (c : Cause) (r : QuietRest) → quiet_rest S r (Fails c) ≡ Fails c
rest_fails S c Loads = refl
rest_fails S c Negates = refl
rest_fails S c Complements = refl
rest_fails S c Opposes = refl
rest_fails S c Tests = refl
rest_fails S c (Operates op b) = refl
rest_fails S c (Operated op x) = refl
rest_fails S c Beside = refl
rest_fails S c (Conjoins b) = refl
rest_fails S c (Disjoins b) = refl
rest_fails S c (Selects x y) = refl

resume_fails : (S : Sight) (c : Cause) (rs : List QuietRest) → quiet_resume S rs (Fails c) ≡ Fails c
resume_fails S c [] = refl
resume_fails S c (r ∷ rs) = ap (quiet_resume S rs) (rest_fails S c r) ∙ resume_fails S c rs

gives_kept : (S : Sight) (w : Worth QuietAnswer) (rs : List QuietRest) → quiet_resume S rs w ≡ quiet_after S (gives w rs)
gives_kept S (Is a) rs = refl
gives_kept S Divides rs = refl
gives_kept S (Fails c) rs = resume_fails S c rs

tests_kept : (S : Sight) (v : Worth ℕ) (rs : List QuietRest) → quiet_resume S rs (as_verdict (truth_of_worth v)) ≡ quiet_resume S (Tests ∷ rs) (as_number v)
tests_kept S v rs = ap (quiet_resume S rs) (re v (λ x. Is (is_true x)) (λ t. Is (Verdict t)) (λ x. Is (Number x)) (for_number (λ x. Is (Verdict (is_true x)))) (λ x. refl))

evaluates_kept : (S : Sight) (e : Exp) (rs : List QuietRest) → quiet_meant S (Evaluate e) rs ≡ quiet_after S (evaluates S e rs)
evaluates_kept S (Num n) rs = refl
evaluates_kept S (Frame k) rs = refl
evaluates_kept S (Glob n) rs = refl
evaluates_kept S (Place m) rs = refl
evaluates_kept S (Load e) rs =
    ap (quiet_resume S rs) (re (worth S e).value (λ a. found a (cell_at S.cells a)) (λ x. Is (Number x)) (λ x. Is (Number x)) (for_number (λ a. as_number (found a (cell_at S.cells a)))) (λ x. refl))
evaluates_kept S (Neg e) rs =
    ap (quiet_resume S rs) (re (worth S e).value (λ v. Is (negated v)) (λ x. Is (Number x)) (λ x. Is (Number x)) (for_number (λ v. Is (Number (negated v)))) (λ x. refl))
evaluates_kept S (Not e) rs =
    ap (quiet_resume S rs) (re (worth S e).value (λ v. Is (complemented v)) (λ x. Is (Number x)) (λ x. Is (Number x)) (for_number (λ v. Is (Number (complemented v)))) (λ x. refl))
evaluates_kept S (Bin op a b) rs = ap (quiet_resume S rs) (sides_worth op (worth S a).value (worth S b).value)
evaluates_kept S (Cond c x y) rs =
    ap (quiet_resume S rs) (re (worth S c).truth (λ t. cond t (worth S x).value (worth S y).value) (λ v. Is (Number v)) (λ t. Is (Verdict t)) (for_verdict (λ t. as_number (cond t (worth S x).value (worth S y).value))) (λ t. refl))
evaluates_kept S (Call es f) rs = resume_fails S Malformed rs
evaluates_kept S (Valof n) rs = resume_fails S Malformed rs

decides_operator_kept : (S : Sight) (op : Op) (a b : Exp) (rs : List QuietRest) → quiet_meant S (Decide (Bin op a b)) rs ≡ quiet_after S (decides_operator op a b rs)
decides_operator_kept S operators.And a b rs =
    ap (quiet_resume S rs) (re (worth S a).truth (λ t. cond t (worth S b).truth (Is false)) (λ t. Is (Verdict t)) (λ t. Is (Verdict t)) (for_verdict (λ t. as_verdict (cond t (worth S b).truth (Is false)))) (λ t. refl))
decides_operator_kept S operators.Or a b rs =
    ap (quiet_resume S rs) (re (worth S a).truth (λ t. cond t (Is true) (worth S b).truth) (λ t. Is (Verdict t)) (λ t. Is (Verdict t)) (for_verdict (λ t. as_verdict (cond t (Is true) (worth S b).truth))) (λ t. refl))
decides_operator_kept S op a b rs = tests_kept S (paired (worth S a).value (worth S b).value (combined op)) rs

decides_kept : (S : Sight) (e : Exp) (rs : List QuietRest) → quiet_meant S (Decide e) rs ≡ quiet_after S (decides e rs)
decides_kept S (Not e) rs =
    ap (quiet_resume S rs) (re (worth S e).truth (λ t. Is (not t)) (λ t. Is (Verdict t)) (λ t. Is (Verdict t)) (for_verdict (λ t. Is (Verdict (not t)))) (λ t. refl))
decides_kept S (Bin op a b) rs = decides_operator_kept S op a b rs
decides_kept S e rs = tests_kept S (worth S e).value rs

number_kept : (S : Sight) (r : QuietRest) (v : ℕ) (rs : List QuietRest) → quiet_meant S (Give (Number v)) (r ∷ rs) ≡ quiet_after S (number_taken S r v rs)
number_kept S Loads v rs = gives_kept S (as_number (found v (cell_at S.cells v))) rs
number_kept S Negates v rs = refl
number_kept S Complements v rs = refl
number_kept S Tests v rs = refl
number_kept S (Operates op b) v rs = ap (quiet_resume S rs) (by_number (worth S b).value (λ y. as_number (combined op v y)))
number_kept S (Operated op x) v rs = gives_kept S (as_number (combined op x v)) rs
number_kept S Beside v rs = refl
number_kept S r v rs = resume_fails S Malformed rs

verdict_kept : (S : Sight) (r : QuietRest) (t : Bool) (rs : List QuietRest) → quiet_meant S (Give (Verdict t)) (r ∷ rs) ≡ quiet_after S (verdict_taken r t rs)
verdict_kept S Opposes t rs = refl
verdict_kept S (Conjoins b) true rs = refl
verdict_kept S (Conjoins b) false rs = refl
verdict_kept S (Disjoins b) true rs = refl
verdict_kept S (Disjoins b) false rs = refl
verdict_kept S (Selects x y) true rs = refl
verdict_kept S (Selects x y) false rs = refl
verdict_kept S r t rs = resume_fails S Malformed rs

divided_kept : (S : Sight) (r : QuietRest) (rs : List QuietRest) → quiet_meant S Divided (r ∷ rs) ≡ quiet_after S (divided r rs)
divided_kept S (Operates op b) rs = ap (quiet_resume S rs) (beside_number (worth S b).value)
divided_kept S r rs = refl

pub quiet_steps_keep : QuietStepsKeep
quiet_steps_keep S (Evaluate e) rs = evaluates_kept S e rs
quiet_steps_keep S (Decide e) rs = decides_kept S e rs
quiet_steps_keep S (Give (Number v)) [] = refl
quiet_steps_keep S (Give (Number v)) (r ∷ rs) = number_kept S r v rs
quiet_steps_keep S (Give (Verdict t)) [] = refl
quiet_steps_keep S (Give (Verdict t)) (r ∷ rs) = verdict_kept S r t rs
quiet_steps_keep S Divided [] = refl
quiet_steps_keep S Divided (r ∷ rs) = divided_kept S r rs

lighter_gives : (S : Sight) (m : ℕ) (w : Worth QuietAnswer) (rs : List QuietRest) → quiet_rests_weight rs < m → IsLighter m (gives w rs)
lighter_gives S m (Is a) rs l = omega arith
lighter_gives S m Divides rs l = omega arith
lighter_gives S m (Fails c) rs l = tt

evaluates_lighter : (S : Sight) (e : Exp) (rs : List QuietRest) → IsLighter (quiet_weight (Evaluate e) rs) (evaluates S e rs)
evaluates_lighter S (Num n) rs = omega arith
evaluates_lighter S (Frame k) rs = omega arith
evaluates_lighter S (Glob n) rs = omega arith
evaluates_lighter S (Place m) rs = omega arith
evaluates_lighter S (Load e) rs = omega arith
evaluates_lighter S (Neg e) rs = omega arith
evaluates_lighter S (Not e) rs = omega arith
evaluates_lighter S (Bin op a b) rs = omega arith
evaluates_lighter S (Cond c x y) rs = omega arith
evaluates_lighter S (Call es f) rs = tt
evaluates_lighter S (Valof n) rs = tt

decides_operator_lighter : (op : Op) (a b : Exp) (rs : List QuietRest) → IsLighter (quiet_weight (Decide (Bin op a b)) rs) (decides_operator op a b rs)
decides_operator_lighter operators.And a b rs = omega arith
decides_operator_lighter operators.Or a b rs = omega arith
decides_operator_lighter op a b rs = omega arith

decides_lighter : (e : Exp) (rs : List QuietRest) → IsLighter (quiet_weight (Decide e) rs) (decides e rs)
decides_lighter (Not e) rs = omega arith
decides_lighter (Bin op a b) rs = decides_operator_lighter op a b rs
decides_lighter e rs = omega arith

number_lighter : (S : Sight) (r : QuietRest) (v : ℕ) (rs : List QuietRest) → IsLighter (quiet_weight (Give (Number v)) (r ∷ rs)) (number_taken S r v rs)
number_lighter S Loads v rs = lighter_gives S _ (as_number (found v (cell_at S.cells v))) rs (omega arith)
number_lighter S Negates v rs = omega arith
number_lighter S Complements v rs = omega arith
number_lighter S Tests v rs = omega arith
number_lighter S (Operates op b) v rs = omega arith
number_lighter S (Operated op x) v rs = lighter_gives S _ (as_number (combined op x v)) rs (omega arith)
number_lighter S Beside v rs = omega arith
number_lighter S r v rs = tt

verdict_lighter : (r : QuietRest) (t : Bool) (rs : List QuietRest) → IsLighter (quiet_weight (Give (Verdict t)) (r ∷ rs)) (verdict_taken r t rs)
verdict_lighter Opposes t rs = omega arith
verdict_lighter (Conjoins b) true rs = omega arith
verdict_lighter (Conjoins b) false rs = omega arith
verdict_lighter (Disjoins b) true rs = omega arith
verdict_lighter (Disjoins b) false rs = omega arith
verdict_lighter (Selects x y) true rs = omega arith
verdict_lighter (Selects x y) false rs = omega arith
verdict_lighter r t rs = tt

divided_lighter : (r : QuietRest) (rs : List QuietRest) → IsLighter (quiet_weight Divided (r ∷ rs)) (divided r rs)
divided_lighter (Operates op b) rs = omega arith
divided_lighter r rs = omega arith

pub quiet_steps_lessen : QuietStepsLessen
quiet_steps_lessen S (Evaluate e) rs m = evaluates_lighter S e rs
quiet_steps_lessen S (Decide e) rs m = decides_lighter e rs
quiet_steps_lessen S (Give a) [] m = absurd m
quiet_steps_lessen S (Give (Number v)) (r ∷ rs) m = number_lighter S r v rs
quiet_steps_lessen S (Give (Verdict t)) (r ∷ rs) m = verdict_lighter r t rs
quiet_steps_lessen S Divided [] m = absurd m
quiet_steps_lessen S Divided (r ∷ rs) m = divided_lighter r rs
