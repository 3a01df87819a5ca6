-- Each step preserves the meaning of the remaining work and decreases its weight.
use Rattle.std.proofs.Common.{◌≡◌, ℕ, List, ◌∷◌, refl, sym, ap, subst, ◌∙◌, Bool}
use Rattle.bc_interpret_defs.specs.Quiet.{QuietWork, QuietRest, quiet_step, quiet_after, quiet_weight, IsLighter, QuietMoves, as_number, as_verdict}
use Rattle.bc_interpret_defs.specs.Causes.{Cause, Malformed}
use Rattle.bc_interpret_defs.specs.Quiet as quiet
use Rattle.bc_interpret_defs.proofs.Worths.{quiet_steps_keep, quiet_steps_lessen}
use Rattle.bc_interpret_pure.specs.declared.forms.Step.{Step}
use Rattle.bc_interpret_pure.specs.declared.forms.Step.TheVariants as steps
use Rattle.bc_interpret_pure.specs.Views.{Came, Kept}

-- the outcome of a step preserves the meaning
pub kept : (S : quiet.Sight) (w : QuietWork) (rs : List QuietRest) (p : Step) (rs1 : List QuietRest) → QuietMoves w rs → Came p (quiet_step S w rs) rs1 → Kept p S w rs rs1
kept S w rs (steps.On next) rs1 m h =
    (sym (quiet_steps_keep S w rs ∙ ap (quiet_after S) h), subst (IsLighter (quiet_weight w rs)) h (quiet_steps_lessen S w rs m))
kept S w rs (steps.Number v) rs1 m h = absurd h
kept S w rs (steps.Verdict t) rs1 m h = absurd h
kept S w rs steps.Divides rs1 m h = absurd h
kept S w rs (steps.Fails c) rs1 m h = quiet_steps_keep S w rs ∙ ap (quiet_after S) h

-- the same where something was left to do
pub kept_after : (S : quiet.Sight) (w : QuietWork) (rs : List QuietRest) (r : QuietRest) (rs0 : List QuietRest) (p : Step) (rs1 : List QuietRest) → rs ≡ r ∷ rs0 → QuietMoves w (r ∷ rs0) → Came p (quiet_step S w (r ∷ rs0)) rs1 → Kept p S w rs rs1
kept_after S w rs r rs0 p rs1 e m h = subst (λ q. Kept p S w q rs1) (sym e) (kept S w (r ∷ rs0) p rs1 m h)

-- a machine that ends with a number has found the value
pub number_is : (w : quiet.Worth ℕ) (v : ℕ) → as_number w ≡ quiet.Is (quiet.Number v) → quiet.Is v ≡ w
number_is (quiet.Is x) v e = cc
number_is quiet.Divides v e = cc
number_is (quiet.Fails d) v e = cc

pub divides_is : (w : quiet.Worth ℕ) → as_number w ≡ quiet.Divides → quiet.Divides ≡ w
divides_is (quiet.Is x) e = cc
divides_is quiet.Divides e = refl
divides_is (quiet.Fails d) e = cc

pub fails_is : (w : quiet.Worth ℕ) (c : Cause) → as_number w ≡ quiet.Fails c → quiet.Fails c ≡ w
fails_is (quiet.Is x) c e = cc
fails_is quiet.Divides c e = cc
fails_is (quiet.Fails d) c e = cc

-- no number is a truth
pub no_verdict : (w : quiet.Worth ℕ) (t : Bool) → as_number w ≡ quiet.Is (quiet.Verdict t) → quiet.Fails Malformed ≡ w
no_verdict (quiet.Is x) t e = cc
no_verdict quiet.Divides t e = cc
no_verdict (quiet.Fails d) t e = cc

-- a machine that ends with a truth has found the truth
pub truth_is : (w : quiet.Worth Bool) (t : Bool) → as_verdict w ≡ quiet.Is (quiet.Verdict t) → quiet.Is t ≡ w
truth_is (quiet.Is x) t e = cc
truth_is quiet.Divides t e = cc
truth_is (quiet.Fails d) t e = cc

pub not_divided : (w : quiet.Worth Bool) → as_verdict w ≡ quiet.Divides → quiet.Divides ≡ w
not_divided (quiet.Is x) e = cc
not_divided quiet.Divides e = refl
not_divided (quiet.Fails d) e = cc

pub not_failed : (w : quiet.Worth Bool) (c : Cause) → as_verdict w ≡ quiet.Fails c → quiet.Fails c ≡ w
not_failed (quiet.Is x) c e = cc
not_failed quiet.Divides c e = cc
not_failed (quiet.Fails d) c e = cc

-- no truth is a number
pub no_number : (w : quiet.Worth Bool) (v : ℕ) → as_verdict w ≡ quiet.Is (quiet.Number v) → quiet.Fails Malformed ≡ w
no_number (quiet.Is x) v e = cc
no_number quiet.Divides v e = cc
no_number (quiet.Fails d) v e = cc
