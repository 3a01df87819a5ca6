-- Taking a turn.
use Rattle.std.proofs.Common.{◌≡◌, ◌+◌, ℕ, suc, true, false, refl, ap, arith}
use Rattle.bc_core.specs.Outcome.{taken}
use Rattle.bc_interpret_steps.specs.declared.state.State.{State}
use Rattle.bc_interpret_steps.specs.Came.{state_of, Turned}

pub turn_left : (old : State) (t : ℕ) → old.turns ≡ t + 1 → Turned true old (record old { turns = t })
turn_left old t e r streams = ap (λ n. taken n r (state_of old streams)) (let h : old.turns ≡ suc t = omega arith in h)

pub no_turn_left : (old : State) → old.turns ≡ 0 → Turned false old old
no_turn_left old e = (λ r streams. ap (λ n. taken n r (state_of old streams)) e, refl)
