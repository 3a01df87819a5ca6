-- The fuel that bounds the nesting of calls never runs out before the turns do.
use Rattle.std.proofs.Common.{◌≡◌, ℕ, suc, ◌<◌, List, arith}
use Rattle.bc_core.specs.Map.{Placed}
use Rattle.bc_core.specs.Outcome.{State}
use Rattle.bc_core.specs.Meaning.{calls, entered, entered_at}
use Rattle.bc_interpret_defs.specs.Laws.{FuelNeverEnds}
use Rattle.bc_interpret_defs.proofs.Alike.{alike_calls}

pub fuel_never_ends : FuelNeverEnds
fuel_never_ends program n m a vs f st l1 l2 =
    (alike_calls program (suc st.turns) n m l1 l2 a vs f).same st (omega arith)

-- so a call is its callee, run over the same calls
pub call_unrolled : (program : List Placed) (n a : ℕ) (vs : List ℕ) (f : ℕ) (st : State) → st.turns < n → calls program n a vs f st ≡ entered (calls program n) (entered_at program a) vs f st
call_unrolled program n a vs f st l = fuel_never_ends program n (suc n) a vs f st l (omega arith)
