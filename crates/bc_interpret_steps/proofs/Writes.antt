-- Writing a cell.
use Rattle.std.proofs.Common.{◌≡◌, ◌≢◌, ℕ, Some, None, sym, ap, refl, ◌∙◌}
use Rattle.std.specs.Prelude.{slice_set}
use Rattle.bc_core.specs.Store.{Cell, Dead, Unset, Set, cell_at}
use Rattle.bc_machine_defs.specs.Streams.{Content}
use Rattle.bc_core.specs.Outcome as outcomes
use Rattle.bc_core.specs.Outcome.{Done, written}
use Rattle.bc_interpret_defs.proofs.Naming.{wild_write}
use Rattle.bc_interpret_pure.specs.declared.context.Cause.TheVariants as quiet_causes
use Rattle.bc_interpret_steps.specs.declared.state.State.{State}
use Rattle.bc_interpret_steps.specs.Came.{state_of, Wrote}

written_live : (c : Cell) (a w : ℕ) (st : outcomes.State) → c ≢ Dead → written c a w st ≡ Done tt (record st { cells = slice_set st.cells a (Set w) })
written_live Dead a w st n = absurd (n refl)
written_live Unset a w st n = refl
written_live (Set x) a w st n = refl

pub wrote : (old new : State) (a w : ℕ) → cell_at old.store a ≢ Dead → new.store ≡ slice_set old.store a (Set w) → new.turns ≡ old.turns → Wrote old a w None new
wrote old new a w live e t = (
  λ streams. written_live (cell_at old.store a) a w (state_of old streams) live ∙ λ i. Done tt (record { cells = sym e i; streams = streams; turns = sym t i }),
  live,
  e,
)

pub wrote_not : (old new : State) (a w : ℕ) → cell_at old.store a ≡ Dead → Wrote old a w (Some (quiet_causes.NoCell a)) new
wrote_not old new a w e = (λ streams. ap (λ x. written x a w (state_of old streams)) e, wild_write a w old.store e)

pub unwritten : (old : State) (a w : ℕ) → cell_at old.store a ≡ Dead → (streams : Content) → outcomes.write a w (state_of old streams) ≡ outcomes.Wild
unwritten old a w e streams = ap (λ x. written x a w (state_of old streams)) e
