-- The machine keeps words in its registers and its store.
use Rattle.std.specs.Prelude.{ℕ}
use Rattle.bc_machine_defs.specs.State.{State}
use Rattle.bc_machine_defs.specs.Run.{runs}
use Rattle.bc_right.specs.steps.Leads.{AreWords}

-- If registers and store hold words at first, they do after any number of instructions.
abbrev pub WordsAreKept : Type 0
WordsAreKept = (n : ℕ) (x : State) → AreWords x → AreWords (runs n x).0
