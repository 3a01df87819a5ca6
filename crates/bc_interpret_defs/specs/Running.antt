-- Runs of the machine: many steps, and where a run begins.
use Rattle.std.specs.Prelude.{ℕ, zero, suc, ◌+◌, List, [], ◌∷◌, Option, Some, None}
use Rattle.bc_machine_defs.specs.Streams.{Content}
use Rattle.bc_core.specs.Map.{Placed, standing}
use Rattle.bc_core.specs.Start.{start_cells}
use Rattle.bc_core.specs.Outcome.{State, Outcome, Done, Ended, Going, Wild}
use Rattle.bc_core.specs.Meaning.{Result, result_of}
use Rattle.bc_interpret_defs.specs.Machine.{Answer, Number, Work, Give, Rest, Loads, Calls, At, step}

-- continues a run after one step, or reports how that step ended it
abbrev pub from_step : Outcome At → (At → State → Option (Outcome Answer)) → Option (Outcome Answer)
from_step (Done at st) f = f at st
from_step (Ended e streams) f = Some (Ended e streams)
from_step (Going streams) f = Some (Going streams)
from_step Wild f = Some Wild

-- the answer of the whole run if there are no continuations, else o
abbrev pub last_or : Work → List Rest → State → Option (Outcome Answer) → Option (Outcome Answer)
last_or (Give a) [] st o = Some (Done a st)
last_or w rs st o = o

-- the outcome that the machine reaches in fewer than k steps, if it reaches one
abbrev pub ran : List Placed → (k : ℕ) → At → State → Option (Outcome Answer)
ran program zero at st = None
ran program (suc k) at st = last_or at.work at.rests st (from_step (step program at.work at.rests st) (λ at1 st1. ran program k at1 st1))

-- where a run begins: it reads the cell of global 1 (START) and calls the value found there
abbrev pub start_at : (stack_base : ℕ) → At
start_at stack_base = record { work = Give (Number 9); rests = Loads ∷ Calls [] (stack_base + 2) ∷ [] }

-- the state in which a run of this program begins, with n turns
abbrev pub start_state : List Placed → Content → ℕ → State
start_state program streams n = record { cells = start_cells (standing program); streams = streams; turns = n }

-- the machine has a step to take: it hasn't reached the answer of the whole run
abbrev pub Moves : Work → List Rest → Type 0
Moves (Give a) [] = ⊥
Moves w rs = Unit {0}

-- the result of a finished run
abbrev pub result_if : Option (Outcome Answer) → Option Result
result_if None = None
result_if (Some o) = Some (result_of o)
