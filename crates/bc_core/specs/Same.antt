-- When a run of the machine does what a meaning says.
use Rattle.std.specs.Prelude.{ℕ, ◌≡◌, ◌≤◌, List}
use Rattle.bc_machine_defs.specs.declared.state.End.{End}
use Rattle.bc_machine_defs.specs.declared.state.End.TheVariants as ends
use Rattle.bc_machine_defs.specs.State.{State}
use Rattle.bc_machine_defs.specs.StreamCalls.{output_of}
use Rattle.bc_machine_defs.specs.Run.{runs}
use Rattle.bc_core.specs.Outcome.{Ending, Finished, ZeroDivide}
use Rattle.bc_core.specs.Meaning.{Result, Ended, Going, Wild}

-- the machine's name for an ending
abbrev pub end_of : Ending → End
end_of Finished = ends.Finished
end_of ZeroDivide = ends.ZeroDivide

-- after m instructions the machine has this end, or is still running, with this output
abbrev pub IsAt : State → ℕ → End → List (List ℕ) → Type 0
IsAt s m end output = let r = runs m s in (r.1 ≡ end) × (output_of r.0.streams ≡ output)

-- The machine that starts from `s` does what the meaning in n turns is. If that ended, so does the machine at some
-- point, with the same output and ending. If it is going, the machine is still running after at least n instructions,
-- with the same output. Of a wild meaning nothing is said.
abbrev pub Same : Result → ℕ → State → Type 0
Same (Ended output ending) n s = (m : ℕ) × IsAt s m (end_of ending) output
Same (Going output) n s = (m : ℕ) × (n ≤ m) × IsAt s m ends.BudgetSpent output
Same Wild n s = Unit {0}
