use Rattle.std.proofs.Common.{◌≡◌, length}
use Rattle.bc_core.specs.Outcome.{State}
use Rattle.bc_interpret_defs.specs.Meeting.{KeepsWords}
use Rattle.bc_interpret_steps.specs.Arrived.{Argued}
use Rattle.bc_interpret_steps.specs.Code.{stack}
use Rattle.bc_interpret_steps.proofs.arguments.evaluate_arguments.Given as goal

abbrev pub invariant-loop-now : goal.invariant-loop-now
invariant-loop-now l = record {
  kept : (st : State) → KeepsWords l.state.store st → Argued l.fn.arguments l.fn.stacks.rests.items (stack l.fn.stacks.rests.items) st ≡ Argued l.now l.stacks.rests.items (stack l.stacks.rests.items) st;
  rests : stack l.stacks.rests.items ≡ stack l.fn.stacks.rests.items;
}

abbrev pub decreases-loop-now : goal.decreases-loop-now
decreases-loop-now l = length l.now.left.now
