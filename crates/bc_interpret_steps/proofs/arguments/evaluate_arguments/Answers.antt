use Rattle.std.proofs.Common.{rules, arith, ◌-◌, length, take, drop}
use Rattle.std.proofs.lemmas.Grind.{common_steps}
use Rattle.bc_interpret_steps.proofs.Counts.{apart}
use Rattle.bc_interpret_steps.proofs.Argues.{argued_over, argued_last}
use Rattle.bc_interpret_steps.proofs.arguments.evaluate_arguments.Goals as goal

pub returns-in-Over : goal.returns-in-Over
returns-in-Over c =
    argued_over c.args.arguments c.loop-now.now c.first-item.result (take (length c.loop-now.now.left.now - 1) (drop 1 c.loop-now.now.left.now)) c.args.stacks.now.rests.items c.loop-now.stacks.rests.items c.give_argument.new.stacks.rests.items c.args.state.now c.in_ok-given.given c.give_argument.new.stacks.next
    c.in_ok-given.ensures c.in-Over.is (first_of (search (rules, apart), grind (arith, common_steps, apart))) c.loop-now.invariant.kept c.loop-now.invariant.rests

pub returns : goal.returns
returns c =
    argued_last c.args.arguments c.loop-now.now c.args.stacks.now.rests.items c.loop-now.stacks.rests.items c.argue_routine.new.stacks.rests.items c.args.state.now c.argue_routine.new.stacks.next
    c.in_ok-argue_routine.ensures (omega (arith, c.in_default.len_below)) c.loop-now.invariant.kept c.loop-now.invariant.rests
