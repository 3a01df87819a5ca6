use Rattle.std.proofs.lemmas.Result.{on_ok_weaker}
use Rattle.bc_core.specs.View.{exp, args}
use Rattle.bc_interpret_steps.specs.Code.{spot_of, stack, given}
use Rattle.bc_interpret_steps.proofs.Deciding.{operand_into}
use Rattle.bc_interpret_steps.proofs.descend.operand.Goals as goal

pub returns : goal.returns
returns c program table =
    let o = c.args.first in
    let after = c.begin_call.new.stacks.rests.items in
    on_ok_weaker c.begin_call.result (λ h. operand_into program c.args.state.now (spot_of c.args.site) o.op (args o.arguments.now) (exp o.routine.now) (exp o.second.now) c.args.site.level c.in_ok-level.level
    (stack c.args.stacks.now.rests.items) (stack c.push.new.rests.items) c.begin_call.new.stacks.next (stack after) (given after) c.begin_call.new.state c.in_ok-push.ensures.stack c.in_ok-level.ensures h) (c.begin_call.ensures program table)
