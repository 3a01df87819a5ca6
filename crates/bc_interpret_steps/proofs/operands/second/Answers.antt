use Rattle.std.proofs.Common.{◌≡◌, length, rules, arith, vec_len}
use Rattle.std.proofs.lemmas.Grind.{common_steps}
use Rattle.std.proofs.lemmas.Result.{on_ok_weaker}
use Rattle.bc_interpret_steps.specs.Code.{stack, given}
use Rattle.bc_interpret_steps.proofs.Passing.{second_ran}
use Rattle.bc_interpret_steps.proofs.operands.second.Goals as goal

pub returns : goal.returns
returns c program table =
    let after = c.begin_other.new.stacks.rests.items in
    let below = c.pop-gone.new.self in
    let known : length c.args.stacks.now.rests.items ≡ vec_len c.args.stacks.now.rests = first_of (search rules, grind (arith, common_steps)) in
    on_ok_weaker c.begin_other.result (λ h. second_ran program c.args.operator c.args.v c.in_ok-level.level c.args.stacks.now.rests.items below.items c.push.new.rests.items c.pop-gone.result
    (vec_len c.args.stacks.now.rests) (vec_len below) c.args.state.now c.begin_other.new.stacks.next (stack after) (given after) c.begin_other.new.state
    c.requires c.pop-gone.ensures.items c.pop-gone.ensures.cases known c.in_ok-push.ensures.stack c.in_ok-level.ensures h) (c.begin_other.ensures program table)
