use Rattle.std.proofs.Common.{[], ap}
use Rattle.bc_core.specs.View.{exp, args}
use Rattle.bc_interpret_defs.specs.Trails.{trail_in}
use Rattle.bc_interpret_steps.specs.Code.{spot_of, given_for, stack, given}
use Rattle.bc_interpret_steps.proofs.Argues.{argue_fails}
use Rattle.bc_interpret_steps.proofs.arguments.give_argument.Goals as goal

pub returns-in_ok-put_argues-in-Some-Fails : goal.returns-in_ok-put_argues-in-Some-Fails
returns-in_ok-put_argues-in-Some-Fails c =
    let a = c.args.arguments in
    let before = c.args.stacks.now.rests.items in
    argue_fails c.args.state.now (spot_of a.site) (given_for a.fresh (given before)) (exp c.args.first.now) (args c.args.following.now) a.level (exp a.routine.now) a.count a.site.level c.in_ok-v.field-0 c.in-Some-Fails.cause (stack before) (stack c.put_argues-in-Some-Fails.new.rests.items) [] c.in_ok-v.ensures (cc) (ap trail_in c.in_ok-put_argues-in-Some-Fails.ensures)
