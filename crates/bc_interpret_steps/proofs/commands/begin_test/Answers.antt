use Rattle.std.proofs.Common.{subst, OnOk}
use Rattle.bc_core.specs.View.{exp}
use Rattle.bc_interpret_defs.specs.Machine as machine
use Rattle.bc_interpret_defs.specs.Trails.{trail_in}
use Rattle.bc_interpret_steps.specs.Code.{spot_of, stack, given}
use Rattle.bc_interpret_steps.specs.Came.{Came}
use Rattle.bc_interpret_steps.proofs.commands.begin_test.Goals as goal

pub returns : goal.returns
returns c =
    let f = c.decide in
    let after = f.new.stacks.rests.items in
    let st = c.args.state.now in
    subst (λ q. OnOk f.result (Came (trail_in q) (machine.decide (spot_of c.args.site) (exp c.args.test.now) c.args.site.level q) st f.new.stacks.next (stack after) (given after) st)) c.in_ok-push.ensures.stack f.ensures
