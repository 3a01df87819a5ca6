use Rattle.std.proofs.Common.{subst, OnOk}
use Rattle.bc_core.specs.View.{block_of}
use Rattle.bc_interpret_defs.specs.Machine as machine
use Rattle.bc_interpret_steps.specs.Code.{spot_of, stack, given}
use Rattle.bc_interpret_steps.specs.Came.{Went}
use Rattle.bc_interpret_steps.proofs.commands.while_body.Goals as goal

pub returns : goal.returns
returns c =
    let f = c.enter in
    let after = f.new.stacks.rests.items in
    subst (λ q. OnOk f.result (Went (machine.enter (spot_of c.args.site) (block_of c.args.body.now) c.args.site.level q) c.args.state.now f.new.stacks.next (stack after) (given after) f.new.state)) c.in_ok-push.ensures.stack f.ensures
