use Rattle.std.proofs.Common.{List, subst, OnOk}
use Rattle.bc_core.specs.View.{exp}
use Rattle.bc_interpret_defs.specs.Machine as machine
use Rattle.bc_interpret_defs.specs.Trails.{trail_in}
use Rattle.bc_interpret_steps.specs.Code.{spot_of, stack, given}
use Rattle.bc_interpret_steps.specs.Came.{CameOrMalformed}
use Rattle.bc_interpret_steps.proofs.commands.after_value.Goals as goal

pub returns : goal.returns
returns c =
    let f = c.evaluate in
    let after = f.new.stacks.rests.items in
    let st = c.args.state.now in
    let evaluated : List machine.Rest → machine.Step = λ q. machine.evaluate (spot_of c.args.site) (exp c.args.e.now) c.args.site.level q in
    subst (λ q. OnOk f.result (CameOrMalformed (trail_in q) (evaluated q) st f.new.stacks.next (stack after) (given after) st)) c.in_ok-push.ensures.stack f.ensures
