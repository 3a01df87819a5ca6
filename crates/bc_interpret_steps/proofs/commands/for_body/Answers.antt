use Rattle.std.proofs.Common.{◌∷◌, subst, OnOk}
use Rattle.bc_core.specs.View.{block_of}
use Rattle.bc_interpret_defs.specs.Machine as machine
use Rattle.bc_interpret_steps.specs.Code.{spot_of, stack, given}
use Rattle.bc_interpret_steps.specs.Came.{Went}
use Rattle.bc_interpret_steps.proofs.commands.for_body.Goals as goal

pub returns : goal.returns
returns c =
    let f = c.enter in
    let E = spot_of c.args.site in
    let b = block_of c.args.rounds.body.now in
    let before = stack c.args.stacks.now.rests.items in
    let after = f.new.stacks.rests.items in
    let old = c.args.state.now in
    subst (λ n. OnOk f.result (Went (machine.enter E b n (machine.ForBody E c.args.rounds.limit c.args.rounds.by b c.args.site.level ∷ before)) old f.new.stacks.next (stack after) (given after) f.new.state)) c.in_ok-level.ensures
    (subst (λ q. OnOk f.result (Went (machine.enter E b c.in_ok-level.level q) old f.new.stacks.next (stack after) (given after) f.new.state)) c.in_ok-push.ensures.stack f.ensures)
