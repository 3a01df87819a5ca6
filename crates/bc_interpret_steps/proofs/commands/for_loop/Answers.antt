use Rattle.std.proofs.Common.{refl}
use Rattle.bc_core.specs.Commands as commands
use Rattle.bc_core.specs.View.{exp, block_of}
use Rattle.bc_interpret_steps.specs.Code.{spot_of, stack}
use Rattle.bc_interpret_steps.proofs.Performs.{for_performed}
use Rattle.bc_interpret_steps.proofs.commands.for_loop.Goals as goal

pub returns : goal.returns
returns c =
    let E = spot_of c.args.site in
    let start = exp c.args.bounds.0.now in
    let limit = exp c.args.bounds.1.now in
    let b = block_of c.args.turns.1.now in
    let old = c.args.state.now in
    λ streams. for_performed E (commands.For start limit c.args.turns.0 b) start limit c.args.turns.0 b c.args.site.level c.in_ok-level.level c.in_ok-cell.cell c.in_ok-cell_of.field-0
    (stack c.args.stacks.now.rests.items) (stack c.push.new.rests.items) (stack c.push-2.new.rests.items) (stack c.push-3.new.rests.items) old (record old { store = c.open.new.self }) streams
    refl c.in_ok-level.ensures c.in_ok-cell.ensures c.in_ok-cell_of.ensures c.in_ok-push.ensures.stack c.in_ok-push-2.ensures.stack c.in_ok-push-3.ensures.stack c.open.ensures refl
