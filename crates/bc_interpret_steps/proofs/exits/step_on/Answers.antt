use Rattle.std.proofs.Common.{subst}
use Rattle.bc_core.specs.Exit.{Past}
use Rattle.bc_core.specs.View.{block_of}
use Rattle.bc_interpret_defs.specs.Machine.{Left, ForBody, next}
use Rattle.bc_interpret_defs.specs.Trails.{trail_in}
use Rattle.bc_interpret_steps.specs.Code.{spot_of, exit_of, stack, given}
use Rattle.bc_interpret_steps.specs.Came.{CameOrMalformed}
use Rattle.bc_interpret_steps.proofs.Loops.{for_after}
use Rattle.bc_interpret_steps.proofs.Quiet.{loosen}
use Rattle.bc_interpret_steps.proofs.exits.step_on.Goals as goal

pub returns-in_ok-stacks-in-None : goal.returns-in_ok-stacks-in-None
returns-in_ok-stacks-in-None c program =
    let before = c.args.stacks.now.rests.items in
    let old = c.args.state.now in
    let new = c.step_variable.new.state in
    let E = spot_of c.args.site in
    let b = block_of c.args.rounds.body.now in
    let came = c.in_ok-stacks-in-None in
    subst (λ r. CameOrMalformed (trail_in (stack before)) r old came.field-0 (stack before) (given before) new)
    (for_after program E c.args.rounds.limit c.args.rounds.by b c.args.site.level (exit_of c.args.exit) (stack before) c.in-None.ensures)
    (loosen _ (next program (ForBody E c.args.rounds.limit c.args.rounds.by b c.args.site.level) (Left Past) (stack before)) old came.field-0 (stack before) (given before) new (came.ensures program (stack before) (given before)))
