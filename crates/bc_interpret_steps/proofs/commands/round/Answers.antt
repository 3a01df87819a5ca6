use Rattle.std.proofs.Common.{rules, sym, ◌∙◌}
use Rattle.bc_core.specs.View.{block_of}
use Rattle.bc_interpret_defs.specs.Trails.{trail_in}
use Rattle.bc_interpret_steps.specs.Code.{spot_of, stack, given}
use Rattle.bc_interpret_steps.proofs.Loops.{round_goes}
use Rattle.bc_interpret_steps.proofs.commands.round.Goals as goal

pub returns-in_ok-for_body-in-Set : goal.returns-in_ok-for_body-in-Set
returns-in_ok-for_body-in-Set c =
    let after = c.for_body.new.stacks.rests.items in
    round_goes (trail_in (stack c.args.stacks.now.rests.items)) (spot_of c.args.site) c.args.rounds.limit c.args.rounds.by (block_of c.args.rounds.body.now) c.args.site.level c.in-Set.value (stack c.args.stacks.now.rests.items) c.args.state.now c.for_body.new.stacks.next (stack after) (given after) c.for_body.new.state
    (search rules) (sym c.is_past.ensures ∙ c.if-is_past.false) c.in_ok-for_body-in-Set.ensures
