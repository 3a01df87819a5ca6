use Rattle.bc_core.specs.View.{items}
use Rattle.bc_interpret_steps.proofs.Passing.{none_left, left_for_good}
use Rattle.bc_interpret_steps.proofs.exits.is_left.Goals as goal

pub returns-in-Broke : goal.returns-in-Broke
returns-in-Broke c = left_for_good (items c.args.items.now) c.args.exit c.in-Broke.is

pub returns-in-empty : goal.returns-in-empty
returns-in-empty c = none_left c.args.items.now c.args.exit c.in-empty.len_below
