use Rattle.bc_interpret_steps.specs.Code.{spot_of}
use Rattle.bc_interpret_steps.specs.Came.{state_of}
use Rattle.bc_interpret_steps.proofs.Listings.{goes_on}
use Rattle.bc_interpret_steps.proofs.lists.after_command.Goals as goal

pub returns-in-len1-up : goal.returns-in-len1-up
returns-in-len1-up c st rs vs streams =
    goes_on (spot_of c.args.site) c.args.following.now c.args.site.level rs (state_of st streams) c.in-len1-up.len_at_least
