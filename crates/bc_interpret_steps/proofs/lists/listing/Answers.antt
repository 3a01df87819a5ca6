use Rattle.std.proofs.Common.{sym, ap, ◌∙◌}
use Rattle.std.proofs.lemmas.Result.{on_ok_weaker}
use Rattle.bc_core.specs.View.{command, items}
use Rattle.bc_interpret_steps.specs.Assigns.{found_of}
use Rattle.bc_interpret_steps.specs.Code.{spot_of, entry_of, stack, given}
use Rattle.bc_interpret_steps.specs.Came.{state_of}
use Rattle.bc_interpret_steps.proofs.Listings.{found_next, none_next}
use Rattle.bc_interpret_steps.proofs.lists.listing.Goals as goal

pub returns-in-Some : goal.returns-in-Some
returns-in-Some c =
    let f = c.begin in
    let after = f.new.stacks.rests.items in
    on_ok_weaker f.result (λ h. found_next (spot_of c.args.site) (items c.args.items.now) (entry_of c.args.entry) c.args.site.level (command c.in-Some.found.command.now) (items c.in-Some.found.following.now) (stack c.args.stacks.now.rests.items) c.args.state.now f.new.stacks.next (stack after) (given after) f.new.state
    (sym c.next_command.ensures ∙ ap found_of c.in-Some.is) h) f.ensures

pub returns-in-None : goal.returns-in-None
returns-in-None c streams =
    none_next (spot_of c.args.site) (items c.args.items.now) (entry_of c.args.entry) c.args.site.level (stack c.args.stacks.now.rests.items) (state_of c.args.state.now streams)
    (sym c.next_command.ensures ∙ ap found_of c.in-None.is)
