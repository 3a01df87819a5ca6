use Rattle.std.proofs.Common.{[], ◌∷◌}
use Rattle.std.proofs.lemmas.Result.{on_ok_weaker}
use Rattle.bc_core.specs.View.{command, items}
use Rattle.bc_interpret_defs.specs.Machine as machine
use Rattle.bc_interpret_defs.specs.Machine.{first_command}
use Rattle.bc_interpret_defs.specs.Trails.{trail_in}
use Rattle.bc_interpret_steps.specs.declared.forms.Ending.TheVariants as endings
use Rattle.bc_interpret_steps.specs.declared.forms.Progress.TheVariants as progress
use Rattle.bc_interpret_steps.specs.declared.continuations.ExitRest.TheVariants as exit_rests
use Rattle.bc_interpret_steps.specs.declared.continuations.Rest.TheVariants as rests
use Rattle.bc_interpret_steps.specs.declared.forms.Work.TheVariants as works
use Rattle.bc_interpret_steps.specs.Code.{spot_of, stacked, then_given, stack, given}
use Rattle.bc_interpret_steps.proofs.After.{following}
use Rattle.bc_interpret_steps.proofs.Listings.{begin_done, begin_divided, begin_failed, begin_performed}
use Rattle.bc_interpret_steps.proofs.lists.begin.Goals as goal

pub returns-in-Some-Done : goal.returns-in-Some-Done
returns-in-Some-Done c =
    let E = spot_of c.args.site in
    let is = items c.args.found.following.now in
    let before = c.args.stacks.now.rests.items in
    let new = c.command_at_once.new.state in
    begin_done E (command c.args.found.command.now) is c.args.site.level (stack before) c.args.state.now c.in_ok-command_at_once.field-0 (trail_in (machine.Follows E is c.args.site.level ∷ stack before)) c.after_command-stacks.result (given before) new c.in_ok-command_at_once.ensures (cc)
    (c.after_command-stacks.ensures new (stack before) (given before))

pub returns-in-Some-Divides : goal.returns-in-Some-Divides
returns-in-Some-Divides c =
    let E = spot_of c.args.site in
    let k = command c.args.found.command.now in
    let is = items c.args.found.following.now in
    let s = c.args.site.level in
    let before = c.args.stacks.now.rests.items in
    let f = c.put_after in
    on_ok_weaker f.result (following (trail_in (machine.Follows E is s ∷ stack before)) (first_command E k is s) (rests.Exit (exit_rests.Follows c.args.site c.args.found.following)) (progress.Ended endings.ZeroDivide) before f.new.stacks.next f.new.stacks.rests.items c.args.state.now c.command_at_once.new.state
    (begin_divided E k is s (stack before) c.args.state.now c.in_ok-command_at_once.field-0 (trail_in (machine.Follows E is s ∷ stack before)) (machine.Follows E is s ∷ stack before) [] c.command_at_once.new.state c.in_ok-command_at_once.ensures cc)) f.ensures

pub returns-in-Some-Fails : goal.returns-in-Some-Fails
returns-in-Some-Fails c =
    let E = spot_of c.args.site in
    let k = command c.args.found.command.now in
    let is = items c.args.found.following.now in
    let s = c.args.site.level in
    let before = c.args.stacks.now.rests.items in
    let f = c.put_after-in-Some-Fails in
    on_ok_weaker f.result (following (trail_in (machine.Follows E is s ∷ stack before)) (first_command E k is s) (rests.Exit (exit_rests.Follows c.args.site c.args.found.following)) (progress.Wild c.in-Some-Fails.cause) before f.new.stacks.next f.new.stacks.rests.items c.args.state.now c.command_at_once.new.state
    (begin_failed E k is s (stack before) c.args.state.now c.in_ok-command_at_once.field-0 c.in-Some-Fails.cause [] c.command_at_once.new.state c.in_ok-command_at_once.ensures cc)) f.ensures

pub returns-in-None : goal.returns-in-None
returns-in-None c =
    let E = spot_of c.args.site in
    let k = command c.args.found.command.now in
    let is = items c.args.found.following.now in
    let s = c.args.site.level in
    let before = c.args.stacks.now.rests.items in
    let f = c.put_after-in-None in
    on_ok_weaker f.result (following (trail_in (machine.Follows E is s ∷ stack before)) (first_command E k is s) (rests.Exit (exit_rests.Follows c.args.site c.args.found.following)) (progress.On (works.Perform c.args.site c.args.found.command)) before f.new.stacks.next f.new.stacks.rests.items c.args.state.now c.command_at_once.new.state
    (begin_performed c.args.site c.args.found.command is (stack before) c.args.state.now c.in_ok-command_at_once.field-0 [] c.command_at_once.new.state c.in_ok-command_at_once.ensures cc)) f.ensures
