use Rattle.bc_core.specs.View.{exp}
use Rattle.bc_interpret_steps.specs.Code.{spot_of}
use Rattle.bc_interpret_steps.specs.Came.{sight}
use Rattle.bc_interpret_steps.proofs.Assigns.{neither, assigned_at_once}
use Rattle.bc_interpret_steps.proofs.Quiet.{told_worth}
use Rattle.bc_interpret_steps.proofs.assign.assign_at_once.Goals as goal

pub returns-in-Some-2 : goal.returns-in-Some-2
returns-in-Some-2 c =
    let E = spot_of c.args.site.now in
    let st = c.args.state.now in
    let v = exp c.args.value.now in
    let a = exp c.args.address.now in
    let first = told_worth (sight st E) v c.in_ok-worth_at.field-0 c.in-Some.word c.in_ok-worth_at.ensures cc in
    let second = told_worth (sight st E) a c.in_ok-worth_at-in-Some.field-0 c.in-Some-2.place c.in_ok-worth_at-in-Some.ensures cc in
    let done = assigned_at_once st E v a c.in-Some.word c.in-Some-2.place c.both_assigned.result c.both_assigned.new.state first.0 second.0 first.1 second.1 c.both_assigned.ensures in
    (neither _ _ first.0 second.0, done.0, done.1)
