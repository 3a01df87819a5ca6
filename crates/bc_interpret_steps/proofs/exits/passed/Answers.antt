use Rattle.std.proofs.Common.{Some, sym, ap, ◌∙◌, option_copied}
use Rattle.bc_interpret_steps.specs.Code.{exit_of}
use Rattle.bc_interpret_steps.proofs.Passing.{passed_top}
use Rattle.bc_interpret_steps.proofs.exits.passed.Goals as goal

pub returns-in-Some-Exit : goal.returns-in-Some-Exit
returns-in-Some-Exit c =
    let t = c.in-Some-Exit in
    passed_top (exit_of c.args.exit) c.args.rests.now t.rest c.exit_passed_on.result (sym c.last.ensures.value ∙ (ap option_copied t.is ∙ ap Some t.field-0-is)) c.exit_passed_on.ensures
