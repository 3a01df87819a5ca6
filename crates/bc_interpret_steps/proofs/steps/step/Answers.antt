use Rattle.std.proofs.Common.{sym, ap, subst, ◌∙◌}
use Rattle.bc_interpret_steps.specs.declared.forms.Progress.TheVariants as progress
use Rattle.bc_interpret_steps.specs.declared.forms.Work.TheVariants as works
use Rattle.bc_interpret_steps.specs.Code.{work_of, given}
use Rattle.bc_interpret_steps.specs.Passing.{RunsOver}
use Rattle.bc_interpret_steps.proofs.Passing.{proceeds_next, proceeds_on, ran_next, ran_once, nothing_next}
use Rattle.bc_interpret_steps.proofs.steps.step.Goals as goal

pub returns-in-On-Evaluate : goal.returns-in-On-Evaluate
returns-in-On-Evaluate c =
    let t = c.in-On-Evaluate in
    ran_next c.args.table.now c.args.stacks.now.next (works.Evaluate t.site t.e) c.args.stacks.now.rests c.args.state.now c.begin_expression.result c.begin_expression.new.stacks.next c.begin_expression.new.stacks.rests c.begin_expression.new.state (t.is ∙ ap progress.On (rw t.is at t.field-0-is)) c.begin_expression.ensures

pub returns-in-On-Decide : goal.returns-in-On-Decide
returns-in-On-Decide c =
    let t = c.in-On-Decide in
    proceeds_next c.args.table.now c.args.stacks.now.next (works.Decide t.site t.e) c.args.stacks.now.rests c.args.state.now c.decide.result c.decide.new.stacks.next c.decide.new.stacks.rests c.args.state.now (t.is ∙ ap progress.On (rw t.is at t.field-0-is)) (λ v vs f k. let w = k.work in cc) tt (λ program. c.decide.ensures)

pub returns-in-On-Argue : goal.returns-in-On-Argue
returns-in-On-Argue c =
    let t = c.in-On-Argue in
    proceeds_next c.args.table.now c.args.stacks.now.next (works.Argue t.arguments) c.args.stacks.now.rests c.args.state.now c.evaluate_arguments.result c.evaluate_arguments.new.stacks.next c.evaluate_arguments.new.stacks.rests c.args.state.now (t.is ∙ ap progress.On (rw t.is at t.field-0-is)) (λ v vs f k. let w = k.work in cc) tt (λ program. c.evaluate_arguments.ensures)

pub returns-in-On-Store : goal.returns-in-On-Store
returns-in-On-Store c =
    let t = c.in-On-Store in
    proceeds_next c.args.table.now c.args.stacks.now.next (works.Store t.site t.value t.address) c.args.stacks.now.rests c.args.state.now c.store.result c.store.new.stacks.next c.store.new.stacks.rests c.store.new.state (t.is ∙ ap progress.On (rw t.is at t.field-0-is)) (λ v vs f k. let w = k.work in cc) tt (λ program. c.store.ensures)

pub returns-in-On-Perform : goal.returns-in-On-Perform
returns-in-On-Perform c =
    let t = c.in-On-Perform in
    ran_next c.args.table.now c.args.stacks.now.next (works.Perform t.site t.command) c.args.stacks.now.rests c.args.state.now c.begin_command.result c.begin_command.new.stacks.next c.begin_command.new.stacks.rests c.begin_command.new.state (t.is ∙ ap progress.On (rw t.is at t.field-0-is)) c.begin_command.ensures

pub returns-in-On-While : goal.returns-in-On-While
returns-in-On-While c =
    let t = c.in-On-While in
    proceeds_next c.args.table.now c.args.stacks.now.next (works.While t.site t.condition t.body) c.args.stacks.now.rests c.args.state.now c.while_loop.result c.while_loop.new.stacks.next c.while_loop.new.stacks.rests c.while_loop.new.state (t.is ∙ ap progress.On (rw t.is at t.field-0-is)) (λ v vs f k. let w = k.work in cc) tt (λ program. c.while_loop.ensures)

pub returns-in-On-Repeat : goal.returns-in-On-Repeat
returns-in-On-Repeat c =
    let t = c.in-On-Repeat in
    proceeds_next c.args.table.now c.args.stacks.now.next (works.Repeat t.site t.body) c.args.stacks.now.rests c.args.state.now c.repeat.result c.repeat.new.stacks.next c.repeat.new.stacks.rests c.args.state.now (t.is ∙ ap progress.On (rw t.is at t.field-0-is)) (λ v vs f k. let w = k.work in cc) tt (λ program. c.repeat.ensures c.args.state.now)

pub returns-in-On-RepeatWhile : goal.returns-in-On-RepeatWhile
returns-in-On-RepeatWhile c =
    let t = c.in-On-RepeatWhile in
    proceeds_next c.args.table.now c.args.stacks.now.next (works.RepeatWhile t.site t.body t.condition) c.args.stacks.now.rests c.args.state.now c.repeat_while.result c.repeat_while.new.stacks.next c.repeat_while.new.stacks.rests c.args.state.now (t.is ∙ ap progress.On (rw t.is at t.field-0-is)) (λ v vs f k. let w = k.work in cc) tt (λ program. c.repeat_while.ensures c.args.state.now)

pub returns-in-On-Enter : goal.returns-in-On-Enter
returns-in-On-Enter c =
    let t = c.in-On-Enter in
    proceeds_on c.args.table.now c.args.stacks.now.next (works.Enter t.site t.block) c.args.stacks.now.rests c.args.state.now c.enter.result c.enter.new.stacks.next c.enter.new.stacks.rests c.enter.new.state (t.is ∙ ap progress.On (rw t.is at t.field-0-is)) (λ v vs f k. let w = k.work in cc) tt (λ program. c.enter.ensures)

pub returns-in-On-Declare : goal.returns-in-On-Declare
returns-in-On-Declare c =
    let t = c.in-On-Declare in
    proceeds_on c.args.table.now c.args.stacks.now.next (works.Declare t.site t.declarations t.items t.level) c.args.stacks.now.rests c.args.state.now c.declare.result c.declare.new.stacks.next c.declare.new.stacks.rests c.declare.new.state (t.is ∙ ap progress.On (rw t.is at t.field-0-is)) (λ v vs f k. let w = k.work in cc) tt (λ program. c.declare.ensures)

pub returns-in-On-Initialise : goal.returns-in-On-Initialise
returns-in-On-Initialise c =
    let t = c.in-On-Initialise in
    proceeds_next c.args.table.now c.args.stacks.now.next (works.Initialise t.site t.variables t.k) c.args.stacks.now.rests c.args.state.now c.initialise.result c.initialise.new.stacks.next c.initialise.new.stacks.rests c.initialise.new.state (t.is ∙ ap progress.On (rw t.is at t.field-0-is)) (λ v vs f k. let w = k.work in cc) tt (λ program. c.initialise.ensures)

pub returns-in-On-Listing : goal.returns-in-On-Listing
returns-in-On-Listing c =
    let t = c.in-On-Listing in
    proceeds_next c.args.table.now c.args.stacks.now.next (works.Listing t.site t.items t.entry) c.args.stacks.now.rests c.args.state.now c.listing.result c.listing.new.stacks.next c.listing.new.stacks.rests c.listing.new.state (t.is ∙ ap progress.On (rw t.is at t.field-0-is)) (λ v vs f k. let w = k.work in cc) tt (λ program. c.listing.ensures)

pub returns-in-On-Round : goal.returns-in-On-Round
returns-in-On-Round c =
    let t = c.in-On-Round in
    proceeds_next c.args.table.now c.args.stacks.now.next (works.Round t.site t.rounds) c.args.stacks.now.rests c.args.state.now c.round.result c.round.new.stacks.next c.round.new.stacks.rests c.round.new.state (t.is ∙ ap progress.On (rw t.is at t.field-0-is)) (λ v vs f k. let w = k.work in cc) tt (λ program. c.round.ensures)

pub returns-in-On-Number : goal.returns-in-On-Number
returns-in-On-Number c =
    let t = c.in-On-Number in
    ran_next c.args.table.now c.args.stacks.now.next (works.Number t.v) c.args.stacks.now.rests c.args.state.now c.resume_with_number.result c.resume_with_number.new.stacks.next c.resume_with_number.new.stacks.rests c.resume_with_number.new.state (t.is ∙ ap progress.On (rw t.is at t.field-0-is)) c.resume_with_number.ensures

pub returns-in-On-Verdict : goal.returns-in-On-Verdict
returns-in-On-Verdict c =
    let t = c.in-On-Verdict in
    ran_next c.args.table.now c.args.stacks.now.next (works.Verdict t.t) c.args.stacks.now.rests c.args.state.now c.give_verdict.result c.give_verdict.new.stacks.next c.give_verdict.new.stacks.rests c.give_verdict.new.state (t.is ∙ ap progress.On (rw t.is at t.field-0-is)) (ran_once c.args.table.now _ c.args.stacks.now.rests c.args.state.now c.give_verdict.result c.give_verdict.new.stacks.next c.give_verdict.new.stacks.rests c.give_verdict.new.state c.give_verdict.ensures)

pub returns-in-On-Left : goal.returns-in-On-Left
returns-in-On-Left c =
    let t = c.in-On-Left in
    ran_next c.args.table.now c.args.stacks.now.next (works.Left t.exit) c.args.stacks.now.rests c.args.state.now c.give_exit.result c.give_exit.new.stacks.next c.give_exit.new.stacks.rests c.give_exit.new.state (t.is ∙ ap progress.On (rw t.is at t.field-0-is)) c.give_exit.ensures

pub returns-in-On-Nothing : goal.returns-in-On-Nothing
returns-in-On-Nothing c =
    let t = c.in-On-Nothing in
    ran_next c.args.table.now c.args.stacks.now.next works.Nothing c.args.stacks.now.rests c.args.state.now c.give_nothing.result c.give_nothing.new.stacks.next c.give_nothing.new.stacks.rests c.give_nothing.new.state (t.is ∙ ap progress.On (rw t.is at t.field-0-is))
    (ran_once c.args.table.now _ c.args.stacks.now.rests c.args.state.now c.give_nothing.result c.give_nothing.new.stacks.next c.give_nothing.new.stacks.rests c.give_nothing.new.state c.give_nothing.ensures)

pub returns-in-Serve : goal.returns-in-Serve
returns-in-Serve c =
    let g = c.give_nothing-in-Serve in
    subst (λ w. RunsOver c.args.table.now (work_of (given c.args.stacks.now.rests.items) w) c.args.stacks.now.rests c.args.state.now g.result g.new.stacks.next g.new.stacks.rests g.new.state)
    (sym (nothing_next c.args.stacks.now.next c.in-Serve.is))
    (ran_once c.args.table.now _ c.args.stacks.now.rests c.args.state.now g.result g.new.stacks.next g.new.stacks.rests g.new.state g.ensures)
