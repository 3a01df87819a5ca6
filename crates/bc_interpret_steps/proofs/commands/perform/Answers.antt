use Rattle.std.proofs.Common.{◌∷◌, sym, ap, subst, ◌∙◌}
use Rattle.std.proofs.lemmas.Result.{on_ok_weaker}
use Rattle.bc_core.specs.Commands as commands
use Rattle.bc_core.specs.View.{exp, items, command, block_of}
use Rattle.bc_core.proofs.Rows.{if_view, test_view, while_view, repeat_view, repeat_while_view, for_view, switchon_view, nested_view}
use Rattle.bc_interpret_defs.specs.Machine as machine
use Rattle.bc_interpret_defs.specs.Machine.{perform_step}
use Rattle.bc_interpret_defs.specs.Trails.{trail_in, trail_of}
use Rattle.bc_interpret_steps.specs.Code.{spot_of, stack, given}
use Rattle.bc_interpret_steps.specs.Came.{GoesAt, GoesAtOrMalformed}
use Rattle.bc_interpret_steps.proofs.Quiet.{loosened_at, went}
use Rattle.bc_interpret_steps.proofs.commands.perform.Goals as goal

pub returns-in-Call : goal.returns-in-Call
returns-in-Call c =
    let st = c.args.state.now in
    on_ok_weaker c.after_value.result (λ h. subst (λ k. GoesAtOrMalformed (trail_of (machine.Perform (spot_of c.args.site) k c.args.site.level)) (perform_step (spot_of c.args.site) k c.args.site.level) c.args.stacks.now.rests.items st c.after_value.new.stacks.next c.after_value.new.stacks.rests.items st)
    (sym (ap command c.in-Call.is)) h) c.after_value.ensures

pub returns-in-SwitchOn : goal.returns-in-SwitchOn
returns-in-SwitchOn c =
    let st = c.args.state.now in
    let t = c.in-SwitchOn in
    let E = spot_of c.args.site in
    let after = c.after_value-in-SwitchOn.new.stacks.rests.items in
    let p = c.after_value-in-SwitchOn.new.stacks.next in
    on_ok_weaker c.after_value-in-SwitchOn.result (λ h. subst (λ k. GoesAtOrMalformed (trail_of (machine.Perform E k c.args.site.level)) (perform_step E k c.args.site.level) c.args.stacks.now.rests.items st p after st) (sym (ap command t.is ∙ switchon_view t.value t.items))
    (subst (λ is. GoesAtOrMalformed (λ rs. trail_in (machine.Switches E (items is) c.args.site.level ∷ rs)) (λ rs. machine.evaluate E (exp t.value) c.args.site.level (machine.Switches E (items is) c.args.site.level ∷ rs)) c.args.stacks.now.rests.items st p after st) c.deref.ensures.value
    h)) c.after_value-in-SwitchOn.ensures

pub returns-in-ResultIs : goal.returns-in-ResultIs
returns-in-ResultIs c =
    let st = c.args.state.now in
    on_ok_weaker c.after_value-in-ResultIs.result (λ h. subst (λ k. GoesAtOrMalformed (trail_of (machine.Perform (spot_of c.args.site) k c.args.site.level)) (perform_step (spot_of c.args.site) k c.args.site.level) c.args.stacks.now.rests.items st c.after_value-in-ResultIs.new.stacks.next c.after_value-in-ResultIs.new.stacks.rests.items st)
    (sym (ap command c.in-ResultIs.is)) h) c.after_value-in-ResultIs.ensures

pub returns-in-Nested : goal.returns-in-Nested
returns-in-Nested c =
    let t = c.in-Nested in
    on_ok_weaker c.enter.result (λ h. loosened_at (trail_of (machine.Perform (spot_of c.args.site) (command c.args.command.now) c.args.site.level)) (perform_step (spot_of c.args.site) (command c.args.command.now) c.args.site.level) c.args.stacks.now.rests.items c.args.state.now c.enter.new.stacks.next c.enter.new.stacks.rests.items c.enter.new.state
    (subst (λ k. GoesAt (trail_of (machine.Perform (spot_of c.args.site) k c.args.site.level)) (perform_step (spot_of c.args.site) k c.args.site.level) c.args.stacks.now.rests.items c.args.state.now c.enter.new.stacks.next c.enter.new.stacks.rests.items c.enter.new.state)
    (sym (ap command t.is ∙ nested_view t.body)) (went (trail_of (machine.Perform (spot_of c.args.site) (commands.Nested (block_of t.body)) c.args.site.level) (stack c.args.stacks.now.rests.items)) (perform_step (spot_of c.args.site) (commands.Nested (block_of t.body)) c.args.site.level (stack c.args.stacks.now.rests.items)) c.args.state.now c.enter.new.stacks.next (stack c.enter.new.stacks.rests.items) (given c.enter.new.stacks.rests.items) c.enter.new.state h))) c.enter.ensures

pub returns-in-If : goal.returns-in-If
returns-in-If c =
    let t = c.in-If in
    on_ok_weaker c.begin_if.result (λ h. loosened_at (trail_of (machine.Perform (spot_of c.args.site) (command c.args.command.now) c.args.site.level)) (perform_step (spot_of c.args.site) (command c.args.command.now) c.args.site.level) c.args.stacks.now.rests.items c.args.state.now c.begin_if.new.stacks.next c.begin_if.new.stacks.rests.items c.begin_if.new.state
    (subst (λ k. GoesAt (trail_of (machine.Perform (spot_of c.args.site) k c.args.site.level)) (perform_step (spot_of c.args.site) k c.args.site.level) c.args.stacks.now.rests.items c.args.state.now c.begin_if.new.stacks.next c.begin_if.new.stacks.rests.items c.begin_if.new.state)
    (sym (ap command t.is ∙ if_view t.condition t.body)) h)) c.begin_if.ensures

pub returns-in-While : goal.returns-in-While
returns-in-While c =
    let t = c.in-While in
    on_ok_weaker c.while_loop.result (λ h. loosened_at (trail_of (machine.Perform (spot_of c.args.site) (command c.args.command.now) c.args.site.level)) (perform_step (spot_of c.args.site) (command c.args.command.now) c.args.site.level) c.args.stacks.now.rests.items c.args.state.now c.while_loop.new.stacks.next c.while_loop.new.stacks.rests.items c.while_loop.new.state
    (subst (λ k. GoesAt (trail_of (machine.Perform (spot_of c.args.site) k c.args.site.level)) (perform_step (spot_of c.args.site) k c.args.site.level) c.args.stacks.now.rests.items c.args.state.now c.while_loop.new.stacks.next c.while_loop.new.stacks.rests.items c.while_loop.new.state)
    (sym (ap command t.is ∙ while_view t.condition t.body)) h)) c.while_loop.ensures

pub returns-in-Test : goal.returns-in-Test
returns-in-Test c =
    let t = c.in-Test in
    on_ok_weaker c.begin_test.result (λ h. loosened_at (trail_of (machine.Perform (spot_of c.args.site) (command c.args.command.now) c.args.site.level)) (perform_step (spot_of c.args.site) (command c.args.command.now) c.args.site.level) c.args.stacks.now.rests.items c.args.state.now c.begin_test.new.stacks.next c.begin_test.new.stacks.rests.items c.args.state.now
    (subst (λ k. GoesAt (trail_of (machine.Perform (spot_of c.args.site) k c.args.site.level)) (perform_step (spot_of c.args.site) k c.args.site.level) c.args.stacks.now.rests.items c.args.state.now c.begin_test.new.stacks.next c.begin_test.new.stacks.rests.items c.args.state.now)
    (sym (ap command t.is ∙ test_view t.test t.this t.that)) h)) c.begin_test.ensures

pub returns-in-Repeat : goal.returns-in-Repeat
returns-in-Repeat c =
    let t = c.in-Repeat in
    on_ok_weaker c.repeat.result (λ h. loosened_at (trail_of (machine.Perform (spot_of c.args.site) (command c.args.command.now) c.args.site.level)) (perform_step (spot_of c.args.site) (command c.args.command.now) c.args.site.level) c.args.stacks.now.rests.items c.args.state.now c.repeat.new.stacks.next c.repeat.new.stacks.rests.items c.args.state.now
    (subst (λ k. GoesAt (trail_of (machine.Perform (spot_of c.args.site) k c.args.site.level)) (perform_step (spot_of c.args.site) k c.args.site.level) c.args.stacks.now.rests.items c.args.state.now c.repeat.new.stacks.next c.repeat.new.stacks.rests.items c.args.state.now)
    (sym (ap command t.is ∙ repeat_view t.body)) h)) (c.repeat.ensures c.args.state.now)

pub returns-in-RepeatWhile : goal.returns-in-RepeatWhile
returns-in-RepeatWhile c =
    let t = c.in-RepeatWhile in
    on_ok_weaker c.repeat_while.result (λ h. loosened_at (trail_of (machine.Perform (spot_of c.args.site) (command c.args.command.now) c.args.site.level)) (perform_step (spot_of c.args.site) (command c.args.command.now) c.args.site.level) c.args.stacks.now.rests.items c.args.state.now c.repeat_while.new.stacks.next c.repeat_while.new.stacks.rests.items c.args.state.now
    (subst (λ k. GoesAt (trail_of (machine.Perform (spot_of c.args.site) k c.args.site.level)) (perform_step (spot_of c.args.site) k c.args.site.level) c.args.stacks.now.rests.items c.args.state.now c.repeat_while.new.stacks.next c.repeat_while.new.stacks.rests.items c.args.state.now)
    (sym (ap command t.is ∙ repeat_while_view t.body t.condition)) h)) (c.repeat_while.ensures c.args.state.now)

pub returns-in-For : goal.returns-in-For
returns-in-For c =
    let t = c.in-For in
    on_ok_weaker c.for_loop.result (λ h. loosened_at (trail_of (machine.Perform (spot_of c.args.site) (command c.args.command.now) c.args.site.level)) (perform_step (spot_of c.args.site) (command c.args.command.now) c.args.site.level) c.args.stacks.now.rests.items c.args.state.now c.for_loop.new.stacks.next c.for_loop.new.stacks.rests.items c.for_loop.new.state
    (subst (λ k. GoesAt (trail_of (machine.Perform (spot_of c.args.site) k c.args.site.level)) (perform_step (spot_of c.args.site) k c.args.site.level) c.args.stacks.now.rests.items c.args.state.now c.for_loop.new.stacks.next c.for_loop.new.stacks.rests.items c.for_loop.new.state)
    (sym (ap command t.is ∙ (for_view t.start t.limit t.by t.body ∙ sym (ap (λ n. commands.For (exp t.start) (exp t.limit) n (block_of t.body)) c.get.ensures.same)))) h)) c.for_loop.ensures

pub returns-in-Assign : goal.returns-in-Assign
returns-in-Assign c =
    let st = c.args.state.now in
    let f = c.assign in
    on_ok_weaker f.result (λ h. loosened_at (trail_of (machine.Perform (spot_of c.args.site) (command c.args.command.now) c.args.site.level)) (perform_step (spot_of c.args.site) (command c.args.command.now) c.args.site.level) c.args.stacks.now.rests.items st f.new.stacks.next f.new.stacks.rests.items st
    (subst (λ k. GoesAt (trail_of (machine.Perform (spot_of c.args.site) k c.args.site.level)) (perform_step (spot_of c.args.site) k c.args.site.level) c.args.stacks.now.rests.items st f.new.stacks.next f.new.stacks.rests.items st) (sym (ap command c.in-Assign.is)) h)) (f.ensures st)

pub returns-in-Goto : goal.returns-in-Goto
returns-in-Goto c =
    let before = c.args.stacks.now.rests.items in
    let j = c.jump-stacks in
    subst (λ k. GoesAtOrMalformed (trail_of (machine.Perform (spot_of c.args.site) k c.args.site.level)) (perform_step (spot_of c.args.site) k c.args.site.level) before c.args.state.now j.result before j.new.state) (sym (ap command c.in-Goto.is))
    (loosened_at (trail_of (machine.Perform (spot_of c.args.site) (commands.Goto c.in-Goto.label) c.args.site.level)) (perform_step (spot_of c.args.site) (commands.Goto c.in-Goto.label) c.args.site.level) before c.args.state.now j.result before j.new.state (j.ensures (spot_of c.args.site) c.args.site.level (stack before) (given before)))
