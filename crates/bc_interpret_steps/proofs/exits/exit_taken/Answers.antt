use Rattle.std.proofs.Common.{sym, subst, OnOk}
use Rattle.bc_interpret_defs.specs.Machine.{Left, next}
use Rattle.bc_interpret_steps.specs.Code.{exit_of, exit_rest, stack, given}
use Rattle.bc_interpret_steps.specs.Came.{GoesOrMalformed}
use Rattle.bc_interpret_steps.proofs.exits.exit_taken.Goals as goal

pub returns-in-Returns : goal.returns-in-Returns
returns-in-Returns c program =
    let before = c.args.stacks.now.rests.items in
    let st = c.args.state.now in
    subst (λ r. GoesOrMalformed (next program (exit_rest r) (Left (exit_of c.args.exit))) before st c.returned-stacks.result before st) (sym c.in-Returns.is)
    (c.returned-stacks.ensures st program (stack before) (given before))

pub returns-in-Results : goal.returns-in-Results
returns-in-Results c program =
    let before = c.args.stacks.now.rests.items in
    let st = c.args.state.now in
    subst (λ r. GoesOrMalformed (next program (exit_rest r) (Left (exit_of c.args.exit))) before st c.resulted-stacks.result before st) (sym c.in-Results.is)
    (c.resulted-stacks.ensures c.in-Results.field-0 st program (stack before) (given before))

pub returns-in-WhileBody : goal.returns-in-WhileBody
returns-in-WhileBody c program =
    let before = c.args.stacks.now.rests.items in
    subst (λ r. GoesOrMalformed (next program (exit_rest r) (Left (exit_of c.args.exit))) before c.args.state.now c.loop_on-stacks.result before c.loop_on-stacks.new.state) (sym c.in-WhileBody.is)
    (c.loop_on-stacks.ensures (stack before) (given before))

pub returns-in-RepeatBody : goal.returns-in-RepeatBody
returns-in-RepeatBody c program =
    let before = c.args.stacks.now.rests.items in
    subst (λ r. GoesOrMalformed (next program (exit_rest r) (Left (exit_of c.args.exit))) before c.args.state.now c.loop_on-stacks-in-RepeatBody.result before c.loop_on-stacks-in-RepeatBody.new.state) (sym c.in-RepeatBody.is)
    (c.loop_on-stacks-in-RepeatBody.ensures (stack before) (given before))

pub returns-in-Follows : goal.returns-in-Follows
returns-in-Follows c program =
    let before = c.args.stacks.now.rests.items in
    subst (λ r. GoesOrMalformed (next program (exit_rest r) (Left (exit_of c.args.exit))) before c.args.state.now c.follow-stacks.result before c.args.state.now) (sym c.in-Follows.is)
    (c.follow-stacks.ensures c.args.state.now program (stack before) (given before))

pub returns-in-RepeatWhileBody : goal.returns-in-RepeatWhileBody
returns-in-RepeatWhileBody c program =
    subst (λ r. OnOk c.decide_on.result (GoesOrMalformed (next program (exit_rest r) (Left (exit_of c.args.exit))) c.args.stacks.now.rests.items c.args.state.now c.decide_on.new.stacks.next c.decide_on.new.stacks.rests.items c.args.state.now)) (sym c.in-RepeatWhileBody.is)
    (c.decide_on.ensures c.args.state.now program)

pub returns-in-ForBody : goal.returns-in-ForBody
returns-in-ForBody c program =
    subst (λ r. OnOk c.step_on.result (GoesOrMalformed (next program (exit_rest r) (Left (exit_of c.args.exit))) c.args.stacks.now.rests.items c.args.state.now c.step_on.new.stacks.next c.step_on.new.stacks.rests.items c.step_on.new.state)) (sym c.in-ForBody.is)
    (c.step_on.ensures program)

pub returns-in-Listed : goal.returns-in-Listed
returns-in-Listed c program =
    subst (λ r. OnOk c.list_left.result (GoesOrMalformed (next program (exit_rest r) (Left (exit_of c.args.exit))) c.args.stacks.now.rests.items c.args.state.now c.list_left.new.stacks.next c.list_left.new.stacks.rests.items c.args.state.now)) (sym c.in-Listed.is)
    (c.list_left.ensures c.args.state.now program)
