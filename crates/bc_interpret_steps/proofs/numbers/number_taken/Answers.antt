use Rattle.std.proofs.Common.{sym, subst, OnOk}
use Rattle.bc_interpret_defs.specs.Machine.{Number, next}
use Rattle.bc_interpret_steps.specs.Code.{number_rest, stack, given}
use Rattle.bc_interpret_steps.specs.Came.{Goes}
use Rattle.bc_interpret_steps.proofs.numbers.number_taken.Goals as goal

pub returns-in-Loads : goal.returns-in-Loads
returns-in-Loads c program =
    let before = c.args.stacks.now.rests.items in
    let st = c.args.state.now in
    subst (λ r. Goes (next program (number_rest (given before) r) (Number c.args.v)) before st c.load-stacks.result before st) (sym c.in-Loads.is)
    (c.load-stacks.ensures program (stack before) (given before))

pub returns-in-Operated : goal.returns-in-Operated
returns-in-Operated c program =
    let before = c.args.stacks.now.rests.items in
    let st = c.args.state.now in
    subst (λ r. Goes (next program (number_rest (given before) r) (Number c.args.v)) before st c.operated-stacks.result before st) (sym c.in-Operated.is)
    (c.operated-stacks.ensures st program (stack before) (given before))

pub returns-in-Operates : goal.returns-in-Operates
returns-in-Operates c program =
    let before = c.args.stacks.now.rests.items in
    let st = c.args.state.now in
    subst (λ r. OnOk c.operates.result (Goes (next program (number_rest (given before) r) (Number c.args.v)) before st c.operates.new.stacks.next c.operates.new.stacks.rests.items st)) (sym c.in-Operates.is)
    (c.operates.ensures st program)

pub returns-in-Argues : goal.returns-in-Argues
returns-in-Argues c program =
    let before = c.args.stacks.now.rests.items in
    let st = c.args.state.now in
    subst (λ r. OnOk c.argues.result (Goes (next program (number_rest (given before) r) (Number c.args.v)) before st c.argues.new.stacks.next c.argues.new.stacks.rests.items st)) (sym c.in-Argues.is)
    (c.argues.ensures st program)
