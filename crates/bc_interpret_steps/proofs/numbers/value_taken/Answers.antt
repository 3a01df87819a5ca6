use Rattle.std.proofs.Common.{sym, subst, OnOk}
use Rattle.bc_interpret_defs.specs.Machine.{Number, next}
use Rattle.bc_interpret_steps.specs.Code.{value_rest, stack, given}
use Rattle.bc_interpret_steps.specs.Came.{Goes}
use Rattle.bc_interpret_steps.proofs.numbers.value_taken.Goals as goal

pub returns-in-Stored : goal.returns-in-Stored
returns-in-Stored c program =
    let before = c.args.stacks.now.rests.items in
    subst (λ r. Goes (next program (value_rest r) (Number c.args.v)) before c.args.state.now c.store-stacks.result before c.store-stacks.new.state) (sym c.in-Stored.is)
    (c.store-stacks.ensures program (stack before) (given before))

pub returns-in-StoresAt : goal.returns-in-StoresAt
returns-in-StoresAt c program =
    let before = c.args.stacks.now.rests.items in
    subst (λ r. Goes (next program (value_rest r) (Number c.args.v)) before c.args.state.now c.store-stacks-in-StoresAt.result before c.store-stacks-in-StoresAt.new.state) (sym c.in-StoresAt.is)
    (c.store-stacks-in-StoresAt.ensures program (stack before) (given before))

pub returns-in-Stores : goal.returns-in-Stores
returns-in-Stores c program =
    let before = c.args.stacks.now.rests.items in
    let st = c.args.state.now in
    subst (λ r. OnOk c.stores.result (Goes (next program (value_rest r) (Number c.args.v)) before st c.stores.new.stacks.next c.stores.new.stacks.rests.items st)) (sym c.in-Stores.is)
    (c.stores.ensures st program)

pub returns-in-Switches : goal.returns-in-Switches
returns-in-Switches c program =
    let before = c.args.stacks.now.rests.items in
    let st = c.args.state.now in
    subst (λ r. OnOk c.switches.result (Goes (next program (value_rest r) (Number c.args.v)) before st c.switches.new.stacks.next c.switches.new.stacks.rests.items st)) (sym c.in-Switches.is)
    (c.switches.ensures st program)
