use Rattle.std.proofs.Common.{◌≡◌, ◌+◌, ℕ, List, map, drop, length, ap, ◌∙◌, refl, arith, not, true, false}
use Rattle.bc_core.specs.declared.command.Valof.{Valof}
use Rattle.bc_core.specs.Level.{cells_declared}
use Rattle.bc_core.specs.Commands as commands
use Rattle.bc_core.specs.Commands.{no_item, block}
use Rattle.bc_core.specs.Tree.{Value, Test, Assign, Frame}
use Rattle.bc_core.specs.View.{exp, command, items, items_before, block_of, declarations, variable, root}
use Rattle.bc_core.proofs.Rows.{if_view, test_view, while_view, repeat_view, repeat_while_view, for_view, switchon_view, nested_view}
use Rattle.bc_gen_defs.specs.Emit.{cases_in, emit_items, emit_declarations, emit_variables, emit, emit_block, labels_in, entries_in}
use Rattle.bc_gen_defs.specs.Bodies.{fill, level_of, label_ahead}
use Rattle.bc_rules_defs.specs.View.{derivation}
use Rattle.bc_gen_defs.specs.Entries.{Plain, Begins, count_items, marked_over}
use Rattle.bc_gen.specs.Chosen.{coding}
use Rattle.bc_gen.specs.declared.root_mark.RootMark.{RootMark}
use Rattle.bc_gen.specs.declared.marked_items.MarkedItem.{MarkedItem}
use Rattle.bc_gen.specs.declared.marked_items.MarkedItem.TheVariants as variants
use Rattle.bc_gen.specs.Parts.{parts, mark}
use Rattle.bc_gen.specs.Room.{room_in}
use Rattle.bc_gen.specs.Surroundings.{roots_in, exits_of, valofs_in, bodies_of, label_in, one_piece}
use Rattle.bc_gen.proofs.Weights.{weight, weight_of_items, weight_of_block, weight_of_valofs, weight_if, weight_test, weight_while, weight_repeat, weight_repeat_while, weight_for, weight_switchon, weight_nested, weight_of_one, weight_of_valof}
use Rattle.bc_gen.proofs.Forms.{if_writes, test_writes, while_writes, repeat_writes, repeat_while_writes, for_writes, switchon_writes, block_writes, command_room, command_writes, writes_nothing, written_is, grown, root_marked, two_taken, three_taken}
use Rattle.bc_gen.proofs.Turns.{list_turn, entries_turn, item_room, declarations_turn, declaration_room, declarations_end, variables_turn, variable_room, cells_turn, fill_turn}
use Rattle.bc_gen.proofs.Bodies.{none_before, none_after, outside, valof_has_room, valof_writes}
use Rattle.bc_gen.proofs.Outs.{block_declared, block_labelled, bodies_grow, declarations_out, ended, fails, fill_out, for_ended, for_limited, for_started, for_stepped, for_taken, for_tested, grown_on, if_taken, if_tested, less_one, less_two, limited, list_out, repeat_done, repeat_taken, repeat_while_done, repeat_while_half, repeat_while_taken, rising, root_taken, second, second_of_three, started, switchon_done, switchon_taken, switchon_valued, test_done, test_half, test_taken, test_tested, tested, third, valof_out, variables_out, while_done, while_taken, while_tested}
use Rattle.bc_gen.proofs.Rises.{less}
use Rattle.bc_gen.proofs.writer.Writer.+commands.Goals as goal

pub command-if_command-requires : goal.command-if_command-requires
command-if_command-requires t c =
    let w = ap (λ x. weight (command x)) c.in-If.is ∙ weight_if c.in-If.condition c.in-If.body in
    (omega (arith, w), command_room (room_in c.args.around.now) _ _ c.args.level (ap command c.in-If.is ∙ if_view c.in-If.condition c.in-If.body) c.requires)

pub command-returns-in-If : goal.command-returns-in-If
command-returns-in-If t c =
    command_writes c.if_command.result c.args.self.now c.if_command.new.self (roots_in c.args.around.now) c.args.level (exits_of c.args.around.now) c.args.self.now.next _ _
    (ap command c.in-If.is ∙ if_view c.in-If.condition c.in-If.body) c.if_command.ensures

pub command-test_command-requires : goal.command-test_command-requires
command-test_command-requires t c =
    let w = ap (λ x. weight (command x)) c.in-Test.is ∙ weight_test c.in-Test.test c.in-Test.this c.in-Test.that in
    (omega (arith, w), command_room (room_in c.args.around.now) _ _ c.args.level (ap command c.in-Test.is ∙ test_view c.in-Test.test c.in-Test.this c.in-Test.that) c.requires)

pub command-returns-in-Test : goal.command-returns-in-Test
command-returns-in-Test t c =
    command_writes c.test_command.result c.args.self.now c.test_command.new.self (roots_in c.args.around.now) c.args.level (exits_of c.args.around.now) c.args.self.now.next _ _
    (ap command c.in-Test.is ∙ test_view c.in-Test.test c.in-Test.this c.in-Test.that) c.test_command.ensures

pub command-while_loop-requires : goal.command-while_loop-requires
command-while_loop-requires t c =
    let w = ap (λ x. weight (command x)) c.in-While.is ∙ weight_while c.in-While.condition c.in-While.body in
    (omega (arith, w), command_room (room_in c.args.around.now) _ _ c.args.level (ap command c.in-While.is ∙ while_view c.in-While.condition c.in-While.body) c.requires)

pub command-returns-in-While : goal.command-returns-in-While
command-returns-in-While t c =
    command_writes c.while_loop.result c.args.self.now c.while_loop.new.self (roots_in c.args.around.now) c.args.level (exits_of c.args.around.now) c.args.self.now.next _ _
    (ap command c.in-While.is ∙ while_view c.in-While.condition c.in-While.body) c.while_loop.ensures

pub command-repeat-requires : goal.command-repeat-requires
command-repeat-requires t c =
    let w = ap (λ x. weight (command x)) c.in-Repeat.is ∙ weight_repeat c.in-Repeat.body in
    (omega (arith, w), command_room (room_in c.args.around.now) _ _ c.args.level (ap command c.in-Repeat.is ∙ repeat_view c.in-Repeat.body) c.requires)

pub command-returns-in-Repeat : goal.command-returns-in-Repeat
command-returns-in-Repeat t c =
    command_writes c.repeat.result c.args.self.now c.repeat.new.self (roots_in c.args.around.now) c.args.level (exits_of c.args.around.now) c.args.self.now.next _ _
    (ap command c.in-Repeat.is ∙ repeat_view c.in-Repeat.body) c.repeat.ensures

pub command-repeat_while-requires : goal.command-repeat_while-requires
command-repeat_while-requires t c =
    let w = ap (λ x. weight (command x)) c.in-RepeatWhile.is ∙ weight_repeat_while c.in-RepeatWhile.body c.in-RepeatWhile.condition in
    (omega (arith, w), command_room (room_in c.args.around.now) _ _ c.args.level (ap command c.in-RepeatWhile.is ∙ repeat_while_view c.in-RepeatWhile.body c.in-RepeatWhile.condition) c.requires)

pub command-returns-in-RepeatWhile : goal.command-returns-in-RepeatWhile
command-returns-in-RepeatWhile t c =
    command_writes c.repeat_while.result c.args.self.now c.repeat_while.new.self (roots_in c.args.around.now) c.args.level (exits_of c.args.around.now) c.args.self.now.next _ _
    (ap command c.in-RepeatWhile.is ∙ repeat_while_view c.in-RepeatWhile.body c.in-RepeatWhile.condition) c.repeat_while.ensures

pub command-for_loop-requires : goal.command-for_loop-requires
command-for_loop-requires t c =
    let w = ap (λ x. weight (command x)) c.in-For.is ∙ weight_for c.in-For.start c.in-For.limit c.in-For.by c.in-For.body in
    (omega (arith, w), command_room (room_in c.args.around.now) _ _ c.args.level (ap command c.in-For.is ∙ for_view c.in-For.start c.in-For.limit c.in-For.by c.in-For.body) c.requires)

pub command-returns-in-For : goal.command-returns-in-For
command-returns-in-For t c =
    command_writes c.for_loop.result c.args.self.now c.for_loop.new.self (roots_in c.args.around.now) c.args.level (exits_of c.args.around.now) c.args.self.now.next _ _
    (ap command c.in-For.is ∙ for_view c.in-For.start c.in-For.limit c.in-For.by c.in-For.body) c.for_loop.ensures

pub command-block-requires : goal.command-block-requires
command-block-requires t c =
    let w = ap (λ x. weight (command x)) c.in-Nested.is ∙ weight_nested c.in-Nested.body in
    (omega (arith, w), command_room (room_in c.args.around.now) _ _ c.args.level (ap command c.in-Nested.is ∙ nested_view c.in-Nested.body) c.requires)

pub command-returns-in-Nested : goal.command-returns-in-Nested
command-returns-in-Nested t c =
    command_writes c.block.result c.args.self.now c.block.new.self (roots_in c.args.around.now) c.args.level (exits_of c.args.around.now) c.args.self.now.next _ _
    (ap command c.in-Nested.is ∙ nested_view c.in-Nested.body) c.block.ensures

pub command-switchon-requires : goal.command-switchon-requires
command-switchon-requires t c =
    let w = ap (λ x. weight (command x)) c.in-SwitchOn.is ∙ weight_switchon c.in-SwitchOn.value c.in-SwitchOn.list in
    let d = ap (λ xs. weight_of_items (items xs)) c.deref.ensures.value in
    (omega (arith, w, d), rw c.deref.ensures.value (command_room (room_in c.args.around.now) _ _ c.args.level (ap command c.in-SwitchOn.is ∙ switchon_view c.in-SwitchOn.value c.in-SwitchOn.list) c.requires))

pub command-returns-in-SwitchOn : goal.command-returns-in-SwitchOn
command-returns-in-SwitchOn t c =
    command_writes c.switchon.result c.args.self.now c.switchon.new.self (roots_in c.args.around.now) c.args.level (exits_of c.args.around.now) c.args.self.now.next _ _
    (ap command c.in-SwitchOn.is ∙ switchon_view c.in-SwitchOn.value c.in-SwitchOn.list) (rw c.deref.ensures.value at c.switchon.ensures)

pub list-list_item-requires : goal.list-list_item-requires
list-list_item-requires t c =
    let w = weight_of_one c.args.list.now c.loop-item.item-index c.item-item.result c.loop-item-test.true in
    let e = ap (λ y. weight_of_items (items_before y no_item)) c.item-item.is in
    (omega (arith, w, e), item_room (room_in c.args.around.now) c.args.list.now c.loop-item.item-index c.item-item.result c.args.level c.loop-item-test.true c.item-item.is c.requires.room)

pub list-loop-item-preserved : goal.list-loop-item-preserved
list-loop-item-preserved t c =
    let e = entries_turn c.args.list.now c.loop-item.item-index c.item-item.result c.loop-item.entry c.loop-item-test.true c.item-item.is in
    let turned = list_turn (roots_in c.args.around.now) c.args.level (exits_of c.args.around.now) c.args.list.now c.loop-item.item-index c.item-item.result c.loop-item.entry c.entry_after-entry.result c.args.self.now c.loop-item.self c.list_item.new.self
    (emit_items Plain (roots_in c.args.around.now) (items c.args.list.now) c.args.level (exits_of c.args.around.now) c.args.first c.args.self.now.next)
    c.loop-item-test.true c.item-item.is c.entry_after-entry.ensures c.in_ok-list_item.ensures (c.loop-item.invariant.0, c.loop-item.invariant.1) in
    (turned.0, turned.1, omega (arith, e, c.entry_after-entry.ensures, c.loop-item.invariant.2))

pub block-list-requires : goal.block-list-requires
block-list-requires t c =
    let d = ap (λ xs. weight_of_items (items xs)) c.deref-4.ensures.value in
    let n = ap (λ xs. entries_in (items xs)) c.deref-4.ensures.value in
    let k = rw c.deref-2.ensures.value at c.in_ok-inner.ensures.following in
    (omega (arith, d), (rw (c.deref-4.ensures.value, k) c.requires.2, omega (arith, n, c.requires.1)))

pub block-returns : goal.block-returns
block-returns t c =
    let ls = rw c.deref.ensures.value at c.in_ok-labels.ensures.labels in
    let n = rw c.deref.ensures.value at c.in_ok-labels.ensures.next in
    let ds = rw c.deref-2.ensures.value at c.in_ok-inner.ensures.written in
    let k = rw c.deref-2.ensures.value at c.in_ok-inner.ensures.following in
    let h = rw (c.deref-3.ensures.value, c.deref-4.ensures.value) at c.list.ensures in
    block_writes c.list.result (roots_in c.args.around.now) (exits_of c.args.around.now) c.args.around.now.labels.now (declarations c.args.block.now.declarations.items) (items c.args.block.now.list.items)
    c.args.level c.in_ok-inner.inner c.in_ok-labels.labels.items c.args.self.now c.list_labels.new.self c.declarations.new.self c.list.new.self
    refl ls n c.in_ok-labels.ensures.parts ds k h

pub if_command-returns : goal.if_command-returns
if_command-returns t c =
    if_writes c.label.result (roots_in c.args.around.now) c.args.condition.now.sense (exp c.args.condition.now.test) (block_of c.args.body.now) c.args.level (exits_of c.args.around.now) c.in_ok-past.past
    c.args.self.now c.take.new.self c.test.new.self c.block.new.self c.label.new.self
    c.in_ok-past.ensures.taken c.in_ok-past.ensures.parts c.in_ok-test.ensures c.in_ok-block.ensures c.label.ensures

pub test_command-returns : goal.test_command-returns
test_command-returns t c =
    test_writes c.label-2.result (roots_in c.args.around.now) (exp c.args.test.now) (block_of c.args.this.now) (block_of c.args.that.now) c.args.level (exits_of c.args.around.now) c.in_ok-other.other c.in_ok-past.past
    c.args.self.now c.take.new.self c.take-2.new.self c.test.new.self c.block.new.self c.jump.new.self c.label.new.self c.block-2.new.self c.label-2.new.self
    c.in_ok-other.ensures.taken c.in_ok-other.ensures.parts c.in_ok-past.ensures.taken c.in_ok-past.ensures.parts
    c.in_ok-test.ensures c.in_ok-block.ensures c.in_ok-jump.ensures c.in_ok-label.ensures c.in_ok-block-2.ensures c.label-2.ensures

pub while_loop-returns : goal.while_loop-returns
while_loop-returns t c =
    while_writes c.label-2.result c.args.around.now c.in_loop.result c.args.condition.now.sense (exp c.args.condition.now.test) (block_of c.args.body.now) c.args.level c.in_ok-again.again c.in_ok-past.past
    c.args.self.now c.take.new.self c.take-2.new.self c.label.new.self c.test.new.self c.block.new.self c.jump.new.self c.label-2.new.self
    c.in_ok-again.ensures.taken c.in_ok-again.ensures.parts c.in_ok-past.ensures.taken c.in_ok-past.ensures.parts c.in_loop.ensures
    c.in_ok-label.ensures c.in_ok-test.ensures c.in_ok-block.ensures c.in_ok-jump.ensures c.label-2.ensures

pub repeat-returns : goal.repeat-returns
repeat-returns t c =
    repeat_writes c.label-2.result c.args.around.now c.in_loop.result (block_of c.args.body.now) c.args.level c.in_ok-again.again c.in_ok-past.past
    c.args.self.now c.take.new.self c.take-2.new.self c.label.new.self c.block.new.self c.jump.new.self c.label-2.new.self
    c.in_ok-again.ensures.taken c.in_ok-again.ensures.parts c.in_ok-past.ensures.taken c.in_ok-past.ensures.parts c.in_loop.ensures
    c.in_ok-label.ensures c.in_ok-block.ensures c.in_ok-jump.ensures c.label-2.ensures

pub repeat_while-returns : goal.repeat_while-returns
repeat_while-returns t c =
    repeat_while_writes c.label-3.result c.args.around.now c.in_loop.result c.args.condition.now.sense (exp c.args.condition.now.test) (block_of c.args.body.now) c.args.level c.in_ok-again.again c.in_ok-past.past c.in_ok-onward.onward
    c.args.self.now c.take.new.self c.take-2.new.self c.take-3.new.self c.label.new.self c.block.new.self c.label-2.new.self c.test.new.self c.label-3.new.self
    c.in_ok-again.ensures.taken c.in_ok-again.ensures.parts c.in_ok-past.ensures.taken c.in_ok-past.ensures.parts c.in_ok-onward.ensures.taken c.in_ok-onward.ensures.parts c.in_loop.ensures
    c.in_ok-label.ensures c.in_ok-block.ensures c.in_ok-label-2.ensures c.in_ok-test.ensures c.label-3.ensures

pub for_loop-returns : goal.for_loop-returns
for_loop-returns t c =
    for_writes c.label-3.result (roots_in c.args.around.now) (roots_in c.in_loop.result) (exits_of c.args.around.now) (exits_of c.in_loop.result)
    (exp c.args.start.now) (exp c.args.limit.now) (exp c.in_ok-start.start) (exp c.in_ok-limit.limit) (exp c.in_ok-end.end) (exp c.in_ok-step.step) c.args.by (block_of c.args.body.now)
    c.args.offset (c.args.offset + 2) (c.args.offset + 1) c.in_ok-again.again c.in_ok-past.past c.in_ok-onward.onward
    c.args.self.now c.take.new.self c.take-2.new.self c.take-3.new.self c.set.new.self c.set-2.new.self c.label.new.self c.test.new.self c.block.new.self c.label-2.new.self c.set-3.new.self c.jump.new.self c.label-3.new.self
    c.in_ok-again.ensures.taken c.in_ok-again.ensures.parts c.in_ok-past.ensures.taken c.in_ok-past.ensures.parts c.in_ok-onward.ensures.taken c.in_ok-onward.ensures.parts
    (ap roots_in c.in_loop.ensures) (ap exits_of c.in_loop.ensures) refl refl c.in_ok-start.ensures c.in_ok-limit.ensures c.in_ok-end.ensures c.in_ok-step.ensures
    c.in_ok-set.ensures c.in_ok-set-2.ensures c.in_ok-label.ensures c.in_ok-test.ensures c.in_ok-block.ensures c.in_ok-label-2.ensures c.in_ok-set-3.ensures c.in_ok-jump.ensures c.label-3.ensures

pub switchon-returns : goal.switchon-returns
switchon-returns t c =
    let count : c.new.result ≡ cases_in (items c.args.list.now) = omega (arith, c.new.ensures, c.in_ok-found.ensures.count) in
    let list = rw c.deref.ensures.value at c.in_ok-list.ensures in
    switchon_writes c.label.result (roots_in c.args.around.now) (exits_of c.args.around.now) c.args.around.now.labels.now (exp c.args.value.now) (items c.args.list.now)
    c.args.level c.in_ok-past.past c.in_ok-found.found.first c.in_ok-found.found.default c.new.result c.in_ok-labels.labels.items
    c.args.self.now c.take.new.self c.case_labels.new.self c.value.new.self c.list_labels.new.self c.execute.new.self c.data.new.self c.data_label.new.self c.table.new.self c.list.new.self c.label.new.self
    refl c.in_ok-past.ensures.taken c.in_ok-past.ensures.parts
    c.in_ok-found.ensures.first c.in_ok-found.ensures.default count c.in_ok-found.ensures.next c.in_ok-found.ensures.parts
    c.in_ok-value.ensures c.in_ok-labels.ensures.labels c.in_ok-labels.ensures.next c.in_ok-labels.ensures.parts
    c.in_ok-execute.ensures c.in_ok-data.ensures c.in_ok-data_label.ensures c.in_ok-table.ensures list c.label.ensures

pub declarations-loop-declaration-preserved : goal.declarations-loop-declaration-preserved
declarations-loop-declaration-preserved t c =
    let cells = rw c.deref.ensures.value at c.cells_of_all.ensures in
    let wrote = rw c.deref-in-loop-declaration.ensures.value at c.in_ok-variables.ensures in
    let room = declaration_room (room_in c.args.around.now) c.args.declarations.now c.loop-declaration.declaration-index c.declaration-item.result c.loop-declaration.level c.loop-declaration-test.true c.declaration-item.is c.loop-declaration.invariant.3 in
    let turned = declarations_turn (roots_in c.args.around.now) c.args.declarations.now c.loop-declaration.declaration-index c.declaration-item.result c.loop-declaration.level (c.loop-declaration.level + c.cells_of_all.result) c.cells_of_all.result
    (c.args.level + cells_declared (declarations c.args.declarations.now)) c.args.self.now c.loop-declaration.self c.variables.new.self
    (emit_declarations (roots_in c.args.around.now) (declarations c.args.declarations.now) c.args.level c.args.self.now.next)
    c.loop-declaration-test.true c.declaration-item.is cells refl wrote (c.loop-declaration.invariant.0, c.loop-declaration.invariant.1, c.loop-declaration.invariant.2) in
    (turned.0, turned.1, turned.2, rw cells room.2)

pub declarations-returns-clause-following : goal.declarations-returns-clause-following
declarations-returns-clause-following t c =
    declarations_end c.args.declarations.now c.loop-declaration.declaration-index c.loop-declaration.level (c.args.level + cells_declared (declarations c.args.declarations.now)) c.loop-declaration-test.false c.loop-declaration.invariant.2

pub variables-loop-variable-preserved : goal.variables-loop-variable-preserved
variables-loop-variable-preserved t c =
    let room = variable_room (room_in c.args.around.now) c.args.variables.now c.loop-variable.variable-index c.variable-item.result c.loop-variable.offset c.args.level c.loop-variable-test.true c.variable-item.is c.loop-variable.invariant.2 in
    let cells = cells_turn c.args.variables.now c.loop-variable.variable-index c.variable-item.result c.loop-variable-test.true c.variable-item.is in
    let turned = variables_turn (roots_in c.args.around.now) c.args.level c.args.variables.now c.loop-variable.variable-index c.variable-item.result (exp c.in_ok-value.value) c.loop-variable.offset (c.loop-variable.offset + c.cells_of-offset.result) c.cells_of-offset.result
    c.args.self.now c.loop-variable.self c.set.new.self (emit_variables (roots_in c.args.around.now) (map variable c.args.variables.now) c.args.offset c.args.level c.args.self.now.next)
    c.loop-variable-test.true c.variable-item.is c.in_ok-value.ensures c.cells_of-offset.ensures refl c.in_ok-set.ensures (c.loop-variable.invariant.0, c.loop-variable.invariant.1) in
    (turned.0, turned.1, rw c.cells_of-offset.ensures room.1, omega (arith, cells, c.cells_of-offset.ensures, c.loop-variable.invariant.3))

pub fill-loop-i-preserved : goal.fill-loop-i-preserved
fill-loop-i-preserved t c =
    let levels = level_of (valofs_in c.args.around.now.valofs.now) in
    let bodies = bodies_of (valofs_in c.args.around.now.valofs.now) c.args.around.now.least in
    let ahead = c.label_ahead-label.ensures ∙ ap label_ahead c.following.ensures in
    fill_turn levels bodies c.args.pieces.now c.loop-i.i c.index-pieces-i.result c.label_ahead-label.result c.loop-i.bodies.items c.piece.new.bodies.items c.args.self.now c.loop-i.self c.piece.new.self
    (fill Plain levels bodies c.args.pieces.now c.args.self.now.next) c.loop-i-test.true c.index-pieces-i.is ahead (c.in_ok-piece.ensures.written, c.in_ok-piece.ensures.counts) c.loop-i.invariant

pub body-returns-clause-count : goal.body-returns-clause-count
body-returns-clause-count t c =
    let vs = valofs_in c.args.around.now.valofs.now in
    let code = bodies_of vs c.args.around.now.least c.args.number (level_of vs c.args.number) c.args.label c.args.self.now.next in
    let n : c.len-before.result ≡ length c.args.self.now.parts.items = omega (arith, c.len-before.ensures, c.args.self.now.parts.ok.0) in
    c.count_items.ensures
    ∙ ap (λ (xs : List MarkedItem). count_items (parts xs)) (c.following.ensures ∙ ap (λ (k : ℕ). drop k c.deref.result.now) n ∙ ap (λ (xs : List MarkedItem). drop (length c.args.self.now.parts.items) xs) c.deref.ensures.value)
    ∙ ap count_items (written_is c.args.self.now c.valof.new.self code.0 c.in_ok-valof.ensures.0)

pub valof-returns-then-number-around : goal.valof-returns-then-number-around
valof-returns-then-number-around t c =
    let vs = valofs_in c.args.around.now.valofs.now in
    let n = c.args.number in
    let l = c.args.label in
    let f = c.args.self.now.next in
    let least = c.args.around.now.least in
    writes_nothing c.args.self.now (bodies_of vs least n (level_of vs n) l f)
    (none_before (marked_over coding (level_of vs)) least (drop least vs) n (level_of vs n) l f c.if-number-around.true)

pub valof-returns-in-None : goal.valof-returns-in-None
valof-returns-in-None t c =
    let cvs = c.args.around.now.valofs.now in
    let vs = valofs_in cvs in
    let n = c.args.number in
    let l = c.args.label in
    let f = c.args.self.now.next in
    let least = c.args.around.now.least in
    writes_nothing c.args.self.now (bodies_of vs least n (level_of vs n) l f)
    (none_after (marked_over coding (level_of vs)) least (drop least vs) n (level_of vs n) l f (outside cvs least n c.if-number-around.false c.in-None.ensures.lookup.3))

pub valof-block-requires : goal.valof-block-requires
valof-block-requires t c =
    let cvs = c.args.around.now.valofs.now in
    let n = c.args.number in
    let v = c.in-Some.valof.now in
    let w = weight_of_valof cvs c.args.around.now.least n v c.if-number-around.false c.in-Some.ensures.lookup.3.0 in
    let e = ap (λ (u : Valof). weight_of_block (block_of u.body)) c.in-Some.ensures.lookup.1 in
    let k = ap (λ (j : ℕ). weight_of_valofs (drop j c.body-within.result.valofs.now)) c.body-within.ensures.least in
    let r = ap (λ (us : List Valof). weight_of_valofs (drop (n + 1) us)) c.body-within.ensures.valofs in (
      omega (arith, w, e, k, r),
      valof_has_room c.args.around.now c.body-within.result n v c.if-number-around.false c.in-Some.ensures.lookup.3.0 c.in-Some.ensures.lookup.1
          c.body-within.ensures.valofs c.body-within.ensures.least c.requires,
    )

pub valof-returns-in_ok-block-in-Some : goal.valof-returns-in_ok-block-in-Some
valof-returns-in_ok-block-in-Some t c =
    valof_writes c.zero.result c.args.around.now.valofs.now c.args.around.now.least c.args.number c.in-Some.valof.now (roots_in c.body-within.result) (exits_of c.body-within.result) c.args.label
    c.args.self.now c.block.new.self c.zero.new.self c.if-number-around.false c.in-Some.ensures.lookup.3.0 c.in-Some.ensures.lookup.1 c.body-within.ensures.roots c.body-within.ensures.exits
    c.in_ok-block-in-Some.ensures c.zero.ensures

-- if labels run out in a part of a form
pub if_command-returns-in_err-past : goal.if_command-returns-in_err-past
if_command-returns-in_err-past t c =
    fails c.from_residual.result c.in_err-past.field-0.0 c.args.self.now c.take.new.self (c.args.self.now.next + 1)
    (emit Plain (roots_in c.args.around.now) (commands.If c.args.condition.now.sense (exp c.args.condition.now.test) (block_of c.args.body.now)) c.args.level (exits_of c.args.around.now) c.args.self.now.next)
    c.from_residual.ensures.1 c.in_err-past.ensures.out
    (if_taken (roots_in c.args.around.now) (rising c.args.around.now) c.args.condition.now.sense (exp c.args.condition.now.test) (block_of c.args.body.now) c.args.level (exits_of c.args.around.now) c.args.self.now.next)

pub if_command-returns-in_err-test : goal.if_command-returns-in_err-test
if_command-returns-in_err-test t c =
    fails c.from_residual-in_err-test.result c.in_err-test.field-0.0 c.args.self.now c.test.new.self (roots_in c.args.around.now (Test c.args.level (not c.args.condition.now.sense) (exp c.args.condition.now.test)) c.in_ok-past.past c.take.new.self.next).1
    (emit Plain (roots_in c.args.around.now) (commands.If c.args.condition.now.sense (exp c.args.condition.now.test) (block_of c.args.body.now)) c.args.level (exits_of c.args.around.now) c.args.self.now.next)
    c.from_residual-in_err-test.ensures.1 c.in_err-test.ensures
    (if_tested (roots_in c.args.around.now) (rising c.args.around.now) c.args.condition.now.sense (exp c.args.condition.now.test) (block_of c.args.body.now) c.args.level (exits_of c.args.around.now) c.args.self.now.next _ _ c.in_ok-past.ensures.taken.0 c.in_ok-past.ensures.taken.1)

pub test_command-returns-in_err-other : goal.test_command-returns-in_err-other
test_command-returns-in_err-other t c =
    fails c.from_residual.result c.in_err-other.field-0.0 c.args.self.now c.take.new.self (c.args.self.now.next + 1)
    (emit Plain (roots_in c.args.around.now) (commands.Test (exp c.args.test.now) (block_of c.args.this.now) (block_of c.args.that.now)) c.args.level (exits_of c.args.around.now) c.args.self.now.next)
    c.from_residual.ensures.1 c.in_err-other.ensures.out
    (less_one _ _ (test_taken (roots_in c.args.around.now) (rising c.args.around.now) (exp c.args.test.now) (block_of c.args.this.now) (block_of c.args.that.now) c.args.level (exits_of c.args.around.now) c.args.self.now.next))

pub test_command-returns-in_err-past : goal.test_command-returns-in_err-past
test_command-returns-in_err-past t c =
    fails c.from_residual-in_err-past.result c.in_err-past.field-0.0 c.args.self.now c.take-2.new.self (c.take.new.self.next + 1)
    (emit Plain (roots_in c.args.around.now) (commands.Test (exp c.args.test.now) (block_of c.args.this.now) (block_of c.args.that.now)) c.args.level (exits_of c.args.around.now) c.args.self.now.next)
    c.from_residual-in_err-past.ensures.1 c.in_err-past.ensures.out
    (second _ _ _ c.in_ok-other.ensures.taken.1 (test_taken (roots_in c.args.around.now) (rising c.args.around.now) (exp c.args.test.now) (block_of c.args.this.now) (block_of c.args.that.now) c.args.level (exits_of c.args.around.now) c.args.self.now.next))

pub test_command-returns-in_err-test : goal.test_command-returns-in_err-test
test_command-returns-in_err-test t c =
    fails c.from_residual-in_err-test.result c.in_err-test.field-0.0 c.args.self.now c.test.new.self (roots_in c.args.around.now (Test c.args.level false (exp c.args.test.now)) c.in_ok-other.other c.take-2.new.self.next).1
    (emit Plain (roots_in c.args.around.now) (commands.Test (exp c.args.test.now) (block_of c.args.this.now) (block_of c.args.that.now)) c.args.level (exits_of c.args.around.now) c.args.self.now.next)
    c.from_residual-in_err-test.ensures.1 c.in_err-test.ensures
    (test_tested (roots_in c.args.around.now) (rising c.args.around.now) (exp c.args.test.now) (block_of c.args.this.now) (block_of c.args.that.now) c.args.level (exits_of c.args.around.now) c.args.self.now.next _ _ c.in_ok-other.ensures.taken.0 (two_taken _ _ _ c.in_ok-other.ensures.taken.1 c.in_ok-past.ensures.taken.1))

pub test_command-returns-in_err-block : goal.test_command-returns-in_err-block
test_command-returns-in_err-block t c =
    fails c.from_residual-in_err-block.result c.in_err-block.field-0.0 c.args.self.now c.block.new.self (emit_block Plain (roots_in c.args.around.now) (block_of c.args.this.now) c.args.level (exits_of c.args.around.now) c.test.new.self.next).1
    (emit Plain (roots_in c.args.around.now) (commands.Test (exp c.args.test.now) (block_of c.args.this.now) (block_of c.args.that.now)) c.args.level (exits_of c.args.around.now) c.args.self.now.next)
    c.from_residual-in_err-block.ensures.1 c.in_err-block.ensures
    (test_half (roots_in c.args.around.now) (rising c.args.around.now) (exp c.args.test.now) (block_of c.args.this.now) (block_of c.args.that.now) c.args.level (exits_of c.args.around.now) c.args.self.now.next _ _ _ c.in_ok-other.ensures.taken.0 (two_taken _ _ _ c.in_ok-other.ensures.taken.1 c.in_ok-past.ensures.taken.1) c.in_ok-test.ensures.1)

pub test_command-returns-in_err-block-2 : goal.test_command-returns-in_err-block-2
test_command-returns-in_err-block-2 t c =
    fails c.from_residual-in_err-block-2.result c.in_err-block-2.field-0.0 c.args.self.now c.block-2.new.self (emit_block Plain (roots_in c.args.around.now) (block_of c.args.that.now) c.args.level (exits_of c.args.around.now) c.label.new.self.next).1
    (emit Plain (roots_in c.args.around.now) (commands.Test (exp c.args.test.now) (block_of c.args.this.now) (block_of c.args.that.now)) c.args.level (exits_of c.args.around.now) c.args.self.now.next)
    c.from_residual-in_err-block-2.ensures.1 c.in_err-block-2.ensures
    (test_done (roots_in c.args.around.now) (exp c.args.test.now) (block_of c.args.this.now) (block_of c.args.that.now) c.args.level (exits_of c.args.around.now) c.args.self.now.next _ _ _ _ c.in_ok-other.ensures.taken.0 (two_taken _ _ _ c.in_ok-other.ensures.taken.1 c.in_ok-past.ensures.taken.1) c.in_ok-test.ensures.1 (c.in_ok-label.ensures.1 ∙ c.in_ok-jump.ensures.1 ∙ c.in_ok-block.ensures.1))

pub while_loop-returns-in_err-again : goal.while_loop-returns-in_err-again
while_loop-returns-in_err-again t c =
    fails c.from_residual.result c.in_err-again.field-0.0 c.args.self.now c.take.new.self (c.args.self.now.next + 1)
    (emit Plain (roots_in c.args.around.now) (commands.While c.args.condition.now.sense (exp c.args.condition.now.test) (block_of c.args.body.now)) c.args.level (exits_of c.args.around.now) c.args.self.now.next)
    c.from_residual.ensures.1 c.in_err-again.ensures.out
    (less_one _ _ (while_taken c.args.around.now c.args.condition.now.sense (exp c.args.condition.now.test) (block_of c.args.body.now) c.args.level c.args.self.now.next))

pub while_loop-returns-in_err-past : goal.while_loop-returns-in_err-past
while_loop-returns-in_err-past t c =
    fails c.from_residual-in_err-past.result c.in_err-past.field-0.0 c.args.self.now c.take-2.new.self (c.take.new.self.next + 1)
    (emit Plain (roots_in c.args.around.now) (commands.While c.args.condition.now.sense (exp c.args.condition.now.test) (block_of c.args.body.now)) c.args.level (exits_of c.args.around.now) c.args.self.now.next)
    c.from_residual-in_err-past.ensures.1 c.in_err-past.ensures.out
    (second _ _ _ c.in_ok-again.ensures.taken.1 (while_taken c.args.around.now c.args.condition.now.sense (exp c.args.condition.now.test) (block_of c.args.body.now) c.args.level c.args.self.now.next))

pub while_loop-returns-in_err-test : goal.while_loop-returns-in_err-test
while_loop-returns-in_err-test t c =
    fails c.from_residual-in_err-test.result c.in_err-test.field-0.0 c.args.self.now c.test.new.self (roots_in c.args.around.now (Test c.args.level (not c.args.condition.now.sense) (exp c.args.condition.now.test)) c.in_ok-past.past c.label.new.self.next).1
    (emit Plain (roots_in c.args.around.now) (commands.While c.args.condition.now.sense (exp c.args.condition.now.test) (block_of c.args.body.now)) c.args.level (exits_of c.args.around.now) c.args.self.now.next)
    c.from_residual-in_err-test.ensures.1 c.in_err-test.ensures
    (while_tested c.args.around.now c.args.condition.now.sense (exp c.args.condition.now.test) (block_of c.args.body.now) c.args.level c.args.self.now.next _ _ (c.in_ok-past.ensures.taken.0 ∙ c.in_ok-again.ensures.taken.1) (c.in_ok-label.ensures.1 ∙ (two_taken _ _ _ c.in_ok-again.ensures.taken.1 c.in_ok-past.ensures.taken.1)))

pub while_loop-returns-in_err-block : goal.while_loop-returns-in_err-block
while_loop-returns-in_err-block t c =
    fails c.from_residual-in_err-block.result c.in_err-block.field-0.0 c.args.self.now c.block.new.self (emit_block Plain (roots_in c.in_loop.result) (block_of c.args.body.now) c.args.level (exits_of c.in_loop.result) c.test.new.self.next).1
    (emit Plain (roots_in c.args.around.now) (commands.While c.args.condition.now.sense (exp c.args.condition.now.test) (block_of c.args.body.now)) c.args.level (exits_of c.args.around.now) c.args.self.now.next)
    c.from_residual-in_err-block.ensures.1 c.in_err-block.ensures
    (while_done c.args.around.now c.in_loop.result c.args.condition.now.sense (exp c.args.condition.now.test) (block_of c.args.body.now) c.args.level c.args.self.now.next _ _ _ _ c.in_loop.ensures c.in_ok-again.ensures.taken.0 (c.in_ok-past.ensures.taken.0 ∙ c.in_ok-again.ensures.taken.1) (c.in_ok-label.ensures.1 ∙ (two_taken _ _ _ c.in_ok-again.ensures.taken.1 c.in_ok-past.ensures.taken.1)) c.in_ok-test.ensures.1)

pub repeat-returns-in_err-again : goal.repeat-returns-in_err-again
repeat-returns-in_err-again t c =
    fails c.from_residual.result c.in_err-again.field-0.0 c.args.self.now c.take.new.self (c.args.self.now.next + 1)
    (emit Plain (roots_in c.args.around.now) (commands.Repeat (block_of c.args.body.now)) c.args.level (exits_of c.args.around.now) c.args.self.now.next)
    c.from_residual.ensures.1 c.in_err-again.ensures.out
    (less_one _ _ (repeat_taken c.args.around.now (block_of c.args.body.now) c.args.level c.args.self.now.next))

pub repeat-returns-in_err-past : goal.repeat-returns-in_err-past
repeat-returns-in_err-past t c =
    fails c.from_residual-in_err-past.result c.in_err-past.field-0.0 c.args.self.now c.take-2.new.self (c.take.new.self.next + 1)
    (emit Plain (roots_in c.args.around.now) (commands.Repeat (block_of c.args.body.now)) c.args.level (exits_of c.args.around.now) c.args.self.now.next)
    c.from_residual-in_err-past.ensures.1 c.in_err-past.ensures.out
    (second _ _ _ c.in_ok-again.ensures.taken.1 (repeat_taken c.args.around.now (block_of c.args.body.now) c.args.level c.args.self.now.next))

pub repeat-returns-in_err-block : goal.repeat-returns-in_err-block
repeat-returns-in_err-block t c =
    fails c.from_residual-in_err-block.result c.in_err-block.field-0.0 c.args.self.now c.block.new.self (emit_block Plain (roots_in c.in_loop.result) (block_of c.args.body.now) c.args.level (exits_of c.in_loop.result) c.label.new.self.next).1
    (emit Plain (roots_in c.args.around.now) (commands.Repeat (block_of c.args.body.now)) c.args.level (exits_of c.args.around.now) c.args.self.now.next)
    c.from_residual-in_err-block.ensures.1 c.in_err-block.ensures
    (repeat_done c.args.around.now c.in_loop.result (block_of c.args.body.now) c.args.level c.args.self.now.next _ _ _ c.in_loop.ensures c.in_ok-again.ensures.taken.0 (c.in_ok-past.ensures.taken.0 ∙ c.in_ok-again.ensures.taken.1) (c.in_ok-label.ensures.1 ∙ (two_taken _ _ _ c.in_ok-again.ensures.taken.1 c.in_ok-past.ensures.taken.1)))

pub repeat_while-returns-in_err-again : goal.repeat_while-returns-in_err-again
repeat_while-returns-in_err-again t c =
    fails c.from_residual.result c.in_err-again.field-0.0 c.args.self.now c.take.new.self (c.args.self.now.next + 1)
    (emit Plain (roots_in c.args.around.now) (commands.RepeatWhile (block_of c.args.body.now) c.args.condition.now.sense (exp c.args.condition.now.test)) c.args.level (exits_of c.args.around.now) c.args.self.now.next)
    c.from_residual.ensures.1 c.in_err-again.ensures.out
    (less_two _ _ (repeat_while_taken c.args.around.now (block_of c.args.body.now) c.args.condition.now.sense (exp c.args.condition.now.test) c.args.level c.args.self.now.next))

pub repeat_while-returns-in_err-past : goal.repeat_while-returns-in_err-past
repeat_while-returns-in_err-past t c =
    fails c.from_residual-in_err-past.result c.in_err-past.field-0.0 c.args.self.now c.take-2.new.self (c.take.new.self.next + 1)
    (emit Plain (roots_in c.args.around.now) (commands.RepeatWhile (block_of c.args.body.now) c.args.condition.now.sense (exp c.args.condition.now.test)) c.args.level (exits_of c.args.around.now) c.args.self.now.next)
    c.from_residual-in_err-past.ensures.1 c.in_err-past.ensures.out
    (second_of_three _ _ _ c.in_ok-again.ensures.taken.1 (repeat_while_taken c.args.around.now (block_of c.args.body.now) c.args.condition.now.sense (exp c.args.condition.now.test) c.args.level c.args.self.now.next))

pub repeat_while-returns-in_err-onward : goal.repeat_while-returns-in_err-onward
repeat_while-returns-in_err-onward t c =
    fails c.from_residual-in_err-onward.result c.in_err-onward.field-0.0 c.args.self.now c.take-3.new.self (c.take-2.new.self.next + 1)
    (emit Plain (roots_in c.args.around.now) (commands.RepeatWhile (block_of c.args.body.now) c.args.condition.now.sense (exp c.args.condition.now.test)) c.args.level (exits_of c.args.around.now) c.args.self.now.next)
    c.from_residual-in_err-onward.ensures.1 c.in_err-onward.ensures.out
    (third _ _ _ (two_taken _ _ _ c.in_ok-again.ensures.taken.1 c.in_ok-past.ensures.taken.1) (repeat_while_taken c.args.around.now (block_of c.args.body.now) c.args.condition.now.sense (exp c.args.condition.now.test) c.args.level c.args.self.now.next))

pub repeat_while-returns-in_err-block : goal.repeat_while-returns-in_err-block
repeat_while-returns-in_err-block t c =
    fails c.from_residual-in_err-block.result c.in_err-block.field-0.0 c.args.self.now c.block.new.self (emit_block Plain (roots_in c.in_loop.result) (block_of c.args.body.now) c.args.level (exits_of c.in_loop.result) c.label.new.self.next).1
    (emit Plain (roots_in c.args.around.now) (commands.RepeatWhile (block_of c.args.body.now) c.args.condition.now.sense (exp c.args.condition.now.test)) c.args.level (exits_of c.args.around.now) c.args.self.now.next)
    c.from_residual-in_err-block.ensures.1 c.in_err-block.ensures
    (repeat_while_half c.args.around.now c.in_loop.result (block_of c.args.body.now) c.args.condition.now.sense (exp c.args.condition.now.test) c.args.level c.args.self.now.next _ _ _ c.in_loop.ensures (c.in_ok-past.ensures.taken.0 ∙ c.in_ok-again.ensures.taken.1) (c.in_ok-onward.ensures.taken.0 ∙ (two_taken _ _ _ c.in_ok-again.ensures.taken.1 c.in_ok-past.ensures.taken.1)) (c.in_ok-label.ensures.1 ∙ (three_taken _ _ _ _ c.in_ok-again.ensures.taken.1 c.in_ok-past.ensures.taken.1 c.in_ok-onward.ensures.taken.1)))

pub repeat_while-returns-in_err-test : goal.repeat_while-returns-in_err-test
repeat_while-returns-in_err-test t c =
    fails c.from_residual-in_err-test.result c.in_err-test.field-0.0 c.args.self.now c.test.new.self (roots_in c.args.around.now (Test c.args.level c.args.condition.now.sense (exp c.args.condition.now.test)) c.in_ok-again.again c.label-2.new.self.next).1
    (emit Plain (roots_in c.args.around.now) (commands.RepeatWhile (block_of c.args.body.now) c.args.condition.now.sense (exp c.args.condition.now.test)) c.args.level (exits_of c.args.around.now) c.args.self.now.next)
    c.from_residual-in_err-test.ensures.1 c.in_err-test.ensures
    (repeat_while_done c.args.around.now c.in_loop.result (block_of c.args.body.now) c.args.condition.now.sense (exp c.args.condition.now.test) c.args.level c.args.self.now.next _ _ _ _ _ c.in_loop.ensures c.in_ok-again.ensures.taken.0 (c.in_ok-past.ensures.taken.0 ∙ c.in_ok-again.ensures.taken.1) (c.in_ok-onward.ensures.taken.0 ∙ (two_taken _ _ _ c.in_ok-again.ensures.taken.1 c.in_ok-past.ensures.taken.1)) (c.in_ok-label.ensures.1 ∙ (three_taken _ _ _ _ c.in_ok-again.ensures.taken.1 c.in_ok-past.ensures.taken.1 c.in_ok-onward.ensures.taken.1)) (c.in_ok-label-2.ensures.1 ∙ c.in_ok-block.ensures.1))

pub for_loop-returns-in_err-again : goal.for_loop-returns-in_err-again
for_loop-returns-in_err-again t c =
    fails c.from_residual.result c.in_err-again.field-0.0 c.args.self.now c.take.new.self (c.args.self.now.next + 1)
    (emit Plain (roots_in c.args.around.now) (commands.For (exp c.args.start.now) (exp c.args.limit.now) c.args.by (block_of c.args.body.now)) c.args.offset (exits_of c.args.around.now) c.args.self.now.next)
    c.from_residual.ensures.1 c.in_err-again.ensures.out
    (less_two _ _ (for_taken (roots_in c.args.around.now) (rising c.args.around.now) (exits_of c.args.around.now) (exp c.args.start.now) (exp c.args.limit.now) c.args.by (block_of c.args.body.now) c.args.offset c.args.self.now.next))

pub for_loop-returns-in_err-past : goal.for_loop-returns-in_err-past
for_loop-returns-in_err-past t c =
    fails c.from_residual-in_err-past.result c.in_err-past.field-0.0 c.args.self.now c.take-2.new.self (c.take.new.self.next + 1)
    (emit Plain (roots_in c.args.around.now) (commands.For (exp c.args.start.now) (exp c.args.limit.now) c.args.by (block_of c.args.body.now)) c.args.offset (exits_of c.args.around.now) c.args.self.now.next)
    c.from_residual-in_err-past.ensures.1 c.in_err-past.ensures.out
    (second_of_three _ _ _ c.in_ok-again.ensures.taken.1 (for_taken (roots_in c.args.around.now) (rising c.args.around.now) (exits_of c.args.around.now) (exp c.args.start.now) (exp c.args.limit.now) c.args.by (block_of c.args.body.now) c.args.offset c.args.self.now.next))

pub for_loop-returns-in_err-onward : goal.for_loop-returns-in_err-onward
for_loop-returns-in_err-onward t c =
    fails c.from_residual-in_err-onward.result c.in_err-onward.field-0.0 c.args.self.now c.take-3.new.self (c.take-2.new.self.next + 1)
    (emit Plain (roots_in c.args.around.now) (commands.For (exp c.args.start.now) (exp c.args.limit.now) c.args.by (block_of c.args.body.now)) c.args.offset (exits_of c.args.around.now) c.args.self.now.next)
    c.from_residual-in_err-onward.ensures.1 c.in_err-onward.ensures.out
    (third _ _ _ (two_taken _ _ _ c.in_ok-again.ensures.taken.1 c.in_ok-past.ensures.taken.1) (for_taken (roots_in c.args.around.now) (rising c.args.around.now) (exits_of c.args.around.now) (exp c.args.start.now) (exp c.args.limit.now) c.args.by (block_of c.args.body.now) c.args.offset c.args.self.now.next))

pub for_loop-returns-in_err-set : goal.for_loop-returns-in_err-set
for_loop-returns-in_err-set t c =
    fails c.from_residual-in_err-set.result c.in_err-set.field-0.0 c.args.self.now c.set.new.self (roots_in c.args.around.now (Assign (c.args.offset + 2) (exp c.in_ok-start.start) (Frame c.args.offset)) 0 c.take-3.new.self.next).1
    (emit Plain (roots_in c.args.around.now) (commands.For (exp c.args.start.now) (exp c.args.limit.now) c.args.by (block_of c.args.body.now)) c.args.offset (exits_of c.args.around.now) c.args.self.now.next)
    c.from_residual-in_err-set.ensures.1 c.in_err-set.ensures
    (for_started (roots_in c.args.around.now) (rising c.args.around.now) (exits_of c.args.around.now) (exp c.args.start.now) (exp c.args.limit.now) c.args.by (block_of c.args.body.now) c.args.offset c.args.self.now.next _ (started (roots_in c.args.around.now) c.args.offset c.args.self.now.next (c.args.offset + 2) _ _ _ refl c.in_ok-start.ensures (three_taken _ _ _ _ c.in_ok-again.ensures.taken.1 c.in_ok-past.ensures.taken.1 c.in_ok-onward.ensures.taken.1)))

pub for_loop-returns-in_err-set-2 : goal.for_loop-returns-in_err-set-2
for_loop-returns-in_err-set-2 t c =
    fails c.from_residual-in_err-set-2.result c.in_err-set-2.field-0.0 c.args.self.now c.set-2.new.self (roots_in c.args.around.now (Assign (c.args.offset + 2) (exp c.in_ok-limit.limit) (Frame (c.args.offset + 1))) 0 c.set.new.self.next).1
    (emit Plain (roots_in c.args.around.now) (commands.For (exp c.args.start.now) (exp c.args.limit.now) c.args.by (block_of c.args.body.now)) c.args.offset (exits_of c.args.around.now) c.args.self.now.next)
    c.from_residual-in_err-set-2.ensures.1 c.in_err-set-2.ensures
    (for_limited (roots_in c.args.around.now) (rising c.args.around.now) (exits_of c.args.around.now) (exp c.args.start.now) (exp c.args.limit.now) c.args.by (block_of c.args.body.now) c.args.offset c.args.self.now.next _ (limited (roots_in c.args.around.now) c.args.offset c.args.self.now.next (c.args.offset + 2) _ _ _ _ _ refl refl c.in_ok-limit.ensures (c.in_ok-set.ensures.1 ∙ started (roots_in c.args.around.now) c.args.offset c.args.self.now.next (c.args.offset + 2) _ _ _ refl c.in_ok-start.ensures (three_taken _ _ _ _ c.in_ok-again.ensures.taken.1 c.in_ok-past.ensures.taken.1 c.in_ok-onward.ensures.taken.1))))

pub for_loop-returns-in_err-test : goal.for_loop-returns-in_err-test
for_loop-returns-in_err-test t c =
    fails c.from_residual-in_err-test.result c.in_err-test.field-0.0 c.args.self.now c.test.new.self (roots_in c.args.around.now (Test (c.args.offset + 2) true (exp c.in_ok-end.end)) c.in_ok-past.past c.label.new.self.next).1
    (emit Plain (roots_in c.args.around.now) (commands.For (exp c.args.start.now) (exp c.args.limit.now) c.args.by (block_of c.args.body.now)) c.args.offset (exits_of c.args.around.now) c.args.self.now.next)
    c.from_residual-in_err-test.ensures.1 c.in_err-test.ensures
    (for_tested (roots_in c.args.around.now) (rising c.args.around.now) (exits_of c.args.around.now) (exp c.args.start.now) (exp c.args.limit.now) c.args.by (block_of c.args.body.now) c.args.offset c.args.self.now.next _ (tested (roots_in c.args.around.now) c.args.offset c.args.self.now.next (c.args.offset + 2) c.args.by _ _ _ _ _ refl c.in_ok-end.ensures (c.in_ok-past.ensures.taken.0 ∙ c.in_ok-again.ensures.taken.1) (c.in_ok-label.ensures.1 ∙ c.in_ok-set-2.ensures.1 ∙ limited (roots_in c.args.around.now) c.args.offset c.args.self.now.next (c.args.offset + 2) _ _ _ _ _ refl refl c.in_ok-limit.ensures (c.in_ok-set.ensures.1 ∙ started (roots_in c.args.around.now) c.args.offset c.args.self.now.next (c.args.offset + 2) _ _ _ refl c.in_ok-start.ensures (three_taken _ _ _ _ c.in_ok-again.ensures.taken.1 c.in_ok-past.ensures.taken.1 c.in_ok-onward.ensures.taken.1)))))

pub for_loop-returns-in_err-block : goal.for_loop-returns-in_err-block
for_loop-returns-in_err-block t c =
    fails c.from_residual-in_err-block.result c.in_err-block.field-0.0 c.args.self.now c.block.new.self (emit_block Plain (roots_in c.in_loop.result) (block_of c.args.body.now) (c.args.offset + 2) (exits_of c.in_loop.result) c.test.new.self.next).1
    (emit Plain (roots_in c.args.around.now) (commands.For (exp c.args.start.now) (exp c.args.limit.now) c.args.by (block_of c.args.body.now)) c.args.offset (exits_of c.args.around.now) c.args.self.now.next)
    c.from_residual-in_err-block.ensures.1 c.in_err-block.ensures
    (for_ended (roots_in c.args.around.now) (rising c.args.around.now) (exits_of c.args.around.now) (exp c.args.start.now) (exp c.args.limit.now) c.args.by (block_of c.args.body.now) c.args.offset c.args.self.now.next _ (ended c.args.around.now c.in_loop.result (block_of c.args.body.now) c.args.offset c.args.self.now.next (c.args.offset + 2) c.args.by (exp c.args.start.now) (exp c.args.limit.now) _ _ _ refl c.in_loop.ensures (c.in_ok-past.ensures.taken.0 ∙ c.in_ok-again.ensures.taken.1) (c.in_ok-onward.ensures.taken.0 ∙ (two_taken _ _ _ c.in_ok-again.ensures.taken.1 c.in_ok-past.ensures.taken.1)) (c.in_ok-test.ensures.1 ∙ tested (roots_in c.args.around.now) c.args.offset c.args.self.now.next (c.args.offset + 2) c.args.by _ _ _ _ _ refl c.in_ok-end.ensures (c.in_ok-past.ensures.taken.0 ∙ c.in_ok-again.ensures.taken.1) (c.in_ok-label.ensures.1 ∙ c.in_ok-set-2.ensures.1 ∙ limited (roots_in c.args.around.now) c.args.offset c.args.self.now.next (c.args.offset + 2) _ _ _ _ _ refl refl c.in_ok-limit.ensures (c.in_ok-set.ensures.1 ∙ started (roots_in c.args.around.now) c.args.offset c.args.self.now.next (c.args.offset + 2) _ _ _ refl c.in_ok-start.ensures (three_taken _ _ _ _ c.in_ok-again.ensures.taken.1 c.in_ok-past.ensures.taken.1 c.in_ok-onward.ensures.taken.1))))))

pub for_loop-returns-in_err-set-3 : goal.for_loop-returns-in_err-set-3
for_loop-returns-in_err-set-3 t c =
    fails c.from_residual-in_err-set-3.result c.in_err-set-3.field-0.0 c.args.self.now c.set-3.new.self (roots_in c.args.around.now (Assign (c.args.offset + 2) (exp c.in_ok-step.step) (Frame c.args.offset)) 0 c.label-2.new.self.next).1
    (emit Plain (roots_in c.args.around.now) (commands.For (exp c.args.start.now) (exp c.args.limit.now) c.args.by (block_of c.args.body.now)) c.args.offset (exits_of c.args.around.now) c.args.self.now.next)
    c.from_residual-in_err-set-3.ensures.1 c.in_err-set-3.ensures
    (for_stepped (roots_in c.args.around.now) (exits_of c.args.around.now) (exp c.args.start.now) (exp c.args.limit.now) c.args.by (block_of c.args.body.now) c.args.offset c.args.self.now.next (c.args.offset + 2) _ _ refl c.in_ok-step.ensures (c.in_ok-label-2.ensures.1 ∙ c.in_ok-block.ensures.1 ∙ ended c.args.around.now c.in_loop.result (block_of c.args.body.now) c.args.offset c.args.self.now.next (c.args.offset + 2) c.args.by (exp c.args.start.now) (exp c.args.limit.now) _ _ _ refl c.in_loop.ensures (c.in_ok-past.ensures.taken.0 ∙ c.in_ok-again.ensures.taken.1) (c.in_ok-onward.ensures.taken.0 ∙ (two_taken _ _ _ c.in_ok-again.ensures.taken.1 c.in_ok-past.ensures.taken.1)) (c.in_ok-test.ensures.1 ∙ tested (roots_in c.args.around.now) c.args.offset c.args.self.now.next (c.args.offset + 2) c.args.by _ _ _ _ _ refl c.in_ok-end.ensures (c.in_ok-past.ensures.taken.0 ∙ c.in_ok-again.ensures.taken.1) (c.in_ok-label.ensures.1 ∙ c.in_ok-set-2.ensures.1 ∙ limited (roots_in c.args.around.now) c.args.offset c.args.self.now.next (c.args.offset + 2) _ _ _ _ _ refl refl c.in_ok-limit.ensures (c.in_ok-set.ensures.1 ∙ started (roots_in c.args.around.now) c.args.offset c.args.self.now.next (c.args.offset + 2) _ _ _ refl c.in_ok-start.ensures (three_taken _ _ _ _ c.in_ok-again.ensures.taken.1 c.in_ok-past.ensures.taken.1 c.in_ok-onward.ensures.taken.1))))))

pub switchon-returns-in_err-past : goal.switchon-returns-in_err-past
switchon-returns-in_err-past t c =
    fails c.from_residual.result c.in_err-past.field-0.0 c.args.self.now c.take.new.self (c.args.self.now.next + 1)
    (emit Plain (roots_in c.args.around.now) (commands.SwitchOn (exp c.args.value.now) (items c.args.list.now)) c.args.level (exits_of c.args.around.now) c.args.self.now.next)
    c.from_residual.ensures.1 c.in_err-past.ensures.out
    (less _ (entries_in (items c.args.list.now)) _ (switchon_taken (roots_in c.args.around.now) (rising c.args.around.now) (exits_of c.args.around.now) (exp c.args.value.now) (items c.args.list.now) c.args.level c.args.self.now.next))

pub switchon-returns-in_err-found : goal.switchon-returns-in_err-found
switchon-returns-in_err-found t c =
    fails c.from_residual-in_err-found.result c.in_err-found.field-0.0 c.args.self.now c.case_labels.new.self (c.take.new.self.next + entries_in (items c.args.list.now))
    (emit Plain (roots_in c.args.around.now) (commands.SwitchOn (exp c.args.value.now) (items c.args.list.now)) c.args.level (exits_of c.args.around.now) c.args.self.now.next)
    c.from_residual-in_err-found.ensures.1 c.in_err-found.ensures.out
    (grown_on _ _ _ _ c.in_ok-past.ensures.taken.1 (switchon_taken (roots_in c.args.around.now) (rising c.args.around.now) (exits_of c.args.around.now) (exp c.args.value.now) (items c.args.list.now) c.args.level c.args.self.now.next))

pub switchon-returns-in_err-value : goal.switchon-returns-in_err-value
switchon-returns-in_err-value t c =
    fails c.from_residual-in_err-value.result c.in_err-value.field-0.0 c.args.self.now c.value.new.self (roots_in c.args.around.now (Value c.args.level (exp c.args.value.now)) 0 c.case_labels.new.self.next).1
    (emit Plain (roots_in c.args.around.now) (commands.SwitchOn (exp c.args.value.now) (items c.args.list.now)) c.args.level (exits_of c.args.around.now) c.args.self.now.next)
    c.from_residual-in_err-value.ensures.1 c.in_err-value.ensures
    (less _ (labels_in (items c.args.list.now)) _ (switchon_valued (roots_in c.args.around.now) (rising c.args.around.now) (exits_of c.args.around.now) (exp c.args.value.now) (items c.args.list.now) c.args.level c.args.self.now.next _ (ap (λ (k : ℕ). (roots_in c.args.around.now (Value c.args.level (exp c.args.value.now)) 0 k).1) (c.in_ok-found.ensures.next ∙ ap (λ (k : ℕ). k + entries_in (items c.args.list.now)) c.in_ok-past.ensures.taken.1))))

pub switchon-returns-in_err-labels : goal.switchon-returns-in_err-labels
switchon-returns-in_err-labels t c =
    fails c.from_residual-in_err-labels.result c.in_err-labels.field-0.0 c.args.self.now c.list_labels.new.self (c.value.new.self.next + labels_in (items c.args.list.now))
    (emit Plain (roots_in c.args.around.now) (commands.SwitchOn (exp c.args.value.now) (items c.args.list.now)) c.args.level (exits_of c.args.around.now) c.args.self.now.next)
    c.from_residual-in_err-labels.ensures.1 c.in_err-labels.ensures.out
    (switchon_valued (roots_in c.args.around.now) (rising c.args.around.now) (exits_of c.args.around.now) (exp c.args.value.now) (items c.args.list.now) c.args.level c.args.self.now.next _ (c.in_ok-value.ensures.1 ∙ ap (λ (k : ℕ). (roots_in c.args.around.now (Value c.args.level (exp c.args.value.now)) 0 k).1) (c.in_ok-found.ensures.next ∙ ap (λ (k : ℕ). k + entries_in (items c.args.list.now)) c.in_ok-past.ensures.taken.1)))

pub switchon-returns-in_err-list : goal.switchon-returns-in_err-list
switchon-returns-in_err-list t c =
    fails c.from_residual-in_err-list.result c.in_err-list.field-0.0 c.args.self.now c.list.new.self (emit_items Plain (roots_in c.args.around.now) (items c.args.list.now) c.args.level (record (exits_of c.args.around.now) { cases = c.in_ok-past.past; labels = λ n. label_in c.in_ok-labels.labels.items n 0 }) c.in_ok-found.found.first c.table.new.self.next).1
    (emit Plain (roots_in c.args.around.now) (commands.SwitchOn (exp c.args.value.now) (items c.args.list.now)) c.args.level (exits_of c.args.around.now) c.args.self.now.next)
    c.from_residual-in_err-list.ensures.1 (rw c.deref.ensures.value at c.in_err-list.ensures)
    (switchon_done (roots_in c.args.around.now) (exits_of c.args.around.now) c.args.around.now.labels.now (exp c.args.value.now) (items c.args.list.now) c.args.level _ _ _ c.args.self.now.next _ _ _ _ refl c.in_ok-past.ensures.taken.0 c.in_ok-past.ensures.taken.1 c.in_ok-found.ensures.first c.in_ok-found.ensures.next c.in_ok-value.ensures.1 c.in_ok-labels.ensures.labels (c.in_ok-table.ensures.1 ∙ c.in_ok-data_label.ensures.1 ∙ c.in_ok-data.ensures.1 ∙ c.in_ok-execute.ensures.1 ∙ c.in_ok-labels.ensures.next))

pub block-returns-in_err-labels : goal.block-returns-in_err-labels
block-returns-in_err-labels t c =
    fails c.from_residual.result c.in_err-labels.field-0.0 c.args.self.now c.list_labels.new.self (c.args.self.now.next + labels_in (items c.args.block.now.list.items))
    (emit_block Plain (roots_in c.args.around.now) (block (declarations c.args.block.now.declarations.items) (items c.args.block.now.list.items)) c.args.level (exits_of c.args.around.now) c.args.self.now.next)
    c.from_residual.ensures.1 (rw c.deref.ensures.value at c.in_err-labels.ensures.out)
    (block_labelled (roots_in c.args.around.now) (rising c.args.around.now) (declarations c.args.block.now.declarations.items) (items c.args.block.now.list.items) c.args.level (exits_of c.args.around.now) c.args.self.now.next)

pub block-returns-in_err-inner : goal.block-returns-in_err-inner
block-returns-in_err-inner t c =
    fails c.from_residual-in_err-inner.result c.in_err-inner.field-0.0 c.args.self.now c.declarations.new.self (emit_declarations (roots_in c.args.around.now) (declarations c.args.block.now.declarations.items) c.args.level c.list_labels.new.self.next).1
    (emit_block Plain (roots_in c.args.around.now) (block (declarations c.args.block.now.declarations.items) (items c.args.block.now.list.items)) c.args.level (exits_of c.args.around.now) c.args.self.now.next)
    c.from_residual-in_err-inner.ensures.1 (rw c.deref-2.ensures.value at c.in_err-inner.ensures.written)
    (block_declared (roots_in c.args.around.now) (rising c.args.around.now) (declarations c.args.block.now.declarations.items) (items c.args.block.now.list.items) c.args.level (exits_of c.args.around.now) c.args.self.now.next _ (rw c.deref.ensures.value at c.in_ok-labels.ensures.next))

pub list-returns-in_err-list_item : goal.list-returns-in_err-list_item
list-returns-in_err-list_item t c =
    fails c.from_residual.result c.in_err-list_item.field-0.0 c.args.self.now c.list_item.new.self (emit_items Plain (roots_in c.args.around.now) (items_before c.item-item.result no_item) c.args.level (exits_of c.args.around.now) c.loop-item.entry c.loop-item.self.next).1
    (emit_items Plain (roots_in c.args.around.now) (items c.args.list.now) c.args.level (exits_of c.args.around.now) c.args.first c.args.self.now.next)
    c.from_residual.ensures.1 c.in_err-list_item.ensures
    (list_out (roots_in c.args.around.now) (rising c.args.around.now) c.args.level (exits_of c.args.around.now) c.args.list.now c.loop-item.item-index c.item-item.result c.loop-item.entry c.loop-item.self.next _ c.loop-item-test.true c.item-item.is c.loop-item.invariant.1)

pub declarations-returns-in_err-variables-clause-written : goal.declarations-returns-in_err-variables-clause-written
declarations-returns-in_err-variables-clause-written t c =
    fails c.from_residual.result c.in_err-variables.field-0.0 c.args.self.now c.variables.new.self (emit_variables (roots_in c.args.around.now) (map variable c.declaration-item.result.variables.items) c.loop-declaration.level (c.loop-declaration.level + c.cells_of_all.result) c.loop-declaration.self.next).1
    (emit_declarations (roots_in c.args.around.now) (declarations c.args.declarations.now) c.args.level c.args.self.now.next)
    c.from_residual.ensures.1 (rw c.deref-in-loop-declaration.ensures.value at c.in_err-variables.ensures)
    (declarations_out (roots_in c.args.around.now) (rising c.args.around.now) c.args.declarations.now c.loop-declaration.declaration-index c.declaration-item.result c.loop-declaration.level (c.loop-declaration.level + c.cells_of_all.result) c.cells_of_all.result c.loop-declaration.self.next _ c.loop-declaration-test.true c.declaration-item.is (rw c.deref.ensures.value at c.cells_of_all.ensures) refl c.loop-declaration.invariant.1)

pub variables-returns-in_err-set : goal.variables-returns-in_err-set
variables-returns-in_err-set t c =
    fails c.from_residual-in_err-set.result c.in_err-set.field-0.0 c.args.self.now c.set.new.self (roots_in c.args.around.now (Assign c.args.level (exp c.in_ok-value.value) (Frame c.loop-variable.offset)) 0 c.loop-variable.self.next).1
    (emit_variables (roots_in c.args.around.now) (map variable c.args.variables.now) c.args.offset c.args.level c.args.self.now.next)
    c.from_residual-in_err-set.ensures.1 c.in_err-set.ensures
    (variables_out (roots_in c.args.around.now) (rising c.args.around.now) c.args.level c.args.variables.now c.loop-variable.variable-index c.variable-item.result (exp c.in_ok-value.value) c.loop-variable.offset c.loop-variable.self.next _ c.loop-variable-test.true c.variable-item.is c.in_ok-value.ensures c.loop-variable.invariant.1)

pub fill-returns-in_err-piece-clause-written : goal.fill-returns-in_err-piece-clause-written
fill-returns-in_err-piece-clause-written t c =
    let whole = fill Plain (level_of (valofs_in c.args.around.now.valofs.now)) (bodies_of (valofs_in c.args.around.now.valofs.now) c.args.around.now.least) c.args.pieces.now c.args.self.now.next in
    let ahead = c.label_ahead-label.ensures ∙ ap label_ahead c.following.ensures in
    fails c.from_residual.result c.in_err-piece.field-0.0 c.args.self.now c.piece.new.self (one_piece (level_of (valofs_in c.args.around.now.valofs.now)) (bodies_of (valofs_in c.args.around.now.valofs.now) c.args.around.now.least) c.index-pieces-i.result c.label_ahead-label.result c.loop-i.self.next).1
    (whole.0, whole.1) c.from_residual.ensures.1 c.in_err-piece.ensures.written
    (fill_out (level_of (valofs_in c.args.around.now.valofs.now)) (bodies_of (valofs_in c.args.around.now.valofs.now) c.args.around.now.least) (bodies_grow (valofs_in c.args.around.now.valofs.now) c.args.around.now.least) c.args.pieces.now c.loop-i.i c.index-pieces-i.result c.label_ahead-label.result c.loop-i.self.next _
    c.loop-i-test.true c.index-pieces-i.is ahead c.loop-i.invariant.1)

pub root-returns-in_err-code : goal.root-returns-in_err-code
root-returns-in_err-code t c =
    let r = root c.args.root in
    fails c.from_residual-in_err-code.result c.in_err-code.field-0.0 c.args.self.now c.coded.new.self (c.args.self.now.next + coding.labels r) (roots_in c.args.around.now r c.args.target c.args.self.now.next)
    c.from_residual-in_err-code.ensures.1 c.in_err-code.ensures.out (root_taken c.args.around.now r c.args.target c.args.self.now.next)

pub root-insert-requires : goal.root-insert-requires
root-insert-requires t c =
    let g = grown c.coded.new.self c.fill.new.self _ c.in_ok-bodies.ensures.written.0 in
    omega (arith, g, c.len-at.ensures, c.coded.new.self.parts.ok.0, c.fill.new.self.parts.ok.0)

pub root-returns : goal.root-returns
root-returns t c =
    root_marked c.args.around.now (root c.args.root) c.args.target (derivation c.in_ok-derivation.field-0.derivation) c.deref.result.now c.in_ok-bodies.bodies.items c.args.self.now c.coded.new.self c.fill.new.self
    c.insert.new.self.items (variants.Begins c.in_ok-new.field-0) c.len-at.result
    c.in_ok-derivation.ensures.derivation (c.deref.ensures.value ∙ c.in_ok-code.ensures.chosen) c.in_ok-code.ensures.next c.in_ok-code.ensures.parts
    (c.in_ok-bodies.ensures.written, c.in_ok-bodies.ensures.counts) (ap (λ (m : RootMark). Begins (mark m)) c.in_ok-new.ensures.ok) (omega (arith, c.len-at.ensures, c.coded.new.self.parts.ok.0))
    c.in_ok-insert.ensures.items

pub valof-returns-in_err-block-in-Some : goal.valof-returns-in_err-block-in-Some
valof-returns-in_err-block-in-Some t c =
    let vs = valofs_in c.args.around.now.valofs.now in
    let least = c.args.around.now.least in
    fails c.from_residual.result c.in_err-block-in-Some.field-0.0 c.args.self.now c.block.new.self
    (emit_block Plain (roots_in c.body-within.result) (block_of c.in-Some.valof.now.body) c.in-Some.valof.now.level (exits_of c.body-within.result) c.args.self.now.next).1
    (bodies_of vs least c.args.number (level_of vs c.args.number) c.args.label c.args.self.now.next)
    c.from_residual.ensures.1 c.in_err-block-in-Some.ensures
    (valof_out c.args.around.now.valofs.now least c.args.number c.in-Some.valof.now (roots_in c.body-within.result) (exits_of c.body-within.result) c.args.label c.args.self.now.next
    c.if-number-around.false c.in-Some.ensures.lookup.3.0 c.in-Some.ensures.lookup.1 c.body-within.ensures.roots c.body-within.ensures.exits)
