use Rattle.std.proofs.Common.{◌≡◌, ◌+◌, ap, ◌∙◌, arith}
use Rattle.bc_core.specs.View.{command, items, block_of}
use Rattle.bc_core.proofs.Rows.{if_view, test_view, while_view, repeat_view, repeat_while_view, for_view, switchon_view, nested_view}
use Rattle.bc_interpret_defs.specs.Trails.{roots_of_command, roots_of_block, roots_of_items}
use Rattle.bc_interpret_trace.proofs.roots.+roots.Goals as goal

pub roots_of_command-returns-in-If : goal.roots_of_command-returns-in-If
roots_of_command-returns-in-If t c =
    let e : roots_of_command (command c.args.command.now) ≡ 1 + roots_of_block (block_of c.in-If.body) = ap roots_of_command (ap command c.in-If.is ∙ if_view c.in-If.field-0 c.in-If.body) in
    omega (arith, e)

pub roots_of_command-returns-in-Test : goal.roots_of_command-returns-in-Test
roots_of_command-returns-in-Test t c =
    let e : roots_of_command (command c.args.command.now) ≡ 1 + (roots_of_block (block_of c.in-Test.this) + roots_of_block (block_of c.in-Test.that)) = ap roots_of_command (ap command c.in-Test.is ∙ test_view c.in-Test.field-0 c.in-Test.this c.in-Test.that) in
    omega (arith, e)

pub roots_of_command-returns-in-While : goal.roots_of_command-returns-in-While
roots_of_command-returns-in-While t c =
    let e : roots_of_command (command c.args.command.now) ≡ 1 + roots_of_block (block_of c.in-While.body) = ap roots_of_command (ap command c.in-While.is ∙ while_view c.in-While.field-0 c.in-While.body) in
    omega (arith, e)

pub roots_of_command-returns-in-Repeat : goal.roots_of_command-returns-in-Repeat
roots_of_command-returns-in-Repeat t c =
    let e : roots_of_command (command c.args.command.now) ≡ roots_of_block (block_of c.in-Repeat.body) = ap roots_of_command (ap command c.in-Repeat.is ∙ repeat_view c.in-Repeat.body) in
    omega (arith, e)

pub roots_of_command-returns-in-RepeatWhile : goal.roots_of_command-returns-in-RepeatWhile
roots_of_command-returns-in-RepeatWhile t c =
    let e : roots_of_command (command c.args.command.now) ≡ roots_of_block (block_of c.in-RepeatWhile.body) + 1 = ap roots_of_command (ap command c.in-RepeatWhile.is ∙ repeat_while_view c.in-RepeatWhile.body c.in-RepeatWhile.field-1) in
    omega (arith, e)

pub roots_of_command-returns-in-For : goal.roots_of_command-returns-in-For
roots_of_command-returns-in-For t c =
    let e : roots_of_command (command c.args.command.now) ≡ 2 + roots_of_block (block_of c.in-For.body) = ap roots_of_command (ap command c.in-For.is ∙ for_view c.in-For.start c.in-For.limit c.in-For.by c.in-For.body) in
    omega (arith, e)

pub roots_of_command-returns-in-SwitchOn : goal.roots_of_command-returns-in-SwitchOn
roots_of_command-returns-in-SwitchOn t c =
    let e : roots_of_command (command c.args.command.now) ≡ 1 + roots_of_items (items c.in-SwitchOn.items.items) = ap roots_of_command (ap command c.in-SwitchOn.is ∙ switchon_view c.in-SwitchOn.field-0 c.in-SwitchOn.items) in
    let d : roots_of_items (items c.deref.result.now) ≡ roots_of_items (items c.in-SwitchOn.items.items) = ap (λ is. roots_of_items (items is)) c.deref.ensures.value in
    omega (arith, e, d)

pub roots_of_command-returns-in-Nested : goal.roots_of_command-returns-in-Nested
roots_of_command-returns-in-Nested t c =
    let e : roots_of_command (command c.args.command.now) ≡ roots_of_block (block_of c.in-Nested.body) = ap roots_of_command (ap command c.in-Nested.is ∙ nested_view c.in-Nested.body) in
    omega (arith, e)
