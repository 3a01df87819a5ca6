use Rattle.std.proofs.Common.{◌≡◌, ◌≤◌, ◌+◌, ◌*◌, ◌++◌, map, drop}
use Rattle.bc_core.specs.Commands.{no_item}
use Rattle.bc_core.specs.View.{block_of, items, items_before, command, declarations as declarations_view, variable as variable_view}
use Rattle.bc_core.specs.Level.{cells_of_all, cells_declared}
use Rattle.bc_gen_defs.specs.Emit.{emit_items, emit_variables, emit_declarations, entries_in}
use Rattle.bc_gen_defs.specs.Bodies.{level_of, fill}
use Rattle.bc_gen_defs.specs.Entries.{Plain, count_items}
use Rattle.bc_gen.specs.Parts.{parts}
use Rattle.bc_gen.specs.Room.{room_in, VariablesHaveRoom, DeclarationsHaveRoom}
use Rattle.bc_gen.specs.Surroundings.{roots_in, exits_of, bodies_of, valofs_in}
use Rattle.bc_gen.proofs.Weights.{weight, weight_of_block, weight_of_items, weight_around}
use Rattle.bc_gen.proofs.writer.Writer.+commands.Given as goal

abbrev pub decreases-valof : goal.decreases-valof
decreases-valof l = weight_around l.around.now + 1

abbrev pub decreases-fill : goal.decreases-fill
decreases-fill l = weight_around l.around.now + 4

abbrev pub decreases-body : goal.decreases-body
decreases-body l = weight_around l.around.now + 2

abbrev pub decreases-piece : goal.decreases-piece
decreases-piece l = weight_around l.around.now + 3

abbrev pub decreases-root : goal.decreases-root
decreases-root l = weight_around l.around.now + 5

abbrev pub decreases-value : goal.decreases-value
decreases-value l = weight_around l.around.now + 6

abbrev pub decreases-test : goal.decreases-test
decreases-test l = weight_around l.around.now + 6

abbrev pub decreases-set : goal.decreases-set
decreases-set l = weight_around l.around.now + 6

abbrev pub decreases-assign : goal.decreases-assign
decreases-assign l = weight_around l.around.now + 6

abbrev pub decreases-variables : goal.decreases-variables
decreases-variables l = weight_around l.around.now + 7

abbrev pub decreases-declarations : goal.decreases-declarations
decreases-declarations l = weight_around l.around.now + 8

abbrev pub decreases-resultis : goal.decreases-resultis
decreases-resultis l = weight_around l.around.now + 8

abbrev pub decreases-if_command : goal.decreases-if_command
decreases-if_command l = weight_around l.around.now + (64 * weight_of_block (block_of l.body.now) + 50)

abbrev pub decreases-test_command : goal.decreases-test_command
decreases-test_command l = weight_around l.around.now + (64 * (weight_of_block (block_of l.this.now) + weight_of_block (block_of l.that.now)) + 50)

abbrev pub decreases-while_loop : goal.decreases-while_loop
decreases-while_loop l = weight_around l.around.now + (64 * weight_of_block (block_of l.body.now) + 50)

abbrev pub decreases-repeat : goal.decreases-repeat
decreases-repeat l = weight_around l.around.now + (64 * weight_of_block (block_of l.body.now) + 50)

abbrev pub decreases-repeat_while : goal.decreases-repeat_while
decreases-repeat_while l = weight_around l.around.now + (64 * weight_of_block (block_of l.body.now) + 50)

abbrev pub decreases-for_loop : goal.decreases-for_loop
decreases-for_loop l = weight_around l.around.now + (64 * weight_of_block (block_of l.body.now) + 50)

abbrev pub decreases-switchon : goal.decreases-switchon
decreases-switchon l = weight_around l.around.now + (64 * weight_of_items (items l.list.now) + 50)

abbrev pub decreases-command : goal.decreases-command
decreases-command l = weight_around l.around.now + (64 * weight (command l.command.now) + 16)

abbrev pub decreases-block : goal.decreases-block
decreases-block l = weight_around l.around.now + (64 * weight_of_block (block_of l.block.now) + 16)

abbrev pub decreases-list : goal.decreases-list
decreases-list l = weight_around l.around.now + (64 * weight_of_items (items l.list.now) + 40)

abbrev pub decreases-list_item : goal.decreases-list_item
decreases-list_item l = weight_around l.around.now + (64 * weight_of_items (items_before l.item.now no_item) + 20)

abbrev pub invariant-list-loop-item : goal.invariant-list-loop-item
invariant-list-loop-item l =
    let rest = emit_items Plain (roots_in l.around) (items (drop l.item-index l.list)) l.level (exits_of l.around) l.entry l.self.next in
    let whole = emit_items Plain (roots_in l.around) (items l.list) l.level (exits_of l.around) l.first l.fn.self.next in
    (parts l.self.parts.items ++ rest.0 ≡ parts l.fn.self.parts.items ++ whole.0) × (rest.1 ≡ whole.1)
    × (l.entry + entries_in (items (drop l.item-index l.list)) ≤ 65535)

abbrev pub invariant-declarations-loop-declaration : goal.invariant-declarations-loop-declaration
invariant-declarations-loop-declaration l =
    let rest = emit_declarations (roots_in l.around) (declarations_view (drop l.declaration-index l.declarations)) l.level l.self.next in
    let whole = emit_declarations (roots_in l.around) (declarations_view l.declarations) l.fn.level l.fn.self.next in
    (parts l.self.parts.items ++ rest.0 ≡ parts l.fn.self.parts.items ++ whole.0) × (rest.1 ≡ whole.1)
    × (l.level + cells_declared (declarations_view (drop l.declaration-index l.declarations)) ≡ l.fn.level + cells_declared (declarations_view l.declarations))
    × DeclarationsHaveRoom (room_in l.around) (declarations_view (drop l.declaration-index l.declarations)) l.level

abbrev pub invariant-variables-loop-variable : goal.invariant-variables-loop-variable
invariant-variables-loop-variable l =
    let rest = emit_variables (roots_in l.around) (map variable_view (drop l.variable-index l.variables)) l.offset l.level l.self.next in
    let whole = emit_variables (roots_in l.around) (map variable_view l.variables) l.fn.offset l.level l.fn.self.next in
    (parts l.self.parts.items ++ rest.0 ≡ parts l.fn.self.parts.items ++ whole.0) × (rest.1 ≡ whole.1)
    × VariablesHaveRoom (room_in l.around) (map variable_view (drop l.variable-index l.variables)) l.offset l.level
    × (l.offset + cells_of_all (map variable_view (drop l.variable-index l.variables)) ≤ 65535)

abbrev pub invariant-fill-loop-i : goal.invariant-fill-loop-i
invariant-fill-loop-i l =
    let vs = valofs_in l.around.valofs.now in
    let rest = fill Plain (level_of vs) (bodies_of vs l.around.least) (drop l.i l.pieces) l.self.next in
    let whole = fill Plain (level_of vs) (bodies_of vs l.around.least) l.pieces l.fn.self.next in
    (parts l.self.parts.items ++ rest.0 ≡ parts l.fn.self.parts.items ++ whole.0) × (rest.1 ≡ whole.1)
    × (l.bodies.items ++ map count_items rest.2 ≡ map count_items whole.2)
