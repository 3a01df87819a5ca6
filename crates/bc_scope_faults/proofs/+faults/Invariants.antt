use Rattle.std.proofs.Common.{◌≡◌, ◌+◌, ◌*◌, ◌++◌, max, drop, []}
use Rattle.bc_parse_tree.specs.Size.{block_size, command_size, declaration_size, declarations_size, definition_size, definitions_size, entries_size, exp_size, exps_size, item_size, items_size, label_size, labels_size}
use Rattle.bc_parse_tree.specs.View.{block_view, command_view, declaration_view, declarations_view, definition_view, definitions_view, entries_view, exp_view, exps_view, item_view, items_view, label_view, labels_view}
use Rattle.bc_scope_defs.specs.Numbering.{after_entries, after_all, after_declarations, after_definitions, after_items}
use Rattle.bc_scope_defs.specs.Scoping.{in_entries, in_declarations, level_after}
use Rattle.bc_scope_defs.specs.Found.{found_in_arguments, found_in_sides, found_in_initials, found_in_entries, found_in_definitions, found_in_declarations, found_in_items}
use Rattle.bc_scope_defs.specs.FramesAlong.{widths, width_of_arguments, width_of_initials, width_of_definitions, width_of_declarations, width_of_items}
use Rattle.bc_scope_defs.specs.Faults.{none_met, met_labels}
use Rattle.bc_scope_defs.specs.FaultsAlong.{arguments_fault, constants_fault, sides_fault, initials_fault, entries_fault, definitions_fault, declarations_fault, labels_fault, items_fault}
use Rattle.bc_scope_names.specs.View.{Extends, scope_view, numbers_view}
use Rattle.bc_scope_faults.specs.Seen.{allowed_view, names_view, met_view, frames_fit}
use Rattle.bc_scope_faults.proofs.+faults.Given as goal

-- each measure is 16 times the size of the trees that are left to walk, plus a rank among functions that pass the same trees on

abbrev pub decreases-expressions::expression : goal.decreases-expressions::expression
decreases-expressions::expression l = 16 * exp_size (exp_view l.e.now)

abbrev pub decreases-expressions::operands : goal.decreases-expressions::operands
decreases-expressions::operands l = 16 * (exp_size (exp_view l.left.now) + exp_size (exp_view l.right.now)) + 1

abbrev pub decreases-expressions::choice : goal.decreases-expressions::choice
decreases-expressions::choice l = 16 * (exp_size (exp_view l.test.now) + exp_size (exp_view l.this.now) + exp_size (exp_view l.that.now)) + 1

abbrev pub decreases-expressions::call : goal.decreases-expressions::call
decreases-expressions::call l = 16 * (exp_size (exp_view l.called.now) + exps_size (exps_view l.values.now)) + 2

abbrev pub decreases-expressions::arguments : goal.decreases-expressions::arguments
decreases-expressions::arguments l = 16 * exps_size (exps_view l.list.now) + 1

abbrev pub decreases-expressions::check_constant : goal.decreases-expressions::check_constant
decreases-expressions::check_constant l = 16 * exp_size (exp_view l.e.now) + 1

abbrev pub decreases-expressions::constants : goal.decreases-expressions::constants
decreases-expressions::constants l = 16 * exps_size (exps_view l.list.now) + 2

abbrev pub decreases-expressions::sides : goal.decreases-expressions::sides
decreases-expressions::sides l = 16 * exps_size (exps_view l.list.now) + 1

abbrev pub decreases-expressions::initials : goal.decreases-expressions::initials
decreases-expressions::initials l = 16 * exps_size (exps_view l.list.now) + 1

abbrev pub decreases-declarations::entries : goal.decreases-declarations::entries
decreases-declarations::entries l = 16 * entries_size (entries_view l.list.now) + 2

abbrev pub decreases-declarations::definition : goal.decreases-declarations::definition
decreases-declarations::definition l = 16 * definition_size (definition_view l.tree.now)

abbrev pub decreases-declarations::function : goal.decreases-declarations::function
decreases-declarations::function l = 16 * exp_size (exp_view l.value.now) + 1

abbrev pub decreases-declarations::routine : goal.decreases-declarations::routine
decreases-declarations::routine l = 16 * block_size (block_view l.body.now) + 8

abbrev pub decreases-declarations::definitions : goal.decreases-declarations::definitions
decreases-declarations::definitions l = 16 * definitions_size (definitions_view l.list.now) + 1

abbrev pub decreases-declarations::definitions_of_let : goal.decreases-declarations::definitions_of_let
decreases-declarations::definitions_of_let l = 16 * definitions_size (definitions_view l.list.now) + 3

abbrev pub decreases-declarations::declaration : goal.decreases-declarations::declaration
decreases-declarations::declaration l = 16 * declaration_size (declaration_view l.tree.now) + 4

abbrev pub decreases-declarations::declarations : goal.decreases-declarations::declarations
decreases-declarations::declarations l = 16 * declarations_size (declarations_view l.list.now) + 5

abbrev pub decreases-blocks::block : goal.decreases-blocks::block
decreases-blocks::block l = 16 * block_size (block_view l.tree.now) + 7

abbrev pub decreases-blocks::declared_then_done : goal.decreases-blocks::declared_then_done
decreases-blocks::declared_then_done l = 16 * (declarations_size (declarations_view l.declared.now) + items_size (items_view l.trees.now)) + 6

abbrev pub decreases-blocks::label : goal.decreases-blocks::label
decreases-blocks::label l = 16 * label_size (label_view l.tree.now) + 2

abbrev pub decreases-blocks::labels : goal.decreases-blocks::labels
decreases-blocks::labels l = 16 * labels_size (labels_view l.list.now) + 3

abbrev pub decreases-blocks::items : goal.decreases-blocks::items
decreases-blocks::items l = 16 * items_size (items_view l.trees.now) + 5

abbrev pub decreases-blocks::one_item : goal.decreases-blocks::one_item
decreases-blocks::one_item l = 16 * item_size (item_view l.tree.now) + 4

abbrev pub decreases-commands::guarded : goal.decreases-commands::guarded
decreases-commands::guarded l = 16 * (exp_size (exp_view l.test.now) + block_size (block_view l.body.now)) + 8

abbrev pub decreases-commands::repeated : goal.decreases-commands::repeated
decreases-commands::repeated l = 16 * (command_size (command_view l.body.now) + exp_size (exp_view l.test.now)) + 1

abbrev pub decreases-commands::assignment : goal.decreases-commands::assignment
decreases-commands::assignment l = 16 * (exps_size (exps_view l.places.now) + exps_size (exps_view l.values.now)) + 2

abbrev pub decreases-commands::tested : goal.decreases-commands::tested
decreases-commands::tested l = 16 * (exp_size (exp_view l.test.now) + block_size (block_view l.this.now) + block_size (block_view l.that.now)) + 8

abbrev pub decreases-commands::plain_for : goal.decreases-commands::plain_for
decreases-commands::plain_for l = 16 * (exp_size (exp_view l.parts.start.now) + exp_size (exp_view l.parts.limit.now) + block_size (block_view l.parts.body.now)) + 9

abbrev pub decreases-commands::stepped_for : goal.decreases-commands::stepped_for
decreases-commands::stepped_for l = 16 * (exp_size (exp_view l.parts.start.now) + exp_size (exp_view l.parts.limit.now) + exp_size (exp_view l.by.now) + block_size (block_view l.parts.body.now)) + 9

abbrev pub decreases-commands::counted : goal.decreases-commands::counted
decreases-commands::counted l = 16 * block_size (block_view l.body.now) + 8

abbrev pub decreases-commands::switch : goal.decreases-commands::switch
decreases-commands::switch l = 16 * (exp_size (exp_view l.value.now) + items_size (items_view l.list.now)) + 6

abbrev pub decreases-commands::command : goal.decreases-commands::command
decreases-commands::command l = 16 * command_size (command_view l.tree.now)

abbrev pub invariant-expressions::arguments-loop-e : goal.invariant-expressions::arguments-loop-e
invariant-expressions::arguments-loop-e l =
    (arguments_fault l.context.in_constant (scope_view l.scope) (numbers_view l.progress.at) (exps_view (drop l.e-index l.list)) l.above ≡ arguments_fault l.context.in_constant (scope_view l.fn.scope) (numbers_view l.fn.progress.at) (exps_view l.list) l.context.level)
    × (max l.width (width_of_arguments (scope_view l.scope) (numbers_view l.progress.at) (exps_view (drop l.e-index l.list)) l.above) ≡ width_of_arguments (scope_view l.fn.scope) (numbers_view l.fn.progress.at) (exps_view l.list) l.context.level)
    × (after_all (numbers_view l.progress.at) (exps_view (drop l.e-index l.list)) ≡ after_all (numbers_view l.fn.progress.at) (exps_view l.list))
    × (frames_fit l.progress.fits (found_in_arguments (scope_view l.scope) (numbers_view l.progress.at) (exps_view (drop l.e-index l.list)) l.above) ≡ frames_fit l.fn.progress.fits (found_in_arguments (scope_view l.fn.scope) (numbers_view l.fn.progress.at) (exps_view l.list) l.context.level))
    × (l.scope ≡ l.fn.scope)

abbrev pub invariant-expressions::constants-loop-e : goal.invariant-expressions::constants-loop-e
invariant-expressions::constants-loop-e l =
    (constants_fault (scope_view l.scope) (numbers_view l.progress.at) (exps_view (drop l.e-index l.list)) ≡ constants_fault (scope_view l.fn.scope) (numbers_view l.progress.at) (exps_view l.list))
    × (l.scope ≡ l.fn.scope)

abbrev pub invariant-expressions::sides-loop-e : goal.invariant-expressions::sides-loop-e
invariant-expressions::sides-loop-e l =
    (sides_fault (scope_view l.scope) (numbers_view l.progress.at) (exps_view (drop l.e-index l.list)) (drop l.i l.levels) ≡ sides_fault (scope_view l.fn.scope) (numbers_view l.fn.progress.at) (exps_view l.list) l.levels)
    × (l.widths.items ++ widths (scope_view l.scope) (numbers_view l.progress.at) (exps_view (drop l.e-index l.list)) (drop l.i l.levels) ≡ widths (scope_view l.fn.scope) (numbers_view l.fn.progress.at) (exps_view l.list) l.levels)
    × (after_all (numbers_view l.progress.at) (exps_view (drop l.e-index l.list)) ≡ after_all (numbers_view l.fn.progress.at) (exps_view l.list))
    × (frames_fit l.progress.fits (found_in_sides (scope_view l.scope) (numbers_view l.progress.at) (exps_view (drop l.e-index l.list)) (drop l.i l.levels)) ≡ frames_fit l.fn.progress.fits (found_in_sides (scope_view l.fn.scope) (numbers_view l.fn.progress.at) (exps_view l.list) l.levels))
    × (l.scope ≡ l.fn.scope)

abbrev pub invariant-expressions::initials-loop-e : goal.invariant-expressions::initials-loop-e
invariant-expressions::initials-loop-e l =
    (initials_fault (scope_view l.scope) (numbers_view l.progress.at) (exps_view (drop l.e-index l.list)) l.level ≡ initials_fault (scope_view l.fn.scope) (numbers_view l.fn.progress.at) (exps_view l.list) l.level)
    × (max l.width (width_of_initials (scope_view l.scope) (numbers_view l.progress.at) (exps_view (drop l.e-index l.list)) l.level) ≡ width_of_initials (scope_view l.fn.scope) (numbers_view l.fn.progress.at) (exps_view l.list) l.level)
    × (after_all (numbers_view l.progress.at) (exps_view (drop l.e-index l.list)) ≡ after_all (numbers_view l.fn.progress.at) (exps_view l.list))
    × (frames_fit l.progress.fits (found_in_initials (scope_view l.scope) (numbers_view l.progress.at) (exps_view (drop l.e-index l.list)) l.level) ≡ frames_fit l.fn.progress.fits (found_in_initials (scope_view l.fn.scope) (numbers_view l.fn.progress.at) (exps_view l.list) l.level))
    × (l.scope ≡ l.fn.scope)

abbrev pub invariant-declarations::entries-loop-entry : goal.invariant-declarations::entries-loop-entry
invariant-declarations::entries-loop-entry l =
    (entries_fault l.storage (names_view l.before.keys) (numbers_view l.progress.at) (entries_view (drop l.entry-index l.list)) (scope_view l.scope) ≡ entries_fault l.storage [] (numbers_view l.fn.progress.at) (entries_view l.list) (scope_view l.fn.scope))
    × (in_entries l.storage (numbers_view l.progress.at) (entries_view (drop l.entry-index l.list)) (scope_view l.scope) ≡ in_entries l.storage (numbers_view l.fn.progress.at) (entries_view l.list) (scope_view l.fn.scope))
    × (after_entries l.storage (numbers_view l.progress.at) (entries_view (drop l.entry-index l.list)) ≡ after_entries l.storage (numbers_view l.fn.progress.at) (entries_view l.list))
    × (frames_fit l.progress.fits (found_in_entries l.storage (numbers_view l.progress.at) (entries_view (drop l.entry-index l.list)) (scope_view l.scope)) ≡ frames_fit l.fn.progress.fits (found_in_entries l.storage (numbers_view l.fn.progress.at) (entries_view l.list) (scope_view l.fn.scope)))
    × Extends l.fn.scope l.scope

abbrev pub invariant-declarations::definitions-loop-tree : goal.invariant-declarations::definitions-loop-tree
invariant-declarations::definitions-loop-tree l =
    (definitions_fault (names_view l.before.keys) (scope_view l.scope) (numbers_view l.progress.at) (definitions_view (drop l.tree-index l.list)) l.level ≡ definitions_fault [] (scope_view l.fn.scope) (numbers_view l.fn.progress.at) (definitions_view l.list) l.level)
    × (max l.width (width_of_definitions (scope_view l.scope) (numbers_view l.progress.at) (definitions_view (drop l.tree-index l.list)) l.level) ≡ width_of_definitions (scope_view l.fn.scope) (numbers_view l.fn.progress.at) (definitions_view l.list) l.level)
    × (after_definitions (numbers_view l.progress.at) (definitions_view (drop l.tree-index l.list)) ≡ after_definitions (numbers_view l.fn.progress.at) (definitions_view l.list))
    × (frames_fit l.progress.fits (found_in_definitions (scope_view l.scope) (scope_view l.scope) (numbers_view l.progress.at) (definitions_view (drop l.tree-index l.list)) l.level) ≡ frames_fit l.fn.progress.fits (found_in_definitions (scope_view l.fn.scope) (scope_view l.fn.scope) (numbers_view l.fn.progress.at) (definitions_view l.list) l.level))
    × (l.scope ≡ l.fn.scope)

abbrev pub invariant-declarations::declarations-loop-tree : goal.invariant-declarations::declarations-loop-tree
invariant-declarations::declarations-loop-tree l =
    (declarations_fault (scope_view l.scope) (numbers_view l.progress.at) (declarations_view (drop l.tree-index l.list)) l.following ≡ declarations_fault (scope_view l.fn.scope) (numbers_view l.fn.progress.at) (declarations_view l.list) l.level)
    × (in_declarations (scope_view l.scope) (numbers_view l.progress.at) l.following (declarations_view (drop l.tree-index l.list)) ≡ in_declarations (scope_view l.fn.scope) (numbers_view l.fn.progress.at) l.level (declarations_view l.list))
    × (level_after (scope_view l.scope) (numbers_view l.progress.at) l.following (declarations_view (drop l.tree-index l.list)) ≡ level_after (scope_view l.fn.scope) (numbers_view l.fn.progress.at) l.level (declarations_view l.list))
    × (max l.width (width_of_declarations (scope_view l.scope) (numbers_view l.progress.at) (declarations_view (drop l.tree-index l.list)) l.following) ≡ width_of_declarations (scope_view l.fn.scope) (numbers_view l.fn.progress.at) (declarations_view l.list) l.level)
    × (after_declarations (numbers_view l.progress.at) (declarations_view (drop l.tree-index l.list)) ≡ after_declarations (numbers_view l.fn.progress.at) (declarations_view l.list))
    × (frames_fit l.progress.fits (found_in_declarations (scope_view l.scope) (numbers_view l.progress.at) (declarations_view (drop l.tree-index l.list)) l.following) ≡ frames_fit l.fn.progress.fits (found_in_declarations (scope_view l.fn.scope) (numbers_view l.fn.progress.at) (declarations_view l.list) l.level))
    × Extends l.fn.scope l.scope

abbrev pub invariant-blocks::labels-loop-tree : goal.invariant-blocks::labels-loop-tree
invariant-blocks::labels-loop-tree l =
    (labels_fault l.in_cases (met_view l.met) (scope_view l.scope) (numbers_view l.progress.at) (labels_view (drop l.tree-index l.list)) ≡ labels_fault l.in_cases (met_view l.fn.met) (scope_view l.fn.scope) (numbers_view l.progress.at) (labels_view l.list))
    × (met_labels (scope_view l.scope) (met_view l.met) (labels_view (drop l.tree-index l.list)) ≡ met_labels (scope_view l.fn.scope) (met_view l.fn.met) (labels_view l.list))
    × (l.scope ≡ l.fn.scope)

abbrev pub invariant-blocks::items-loop-tree : goal.invariant-blocks::items-loop-tree
invariant-blocks::items-loop-tree l =
    (items_fault l.list.cases (met_view l.met) (allowed_view l.list.commands.allowed) (scope_view l.scope) (numbers_view l.progress.at) (items_view (drop l.tree-index l.trees)) l.list.commands.level ≡ items_fault l.list.cases none_met (allowed_view l.list.commands.allowed) (scope_view l.fn.scope) (numbers_view l.fn.progress.at) (items_view l.trees) l.list.commands.level)
    × (max l.width (width_of_items (scope_view l.scope) 0 (numbers_view l.progress.at) (items_view (drop l.tree-index l.trees)) l.list.commands.level) ≡ width_of_items (scope_view l.fn.scope) 0 (numbers_view l.fn.progress.at) (items_view l.trees) l.list.commands.level)
    × (after_items (numbers_view l.progress.at) (items_view (drop l.tree-index l.trees)) ≡ after_items (numbers_view l.fn.progress.at) (items_view l.trees))
    × (frames_fit l.progress.fits (found_in_items (scope_view l.scope) 0 (numbers_view l.progress.at) (items_view (drop l.tree-index l.trees)) l.list.commands.level) ≡ frames_fit l.fn.progress.fits (found_in_items (scope_view l.fn.scope) 0 (numbers_view l.fn.progress.at) (items_view l.trees) l.list.commands.level))
    × (l.scope ≡ l.fn.scope)
