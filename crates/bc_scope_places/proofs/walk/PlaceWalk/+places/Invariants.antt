use Rattle.std.proofs.Common.{◌+◌, ◌*◌}
use Rattle.bc_parse_tree.specs.Size.{block_size, command_size, declaration_size, declarations_size, definition_size, definitions_size, entries_size, exp_size, exps_size, item_size, items_size, label_size, labels_size}
use Rattle.bc_parse_tree.specs.View.{block_view, command_view, declaration_view, declarations_view, definition_view, definitions_view, entries_view, exp_view, exps_view, item_view, items_view, label_view, labels_view}
use Rattle.bc_scope_places.proofs.walk.PlaceWalk.+places.Given as goal

-- each measure is 16 times the size of the trees that remain to be walked, plus a rank among functions that pass the same trees on

abbrev pub decreases-expression : goal.decreases-expression
decreases-expression l = 16 * exp_size (exp_view l.e.now)

abbrev pub decreases-rooted : goal.decreases-rooted
decreases-rooted l = 16 * exp_size (exp_view l.e.now) + 1

abbrev pub decreases-table : goal.decreases-table
decreases-table l = 16 * exps_size (exps_view l.values.now) + 3

abbrev pub decreases-binary : goal.decreases-binary
decreases-binary l = 16 * (exp_size (exp_view l.left.now) + exp_size (exp_view l.right.now)) + 1

abbrev pub decreases-condition : goal.decreases-condition
decreases-condition l = 16 * (exp_size (exp_view l.test.now) + exp_size (exp_view l.this.now) + exp_size (exp_view l.that.now)) + 1

abbrev pub decreases-valof : goal.decreases-valof
decreases-valof l = 16 * block_size (block_view l.body.now) + 8

abbrev pub decreases-unary : goal.decreases-unary
decreases-unary l = 16 * exp_size (exp_view l.operand.now) + 1

abbrev pub decreases-call : goal.decreases-call
decreases-call l = 16 * (exp_size (exp_view l.called.now) + exps_size (exps_view l.values.now)) + 2

abbrev pub decreases-arguments : goal.decreases-arguments
decreases-arguments l = 16 * exps_size (exps_view l.list.now) + 1

abbrev pub decreases-constant : goal.decreases-constant
decreases-constant l = 16 * exp_size (exp_view l.e.now) + 1

abbrev pub decreases-constants : goal.decreases-constants
decreases-constants l = 16 * exps_size (exps_view l.list.now) + 2

abbrev pub decreases-initials : goal.decreases-initials
decreases-initials l = 16 * exps_size (exps_view l.list.now) + 2

abbrev pub decreases-side : goal.decreases-side
decreases-side l = 16 * exps_size (exps_view l.list.now) + 1

abbrev pub decreases-declarations : goal.decreases-declarations
decreases-declarations l = 16 * declarations_size (declarations_view l.list.now) + 5

abbrev pub decreases-declaration : goal.decreases-declaration
decreases-declaration l = 16 * declaration_size (declaration_view l.tree.now) + 4

abbrev pub decreases-entries : goal.decreases-entries
decreases-entries l = 16 * entries_size (entries_view l.list.now) + 3

abbrev pub decreases-listed_entries : goal.decreases-listed_entries
decreases-listed_entries l = 16 * entries_size (entries_view l.list.now) + 2

abbrev pub decreases-definitions : goal.decreases-definitions
decreases-definitions l = 16 * definitions_size (definitions_view l.list.now) + 3

abbrev pub decreases-defined : goal.decreases-defined
decreases-defined l = 16 * definitions_size (definitions_view l.list.now) + 2

abbrev pub decreases-definition : goal.decreases-definition
decreases-definition l = 16 * definition_size (definition_view l.tree.now)

abbrev pub decreases-variables : goal.decreases-variables
decreases-variables l = 16 * exps_size (exps_view l.values.now) + 3

abbrev pub decreases-vector : goal.decreases-vector
decreases-vector l = 16 * exp_size (exp_view l.greatest.now) + 2

abbrev pub decreases-function : goal.decreases-function
decreases-function l = 16 * exp_size (exp_view l.value.now) + 2

abbrev pub decreases-routine : goal.decreases-routine
decreases-routine l = 16 * block_size (block_view l.body.now) + 8

abbrev pub decreases-block : goal.decreases-block
decreases-block l = 16 * block_size (block_view l.tree.now) + 7

abbrev pub decreases-list : goal.decreases-list
decreases-list l = 16 * items_size (items_view l.items.now) + 6

abbrev pub decreases-listed : goal.decreases-listed
decreases-listed l = 16 * items_size (items_view l.items.now) + 5

abbrev pub decreases-item : goal.decreases-item
decreases-item l = 16 * item_size (item_view l.tree.now) + 4

abbrev pub decreases-labels : goal.decreases-labels
decreases-labels l = 16 * labels_size (labels_view l.list.now) + 3

abbrev pub decreases-label : goal.decreases-label
decreases-label l = 16 * label_size (label_view l.tree.now) + 2

abbrev pub decreases-command : goal.decreases-command
decreases-command l = 16 * command_size (command_view l.tree.now) + 1

abbrev pub decreases-called : goal.decreases-called
decreases-called l = 16 * (exp_size (exp_view l.routine.now) + exps_size (exps_view l.values.now)) + 3

abbrev pub decreases-repeated : goal.decreases-repeated
decreases-repeated l = 16 * (command_size (command_view l.body.now) + exp_size (exp_view l.test.now)) + 2

abbrev pub decreases-chosen : goal.decreases-chosen
decreases-chosen l = 16 * (exp_size (exp_view l.test.now) + block_size (block_view l.this.now) + block_size (block_view l.that.now)) + 9

abbrev pub decreases-turns : goal.decreases-turns
decreases-turns l = 16 * command_size (command_view l.tree.now)

abbrev pub decreases-result_is : goal.decreases-result_is
decreases-result_is l = 16 * exp_size (exp_view l.value.now) + 1

abbrev pub decreases-guarded : goal.decreases-guarded
decreases-guarded l = 16 * (exp_size (exp_view l.test.now) + block_size (block_view l.body.now)) + 8

abbrev pub decreases-assignment : goal.decreases-assignment
decreases-assignment l = 16 * (exps_size (exps_view l.places.now) + exps_size (exps_view l.values.now)) + 4

abbrev pub decreases-sides : goal.decreases-sides
decreases-sides l = 16 * (exps_size (exps_view l.places.now) + exps_size (exps_view l.values.now)) + 3

abbrev pub decreases-contents : goal.decreases-contents
decreases-contents l = 16 * exps_size (exps_view l.values.now) + 2

abbrev pub decreases-ends : goal.decreases-ends
decreases-ends l = 16 * (exp_size (exp_view l.start.now) + exp_size (exp_view l.limit.now)) + 2

abbrev pub decreases-counted : goal.decreases-counted
decreases-counted l = 16 * block_size (block_view l.body.now) + 8

abbrev pub decreases-switch : goal.decreases-switch
decreases-switch l = 16 * (exp_size (exp_view l.value.now) + items_size (items_view l.list.now)) + 7
