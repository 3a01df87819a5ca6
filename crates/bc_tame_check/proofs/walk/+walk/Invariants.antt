use Rattle.std.proofs.Common.{◌≡◌, ◌+◌, ◌*◌, true, map, length}
use Rattle.bc_core.specs.Level.{cells_declared}
use Rattle.bc_core.specs.View.{args, items, variable, declarations as declarations_view}
use Rattle.bc_tame.specs.Tame.{and_declared, tame_args, tame_items, tame_variables, tame_declarations, parameters_set}
use Rattle.bc_tame_check.specs.Views.{env_at, reads_at, exits_at, set_over}
use Rattle.bc_tame_check.proofs.walk.+walk.Given as goal

abbrev pub decreases-expression : goal.decreases-expression
decreases-expression l = 16 * l.at.depth

abbrev pub decreases-both : goal.decreases-both
decreases-both l = 16 * l.at.depth + 1

abbrev pub decreases-choice : goal.decreases-choice
decreases-choice l = 16 * l.at.depth + 1

abbrev pub decreases-call : goal.decreases-call
decreases-call l = 16 * l.at.depth + 3

abbrev pub decreases-arguments : goal.decreases-arguments
decreases-arguments l = 16 * l.at.depth + 1

abbrev pub decreases-valof : goal.decreases-valof
decreases-valof l = 16 * l.at.depth + 13

abbrev pub decreases-valof_body : goal.decreases-valof_body
decreases-valof_body l = 16 * l.at.depth + 9

abbrev pub decreases-whole : goal.decreases-whole
decreases-whole l = 16 * l.at.depth + 1

abbrev pub decreases-assign : goal.decreases-assign
decreases-assign l = 16 * l.at.depth + 13

abbrev pub decreases-tested : goal.decreases-tested
decreases-tested l = 16 * l.at.depth + 13

abbrev pub decreases-repeated : goal.decreases-repeated
decreases-repeated l = 16 * l.at.depth + 13

abbrev pub decreases-tested_both : goal.decreases-tested_both
decreases-tested_both l = 16 * l.at.depth + 13

abbrev pub decreases-round : goal.decreases-round
decreases-round l = 16 * l.at.depth + 9

abbrev pub decreases-limit : goal.decreases-limit
decreases-limit l = 16 * l.at.depth + 9

abbrev pub decreases-plain_rounds : goal.decreases-plain_rounds
decreases-plain_rounds l = 16 * l.at.depth + 10

abbrev pub decreases-counted_rounds : goal.decreases-counted_rounds
decreases-counted_rounds l = 16 * l.at.depth + 10

abbrev pub decreases-rounds : goal.decreases-rounds
decreases-rounds l = 16 * l.at.depth + 11

abbrev pub decreases-closed_rounds : goal.decreases-closed_rounds
decreases-closed_rounds l = 16 * l.at.depth + 11

abbrev pub decreases-for_loop : goal.decreases-for_loop
decreases-for_loop l = 16 * l.at.depth + 12

abbrev pub decreases-filling_for : goal.decreases-filling_for
decreases-filling_for l = 16 * l.at.depth + 12

abbrev pub decreases-filling : goal.decreases-filling
decreases-filling l = 16 * l.at.depth + 1

abbrev pub decreases-switch : goal.decreases-switch
decreases-switch l = 16 * l.at.depth + 13

abbrev pub decreases-command : goal.decreases-command
decreases-command l = 16 * l.at.depth

abbrev pub decreases-result_is : goal.decreases-result_is
decreases-result_is l = 16 * l.at.depth + 13

abbrev pub decreases-plain_command : goal.decreases-plain_command
decreases-plain_command l = 16 * l.at.depth + 2

abbrev pub decreases-next_command : goal.decreases-next_command
decreases-next_command l = 16 * l.at.depth + 3

abbrev pub decreases-item : goal.decreases-item
decreases-item l = 16 * l.at.depth + 4

abbrev pub decreases-items : goal.decreases-items
decreases-items l = 16 * l.at.depth + 6

abbrev pub decreases-all_items : goal.decreases-all_items
decreases-all_items l = 16 * l.at.depth + 5

abbrev pub decreases-variables : goal.decreases-variables
decreases-variables l = 16 * l.at.depth + 3

abbrev pub decreases-initial : goal.decreases-initial
decreases-initial l = 16 * l.at.depth + 2

abbrev pub decreases-declarations : goal.decreases-declarations
decreases-declarations l = 16 * l.at.depth + 4

abbrev pub decreases-block_as : goal.decreases-block_as
decreases-block_as l = 16 * l.at.depth + 7

abbrev pub decreases-block : goal.decreases-block
decreases-block l = 16 * l.at.depth + 8

abbrev pub invariant-all_items-loop-left : goal.invariant-all_items-loop-left
invariant-all_items-loop-left l =
    tame_items (env_at l.fn.at) (set_over (parameters_set l.fn.at.parameters) l.reads.items) (exits_at l.fn.at) (items l.left) l.fn.at.level ≡ true
    → tame_items (env_at l.fn.at) (reads_at l.fn.at) (exits_at l.fn.at) (items l.fn.list) l.fn.at.level ≡ true

abbrev pub decreases-all_items-loop-left : goal.decreases-all_items-loop-left
decreases-all_items-loop-left l = length l.left

abbrev pub invariant-arguments-loop-left : goal.invariant-arguments-loop-left
invariant-arguments-loop-left l =
    tame_args (env_at l.fn.at) (reads_at l.fn.at) (args l.left) l.level ≡ true
    → tame_args (env_at l.fn.at) (reads_at l.fn.at) (args l.fn.values) l.fn.at.level ≡ true

abbrev pub decreases-arguments-loop-left : goal.decreases-arguments-loop-left
decreases-arguments-loop-left l = length l.left

abbrev pub invariant-variables-loop-left : goal.invariant-variables-loop-left
invariant-variables-loop-left l =
    tame_variables (env_at l.fn.at) (reads_at l.fn.at) (map variable l.left) l.fn.at.level ≡ true
    → tame_variables (env_at l.fn.at) (reads_at l.fn.at) (map variable l.fn.all) l.fn.at.level ≡ true

abbrev pub decreases-variables-loop-left : goal.decreases-variables-loop-left
decreases-variables-loop-left l = length l.left

abbrev pub invariant-declarations-loop-left : goal.invariant-declarations-loop-left
invariant-declarations-loop-left l =
    let E = env_at l.fn.at in
    let R = set_over (parameters_set l.fn.at.parameters) l.reads.items in
    (tame_declarations E l.fn.kept R (declarations_view l.left) l.level ≡ true → tame_declarations E l.fn.kept (reads_at l.fn.at) (declarations_view l.fn.all) l.fn.at.level ≡ true)
    × (and_declared E l.fn.kept (declarations_view l.left) l.level R ≡ and_declared E l.fn.kept (declarations_view l.fn.all) l.fn.at.level (reads_at l.fn.at))
    × (l.level + cells_declared (declarations_view l.left) ≡ l.fn.at.level + cells_declared (declarations_view l.fn.all))

abbrev pub decreases-declarations-loop-left : goal.decreases-declarations-loop-left
decreases-declarations-loop-left l = length l.left
