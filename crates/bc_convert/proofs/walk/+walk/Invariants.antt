-- The measure of each function is the depth of its walk: each call goes one level deeper.
use Rattle.bc_convert.proofs.walk.+walk.Given as goal

abbrev pub decreases-items : goal.decreases-items
decreases-items l = l.walk.depth

abbrev pub decreases-item : goal.decreases-item
decreases-item l = l.walk.depth

abbrev pub decreases-bracket : goal.decreases-bracket
decreases-bracket l = l.walk.depth

abbrev pub decreases-definition : goal.decreases-definition
decreases-definition l = l.walk.depth

abbrev pub decreases-definitions : goal.decreases-definitions
decreases-definitions l = l.walk.depth

abbrev pub decreases-entries : goal.decreases-entries
decreases-entries l = l.walk.depth

abbrev pub decreases-cases : goal.decreases-cases
decreases-cases l = l.walk.depth

abbrev pub decreases-command : goal.decreases-command
decreases-command l = l.walk.depth

abbrev pub decreases-assignment : goal.decreases-assignment
decreases-assignment l = l.walk.depth

abbrev pub decreases-compound : goal.decreases-compound
decreases-compound l = l.walk.depth

abbrev pub decreases-expression : goal.decreases-expression
decreases-expression l = l.walk.depth

abbrev pub decreases-operators : goal.decreases-operators
decreases-operators l = l.walk.depth

abbrev pub decreases-choice : goal.decreases-choice
decreases-choice l = l.walk.depth

abbrev pub decreases-operand : goal.decreases-operand
decreases-operand l = l.walk.depth

abbrev pub decreases-selected : goal.decreases-selected
decreases-selected l = l.walk.depth

abbrev pub decreases-absolute : goal.decreases-absolute
decreases-absolute l = l.walk.depth
