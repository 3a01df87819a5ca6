use Rattle.std.proofs.Common.{arith}
use Rattle.bc_scope_faults.proofs.Held.{exp_held, entry_held, declaration_held, definition_held, item_held, label_held}
use Rattle.bc_scope_places.proofs.walk.PlaceWalk.+places.Goals as goal

-- Each call gets less than remains to be walked. This is said here because the search would go through all earlier calls' clauses.

pub table-constants-requires : goal.table-constants-requires
table-constants-requires t c = (omega (arith, c.decreases), tt)

pub binary-expression-requires : goal.binary-expression-requires
binary-expression-requires t c = (omega (arith, c.decreases), tt)

pub binary-expression-requires-2 : goal.binary-expression-requires-2
binary-expression-requires-2 t c = (omega (arith, c.decreases), tt)

pub condition-expression-requires : goal.condition-expression-requires
condition-expression-requires t c = (omega (arith, c.decreases), tt)

pub condition-expression-requires-2 : goal.condition-expression-requires-2
condition-expression-requires-2 t c = (omega (arith, c.decreases), tt)

pub condition-expression-requires-3 : goal.condition-expression-requires-3
condition-expression-requires-3 t c = (omega (arith, c.decreases), tt)

pub rooted-expression-requires : goal.rooted-expression-requires
rooted-expression-requires t c = (omega (arith, c.decreases), tt)

pub valof-block-requires : goal.valof-block-requires
valof-block-requires t c = (omega (arith, c.decreases), tt)

pub unary-expression-requires : goal.unary-expression-requires
unary-expression-requires t c = (omega (arith, c.decreases), tt)

pub call-expression-requires : goal.call-expression-requires
call-expression-requires t c = (omega (arith, c.decreases), tt)

pub call-arguments-requires : goal.call-arguments-requires
call-arguments-requires t c = (omega (arith, c.decreases), tt)

pub constant-expression-requires : goal.constant-expression-requires
constant-expression-requires t c = (omega (arith, c.decreases), tt)

pub entries-listed_entries-requires : goal.entries-listed_entries-requires
entries-listed_entries-requires t c = (omega (arith, c.decreases), tt)

pub definitions-defined-requires : goal.definitions-defined-requires
definitions-defined-requires t c = (omega (arith, c.decreases), tt)

pub variables-initials-requires : goal.variables-initials-requires
variables-initials-requires t c = (omega (arith, c.decreases), tt)

pub vector-constant-requires : goal.vector-constant-requires
vector-constant-requires t c = (omega (arith, c.decreases), tt)

pub function-rooted-requires : goal.function-rooted-requires
function-rooted-requires t c = (omega (arith, c.decreases), tt)

pub routine-block-requires : goal.routine-block-requires
routine-block-requires t c = (omega (arith, c.decreases), tt)

pub list-listed-requires : goal.list-listed-requires
list-listed-requires t c = (omega (arith, c.decreases), tt)

pub called-call-requires : goal.called-call-requires
called-call-requires t c = (omega (arith, c.decreases), tt)

pub repeated-command-requires : goal.repeated-command-requires
repeated-command-requires t c = (omega (arith, c.decreases), tt)

pub repeated-rooted-requires : goal.repeated-rooted-requires
repeated-rooted-requires t c = (omega (arith, c.decreases), tt)

pub chosen-guarded-requires : goal.chosen-guarded-requires
chosen-guarded-requires t c = (omega (arith, c.decreases), tt)

pub chosen-block-requires : goal.chosen-block-requires
chosen-block-requires t c = (omega (arith, c.decreases), tt)

pub result_is-expression-requires : goal.result_is-expression-requires
result_is-expression-requires t c = (omega (arith, c.decreases), tt)

pub guarded-rooted-requires : goal.guarded-rooted-requires
guarded-rooted-requires t c = (omega (arith, c.decreases), tt)

pub guarded-block-requires : goal.guarded-block-requires
guarded-block-requires t c = (omega (arith, c.decreases), tt)

pub assignment-sides-requires : goal.assignment-sides-requires
assignment-sides-requires t c = (omega (arith, c.decreases), tt)

pub sides-side-requires : goal.sides-side-requires
sides-side-requires t c = (omega (arith, c.decreases), tt)

pub sides-contents-requires : goal.sides-contents-requires
sides-contents-requires t c = (omega (arith, c.decreases), tt)

pub contents-side-requires : goal.contents-side-requires
contents-side-requires t c = (omega (arith, c.decreases), tt)

pub ends-rooted-requires : goal.ends-rooted-requires
ends-rooted-requires t c = (omega (arith, c.decreases), tt)

pub ends-rooted-requires-2 : goal.ends-rooted-requires-2
ends-rooted-requires-2 t c = (omega (arith, c.decreases), tt)

pub counted-block-requires : goal.counted-block-requires
counted-block-requires t c = (omega (arith, c.decreases), tt)

pub switch-rooted-requires : goal.switch-rooted-requires
switch-rooted-requires t c = (omega (arith, c.decreases), tt)

pub switch-list-requires : goal.switch-list-requires
switch-list-requires t c = (omega (arith, c.decreases), tt)

pub arguments-expression-requires : goal.arguments-expression-requires
arguments-expression-requires t c = (omega (arith, exp_held c.args.list.now c.loop-e.e-index c.e-item.result c.loop-e-test.true c.e-item.is, c.decreases), tt)

pub constants-constant-requires : goal.constants-constant-requires
constants-constant-requires t c = (omega (arith, exp_held c.args.list.now c.loop-e.e-index c.e-item.result c.loop-e-test.true c.e-item.is, c.decreases), tt)

pub initials-rooted-requires : goal.initials-rooted-requires
initials-rooted-requires t c = (omega (arith, exp_held c.args.list.now c.loop-e.e-index c.e-item.result c.loop-e-test.true c.e-item.is, c.decreases), tt)

pub side-expression-requires : goal.side-expression-requires
side-expression-requires t c = (omega (arith, exp_held c.args.list.now c.loop-e.e-index c.e-item.result c.loop-e-test.true c.e-item.is, c.decreases), tt)

pub listed_entries-constant-requires : goal.listed_entries-constant-requires
listed_entries-constant-requires t c = (omega (arith, entry_held c.args.list.now c.loop-entry.entry-index c.entry-item.result c.loop-entry-test.true c.entry-item.is, c.decreases), tt)

pub declarations-declaration-requires : goal.declarations-declaration-requires
declarations-declaration-requires t c = (omega (arith, declaration_held c.args.list.now c.loop-tree.tree-index c.tree-item.result c.loop-tree-test.true c.tree-item.is, c.decreases), tt)

pub defined-definition-requires : goal.defined-definition-requires
defined-definition-requires t c = (omega (arith, definition_held c.args.list.now c.loop-tree.tree-index c.tree-item.result c.loop-tree-test.true c.tree-item.is, c.decreases), tt)

pub labels-label-requires : goal.labels-label-requires
labels-label-requires t c = (omega (arith, label_held c.args.list.now c.loop-tree.tree-index c.tree-item.result c.loop-tree-test.true c.tree-item.is, c.decreases), tt)

pub listed-item-requires : goal.listed-item-requires
listed-item-requires t c = (omega (arith, item_held c.args.items.now c.loop-tree.tree-index c.tree-item.result c.loop-tree-test.true c.tree-item.is, c.decreases), tt)
