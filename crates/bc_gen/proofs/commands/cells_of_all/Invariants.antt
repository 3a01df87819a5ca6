use Rattle.std.proofs.Common.{◌≡◌, ◌+◌, map, drop}
use Rattle.bc_core.specs.View.{variable as variable_view}
use Rattle.bc_core.specs.Level.{cells_of_all as cells_of_variables}
use Rattle.bc_gen.proofs.commands.cells_of_all.Given as goal

abbrev pub invariant-loop-each : goal.invariant-loop-each
invariant-loop-each l = l.cells + cells_of_variables (map variable_view (drop l.each-index l.variables)) ≡ cells_of_variables (map variable_view l.variables)
