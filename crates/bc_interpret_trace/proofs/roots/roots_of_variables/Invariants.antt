use Rattle.std.proofs.Common.{◌≡◌, map, take}
use Rattle.std.specs.Io.Iter.{u64_saturate}
use Rattle.std.specs.List.{sum_by}
use Rattle.bc_core.specs.View.{variable}
use Rattle.bc_interpret_defs.specs.Trails.{roots_of_variable}
use Rattle.bc_interpret_trace.proofs.roots.roots_of_variables.Given as goal

abbrev pub invariant-loop-variable : goal.invariant-loop-variable
invariant-loop-variable l = l.roots ≡ u64_saturate (sum_by roots_of_variable (map variable (take l.variable-index l.variables)))
