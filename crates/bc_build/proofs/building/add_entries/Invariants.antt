use Rattle.std.proofs.Common.{◌≡◌, ◌++◌, map}
use Rattle.bc_rules_defs.specs.View.{entry as entry_view}
use Rattle.bc_build.specs.Code.{in_segment}
use Rattle.bc_build.proofs.building.add_entries.Given as goal

abbrev pub invariant-loop-entry : goal.invariant-loop-entry
invariant-loop-entry l = map entry_view l.all.items ≡ map entry_view l.fn.all.items ++ map (in_segment l.segment) (map entry_view l.yielded)
