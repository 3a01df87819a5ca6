use Rattle.std.proofs.Common.{◌≡◌, ◌++◌, map, length}
use Rattle.bc_core.specs.Map.{placed}
use Rattle.bc_core.specs.View.{section}
use Rattle.bc_interpret_steps.specs.Sections.{program_of}
use Rattle.bc_interpret.specs.Placing.{addresses_of}
use Rattle.bc_interpret.proofs.places.sections_of.Given as goal

abbrev pub invariant-loop-core : goal.invariant-loop-core
invariant-loop-core l =
    program_of l.sections.items ++ placed (map section l.left) (addresses_of l.others) ≡ placed (map section l.cores) (addresses_of l.addresses)

abbrev pub decreases-loop-core : goal.decreases-loop-core
decreases-loop-core l = length l.left
