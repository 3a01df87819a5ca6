use Rattle.std.proofs.Common.{◌≡◌, take}
use Rattle.std.specs.Io.Iter.{u64_saturate}
use Rattle.bc_core.specs.View.{declarations}
use Rattle.bc_interpret_defs.specs.Trails.{roots_of_declarations}
use Rattle.bc_interpret_trace.proofs.roots.roots_of_declarations.Given as goal

abbrev pub invariant-loop-declaration : goal.invariant-loop-declaration
invariant-loop-declaration l = l.roots ≡ u64_saturate (roots_of_declarations (declarations (take l.declaration-index l.declarations)))
