use Rattle.std.proofs.Common.{◌≡◌, take}
use Rattle.bc_core.specs.View.{args}
use Rattle.bc_core.proofs.copies.+copying.Given as goal

abbrev pub invariant-copy_all-loop-e : goal.invariant-copy_all-loop-e
invariant-copy_all-loop-e l = args l.new.items ≡ args (take l.e-index l.from)
