use Rattle.std.proofs.Common.{◌≡◌, reverse}
use Rattle.bc_core.specs.Meaning.{passed}
use Rattle.bc_interpret_store.proofs.store.Store.pass.Given as goal

abbrev pub invariant-loop-left : goal.invariant-loop-left
invariant-loop-left l = passed l.left l.address (reverse l.arguments.items) l.self ≡ passed l.fn.count l.fn.from (reverse l.fn.arguments.items) l.fn.self

abbrev pub decreases-loop-left : goal.decreases-loop-left
decreases-loop-left l = l.left
