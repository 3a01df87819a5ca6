use Rattle.std.proofs.Common.{◌≡◌}
use Rattle.bc_parse_defs.specs.Seen.{lists, tags}
use Rattle.bc_parse_defs.proofs.Unwinding.{unwind}
use Rattle.bc_parse_defs.proofs.closing.unwind.Given as goal

abbrev pub invariant-loop-opening : goal.invariant-loop-opening
invariant-loop-opening l = unwind l.tag l.at (lists l.list) (tags l.opened.items) ≡ unwind l.tag l.at (lists l.fn.list) (tags l.fn.opened.items)

abbrev pub decreases-loop-opening : goal.decreases-loop-opening
decreases-loop-opening l = goal.left-loop-opening l
