use Rattle.std.proofs.Common.{◌≡◌, max}
use Rattle.bc_interpret_frames.specs.Parts.{greatest, weight_of_all}
use Rattle.bc_interpret_frames.proofs.size.most.Given as goal

abbrev pub invariant-loop-part : goal.invariant-loop-part
invariant-loop-part l = max l.most (greatest l.waiting.items) ≡ greatest l.fn.waiting.items

abbrev pub decreases-loop-part : goal.decreases-loop-part
decreases-loop-part l = weight_of_all l.waiting.items
