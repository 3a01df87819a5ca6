use Rattle.std.proofs.Common.{◌≡◌, length}
use Rattle.bc_core.specs.View.{items}
use Rattle.bc_tame.specs.Tame.{AnyWord, fills, and_where}
use Rattle.bc_tame_check.specs.Views.{set_over, reads_at}
use Rattle.bc_tame_check.proofs.filling.filled_by.Given as goal

abbrev pub invariant-loop-left : goal.invariant-loop-left
invariant-loop-left l =
    let R = reads_at l.fn.at in
    let at = l.fn.rounds in
    and_where (fills R at.variable at.first at.last (items l.left)) AnyWord (set_over R l.more.items) ≡ and_where (fills R at.variable at.first at.last (items l.fn.list)) AnyWord R

abbrev pub decreases-loop-left : goal.decreases-loop-left
decreases-loop-left l = length l.left
