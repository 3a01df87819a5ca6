use Rattle.std.proofs.Common.{◌≡◌, ◌++◌, length}
use Rattle.bc_core.specs.View.{items}
use Rattle.bc_tame.specs.Tame.{learned_all}
use Rattle.bc_tame_check.specs.Views.{set_over, env_at, reads_at}
use Rattle.bc_tame_check.proofs.learning.learned_all.Given as goal

abbrev pub invariant-loop-left : goal.invariant-loop-left
invariant-loop-left l =
    (l.reads.items ≡ l.fn.at.reads.now ++ l.more.items)
    × (learned_all (env_at l.fn.at) (set_over (reads_at l.fn.at) l.more.items) (items l.left) ≡ learned_all (env_at l.fn.at) (reads_at l.fn.at) (items l.fn.list))

abbrev pub decreases-loop-left : goal.decreases-loop-left
decreases-loop-left l = length l.left
