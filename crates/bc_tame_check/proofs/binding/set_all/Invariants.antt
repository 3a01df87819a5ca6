use Rattle.std.proofs.Common.{◌≡◌, map, length}
use Rattle.bc_core.specs.View.{variable}
use Rattle.bc_tame.specs.Tame.{Knows, and_all}
use Rattle.bc_tame_check.specs.Views.{set_over, env_at}
use Rattle.bc_tame_check.proofs.binding.set_all.Given as goal

abbrev pub invariant-loop-left : goal.invariant-loop-left
invariant-loop-left l =
    let E = env_at l.fn.at in
    (R : Knows) → and_all E l.fn.kept (map variable l.left) l.offset (set_over R l.reads.items) ≡ and_all E l.fn.kept (map variable l.fn.variables) l.fn.level (set_over R l.fn.reads.items)

abbrev pub decreases-loop-left : goal.decreases-loop-left
decreases-loop-left l = length l.left
