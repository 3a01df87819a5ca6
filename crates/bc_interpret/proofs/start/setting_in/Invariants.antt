use Rattle.std.proofs.Common.{map, length}
use Rattle.bc_core.specs.View.{place_of}
use Rattle.bc_interpret_steps.specs.Sections.{placed_of}
use Rattle.bc_interpret.proofs.Starting.{SettingFrom}
use Rattle.bc_interpret.proofs.start.setting_in.Given as goal

abbrev pub invariant-loop-left : goal.invariant-loop-left
invariant-loop-left l = SettingFrom (placed_of l.section) l.label (map place_of l.left) l.global

abbrev pub decreases-loop-left : goal.decreases-loop-left
decreases-loop-left l = length l.left
