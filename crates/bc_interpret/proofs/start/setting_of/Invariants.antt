use Rattle.std.proofs.Common.{◌≡◌, length}
use Rattle.bc_core.specs.Map.{standing}
use Rattle.bc_core.specs.Start.{setting}
use Rattle.bc_interpret_steps.specs.Sections.{program_of}
use Rattle.bc_interpret.proofs.start.setting_of.Given as goal

abbrev pub invariant-loop-left : goal.invariant-loop-left
invariant-loop-left l = setting (standing (program_of l.sections)) l.global ≡ setting (standing (program_of l.left)) l.global

abbrev pub decreases-loop-left : goal.decreases-loop-left
decreases-loop-left l = length l.left
