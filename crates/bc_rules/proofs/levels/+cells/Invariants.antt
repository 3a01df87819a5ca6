use Rattle.std.proofs.Common.{◌≡◌, ◌≤◌, ◌+◌, min, max, drop}
use Rattle.bc_core.specs.View.{args}
use Rattle.bc_rules.specs.Levels.{cells_of_all}
use Rattle.bc_rules.proofs.levels.+cells.Given as goal

abbrev pub invariant-cells_of_arguments-loop-argument : goal.invariant-cells_of_arguments-loop-argument
invariant-cells_of_arguments-loop-argument l = (l.most ≤ 65537) × (l.at ≡ l.level + l.argument-index) × (min (cells_of_all (args l.arguments) l.level) 65537 ≡ max l.most (min (cells_of_all (args (drop l.argument-index l.arguments)) l.at) 65537))
