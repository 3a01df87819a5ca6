use Rattle.std.proofs.Common.{take}
use Rattle.bc_core.specs.View.{args}
use Rattle.bc_build.specs.Ranges.{AllAreSmall}
use Rattle.bc_build.proofs.ranges.+smallness.Given as goal

abbrev pub invariant-arguments_are_small-loop-argument : goal.invariant-arguments_are_small-loop-argument
invariant-arguments_are_small-loop-argument l = AllAreSmall (args (take l.argument-index l.arguments))
