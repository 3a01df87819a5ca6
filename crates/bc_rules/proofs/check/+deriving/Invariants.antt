use Rattle.std.proofs.Common.{◌≡◌, drop}
use Rattle.bc_core.specs.View.{exp, args}
use Rattle.bc_rules_defs.specs.Parts.{called}
use Rattle.bc_rules_defs.specs.View.{derivations}
use Rattle.bc_rules.specs.Fits.{parts_fit}
use Rattle.bc_rules.proofs.check.+deriving.Given as goal

abbrev pub invariant-call-loop-i : goal.invariant-call-loop-i
invariant-call-loop-i l = parts_fit l.table (called 0 (args l.arguments) (exp l.routine)) (derivations l.trees) ≡ parts_fit l.table (called l.i (args (drop l.i l.arguments)) (exp l.routine)) (derivations (drop l.i l.trees))
