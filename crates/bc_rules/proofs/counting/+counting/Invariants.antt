use Rattle.std.proofs.Common.{◌≡◌, ◌≤◌, ◌+◌, min, drop}
use Rattle.bc_core.specs.View.{exp, args}
use Rattle.bc_rules_defs.specs.Parts.{called}
use Rattle.bc_rules_defs.specs.ByShape.{labels_of_parts}
use Rattle.bc_rules_defs.specs.View.{derivations}
use Rattle.bc_rules.proofs.counting.+counting.Given as goal

abbrev pub invariant-call-loop-i : goal.invariant-call-loop-i
invariant-call-loop-i l = (l.total ≤ 65537) × (min (labels_of_parts l.fn.rule (called 0 (args l.arguments) (exp l.routine)) (derivations l.trees)) 65537 ≡ min (l.total + labels_of_parts l.fn.rule (called l.i (args (drop l.i l.arguments)) (exp l.routine)) (derivations (drop l.i l.trees))) 65537)
