use Rattle.std.proofs.Common.{◌≡◌, ◌+◌, ◌++◌, drop}
use Rattle.bc_core.specs.View.{exp, args}
use Rattle.bc_rules_defs.specs.Parts.{called}
use Rattle.bc_rules_defs.specs.ByShape.{labels_of_parts, code_of_parts}
use Rattle.bc_rules_defs.specs.View.{derivations}
use Rattle.bc_rules.proofs.writing.+writing.Given as goal

-- the level of the next argument; what was written and the remaining labels and code make the whole
abbrev pub invariant-call-loop-i : goal.invariant-call-loop-i
invariant-call-loop-i l =
    (l.level ≡ l.node.level + 2 + l.i)
    × (l.w.next + labels_of_parts l.node.rule (called l.i (args (drop l.i l.of.arguments.now)) (exp l.of.routine.now)) (derivations (drop l.i l.trees)) ≡ l.initial.w.next + labels_of_parts l.node.rule (called 0 (args l.of.arguments.now) (exp l.of.routine.now)) (derivations l.trees))
    × (l.w.pieces.items ++ code_of_parts l.node.rule l.node.aim (exp l.node.of.now) (called l.i (args (drop l.i l.of.arguments.now)) (exp l.of.routine.now)) (derivations (drop l.i l.trees)) l.node.level l.node.target l.w.next ≡ l.initial.w.pieces.items ++ code_of_parts l.node.rule l.node.aim (exp l.node.of.now) (called 0 (args l.of.arguments.now) (exp l.of.routine.now)) (derivations l.trees) l.node.level l.node.target l.initial.w.next)
