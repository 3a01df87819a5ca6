use Rattle.std.proofs.Common.{◌≡◌, length}
use Rattle.bc_rules_defs.specs.Rules.{no_part}
use Rattle.bc_rules_defs.specs.View.{derivations}
use Rattle.bc_select.specs.Marks.{unwind}
use Rattle.bc_select.proofs.derivations.built.Given as goal

abbrev pub invariant-loop-mark : goal.invariant-loop-mark
invariant-loop-mark l = unwind l.marks.items (derivations l.trees.items) ≡ unwind l.fn.marks.items no_part

abbrev pub decreases-loop-mark : goal.decreases-loop-mark
decreases-loop-mark l = length l.marks.items
