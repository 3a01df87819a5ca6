use Rattle.std.proofs.Common.{◌≡◌, length, arith}
use Rattle.bc_core.specs.View.{exp}
use Rattle.bc_rules.proofs.Counts.{call_labels_last, call_labels_misfit}
use Rattle.bc_rules.proofs.counting.+counting.Goals.{call-then-trees-n-via-then-trees-n, call-then-trees-n-via-else-trees-n+then-trees-n-ne1}
use Rattle.bc_rules.proofs.counting.+counting.Goals as goal

pub call-returns-then-trees-n : goal.call-returns-then-trees-n
call-returns-then-trees-n t c =
    let i : c.loop-i.i ≡ length c.args.arguments.now = omega arith in
    elim c.then-trees-n.branch [
      | call-then-trees-n-via-then-trees-n w ↦ let none = call_labels_misfit c.args.rule c.args.trees.now c.args.arguments.now (exp c.args.routine.now) c.loop-i.i i (λ e. omega arith) in omega (arith, c.loop-i.invariant.1, none)
      | call-then-trees-n-via-else-trees-n+then-trees-n-ne1 w ↦ let none = call_labels_misfit c.args.rule c.args.trees.now c.args.arguments.now (exp c.args.routine.now) c.loop-i.i i (λ e. omega arith) in omega (arith, c.loop-i.invariant.1, none)
    ]

pub call-returns : goal.call-returns
call-returns t c =
    let i : c.loop-i.i ≡ length c.args.arguments.now = omega arith in
    let last = call_labels_last c.args.rule c.args.trees.now c.args.arguments.now (exp c.args.routine.now) c.loop-i.i _ _ i (omega arith) c.index-trees-n.is in
    omega (arith, c.loop-i.invariant.1, last)
