use Rattle.std.proofs.Common.{sym, ap, subst, ◌∙◌}
use Rattle.bc_core.specs.View.{exp, args}
use Rattle.bc_core.proofs.Rows.{call_view}
use Rattle.bc_build.specs.Ranges.{AreSmall, AllAreSmall}
use Rattle.bc_build.proofs.Arguments.{all_more}
use Rattle.bc_build.proofs.ranges.+smallness.Goals as goal

pub expression_is_small-returns-in-Call : goal.expression_is_small-returns-in-Call
expression_is_small-returns-in-Call t c =
    subst AreSmall (sym (ap exp c.in-Call.is ∙ call_view c.in-Call.arguments c.in-Call.routine)) (
      subst (λ es. AllAreSmall (args es)) c.deref-in-Call.ensures.value c.arguments_are_small.ensures,
      subst (λ e. AreSmall (exp e)) c.deref-in-Call-2.ensures c.expression_is_small-in-Call.ensures,
    )

pub arguments_are_small-loop-argument-preserved : goal.arguments_are_small-loop-argument-preserved
arguments_are_small-loop-argument-preserved t c =
    all_more c.args.arguments.now c.loop-argument.argument-index c.argument-item.result c.loop-argument-test.true c.loop-argument.invariant
    (subst (λ e. AreSmall (exp e)) c.argument-item.is c.expression_is_small.ensures)
