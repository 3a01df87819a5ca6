use Rattle.std.proofs.Common.{None, ap, ◌∙◌}
use Rattle.bc_rules_defs.specs.declared.rule.Rule.TheVariants.{V1}
use Rattle.bc_select_defs.specs.Choices.{mixed}
use Rattle.bc_select_defs.specs.Options.{operand_cost, words_of, candidate, better, least_from}
use Rattle.bc_select.proofs.Lines.{first_then}
use Rattle.bc_select.proofs.binary_choices.pushed.Goals as goal

pub returns : goal.returns
unfolding least_from
returns c =
    let p = c.args.pair.now in
    first_then (candidate V1 (operand_cost c.args.operand)) (mixed p.op p.left p.right (words_of p.left.choices.push) (words_of p.right.choices.push)) c.better-own.result _ (c.better-own.ensures ∙ ap (better None V1) c.alone.ensures) (cc)
