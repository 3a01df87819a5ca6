use Rattle.std.proofs.Common.{None, ap, ◌∙◌}
use Rattle.bc_rules_defs.specs.declared.rule.Rule.TheVariants.{V0}
use Rattle.bc_select_defs.specs.Options.{words_of, candidate, better, least_from}
use Rattle.bc_select_defs.specs.Choices.{mixed, worked}
use Rattle.bc_select.proofs.Lines.{first_then_both}
use Rattle.bc_select.proofs.binary_choices.any.Goals as goal

pub returns : goal.returns
unfolding least_from
returns c =
    let p = c.args.pair.now in
    let own = c.better-own.ensures ∙ ap (better None V0) c.any_words.ensures in
    first_then_both (candidate V0 (words_of c.args.push)) (mixed p.op p.left p.right (words_of p.left.choices.any) (words_of p.right.choices.any)) (worked p.op p.left p.right p.level) c.better-own.result c.mixed-mixed.result _ own (cc) (cc)
