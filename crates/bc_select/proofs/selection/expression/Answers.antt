use Rattle.std.proofs.Common.{◌≡◌, [], ◌++◌, ap, sym, subst, ◌∙◌}
use Rattle.bc_core.specs.View.{exp}
use Rattle.bc_rules_defs.specs.Rules.{by}
use Rattle.bc_select_defs.specs.Choices.{choice_for}
use Rattle.bc_select.specs.Selection.{words_or_none}
use Rattle.bc_select.specs.Vector.{node, before}
use Rattle.bc_select.specs.Waiting.{AreReady, trees_of}
use Rattle.bc_select.proofs.Ends.{all_end, at_end, at_end_count}
use Rattle.bc_select.proofs.Readings.{reading_is}
use Rattle.bc_select.proofs.selection.expression.Goals as goal

pub parts-requires-clause-nodes : goal.parts-requires-clause-nodes
parts-requires-clause-nodes c = all_end _ _ _ c.requires.nodes c.len.ensures

pub read-requires : goal.read-requires
read-requires c =
    let p = c.in_ok-parts.ensures in
    let own : c.parts.new.waiting.items ≡ p.added = p.is ∙ ap (λ x. x ++ p.added) c.new-waiting.ensures.items in
    subst (AreReady c.args.nodes.now) (sym own) p.ready

pub returns-clause-derivation : goal.returns-clause-derivation
returns-clause-derivation c =
    let e = exp c.args.e.now in let s = c.args.level in let rule = c.rule_at-rule.result in let h = all_end _ _ _ c.requires.nodes c.len.ensures in
    let p = c.in_ok-parts.ensures in
    let own : c.parts.new.waiting.items ≡ p.added = p.is ∙ ap (λ x. x ++ p.added) c.new-waiting.ensures.items in
    c.tree.ensures ∙ ap (by rule) (c.in_ok-trees.ensures ∙ ap trees_of own ∙ p.trees_are)
    ∙ reading_is e s c.args.aim rule (c.rule_at-rule.ensures (h.front ++ before e s) h.following (node e s) (at_end _ _ [] e s h) (at_end_count _ _ [] e s h))

pub returns-clause-words : goal.returns-clause-words
returns-clause-words c = c.count.ensures ∙ ap words_or_none (c.choice_for.ensures ∙ ap (λ p. choice_for c.args.aim p.choices) (c.last.ensures [] (exp c.args.e.now) c.args.level c.requires.nodes))
