use Rattle.std.proofs.Common.{◌≡◌, [], ◌++◌, ap, sym, subst, ◌∙◌, arith}
use Rattle.bc_core.specs.View.{exp}
use Rattle.bc_rules_defs.specs.declared.rule.Table.TheVariants.{Two}
use Rattle.bc_rules_defs.specs.Rules.{by}
use Rattle.bc_select.specs.Selection.{words_or_none}
use Rattle.bc_select.specs.Vector.{vector}
use Rattle.bc_select.specs.Waiting.{AreReady, trees_of}
use Rattle.bc_select.proofs.Bounds.{choices_small}
use Rattle.bc_select.proofs.Ends.{all_end}
use Rattle.bc_select.proofs.Readings.{assignment_choice, assignment_is}
use Rattle.bc_select.proofs.Wholes.{operand_is}
use Rattle.bc_select.proofs.selection.assignment.Goals as goal

pub assign_choice-choice-requires-clause-value : goal.assign_choice-choice-requires-clause-value
assign_choice-choice-requires-clause-value c =
    let v = exp c.args.value.now in let a = exp c.args.address.now in let s = c.side_level-side.result in
    let k : c.args.nodes.now ≡ vector v s ++ vector a s = c.requires.nodes ∙ ap (λ n. vector v n ++ vector a n) (sym c.side_level-side.ensures) in
    let p = c.last.ensures [] v s (c.cut-front.ensures (vector v s) a s k).first_is in
    let r = c.requires.fits in let l = c.requires.level in
    choices_small Two _ v s (omega arith) (ap (λ n. n.choices) (operand_is _ c.last.result v s c.operand_node-first.ensures p))

pub assign_choice-choice-requires-clause-address : goal.assign_choice-choice-requires-clause-address
assign_choice-choice-requires-clause-address c =
    let v = exp c.args.value.now in let a = exp c.args.address.now in let s = c.side_level-side.result in
    let k : c.args.nodes.now ≡ vector v s ++ vector a s = c.requires.nodes ∙ ap (λ n. vector v n ++ vector a n) (sym c.side_level-side.ensures) in
    let p = c.last-2.ensures (vector v s) a s k in
    let r = c.requires.fits in let l = c.requires.level in
    choices_small Two _ a s (omega arith) (ap (λ n. n.choices) (operand_is _ c.last-2.result a s c.operand_node-second.ensures p))

pub sides_read-requires-clause-nodes : goal.sides_read-requires-clause-nodes
sides_read-requires-clause-nodes c =
    let v = exp c.args.value.now in let a = exp c.args.address.now in let s = c.side_level-side.result in
    all_end _ (vector v s ++ vector a s) _ (c.requires.nodes ∙ ap (λ n. vector v n ++ vector a n) (sym c.side_level-side.ensures)) c.len.ensures

pub read-requires : goal.read-requires
read-requires c =
    let p = c.in_ok-sides_read.ensures in
    let own : c.sides_read.new.waiting.items ≡ p.added = p.is ∙ ap (λ x. x ++ p.added) c.new-waiting.ensures.items in
    subst (AreReady c.args.nodes.now) (sym own) p.ready

pub returns-clause-derivation : goal.returns-clause-derivation
returns-clause-derivation c =
    let v = exp c.args.value.now in let a = exp c.args.address.now in let s = c.side_level-side.result in
    let k : c.args.nodes.now ≡ vector v s ++ vector a s = c.requires.nodes ∙ ap (λ n. vector v n ++ vector a n) (sym c.side_level-side.ensures) in
    let first = operand_is _ c.last.result v s c.operand_node-first.ensures (c.last.ensures [] v s (c.cut-front.ensures (vector v s) a s k).first_is) in
    let second = operand_is _ c.last-2.result a s c.operand_node-second.ensures (c.last-2.ensures (vector v s) a s k) in
    let choice = assignment_choice v a c.args.level s _ _ _ _ c.assign_choice-choice.ensures c.own_operand.ensures first second c.side_level-side.ensures in
    let p = c.in_ok-sides_read.ensures in
    let own : c.sides_read.new.waiting.items ≡ p.added = p.is ∙ ap (λ x. x ++ p.added) c.new-waiting.ensures.items in
    c.tree.ensures ∙ ap (by c.rule_or_v1-rule.result) (c.in_ok-trees.ensures ∙ ap trees_of own ∙ p.trees_are)
    ∙ assignment_is v a c.args.level s c.assign_choice-choice.result c.rule_or_v1-rule.result c.side_level-side.ensures choice c.rule_or_v1-rule.ensures

pub returns-clause-words : goal.returns-clause-words
returns-clause-words c =
    let v = exp c.args.value.now in let a = exp c.args.address.now in let s = c.side_level-side.result in
    let k : c.args.nodes.now ≡ vector v s ++ vector a s = c.requires.nodes ∙ ap (λ n. vector v n ++ vector a n) (sym c.side_level-side.ensures) in
    let first = operand_is _ c.last.result v s c.operand_node-first.ensures (c.last.ensures [] v s (c.cut-front.ensures (vector v s) a s k).first_is) in
    let second = operand_is _ c.last-2.result a s c.operand_node-second.ensures (c.last-2.ensures (vector v s) a s k) in
    c.count.ensures ∙ ap words_or_none (assignment_choice v a c.args.level s _ _ _ _ c.assign_choice-choice.ensures c.own_operand.ensures first second c.side_level-side.ensures)
