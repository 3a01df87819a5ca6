use Rattle.std.proofs.Common.{◌≡◌, ◌+◌, ◌++◌, ap, arith}
use Rattle.bc_core.specs.View.{exp}
use Rattle.bc_core.specs.WellFormed.{nodes}
use Rattle.bc_rules_defs.specs.declared.rule.Table.TheVariants.{Two}
use Rattle.bc_select.specs.Vector.{vector}
use Rattle.bc_select.proofs.Bounds.{choices_small}
use Rattle.bc_select.proofs.Laid.{right_of, front_of_right}
use Rattle.bc_select.proofs.Wholes.{pair_small, pair_whole, pair_is, operand_is}
use Rattle.bc_select.proofs.node_of_parts.pair_node.Goals as goal

pub pair_part-requires-clause-first : goal.pair_part-requires-clause-first
pair_part-requires-clause-first c =
    let o = c.args.operator.now in let a = exp c.args.left.now in let b = exp c.args.right.now in
    let k = c.last.ensures c.requires.laid.front a (o.level + 1) (front_of_right c.args.below.now c.cut-front.result.0 _ o.op a b o.level c.requires.laid c.cut-front.ensures) in
    let f = c.requires.fits in
    choices_small Two _ a (o.level + 1) (omega arith) (ap (λ n. n.choices) (operand_is _ c.last.result a (o.level + 1) c.operand_node.ensures k))

pub pair_part-requires-clause-second : goal.pair_part-requires-clause-second
pair_part-requires-clause-second c =
    let o = c.args.operator.now in let a = exp c.args.left.now in let b = exp c.args.right.now in
    let k = c.last-2.ensures (c.requires.laid.front ++ vector a (o.level + 1)) b (o.level + 1) (right_of c.args.below.now o.op a b o.level c.requires.laid) in
    let f = c.requires.fits in
    choices_small Two _ b (o.level + 1) (omega arith) (ap (λ n. n.choices) (operand_is _ c.last-2.result b (o.level + 1) c.operand_node-2.ensures k))

pub pair_part-requires-clause-value : goal.pair_part-requires-clause-value
pair_part-requires-clause-value c =
    let o = c.args.operator.now in let a = exp c.args.left.now in let b = exp c.args.right.now in
    let k = c.last.ensures c.requires.laid.front a (o.level + 1) (front_of_right c.args.below.now c.cut-front.result.0 _ o.op a b o.level c.requires.laid c.cut-front.ensures) in
    let l = c.last-2.ensures (c.requires.laid.front ++ vector a (o.level + 1)) b (o.level + 1) (right_of c.args.below.now o.op a b o.level c.requires.laid) in
    let f = c.requires.fits in
    pair_small (record { op = o.op; left = c.operand_node.result; right = c.operand_node-2.result; level = o.level }) o.operand o.op a b o.level (omega arith)
    (pair_is o.op _ _ a b o.level (operand_is _ c.last.result a (o.level + 1) c.operand_node.ensures k) (operand_is _ c.last-2.result b (o.level + 1) c.operand_node-2.ensures l))
    c.requires.operand

pub pair_part-requires-clause-fits : goal.pair_part-requires-clause-fits
pair_part-requires-clause-fits c =
    let o = c.args.operator.now in let a = exp c.args.left.now in let b = exp c.args.right.now in
    let k = c.last.ensures c.requires.laid.front a (o.level + 1) (front_of_right c.args.below.now c.cut-front.result.0 _ o.op a b o.level c.requires.laid c.cut-front.ensures) in
    let l = c.last-2.ensures (c.requires.laid.front ++ vector a (o.level + 1)) b (o.level + 1) (right_of c.args.below.now o.op a b o.level c.requires.laid) in
    let i : c.operand_node.result.nodes ≡ nodes a = ap (λ n. n.nodes) (operand_is _ c.last.result a (o.level + 1) c.operand_node.ensures k) in
    let j : c.operand_node-2.result.nodes ≡ nodes b = ap (λ n. n.nodes) (operand_is _ c.last-2.result b (o.level + 1) c.operand_node-2.ensures l) in
    let f = c.requires.fits in
    omega arith

pub returns : goal.returns
returns c =
    let o = c.args.operator.now in let a = exp c.args.left.now in let b = exp c.args.right.now in
    let k = c.last.ensures c.requires.laid.front a (o.level + 1) (front_of_right c.args.below.now c.cut-front.result.0 _ o.op a b o.level c.requires.laid c.cut-front.ensures) in
    let l = c.last-2.ensures (c.requires.laid.front ++ vector a (o.level + 1)) b (o.level + 1) (right_of c.args.below.now o.op a b o.level c.requires.laid) in
    pair_whole (record { op = o.op; left = c.operand_node.result; right = c.operand_node-2.result; level = o.level }) o.operand o.op a b o.level c.pair_part.result
    (pair_is o.op _ _ a b o.level (operand_is _ c.last.result a (o.level + 1) c.operand_node.ensures k) (operand_is _ c.last-2.result b (o.level + 1) c.operand_node-2.ensures l))
    c.requires.operand c.pair_part.ensures
