use Rattle.std.proofs.Common.{ap, ◌∙◌, eqb}
use Rattle.bc_parse_tree.specs.declared.tree.Block.{out-Block}
use Rattle.bc_parse_tree.proofs.Lists.{block_spelled}
use Rattle.bc_parse_tree.proofs.spelling.+spelling.Goals as goal

pub block-returns : goal.block-returns
block-returns t c =
    let declarations = rw c.deref.ensures.value at c.in_ok-declarations.ensures in
    let items = rw c.deref-2.ensures.value at c.in_ok-items.ensures in
    block_spelled c.sign-2.result c.args.body.now _ _ _ _ _ _
    (c.is_empty.ensures ∙ ap (λ n. eqb n 0) (out-Block c.args.body.now).declarations.ok.0)
    c.in_ok-sign.ensures declarations items c.sign-2.ensures
