use Rattle.std.proofs.Common.{append_assoc}
use Rattle.bc_scope_translate.proofs.Along.{definitions_on}
use Rattle.bc_scope_translate.proofs.Finding.{drop_one}
use Rattle.bc_scope_translate.proofs.blocks.definitions.Goals as goal

pub loop-tree-preserved : goal.loop-tree-preserved
loop-tree-preserved c =
    let d = drop_one c.args.priors.now.greatest.items c.loop-tree.i in
    let n = definitions_on c.args.list.now c.loop-tree.tree-index c.tree-item.result c.loop-tree-test.true c.tree-item.is in
    let v = rw n at c.loop-tree.invariant in
    let w = rw c.at.ensures at c.in_ok-definition.ensures in (
      rw (w.1, c.in_ok-i.ensures, ← d, w.0, append_assoc) v.0,
      rw w.1 v.1,
    )
