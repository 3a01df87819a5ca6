use Rattle.std.proofs.Common.{refl, append_assoc}
use Rattle.bc_scope_names.proofs.Extends.{extends_on, extends_self}
use Rattle.bc_scope_translate.proofs.Along.{declarations_on}
use Rattle.bc_scope_translate.proofs.blocks.declarations.Goals as goal

pub loop-tree-init : goal.loop-tree-init
loop-tree-init c = (refl, refl, refl, refl, extends_self c.args.scope.now)

pub loop-tree-preserved : goal.loop-tree-preserved
loop-tree-preserved c =
    let n = declarations_on c.args.list.now c.loop-tree.tree-index c.tree-item.result c.loop-tree-test.true c.tree-item.is in
    let v = rw n at c.loop-tree.invariant in
    let w = c.in_ok-following.ensures in (
      rw (w.0, w.1.0, w.2) v.0,
      rw (w.0, w.1.0, w.2) v.1,
      rw w.2 v.2,
      rw (w.0, w.1.0, w.2, w.3, append_assoc) v.3,
      extends_on c.args.scope.now c.loop-tree.scope c.declaration.new.scope v.4 w.1.1,
    )
