use Rattle.std.proofs.Common.{◌+◌, drop, refl, ap, ◌∙◌, sym}
use Rattle.bc_parse_tree.specs.View.{constant_view, entries_view}
use Rattle.bc_scope_names.proofs.Extends.{extends_on, extends_self}
use Rattle.bc_scope_names.specs.View.{scope_view, numbers_view}
use Rattle.bc_scope_defs.specs.Numbering.{after_entry}
use Rattle.bc_scope_defs.specs.Scoping.{constant, in_entry}
use Rattle.bc_scope_defs.specs.Found.{found_entry, found_in_entries}
use Rattle.bc_scope_translate.proofs.Along.{entries_on}
use Rattle.bc_scope_translate.proofs.Finding.{left_over}
use Rattle.bc_scope_translate.proofs.Views.{constant_seen}
use Rattle.bc_scope_translate.proofs.places_and_valofs.entries.Goals as goal

pub loop-tree-init : goal.loop-tree-init
loop-tree-init c = (refl, refl, refl, extends_self c.args.scope.now)

pub loop-tree-preserved : goal.loop-tree-preserved
loop-tree-preserved c =
    let E = scope_view c.loop-tree.scope in
    let at0 = numbers_view c.loop-tree.found.at in
    let k = c.args.storage in
    let x = constant_view c.tree-item.result in
    let es = entries_view (drop (c.loop-tree.tree-index + 1) c.args.list.now) in
    let n = entries_on c.args.list.now c.loop-tree.tree-index c.tree-item.result c.loop-tree-test.true c.tree-item.is in
    let v = rw n at c.loop-tree.invariant in
    let d = c.in_ok-declare_entry.ensures in
    let y = c.constant-value.ensures ∙ sym (ap (λ z. constant E z.1) (constant_seen c.tree-item.result)) in
    let w = rw y at c.in_ok-entry.ensures in (
      rw (w.1, d.0) (left_over _ _ _ (found_entry k at0 (constant E x.1)) (found_in_entries k (after_entry k at0) es (in_entry k at0 x.0 x.1 E)) w.0 v.0),
      rw w.1 v.1,
      rw (w.1, d.0) v.2,
      extends_on c.args.scope.now c.loop-tree.scope c.declare_entry.new.scope v.3 d.1,
    )
