use Rattle.std.proofs.Common.{◌∙◌, ◌+◌, ◌∷◌, ap, sym, drop}
use Rattle.std.proofs.lemmas.List.{at_drop_more}
use Rattle.bc_parse_tree.specs.View.{item_view, items_view}
use Rattle.bc_scope_defs.specs.Scoping.{in_item, in_list}
use Rattle.bc_scope_names.specs.View.{scope_view}
use Rattle.bc_scope_names.proofs.Extends.{extends_on}
use Rattle.bc_scope_names.proofs.declaring.declare_list.Goals as goal

pub loop-item-preserved : goal.loop-item-preserved
loop-item-preserved c =
    let i = c.loop-item.item-index in
    let rest = drop (i + 1) c.args.items.now in
    let number = c.loop-item.number in
    let E = scope_view c.loop-item.scope in
    let made = c.in_ok-number.ensures in (
      ap (λ F. in_list c.in_ok-number.number (items_view rest) F) made.0.0
          ∙ ap (λ n. in_list n (items_view rest) (in_item number (item_view c.item-item.result) E)) made.1
          ∙ ap (λ x. in_list number (items_view (x ∷ rest)) E) c.item-item.is
          ∙ sym (at_drop_more (λ l. in_list number (items_view l) E) c.args.items.now i c.item-item.result c.loop-item-test.true)
          ∙ c.loop-item.invariant.0,
      extends_on _ _ _ c.loop-item.invariant.1 made.0.1,
    )
