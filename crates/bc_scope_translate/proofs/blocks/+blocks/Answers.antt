use Rattle.std.proofs.Common.{◌∙◌, ◌++◌, sym, refl, ap}
use Rattle.std.proofs.lemmas.List.{at_drop_all}
use Rattle.bc_core.specs.View.{declarations as declarations_of, items as items_of}
use Rattle.bc_parse_tree.specs.declared.tree.Block.{out-Block}
use Rattle.bc_parse_tree.specs.View.{declarations_view, items_view}
use Rattle.bc_scope_defs.specs.Numbering.{labels_in, after_items}
use Rattle.bc_scope_defs.specs.Scope.{after_labels}
use Rattle.bc_scope_names.specs.View.{scope_view}
use Rattle.bc_scope_translate.specs.Next.{next_numbers}
use Rattle.bc_scope_defs.specs.Translation.{core_declarations}
use Rattle.bc_scope_translate.specs.Seen.{items_entries}
use Rattle.bc_scope_translate.proofs.Finding.{taken_back}
use Rattle.bc_scope_translate.proofs.Lists.{items_done, block_made}
use Rattle.bc_scope_translate.proofs.Views.{block_seen}
use Rattle.bc_scope_translate.proofs.blocks.+blocks.Goals as goal

pub items-returns : goal.items-returns
items-returns t c =
    let E = scope_view c.args.scope.now in
    let at = next_numbers c.loop-tree.at in (
      items_done c.loop-tree.list.items c.args.trees.now c.loop-tree.tree-index (λ is. items_entries (scope_view c.loop-tree.scope) c.loop-tree.number at (items_view is) c.args.level) E c.args.number (next_numbers c.args.at.now) (items_view c.args.trees.now) c.args.level c.loop-tree-test.false refl c.loop-tree.invariant.0,
      sym (at_drop_all (λ is. after_items at (items_view is)) c.args.trees.now c.loop-tree.tree-index c.loop-tree-test.false) ∙ c.loop-tree.invariant.1,
      c.loop-tree.invariant.2,
    )

pub block-returns : goal.block-returns
block-returns t c =
    let E = scope_view c.args.scope.now in
    let at0 = next_numbers c.args.at.now in
    let at1 = next_numbers c.declarations.new.at in
    let ds = declarations_view (out-Block c.args.tree.now).declarations.items in
    let is = items_view (out-Block c.args.tree.now).items.items in
    let w = rw c.deref.ensures.value at c.in_ok-level.ensures in
    let u = rw c.deref-2.ensures.value at c.in_ok-list.ensures in
    rw (block_seen c.args.tree.now) (
      block_made (declarations_of c.declarations.new.declarations.items) (items_of c.in_ok-list.list.items) (scope_view c.declarations.new.scope) E at1 at0 ds is c.in_ok-level.level c.args.level (w.3 ∙ ap (λ xs. declarations_of xs ++ core_declarations E at0 c.args.level ds) c.new-opened.ensures.items) w.2 w.1.0 w.0 u.0,
      u.1 ∙ ap (λ n. after_items (after_labels n (labels_in is)) is) w.2,
      taken_back c.args.scope.now c.declarations.new.scope c.command_list.new.scope c.leave.new.self _ c.mark-outside.ensures w.1.1 u.2 c.leave.ensures,
    )
