use Rattle.std.proofs.Common.{◌∙◌, ◌+◌, ◌∷◌, ap, sym, drop}
use Rattle.std.proofs.lemmas.List.{at_drop_more}
use Rattle.bc_parse_tree.specs.View.{entries_view}
use Rattle.bc_scope_defs.specs.Scoping.{pending}
use Rattle.bc_scope_names.specs.View.{scope_view}
use Rattle.bc_scope_names.proofs.Extends.{extends_on}
use Rattle.bc_scope_names.proofs.declaring.declare_pending.Goals as goal

pub loop-entry-preserved : goal.loop-entry-preserved
loop-entry-preserved c =
    let i = c.loop-entry.entry-index in
    let rest = drop (i + 1) c.args.entries.now in
    let E = scope_view c.loop-entry.scope in (
      ap (λ F. pending c.args.storage (entries_view rest) F) c.in_ok-declare_pending_entry.ensures.0
          ∙ ap (λ x. pending c.args.storage (entries_view (x ∷ rest)) E) c.entry-item.is
          ∙ sym (at_drop_more (λ l. pending c.args.storage (entries_view l) E) c.args.entries.now i c.entry-item.result c.loop-entry-test.true)
          ∙ c.loop-entry.invariant.0,
      extends_on _ _ _ c.loop-entry.invariant.1 c.in_ok-declare_pending_entry.ensures.1,
    )
