use Rattle.std.proofs.Common.{◌≡◌, drop}
use Rattle.bc_text_items.specs.Assembled.{global_settings}
use Rattle.bc_link.specs.Labels.{label_address}
use Rattle.bc_link.specs.Store.{with_settings}
use Rattle.bc_link.proofs.store.set_globals.Given as goal

abbrev pub invariant-loop-item : goal.invariant-loop-item
invariant-loop-item l = with_settings (label_address l.labels) (global_settings (drop l.item-index l.items)) l.cells ≡ with_settings (label_address l.labels) (global_settings l.items) l.initial.cells
