use Rattle.std.proofs.Common.{◌∙◌, ap, length}
use Rattle.std.proofs.lemmas.List.{length-set}
use Rattle.bc_interpret_store.specs.declared.change.Change.{Change}
use Rattle.bc_interpret_store.proofs.Following.{extends_one, updates_none, updates_one}
use Rattle.bc_interpret_store.proofs.history.catch_up_within.Goals as goal

pub returns-then-is_same-clause-updates : goal.returns-then-is_same-clause-updates
returns-then-is_same-clause-updates c =
    updates_none c.args.address c.args.cells.now.items c.args.seen.now.items c.cell_at-old.result c.cell_at-new.result c.cell_at-old.ensures (c.is_same.ensures c.if-is_same.true)
    c.cell_at-new.ensures

pub returns-clause-length : goal.returns-clause-length
returns-clause-length c = ap length c.put.ensures ∙ length-set c.args.seen.now.items c.args.address c.cell_at-new.result

pub returns-clause-extends : goal.returns-clause-extends
returns-clause-extends c =
    let change : Change = record { address = c.args.address; old = c.cell_at-old.result; new = c.cell_at-new.result } in
    extends_one _ _ _ _ change c.requires c.cell_at-old.ensures c.in_ok-push.ensures.items c.put.ensures

pub returns-clause-updates : goal.returns-clause-updates
returns-clause-updates c =
    updates_one c.args.address c.args.cells.now.items c.args.seen.now.items _ c.cell_at-new.result c.requires c.put.ensures c.cell_at-new.ensures
