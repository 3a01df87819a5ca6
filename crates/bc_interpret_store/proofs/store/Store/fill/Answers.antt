use Rattle.std.proofs.Common.{◌≡◌, ◌≤◌, length, sym, ◌∙◌, arith}
use Rattle.bc_interpret_store.specs.Cells.{cell_view}
use Rattle.bc_interpret_store.proofs.Cells.{filled_beyond}
use Rattle.bc_interpret_store.proofs.store.Store.fill.Goals as goal

pub returns-else-address-len : goal.returns-else-address-len
returns-else-address-len c =
    let l = c.loop-left in
    let h : length l.self ≤ l.address = omega (arith, c.len.ensures) in
    sym (filled_beyond l.left l.address (cell_view c.args.cell) l.self h) ∙ l.invariant
