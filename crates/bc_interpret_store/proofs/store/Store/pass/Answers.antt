use Rattle.std.proofs.Common.{◌≡◌, ◌≤◌, length, reverse, sym, ◌∙◌, arith}
use Rattle.bc_interpret_store.proofs.Cells.{passed_beyond}
use Rattle.bc_interpret_store.proofs.store.Store.pass.Goals as goal

pub returns-else-address-len : goal.returns-else-address-len
returns-else-address-len c =
    let l = c.loop-left in
    let h : length l.self ≤ l.address = omega (arith, c.len.ensures) in
    sym (passed_beyond l.left l.address (reverse l.arguments.items) l.self h) ∙ l.invariant
