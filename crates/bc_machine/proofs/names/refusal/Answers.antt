use Rattle.std.proofs.Common.{◌≤◌, List, ℕ, length, map, take, sym, ap, ◌∙◌, subst}
use Rattle.bc_machine.proofs.Refusals.{stands_in, passes, repeats}
use Rattle.bc_machine.proofs.names.refusal.Goals as goal

pub returns-then-is_among : goal.returns-then-is_among
returns-then-is_among g c =
    let before = map g.N.HasName.name_of (take c.loop-i.i c.args.table.now) in
    let short = subst (λ (name : List ℕ). length name ≤ 255) c.name.ensures c.if-name-gt255.false in
    let found = ap (λ name. stands_in name before) (sym c.name-in-loop-i.ensures) ∙ sym c.is_among.ensures ∙ c.if-is_among.true in
    sym (repeats g.N.HasName.name_of c.args.table.now c.loop-i.i c.index-table-i.result c.loop-i-test.true c.index-table-i.is short found)
    ∙ c.loop-i.invariant

pub loop-i-preserved : goal.loop-i-preserved
loop-i-preserved g c =
    let before = map g.N.HasName.name_of (take c.loop-i.i c.args.table.now) in
    let short = subst (λ (name : List ℕ). length name ≤ 255) c.name.ensures c.if-name-gt255.false in
    let fresh = ap (λ name. stands_in name before) (sym c.name-in-loop-i.ensures) ∙ sym c.is_among.ensures ∙ c.if-is_among.false in
    sym (passes g.N.HasName.name_of c.args.table.now c.loop-i.i c.index-table-i.result c.loop-i-test.true c.index-table-i.is short fresh)
    ∙ c.loop-i.invariant
