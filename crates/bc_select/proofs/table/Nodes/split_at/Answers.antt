use Rattle.std.proofs.Common.{take, drop, ap, ◌∙◌}
use Rattle.bc_select.specs.Row.{parts_in}
use Rattle.bc_select.proofs.Tables.{stand_for, are_parts, rows_take, rows_drop, spans_take, spans_drop}
use Rattle.bc_select.proofs.table.Nodes.split_at.Goals as goal

pub invariant_of-front : goal.invariant_of-front
invariant_of-front c =
    let rows = c.self.inside.rows.now in let spans = c.self.inside.spans.now in let n = c.args.count in
    are_parts _ _ (take n (parts_in rows spans)) (c.split_at.ensures.front ∙ rows_take rows spans n c.self.invariant) (c.split_at-2.ensures.front ∙ spans_take rows spans n c.self.invariant)

pub invariant_of-back : goal.invariant_of-back
invariant_of-back c =
    let rows = c.self.inside.rows.now in let spans = c.self.inside.spans.now in let n = c.args.count in
    are_parts _ _ (drop n (parts_in rows spans)) (c.split_at.ensures.back ∙ rows_drop rows spans n c.self.invariant) (c.split_at-2.ensures.back ∙ spans_drop rows spans n c.self.invariant)

pub returns-clause-front : goal.returns-clause-front
returns-clause-front c =
    let rows = c.self.inside.rows.now in let spans = c.self.inside.spans.now in let n = c.args.count in
    stand_for _ _ (take n (parts_in rows spans)) (c.split_at.ensures.front ∙ rows_take rows spans n c.self.invariant) (c.split_at-2.ensures.front ∙ spans_take rows spans n c.self.invariant)
    ∙ ap (take n) c.self.view_is

pub returns-clause-back : goal.returns-clause-back
returns-clause-back c =
    let rows = c.self.inside.rows.now in let spans = c.self.inside.spans.now in let n = c.args.count in
    stand_for _ _ (drop n (parts_in rows spans)) (c.split_at.ensures.back ∙ rows_drop rows spans n c.self.invariant) (c.split_at-2.ensures.back ∙ spans_drop rows spans n c.self.invariant)
    ∙ ap (drop n) c.self.view_is
