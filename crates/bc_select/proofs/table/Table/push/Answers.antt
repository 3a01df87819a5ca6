use Rattle.std.proofs.Common.{[], ◌∷◌, ◌++◌, ap, ◌∙◌}
use Rattle.bc_select.specs.Row.{parts_in}
use Rattle.bc_select.proofs.Tables.{stand_for, are_parts, rows_more, spans_more}
use Rattle.bc_select.proofs.table.Table.push.Goals as goal

pub invariant_of-self-in-Ok : goal.invariant_of-self-in-Ok
invariant_of-self-in-Ok c =
    let rows = c.self.inside.rows.items in let spans = c.self.inside.spans.items in let p = c.args.node.now in
    are_parts _ _ (parts_in rows spans ++ (p ∷ []))
    (rows_more rows c.push.new.self.items spans p c.self.invariant (c.in_ok-push.ensures.items ∙ ap (λ r. rows ++ (r ∷ [])) c.row_from.ensures))
    (spans_more rows spans c.push-2.new.self.items p c.self.invariant (c.in-Ok.ensures.items ∙ ap (λ r. spans ++ (record { nodes = p.nodes; rules = r; calls = p.calls } ∷ [])) c.rules_from-rules.ensures))

pub returns-in-Ok : goal.returns-in-Ok
returns-in-Ok c =
    let rows = c.self.inside.rows.items in let spans = c.self.inside.spans.items in let p = c.args.node.now in
    stand_for _ _ (parts_in rows spans ++ (p ∷ []))
    (rows_more rows c.push.new.self.items spans p c.self.invariant (c.in_ok-push.ensures.items ∙ ap (λ r. rows ++ (r ∷ [])) c.row_from.ensures))
    (spans_more rows spans c.push-2.new.self.items p c.self.invariant (c.in-Ok.ensures.items ∙ ap (λ r. spans ++ (record { nodes = p.nodes; rules = r; calls = p.calls } ∷ [])) c.rules_from-rules.ensures))
    ∙ ap (λ x. x ++ (p ∷ [])) c.self.view_is
