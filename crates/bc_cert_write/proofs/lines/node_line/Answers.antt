use Rattle.bc_cert_write.proofs.Steps.{on_ok}
use Rattle.bc_cert_write.proofs.Joined.{of_seven}
use Rattle.bc_cert_write.proofs.lines.node_line.Goals as goal

pub returns : goal.returns
returns c =
    on_ok c.push.result (λ h. of_seven _ _ _ _ _ _ _ _ _ _ _ _ _ _ _ _ _ c.in_ok-number.ensures c.in_ok-form_field.ensures c.in_ok-words_field.ensures c.in_ok-words_field-2.ensures c.in_ok-words_field-3.ensures c.in_ok-words_field-4.ensures c.in_ok-rules_field.ensures h) c.push.ensures
