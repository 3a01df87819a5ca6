use Rattle.std.proofs.Common.{ap, sym, ◌∙◌}
use Rattle.bc_core.specs.View.{exp}
use Rattle.bc_core.proofs.Rows.{call_view}
use Rattle.bc_select.proofs.Wholes.{args_count}
use Rattle.bc_cert_write.specs.Walked.{form_of}
use Rattle.bc_cert_write.specs.declared.form.Form.TheVariants as forms
use Rattle.bc_cert_write.proofs.form.without_parts.Goals as goal

pub returns-in-Call : goal.returns-in-Call
returns-in-Call c =
    ap (λ n. forms.Call n) (c.len.ensures ∙ c.in-Call.arguments.ok.0 ∙ sym (args_count c.in-Call.arguments.items))
    ∙ sym (ap form_of (ap exp c.in-Call.is ∙ call_view c.in-Call.arguments c.in-Call.field-1))
