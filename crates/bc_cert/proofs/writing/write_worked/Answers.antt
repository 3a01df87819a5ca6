use Rattle.std.proofs.Common.{rules, ◌^◌, ◌<◌, length, subst, sym, ap, ◌∙◌}
use Rattle.std.proofs.lemmas.List.{length-map}
use Rattle.bc_rules_defs.specs.View.{entry}
use Rattle.bc_cert_write.specs.Certificate.{entry_of}
use Rattle.bc_cert_laws.proofs.Accepted.{certificate_is_said}
use Rattle.bc_cert.proofs.writing.write_worked.Goals as goal

pub returns-clause-accepted : goal.returns-clause-accepted
returns-clause-accepted W c = λ ds same fewest room.
    certificate_is_said ds fewest room (subst (λ n. n < 2 ^ 64) (sym (length-map c.args.entries.now entry) ∙ ap length same ∙ length-map ds entry_of) (search rules))
