-- The items' own equality is equality.
use Rattle.std.proofs.Common.{sym, ◌∙◌}
use Rattle.bc_cert_against.proofs.Items.{same}
use Rattle.bc_cert_against.proofs.against.is_same.Goals as goal

pub returns-clause-same : goal.returns-clause-same
returns-clause-same c e = same _ _ (sym c.eq.ensures ∙ e)
