use Rattle.std.proofs.Common.{sym, ◌∙◌}
use Rattle.bc_rules.proofs.Fitting.{assigned}
use Rattle.bc_rules.proofs.derivation.assigns.Goals as goal

pub returns-in-Some : goal.returns-in-Some
returns-in-Some c = assigned _ c.args.derivation.now _ _ c.in-Some.calls _ (rw (c.assignment_parts.ensures, c.deref.ensures.value) at (sym c.parts_derive.ensures ∙ c.in-Some.is)) c.sides_turn.ensures
