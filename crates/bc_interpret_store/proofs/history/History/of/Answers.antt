use Rattle.std.proofs.Common.{rules, sym, ◌∙◌}
use Rattle.bc_interpret_store.proofs.Following.{kept_none}
use Rattle.bc_interpret_store.proofs.history.History.of.Goals as goal

pub invariant_of-result : goal.invariant_of-result
invariant_of-result c = kept_none _ _ _ (search rules) (c.in_ok-first.ensures ∙ sym c.in_ok-now.ensures)

pub returns : goal.returns
returns c = record { changes = search rules; first = c.in_ok-first.ensures; now = c.in_ok-now.ensures }
