use Rattle.std.proofs.Common.{◌∷◌, [], arith}
use Rattle.bc_select.specs.Vector.{node, before}
use Rattle.bc_select.proofs.Ends.{first_part}
use Rattle.bc_select.proofs.pending_parts.below.Goals as goal

pub returns-clause-end : goal.returns-clause-end
returns-clause-end c = λ ns e s h. first_part ns _ _ (before e s) (node e s ∷ []) h (omega (arith, c.saturating_sub.ensures))
