use Rattle.std.proofs.Common.{◌≡◌, ◌++◌, arith}
use Rattle.bc_core.specs.WellFormed.{nodes}
use Rattle.bc_select.specs.Vector.{node, before, vector}
use Rattle.bc_select.proofs.Cuts.{vector_length}
use Rattle.bc_select.proofs.Ends.{at_end, at_end_count, first_part}
use Rattle.bc_select.proofs.pending_parts.start.Goals as goal

pub returns : goal.returns
returns c = λ xs e s h.
    let ns = c.args.nodes.now in
    let count : c.count_at.result ≡ nodes e = c.count_at.ensures (h.front ++ (xs ++ before e s)) h.following (node e s) (at_end ns _ xs e s h) (at_end_count ns _ xs e s h) in
    first_part ns _ _ xs (vector e s) h (omega (arith, c.saturating_sub.ensures, count, vector_length e s))
