use Rattle.bc_scope_translate.proofs.Pairs.{pairs_done}
use Rattle.bc_scope_translate.proofs.assignments.pairs.Goals as goal

pub returns : goal.returns
returns c =
    pairs_done c.loop-place.list.items c.loop-place.place-iterator.a c.loop-place.place-iterator.b _ _ c.in-None.ensures.steps c.loop-place.invariant.1 c.loop-place.invariant.2 c.loop-place.invariant.0
