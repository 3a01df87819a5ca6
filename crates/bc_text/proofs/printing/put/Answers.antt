-- The bytes taken before, followed by those taken now.
use Rattle.bc_text.proofs.Fronts.{taken_more, fits_more}
use Rattle.bc_text.proofs.printing.put.Goals as goal

pub loop-taken-preserved : goal.loop-taken-preserved
loop-taken-preserved g c = record {
  within = fits_more _ _ _ c.loop-taken.invariant.within c.in-Ok.ensures.bound;
  so_far = taken_more _ _ _ _ _ _ c.loop-taken.invariant.so_far c.in-Ok.ensures.bytes;
}
