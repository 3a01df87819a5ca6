use Rattle.std.proofs.Common.{refl}
use Rattle.bc_convert.proofs.Solid.{solid_then}
use Rattle.bc_convert.proofs.lexeme.number.Goals as goal

pub with_digits-requires-clause-solid : goal.with_digits-requires-clause-solid
with_digits-requires-clause-solid c =
    solid_then c.with_digits-whole.result 1 c.args.bytes.now c.with_digits-whole.ensures.solid
    (rw c.following.ensures.rest at (c.if-begins_fraction.ensures.name refl))
