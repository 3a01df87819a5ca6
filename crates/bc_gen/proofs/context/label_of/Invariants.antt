use Rattle.std.proofs.Common.{◌≡◌, drop}
use Rattle.bc_gen.specs.Surroundings.{label_in}
use Rattle.bc_gen.proofs.context.label_of.Given as goal

abbrev pub invariant-loop-each : goal.invariant-loop-each
invariant-loop-each l = label_in (drop l.each-index l.list) l.number l.without ≡ label_in l.list l.number l.without
