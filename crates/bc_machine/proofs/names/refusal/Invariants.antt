use Rattle.std.proofs.Common.{◌≡◌, map, drop, take}
use Rattle.bc_machine.specs.Refusal.{refusal_from, refusal_in}
use Rattle.bc_machine.proofs.names.refusal.Given as goal

abbrev pub invariant-loop-i : goal.invariant-loop-i
invariant-loop-i g l =
    refusal_from (map g.N.HasName.name_of (take l.i l.table)) (map g.N.HasName.name_of (drop l.i l.table))
    ≡ refusal_in (map g.N.HasName.name_of l.table)
