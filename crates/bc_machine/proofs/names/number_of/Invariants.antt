use Rattle.std.proofs.Common.{◌≡◌, ◌+◌, map, drop}
use Rattle.std.specs.List.{position_from}
use Rattle.std.specs.Str.{bytes_eq}
use Rattle.bc_machine.proofs.names.number_of.Given as goal

abbrev pub invariant-loop-i : goal.invariant-loop-i
invariant-loop-i g l =
    position_from (λ known. bytes_eq known l.name) (l.i + 1) (map g.N.HasName.name_of (drop l.i l.table))
    ≡ position_from (λ known. bytes_eq known l.name) 1 (map g.N.HasName.name_of l.table)
