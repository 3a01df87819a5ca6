use Rattle.std.proofs.Common.{◌≡◌, map, drop}
use Rattle.std.specs.List.{list_any}
use Rattle.std.specs.Str.{bytes_eq}
use Rattle.bc_machine.proofs.names.is_among.Given as goal

abbrev pub invariant-loop-stream : goal.invariant-loop-stream
invariant-loop-stream g l =
    list_any (λ known. bytes_eq known l.name) (map g.N.HasName.name_of (drop l.stream-index l.table))
    ≡ list_any (λ known. bytes_eq known l.name) (map g.N.HasName.name_of l.table)
