use Rattle.std.proofs.Common.{◌≡◌, ◌-◌, ◌+◌, length, []}
use Rattle.bc_parse_defs.specs.Reading.{piece, turns, name_turn}
use Rattle.bc_parse.specs.Seen.{seen, read_view, list_view}
use Rattle.bc_parse.specs.Names.{names_view}
use Rattle.bc_parse.proofs.names.names.Given as goal

abbrev pub invariant-loop : goal.invariant-loop
invariant-loop l = record {
  total : l.end ≡ length (seen l.rest) + 1;
  read : turns name_turn (length (seen l.rest) + 1 - l.counter) (read_view (list_view names_view) l.found) ≡ turns name_turn (length (seen l.rest) + 1) (piece [] 0 (seen l.rest));
}
