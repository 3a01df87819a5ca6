use Rattle.std.proofs.Common.{◌≡◌, ◌≤◌, drop, length}
use Rattle.bc_lex.specs.Search.{names_from, spells_name}
use Rattle.bc_lex.proofs.source.names.Given as goal

abbrev pub invariant-loop-expected : goal.invariant-loop-expected
invariant-loop-expected l = (l.at ≤ length l.string) × (names_from (drop l.expected-index l.name) (drop l.at l.string) ≡ spells_name l.string l.name)
