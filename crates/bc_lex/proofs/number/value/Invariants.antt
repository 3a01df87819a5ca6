use Rattle.std.proofs.Common.{◌≡◌, ◌≤◌, drop}
use Rattle.bc_lex.specs.Reading.{value_from}
use Rattle.bc_lex.proofs.number.value.Given as goal

abbrev pub invariant-loop-byte : goal.invariant-loop-byte
invariant-loop-byte l = (l.value ≤ 65535) × (value_from l.base l.value (drop l.byte-index l.digits) ≡ value_from l.base 0 l.digits)
