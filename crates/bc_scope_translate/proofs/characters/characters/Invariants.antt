use Rattle.std.proofs.Common.{◌≡◌, ◌++◌, drop, false}
use Rattle.bc_scope_defs.specs.Characters.{characters}
use Rattle.bc_scope_translate.proofs.characters.characters.Given as goal

abbrev pub invariant-loop-byte : goal.invariant-loop-byte
invariant-loop-byte l = l.bytes.items ++ characters l.escape (drop l.byte-index l.text) ≡ characters false l.text
