-- The bytes that were found, and those that are still to be found.
use Rattle.std.proofs.Common.{◌≡◌, ◌++◌, drop}
use Rattle.bcpl_format.specs.Kept.{ink}
use Rattle.bcpl_format.proofs.same.ink_of.Given as goal

abbrev pub invariant-loop-byte : goal.invariant-loop-byte
invariant-loop-byte l = l.bytes.items ++ ink (drop l.byte-index l.text) ≡ ink l.text
