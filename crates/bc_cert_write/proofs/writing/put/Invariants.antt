-- The writer has taken the bytes up to here.
use Rattle.std.proofs.Common.{length, take, ◌-◌, ◌≤◌}
use Rattle.std.specs.Io.KnownBytes.{Appends}
use Rattle.bc_cert_write.proofs.writing.put.Given as goal

abbrev pub invariant-loop-taken : goal.invariant-loop-taken
invariant-loop-taken g l =
    let contents = g.W.Write.contents in
    record { within : l.taken ≤ length l.bytes; so_far : Appends (contents l.fn.out) (contents l.out) (take l.taken l.bytes) }

abbrev pub decreases-loop-taken : goal.decreases-loop-taken
decreases-loop-taken g l = length l.bytes - l.taken
