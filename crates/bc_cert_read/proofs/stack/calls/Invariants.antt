-- The parts checked up to here contain no call.
use Rattle.std.proofs.Common.{◌≡◌, drop}
use Rattle.bc_cert_read.specs.Stacks.{any_calls}
use Rattle.bc_cert_read.proofs.stack.calls.Given as goal

abbrev pub invariant-loop-part : goal.invariant-loop-part
invariant-loop-part l = any_calls (drop l.part-index l.parts) ≡ any_calls l.parts
