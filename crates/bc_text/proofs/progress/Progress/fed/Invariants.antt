-- The remaining bytes of the piece lead from here to where the whole piece leads from the start.
use Rattle.std.proofs.Common.{◌≡◌, drop}
use Rattle.bc_text.specs.Steps.{run}
use Rattle.bc_text.specs.Reached.{progress_of}
use Rattle.bc_text.proofs.progress.Progress.fed.Given as goal

abbrev pub invariant-loop-byte : goal.invariant-loop-byte
invariant-loop-byte l = run (drop l.byte-index l.piece) (progress_of l.self) ≡ run l.piece (progress_of l.fn.self)
