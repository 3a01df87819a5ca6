use Rattle.std.proofs.Common.{◌≡◌, ◌+◌, ℕ, List, length}
use Rattle.std.specs.Io.KnownBytes.{Consumes}
use Rattle.bc_text.specs.Reading.{HasRead}
use Rattle.bc_run.specs.Runs.{text_limit}
use Rattle.bc_run.proofs.running.read_text.Given as goal

-- the reader has read what the text returned up to here, which leaves this many bytes before the limit
abbrev pub invariant-loop : goal.invariant-loop
invariant-loop g l = (bytes : List ℕ) × HasRead l.reader bytes × Consumes (g.R.Read.remaining l.fn.text) (g.R.Read.remaining l.text) bytes × (length bytes + l.left ≡ text_limit)
