use Rattle.std.proofs.Common.{drop}
use Rattle.bc_link.specs.Drafts.{Becomes}
use Rattle.bc_link.proofs.draft.Draft.of.Given as goal

abbrev pub invariant-loop-number : goal.invariant-loop-number
invariant-loop-number l = Becomes l.draft l.number (drop l.number l.segments) l.segments
