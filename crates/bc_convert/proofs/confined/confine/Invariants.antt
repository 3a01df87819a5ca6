-- What was kept and what is confined of the remaining candidates is what is confined. What was skipped would be skipped anyway.
use Rattle.std.proofs.Common.{◌≡◌, ℕ, ◌≤◌, ◌++◌}
use Rattle.std.specs.List.{filter}
use Rattle.bc_convert.specs.Confined.{tokens_after, is_confined}
use Rattle.bc_convert.proofs.confined.confine.Given as goal

abbrev pub invariant-loop-candidate : goal.invariant-loop-candidate
invariant-loop-candidate l = record {
  skips : (to : ℕ) → l.last ≤ to → tokens_after to l.rest ≡ tokens_after to l.tokens;
  kept : l.kept.items ++ filter (is_confined l.tokens) l.candidate-iterator.rest.items ≡ filter (is_confined l.tokens) l.fn.candidates.items;
}
