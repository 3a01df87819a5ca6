use Rattle.std.proofs.Common.{◌≡◌, ℕ, List, ◌++◌, drop}
use Rattle.bc_link.specs.Refusals.{repeated_after, globals_set}
use Rattle.bc_link.proofs.repeats.note_globals.Given as goal

abbrev pub invariant-loop-item : goal.invariant-loop-item
invariant-loop-item l = (rest : List ℕ) → repeated_after l.seen.keys (globals_set (drop l.item-index l.items) ++ rest) ≡ repeated_after l.initial.seen.keys (globals_set l.items ++ rest)
