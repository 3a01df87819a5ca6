use Rattle.std.proofs.Common.{◌≡◌, ◌++◌, drop}
use Rattle.bc_scope_defs.specs.Faults.{all_twice_fault}
use Rattle.bc_scope_faults.specs.Seen.{names_view}
use Rattle.bc_scope_faults.proofs.judging.declare_all_once.Given as goal

abbrev pub invariant-loop-name : goal.invariant-loop-name
invariant-loop-name l =
    (all_twice_fault (names_view l.before.keys) (names_view (drop l.name-index l.names)) ≡ all_twice_fault (names_view l.fn.before.keys) (names_view l.names)) × (names_view l.before.keys ++ names_view (drop l.name-index l.names) ≡ names_view l.fn.before.keys ++ names_view l.names)
