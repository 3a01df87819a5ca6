use Rattle.std.specs.Prelude.{◌+◌, ◌*◌}
use Rattle.bc_interpret_pure.proofs.fast_path.+calls.Given as goal

abbrev pub decreases-quick_calls : goal.decreases-quick_calls
decreases-quick_calls l = l.depth * 3 + 1

abbrev pub decreases-calls_below : goal.decreases-calls_below
decreases-calls_below l = l.depth * 3

abbrev pub decreases-either_calls : goal.decreases-either_calls
decreases-either_calls l = l.depth * 3 + 2
