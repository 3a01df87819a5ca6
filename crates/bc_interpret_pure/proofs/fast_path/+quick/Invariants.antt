-- Each call decreases the depth, or keeps it and goes to a function of later rank.
use Rattle.std.specs.Prelude.{◌+◌, ◌*◌}
use Rattle.bc_interpret_pure.proofs.fast_path.+quick.Given as goal

abbrev pub decreases-quick_truth : goal.decreases-quick_truth
decreases-quick_truth l = l.depth * 5 + 4

abbrev pub decreases-quick_value : goal.decreases-quick_value
decreases-quick_value l = l.depth * 5 + 3

abbrev pub decreases-walked : goal.decreases-walked
decreases-walked l = l.depth * 5 + 2

abbrev pub decreases-operated : goal.decreases-operated
decreases-operated l = l.depth * 5 + 1

abbrev pub decreases-loaded : goal.decreases-loaded
decreases-loaded l = l.depth * 5 + 0

abbrev pub decreases-negated : goal.decreases-negated
decreases-negated l = l.depth * 5 + 0

abbrev pub decreases-complemented : goal.decreases-complemented
decreases-complemented l = l.depth * 5 + 0

abbrev pub decreases-second : goal.decreases-second
decreases-second l = l.depth * 5 + 0

abbrev pub decreases-both : goal.decreases-both
decreases-both l = l.depth * 5 + 0

abbrev pub decreases-selected : goal.decreases-selected
decreases-selected l = l.depth * 5 + 0

abbrev pub decreases-opposed : goal.decreases-opposed
decreases-opposed l = l.depth * 5 + 0

abbrev pub decreases-conjoined : goal.decreases-conjoined
decreases-conjoined l = l.depth * 5 + 0

abbrev pub decreases-disjoined : goal.decreases-disjoined
decreases-disjoined l = l.depth * 5 + 0
