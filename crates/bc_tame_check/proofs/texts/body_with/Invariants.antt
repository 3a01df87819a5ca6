use Rattle.std.proofs.Common.{◌≡◌, ℕ, List, Option, map, length}
use Rattle.bc_core.specs.View.{place_of}
use Rattle.bc_tame.specs.Programs.{gives_from}
use Rattle.bc_tame_check.proofs.texts.body_with.Given as goal

abbrev pub invariant-loop-left : goal.invariant-loop-left
invariant-loop-left l =
    (text : ℕ → Option (List ℕ)) → gives_from text (map place_of l.left) l.label l.fn.wanted ≡ gives_from text (map place_of l.fn.places) 1 l.fn.wanted

abbrev pub decreases-loop-left : goal.decreases-loop-left
decreases-loop-left l = length l.left
