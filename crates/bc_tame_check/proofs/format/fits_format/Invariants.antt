use Rattle.std.proofs.Common.{◌≡◌, true, false, length}
use Rattle.bc_tame.specs.Programs.{fits_format}
use Rattle.bc_tame_check.specs.Views.{notes_in}
use Rattle.bc_tame_check.proofs.format.fits_format.Given as goal

abbrev pub invariant-loop-left : goal.invariant-loop-left
invariant-loop-left l =
    fits_format l.after_percent l.left (notes_in l.fn.at l.values_left) ≡ true → fits_format false l.fn.format (notes_in l.fn.at l.fn.values) ≡ true

abbrev pub decreases-loop-left : goal.decreases-loop-left
decreases-loop-left l = length l.left
