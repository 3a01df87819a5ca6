-- Each derivation is right on the machine, whichever is chosen for a root.
use Rattle.std.specs.Prelude.{ℕ}
use Rattle.bc_rules_defs.specs.declared.rule.Table.{Table}
use Rattle.bc_gen_defs.specs.Bodies.{Choice, coding_of, over}
use Rattle.bc_right.specs.steps.Landing.{Moment}
use Rattle.bc_right.specs.steps.Premises.{RootsRight}

-- By either table, for every choice of derivations, wherever the code is placed: each root's code does what the root means, if its
-- calls and VALOFs do.
abbrev pub DerivationsAreRight : Type 0
DerivationsAreRight = (T : Table) (choice : Choice T) (address levels : ℕ → ℕ) (S : Moment) → RootsRight address levels S (over (coding_of choice) levels)
