-- For proofs: how many cells of the frame the evaluation of an expression uses.
use Rattle.std.specs.Prelude.{ℕ, ◌+◌, max}
use Rattle.bc_core.specs.Tree.{Exp, Call, Args}
use Rattle.bc_core.specs.Layout.{cells_of_exp, cells_of_args}
use Rattle.bc_rules_defs.specs.declared.rule.Rule.{Rule}
use Rattle.bc_rules_defs.specs.declared.rule.Rule.TheVariants.{V0, V2, V3, V4, J1, J6}
use Rattle.bc_rules_defs.specs.Parts.{Parts, single, pair, triple, called}
use Rattle.bc_rules_defs.specs.ByShape.{part_level}

-- the number of cells that an expression at level s uses, without the bodies of its VALOFs
abbrev pub cells : Exp → ℕ → ℕ
cells e s = cells_of_exp (λ n s. 0) e s

-- the same for the arguments of a call
abbrev pub cells_of_all : Args → ℕ → ℕ
cells_of_all es s = cells_of_args (λ n s. 0) es s

-- the cells that a rule with one part counts for an operator; none if the node isn't an operator or is derived as a whole
abbrev pub held_cells : Rule → ℕ → ℕ
held_cells V0 s = 0
held_cells V2 s = 0
held_cells V3 s = 0
held_cells V4 s = 0
held_cells J1 s = 0
held_cells J6 s = 0
held_cells _ s = s + 2

-- the cells of an expression, from the parts of a rule
abbrev pub cells_of_parts : Rule → Parts → ℕ → ℕ
cells_of_parts r (single m a) s = max (held_cells r s) (cells a (part_level r s))
cells_of_parts r (pair m a n b) s = max (s + 2) (max (cells a (s + 1)) (cells b (s + 1)))
cells_of_parts r (triple m c n x l y) s = max (cells c s) (max (cells x s) (cells y s))
cells_of_parts r (called i es f) s = cells (Call es f) s
cells_of_parts r p s = 0

-- the cells of an assignment, from the parts of a rule
abbrev pub cells_of_sides : Parts → ℕ → ℕ
cells_of_sides (single m a) s = cells a s
cells_of_sides (pair m a n b) s = max (s + 2) (max (cells a (s + 1)) (cells b (s + 1)))
cells_of_sides p s = 0
