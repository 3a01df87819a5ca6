-- For proofs: the least words of an assignment, computed from the facts of its sides.
use Rattle.std.specs.Prelude.{ℕ, ◌+◌, ◌*◌, ◌==◌, cond, Option, Some, None}
use Rattle.bc_rules_defs.specs.declared.rule.Rule.{Rule}
use Rattle.bc_rules_defs.specs.declared.rule.Rule.TheVariants.{A1, A2, A3}
use Rattle.bc_rules_defs.specs.Piece.{w}
use Rattle.bc_cert_read.specs.declared.facts.Facts.{Facts}
use Rattle.bc_cert_read.specs.Recipe.{free}
use Rattle.bc_cert_read.specs.Node.{lesser}

abbrev pub at_operand : ℕ → Facts → Rule → Option ℕ
at_operand o v A1 = Some (v.costs.any + o)
at_operand o v _ = None

abbrev pub at_address : ℕ → Facts → Facts → Rule → Option ℕ
at_address s v a A2 = cond (free v a) (Some (a.costs.any + v.costs.any + 2 * w s)) None
at_address s v a A3 = Some (v.costs.any + a.costs.any + (2 * w s + 2 * w (s + 1)))
at_address s v a _ = None

abbrev pub words_at : Option ℕ → ℕ → Facts → Facts → Rule → Option ℕ
words_at (Some o) s v a r = at_operand o v r
words_at None s v a r = at_address s v a r

-- the words of a rule, if it applies
abbrev pub words_by : ℕ → Facts → Facts → Rule → Option ℕ
words_by s v a r = words_at a.operand s v a r

abbrev pub least_of : ℕ → Facts → Facts → Option ℕ
least_of s v a = lesser (words_by s v a A1) (lesser (words_by s v a A2) (words_by s v a A3))

abbrev pub same : Option ℕ → Option ℕ → Option ℕ
same (Some m) (Some n) = cond (m == n) (Some n) None
same _ _ = None
