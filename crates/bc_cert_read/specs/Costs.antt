-- For proofs: the words of a node for an aim, and when the computed ones equal the stated ones.
use Rattle.std.specs.Prelude.{ℕ, ◌==◌, Bool, true, false, ◌&&◌, Option, Some, None}
use Rattle.bc_rules_defs.specs.declared.rule.Mode.TheVariants.{Any, Push}
use Rattle.bc_rules_defs.specs.declared.rule.Aim.{Aim}
use Rattle.bc_rules_defs.specs.declared.rule.Aim.TheVariants.{Gets, Jumps}
use Rattle.bc_cert_defs.specs.declared.costs.Costs.{Costs}
use Rattle.bc_cert_read.specs.declared.costs.LeastWords.{LeastWords}

abbrev pub cost_of : Aim → Costs → Option ℕ
cost_of (Gets Any) c = Some c.any
cost_of (Gets Push) c = c.push
cost_of (Jumps false) c = Some c.on_false
cost_of (Jumps true) c = Some c.on_true

abbrev pub least_of : Aim → LeastWords → Option ℕ
least_of (Gets Any) c = c.any
least_of (Gets Push) c = c.push
least_of (Jumps false) c = c.on_false
least_of (Jumps true) c = c.on_true

abbrev pub same_words : Option ℕ → Option ℕ → Bool
same_words (Some m) (Some n) = m == n
same_words None None = true
same_words _ _ = false

-- the computed words equal the stated ones
abbrev pub are_costs : LeastWords → Costs → Bool
are_costs x c = same_words x.any (Some c.any) && same_words x.push c.push && same_words x.on_false (Some c.on_false) && same_words x.on_true (Some c.on_true)
