-- The candidates of a node for each of the four aims.
use Rattle.std.specs.Prelude.{ℕ, List, true, false}
use Rattle.bc_core.specs.Tree.{Exp}
use Rattle.bc_rules_defs.specs.declared.rule.Mode.TheVariants.{Any, Push}
use Rattle.bc_rules_defs.specs.declared.rule.Aim.{Aim}
use Rattle.bc_rules_defs.specs.declared.rule.Aim.TheVariants.{Gets, Jumps}
use Rattle.bc_candidates.specs.declared.candidate.Beginning.{Beginning}
use Rattle.bc_candidates.specs.Beginnings.{AreBeginnings}

-- as a value in mode Any, as a value in mode Push, as a jump on false, as a jump on true
pub record ForAims : Type 0 where
  pub any : List Beginning
  pub push : List Beginning
  pub on_false : List Beginning
  pub on_true : List Beginning

-- the list for an aim
abbrev pub for_aim : Aim → ForAims → List Beginning
for_aim (Gets Any) f = f.any
for_aim (Gets Push) f = f.push
for_aim (Jumps false) f = f.on_false
for_aim (Jumps true) f = f.on_true

-- For each aim, f lists the rules with which a derivation of the node, an expression at a level, can begin.
pub record AreCandidatesOf (node : Exp × ℕ) (f : ForAims) : Type 0 where
  pub any : AreBeginnings node.0 (Gets Any) node.1 f.any
  pub push : AreBeginnings node.0 (Gets Push) node.1 f.push
  pub on_false : AreBeginnings node.0 (Jumps false) node.1 f.on_false
  pub on_true : AreBeginnings node.0 (Jumps true) node.1 f.on_true
