-- For proofs: a node with the tree of rules that it has, and what the definitions show of it.
use Rattle.std.specs.Prelude.{ℕ, Option}
use Rattle.bc_core.specs.Tree.{Exp}
use Rattle.bc_rules_defs.specs.Rules.{Tree}
use Rattle.bc_cert_write.specs.Shown.{Shown}
use Rattle.bc_cert_write.specs.Walked.{chain_of, rules_of}

pub record Laid : Type 0 where
  pub expression : Exp
  pub level : ℕ
  pub tree : Option Tree

abbrev pub laid : Exp → ℕ → Option Tree → Laid
laid e s x = record { expression = e; level = s; tree = x }

abbrev pub shown_at : Exp → ℕ → Option Tree → Shown
shown_at e s x = record { expression = e; level = s; rules = rules_of (chain_of x) }

abbrev pub node_at : Exp → ℕ → Option Tree → Exp × ℕ
node_at e s x = (e, s)
