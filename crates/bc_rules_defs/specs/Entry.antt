-- The view of an entry: a root with its derivation and the position of its code.
use Rattle.std.specs.Prelude.{ℕ, List}
use Rattle.bc_core.specs.Tree.{Root}
use Rattle.bc_rules_defs.specs.Rules.{Tree}

pub record Entry : Type 0 where
  -- the index of the segment, from 0
  pub segment : ℕ
  -- the index of the first item of its code
  pub item : ℕ
  -- the label to which a test jumps; 0 for other roots
  pub target : ℕ
  -- the first of the derivation's own labels
  pub first : ℕ
  pub root : Root
  pub derivation : Tree
  -- the number of items of each VALOF's body, in the order of the code
  pub bodies : List ℕ
