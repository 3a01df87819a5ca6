-- What an accepted certificate says, as plain data.
use Rattle.std.specs.Prelude.{ℕ, List}
use Rattle.bc_core.specs.Tree.{Root}
use Rattle.bc_rules_defs.specs.declared.rule.Table.{Table}
use Rattle.bc_rules_defs.specs.declared.piece.Piece.{Piece}

-- an accepted entry
pub record Judged : Type 0 where
  pub segment : ℕ
  -- the index of the code's first item in the segment
  pub item : ℕ
  pub root : Root
  pub target : ℕ
  pub first : ℕ
  -- the body of a VALOF is represented by its number of items
  pub code : List Piece
  pub words : ℕ

pub record Verdict : Type 0 where
  pub table : Table
  pub entries : List Judged
