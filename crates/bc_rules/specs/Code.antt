-- What `code_of` and `next_label` return, which offsets the evaluation of a root uses, and when numbers don't fit into words.
use Rattle.std.specs.Prelude.{◌≡◌, ℕ, ◌+◌, ◌≤◌, Option, List}
use Rattle.std.specs.Option.{SomeIff}
use Rattle.bc_core.specs.Tree.{Root, Value, Test, Assign}
use Rattle.bc_core.specs.Layout.{cells_of_exp, cells_of_assignment}
use Rattle.bc_rules_defs.specs.declared.rule.Table.{Table}
use Rattle.bc_rules_defs.specs.declared.piece.Piece.{Piece}
use Rattle.bc_rules_defs.specs.Rules.{RootDerives, root_shape, Tree}
use Rattle.bc_rules_defs.specs.Code.{root_labels, root_code}

-- the number of cells of the frame, up to the greatest offset that the evaluation of a root uses, without the bodies of its VALOFs
abbrev pub cells_of_root : Root → ℕ
cells_of_root (Value s e) = cells_of_exp (λ n s. 0) e s
cells_of_root (Test s sense e) = cells_of_exp (λ n s. 0) e s
cells_of_root (Assign s v a) = cells_of_assignment (λ n s. 0) v a s

-- `next` is the first label after those of the root's derivation with these rules; it is None exactly if one of these is no word.
pub record IsNextLabel (r : Root) (x : Tree) (first : ℕ) (next : Option ℕ) : Type 0 where
  pub exact : (T : Table) (d : RootDerives T r) → root_shape d ≡ x → SomeIff next (first + root_labels d ≤ 65536) (first + root_labels d)

-- An offset of the frame, or a label of the root's derivation with these rules, is no word.
pub record LacksRoom (r : Root) (x : Tree) (first : ℕ) : Type 0 where
  pub exact : (T : Table) (d : RootDerives T r) → root_shape d ≡ x → first + root_labels d ≤ 65536 → cells_of_root r ≤ 65536 → ⊥

-- The pieces are the code of the root's derivation with these rules.
pub record IsCodeOf (r : Root) (x : Tree) (target first : ℕ) (pieces : List Piece) : Type 0 where
  pub exact : (T : Table) (d : RootDerives T r) → root_shape d ≡ x → pieces ≡ root_code d target first
