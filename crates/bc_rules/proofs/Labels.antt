-- The next free label, and what NoRoom says about it.
use Rattle.std.proofs.Common.{◌≡◌, ℕ, List, ◌+◌, ◌≤◌, ◌<◌, min, max, Some, None, ap, ◌∙◌, arith}
use Rattle.bc_core.specs.Tree.{Root}
use Rattle.bc_rules_defs.specs.declared.rule.Table.{Table}
use Rattle.bc_rules_defs.specs.Rules.{RootDerives, root_shape, Tree}
use Rattle.bc_rules_defs.specs.Code.{root_labels}
use Rattle.bc_rules_defs.specs.ByShape.{root_labels_by}
use Rattle.bc_rules_defs.proofs.ByShape.{root_labels_same}
use Rattle.bc_rules_defs.specs.declared.piece.Piece.{Piece}
use Rattle.bc_rules.specs.declared.writer.Writer.{Writer}
use Rattle.bc_rules.specs.declared.code_fault.CodeFault.{CodeFault}
use Rattle.bc_rules.specs.declared.code_fault.CodeFault.TheVariants.{Memory, NoRoom}
use Rattle.bc_rules.specs.Adds.{Writes, least_for}
use Rattle.bc_rules.specs.Code.{IsNextLabel, LacksRoom, cells_of_root}

pub labels_by_shape : (r : Root) (x : Tree) (T : Table) (d : RootDerives T r) → root_shape d ≡ x → root_labels d ≡ root_labels_by r x
labels_by_shape r x T d h = root_labels_same d ∙ ap (root_labels_by r) h

pub next_some : (r : Root) (x : Tree) (first n : ℕ) → n ≡ min (root_labels_by r x) 65537 → first + n ≤ 65536 → IsNextLabel r x first (Some (first + n))
next_some r x first n h k = record { exact = λ T d e. let l = labels_by_shape r x T d e in (omega arith, omega arith) }

pub next_none : (r : Root) (x : Tree) (first n : ℕ) → n ≡ min (root_labels_by r x) 65537 → 65536 < first + n → IsNextLabel r x first None
next_none r x first n h k = record { exact = λ T d e. λ small. let l = labels_by_shape r x T d e in absurd (omega arith) }

-- the next label of a writer after the root's code
pub next_is_written : (r : Root) (x : Tree) (f : ℕ) (ps : List Piece) (u w : Writer) → u.next ≡ f → Writes u w ps (root_labels_by r x) → w.next ≤ 65536 → IsNextLabel r x f (Some w.next)
next_is_written r x f ps u w k i b = record { exact = λ T d e. let l = labels_by_shape r x T d e in let n = i.next in (omega arith, omega arith) }

-- the labels or the cells exceed 65,536
pub lacks_room : (r : Root) (x : Tree) (f : ℕ) → 65537 ≤ max (f + root_labels_by r x) (cells_of_root r) → LacksRoom r x f
lacks_room r x f h = record { exact = λ T d e k c. let l = labels_by_shape r x T d e in omega arith }

pub fault_lacks : (r : Root) (x : Tree) (f : ℕ) (u : Writer) (y : CodeFault) → u.next ≡ f → least_for y ≤ max (u.next + root_labels_by r x) (cells_of_root r) → y ≡ NoRoom → LacksRoom r x f
fault_lacks r x f u NoRoom h i e = lacks_room r x f (omega arith)
fault_lacks r x f u Memory h i e = cc

pub label_lacks : (r : Root) (x : Tree) (f : ℕ) (ps : List Piece) (u w : Writer) → u.next ≡ f → Writes u w ps (root_labels_by r x) → 65536 < w.next → LacksRoom r x f
label_lacks r x f ps u w h i k = lacks_room r x f (let n = i.next in omega arith)
