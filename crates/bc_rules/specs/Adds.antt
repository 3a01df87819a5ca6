-- For proofs: what a step of writing adds to the code, and what its errors mean.
use Rattle.std.specs.Prelude.{◌≡◌, ℕ, ◌+◌, ◌≤◌, max, List, ◌++◌, Result, MatchResult}
use Rattle.bc_rules_defs.specs.declared.piece.Piece.{Piece}
use Rattle.bc_rules.specs.declared.code_fault.CodeFault.{CodeFault}
use Rattle.bc_rules.specs.declared.code_fault.CodeFault.TheVariants.{Memory, NoRoom}
use Rattle.bc_rules.specs.declared.writer.Writer.{Writer}

-- the step appends these pieces and takes n labels
pub record Writes (old new : Writer) (ps : List Piece) (n : ℕ) : Type 0 where
  pub pieces : new.pieces.items ≡ old.pieces.items ++ ps
  pub next : new.next ≡ old.next + n

-- the step appends these pieces and takes no label
pub record Adds (old new : Writer) (ps : List Piece) : Type 0 where
  pub pieces : new.pieces.items ≡ old.pieces.items ++ ps
  pub next : new.next ≡ old.next

-- the step takes n labels and appends nothing
pub record Takes (old new : Writer) (n : ℕ) : Type 0 where
  pub pieces : new.pieces.items ≡ old.pieces.items
  pub next : new.next ≡ old.next + n

-- The least number that a fault claims to have been exceeded: 65,537 for NoRoom. Memory claims nothing.
abbrev pub least_for : CodeFault → ℕ
least_for Memory = 0
least_for NoRoom = 65537

-- Either P holds of the result, or the step failed, with NoRoom only if the number `most` is over 65,536.
abbrev pub OkOrLacks : {X : Type 0} → Result X CodeFault → (X → Type 0) → ℕ → Type 0
OkOrLacks result P most = MatchResult result P (λ fault. least_for fault ≤ most)

-- Either the step appends these pieces and takes n labels, or it failed, with NoRoom only if the next label or the number of cells
-- is over 65,536.
abbrev pub WritesOrLacks : {X : Type 0} → Result X CodeFault → (old new : Writer) → List Piece → (n cells : ℕ) → Type 0
WritesOrLacks result old new ps n cells = OkOrLacks result (λ _. Writes old new ps n) (max (old.next + n) cells)
