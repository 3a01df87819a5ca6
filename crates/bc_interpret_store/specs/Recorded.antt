-- What a watched store keeps of its past, and how that follows the cells.
use Rattle.std.specs.Prelude.{ℕ, ◌≡◌, ◌≢◌, ◌+◌, ◌<◌, List, [], ◌∷◌, ◌++◌, length, slice_index_or}
use Rattle.bc_interpret_store.specs.declared.cell.Cell.{Cell}
use Rattle.bc_interpret_store.specs.declared.cell.Cell.TheVariants.{Dead}
use Rattle.bc_interpret_store.specs.declared.change.Change.{Change}
use Rattle.bc_interpret_store.specs.Changes.{applied, cells_after, Fits, IsDelta}

-- the list of changes grew by a delta that leads from the first cells to the others
pub record Extends (old new : List Change) (before after : List Cell) : Type 0 where
  pub delta : List Change
  pub grows : new ≡ old ++ delta
  pub leads : IsDelta delta before after

-- below the limit the cells of the past are those of the store
pub record Agrees (limit : ℕ) (now cells : List Cell) : Type 0 where
  pub each : (a : ℕ) → a < limit → a < length now → slice_index_or now a Dead ≡ slice_index_or cells a Dead

-- the address is none of these
abbrev pub Misses : ℕ → List ℕ → Type 0
Misses a [] = Unit {0}
Misses a (b ∷ later) = (a ≢ b) × Misses a later

-- the cells of the past are those of the store, except perhaps at these addresses
pub record AgreesBut (log : List ℕ) (now cells : List Cell) : Type 0 where
  pub each : (a : ℕ) → Misses a log → a < length now → a < 65536 → slice_index_or now a Dead ≡ slice_index_or cells a Dead

-- except perhaps at this address, the cells are what they were
abbrev pub Differs : (address : ℕ) → (old new : List Cell) → Type 0
Differs address old new = (a : ℕ) → a ≢ address → slice_index_or new a Dead ≡ slice_index_or old a Dead

-- the cell at this address is that of the store, and the others are what they were
pub record Updates (address : ℕ) (cells old new : List Cell) : Type 0 where
  pub here : address < length new → slice_index_or new address Dead ≡ slice_index_or cells address Dead
  pub others : Differs address old new

-- the cells at first, the changes since, and the cells when they were last followed
pub record Kept : Type 0 where
  pub first : List Cell
  pub changes : List Change
  pub now : List Cell

-- the changes fit, and lead from the first cells to those that are
pub record IsKept (first : List Cell) (changes : List Change) (now : List Cell) : Type 0 where
  pub fits : Fits changes first
  pub leads : applied changes first ≡ now

-- no changes yet, and all cells are those of the store
pub record Begins (kept : Kept) (cells : List Cell) : Type 0 where
  pub changes : kept.changes ≡ []
  pub first : kept.first ≡ cells
  pub now : kept.now ≡ cells

-- the changes grew by a delta, after which the cells are these
pub record Follows (old new : Kept) : Type 0 where
  pub first : new.first ≡ old.first
  pub extends : Extends old.changes new.changes old.now new.now

-- the first changes were dropped, and the cells after any number of changes that isn't smaller are what they were
pub record Drops (old new : Kept) (count : ℕ) : Type 0 where
  pub now : new.now ≡ old.now
  pub later : (n : ℕ) → cells_after new.first new.changes n ≡ cells_after old.first old.changes (count + n)
