-- Lists of changes of cells: what making them does, what taking them back does, and when the one is the reverse of the other.
use Rattle.std.specs.Prelude.{ℕ, ◌≡◌, List, [], ◌∷◌, take, slice_get, slice_set, Some}
use Rattle.bc_interpret_store.specs.declared.cell.Cell.{Cell}
use Rattle.bc_interpret_store.specs.declared.change.Change.{Change}

-- the cells after these changes; the first one is made first
abbrev pub applied : List Change → List Cell → List Cell
applied [] cells = cells
applied (c ∷ later) cells = applied later (slice_set cells c.address c.new)

-- the cells before these changes, given those after them; the last one is taken back first
abbrev pub undone : List Change → List Cell → List Cell
undone [] cells = cells
undone (c ∷ later) cells = slice_set (undone later cells) c.address c.old

-- each change finds its old cell at its address when it is made
abbrev pub Fits : List Change → List Cell → Type 0
Fits [] cells = Unit {0}
Fits (c ∷ later) cells = (slice_get cells c.address ≡ Some c.old) × Fits later (slice_set cells c.address c.new)

-- these changes lead from the first cells to the others, and back
pub record IsDelta (delta : List Change) (before after : List Cell) : Type 0 where
  pub makes : applied delta before ≡ after
  pub undoes : undone delta after ≡ before
  pub fits : Fits delta before

-- the cells after so many changes, made one after another from the first cells on
abbrev pub cells_after : (first : List Cell) → List Change → ℕ → List Cell
cells_after first changes n = applied (take n changes) first

-- the cells after the first number of changes become those after the second one, whatever the first cells are that the changes fit
abbrev pub Walks : List Change → (from to : ℕ) → (old new : List Cell) → Type 0
Walks changes from to old new = (first : List Cell) → Fits changes first → old ≡ cells_after first changes from → new ≡ cells_after first changes to
