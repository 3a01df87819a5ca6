-- The cells of the code as cells of bc_core.
use Rattle.std.specs.Prelude.{ℕ, suc, ◌≡◌, ◌+◌, List, reverse, slice_set}
use Rattle.bc_interpret_store.specs.declared.cell.Cell.{Cell}
use Rattle.bc_interpret_store.specs.declared.cell.Cell.TheVariants as cells
use Rattle.bc_core.specs.Store as store
use Rattle.bc_core.specs.Meaning.{passed}

-- a cell of the code, as the definitions have it
abbrev pub cell_view : Cell → store.Cell
cell_view cells.Dead = store.Dead
cell_view cells.Unset = store.Unset
cell_view (cells.Set w) = store.Set w

-- the cell is that of the next argument, which is the last of the first list; the second list has the remaining ones
abbrev pub IsNext : List ℕ → store.Cell → List ℕ → Type 0
IsNext arguments cell left =
    (n a : ℕ) (cells : List store.Cell) → passed (suc n) a (reverse arguments) cells ≡ passed n (a + 1) (reverse left) (slice_set cells a cell)
