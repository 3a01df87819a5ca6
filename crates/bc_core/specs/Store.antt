-- The store of a source: one cell for each address.
use Rattle.std.specs.Prelude.{ℕ, zero, suc, ◌+◌, List, slice_index_or, slice_set}

-- a cell that isn't live; one that is live and unset; and one that is live and has a word
pub data Cell : Type 0 where
  Dead : Cell
  Unset : Cell
  Set : ℕ → Cell

-- the cell at an address; addresses past the end of the list have no live cell
abbrev pub cell_at : List Cell → ℕ → Cell
cell_at cells a = slice_index_or cells a Dead

-- n cells from the address a on become this cell
abbrev pub filled : ℕ → ℕ → Cell → List Cell → List Cell
filled zero a cell cells = cells
filled (suc n) a cell cells = filled n (a + 1) cell (slice_set cells a cell)

-- n cells from the address a on become live and unset
abbrev pub opened : ℕ → ℕ → List Cell → List Cell
opened n a cells = filled n a Unset cells

-- n cells from the address a on are given back: they are no longer live
abbrev pub closed : ℕ → ℕ → List Cell → List Cell
closed n a cells = filled n a Dead cells
