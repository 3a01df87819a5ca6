-- How the cells of the source and the store of the machine agree.
use Rattle.std.specs.Prelude.{ℕ, ◌≡◌, ◌<◌, ◌≤◌, List, length, slice_index}
use Rattle.bc_core.specs.Store.{Cell, Dead, Unset, Set, cell_at}

-- The store has the values of all set cells, and no cell from the top on is live.
pub record Holds (top : ℕ) (cells : List Cell) (store : List ℕ) : Type 0 where
  pub agrees : (a w : ℕ) → cell_at cells a ≡ Set w → slice_index store a ≡ w
  pub above : (a : ℕ) → top ≤ a → cell_at cells a ≡ Dead
  pub whole : length store ≡ 65536
  pub spans : length cells ≡ 65536

-- Cells below the top that were dead are still dead and unchanged in the store, so stored values, links and code last. Cells that are
-- live and unset were so before and are unchanged in the store. Together with `Holds`, which covers the set cells, this says that
-- nothing below the top has changed except what the source set.
pub record Keeps (top : ℕ) (cells : List Cell) (store : List ℕ) (cells1 : List Cell) (store1 : List ℕ) : Type 0 where
  pub dead : (a : ℕ) → a < top → cell_at cells a ≡ Dead → cell_at cells1 a ≡ Dead
  pub same : (a : ℕ) → a < top → cell_at cells a ≡ Dead → slice_index store1 a ≡ slice_index store a
  pub unset : (a : ℕ) → a < top → cell_at cells1 a ≡ Unset → (cell_at cells a ≡ Unset) × (slice_index store1 a ≡ slice_index store a)
