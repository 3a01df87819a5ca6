-- For proofs: the store at the start of a run.
use Rattle.std.specs.Prelude.{ℕ, ◌≡◌, ◌+◌, ◌<◌, Bool, cond, List, [], ◌∷◌, ◌++◌, length, slice_set, Option, Some, None}
use Rattle.bc_core.specs.Commands.{Place}
use Rattle.bc_core.specs.Map.{Placed, Holding, ARoutine, Words, Standing, standing, standing_from, held_by}
use Rattle.bc_core.specs.Start.{sets, setting, data_word, data_cell, start_cells, or_else}
use Rattle.bc_core.specs.Store.{Cell, Dead, Set, cell_at}

-- these words are written to the cells from this address on
abbrev pub written : List ℕ → ℕ → List Cell → List Cell
written [] a cells = cells
written (w ∷ ws) a cells = written ws (a + 1) (slice_set cells a (Set w))

-- the words of what is at a place; a routine has none
abbrev pub words_in : Holding → List ℕ
words_in (ARoutine global) = []
words_in (Words ws) = ws

-- the places of a section
abbrev pub places_in : Placed → List Standing
places_in s = standing_from s.address 1 s.core.places

-- the words of places are written; those of the first place last, since they win
abbrev pub filled_with : List Standing → List Cell → List Cell
filled_with [] cells = cells
filled_with (s ∷ ss) cells = written (words_in s.holding) s.address (filled_with ss cells)

-- so many cells, all dead
pub record AreDead (n : ℕ) (cells : List Cell) : Type 0 where
  pub size : length cells ≡ n
  pub each : (a : ℕ) → a < n → cell_at cells a ≡ Dead

-- in these cells each word of the program's places is at its address, and all other cells are dead
abbrev pub HasData : List Placed → List Cell → Type 0
HasData program cells = (a : ℕ) → a < 65536 → cell_at cells a ≡ data_cell (data_word (standing program) a)

-- the first routine of the section that sets this global is at this address, or none sets it
abbrev pub HasSetting : Placed → ℕ → Option ℕ → Type 0
HasSetting s n found = (rest : List Standing) → setting (standing_from s.address 1 s.core.places ++ rest) n ≡ or_else found (setting rest n)

-- whether a place sets the global to its own address
abbrev pub Sets : Place → ℕ → Bool → Type 0
Sets place n told = (address : ℕ) → sets (held_by place) address n ≡ cond told (Some address) None

-- these are the cells at the start of the program's run; unfoldable, since `start_cells` takes 65,536 steps to unfold
unfoldable pub IsStart : List Placed → List Cell → Type 0
IsStart program cells = cells ≡ start_cells (standing program)
