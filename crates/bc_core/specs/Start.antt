-- The store when a run begins.
use Rattle.std.specs.Prelude.{ℕ, zero, suc, ◌+◌, ◌-◌, ◌==◌, ◌&&◌, nat_le, nat_lt, true, false, List, [], ◌∷◌, slice_get, Option, Some, None}
use Rattle.bc_core.specs.Map.{Holding, ARoutine, Words, Standing}
use Rattle.bc_core.specs.Store.{Cell, Dead, Set}
use Rattle.bc_core.specs.Primitive.{primitives, address_among}

-- the first one, if there is one, else the second
abbrev pub or_else : Option ℕ → Option ℕ → Option ℕ
or_else (Some v) other = Some v
or_else None other = other

-- the address, if a routine there sets the global n
abbrev pub sets : Holding → ℕ → ℕ → Option ℕ
sets (ARoutine (Some m)) address n = elim (m == n) [ true ↦ Some address | false ↦ None ]
sets _ address n = None

-- the address of the routine or primitive that sets the global n, if there is one
abbrev pub setting : List Standing → ℕ → Option ℕ
setting [] n = address_among primitives n
setting (s ∷ ss) n = or_else (sets s.holding s.address n) (setting ss n)

-- a global's cell: the address of its routine or primitive, or 0 if nothing sets it
abbrev pub global_cell : Option ℕ → Cell
global_cell None = Set 0
global_cell (Some address) = Set address

-- the word at the address a, if it is among words that begin at `from`
abbrev pub word_of : Holding → ℕ → ℕ → Option ℕ
word_of (Words words) from a = elim (nat_le from a) [ true ↦ slice_get words (a - from) | false ↦ None ]
word_of _ from a = None

-- the word of a static, table or string at the address a, if there is one
abbrev pub data_word : List Standing → ℕ → Option ℕ
data_word [] a = None
data_word (s ∷ ss) a = or_else (word_of s.holding s.address a) (data_word ss a)

-- such a cell is live; any other isn't
abbrev pub data_cell : Option ℕ → Cell
data_cell None = Dead
data_cell (Some w) = Set w

-- the cell at the address a: live are the globals, at 8 to 519, and the words of statics, tables and strings
abbrev pub start_cell : List Standing → ℕ → Cell
start_cell all a =
    elim (nat_le 8 a && nat_lt a 520) [ true ↦ global_cell (setting all (a - 8)) | false ↦ data_cell (data_word all a) ]

-- the cells of n addresses from a on
abbrev pub cells_from : ℕ → ℕ → List Standing → List Cell
cells_from zero a all = []
cells_from (suc n) a all = start_cell all a ∷ cells_from n (a + 1) all

-- all 65,536 cells
abbrev pub start_cells : List Standing → List Cell
start_cells all = cells_from 65536 0 all
