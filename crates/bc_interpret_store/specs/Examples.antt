-- Worked examples of changes that are made, taken back and cut at a stop.
use Rattle.std.specs.Prelude.{◌≡◌, List, [], ◌∷◌, Some, None}
use Rattle.std.proofs.Common.{refl, sym}
use Rattle.bc_interpret_store.specs.declared.cell.Cell.{Cell}
use Rattle.bc_interpret_store.specs.declared.cell.Cell.TheVariants.{Dead, Unset, Set}
use Rattle.bc_interpret_store.specs.declared.change.Change.{Change}
use Rattle.bc_interpret_store.specs.Changes.{applied, undone, cells_after, Fits}

abbrev cells : List Cell
cells = Dead ∷ Unset ∷ []

-- cell 1 becomes 5, and then 7
abbrev five : Change
five = record { address = 1; old = Unset; new = Set 5 }

abbrev seven : Change
seven = record { address = 1; old = Set 5; new = Set 7 }

made : applied (five ∷ seven ∷ []) cells ≡ Dead ∷ Set 7 ∷ []
made = refl

taken_back : undone (five ∷ seven ∷ []) (Dead ∷ Set 7 ∷ []) ≡ cells
taken_back = refl

-- taken back in the other order, they leave 5
wrong_order : undone (seven ∷ five ∷ []) (Dead ∷ Set 7 ∷ []) ≡ Dead ∷ Set 5 ∷ []
wrong_order = refl

they_fit : Fits (five ∷ seven ∷ []) cells
they_fit = (refl, (refl, tt))

-- the second one doesn't fit before the first one
no_fit : Fits (seven ∷ []) cells → ⊥
no_fit fits = let first : Some Unset ≡ Some (Set 5) = fits.0 in cc

-- nor does a change of a cell that doesn't exist, which would change nothing
no_cell : Fits (record { address = 2; old = Dead; new = Set 1 } ∷ []) cells → ⊥
no_cell fits = let first : Some Dead ≡ None = sym fits.0 in cc

-- after one of two changes
half : cells_after cells (five ∷ seven ∷ []) 1 ≡ Dead ∷ Set 5 ∷ []
half = refl

-- after none, and after more than there are
none : cells_after cells (five ∷ seven ∷ []) 0 ≡ cells
none = refl

all : cells_after cells (five ∷ seven ∷ []) 9 ≡ Dead ∷ Set 7 ∷ []
all = refl
