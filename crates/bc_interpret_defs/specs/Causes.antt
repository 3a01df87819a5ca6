-- The causes of a wild step, and the state of the cell that each of them names.
use Rattle.std.specs.Prelude.{ℕ, ◌≡◌, List}
use Rattle.bc_core.specs.Store.{Cell, cell_at}
use Rattle.bc_core.specs.Store as cells

-- why a step is wild
pub data Cause : Type 0 where
  -- the cell at this address is read; it is live, but was never set
  Unset : ℕ → Cause
  -- the cell at this address is read, but isn't live
  Dead : ℕ → Cause
  -- the cell at this address is written, but isn't live
  NoCell : ℕ → Cause
  -- this value is called, but isn't the address of a routine
  NotRoutine : ℕ → Cause
  -- a routine is called whose frame would begin at this address and extend past address 65,535
  FrameTooLarge : ℕ → Cause
  -- a form that no source produces, or an answer of the wrong kind for its continuation
  Malformed : Cause

-- the cause is an access to a cell, and the cell is in the state that it names
abbrev pub StandsIn : Cause → List Cell → Type 0
StandsIn (Unset a) store = cell_at store a ≡ cells.Unset
StandsIn (Dead a) store = cell_at store a ≡ cells.Dead
StandsIn (NoCell a) store = cell_at store a ≡ cells.Dead
StandsIn cause store = ⊥
