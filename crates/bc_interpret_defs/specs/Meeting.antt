-- What makes a step of the machine wild: which causes it meets.
use Rattle.std.specs.Prelude.{ℕ, zero, suc, ◌≡◌, ◌+◌, ◌<◌, ◌≤◌, List, Option, Some, None, slice_set}
use Rattle.bc_core.specs.Layout.{frame_size}
use Rattle.bc_core.specs.Map.{Placed}
use Rattle.bc_core.specs.Meaning.{Callee, OfSection, OfLibrary, callee, passed}
use Rattle.bc_core.specs.Outcome.{State, Run, Outcome, Done, Wild, followed}
use Rattle.bc_core.specs.Primitive.{Primitive, primitive_frame, primitive_work}
use Rattle.bc_core.specs.Store.{Cell, Set, cell_at}
use Rattle.bc_core.specs.Store as cells
use Rattle.bc_interpret_defs.specs.Causes.{Cause, Unset, Dead, NoCell, NotRoutine, FrameTooLarge, Malformed, StandsIn}
use Rattle.bc_interpret_defs.specs.Machine.{Work, Rest, At, step}
use Rattle.bc_interpret_defs.specs.Called.{IsCall}
use Rattle.bc_interpret_defs.specs.Trails.{Standing, IsTrail}

-- a state has every word that these cells hold; it may have any others besides
abbrev pub KeepsWords : List Cell → State → Type 0
KeepsWords store st = (b w : ℕ) → cell_at store b ≡ Set w → cell_at st.cells b ≡ Set w

-- a cell that can't be read: it isn't live, or was never set
abbrev pub HasNoWord : Cell → Type 0
HasNoWord (Set w) = ⊥
HasNoWord cell = Unit {0}

-- the state in which the cell at this address is this one
abbrev pub with_cell : ℕ → Cell → State → State
with_cell a cell st = record st { cells = slice_set st.cells a cell }

-- The run is wild because of reading the cell at a: it is wild in every state that has the words of this store and in which that cell has
-- no word, whatever the other cells are. A cell that the run doesn't need passes no such test: with a word in the cell that it does need
-- the run goes on.
abbrev pub NeedsWord : {A : Type 0} → Run A → List Cell → ℕ → Type 0
NeedsWord r store a = (st : State) → KeepsWords store st → HasNoWord (cell_at st.cells a) → r st ≡ Wild

-- the run is wild because of writing the cell at a: it is wild in every such state in which that cell isn't live; and it is all one to the
-- run whether a live cell there was set before, so it doesn't read it
abbrev pub NeedsLive : {A : Type 0} → Run A → List Cell → ℕ → Type 0
NeedsLive r store a =
    ((st : State) → KeepsWords store st → cell_at st.cells a ≡ cells.Dead → r st ≡ Wild)
    × ((st : State) (w : ℕ) → KeepsWords store st → r (with_cell a cells.Unset st) ≡ r (with_cell a (Set w) st))

-- a run over this store is wild because of the cell that the cause names, and that cell is in the named state
abbrev pub IsWildBy : {A : Type 0} → Run A → List Cell → Cause → Type 0
IsWildBy r store (Unset a) = StandsIn (Unset a) store × NeedsWord r store a
IsWildBy r store (Dead a) = StandsIn (Dead a) store × NeedsWord r store a
IsWildBy r store (NoCell a) = StandsIn (NoCell a) store × NeedsLive r store a
IsWildBy r store cause = ⊥

-- the size, in cells, of the frame that a routine or primitive takes
abbrev pub frame_of : Callee → ℕ
frame_of (OfSection section routine) = frame_size section.core.valofs routine
frame_of (OfLibrary primitive) = primitive_frame

-- the frame at f would extend past address 65,535
abbrev pub IsTooLarge : Option Callee → (f : ℕ) → Type 0
IsTooLarge None f = ⊥
IsTooLarge (Some called) f = 65536 < f + frame_of called

-- the call of this value, in the frame at f, fails with this cause; the first argument is the routine at that address, if any
abbrev pub Refused : Option Callee → (value f : ℕ) → Cause → Type 0
Refused called value f (NotRoutine v) = (v ≡ value) × (called ≡ None)
Refused called value f (FrameTooLarge a) = (a ≡ f) × IsTooLarge called f
Refused called value f cause = ⊥

-- a step is wild with this cause
pub data Meets (program : List Placed) (w : Work) (rs : List Rest) (cells : List Cell) (cause : Cause) : Type 0 where
  -- the step isn't a call, and it is wild because of that cell
  ByCell :
      ((value : ℕ) (arguments : List ℕ) (f : ℕ) → ¬ IsCall w rs value arguments f) → IsWildBy (step program w rs) cells cause
      → Meets program w rs cells cause
  -- a primitive is called whose frame fits, and its work, once the argument has been passed, is wild because of that cell
  ByArgument :
      (value : ℕ) (arguments : List ℕ) (f : ℕ) (primitive : Primitive)
      → IsCall w rs value arguments f → callee program value ≡ Some (OfLibrary primitive) → f + primitive_frame ≤ 65536
      → IsWildBy (primitive_work primitive f) (passed 1 (f + 2) arguments cells) cause
      → Meets program w rs cells cause
  -- a value is called that isn't a routine's address, or whose frame is too large
  ByCall :
      (value : ℕ) (arguments : List ℕ) (f : ℕ)
      → IsCall w rs value arguments f → Refused (callee program value) value f cause → Meets program w rs cells cause
  -- the step isn't a call, and it is wild whatever the cells hold
  ByForm :
      ((value : ℕ) (arguments : List ℕ) (f : ℕ) → ¬ IsCall w rs value arguments f) → cause ≡ Malformed
      → ((st : State) → step program w rs st ≡ Wild) → Meets program w rs cells cause

-- the state of the machine after this many steps, or how the run ended before
abbrev pub after_steps : List Placed → ℕ → At → State → Outcome At
after_steps program zero at st = Done at st
after_steps program (suc k) at st = followed (step program at.work at.rests st) (after_steps program k)

-- after some number of steps from here, the next step is wild with this cause, and this is its trail
pub record ComesTo (program : List Placed) (from : At) (start : State) (cause : Cause) (trail : List Standing) : Type 0 where
  pub steps : ℕ
  pub at : At
  pub state : State
  pub comes : after_steps program steps from start ≡ Done at state
  pub wild : step program at.work at.rests state ≡ Wild
  pub meets : Meets program at.work at.rests state.cells cause
  pub during : IsTrail at.work at.rests trail
