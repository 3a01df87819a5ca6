-- What the machine does for a run of the source, seen from an earlier moment, the origin.
use Rattle.std.specs.Prelude.{ℕ, ◌≡◌, ◌+◌, ◌≤◌, ◌<◌, List}
use Rattle.bc_text_items.specs.declared.item.Item.{Item}
use Rattle.bc_machine_defs.specs.declared.state.End.TheVariants.{BudgetSpent}
use Rattle.bc_machine_defs.specs.State.{State}
use Rattle.bc_core.specs.Store.{Cell}
use Rattle.bc_core.specs.Outcome as outcomes
use Rattle.bc_core.specs.Outcome.{Outcome, Run}
use Rattle.bc_core.specs.Same.{end_of}
use Rattle.bc_right.specs.steps.Leads.{machine, Ahead, StopsAt, AreWords}
use Rattle.bc_right.specs.steps.Agreement.{Holds, Keeps}
use Rattle.bc_right.specs.steps.CodeAt.{IsCode, words}

-- a moment of a run: the cells, the store, and the top, from which on no cell is live
pub record Moment : Type 0 where
  pub top : ℕ
  pub cells : List Cell
  pub store : List ℕ

abbrev pub moment : ℕ → List Cell → List ℕ → Moment
moment top cells store = record { top = top; cells = cells; store = store }

-- N is later than M: cells that were dead below the top at M are still dead and unchanged in the store, and cells that are unset now
-- were unset and are unchanged
pub record Later (M N : Moment) : Type 0 where
  pub low : M.top ≤ N.top
  pub keeps : Keeps M.top M.cells M.store N.cells N.store

-- the items have been in the store as code since the moment K, from c to end
pub record Stands (address : ℕ → ℕ) (K : Moment) (c : ℕ) (items : List Item) (end : ℕ) : Type 0 where
  pub code : IsCode address K.top K.cells K.store c items
  pub ends : c + words items ≡ end

-- The machine was in the state x at the moment O, when t turns remained for the source. It has now come to this state, in at least as
-- many instructions as turns were taken, and `gain` more.
pub record Reached (K : Moment) (most : ℕ) (O : Moment) (x : State) (t top p a b c gain : ℕ) (store : List ℕ) (st : outcomes.State) : Type 0 where
  pub few : st.turns < most
  pub are_words : AreWords x
  pub leads : Ahead x (t + gain) (machine a b c p store st.streams) st.turns
  pub holds : Holds top st.cells store
  pub since : Later K O
  pub later : Later O (moment top st.cells store)

-- a goal: given the value of the run, a condition on A, B, C, the gain and the remaining turns
abbrev pub Goal : Type 0 → Type 1
Goal A = A → (a b c gain turns : ℕ) → Type 0

-- The machine has reached the goal; or it has ended, or is still running, as the source. If the source is wild, nothing is claimed.
abbrev pub Lands : {A : Type 0} → (K : Moment) → (most : ℕ) → (O : Moment) → State → (t top p limit : ℕ) → Goal A → Outcome A → Type 0
Lands K most O x t top p limit goal (outcomes.Done v st) =
    (a : ℕ) × (b : ℕ) × (c : ℕ) × (gain : ℕ) × (store : List ℕ)
    × Reached K most O x t top p a b c gain store st × (st.turns ≤ limit) × goal v a b c gain st.turns
Lands K most O x t top p limit goal (outcomes.Ended e streams) = (j : ℕ) × StopsAt x j (end_of e) streams
Lands K most O x t top p limit goal (outcomes.Going streams) = (j : ℕ) × (t ≤ j) × StopsAt x j BudgetSpent streams
Lands K most O x t top p limit goal outcomes.Wild = Unit {0}

-- A run that begins with C = c, A = a and at most `limit` remaining turns reaches the goal.
pub record Does {A : Type 0} (K : Moment) (most top p limit a c : ℕ) (goal : Goal A) (r : Run A) : Type 0 where
  pub from : (O : Moment) (x : State) (t b : ℕ) (store : List ℕ) (st : outcomes.State)
      → st.turns ≤ limit → Reached K most O x t top p a b c 0 store st → Lands K most O x t top p limit goal (r st)
