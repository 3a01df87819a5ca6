-- The cells at each stop of a recording: its first cells, with all changes up to that stop.
use Rattle.std.specs.Prelude.{ℕ, ◌≡◌, List}
use Rattle.bc_interpret_store.specs.declared.cell.Cell.{Cell}
use Rattle.bc_interpret_record.specs.declared.recording.Recording.{Recording}
use Rattle.bc_interpret_record.specs.declared.moment.Moment.{Moment}
use Rattle.bc_interpret_store.specs.Changes.{Fits, cells_after}
use Rattle.bc_interpret_record.specs.Stops.{changes_until}

-- the cells at the stop with this index
abbrev pub state_at : Recording → ℕ → List Cell
state_at r k = cells_after r.first.items r.changes.items (changes_until r.stops.items k)

-- each change of the recording finds its old cell, so that it can be made and taken back
pub record IsReplayable (r : Recording) : Type 0 where
  pub fits : Fits r.changes.items r.first.items

-- the moment has made the changes up to its stop, and has the cells there
pub record IsAt (r : Recording) (moment : Moment) : Type 0 where
  pub made : moment.made ≡ changes_until r.stops.items moment.at
  pub cells : moment.cells.items ≡ state_at r moment.at
