-- What is true of a store and its past at any time.
use Rattle.std.specs.Prelude.{ℕ, List, Option, None, Some, IsTrue}
use Rattle.bc_interpret_store.specs.declared.cell.Cell.{Cell}
use Rattle.bc_interpret_store.specs.declared.watch.Watch.{Watch}
use Rattle.bc_interpret_store.specs.Recorded.{AgreesBut, Differs}

-- while the log is whole, the cells of the past are those of the store, except perhaps at the addresses in the log
abbrev pub IsFresh : List Cell → Watch → Type 0
IsFresh cells watch = IsTrue watch.is_whole → AgreesBut watch.log.items watch.history.now cells

abbrev pub IsWatched : List Cell → Option Watch → Type 0
IsWatched cells None = Unit {0}
IsWatched cells (Some watch) = IsFresh cells watch

-- what was fresh is fresh again, and the cells are what they were
abbrev pub StaysFresh : Watch → Watch → Type 0
StaysFresh old new = (cells : List Cell) → IsFresh cells old → IsFresh cells new

-- what was fresh is fresh again once the cell at this address has changed
abbrev pub Notes : ℕ → Watch → Watch → Type 0
Notes address old new = (before after : List Cell) → IsFresh before old → Differs address before after → IsFresh after new

-- the same of a store that may be watched
abbrev pub NotesIn : ℕ → Option Watch → Option Watch → Type 0
NotesIn address old new = (before after : List Cell) → IsWatched before old → Differs address before after → IsWatched after new
