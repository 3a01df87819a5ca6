-- How many changes belong to the stops of a recording.
use Rattle.std.specs.Prelude.{ℕ, zero, suc, List, map, slice_index}
use Rattle.bc_interpret_record.specs.declared.recording.Stop.{Stop}

-- how many changes belong to the stop with this index and the stops before it; 0 if there is no such stop
abbrev pub changes_until : List Stop → ℕ → ℕ
changes_until stops k = slice_index (map (λ (stop : Stop). stop.changes) stops) k

-- how many belong to the stops before it
abbrev pub changes_before : List Stop → ℕ → ℕ
changes_before stops zero = 0
changes_before stops (suc k) = changes_until stops k
