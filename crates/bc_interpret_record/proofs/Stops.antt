-- Lemmas on the numbers of changes of stops, and on the cells of a moment.
use Rattle.std.proofs.Common.{◌≡◌, ℕ, zero, suc, ◌-◌, ◌≤◌, ◌<◌, List, [], ◌∷◌, length, slice_get, map, Some, refl, sym, ap, ◌∙◌, arith}
use Rattle.std.proofs.lemmas.List.{get_or_past, length-map}
use Rattle.bc_interpret_store.specs.declared.cell.Cell.{Cell}
use Rattle.bc_interpret_record.specs.declared.recording.Stop.{Stop}
use Rattle.bc_interpret_record.specs.declared.recording.Recording.{Recording}
use Rattle.bc_interpret_record.specs.declared.moment.Moment.{Moment}
use Rattle.bc_interpret_store.specs.Changes.{cells_after, Walks}
use Rattle.bc_interpret_record.specs.Stops.{changes_until, changes_before}
use Rattle.bc_interpret_record.specs.Replay.{IsReplayable, IsAt}

pub until_found : (stops : List Stop) (k : ℕ) (stop : Stop) → slice_get stops k ≡ Some stop → stop.changes ≡ changes_until stops k
until_found [] k stop h = cc
until_found (s ∷ stops) zero stop h = let same : s ≡ stop = cc in ap (λ (x : Stop). x.changes) (sym same)
until_found (s ∷ stops) (suc k) stop h = until_found stops k stop h

pub until_none : (stops : List Stop) (k : ℕ) → length stops ≤ k → 0 ≡ changes_until stops k
until_none stops k h = sym (get_or_past (map (λ (stop : Stop). stop.changes) stops) k 0 (omega (arith, length-map stops (λ (stop : Stop). stop.changes))))

pub none_before : (stops : List Stop) (k : ℕ) → k ≤ 0 → 0 ≡ changes_before stops k
none_before stops zero h = refl
none_before stops (suc k) h = absurd (omega arith)

pub before_is : (stops : List Stop) (k : ℕ) → 0 < k → changes_until stops (k - 1) ≡ changes_before stops k
before_is stops zero h = absurd (omega arith)
before_is stops (suc k) h = let same : suc k - 1 ≡ k = omega arith in ap (changes_until stops) same

-- the cells at the first stop
pub at_first : (r : Recording) (moment : Moment) (old : List Cell) → moment.at ≡ 0 → moment.made ≡ changes_until r.stops.items 0 → old ≡ r.first.items
    → Walks r.changes.items 0 moment.made old moment.cells.items → IsReplayable r → IsAt r moment
at_first r moment old a m o w p =
    let made : moment.made ≡ changes_until r.stops.items moment.at = m ∙ ap (changes_until r.stops.items) (sym a) in
    record { made = made; cells = w r.first.items p.fits o ∙ ap (cells_after r.first.items r.changes.items) made }

-- those at another one
pub at_other : (r : Recording) (old new : Moment) (k : ℕ) → new.at ≡ k → new.made ≡ changes_until r.stops.items k
    → Walks r.changes.items old.made new.made old.cells.items new.cells.items → IsReplayable r → IsAt r old → IsAt r new
at_other r old new k a m w p at =
    let made : new.made ≡ changes_until r.stops.items new.at = m ∙ ap (changes_until r.stops.items) (sym a) in
    let before : old.cells.items ≡ cells_after r.first.items r.changes.items old.made =
    at.cells ∙ ap (cells_after r.first.items r.changes.items) (sym at.made) in
    record { made = made; cells = w r.first.items p.fits before ∙ ap (cells_after r.first.items r.changes.items) made }
