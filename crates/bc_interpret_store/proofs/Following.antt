-- Lemmas on cells that follow a store.
use Rattle.std.proofs.Common.{◌≡◌, ℕ, ◌+◌, ◌-◌, ◌<◌, ◌≤◌, List, [], ◌∷◌, ◌++◌, length, get_or, slice_get, slice_set, slice_range, take, drop, Some, inl, inr, refl, sym, ap, subst, ◌∙◌, arith}
use Rattle.std.proofs.lemmas.List.{append_assoc, append-nil, get_or-set_same, get_or-set_other, take-append-drop}
use Rattle.std.proofs.lemmas.Option.{slice_get-get_or}
use Rattle.std.proofs.lemmas.Slice.{between_from_start}
use Rattle.std.proofs.lemmas.Bool.{cases_eq}
use Rattle.bc_interpret_store.specs.declared.cell.Cell.{Cell}
use Rattle.bc_interpret_store.specs.declared.cell.Cell.TheVariants.{Dead}
use Rattle.bc_interpret_store.specs.declared.change.Change.{Change}
use Rattle.bc_interpret_store.specs.Changes.{applied, cells_after, Fits}
use Rattle.bc_interpret_store.specs.Recorded.{Extends, Agrees, AgreesBut, Updates, IsKept}
use Rattle.bc_interpret_store.proofs.Deltas.{applied-append, Fits-append, fits_last, delta_of, joined}

pub extends_none : (old new : List Change) (cells : List Cell) → new ≡ old → Extends old new cells cells
extends_none old new cells e = record { delta = []; grows = e ∙ sym (append-nil old); leads = delta_of [] cells cells tt refl }

pub extends_one : (old new : List Change) (before after : List Cell) (c : Change) → c.address < length before → c.old ≡ get_or before c.address Dead
    → new ≡ old ++ c ∷ [] → after ≡ slice_set before c.address c.new → Extends old new before after
extends_one old new before after c h r e p =
    let found : slice_get before c.address ≡ Some c.old = slice_get-get_or before c.address Dead h ∙ ap (λ (cell : Cell). Some cell) (sym r) in
    record { delta = c ∷ []; grows = e; leads = delta_of (c ∷ []) before after (found, tt) (sym p) }

pub extends_trans : (old mid new : List Change) (before between after : List Cell) → Extends old mid before between → Extends mid new between after → Extends old new before after
extends_trans old mid new before between after e f =
    let P : List Cell → Type 0 = λ cells. Fits f.delta cells in
    record {
      delta = e.delta ++ f.delta;
      grows = f.grows ∙ (ap (λ (l : List Change). l ++ f.delta) e.grows ∙ append_assoc old e.delta f.delta);
      leads = delta_of (e.delta ++ f.delta) before after
          (Fits-append e.delta f.delta before e.leads.fits (subst P (sym e.leads.makes) f.leads.fits))
          (applied-append e.delta f.delta before ∙ (ap (applied f.delta) e.leads.makes ∙ f.leads.makes));
    }

-- nothing is to be done where the cell is that of the store already
pub updates_none : (a : ℕ) (cells now : List Cell) (old new : Cell) → old ≡ get_or now a Dead → new ≡ old → new ≡ get_or cells a Dead
    → Updates a cells now now
updates_none a cells now old new r e seen = record { here = λ h. sym r ∙ (sym e ∙ seen); others = λ b n. refl }

pub updates_one : (a : ℕ) (cells before after : List Cell) (new : Cell) → a < length before → after ≡ slice_set before a new
    → new ≡ get_or cells a Dead → Updates a cells before after
updates_one a cells before after new h e seen = record {
  here = λ l. ap (λ (s : List Cell). get_or s a Dead) e ∙ (get_or-set_same before a new Dead h ∙ seen);
  others = λ b n. ap (λ (s : List Cell). get_or s b Dead) e ∙ get_or-set_other before a b new Dead n;
}

-- past the last cell
pub updates_past : (a : ℕ) (cells now : List Cell) → length now ≤ a → Updates a cells now now
updates_past a cells now h = record { here = λ l. absurd (omega arith); others = λ b n. refl }

pub agrees_none : (now cells : List Cell) → Agrees 0 now cells
agrees_none now cells = record { each = λ a h l. absurd (omega arith) }

pub agrees_more : (n : ℕ) (before after cells : List Cell) → Agrees n before cells → Updates n cells before after → length after ≡ length before → Agrees (n + 1) after cells
agrees_more n before after cells g u e = record {
  each = λ a h l.
      elim (cases_eq a n) [
        | inl same ↦ subst (λ (b : ℕ). get_or after b Dead ≡ get_or cells b Dead) (sym same) (u.here (omega (arith, l, same)))
        | inr other ↦ u.others a other ∙ g.each a (omega arith) (omega arith)
      ];
}

pub agrees_all : (n limit : ℕ) (now cells : List Cell) → Agrees n now cells → ((a : ℕ) → a < limit → a < length now → a < n) → Agrees limit now cells
agrees_all n limit now cells g h = record { each = λ a p q. g.each a (h a p q) q }

-- the first logged address is followed
pub but_less : (left later : List ℕ) (a : ℕ) (before after cells : List Cell) → left ≡ a ∷ later → AgreesBut left before cells → Updates a cells before after
    → length after ≡ length before → AgreesBut later after cells
but_less left later a before after cells is h u e =
    let P : List ℕ → Type 0 = λ l. AgreesBut l before cells in
    let g : AgreesBut (a ∷ later) before cells = subst P is h in
    record {
      each = λ b m l k.
          elim (cases_eq b a) [
            | inl same ↦ subst (λ (x : ℕ). get_or after x Dead ≡ get_or cells x Dead) (sym same) (u.here (omega (arith, l, same)))
            | inr other ↦ u.others b other ∙ g.each b (other, m) (omega arith) k
          ];
    }

-- no logged address is left
pub but_none : (log : List ℕ) (now cells : List Cell) → length log ≡ 0 → AgreesBut log now cells → Agrees 65536 now cells
but_none [] now cells e g = record { each = λ a h l. g.each a tt l h }
but_none (a ∷ log) now cells e g = absurd (omega arith)

pub kept_none : (first : List Cell) (changes : List Change) (now : List Cell) → changes ≡ [] → first ≡ now → IsKept first changes now
kept_none first changes now e p = subst (λ (cs : List Change). IsKept first cs now) (sym e) (record { fits = tt; leads = p })

pub kept_more : (first : List Cell) (old new : List Change) (before after : List Cell) → IsKept first old before → Extends old new before after → IsKept first new after
kept_more first old new before after k e =
    let P : List Cell → Type 0 = λ cells. Fits e.delta cells in
    let Q : List Change → Type 0 = λ changes. Fits changes first in
    record {
      fits = subst Q (sym e.grows) (Fits-append old e.delta first k.fits (subst P (sym k.leads) e.leads.fits));
      leads = ap (λ (l : List Change). applied l first) e.grows ∙ (applied-append old e.delta first ∙ (ap (applied e.delta) k.leads ∙ e.leads.makes));
    }

pub kept_later : (first after : List Cell) (changes part later : List Change) (now : List Cell) (n : ℕ) → IsKept first changes now → part ≡ slice_range changes 0 n
    → later ≡ drop n changes → after ≡ applied part first → IsKept after later now
kept_later first after changes part later now n k q e p =
    let Q : List Change → Type 0 = λ cs. Fits cs first in
    let start : after ≡ applied (take n changes) first = p ∙ ap (λ (l : List Change). applied l first) (q ∙ between_from_start changes n) in
    let whole : Fits (take n changes ++ drop n changes) first = subst Q (sym (take-append-drop n changes)) k.fits in
    let fits : Fits (drop n changes) (applied (take n changes) first) = fits_last (take n changes) (drop n changes) first whole in
    let leads : applied (drop n changes) (applied (take n changes) first) ≡ now =
    sym (applied-append (take n changes) (drop n changes) first) ∙ (ap (λ (l : List Change). applied l first) (take-append-drop n changes) ∙ k.leads) in
    let R : List Change → Type 0 = λ cs. IsKept after cs now in
    let S : List Cell → Type 0 = λ cells. IsKept cells (drop n changes) now in
    subst R (sym e) (subst S (sym start) (record { fits = fits; leads = leads }))

-- the cells after some of the changes that are left
pub dropped : (first after : List Cell) (changes part later : List Change) (count n : ℕ) → part ≡ slice_range changes 0 count → later ≡ drop count changes
    → after ≡ applied part first → cells_after after later n ≡ cells_after first changes (count + n)
dropped first after changes part later count n q e p =
    let start : after ≡ applied (take count changes) first = p ∙ ap (λ (l : List Change). applied l first) (q ∙ between_from_start changes count) in
    let short : n ≡ count + n - count = omega arith in
    let rest : take n later ≡ slice_range changes count (count + n) = ap (take n) e ∙ ap (λ (m : ℕ). take m (drop count changes)) short in
    ap (λ (l : List Change). applied l after) rest
    ∙ (ap (applied (slice_range changes count (count + n))) start
    ∙ (sym (applied-append (take count changes) (slice_range changes count (count + n)) first)
    ∙ ap (λ (l : List Change). applied l first) (joined changes count (count + n) (omega arith))))

pub ruleset one_cell = (extends_none, extends_one, updates_none, updates_one)

pub ruleset past_cell = (extends_none, updates_past)

pub ruleset many_cells = (extends_none, extends_trans, agrees_none, agrees_more, agrees_all)

pub ruleset logged_cells = (extends_none, extends_trans, but_less, but_none)
