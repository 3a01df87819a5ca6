-- What makes a run wild: larger runs that begin with it, and runs that come to it by a write.
use Rattle.std.proofs.Common.{◌≡◌, ◌≢◌, ◌⊎◌, inl, inr, ℕ, zero, suc, List, [], ◌∷◌, sym, ap, subst, refl, ◌∙◌}
use Rattle.std.specs.Prelude.{slice_set}
use Rattle.bc_core.specs.Store.{Cell, Dead, Unset, Set, cell_at}
use Rattle.bc_core.specs.Outcome.{State, Run, Done, Wild, followed, then_do, content_of_cell, read, written, write}
use Rattle.bc_interpret_defs.specs.Causes as causes
use Rattle.bc_interpret_defs.specs.Causes.{Cause}
use Rattle.bc_interpret_defs.specs.Meeting.{KeepsWords, HasNoWord, with_cell, NeedsWord, NeedsLive, IsWildBy}

-- setting one cell
other : (cells : List Cell) (a b : ℕ) (c : Cell) → a ≢ b → cell_at (slice_set cells a c) b ≡ cell_at cells b
other [] a b c n = refl
other (x ∷ xs) zero zero c n = absurd (n refl)
other (x ∷ xs) zero (suc b) c n = refl
other (x ∷ xs) (suc a) zero c n = refl
other (x ∷ xs) (suc a) (suc b) c n = other xs a b c (λ e. n (ap suc e))

there : (cells : List Cell) (a : ℕ) (c : Cell) → cell_at cells a ≢ Dead → cell_at (slice_set cells a c) a ≡ c
there [] a c n = absurd (n refl)
there (x ∷ xs) zero c n = refl
there (x ∷ xs) (suc a) c n = there xs a c n

overwritten : (cells : List Cell) (a : ℕ) (c d : Cell) → slice_set (slice_set cells a c) a d ≡ slice_set cells a d
overwritten [] a c d = refl
overwritten (x ∷ xs) zero c d = refl
overwritten (x ∷ xs) (suc a) c d = ap (λ ys. x ∷ ys) (overwritten xs a c d)

apart : (cells : List Cell) (a b : ℕ) (c d : Cell) → a ≢ b → slice_set (slice_set cells b d) a c ≡ slice_set (slice_set cells a c) b d
apart [] a b c d n = refl
apart (x ∷ xs) zero zero c d n = absurd (n refl)
apart (x ∷ xs) zero (suc b) c d n = refl
apart (x ∷ xs) (suc a) zero c d n = refl
apart (x ∷ xs) (suc a) (suc b) c d n = ap (λ ys. x ∷ ys) (apart xs a b c d (λ e. n (ap suc e)))

no_word : (c : Cell) → c ≡ Dead → HasNoWord c
no_word c e = subst HasNoWord (sym e) tt

-- a cell without a word may become any other
pub keeps_other : (cells : List Cell) (st : State) (a : ℕ) (c : Cell) → HasNoWord (cell_at cells a) → KeepsWords cells st → KeepsWords cells (with_cell a c st)
keeps_other cells st a c none keeps b w e =
    other st.cells a b c (λ (i : a ≡ b). subst HasNoWord (subst (λ z. cell_at cells z ≡ Set w) (sym i) e) none) ∙ keeps b w e

keeps_write : (cells others : List Cell) (a w : ℕ) → ((b v : ℕ) → cell_at cells b ≡ Set v → cell_at others b ≡ Set v) → cell_at others a ≢ Dead → (b v : ℕ) → cell_at (slice_set cells a (Set w)) b ≡ Set v → cell_at (slice_set others a (Set w)) b ≡ Set v
keeps_write cells [] a w keeps live b v e = absurd (live refl)
keeps_write [] (y ∷ ys) a w keeps live b v e = cc
keeps_write (x ∷ xs) (y ∷ ys) zero w keeps live zero v e = e
keeps_write (x ∷ xs) (y ∷ ys) zero w keeps live (suc b) v e = keeps (suc b) v e
keeps_write (x ∷ xs) (y ∷ ys) (suc a) w keeps live zero v e = keeps zero v e
keeps_write (x ∷ xs) (y ∷ ys) (suc a) w keeps live (suc b) v e = keeps_write xs ys a w (λ b v. keeps (suc b) v) live b v e

-- a run that begins with a wild one
pub wild_then : {A B : Type 0} (r : Run A) (f : A → Run B) (cells : List Cell) (c : Cause) → IsWildBy r cells c → IsWildBy (then_do r f) cells c
wild_then r f cells (causes.Unset a) h = (h.0, λ st keeps n. ap (λ o. followed o f) (h.1 st keeps n))
wild_then r f cells (causes.Dead a) h = (h.0, λ st keeps n. ap (λ o. followed o f) (h.1 st keeps n))
wild_then r f cells (causes.NoCell a) h = (h.0, ((λ st keeps n. ap (λ o. followed o f) (h.1.0 st keeps n)), λ st w keeps. ap (λ o. followed o f) (h.1.1 st w keeps)))
wild_then r f cells (causes.NotRoutine v) h = absurd h
wild_then r f cells (causes.FrameTooLarge v) h = absurd h
wild_then r f cells causes.Malformed h = absurd h

-- two runs that are the same wherever the words stand
pub wild_same : {A : Type 0} (r q : Run A) (cells : List Cell) (c : Cause) → ((st : State) → KeepsWords cells st → r st ≡ q st) → IsWildBy q cells c → IsWildBy r cells c
wild_same r q cells (causes.Unset a) same h = (h.0, λ st keeps n. same st keeps ∙ h.1 st keeps n)
wild_same r q cells (causes.Dead a) same h = (h.0, λ st keeps n. same st keeps ∙ h.1 st keeps n)
wild_same r q cells (causes.NoCell a) same h = (
  h.0,
  (
    (λ st keeps n. same st keeps ∙ h.1.0 st keeps n),
    λ st w keeps. same (with_cell a Unset st) (keeps_other cells st a Unset (no_word _ h.0) keeps) ∙ (h.1.1 st w keeps ∙ sym (same (with_cell a (Set w) st) (keeps_other cells st a (Set w) (no_word _ h.0) keeps))),
  ),
)
wild_same r q cells (causes.NotRoutine v) same h = absurd h
wild_same r q cells (causes.FrameTooLarge v) same h = absurd h
wild_same r q cells causes.Malformed same h = absurd h

-- a read
no_content : (c : Cell) (st : State) → HasNoWord c → content_of_cell c st ≡ Wild
no_content Dead st h = refl
no_content Unset st h = refl
no_content (Set w) st h = absurd h

pub wild_read_unset : (a : ℕ) (cells : List Cell) → cell_at cells a ≡ Unset → IsWildBy (read a) cells (causes.Unset a)
wild_read_unset a cells e = (e, λ st keeps n. no_content (cell_at st.cells a) st n)

pub wild_read_dead : (a : ℕ) (cells : List Cell) → cell_at cells a ≡ Dead → IsWildBy (read a) cells (causes.Dead a)
wild_read_dead a cells e = (e, λ st keeps n. no_content (cell_at st.cells a) st n)

-- a write
-- whether there is such a cell at all
within : (cells : List Cell) (a : ℕ) (c d : Cell) → (slice_set cells a c ≡ slice_set cells a d) ⊎ ((cell_at (slice_set cells a c) a ≡ c) × (cell_at (slice_set cells a d) a ≡ d))
within [] a c d = inl refl
within (x ∷ xs) zero c d = inr (refl, refl)
within (x ∷ xs) (suc a) c d = by (within xs a c d) where
  by : (slice_set xs a c ≡ slice_set xs a d) ⊎ ((cell_at (slice_set xs a c) a ≡ c) × (cell_at (slice_set xs a d) a ≡ d)) → (slice_set (x ∷ xs) (suc a) c ≡ slice_set (x ∷ xs) (suc a) d) ⊎ ((cell_at (slice_set (x ∷ xs) (suc a) c) (suc a) ≡ c) × (cell_at (slice_set (x ∷ xs) (suc a) d) (suc a) ≡ d))
  by (inl e) = inl (ap (λ ys. x ∷ ys) e)
  by (inr e) = inr e

pub written_over : (a v w : ℕ) (st : State) → write a v (with_cell a Unset st) ≡ write a v (with_cell a (Set w) st)
written_over a v w st = by (within st.cells a Unset (Set w)) where
  by : (slice_set st.cells a Unset ≡ slice_set st.cells a (Set w)) ⊎ ((cell_at (slice_set st.cells a Unset) a ≡ Unset) × (cell_at (slice_set st.cells a (Set w)) a ≡ Set w)) → write a v (with_cell a Unset st) ≡ write a v (with_cell a (Set w) st)
  by (inl e) = ap (λ all. write a v (record st { cells = all })) e
  by (inr e) =
      ap (λ c. written c a v (with_cell a Unset st)) e.0
      ∙ (ap (λ all. Done tt (record st { cells = all })) (overwritten st.cells a Unset (Set v) ∙ sym (overwritten st.cells a (Set w) (Set v)))
      ∙ sym (ap (λ c. written c a v (with_cell a (Set w) st)) e.1))

pub still_wild : (a v : ℕ) (st : State) → cell_at st.cells a ≡ Dead → write a v st ≡ Wild
still_wild a v st n = ap (λ c. written c a v st) n

pub wild_write : (a v : ℕ) (cells : List Cell) → cell_at cells a ≡ Dead → IsWildBy (write a v) cells (causes.NoCell a)
wild_write a v cells e = (e, ((λ st keeps n. ap (λ c. written c a v st) n), λ st w keeps. written_over a v w st))

-- a run after a write
after_write : {B : Type 0} (c : Cell) (a v : ℕ) (q : Run B) (st : State) → (c ≢ Dead → q (with_cell a (Set v) st) ≡ Wild) → followed (written c a v st) (λ u. q) ≡ Wild
after_write Dead a v q st h = refl
after_write Unset a v q st h = h (λ e. cc)
after_write (Set x) a v q st h = h (λ e. cc)

after_both : {B : Type 0} (c : Cell) (a v : ℕ) (q : Run B) (s t : State) → (c ≢ Dead → q (with_cell a (Set v) s) ≡ q (with_cell a (Set v) t)) → followed (written c a v s) (λ u. q) ≡ followed (written c a v t) (λ u. q)
after_both Dead a v q s t h = refl
after_both Unset a v q s t h = h (λ e. cc)
after_both (Set x) a v q s t h = h (λ e. cc)

-- a cell without a word after a write isn't the one that was written
not_written : (cells : List Cell) (a v b : ℕ) → cell_at cells a ≢ Dead → HasNoWord (cell_at (slice_set cells a (Set v)) b) → a ≢ b
not_written cells a v b live none e = subst HasNoWord (there cells a (Set v) live) (subst (λ z. HasNoWord (cell_at (slice_set cells a (Set v)) z)) (sym e) none)

pub wild_after_write : {B : Type 0} (a v : ℕ) (q : Run B) (cells : List Cell) (c : Cause) → cell_at cells a ≢ Dead → IsWildBy q (slice_set cells a (Set v)) c → IsWildBy (then_do (write a v) (λ u. q)) cells c
wild_after_write {B} a v q cells (causes.Unset b) live h =
    let n = not_written cells a v b live (subst HasNoWord (sym h.0) tt) in (
      sym (other cells a b (Set v) n) ∙ h.0,
      λ st keeps none. after_write (cell_at st.cells a) a v q st
          (λ l. h.1 (with_cell a (Set v) st) (keeps_write cells st.cells a v keeps l) (subst HasNoWord (sym (other st.cells a b (Set v) n)) none)),
    )
wild_after_write {B} a v q cells (causes.Dead b) live h =
    let n = not_written cells a v b live (subst HasNoWord (sym h.0) tt) in (
      sym (other cells a b (Set v) n) ∙ h.0,
      λ st keeps none. after_write (cell_at st.cells a) a v q st
          (λ l. h.1 (with_cell a (Set v) st) (keeps_write cells st.cells a v keeps l) (subst HasNoWord (sym (other st.cells a b (Set v) n)) none)),
    )
wild_after_write {B} a v q cells (causes.NoCell b) live h =
    let n = not_written cells a v b live (subst HasNoWord (sym h.0) tt) in (
      sym (other cells a b (Set v) n) ∙ h.0,
      (
        (λ st keeps dead. after_write (cell_at st.cells a) a v q st (λ l. h.1.0 (with_cell a (Set v) st) (keeps_write cells st.cells a v keeps l) (other st.cells a b (Set v) n ∙ dead))),
        λ st w keeps. both n st w keeps,
      ),
    ) where
      both : a ≢ b → (st : State) (w : ℕ) → KeepsWords cells st → then_do (write a v) (λ u. q) (with_cell b Unset st) ≡ then_do (write a v) (λ u. q) (with_cell b (Set w) st)
      both n st w keeps =
          ap (λ c. followed (written c a v (with_cell b Unset st)) (λ u. q)) (other st.cells b a Unset (λ e. n (sym e)))
          ∙ (after_both (cell_at st.cells a) a v q (with_cell b Unset st) (with_cell b (Set w) st)
          (λ l. ap (λ all. q (record st { cells = all })) (apart st.cells a b (Set v) Unset n)
          ∙ (h.1.1 (with_cell a (Set v) st) w (keeps_write cells st.cells a v keeps l)
          ∙ sym (ap (λ all. q (record st { cells = all })) (apart st.cells a b (Set v) (Set w) n))))
          ∙ sym (ap (λ c. followed (written c a v (with_cell b (Set w) st)) (λ u. q)) (other st.cells b a (Set w) (λ e. n (sym e)))))
wild_after_write {B} a v q cells (causes.NotRoutine x) live h = absurd h
wild_after_write {B} a v q cells (causes.FrameTooLarge x) live h = absurd h
wild_after_write {B} a v q cells causes.Malformed live h = absurd h
