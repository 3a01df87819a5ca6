-- How the agreement of cells and store passes from one moment to the next.
use Rattle.std.proofs.Common.{◌≡◌, ◌⊎◌, ⊎_elim, ℕ, ◌+◌, ◌<◌, ◌≤◌, List, [], ◌∷◌, length, sym, ap, ◌∙◌, arith}
use Rattle.std.specs.Prelude.{slice_set}
use Rattle.std.proofs.lemmas.List.{length-set, get_or-set_other}
use Rattle.bc_text_items.specs.declared.item.Item.{Item}
use Rattle.bc_text_items.specs.Sizes.{size}
use Rattle.bc_text_items.specs.Assembled.{words_of_item}
use Rattle.bc_core.specs.Store.{Cell, Dead, Set, cell_at}
use Rattle.bc_right.specs.steps.Agreement.{Holds, Keeps}
use Rattle.bc_right.specs.steps.CodeAt.{HasWords, HasItems, words, IsCode}
use Rattle.bc_right.proofs.step_lemmas.Cells.{differ}

pub keeps_then : (top : ℕ) (c0 c1 c2 : List Cell) (m0 m1 m2 : List ℕ) → Keeps top c0 m0 c1 m1 → Keeps top c1 m1 c2 m2 → Keeps top c0 m0 c2 m2
keeps_then top c0 c1 c2 m0 m1 m2 k l = record {
  dead = λ a lt d. l.dead a lt (k.dead a lt d);
  same = λ a lt d. l.same a lt (k.dead a lt d) ∙ k.same a lt d;
  unset = λ a lt u. let after = l.unset a lt u in let before = k.unset a lt after.0 in (before.0, after.1 ∙ before.1);
}

pub keeps_down : (top top1 : ℕ) (c0 c1 : List Cell) (m0 m1 : List ℕ) → top ≤ top1 → Keeps top1 c0 m0 c1 m1 → Keeps top c0 m0 c1 m1
keeps_down top top1 c0 c1 m0 m1 le k = record { dead = λ a lt d. k.dead a (omega arith) d; same = λ a lt d. k.same a (omega arith) d; unset = λ a lt u. k.unset a (omega arith) u }

pub holds_up : (top top1 : ℕ) (cells : List Cell) (m : List ℕ) → top ≤ top1 → Holds top cells m → Holds top1 cells m
holds_up top top1 cells m le h = record { agrees = h.agrees; above = λ a ge. h.above a (omega arith); whole = h.whole; spans = h.spans }

-- a value is stored in a dead cell
pub holds_held : (top a v : ℕ) (cells : List Cell) (m : List ℕ) → Holds top cells m → cell_at cells a ≡ Dead → Holds top cells (slice_set m a v)
holds_held top a v cells m h d = record {
  agrees = λ n w e. ⊎_elim (λ ne. get_or-set_other m a n v 0 ne ∙ h.agrees n w e)
      (λ eq. let never : Dead ≡ Set w = sym d ∙ ap (λ k. cell_at cells k) (sym eq) ∙ e in cc) (differ n a);
  above = h.above;
  whole = length-set m a v ∙ h.whole;
  spans = h.spans;
}

pub keeps_held : (top a v : ℕ) (cells : List Cell) (m : List ℕ) → top ≤ a → Keeps top cells m cells (slice_set m a v)
keeps_held top a v cells m le = record { dead = λ n lt d. d; same = λ n lt d. get_or-set_other m a n v 0 (λ e. omega arith); unset = λ n lt u. (u, get_or-set_other m a n v 0 (λ e. omega arith)) }

-- code stays where it is
words_kept : (top c : ℕ) (ws : List ℕ) (c0 c1 : List Cell) (m0 m1 : List ℕ) → Keeps top c0 m0 c1 m1 → ((a : ℕ) → c ≤ a → a < c + length ws → cell_at c0 a ≡ Dead) → c + length ws ≤ top → HasWords m0 c ws → HasWords m1 c ws
words_kept top c [] c0 c1 m0 m1 k d le h = tt
words_kept top c (w ∷ ws) c0 c1 m0 m1 k d le h =
    (k.same c (omega arith) (d c (omega arith) (omega arith)) ∙ h.0, words_kept top (c + 1) ws c0 c1 m0 m1 k (λ a lo hi. d a (omega arith) (omega arith)) (omega arith) h.1)

pub code_kept : (address : ℕ → ℕ) (top c : ℕ) (items : List Item) (c0 c1 : List Cell) (m0 m1 : List ℕ) → ((i : Item) → length (words_of_item address i) ≡ size i) → Keeps top c0 m0 c1 m1 → IsCode address top c0 m0 c items → IsCode address top c1 m1 c items
code_kept address top c items c0 c1 m0 m1 sizes k code = record {
  has = all c items code.dead code.below code.has;
  dead = λ a lo hi. k.dead a (omega (arith, code.below)) (code.dead a lo hi);
  below = code.below;
  fits = code.fits;
} where
  all : (c : ℕ) (items : List Item) → ((a : ℕ) → c ≤ a → a < c + words items → cell_at c0 a ≡ Dead) → c + words items ≤ top → HasItems address m0 c items → HasItems address m1 c items
  all c [] d le h = tt
  all c (i ∷ is) d le h = (
    words_kept top c (words_of_item address i) c0 c1 m0 m1 k (λ a lo hi. d a lo (omega (arith, sizes i))) (omega (arith, sizes i)) h.0,
    h.1,
    all (c + size i) is (λ a lo hi. d a (omega arith) (omega arith)) (omega arith) h.2,
  )
