-- Which cells are live after some cells were opened, closed or written.
use Rattle.std.proofs.Common.{◌≡◌, ◌≢◌, ◌⊎◌, inl, inr, ⊎_elim, ℕ, zero, suc, ◌+◌, ◌<◌, ◌≤◌, List, [], ◌∷◌, length, true, false, refl, sym, ap, ◌∙◌, subst, arith}
use Rattle.std.proofs.lemmas.Bool.{cases_lt}
use Rattle.std.proofs.lemmas.List.{get_or-set_same, get_or-set_other, length-set}
use Rattle.std.proofs.Math.ListN.{get_or-eq_default}
use Rattle.std.specs.Prelude.{slice_set}
use Rattle.bc_core.specs.Store.{Cell, Dead, Unset, Set, cell_at, filled, closed}
use Rattle.bc_core.specs.Meaning.{passed}
use Rattle.bc_core.specs.Laws.{is_live, SameLive, DeadFrom}

-- outside the cells from a to a + n
abbrev pub Outside : ℕ → ℕ → ℕ → Type 0
Outside n a b = (b < a) ⊎ (a + n ≤ b)

outside_rest : (n a b : ℕ) → Outside (suc n) a b → Outside n (a + 1) b
outside_rest n a b (inl h) = inl (omega arith)
outside_rest n a b (inr h) = inr (omega arith)

not_first : (n a b : ℕ) → Outside (suc n) a b → b ≢ a
not_first n a b (inl h) e = omega arith
not_first n a b (inr h) e = omega arith

pub filled_outside : (n a : ℕ) (cell : Cell) (cells : List Cell) (b : ℕ) → Outside n a b → cell_at (filled n a cell cells) b ≡ cell_at cells b
filled_outside zero a cell cells b h = refl
filled_outside (suc n) a cell cells b h =
    filled_outside n (a + 1) cell (slice_set cells a cell) b (outside_rest n a b h) ∙ get_or-set_other cells a b cell Dead (not_first n a b h)

-- a cell isn't live after it was closed
set_dead : (cells : List Cell) (a : ℕ) → cell_at (slice_set cells a Dead) a ≡ Dead
set_dead cells a =
    ⊎_elim (λ lt. get_or-set_same cells a Dead Dead lt)
    (λ ge. get_or-eq_default (slice_set cells a Dead) Dead (subst (λ k. k ≤ a) (sym (length-set cells a Dead)) ge)) (cases_lt a (length cells))

pub closed_inside : (n a : ℕ) (cells : List Cell) (b : ℕ) → a ≤ b → b < a + n → cell_at (closed n a cells) b ≡ Dead
closed_inside zero a cells b h k = absurd (omega arith)
closed_inside (suc n) a cells b h k =
    ⊎_elim (λ later. closed_inside n (a + 1) (slice_set cells a Dead) b (omega arith) (omega arith))
    (λ first. let here : b ≡ a = omega arith in
    filled_outside n (a + 1) Dead (slice_set cells a Dead) b (inl (omega arith)) ∙ ap (λ k. cell_at (slice_set cells a Dead) k) here ∙ set_dead cells a) (cases_lt a b)

pub passed_outside : (n a : ℕ) (vs : List ℕ) (cells : List Cell) (b : ℕ) → Outside n a b → cell_at (passed n a vs cells) b ≡ cell_at cells b
passed_outside zero a vs cells b h = refl
passed_outside (suc n) a [] cells b h =
    passed_outside n (a + 1) [] (slice_set cells a Unset) b (outside_rest n a b h) ∙ get_or-set_other cells a b Unset Dead (not_first n a b h)
passed_outside (suc n) a (v ∷ vs) cells b h =
    passed_outside n (a + 1) vs (slice_set cells a (Set v)) b (outside_rest n a b h) ∙ get_or-set_other cells a b (Set v) Dead (not_first n a b h)

pub live_then : (c0 c1 c2 : List Cell) → SameLive c0 c1 → SameLive c1 c2 → SameLive c0 c2
live_then c0 c1 c2 h k a = k a ∙ h a

pub dead_then : (top : ℕ) (c0 c1 : List Cell) → SameLive c0 c1 → DeadFrom top c0 → DeadFrom top c1
dead_then top c0 c1 h d a le = h a ∙ d a le

-- cells are opened above all live ones, a run keeps what is live, and the cells are given back
pub given_back : (n top a : ℕ) (c0 c1 c2 : List Cell) → top ≤ a → ((b : ℕ) → Outside n a b → cell_at c1 b ≡ cell_at c0 b) → DeadFrom top c0 → SameLive c1 c2 → SameLive c0 (closed n a c2)
given_back n top a c0 c1 c2 le same dead keeps b =
    ⊎_elim (λ before. outside (inl before))
    (λ from. ⊎_elim (λ inside. ap is_live (closed_inside n a c2 b from inside) ∙ sym (dead b (omega arith))) (λ following. outside (inr following)) (cases_lt b (a + n)))
    (cases_lt b a) where
      outside : Outside n a b → is_live (cell_at (closed n a c2) b) ≡ is_live (cell_at c0 b)
      outside h = ap is_live (filled_outside n a Dead c2 b h) ∙ keeps b ∙ ap is_live (same b h)

-- no cell above them is live during this
pub dead_above : (n top a : ℕ) (c0 c1 : List Cell) → top ≤ a → ((b : ℕ) → Outside n a b → cell_at c1 b ≡ cell_at c0 b) → DeadFrom top c0 → DeadFrom (a + n) c1
dead_above n top a c0 c1 le same dead b h = ap is_live (same b (inr h)) ∙ dead b (omega arith)

-- a live cell receives a word
pub set_live : (cells : List Cell) (a w : ℕ) → is_live (cell_at cells a) ≡ true → SameLive cells (slice_set cells a (Set w))
set_live cells a w live b =
    ⊎_elim (λ ne. ap is_live (get_or-set_other cells a b (Set w) Dead ne)) (λ here. at_a here) (differ b a) where
      within : a < length cells
      within = ⊎_elim (λ lt. lt) (λ ge. absurd (never (get_or-eq_default cells Dead ge))) (cases_lt a (length cells)) where
        never : cell_at cells a ≡ Dead → ⊥
        never e = let f : false ≡ true = ap is_live (sym e) ∙ live in cc

      at_a : b ≡ a → is_live (cell_at (slice_set cells a (Set w)) b) ≡ is_live (cell_at cells b)
      at_a here =
          ap (λ k. is_live (cell_at (slice_set cells a (Set w)) k)) here ∙ ap is_live (get_or-set_same cells a (Set w) Dead within)
          ∙ sym live ∙ ap (λ k. is_live (cell_at cells k)) (sym here)

      differ : (n k : ℕ) → (n ≢ k) ⊎ (n ≡ k)
      differ n k = ⊎_elim (λ lt. inl (λ e. omega arith)) (λ ge. ⊎_elim (λ lt. inl (λ e. omega arith)) (λ le. inr (omega arith)) (cases_lt k n)) (cases_lt n k)
