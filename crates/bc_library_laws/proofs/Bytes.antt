-- What GETBYTE and PUTBYTE do.
use Rattle.std.proofs.Common.{◌≡◌, ◌≢◌, inl, ⊎_elim, ℕ, suc, ◌+◌, ◌*◌, ◌/◌, ◌%◌, ◌<◌, ◌≤◌, List, [], ◌∷◌, length, true, refl, sym, ap, ◌∙◌, arith}
use Rattle.std.proofs.lemmas.Bool.{cases_lt}
use Rattle.std.proofs.lemmas.List.{get_or-set_same, get_or-set_other, length-set, set-set}
use Rattle.std.proofs.lemmas.Nat.{and_mask, or_comm, or_shifted}
use Rattle.std.proofs.lemmas.Nat.Bits.{and_high_mask}
use Rattle.std.specs.Prelude.{slice_set, nat_le, bit_and, bit_or}
use Rattle.bc_machine_defs.specs.Streams.{Content}
use Rattle.bc_core.specs.Map.{Placed}
use Rattle.bc_core.specs.Store.{Cell, Dead, Unset, Set, cell_at, closed}
use Rattle.bc_core.specs.Outcome.{Done}
use Rattle.bc_core.specs.Laws.{is_live}
use Rattle.bc_core.specs.Meaning.{calls, passed}
use Rattle.bc_core.proofs.Liveness.{Outside, closed_inside, passed_outside}
use Rattle.bc_library_laws.specs.Laws.{state, Ready, byte_in, with_byte}
use Rattle.bc_library_laws.proofs.Steps.{Has, low, fits_true, frame_back, passed_length, same_after, differ, dead_cell, filled_length}

one_bit : (i : ℕ) → bit_and i 1 ≡ i % 2
one_bit i = and_mask i 1

low_byte : (w : ℕ) → bit_and w 255 ≡ w % 256
low_byte w = and_mask w 8

pub get_byte_does : (program : List Placed) (address : ℕ → ℕ) → Has program address
    → (cells : List Cell) (streams : Content) (f n t s i w : ℕ) → Ready address cells f 8 → cell_at cells ((s + i / 2) % 65536) ≡ Set w
    → calls program (suc n) (address 1) (s ∷ i ∷ []) f (state cells streams (suc t)) ≡ Done (byte_in i w) (state cells streams t)
get_byte_does program address h cells streams f n t s i w r e = ⊎_elim even odd (cases_lt (i % 2) 1) where
  frame : List Cell
  frame = slice_set (slice_set cells (f + 2) (Set s)) (f + 2 + 1) (Set i)

  fits : nat_le (f + 8) 65536 ≡ true
  fits = fits_true _ _ (omega (arith, r.room))

  s_is : cell_at (slice_set (slice_set cells (f + 2) (Set s)) (f + 2 + 1) (Set i)) ((f + 2) % 65536) ≡ Set s
  s_is =
      let here : (f + 2) % 65536 ≡ f + 2 = omega (arith, r.room) in
      rw here (get_or-set_other (slice_set cells (f + 2) (Set s)) (f + 2 + 1) (f + 2) (Set i) Dead (λ same. omega arith) ∙ get_or-set_same cells (f + 2) (Set s) Dead (omega (arith, r.whole, r.room)))

  i_is : cell_at (slice_set (slice_set cells (f + 2) (Set s)) (f + 2 + 1) (Set i)) ((f + 3) % 65536) ≡ Set i
  i_is =
      let here : (f + 3) % 65536 ≡ f + 2 + 1 = omega (arith, r.room) in
      rw here (get_or-set_same (slice_set cells (f + 2) (Set s)) (f + 2 + 1) (Set i) Dead (omega (arith, length-set cells (f + 2) (Set s), r.whole, r.room)))

  word_is : cell_at (slice_set (slice_set cells (f + 2) (Set s)) (f + 2 + 1) (Set i)) ((s + i / 2) % 65536) ≡ Set w
  word_is =
      let lt = low f ((s + i / 2) % 65536) w cells r.free e in
      get_or-set_other (slice_set cells (f + 2) (Set s)) (f + 2 + 1) ((s + i / 2) % 65536) (Set i) Dead (λ same. omega (arith, lt, same))
      ∙ get_or-set_other cells (f + 2) ((s + i / 2) % 65536) (Set s) Dead (λ same. omega (arith, lt, same)) ∙ e

  given : slice_set (slice_set (slice_set (slice_set cells (f + 2) (Set s)) (f + 2 + 1) (Set i)) (f + 2) Dead) (f + 2 + 1) Dead ≡ cells
  given = frame_back 2 f (f + 2) (passed 2 (f + 2) (s ∷ i ∷ []) cells) cells r.free (omega arith) (passed_length 2 (f + 2) (s ∷ i ∷ []) cells) (λ b out. passed_outside 2 (f + 2) (s ∷ i ∷ []) cells b out)

  even : i % 2 < 1 → calls program (suc n) (address 1) (s ∷ i ∷ []) f (state cells streams (suc t)) ≡ Done (byte_in i w) (state cells streams t)
  even lt =
      let none : i % 2 ≡ 0 = omega arith in
      let bit : bit_and i 1 ≡ 0 = one_bit i ∙ none in
      rw (h.get_byte, fits, i_is, bit, s_is, i_is, word_is, given, none) refl

  odd : 1 ≤ i % 2 → calls program (suc n) (address 1) (s ∷ i ∷ []) f (state cells streams (suc t)) ≡ Done (byte_in i w) (state cells streams t)
  odd ge =
      let one : i % 2 ≡ 1 = omega arith in
      let bit : bit_and i 1 ≡ 1 = one_bit i ∙ one in
      rw (h.get_byte, fits, i_is, bit, s_is, i_is, word_is, low_byte w, given, one) refl

high_set : (w c : ℕ) → bit_or (bit_and w 255) ((c * 256) % 65536) ≡ (c % 256) * 256 + w % 256
high_set w c =
    let shifted : (c * 256) % 65536 ≡ (c % 256) * 256 = omega arith in
    rw (low_byte w, shifted, or_comm (w % 256) ((c % 256) * 256)) (or_shifted (c % 256) 8 (w % 256) (omega arith))

low_set : (w c : ℕ) → w < 65536 → bit_or (bit_and w 65280) (bit_and c 255) ≡ w / 256 * 256 + c % 256
low_set w c h =
    let high : bit_and w 65280 ≡ w / 256 * 256 = and_high_mask 16 8 (omega arith) w h in
    rw (low_byte c, high) (or_shifted (w / 256) 8 (c % 256) (omega arith))

-- the store in PUTBYTE's frame, without P
abbrev three : List Cell → (f s i c : ℕ) → List Cell
three cells f s i c = passed 3 (f + 2) (s ∷ i ∷ c ∷ []) cells

abbrev with_p : List Cell → (f s i c : ℕ) → List Cell
with_p cells f s i c = slice_set (three cells f s i c) (f + 5) (Set ((s + i / 2) % 65536))

pub put_byte_does : (program : List Placed) (address : ℕ → ℕ) → Has program address
    → (cells : List Cell) (streams : Content) (f n t s i c w : ℕ) → Ready address cells f 11 → w < 65536 → cell_at cells ((s + i / 2) % 65536) ≡ Set w
    → calls program (suc n) (address 2) (s ∷ i ∷ c ∷ []) f (state cells streams (suc t)) ≡ Done 0 (state (slice_set cells ((s + i / 2) % 65536) (Set (with_byte i (c % 256) w))) streams t)
put_byte_does program address h cells streams f n t s i c w r word e = ⊎_elim even odd (cases_lt (i % 2) 1) where
  below : (s + i / 2) % 65536 < f
  below = low f ((s + i / 2) % 65536) w cells r.free e

  fits : nat_le (f + 9) 65536 ≡ true
  fits = fits_true _ _ (omega (arith, r.room))

  sized : length (three cells f s i c) ≡ 65536
  sized = passed_length 3 (f + 2) (s ∷ i ∷ c ∷ []) cells ∙ r.whole

  s_in : cell_at (three cells f s i c) (f + 2) ≡ Set s
  s_in = get_or-set_other _ (f + 2 + 1 + 1) (f + 2) (Set c) Dead (λ same. omega arith) ∙ get_or-set_other _ (f + 2 + 1) (f + 2) (Set i) Dead (λ same. omega arith) ∙ get_or-set_same cells (f + 2) (Set s) Dead (omega (arith, r.whole, r.room))

  i_in : cell_at (three cells f s i c) (f + 3) ≡ Set i
  i_in =
      let there : f + 3 ≡ f + 2 + 1 = omega arith in
      rw there (get_or-set_other _ (f + 2 + 1 + 1) (f + 2 + 1) (Set c) Dead (λ same. omega arith) ∙ get_or-set_same _ (f + 2 + 1) (Set i) Dead (omega (arith, length-set cells (f + 2) (Set s), r.whole, r.room)))

  c_in : cell_at (three cells f s i c) (f + 4) ≡ Set c
  c_in =
      let there : f + 4 ≡ f + 2 + 1 + 1 = omega arith in
      rw there (get_or-set_same (slice_set (slice_set cells (f + 2) (Set s)) (f + 2 + 1) (Set i)) (f + 2 + 1 + 1) (Set c) Dead (omega (arith, length-set (slice_set cells (f + 2) (Set s)) (f + 2 + 1) (Set i), length-set cells (f + 2) (Set s), r.whole, r.room)))

  -- a parameter, before and after the variable is set
  before : (k v : ℕ) (x : Cell) → k < 5 → cell_at (three cells f s i c) (f + k) ≡ Set v → cell_at (slice_set (three cells f s i c) (f + 5) x) ((f + k) % 65536) ≡ Set v
  before k v x lt is =
      let here : (f + k) % 65536 ≡ f + k = omega (arith, r.room) in
      rw here (get_or-set_other (three cells f s i c) (f + 5) (f + k) x Dead (λ same. omega arith) ∙ is)

  unset : cell_at (slice_set (three cells f s i c) (f + 5) Unset) ((f + 5) % 65536) ≡ Unset
  unset =
      let here : (f + 5) % 65536 ≡ f + 5 = omega (arith, r.room) in
      rw here (get_or-set_same (three cells f s i c) (f + 5) Unset Dead (omega (arith, sized, r.room)))

  p_set : slice_set (slice_set (three cells f s i c) (f + 5) Unset) ((f + 5) % 65536) (Set ((s + i / 2) % 65536)) ≡ with_p cells f s i c
  p_set =
      let here : (f + 5) % 65536 ≡ f + 5 = omega (arith, r.room) in
      rw here (set-set (three cells f s i c) (f + 5) Unset (Set ((s + i / 2) % 65536)))

  p_is : cell_at (with_p cells f s i c) ((f + 5) % 65536) ≡ Set ((s + i / 2) % 65536)
  p_is =
      let here : (f + 5) % 65536 ≡ f + 5 = omega (arith, r.room) in
      rw here (get_or-set_same (three cells f s i c) (f + 5) (Set ((s + i / 2) % 65536)) Dead (omega (arith, sized, r.room)))

  word_is : cell_at (with_p cells f s i c) ((s + i / 2) % 65536) ≡ Set w
  word_is = get_or-set_other (three cells f s i c) (f + 5) ((s + i / 2) % 65536) _ Dead (λ same. omega (arith, below)) ∙ passed_outside 3 (f + 2) (s ∷ i ∷ c ∷ []) cells ((s + i / 2) % 65536) (inl (omega (arith, below))) ∙ e

  back : (k : Cell) → closed 3 (f + 2) (closed 1 (f + 5) (slice_set (with_p cells f s i c) ((s + i / 2) % 65536) k)) ≡ slice_set cells ((s + i / 2) % 65536) k
  back k = frame_back 3 f (f + 2) (closed 1 (f + 5) (slice_set (with_p cells f s i c) ((s + i / 2) % 65536) k)) (slice_set cells ((s + i / 2) % 65536) k)
      (λ b up. ap is_live (get_or-set_other cells ((s + i / 2) % 65536) b k Dead (λ same. omega (arith, below))) ∙ r.free b up) (omega arith)
      (filled_length 1 (f + 5) Dead _ ∙ length-set (with_p cells f s i c) ((s + i / 2) % 65536) k ∙ length-set (three cells f s i c) (f + 5) _ ∙ passed_length 3 (f + 2) (s ∷ i ∷ c ∷ []) cells ∙ sym (length-set cells ((s + i / 2) % 65536) k))
      (λ b out. ⊎_elim (λ ne. elsewhere b out ne) (λ at. here b at) (differ b (f + 5))) where
        here : (b : ℕ) → b ≡ f + 5 → cell_at (closed 1 (f + 5) (slice_set (with_p cells f s i c) ((s + i / 2) % 65536) k)) b ≡ cell_at (slice_set cells ((s + i / 2) % 65536) k) b
        here b at = closed_inside 1 (f + 5) (slice_set (with_p cells f s i c) ((s + i / 2) % 65536) k) b (omega arith) (omega arith)
            ∙ sym (get_or-set_other cells ((s + i / 2) % 65536) b k Dead (λ same. omega (arith, below)) ∙ dead_cell _ (r.free b (omega arith)))

        elsewhere : (b : ℕ) → Outside 3 (f + 2) b → b ≢ f + 5 → cell_at (closed 1 (f + 5) (slice_set (with_p cells f s i c) ((s + i / 2) % 65536) k)) b ≡ cell_at (slice_set cells ((s + i / 2) % 65536) k) b
        elsewhere b out ne = get_or-set_other (slice_set (with_p cells f s i c) ((s + i / 2) % 65536) k) (f + 5) b Dead Dead ne
            ∙ same_after (with_p cells f s i c) cells ((s + i / 2) % 65536) b k (length-set (three cells f s i c) (f + 5) _ ∙ passed_length 3 (f + 2) (s ∷ i ∷ c ∷ []) cells)
            (get_or-set_other (three cells f s i c) (f + 5) b _ Dead ne ∙ passed_outside 3 (f + 2) (s ∷ i ∷ c ∷ []) cells b out)

  even : i % 2 < 1 → calls program (suc n) (address 2) (s ∷ i ∷ c ∷ []) f (state cells streams (suc t)) ≡ Done 0 (state (slice_set cells ((s + i / 2) % 65536) (Set (with_byte i (c % 256) w))) streams t)
  even lt =
      let none : i % 2 ≡ 0 = omega arith in
      let bit : bit_and i 1 ≡ 0 = one_bit i ∙ none in
      rw (h.put_byte, fits, before 2 s Unset (omega arith) s_in, before 3 i Unset (omega arith) i_in, unset, p_set, before 3 i _ (omega arith) i_in, bit, p_is, word_is, before 4 c _ (omega arith) c_in, p_is, word_is, high_set w c, back, none) refl

  odd : 1 ≤ i % 2 → calls program (suc n) (address 2) (s ∷ i ∷ c ∷ []) f (state cells streams (suc t)) ≡ Done 0 (state (slice_set cells ((s + i / 2) % 65536) (Set (with_byte i (c % 256) w))) streams t)
  odd ge =
      let one : i % 2 ≡ 1 = omega arith in
      let bit : bit_and i 1 ≡ 1 = one_bit i ∙ one in
      rw (h.put_byte, fits, before 2 s Unset (omega arith) s_in, before 3 i Unset (omega arith) i_in, unset, p_set, before 3 i _ (omega arith) i_in, bit, p_is, word_is, before 4 c _ (omega arith) c_in, p_is, word_is, low_set w c word, back, one) refl
