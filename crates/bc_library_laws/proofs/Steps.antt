-- Calls in a store that is known only by equations: frames are opened and given back, cells are read and written.
use Rattle.std.proofs.Common.{◌≡◌, ◌≢◌, ◌⊎◌, inl, inr, ⊎_elim, ℕ, zero, suc, ◌+◌, ◌<◌, ◌≤◌, ◌%◌, List, [], ◌∷◌, length, true, false, Some, refl, sym, ap, ◌∙◌, arith}
use Rattle.std.proofs.lemmas.Bool.{cases_lt}
use Rattle.std.proofs.lemmas.List.{get_or-set_same, get_or-set_other, length-set, set-set, set-get_or, ext_get_or}
use Rattle.std.proofs.Math.ListN.{get_or-eq_default}
use Rattle.std.specs.Prelude.{slice_set, nat_le}
use Rattle.bc_machine_defs.specs.Streams.{Content}
use Rattle.bc_machine_defs.specs.StreamCalls.{after_write}
use Rattle.bc_core.specs.Map.{Placed}
use Rattle.bc_core.specs.Store.{Cell, Dead, Unset, Set, cell_at, filled, closed}
use Rattle.bc_core.proofs.Liveness.{Outside, filled_outside, closed_inside}
use Rattle.bc_core.specs.Outcome.{Done}
use Rattle.bc_core.specs.Primitive.{WriteByte, primitive_work}
use Rattle.bc_core.specs.Laws.{DeadFrom, is_live}
use Rattle.bc_core.specs.Meaning.{Entered, passed, OfSection, OfLibrary, calls, entered_at, entered_of}
use Rattle.bc_library_laws.specs.Library.{library, newline, get_byte, put_byte, write_s, write_n, write_f}
use Rattle.bc_library_laws.specs.Laws.{state, Ready}

-- what is not live is dead
pub dead_cell : (c : Cell) → is_live c ≡ false → c ≡ Dead
dead_cell Dead e = refl
dead_cell Unset e = cc
dead_cell (Set w) e = cc

-- a cell that was opened and given back is as it was
pub given_back : (cells : List Cell) (a : ℕ) (k : Cell) → cell_at cells a ≡ Dead → slice_set (slice_set cells a k) a Dead ≡ cells
given_back cells a k e = set-set cells a k Dead ∙ ap (λ d. slice_set cells a d) (sym e) ∙ set-get_or cells a Dead

pub fits_true : (a b : ℕ) → a ≤ b → nat_le a b ≡ true
fits_true a b h = grind arith

pub write_byte_entered : Entered
write_byte_entered = record { parameters = 1; frame = 3; body = λ call f. primitive_work WriteByte f }

pub wrch : (program : List Placed) → entered_at program 530 ≡ Some (record { parameters = 1; frame = 3; body = λ call f. primitive_work WriteByte f })
    → (cells : List Cell) (streams : Content) (f n t v : ℕ) → length cells ≡ 65536 → DeadFrom f cells → f + 3 ≤ 65536
    → calls program (suc n) 530 (v ∷ []) f (state cells streams (suc t)) ≡ Done 0 (state cells (after_write (v % 256) streams) t)
wrch program known cells streams f n t v whole free room =
    let fits : nat_le (f + 3) 65536 ≡ true = fits_true _ _ room in
    let within : f + 2 < length cells = omega (arith, whole, room) in
    let back : cell_at (slice_set cells (f + 2) (Set v)) (f + 2) ≡ Set v = get_or-set_same cells (f + 2) (Set v) Dead within in
    let dead : cell_at cells (f + 2) ≡ Dead = dead_cell _ (free (f + 2) (omega arith)) in
    let given : slice_set (slice_set cells (f + 2) (Set v)) (f + 2) Dead ≡ cells = given_back cells (f + 2) (Set v) dead in
    rw (known, fits, back, given) refl

-- the routines of the library, as a program has them
pub record Has (program : List Placed) (address : ℕ → ℕ) : Type 0 where
  pub wrch : entered_at program 530 ≡ entered_of (Some (OfLibrary WriteByte))
  pub newline : entered_at program (address 4) ≡ entered_of (Some (OfSection (record { core = library; address = address }) newline))
  pub get_byte : entered_at program (address 1) ≡ entered_of (Some (OfSection (record { core = library; address = address }) get_byte))
  pub put_byte : entered_at program (address 2) ≡ entered_of (Some (OfSection (record { core = library; address = address }) put_byte))
  pub write_f : entered_at program (address 6) ≡ entered_of (Some (OfSection (record { core = library; address = address }) write_f))
  pub write_s : entered_at program (address 3) ≡ entered_of (Some (OfSection (record { core = library; address = address }) write_s))
  pub write_n : entered_at program (address 5) ≡ entered_of (Some (OfSection (record { core = library; address = address }) write_n))

pub higher : (f g : ℕ) (cells : List Cell) → f ≤ g → DeadFrom f cells → DeadFrom g cells
higher f g cells le free a up = free a (omega arith)

pub low : (f a w : ℕ) (cells : List Cell) → DeadFrom f cells → cell_at cells a ≡ Set w → a < f
low f a w cells free e =
    ⊎_elim (λ lt. lt) (λ ge. let k : false ≡ true = sym (free a ge) ∙ ap is_live e in absurd (let z : ⊥ = cc in z)) (cases_lt a f)

-- a cell below the frame is as it was
pub kept : (f a b w : ℕ) (k : Cell) (cells : List Cell) → DeadFrom f cells → f ≤ b → cell_at cells a ≡ Set w → cell_at (slice_set cells b k) a ≡ Set w
kept f a b w k cells free up e =
    let lt = low f a w cells free e in
    get_or-set_other cells b a k Dead (λ same. omega (arith, lt, same, up)) ∙ e

still_free : (f g b : ℕ) (k : Cell) (cells : List Cell) → DeadFrom f cells → f ≤ g → b < g → DeadFrom g (slice_set cells b k)
still_free f g b k cells free up lt a le = ap is_live (get_or-set_other cells b a k Dead (λ same. omega arith)) ∙ free a (omega arith)

-- in the frame of a routine with one parameter
pub inner : (address : ℕ → ℕ) (cells : List Cell) (f g most : ℕ) (k : Cell) → Ready address cells f (3 + most) → g ≡ f + 3 → Ready address (slice_set cells (f + 2) k) g most
inner address cells f g most k r same =
    let up : f ≤ f + 2 = omega arith in
    record {
      whole = length-set cells (f + 2) k ∙ r.whole;
      free = still_free f g (f + 2) k cells r.free (omega arith) (omega arith);
      room = omega (arith, r.room, same);
      write_char = kept f 22 (f + 2) 530 k cells r.free up r.write_char;
      get_byte = kept f 28 (f + 2) (address 1) k cells r.free up r.get_byte;
      write_s = kept f 30 (f + 2) (address 3) k cells r.free up r.write_s;
      write_n = kept f 31 (f + 2) (address 5) k cells r.free up r.write_n;
    }

pub less_room : (address : ℕ → ℕ) (cells : List Cell) (f most less : ℕ) → less ≤ most → Ready address cells f most → Ready address cells f less
less_room address cells f most less le r = record {
  whole = r.whole;
  free = r.free;
  room = omega (arith, r.room);
  write_char = r.write_char;
  get_byte = r.get_byte;
  write_s = r.write_s;
  write_n = r.write_n;
}

pub newline_does : (program : List Placed) (address : ℕ → ℕ) → Has program address
    → (cells : List Cell) (streams : Content) (f n t : ℕ) → Ready address cells f 8
    → calls program (suc (suc n)) (address 4) [] f (state cells streams (suc (suc t))) ≡ Done 0 (state cells (after_write 10 streams) t)
newline_does program address h cells streams f n t r =
    let fits : nat_le (f + 5) 65536 ≡ true = fits_true _ _ (omega (arith, r.room)) in
    let write = wrch program h.wrch cells streams (f + 2) n t 10 r.whole (higher f (f + 2) cells (omega arith) r.free) (omega (arith, r.room)) in
    rw (h.newline, fits, r.write_char, write) refl

pub filled_length : (n a : ℕ) (k : Cell) (cells : List Cell) → length (filled n a k cells) ≡ length cells
filled_length zero a k cells = refl
filled_length (suc n) a k cells = filled_length n (a + 1) k (slice_set cells a k) ∙ length-set cells a k

pub passed_length : (n a : ℕ) (vs : List ℕ) (cells : List Cell) → length (passed n a vs cells) ≡ length cells
passed_length zero a vs cells = refl
passed_length (suc n) a [] cells = passed_length n (a + 1) [] (slice_set cells a Unset) ∙ length-set cells a Unset
passed_length (suc n) a (v ∷ vs) cells = passed_length n (a + 1) vs (slice_set cells a (Set v)) ∙ length-set cells a (Set v)

-- a store that differs only in n cells from a on, which weren't live, is the old one once they are given back
pub frame_back : (n f a : ℕ) (c cells : List Cell) → DeadFrom f cells → f ≤ a → length c ≡ length cells
    → ((b : ℕ) → Outside n a b → cell_at c b ≡ cell_at cells b) → closed n a c ≡ cells
frame_back n f a c cells free up size same =
    ext_get_or Dead (closed n a c) cells (filled_length n a Dead c ∙ size) (λ b lt. at b) where
      at : (b : ℕ) → cell_at (closed n a c) b ≡ cell_at cells b
      at b = ⊎_elim (λ before. filled_outside n a Dead c b (inl before) ∙ same b (inl before))
          (λ from. ⊎_elim (λ inside. closed_inside n a c b from inside ∙ sym (dead_cell _ (free b (omega arith))))
          (λ following. filled_outside n a Dead c b (inr following) ∙ same b (inr following)) (cases_lt b (a + n))) (cases_lt b a)

-- the store is ready for a higher frame too, after one more cell was set
pub grown : (address : ℕ → ℕ) (cells : List Cell) (f g b most less : ℕ) (k : Cell) → Ready address cells f most → f ≤ b → b < g → g + less ≤ f + most → Ready address (slice_set cells b k) g less
grown address cells f g b most less k r up lt room = record {
  whole = length-set cells b k ∙ r.whole;
  free = still_free f g b k cells r.free (omega arith) lt;
  room = omega (arith, r.room, room);
  write_char = kept f 22 b 530 k cells r.free up r.write_char;
  get_byte = kept f 28 b (address 1) k cells r.free up r.get_byte;
  write_s = kept f 30 b (address 3) k cells r.free up r.write_s;
  write_n = kept f 31 b (address 5) k cells r.free up r.write_n;
}

-- a written cell, and another
pub written_same : (cells : List Cell) (a w : ℕ) (k : Cell) → cell_at cells a ≡ Set w → cell_at (slice_set cells a k) a ≡ k
written_same cells a w k e = get_or-set_same cells a k Dead (⊎_elim (λ lt. lt) (λ ge. absurd (let f : Dead ≡ Set w = sym (get_or-eq_default cells Dead ge) ∙ e in let z : ⊥ = cc in z)) (cases_lt a (length cells)))

pub differ : (n k : ℕ) → (n ≢ k) ⊎ (n ≡ k)
differ n k = ⊎_elim (λ lt. inl (λ e. omega arith)) (λ ge. ⊎_elim (λ lt. inl (λ e. omega arith)) (λ le. inr (omega arith)) (cases_lt k n)) (cases_lt n k)

-- equal stores remain equal after the same write to both
pub same_after : (c cells : List Cell) (a b : ℕ) (k : Cell) → length c ≡ length cells → cell_at c b ≡ cell_at cells b → cell_at (slice_set c a k) b ≡ cell_at (slice_set cells a k) b
same_after c cells a b k size e = ⊎_elim
    (λ ne. get_or-set_other c a b k Dead ne ∙ e ∙ sym (get_or-set_other cells a b k Dead ne))
    (λ here. ⊎_elim
    (λ lt. ap (λ z. cell_at (slice_set c a k) z) here ∙ get_or-set_same c a k Dead (omega (arith, size)) ∙ sym (get_or-set_same cells a k Dead lt) ∙ ap (λ z. cell_at (slice_set cells a k) z) (sym here))
    (λ ge. get_or-eq_default (slice_set c a k) Dead (omega (arith, length-set c a k, size)) ∙ sym (get_or-eq_default (slice_set cells a k) Dead (omega (arith, length-set cells a k))))
    (cases_lt a (length cells))) (differ b a)
