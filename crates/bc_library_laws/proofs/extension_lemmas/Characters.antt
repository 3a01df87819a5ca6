-- What KEPT, the primitive RDCH, and EXTLIB's RDCH do.
use Rattle.std.proofs.Common.{◌≡◌, ◌≢◌, ◌⊎◌, ⊎_elim, ℕ, suc, ◌+◌, ◌-◌, ◌*◌, ◌%◌, ◌<◌, ◌≤◌, ◌==◌, List, [], ◌∷◌, length, true, false, Some, refl, sym, ap, ◌∙◌, arith}
use Rattle.std.proofs.lemmas.Bool.{cases_lt}
use Rattle.std.proofs.lemmas.List.{get_or-set_same, get_or-set_other, length-set}
use Rattle.std.specs.Prelude.{slice_set, nat_le, int_lt, ◌*ℤ◌, negsuc}
use Rattle.bc_word.specs.Words.{signed, wrapped}
use Rattle.bc_machine_defs.specs.Streams.{Content}
use Rattle.bc_machine_defs.specs.StreamCalls.{after_read}
use Rattle.bc_core.specs.Commands.{Core}
use Rattle.bc_core.specs.Map.{Placed, IsMap, placed, Range, range}
use Rattle.bc_core.specs.Store.{Cell, Dead, Unset, Set, cell_at, closed}
use Rattle.bc_core.specs.Outcome.{Done}
use Rattle.bc_core.specs.Primitive.{ReadByte}
use Rattle.bc_core.specs.Laws.{DeadFrom, is_live}
use Rattle.bc_core.specs.Meaning.{OfLibrary, calls, entered_at, entered_of}
use Rattle.bc_library_laws.specs.Library.{library}
use Rattle.bc_library_laws.specs.Laws.{state}
use Rattle.bc_library_laws.proofs.Words.{is_negative}
use Rattle.bc_library_laws.proofs.Steps.{dead_cell, fits_true, given_back, low}
use Rattle.bc_library_laws.proofs.Finding.{primitive_found}
use Rattle.bc_library_laws.specs.extension.Extension.{extension}
use Rattle.bc_library_laws.specs.extension.Laws.{Able, laid}
use Rattle.bc_library_laws.specs.extension.Reading.{IsSelected, HasPrimitive, last_at, next_of, RdchGivesTheNextByte, RdchGivesACharacterOnceMore, RdchKeepsNothingOfOthers}
use Rattle.bc_library_laws.proofs.extension_lemmas.Tests.{yes_lt, no_lt, unlike_test}
use Rattle.bc_library_laws.proofs.extension_lemmas.Octal.{product}
use Rattle.bc_library_laws.proofs.extension_lemmas.Frames.{laid_below, reads, writes, opens, set_before, set_below, laid_back, laid_close, able_after, live_below, writes_live, free_after}
use Rattle.bc_library_laws.proofs.extension_lemmas.Finding.{HasFurther, has_further}

-- where a map has INPUTNOW and KEPT's table, and the primitive
pub record HasReading (program : List Placed) (further : ℕ → ℕ) : Type 0 where
  pub number_high : 520 ≤ further 1
  pub high : 520 ≤ further 7
  pub apart : (further 1 + 1 ≤ further 7) ⊎ (further 7 + 128 ≤ further 1)
  pub primitive : entered_at program 528 ≡ entered_of (Some (OfLibrary ReadByte))

pub has_reading : (cores : List Core) (address further : ℕ → ℕ) (places : List (ℕ → ℕ)) (base : ℕ)
    → IsMap (library ∷ extension ∷ cores) (record { places = address ∷ further ∷ places; stack_base = base })
    → HasReading (placed (library ∷ extension ∷ cores) (address ∷ further ∷ places)) further
unfolding extension
has_reading cores address further places base m =
    let d : Range = range 0 0 in
    record {
      number_high = (m.inside 7 d (omega arith)).0;
      high = (m.inside 13 d (omega arith)).0;
      apart = m.apart.1.1.1.1.1.1.1.0 5 d (omega arith);
      primitive = ap entered_of (primitive_found 528 (omega arith) (omega arith) (placed (library ∷ extension ∷ cores) (address ∷ further ∷ places)) m.apart.0);
    }

-- the primitive
pub primitive_does : (P : List Placed) → entered_at P 528 ≡ entered_of (Some (OfLibrary ReadByte))
    → (cells : List Cell) (streams : Content) (f n t : ℕ) → length cells ≡ 65536 → DeadFrom f cells → f + 3 ≤ 65536
    → calls P (suc n) 528 [] f (state cells streams (suc t)) ≡ Done (next_of streams) (state cells (after_read streams) t)
primitive_does P known cells streams f n t whole free room =
    let fits : nat_le (f + 3) 65536 ≡ true = fits_true _ _ room in
    let dead : cell_at cells (f + 2) ≡ Dead = dead_cell _ (free (f + 2) (omega arith)) in
    let given : slice_set (slice_set cells (f + 2) Unset) (f + 2) Dead ≡ cells = given_back cells (f + 2) Unset dead in
    rw (known, fits, given) refl

-- KEPT of a number from 1 to 31
pub kept_does : (P : List Placed) (address further : ℕ → ℕ) → (e : HasFurther P further) → (cells : List Cell) (streams : Content) (f n t i : ℕ) → Able address further cells f 7
    → 1 ≤ i → i ≤ 31 → last_at further i < 65536
    → calls P (suc n) (further 6) (i ∷ []) f (state cells streams (suc t)) ≡ Done (last_at further i) (state cells streams t)
kept_does P address further e cells streams f n t i able from to within =
    let room : f + 7 ≤ 65536 = able.ready.room in
    let fits : nat_le (f + 7) 65536 ≡ true = fits_true _ _ room in
    let opened : slice_set (laid (f + 2) (Set i ∷ []) cells) (f + 3) Unset ≡ laid (f + 2) (Set i ∷ Unset ∷ []) cells = opens (f + 2) (f + 3) (Set i ∷ []) cells (omega arith) in
    let table_new : cell_at (laid (f + 2) (Set i ∷ Unset ∷ []) cells) ((f + 3) % 65536) ≡ Unset =
    reads f 3 (Set i ∷ Unset ∷ []) cells (omega arith) (omega arith) able.ready.whole (omega (arith, room)) in
    let table_set : slice_set (laid (f + 2) (Set i ∷ Unset ∷ []) cells) ((f + 3) % 65536) (Set (further 7)) ≡ laid (f + 2) (Set i ∷ Set (further 7) ∷ []) cells =
    writes f 3 (Set i ∷ Unset ∷ []) cells (Set (further 7)) (omega arith) (omega arith) (omega (arith, room)) in
    let i_is : cell_at (laid (f + 2) (Set i ∷ Set (further 7) ∷ []) cells) ((f + 2) % 65536) ≡ Set i =
    reads f 2 (Set i ∷ Set (further 7) ∷ []) cells (omega arith) (omega arith) able.ready.whole (omega (arith, room)) in
    let table_is : cell_at (laid (f + 2) (Set i ∷ Set (further 7) ∷ []) cells) ((f + 3) % 65536) ≡ Set (further 7) =
    reads f 3 (Set i ∷ Set (further 7) ∷ []) cells (omega arith) (omega arith) able.ready.whole (omega (arith, room)) in
    let not_under : int_lt (signed i) (signed 1) ≡ false = no_lt i 1 (omega (arith, to)) (omega arith) from in
    let not_over : int_lt (signed 31) (signed i) ≡ false = no_lt 31 i (omega arith) (omega (arith, to)) to in
    let four : wrapped (signed 4 *ℤ signed i) ≡ 4 * i = product 4 i (omega arith) (omega (arith, to)) (omega (arith, to)) in
    let there : (further 7 + 4 * i) % 65536 ≡ further 7 + 4 * i = omega (arith, within) in
    let closed3 : closed 1 (f + 3) (laid (f + 2) (Set i ∷ Set (further 7) ∷ []) cells) ≡ laid (f + 2) (Set i ∷ []) cells =
    laid_close (f + 2) (f + 3) 1 (Set i ∷ []) (Set (further 7) ∷ []) cells (λ q le. able.ready.free q (omega (arith, le))) (omega arith) refl in
    let closed2 : closed 1 (f + 2) (laid (f + 2) (Set i ∷ []) cells) ≡ cells =
    laid_back (f + 2) 1 (Set i ∷ []) cells (λ q le. able.ready.free q (omega (arith, le))) refl in
    rw (e.kept, fits, opened, table_new, table_set, i_is, not_under, i_is, not_over, table_is, i_is, four, there, closed3, closed2) refl

-- what is known of the words that RDCH uses, in a store in which the input i is selected
record Known (further : ℕ → ℕ) (cells : List Cell) (f i : ℕ) : Type 0 where
  last_low : last_at further i < f
  again_low : last_at further i + 1 < f
  not_nothing : (last_at further i == 0) ≡ false

known_of : (P : List Placed) (address further : ℕ → ℕ) → HasReading P further → (cells : List Cell) (f i again : ℕ) → DeadFrom f cells → IsSelected further cells i again → Known further cells f i
known_of P address further r cells f i again free s = record {
  last_low = live_below f (last_at further i) cells free s.last;
  again_low = low f (last_at further i + 1) again cells free s.flag;
  not_nothing = unlike_test (last_at further i) 0 (λ same. let h = r.high in omega (arith, same, h));
}

-- with the address p in the frame's first cell, after the word c was put at the address a below the frame
record After (cells : List Cell) (f p c a : ℕ) : Type 0 where
  p_is : cell_at (laid (f + 2) (Set p ∷ []) (slice_set cells a (Set c))) ((f + 2) % 65536) ≡ Set p
  word_is : cell_at (laid (f + 2) (Set p ∷ []) (slice_set cells a (Set c))) a ≡ Set c
  given : closed 1 (f + 2) (laid (f + 2) (Set p ∷ []) (slice_set cells a (Set c))) ≡ slice_set cells a (Set c)

after_of : (cells : List Cell) (f p c a : ℕ) → length cells ≡ 65536 → DeadFrom f cells → a < f → f + 10 ≤ 65536 → After cells f p c a
after_of cells f p c a whole free lt room = record {
  p_is = reads f 2 (Set p ∷ []) (slice_set cells a (Set c)) (omega arith) (omega arith) (length-set cells a (Set c) ∙ whole) (omega (arith, room));
  word_is = laid_below (f + 2) a (Set p ∷ []) (slice_set cells a (Set c)) (omega (arith, lt)) ∙ get_or-set_same cells a (Set c) Dead (omega (arith, lt, whole, room));
  given = laid_back (f + 2) 1 (Set p ∷ []) (slice_set cells a (Set c)) (λ q le. free_after f a c cells free lt q (omega (arith, le))) refl;
}

-- no character was taken back
pub rdch_does : (P : List Placed) (address further : ℕ → ℕ) → (e : HasFurther P further) → HasReading P further → (cells : List Cell) (streams : Content) (f n t i : ℕ) → Able address further cells f 10
    → IsSelected further cells i 0 → HasPrimitive cells
    → calls P (suc (suc n)) (further 8) [] f (state cells streams (suc (suc (suc t)))) ≡ Done (next_of streams) (state (slice_set cells (last_at further i) (Set (next_of streams))) (after_read streams) t)
rdch_does P address further e r cells streams f n t i able s primitive =
    let room : f + 10 ≤ 65536 = able.ready.room in
    let known = known_of P address further r cells f i 0 able.ready.free s in
    let fits : nat_le (f + 6) 65536 ≡ true = fits_true _ _ (omega (arith, room)) in
    let below : (a w : ℕ) (p : Cell) → cell_at cells a ≡ Set w → cell_at (laid (f + 2) (p ∷ []) cells) a ≡ Set w = λ a w p is. set_below f a w (p ∷ []) cells able.ready.free is in
    let up : (p : Cell) → Able address further (laid (f + 2) (p ∷ []) cells) (f + 3) 7 = λ p. able_after address further f (f + 3) 10 7 (p ∷ []) cells able (omega arith) (omega arith) in
    let kept = kept_does P address further e (laid (f + 2) (Unset ∷ []) cells) streams (f + 3) n (suc t) i (up Unset) s.low s.high (let h = known.last_low in omega (arith, h, room)) in
    let p_new : cell_at (laid (f + 2) (Unset ∷ []) cells) ((f + 2) % 65536) ≡ Unset = reads f 2 (Unset ∷ []) cells (omega arith) (omega arith) able.ready.whole (omega (arith, room)) in
    let p_set : slice_set (laid (f + 2) (Unset ∷ []) cells) ((f + 2) % 65536) (Set (last_at further i)) ≡ laid (f + 2) (Set (last_at further i) ∷ []) cells =
    writes f 2 (Unset ∷ []) cells (Set (last_at further i)) (omega arith) (omega arith) (omega (arith, room)) in
    let p_is : cell_at (laid (f + 2) (Set (last_at further i) ∷ []) cells) ((f + 2) % 65536) ≡ Set (last_at further i) =
    reads f 2 (Set (last_at further i) ∷ []) cells (omega arith) (omega arith) able.ready.whole (omega (arith, room)) in
    let next : (last_at further i + 1) % 65536 ≡ last_at further i + 1 = (let h = known.again_low in omega (arith, h, room)) in
    let again_is = below (last_at further i + 1) 0 (Set (last_at further i)) s.flag in
    let primitive_is = below 21 528 (Set (last_at further i)) primitive in
    let got = primitive_does P r.primitive (laid (f + 2) (Set (last_at further i) ∷ []) cells) streams (f + 3) n t (up (Set (last_at further i))).ready.whole (up (Set (last_at further i))).ready.free (omega (arith, room)) in
    let live : is_live (cell_at (laid (f + 2) (Set (last_at further i) ∷ []) cells) (last_at further i)) ≡ true =
    ap is_live (laid_below (f + 2) (last_at further i) (Set (last_at further i) ∷ []) cells (let h = known.last_low in omega (arith, h))) ∙ s.last in
    let puts = writes_live (cell_at (laid (f + 2) (Set (last_at further i) ∷ []) cells) (last_at further i)) (last_at further i) (next_of streams)
    (state (laid (f + 2) (Set (last_at further i) ∷ []) cells) (after_read streams) t) live in
    let put : slice_set (laid (f + 2) (Set (last_at further i) ∷ []) cells) (last_at further i) (Set (next_of streams)) ≡ laid (f + 2) (Set (last_at further i) ∷ []) (slice_set cells (last_at further i) (Set (next_of streams))) =
    set_before (last_at further i) (f + 2) (Set (last_at further i) ∷ []) cells (Set (next_of streams)) (let h = known.last_low in omega (arith, h)) in
    let after = after_of cells f (last_at further i) (next_of streams) (last_at further i) able.ready.whole able.ready.free known.last_low room in
    rw (e.rdch, fits, below (further 1) i Unset s.number, kept, p_new, p_set, p_is, known.not_nothing, p_is, next, again_is, primitive_is, got, p_is, puts, put, after.p_is, after.word_is, after.given) refl

-- after UNRDCH
pub once_more_does : (P : List Placed) (address further : ℕ → ℕ) → (e : HasFurther P further) → HasReading P further → (cells : List Cell) (streams : Content) (f n t i last again : ℕ) → Able address further cells f 10
    → IsSelected further cells i again → again ≢ 0 → cell_at cells (last_at further i) ≡ Set last
    → calls P (suc (suc n)) (further 8) [] f (state cells streams (suc (suc t))) ≡ Done last (state (slice_set cells (last_at further i + 1) (Set 0)) streams t)
once_more_does P address further e r cells streams f n t i last again able s back is_last =
    let room : f + 10 ≤ 65536 = able.ready.room in
    let known = known_of P address further r cells f i again able.ready.free s in
    let fits : nat_le (f + 6) 65536 ≡ true = fits_true _ _ (omega (arith, room)) in
    let below : (a w : ℕ) (p : Cell) → cell_at cells a ≡ Set w → cell_at (laid (f + 2) (p ∷ []) cells) a ≡ Set w = λ a w p is. set_below f a w (p ∷ []) cells able.ready.free is in
    let kept = kept_does P address further e (laid (f + 2) (Unset ∷ []) cells) streams (f + 3) n t i (able_after address further f (f + 3) 10 7 (Unset ∷ []) cells able (omega arith) (omega arith)) s.low s.high
    (let h = known.last_low in omega (arith, h, room)) in
    let p_new : cell_at (laid (f + 2) (Unset ∷ []) cells) ((f + 2) % 65536) ≡ Unset = reads f 2 (Unset ∷ []) cells (omega arith) (omega arith) able.ready.whole (omega (arith, room)) in
    let p_set : slice_set (laid (f + 2) (Unset ∷ []) cells) ((f + 2) % 65536) (Set (last_at further i)) ≡ laid (f + 2) (Set (last_at further i) ∷ []) cells =
    writes f 2 (Unset ∷ []) cells (Set (last_at further i)) (omega arith) (omega arith) (omega (arith, room)) in
    let p_is : cell_at (laid (f + 2) (Set (last_at further i) ∷ []) cells) ((f + 2) % 65536) ≡ Set (last_at further i) =
    reads f 2 (Set (last_at further i) ∷ []) cells (omega arith) (omega arith) able.ready.whole (omega (arith, room)) in
    let next : (last_at further i + 1) % 65536 ≡ last_at further i + 1 = (let h = known.again_low in omega (arith, h, room)) in
    let again_is = below (last_at further i + 1) again (Set (last_at further i)) s.flag in
    let yes : (again == 0) ≡ false = unlike_test again 0 back in
    let put : slice_set (laid (f + 2) (Set (last_at further i) ∷ []) cells) (last_at further i + 1) (Set 0) ≡ laid (f + 2) (Set (last_at further i) ∷ []) (slice_set cells (last_at further i + 1) (Set 0)) =
    set_before (last_at further i + 1) (f + 2) (Set (last_at further i) ∷ []) cells (Set 0) (let h = known.again_low in omega (arith, h)) in
    let after = after_of cells f (last_at further i) 0 (last_at further i + 1) able.ready.whole able.ready.free known.again_low room in
    let last_is : cell_at (laid (f + 2) (Set (last_at further i) ∷ []) (slice_set cells (last_at further i + 1) (Set 0))) (last_at further i) ≡ Set last =
    laid_below (f + 2) (last_at further i) (Set (last_at further i) ∷ []) (slice_set cells (last_at further i + 1) (Set 0)) (let h = known.last_low in omega (arith, h))
    ∙ get_or-set_other cells (last_at further i + 1) (last_at further i) (Set 0) Dead (λ same. omega (arith, same)) ∙ is_last in
    rw (e.rdch, fits, below (further 1) i Unset s.number, kept, p_new, p_set, p_is, known.not_nothing, p_is, next, again_is, yes, p_is, next, again_is, put, after.p_is, last_is, after.given) refl

-- KEPT of any other number
kept_none : (P : List Placed) (address further : ℕ → ℕ) → (e : HasFurther P further) → (cells : List Cell) (streams : Content) (f n t i : ℕ) → Able address further cells f 7
    → i < 65536 → (i < 1) ⊎ (31 < i)
    → calls P (suc n) (further 6) (i ∷ []) f (state cells streams (suc t)) ≡ Done 0 (state cells streams t)
kept_none P address further e cells streams f n t i able word other = ⊎_elim
    (λ lt. under (let zero_is : i ≡ 0 = omega (arith, lt) in rw zero_is refl))
    (λ gt. ⊎_elim (λ few. over (no_lt i 1 few (omega arith) (omega (arith, gt))) (yes_lt 31 i (omega arith) few gt))
    (λ many. under (let back : 65535 - (65535 - i) ≡ i = omega (arith, word) in let minus : signed i ≡ negsuc (65535 - i) = ap signed (sym back) ∙ is_negative (65535 - i) (omega (arith, many)) in rw minus refl))
    (cases_lt i 32768)) other where
      room : f + 7 ≤ 65536
      room = able.ready.room

      fits : nat_le (f + 7) 65536 ≡ true
      fits = fits_true _ _ room

      opened : slice_set (laid (f + 2) (Set i ∷ []) cells) (f + 3) Unset ≡ laid (f + 2) (Set i ∷ Unset ∷ []) cells
      opened = opens (f + 2) (f + 3) (Set i ∷ []) cells (omega arith)

      table_new : cell_at (laid (f + 2) (Set i ∷ Unset ∷ []) cells) ((f + 3) % 65536) ≡ Unset
      table_new = reads f 3 (Set i ∷ Unset ∷ []) cells (omega arith) (omega arith) able.ready.whole (omega (arith, room))

      table_set : slice_set (laid (f + 2) (Set i ∷ Unset ∷ []) cells) ((f + 3) % 65536) (Set (further 7)) ≡ laid (f + 2) (Set i ∷ Set (further 7) ∷ []) cells
      table_set = writes f 3 (Set i ∷ Unset ∷ []) cells (Set (further 7)) (omega arith) (omega arith) (omega (arith, room))

      i_is : cell_at (laid (f + 2) (Set i ∷ Set (further 7) ∷ []) cells) ((f + 2) % 65536) ≡ Set i
      i_is = reads f 2 (Set i ∷ Set (further 7) ∷ []) cells (omega arith) (omega arith) able.ready.whole (omega (arith, room))

      closed3 : closed 1 (f + 3) (laid (f + 2) (Set i ∷ Set (further 7) ∷ []) cells) ≡ laid (f + 2) (Set i ∷ []) cells
      closed3 = laid_close (f + 2) (f + 3) 1 (Set i ∷ []) (Set (further 7) ∷ []) cells (λ q le. able.ready.free q (omega (arith, le))) (omega arith) refl

      closed2 : closed 1 (f + 2) (laid (f + 2) (Set i ∷ []) cells) ≡ cells
      closed2 = laid_back (f + 2) 1 (Set i ∷ []) cells (λ q le. able.ready.free q (omega (arith, le))) refl

      under : int_lt (signed i) (signed 1) ≡ true → calls P (suc n) (further 6) (i ∷ []) f (state cells streams (suc t)) ≡ Done 0 (state cells streams t)
      under less = rw (e.kept, fits, opened, table_new, table_set, i_is, less, closed3, closed2) refl

      over : int_lt (signed i) (signed 1) ≡ false → int_lt (signed 31) (signed i) ≡ true → calls P (suc n) (further 6) (i ∷ []) f (state cells streams (suc t)) ≡ Done 0 (state cells streams t)
      over positive greater = rw (e.kept, fits, opened, table_new, table_set, i_is, positive, i_is, greater, closed3, closed2) refl

-- RDCH of an input with such a number
others_does : (P : List Placed) (address further : ℕ → ℕ) → (e : HasFurther P further) → HasReading P further → (cells : List Cell) (streams : Content) (f n t i : ℕ) → Able address further cells f 10
    → i < 65536 → (i < 1) ⊎ (31 < i) → cell_at cells (further 1) ≡ Set i → HasPrimitive cells
    → calls P (suc (suc n)) (further 8) [] f (state cells streams (suc (suc (suc t)))) ≡ Done (next_of streams) (state cells (after_read streams) t)
others_does P address further e r cells streams f n t i able word other number primitive =
    let room : f + 10 ≤ 65536 = able.ready.room in
    let fits : nat_le (f + 6) 65536 ≡ true = fits_true _ _ (omega (arith, room)) in
    let below : (a w : ℕ) (p : Cell) → cell_at cells a ≡ Set w → cell_at (laid (f + 2) (p ∷ []) cells) a ≡ Set w = λ a w p is. set_below f a w (p ∷ []) cells able.ready.free is in
    let up : (p : Cell) → Able address further (laid (f + 2) (p ∷ []) cells) (f + 3) 7 = λ p. able_after address further f (f + 3) 10 7 (p ∷ []) cells able (omega arith) (omega arith) in
    let kept = kept_none P address further e (laid (f + 2) (Unset ∷ []) cells) streams (f + 3) n (suc t) i (up Unset) word other in
    let p_new : cell_at (laid (f + 2) (Unset ∷ []) cells) ((f + 2) % 65536) ≡ Unset = reads f 2 (Unset ∷ []) cells (omega arith) (omega arith) able.ready.whole (omega (arith, room)) in
    let p_set : slice_set (laid (f + 2) (Unset ∷ []) cells) ((f + 2) % 65536) (Set 0) ≡ laid (f + 2) (Set 0 ∷ []) cells =
    writes f 2 (Unset ∷ []) cells (Set 0) (omega arith) (omega arith) (omega (arith, room)) in
    let p_is : cell_at (laid (f + 2) (Set 0 ∷ []) cells) ((f + 2) % 65536) ≡ Set 0 = reads f 2 (Set 0 ∷ []) cells (omega arith) (omega arith) able.ready.whole (omega (arith, room)) in
    let got = primitive_does P r.primitive (laid (f + 2) (Set 0 ∷ []) cells) streams (f + 3) n t (up (Set 0)).ready.whole (up (Set 0)).ready.free (omega (arith, room)) in
    let given : closed 1 (f + 2) (laid (f + 2) (Set 0 ∷ []) cells) ≡ cells = laid_back (f + 2) 1 (Set 0 ∷ []) cells (λ q le. able.ready.free q (omega (arith, le))) refl in
    rw (e.rdch, fits, below (further 1) i Unset number, kept, p_new, p_set, p_is, below 21 528 (Set 0) primitive, got, given) refl

pub rdch_law : RdchGivesTheNextByte
rdch_law i cores address further places base m cells streams f n t able given =
    let depth : 3 + n ≡ suc (suc (suc n)) = omega arith in
    let turns : 3 + t ≡ suc (suc (suc t)) = omega arith in
    rw (depth, turns)
    (rdch_does _ address further (has_further cores address further places base m) (has_reading cores address further places base m) cells streams f (suc n) t i able given.0 given.1)

pub once_more_law : RdchGivesACharacterOnceMore
once_more_law i last again back cores address further places base m cells streams f n t able given =
    let depth : 2 + n ≡ suc (suc n) = omega arith in
    let turns : 2 + t ≡ suc (suc t) = omega arith in
    rw (depth, turns)
    (once_more_does _ address further (has_further cores address further places base m) (has_reading cores address further places base m) cells streams f n t i last again able given.0 back given.1)

pub others_law : RdchKeepsNothingOfOthers
others_law i word other cores address further places base m cells streams f n t able given =
    let depth : 3 + n ≡ suc (suc (suc n)) = omega arith in
    let turns : 3 + t ≡ suc (suc (suc t)) = omega arith in
    rw (depth, turns)
    (others_does _ address further (has_further cores address further places base m) (has_reading cores address further places base m) cells streams f (suc n) t i able word other given.0 given.1)
