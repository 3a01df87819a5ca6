-- The laws of the library say what a call does with enough turns; so it isn't wild with fewer turns either.
use Rattle.std.proofs.Common.{◌≡◌, ℕ, suc, ◌+◌, ◌<◌, ◌≤◌, ◌%◌, ◌==◌, ◌&&◌, ◌||◌, List, [], ◌∷◌, length, Bool, true, false, Option, Some, None, refl, sym, ap, ◌∙◌, subst, arith, ◌≢◌, ◌*◌, ◌/◌, ◌++◌}
use Rattle.bc_word.specs.Words.{signed}
use Rattle.bc_machine_defs.specs.Streams.{Input, Content, HoldBytes}
use Rattle.bc_machine_defs.specs.StreamCalls.{after_write}
use Rattle.bc_machine_defs.proofs.Bytes.{write_keeps}
use Rattle.bc_core.specs.Map.{Placed}
use Rattle.bc_core.specs.Store.{Cell, Set, cell_at}
use Rattle.bc_core.specs.Outcome.{State, Outcome, Done, Ended, Going, Wild}
use Rattle.bc_core.specs.Laws.{is_live}
use Rattle.bc_core.specs.Primitive.{Find}
use Rattle.bc_core.specs.Meaning.{OfLibrary, calls, entered_at, entered_of}
use Rattle.bc_machine_defs.specs.declared.streams.Side.{Side}
use Rattle.bc_machine_defs.specs.declared.streams.Side.TheVariants as sides
use Rattle.bc_library_laws.specs.Laws.{state, Ready, after_writes, turns_of}
use Rattle.std.specs.Fmt.{signed_decimal}
use Rattle.bc_library_laws.proofs.Steps.{Has, wrch, newline_does}
use Rattle.bc_library_laws.proofs.Numbers.{writen_does}
use Rattle.std.specs.Prelude.{nat_lt, nat_le, not}
use Rattle.std.proofs.Common.{length-append}
use Rattle.std.proofs.lemmas.Bool.Decides.{nat_tests}
use Rattle.bc_core.specs.Words.{packed, string_words}
use Rattle.bc_core.specs.Commands.{Core}
use Rattle.bc_core.specs.Map.{IsMap, placed}
use Rattle.bc_library_laws.specs.Library.{library}
use Rattle.bc_library_laws.specs.Laws.{HoldsBytes, HoldsString, byte_in, Piece, Plain, OfNumber, OfString, OfCharacter, Escaped, format_of, taken_by, written_by, turns_by, ArePieces}
use Rattle.bc_library_laws.proofs.Joined.{writes_law, writef_law}
use Rattle.bc_tame.specs.Tame.{Note, AWord, AText, Says, is_text}
use Rattle.bc_tame.specs.Programs.{library_global, library_fixed, library_speaks, with_text, with_format, are_bytes, fits_format}
use Rattle.bc_tame.proofs.Primitives.{runs_find}
use Rattle.bc_tame.proofs.Fine.{Keeps, within, both_true, less_true, at_most_true, same_true, Gone, Fixed, Fits, Shape, Inv, Fine, Runs, IsWord}
use Rattle.bc_tame.proofs.Frames.{HoldsWords, words_kept}
use Rattle.bc_tame.proofs.Expressions.{IsText, AreNoted, text_told, Holds, CanSay, IsCallable}
use Rattle.bc_core.proofs.Turns.{Goes, later, more_calls}

abbrev cells_in : Outcome ℕ → List Cell
cells_in (Done x st) = st.cells
cells_in _ = []

abbrev inputs_in : Outcome ℕ → List Input
inputs_in (Done x st) = st.streams.inputs
inputs_in _ = []

abbrev value_in : Outcome ℕ → ℕ
value_in (Done x st) = x
value_in _ = 0

abbrev is_wild : Outcome ℕ → Bool
is_wild Wild = true
is_wild _ = false

fine_before : (σ : Shape) (d v : ℕ) (cells : List Cell) (st1 : State) (o o1 : Outcome ℕ) → Goes d o o1 → o1 ≡ Done v st1 → st1.cells ≡ cells → v < 65536 → Inv σ cells → HoldBytes st1.streams.inputs → Fine IsWord σ o
fine_before σ d v cells st1 (Done x st) o1 g e same lt i held =
    let f : Done x (later d st) ≡ Done v st1 = sym g ∙ e in
    let fx : x ≡ v = ap value_in f in
    let fc : st.cells ≡ cells = ap cells_in f ∙ same in
    let fi : st.streams.inputs ≡ st1.streams.inputs = ap inputs_in f in
    (subst (λ z. z < 65536) (sym fx) lt, (subst (λ z. Inv σ z) (sym fc) i, subst (λ z. HoldBytes z) (sym fi) held))
fine_before σ d v cells st1 (Ended e1 streams) o1 g e same lt i held = tt
fine_before σ d v cells st1 (Going streams) o1 g e same lt i held = tt
fine_before σ d v cells st1 Wild o1 g e same lt i held = let f : true ≡ false = ap is_wild (sym g ∙ e) in let z : ⊥ = cc in absurd z

-- what is written changes no input
writes_keep : (bytes : List ℕ) (c : Content) → HoldBytes c.inputs → HoldBytes (after_writes bytes c).inputs
writes_keep [] c h = h
writes_keep (byte ∷ bytes) c h = writes_keep bytes (after_write byte c) (write_keeps byte c h)

-- a call that changes no cell if it has enough turns
pub by_law : (σ : Shape) (program : List Placed) (a f n d v : ℕ) (vs : List ℕ) → v < 65536 → (change : Content → Content) → ((c : Content) → HoldBytes c.inputs → HoldBytes (change c).inputs)
    → ((cells : List Cell) → Inv σ cells → (streams : Content) (t : ℕ) → calls program (d + n) a vs f (state cells streams (d + t)) ≡ Done v (state cells (change streams) t))
    → Runs σ IsWord σ (calls program n a vs f)
by_law σ program a f n d v vs lt change keeps law = record {
  from = λ st i.
      let le : n ≤ d + n = omega arith in
      let turns : d + st.turns ≡ st.turns + d = omega arith in
      let goes = (more_calls d program n (d + n) le a vs f).from st in
      let e : calls program (d + n) a vs f (later d st) ≡ Done v (state st.cells (change st.streams) st.turns) =
      subst (λ k. calls program (d + n) a vs f (state st.cells st.streams k) ≡ Done v (state st.cells (change st.streams) st.turns)) turns (law st.cells i.0 st.streams st.turns) in
      fine_before σ d v st.cells (state st.cells (change st.streams) st.turns) (calls program n a vs f st) (calls program (d + n) a vs f (later d st)) goes e refl lt i.0 (keeps st.streams i.1);
}

-- the globals that the library needs hold its routines as the run begins
abbrev pub HoldsLibrary : Shape → (ℕ → ℕ) → Type 0
HoldsLibrary γ address = (g : ℕ) → g < 512 → library_fixed g ≡ true → γ (8 + g) ≡ Fixed (library_global address g)

-- a store of this shape is ready for the library
held_cell : (γ : Shape) (address : ℕ → ℕ) (σ : Shape) (cells : List Cell) → HoldsLibrary γ address → Keeps γ σ → Inv σ cells
    → (g : ℕ) → g < 512 → library_fixed g ≡ true → cell_at cells (8 + g) ≡ Set (library_global address g)
held_cell γ address σ cells first keeps i g lt e =
    let here = first g lt e in
    let still : σ (8 + g) ≡ Fixed (library_global address g) = keeps.keeps (8 + g) (rw here tt) ∙ here in
    (subst (λ k. Fits k (cell_at cells (8 + g))) still (i.fits (8 + g))).0

ready : (γ : Shape) (address : ℕ → ℕ) (σ : Shape) (f most : ℕ) → HoldsLibrary γ address → Keeps γ σ → ((a : ℕ) → f ≤ a → σ a ≡ Gone) → f + most ≤ 65536
    → (cells : List Cell) → Inv σ cells → Ready address cells f most
ready γ address σ f most first keeps gone room cells i = record {
  whole = i.whole;
  free = λ a up. ap is_live (subst (λ k. Fits k (cell_at cells a)) (gone a up) (i.fits a));
  room = room;
  write_char = held_cell γ address σ cells first keeps i 14 (omega arith) refl;
  get_byte = held_cell γ address σ cells first keeps i 20 (omega arith) refl;
  write_s = held_cell γ address σ cells first keeps i 22 (omega arith) refl;
  write_n = held_cell γ address σ cells first keeps i 23 (omega arith) refl;
}

pub wrch_callable : (γ : Shape) (program : List Placed) (address : ℕ → ℕ) (n : ℕ) → Has program address → HoldsLibrary γ address
    → IsCallable γ (record { arguments = 1; room = 3 }) (calls program n 530)
wrch_callable γ program address n h first [] f σ args keeps gone room = absurd (omega (arith, args.0))
wrch_callable γ program address n h first (v ∷ w ∷ vs) f σ args keeps gone room = absurd (omega (arith, args.0))
wrch_callable γ program address n h first (v ∷ []) f σ args keeps gone room =
    by_law σ program 530 f n 1 0 (v ∷ []) (omega arith) (after_write (v % 256)) (write_keeps (v % 256)) (λ cells i streams t.
    let r = ready γ address σ f 3 first keeps gone room cells i in
    let one : 1 + n ≡ suc n = omega arith in
    let turns : 1 + t ≡ suc t = omega arith in
    rw (one, turns) (wrch program h.wrch cells streams f n t v r.whole r.free room))

pub newline_callable : (γ : Shape) (program : List Placed) (address : ℕ → ℕ) (n : ℕ) → Has program address → HoldsLibrary γ address
    → IsCallable γ (record { arguments = 0; room = 8 }) (calls program n (address 4))
newline_callable γ program address n h first (v ∷ vs) f σ args keeps gone room = absurd (omega (arith, args.0))
newline_callable γ program address n h first [] f σ args keeps gone room =
    by_law σ program (address 4) f n 2 0 [] (omega arith) (after_write 10) (write_keeps 10) (λ cells i streams t.
    let r = ready γ address σ f 8 first keeps gone room cells i in
    let two : 2 + n ≡ suc (suc n) = omega arith in
    let turns : 2 + t ≡ suc (suc t) = omega arith in
    rw (two, turns) (newline_does program address h cells streams f n t r))

pub writen_callable : (γ : Shape) (program : List Placed) (address : ℕ → ℕ) (n : ℕ) → Has program address → HoldsLibrary γ address
    → IsCallable γ (record { arguments = 1; room = 20 }) (calls program n (address 5))
writen_callable γ program address n h first [] f σ args keeps gone room = absurd (omega (arith, args.0))
writen_callable γ program address n h first (v ∷ w ∷ vs) f σ args keeps gone room = absurd (omega (arith, args.0))
writen_callable γ program address n h first (v ∷ []) f σ args keeps gone room =
    by_law σ program (address 5) f n (turns_of (signed v)) 0 (v ∷ []) (omega arith) (after_writes (signed_decimal (signed v))) (writes_keep (signed_decimal (signed v))) (λ cells i streams t.
    let r = ready γ address σ f 20 first keeps gone room cells i in
    writen_does program address h v args.1.0 cells streams f n t r)

-- the bytes of a string, from the words in the store
packed_held : (σ : Shape) (cells : List Cell) → Inv σ cells → (s k : ℕ) (bs : List ℕ) → are_bytes bs ≡ true → HoldsWords σ (s + k) (packed bs) → HoldsBytes cells s (2 * k) bs
packed_held σ cells i s k [] ok h = tt
packed_held σ cells i s k (high ∷ []) ok h =
    let a : high < 256 = less_true high 256 (both_true (nat_lt high 256) true ok).0 in
    let c = (subst (λ z. Fits z (cell_at cells (s + k))) h.0 (i.fits (s + k))).0 in
    let lt : s + k < 65536 = omega (arith, i.whole, within cells (s + k) (λ d. let z : ⊥ = cc in z)) in
    let here : (s + 2 * k / 2) % 65536 ≡ s + k = omega (arith, lt) in
    let even : (2 * k % 2 == 0) ≡ true = (let e : 2 * k % 2 ≡ 0 = omega arith in rw e refl) in
    let first : byte_in (2 * k) (high * 256) ≡ high = (let e : high * 256 / 256 ≡ high = omega arith in rw (even, e) refl) in
    ((high * 256, ap (λ z. cell_at cells z) here ∙ c, first, a), tt)
packed_held σ cells i s k (high ∷ low ∷ bs) ok h =
    let oks = both_true (nat_lt high 256) (nat_lt low 256 && are_bytes bs) ok in
    let more = both_true (nat_lt low 256) (are_bytes bs) oks.1 in
    let a : high < 256 = less_true high 256 oks.0 in
    let b : low < 256 = less_true low 256 more.0 in
    let c = (subst (λ z. Fits z (cell_at cells (s + k))) h.0 (i.fits (s + k))).0 in
    let lt : s + k < 65536 = omega (arith, i.whole, within cells (s + k) (λ d. let z : ⊥ = cc in z)) in
    let here : (s + 2 * k / 2) % 65536 ≡ s + k = omega (arith, lt) in
    let there : (s + (2 * k + 1) / 2) % 65536 ≡ s + k = omega (arith, lt) in
    let even : (2 * k % 2 == 0) ≡ true = (let e : 2 * k % 2 ≡ 0 = omega arith in rw e refl) in
    let odd : ((2 * k + 1) % 2 == 0) ≡ false = (let e : (2 * k + 1) % 2 ≡ 1 = omega arith in rw e refl) in
    let first : byte_in (2 * k) (high * 256 + low) ≡ high = (let e : (high * 256 + low) / 256 ≡ high = omega (arith, b) in rw (even, e) refl) in
    let second : byte_in (2 * k + 1) (high * 256 + low) ≡ low = (let e : (high * 256 + low) % 256 ≡ low = omega (arith, b) in rw (odd, e) refl) in
    let next : s + k + 1 ≡ s + (k + 1) = omega arith in
    let index : 2 * (k + 1) ≡ 2 * k + 1 + 1 = omega arith in
    let rest = packed_held σ cells i s (k + 1) bs more.1 (subst (λ z. HoldsWords σ z (packed bs)) next h.1) in (
      (high * 256 + low, ap (λ z. cell_at cells z) here ∙ c, first, a),
      ((high * 256 + low, ap (λ z. cell_at cells z) there ∙ c, second, b), subst (λ z. HoldsBytes cells s z bs) index rest),
    )

string_held : (σ : Shape) (cells : List Cell) → Inv σ cells → (s : ℕ) (bytes : List ℕ) → are_bytes (length bytes ∷ bytes) ≡ true → HoldsWords σ s (string_words bytes) → HoldsString cells s bytes
string_held σ cells i s bytes ok h =
    let e : s ≡ s + 0 = omega arith in
    packed_held σ cells i s 0 (length bytes ∷ bytes) ok (subst (λ z. HoldsWords σ z (string_words bytes)) e h)

abbrev pub HoldTexts : (ℕ → Option (List ℕ)) → (ℕ → ℕ) → List Cell → Type 0
HoldTexts text place cells = (m : ℕ) (bytes : List ℕ) → text m ≡ Some bytes → HoldsString cells (place m) bytes

-- a format that passes the check is a list of pieces
record Read (text : ℕ → Option (List ℕ)) (place : ℕ → ℕ) (bs : List ℕ) (vs : List ℕ) : Type 0 where
  pieces : List Piece
  more : List ℕ
  format : format_of pieces ≡ bs
  taken : vs ≡ taken_by pieces ++ more
  are : (cells : List Cell) → HoldTexts text place cells → ArePieces cells pieces

abbrev following : Bool → List ℕ → List ℕ
following true bs = 37 ∷ bs
following false bs = bs

unlike_true : (a b : ℕ) → (a == b) ≡ false → a ≢ b
unlike_true a b e = grind (arith, nat_tests)

not_false : (t : Bool) → not t ≡ true → t ≡ false
not_false true e = let z : ⊥ = cc in absurd z
not_false false e = refl

none_of : (a b : Bool) → (a || b) ≡ false → (a ≡ false) × (b ≡ false)
none_of true b e = let z : ⊥ = cc in absurd z
none_of false b e = (refl, e)

reads : (text : ℕ → Option (List ℕ)) (place : ℕ → ℕ) (t : Bool) (bs : List ℕ) (notes : List Note) (vs : List ℕ) → fits_format t bs notes ≡ true → AreNoted text place notes vs → Read text place (following t bs) vs
reads text place true [] notes vs ok told = let z : ⊥ = cc in absurd z
reads text place false [] notes vs ok told = record { pieces = []; more = vs; format = refl; taken = refl; are = λ cells held. tt }
reads text place false (b ∷ bs) notes vs ok told =
    by (λ o. reads text place true bs notes vs o told) (λ o. reads text place false bs notes vs o told) (b == 37) refl ok where
      by : (fits_format true bs notes ≡ true → Read text place (37 ∷ bs) vs) → (fits_format false bs notes ≡ true → Read text place bs vs) → (x : Bool) → (b == 37) ≡ x
          → elim x as (λ z. Bool) [ true ↦ fits_format true bs notes | false ↦ fits_format false bs notes ] ≡ true → Read text place (b ∷ bs) vs
      by f g true e o = subst (λ z. Read text place (z ∷ bs) vs) (sym (same_true b 37 e)) (f o)
      by f g false e o = let r = g o in record { pieces = Plain b ∷ r.pieces; more = r.more; format = ap (λ z. b ∷ z) r.format; taken = r.taken; are = λ cells held. (unlike_true b 37 e, r.are cells held) }
reads text place true (b ∷ bs) [] vs ok told =
    let oks = both_true (not ((b == 78) || ((b == 83) || (b == 67)))) (fits_format false bs []) ok in
    let e1 = none_of (b == 78) ((b == 83) || (b == 67)) (not_false _ oks.0) in
    let e2 = none_of (b == 83) (b == 67) e1.1 in
    let r = reads text place false bs [] vs oks.1 told in
    record { pieces = Escaped b ∷ r.pieces; more = r.more; format = ap (λ z. 37 ∷ b ∷ z) r.format; taken = r.taken; are = λ cells held. ((unlike_true b 78 e1.0, unlike_true b 83 e2.0, unlike_true b 67 e2.1), r.are cells held) }
reads text place true (b ∷ bs) (note ∷ notes) [] ok told = absurd told
reads text place true (b ∷ bs) (note ∷ notes) (v ∷ vs) ok told =
    by (λ o. reads text place false bs notes vs o told.1) (λ o. reads text place false bs (note ∷ notes) (v ∷ vs) o told) (b == 83) (b == 78) (b == 67) refl refl refl ok where
      by : (fits_format false bs notes ≡ true → Read text place bs vs) → (fits_format false bs (note ∷ notes) ≡ true → Read text place bs (v ∷ vs)) → (x y w : Bool) → (b == 83) ≡ x → (b == 78) ≡ y → (b == 67) ≡ w
          → elim x as (λ z. Bool) [
            | true ↦ is_text note && fits_format false bs notes
            | false ↦ elim (y || w) as (λ z. Bool) [ true ↦ fits_format false bs notes | false ↦ fits_format false bs (note ∷ notes) ]
          ] ≡ true → Read text place (37 ∷ b ∷ bs) (v ∷ vs)
      by f g true y w ex ey ew o =
          let oks = both_true (is_text note) (fits_format false bs notes) o in
          let r = f oks.1 in
          let t = text_told text place note v oks.0 told.0.1 in
          subst (λ z. Read text place (37 ∷ z ∷ bs) (v ∷ vs)) (sym (same_true b 83 ex))
          (record { pieces = OfString v t.bytes ∷ r.pieces; more = r.more; format = ap (λ z. 37 ∷ 83 ∷ z) r.format; taken = ap (λ z. v ∷ z) r.taken; are = λ cells held. (subst (λ z. HoldsString cells z t.bytes) (sym t.is) (held t.label t.bytes t.there), r.are cells held) })
      by f g false true w ex ey ew o = let r = f o in subst (λ z. Read text place (37 ∷ z ∷ bs) (v ∷ vs)) (sym (same_true b 78 ey))
          (record { pieces = OfNumber v ∷ r.pieces; more = r.more; format = ap (λ z. 37 ∷ 78 ∷ z) r.format; taken = ap (λ z. v ∷ z) r.taken; are = λ cells held. (told.0.0, r.are cells held) })
      by f g false false true ex ey ew o = let r = f o in subst (λ z. Read text place (37 ∷ z ∷ bs) (v ∷ vs)) (sym (same_true b 67 ew))
          (record { pieces = OfCharacter v ∷ r.pieces; more = r.more; format = ap (λ z. 37 ∷ 67 ∷ z) r.format; taken = ap (λ z. v ∷ z) r.taken; are = λ cells held. r.are cells held })
      by f g false false false ex ey ew o =
          let r = g o in
          record { pieces = Escaped b ∷ r.pieces; more = r.more; format = ap (λ z. 37 ∷ b ∷ z) r.format; taken = r.taken; are = λ cells held. ((unlike_true b 78 ey, unlike_true b 83 ex, unlike_true b 67 ew), r.are cells held) }

taken_few : (xs ys : List ℕ) (n : ℕ) → length (xs ++ ys) ≤ n → length xs ≤ n
taken_few xs ys n h = omega (arith, h, length-append xs ys)

-- WRITES and WRITEF, in a program of the library and sections
abbrev number_of : Option ℕ → ℕ
number_of o = elim o as (λ z. ℕ) [ Some k ↦ k | None ↦ 0 ]

as_many : (text : ℕ → Option (List ℕ)) (place : ℕ → ℕ) (notes : List Note) (vs : List ℕ) → AreNoted text place notes vs → length vs ≡ length notes
as_many text place [] [] h = refl
as_many text place [] (v ∷ vs) h = absurd h
as_many text place (note ∷ notes) [] h = absurd h
as_many text place (note ∷ notes) (v ∷ vs) h = let e = as_many text place notes vs h.1 in omega (arith, e)

-- the addresses of FINDINPUT and FINDOUTPUT
abbrev pub find_address : Side → ℕ
find_address sides.Input = 534
find_address sides.Output = 537

-- one argument, which is a string
record One (text : ℕ → Option (List ℕ)) (place : ℕ → ℕ) (vs : List ℕ) (n room : ℕ) : Type 0 where
  value : ℕ
  alone : vs ≡ value ∷ []
  word : value < 65536
  string : IsText text place value
  needs : n ≡ room

one_text : (text : ℕ → Option (List ℕ)) (place : ℕ → ℕ) (notes : List Note) (vs : List ℕ) (n room : ℕ) → with_text notes n ≡ Some room → AreNoted text place notes vs → One text place vs n room
one_text text place (AText ∷ []) (v ∷ []) n room e told = record { value = v; alone = refl; word = told.0.0; string = told.0.1; needs = ap number_of e }
one_text text place (AText ∷ []) [] n room e told = absurd told
one_text text place (AText ∷ []) (v ∷ w ∷ vs) n room e told = absurd told.1
one_text text place (Says bytes ∷ []) (v ∷ []) n room e told = record { value = v; alone = refl; word = told.0.0; string = text_told text place (Says bytes) v refl told.0.1; needs = ap number_of e }
one_text text place (Says bytes ∷ []) [] n room e told = absurd told
one_text text place (Says bytes ∷ []) (v ∷ w ∷ vs) n room e told = absurd told.1
one_text text place [] vs n room e told = let z : ⊥ = cc in absurd z
one_text text place (AWord ∷ notes) vs n room e told = let z : ⊥ = cc in absurd z
one_text text place (AText ∷ note ∷ notes) vs n room e told = let z : ⊥ = cc in absurd z
one_text text place (Says bytes ∷ note ∷ notes) vs n room e told = let z : ⊥ = cc in absurd z

pub spoken : (cores : List Core) (address : ℕ → ℕ) (places : List (ℕ → ℕ)) (base : ℕ) → IsMap (library ∷ cores) (record { places = address ∷ places; stack_base = base })
    → (γ : Shape) → HoldsLibrary γ address
    → (text : ℕ → Option (List ℕ)) (place : ℕ → ℕ) → ((m : ℕ) (bytes : List ℕ) → text m ≡ Some bytes → are_bytes (length bytes ∷ bytes) ≡ true)
    → ((m : ℕ) (bytes : List ℕ) → text m ≡ Some bytes → HoldsWords γ (place m) (string_words bytes))
    → ((side : Side) (a : ℕ) → a ≡ find_address side → entered_at (placed (library ∷ cores) (address ∷ places)) a ≡ entered_of (Some (OfLibrary (Find side))))
    → (d g room : ℕ) (notes : List Note) → library_speaks g notes ≡ Some room
    → Holds γ (calls (placed (library ∷ cores) (address ∷ places)) d) g (CanSay text place γ room notes)
spoken cores address places base map_is γ first text place fine words finds d g room notes e = by (g == 22) (g == 25) (g == 15) (g == 16) refl refl refl refl e where
  at : (h : ℕ) → (g == h) ≡ true → h < 512 → library_fixed h ≡ true → CanSay text place γ room notes (calls (placed (library ∷ cores) (address ∷ places)) d (library_global address h))
      → Holds γ (calls (placed (library ∷ cores) (address ∷ places)) d) g (CanSay text place γ room notes)
  at h eg low fixed says =
      subst (λ (z : ℕ). Holds γ (calls (placed (library ∷ cores) (address ∷ places)) d) z (CanSay text place γ room notes)) (sym (same_true g h eg))
      (record { low = low; address = library_global address h; there = first h low fixed; calls = says })

  still : (σ : Shape) → Keeps γ σ → (m : ℕ) (bytes : List ℕ) → text m ≡ Some bytes → HoldsWords σ (place m) (string_words bytes)
  still σ keeps m bytes et = words_kept γ σ keeps (place m) (string_words bytes) (words m bytes et)

  held : (σ : Shape) (cells : List Cell) → Inv σ cells → Keeps γ σ → HoldTexts text place cells
  held σ cells i keeps m bytes et = string_held σ cells i (place m) bytes (fine m bytes et) (still σ keeps m bytes et)

  writes : with_text notes 15 ≡ Some room → CanSay text place γ room notes (calls (placed (library ∷ cores) (address ∷ places)) d (address 3))
  writes ok vs f σ told keeps gone top =
      let o = one_text text place notes vs 15 room ok told in
      subst (λ (z : List ℕ). Runs σ IsWord σ (calls (placed (library ∷ cores) (address ∷ places)) d (address 3) z f)) (sym o.alone)
      (by_law σ (placed (library ∷ cores) (address ∷ places)) (address 3) f d (2 + 3 * length o.string.bytes) 0 (o.value ∷ []) (omega arith) (after_writes o.string.bytes) (writes_keep o.string.bytes) (λ cells i streams t.
      writes_law o.value o.string.bytes cores address places base map_is cells streams f d t
      (ready γ address σ f 15 first keeps gone (omega (arith, o.needs, top)) cells i)
      (subst (λ z. HoldsString cells z o.string.bytes) (sym o.string.is) (held σ cells i keeps o.string.label o.string.bytes o.string.there))))

  finding : (side : Side) → with_text notes 3 ≡ Some room → CanSay text place γ room notes (calls (placed (library ∷ cores) (address ∷ places)) d (find_address side))
  finding side ok vs f σ told keeps gone top =
      let o = one_text text place notes vs 3 room ok told in
      subst (λ (z : List ℕ). Runs σ IsWord σ (calls (placed (library ∷ cores) (address ∷ places)) d (find_address side) z f)) (sym o.alone)
      (runs_find (placed (library ∷ cores) (address ∷ places)) (find_address side) side (finds side (find_address side) refl) d o.value f σ o.word gone (omega (arith, o.needs, top)) o.string.bytes
      (subst (λ z. HoldsWords σ z (string_words o.string.bytes)) (sym o.string.is) (still σ keeps o.string.label o.string.bytes o.string.there))
      (λ τ cells i words. string_held τ cells i o.value o.string.bytes (fine o.string.label o.string.bytes o.string.there) words))

  writef : (bytes : List ℕ) (more : List Note) → (nat_le (length more) 4 && fits_format false bytes more) ≡ true → 37 ≡ room
      → CanSay text place γ room (Says bytes ∷ more) (calls (placed (library ∷ cores) (address ∷ places)) d (address 6))
  writef bytes more ok er [] f σ told keeps gone top = absurd told
  writef bytes more ok er (v ∷ vs) f σ told keeps gone top =
      let oks = both_true (nat_le (length more) 4) (fits_format false bytes more) ok in
      let r = reads text place false bytes more vs oks.1 told.1 in
      let few : length vs ≤ 4 = omega (arith, at_most_true (length more) 4 oks.0, as_many text place more vs told.1) in
      subst (λ (z : List ℕ). Runs σ IsWord σ (calls (placed (library ∷ cores) (address ∷ places)) d (address 6) (v ∷ z) f)) (sym r.taken)
      (by_law σ (placed (library ∷ cores) (address ∷ places)) (address 6) f d (2 + turns_by r.pieces) 0 (v ∷ (taken_by r.pieces ++ r.more)) (omega arith) (after_writes (written_by r.pieces)) (writes_keep (written_by r.pieces)) (λ cells i streams t.
      writef_law v r.pieces r.more (taken_few (taken_by r.pieces) r.more 4 (subst (λ (z : List ℕ). length z ≤ 4) r.taken few)) cores address places base map_is cells streams f d t
      (ready γ address σ f 37 first keeps gone (omega (arith, er, top)) cells i)
      (subst (λ (z : List ℕ). HoldsString cells v z) (sym r.format) (subst (λ z. HoldsString cells z bytes) (sym told.0.1.is) (held σ cells i keeps told.0.1.label bytes told.0.1.there)), r.are cells (held σ cells i keeps))))

  formatted : (ns : List Note) → with_format ns ≡ Some room → CanSay text place γ room ns (calls (placed (library ∷ cores) (address ∷ places)) d (address 6))
  formatted [] ok = let z : ⊥ = cc in absurd z
  formatted (AWord ∷ ns) ok = let z : ⊥ = cc in absurd z
  formatted (AText ∷ ns) ok = let z : ⊥ = cc in absurd z
  formatted (Says bytes ∷ ns) ok = chosen (nat_le (length ns) 4 && fits_format false bytes ns) refl ok where
    chosen : (t : Bool) → (nat_le (length ns) 4 && fits_format false bytes ns) ≡ t → elim t as (λ z. Option ℕ) [ true ↦ Some 37 | false ↦ None ] ≡ Some room
        → CanSay text place γ room (Says bytes ∷ ns) (calls (placed (library ∷ cores) (address ∷ places)) d (address 6))
    chosen true et e1 = writef bytes ns et (ap number_of e1)
    chosen false et e1 = let z : ⊥ = cc in absurd z

  by : (x y u w : Bool) → (g == 22) ≡ x → (g == 25) ≡ y → (g == 15) ≡ u → (g == 16) ≡ w
      → elim x as (λ z. Option ℕ) [ true ↦ with_text notes 15 | false ↦ elim y as (λ z. Option ℕ) [ true ↦ with_format notes | false ↦ elim (u || w) as (λ z. Option ℕ) [ true ↦ with_text notes 3 | false ↦ None ] ] ] ≡ Some room
      → Holds γ (calls (placed (library ∷ cores) (address ∷ places)) d) g (CanSay text place γ room notes)
  by true y u w ex ey eu ew e1 = at 22 ex (omega arith) refl (writes e1)
  by false true u w ex ey eu ew e1 = at 25 ey (omega arith) refl (formatted notes e1)
  by false false true w ex ey eu ew e1 = at 15 eu (omega arith) refl (finding sides.Input e1)
  by false false false true ex ey eu ew e1 = at 16 ew (omega arith) refl (finding sides.Output e1)
  by false false false false ex ey eu ew e1 = let z : ⊥ = cc in absurd z
