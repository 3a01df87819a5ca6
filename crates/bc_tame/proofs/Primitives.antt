-- Calls of the primitives that work on streams aren't wild, and their values are words.
use Rattle.std.proofs.Common.{◌≡◌, ◌≢◌, ℕ, zero, suc, ◌+◌, ◌/◌, ◌%◌, ◌<◌, ◌≤◌, List, [], ◌∷◌, length, Bool, true, false, Option, Some, None, refl, sym, ap, subst, arith, inl, inr}
use Rattle.std.specs.Prelude.{nat_le, cond, slice_set}
use Rattle.std.proofs.lemmas.Bool.Decides.{nat_tests}
use Rattle.std.specs.List.{position_from}
use Rattle.std.specs.Str.{bytes_eq}
use Rattle.bc_machine_defs.specs.declared.streams.Side.{Side}
use Rattle.bc_machine_defs.specs.declared.streams.Side.TheVariants as sides
use Rattle.bc_machine_defs.specs.Streams.{Input, Content, numbered, AreBytes, HoldBytes}
use Rattle.bc_machine_defs.specs.StreamCalls.{names_of, number_or_none, find_stream, next_byte, byte_of_input, read_byte, select_stream, end_stream}
use Rattle.bc_machine_defs.specs.Execute.{byte_or_end}
use Rattle.bc_machine_defs.proofs.Bytes.{numbered_at, read_keeps, end_keeps}
use Rattle.bc_core.specs.Map.{Placed}
use Rattle.bc_core.specs.Words.{string_words}
use Rattle.bc_core.specs.Store.{Cell, Unset, Set, cell_at}
use Rattle.bc_core.specs.Outcome.{State, Done, read}
use Rattle.bc_core.specs.Primitive.{Primitive, Select, ReadByte, Find, EndStream, byte_of_string, bytes_of_string, string_of, on_streams, read_next, primitive_work}
use Rattle.bc_core.specs.Meaning.{passed, OfLibrary, in_frame, with_arguments, calls, entered_at, entered_of}
use Rattle.bc_core.proofs.Liveness.{Outside}
use Rattle.bc_tame.proofs.Fine.{Kind, Gone, Live, Fixed, Fits, Shape, Inv, Meets, Fine, Runs, Readable, IsWord, inv_set, runs_then, runs_read, runs_turn, runs_left}
use Rattle.bc_library_laws.specs.Laws.{byte_in, HoldsBytes, HoldsString}
use Rattle.bc_tame.proofs.Frames.{HoldsWords, words_kept}
use Rattle.bc_tame.proofs.Expressions.{IsCallable}
use Rattle.bc_tame.proofs.Shapes.{kind_at, kind_here, kind_there, keeps_kind}

-- a cell has this kind
outside : (a b : ℕ) → Outside 1 a b → b ≢ a
outside a b (inl lt) e = omega arith
outside a b (inr up) e = omega arith

-- a call of a primitive, in whose frame the cell of the argument has this kind
runs_primitive : (program : List Placed) (a : ℕ) (p : Primitive) → entered_at program a ≡ entered_of (Some (OfLibrary p)) → (n : ℕ) (vs : List ℕ) (f : ℕ) (σ : Shape) (c : Cell) (k : Kind)
    → ((cells : List Cell) → passed 1 (f + 2) vs cells ≡ slice_set cells (f + 2) c) → Fits k c → ((b : ℕ) → f ≤ b → σ b ≡ Gone) → f + 3 ≤ 65536
    → Runs (kind_at k (f + 2) σ) IsWord (kind_at k (f + 2) σ) (primitive_work p f) → Runs σ IsWord σ (calls program n a vs f)
runs_primitive program a p is zero vs f σ c k passes fits gone room h = record { from = λ st i. tt }
runs_primitive program a p is (suc n) vs f σ c k passes fits gone room h = record { from = λ st i. rw is (framed.from st i) } where
  τ : Shape
  τ = kind_at k (f + 2) σ

  same : (b : ℕ) → b ≢ f + 2 → kind_at k (f + 2) σ b ≡ σ b
  same b ne = kind_there k (f + 2) σ b ne

  fits_there : Fits (kind_at k (f + 2) σ (f + 2)) c
  fits_there = subst (λ z. Fits z c) (sym (kind_here k (f + 2) σ)) fits

  entering : (cells : List Cell) → Inv σ cells → Inv (kind_at k (f + 2) σ) (passed 1 (f + 2) vs cells)
  entering cells i = subst (λ z. Inv (kind_at k (f + 2) σ) z) (sym (passes cells)) (inv_set σ (kind_at k (f + 2) σ) cells (f + 2) c (omega (arith, room)) i fits_there same)

  framed : Runs σ IsWord σ (in_frame f 3 (with_arguments 1 (f + 2) vs (primitive_work p f)))
  framed =
      let within : nat_le (f + 3) 65536 ≡ true = grind (arith, nat_tests) in
      rw within (runs_turn σ σ IsWord _ (runs_left σ σ (kind_at k (f + 2) σ) (kind_at k (f + 2) σ) IsWord 1 (f + 2) (passed 1 (f + 2) vs) (primitive_work p f) entering
      (λ b out. same b (outside (f + 2) b out)) (λ b up lt. gone b (omega (arith, up))) h))

-- the streams change, and the inputs still hold bytes
runs_streams : (σ : Shape) (change : Content → Content) (v : ℕ) → v < 65536 → ((c : Content) → HoldBytes c.inputs → HoldBytes (change c).inputs) → Runs σ IsWord σ (on_streams change v)
runs_streams σ change v lt keeps = record { from = λ st i. (lt, (i.0, keeps st.streams i.1)) }

next_small : (ended : Bool) (rest : List ℕ) → AreBytes rest → byte_or_end (next_byte ended rest) < 65536
next_small true rest h = omega arith
next_small false [] h = omega arith
next_small false (byte ∷ rest) h = let first : 0 < suc (length rest) = omega arith in let small : byte < 256 = h 0 byte first in omega arith

read_small : (c : Content) → HoldBytes c.inputs → byte_or_end (read_byte c) < 65536
read_small c h = by_input (numbered c.inputs c.input) refl where
  by_input : (i : Option Input) → numbered c.inputs c.input ≡ i → byte_or_end (byte_of_input i) < 65536
  by_input None e = omega arith
  by_input (Some i) e = next_small i.ended i.rest (numbered_at c.inputs c.input i h e)

runs_read_next : (σ : Shape) → Runs σ IsWord σ read_next
runs_read_next σ = record { from = λ st i. (read_small st.streams i.1, (i.0, read_keeps st.streams i.1)) }

select_keeps : (side : Side) (n : ℕ) (c : Content) → HoldBytes c.inputs → HoldBytes (select_stream side n c).inputs
select_keeps sides.Input n c h = h
select_keeps sides.Output n c h = h

-- SELECTINPUT and SELECTOUTPUT
pub select_callable : (γ : Shape) (program : List Placed) (a : ℕ) (side : Side) (n : ℕ) → entered_at program a ≡ entered_of (Some (OfLibrary (Select side)))
    → IsCallable γ (record { arguments = 1; room = 3 }) (calls program n a)
select_callable γ program a side n is [] f σ args keeps gone room = absurd (omega (arith, args.0))
select_callable γ program a side n is (v ∷ w ∷ vs) f σ args keeps gone room = absurd (omega (arith, args.0))
select_callable γ program a side n is (v ∷ []) f σ args keeps gone room =
    let τ : Shape = kind_at (Fixed v) (f + 2) σ in
    runs_primitive program a (Select side) is n (v ∷ []) f σ (Set v) (Fixed v) (λ cells. refl) (refl, args.1.0) gone room
    (runs_then (kind_at (Fixed v) (f + 2) σ) (kind_at (Fixed v) (f + 2) σ) (kind_at (Fixed v) (f + 2) σ) IsWord IsWord (read (f + 2)) (λ w. on_streams (select_stream side w) 0)
    (runs_read (kind_at (Fixed v) (f + 2) σ) (f + 2) (subst Readable (sym (kind_here (Fixed v) (f + 2) σ)) tt))
    (λ w lw. runs_streams (kind_at (Fixed v) (f + 2) σ) (select_stream side w) 0 (omega arith) (select_keeps side w)))

-- RDCH
pub read_callable : (γ : Shape) (program : List Placed) (a n : ℕ) → entered_at program a ≡ entered_of (Some (OfLibrary ReadByte))
    → IsCallable γ (record { arguments = 0; room = 3 }) (calls program n a)
read_callable γ program a n is (v ∷ vs) f σ args keeps gone room = absurd (omega (arith, args.0))
read_callable γ program a n is [] f σ args keeps gone room =
    runs_primitive program a ReadByte is n [] f σ Unset Live (λ cells. refl) tt gone room (runs_read_next (kind_at Live (f + 2) σ))

-- ENDREAD and ENDWRITE
pub end_callable : (γ : Shape) (program : List Placed) (a : ℕ) (side : Side) (n : ℕ) → entered_at program a ≡ entered_of (Some (OfLibrary (EndStream side)))
    → IsCallable γ (record { arguments = 0; room = 3 }) (calls program n a)
end_callable γ program a side n is (v ∷ vs) f σ args keeps gone room = absurd (omega (arith, args.0))
end_callable γ program a side n is [] f σ args keeps gone room =
    runs_primitive program a (EndStream side) is n [] f σ Unset Live (λ cells. refl) tt gone room (runs_streams (kind_at Live (f + 2) σ) (end_stream side) 0 (omega arith) (end_keeps side))

-- a string in the store, read byte by byte
byte_is : (s k byte : ℕ) (st : State) → ((word : ℕ) × (cell_at st.cells ((s + k / 2) % 65536) ≡ Set word) × (byte_in k word ≡ byte) × (byte < 256)) → byte_of_string s k st ≡ Done byte st
byte_is s k byte st h = rw h.1 (ap (λ w. Done w st) h.2)

bytes_are : (s k : ℕ) (bytes : List ℕ) (st : State) → HoldsBytes st.cells s k bytes → bytes_of_string (length bytes) k s st ≡ Done bytes st
bytes_are s k [] st h = refl
bytes_are s k (byte ∷ bytes) st h = rw (byte_is s k byte st h.0, bytes_are s (k + 1) bytes st h.1) refl

string_is : (s : ℕ) (bytes : List ℕ) (st : State) → HoldsString st.cells s bytes → string_of s st ≡ Done bytes st
string_is s bytes st h = rw (byte_is s 0 (length bytes) st h.0, bytes_are s 1 bytes st h.1) refl

chosen_small : (n : ℕ) (t : Bool) → nat_le n 65535 ≡ t → cond t n 0 < 65536
chosen_small n true e = grind (arith, nat_tests)
chosen_small n false e = omega arith

number_small : (o : Option ℕ) → number_or_none o < 65536
number_small None = omega arith
number_small (Some n) = chosen_small n (nat_le n 65535) refl

find_small : (side : Side) (name : List ℕ) (c : Content) → find_stream side name c < 65536
find_small side name c = number_small (position_from (λ known. bytes_eq known name) 1 (names_of side c))

found_is : (side : Side) (f v : ℕ) (bytes : List ℕ) (st : State) → cell_at st.cells (f + 2) ≡ Set v → HoldsString st.cells v bytes → primitive_work (Find side) f st ≡ Done (find_stream side bytes st.streams) st
found_is side f v bytes st cell held = rw (cell, string_is v bytes st held) refl

-- FINDINPUT and FINDOUTPUT
pub runs_find : (program : List Placed) (a : ℕ) (side : Side) → entered_at program a ≡ entered_of (Some (OfLibrary (Find side))) → (n v f : ℕ) (σ : Shape) → v < 65536 → ((b : ℕ) → f ≤ b → σ b ≡ Gone) → f + 3 ≤ 65536
    → (bytes : List ℕ) → HoldsWords σ v (string_words bytes) → ((τ : Shape) (cells : List Cell) → Inv τ cells → HoldsWords τ v (string_words bytes) → HoldsString cells v bytes)
    → Runs σ IsWord σ (calls program n a (v ∷ []) f)
runs_find program a side is n v f σ word gone room bytes words held =
    runs_primitive program a (Find side) is n (v ∷ []) f σ (Set v) (Fixed v) (λ cells. refl) (refl, word) gone room (record { from = λ st i. by st i }) where
      by : (st : State) → Meets (kind_at (Fixed v) (f + 2) σ) st → Fine IsWord (kind_at (Fixed v) (f + 2) σ) (primitive_work (Find side) f st)
      by st i =
          let up : f ≤ f + 2 = omega arith in
          let cell : cell_at st.cells (f + 2) ≡ Set v = (subst (λ k. Fits k (cell_at st.cells (f + 2))) (kind_here (Fixed v) (f + 2) σ) (i.0.fits (f + 2))).0 in
          let string : HoldsString st.cells v bytes = held (kind_at (Fixed v) (f + 2) σ) st.cells i.0
          (words_kept σ (kind_at (Fixed v) (f + 2) σ) (keeps_kind (Fixed v) (f + 2) σ (λ r. subst Readable (gone (f + 2) up) r)) v (string_words bytes) words) in
          subst (λ o. Fine IsWord (kind_at (Fixed v) (f + 2) σ) o) (sym (found_is side f v bytes st cell string)) (find_small side bytes st.streams, i)
