-- What WRITEF does: an iteration for each kind of piece, the loop by induction over the pieces, and the call.
use Rattle.std.proofs.Common.{◌≡◌, ◌≢◌, inl, inr, ℕ, zero, suc, ◌+◌, ◌-◌, ◌*◌, ◌/◌, ◌%◌, ◌<◌, ◌≤◌, ◌==◌, List, [], ◌∷◌, ◌++◌, length, true, false, refl, ap, ◌∙◌, subst, arith}
use Rattle.std.proofs.lemmas.Bool.Decides.{nat_tests}
use Rattle.std.proofs.lemmas.List.{get_or-set_same, get_or-set_other, length-set, set-set, set_comm}
use Rattle.std.specs.Prelude.{slice_set, nat_le, int_lt, int_le}
use Rattle.std.specs.Fmt.{signed_decimal}
use Rattle.bc_word.specs.declared.operator.Op.TheVariants.{Greater}
use Rattle.bc_word.specs.Words.{signed}
use Rattle.bc_machine_defs.specs.Streams.{Content}
use Rattle.bc_machine_defs.specs.StreamCalls.{after_write}
use Rattle.bc_core.specs.Tree.{Bin}
use Rattle.bc_core.specs.Commands.{Initial, block}
use Rattle.bc_core.specs.Map.{Placed}
use Rattle.bc_core.specs.Store.{Cell, Dead, Unset, Set, cell_at, closed}
use Rattle.bc_core.specs.Outcome.{Done, then_do, choose, rounds}
use Rattle.bc_core.specs.Exit.{Past}
use Rattle.bc_core.specs.Loop.{LoopRound, back, leave, after_body, agrees}
use Rattle.bc_core.specs.Value.{truth}
use Rattle.bc_core.specs.Command.{perform_block}
use Rattle.bc_core.specs.Laws.{is_live}
use Rattle.bc_core.specs.Meaning.{calls, passed, body_value}
use Rattle.bc_core.proofs.Liveness.{Outside, passed_outside}
use Rattle.bc_library_laws.specs.Library as lib
use Rattle.bc_library_laws.specs.Library.{library, at, list, next}
use Rattle.bc_library_laws.specs.Laws.{state, Ready, byte_in, HoldsBytes, HoldsString, after_writes, turns_of, Piece, Plain, OfNumber, OfString, OfCharacter, Escaped, Lone, format_of, taken_by, written_by, turns_by, ArePieces}
use Rattle.bc_library_laws.proofs.Words.{up_to, past_end, at_most, not_at_most}
use Rattle.bc_library_laws.proofs.Steps.{Has, low, wrch, grown, less_room, fits_true, given_back, dead_cell, passed_length, frame_back}
use Rattle.bc_library_laws.proofs.Bytes.{get_byte_does}
use Rattle.bc_library_laws.proofs.Numbers.{writen_does}
use Rattle.bc_library_laws.proofs.Strings.{among, write_s_does}

-- one iteration of WRITEF's UNTIL
abbrev round : List Placed → (ℕ → ℕ) → (n f : ℕ) → Unit {0} → LoopRound
round program address n f u =
    then_do (truth (among program address n) (Bin Greater (at 8) (at 9)) f 10) (λ t.
    choose (agrees false t) (then_do (perform_block (among program address n) (block ((Initial next ∷ []) ∷ []) (list lib.round)) f 10) (after_body back)) leave)

-- with T, I and N
abbrev variables : List Cell → (f t i n : ℕ) → List Cell
variables c f t i n = slice_set (slice_set (slice_set c (f + 7) (Set t)) (f + 8) (Set i)) (f + 9) (Set n)

in_word : (f k : ℕ) → f + k < 65536 → (f + k) % 65536 ≡ f + k
in_word f k h = omega arith

unlike : (b k : ℕ) → b ≢ k → (b == k) ≡ false
unlike b k ne = grind (arith, nat_tests)

unlike_case : (b k : ℕ) → b ≢ k → (k == b) ≡ false
unlike_case b k ne = grind (arith, nat_tests)

abbrev with_k : List Cell → (f t i n : ℕ) → Cell → List Cell
with_k c f t i n x = slice_set (variables c f t i n) (f + 10) x

-- the cells of the frame, if those from f + 7 on were free before
section_ready7 : (address : ℕ → ℕ) (c : List Cell) (f t i n : ℕ) → Ready address c (f + 7) 30 → Ready address (variables c f t i n) (f + 10) 27
section_ready7 address c f t i n r =
    grown address _ (f + 9) (f + 10) (f + 9) 28 27 (Set n)
    (grown address _ (f + 8) (f + 9) (f + 8) 29 28 (Set i)
    (grown address c (f + 7) (f + 8) (f + 7) 30 29 (Set t) r (omega arith) (omega arith) (omega arith)) (omega arith) (omega arith) (omega arith)) (omega arith) (omega arith) (omega arith)

ready_k : (address : ℕ → ℕ) (c : List Cell) (f t i n : ℕ) (x : Cell) → Ready address c (f + 7) 30 → Ready address (with_k c f t i n x) (f + 11) 26
ready_k address c f t i n x r = grown address _ (f + 10) (f + 11) (f + 10) 27 26 x (section_ready7 address c f t i n r) (omega arith) (omega arith) (omega arith)

k_is : (address : ℕ → ℕ) (c : List Cell) (f t i n : ℕ) (x : Cell) → Ready address c (f + 7) 30 → cell_at (with_k c f t i n x) ((f + 10) % 65536) ≡ x
k_is address c f t i n x r =
    let q = section_ready7 address c f t i n r in
    let here : (f + 10) % 65536 ≡ f + 10 = in_word f 10 (omega (arith, r.room)) in
    rw here (get_or-set_same (variables c f t i n) (f + 10) x Dead (omega (arith, q.whole, r.room)))

n_in : (address : ℕ → ℕ) (c : List Cell) (f t i n : ℕ) → Ready address c (f + 7) 30 → cell_at (variables c f t i n) (f + 9) ≡ Set n
n_in address c f t i n r = get_or-set_same (slice_set (slice_set c (f + 7) (Set t)) (f + 8) (Set i)) (f + 9) (Set n) Dead
    (omega (arith, length-set (slice_set c (f + 7) (Set t)) (f + 8) (Set i), length-set c (f + 7) (Set t), r.whole, r.room))

i_in : (address : ℕ → ℕ) (c : List Cell) (f t i n : ℕ) → Ready address c (f + 7) 30 → cell_at (variables c f t i n) (f + 8) ≡ Set i
i_in address c f t i n r = get_or-set_other (slice_set (slice_set c (f + 7) (Set t)) (f + 8) (Set i)) (f + 9) (f + 8) (Set n) Dead (λ same. omega arith)
    ∙ get_or-set_same (slice_set c (f + 7) (Set t)) (f + 8) (Set i) Dead (omega (arith, length-set c (f + 7) (Set t), r.whole, r.room))

t_in : (address : ℕ → ℕ) (c : List Cell) (f t i n : ℕ) → Ready address c (f + 7) 30 → cell_at (variables c f t i n) (f + 7) ≡ Set t
t_in address c f t i n r = get_or-set_other (slice_set (slice_set c (f + 7) (Set t)) (f + 8) (Set i)) (f + 9) (f + 7) (Set n) Dead (λ same. omega arith)
    ∙ get_or-set_other (slice_set c (f + 7) (Set t)) (f + 8) (f + 7) (Set i) Dead (λ same. omega arith)
    ∙ get_or-set_same c (f + 7) (Set t) Dead (omega (arith, r.whole, r.room))

-- a cell that was set before
old_in : (address : ℕ → ℕ) (c : List Cell) (f t i n a w : ℕ) → Ready address c (f + 7) 30 → cell_at c a ≡ Set w → cell_at (variables c f t i n) a ≡ Set w
old_in address c f t i n a w r e =
    let lt = low (f + 7) a w c r.free e in
    get_or-set_other (slice_set (slice_set c (f + 7) (Set t)) (f + 8) (Set i)) (f + 9) a (Set n) Dead (λ same. omega (arith, lt))
    ∙ get_or-set_other (slice_set c (f + 7) (Set t)) (f + 8) a (Set i) Dead (λ same. omega (arith, lt))
    ∙ get_or-set_other c (f + 7) a (Set t) Dead (λ same. omega (arith, lt)) ∙ e

old_k : (address : ℕ → ℕ) (c : List Cell) (f t i n : ℕ) (x : Cell) (a w : ℕ) → Ready address c (f + 7) 30 → cell_at c a ≡ Set w → cell_at (with_k c f t i n x) a ≡ Set w
old_k address c f t i n x a w r e =
    let lt = low (f + 7) a w c r.free e in
    get_or-set_other (variables c f t i n) (f + 10) a x Dead (λ same. omega (arith, lt)) ∙ old_in address c f t i n a w r e

-- a variable, as the expression reads it
at_k : (address : ℕ → ℕ) (c : List Cell) (f t i n : ℕ) (x : Cell) (k w : ℕ) → Ready address c (f + 7) 30 → k < 10 → cell_at (variables c f t i n) (f + k) ≡ Set w → cell_at (with_k c f t i n x) ((f + k) % 65536) ≡ Set w
at_k address c f t i n x k w r lt e =
    let here : (f + k) % 65536 ≡ f + k = in_word f k (omega (arith, r.room)) in
    rw here (get_or-set_other (variables c f t i n) (f + 10) (f + k) x Dead (λ same. omega arith) ∙ e)

at_v : (address : ℕ → ℕ) (c : List Cell) (f t i n : ℕ) (k w : ℕ) → Ready address c (f + 7) 30 → k < 10 → cell_at (variables c f t i n) (f + k) ≡ Set w → cell_at (variables c f t i n) ((f + k) % 65536) ≡ Set w
at_v address c f t i n k w r lt e =
    let here : (f + k) % 65536 ≡ f + k = in_word f k (omega (arith, r.room)) in rw here e

k_set : (address : ℕ → ℕ) (c : List Cell) (f t i n : ℕ) (x y : Cell) → Ready address c (f + 7) 30 → slice_set (with_k c f t i n x) ((f + 10) % 65536) y ≡ with_k c f t i n y
k_set address c f t i n x y r =
    let here : (f + 10) % 65536 ≡ f + 10 = in_word f 10 (omega (arith, r.room)) in rw here (set-set (variables c f t i n) (f + 10) x y)

i_set : (address : ℕ → ℕ) (c : List Cell) (f t i n : ℕ) (x : Cell) → Ready address c (f + 7) 30 → i < 256 → slice_set (with_k c f t i n x) ((f + 8) % 65536) (Set ((i + 1) % 65536)) ≡ with_k c f t (i + 1) n x
i_set address c f t i n x r small =
    let here : (f + 8) % 65536 ≡ f + 8 = in_word f 8 (omega (arith, r.room)) in
    let more : (i + 1) % 65536 ≡ i + 1 = omega arith in
    rw (here, more) (set_comm (variables c f t i n) (f + 10) (f + 8) x (Set (i + 1)) (λ same. omega arith)
    ∙ ap (λ z. slice_set z (f + 10) x) (set_comm (slice_set (slice_set c (f + 7) (Set t)) (f + 8) (Set i)) (f + 9) (f + 8) (Set n) (Set (i + 1)) (λ same. omega arith)
    ∙ ap (λ z. slice_set z (f + 9) (Set n)) (set-set (slice_set c (f + 7) (Set t)) (f + 8) (Set i) (Set (i + 1)))))

t_set : (address : ℕ → ℕ) (c : List Cell) (f t i n : ℕ) (x : Cell) (u : ℕ) → Ready address c (f + 7) 30 → slice_set (with_k c f t i n x) ((f + 7) % 65536) (Set u) ≡ with_k c f u i n x
t_set address c f t i n x u r =
    let here : (f + 7) % 65536 ≡ f + 7 = in_word f 7 (omega (arith, r.room)) in
    rw here (set_comm (variables c f t i n) (f + 10) (f + 7) x (Set u) (λ same. omega arith)
    ∙ ap (λ z. slice_set z (f + 10) x) (set_comm (slice_set (slice_set c (f + 7) (Set t)) (f + 8) (Set i)) (f + 9) (f + 7) (Set n) (Set u) (λ same. omega arith)
    ∙ ap (λ z. slice_set z (f + 9) (Set n)) (set_comm (slice_set c (f + 7) (Set t)) (f + 8) (f + 7) (Set i) (Set u) (λ same. omega arith)
    ∙ ap (λ z. slice_set z (f + 8) (Set i)) (set-set c (f + 7) (Set t) (Set u)))))

k_gone : (address : ℕ → ℕ) (c : List Cell) (f t i n : ℕ) (x : Cell) → Ready address c (f + 7) 30 → slice_set (with_k c f t i n x) (f + 10) Dead ≡ variables c f t i n
k_gone address c f t i n x r = given_back (variables c f t i n) (f + 10) x (dead_cell _ ((section_ready7 address c f t i n r).free (f + 10) (omega arith)))

-- byte i of the format
record ByteAt (c : List Cell) (s i byte : ℕ) : Type 0 where
  word : ℕ
  there : cell_at c ((s + i / 2) % 65536) ≡ Set word
  is : byte_in i word ≡ byte
  small : byte < 256

plain_round : (program : List Placed) (address : ℕ → ℕ) → Has program address
    → (c : List Cell) (streams : Content) (f n t s v i last byte : ℕ) → Ready address c (f + 7) 30 → cell_at c (f + 2) ≡ Set s
    → ByteAt c s i byte → byte ≢ 37 → i ≤ last → last < 256
    → round program address (suc n) f tt (state (variables c f v i last) streams (suc (suc (suc t)))) ≡ back (state (variables c f v (i + 1) last) (after_write byte streams) (suc t))
plain_round program address h c streams f n t s v i last byte r s_in b not_percent le short =
    let going : int_lt (signed last) (signed i) ≡ false = up_to last i short le in
    let q = ready_k address c f v i last Unset r in
    let p = ready_k address c f v (i + 1) last (Set byte) r in
    let get = get_byte_does program address h (with_k c f v i last Unset) streams (f + 11) n (suc (suc t)) s i b.word (less_room address _ (f + 11) 26 8 (omega arith) q) (old_k address c f v i last Unset _ b.word r b.there) in
    let plain : (byte == 37) ≡ false = unlike byte 37 not_percent in
    let write = wrch program h.wrch (with_k c f v (i + 1) last (Set byte)) streams (f + 11) n (suc t) byte p.whole p.free (omega (arith, p.room)) in
    let is_byte : byte % 256 ≡ byte = omega (arith, b.small) in
    rw (
      at_v address c f v i last 8 i r (omega arith) (i_in address c f v i last r),
      at_v address c f v i last 9 last r (omega arith) (n_in address c f v i last r),
      going,
      at_k address c f v i last Unset 2 s r (omega arith) (old_in address c f v i last _ s r s_in),
      at_k address c f v i last Unset 8 i r (omega arith) (i_in address c f v i last r),
      q.get_byte,
      get,
      b.is,
      k_is address c f v i last Unset r,
      k_set address c f v i last Unset (Set byte) r,
      at_k address c f v i last (Set byte) 8 i r (omega arith) (i_in address c f v i last r),
      at_k address c f v i last (Set byte) 8 i r (omega arith) (i_in address c f v i last r),
      i_set address c f v i last (Set byte) r (omega arith),
      k_is address c f v (i + 1) last (Set byte) r,
      plain,
      k_is address c f v (i + 1) last (Set byte) r,
      p.write_char,
      write,
      is_byte,
      k_gone address c f v (i + 1) last (Set byte) r,
    ) refl

lone_round : (program : List Placed) (address : ℕ → ℕ) → Has program address
    → (c : List Cell) (streams : Content) (f n t s v i last : ℕ) → Ready address c (f + 7) 30 → cell_at c (f + 2) ≡ Set s
    → ByteAt c s i 37 → i ≡ last → last < 256
    → round program address (suc n) f tt (state (variables c f v i last) streams (suc (suc (suc t)))) ≡ back (state (variables c f v (i + 1) last) (after_write 37 streams) (suc t))
lone_round program address h c streams f n t s v i last r s_in b same short =
    let going : int_lt (signed last) (signed i) ≡ false = up_to last i short (omega arith) in
    let no_more : int_le (signed (i + 1)) (signed last) ≡ false = rw same (not_at_most last short) in
    let q = ready_k address c f v i last Unset r in
    let p = ready_k address c f v (i + 1) last (Set 37) r in
    let get = get_byte_does program address h (with_k c f v i last Unset) streams (f + 11) n (suc (suc t)) s i b.word (less_room address _ (f + 11) 26 8 (omega arith) q) (old_k address c f v i last Unset _ b.word r b.there) in
    let write = wrch program h.wrch (with_k c f v (i + 1) last (Set 37)) streams (f + 11) n (suc t) 37 p.whole p.free (omega (arith, p.room)) in
    rw (
      at_v address c f v i last 8 i r (omega arith) (i_in address c f v i last r),
      at_v address c f v i last 9 last r (omega arith) (n_in address c f v i last r),
      going,
      at_k address c f v i last Unset 2 s r (omega arith) (old_in address c f v i last _ s r s_in),
      at_k address c f v i last Unset 8 i r (omega arith) (i_in address c f v i last r),
      q.get_byte,
      get,
      b.is,
      k_is address c f v i last Unset r,
      k_set address c f v i last Unset (Set 37) r,
      at_k address c f v i last (Set 37) 8 i r (omega arith) (i_in address c f v i last r),
      at_k address c f v i last (Set 37) 8 i r (omega arith) (i_in address c f v i last r),
      i_set address c f v i last (Set 37) r (omega arith),
      k_is address c f v (i + 1) last (Set 37) r,
      at_k address c f v (i + 1) last (Set 37) 8 (i + 1) r (omega arith) (i_in address c f v (i + 1) last r),
      at_k address c f v (i + 1) last (Set 37) 9 last r (omega arith) (n_in address c f v (i + 1) last r),
      no_more,
      k_is address c f v (i + 1) last (Set 37) r,
      p.write_char,
      write,
      k_gone address c f v (i + 1) last (Set 37) r,
    ) refl

-- an iteration at `%N`, given what the call does
number_round : (program : List Placed) (address : ℕ → ℕ) → Has program address
    → (c : List Cell) (streams next : Content) (f n t T s v i last w : ℕ) → Ready address c (f + 7) 30 → cell_at c (f + 2) ≡ Set s
    → ByteAt c s i 37 → ByteAt c s (i + 1) 78 → suc i ≤ last → last < 256 → cell_at c v ≡ Set w → v < f + 7
    → calls program (suc n) (address 5) (w ∷ []) (f + 11) (state (with_k c f v (i + 1) last (Set 37)) streams T) ≡ Done 0 (state (with_k c f v (i + 1) last (Set 37)) next (suc t))
    → round program address (suc n) f tt (state (variables c f v i last) streams (suc (suc T))) ≡ back (state (variables c f (v + 1) (i + 1 + 1) last) next (suc t))
number_round program address h c streams next f n t T s v i last w r s_in b d le short w_in low_v does =
    let going : int_lt (signed last) (signed i) ≡ false = up_to last i short (omega arith) in
    let going_on : int_le (signed (i + 1)) (signed last) ≡ true = at_most last (i + 1) short (omega arith) in
    let q = ready_k address c f v i last Unset r in
    let p = ready_k address c f v (i + 1) last (Set 37) r in
    let get = get_byte_does program address h (with_k c f v i last Unset) streams (f + 11) n (suc T) s i b.word (less_room address _ (f + 11) 26 8 (omega arith) q) (old_k address c f v i last Unset _ b.word r b.there) in
    let get2 = get_byte_does program address h (with_k c f v (i + 1) last (Set 37)) streams (f + 11) n T s (i + 1) d.word (less_room address _ (f + 11) 26 8 (omega arith) p) (old_k address c f v (i + 1) last (Set 37) _ d.word r d.there) in
    let word : (v + 1) % 65536 ≡ v + 1 = omega (arith, r.room) in
    rw (
      at_v address c f v i last 8 i r (omega arith) (i_in address c f v i last r),
      at_v address c f v i last 9 last r (omega arith) (n_in address c f v i last r),
      going,
      at_k address c f v i last Unset 2 s r (omega arith) (old_in address c f v i last _ s r s_in),
      at_k address c f v i last Unset 8 i r (omega arith) (i_in address c f v i last r),
      q.get_byte,
      get,
      b.is,
      k_is address c f v i last Unset r,
      k_set address c f v i last Unset (Set 37) r,
      at_k address c f v i last (Set 37) 8 i r (omega arith) (i_in address c f v i last r),
      at_k address c f v i last (Set 37) 8 i r (omega arith) (i_in address c f v i last r),
      i_set address c f v i last (Set 37) r (omega arith),
      k_is address c f v (i + 1) last (Set 37) r,
      at_k address c f v (i + 1) last (Set 37) 8 (i + 1) r (omega arith) (i_in address c f v (i + 1) last r),
      at_k address c f v (i + 1) last (Set 37) 9 last r (omega arith) (n_in address c f v (i + 1) last r),
      going_on,
      at_k address c f v (i + 1) last (Set 37) 2 s r (omega arith) (old_in address c f v (i + 1) last _ s r s_in),
      at_k address c f v (i + 1) last (Set 37) 8 (i + 1) r (omega arith) (i_in address c f v (i + 1) last r),
      p.get_byte,
      get2,
      d.is,
      at_k address c f v (i + 1) last (Set 37) 7 v r (omega arith) (t_in address c f v (i + 1) last r),
      old_k address c f v (i + 1) last (Set 37) v w r w_in,
      p.write_n,
      does,
      at_k address c f v (i + 1) last (Set 37) 7 v r (omega arith) (t_in address c f v (i + 1) last r),
      at_k address c f v (i + 1) last (Set 37) 7 v r (omega arith) (t_in address c f v (i + 1) last r),
      word,
      t_set address c f v (i + 1) last (Set 37) (v + 1) r,
      at_k address c f (v + 1) (i + 1) last (Set 37) 8 (i + 1) r (omega arith) (i_in address c f (v + 1) (i + 1) last r),
      at_k address c f (v + 1) (i + 1) last (Set 37) 8 (i + 1) r (omega arith) (i_in address c f (v + 1) (i + 1) last r),
      i_set address c f (v + 1) (i + 1) last (Set 37) r (omega arith),
      k_gone address c f (v + 1) (i + 1 + 1) last (Set 37) r,
    ) refl

-- an iteration at `%S`, given what the call does
string_round : (program : List Placed) (address : ℕ → ℕ) → Has program address
    → (c : List Cell) (streams next : Content) (f n t T s v i last w : ℕ) → Ready address c (f + 7) 30 → cell_at c (f + 2) ≡ Set s
    → ByteAt c s i 37 → ByteAt c s (i + 1) 83 → suc i ≤ last → last < 256 → cell_at c v ≡ Set w → v < f + 7
    → calls program (suc n) (address 3) (w ∷ []) (f + 11) (state (with_k c f v (i + 1) last (Set 37)) streams T) ≡ Done 0 (state (with_k c f v (i + 1) last (Set 37)) next (suc t))
    → round program address (suc n) f tt (state (variables c f v i last) streams (suc (suc T))) ≡ back (state (variables c f (v + 1) (i + 1 + 1) last) next (suc t))
string_round program address h c streams next f n t T s v i last w r s_in b d le short w_in low_v does =
    let going : int_lt (signed last) (signed i) ≡ false = up_to last i short (omega arith) in
    let going_on : int_le (signed (i + 1)) (signed last) ≡ true = at_most last (i + 1) short (omega arith) in
    let q = ready_k address c f v i last Unset r in
    let p = ready_k address c f v (i + 1) last (Set 37) r in
    let get = get_byte_does program address h (with_k c f v i last Unset) streams (f + 11) n (suc T) s i b.word (less_room address _ (f + 11) 26 8 (omega arith) q) (old_k address c f v i last Unset _ b.word r b.there) in
    let get2 = get_byte_does program address h (with_k c f v (i + 1) last (Set 37)) streams (f + 11) n T s (i + 1) d.word (less_room address _ (f + 11) 26 8 (omega arith) p) (old_k address c f v (i + 1) last (Set 37) _ d.word r d.there) in
    let word : (v + 1) % 65536 ≡ v + 1 = omega (arith, r.room) in
    rw (
      at_v address c f v i last 8 i r (omega arith) (i_in address c f v i last r),
      at_v address c f v i last 9 last r (omega arith) (n_in address c f v i last r),
      going,
      at_k address c f v i last Unset 2 s r (omega arith) (old_in address c f v i last _ s r s_in),
      at_k address c f v i last Unset 8 i r (omega arith) (i_in address c f v i last r),
      q.get_byte,
      get,
      b.is,
      k_is address c f v i last Unset r,
      k_set address c f v i last Unset (Set 37) r,
      at_k address c f v i last (Set 37) 8 i r (omega arith) (i_in address c f v i last r),
      at_k address c f v i last (Set 37) 8 i r (omega arith) (i_in address c f v i last r),
      i_set address c f v i last (Set 37) r (omega arith),
      k_is address c f v (i + 1) last (Set 37) r,
      at_k address c f v (i + 1) last (Set 37) 8 (i + 1) r (omega arith) (i_in address c f v (i + 1) last r),
      at_k address c f v (i + 1) last (Set 37) 9 last r (omega arith) (n_in address c f v (i + 1) last r),
      going_on,
      at_k address c f v (i + 1) last (Set 37) 2 s r (omega arith) (old_in address c f v (i + 1) last _ s r s_in),
      at_k address c f v (i + 1) last (Set 37) 8 (i + 1) r (omega arith) (i_in address c f v (i + 1) last r),
      p.get_byte,
      get2,
      d.is,
      at_k address c f v (i + 1) last (Set 37) 7 v r (omega arith) (t_in address c f v (i + 1) last r),
      old_k address c f v (i + 1) last (Set 37) v w r w_in,
      p.write_s,
      does,
      at_k address c f v (i + 1) last (Set 37) 7 v r (omega arith) (t_in address c f v (i + 1) last r),
      at_k address c f v (i + 1) last (Set 37) 7 v r (omega arith) (t_in address c f v (i + 1) last r),
      word,
      t_set address c f v (i + 1) last (Set 37) (v + 1) r,
      at_k address c f (v + 1) (i + 1) last (Set 37) 8 (i + 1) r (omega arith) (i_in address c f (v + 1) (i + 1) last r),
      at_k address c f (v + 1) (i + 1) last (Set 37) 8 (i + 1) r (omega arith) (i_in address c f (v + 1) (i + 1) last r),
      i_set address c f (v + 1) (i + 1) last (Set 37) r (omega arith),
      k_gone address c f (v + 1) (i + 1 + 1) last (Set 37) r,
    ) refl

-- an iteration at `%C`, given what the call does
character_round : (program : List Placed) (address : ℕ → ℕ) → Has program address
    → (c : List Cell) (streams next : Content) (f n t T s v i last w : ℕ) → Ready address c (f + 7) 30 → cell_at c (f + 2) ≡ Set s
    → ByteAt c s i 37 → ByteAt c s (i + 1) 67 → suc i ≤ last → last < 256 → cell_at c v ≡ Set w → v < f + 7
    → calls program (suc n) 530 (w ∷ []) (f + 11) (state (with_k c f v (i + 1) last (Set 37)) streams T) ≡ Done 0 (state (with_k c f v (i + 1) last (Set 37)) next (suc t))
    → round program address (suc n) f tt (state (variables c f v i last) streams (suc (suc T))) ≡ back (state (variables c f (v + 1) (i + 1 + 1) last) next (suc t))
character_round program address h c streams next f n t T s v i last w r s_in b d le short w_in low_v does =
    let going : int_lt (signed last) (signed i) ≡ false = up_to last i short (omega arith) in
    let going_on : int_le (signed (i + 1)) (signed last) ≡ true = at_most last (i + 1) short (omega arith) in
    let q = ready_k address c f v i last Unset r in
    let p = ready_k address c f v (i + 1) last (Set 37) r in
    let get = get_byte_does program address h (with_k c f v i last Unset) streams (f + 11) n (suc T) s i b.word (less_room address _ (f + 11) 26 8 (omega arith) q) (old_k address c f v i last Unset _ b.word r b.there) in
    let get2 = get_byte_does program address h (with_k c f v (i + 1) last (Set 37)) streams (f + 11) n T s (i + 1) d.word (less_room address _ (f + 11) 26 8 (omega arith) p) (old_k address c f v (i + 1) last (Set 37) _ d.word r d.there) in
    let word : (v + 1) % 65536 ≡ v + 1 = omega (arith, r.room) in
    rw (
      at_v address c f v i last 8 i r (omega arith) (i_in address c f v i last r),
      at_v address c f v i last 9 last r (omega arith) (n_in address c f v i last r),
      going,
      at_k address c f v i last Unset 2 s r (omega arith) (old_in address c f v i last _ s r s_in),
      at_k address c f v i last Unset 8 i r (omega arith) (i_in address c f v i last r),
      q.get_byte,
      get,
      b.is,
      k_is address c f v i last Unset r,
      k_set address c f v i last Unset (Set 37) r,
      at_k address c f v i last (Set 37) 8 i r (omega arith) (i_in address c f v i last r),
      at_k address c f v i last (Set 37) 8 i r (omega arith) (i_in address c f v i last r),
      i_set address c f v i last (Set 37) r (omega arith),
      k_is address c f v (i + 1) last (Set 37) r,
      at_k address c f v (i + 1) last (Set 37) 8 (i + 1) r (omega arith) (i_in address c f v (i + 1) last r),
      at_k address c f v (i + 1) last (Set 37) 9 last r (omega arith) (n_in address c f v (i + 1) last r),
      going_on,
      at_k address c f v (i + 1) last (Set 37) 2 s r (omega arith) (old_in address c f v (i + 1) last _ s r s_in),
      at_k address c f v (i + 1) last (Set 37) 8 (i + 1) r (omega arith) (i_in address c f v (i + 1) last r),
      p.get_byte,
      get2,
      d.is,
      at_k address c f v (i + 1) last (Set 37) 7 v r (omega arith) (t_in address c f v (i + 1) last r),
      old_k address c f v (i + 1) last (Set 37) v w r w_in,
      p.write_char,
      does,
      at_k address c f v (i + 1) last (Set 37) 7 v r (omega arith) (t_in address c f v (i + 1) last r),
      at_k address c f v (i + 1) last (Set 37) 7 v r (omega arith) (t_in address c f v (i + 1) last r),
      word,
      t_set address c f v (i + 1) last (Set 37) (v + 1) r,
      at_k address c f (v + 1) (i + 1) last (Set 37) 8 (i + 1) r (omega arith) (i_in address c f (v + 1) (i + 1) last r),
      at_k address c f (v + 1) (i + 1) last (Set 37) 8 (i + 1) r (omega arith) (i_in address c f (v + 1) (i + 1) last r),
      i_set address c f (v + 1) (i + 1) last (Set 37) r (omega arith),
      k_gone address c f (v + 1) (i + 1 + 1) last (Set 37) r,
    ) refl

-- an iteration at a `%` before another byte
escaped_round : (program : List Placed) (address : ℕ → ℕ) → Has program address
    → (c : List Cell) (streams : Content) (f n t s v i last byte : ℕ) → Ready address c (f + 7) 30 → cell_at c (f + 2) ≡ Set s
    → ByteAt c s i 37 → ByteAt c s (i + 1) byte → byte ≢ 78 → byte ≢ 83 → byte ≢ 67 → suc i ≤ last → last < 256 → 0 < v → v < f + 8
    → round program address (suc n) f tt (state (variables c f v i last) streams (suc (suc (suc (suc (suc t)))))) ≡ back (state (variables c f v (i + 1 + 1) last) (after_write byte streams) (suc t))
escaped_round program address h c streams f n t s v i last byte r s_in b d no_n no_s no_c le short some_v low_v =
    let going : int_lt (signed last) (signed i) ≡ false = up_to last i short (omega arith) in
    let going_on : int_le (signed (i + 1)) (signed last) ≡ true = at_most last (i + 1) short (omega arith) in
    let q = ready_k address c f v i last Unset r in
    let p = ready_k address c f v (i + 1) last (Set 37) r in
    let get = get_byte_does program address h (with_k c f v i last Unset) streams (f + 11) n (suc (suc (suc (suc t)))) s i b.word (less_room address _ (f + 11) 26 8 (omega arith) q) (old_k address c f v i last Unset _ b.word r b.there) in
    let get2 = get_byte_does program address h (with_k c f v (i + 1) last (Set 37)) streams (f + 11) n (suc (suc (suc t))) s (i + 1) d.word (less_room address _ (f + 11) 26 8 (omega arith) p) (old_k address c f v (i + 1) last (Set 37) _ d.word r d.there) in
    let p13 : Ready address (with_k c f v (i + 1) last (Set 37)) (f + 13) 24 = grown address _ (f + 10) (f + 13) (f + 10) 27 24 (Set 37) (section_ready7 address c f v (i + 1) last r) (omega arith) (omega arith) (omega arith) in
    let get3 = get_byte_does program address h (with_k c f v (i + 1) last (Set 37)) streams (f + 13) n (suc (suc t)) s (i + 1) d.word (less_room address _ (f + 13) 24 8 (omega arith) p13) (old_k address c f v (i + 1) last (Set 37) _ d.word r d.there) in
    let write = wrch program h.wrch (with_k c f v (i + 1) last (Set 37)) streams (f + 11) n (suc t) byte p.whole p.free (omega (arith, p.room)) in
    let is_byte : byte % 256 ≡ byte = omega (arith, d.small) in
    let down : (v + 65535) % 65536 ≡ v - 1 = omega (arith, r.room) in
    let up : (v - 1 + 1) % 65536 ≡ v = omega (arith, r.room) in
    rw (
      at_v address c f v i last 8 i r (omega arith) (i_in address c f v i last r),
      at_v address c f v i last 9 last r (omega arith) (n_in address c f v i last r),
      going,
      at_k address c f v i last Unset 2 s r (omega arith) (old_in address c f v i last _ s r s_in),
      at_k address c f v i last Unset 8 i r (omega arith) (i_in address c f v i last r),
      q.get_byte,
      get,
      b.is,
      k_is address c f v i last Unset r,
      k_set address c f v i last Unset (Set 37) r,
      at_k address c f v i last (Set 37) 8 i r (omega arith) (i_in address c f v i last r),
      at_k address c f v i last (Set 37) 8 i r (omega arith) (i_in address c f v i last r),
      i_set address c f v i last (Set 37) r (omega arith),
      k_is address c f v (i + 1) last (Set 37) r,
      at_k address c f v (i + 1) last (Set 37) 8 (i + 1) r (omega arith) (i_in address c f v (i + 1) last r),
      at_k address c f v (i + 1) last (Set 37) 9 last r (omega arith) (n_in address c f v (i + 1) last r),
      going_on,
      at_k address c f v (i + 1) last (Set 37) 2 s r (omega arith) (old_in address c f v (i + 1) last _ s r s_in),
      at_k address c f v (i + 1) last (Set 37) 8 (i + 1) r (omega arith) (i_in address c f v (i + 1) last r),
      p.get_byte,
      get2,
      d.is,
      unlike_case byte 78 no_n,
      unlike_case byte 83 no_s,
      unlike_case byte 67 no_c,
      at_k address c f v (i + 1) last (Set 37) 2 s r (omega arith) (old_in address c f v (i + 1) last _ s r s_in),
      at_k address c f v (i + 1) last (Set 37) 8 (i + 1) r (omega arith) (i_in address c f v (i + 1) last r),
      p.get_byte,
      get3,
      d.is,
      p.write_char,
      write,
      is_byte,
      at_k address c f v (i + 1) last (Set 37) 7 v r (omega arith) (t_in address c f v (i + 1) last r),
      at_k address c f v (i + 1) last (Set 37) 7 v r (omega arith) (t_in address c f v (i + 1) last r),
      down,
      t_set address c f v (i + 1) last (Set 37) (v - 1) r,
      at_k address c f (v - 1) (i + 1) last (Set 37) 7 (v - 1) r (omega arith) (t_in address c f (v - 1) (i + 1) last r),
      at_k address c f (v - 1) (i + 1) last (Set 37) 7 (v - 1) r (omega arith) (t_in address c f (v - 1) (i + 1) last r),
      up,
      t_set address c f (v - 1) (i + 1) last (Set 37) v r,
      at_k address c f v (i + 1) last (Set 37) 8 (i + 1) r (omega arith) (i_in address c f v (i + 1) last r),
      at_k address c f v (i + 1) last (Set 37) 8 (i + 1) r (omega arith) (i_in address c f v (i + 1) last r),
      i_set address c f v (i + 1) last (Set 37) r (omega arith),
      k_gone address c f v (i + 1 + 1) last (Set 37) r,
    ) refl

bytes_moved : (c d : List Cell) → ((a w : ℕ) → cell_at c a ≡ Set w → cell_at d a ≡ Set w) → (s i : ℕ) (bytes : List ℕ) → HoldsBytes c s i bytes → HoldsBytes d s i bytes
bytes_moved c d m s i [] h = tt
bytes_moved c d m s i (b ∷ bs) h = ((h.0.0, m _ _ h.0.1, h.0.2, h.0.3), bytes_moved c d m s (i + 1) bs h.1)

pieces_moved : (c d : List Cell) → ((a w : ℕ) → cell_at c a ≡ Set w → cell_at d a ≡ Set w) → (ps : List Piece) → ArePieces c ps → ArePieces d ps
pieces_moved c d m [] h = tt
pieces_moved c d m (Plain b ∷ ps) h = (h.0, pieces_moved c d m ps h.1)
pieces_moved c d m (OfNumber w ∷ ps) h = (h.0, pieces_moved c d m ps h.1)
pieces_moved c d m (OfString s bytes ∷ ps) h = (bytes_moved c d m s 0 (length bytes ∷ bytes) h.0, pieces_moved c d m ps h.1)
pieces_moved c d m (OfCharacter w ∷ ps) h = pieces_moved c d m ps h
pieces_moved c d m (Escaped b ∷ ps) h = (h.0, pieces_moved c d m ps h.1)
pieces_moved c d m (Lone ∷ ps) h = (h.0, pieces_moved c d m ps h.1)

-- words in neighbouring cells
abbrev HoldWords : List Cell → ℕ → List ℕ → Type 0
HoldWords c a [] = Unit {0}
HoldWords c a (w ∷ ws) = (cell_at c a ≡ Set w) × HoldWords c (a + 1) ws

after_both : (xs ys : List ℕ) (streams : Content) → after_writes (xs ++ ys) streams ≡ after_writes ys (after_writes xs streams)
after_both [] ys streams = refl
after_both (x ∷ xs) ys streams = after_both xs ys (after_write x streams)

byte_first : (c : List Cell) (s i b : ℕ) (bs : List ℕ) → HoldsBytes c s i (b ∷ bs) → ByteAt c s i b
byte_first c s i b bs h = record { word = h.0.0; there = h.0.1; is = h.0.2; small = h.0.3 }

-- the remaining turns of the call suffice as its nesting depth
loop : (program : List Placed) (address : ℕ → ℕ) → Has program address
    → (c : List Cell) (f n t s last : ℕ) → Ready address c (f + 7) 30 → cell_at c (f + 2) ≡ Set s → last < 256
    → (pieces : List Piece) (streams : Content) (v i K T x : ℕ) → HoldsBytes c s i (format_of pieces) → ArePieces c pieces → HoldWords c v (taken_by pieces)
    → i + length (format_of pieces) ≡ suc last → 0 < v → v + length (taken_by pieces) ≤ f + 7 → turns_by pieces ≤ n
    → K ≡ length pieces + x → T ≡ turns_by pieces + t
    → rounds (suc K) (round program address (suc n) f) tt (state (variables c f v i last) streams T)
    ≡ Done Past (state (variables c f (v + length (taken_by pieces)) (suc last) last) (after_writes (written_by pieces) streams) t)
loop program address h c f n t s last r s_in short [] streams v i K T x b ps ws ei some_v room deep eK eT =
    let end : i ≡ suc last = omega (arith, ei) in
    let turns : T ≡ t = omega (arith, eT) in
    let none : v + 0 ≡ v = omega arith in
    let ended : int_lt (signed last) (signed (suc last)) ≡ true = past_end last short in
    rw (end, turns, none, at_v address c f v (suc last) last 8 (suc last) r (omega arith) (i_in address c f v (suc last) last r), at_v address c f v (suc last) last 9 last r (omega arith) (n_in address c f v (suc last) last r), ended) refl
loop program address h c f n t s last r s_in short (Plain byte ∷ ps) streams v i K T x b pieces ws ei some_v room deep eK eT =
    let turns : T ≡ suc (suc (suc (turns_by ps + t))) = omega (arith, eT) in
    let fuel : K ≡ suc (length ps + x) = omega (arith, eK) in
    let first = plain_round program address h c streams f n (turns_by ps + t) s v i last byte r s_in (byte_first c s i byte (format_of ps) b) pieces.0 (omega (arith, ei)) short in
    rw (turns, fuel, first)
    (loop program address h c f n t s last r s_in short ps (after_write byte streams) v (i + 1) (length ps + x) (turns_by ps + t) x b.1 pieces.1 ws (omega (arith, ei)) some_v room (omega (arith, deep)) refl refl)
loop program address h c f n t s last r s_in short (OfNumber w ∷ ps) streams v i K T x b pieces ws ei some_v room deep eK eT =
    let turns : T ≡ suc (suc (turns_of (signed w) + suc (turns_by ps + t))) = omega (arith, eT) in
    let fuel : K ≡ suc (length ps + x) = omega (arith, eK) in
    let nest : turns_of (signed w) + (suc n - turns_of (signed w)) ≡ suc n = omega (arith, deep) in
    let q = ready_k address c f v (i + 1) last (Set 37) r in
    let does = rw nest at (writen_does program address h w pieces.0 (with_k c f v (i + 1) last (Set 37)) streams (f + 11) (suc n - turns_of (signed w)) (suc (turns_by ps + t)) (less_room address _ (f + 11) 26 20 (omega arith) q)) in
    let first = number_round program address h c streams (after_writes (signed_decimal (signed w)) streams) f n (turns_by ps + t) (turns_of (signed w) + suc (turns_by ps + t)) s v i last w r s_in
    (byte_first c s i 37 (78 ∷ format_of ps) b) (byte_first c s (i + 1) 78 (format_of ps) b.1) (omega (arith, ei)) short ws.0 (omega (arith, room)) does in
    let moved : v + suc (length (taken_by ps)) ≡ v + 1 + length (taken_by ps) = omega arith in
    rw (turns, fuel, first, after_both (signed_decimal (signed w)) (written_by ps) streams, moved)
    (loop program address h c f n t s last r s_in short ps (after_writes (signed_decimal (signed w)) streams) (v + 1) (i + 1 + 1) (length ps + x) (turns_by ps + t) x b.1.1 pieces.1 ws.1 (omega (arith, ei)) (omega arith) (omega (arith, room)) (omega (arith, deep)) refl refl)
loop program address h c f n t s last r s_in short (OfString a bytes ∷ ps) streams v i K T x b pieces ws ei some_v room deep eK eT =
    let turns : T ≡ suc (suc (suc (suc (3 * length bytes + suc (turns_by ps + t))))) = omega (arith, eT) in
    let fuel : K ≡ suc (length ps + x) = omega (arith, eK) in
    let nest : suc (suc (n - 1)) ≡ suc n = omega (arith, deep) in
    let q = ready_k address c f v (i + 1) last (Set 37) r in
    let text = bytes_moved c (with_k c f v (i + 1) last (Set 37)) (λ a w e. old_k address c f v (i + 1) last (Set 37) a w r e) a 0 (length bytes ∷ bytes) pieces.0 in
    let does = subst (λ d. calls program d (address 3) (a ∷ []) (f + 11) (state (with_k c f v (i + 1) last (Set 37)) streams (suc (suc (3 * length bytes + suc (turns_by ps + t))))) ≡ Done 0 (state (with_k c f v (i + 1) last (Set 37)) (after_writes bytes streams) (suc (turns_by ps + t)))) nest (write_s_does program address h a bytes (with_k c f v (i + 1) last (Set 37)) streams (f + 11) (n - 1) (suc (turns_by ps + t)) (less_room address _ (f + 11) 26 15 (omega arith) q) text) in
    let first = string_round program address h c streams (after_writes bytes streams) f n (turns_by ps + t) (suc (suc (3 * length bytes + suc (turns_by ps + t)))) s v i last a r s_in
    (byte_first c s i 37 (83 ∷ format_of ps) b) (byte_first c s (i + 1) 83 (format_of ps) b.1) (omega (arith, ei)) short ws.0 (omega (arith, room)) does in
    let moved : v + suc (length (taken_by ps)) ≡ v + 1 + length (taken_by ps) = omega arith in
    rw (turns, fuel, first, after_both bytes (written_by ps) streams, moved)
    (loop program address h c f n t s last r s_in short ps (after_writes bytes streams) (v + 1) (i + 1 + 1) (length ps + x) (turns_by ps + t) x b.1.1 pieces.1 ws.1 (omega (arith, ei)) (omega arith) (omega (arith, room)) (omega (arith, deep)) refl refl)
loop program address h c f n t s last r s_in short (OfCharacter w ∷ ps) streams v i K T x b pieces ws ei some_v room deep eK eT =
    let turns : T ≡ suc (suc (suc (suc (turns_by ps + t)))) = omega (arith, eT) in
    let fuel : K ≡ suc (length ps + x) = omega (arith, eK) in
    let q = ready_k address c f v (i + 1) last (Set 37) r in
    let does = wrch program h.wrch (with_k c f v (i + 1) last (Set 37)) streams (f + 11) n (suc (turns_by ps + t)) w q.whole q.free (omega (arith, q.room)) in
    let first = character_round program address h c streams (after_write (w % 256) streams) f n (turns_by ps + t) (suc (suc (turns_by ps + t))) s v i last w r s_in
    (byte_first c s i 37 (67 ∷ format_of ps) b) (byte_first c s (i + 1) 67 (format_of ps) b.1) (omega (arith, ei)) short ws.0 (omega (arith, room)) does in
    let moved : v + suc (length (taken_by ps)) ≡ v + 1 + length (taken_by ps) = omega arith in
    rw (turns, fuel, first, moved)
    (loop program address h c f n t s last r s_in short ps (after_write (w % 256) streams) (v + 1) (i + 1 + 1) (length ps + x) (turns_by ps + t) x b.1.1 pieces ws.1 (omega (arith, ei)) (omega arith) (omega (arith, room)) (omega (arith, deep)) refl refl)
loop program address h c f n t s last r s_in short (Escaped byte ∷ ps) streams v i K T x b pieces ws ei some_v room deep eK eT =
    let turns : T ≡ suc (suc (suc (suc (suc (turns_by ps + t))))) = omega (arith, eT) in
    let fuel : K ≡ suc (length ps + x) = omega (arith, eK) in
    let first = escaped_round program address h c streams f n (turns_by ps + t) s v i last byte r s_in
    (byte_first c s i 37 (byte ∷ format_of ps) b) (byte_first c s (i + 1) byte (format_of ps) b.1) pieces.0.0 pieces.0.1 pieces.0.2 (omega (arith, ei)) short some_v (omega (arith, room)) in
    rw (turns, fuel, first)
    (loop program address h c f n t s last r s_in short ps (after_write byte streams) v (i + 1 + 1) (length ps + x) (turns_by ps + t) x b.1.1 pieces.1 ws (omega (arith, ei)) some_v room (omega (arith, deep)) refl refl)
loop program address h c f n t s last r s_in short (Lone ∷ ps) streams v i K T x b pieces ws ei some_v room deep eK eT =
    let turns : T ≡ suc (suc (suc (turns_by ps + t))) = omega (arith, eT) in
    let fuel : K ≡ suc (length ps + x) = omega (arith, eK) in
    let at_end : i ≡ last = omega (arith, ei, pieces.0) in
    let first = lone_round program address h c streams f n (turns_by ps + t) s v i last r s_in (byte_first c s i 37 (format_of ps) b) at_end short in
    rw (turns, fuel, first)
    (loop program address h c f n t s last r s_in short ps (after_write 37 streams) v (i + 1) (length ps + x) (turns_by ps + t) x b.1 pieces.1 ws (omega (arith, ei)) some_v room (omega (arith, deep)) refl refl)

-- T, I and N while they are initialised
abbrev made : List Cell → (f : ℕ) → (x y z : Cell) → List Cell
made c f x y z = slice_set (slice_set (slice_set c (f + 7) x) (f + 8) y) (f + 9) z

made_ready : (address : ℕ → ℕ) (c : List Cell) (f : ℕ) (x y z : Cell) → Ready address c (f + 7) 30 → Ready address (made c f x y z) (f + 10) 27
made_ready address c f x y z r =
    grown address _ (f + 9) (f + 10) (f + 9) 28 27 z
    (grown address _ (f + 8) (f + 9) (f + 8) 29 28 y
    (grown address c (f + 7) (f + 8) (f + 7) 30 29 x r (omega arith) (omega arith) (omega arith)) (omega arith) (omega arith) (omega arith)) (omega arith) (omega arith) (omega arith)

made_old : (address : ℕ → ℕ) (c : List Cell) (f : ℕ) (x y z : Cell) (a w : ℕ) → Ready address c (f + 7) 30 → cell_at c a ≡ Set w → cell_at (made c f x y z) a ≡ Set w
made_old address c f x y z a w r e =
    let lt = low (f + 7) a w c r.free e in
    get_or-set_other (slice_set (slice_set c (f + 7) x) (f + 8) y) (f + 9) a z Dead (λ same. omega (arith, lt))
    ∙ get_or-set_other (slice_set c (f + 7) x) (f + 8) a y Dead (λ same. omega (arith, lt))
    ∙ get_or-set_other c (f + 7) a x Dead (λ same. omega (arith, lt)) ∙ e

passed_holds : (n a : ℕ) (ws more : List ℕ) (cells : List Cell) → length ws ≤ n → a + n ≤ length cells → HoldWords (passed n a (ws ++ more) cells) a ws
passed_holds n a [] more cells le fits = tt
passed_holds zero a (w ∷ ws) more cells le fits = absurd (let z : suc (length ws) ≤ 0 = le in omega arith)
passed_holds (suc n) a (w ∷ ws) more cells le fits = (
  passed_outside n (a + 1) (ws ++ more) (slice_set cells a (Set w)) a (inl (omega arith)) ∙ get_or-set_same cells a (Set w) Dead (omega arith),
  passed_holds n (a + 1) ws more (slice_set cells a (Set w)) (let z : suc (length ws) ≤ suc n = le in omega arith) (omega (arith, length-set cells a (Set w))),
)

apart : (f a k : ℕ) → Outside 3 (f + 7) a → 7 ≤ k → k < 10 → a ≢ f + k
apart f a k (inl lt) low_k high same = omega arith
apart f a k (inr ge) low_k high same = omega arith

-- each piece uses at least one turn
few_pieces : (ps : List Piece) → length ps ≤ turns_by ps
few_pieces [] = omega arith
few_pieces (Plain b ∷ ps) = omega (arith, few_pieces ps)
few_pieces (OfNumber w ∷ ps) = omega (arith, few_pieces ps)
few_pieces (OfString s bytes ∷ ps) = omega (arith, few_pieces ps)
few_pieces (OfCharacter w ∷ ps) = omega (arith, few_pieces ps)
few_pieces (Escaped b ∷ ps) = omega (arith, few_pieces ps)
few_pieces (Lone ∷ ps) = omega (arith, few_pieces ps)

-- the body of WRITEF, in a store with its arguments
body_does : (program : List Placed) (address : ℕ → ℕ) → Has program address
    → (s : ℕ) (pieces : List Piece) (c : List Cell) (streams : Content) (f n t : ℕ) → Ready address c (f + 7) 30 → cell_at c (f + 2) ≡ Set s
    → HoldsString c s (format_of pieces) → ArePieces c pieces → HoldWords c (f + 3) (taken_by pieces) → length (taken_by pieces) ≤ 4 → turns_by pieces ≤ n
    → body_value (among program address (suc n)) lib.write_f.body f 7 (state c streams (suc (turns_by pieces + t)))
    ≡ Done 0 (state c (after_writes (written_by pieces) streams) t)
body_does program address h s pieces c streams f n t r s_in b ps words few deep =
    let e8 : f + 7 + 1 ≡ f + 8 = omega arith in
    let e9 : f + 8 + 1 ≡ f + 9 = omega arith in
    let h3 : (f + 3) % 65536 ≡ f + 3 = in_word f 3 (omega (arith, r.room)) in
    let h7 : (f + 7) % 65536 ≡ f + 7 = in_word f 7 (omega (arith, r.room)) in
    let h8 : (f + 8) % 65536 ≡ f + 8 = in_word f 8 (omega (arith, r.room)) in
    let h9 : (f + 9) % 65536 ≡ f + 9 = in_word f 9 (omega (arith, r.room)) in
    let h2 : (f + 2) % 65536 ≡ f + 2 = in_word f 2 (omega (arith, r.room)) in
    let u7 : cell_at (made c f Unset Unset Unset) ((f + 7) % 65536) ≡ Unset =
    rw h7 (get_or-set_other (slice_set (slice_set c (f + 7) Unset) (f + 8) Unset) (f + 9) (f + 7) Unset Dead (λ same. omega arith)
    ∙ get_or-set_other (slice_set c (f + 7) Unset) (f + 8) (f + 7) Unset Dead (λ same. omega arith) ∙ get_or-set_same c (f + 7) Unset Dead (omega (arith, r.whole, r.room))) in
    let s7 : slice_set (made c f Unset Unset Unset) ((f + 7) % 65536) (Set ((f + 3) % 65536)) ≡ made c f (Set (f + 3)) Unset Unset =
    rw (h7, h3) (set_comm (slice_set (slice_set c (f + 7) Unset) (f + 8) Unset) (f + 9) (f + 7) Unset (Set (f + 3)) (λ same. omega arith)
    ∙ ap (λ z. slice_set z (f + 9) Unset) (set_comm (slice_set c (f + 7) Unset) (f + 8) (f + 7) Unset (Set (f + 3)) (λ same. omega arith)
    ∙ ap (λ z. slice_set z (f + 8) Unset) (set-set c (f + 7) Unset (Set (f + 3))))) in
    let size7 = length-set c (f + 7) (Set (f + 3)) in
    let u8 : cell_at (made c f (Set (f + 3)) Unset Unset) ((f + 8) % 65536) ≡ Unset =
    rw h8 (get_or-set_other (slice_set (slice_set c (f + 7) (Set (f + 3))) (f + 8) Unset) (f + 9) (f + 8) Unset Dead (λ same. omega arith)
    ∙ get_or-set_same (slice_set c (f + 7) (Set (f + 3))) (f + 8) Unset Dead (omega (arith, size7, r.whole, r.room))) in
    let s8 : slice_set (made c f (Set (f + 3)) Unset Unset) ((f + 8) % 65536) (Set 1) ≡ made c f (Set (f + 3)) (Set 1) Unset =
    rw h8 (set_comm (slice_set (slice_set c (f + 7) (Set (f + 3))) (f + 8) Unset) (f + 9) (f + 8) Unset (Set 1) (λ same. omega arith)
    ∙ ap (λ z. slice_set z (f + 9) Unset) (set-set (slice_set c (f + 7) (Set (f + 3))) (f + 8) Unset (Set 1))) in
    let size8 = length-set (slice_set c (f + 7) (Set (f + 3))) (f + 8) (Set 1) in
    let u9 : cell_at (made c f (Set (f + 3)) (Set 1) Unset) ((f + 9) % 65536) ≡ Unset =
    rw h9 (get_or-set_same (slice_set (slice_set c (f + 7) (Set (f + 3))) (f + 8) (Set 1)) (f + 9) Unset Dead (omega (arith, size8, size7, r.whole, r.room))) in
    let s9 : slice_set (made c f (Set (f + 3)) (Set 1) Unset) ((f + 9) % 65536) (Set (length (format_of pieces))) ≡ variables c f (f + 3) 1 (length (format_of pieces)) =
    rw h9 (set-set (slice_set (slice_set c (f + 7) (Set (f + 3))) (f + 8) (Set 1)) (f + 9) Unset (Set (length (format_of pieces)))) in
    let q = made_ready address c f (Set (f + 3)) (Set 1) Unset r in
    let s_is : cell_at (made c f (Set (f + 3)) (Set 1) Unset) ((f + 2) % 65536) ≡ Set s = rw h2 (made_old address c f (Set (f + 3)) (Set 1) Unset (f + 2) s r s_in) in
    let get = get_byte_does program address h (made c f (Set (f + 3)) (Set 1) Unset) streams (f + 10) n (turns_by pieces + t) s 0 b.0.0 (less_room address _ (f + 10) 27 8 (omega arith) q)
    (made_old address c f (Set (f + 3)) (Set 1) Unset _ b.0.0 r b.0.1) in
    let all_rounds = loop program address h c f n t s (length (format_of pieces)) r s_in b.0.3 pieces streams (f + 3) 1 (turns_by pieces + t) (turns_by pieces + t) (turns_by pieces + t - length pieces)
    b.1 ps words (omega arith) (omega arith) (omega (arith, few)) deep (omega (arith, few_pieces pieces)) refl in
    let v : ℕ = f + 3 + length (taken_by pieces) in
    let gone : closed 3 (f + 7) (variables c f (f + 3 + length (taken_by pieces)) (suc (length (format_of pieces))) (length (format_of pieces))) ≡ c =
    frame_back 3 (f + 7) (f + 7) (variables c f (f + 3 + length (taken_by pieces)) (suc (length (format_of pieces))) (length (format_of pieces))) c r.free (omega arith)
    (length-set _ (f + 9) _ ∙ length-set _ (f + 8) _ ∙ length-set c (f + 7) _)
    (λ a out. get_or-set_other _ (f + 9) a _ Dead (apart f a 9 out (omega arith) (omega arith)) ∙ get_or-set_other _ (f + 8) a _ Dead (apart f a 8 out (omega arith) (omega arith)) ∙ get_or-set_other c (f + 7) a _ Dead (apart f a 7 out (omega arith) (omega arith))) in
    rw (e8, e9, u7, s7, u8, s8, s_is, q.get_byte, get, b.0.2, u9, s9, all_rounds, gone) refl

-- a format has at least as many bytes as pieces
pub write_f_does : (program : List Placed) (address : ℕ → ℕ) → Has program address
    → (s : ℕ) (pieces : List Piece) (more : List ℕ) (cells : List Cell) (streams : Content) (f n t : ℕ) → Ready address cells f 37
    → HoldsString cells s (format_of pieces) → ArePieces cells pieces → length (taken_by pieces) ≤ 4 → turns_by pieces ≤ n
    → calls program (suc (suc n)) (address 6) (s ∷ (taken_by pieces ++ more)) f (state cells streams (suc (suc (turns_by pieces + t))))
    ≡ Done 0 (state cells (after_writes (written_by pieces) streams) t)
write_f_does program address h s pieces more cells streams f n t r b ps few deep = whole where
  kept_in : (a w : ℕ) → cell_at cells a ≡ Set w → cell_at (passed 5 (f + 2) (s ∷ (taken_by pieces ++ more)) cells) a ≡ Set w
  kept_in a w e = let lt = low f a w cells r.free e in passed_outside 5 (f + 2) (s ∷ (taken_by pieces ++ more)) cells a (inl (omega (arith, lt))) ∙ e

  rc : Ready address (passed 5 (f + 2) (s ∷ (taken_by pieces ++ more)) cells) (f + 7) 30
  rc = record {
    whole = passed_length 5 (f + 2) (s ∷ (taken_by pieces ++ more)) cells ∙ r.whole;
    free = λ a up. ap is_live (passed_outside 5 (f + 2) (s ∷ (taken_by pieces ++ more)) cells a (inr (omega arith))) ∙ r.free a (omega arith);
    room = omega (arith, r.room);
    write_char = kept_in 22 530 r.write_char;
    get_byte = kept_in 28 (address 1) r.get_byte;
    write_s = kept_in 30 (address 3) r.write_s;
    write_n = kept_in 31 (address 5) r.write_n;
  }

  s_in : cell_at (passed 5 (f + 2) (s ∷ (taken_by pieces ++ more)) cells) (f + 2) ≡ Set s
  s_in = passed_outside 4 (f + 2 + 1) (taken_by pieces ++ more) (slice_set cells (f + 2) (Set s)) (f + 2) (inl (omega arith)) ∙ get_or-set_same cells (f + 2) (Set s) Dead (omega (arith, r.whole, r.room))

  words : HoldWords (passed 5 (f + 2) (s ∷ (taken_by pieces ++ more)) cells) (f + 3) (taken_by pieces)
  words =
      let there : f + 3 ≡ f + 2 + 1 = omega arith in
      rw there (passed_holds 4 (f + 2 + 1) (taken_by pieces) more (slice_set cells (f + 2) (Set s)) few (omega (arith, length-set cells (f + 2) (Set s), r.whole, r.room)))

  whole : calls program (suc (suc n)) (address 6) (s ∷ (taken_by pieces ++ more)) f (state cells streams (suc (suc (turns_by pieces + t))))
      ≡ Done 0 (state cells (after_writes (written_by pieces) streams) t)
  whole =
      let fits : nat_le (f + 17) 65536 ≡ true = fits_true _ _ (omega (arith, r.room)) in
      let body = body_does program address h s pieces (passed 5 (f + 2) (s ∷ (taken_by pieces ++ more)) cells) streams f n t rc s_in
      (bytes_moved cells _ kept_in s 0 (length (format_of pieces) ∷ format_of pieces) b) (pieces_moved cells _ kept_in pieces ps) words few deep in
      let gone : closed 5 (f + 2) (passed 5 (f + 2) (s ∷ (taken_by pieces ++ more)) cells) ≡ cells =
      frame_back 5 f (f + 2) (passed 5 (f + 2) (s ∷ (taken_by pieces ++ more)) cells) cells r.free (omega arith) (passed_length 5 (f + 2) (s ∷ (taken_by pieces ++ more)) cells)
      (λ a out. passed_outside 5 (f + 2) (s ∷ (taken_by pieces ++ more)) cells a out) in
      rw (h.write_f, fits, body, gone) refl
