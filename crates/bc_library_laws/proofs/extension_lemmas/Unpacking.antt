-- What UNPACKSTRING does: its FOR, by induction over the remaining bytes.
use Rattle.std.proofs.Common.{◌≡◌, ◌≢◌, ℕ, suc, ◌+◌, ◌-◌, ◌*◌, ◌/◌, ◌%◌, ◌<◌, ◌≤◌, List, [], ◌∷◌, length, true, false, refl, sym, ap, ◌∙◌, arith}
use Rattle.std.proofs.lemmas.List.{get_or-set_other}
use Rattle.std.specs.Prelude.{slice_set, nat_le, int_lt}
use Rattle.bc_word.specs.Words.{signed, holds}
use Rattle.bc_machine_defs.specs.Streams.{Content}
use Rattle.bc_core.specs.Tree.{Load, Frame, Bin}
use Rattle.bc_word.specs.declared.operator.Op.TheVariants.{Add}
use Rattle.bc_core.specs.Commands as c
use Rattle.bc_core.specs.Map.{Placed}
use Rattle.bc_core.specs.Store.{Cell, Dead, Unset, Set, cell_at, closed}
use Rattle.bc_core.specs.Outcome.{Done, Run, then_do, choose, rounds}
use Rattle.bc_core.specs.Exit.{Past}
use Rattle.bc_core.specs.Loop.{LoopRound, back, leave, after_body, end_relation}
use Rattle.bc_core.specs.Value.{Context, value, assign}
use Rattle.bc_core.specs.Command.{perform_block, step_of_for}
use Rattle.bc_core.specs.Laws.{is_live}
use Rattle.bc_core.specs.Meaning.{calls, context}
use Rattle.bc_library_laws.specs.Library.{at, commands, calling}
use Rattle.bc_library_laws.specs.Laws.{state, HoldsBytes, HoldsString}
use Rattle.bc_library_laws.proofs.Words.{up_to, past_end}
use Rattle.bc_library_laws.proofs.Steps.{Has, fits_true}
use Rattle.bc_library_laws.proofs.Bytes.{get_byte_does}
use Rattle.bc_library_laws.specs.extension.Laws.{Able, laid, IsVector, IsApart, with_words}
use Rattle.bc_library_laws.proofs.extension_lemmas.Frames.{reads, writes, opens, set_before, set_below, laid_back, laid_close, laid_below, able_after, able_written, live_below, writes_live, words_free}
use Rattle.bc_library_laws.proofs.extension_lemmas.Finding.{HasFurther}

-- one iteration of the FOR, with its variable at f + 4 and this limit
abbrev round : (C : Context) → (f limit : ℕ) → Unit {0} → LoopRound
round C f limit u =
    then_do (value C (Load (Frame 4)) f 6) (λ i.
    choose (holds (end_relation 1) i limit) leave
    (then_do (perform_block C (commands (c.Assign (calling 20 (at 2 ∷ at 4 ∷ [])) (Bin Add (at 3) (at 4)) ∷ [])) f 6)
    (after_body (then_do (assign C (step_of_for 1 4) (Frame 4) f 6) (λ u. back)))))

-- the bytes after a cell above them is set
held_after : (s i a w : ℕ) (bytes : List ℕ) (cells : List Cell) → HoldsBytes cells s i bytes → ((j : ℕ) → i ≤ j → j < i + length bytes → (s + j / 2) % 65536 ≢ a)
    → HoldsBytes (slice_set cells a (Set w)) s i bytes
held_after s i a w [] cells h away = tt
held_after s i a w (byte ∷ bytes) cells h away = (
  (h.0.0, get_or-set_other cells a ((s + i / 2) % 65536) (Set w) Dead (λ same. away i (omega arith) (omega arith) same) ∙ h.0.1, h.0.2, h.0.3),
  held_after s (i + 1) a w bytes cells h.1 (λ j from to. away j (omega (arith, from)) (omega (arith, to))),
)

loop : (P : List Placed) (address further : ℕ → ℕ) → Has P address → (V : ℕ → ℕ → ℕ → Run ℕ) → (f n t s v limit x : ℕ) → limit < 256 → 520 ≤ v
    → (rest : List ℕ) (cells : List Cell) (streams : Content) (i a K T : ℕ) → Able address further cells f 15 → HoldsBytes cells s i rest
    → ((k : ℕ) → k < length rest → is_live (cell_at cells (a + k)) ≡ true) → ((j k : ℕ) → j < i + length rest → k < length rest → (s + j / 2) % 65536 ≢ a + k)
    → a ≡ v + i → i + length rest ≡ suc limit → K ≡ length rest + x → T ≡ 2 * length rest + t
    → rounds (suc K) (round (context further (calls P (suc n)) V) f limit) tt (state (laid (f + 2) (Set s ∷ Set v ∷ Set i ∷ []) cells) streams T)
    ≡ Done Past (state (laid (f + 2) (Set s ∷ Set v ∷ Set (suc limit) ∷ []) (with_words a rest cells)) streams t)
loop P address further h V f n t s v limit x short high [] cells streams i a K T able b live away ea ei eK eT =
    let last : i ≡ suc limit = omega (arith, ei) in
    let i_is : cell_at (laid (f + 2) (Set s ∷ Set v ∷ Set (suc limit) ∷ []) cells) ((f + 4) % 65536) ≡ Set (suc limit) =
    reads f 4 (Set s ∷ Set v ∷ Set (suc limit) ∷ []) cells (omega arith) (omega arith) able.ready.whole (omega (arith, able.ready.room)) in
    let turns : T ≡ t = omega (arith, eT) in
    rw (last, turns, i_is, past_end limit short) refl
loop P address further h V f n t s v limit x short high (byte ∷ rest) cells streams i a K T able b live away ea ei eK eT =
    let room : f + 15 ≤ 65536 = able.ready.room in
    let here : is_live (cell_at cells a) ≡ true = (let z : a + 0 ≡ a = omega arith in ap (λ q. is_live (cell_at cells q)) (sym z) ∙ live 0 (omega arith)) in
    let lt : a < f = live_below f a cells able.ready.free here in
    let read : (j w : ℕ) (cs : List Cell) → 2 ≤ j → j < 5 → length cs ≡ 65536 → cell_at (Set s ∷ Set v ∷ Set i ∷ []) (j - 2) ≡ Set w
    → cell_at (laid (f + 2) (Set s ∷ Set v ∷ Set i ∷ []) cs) ((f + j) % 65536) ≡ Set w =
    (λ j w cs from to whole is. reads f j (Set s ∷ Set v ∷ Set i ∷ []) cs from (omega (arith, to)) whole (omega (arith, room)) ∙ is) in
    let next : List Cell = slice_set cells a (Set byte) in
    let able1 : Able address further (slice_set cells a (Set byte)) f 15 = able_written address further f 15 a byte cells able (omega (arith, ea, high)) lt in
    let i_is = read 4 i cells (omega arith) (omega arith) able.ready.whole refl in
    let s_is = read 2 s cells (omega arith) (omega arith) able.ready.whole refl in
    let v_is = read 3 v cells (omega arith) (omega arith) able.ready.whole refl in
    let i_is1 = read 4 i (slice_set cells a (Set byte)) (omega arith) (omega arith) able1.ready.whole refl in
    let going : int_lt (signed limit) (signed i) ≡ false = up_to limit i short (omega (arith, ei)) in
    let up = able_after address further f (f + 7) 15 8 (Set s ∷ Set v ∷ Set i ∷ []) cells able (omega arith) (omega arith) in
    let get = get_byte_does P address h (laid (f + 2) (Set s ∷ Set v ∷ Set i ∷ []) cells) streams (f + 7) n (suc (2 * length rest + t)) s i b.0.0 up.ready
    (set_below f ((s + i / 2) % 65536) b.0.0 (Set s ∷ Set v ∷ Set i ∷ []) cells able.ready.free b.0.1) in
    let there : (v + i) % 65536 ≡ a = omega (arith, ea, lt, room) in
    let cell : is_live (cell_at (laid (f + 2) (Set s ∷ Set v ∷ Set i ∷ []) cells) a) ≡ true =
    ap is_live (laid_below (f + 2) a (Set s ∷ Set v ∷ Set i ∷ []) cells (omega (arith, lt))) ∙ here in
    let puts = writes_live (cell_at (laid (f + 2) (Set s ∷ Set v ∷ Set i ∷ []) cells) a) a byte
    (state (laid (f + 2) (Set s ∷ Set v ∷ Set i ∷ []) cells) streams (suc (2 * length rest + t))) cell in
    let put : slice_set (laid (f + 2) (Set s ∷ Set v ∷ Set i ∷ []) cells) a (Set byte) ≡ laid (f + 2) (Set s ∷ Set v ∷ Set i ∷ []) (slice_set cells a (Set byte)) =
    set_before a (f + 2) (Set s ∷ Set v ∷ Set i ∷ []) cells (Set byte) (omega (arith, lt)) in
    let more : (i + 1) % 65536 ≡ i + 1 = omega (arith, ei, short) in
    let stored : slice_set (laid (f + 2) (Set s ∷ Set v ∷ Set i ∷ []) (slice_set cells a (Set byte))) ((f + 4) % 65536) (Set ((i + 1) % 65536))
    ≡ laid (f + 2) (Set s ∷ Set v ∷ Set (i + 1) ∷ []) (slice_set cells a (Set byte)) =
    rw more (writes f 4 (Set s ∷ Set v ∷ Set i ∷ []) (slice_set cells a (Set byte)) (Set (i + 1)) (omega arith) (omega arith) (omega (arith, room))) in
    let turns : T ≡ suc (suc (2 * length rest + t)) = omega (arith, eT) in
    let fuel : K ≡ suc (length rest + x) = omega (arith, eK) in
    rw (turns, fuel, i_is, going, s_is, i_is, up.ready.get_byte, get, b.0.2, v_is, i_is, there, puts, put, i_is1, i_is1, stored)
    (loop P address further h V f n t s v limit x short high rest (slice_set cells a (Set byte)) streams (i + 1) (a + 1) (length rest + x) (2 * length rest + t) able1
    (held_after s (i + 1) a byte rest cells b.1 (λ j from to same. away j 0 (omega (arith, to)) (omega arith) (let z : a + 0 ≡ a = omega arith in same ∙ sym z)))
    (λ k le. let z : a + suc k ≡ a + 1 + k = omega arith in
    ap is_live (get_or-set_other cells a (a + 1 + k) (Set byte) Dead (λ same. omega (arith, same))) ∙ ap (λ q. is_live (cell_at cells q)) (sym z) ∙ live (suc k) (omega (arith, le)))
    (λ j k lj lk same. away j (suc k) (omega (arith, lj)) (omega (arith, lk)) (let z : a + suc k ≡ a + 1 + k = omega arith in same ∙ sym z))
    (omega (arith, ea)) (omega (arith, ei)) refl refl)

pub unpack_does : (P : List Placed) (address further : ℕ → ℕ) → Has P address → (e : HasFurther P further) → (s v : ℕ) (bytes : List ℕ) (cells : List Cell) (streams : Content) (f n t N T : ℕ)
    → Able address further cells f 15 → HoldsString cells s bytes → IsVector cells v (1 + length bytes) → IsApart s (1 + length bytes) v (1 + length bytes)
    → N ≡ suc (suc n) → T ≡ 4 + 2 * length bytes + t
    → calls P N (further 36) (s ∷ v ∷ []) f (state cells streams T) ≡ Done 0 (state (with_words v (length bytes ∷ bytes) cells) streams t)
unpack_does P address further h e s v bytes cells streams f n t N T able b vec away eN eT =
    let room : f + 15 ≤ 65536 = able.ready.room in
    let free2 : (cs : List Cell) → ((q : ℕ) → f ≤ q → is_live (cell_at cs q) ≡ false) → (q : ℕ) → f + 2 ≤ q → is_live (cell_at cs q) ≡ false = (λ cs free q le. free q (omega (arith, le))) in
    let fits : nat_le (f + 11) 65536 ≡ true = fits_true _ _ (omega (arith, room)) in
    let opened : slice_set (laid (f + 2) (Set s ∷ Set v ∷ []) cells) (f + 4) Unset ≡ laid (f + 2) (Set s ∷ Set v ∷ Unset ∷ []) cells =
    opens (f + 2) (f + 4) (Set s ∷ Set v ∷ []) cells (omega arith) in
    let fresh : cell_at (laid (f + 2) (Set s ∷ Set v ∷ Unset ∷ []) cells) ((f + 4) % 65536) ≡ Unset =
    reads f 4 (Set s ∷ Set v ∷ Unset ∷ []) cells (omega arith) (omega arith) able.ready.whole (omega (arith, room)) in
    let started : slice_set (laid (f + 2) (Set s ∷ Set v ∷ Unset ∷ []) cells) ((f + 4) % 65536) (Set 0) ≡ laid (f + 2) (Set s ∷ Set v ∷ Set 0 ∷ []) cells =
    writes f 4 (Set s ∷ Set v ∷ Unset ∷ []) cells (Set 0) (omega arith) (omega arith) (omega (arith, room)) in
    let s_is : cell_at (laid (f + 2) (Set s ∷ Set v ∷ Set 0 ∷ []) cells) ((f + 2) % 65536) ≡ Set s =
    reads f 2 (Set s ∷ Set v ∷ Set 0 ∷ []) cells (omega arith) (omega arith) able.ready.whole (omega (arith, room)) in
    let up = able_after address further f (f + 6) 15 8 (Set s ∷ Set v ∷ Set 0 ∷ []) cells able (omega arith) (omega arith) in
    let get = get_byte_does P address h (laid (f + 2) (Set s ∷ Set v ∷ Set 0 ∷ []) cells) streams (f + 6) n (2 + 2 * length bytes + t) s 0 b.0.0 up.ready
    (set_below f ((s + 0 / 2) % 65536) b.0.0 (Set s ∷ Set v ∷ Set 0 ∷ []) cells able.ready.free b.0.1) in
    let rounds_do = loop P address further h (e.valofs (calls P (suc n))) f n t s v (length bytes) (1 + length bytes + t) b.0.3 vec.0 (length bytes ∷ bytes) cells streams 0 v
    (2 + 2 * length bytes + t) (2 + 2 * length bytes + t) able b (λ k lt. vec.1 k (omega (arith, lt))) (λ j k lj lk. away j k (omega (arith, lj)) (omega (arith, lk))) (omega arith) (omega arith) (omega arith) (omega arith) in
    let ends : v + length (length bytes ∷ bytes) ≤ f = (let lt = live_below f (v + length bytes) cells able.ready.free (vec.1 (length bytes) (omega arith)) in omega (arith, lt)) in
    let free : (q : ℕ) → f ≤ q → is_live (cell_at (with_words v (length bytes ∷ bytes) cells) q) ≡ false = words_free f v (length bytes ∷ bytes) cells able.ready.free ends in
    let given1 : closed 1 (f + 4) (laid (f + 2) (Set s ∷ Set v ∷ Set (suc (length bytes)) ∷ []) (with_words v (length bytes ∷ bytes) cells)) ≡ laid (f + 2) (Set s ∷ Set v ∷ []) (with_words v (length bytes ∷ bytes) cells) =
    laid_close (f + 2) (f + 4) 1 (Set s ∷ Set v ∷ []) (Set (suc (length bytes)) ∷ []) (with_words v (length bytes ∷ bytes) cells) (free2 _ free) (omega arith) refl in
    let given2 : closed 2 (f + 2) (laid (f + 2) (Set s ∷ Set v ∷ []) (with_words v (length bytes ∷ bytes) cells)) ≡ with_words v (length bytes ∷ bytes) cells =
    laid_back (f + 2) 2 (Set s ∷ Set v ∷ []) (with_words v (length bytes ∷ bytes) cells) (free2 _ free) refl in
    let turns : T ≡ suc (suc (2 + 2 * length bytes + t)) = omega (arith, eT) in
    rw (eN, turns, e.unpackstring, fits, opened, fresh, started, s_is, up.ready.get_byte, get, b.0.2, rounds_do, given1, given2) refl
