-- What PACKSTRING does: its two FORs, by induction over the cells and the words that are left.
use Rattle.std.proofs.Common.{◌≡◌, ◌≢◌, ⊎_elim, ℕ, zero, suc, ◌+◌, ◌-◌, ◌*◌, ◌/◌, ◌%◌, ◌<◌, ◌≤◌, List, [], ◌∷◌, ◌++◌, length, map, true, false, refl, sym, ap, ◌∙◌, arith}
use Rattle.std.proofs.lemmas.Bool.{cases_lt}
use Rattle.std.proofs.lemmas.List.{get_or-set_other, length-set}
use Rattle.std.proofs.lemmas.Nat.{and_mask}
use Rattle.std.specs.Prelude.{slice_set, slice_index_or, nat_le, int_lt, bit_and}
use Rattle.bc_word.specs.Words.{signed, holds}
use Rattle.bc_word.specs.declared.operator.Op.TheVariants.{Add}
use Rattle.bc_machine_defs.specs.Streams.{Content}
use Rattle.bc_core.specs.Tree.{Load, Frame, Bin, Num}
use Rattle.bc_core.specs.Commands as c
use Rattle.bc_core.specs.Words.{packed}
use Rattle.bc_core.specs.Map.{Placed}
use Rattle.bc_core.specs.Store.{Cell, Dead, Unset, Set, cell_at, closed}
use Rattle.bc_core.specs.Outcome.{Done, Run, then_do, choose, rounds}
use Rattle.bc_core.specs.Exit.{Past}
use Rattle.bc_core.specs.Loop.{LoopRound, back, leave, after_body, end_relation}
use Rattle.bc_core.specs.Value.{Context, value, assign}
use Rattle.bc_core.specs.Command.{perform_block, step_of_for}
use Rattle.bc_core.specs.Laws.{is_live}
use Rattle.bc_core.specs.Meaning.{calls, context}
use Rattle.bc_library_laws.specs.Library.{at, commands, calling}
use Rattle.bc_library_laws.specs.Laws.{state, with_byte}
use Rattle.bc_library_laws.proofs.Words.{up_to, past_end}
use Rattle.bc_library_laws.proofs.Steps.{Has, fits_true, low}
use Rattle.bc_library_laws.proofs.Bytes.{put_byte_does}
use Rattle.bc_library_laws.specs.extension.Routines.{cell}
use Rattle.bc_library_laws.specs.extension.Laws.{Able, IsVector, AreOthers, HoldsWords, laid, with_words}
use Rattle.bc_library_laws.proofs.extension_lemmas.Frames.{laid_below, laid_above, laid_at, laid_set, reads, writes, opens, set_before, set_below, laid_back, laid_close, able_after, able_written, able_words, live_below, writes_live, words_free}
use Rattle.bc_library_laws.proofs.extension_lemmas.Finding.{HasFurther}

abbrev zeros : ℕ → List ℕ
zeros zero = []
zeros (suc n) = 0 ∷ zeros n

zeros_length : (n : ℕ) → length (zeros n) ≡ n
zeros_length zero = refl
zeros_length (suc n) = ap (λ z. suc z) (zeros_length n)

-- one iteration of the FOR that clears the vector
abbrev clear_round : (C : Context) → (f limit : ℕ) → Unit {0} → LoopRound
clear_round C f limit u =
    then_do (value C (Load (Frame 5)) f 7) (λ i.
    choose (holds (end_relation 1) i limit) leave
    (then_do (perform_block C (commands (c.Assign (Num 0) (Bin Add (at 3) (at 5)) ∷ [])) f 7)
    (after_body (then_do (assign C (step_of_for 1 5) (Frame 5) f 7) (λ u. back)))))

clear_loop : (C : Context) (address further : ℕ → ℕ) (streams : Content) (f t v s n limit x : ℕ) → limit < 256 → 520 ≤ s
    → (k : ℕ) (cells : List Cell) (i a K T : ℕ) → Able address further cells f 18 → ((j : ℕ) → j < k → is_live (cell_at cells (a + j)) ≡ true)
    → a ≡ s + i → i + k ≡ suc limit → K ≡ k + x → T ≡ k + t
    → rounds (suc K) (clear_round C f limit) tt (state (laid (f + 2) (Set v ∷ Set s ∷ Set n ∷ Set i ∷ []) cells) streams T)
    ≡ Done Past (state (laid (f + 2) (Set v ∷ Set s ∷ Set n ∷ Set (suc limit) ∷ []) (with_words a (zeros k) cells)) streams t)
clear_loop C address further streams f t v s n limit x short high zero cells i a K T able live ea ei eK eT =
    let last : i ≡ suc limit = omega (arith, ei) in
    let i_is : cell_at (laid (f + 2) (Set v ∷ Set s ∷ Set n ∷ Set (suc limit) ∷ []) cells) ((f + 5) % 65536) ≡ Set (suc limit) =
    reads f 5 (Set v ∷ Set s ∷ Set n ∷ Set (suc limit) ∷ []) cells (omega arith) (omega arith) able.ready.whole (omega (arith, able.ready.room)) in
    let turns : T ≡ t = omega (arith, eT) in
    rw (last, turns, i_is, past_end limit short) refl
clear_loop C address further streams f t v s n limit x short high (suc k) cells i a K T able live ea ei eK eT =
    let room : f + 18 ≤ 65536 = able.ready.room in
    let here : is_live (cell_at cells a) ≡ true = (let z : a + 0 ≡ a = omega arith in ap (λ q. is_live (cell_at cells q)) (sym z) ∙ live 0 (omega arith)) in
    let lt : a < f = live_below f a cells able.ready.free here in
    let able1 : Able address further (slice_set cells a (Set 0)) f 18 = able_written address further f 18 a 0 cells able (omega (arith, ea, high)) lt in
    let read : (j w : ℕ) (cs : List Cell) → 2 ≤ j → j < 6 → length cs ≡ 65536 → cell_at (Set v ∷ Set s ∷ Set n ∷ Set i ∷ []) (j - 2) ≡ Set w
    → cell_at (laid (f + 2) (Set v ∷ Set s ∷ Set n ∷ Set i ∷ []) cs) ((f + j) % 65536) ≡ Set w =
    (λ j w cs from to whole is. reads f j (Set v ∷ Set s ∷ Set n ∷ Set i ∷ []) cs from (omega (arith, to)) whole (omega (arith, room)) ∙ is) in
    let i_is = read 5 i cells (omega arith) (omega arith) able.ready.whole refl in
    let s_is = read 3 s cells (omega arith) (omega arith) able.ready.whole refl in
    let i_is1 = read 5 i (slice_set cells a (Set 0)) (omega arith) (omega arith) able1.ready.whole refl in
    let going : int_lt (signed limit) (signed i) ≡ false = up_to limit i short (omega (arith, ei)) in
    let there : (s + i) % 65536 ≡ a = omega (arith, ea, lt, room) in
    let cell : is_live (cell_at (laid (f + 2) (Set v ∷ Set s ∷ Set n ∷ Set i ∷ []) cells) a) ≡ true =
    ap is_live (laid_below (f + 2) a (Set v ∷ Set s ∷ Set n ∷ Set i ∷ []) cells (omega (arith, lt))) ∙ here in
    let puts = writes_live (cell_at (laid (f + 2) (Set v ∷ Set s ∷ Set n ∷ Set i ∷ []) cells) a) a 0 (state (laid (f + 2) (Set v ∷ Set s ∷ Set n ∷ Set i ∷ []) cells) streams (suc (k + t))) cell in
    let put : slice_set (laid (f + 2) (Set v ∷ Set s ∷ Set n ∷ Set i ∷ []) cells) a (Set 0) ≡ laid (f + 2) (Set v ∷ Set s ∷ Set n ∷ Set i ∷ []) (slice_set cells a (Set 0)) =
    set_before a (f + 2) (Set v ∷ Set s ∷ Set n ∷ Set i ∷ []) cells (Set 0) (omega (arith, lt)) in
    let more : (i + 1) % 65536 ≡ i + 1 = omega (arith, ei, short) in
    let stored : slice_set (laid (f + 2) (Set v ∷ Set s ∷ Set n ∷ Set i ∷ []) (slice_set cells a (Set 0))) ((f + 5) % 65536) (Set ((i + 1) % 65536))
    ≡ laid (f + 2) (Set v ∷ Set s ∷ Set n ∷ Set (i + 1) ∷ []) (slice_set cells a (Set 0)) =
    rw more (writes f 5 (Set v ∷ Set s ∷ Set n ∷ Set i ∷ []) (slice_set cells a (Set 0)) (Set (i + 1)) (omega arith) (omega arith) (omega (arith, room))) in
    let turns : T ≡ suc (k + t) = omega (arith, eT) in
    let fuel : K ≡ suc (k + x) = omega (arith, eK) in
    rw (turns, fuel, i_is, going, s_is, i_is, there, puts, put, i_is1, i_is1, stored)
    (clear_loop C address further streams f t v s n limit x short high k (slice_set cells a (Set 0)) (i + 1) (a + 1) (k + x) (k + t) able1
    (λ j le. let z : a + suc j ≡ a + 1 + j = omega arith in
    ap is_live (get_or-set_other cells a (a + 1 + j) (Set 0) Dead (λ same. omega (arith, same))) ∙ ap (λ q. is_live (cell_at cells q)) (sym z) ∙ live (suc j) (omega (arith, le)))
    (omega (arith, ea)) (omega (arith, ei)) refl refl)

-- the words after bytes are put into them, from byte i on
abbrev packing : (i : ℕ) → List ℕ → List ℕ → List ℕ
packing i [] words = words
packing i (b ∷ bs) words = packing (i + 1) bs (slice_set words (i / 2) (with_byte i b (slice_index_or words (i / 2) 0)))

set_map : (ws : List ℕ) (k w : ℕ) → slice_set (map (λ z. Set z) ws) k (Set w) ≡ map (λ z. Set z) (slice_set ws k w)
set_map [] k w = refl
set_map (z ∷ ws) zero w = refl
set_map (z ∷ ws) (suc k) w = ap (λ q. Set z ∷ q) (set_map ws k w)

get_map : (ws : List ℕ) (k : ℕ) → k < length ws → cell_at (map (λ z. Set z) ws) k ≡ Set (slice_index_or ws k 0)
get_map [] k lt = absurd (omega (arith, lt))
get_map (z ∷ ws) zero lt = refl
get_map (z ∷ ws) (suc k) lt = get_map ws k (omega (arith, lt))

map_length : (ws : List ℕ) → length (map (λ z. Set z) ws) ≡ length ws
map_length [] = refl
map_length (z ∷ ws) = ap (λ q. suc q) (map_length ws)

-- all words have 16 bits
abbrev AreSmall : List ℕ → Type 0
AreSmall ws = (k : ℕ) → slice_index_or ws k 0 < 65536

small_set : (ws : List ℕ) (k w : ℕ) → AreSmall ws → w < 65536 → AreSmall (slice_set ws k w)
small_set [] k w small lt j = small j
small_set (z ∷ ws) zero w small lt zero = lt
small_set (z ∷ ws) zero w small lt (suc j) = small (suc j)
small_set (z ∷ ws) (suc k) w small lt zero = small zero
small_set (z ∷ ws) (suc k) w small lt (suc j) = small_set ws k w (λ q. small (suc q)) lt j

small_byte : (i b w : ℕ) → b < 256 → w < 65536 → with_byte i b w < 65536
small_byte i b w hb hw = ⊎_elim
    (λ lt. let even : i % 2 ≡ 0 = omega (arith, lt) in rw even (omega (arith, hb)))
    (λ ge. let odd : i % 2 ≡ 1 = omega (arith, ge) in rw odd (omega (arith, hb, hw))) (cases_lt (i % 2) 1)

-- a cell that is none of these
outside : (a s : ℕ) (ks cells : List Cell) → ((j : ℕ) → j < length ks → a ≢ s + j) → cell_at (laid s ks cells) a ≡ cell_at cells a
outside a s ks cells away = ⊎_elim (λ lt. laid_below s a ks cells lt)
    (λ ge. ⊎_elim (λ in_it. absurd (away (a - s) (omega (arith, ge, in_it)) (omega (arith, ge)))) (λ past. laid_above s a ks cells past) (cases_lt a (s + length ks))) (cases_lt a s)

-- PUTBYTE of byte i, called at g above the cells ks of the frame at f
put_step : (P : List Placed) (address further : ℕ → ℕ) → Has P address → (cells : List Cell) (streams : Content) (f g k t s size : ℕ) (ks : List Cell)
    → Able address further cells f 18 → 520 ≤ s → s + size ≤ f → (words : List ℕ) → length words ≡ size → AreSmall words → (i c : ℕ) → i / 2 < size → f + 2 + length ks ≤ g → g + 11 ≤ f + 18
    → calls P (suc k) (address 2) (s ∷ i ∷ c ∷ []) g (state (laid (f + 2) ks (with_words s words cells)) streams (suc t))
    ≡ Done 0 (state (laid (f + 2) ks (with_words s (slice_set words (i / 2) (with_byte i (c % 256) (slice_index_or words (i / 2) 0))) cells)) streams t)
put_step P address further h cells streams f g k t s size ks able high fits words sized small i c place up room =
    let whole : f + 18 ≤ 65536 = able.ready.room in
    let able1 : Able address further (with_words s words cells) f 18 = able_words address further f 18 s words cells able high (omega (arith, sized, fits)) in
    let at_word : (s + i / 2) % 65536 ≡ s + i / 2 = omega (arith, place, fits, whole) in
    let word_is : cell_at (laid (f + 2) ks (with_words s words cells)) ((s + i / 2) % 65536) ≡ Set (slice_index_or words (i / 2) 0) =
    rw at_word (laid_below (f + 2) (s + i / 2) ks (with_words s words cells) (omega (arith, place, fits))
    ∙ laid_at s (i / 2) (map (λ z. Set z) words) cells (omega (arith, map_length words, sized, place)) (omega (arith, map_length words, sized, fits, whole, able.ready.whole))
    ∙ get_map words (i / 2) (omega (arith, sized, place))) in
    let called = able_after address further f g 18 11 ks (with_words s words cells) able1 up room in
    let kept : slice_set (laid (f + 2) ks (with_words s words cells)) ((s + i / 2) % 65536) (Set (with_byte i (c % 256) (slice_index_or words (i / 2) 0)))
    ≡ laid (f + 2) ks (with_words s (slice_set words (i / 2) (with_byte i (c % 256) (slice_index_or words (i / 2) 0))) cells) =
    rw at_word (set_before (s + i / 2) (f + 2) ks (with_words s words cells) (Set (with_byte i (c % 256) (slice_index_or words (i / 2) 0))) (omega (arith, place, fits))
    ∙ ap (λ z. laid (f + 2) ks z)
    (laid_set s (i / 2) (map (λ z. Set z) words) cells (Set (with_byte i (c % 256) (slice_index_or words (i / 2) 0))) (omega (arith, map_length words, sized, place))
    ∙ ap (λ z. laid s z cells) (set_map words (i / 2) (with_byte i (c % 256) (slice_index_or words (i / 2) 0))))) in
    put_byte_does P address h (laid (f + 2) ks (with_words s words cells)) streams g k t s i c (slice_index_or words (i / 2) 0) called.ready (small (i / 2)) word_is
    ∙ ap (λ z. Done 0 (state z streams t)) kept

-- one iteration of the FOR that packs
abbrev pack_round : (C : Context) → (f limit : ℕ) → Unit {0} → LoopRound
pack_round C f limit u =
    then_do (value C (Load (Frame 5)) f 7) (λ i.
    choose (holds (end_relation 1) i limit) leave
    (then_do (perform_block C (commands (c.Call (calling 21 (at 3 ∷ at 5 ∷ cell (at 2) (at 5) ∷ [])) ∷ [])) f 7)
    (after_body (then_do (assign C (step_of_for 1 5) (Frame 5) f 7) (λ u. back)))))

pack_loop : (P : List Placed) (address further : ℕ → ℕ) → Has P address → (V : ℕ → ℕ → ℕ → Run ℕ) → (cells : List Cell) (streams : Content) (f k t v s n limit size x : ℕ)
    → Able address further cells f 18 → limit < 256 → 520 ≤ s → s + size ≤ f → limit / 2 < size
    → (ws words : List ℕ) (i a K T : ℕ) → length words ≡ size → AreSmall words → HoldsWords cells a ws → ((j q : ℕ) → j < length ws → q < size → a + j ≢ s + q)
    → a ≡ v + i → i + length ws ≡ suc limit → K ≡ length ws + x → T ≡ 2 * length ws + t
    → rounds (suc K) (pack_round (context further (calls P (suc k)) V) f limit) tt (state (laid (f + 2) (Set v ∷ Set s ∷ Set n ∷ Set i ∷ []) (with_words s words cells)) streams T)
    ≡ Done Past (state (laid (f + 2) (Set v ∷ Set s ∷ Set n ∷ Set (suc limit) ∷ []) (with_words s (packing i (map (λ w. w % 256) ws) words) cells)) streams t)
pack_loop P address further h V cells streams f k t v s n limit size x able short high fits within [] words i a K T sized small held away ea ei eK eT =
    let able1 : Able address further (with_words s words cells) f 18 = able_words address further f 18 s words cells able high (omega (arith, sized, fits)) in
    let last : i ≡ suc limit = omega (arith, ei) in
    let i_is : cell_at (laid (f + 2) (Set v ∷ Set s ∷ Set n ∷ Set (suc limit) ∷ []) (with_words s words cells)) ((f + 5) % 65536) ≡ Set (suc limit) =
    reads f 5 (Set v ∷ Set s ∷ Set n ∷ Set (suc limit) ∷ []) (with_words s words cells) (omega arith) (omega arith) able1.ready.whole (omega (arith, able.ready.room)) in
    let turns : T ≡ t = omega (arith, eT) in
    rw (last, turns, i_is, past_end limit short) refl
pack_loop P address further h V cells streams f k t v s n limit size x able short high fits within (w ∷ ws) words i a K T sized small held away ea ei eK eT =
    let room : f + 18 ≤ 65536 = able.ready.room in
    let able1 : Able address further (with_words s words cells) f 18 = able_words address further f 18 s words cells able high (omega (arith, sized, fits)) in
    let place : i / 2 < size = omega (arith, ei, within) in
    let read : (j z : ℕ) (cs : List Cell) → 2 ≤ j → j < 6 → length cs ≡ 65536 → cell_at (Set v ∷ Set s ∷ Set n ∷ Set i ∷ []) (j - 2) ≡ Set z
    → cell_at (laid (f + 2) (Set v ∷ Set s ∷ Set n ∷ Set i ∷ []) cs) ((f + j) % 65536) ≡ Set z =
    (λ j z cs from to whole is. reads f j (Set v ∷ Set s ∷ Set n ∷ Set i ∷ []) cs from (omega (arith, to)) whole (omega (arith, room)) ∙ is) in
    let i_is = read 5 i (with_words s words cells) (omega arith) (omega arith) able1.ready.whole refl in
    let s_is = read 3 s (with_words s words cells) (omega arith) (omega arith) able1.ready.whole refl in
    let v_is = read 2 v (with_words s words cells) (omega arith) (omega arith) able1.ready.whole refl in
    let going : int_lt (signed limit) (signed i) ≡ false = up_to limit i short (omega (arith, ei)) in
    let lt : a < f = low f a w cells able.ready.free held.0 in
    let there : (v + i) % 65536 ≡ a = omega (arith, ea, lt, room) in
    let w_is : cell_at (laid (f + 2) (Set v ∷ Set s ∷ Set n ∷ Set i ∷ []) (with_words s words cells)) a ≡ Set w =
    laid_below (f + 2) a (Set v ∷ Set s ∷ Set n ∷ Set i ∷ []) (with_words s words cells) (omega (arith, lt))
    ∙ outside a s (map (λ z. Set z) words) cells (λ j in_it same. away 0 j (omega arith) (omega (arith, in_it, map_length words, sized)) (let z : a + 0 ≡ a = omega arith in z ∙ same)) ∙ held.0 in
    let up = able_after address further f (f + 7) 18 11 (Set v ∷ Set s ∷ Set n ∷ Set i ∷ []) (with_words s words cells) able1 (omega arith) (omega arith) in
    let put = put_step P address further h cells streams f (f + 7) k (suc (2 * length ws + t)) s size (Set v ∷ Set s ∷ Set n ∷ Set i ∷ []) able high fits words sized small i w place (omega arith) (omega arith) in
    let sized1 : length (slice_set words (i / 2) (with_byte i (w % 256) (slice_index_or words (i / 2) 0))) ≡ size = length-set words (i / 2) (with_byte i (w % 256) (slice_index_or words (i / 2) 0)) ∙ sized in
    let able2 = able_words address further f 18 s (slice_set words (i / 2) (with_byte i (w % 256) (slice_index_or words (i / 2) 0))) cells able high (omega (arith, sized1, fits)) in
    let i_is1 = read 5 i (with_words s (slice_set words (i / 2) (with_byte i (w % 256) (slice_index_or words (i / 2) 0))) cells) (omega arith) (omega arith) able2.ready.whole refl in
    let more : (i + 1) % 65536 ≡ i + 1 = omega (arith, ei, short) in
    let stored : slice_set (laid (f + 2) (Set v ∷ Set s ∷ Set n ∷ Set i ∷ []) (with_words s (slice_set words (i / 2) (with_byte i (w % 256) (slice_index_or words (i / 2) 0))) cells)) ((f + 5) % 65536) (Set ((i + 1) % 65536))
    ≡ laid (f + 2) (Set v ∷ Set s ∷ Set n ∷ Set (i + 1) ∷ []) (with_words s (slice_set words (i / 2) (with_byte i (w % 256) (slice_index_or words (i / 2) 0))) cells) =
    rw more (writes f 5 (Set v ∷ Set s ∷ Set n ∷ Set i ∷ []) (with_words s (slice_set words (i / 2) (with_byte i (w % 256) (slice_index_or words (i / 2) 0))) cells) (Set (i + 1)) (omega arith) (omega arith) (omega (arith, room))) in
    let turns : T ≡ suc (suc (2 * length ws + t)) = omega (arith, eT) in
    let fuel : K ≡ suc (length ws + x) = omega (arith, eK) in
    rw (turns, fuel, i_is, going, s_is, i_is, v_is, i_is, there, w_is, up.put_byte, put, i_is1, i_is1, stored)
    (pack_loop P address further h V cells streams f k t v s n limit size x able short high fits within ws (slice_set words (i / 2) (with_byte i (w % 256) (slice_index_or words (i / 2) 0))) (i + 1) (a + 1)
    (length ws + x) (2 * length ws + t) sized1 (small_set words (i / 2) (with_byte i (w % 256) (slice_index_or words (i / 2) 0)) small (small_byte i (w % 256) (slice_index_or words (i / 2) 0) (omega arith) (small (i / 2))))
    held.1 (λ j q lj lq same. away (suc j) q (omega (arith, lj)) lq (let z : a + suc j ≡ a + 1 + j = omega arith in z ∙ same)) (omega (arith, ea)) (omega (arith, ei)) refl refl)

-- putting bytes into words that are 0 packs them
get_at : (front rest : List ℕ) (x : ℕ) → slice_index_or (front ++ x ∷ rest) (length front) 0 ≡ x
get_at [] rest x = refl
get_at (z ∷ front) rest x = get_at front rest x

set_at : (front rest : List ℕ) (x y : ℕ) → slice_set (front ++ x ∷ rest) (length front) y ≡ front ++ y ∷ rest
set_at [] rest x y = refl
set_at (z ∷ front) rest x y = ap (λ q. z ∷ q) (set_at front rest x y)

regroup : (front rest : List ℕ) (x : ℕ) → front ++ x ∷ rest ≡ (front ++ x ∷ []) ++ rest
regroup [] rest x = refl
regroup (z ∷ front) rest x = ap (λ q. z ∷ q) (regroup front rest x)

one_more : (front : List ℕ) (x : ℕ) → length (front ++ x ∷ []) ≡ length front + 1
one_more [] x = refl
one_more (z ∷ front) x = let e = one_more front x in omega (arith, e)

put_even : (front rest : List ℕ) (i b : ℕ) → i ≡ 2 * length front
    → slice_set (front ++ 0 ∷ rest) (i / 2) (with_byte i b (slice_index_or (front ++ 0 ∷ rest) (i / 2) 0)) ≡ front ++ (b * 256) ∷ rest
put_even front rest i b e =
    let half : i / 2 ≡ length front = omega (arith, e) in
    let even : i % 2 ≡ 0 = omega (arith, e) in
    let whole : b * 256 + 0 ≡ b * 256 = omega arith in
    rw (half, even, get_at front rest 0, whole) (set_at front rest 0 (b * 256))

put_odd : (front rest : List ℕ) (i b c : ℕ) → i ≡ 2 * length front + 1
    → slice_set (front ++ (b * 256) ∷ rest) (i / 2) (with_byte i c (slice_index_or (front ++ (b * 256) ∷ rest) (i / 2) 0)) ≡ front ++ (b * 256 + c) ∷ rest
put_odd front rest i b c e =
    let half : i / 2 ≡ length front = omega (arith, e) in
    let odd : i % 2 ≡ 1 = omega (arith, e) in
    let whole : b * 256 / 256 * 256 + c ≡ b * 256 + c = omega arith in
    rw (half, odd, get_at front rest (b * 256), whole) (set_at front rest (b * 256) (b * 256 + c))

packs : (bytes front : List ℕ) (i n : ℕ) → i ≡ 2 * length front → n ≡ length (packed bytes) → packing i bytes (front ++ zeros n) ≡ front ++ packed bytes
packs [] front i n ei en = rw en refl
packs (b ∷ []) front i n ei en = rw en (put_even front [] i b ei)
packs (b ∷ c ∷ bytes) front i n ei en =
    let size : n ≡ suc (length (packed bytes)) = en in
    rw (size, put_even front (zeros (length (packed bytes))) i b ei, put_odd front (zeros (length (packed bytes))) (i + 1) b c (omega (arith, ei)), regroup front (zeros (length (packed bytes))) (b * 256 + c), regroup front (packed bytes) (b * 256 + c))
    (packs bytes (front ++ (b * 256 + c) ∷ []) (i + 1 + 1) (length (packed bytes)) (let e = one_more front (b * 256 + c) in omega (arith, ei, e)) refl)

packed_size : (bytes : List ℕ) → length (packed bytes) ≡ (length bytes + 1) / 2
packed_size [] = refl
packed_size (b ∷ []) = refl
packed_size (b ∷ c ∷ bytes) = let e = packed_size bytes in omega (arith, e)

pub bytes_length : (ws : List ℕ) → length (map (λ w. w % 256) ws) ≡ length ws
bytes_length [] = refl
bytes_length (w ∷ ws) = ap (λ z. suc z) (bytes_length ws)

small_zeros : (n : ℕ) → AreSmall (zeros n)
small_zeros zero j = omega arith
small_zeros (suc n) zero = omega arith
small_zeros (suc n) (suc j) = small_zeros n j

pub pack_does : (P : List Placed) (address further : ℕ → ℕ) → Has P address → (e : HasFurther P further) → (v s word : ℕ) (ws : List ℕ) (cells : List Cell) (streams : Content) (f k t N T : ℕ)
    → Able address further cells f 18 → word % 256 ≡ length ws → HoldsWords cells v (word ∷ ws) → IsVector cells s (1 + length ws / 2) → AreOthers v (1 + length ws) s (1 + length ws / 2)
    → N ≡ suc (suc k) → T ≡ 3 + length ws / 2 + 2 * length ws + t
    → calls P N (further 35) (v ∷ s ∷ []) f (state cells streams T) ≡ Done (length ws / 2) (state (with_words s (packed (length ws ∷ map (λ w. w % 256) ws)) cells) streams t)
pack_does P address further h e v s word ws cells streams f k t N T able count held vec away eN eT =
    rw (
      eN,
      turns,
      e.packstring,
      fits,
      opened,
      reading Unset cells able.ready.whole 2 (omega arith) (omega arith),
      there,
      word_is,
      masked,
      reading Unset cells able.ready.whole 4 (omega arith) (omega arith),
      counted,
      opened5 cells,
      reading5 Unset cells able.ready.whole 5 (omega arith) (omega arith),
      started 0 cells,
      reading5 (Set 0) cells able.ready.whole 4 (omega arith) (omega arith),
      clears,
      closed5 (suc (length ws / 2)) (with_words s (zeros (suc (length ws / 2))) cells) zeros_free,
      reading (Set (length ws)) (with_words s (zeros (suc (length ws / 2))) cells) zeros_able.ready.whole 3 (omega arith) (omega arith),
      reading (Set (length ws)) (with_words s (zeros (suc (length ws / 2))) cells) zeros_able.ready.whole 4 (omega arith) (omega arith),
      called.put_byte,
      put,
      opened5 (with_words s ((length ws * 256) ∷ zeros (length ws / 2)) cells),
      reading5 Unset (with_words s ((length ws * 256) ∷ zeros (length ws / 2)) cells) begun_able.ready.whole 5 (omega arith) (omega arith),
      started 1 (with_words s ((length ws * 256) ∷ zeros (length ws / 2)) cells),
      reading5 (Set 1) (with_words s ((length ws * 256) ∷ zeros (length ws / 2)) cells) begun_able.ready.whole 4 (omega arith) (omega arith),
      packs_all,
      closed5 (suc (length ws)) (with_words s (packed (length ws ∷ map (λ w. w % 256) ws)) cells) packed_free,
      reading (Set (length ws)) (with_words s (packed (length ws ∷ map (λ w. w % 256) ws)) cells) packed_able.ready.whole 4 (omega arith) (omega arith),
      closed4,
      closed2,
    ) refl where
      room : f + 18 ≤ 65536
      room = able.ready.room

      short : length ws < 256
      short = omega (arith, count)

      fits : nat_le (f + 13) 65536 ≡ true
      fits = fits_true _ _ (omega (arith, room))

      turns : T ≡ suc (suc (length ws / 2) + (suc (2 * length ws + t)))
      turns = omega (arith, eT)

      ends : s + suc (length ws / 2) ≤ f
      ends = let lt = live_below f (s + length ws / 2) cells able.ready.free (vec.1 (length ws / 2) (omega arith)) in omega (arith, lt)

      opened : slice_set (laid (f + 2) (Set v ∷ Set s ∷ []) cells) (f + 4) Unset ≡ laid (f + 2) (Set v ∷ Set s ∷ Unset ∷ []) cells
      opened = opens (f + 2) (f + 4) (Set v ∷ Set s ∷ []) cells (omega arith)

      reading : (a : Cell) (cs : List Cell) → length cs ≡ 65536 → (j : ℕ) → 2 ≤ j → j < 5 → cell_at (laid (f + 2) (Set v ∷ Set s ∷ a ∷ []) cs) ((f + j) % 65536) ≡ cell_at (Set v ∷ Set s ∷ a ∷ []) (j - 2)
      reading a cs whole j from to = reads f j (Set v ∷ Set s ∷ a ∷ []) cs from (omega (arith, to)) whole (omega (arith, room))

      reading5 : (a : Cell) (cs : List Cell) → length cs ≡ 65536 → (j : ℕ) → 2 ≤ j → j < 6
          → cell_at (laid (f + 2) (Set v ∷ Set s ∷ Set (length ws) ∷ a ∷ []) cs) ((f + j) % 65536) ≡ cell_at (Set v ∷ Set s ∷ Set (length ws) ∷ a ∷ []) (j - 2)
      reading5 a cs whole j from to = reads f j (Set v ∷ Set s ∷ Set (length ws) ∷ a ∷ []) cs from (omega (arith, to)) whole (omega (arith, room))

      there : (v + 0) % 65536 ≡ v
      there = let lt = low f v word cells able.ready.free held.0 in omega (arith, lt, room)

      word_is : cell_at (laid (f + 2) (Set v ∷ Set s ∷ Unset ∷ []) cells) v ≡ Set word
      word_is = set_below f v word (Set v ∷ Set s ∷ Unset ∷ []) cells able.ready.free held.0

      masked : bit_and word 255 ≡ length ws
      masked = and_mask word 8 ∙ count

      counted : slice_set (laid (f + 2) (Set v ∷ Set s ∷ Unset ∷ []) cells) ((f + 4) % 65536) (Set (length ws)) ≡ laid (f + 2) (Set v ∷ Set s ∷ Set (length ws) ∷ []) cells
      counted = writes f 4 (Set v ∷ Set s ∷ Unset ∷ []) cells (Set (length ws)) (omega arith) (omega arith) (omega (arith, room))

      opened5 : (cs : List Cell) → slice_set (laid (f + 2) (Set v ∷ Set s ∷ Set (length ws) ∷ []) cs) (f + 5) Unset ≡ laid (f + 2) (Set v ∷ Set s ∷ Set (length ws) ∷ Unset ∷ []) cs
      opened5 cs = opens (f + 2) (f + 5) (Set v ∷ Set s ∷ Set (length ws) ∷ []) cs (omega arith)

      started : (i : ℕ) (cs : List Cell) → slice_set (laid (f + 2) (Set v ∷ Set s ∷ Set (length ws) ∷ Unset ∷ []) cs) ((f + 5) % 65536) (Set i) ≡ laid (f + 2) (Set v ∷ Set s ∷ Set (length ws) ∷ Set i ∷ []) cs
      started i cs = writes f 5 (Set v ∷ Set s ∷ Set (length ws) ∷ Unset ∷ []) cs (Set i) (omega arith) (omega arith) (omega (arith, room))

      clears : rounds (suc (suc (length ws / 2) + (suc (2 * length ws + t)))) (clear_round (context further (calls P (suc k)) (e.inside_packstring (calls P (suc k)))) f (length ws / 2)) tt
          (state (laid (f + 2) (Set v ∷ Set s ∷ Set (length ws) ∷ Set 0 ∷ []) cells) streams (suc (length ws / 2) + (suc (2 * length ws + t))))
          ≡ Done Past (state (laid (f + 2) (Set v ∷ Set s ∷ Set (length ws) ∷ Set (suc (length ws / 2)) ∷ []) (with_words s (zeros (suc (length ws / 2))) cells)) streams (suc (2 * length ws + t)))
      clears = clear_loop (context further (calls P (suc k)) (e.inside_packstring (calls P (suc k)))) address further streams f (suc (2 * length ws + t)) v s (length ws) (length ws / 2) (suc (2 * length ws + t)) (omega (arith, short)) vec.0
          (suc (length ws / 2)) cells 0 s (suc (length ws / 2) + (suc (2 * length ws + t))) (suc (length ws / 2) + (suc (2 * length ws + t))) able (λ j lt. vec.1 j (omega (arith, lt))) (omega arith) (omega arith) refl refl

      zeros_sized : length (zeros (suc (length ws / 2))) ≡ suc (length ws / 2)
      zeros_sized = zeros_length (suc (length ws / 2))

      zeros_free : (q : ℕ) → f ≤ q → is_live (cell_at (with_words s (zeros (suc (length ws / 2))) cells) q) ≡ false
      zeros_free = words_free f s (zeros (suc (length ws / 2))) cells able.ready.free (omega (arith, zeros_sized, ends))

      zeros_able : Able address further (with_words s (zeros (suc (length ws / 2))) cells) f 18
      zeros_able = able_words address further f 18 s (zeros (suc (length ws / 2))) cells able vec.0 (omega (arith, zeros_sized, ends))

      closed5 : (i : ℕ) (cs : List Cell) → ((q : ℕ) → f ≤ q → is_live (cell_at cs q) ≡ false) → closed 1 (f + 5) (laid (f + 2) (Set v ∷ Set s ∷ Set (length ws) ∷ Set i ∷ []) cs) ≡ laid (f + 2) (Set v ∷ Set s ∷ Set (length ws) ∷ []) cs
      closed5 i cs free = laid_close (f + 2) (f + 5) 1 (Set v ∷ Set s ∷ Set (length ws) ∷ []) (Set i ∷ []) cs (λ q le. free q (omega (arith, le))) (omega arith) refl

      called : Able address further (laid (f + 2) (Set v ∷ Set s ∷ Set (length ws) ∷ []) (with_words s (zeros (suc (length ws / 2))) cells)) (f + 5) 11
      called = able_after address further f (f + 5) 18 11 (Set v ∷ Set s ∷ Set (length ws) ∷ []) (with_words s (zeros (suc (length ws / 2))) cells) zeros_able (omega arith) (omega arith)

      put : calls P (suc k) (address 2) (s ∷ 0 ∷ length ws ∷ []) (f + 5) (state (laid (f + 2) (Set v ∷ Set s ∷ Set (length ws) ∷ []) (with_words s (zeros (suc (length ws / 2))) cells)) streams (suc (2 * length ws + t)))
          ≡ Done 0 (state (laid (f + 2) (Set v ∷ Set s ∷ Set (length ws) ∷ []) (with_words s ((length ws * 256) ∷ zeros (length ws / 2)) cells)) streams (2 * length ws + t))
      put = put_step P address further h cells streams f (f + 5) k (2 * length ws + t) s (suc (length ws / 2)) (Set v ∷ Set s ∷ Set (length ws) ∷ []) able vec.0 ends (zeros (suc (length ws / 2))) zeros_sized
          (small_zeros (suc (length ws / 2))) 0 (length ws) (omega arith) (omega arith) (omega arith)
          ∙ ap (λ z. Done 0 (state (laid (f + 2) (Set v ∷ Set s ∷ Set (length ws) ∷ []) (with_words s (z ∷ zeros (length ws / 2)) cells)) streams (2 * length ws + t))) first_is where
            first_is : length ws % 256 * 256 + 0 ≡ length ws * 256
            first_is = omega (arith, short)

      begun_sized : length ((length ws * 256) ∷ zeros (length ws / 2)) ≡ suc (length ws / 2)
      begun_sized = zeros_sized

      begun_small : AreSmall ((length ws * 256) ∷ zeros (length ws / 2))
      begun_small zero = omega (arith, short)
      begun_small (suc j) = small_zeros (length ws / 2) j

      begun_able : Able address further (with_words s ((length ws * 256) ∷ zeros (length ws / 2)) cells) f 18
      begun_able = able_words address further f 18 s ((length ws * 256) ∷ zeros (length ws / 2)) cells able vec.0 (omega (arith, begun_sized, ends))

      packs_all : rounds (suc (2 * length ws + t)) (pack_round (context further (calls P (suc k)) (e.inside_packstring (calls P (suc k)))) f (length ws)) tt
          (state (laid (f + 2) (Set v ∷ Set s ∷ Set (length ws) ∷ Set 1 ∷ []) (with_words s ((length ws * 256) ∷ zeros (length ws / 2)) cells)) streams (2 * length ws + t))
          ≡ Done Past (state (laid (f + 2) (Set v ∷ Set s ∷ Set (length ws) ∷ Set (suc (length ws)) ∷ []) (with_words s (packed (length ws ∷ map (λ w. w % 256) ws)) cells)) streams t)
      packs_all = pack_loop P address further h (e.inside_packstring (calls P (suc k))) cells streams f k t v s (length ws) (length ws) (suc (length ws / 2)) (length ws + t) able short vec.0 ends (omega arith)
          ws ((length ws * 256) ∷ zeros (length ws / 2)) 1 (v + 1) (2 * length ws + t) (2 * length ws + t) begun_sized begun_small held.1
          (λ j q lj lq same. away (suc j) q (omega (arith, lj)) (omega (arith, lq)) (omega (arith, same))) refl (omega arith) (omega arith) refl
          ∙ ap (λ z. Done Past (state (laid (f + 2) (Set v ∷ Set s ∷ Set (length ws) ∷ Set (suc (length ws)) ∷ []) (with_words s z cells)) streams t)) packed_is where
            packed_is : packing 1 (map (λ w. w % 256) ws) ((length ws * 256) ∷ zeros (length ws / 2)) ≡ packed (length ws ∷ map (λ w. w % 256) ws)
            packed_is =
                let size : suc (length ws / 2) ≡ length (packed (length ws ∷ map (λ w. w % 256) ws)) = (let e1 = packed_size (length ws ∷ map (λ w. w % 256) ws) in let e2 = bytes_length ws in omega (arith, e1, e2)) in
                let whole : length ws * 256 ≡ length ws * 256 + 0 = omega arith in
                ap (λ z. packing 1 (map (λ w. w % 256) ws) (z ∷ zeros (length ws / 2))) whole ∙ packs (length ws ∷ map (λ w. w % 256) ws) [] 0 (suc (length ws / 2)) refl size

      last_sized : length (packed (length ws ∷ map (λ w. w % 256) ws)) ≡ suc (length ws / 2)
      last_sized = let e1 = packed_size (length ws ∷ map (λ w. w % 256) ws) in let e2 = bytes_length ws in omega (arith, e1, e2)

      packed_free : (q : ℕ) → f ≤ q → is_live (cell_at (with_words s (packed (length ws ∷ map (λ w. w % 256) ws)) cells) q) ≡ false
      packed_free = words_free f s (packed (length ws ∷ map (λ w. w % 256) ws)) cells able.ready.free (omega (arith, last_sized, ends))

      packed_able : Able address further (with_words s (packed (length ws ∷ map (λ w. w % 256) ws)) cells) f 18
      packed_able = able_words address further f 18 s (packed (length ws ∷ map (λ w. w % 256) ws)) cells able vec.0 (omega (arith, last_sized, ends))

      closed4 : closed 1 (f + 4) (laid (f + 2) (Set v ∷ Set s ∷ Set (length ws) ∷ []) (with_words s (packed (length ws ∷ map (λ w. w % 256) ws)) cells)) ≡ laid (f + 2) (Set v ∷ Set s ∷ []) (with_words s (packed (length ws ∷ map (λ w. w % 256) ws)) cells)
      closed4 = laid_close (f + 2) (f + 4) 1 (Set v ∷ Set s ∷ []) (Set (length ws) ∷ []) (with_words s (packed (length ws ∷ map (λ w. w % 256) ws)) cells) (λ q le. packed_free q (omega (arith, le))) (omega arith) refl

      closed2 : closed 2 (f + 2) (laid (f + 2) (Set v ∷ Set s ∷ []) (with_words s (packed (length ws ∷ map (λ w. w % 256) ws)) cells)) ≡ with_words s (packed (length ws ∷ map (λ w. w % 256) ws)) cells
      closed2 = laid_back (f + 2) 2 (Set v ∷ Set s ∷ []) (with_words s (packed (length ws ∷ map (λ w. w % 256) ws)) cells) (λ q le. packed_free q (omega (arith, le))) refl
