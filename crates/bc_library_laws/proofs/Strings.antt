-- What WRITES does: its FOR, by induction over the remaining bytes.
use Rattle.std.proofs.Common.{◌≡◌, ℕ, suc, ◌+◌, ◌*◌, ◌/◌, ◌%◌, ◌<◌, List, [], ◌∷◌, length, true, false, refl, ◌∙◌, arith}
use Rattle.std.proofs.lemmas.List.{get_or-set_same, get_or-set_other, length-set, set-set}
use Rattle.std.specs.Prelude.{slice_set, nat_le, int_lt}
use Rattle.bc_word.specs.Words.{signed, holds}
use Rattle.bc_machine_defs.specs.Streams.{Content}
use Rattle.bc_machine_defs.specs.StreamCalls.{after_write}
use Rattle.bc_core.specs.Tree.{Load, Frame}
use Rattle.bc_core.specs.Map.{Placed}
use Rattle.bc_core.specs.Store.{Cell, Dead, Unset, Set, cell_at}
use Rattle.bc_core.specs.Outcome.{Done, then_do, choose, rounds}
use Rattle.bc_core.specs.Exit.{Past}
use Rattle.bc_core.specs.Loop.{LoopRound, back, leave, after_body, end_relation}
use Rattle.bc_core.specs.Value.{Context, value, assign}
use Rattle.bc_core.specs.Command.{perform_block, step_of_for}
use Rattle.bc_core.specs.Meaning.{calls, context_in}
use Rattle.bc_library_laws.specs.Library.{library, at, commands, write_char, calling}
use Rattle.bc_library_laws.specs.Laws.{state, Ready, HoldsBytes, HoldsString, after_writes}
use Rattle.bc_library_laws.proofs.Words.{up_to, past_end}
use Rattle.bc_library_laws.proofs.Steps.{Has, wrch, kept, grown, less_room, fits_true, given_back, dead_cell}
use Rattle.bc_library_laws.proofs.Bytes.{get_byte_does}

abbrev pub among : List Placed → (ℕ → ℕ) → ℕ → Context
among program address n = context_in (record { core = library; address = address }) (calls program n)

-- one iteration of WRITES's FOR, with its variable at f + 3 and this limit
abbrev round : List Placed → (ℕ → ℕ) → (n f limit : ℕ) → Unit {0} → LoopRound
round program address n f limit u =
    then_do (value (among program address n) (Load (Frame 3)) f 5) (λ i.
    choose (holds (end_relation 1) i limit) leave
    (then_do (perform_block (among program address n) (commands (write_char (calling 20 (at 2 ∷ at 3 ∷ [])) ∷ [])) f 5)
    (after_body (then_do (assign (among program address n) (step_of_for 1 3) (Frame 3) f 5) (λ u. back)))))

abbrev with_i : List Cell → (f s i : ℕ) → List Cell
with_i cells f s i = slice_set (slice_set cells (f + 2) (Set s)) (f + 3) (Set i)

loop : (program : List Placed) (address : ℕ → ℕ) → Has program address
    → (cells : List Cell) (f n t s limit x : ℕ) → Ready address cells f 15 → limit < 256
    → (rest : List ℕ) (streams : Content) (i K T : ℕ) → HoldsBytes cells s i rest → i + length rest ≡ suc limit → K ≡ length rest + x → T ≡ 3 * length rest + t
    → rounds (suc K) (round program address (suc n) f limit) tt (state (with_i cells f s i) streams T) ≡ Done Past (state (with_i cells f s (suc limit)) (after_writes rest streams) t)
loop program address h cells f n t s limit x r short [] streams i K T b ei eK eT =
    let here : (f + 3) % 65536 ≡ f + 3 = omega (arith, r.room) in
    let last : i ≡ suc limit = omega (arith, ei) in
    let i_is : cell_at (with_i cells f s (suc limit)) ((f + 3) % 65536) ≡ Set (suc limit) =
    rw here (get_or-set_same (slice_set cells (f + 2) (Set s)) (f + 3) (Set (suc limit)) Dead (omega (arith, length-set cells (f + 2) (Set s), r.whole, r.room))) in
    let ended : int_lt (signed limit) (signed (suc limit)) ≡ true = past_end limit short in
    let turns : T ≡ t = omega (arith, eT) in
    rw (last, turns, i_is, ended) refl
loop program address h cells f n t s limit x r short (byte ∷ rest) streams i K T b ei eK eT =
    let here : (f + 3) % 65536 ≡ f + 3 = omega (arith, r.room) in
    let there : (f + 2) % 65536 ≡ f + 2 = omega (arith, r.room) in
    let i_is : cell_at (with_i cells f s i) ((f + 3) % 65536) ≡ Set i =
    rw here (get_or-set_same (slice_set cells (f + 2) (Set s)) (f + 3) (Set i) Dead (omega (arith, length-set cells (f + 2) (Set s), r.whole, r.room))) in
    let s_is : cell_at (with_i cells f s i) ((f + 2) % 65536) ≡ Set s =
    rw there (get_or-set_other (slice_set cells (f + 2) (Set s)) (f + 3) (f + 2) (Set i) Dead (λ same. omega arith) ∙ get_or-set_same cells (f + 2) (Set s) Dead (omega (arith, r.whole, r.room))) in
    let going : int_lt (signed limit) (signed i) ≡ false = up_to limit i short (omega (arith, ei)) in
    let r3 : Ready address (slice_set cells (f + 2) (Set s)) (f + 3) 12 = grown address cells f (f + 3) (f + 2) 15 12 (Set s) r (omega arith) (omega arith) (omega arith) in
    let r5 : Ready address (with_i cells f s i) (f + 5) 10 = grown address (slice_set cells (f + 2) (Set s)) (f + 3) (f + 5) (f + 3) 12 10 (Set i) r3 (omega arith) (omega arith) (omega arith) in
    let r7 : Ready address (with_i cells f s i) (f + 7) 8 = grown address (slice_set cells (f + 2) (Set s)) (f + 3) (f + 7) (f + 3) 12 8 (Set i) r3 (omega arith) (omega arith) (omega arith) in
    let word_is : cell_at (with_i cells f s i) ((s + i / 2) % 65536) ≡ Set b.0.0 =
    kept (f + 3) ((s + i / 2) % 65536) (f + 3) b.0.0 (Set i) (slice_set cells (f + 2) (Set s)) r3.free (omega arith)
    (kept f ((s + i / 2) % 65536) (f + 2) b.0.0 (Set s) cells r.free (omega arith) b.0.1) in
    let turns : T ≡ suc (suc (suc (3 * length rest + t))) = omega (arith, eT) in
    let fuel : K ≡ suc (length rest + x) = omega (arith, eK) in
    let get = get_byte_does program address h (with_i cells f s i) streams (f + 7) n (suc (suc (3 * length rest + t))) s i b.0.0 r7 word_is in
    let write = wrch program h.wrch (with_i cells f s i) streams (f + 5) n (suc (3 * length rest + t)) byte r5.whole r5.free (omega (arith, r5.room)) in
    let is_byte : byte % 256 ≡ byte = omega (arith, b.0.3) in
    let next : (i + 1) % 65536 ≡ i + 1 = omega (arith, ei) in
    let stored : slice_set (with_i cells f s i) ((f + 3) % 65536) (Set ((i + 1) % 65536)) ≡ with_i cells f s (i + 1) =
    rw (here, next) (set-set (slice_set cells (f + 2) (Set s)) (f + 3) (Set i) (Set (i + 1))) in
    rw (turns, fuel, i_is, going, s_is, i_is, r5.get_byte, get, b.0.2, r5.write_char, write, is_byte, i_is, i_is, stored)
    (loop program address h cells f n t s limit x r short rest (after_write byte streams) (i + 1) (length rest + x) (3 * length rest + t) b.1 (omega (arith, ei)) refl refl)

pub write_s_does : (program : List Placed) (address : ℕ → ℕ) → Has program address
    → (s : ℕ) (bytes : List ℕ) (cells : List Cell) (streams : Content) (f n t : ℕ) → Ready address cells f 15 → HoldsString cells s bytes
    → calls program (suc (suc n)) (address 3) (s ∷ []) f (state cells streams (suc (suc (3 * length bytes + t)))) ≡ Done 0 (state cells (after_writes bytes streams) t)
write_s_does program address h s bytes cells streams f n t r b =
    let fits : nat_le (f + 11) 65536 ≡ true = fits_true _ _ (omega (arith, r.room)) in
    let here : (f + 3) % 65536 ≡ f + 3 = omega (arith, r.room) in
    let there : (f + 2) % 65536 ≡ f + 2 = omega (arith, r.room) in
    let room3 : f + 3 < length (slice_set cells (f + 2) (Set s)) = omega (arith, length-set cells (f + 2) (Set s), r.whole, r.room) in
    let unset : cell_at (slice_set (slice_set cells (f + 2) (Set s)) (f + 3) Unset) ((f + 3) % 65536) ≡ Unset = rw here (get_or-set_same (slice_set cells (f + 2) (Set s)) (f + 3) Unset Dead room3) in
    let started : slice_set (slice_set (slice_set cells (f + 2) (Set s)) (f + 3) Unset) ((f + 3) % 65536) (Set 1) ≡ with_i cells f s 1 = rw here (set-set (slice_set cells (f + 2) (Set s)) (f + 3) Unset (Set 1)) in
    let s_is : cell_at (with_i cells f s 1) ((f + 2) % 65536) ≡ Set s =
    rw there (get_or-set_other (slice_set cells (f + 2) (Set s)) (f + 3) (f + 2) (Set 1) Dead (λ same. omega arith) ∙ get_or-set_same cells (f + 2) (Set s) Dead (omega (arith, r.whole, r.room))) in
    let r3 : Ready address (slice_set cells (f + 2) (Set s)) (f + 3) 12 = grown address cells f (f + 3) (f + 2) 15 12 (Set s) r (omega arith) (omega arith) (omega arith) in
    let r5 : Ready address (with_i cells f s 1) (f + 5) 10 = grown address (slice_set cells (f + 2) (Set s)) (f + 3) (f + 5) (f + 3) 12 10 (Set 1) r3 (omega arith) (omega arith) (omega arith) in
    let word_is : cell_at (with_i cells f s 1) ((s + 0 / 2) % 65536) ≡ Set b.0.0 =
    kept (f + 3) ((s + 0 / 2) % 65536) (f + 3) b.0.0 (Set 1) (slice_set cells (f + 2) (Set s)) r3.free (omega arith)
    (kept f ((s + 0 / 2) % 65536) (f + 2) b.0.0 (Set s) cells r.free (omega arith) b.0.1) in
    let get = get_byte_does program address h (with_i cells f s 1) streams (f + 5) n (3 * length bytes + t) s 0 b.0.0 (less_room address (with_i cells f s 1) (f + 5) 10 8 (omega arith) r5) word_is in
    let rounds_do = loop program address h cells f n t s (length bytes) (2 * length bytes + t) r b.0.3 bytes streams 1 (3 * length bytes + t) (3 * length bytes + t) b.1 (omega arith) (omega arith) refl in
    let dead2 : cell_at cells (f + 2) ≡ Dead = dead_cell _ (r.free (f + 2) (omega arith)) in
    let dead3 : cell_at (slice_set cells (f + 2) (Set s)) (f + 3) ≡ Dead = dead_cell _ (r3.free (f + 3) (omega arith)) in
    let given3 : slice_set (with_i cells f s (suc (length bytes))) (f + 3) Dead ≡ slice_set cells (f + 2) (Set s) = given_back (slice_set cells (f + 2) (Set s)) (f + 3) (Set (suc (length bytes))) dead3 in
    let given2 : slice_set (slice_set cells (f + 2) (Set s)) (f + 2) Dead ≡ cells = given_back cells (f + 2) (Set s) dead2 in
    rw (h.write_s, fits, unset, started, s_is, r5.get_byte, get, b.0.2, rounds_do, given3, given2) refl
