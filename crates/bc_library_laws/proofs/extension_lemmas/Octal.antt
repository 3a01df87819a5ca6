-- What WRITEOCT and WRITEHEX do: their FOR, by induction over the remaining digits.
use Rattle.std.proofs.Common.{◌≡◌, ⊎_elim, ℕ, zero, suc, ◌+◌, ◌-◌, ◌*◌, ◌/◌, ◌%◌, ◌^◌, ◌<◌, ◌≤◌, List, [], ◌∷◌, length, map, true, false, refl, sym, ◌∙◌, subst, arith}
use Rattle.std.proofs.lemmas.Bool.{cases_lt}
use Rattle.std.proofs.lemmas.Bool.Decides.{nat_tests}
use Rattle.std.proofs.lemmas.Nat.{and_mask, pow_below, shr_below}
use Rattle.std.specs.Prelude.{slice_set, nat_le, nat_lt, int_lt, cond, ◌*ℤ◌, bit_and}
use Rattle.bc_word.specs.Words.{signed, holds, wrapped}
use Rattle.bc_word.specs.declared.operator.Op.TheVariants.{Add, Subtract, Multiply, And, ShiftRight, Less}
use Rattle.bc_machine_defs.specs.Streams.{Content}
use Rattle.bc_machine_defs.specs.StreamCalls.{after_write}
use Rattle.bc_core.specs.Tree.{Load, Frame, Bin, Num, Cond}
use Rattle.bc_core.specs.Commands.{Initial, block}
use Rattle.bc_core.specs.Map.{Placed}
use Rattle.bc_core.specs.Store.{Cell, Unset, Set, cell_at, closed}
use Rattle.bc_core.specs.Outcome.{Done, Run, then_do, choose, rounds}
use Rattle.bc_core.specs.Exit.{Past}
use Rattle.bc_core.specs.Loop.{LoopRound, back, leave, after_body, end_relation}
use Rattle.bc_core.specs.Value.{Context, value, assign}
use Rattle.bc_core.specs.Command.{perform_block, step_of_for}
use Rattle.bc_core.specs.Meaning.{calls, context}
use Rattle.bc_library_laws.specs.Library.{at, commands, list, write_char}
use Rattle.bc_library_laws.specs.Laws.{state, after_writes}
use Rattle.bc_library_laws.proofs.Words.{is_positive, not_less, less}
use Rattle.bc_library_laws.proofs.extension_lemmas.Tests.{yes_lt, no_lt}
use Rattle.bc_library_laws.proofs.Steps.{Has, wrch, fits_true}
use Rattle.bc_library_laws.specs.extension.Laws.{Able, laid, last_digits, hex_character}
use Rattle.bc_library_laws.proofs.extension_lemmas.Frames.{laid_length, reads, writes, read_at, write_at, read_under, opens, laid_back, laid_close, able_after, able_over}
use Rattle.bc_library_laws.proofs.extension_lemmas.Finding.{HasFurther}

-- one less, as a word
abbrev pub before : ℕ → ℕ
before zero = 65535
before (suc i) = i

pub less_one : (i : ℕ) → i < 32768 → (i + 65535) % 65536 ≡ before i
less_one zero h = refl
less_one (suc i) h = omega arith

pub product : (a b : ℕ) → a < 32768 → b < 32768 → a * b < 65536 → wrapped (signed a *ℤ signed b) ≡ a * b
product a b ha hb h = let e : (a * b) % 65536 ≡ a * b = omega (arith, h) in rw (is_positive a ha, is_positive b hb) e

no_digit : (n k : ℕ) → n < 65536 → 16 ≤ k → n / 2 ^ k ≡ 0
no_digit n k small large = let below : n / 2 ^ k < 1 = shr_below n 0 k within in omega (arith, below) where
  within : n < 2 ^ (0 + k)
  within = ⊎_elim (λ lt. let same : 0 + k ≡ k = omega arith in let big : 65536 < 2 ^ k = pow_below 16 k lt in subst (λ z. n < 2 ^ z) (sym same) (omega (arith, small, big)))
      (λ le. let same : 0 + k ≡ 16 = omega (arith, le, large) in subst (λ z. n < 2 ^ z) (sym same) small) (cases_lt 16 k)

pub shifted : (n k : ℕ) → n < 65536 → cond (nat_le 16 k) 0 (n / 2 ^ k) ≡ n / 2 ^ k
shifted n k small = ⊎_elim
    (λ lt. let no : nat_le 16 k ≡ false = grind (arith, nat_tests, lt) in rw no refl)
    (λ le. let yes : nat_le 16 k ≡ true = fits_true 16 k le in rw yes (sym (no_digit n k small le))) (cases_lt k 16)

-- one iteration of WRITEOCT's FOR
abbrev octal_round : (C : Context) → (f : ℕ) → Unit {0} → LoopRound
octal_round C f u =
    then_do (value C (Load (Frame 4)) f 6) (λ i.
    choose (holds (end_relation 65535) i 0) leave
    (then_do (perform_block C (commands (write_char (Bin Add (Num 48) (Bin And (Bin ShiftRight (at 2) (Bin Multiply (Num 3) (at 4))) (Num 7))) ∷ [])) f 6)
    (after_body (then_do (assign C (step_of_for 65535 4) (Frame 4) f 6) (λ u. back)))))

octal_loop : (P : List Placed) (address further : ℕ → ℕ) → Has P address → (V : ℕ → ℕ → ℕ → Run ℕ) → (cells : List Cell) (f n t w count x : ℕ) → Able address further cells f 13 → w < 65536
    → (i m : ℕ) (streams : Content) (K T : ℕ) → i ≤ 21846 → (0 < i → m ≡ suc n) → K ≡ i + x → T ≡ 2 * i + t
    → rounds (suc K) (octal_round (context further (calls P m) V) f) tt (state (laid (f + 2) (Set w ∷ Set count ∷ Set (before i) ∷ []) cells) streams T)
    ≡ Done Past (state (laid (f + 2) (Set w ∷ Set count ∷ Set 65535 ∷ []) cells) (after_writes (map (λ d. 48 + d) (last_digits 3 i w)) streams) t)
octal_loop P address further h V cells f n t w count x able word zero m streams K T few deep eK eT =
    let i_is : cell_at (laid (f + 2) (Set w ∷ Set count ∷ Set 65535 ∷ []) cells) ((f + 4) % 65536) ≡ Set 65535 =
    reads f 4 (Set w ∷ Set count ∷ Set 65535 ∷ []) cells (omega arith) (omega arith) able.ready.whole (omega (arith, able.ready.room)) in
    let turns : T ≡ t = omega (arith, eT) in
    rw (turns, i_is) refl
octal_loop P address further h V cells f n t w count x able word (suc i) m streams K T few deep eK eT =
    let room : f + 13 ≤ 65536 = able.ready.room in
    let i_is : cell_at (laid (f + 2) (Set w ∷ Set count ∷ Set i ∷ []) cells) ((f + 4) % 65536) ≡ Set i =
    reads f 4 (Set w ∷ Set count ∷ Set i ∷ []) cells (omega arith) (omega arith) able.ready.whole (omega (arith, room)) in
    let w_is : cell_at (laid (f + 2) (Set w ∷ Set count ∷ Set i ∷ []) cells) ((f + 2) % 65536) ≡ Set w =
    reads f 2 (Set w ∷ Set count ∷ Set i ∷ []) cells (omega arith) (omega arith) able.ready.whole (omega (arith, room)) in
    let going : int_lt (signed i) (signed 0) ≡ false = not_less i (omega (arith, few)) in
    let three : wrapped (signed 3 *ℤ signed i) ≡ 3 * i = product 3 i (omega arith) (omega (arith, few)) (omega (arith, few)) in
    let digit : bit_and (w / 2 ^ (3 * i)) 7 ≡ w / 2 ^ (3 * i) % 8 = and_mask (w / 2 ^ (3 * i)) 3 in
    let byte : (48 + w / 2 ^ (3 * i) % 8) % 65536 % 256 ≡ 48 + w / 2 ^ (3 * i) % 8 = omega arith in
    let up = able_after address further f (f + 6) 13 7 (Set w ∷ Set count ∷ Set i ∷ []) cells able (omega arith) (omega arith) in
    let write = wrch P h.wrch (laid (f + 2) (Set w ∷ Set count ∷ Set i ∷ []) cells) streams (f + 6) n (suc (2 * i + t)) ((48 + w / 2 ^ (3 * i) % 8) % 65536)
    up.ready.whole up.ready.free (omega (arith, up.ready.room)) in
    let stored : slice_set (laid (f + 2) (Set w ∷ Set count ∷ Set i ∷ []) cells) ((f + 4) % 65536) (Set ((i + 65535) % 65536)) ≡ laid (f + 2) (Set w ∷ Set count ∷ Set (before i) ∷ []) cells =
    rw (less_one i (omega (arith, few))) (writes f 4 (Set w ∷ Set count ∷ Set i ∷ []) cells (Set (before i)) (omega arith) (omega arith) (omega (arith, room))) in
    let turns : T ≡ suc (suc (2 * i + t)) = omega (arith, eT) in
    let fuel : K ≡ suc (i + x) = omega (arith, eK) in
    rw (deep (omega arith), turns, fuel, i_is, going, w_is, i_is, three, shifted w (3 * i) word, digit, up.ready.write_char, write, byte, i_is, i_is, stored)
    (octal_loop P address further h V cells f n t w count x able word i (suc n) (after_write (48 + w / 2 ^ (3 * i) % 8) streams) (i + x) (2 * i + t) (omega (arith, few)) (λ lt. refl) refl refl)

pub octal_does : (P : List Placed) (address further : ℕ → ℕ) → Has P address → (e : HasFurther P further) → (w count : ℕ) (cells : List Cell) (streams : Content) (f m n t N T : ℕ)
    → Able address further cells f 13 → w < 65536 → count ≤ 21846 → N ≡ suc m → (0 < count → m ≡ suc n) → T ≡ 1 + 2 * count + t
    → calls P N (further 27) (w ∷ count ∷ []) f (state cells streams T) ≡ Done 0 (state cells (after_writes (map (λ d. 48 + d) (last_digits 3 count w)) streams) t)
octal_does P address further h e w count cells streams f m n t N T able word few eN deep eT =
    let room : f + 13 ≤ 65536 = able.ready.room in
    let fits : nat_le (f + 13) 65536 ≡ true = fits_true _ _ room in
    let opened : slice_set (laid (f + 2) (Set w ∷ Set count ∷ []) cells) (f + 4) Unset ≡ laid (f + 2) (Set w ∷ Set count ∷ Unset ∷ []) cells =
    opens (f + 2) (f + 4) (Set w ∷ Set count ∷ []) cells (omega arith) in
    let fresh : cell_at (laid (f + 2) (Set w ∷ Set count ∷ Unset ∷ []) cells) ((f + 4) % 65536) ≡ Unset =
    reads f 4 (Set w ∷ Set count ∷ Unset ∷ []) cells (omega arith) (omega arith) able.ready.whole (omega (arith, room)) in
    let count_is : cell_at (laid (f + 2) (Set w ∷ Set count ∷ Unset ∷ []) cells) ((f + 3) % 65536) ≡ Set count =
    reads f 3 (Set w ∷ Set count ∷ Unset ∷ []) cells (omega arith) (omega arith) able.ready.whole (omega (arith, room)) in
    let started : slice_set (laid (f + 2) (Set w ∷ Set count ∷ Unset ∷ []) cells) ((f + 4) % 65536) (Set ((count + 65535) % 65536)) ≡ laid (f + 2) (Set w ∷ Set count ∷ Set (before count) ∷ []) cells =
    rw (less_one count (omega (arith, few))) (writes f 4 (Set w ∷ Set count ∷ Unset ∷ []) cells (Set (before count)) (omega arith) (omega arith) (omega (arith, room))) in
    let rounds_do = octal_loop P address further h (e.valofs (calls P m)) cells f n t w count (count + t) able word count m streams (2 * count + t) (2 * count + t) few deep (omega arith) refl in
    let given1 : closed 1 (f + 4) (laid (f + 2) (Set w ∷ Set count ∷ Set 65535 ∷ []) cells) ≡ laid (f + 2) (Set w ∷ Set count ∷ []) cells =
    laid_close (f + 2) (f + 4) 1 (Set w ∷ Set count ∷ []) (Set 65535 ∷ []) cells (λ q le. able.ready.free q (omega (arith, le))) (omega arith) refl in
    let given2 : closed 2 (f + 2) (laid (f + 2) (Set w ∷ Set count ∷ []) cells) ≡ cells = laid_back (f + 2) 2 (Set w ∷ Set count ∷ []) cells (λ q le. able.ready.free q (omega (arith, le))) refl in
    let turns : T ≡ suc (2 * count + t) = omega (arith, eT) in
    rw (eN, turns, e.writeoct, fits, opened, count_is, fresh, started, rounds_do, given1, given2) refl

-- WRITEOCT of a negative count
pub octal_none : (P : List Placed) (address further : ℕ → ℕ) → (e : HasFurther P further) → (w count : ℕ) (cells : List Cell) (streams : Content) (f m t N T : ℕ)
    → Able address further cells f 13 → 32768 < count → count < 65536 → N ≡ suc m → T ≡ 1 + t
    → calls P N (further 27) (w ∷ count ∷ []) f (state cells streams T) ≡ Done 0 (state cells streams t)
octal_none P address further e w count cells streams f m t N T able large word eN eT =
    let room : f + 13 ≤ 65536 = able.ready.room in
    let fits : nat_le (f + 13) 65536 ≡ true = fits_true _ _ room in
    let opened : slice_set (laid (f + 2) (Set w ∷ Set count ∷ []) cells) (f + 4) Unset ≡ laid (f + 2) (Set w ∷ Set count ∷ Unset ∷ []) cells =
    opens (f + 2) (f + 4) (Set w ∷ Set count ∷ []) cells (omega arith) in
    let fresh : cell_at (laid (f + 2) (Set w ∷ Set count ∷ Unset ∷ []) cells) ((f + 4) % 65536) ≡ Unset =
    reads f 4 (Set w ∷ Set count ∷ Unset ∷ []) cells (omega arith) (omega arith) able.ready.whole (omega (arith, room)) in
    let count_is : cell_at (laid (f + 2) (Set w ∷ Set count ∷ Unset ∷ []) cells) ((f + 3) % 65536) ≡ Set count =
    reads f 3 (Set w ∷ Set count ∷ Unset ∷ []) cells (omega arith) (omega arith) able.ready.whole (omega (arith, room)) in
    let less_than : (count + 65535) % 65536 ≡ 65535 - (65536 - count) = omega (arith, large, word) in
    let started : slice_set (laid (f + 2) (Set w ∷ Set count ∷ Unset ∷ []) cells) ((f + 4) % 65536) (Set ((count + 65535) % 65536)) ≡ laid (f + 2) (Set w ∷ Set count ∷ Set (65535 - (65536 - count)) ∷ []) cells =
    rw less_than (writes f 4 (Set w ∷ Set count ∷ Unset ∷ []) cells (Set (65535 - (65536 - count))) (omega arith) (omega arith) (omega (arith, room))) in
    let i_is : cell_at (laid (f + 2) (Set w ∷ Set count ∷ Set (65535 - (65536 - count)) ∷ []) cells) ((f + 4) % 65536) ≡ Set (65535 - (65536 - count)) =
    reads f 4 (Set w ∷ Set count ∷ Set (65535 - (65536 - count)) ∷ []) cells (omega arith) (omega arith) able.ready.whole (omega (arith, room)) in
    let ends : int_lt (signed (65535 - (65536 - count))) (signed 0) ≡ true = less (65536 - count) (omega (arith, large)) in
    let given1 : closed 1 (f + 4) (laid (f + 2) (Set w ∷ Set count ∷ Set (65535 - (65536 - count)) ∷ []) cells) ≡ laid (f + 2) (Set w ∷ Set count ∷ []) cells =
    laid_close (f + 2) (f + 4) 1 (Set w ∷ Set count ∷ []) (Set (65535 - (65536 - count)) ∷ []) cells (λ q le. able.ready.free q (omega (arith, le))) (omega arith) refl in
    let given2 : closed 2 (f + 2) (laid (f + 2) (Set w ∷ Set count ∷ []) cells) ≡ cells = laid_back (f + 2) 2 (Set w ∷ Set count ∷ []) cells (λ q le. able.ready.free q (omega (arith, le))) refl in
    let turns : T ≡ suc t = omega (arith, eT) in
    rw (eN, turns, e.writeoct, fits, opened, count_is, fresh, started, i_is, ends, given1, given2) refl

-- the character that WRITEHEX computes for its variable
hex_value : (C : Context) (f d : ℕ) (cells : List Cell) (streams : Content) (t : ℕ) → d < 16 → cell_at cells ((f + 6) % 65536) ≡ Set d
    → value C (Cond (Bin Less (at 6) (Num 10)) (Bin Add (Num 48) (at 6)) (Bin Add (Bin Subtract (Num 65) (Num 10)) (at 6))) f 9 (state cells streams t) ≡ Done (hex_character d) (state cells streams t)
hex_value C f d cells streams t small is = ⊎_elim low high (cases_lt d 10) where
  low : d < 10 → value C (Cond (Bin Less (at 6) (Num 10)) (Bin Add (Num 48) (at 6)) (Bin Add (Bin Subtract (Num 65) (Num 10)) (at 6))) f 9 (state cells streams t) ≡ Done (hex_character d) (state cells streams t)
  low lt =
      let test : int_lt (signed d) (signed 10) ≡ true = yes_lt d 10 (omega (arith, small)) (omega arith) lt in
      let choice : nat_lt d 10 ≡ true = grind (arith, nat_tests, lt) in
      let sum : (48 + d) % 65536 ≡ 48 + d = omega (arith, small) in
      rw (is, test, is, sum, choice) refl

  high : 10 ≤ d → value C (Cond (Bin Less (at 6) (Num 10)) (Bin Add (Num 48) (at 6)) (Bin Add (Bin Subtract (Num 65) (Num 10)) (at 6))) f 9 (state cells streams t) ≡ Done (hex_character d) (state cells streams t)
  high le =
      let test : int_lt (signed d) (signed 10) ≡ false = no_lt d 10 (omega (arith, small)) (omega arith) le in
      let choice : nat_lt d 10 ≡ false = grind (arith, nat_tests, le) in
      let sum : (55 + d) % 65536 ≡ 55 + d = omega (arith, small) in
      rw (is, test, is, sum, choice) refl

hex_byte : (d : ℕ) → d < 16 → hex_character d % 256 ≡ hex_character d
hex_byte d small = ⊎_elim
    (λ lt. let choice : nat_lt d 10 ≡ true = grind (arith, nat_tests, lt) in let byte : (48 + d) % 256 ≡ 48 + d = omega (arith, small) in rw (choice, byte) refl)
    (λ le. let choice : nat_lt d 10 ≡ false = grind (arith, nat_tests, le) in let byte : (55 + d) % 256 ≡ 55 + d = omega (arith, small) in rw (choice, byte) refl) (cases_lt d 10)

-- one iteration of WRITEHEX's FOR
abbrev hex_round : (C : Context) → (f : ℕ) → Unit {0} → LoopRound
hex_round C f u =
    then_do (value C (Load (Frame 4)) f 6) (λ i.
    choose (holds (end_relation 65535) i 0) leave
    (then_do (perform_block C (block ((Initial (Bin And (Bin ShiftRight (at 2) (Bin Multiply (Num 4) (at 4))) (Num 15)) ∷ []) ∷ [])
    (list (write_char (Cond (Bin Less (at 6) (Num 10)) (Bin Add (Num 48) (at 6)) (Bin Add (Bin Subtract (Num 65) (Num 10)) (at 6))) ∷ []))) f 6)
    (after_body (then_do (assign C (step_of_for 65535 4) (Frame 4) f 6) (λ u. back)))))

hex_loop : (P : List Placed) (address further : ℕ → ℕ) → Has P address → (V : ℕ → ℕ → ℕ → Run ℕ) → (cells : List Cell) (f n t w count x : ℕ) → Able address further cells f 12 → w < 65536
    → (i m : ℕ) (streams : Content) (K T : ℕ) → i ≤ 16384 → (0 < i → m ≡ suc n) → K ≡ i + x → T ≡ 2 * i + t
    → rounds (suc K) (hex_round (context further (calls P m) V) f) tt (state (laid (f + 2) (Set w ∷ Set count ∷ Set (before i) ∷ []) cells) streams T)
    ≡ Done Past (state (laid (f + 2) (Set w ∷ Set count ∷ Set 65535 ∷ []) cells) (after_writes (map hex_character (last_digits 4 i w)) streams) t)
hex_loop P address further h V cells f n t w count x able word zero m streams K T few deep eK eT =
    let i_is : cell_at (laid (f + 2) (Set w ∷ Set count ∷ Set 65535 ∷ []) cells) ((f + 4) % 65536) ≡ Set 65535 =
    reads f 4 (Set w ∷ Set count ∷ Set 65535 ∷ []) cells (omega arith) (omega arith) able.ready.whole (omega (arith, able.ready.room)) in
    let turns : T ≡ t = omega (arith, eT) in
    rw (turns, i_is) refl
hex_loop P address further h V cells f n t w count x able word (suc i) m streams K T few deep eK eT =
    let room : f + 12 ≤ 65536 = able.ready.room in
    let base_length : length (laid (f + 2) (Set w ∷ Set count ∷ Set i ∷ []) cells) ≡ 65536 = laid_length (f + 2) (Set w ∷ Set count ∷ Set i ∷ []) cells ∙ able.ready.whole in
    let i_is : cell_at (laid (f + 2) (Set w ∷ Set count ∷ Set i ∷ []) cells) ((f + 4) % 65536) ≡ Set i =
    reads f 4 (Set w ∷ Set count ∷ Set i ∷ []) cells (omega arith) (omega arith) able.ready.whole (omega (arith, room)) in
    let w_is : cell_at (laid (f + 2) (Set w ∷ Set count ∷ Set i ∷ []) cells) ((f + 2) % 65536) ≡ Set w =
    reads f 2 (Set w ∷ Set count ∷ Set i ∷ []) cells (omega arith) (omega arith) able.ready.whole (omega (arith, room)) in
    let going : int_lt (signed i) (signed 0) ≡ false = not_less i (omega (arith, few)) in
    let w_in : cell_at (laid (f + 6) (Unset ∷ []) (laid (f + 2) (Set w ∷ Set count ∷ Set i ∷ []) cells)) ((f + 2) % 65536) ≡ Set w =
    read_under (f + 6) (f + 2) (Unset ∷ []) (laid (f + 2) (Set w ∷ Set count ∷ Set i ∷ []) cells) (omega arith) (omega (arith, room)) ∙ w_is in
    let i_in : cell_at (laid (f + 6) (Unset ∷ []) (laid (f + 2) (Set w ∷ Set count ∷ Set i ∷ []) cells)) ((f + 4) % 65536) ≡ Set i =
    read_under (f + 6) (f + 4) (Unset ∷ []) (laid (f + 2) (Set w ∷ Set count ∷ Set i ∷ []) cells) (omega arith) (omega (arith, room)) ∙ i_is in
    let four : wrapped (signed 4 *ℤ signed i) ≡ 4 * i = product 4 i (omega arith) (omega (arith, few)) (omega (arith, few)) in
    let digit : bit_and (w / 2 ^ (4 * i)) 15 ≡ w / 2 ^ (4 * i) % 16 = and_mask (w / 2 ^ (4 * i)) 4 in
    let small : w / 2 ^ (4 * i) % 16 < 16 = omega arith in
    let fresh : cell_at (laid (f + 6) (Unset ∷ []) (laid (f + 2) (Set w ∷ Set count ∷ Set i ∷ []) cells)) ((f + 6) % 65536) ≡ Unset =
    read_at (f + 6) (f + 6) 0 (Unset ∷ []) (laid (f + 2) (Set w ∷ Set count ∷ Set i ∷ []) cells) (omega arith) (omega arith) base_length (omega (arith, room)) in
    let set : slice_set (laid (f + 6) (Unset ∷ []) (laid (f + 2) (Set w ∷ Set count ∷ Set i ∷ []) cells)) ((f + 6) % 65536) (Set (w / 2 ^ (4 * i) % 16))
    ≡ laid (f + 6) (Set (w / 2 ^ (4 * i) % 16) ∷ []) (laid (f + 2) (Set w ∷ Set count ∷ Set i ∷ []) cells) =
    write_at (f + 6) (f + 6) 0 (Unset ∷ []) (laid (f + 2) (Set w ∷ Set count ∷ Set i ∷ []) cells) (Set (w / 2 ^ (4 * i) % 16)) (omega arith) (omega arith) (omega (arith, room)) in
    let d_is : cell_at (laid (f + 6) (Set (w / 2 ^ (4 * i) % 16) ∷ []) (laid (f + 2) (Set w ∷ Set count ∷ Set i ∷ []) cells)) ((f + 6) % 65536) ≡ Set (w / 2 ^ (4 * i) % 16) =
    read_at (f + 6) (f + 6) 0 (Set (w / 2 ^ (4 * i) % 16) ∷ []) (laid (f + 2) (Set w ∷ Set count ∷ Set i ∷ []) cells) (omega arith) (omega arith) base_length (omega (arith, room)) in
    let chosen = hex_value (context further (calls P (suc n)) V) f (w / 2 ^ (4 * i) % 16) (laid (f + 6) (Set (w / 2 ^ (4 * i) % 16) ∷ []) (laid (f + 2) (Set w ∷ Set count ∷ Set i ∷ []) cells))
    streams (suc (suc (2 * i + t))) small d_is in
    let up0 = able_after address further f (f + 6) 12 6 (Set w ∷ Set count ∷ Set i ∷ []) cells able (omega arith) (omega arith) in
    let up = able_over address further (f + 6) (f + 6) (f + 7) 6 5 (Set (w / 2 ^ (4 * i) % 16) ∷ []) (laid (f + 2) (Set w ∷ Set count ∷ Set i ∷ []) cells) up0 (omega arith) (omega arith) (omega arith) in
    let write = wrch P h.wrch (laid (f + 6) (Set (w / 2 ^ (4 * i) % 16) ∷ []) (laid (f + 2) (Set w ∷ Set count ∷ Set i ∷ []) cells)) streams (f + 7) n (suc (2 * i + t)) (hex_character (w / 2 ^ (4 * i) % 16))
    up.ready.whole up.ready.free (omega (arith, up.ready.room)) in
    let given : closed 1 (f + 6) (laid (f + 6) (Set (w / 2 ^ (4 * i) % 16) ∷ []) (laid (f + 2) (Set w ∷ Set count ∷ Set i ∷ []) cells)) ≡ laid (f + 2) (Set w ∷ Set count ∷ Set i ∷ []) cells =
    laid_back (f + 6) 1 (Set (w / 2 ^ (4 * i) % 16) ∷ []) (laid (f + 2) (Set w ∷ Set count ∷ Set i ∷ []) cells) up0.ready.free refl in
    let stored : slice_set (laid (f + 2) (Set w ∷ Set count ∷ Set i ∷ []) cells) ((f + 4) % 65536) (Set ((i + 65535) % 65536)) ≡ laid (f + 2) (Set w ∷ Set count ∷ Set (before i) ∷ []) cells =
    rw (less_one i (omega (arith, few))) (writes f 4 (Set w ∷ Set count ∷ Set i ∷ []) cells (Set (before i)) (omega arith) (omega arith) (omega (arith, room))) in
    let turns : T ≡ suc (suc (2 * i + t)) = omega (arith, eT) in
    let fuel : K ≡ suc (i + x) = omega (arith, eK) in
    rw (deep (omega arith), turns, fuel, i_is, going, w_in, i_in, four, shifted w (4 * i) word, digit, fresh, set, chosen, up.ready.write_char, write, hex_byte (w / 2 ^ (4 * i) % 16) small, given, i_is, i_is, stored)
    (hex_loop P address further h V cells f n t w count x able word i (suc n) (after_write (hex_character (w / 2 ^ (4 * i) % 16)) streams) (i + x) (2 * i + t) (omega (arith, few)) (λ lt. refl) refl refl)

pub hex_does : (P : List Placed) (address further : ℕ → ℕ) → Has P address → (e : HasFurther P further) → (w count : ℕ) (cells : List Cell) (streams : Content) (f m n t N T : ℕ)
    → Able address further cells f 12 → w < 65536 → count ≤ 16384 → N ≡ suc m → (0 < count → m ≡ suc n) → T ≡ 1 + 2 * count + t
    → calls P N (further 29) (w ∷ count ∷ []) f (state cells streams T) ≡ Done 0 (state cells (after_writes (map hex_character (last_digits 4 count w)) streams) t)
hex_does P address further h e w count cells streams f m n t N T able word few eN deep eT =
    let room : f + 12 ≤ 65536 = able.ready.room in
    let fits : nat_le (f + 12) 65536 ≡ true = fits_true _ _ room in
    let opened : slice_set (laid (f + 2) (Set w ∷ Set count ∷ []) cells) (f + 4) Unset ≡ laid (f + 2) (Set w ∷ Set count ∷ Unset ∷ []) cells =
    opens (f + 2) (f + 4) (Set w ∷ Set count ∷ []) cells (omega arith) in
    let fresh : cell_at (laid (f + 2) (Set w ∷ Set count ∷ Unset ∷ []) cells) ((f + 4) % 65536) ≡ Unset =
    reads f 4 (Set w ∷ Set count ∷ Unset ∷ []) cells (omega arith) (omega arith) able.ready.whole (omega (arith, room)) in
    let count_is : cell_at (laid (f + 2) (Set w ∷ Set count ∷ Unset ∷ []) cells) ((f + 3) % 65536) ≡ Set count =
    reads f 3 (Set w ∷ Set count ∷ Unset ∷ []) cells (omega arith) (omega arith) able.ready.whole (omega (arith, room)) in
    let started : slice_set (laid (f + 2) (Set w ∷ Set count ∷ Unset ∷ []) cells) ((f + 4) % 65536) (Set ((count + 65535) % 65536)) ≡ laid (f + 2) (Set w ∷ Set count ∷ Set (before count) ∷ []) cells =
    rw (less_one count (omega (arith, few))) (writes f 4 (Set w ∷ Set count ∷ Unset ∷ []) cells (Set (before count)) (omega arith) (omega arith) (omega (arith, room))) in
    let rounds_do = hex_loop P address further h (e.valofs (calls P m)) cells f n t w count (count + t) able word count m streams (2 * count + t) (2 * count + t) few deep (omega arith) refl in
    let given1 : closed 1 (f + 4) (laid (f + 2) (Set w ∷ Set count ∷ Set 65535 ∷ []) cells) ≡ laid (f + 2) (Set w ∷ Set count ∷ []) cells =
    laid_close (f + 2) (f + 4) 1 (Set w ∷ Set count ∷ []) (Set 65535 ∷ []) cells (λ q le. able.ready.free q (omega (arith, le))) (omega arith) refl in
    let given2 : closed 2 (f + 2) (laid (f + 2) (Set w ∷ Set count ∷ []) cells) ≡ cells = laid_back (f + 2) 2 (Set w ∷ Set count ∷ []) cells (λ q le. able.ready.free q (omega (arith, le))) refl in
    let turns : T ≡ suc (2 * count + t) = omega (arith, eT) in
    rw (eN, turns, e.writehex, fits, opened, count_is, fresh, started, rounds_do, given1, given2) refl

-- WRITEHEX of a negative count
pub hex_none : (P : List Placed) (address further : ℕ → ℕ) → (e : HasFurther P further) → (w count : ℕ) (cells : List Cell) (streams : Content) (f m t N T : ℕ)
    → Able address further cells f 12 → 32768 < count → count < 65536 → N ≡ suc m → T ≡ 1 + t
    → calls P N (further 29) (w ∷ count ∷ []) f (state cells streams T) ≡ Done 0 (state cells streams t)
hex_none P address further e w count cells streams f m t N T able large word eN eT =
    let room : f + 12 ≤ 65536 = able.ready.room in
    let fits : nat_le (f + 12) 65536 ≡ true = fits_true _ _ room in
    let opened : slice_set (laid (f + 2) (Set w ∷ Set count ∷ []) cells) (f + 4) Unset ≡ laid (f + 2) (Set w ∷ Set count ∷ Unset ∷ []) cells =
    opens (f + 2) (f + 4) (Set w ∷ Set count ∷ []) cells (omega arith) in
    let fresh : cell_at (laid (f + 2) (Set w ∷ Set count ∷ Unset ∷ []) cells) ((f + 4) % 65536) ≡ Unset =
    reads f 4 (Set w ∷ Set count ∷ Unset ∷ []) cells (omega arith) (omega arith) able.ready.whole (omega (arith, room)) in
    let count_is : cell_at (laid (f + 2) (Set w ∷ Set count ∷ Unset ∷ []) cells) ((f + 3) % 65536) ≡ Set count =
    reads f 3 (Set w ∷ Set count ∷ Unset ∷ []) cells (omega arith) (omega arith) able.ready.whole (omega (arith, room)) in
    let less_than : (count + 65535) % 65536 ≡ 65535 - (65536 - count) = omega (arith, large, word) in
    let started : slice_set (laid (f + 2) (Set w ∷ Set count ∷ Unset ∷ []) cells) ((f + 4) % 65536) (Set ((count + 65535) % 65536)) ≡ laid (f + 2) (Set w ∷ Set count ∷ Set (65535 - (65536 - count)) ∷ []) cells =
    rw less_than (writes f 4 (Set w ∷ Set count ∷ Unset ∷ []) cells (Set (65535 - (65536 - count))) (omega arith) (omega arith) (omega (arith, room))) in
    let i_is : cell_at (laid (f + 2) (Set w ∷ Set count ∷ Set (65535 - (65536 - count)) ∷ []) cells) ((f + 4) % 65536) ≡ Set (65535 - (65536 - count)) =
    reads f 4 (Set w ∷ Set count ∷ Set (65535 - (65536 - count)) ∷ []) cells (omega arith) (omega arith) able.ready.whole (omega (arith, room)) in
    let ends : int_lt (signed (65535 - (65536 - count))) (signed 0) ≡ true = less (65536 - count) (omega (arith, large)) in
    let given1 : closed 1 (f + 4) (laid (f + 2) (Set w ∷ Set count ∷ Set (65535 - (65536 - count)) ∷ []) cells) ≡ laid (f + 2) (Set w ∷ Set count ∷ []) cells =
    laid_close (f + 2) (f + 4) 1 (Set w ∷ Set count ∷ []) (Set (65535 - (65536 - count)) ∷ []) cells (λ q le. able.ready.free q (omega (arith, le))) (omega arith) refl in
    let given2 : closed 2 (f + 2) (laid (f + 2) (Set w ∷ Set count ∷ []) cells) ≡ cells = laid_back (f + 2) 2 (Set w ∷ Set count ∷ []) cells (λ q le. able.ready.free q (omega (arith, le))) refl in
    let turns : T ≡ suc t = omega (arith, eT) in
    rw (eN, turns, e.writehex, fits, opened, count_is, fresh, started, i_is, ends, given1, given2) refl
