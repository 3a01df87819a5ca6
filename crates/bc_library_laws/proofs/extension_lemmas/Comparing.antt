-- What CAPITALCH and COMPSTRING do: the FOR of COMPSTRING, by induction over the bytes that are left of both strings.
use Rattle.std.proofs.Common.{◌≡◌, ◌≢◌, ◌⊎◌, inl, inr, Bool, ⊎_elim, ℕ, suc, ◌+◌, ◌-◌, ◌/◌, ◌%◌, ◌<◌, ◌≤◌, ◌==◌, List, [], ◌∷◌, length, true, false, refl, sym, ap, subst, ◌∙◌, arith}
use Rattle.std.proofs.lemmas.Bool.{cases_lt}
use Rattle.std.proofs.lemmas.Bool.Decides.{nat_tests}
use Rattle.std.specs.Prelude.{slice_set, nat_le, nat_lt, int_lt, int_le, cond, ◌&&◌}
use Rattle.bc_word.specs.Words.{signed, holds}
use Rattle.bc_word.specs.declared.operator.Op.TheVariants.{Equal, Less}
use Rattle.bc_machine_defs.specs.Streams.{Content}
use Rattle.bc_core.specs.Tree.{Load, Frame, Bin, Num, Cond, Neg}
use Rattle.bc_core.specs.Commands.{Initial, block}
use Rattle.bc_core.specs.Commands as c
use Rattle.bc_core.specs.Map.{Placed}
use Rattle.bc_core.specs.Store.{Cell, Unset, Set, cell_at, closed}
use Rattle.bc_core.specs.Outcome.{Done, Run, then_do, choose, rounds, left}
use Rattle.bc_core.specs.Exit.{Exit, Past, Resulted}
use Rattle.bc_core.specs.Loop.{LoopRound, back, leave, after_body, end_relation}
use Rattle.bc_core.specs.Value.{Context, value, assign}
use Rattle.bc_core.specs.Command.{perform_block, step_of_for}
use Rattle.bc_core.specs.Laws.{is_live}
use Rattle.bc_core.specs.Meaning.{calls, context}
use Rattle.bc_library_laws.specs.Library.{at, commands, list, calling}
use Rattle.bc_library_laws.specs.Laws.{state, HoldsBytes, HoldsString, byte_in}
use Rattle.bc_library_laws.proofs.Words.{up_to, past_end}
use Rattle.bc_library_laws.proofs.extension_lemmas.Tests.{yes_le, no_le, yes_lt, no_lt, same_test, unlike_test}
use Rattle.bc_library_laws.proofs.Steps.{Has, fits_true, differ, low}
use Rattle.bc_library_laws.proofs.Bytes.{get_byte_does}
use Rattle.bc_library_laws.specs.extension.Laws.{Able, laid, capital, compared, turns_of_comparison}
use Rattle.bc_library_laws.proofs.extension_lemmas.Frames.{laid_below, reads, writes, read_at, write_at, read_under, opens, laid_more, set_below, laid_back, laid_close, able_after, able_over}
use Rattle.bc_library_laws.proofs.extension_lemmas.Finding.{HasFurther}

-- CAPITALCH
pub capital_does : (P : List Placed) (address further : ℕ → ℕ) → (e : HasFurther P further) → (cells : List Cell) (streams : Content) (f n t c : ℕ) → Able address further cells f 7 → c < 256
    → calls P (suc n) (further 32) (c ∷ []) f (state cells streams (suc t)) ≡ Done (capital c) (state cells streams t)
capital_does P address further e cells streams f n t c able small = ⊎_elim under (λ up. ⊎_elim (within up) (above up) (cases_lt c 123)) (cases_lt c 97) where
  fits : nat_le (f + 6) 65536 ≡ true
  fits = fits_true _ _ (omega (arith, able.ready.room))

  c_is : cell_at (laid (f + 2) (Set c ∷ []) cells) ((f + 2) % 65536) ≡ Set c
  c_is = reads f 2 (Set c ∷ []) cells (omega arith) (omega arith) able.ready.whole (omega (arith, able.ready.room))

  given : closed 1 (f + 2) (laid (f + 2) (Set c ∷ []) cells) ≡ cells
  given = laid_back (f + 2) 1 (Set c ∷ []) cells (λ q le. able.ready.free q (omega (arith, le))) refl

  under : c < 97 → calls P (suc n) (further 32) (c ∷ []) f (state cells streams (suc t)) ≡ Done (capital c) (state cells streams t)
  under lt =
      let no : int_le (signed 97) (signed c) ≡ false = no_le 97 c (omega arith) (omega (arith, small)) lt in
      let test : nat_le 97 c ≡ false = grind (arith, nat_tests, lt) in
      rw (e.capitalch, fits, c_is, no, c_is, given, test) refl

  within : 97 ≤ c → c < 123 → calls P (suc n) (further 32) (c ∷ []) f (state cells streams (suc t)) ≡ Done (capital c) (state cells streams t)
  within up lt =
      let yes : int_le (signed 97) (signed c) ≡ true = yes_le 97 c (omega arith) (omega (arith, small)) up in
      let yes2 : int_le (signed c) (signed 122) ≡ true = yes_le c 122 (omega (arith, small)) (omega arith) (omega (arith, lt)) in
      let test : nat_le 97 c ≡ true = fits_true 97 c up in
      let test2 : nat_le c 122 ≡ true = fits_true c 122 (omega (arith, lt)) in
      let sum : ((c + 65439) % 65536 + 65) % 65536 ≡ c - 32 = omega (arith, up, lt) in
      rw (e.capitalch, fits, c_is, yes, c_is, yes2, c_is, sum, given, test, test2) refl

  above : 97 ≤ c → 123 ≤ c → calls P (suc n) (further 32) (c ∷ []) f (state cells streams (suc t)) ≡ Done (capital c) (state cells streams t)
  above up over =
      let yes : int_le (signed 97) (signed c) ≡ true = yes_le 97 c (omega arith) (omega (arith, small)) up in
      let no : int_le (signed c) (signed 122) ≡ false = no_le c 122 (omega (arith, small)) (omega arith) over in
      let test : nat_le 97 c ≡ true = fits_true 97 c up in
      let test2 : nat_le c 122 ≡ false = grind (arith, nat_tests, over) in
      rw (e.capitalch, fits, c_is, yes, c_is, no, c_is, given, test, test2) refl

-- one iteration of COMPSTRING's FOR, with its variable at f + 6 and this limit
abbrev compare_round : (C : Context) → (f limit : ℕ) → Unit {0} → LoopRound
compare_round C f limit u =
    then_do (value C (Load (Frame 6)) f 8) (λ i.
    choose (holds (end_relation 1) i limit) leave
    (then_do (perform_block C (block ((Initial (calling 49 (calling 20 (at 2 ∷ at 6 ∷ []) ∷ [])) ∷ Initial (calling 49 (calling 20 (at 3 ∷ at 6 ∷ []) ∷ [])) ∷ []) ∷ [])
    (list (c.If false (Bin Equal (at 8) (at 9)) (commands (c.ResultIs (Cond (Bin Less (at 8) (at 9)) (Neg (Num 1)) (Num 1)) ∷ [])) ∷ []))) f 8)
    (after_body (then_do (assign C (step_of_for 1 6) (Frame 6) f 8) (λ u. back)))))

-- how many pairs of letters there are
abbrev common : List ℕ → List ℕ → ℕ
common [] ys = 0
common (x ∷ xs) [] = 0
common (x ∷ xs) (y ∷ ys) = suc (common xs ys)

-- where the FOR goes: past its end, or to the result
abbrev exit_of : List ℕ → List ℕ → Exit
exit_of [] ys = Past
exit_of (x ∷ xs) [] = Past
exit_of (x ∷ xs) (y ∷ ys) = cond (capital x == capital y) (exit_of xs ys) (Resulted (cond (nat_lt (capital x) (capital y)) 65535 1))

capital_small : (x : ℕ) → x < 256 → capital x < 256
capital_small x h = by (nat_le 97 x && nat_le x 122) where
  by : (b : Bool) → cond b (x - 32) x < 256
  by true = omega (arith, h)
  by false = h

-- -1 or 1, as COMPSTRING computes it for its variables
sign_value : (C : Context) (f k j l a b : ℕ) (cells : List Cell) (streams : Content) (t : ℕ) → a < 32768 → b < 32768 → cell_at cells ((f + k) % 65536) ≡ Set a → cell_at cells ((f + j) % 65536) ≡ Set b
    → value C (Cond (Bin Less (at k) (at j)) (Neg (Num 1)) (Num 1)) f l (state cells streams t) ≡ Done (cond (nat_lt a b) 65535 1) (state cells streams t)
sign_value C f k j l a b cells streams t ha hb a_is b_is = ⊎_elim
    (λ lt. let choice : nat_lt a b ≡ true = grind (arith, nat_tests, lt) in rw (a_is, b_is, yes_lt a b ha hb lt, choice) refl)
    (λ le. let choice : nat_lt a b ≡ false = grind (arith, nat_tests, le) in rw (a_is, b_is, no_lt a b ha hb le, choice) refl) (cases_lt a b)

compare_loop : (P : List Placed) (address further : ℕ → ℕ) → Has P address → HasFurther P further → (V : ℕ → ℕ → ℕ → Run ℕ) → (cells : List Cell) (streams : Content) (f k s t m n limit u : ℕ)
    → Able address further cells f 20 → limit < 256
    → (xs ys : List ℕ) (i K T : ℕ) → HoldsBytes cells s i xs → HoldsBytes cells t i ys → i + common xs ys ≡ suc limit → turns_of_comparison xs ys ≤ K → T ≡ turns_of_comparison xs ys + u
    → left 1 (f + 6) (rounds (suc K) (compare_round (context further (calls P (suc k)) V) f limit) tt (state (laid (f + 2) (Set s ∷ Set t ∷ Set m ∷ Set n ∷ Set i ∷ []) cells) streams T))
    ≡ Done (exit_of xs ys) (state (laid (f + 2) (Set s ∷ Set t ∷ Set m ∷ Set n ∷ []) cells) streams u)
compare_loop P address further h e V cells streams f k s t m n limit u able short [] ys i K T hx hy ei eK eT =
    let last : i ≡ suc limit = omega (arith, ei) in
    let i_is : cell_at (laid (f + 2) (Set s ∷ Set t ∷ Set m ∷ Set n ∷ Set (suc limit) ∷ []) cells) ((f + 6) % 65536) ≡ Set (suc limit) =
    reads f 6 (Set s ∷ Set t ∷ Set m ∷ Set n ∷ Set (suc limit) ∷ []) cells (omega arith) (omega arith) able.ready.whole (omega (arith, able.ready.room)) in
    let given : closed 1 (f + 6) (laid (f + 2) (Set s ∷ Set t ∷ Set m ∷ Set n ∷ Set (suc limit) ∷ []) cells) ≡ laid (f + 2) (Set s ∷ Set t ∷ Set m ∷ Set n ∷ []) cells =
    laid_close (f + 2) (f + 6) 1 (Set s ∷ Set t ∷ Set m ∷ Set n ∷ []) (Set (suc limit) ∷ []) cells (λ q le. able.ready.free q (omega (arith, le))) (omega arith) refl in
    let turns : T ≡ u = omega (arith, eT) in
    rw (last, turns, i_is, past_end limit short, given) refl
compare_loop P address further h e V cells streams f k s t m n limit u able short (x ∷ xs) [] i K T hx hy ei eK eT =
    let last : i ≡ suc limit = omega (arith, ei) in
    let i_is : cell_at (laid (f + 2) (Set s ∷ Set t ∷ Set m ∷ Set n ∷ Set (suc limit) ∷ []) cells) ((f + 6) % 65536) ≡ Set (suc limit) =
    reads f 6 (Set s ∷ Set t ∷ Set m ∷ Set n ∷ Set (suc limit) ∷ []) cells (omega arith) (omega arith) able.ready.whole (omega (arith, able.ready.room)) in
    let given : closed 1 (f + 6) (laid (f + 2) (Set s ∷ Set t ∷ Set m ∷ Set n ∷ Set (suc limit) ∷ []) cells) ≡ laid (f + 2) (Set s ∷ Set t ∷ Set m ∷ Set n ∷ []) cells =
    laid_close (f + 2) (f + 6) 1 (Set s ∷ Set t ∷ Set m ∷ Set n ∷ []) (Set (suc limit) ∷ []) cells (λ q le. able.ready.free q (omega (arith, le))) (omega arith) refl in
    let turns : T ≡ u = omega (arith, eT) in
    rw (last, turns, i_is, past_end limit short, given) refl
compare_loop P address further h e V cells streams f k s t m n limit u able short (x ∷ xs) (y ∷ ys) i K T hx hy ei eK eT = ⊎_elim other
    (same (λ few. compare_loop P address further h e V cells streams f k s t m n limit u able short xs ys (i + 1) (K - 1) (turns_of_comparison xs ys + u) hx.1 hy.1 (omega (arith, ei)) (omega (arith, few)) refl)) (differ (capital x) (capital y)) where
      room : f + 20 ≤ 65536
      room = able.ready.room

      fx : capital x < 256
      fx = capital_small x hx.0.3

      fy : capital y < 256
      fy = capital_small y hy.0.3

      at_base : (j w : ℕ) → 2 ≤ j → j < 7 → cell_at (Set s ∷ Set t ∷ Set m ∷ Set n ∷ Set i ∷ []) (j - 2) ≡ Set w → cell_at (laid (f + 2) (Set s ∷ Set t ∷ Set m ∷ Set n ∷ Set i ∷ []) cells) ((f + j) % 65536) ≡ Set w
      at_base j w from to is = reads f j (Set s ∷ Set t ∷ Set m ∷ Set n ∷ Set i ∷ []) cells from (omega (arith, to)) able.ready.whole (omega (arith, room)) ∙ is

      up : Able address further (laid (f + 2) (Set s ∷ Set t ∷ Set m ∷ Set n ∷ Set i ∷ []) cells) (f + 8) 12
      up = able_after address further f (f + 8) 20 12 (Set s ∷ Set t ∷ Set m ∷ Set n ∷ Set i ∷ []) cells able (omega arith) (omega arith)

      under : (a b : Cell) (j w : ℕ) → 2 ≤ j → j < 7 → cell_at (Set s ∷ Set t ∷ Set m ∷ Set n ∷ Set i ∷ []) (j - 2) ≡ Set w
          → cell_at (laid (f + 8) (a ∷ b ∷ []) (laid (f + 2) (Set s ∷ Set t ∷ Set m ∷ Set n ∷ Set i ∷ []) cells)) ((f + j) % 65536) ≡ Set w
      under a b j w from to is = read_under (f + 8) (f + j) (a ∷ b ∷ []) (laid (f + 2) (Set s ∷ Set t ∷ Set m ∷ Set n ∷ Set i ∷ []) cells) (omega (arith, to)) (omega (arith, room)) ∙ at_base j w from to is

      first : (a b : Cell) → cell_at (laid (f + 8) (a ∷ b ∷ []) (laid (f + 2) (Set s ∷ Set t ∷ Set m ∷ Set n ∷ Set i ∷ []) cells)) ((f + 8) % 65536) ≡ a
      first a b = read_at (f + 8) (f + 8) 0 (a ∷ b ∷ []) (laid (f + 2) (Set s ∷ Set t ∷ Set m ∷ Set n ∷ Set i ∷ []) cells) (omega arith) (omega arith) up.ready.whole (omega (arith, room))

      second : (a b : Cell) → cell_at (laid (f + 8) (a ∷ b ∷ []) (laid (f + 2) (Set s ∷ Set t ∷ Set m ∷ Set n ∷ Set i ∷ []) cells)) ((f + 9) % 65536) ≡ b
      second a b = read_at (f + 8) (f + 9) 1 (a ∷ b ∷ []) (laid (f + 2) (Set s ∷ Set t ∷ Set m ∷ Set n ∷ Set i ∷ []) cells) (omega arith) (omega arith) up.ready.whole (omega (arith, room))

      set_first : (a b d : Cell) → slice_set (laid (f + 8) (a ∷ b ∷ []) (laid (f + 2) (Set s ∷ Set t ∷ Set m ∷ Set n ∷ Set i ∷ []) cells)) ((f + 8) % 65536) d ≡ laid (f + 8) (d ∷ b ∷ []) (laid (f + 2) (Set s ∷ Set t ∷ Set m ∷ Set n ∷ Set i ∷ []) cells)
      set_first a b d = write_at (f + 8) (f + 8) 0 (a ∷ b ∷ []) (laid (f + 2) (Set s ∷ Set t ∷ Set m ∷ Set n ∷ Set i ∷ []) cells) d (omega arith) (omega arith) (omega (arith, room))

      set_second : (a b d : Cell) → slice_set (laid (f + 8) (a ∷ b ∷ []) (laid (f + 2) (Set s ∷ Set t ∷ Set m ∷ Set n ∷ Set i ∷ []) cells)) ((f + 9) % 65536) d ≡ laid (f + 8) (a ∷ d ∷ []) (laid (f + 2) (Set s ∷ Set t ∷ Set m ∷ Set n ∷ Set i ∷ []) cells)
      set_second a b d = write_at (f + 8) (f + 9) 1 (a ∷ b ∷ []) (laid (f + 2) (Set s ∷ Set t ∷ Set m ∷ Set n ∷ Set i ∷ []) cells) d (omega arith) (omega arith) (omega (arith, room))

      call : (a b : Cell) → Able address further (laid (f + 8) (a ∷ b ∷ []) (laid (f + 2) (Set s ∷ Set t ∷ Set m ∷ Set n ∷ Set i ∷ []) cells)) (f + 10) 10
      call a b = able_over address further (f + 8) (f + 8) (f + 10) 12 10 (a ∷ b ∷ []) (laid (f + 2) (Set s ∷ Set t ∷ Set m ∷ Set n ∷ Set i ∷ []) cells) up (omega arith) (omega arith) (omega arith)

      deep : (a b : Cell) → Able address further (laid (f + 8) (a ∷ b ∷ []) (laid (f + 2) (Set s ∷ Set t ∷ Set m ∷ Set n ∷ Set i ∷ []) cells)) (f + 12) 8
      deep a b = able_over address further (f + 8) (f + 8) (f + 12) 12 8 (a ∷ b ∷ []) (laid (f + 2) (Set s ∷ Set t ∷ Set m ∷ Set n ∷ Set i ∷ []) cells) up (omega arith) (omega arith) (omega arith)

      get : (a b : Cell) (p w byte T1 : ℕ) → cell_at cells ((p + i / 2) % 65536) ≡ Set w → byte_in i w ≡ byte
          → calls P (suc k) (address 1) (p ∷ i ∷ []) (f + 12) (state (laid (f + 8) (a ∷ b ∷ []) (laid (f + 2) (Set s ∷ Set t ∷ Set m ∷ Set n ∷ Set i ∷ []) cells)) streams (suc T1))
          ≡ Done byte (state (laid (f + 8) (a ∷ b ∷ []) (laid (f + 2) (Set s ∷ Set t ∷ Set m ∷ Set n ∷ Set i ∷ []) cells)) streams T1)
      get a b p w byte T1 word is = get_byte_does P address h (laid (f + 8) (a ∷ b ∷ []) (laid (f + 2) (Set s ∷ Set t ∷ Set m ∷ Set n ∷ Set i ∷ []) cells)) streams (f + 12) k T1 p i w (deep a b).ready
          (laid_below (f + 8) ((p + i / 2) % 65536) (a ∷ b ∷ []) (laid (f + 2) (Set s ∷ Set t ∷ Set m ∷ Set n ∷ Set i ∷ []) cells)
          (let lt = low f ((p + i / 2) % 65536) w cells able.ready.free word in omega (arith, lt)) ∙ set_below f ((p + i / 2) % 65536) w (Set s ∷ Set t ∷ Set m ∷ Set n ∷ Set i ∷ []) cells able.ready.free word)
          ∙ ap (λ z. Done z (state (laid (f + 8) (a ∷ b ∷ []) (laid (f + 2) (Set s ∷ Set t ∷ Set m ∷ Set n ∷ Set i ∷ []) cells)) streams T1)) is

      letter : (a b : Cell) (c T1 : ℕ) → c < 256
          → calls P (suc k) (further 32) (c ∷ []) (f + 10) (state (laid (f + 8) (a ∷ b ∷ []) (laid (f + 2) (Set s ∷ Set t ∷ Set m ∷ Set n ∷ Set i ∷ []) cells)) streams (suc T1))
          ≡ Done (capital c) (state (laid (f + 8) (a ∷ b ∷ []) (laid (f + 2) (Set s ∷ Set t ∷ Set m ∷ Set n ∷ Set i ∷ []) cells)) streams T1)
      letter a b c T1 small = capital_does P address further e (laid (f + 8) (a ∷ b ∷ []) (laid (f + 2) (Set s ∷ Set t ∷ Set m ∷ Set n ∷ Set i ∷ []) cells)) streams (f + 10) k T1 c
          (able_over address further (f + 8) (f + 8) (f + 10) 12 7 (a ∷ b ∷ []) (laid (f + 2) (Set s ∷ Set t ∷ Set m ∷ Set n ∷ Set i ∷ []) cells) up (omega arith) (omega arith) (omega arith)) small

      going : int_lt (signed limit) (signed i) ≡ false
      going = up_to limit i short (omega (arith, ei))

      given2 : (a b : Cell) → closed 2 (f + 8) (laid (f + 8) (a ∷ b ∷ []) (laid (f + 2) (Set s ∷ Set t ∷ Set m ∷ Set n ∷ Set i ∷ []) cells)) ≡ laid (f + 2) (Set s ∷ Set t ∷ Set m ∷ Set n ∷ Set i ∷ []) cells
      given2 a b = laid_back (f + 8) 2 (a ∷ b ∷ []) (laid (f + 2) (Set s ∷ Set t ∷ Set m ∷ Set n ∷ Set i ∷ []) cells) up.ready.free refl

      given1 : closed 1 (f + 6) (laid (f + 2) (Set s ∷ Set t ∷ Set m ∷ Set n ∷ Set i ∷ []) cells) ≡ laid (f + 2) (Set s ∷ Set t ∷ Set m ∷ Set n ∷ []) cells
      given1 = laid_close (f + 2) (f + 6) 1 (Set s ∷ Set t ∷ Set m ∷ Set n ∷ []) (Set i ∷ []) cells (λ q le. able.ready.free q (omega (arith, le))) (omega arith) refl

      other : capital x ≢ capital y → left 1 (f + 6) (rounds (suc K) (compare_round (context further (calls P (suc k)) V) f limit) tt (state (laid (f + 2) (Set s ∷ Set t ∷ Set m ∷ Set n ∷ Set i ∷ []) cells) streams T))
          ≡ Done (exit_of (x ∷ xs) (y ∷ ys)) (state (laid (f + 2) (Set s ∷ Set t ∷ Set m ∷ Set n ∷ []) cells) streams u)
      other ne =
          let test : (capital x == capital y) ≡ false = unlike_test (capital x) (capital y) ne in
          let turns : T ≡ suc (suc (suc (suc u))) = eT ∙ rw test (omega arith) in
          let sign = sign_value (context further (calls P (suc k)) V) f 8 9 10 (capital x) (capital y) (laid (f + 8) (Set (capital x) ∷ Set (capital y) ∷ []) (laid (f + 2) (Set s ∷ Set t ∷ Set m ∷ Set n ∷ Set i ∷ []) cells))
          streams u (omega (arith, fx)) (omega (arith, fy)) (first (Set (capital x)) (Set (capital y))) (second (Set (capital x)) (Set (capital y))) in
          rw (
            turns,
            at_base 6 i (omega arith) (omega arith) refl,
            going,
            under Unset Unset 2 s (omega arith) (omega arith) refl,
            under Unset Unset 6 i (omega arith) (omega arith) refl,
            (deep Unset Unset).ready.get_byte,
            get Unset Unset s hx.0.0 x (suc (suc (suc (u)))) hx.0.1 hx.0.2,
            (call Unset Unset).capital_ch,
            letter Unset Unset x (suc (suc (u))) hx.0.3,
            first Unset Unset,
            set_first Unset Unset (Set (capital x)),
            under (Set (capital x)) Unset 3 t (omega arith) (omega arith) refl,
            under (Set (capital x)) Unset 6 i (omega arith) (omega arith) refl,
            (deep (Set (capital x)) Unset).ready.get_byte,
            get (Set (capital x)) Unset t hy.0.0 y (suc (u)) hy.0.1 hy.0.2,
            (call (Set (capital x)) Unset).capital_ch,
            letter (Set (capital x)) Unset y u hy.0.3,
            second (Set (capital x)) Unset,
            set_second (Set (capital x)) Unset (Set (capital y)),
            first (Set (capital x)) (Set (capital y)),
            second (Set (capital x)) (Set (capital y)),
            test,
            sign,
            given2 (Set (capital x)) (Set (capital y)),
            given1,
          ) refl

      same : (5 + turns_of_comparison xs ys ≤ K → left 1 (f + 6) (rounds (suc (K - 1)) (compare_round (context further (calls P (suc k)) V) f limit) tt
          (state (laid (f + 2) (Set s ∷ Set t ∷ Set m ∷ Set n ∷ Set (i + 1) ∷ []) cells) streams (turns_of_comparison xs ys + u)))
          ≡ Done (exit_of xs ys) (state (laid (f + 2) (Set s ∷ Set t ∷ Set m ∷ Set n ∷ []) cells) streams u))
          → capital x ≡ capital y → left 1 (f + 6) (rounds (suc K) (compare_round (context further (calls P (suc k)) V) f limit) tt (state (laid (f + 2) (Set s ∷ Set t ∷ Set m ∷ Set n ∷ Set i ∷ []) cells) streams T))
          ≡ Done (exit_of (x ∷ xs) (y ∷ ys)) (state (laid (f + 2) (Set s ∷ Set t ∷ Set m ∷ Set n ∷ []) cells) streams u)
      same rest eq =
          let test : (capital x == capital y) ≡ true = same_test (capital x) (capital y) eq in
          let long : 4 + (1 + turns_of_comparison xs ys) ≤ K = subst (λ b. 4 + cond b (1 + turns_of_comparison xs ys) 0 ≤ K) test eK in
          let few : 5 + turns_of_comparison xs ys ≤ K = omega (arith, long) in
          let turns : T ≡ suc (suc (suc (suc (suc (turns_of_comparison xs ys + u))))) = eT ∙ rw test (omega arith) in
          let fuel : K ≡ suc (K - 1) = omega (arith, few) in
          let more : (i + 1) % 65536 ≡ i + 1 = omega (arith, ei, short) in
          let stored : slice_set (laid (f + 2) (Set s ∷ Set t ∷ Set m ∷ Set n ∷ Set i ∷ []) cells) ((f + 6) % 65536) (Set ((i + 1) % 65536)) ≡ laid (f + 2) (Set s ∷ Set t ∷ Set m ∷ Set n ∷ Set (i + 1) ∷ []) cells =
          rw more (writes f 6 (Set s ∷ Set t ∷ Set m ∷ Set n ∷ Set i ∷ []) cells (Set (i + 1)) (omega arith) (omega arith) (omega (arith, room))) in
          rw (
            turns,
            fuel,
            at_base 6 i (omega arith) (omega arith) refl,
            going,
            under Unset Unset 2 s (omega arith) (omega arith) refl,
            under Unset Unset 6 i (omega arith) (omega arith) refl,
            (deep Unset Unset).ready.get_byte,
            get Unset Unset s hx.0.0 x (suc (suc (suc (suc (turns_of_comparison xs ys + u))))) hx.0.1 hx.0.2,
            (call Unset Unset).capital_ch,
            letter Unset Unset x (suc (suc (suc (turns_of_comparison xs ys + u)))) hx.0.3,
            first Unset Unset,
            set_first Unset Unset (Set (capital x)),
            under (Set (capital x)) Unset 3 t (omega arith) (omega arith) refl,
            under (Set (capital x)) Unset 6 i (omega arith) (omega arith) refl,
            (deep (Set (capital x)) Unset).ready.get_byte,
            get (Set (capital x)) Unset t hy.0.0 y (suc (suc (turns_of_comparison xs ys + u))) hy.0.1 hy.0.2,
            (call (Set (capital x)) Unset).capital_ch,
            letter (Set (capital x)) Unset y (suc (turns_of_comparison xs ys + u)) hy.0.3,
            second (Set (capital x)) Unset,
            set_second (Set (capital x)) Unset (Set (capital y)),
            first (Set (capital x)) (Set (capital y)),
            second (Set (capital x)) (Set (capital y)),
            test,
            given2 (Set (capital x)) (Set (capital y)),
            at_base 6 i (omega arith) (omega arith) refl,
            at_base 6 i (omega arith) (omega arith) refl,
            stored,
          )
          (rest few)

-- 0, -1 or 1, by the lengths
abbrev by_length : ℕ → ℕ → ℕ
by_length m n = cond (m == n) 0 (cond (nat_lt m n) 65535 1)

by_step : (m n : ℕ) → by_length (suc m) (suc n) ≡ by_length m n
by_step m n = ⊎_elim (λ ne. ⊎_elim (below ne) (above ne) (cases_lt m n)) same (differ m n) where
  same : m ≡ n → by_length (suc m) (suc n) ≡ by_length m n
  same e =
      let more : (suc m == suc n) ≡ true = same_test (suc m) (suc n) (omega (arith, e)) in
      rw (more, same_test m n e) refl

  below : m ≢ n → m < n → by_length (suc m) (suc n) ≡ by_length m n
  below ne lt =
      let more : (suc m == suc n) ≡ false = unlike_test (suc m) (suc n) (λ e. omega (arith, lt, e)) in
      let yes : nat_lt m n ≡ true = grind (arith, nat_tests, lt) in
      let yes2 : nat_lt (suc m) (suc n) ≡ true = grind (arith, nat_tests, lt) in
      rw (more, unlike_test m n ne, yes2, yes) refl

  above : m ≢ n → n ≤ m → by_length (suc m) (suc n) ≡ by_length m n
  above ne le =
      let more : (suc m == suc n) ≡ false = unlike_test (suc m) (suc n) (λ e. ne (omega (arith, e))) in
      let no : nat_lt m n ≡ false = grind (arith, nat_tests, le) in
      let no2 : nat_lt (suc m) (suc n) ≡ false = grind (arith, nat_tests, le) in
      rw (more, unlike_test m n ne, no2, no) refl

-- what the FOR decides
outcome : (xs ys : List ℕ) → ((exit_of xs ys ≡ Past) × (by_length (length xs) (length ys) ≡ compared xs ys)) ⊎ (exit_of xs ys ≡ Resulted (compared xs ys))
outcome [] [] = inl (refl, refl)
outcome [] (y ∷ ys) = inl (refl, by_unlike 0 (length (y ∷ ys)) (omega arith)) where
  by_unlike : (m n : ℕ) → m < n → by_length m n ≡ 65535
  by_unlike m n lt = let no : (m == n) ≡ false = unlike_test m n (λ e. omega (arith, lt, e)) in let yes : nat_lt m n ≡ true = grind (arith, nat_tests, lt) in rw (no, yes) refl
outcome (x ∷ xs) [] = inl (refl, by_unlike (length (x ∷ xs)) 0 (omega arith)) where
  by_unlike : (m n : ℕ) → n < m → by_length m n ≡ 1
  by_unlike m n lt = let no : (m == n) ≡ false = unlike_test m n (λ e. omega (arith, lt, e)) in let yes : nat_lt m n ≡ false = grind (arith, nat_tests, lt) in rw (no, yes) refl
outcome (x ∷ xs) (y ∷ ys) = by (capital x == capital y) (outcome xs ys) where
  by : (b : Bool) → ((exit_of xs ys ≡ Past) × (by_length (length xs) (length ys) ≡ compared xs ys)) ⊎ (exit_of xs ys ≡ Resulted (compared xs ys))
      → ((cond b (exit_of xs ys) (Resulted (cond (nat_lt (capital x) (capital y)) 65535 1)) ≡ Past) × (by_length (length (x ∷ xs)) (length (y ∷ ys)) ≡ cond b (compared xs ys) (cond (nat_lt (capital x) (capital y)) 65535 1)))
      ⊎ (cond b (exit_of xs ys) (Resulted (cond (nat_lt (capital x) (capital y)) 65535 1)) ≡ Resulted (cond b (compared xs ys) (cond (nat_lt (capital x) (capital y)) 65535 1)))
  by true rest = ⊎_elim (λ h. inl (h.0, by_step (length xs) (length ys) ∙ h.1)) (λ h. inr h) rest
  by false rest = inr refl

-- the limit of the FOR, as it is computed
limit_value : (C : Context) (f m n : ℕ) (cells : List Cell) (streams : Content) (t : ℕ) → m < 32768 → n < 32768 → cell_at cells ((f + 4) % 65536) ≡ Set m → cell_at cells ((f + 5) % 65536) ≡ Set n
    → value C (Cond (Bin Less (at 4) (at 5)) (at 4) (at 5)) f 8 (state cells streams t) ≡ Done (cond (nat_lt m n) m n) (state cells streams t)
limit_value C f m n cells streams t hm hn m_is n_is = ⊎_elim
    (λ lt. let choice : nat_lt m n ≡ true = grind (arith, nat_tests, lt) in rw (m_is, n_is, yes_lt m n hm hn lt, m_is, choice) refl)
    (λ le. let choice : nat_lt m n ≡ false = grind (arith, nat_tests, le) in rw (m_is, n_is, no_lt m n hm hn le, n_is, choice) refl) (cases_lt m n)

-- the result by the lengths, as it is computed
length_value : (C : Context) (f m n : ℕ) (cells : List Cell) (streams : Content) (t : ℕ) → m < 32768 → n < 32768 → cell_at cells ((f + 4) % 65536) ≡ Set m → cell_at cells ((f + 5) % 65536) ≡ Set n
    → value C (Cond (Bin Equal (at 4) (at 5)) (Num 0) (Cond (Bin Less (at 4) (at 5)) (Neg (Num 1)) (Num 1))) f 6 (state cells streams t) ≡ Done (by_length m n) (state cells streams t)
length_value C f m n cells streams t hm hn m_is n_is = ⊎_elim
    (λ ne. let test : (m == n) ≡ false = unlike_test m n ne in rw (m_is, n_is, test) (sign_value C f 4 5 6 m n cells streams t hm hn m_is n_is))
    (λ e. let test : (m == n) ≡ true = same_test m n e in rw (m_is, n_is, test) refl) (differ m n)

-- the common pairs are as many as the shorter string has letters
common_is : (xs ys : List ℕ) → cond (nat_lt (length xs) (length ys)) (length xs) (length ys) ≡ common xs ys
common_is [] [] = refl
common_is [] (y ∷ ys) = let yes : nat_lt 0 (length (y ∷ ys)) ≡ true = grind (arith, nat_tests) in rw yes refl
common_is (x ∷ xs) [] = let no : nat_lt (length (x ∷ xs)) 0 ≡ false = grind (arith, nat_tests) in rw no refl
common_is (x ∷ xs) (y ∷ ys) = ⊎_elim
    (λ lt. let yes : nat_lt (length xs) (length ys) ≡ true = grind (arith, nat_tests, lt) in
    let yes2 : nat_lt (length (x ∷ xs)) (length (y ∷ ys)) ≡ true = grind (arith, nat_tests, lt) in
    let e : cond (nat_lt (length xs) (length ys)) (length xs) (length ys) ≡ length xs = rw yes refl in
    rw yes2 (ap (λ z. suc z) (sym e ∙ common_is xs ys)))
    (λ le. let no : nat_lt (length xs) (length ys) ≡ false = grind (arith, nat_tests, le) in
    let no2 : nat_lt (length (x ∷ xs)) (length (y ∷ ys)) ≡ false = grind (arith, nat_tests, le) in
    let e : cond (nat_lt (length xs) (length ys)) (length xs) (length ys) ≡ length ys = rw no refl in
    rw no2 (ap (λ z. suc z) (sym e ∙ common_is xs ys))) (cases_lt (length xs) (length ys))

pub compare_does : (P : List Placed) (address further : ℕ → ℕ) → Has P address → (e : HasFurther P further) → (s t : ℕ) (xs ys : List ℕ) (cells : List Cell) (streams : Content) (f k u N T : ℕ)
    → Able address further cells f 20 → HoldsString cells s xs → HoldsString cells t ys → N ≡ suc (suc k) → T ≡ 3 + turns_of_comparison xs ys + u
    → calls P N (further 34) (s ∷ t ∷ []) f (state cells streams T) ≡ Done (compared xs ys) (state cells streams u)
compare_does P address further h e s t xs ys cells streams f k u N T able hx hy eN eT = ⊎_elim passes decides (outcome xs ys) where
  room : f + 20 ≤ 65536
  room = able.ready.room

  fits : nat_le (f + 16) 65536 ≡ true
  fits = fits_true _ _ (omega (arith, room))

  free : (q : ℕ) → f + 2 ≤ q → is_live (cell_at cells q) ≡ false
  free q le = able.ready.free q (omega (arith, le))

  opened : slice_set (slice_set (laid (f + 2) (Set s ∷ Set t ∷ []) cells) (f + 4) Unset) (f + 4 + 1) Unset ≡ laid (f + 2) (Set s ∷ Set t ∷ Unset ∷ Unset ∷ []) cells
  opened = laid_more (f + 2) (f + 4) (Set s ∷ Set t ∷ []) (Unset ∷ Unset ∷ []) cells (omega arith)

  reading : (a b : Cell) (j : ℕ) → 2 ≤ j → j < 6 → cell_at (laid (f + 2) (Set s ∷ Set t ∷ a ∷ b ∷ []) cells) ((f + j) % 65536) ≡ cell_at (Set s ∷ Set t ∷ a ∷ b ∷ []) (j - 2)
  reading a b j from to = reads f j (Set s ∷ Set t ∷ a ∷ b ∷ []) cells from (omega (arith, to)) able.ready.whole (omega (arith, room))

  setting4 : (a b d : Cell) → slice_set (laid (f + 2) (Set s ∷ Set t ∷ a ∷ b ∷ []) cells) ((f + 4) % 65536) d ≡ laid (f + 2) (Set s ∷ Set t ∷ d ∷ b ∷ []) cells
  setting4 a b d = writes f 4 (Set s ∷ Set t ∷ a ∷ b ∷ []) cells d (omega arith) (omega arith) (omega (arith, room))

  setting5 : (a b d : Cell) → slice_set (laid (f + 2) (Set s ∷ Set t ∷ a ∷ b ∷ []) cells) ((f + 5) % 65536) d ≡ laid (f + 2) (Set s ∷ Set t ∷ a ∷ d ∷ []) cells
  setting5 a b d = writes f 5 (Set s ∷ Set t ∷ a ∷ b ∷ []) cells d (omega arith) (omega arith) (omega (arith, room))

  up : (a b : Cell) → Able address further (laid (f + 2) (Set s ∷ Set t ∷ a ∷ b ∷ []) cells) (f + 6) 8
  up a b = able_after address further f (f + 6) 20 8 (Set s ∷ Set t ∷ a ∷ b ∷ []) cells able (omega arith) (omega arith)

  get : (a b : Cell) (p w byte T1 : ℕ) → cell_at cells ((p + 0 / 2) % 65536) ≡ Set w → byte_in 0 w ≡ byte
      → calls P (suc k) (address 1) (p ∷ 0 ∷ []) (f + 6) (state (laid (f + 2) (Set s ∷ Set t ∷ a ∷ b ∷ []) cells) streams (suc T1)) ≡ Done byte (state (laid (f + 2) (Set s ∷ Set t ∷ a ∷ b ∷ []) cells) streams T1)
  get a b p w byte T1 word is = get_byte_does P address h (laid (f + 2) (Set s ∷ Set t ∷ a ∷ b ∷ []) cells) streams (f + 6) k T1 p 0 w (up a b).ready (set_below f ((p + 0 / 2) % 65536) w (Set s ∷ Set t ∷ a ∷ b ∷ []) cells able.ready.free word)
      ∙ ap (λ z. Done z (state (laid (f + 2) (Set s ∷ Set t ∷ a ∷ b ∷ []) cells) streams T1)) is

  opened6 : slice_set (laid (f + 2) (Set s ∷ Set t ∷ Set (length xs) ∷ Set (length ys) ∷ []) cells) (f + 6) Unset ≡ laid (f + 2) (Set s ∷ Set t ∷ Set (length xs) ∷ Set (length ys) ∷ Unset ∷ []) cells
  opened6 = opens (f + 2) (f + 6) (Set s ∷ Set t ∷ Set (length xs) ∷ Set (length ys) ∷ []) cells (omega arith)

  fresh6 : cell_at (laid (f + 2) (Set s ∷ Set t ∷ Set (length xs) ∷ Set (length ys) ∷ Unset ∷ []) cells) ((f + 6) % 65536) ≡ Unset
  fresh6 = reads f 6 (Set s ∷ Set t ∷ Set (length xs) ∷ Set (length ys) ∷ Unset ∷ []) cells (omega arith) (omega arith) able.ready.whole (omega (arith, room))

  started : slice_set (laid (f + 2) (Set s ∷ Set t ∷ Set (length xs) ∷ Set (length ys) ∷ Unset ∷ []) cells) ((f + 6) % 65536) (Set 1) ≡ laid (f + 2) (Set s ∷ Set t ∷ Set (length xs) ∷ Set (length ys) ∷ Set 1 ∷ []) cells
  started = writes f 6 (Set s ∷ Set t ∷ Set (length xs) ∷ Set (length ys) ∷ Unset ∷ []) cells (Set 1) (omega arith) (omega arith) (omega (arith, room))

  m_is : cell_at (laid (f + 2) (Set s ∷ Set t ∷ Set (length xs) ∷ Set (length ys) ∷ Set 1 ∷ []) cells) ((f + 4) % 65536) ≡ Set (length xs)
  m_is = reads f 4 (Set s ∷ Set t ∷ Set (length xs) ∷ Set (length ys) ∷ Set 1 ∷ []) cells (omega arith) (omega arith) able.ready.whole (omega (arith, room))

  n_is : cell_at (laid (f + 2) (Set s ∷ Set t ∷ Set (length xs) ∷ Set (length ys) ∷ Set 1 ∷ []) cells) ((f + 5) % 65536) ≡ Set (length ys)
  n_is = reads f 5 (Set s ∷ Set t ∷ Set (length xs) ∷ Set (length ys) ∷ Set 1 ∷ []) cells (omega arith) (omega arith) able.ready.whole (omega (arith, room))

  few : common xs ys ≤ length xs
  few = at_most xs ys where
    at_most : (xs ys : List ℕ) → common xs ys ≤ length xs
    at_most [] ys = omega arith
    at_most (x ∷ xs) [] = omega arith
    at_most (x ∷ xs) (y ∷ ys) = omega (arith, at_most xs ys)

  given2 : (a b : Cell) → closed 2 (f + 4) (laid (f + 2) (Set s ∷ Set t ∷ a ∷ b ∷ []) cells) ≡ laid (f + 2) (Set s ∷ Set t ∷ []) cells
  given2 a b = laid_close (f + 2) (f + 4) 2 (Set s ∷ Set t ∷ []) (a ∷ b ∷ []) cells free (omega arith) refl

  given : closed 2 (f + 2) (laid (f + 2) (Set s ∷ Set t ∷ []) cells) ≡ cells
  given = laid_back (f + 2) 2 (Set s ∷ Set t ∷ []) cells free refl

  turns : T ≡ suc (suc (suc (turns_of_comparison xs ys + u)))
  turns = omega (arith, eT)

  limited : value (context further (calls P (suc k)) (e.inside_compstring (calls P (suc k)))) (Cond (Bin Less (at 4) (at 5)) (at 4) (at 5)) f 8
      (state (laid (f + 2) (Set s ∷ Set t ∷ Set (length xs) ∷ Set (length ys) ∷ Set 1 ∷ []) cells) streams (turns_of_comparison xs ys + u))
      ≡ Done (common xs ys) (state (laid (f + 2) (Set s ∷ Set t ∷ Set (length xs) ∷ Set (length ys) ∷ Set 1 ∷ []) cells) streams (turns_of_comparison xs ys + u))
  limited = limit_value (context further (calls P (suc k)) (e.inside_compstring (calls P (suc k)))) f (length xs) (length ys) (laid (f + 2) (Set s ∷ Set t ∷ Set (length xs) ∷ Set (length ys) ∷ Set 1 ∷ []) cells)
      streams (turns_of_comparison xs ys + u) (let z = hx.0.3 in omega (arith, z)) (let z = hy.0.3 in omega (arith, z)) m_is n_is
      ∙ ap (λ z. Done z (state (laid (f + 2) (Set s ∷ Set t ∷ Set (length xs) ∷ Set (length ys) ∷ Set 1 ∷ []) cells) streams (turns_of_comparison xs ys + u))) (common_is xs ys)

  compares : left 1 (f + 6) (rounds (suc (turns_of_comparison xs ys + u)) (compare_round (context further (calls P (suc k)) (e.inside_compstring (calls P (suc k)))) f (common xs ys)) tt
      (state (laid (f + 2) (Set s ∷ Set t ∷ Set (length xs) ∷ Set (length ys) ∷ Set 1 ∷ []) cells) streams (turns_of_comparison xs ys + u)))
      ≡ Done (exit_of xs ys) (state (laid (f + 2) (Set s ∷ Set t ∷ Set (length xs) ∷ Set (length ys) ∷ []) cells) streams u)
  compares = compare_loop P address further h e (e.inside_compstring (calls P (suc k))) cells streams f k s t (length xs) (length ys) (common xs ys) u able (let z = hx.0.3 in omega (arith, z, few)) xs ys 1
      (turns_of_comparison xs ys + u) (turns_of_comparison xs ys + u) hx.1 hy.1 (omega arith) (omega arith) refl

  by_lengths : value (context further (calls P (suc k)) (e.inside_compstring (calls P (suc k)))) (Cond (Bin Equal (at 4) (at 5)) (Num 0) (Cond (Bin Less (at 4) (at 5)) (Neg (Num 1)) (Num 1))) f 6
      (state (laid (f + 2) (Set s ∷ Set t ∷ Set (length xs) ∷ Set (length ys) ∷ []) cells) streams u)
      ≡ Done (by_length (length xs) (length ys)) (state (laid (f + 2) (Set s ∷ Set t ∷ Set (length xs) ∷ Set (length ys) ∷ []) cells) streams u)
  by_lengths = length_value (context further (calls P (suc k)) (e.inside_compstring (calls P (suc k)))) f (length xs) (length ys) (laid (f + 2) (Set s ∷ Set t ∷ Set (length xs) ∷ Set (length ys) ∷ []) cells) streams u
      (let z = hx.0.3 in omega (arith, z)) (let z = hy.0.3 in omega (arith, z)) (reading (Set (length xs)) (Set (length ys)) 4 (omega arith) (omega arith)) (reading (Set (length xs)) (Set (length ys)) 5 (omega arith) (omega arith))

  passes : (exit_of xs ys ≡ Past) × (by_length (length xs) (length ys) ≡ compared xs ys) → calls P N (further 34) (s ∷ t ∷ []) f (state cells streams T) ≡ Done (compared xs ys) (state cells streams u)
  passes is = rw (
    eN,
    turns,
    e.compstring,
    fits,
    opened,
    reading Unset Unset 2 (omega arith) (omega arith),
    (up Unset Unset).ready.get_byte,
    get Unset Unset s hx.0.0 (length xs) (suc (turns_of_comparison xs ys + u)) hx.0.1 hx.0.2,
    reading Unset Unset 4 (omega arith) (omega arith),
    setting4 Unset Unset (Set (length xs)),
    reading (Set (length xs)) Unset 3 (omega arith) (omega arith),
    (up (Set (length xs)) Unset).ready.get_byte,
    get (Set (length xs)) Unset t hy.0.0 (length ys) (turns_of_comparison xs ys + u) hy.0.1 hy.0.2,
    reading (Set (length xs)) Unset 5 (omega arith) (omega arith),
    setting5 (Set (length xs)) Unset (Set (length ys)),
    opened6,
    fresh6,
    started,
    limited,
    compares,
    is.0,
    by_lengths,
    is.1,
    given2 (Set (length xs)) (Set (length ys)),
    given,
  ) refl

  decides : exit_of xs ys ≡ Resulted (compared xs ys) → calls P N (further 34) (s ∷ t ∷ []) f (state cells streams T) ≡ Done (compared xs ys) (state cells streams u)
  decides is = rw (
    eN,
    turns,
    e.compstring,
    fits,
    opened,
    reading Unset Unset 2 (omega arith) (omega arith),
    (up Unset Unset).ready.get_byte,
    get Unset Unset s hx.0.0 (length xs) (suc (turns_of_comparison xs ys + u)) hx.0.1 hx.0.2,
    reading Unset Unset 4 (omega arith) (omega arith),
    setting4 Unset Unset (Set (length xs)),
    reading (Set (length xs)) Unset 3 (omega arith) (omega arith),
    (up (Set (length xs)) Unset).ready.get_byte,
    get (Set (length xs)) Unset t hy.0.0 (length ys) (turns_of_comparison xs ys + u) hy.0.1 hy.0.2,
    reading (Set (length xs)) Unset 5 (omega arith) (omega arith),
    setting5 (Set (length xs)) Unset (Set (length ys)),
    opened6,
    fresh6,
    started,
    limited,
    compares,
    is,
    given2 (Set (length xs)) (Set (length ys)),
    given,
  ) refl
