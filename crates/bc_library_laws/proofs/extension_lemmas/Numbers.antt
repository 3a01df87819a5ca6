-- What PUTNUMBER, WRITED and WRITEU do: the digits are found from the last one on, and written from the first one on.
use Rattle.std.proofs.Common.{◌≡◌, ◌≢◌, Bool, ⊎_elim, ℕ, zero, suc, ◌+◌, ◌-◌, ◌*◌, ◌/◌, ◌%◌, ◌<◌, ◌≤◌, ◌==◌, List, [], ◌∷◌, ◌++◌, length, true, false, refl, sym, ap, subst, ◌∙◌, arith}
use Rattle.std.proofs.lemmas.Bool.{cases_lt}
use Rattle.std.proofs.lemmas.Bool.Decides.{nat_tests}
use Rattle.std.proofs.lemmas.Fmt.{decimal_by_steps, length-decimal-le}
use Rattle.std.proofs.lemmas.List.{get_or-set_same, get_or-set_other, length-append, length-set}
use Rattle.std.specs.Fmt.{decimal}
use Rattle.std.specs.Prelude.{slice_set, nat_le, nat_lt, negsuc, int_lt, int_div, cond, ◌*ℤ◌}
use Rattle.bc_word.specs.Words.{signed, holds, wrapped, negated}
use Rattle.bc_word.specs.declared.operator.Op.TheVariants.{Add, Subtract, Multiply, Divide, Equal, ShiftRight}
use Rattle.bc_machine_defs.specs.Streams.{Content}
use Rattle.bc_machine_defs.specs.StreamCalls.{after_write}
use Rattle.bc_core.specs.Tree.{Load, Frame, Bin, Num, Cond}
use Rattle.bc_core.specs.Commands.{Block, Initial, block}
use Rattle.bc_core.specs.Commands as c
use Rattle.bc_core.specs.Map.{Placed}
use Rattle.bc_core.specs.Store.{Cell, Dead, Unset, Set, cell_at, closed}
use Rattle.bc_core.specs.Outcome.{Done, Run, then_do, choose, rounds}
use Rattle.bc_core.specs.Exit.{Past}
use Rattle.bc_core.specs.Loop.{LoopRound, back, leave, after_body, end_relation, agrees}
use Rattle.bc_core.specs.Value.{Context, value, truth, assign}
use Rattle.bc_core.specs.Command.{perform, perform_block, step_of_for}
use Rattle.bc_core.specs.Laws.{DeadFrom, is_live}
use Rattle.bc_core.specs.Meaning.{calls, context}
use Rattle.bc_library_laws.specs.Library.{at, commands, list, write_char}
use Rattle.bc_library_laws.specs.Laws.{state, after_writes}
use Rattle.bc_library_laws.proofs.Words.{is_positive, is_negative, not_less, less}
use Rattle.bc_library_laws.proofs.Steps.{Has, wrch, fits_true, differ}
use Rattle.bc_library_laws.specs.extension.Routines.{cell}
use Rattle.bc_library_laws.specs.extension.Laws.{Able, laid, in_field, blanks, turns_in_field, not_negative}
use Rattle.bc_library_laws.proofs.extension_lemmas.Tests.{unlike_test}
use Rattle.bc_library_laws.proofs.extension_lemmas.Octal.{before, less_one, product}
use Rattle.bc_library_laws.proofs.extension_lemmas.Frames.{laid_length, laid_below, laid_at, laid_set, laid_more, laid_free, set_before, reads, writes, read_at, write_at, read_under, opens, laid_back, laid_close, able_after, able_over, writes_live}
use Rattle.bc_library_laws.proofs.extension_lemmas.Finding.{HasFurther}

-- the cells of PUTNUMBER's frame: N, HASSIGN, WIDTH and the address of DIGITS
abbrev low_cells : (f n h w : ℕ) → List Cell → List Cell
low_cells f n h w cells = laid (f + 2) (Set n ∷ Set h ∷ Set w ∷ Set ((f + 6) % 65536) ∷ []) cells

-- with the digits, and the cells from COUNT on
abbrev in_frame : (f n h w : ℕ) → (digits top : List Cell) → List Cell → List Cell
in_frame f n h w digits top cells = laid (f + 11) top (laid (f + 6) digits (low_cells f n h w cells))

-- what is read and written in such a frame
record Frame_facts (f n h w : ℕ) (digits top cells : List Cell) : Type 0 where
  low_is : (j : ℕ) → 2 ≤ j → j < 6 → cell_at (in_frame f n h w digits top cells) ((f + j) % 65536) ≡ cell_at (Set n ∷ Set h ∷ Set w ∷ Set ((f + 6) % 65536) ∷ []) (j - 2)
  digit_is : (k : ℕ) → k < 5 → cell_at (in_frame f n h w digits top cells) (f + 6 + k) ≡ cell_at digits k
  top_is : (j k : ℕ) → j ≡ 11 + k → k < length top → cell_at (in_frame f n h w digits top cells) ((f + j) % 65536) ≡ cell_at top k
  set_n : (m : ℕ) → slice_set (in_frame f n h w digits top cells) ((f + 2) % 65536) (Set m) ≡ in_frame f m h w digits top cells
  set_digit : (k : ℕ) (x : Cell) → k < 5 → slice_set (in_frame f n h w digits top cells) (f + 6 + k) x ≡ in_frame f n h w (slice_set digits k x) top cells
  set_top : (j k : ℕ) (x : Cell) → j ≡ 11 + k → k < length top → slice_set (in_frame f n h w digits top cells) ((f + j) % 65536) x ≡ in_frame f n h w digits (slice_set top k x) cells

facts : (f n h w : ℕ) (digits top cells : List Cell) → length digits ≡ 5 → length top ≤ 2 → length cells ≡ 65536 → f + 19 ≤ 65536 → Frame_facts f n h w digits top cells
facts f n h w digits top cells five few whole room = record {
  low_is = λ j from to. read_under (f + 11) (f + j) top (laid (f + 6) digits (low_cells f n h w cells)) (omega (arith, to)) (omega (arith, room))
      ∙ read_under (f + 6) (f + j) digits (low_cells f n h w cells) (omega (arith, to)) (omega (arith, room))
      ∙ reads f j (Set n ∷ Set h ∷ Set w ∷ Set ((f + 6) % 65536) ∷ []) cells from (omega (arith, to)) whole (omega (arith, room));
  digit_is = λ k lt. laid_below (f + 11) (f + 6 + k) top (laid (f + 6) digits (low_cells f n h w cells)) (omega (arith, lt))
      ∙ laid_at (f + 6) k digits (low_cells f n h w cells) (omega (arith, lt, five)) (omega (arith, five, room, laid_length (f + 2) (Set n ∷ Set h ∷ Set w ∷ Set ((f + 6) % 65536) ∷ []) cells, whole));
  top_is = λ j k at lt. read_at (f + 11) (f + j) k top (laid (f + 6) digits (low_cells f n h w cells)) (omega (arith, at)) lt
      (laid_length (f + 6) digits (low_cells f n h w cells) ∙ laid_length (f + 2) (Set n ∷ Set h ∷ Set w ∷ Set ((f + 6) % 65536) ∷ []) cells ∙ whole) (omega (arith, few, room));
  set_n = λ m. (let here : (f + 2) % 65536 ≡ f + 2 = omega (arith, room) in
      ap (λ z. slice_set (in_frame f n h w digits top cells) z (Set m)) here
      ∙ set_before (f + 2) (f + 11) top (laid (f + 6) digits (low_cells f n h w cells)) (Set m) (omega arith)
      ∙ ap (λ z. laid (f + 11) top z) (set_before (f + 2) (f + 6) digits (low_cells f n h w cells) (Set m) (omega arith)
      ∙ ap (λ z. laid (f + 6) digits z) (ap (λ z. slice_set (low_cells f n h w cells) z (Set m)) (sym here) ∙ writes f 2 (Set n ∷ Set h ∷ Set w ∷ Set ((f + 6) % 65536) ∷ []) cells (Set m) (omega arith) (omega arith) (omega (arith, room)))));
  set_digit = λ k x lt. set_before (f + 6 + k) (f + 11) top (laid (f + 6) digits (low_cells f n h w cells)) x (omega (arith, lt))
      ∙ ap (λ z. laid (f + 11) top z) (laid_set (f + 6) k digits (low_cells f n h w cells) x (omega (arith, lt, five)));
  set_top = λ j k x at lt. write_at (f + 11) (f + j) k top (laid (f + 6) digits (low_cells f n h w cells)) x (omega (arith, at)) lt (omega (arith, few, room));
}

-- one iteration of the loop that finds the digits
abbrev digit_body : Block
digit_body = commands (
    c.Nested (block ((Initial (Bin Divide (Bin ShiftRight (at 2) (Num 1)) (Num 5)) ∷ []) ∷ []) (list (
    c.Assign (Bin Subtract (at 2) (Bin Multiply (Num 10) (at 12))) (Bin Add (at 5) (at 11))
    ∷ c.Assign (Bin Add (at 11) (Num 1)) (Frame 11)
    ∷ c.Assign (at 12) (Frame 2) ∷ []))) ∷ [])

abbrev digit_round : (C : Context) → (f : ℕ) → Unit {0} → LoopRound
digit_round C f u =
    then_do (perform_block C digit_body f 12) (after_body (then_do (truth C (Bin Equal (at 2) (Num 0)) f 12) (λ t. choose (agrees false t) back leave)))

-- what its body does: the last digit is stored, and the quotient is next
body_does : (C : Context) (f n h w k q : ℕ) (digits cells : List Cell) (streams : Content) (t : ℕ) → length digits ≡ 5 → is_live (cell_at digits k) ≡ true → k < 5 → length cells ≡ 65536 → DeadFrom f cells → f + 19 ≤ 65536 → n < 65536 → q ≡ n / 10
    → perform_block C digit_body f 12 (state (in_frame f n h w digits (Set k ∷ []) cells) streams t)
    ≡ Done Past (state (in_frame f q h w (slice_set digits k (Set (n % 10))) (Set (k + 1) ∷ []) cells) streams t)
body_does C f n h w k q digits cells streams t five live lt whole free room word eq =
    let opened : slice_set (in_frame f n h w digits (Set k ∷ []) cells) (f + 12) Unset ≡ in_frame f n h w digits (Set k ∷ Unset ∷ []) cells =
    opens (f + 11) (f + 12) (Set k ∷ []) (laid (f + 6) digits (low_cells f n h w cells)) (omega arith) in
    let f0 = facts f n h w digits (Set k ∷ Unset ∷ []) cells five (omega arith) whole room in
    let f1 = facts f n h w digits (Set k ∷ Set (n / 10) ∷ []) cells five (omega arith) whole room in
    let five2 : length (slice_set digits k (Set (n % 10))) ≡ 5 = length-set digits k (Set (n % 10)) ∙ five in
    let f2 = facts f n h w (slice_set digits k (Set (n % 10))) (Set k ∷ Set (n / 10) ∷ []) cells five2 (omega arith) whole room in
    let f3 = facts f n h w (slice_set digits k (Set (n % 10))) (Set (k + 1) ∷ Set (n / 10) ∷ []) cells five2 (omega arith) whole room in
    let quotient : wrapped (int_div (signed (n / 2)) (signed 5)) ≡ n / 10 = (let e : (n / 2 / 5) % 65536 ≡ n / 10 = omega (arith, word) in rw (is_positive (n / 2) (omega (arith, word))) e) in
    let times : wrapped (signed 10 *ℤ signed (n / 10)) ≡ 10 * (n / 10) = product 10 (n / 10) (omega arith) (omega (arith, word)) (omega (arith, word)) in
    let rest : (n + (65536 - 10 * (n / 10))) % 65536 ≡ n % 10 = omega (arith, word) in
    let there : ((f + 6) % 65536 + k) % 65536 ≡ f + 6 + k = omega (arith, lt, room) in
    let puts = writes_live (cell_at (in_frame f n h w digits (Set k ∷ Set (n / 10) ∷ []) cells) (f + 6 + k)) (f + 6 + k) (n % 10) (state (in_frame f n h w digits (Set k ∷ Set (n / 10) ∷ []) cells) streams t)
    (ap is_live (f1.digit_is k lt) ∙ live) in
    let more : (k + 1) % 65536 ≡ k + 1 = omega (arith, lt) in
    let counted : slice_set (in_frame f n h w (slice_set digits k (Set (n % 10))) (Set k ∷ Set (n / 10) ∷ []) cells) ((f + 11) % 65536) (Set ((k + 1) % 65536))
    ≡ in_frame f n h w (slice_set digits k (Set (n % 10))) (Set (k + 1) ∷ Set (n / 10) ∷ []) cells = rw more (f2.set_top 11 0 (Set (k + 1)) refl (omega arith)) in
    let given : closed 1 (f + 12) (in_frame f (n / 10) h w (slice_set digits k (Set (n % 10))) (Set (k + 1) ∷ Set (n / 10) ∷ []) cells) ≡ in_frame f (n / 10) h w (slice_set digits k (Set (n % 10))) (Set (k + 1) ∷ []) cells =
    laid_close (f + 11) (f + 12) 1 (Set (k + 1) ∷ []) (Set (n / 10) ∷ []) (laid (f + 6) (slice_set digits k (Set (n % 10))) (low_cells f (n / 10) h w cells))
    (laid_free (f + 6) (f + 11) (slice_set digits k (Set (n % 10))) (low_cells f (n / 10) h w cells)
    (laid_free (f + 2) (f + 6) (Set (n / 10) ∷ Set h ∷ Set w ∷ Set ((f + 6) % 65536) ∷ []) cells (λ b le. free b (omega (arith, le))) (omega arith)) (omega (arith, five2))) (omega arith) refl in
    rw (
      opened,
      f0.low_is 2 (omega arith) (omega arith),
      quotient,
      f0.top_is 12 1 refl (omega arith),
      f0.set_top 12 1 (Set (n / 10)) refl (omega arith),
      f1.low_is 2 (omega arith) (omega arith),
      f1.top_is 12 1 refl (omega arith),
      times,
      rest,
      f1.low_is 5 (omega arith) (omega arith),
      f1.top_is 11 0 refl (omega arith),
      there,
      puts,
      f1.set_digit k (Set (n % 10)) lt,
      f2.top_is 11 0 refl (omega arith),
      f2.top_is 11 0 refl (omega arith),
      counted,
      f3.top_is 12 1 refl (omega arith),
      f3.low_is 2 (omega arith) (omega arith),
      f3.set_n (n / 10),
      given,
      eq,
    ) refl

-- these characters' digits are stored from index k on, the last one first
abbrev HoldsDigits : List Cell → ℕ → List ℕ → Type 0
HoldsDigits digits k [] = Unit {0}
HoldsDigits digits k (d ∷ ds) = (cell_at digits (k + length ds) ≡ Set (d - 48)) × (48 ≤ d) × (d < 58) × HoldsDigits digits k ds

holds_more : (digits : List Cell) (k d : ℕ) (ds : List ℕ) → HoldsDigits digits (k + 1) ds → cell_at digits k ≡ Set d → d < 10 → HoldsDigits digits k (ds ++ (48 + d) ∷ [])
holds_more digits k d [] h is small = (let here : k + 0 ≡ k = omega arith in let same : 48 + d - 48 ≡ d = omega arith in rw (here, same) is, omega arith, omega (arith, small), tt)
holds_more digits k d (e ∷ ds) h is small =
    let place : k + length (ds ++ (48 + d) ∷ []) ≡ k + 1 + length ds = (let z : length (ds ++ (48 + d) ∷ []) ≡ length ds + 1 = length-append ds _ in omega (arith, z)) in
    (ap (λ z. cell_at digits z) place ∙ h.0, h.1, h.2, holds_more digits k d ds h.3 is small)

-- the state after the digits of n were stored from index k on
record Stored (digits : List Cell) (k : ℕ) (ds : List ℕ) : Type 0 where
  after : List Cell
  five : length after ≡ 5
  kept : (j : ℕ) → j < k → cell_at after j ≡ cell_at digits j
  held : HoldsDigits after k ds

abbrev Finds : (C : Context) → (f h w : ℕ) → List Cell → Content → ℕ → List ℕ → Type 0
Finds C f h w cells streams n ds =
    (0 < length ds) × (n < 65536 → (k : ℕ) (digits : List Cell) (K T t : ℕ) → length digits ≡ 5 → ((j : ℕ) → j < 5 → is_live (cell_at digits j) ≡ true) → k + length ds ≤ 5 → length ds ≤ K + 1 → T + 1 ≡ length ds + t
    → (s : Stored digits k ds) × (rounds (suc K) (digit_round C f) tt (state (in_frame f n h w digits (Set k ∷ []) cells) streams T)
    ≡ Done Past (state (in_frame f 0 h w s.after (Set (k + length ds) ∷ []) cells) streams t)))

live_after : (digits : List Cell) (k d : ℕ) → ((j : ℕ) → j < 5 → is_live (cell_at digits j) ≡ true) → length digits ≡ 5 → k < 5 → (j : ℕ) → j < 5 → is_live (cell_at (slice_set digits k (Set d)) j) ≡ true
live_after digits k d live five lt j to = ⊎_elim
    (λ ne. ap is_live (get_or-set_other digits k j (Set d) Dead ne) ∙ live j to)
    (λ e. ap (λ z. is_live (cell_at (slice_set digits k (Set d)) z)) e ∙ ap is_live (get_or-set_same digits k (Set d) Dead (omega (arith, five, lt)))) (differ j k)

finds_one : (C : Context) (f h w : ℕ) (cells : List Cell) (streams : Content) → length cells ≡ 65536 → DeadFrom f cells → f + 19 ≤ 65536 → (n : ℕ) → n < 10 → Finds C f h w cells streams n ((48 + n) ∷ [])
finds_one C f h w cells streams whole free room n small = (omega arith, finds) where
  finds : n < 65536 → (k : ℕ) (digits : List Cell) (K T t : ℕ) → length digits ≡ 5 → ((j : ℕ) → j < 5 → is_live (cell_at digits j) ≡ true) → k + 1 ≤ 5 → 1 ≤ K + 1 → T + 1 ≡ 1 + t
      → (s : Stored digits k ((48 + n) ∷ [])) × (rounds (suc K) (digit_round C f) tt (state (in_frame f n h w digits (Set k ∷ []) cells) streams T)
      ≡ Done Past (state (in_frame f 0 h w s.after (Set (k + 1) ∷ []) cells) streams t))
  finds word k digits K T t five live fit fuel eT =
      let lt : k < 5 = omega (arith, fit) in
      let body = body_does C f n h w k 0 digits cells streams t five (live k lt) lt whole free room word (omega (arith, small)) in
      let five1 : length (slice_set digits k (Set (n % 10))) ≡ 5 = length-set digits k (Set (n % 10)) ∙ five in
      let f1 = facts f 0 h w (slice_set digits k (Set (n % 10))) (Set (k + 1) ∷ []) cells five1 (omega arith) whole room in
      let turns : T ≡ t = omega (arith, eT) in
      let digit : n % 10 ≡ 48 + n - 48 = omega (arith, small) in
      let here : k + 0 ≡ k = omega arith in (
        record {
          after = slice_set digits k (Set (n % 10));
          five = five1;
          kept = λ j less. get_or-set_other digits k j (Set (n % 10)) Dead (λ same. omega (arith, less, same));
          held = (ap (λ z. cell_at (slice_set digits k (Set (n % 10))) z) here ∙ get_or-set_same digits k (Set (n % 10)) Dead (omega (arith, five, lt)) ∙ ap (λ z. Set z) digit, omega arith, omega (arith, small), tt);
        },
        rw (turns, body, f1.low_is 2 (omega arith) (omega arith)) refl,
      )

finds_more : (C : Context) (f h w : ℕ) (cells : List Cell) (streams : Content) → length cells ≡ 65536 → DeadFrom f cells → f + 19 ≤ 65536 → (n : ℕ) (ds : List ℕ) → 10 ≤ n → Finds C f h w cells streams (n / 10) ds
    → Finds C f h w cells streams n (ds ++ (48 + n % 10) ∷ [])
finds_more C f h w cells streams whole free room n ds large front = (omega (arith, long), finds) where
  long : length (ds ++ (48 + n % 10) ∷ []) ≡ length ds + 1
  long = length-append ds _

  joined : n < 65536 → (k : ℕ) (digits : List Cell) (K T t : ℕ) → length digits ≡ 5 → is_live (cell_at digits k) ≡ true → k < 5 → K ≡ suc (K - 1) → T ≡ suc (T - 1)
      → (s : Stored (slice_set digits k (Set (n % 10))) (k + 1) ds) → rounds (suc (K - 1)) (digit_round C f) tt (state (in_frame f (n / 10) h w (slice_set digits k (Set (n % 10))) (Set (k + 1) ∷ []) cells) streams (T - 1))
      ≡ Done Past (state (in_frame f 0 h w s.after (Set (k + 1 + length ds) ∷ []) cells) streams t)
      → (s : Stored digits k (ds ++ (48 + n % 10) ∷ [])) × (rounds (suc K) (digit_round C f) tt (state (in_frame f n h w digits (Set k ∷ []) cells) streams T)
      ≡ Done Past (state (in_frame f 0 h w s.after (Set (k + length (ds ++ (48 + n % 10) ∷ [])) ∷ []) cells) streams t))
  joined word k digits K T t five live lt more turns s does =
      let body = body_does C f n h w k (n / 10) digits cells streams (suc (T - 1)) five live lt whole free room word refl in
      let five1 : length (slice_set digits k (Set (n % 10))) ≡ 5 = length-set digits k (Set (n % 10)) ∙ five in
      let f1 = facts f (n / 10) h w (slice_set digits k (Set (n % 10))) (Set (k + 1) ∷ []) cells five1 (omega arith) whole room in
      let unlike : (n / 10 == 0) ≡ false = unlike_test (n / 10) 0 (λ e. omega (arith, large, e)) in
      let place : k + 1 + length ds ≡ k + length (ds ++ (48 + n % 10) ∷ []) = omega (arith, long) in (
        record {
          after = s.after;
          five = s.five;
          kept = λ j less. s.kept j (omega (arith, less)) ∙ get_or-set_other digits k j (Set (n % 10)) Dead (λ same. omega (arith, less, same));
          held = holds_more s.after k (n % 10) ds s.held (s.kept k (omega arith) ∙ get_or-set_same digits k (Set (n % 10)) Dead (omega (arith, five, lt))) (omega arith);
        },
        rw (turns, more, body, f1.low_is 2 (omega arith) (omega arith), unlike) (does ∙ ap (λ z. Done Past (state (in_frame f 0 h w s.after (Set z ∷ []) cells) streams t)) place),
      )

  finds : n < 65536 → (k : ℕ) (digits : List Cell) (K T t : ℕ) → length digits ≡ 5 → ((j : ℕ) → j < 5 → is_live (cell_at digits j) ≡ true) → k + length (ds ++ (48 + n % 10) ∷ []) ≤ 5 → length (ds ++ (48 + n % 10) ∷ []) ≤ K + 1
      → T + 1 ≡ length (ds ++ (48 + n % 10) ∷ []) + t
      → (s : Stored digits k (ds ++ (48 + n % 10) ∷ [])) × (rounds (suc K) (digit_round C f) tt (state (in_frame f n h w digits (Set k ∷ []) cells) streams T)
      ≡ Done Past (state (in_frame f 0 h w s.after (Set (k + length (ds ++ (48 + n % 10) ∷ [])) ∷ []) cells) streams t))
  finds word k digits K T t five live fit fuel eT =
      let some : 0 < length ds = front.0 in
      let lt : k < 5 = omega (arith, fit, long) in
      let five1 : length (slice_set digits k (Set (n % 10))) ≡ 5 = length-set digits k (Set (n % 10)) ∙ five in
      let rec = front.1 (omega (arith, word)) (k + 1) (slice_set digits k (Set (n % 10))) (K - 1) (T - 1) t five1 (live_after digits k (n % 10) live five lt) (omega (arith, fit, long)) (omega (arith, fuel, long, some)) (omega (arith, eT, long, some)) in
      joined word k digits K T t five (live k lt) lt (omega (arith, fuel, long, some)) (omega (arith, eT, long, some)) rec.0 rec.1

finds_digits : (C : Context) (f h w : ℕ) (cells : List Cell) (streams : Content) → length cells ≡ 65536 → DeadFrom f cells → f + 19 ≤ 65536 → (n : ℕ) → n < 65536 → Finds C f h w cells streams n (decimal n)
finds_digits C f h w cells streams whole free room n small =
    decimal_by_steps (Finds C f h w cells streams) (finds_one C f h w cells streams whole free room) (finds_more C f h w cells streams whole free room) n (omega (arith, small))

-- one iteration of the FOR that writes blanks
abbrev blank_round : (C : Context) → (f limit : ℕ) → Unit {0} → LoopRound
blank_round C f limit u =
    then_do (value C (Load (Frame 12)) f 14) (λ i.
    choose (holds (end_relation 1) i limit) leave
    (then_do (perform_block C (commands (write_char (Num 32) ∷ [])) f 14)
    (after_body (then_do (assign C (step_of_for 1 12) (Frame 12) f 14) (λ u. back)))))

called : (address further : ℕ → ℕ) (f n h w : ℕ) (digits top cells : List Cell) → Able address further cells f 19 → length digits ≡ 5 → length top ≤ 2 → Able address further (in_frame f n h w digits top cells) (f + 14) 5
called address further f n h w digits top cells able five few =
    able_over address further (f + 11) (f + 11) (f + 14) 8 5 top (laid (f + 6) digits (low_cells f n h w cells))
    (able_over address further (f + 6) (f + 6) (f + 11) 13 8 digits (low_cells f n h w cells) (able_after address further f (f + 6) 19 13 (Set n ∷ Set h ∷ Set w ∷ Set ((f + 6) % 65536) ∷ []) cells able (omega arith) (omega arith))
    (omega arith) (omega (arith, five)) (omega arith)) (omega arith) (omega (arith, few)) (omega arith)

-- as a limit, the word w is this number of characters
abbrev Bounds : (w field : ℕ) → Type 0
Bounds w field = (field < 32767) × ((i : ℕ) → 0 < i → i < 32768 → int_lt (signed w) (signed i) ≡ nat_lt field i)

pub bounds_of : (w : ℕ) → w < 65536 → w ≢ 32767 → Bounds w (not_negative w)
bounds_of w word ne = ⊎_elim
    (λ lt. let is : not_negative w ≡ w = (let test : nat_lt w 32768 ≡ true = grind (arith, nat_tests, lt) in rw test refl) in
    subst (λ z. Bounds w z) (sym is) (omega (arith, lt, ne), λ i some small. rw (is_positive w lt, is_positive i small) refl))
    (λ ge. let is : not_negative w ≡ 0 = (let test : nat_lt w 32768 ≡ false = grind (arith, nat_tests, ge) in rw test refl) in
    subst (λ z. Bounds w z) (sym is) (omega arith, λ i some small. under i some small (omega (arith, ge)))) (cases_lt w 32768) where
      back : 65535 - (65535 - w) ≡ w
      back = omega (arith, word)

      under : (i : ℕ) → 0 < i → i < 32768 → 65535 - w < 32768 → int_lt (signed w) (signed i) ≡ nat_lt 0 i
      under i some small lt =
          let minus : signed w ≡ negsuc (65535 - w) = ap signed (sym back) ∙ is_negative (65535 - w) lt in
          let test : nat_lt 0 i ≡ true = grind (arith, nat_tests, some) in
          rw (minus, is_positive i small, test) refl

blank_loop : (P : List Placed) (address further : ℕ → ℕ) → Has P address → (V : ℕ → ℕ → ℕ → Run ℕ) → (f n h w field k x t : ℕ) (digits cells : List Cell) → Able address further cells f 19 → length digits ≡ 5 → Bounds w field
    → (left i m : ℕ) (streams : Content) (K T : ℕ) → left ≡ suc field - i → 0 < i → i < 32768 → (0 < left → m ≡ suc x) → left ≤ K → T ≡ 2 * left + t
    → rounds (suc K) (blank_round (context further (calls P m) V) f w) tt (state (in_frame f n h w digits (Set k ∷ Set i ∷ []) cells) streams T)
    ≡ Done Past (state (in_frame f n h w digits (Set k ∷ Set (i + left) ∷ []) cells) (after_writes (blanks left) streams) t)
blank_loop P address further has V f n h w field k x t digits cells able five bounds zero i m streams K T left_is some small deep fuel eT =
    let f1 = facts f n h w digits (Set k ∷ Set i ∷ []) cells five (omega arith) able.ready.whole able.ready.room in
    let past : int_lt (signed w) (signed i) ≡ true = (let test : nat_lt field i ≡ true = grind (arith, nat_tests, left_is) in bounds.1 i some small ∙ test) in
    let turns : T ≡ t = omega (arith, eT) in
    let same : i + 0 ≡ i = omega arith in
    rw (turns, same, f1.top_is 12 1 refl (omega arith), past) refl
blank_loop P address further has V f n h w field k x t digits cells able five bounds (suc left) i m streams K T left_is some small deep fuel eT =
    let f1 = facts f n h w digits (Set k ∷ Set i ∷ []) cells five (omega arith) able.ready.whole able.ready.room in
    let going : int_lt (signed w) (signed i) ≡ false = (let test : nat_lt field i ≡ false = grind (arith, nat_tests, left_is) in bounds.1 i some small ∙ test) in
    let up = called address further f n h w digits (Set k ∷ Set i ∷ []) cells able five (omega arith) in
    let write = wrch P has.wrch (in_frame f n h w digits (Set k ∷ Set i ∷ []) cells) streams (f + 14) x (suc (2 * left + t)) 32 up.ready.whole up.ready.free (omega (arith, up.ready.room)) in
    let more : (i + 1) % 65536 ≡ i + 1 = omega (arith, small) in
    let stored : slice_set (in_frame f n h w digits (Set k ∷ Set i ∷ []) cells) ((f + 12) % 65536) (Set ((i + 1) % 65536)) ≡ in_frame f n h w digits (Set k ∷ Set (i + 1) ∷ []) cells = rw more (f1.set_top 12 1 (Set (i + 1)) refl (omega arith)) in
    let turns : T ≡ suc (suc (2 * left + t)) = omega (arith, eT) in
    let again : K ≡ suc (K - 1) = omega (arith, fuel) in
    let same : i + suc left ≡ i + 1 + left = omega arith in
    rw (deep (omega arith), turns, again, same, f1.top_is 12 1 refl (omega arith), going, up.ready.write_char, write, f1.top_is 12 1 refl (omega arith), f1.top_is 12 1 refl (omega arith), stored)
    (blank_loop P address further has V f n h w field k x t digits cells able five bounds left (i + 1) (suc x) (after_write 32 streams) (K - 1) (2 * left + t) (omega (arith, left_is)) (omega arith) (let narrow = bounds.0 in omega (arith, left_is, narrow)) (λ lt. refl) (omega (arith, fuel)) refl)

-- one iteration of the FOR that writes the digits
abbrev write_round : (C : Context) → (f : ℕ) → Unit {0} → LoopRound
write_round C f u =
    then_do (value C (Load (Frame 12)) f 14) (λ i.
    choose (holds (end_relation 65535) i 0) leave
    (then_do (perform_block C (commands (write_char (Bin Add (Num 48) (cell (at 5) (at 12))) ∷ [])) f 14)
    (after_body (then_do (assign C (step_of_for 65535 12) (Frame 12) f 14) (λ u. back)))))

write_loop : (P : List Placed) (address further : ℕ → ℕ) → Has P address → (V : ℕ → ℕ → ℕ → Run ℕ) → (f n h w k x t : ℕ) (digits cells : List Cell) → Able address further cells f 19 → length digits ≡ 5
    → (ds : List ℕ) (streams : Content) (K T : ℕ) → HoldsDigits digits 0 ds → length ds ≤ 5 → length ds ≤ K → T ≡ 2 * length ds + t
    → rounds (suc K) (write_round (context further (calls P (suc x)) V) f) tt (state (in_frame f n h w digits (Set k ∷ Set (before (length ds)) ∷ []) cells) streams T)
    ≡ Done Past (state (in_frame f n h w digits (Set k ∷ Set 65535 ∷ []) cells) (after_writes ds streams) t)
write_loop P address further has V f n h w k x t digits cells able five [] streams K T held few fuel eT =
    let f1 = facts f n h w digits (Set k ∷ Set 65535 ∷ []) cells five (omega arith) able.ready.whole able.ready.room in
    let turns : T ≡ t = omega (arith, eT) in
    rw (turns, f1.top_is 12 1 refl (omega arith)) refl
write_loop P address further has V f n h w k x t digits cells able five (d ∷ ds) streams K T held few fuel eT =
    let f1 = facts f n h w digits (Set k ∷ Set (length ds) ∷ []) cells five (omega arith) able.ready.whole able.ready.room in
    let going : int_lt (signed (length ds)) (signed 0) ≡ false = not_less (length ds) (omega (arith, few)) in
    let up = called address further f n h w digits (Set k ∷ Set (length ds) ∷ []) cells able five (omega arith) in
    let there : ((f + 6) % 65536 + length ds) % 65536 ≡ f + 6 + length ds = (let room = able.ready.room in omega (arith, few, room)) in
    let zero_is : 0 + length ds ≡ length ds = omega arith in
    let digit : cell_at (in_frame f n h w digits (Set k ∷ Set (length ds) ∷ []) cells) (f + 6 + length ds) ≡ Set (d - 48) = f1.digit_is (length ds) (omega (arith, few)) ∙ ap (λ z. cell_at digits z) (sym zero_is) ∙ held.0 in
    let sum : (48 + (d - 48)) % 65536 ≡ d = (let from = held.1 in let to = held.2 in omega (arith, from, to)) in
    let byte : d % 256 ≡ d = (let to = held.2 in omega (arith, to)) in
    let write = wrch P has.wrch (in_frame f n h w digits (Set k ∷ Set (length ds) ∷ []) cells) streams (f + 14) x (suc (2 * length ds + t)) d up.ready.whole up.ready.free (omega (arith, up.ready.room)) in
    let stored : slice_set (in_frame f n h w digits (Set k ∷ Set (length ds) ∷ []) cells) ((f + 12) % 65536) (Set ((length ds + 65535) % 65536)) ≡ in_frame f n h w digits (Set k ∷ Set (before (length ds)) ∷ []) cells =
    rw (less_one (length ds) (omega (arith, few))) (f1.set_top 12 1 (Set (before (length ds))) refl (omega arith)) in
    let turns : T ≡ suc (suc (2 * length ds + t)) = omega (arith, eT) in
    let again : K ≡ suc (K - 1) = omega (arith, fuel) in
    rw (turns, again, f1.top_is 12 1 refl (omega arith), going, f1.low_is 5 (omega arith) (omega arith), f1.top_is 12 1 refl (omega arith), there, digit, sum, up.ready.write_char, write, byte, f1.top_is 12 1 refl (omega arith), f1.top_is 12 1 refl (omega arith), stored)
    (write_loop P address further has V f n h w k x t digits cells able five ds (after_write d streams) (K - 1) (2 * length ds + t) held.3 (omega (arith, few)) (omega (arith, fuel)) refl)

-- the word and the bytes of a sign, if there is one
abbrev flag : Bool → ℕ
flag b = cond b 65535 0

abbrev sign : Bool → List ℕ
sign b = cond b (45 ∷ []) []

abbrev size_of_sign : Bool → ℕ
size_of_sign b = cond b 1 0

size_small : (b : Bool) → size_of_sign b ≤ 1
size_small true = omega arith
size_small false = omega arith

all_live : (j : ℕ) → j < 5 → is_live (cell_at (Unset ∷ Unset ∷ Unset ∷ Unset ∷ Unset ∷ []) j) ≡ true
all_live zero lt = refl
all_live (suc zero) lt = refl
all_live (suc (suc zero)) lt = refl
all_live (suc (suc (suc zero))) lt = refl
all_live (suc (suc (suc (suc zero)))) lt = refl
all_live (suc (suc (suc (suc (suc j))))) lt = absurd (omega (arith, lt))

-- where the blanks begin to be counted
start_value : (C : Context) (f n w k : ℕ) (b : Bool) (digits top cells : List Cell) (streams : Content) (t : ℕ) → k < 6 → Frame_facts f n (flag b) w digits (Set k ∷ top) cells
    → value C (Bin Add (Bin Add (at 11) (Cond (at 3) (Num 1) (Num 0))) (Num 1)) f 14 (state (in_frame f n (flag b) w digits (Set k ∷ top) cells) streams t)
    ≡ Done (k + size_of_sign b + 1) (state (in_frame f n (flag b) w digits (Set k ∷ top) cells) streams t)
start_value C f n w k true digits top cells streams t few fact =
    let sum : ((k + 1) % 65536 + 1) % 65536 ≡ k + 1 + 1 = omega (arith, few) in
    rw (fact.top_is 11 0 refl (omega arith), fact.low_is 3 (omega arith) (omega arith), sum) refl
start_value C f n w k false digits top cells streams t few fact =
    let sum : ((k + 0) % 65536 + 1) % 65536 ≡ k + 0 + 1 = omega (arith, few) in
    rw (fact.top_is 11 0 refl (omega arith), fact.low_is 3 (omega arith) (omega arith), sum) refl

lower_called : (address further : ℕ → ℕ) (f n h w : ℕ) (digits top cells : List Cell) → Able address further cells f 19 → length digits ≡ 5 → length top ≤ 1 → Able address further (in_frame f n h w digits top cells) (f + 12) 5
lower_called address further f n h w digits top cells able five few =
    able_over address further (f + 11) (f + 11) (f + 12) 8 5 top (laid (f + 6) digits (low_cells f n h w cells))
    (able_over address further (f + 6) (f + 6) (f + 11) 13 8 digits (low_cells f n h w cells) (able_after address further f (f + 6) 19 13 (Set n ∷ Set h ∷ Set w ∷ Set ((f + 6) % 65536) ∷ []) cells able (omega arith) (omega arith))
    (omega arith) (omega (arith, five)) (omega arith)) (omega arith) (omega (arith, few)) (omega arith)

sign_does : (P : List Placed) (address further : ℕ → ℕ) → Has P address → (V : ℕ → ℕ → ℕ → Run ℕ) → (f n w k x t : ℕ) (b : Bool) (digits cells : List Cell) (streams : Content) → Able address further cells f 19 → length digits ≡ 5
    → perform (context further (calls P (suc x)) V) (c.If true (at 3) (commands (write_char (Num 45) ∷ []))) f 12 (state (in_frame f n (flag b) w digits (Set k ∷ []) cells) streams (size_of_sign b + t))
    ≡ Done Past (state (in_frame f n (flag b) w digits (Set k ∷ []) cells) (after_writes (sign b) streams) t)
sign_does P address further has V f n w k x t true digits cells streams able five =
    let f1 = facts f n 65535 w digits (Set k ∷ []) cells five (omega arith) able.ready.whole able.ready.room in
    let up = lower_called address further f n 65535 w digits (Set k ∷ []) cells able five (omega arith) in
    let one : 1 + t ≡ suc t = omega arith in
    let write = wrch P has.wrch (in_frame f n 65535 w digits (Set k ∷ []) cells) streams (f + 12) x t 45 up.ready.whole up.ready.free (omega (arith, up.ready.room)) in
    rw (one, f1.low_is 3 (omega arith) (omega arith), up.ready.write_char, write) refl
sign_does P address further has V f n w k x t false digits cells streams able five =
    let f1 = facts f n 0 w digits (Set k ∷ []) cells five (omega arith) able.ready.whole able.ready.room in
    let none : 0 + t ≡ t = omega arith in
    rw (none, f1.low_is 3 (omega arith) (omega arith)) refl

written_both : (xs ys : List ℕ) (streams : Content) → after_writes (xs ++ ys) streams ≡ after_writes ys (after_writes xs streams)
written_both [] ys streams = refl
written_both (x ∷ xs) ys streams = written_both xs ys (after_write x streams)

pub number_does : (P : List Placed) (address further : ℕ → ℕ) → Has P address → (e : HasFurther P further) → (b : Bool) (n w field : ℕ) (cells : List Cell) (streams : Content) (f x t N T : ℕ)
    → Able address further cells f 19 → n < 65536 → Bounds w field → N ≡ suc (suc x) → T ≡ suc (length (decimal n) - 1 + (2 * (field - (size_of_sign b + length (decimal n))) + (size_of_sign b + (2 * length (decimal n) + t))))
    → calls P N (further 24) (n ∷ flag b ∷ w ∷ []) f (state cells streams T) ≡ Done 0 (state cells (after_writes (blanks (field - (size_of_sign b + length (decimal n))) ++ (sign b ++ decimal n)) streams) t)
number_does P address further has e b n w field cells streams f x t N T able word bounds eN eT =
    let room : f + 19 ≤ 65536 = able.ready.room in
    let whole : length cells ≡ 65536 = able.ready.whole in
    let fits : nat_le (f + 19) 65536 ≡ true = fits_true _ _ room in
    let few : length (decimal n) ≤ 5 = length-decimal-le 5 n (omega arith) (omega arith) (omega (arith, word)) in
    let free2 : DeadFrom (f + 2) cells = (λ q le. able.ready.free q (omega (arith, le))) in
    let opened6 = laid_more (f + 2) (f + 5) (Set n ∷ Set (flag b) ∷ Set w ∷ []) (Unset ∷ Unset ∷ Unset ∷ Unset ∷ Unset ∷ Unset ∷ []) cells (omega arith) in
    let fresh5 : cell_at (laid (f + 2) (Set n ∷ Set (flag b) ∷ Set w ∷ Unset ∷ Unset ∷ Unset ∷ Unset ∷ Unset ∷ Unset ∷ []) cells) ((f + 5) % 65536) ≡ Unset =
    reads f 5 (Set n ∷ Set (flag b) ∷ Set w ∷ Unset ∷ Unset ∷ Unset ∷ Unset ∷ Unset ∷ Unset ∷ []) cells (omega arith) (omega arith) whole (omega (arith, room)) in
    let pointed : slice_set (laid (f + 2) (Set n ∷ Set (flag b) ∷ Set w ∷ Unset ∷ Unset ∷ Unset ∷ Unset ∷ Unset ∷ Unset ∷ []) cells) ((f + 5) % 65536) (Set ((f + 6) % 65536))
    ≡ laid (f + 2) (Set n ∷ Set (flag b) ∷ Set w ∷ Set ((f + 6) % 65536) ∷ Unset ∷ Unset ∷ Unset ∷ Unset ∷ Unset ∷ []) cells =
    writes f 5 (Set n ∷ Set (flag b) ∷ Set w ∷ Unset ∷ Unset ∷ Unset ∷ Unset ∷ Unset ∷ Unset ∷ []) cells (Set ((f + 6) % 65536)) (omega arith) (omega arith) (omega (arith, room)) in
    let layered : laid (f + 2) (Set n ∷ Set (flag b) ∷ Set w ∷ Set ((f + 6) % 65536) ∷ Unset ∷ Unset ∷ Unset ∷ Unset ∷ Unset ∷ []) cells ≡ laid (f + 6) (Unset ∷ Unset ∷ Unset ∷ Unset ∷ Unset ∷ []) (low_cells f n (flag b) w cells) =
    sym (laid_more (f + 2) (f + 6) (Set n ∷ Set (flag b) ∷ Set w ∷ Set ((f + 6) % 65536) ∷ []) (Unset ∷ Unset ∷ Unset ∷ Unset ∷ Unset ∷ []) cells (omega arith)) in
    let f0 = facts f n (flag b) w (Unset ∷ Unset ∷ Unset ∷ Unset ∷ Unset ∷ []) (Unset ∷ []) cells refl (omega arith) whole room in
    let finds = finds_digits (context further (calls P (suc x)) (e.valofs (calls P (suc x)))) f (flag b) w cells streams whole able.ready.free room n word in
    let some : 0 < length (decimal n) = finds.0 in
    let found = finds.1 word 0 (Unset ∷ Unset ∷ Unset ∷ Unset ∷ Unset ∷ []) (length (decimal n) - 1 + (2 * (field - (size_of_sign b + length (decimal n))) + (size_of_sign b + (2 * length (decimal n) + t)))) (length (decimal n) - 1 + (2 * (field - (size_of_sign b + length (decimal n))) + (size_of_sign b + (2 * length (decimal n) + t)))) (2 * (field - (size_of_sign b + length (decimal n))) + (size_of_sign b + (2 * length (decimal n) + t))) refl all_live (omega (arith, few)) (omega (arith, some)) (omega (arith, some)) in
    let zero_is : 0 + length (decimal n) ≡ length (decimal n) = omega arith in
    let digits_found : rounds (suc (length (decimal n) - 1 + (2 * (field - (size_of_sign b + length (decimal n))) + (size_of_sign b + (2 * length (decimal n) + t))))) (digit_round (context further (calls P (suc x)) (e.valofs (calls P (suc x)))) f) tt (state (in_frame f n (flag b) w (Unset ∷ Unset ∷ Unset ∷ Unset ∷ Unset ∷ []) (Set 0 ∷ []) cells) streams (length (decimal n) - 1 + (2 * (field - (size_of_sign b + length (decimal n))) + (size_of_sign b + (2 * length (decimal n) + t))))) ≡ Done Past (state (in_frame f 0 (flag b) w found.0.after (Set (length (decimal n)) ∷ []) cells) streams (2 * (field - (size_of_sign b + length (decimal n))) + (size_of_sign b + (2 * length (decimal n) + t)))) =
    found.1 ∙ ap (λ z. Done Past (state (in_frame f 0 (flag b) w found.0.after (Set z ∷ []) cells) streams (2 * (field - (size_of_sign b + length (decimal n))) + (size_of_sign b + (2 * length (decimal n) + t))))) zero_is in
    let under : DeadFrom (f + 11) (laid (f + 6) found.0.after (low_cells f 0 (flag b) w cells)) =
    laid_free (f + 6) (f + 11) found.0.after (low_cells f 0 (flag b) w cells) (laid_free (f + 2) (f + 6) (Set 0 ∷ Set (flag b) ∷ Set w ∷ Set ((f + 6) % 65536) ∷ []) cells free2 (omega arith)) (let five = found.0.five in omega (arith, five)) in
    let opened12 : slice_set (in_frame f 0 (flag b) w found.0.after (Set (length (decimal n)) ∷ []) cells) (f + 12) Unset ≡ (in_frame f 0 (flag b) w found.0.after (Set (length (decimal n)) ∷ Unset ∷ []) cells) = opens (f + 11) (f + 12) (Set (length (decimal n)) ∷ []) (laid (f + 6) found.0.after (low_cells f 0 (flag b) w cells)) (omega arith) in
    let closed12 : (i : ℕ) → closed 1 (f + 12) (in_frame f 0 (flag b) w found.0.after (Set (length (decimal n)) ∷ Set i ∷ []) cells) ≡ (in_frame f 0 (flag b) w found.0.after (Set (length (decimal n)) ∷ []) cells) =
    (λ i. laid_close (f + 11) (f + 12) 1 (Set (length (decimal n)) ∷ []) (Set i ∷ []) (laid (f + 6) found.0.after (low_cells f 0 (flag b) w cells)) under (omega arith) refl) in
    let f1 = facts f 0 (flag b) w found.0.after (Set (length (decimal n)) ∷ Unset ∷ []) cells found.0.five (omega arith) whole room in
    let starts = start_value (context further (calls P (suc x)) (e.valofs (calls P (suc x)))) f 0 w (length (decimal n)) b found.0.after (Unset ∷ []) cells streams (2 * (field - (size_of_sign b + length (decimal n))) + (size_of_sign b + (2 * length (decimal n) + t))) (omega (arith, few)) f1 in
    let f2 = facts f 0 (flag b) w found.0.after (Set (length (decimal n)) ∷ Set (length (decimal n) + size_of_sign b + 1) ∷ []) cells found.0.five (omega arith) whole room in
    let tiny : size_of_sign b ≤ 1 = size_small b in
    let blanks_do = blank_loop P address further has (e.valofs (calls P (suc x))) f 0 (flag b) w field (length (decimal n)) x (size_of_sign b + (2 * length (decimal n) + t)) found.0.after cells able found.0.five bounds (field - (size_of_sign b + length (decimal n))) (length (decimal n) + size_of_sign b + 1) (suc x) streams (2 * (field - (size_of_sign b + length (decimal n))) + (size_of_sign b + (2 * length (decimal n) + t))) (2 * (field - (size_of_sign b + length (decimal n))) + (size_of_sign b + (2 * length (decimal n) + t)))
    (let narrow = bounds.0 in omega (arith, narrow)) (omega arith) (omega (arith, few, tiny)) (λ lt. refl) (omega arith) refl in
    let signed_does = sign_does P address further has (e.valofs (calls P (suc x))) f 0 w (length (decimal n)) x (2 * length (decimal n) + t) b found.0.after cells (after_writes (blanks (field - (size_of_sign b + length (decimal n)))) streams) able found.0.five in
    let last : slice_set (in_frame f 0 (flag b) w found.0.after (Set (length (decimal n)) ∷ Unset ∷ []) cells) ((f + 12) % 65536) (Set ((length (decimal n) + 65535) % 65536)) ≡ (in_frame f 0 (flag b) w found.0.after (Set (length (decimal n)) ∷ Set (before (length (decimal n))) ∷ []) cells) =
    rw (less_one (length (decimal n)) (omega (arith, few))) (f1.set_top 12 1 (Set (before (length (decimal n)))) refl (omega arith)) in
    let digits_do = write_loop P address further has (e.valofs (calls P (suc x))) f 0 (flag b) w (length (decimal n)) x t found.0.after cells able found.0.five (decimal n) (after_writes (sign b) (after_writes (blanks (field - (size_of_sign b + length (decimal n)))) streams)) (2 * length (decimal n) + t) (2 * length (decimal n) + t) found.0.held few (omega arith) refl in
    let closed11 : closed 1 (f + 11) (in_frame f 0 (flag b) w found.0.after (Set (length (decimal n)) ∷ []) cells) ≡ laid (f + 6) found.0.after (low_cells f 0 (flag b) w cells) = laid_back (f + 11) 1 (Set (length (decimal n)) ∷ []) (laid (f + 6) found.0.after (low_cells f 0 (flag b) w cells)) under refl in
    let closed6 : closed 6 (f + 5) (laid (f + 6) found.0.after (low_cells f 0 (flag b) w cells)) ≡ laid (f + 2) (Set 0 ∷ Set (flag b) ∷ Set w ∷ []) cells =
    ap (λ z. closed 6 (f + 5) z) (laid_more (f + 2) (f + 6) (Set 0 ∷ Set (flag b) ∷ Set w ∷ Set ((f + 6) % 65536) ∷ []) found.0.after cells (omega arith))
    ∙ laid_close (f + 2) (f + 5) 6 (Set 0 ∷ Set (flag b) ∷ Set w ∷ []) (Set ((f + 6) % 65536) ∷ found.0.after) cells free2 (omega arith) (let five = found.0.five in omega (arith, five)) in
    let closed3 : closed 3 (f + 2) (laid (f + 2) (Set 0 ∷ Set (flag b) ∷ Set w ∷ []) cells) ≡ cells = laid_back (f + 2) 3 (Set 0 ∷ Set (flag b) ∷ Set w ∷ []) cells free2 refl in
    let all_written : after_writes (blanks (field - (size_of_sign b + length (decimal n))) ++ (sign b ++ decimal n)) streams ≡ after_writes (decimal n) (after_writes (sign b) (after_writes (blanks (field - (size_of_sign b + length (decimal n)))) streams)) =
    written_both (blanks (field - (size_of_sign b + length (decimal n)))) (sign b ++ decimal n) streams ∙ written_both (sign b) (decimal n) (after_writes (blanks (field - (size_of_sign b + length (decimal n)))) streams) in
    rw (
      eN,
      eT,
      e.putnumber,
      fits,
      opened6,
      fresh5,
      pointed,
      layered,
      f0.top_is 11 0 refl (omega arith),
      f0.set_top 11 0 (Set 0) refl (omega arith),
      digits_found,
      opened12,
      starts,
      f1.top_is 12 1 refl (omega arith),
      f1.set_top 12 1 (Set (length (decimal n) + size_of_sign b + 1)) refl (omega arith),
      f2.low_is 4 (omega arith) (omega arith),
      blanks_do,
      closed12 (length (decimal n) + size_of_sign b + 1 + (field - (size_of_sign b + length (decimal n)))),
      signed_does,
      opened12,
      f1.top_is 11 0 refl (omega arith),
      f1.top_is 12 1 refl (omega arith),
      last,
      digits_do,
      closed12 65535,
      closed11,
      closed6,
      closed3,
      all_written,
    ) refl

-- WRITEU
pub unsigned_does : (P : List Placed) (address further : ℕ → ℕ) → Has P address → (e : HasFurther P further) → (n w field : ℕ) (cells : List Cell) (streams : Content) (f x t N T : ℕ)
    → Able address further cells f 23 → n < 65536 → Bounds w field → N ≡ suc (suc (suc x)) → T ≡ suc (suc (turns_in_field 0 (length (decimal n)) field + t))
    → calls P N (further 26) (n ∷ w ∷ []) f (state cells streams T) ≡ Done 0 (state cells (after_writes (in_field field (decimal n)) streams) t)
unsigned_does P address further has e n w field cells streams f x t N T able word bounds eN eT =
    let room : f + 23 ≤ 65536 = able.ready.room in
    let fits : nat_le (f + 9) 65536 ≡ true = fits_true _ _ (omega (arith, room)) in
    let n_is : cell_at (laid (f + 2) (Set n ∷ Set w ∷ []) cells) ((f + 2) % 65536) ≡ Set n = reads f 2 (Set n ∷ Set w ∷ []) cells (omega arith) (omega arith) able.ready.whole (omega (arith, room)) in
    let w_is : cell_at (laid (f + 2) (Set n ∷ Set w ∷ []) cells) ((f + 3) % 65536) ≡ Set w = reads f 3 (Set n ∷ Set w ∷ []) cells (omega arith) (omega arith) able.ready.whole (omega (arith, room)) in
    let up = able_after address further f (f + 4) 23 19 (Set n ∷ Set w ∷ []) cells able (omega arith) (omega arith) in
    let none : 0 + length (decimal n) ≡ length (decimal n) = omega arith in
    let puts = number_does P address further has e false n w field (laid (f + 2) (Set n ∷ Set w ∷ []) cells) streams (f + 4) x t (suc (suc x)) (suc (turns_in_field 0 (length (decimal n)) field + t)) up word bounds refl (omega arith) in
    let given : closed 2 (f + 2) (laid (f + 2) (Set n ∷ Set w ∷ []) cells) ≡ cells = laid_back (f + 2) 2 (Set n ∷ Set w ∷ []) cells (λ q le. able.ready.free q (omega (arith, le))) refl in
    rw (eN, eT, e.writeu, fits, n_is, w_is, puts, none, given) refl

-- WRITED of a number that isn't negative
pub positive_does : (P : List Placed) (address further : ℕ → ℕ) → Has P address → (e : HasFurther P further) → (n w field : ℕ) (cells : List Cell) (streams : Content) (f x t N T : ℕ)
    → Able address further cells f 23 → n < 32768 → Bounds w field → N ≡ suc (suc (suc x)) → T ≡ suc (suc (turns_in_field 0 (length (decimal n)) field + t))
    → calls P N (further 25) (n ∷ w ∷ []) f (state cells streams T) ≡ Done 0 (state cells (after_writes (in_field field (decimal n)) streams) t)
positive_does P address further has e n w field cells streams f x t N T able small bounds eN eT =
    let room : f + 23 ≤ 65536 = able.ready.room in
    let fits : nat_le (f + 9) 65536 ≡ true = fits_true _ _ (omega (arith, room)) in
    let n_is : cell_at (laid (f + 2) (Set n ∷ Set w ∷ []) cells) ((f + 2) % 65536) ≡ Set n = reads f 2 (Set n ∷ Set w ∷ []) cells (omega arith) (omega arith) able.ready.whole (omega (arith, room)) in
    let w_is : cell_at (laid (f + 2) (Set n ∷ Set w ∷ []) cells) ((f + 3) % 65536) ≡ Set w = reads f 3 (Set n ∷ Set w ∷ []) cells (omega arith) (omega arith) able.ready.whole (omega (arith, room)) in
    let up = able_after address further f (f + 4) 23 19 (Set n ∷ Set w ∷ []) cells able (omega arith) (omega arith) in
    let none : 0 + length (decimal n) ≡ length (decimal n) = omega arith in
    let puts = number_does P address further has e false n w field (laid (f + 2) (Set n ∷ Set w ∷ []) cells) streams (f + 4) x t (suc (suc x)) (suc (turns_in_field 0 (length (decimal n)) field + t)) up (omega (arith, small)) bounds refl (omega arith) in
    let given : closed 2 (f + 2) (laid (f + 2) (Set n ∷ Set w ∷ []) cells) ≡ cells = laid_back (f + 2) 2 (Set n ∷ Set w ∷ []) cells (λ q le. able.ready.free q (omega (arith, le))) refl in
    rw (eN, eT, e.writed, fits, n_is, not_less n small, n_is, w_is, puts, none, given) refl

-- WRITED of a negative one
pub negative_does : (P : List Placed) (address further : ℕ → ℕ) → Has P address → (e : HasFurther P further) → (k w field : ℕ) (cells : List Cell) (streams : Content) (f x t N T : ℕ)
    → Able address further cells f 23 → k < 32768 → Bounds w field → N ≡ suc (suc (suc x)) → T ≡ suc (suc (turns_in_field 1 (length (decimal (suc k))) field + t))
    → calls P N (further 25) ((65535 - k) ∷ w ∷ []) f (state cells streams T) ≡ Done 0 (state cells (after_writes (in_field field (45 ∷ decimal (suc k))) streams) t)
negative_does P address further has e k w field cells streams f x t N T able small bounds eN eT =
    let room : f + 23 ≤ 65536 = able.ready.room in
    let fits : nat_le (f + 9) 65536 ≡ true = fits_true _ _ (omega (arith, room)) in
    let n_is : cell_at (laid (f + 2) (Set (65535 - k) ∷ Set w ∷ []) cells) ((f + 2) % 65536) ≡ Set (65535 - k) = reads f 2 (Set (65535 - k) ∷ Set w ∷ []) cells (omega arith) (omega arith) able.ready.whole (omega (arith, room)) in
    let w_is : cell_at (laid (f + 2) (Set (65535 - k) ∷ Set w ∷ []) cells) ((f + 3) % 65536) ≡ Set w = reads f 3 (Set (65535 - k) ∷ Set w ∷ []) cells (omega arith) (omega arith) able.ready.whole (omega (arith, room)) in
    let up = able_after address further f (f + 4) 23 19 (Set (65535 - k) ∷ Set w ∷ []) cells able (omega arith) (omega arith) in
    let opposite : negated (65535 - k) ≡ suc k = omega (arith, small) in
    let one : 1 + length (decimal (suc k)) ≡ suc (length (decimal (suc k))) = omega arith in
    let puts = number_does P address further has e true (suc k) w field (laid (f + 2) (Set (65535 - k) ∷ Set w ∷ []) cells) streams (f + 4) x t (suc (suc x)) (suc (turns_in_field 1 (length (decimal (suc k))) field + t)) up (omega (arith, small)) bounds refl (omega arith) in
    let given : closed 2 (f + 2) (laid (f + 2) (Set (65535 - k) ∷ Set w ∷ []) cells) ≡ cells = laid_back (f + 2) 2 (Set (65535 - k) ∷ Set w ∷ []) cells (λ q le. able.ready.free q (omega (arith, le))) refl in
    rw (eN, eT, e.writed, fits, n_is, less k small, n_is, opposite, w_is, puts, one, given) refl

-- a number has a digit
pub some_digits : (n : ℕ) → n < 65536 → 0 < length (decimal n)
some_digits n small = decimal_by_steps (λ v ds. 0 < length ds) (λ v lt. omega arith) (λ v ds le h. let z : length (ds ++ (48 + v % 10) ∷ []) ≡ length ds + 1 = length-append ds _ in omega (arith, z)) n (omega (arith, small))
