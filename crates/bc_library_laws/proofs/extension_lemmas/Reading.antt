-- What READN does: its two loops, by induction over the blanks and the digits that are left, and the call.
use Rattle.std.proofs.Common.{◌≡◌, ◌≢◌, ◌⊎◌, inl, inr, ⊎_elim, Bool, ℕ, zero, suc, ◌+◌, ◌-◌, ◌*◌, ◌%◌, ◌<◌, ◌≤◌, ◌==◌, List, [], ◌∷◌, ◌++◌, length, true, false, Option, Some, None, refl, sym, ap, subst, ◌∙◌, arith}
use Rattle.std.proofs.lemmas.List.{get_or-set_same, get_or-set_other, length-set, set-set, set-get_or, set_comm}
use Rattle.std.proofs.lemmas.Option.{slice_get_within, slice_get-get_or}
use Rattle.std.specs.Prelude.{slice_set, nat_le, int_le, cond, ◌*ℤ◌}
use Rattle.bc_word.specs.Words.{signed, wrapped}
use Rattle.bc_word.specs.declared.operator.Op.TheVariants.{Or, And, Add, Subtract, Multiply, Equal, LessEqual}
use Rattle.bc_word.proofs.Products.{product_is}
use Rattle.bc_machine_defs.specs.Execute.{byte_or_end}
use Rattle.bc_machine_defs.specs.Streams.{Input, Content, numbered}
use Rattle.bc_machine_defs.specs.StreamCalls.{replaced, next_byte, after_byte, byte_of_input, with_input_read, after_read}
use Rattle.bc_core.specs.Tree.{Exp, Load, Frame, Glob, Bin, Num}
use Rattle.bc_core.specs.Commands.{Block}
use Rattle.bc_core.specs.Commands as c
use Rattle.bc_core.specs.Map.{Placed, placed}
use Rattle.bc_core.specs.Store.{Cell, Dead, Unset, Set, cell_at, closed}
use Rattle.bc_core.specs.Outcome.{Done, Run, then_do, choose, rounds, written}
use Rattle.bc_core.specs.Exit.{Past}
use Rattle.bc_core.specs.Loop.{LoopRound, back, leave, after_body, agrees}
use Rattle.bc_core.specs.Value.{Context, truth}
use Rattle.bc_core.specs.Command.{perform_block}
use Rattle.bc_core.specs.Laws.{is_live}
use Rattle.bc_core.specs.Meaning.{calls, context}
use Rattle.bc_library_laws.specs.Library.{at, commands, calling, library}
use Rattle.bc_library_laws.specs.Laws.{state}
use Rattle.bc_library_laws.proofs.Steps.{fits_true, low}
use Rattle.bc_library_laws.specs.extension.Extension.{extension}
use Rattle.bc_library_laws.specs.extension.Laws.{Able, laid}
use Rattle.bc_library_laws.specs.extension.Reading.{IsSelected, CanRead, last_at, next_of, remaining_in, remaining, after_reads, first_of, rest_of, is_blank, AreBlanks, AreDigits, number_from, Sign, Unsigned, Plus, Minus, bytes_of_sign, with_sign, EndsNumber, IsSplit, with_character, turns_of_text, ReadnReadsItsNumber, ReadnBeginsWithACharacterTakenBack}
use Rattle.bc_library_laws.proofs.extension_lemmas.Tests.{yes_le, no_le, unlike_test}
use Rattle.bc_library_laws.proofs.extension_lemmas.Frames.{laid_below, reads, writes, laid_back, able_after, able_written, live_below, writes_live, free_after, set_before}
use Rattle.bc_library_laws.proofs.extension_lemmas.Finding.{HasFurther, has_further}
use Rattle.bc_library_laws.proofs.extension_lemmas.Characters.{HasReading, has_reading, rdch_does, once_more_does}

next_is : (streams : Content) → next_of streams ≡ first_of (remaining streams)
next_is streams = of_input (numbered streams.inputs streams.input) where
  of_bytes : (ended : Bool) (bytes : List ℕ) → byte_or_end (next_byte ended bytes) ≡ first_of (cond ended [] bytes)
  of_bytes true bytes = refl
  of_bytes false [] = refl
  of_bytes false (byte ∷ bytes) = refl

  of_input : (o : Option Input) → byte_or_end (byte_of_input o) ≡ first_of (remaining_in o)
  of_input None = refl
  of_input (Some i) = of_bytes i.ended i.rest

numbered_replaced : (table : List Input) (n : ℕ) (old x : Input) → numbered table n ≡ Some old → numbered (replaced table n x) n ≡ Some x
numbered_replaced table zero old x e = absurd (let z : ⊥ = cc in z)
numbered_replaced table (suc k) old x e =
    let back : suc k - 1 ≡ k = omega arith in
    let within : k < length table = slice_get_within table k old e in
    rw back (slice_get-get_or (slice_set table k x) k old (omega (arith, length-set table k x, within)) ∙ ap (λ z. Some z) (get_or-set_same table k x old within))

after_next : (streams : Content) → remaining (after_read streams) ≡ rest_of (remaining streams)
after_next streams = of_input (numbered streams.inputs streams.input) refl where
  of_bytes : (ended : Bool) (bytes : List ℕ) → cond ended [] (after_byte ended bytes) ≡ rest_of (cond ended [] bytes)
  of_bytes true bytes = refl
  of_bytes false [] = refl
  of_bytes false (byte ∷ bytes) = refl

  of_input : (o : Option Input) → numbered streams.inputs streams.input ≡ o → remaining (with_input_read o streams) ≡ rest_of (remaining_in o)
  of_input None e = ap remaining_in e
  of_input (Some i) e =
      ap remaining_in (numbered_replaced streams.inputs streams.input i (record i { rest = after_byte i.ended i.rest }) e) ∙ of_bytes i.ended i.rest

-- a word of the table, and TERMINATOR, are written twice
twice : (cells : List Cell) (p a b : ℕ) → 520 ≤ p → slice_set (slice_set (slice_set (slice_set cells p (Set a)) 46 (Set a)) p (Set b)) 46 (Set b) ≡ slice_set (slice_set cells p (Set b)) 46 (Set b)
twice cells p a b high =
    ap (λ z. slice_set z 46 (Set b)) (set_comm (slice_set cells p (Set a)) 46 p (Set a) (Set b) (λ same. omega (arith, same, high)))
    ∙ set-set (slice_set (slice_set cells p (Set a)) p (Set b)) 46 (Set a) (Set b) ∙ ap (λ z. slice_set z 46 (Set b)) (set-set cells p (Set a) (Set b))

-- READN's premises, and where the words are that it changes
record Reader (address further : ℕ → ℕ) (cells : List Cell) (f i : ℕ) : Type 0 where
  able : Able address further cells f 14
  can : CanRead further cells i 0
  high : 520 ≤ last_at further i
  last_low : last_at further i < f
  again_low : last_at further i + 1 < f
  terminator_low : 46 < f

reader_of : (P : List Placed) (address further : ℕ → ℕ) → HasReading P further → (cells : List Cell) (f i : ℕ) → Able address further cells f 14 → CanRead further cells i 0 → Reader address further cells f i
reader_of P address further r cells f i able can = record {
  able = able;
  can = can;
  high = let h = r.high in omega (arith, h);
  last_low = live_below f (last_at further i) cells able.ready.free can.selected.last;
  again_low = low f (last_at further i + 1) 0 cells able.ready.free can.selected.flag;
  terminator_low = live_below f 46 cells able.ready.free can.terminator;
}

-- a character doesn't change them
reader_after : (P : List Placed) (address further : ℕ → ℕ) → HasReading P further → (cells : List Cell) (f i c : ℕ) → Reader address further cells f i → Reader address further (with_character further i c cells) f i
reader_after P address further r cells f i c s = record {
  able = record {
    ready = record {
      whole = length-set (slice_set cells (last_at further i) (Set c)) 46 (Set c) ∙ first.ready.whole;
      free = free_after f 46 c (slice_set cells (last_at further i) (Set c)) first.ready.free s.terminator_low;
      room = first.ready.room;
      write_char = other 22 (omega arith) ∙ first.ready.write_char;
      get_byte = other 28 (omega arith) ∙ first.ready.get_byte;
      write_s = other 30 (omega arith) ∙ first.ready.write_s;
      write_n = other 31 (omega arith) ∙ first.ready.write_n;
    };
    put_byte = other 29 (omega arith) ∙ first.put_byte;
    capital_ch = other 57 (omega arith) ∙ first.capital_ch;
  };
  can = record {
    selected = record {
      low = s.can.selected.low;
      high = s.can.selected.high;
      number = both (further 1) (let h = r.number_high in λ same. omega (arith, same, h))
          (λ same. ⊎_elim (λ under. omega (arith, same, under)) (λ over. let h = s.can.selected.high in omega (arith, same, over, h)) r.apart) ∙ s.can.selected.number;
      last = ap is_live (other (last_at further i) (let h = s.high in λ same. omega (arith, same, h)) ∙ get_or-set_same cells (last_at further i) (Set c) Dead (let h = s.last_low in omega (arith, h, s.able.ready.whole, s.able.ready.room)));
      flag = both (last_at further i + 1) (let h = s.high in λ same. omega (arith, same, h)) (λ same. omega (arith, same)) ∙ s.can.selected.flag;
    };
    primitive = below 21 (omega arith) (omega arith) ∙ s.can.primitive;
    routine = below 48 (omega arith) (omega arith) ∙ s.can.routine;
    terminator = ap is_live (get_or-set_same (slice_set cells (last_at further i) (Set c)) 46 (Set c) Dead (omega (arith, length-set cells (last_at further i) (Set c), s.able.ready.whole)));
  };
  high = s.high;
  last_low = s.last_low;
  again_low = s.again_low;
  terminator_low = s.terminator_low;
} where
  first : Able address further (slice_set cells (last_at further i) (Set c)) f 14
  first = able_written address further f 14 (last_at further i) c cells s.able s.high s.last_low

  other : (b : ℕ) → b ≢ 46 → cell_at (with_character further i c cells) b ≡ cell_at (slice_set cells (last_at further i) (Set c)) b
  other b away = get_or-set_other (slice_set cells (last_at further i) (Set c)) 46 b (Set c) Dead away

  both : (b : ℕ) → b ≢ 46 → b ≢ last_at further i → cell_at (with_character further i c cells) b ≡ cell_at cells b
  both b away apart = other b away ∙ get_or-set_other cells (last_at further i) b (Set c) Dead apart

  below : (b : ℕ) → b ≢ 46 → b < 520 → cell_at (with_character further i c cells) b ≡ cell_at cells b
  below b away lt = both b away (let h = s.high in λ same. omega (arith, same, h, lt))

-- TERMINATOR after a character
terminator_is : (address further : ℕ → ℕ) (cells ks : List Cell) (f i c : ℕ) → Reader address further cells f i → cell_at (laid (f + 2) ks (with_character further i c cells)) 46 ≡ Set c
terminator_is address further cells ks f i c s =
    laid_below (f + 2) 46 ks (with_character further i c cells) (let h = s.terminator_low in omega (arith, h))
    ∙ get_or-set_same (slice_set cells (last_at further i) (Set c)) 46 (Set c) Dead (omega (arith, length-set cells (last_at further i) (Set c), s.able.ready.whole))

-- the steps of `TERMINATOR := RDCH()`, which gives this character, above the cells ks of the frame at f
record Takes (P : List Placed) (further : ℕ → ℕ) (cells ks : List Cell) (streams : Content) (f m t i c : ℕ) : Type 0 where
  routine : cell_at (laid (f + 2) ks cells) 48 ≡ Set (further 8)
  got : calls P (suc (suc m)) (further 8) [] (f + 4) (state (laid (f + 2) ks cells) streams (suc (suc (suc t)))) ≡ Done c (state (slice_set (laid (f + 2) ks cells) (last_at further i) (Set c)) (after_read streams) t)
  puts : written (cell_at (slice_set (laid (f + 2) ks cells) (last_at further i) (Set c)) 46) 46 c (state (slice_set (laid (f + 2) ks cells) (last_at further i) (Set c)) (after_read streams) t)
      ≡ Done tt (state (slice_set (slice_set (laid (f + 2) ks cells) (last_at further i) (Set c)) 46 (Set c)) (after_read streams) t)
  stored : slice_set (slice_set (laid (f + 2) ks cells) (last_at further i) (Set c)) 46 (Set c) ≡ laid (f + 2) ks (with_character further i c cells)

takes_of : (P : List Placed) (address further : ℕ → ℕ) → HasFurther P further → HasReading P further → (cells ks : List Cell) (streams : Content) (f m t i c : ℕ) → Reader address further cells f i → length ks ≡ 2 → next_of streams ≡ c
    → Takes P further cells ks streams f m t i c
takes_of P address further e r cells ks streams f m t i c s size next =
    let last_low = s.last_low in
    let again_low = s.again_low in
    let term_low = s.terminator_low in
    let high = s.high in
    let up = able_after address further f (f + 4) 14 10 ks cells s.able (omega (arith, size)) (omega arith) in
    let below : (a : ℕ) → a < f → cell_at (laid (f + 2) ks cells) a ≡ cell_at cells a = λ a lt. laid_below (f + 2) a ks cells (omega (arith, lt)) in
    let stays : (a w : ℕ) → cell_at cells a ≡ Set w → cell_at (laid (f + 2) ks cells) a ≡ Set w = λ a w is. below a (low f a w cells s.able.ready.free is) ∙ is in
    let selected : IsSelected further (laid (f + 2) ks cells) i 0 = record {
      low = s.can.selected.low;
      high = s.can.selected.high;
      number = stays (further 1) i s.can.selected.number;
      last = ap is_live (below (last_at further i) last_low) ∙ s.can.selected.last;
      flag = stays (last_at further i + 1) 0 s.can.selected.flag;
    } in
    let live : is_live (cell_at (slice_set (laid (f + 2) ks cells) (last_at further i) (Set c)) 46) ≡ true =
    ap is_live (get_or-set_other (laid (f + 2) ks cells) (last_at further i) 46 (Set c) Dead (λ same. omega (arith, same, high)) ∙ below 46 term_low) ∙ s.can.terminator in
    record {
      routine = stays 48 (further 8) s.can.routine;
      got = subst (λ z. calls P (suc (suc m)) (further 8) [] (f + 4) (state (laid (f + 2) ks cells) streams (suc (suc (suc t)))) ≡ Done z (state (slice_set (laid (f + 2) ks cells) (last_at further i) (Set z)) (after_read streams) t)) next
          (rdch_does P address further e r (laid (f + 2) ks cells) streams (f + 4) m t i up selected (stays 21 528 s.can.primitive));
      puts = writes_live (cell_at (slice_set (laid (f + 2) ks cells) (last_at further i) (Set c)) 46) 46 c (state (slice_set (laid (f + 2) ks cells) (last_at further i) (Set c)) (after_read streams) t) live;
      stored = ap (λ z. slice_set z 46 (Set c)) (set_before (last_at further i) (f + 2) ks cells (Set c) (omega (arith, last_low)))
          ∙ set_before 46 (f + 2) ks (slice_set cells (last_at further i) (Set c)) (Set c) (omega (arith, term_low));
    }

-- whether TERMINATOR is a blank
abbrev blank_test : Exp
blank_test = Bin Or
    (Bin Or (Bin Or (Bin Or (Bin Equal (Load (Glob 38)) (Num 32)) (Bin Equal (Load (Glob 38)) (Num 9))) (Bin Equal (Load (Glob 38)) (Num 10)))
    (Bin Equal (Load (Glob 38)) (Num 13))) (Bin Equal (Load (Glob 38)) (Num 12))

blank_truth : (C : Context) (cells : List Cell) (streams : Content) (f t c : ℕ) → cell_at cells 46 ≡ Set c → truth C blank_test f 4 (state cells streams t) ≡ Done (is_blank c) (state cells streams t)
blank_truth C cells streams f t c is = first (c == 32) refl where
  Holds : Type 0
  Holds = truth C blank_test f 4 (state cells streams t) ≡ Done (is_blank c) (state cells streams t)

  fifth : (c == 32) ≡ false → (c == 9) ≡ false → (c == 10) ≡ false → (c == 13) ≡ false → (b : Bool) → (c == 12) ≡ b → Holds
  fifth e1 e2 e3 e4 true e5 = rw (is, e1, is, e2, is, e3, is, e4, is, e5) refl
  fifth e1 e2 e3 e4 false e5 = rw (is, e1, is, e2, is, e3, is, e4, is, e5) refl

  fourth : (c == 32) ≡ false → (c == 9) ≡ false → (c == 10) ≡ false → (b : Bool) → (c == 13) ≡ b → Holds
  fourth e1 e2 e3 true e4 = rw (is, e1, is, e2, is, e3, is, e4) refl
  fourth e1 e2 e3 false e4 = fifth e1 e2 e3 e4 (c == 12) refl

  third : (c == 32) ≡ false → (c == 9) ≡ false → (b : Bool) → (c == 10) ≡ b → Holds
  third e1 e2 true e3 = rw (is, e1, is, e2, is, e3) refl
  third e1 e2 false e3 = fourth e1 e2 e3 (c == 13) refl

  second : (c == 32) ≡ false → (b : Bool) → (c == 9) ≡ b → Holds
  second e1 true e2 = rw (is, e1, is, e2) refl
  second e1 false e2 = third e1 e2 (c == 10) refl

  first : (b : Bool) → (c == 32) ≡ b → Holds
  first true e1 = rw (is, e1) refl
  first false e1 = second e1 (c == 9) refl

-- one iteration of the loop that passes over blanks
abbrev skip_round : (C : Context) → (f : ℕ) → Unit {0} → LoopRound
skip_round C f u =
    then_do (perform_block C (commands (c.Assign (calling 40 []) (Glob 38) ∷ [])) f 4)
    (after_body (then_do (truth C blank_test f 4) (λ t. choose (agrees true t) back leave)))

skip_loop : (P : List Placed) (address further : ℕ → ℕ) → HasFurther P further → HasReading P further → (V : ℕ → ℕ → ℕ → Run ℕ) → (ks : List Cell) (f m t i x : ℕ) → length ks ≡ 2
    → (bs rest : List ℕ) (cells : List Cell) (streams : Content) (K T : ℕ) → AreBlanks bs → is_blank (first_of rest) ≡ false → remaining streams ≡ bs ++ rest → Reader address further cells f i
    → K ≡ length bs + x → T ≡ 3 + 4 * length bs + t
    → rounds (suc K) (skip_round (context further (calls P (suc (suc m))) V) f) tt (state (laid (f + 2) ks cells) streams T)
    ≡ Done Past (state (laid (f + 2) ks (with_character further i (first_of rest) cells)) (after_reads (suc (length bs)) streams) t)
skip_loop P address further e r V ks f m t i x size [] rest cells streams K T blank ends text s eK eT =
    let takes = takes_of P address further e r cells ks streams f m t i (first_of rest) s size (next_is streams ∙ ap first_of text) in
    let turns : T ≡ suc (suc (suc t)) = omega (arith, eT) in
    let test = blank_truth (context further (calls P (suc (suc m))) V) (laid (f + 2) ks (with_character further i (first_of rest) cells)) (after_read streams) f t (first_of rest) (terminator_is address further cells ks f i (first_of rest) s) in
    rw (turns, takes.routine, takes.got, takes.puts, takes.stored, test, ends) refl
skip_loop P address further e r V ks f m t i x size (b ∷ bs) rest cells streams K T blank ends text s eK eT =
    let takes = takes_of P address further e r cells ks streams f m (suc (3 + 4 * length bs + t)) i b s size (next_is streams ∙ ap first_of text) in
    let turns : T ≡ suc (suc (suc (suc (3 + 4 * length bs + t)))) = omega (arith, eT) in
    let fuel : K ≡ suc (length bs + x) = omega (arith, eK) in
    let test = blank_truth (context further (calls P (suc (suc m))) V) (laid (f + 2) ks (with_character further i b cells)) (after_read streams) f (suc (3 + 4 * length bs + t)) b (terminator_is address further cells ks f i b s) in
    rw (turns, fuel, takes.routine, takes.got, takes.puts, takes.stored, test, blank.0)
    (skip_loop P address further e r V ks f m t i x size bs rest (with_character further i b cells) (after_read streams) (length bs + x) (3 + 4 * length bs + t) blank.1 ends (after_next streams ∙ ap rest_of text)
    (reader_after P address further r cells f i b s) refl refl
    ∙ ap (λ z. Done Past (state (laid (f + 2) ks z) (after_reads (suc (length bs)) (after_read streams)) t)) (twice cells (last_at further i) b (first_of rest) s.high))

-- the number, modulo 65,536
number_of_word : (ds : List ℕ) (n : ℕ) → number_from (n % 65536) ds % 65536 ≡ number_from n ds % 65536
number_of_word [] n = omega arith
number_of_word (d ∷ ds) n =
    let same : (10 * (n % 65536) + (d - 48)) % 65536 ≡ (10 * n + (d - 48)) % 65536 = omega arith in
    sym (number_of_word ds (10 * (n % 65536) + (d - 48))) ∙ ap (λ z. number_from z ds % 65536) same ∙ number_of_word ds (10 * n + (d - 48))

-- one of the two tests for a digit fails
abbrev Stops : ℕ → Type 0
Stops c = (int_le (signed 48) (signed c) ≡ false) ⊎ ((int_le (signed 48) (signed c) ≡ true) × (int_le (signed c) (signed 57) ≡ false))

stops : (rest : List ℕ) → EndsNumber rest → Stops (first_of rest)
stops [] h = inl refl
stops (byte ∷ rest) h =
    let small = h.0 in
    ⊎_elim (λ lt. inl (no_le 48 byte (omega arith) (omega (arith, small)) lt))
    (λ gt. inr (yes_le 48 byte (omega arith) (omega (arith, small)) (omega (arith, gt)), no_le byte 57 (omega (arith, small)) (omega arith) gt)) h.1

-- whether TERMINATOR is a digit, and what READN does with it
abbrev digit_test : Exp
digit_test = Bin And (Bin LessEqual (Num 48) (Load (Glob 38))) (Bin LessEqual (Load (Glob 38)) (Num 57))

abbrev digit_block : Block
digit_block = commands (
    c.Assign (Bin Subtract (Bin Add (Bin Multiply (Num 10) (at 2)) (Load (Glob 38))) (Num 48)) (Frame 2)
    ∷ c.Assign (calling 40 []) (Glob 38) ∷ [])

abbrev digit_round : (C : Context) → (f : ℕ) → Unit {0} → LoopRound
digit_round C f u =
    then_do (truth C digit_test f 4) (λ t. choose (agrees true t) (then_do (perform_block C digit_block f 4) (after_body back)) leave)

digit_loop : (P : List Placed) (address further : ℕ → ℕ) → HasFurther P further → HasReading P further → (V : ℕ → ℕ → ℕ → Run ℕ) → (cells : List Cell) (neg f m t i x : ℕ) → Reader address further cells f i
    → (ds rest : List ℕ) (streams : Content) (n w K T : ℕ) → AreDigits ds → n < 65536 → w ≡ number_from n ds % 65536 → Stops (first_of rest) → remaining streams ≡ rest_of (ds ++ rest)
    → K ≡ length ds + x → T ≡ 4 * length ds + t
    → rounds (suc K) (digit_round (context further (calls P (suc (suc m))) V) f) tt (state (laid (f + 2) (Set n ∷ Set neg ∷ []) (with_character further i (first_of (ds ++ rest)) cells)) streams T)
    ≡ Done Past (state (laid (f + 2) (Set w ∷ Set neg ∷ []) (with_character further i (first_of rest) cells)) (after_reads (length ds) streams) t)
digit_loop P address further e r V cells neg f m t i x s [] rest streams n w K T digits word is (inl under) text eK eT =
    let term = terminator_is address further cells (Set n ∷ Set neg ∷ []) f i (first_of rest) s in
    let same : w ≡ n = omega (arith, is, word) in
    let turns : T ≡ t = omega (arith, eT) in
    rw (turns, same, term, under) refl
digit_loop P address further e r V cells neg f m t i x s [] rest streams n w K T digits word is (inr over) text eK eT =
    let term = terminator_is address further cells (Set n ∷ Set neg ∷ []) f i (first_of rest) s in
    let same : w ≡ n = omega (arith, is, word) in
    let turns : T ≡ t = omega (arith, eT) in
    rw (turns, same, term, over.0, term, over.1) refl
digit_loop P address further e r V cells neg f m t i x s (d ∷ ds) rest streams n w K T digits word is stop text eK eT =
    let room = s.able.ready.room in
    let from = digits.0.0 in
    let to = digits.0.1 in
    let s1 = reader_after P address further r cells f i d s in
    let term = terminator_is address further cells (Set n ∷ Set neg ∷ []) f i d s in
    let above : int_le (signed 48) (signed d) ≡ true = yes_le 48 d (omega arith) (omega (arith, to)) from in
    let below : int_le (signed d) (signed 57) ≡ true = yes_le d 57 (omega (arith, to)) (omega arith) to in
    let n_is : cell_at (laid (f + 2) (Set n ∷ Set neg ∷ []) (with_character further i d cells)) ((f + 2) % 65536) ≡ Set n =
    reads f 2 (Set n ∷ Set neg ∷ []) (with_character further i d cells) (omega arith) (omega arith) s1.able.ready.whole (omega (arith, room)) in
    let ten : wrapped (signed 10 *ℤ signed n) ≡ (10 * n) % 65536 = sym (product_is 10 n (omega arith) word) in
    let sum : (((10 * n) % 65536 + d) % 65536 + 65488) % 65536 ≡ (10 * n + (d - 48)) % 65536 = omega (arith, from, to) in
    let n_set : slice_set (laid (f + 2) (Set n ∷ Set neg ∷ []) (with_character further i d cells)) ((f + 2) % 65536) (Set ((10 * n + (d - 48)) % 65536))
    ≡ laid (f + 2) (Set ((10 * n + (d - 48)) % 65536) ∷ Set neg ∷ []) (with_character further i d cells) =
    writes f 2 (Set n ∷ Set neg ∷ []) (with_character further i d cells) (Set ((10 * n + (d - 48)) % 65536)) (omega arith) (omega arith) (omega (arith, room)) in
    let takes = takes_of P address further e r (with_character further i d cells) (Set ((10 * n + (d - 48)) % 65536) ∷ Set neg ∷ []) streams f m (suc (4 * length ds + t)) i (first_of (ds ++ rest)) s1 refl
    (next_is streams ∙ ap first_of text) in
    let again : with_character further i (first_of (ds ++ rest)) (with_character further i d cells) ≡ with_character further i (first_of (ds ++ rest)) cells = twice cells (last_at further i) d (first_of (ds ++ rest)) s.high in
    let turns : T ≡ suc (suc (suc (suc (4 * length ds + t)))) = omega (arith, eT) in
    let fuel : K ≡ suc (length ds + x) = omega (arith, eK) in
    rw (turns, fuel, term, above, term, below, n_is, ten, term, n_is, sum, n_set, takes.routine, takes.got, takes.puts, takes.stored, again)
    (digit_loop P address further e r V cells neg f m t i x s ds rest (after_read streams) ((10 * n + (d - 48)) % 65536) w (length ds + x) (4 * length ds + t) digits.1 (omega arith) (is ∙ sym (number_of_word ds (10 * n + (d - 48)))) stop
    (after_next streams ∙ ap rest_of text) refl refl)

-- the input after the blanks
after_blanks : (bs rest : List ℕ) (streams : Content) → remaining streams ≡ bs ++ rest → remaining (after_reads (suc (length bs)) streams) ≡ rest_of rest
after_blanks [] rest streams text = after_next streams ∙ ap rest_of text
after_blanks (b ∷ bs) rest streams text = after_blanks bs rest (after_read streams) (after_next streams ∙ ap rest_of text)

reads_add : (a b : ℕ) (streams : Content) → after_reads b (after_reads a streams) ≡ after_reads (a + b) streams
reads_add zero b streams = let same : b ≡ zero + b = omega arith in ap (λ z. after_reads z streams) same
reads_add (suc a) b streams = let same : suc a + b ≡ suc (a + b) = omega arith in rw same (reads_add a b (after_read streams))

-- the first byte of a number without a sign
record Begins (c : ℕ) : Type 0 where
  blank : is_blank c ≡ false
  minus : (c == 45) ≡ false
  plus : (c == 43) ≡ false

begins : (ds rest : List ℕ) → AreDigits ds → IsSplit Unsigned ds rest → Begins (first_of (ds ++ rest))
begins [] [] digits split = record { blank = refl; minus = refl; plus = refl }
begins [] (byte ∷ rest) digits split = record { blank = split.0; minus = unlike_test byte 45 split.2; plus = unlike_test byte 43 split.1 }
begins (d ∷ ds) rest digits split =
    let from = digits.0.0 in
    let unlike : (k : ℕ) → k < 48 → (d == k) ≡ false = λ k lt. unlike_test d k (λ same. omega (arith, from, same, lt)) in
    record {
      blank = rw (unlike 32 (omega arith), unlike 9 (omega arith), unlike 10 (omega arith), unlike 13 (omega arith), unlike 12 (omega arith)) refl;
      minus = unlike 45 (omega arith);
      plus = unlike 43 (omega arith);
    }

-- READN's cells SUM and NEGATIVE
record Cells (f : ℕ) (cells : List Cell) : Type 0 where
  sum_is : (a b : Cell) → cell_at (laid (f + 2) (a ∷ b ∷ []) cells) ((f + 2) % 65536) ≡ a
  neg_is : (a b : Cell) → cell_at (laid (f + 2) (a ∷ b ∷ []) cells) ((f + 3) % 65536) ≡ b
  sum_set : (a b d : Cell) → slice_set (laid (f + 2) (a ∷ b ∷ []) cells) ((f + 2) % 65536) d ≡ laid (f + 2) (d ∷ b ∷ []) cells
  neg_set : (a b d : Cell) → slice_set (laid (f + 2) (a ∷ b ∷ []) cells) ((f + 3) % 65536) d ≡ laid (f + 2) (a ∷ d ∷ []) cells
  given : (a b : Cell) → closed 2 (f + 2) (laid (f + 2) (a ∷ b ∷ []) cells) ≡ cells

cells_of : (address further : ℕ → ℕ) (f : ℕ) (cells : List Cell) → Able address further cells f 14 → Cells f cells
cells_of address further f cells able =
    let room = able.ready.room in
    record {
      sum_is = λ a b. reads f 2 (a ∷ b ∷ []) cells (omega arith) (omega arith) able.ready.whole (omega (arith, room));
      neg_is = λ a b. reads f 3 (a ∷ b ∷ []) cells (omega arith) (omega arith) able.ready.whole (omega (arith, room));
      sum_set = λ a b d. writes f 2 (a ∷ b ∷ []) cells d (omega arith) (omega arith) (omega (arith, room));
      neg_set = λ a b d. writes f 3 (a ∷ b ∷ []) cells d (omega arith) (omega arith) (omega (arith, room));
      given = λ a b. laid_back (f + 2) 2 (a ∷ b ∷ []) cells (λ q le. able.ready.free q (omega (arith, le))) refl;
    }

-- the loop over blanks, from the store `start` on: `more` follows the blanks
abbrev Skips : (P : List Placed) → (further : ℕ → ℕ) → (V : ℕ → ℕ → ℕ → Run ℕ) → (start cells : List Cell) → (streams later : Content) → (f m i u : ℕ) → (more : List ℕ) → Type 0
Skips P further V start cells streams later f m i u more =
    (t : ℕ) → rounds (suc (u + t)) (skip_round (context further (calls P (suc (suc m))) V) f) tt (state (laid (f + 2) (Set 0 ∷ Set 0 ∷ []) start) streams (u + t))
    ≡ Done Past (state (laid (f + 2) (Set 0 ∷ Set 0 ∷ []) (with_character further i (first_of more) cells)) later t)

unsigned_does : (P : List Placed) (address further : ℕ → ℕ) → (e : HasFurther P further) → HasReading P further → (ds rest : List ℕ) (start cells : List Cell) (streams later : Content) (f m t i u N T : ℕ)
    → Able address further start f 14 → Reader address further cells f i → AreDigits ds → EndsNumber rest → IsSplit Unsigned ds rest
    → Skips P further (e.inside_readn (calls P (suc (suc m)))) start cells streams later f m i u (ds ++ rest) → remaining later ≡ rest_of (ds ++ rest) → N ≡ suc (suc (suc m)) → T ≡ 1 + u + 4 * length ds + t
    → calls P N (further 23) [] f (state start streams T) ≡ Done (number_from 0 ds % 65536) (state (with_character further i (first_of rest) cells) (after_reads (length ds) later) t)
unsigned_does P address further e r ds rest start cells streams later f m t i u N T able s digits ends split skip left eN eT =
    let room = able.ready.room in
    let fits : nat_le (f + 10) 65536 ≡ true = fits_true _ _ (omega (arith, room)) in
    let turns : T ≡ suc (u + (4 * length ds + t)) = omega (arith, eT) in
    let first = cells_of address further f start able in
    let begin = begins ds rest digits split in
    let term = terminator_is address further cells (Set 0 ∷ Set 0 ∷ []) f i (first_of (ds ++ rest)) s in
    let loops = digit_loop P address further e r (e.inside_readn (calls P (suc (suc m)))) cells 0 f m t i (3 * length ds + t) s ds rest later 0 (number_from 0 ds % 65536)
    (4 * length ds + t) (4 * length ds + t) digits (omega arith) refl (stops rest ends) left (omega arith) refl in
    let last = cells_of address further f (with_character further i (first_of rest) cells) (reader_after P address further r cells f i (first_of rest) s).able in
    rw (
      eN,
      turns,
      e.readn,
      fits,
      first.sum_is Unset Unset,
      first.sum_set Unset Unset (Set 0),
      first.neg_is (Set 0) Unset,
      first.neg_set (Set 0) Unset (Set 0),
      skip (4 * length ds + t),
      term,
      begin.minus,
      term,
      begin.plus,
      loops,
      last.neg_is (Set (number_from 0 ds % 65536)) (Set 0),
      last.sum_is (Set (number_from 0 ds % 65536)) (Set 0),
      last.given (Set (number_from 0 ds % 65536)) (Set 0),
    ) refl

-- there is a sign
abbrev HasSign : Sign → Type 0
HasSign Unsigned = ⊥
HasSign _ = Unit {0}

signed_does : (P : List Placed) (address further : ℕ → ℕ) → (e : HasFurther P further) → HasReading P further → (ds rest : List ℕ) (sign : Sign) (start cells : List Cell) (streams later : Content) (f m t i u N T : ℕ)
    → Able address further start f 14 → Reader address further cells f i → AreDigits ds → EndsNumber rest → HasSign sign
    → Skips P further (e.inside_readn (calls P (suc (suc m)))) start cells streams later f m i u (bytes_of_sign sign ++ (ds ++ rest)) → remaining later ≡ ds ++ rest → N ≡ suc (suc (suc m)) → T ≡ 4 + u + 4 * length ds + t
    → calls P N (further 23) [] f (state start streams T) ≡ Done (with_sign sign (number_from 0 ds % 65536)) (state (with_character further i (first_of rest) cells) (after_reads (suc (length ds)) later) t)
signed_does P address further e r ds rest Unsigned start cells streams later f m t i u N T able s digits ends is skip left eN eT = absurd is
signed_does P address further e r ds rest Plus start cells streams later f m t i u N T able s digits ends is skip left eN eT =
    let room = able.ready.room in
    let fits : nat_le (f + 10) 65536 ≡ true = fits_true _ _ (omega (arith, room)) in
    let turns : T ≡ suc (u + suc (suc (suc (4 * length ds + t)))) = omega (arith, eT) in
    let first = cells_of address further f start able in
    let s1 = reader_after P address further r cells f i 43 s in
    let term = terminator_is address further cells (Set 0 ∷ Set 0 ∷ []) f i 43 s in
    let middle = cells_of address further f (with_character further i 43 cells) s1.able in
    let takes = takes_of P address further e r (with_character further i 43 cells) (Set 0 ∷ Set 0 ∷ []) later f m (4 * length ds + t) i (first_of (ds ++ rest)) s1 refl (next_is later ∙ ap first_of left) in
    let again : with_character further i (first_of (ds ++ rest)) (with_character further i 43 cells) ≡ with_character further i (first_of (ds ++ rest)) cells = twice cells (last_at further i) 43 (first_of (ds ++ rest)) s.high in
    let loops = digit_loop P address further e r (e.inside_readn (calls P (suc (suc m)))) cells 0 f m t i (3 * length ds + t) s ds rest (after_read later) 0 (number_from 0 ds % 65536)
    (4 * length ds + t) (4 * length ds + t) digits (omega arith) refl (stops rest ends) (after_next later ∙ ap rest_of left) (omega arith) refl in
    let last = cells_of address further f (with_character further i (first_of rest) cells) (reader_after P address further r cells f i (first_of rest) s).able in
    rw (
      eN,
      turns,
      e.readn,
      fits,
      first.sum_is Unset Unset,
      first.sum_set Unset Unset (Set 0),
      first.neg_is (Set 0) Unset,
      first.neg_set (Set 0) Unset (Set 0),
      skip (suc (suc (suc (4 * length ds + t)))),
      term,
      term,
      term,
      middle.neg_is (Set 0) (Set 0),
      middle.neg_set (Set 0) (Set 0) (Set 0),
      takes.routine,
      takes.got,
      takes.puts,
      takes.stored,
      again,
      loops,
      last.neg_is (Set (number_from 0 ds % 65536)) (Set 0),
      last.sum_is (Set (number_from 0 ds % 65536)) (Set 0),
      last.given (Set (number_from 0 ds % 65536)) (Set 0),
    ) refl
signed_does P address further e r ds rest Minus start cells streams later f m t i u N T able s digits ends is skip left eN eT =
    let room = able.ready.room in
    let fits : nat_le (f + 10) 65536 ≡ true = fits_true _ _ (omega (arith, room)) in
    let turns : T ≡ suc (u + suc (suc (suc (4 * length ds + t)))) = omega (arith, eT) in
    let first = cells_of address further f start able in
    let s1 = reader_after P address further r cells f i 45 s in
    let term = terminator_is address further cells (Set 0 ∷ Set 0 ∷ []) f i 45 s in
    let middle = cells_of address further f (with_character further i 45 cells) s1.able in
    let takes = takes_of P address further e r (with_character further i 45 cells) (Set 0 ∷ Set 65535 ∷ []) later f m (4 * length ds + t) i (first_of (ds ++ rest)) s1 refl (next_is later ∙ ap first_of left) in
    let again : with_character further i (first_of (ds ++ rest)) (with_character further i 45 cells) ≡ with_character further i (first_of (ds ++ rest)) cells = twice cells (last_at further i) 45 (first_of (ds ++ rest)) s.high in
    let loops = digit_loop P address further e r (e.inside_readn (calls P (suc (suc m)))) cells 65535 f m t i (3 * length ds + t) s ds rest (after_read later) 0 (number_from 0 ds % 65536)
    (4 * length ds + t) (4 * length ds + t) digits (omega arith) refl (stops rest ends) (after_next later ∙ ap rest_of left) (omega arith) refl in
    let last = cells_of address further f (with_character further i (first_of rest) cells) (reader_after P address further r cells f i (first_of rest) s).able in
    rw (
      eN,
      turns,
      e.readn,
      fits,
      first.sum_is Unset Unset,
      first.sum_set Unset Unset (Set 0),
      first.neg_is (Set 0) Unset,
      first.neg_set (Set 0) Unset (Set 0),
      skip (suc (suc (suc (4 * length ds + t)))),
      term,
      term,
      middle.neg_is (Set 0) (Set 0),
      middle.neg_set (Set 0) (Set 0) (Set 65535),
      takes.routine,
      takes.got,
      takes.puts,
      takes.stored,
      again,
      loops,
      last.neg_is (Set (number_from 0 ds % 65536)) (Set 65535),
      last.sum_is (Set (number_from 0 ds % 65536)) (Set 65535),
      last.given (Set (number_from 0 ds % 65536)) (Set 65535),
    ) refl

-- with any sign
number_does : (P : List Placed) (address further : ℕ → ℕ) → (e : HasFurther P further) → HasReading P further → (ds rest : List ℕ) (sign : Sign) (start cells : List Cell) (streams later : Content) (f m t i u N T : ℕ)
    → Able address further start f 14 → Reader address further cells f i → AreDigits ds → EndsNumber rest → IsSplit sign ds rest
    → Skips P further (e.inside_readn (calls P (suc (suc m)))) start cells streams later f m i u (bytes_of_sign sign ++ (ds ++ rest)) → remaining later ≡ rest_of (bytes_of_sign sign ++ (ds ++ rest))
    → N ≡ suc (suc (suc m)) → T ≡ 1 + u + 3 * length (bytes_of_sign sign) + 4 * length ds + t
    → calls P N (further 23) [] f (state start streams T)
    ≡ Done (with_sign sign (number_from 0 ds % 65536)) (state (with_character further i (first_of rest) cells) (after_reads (length (bytes_of_sign sign) + length ds) later) t)
number_does P address further e r ds rest Unsigned start cells streams later f m t i u N T able s digits ends split skip left eN eT =
    let none : 0 + length ds ≡ length ds = omega arith in
    rw none (unsigned_does P address further e r ds rest start cells streams later f m t i u N T able s digits ends split skip left eN (omega (arith, eT)))
number_does P address further e r ds rest Plus start cells streams later f m t i u N T able s digits ends split skip left eN eT =
    let one : 1 + length ds ≡ suc (length ds) = omega arith in
    rw one (signed_does P address further e r ds rest Plus start cells streams later f m t i u N T able s digits ends tt skip left eN (omega (arith, eT)))
number_does P address further e r ds rest Minus start cells streams later f m t i u N T able s digits ends split skip left eN eT =
    let one : 1 + length ds ≡ suc (length ds) = omega arith in
    rw one (signed_does P address further e r ds rest Minus start cells streams later f m t i u N T able s digits ends tt skip left eN (omega (arith, eT)))

no_blank : (sign : Sign) (ds rest : List ℕ) → AreDigits ds → IsSplit sign ds rest → is_blank (first_of (bytes_of_sign sign ++ (ds ++ rest))) ≡ false
no_blank Unsigned ds rest digits split = (begins ds rest digits split).blank
no_blank Plus ds rest digits split = refl
no_blank Minus ds rest digits split = refl

pub readn_law : ReadnReadsItsNumber
readn_law i text is cores address further places base m cells streams f n t able given =
    let P : List Placed = placed (library ∷ extension ∷ cores) (address ∷ further ∷ places) in
    let e = has_further cores address further places base m in
    let r = has_reading cores address further places base m in
    let s = reader_of _ address further r cells f i able given.0 in
    let more : List ℕ = bytes_of_sign text.sign ++ (text.digits ++ text.rest) in
    let d : ℕ = 1 + 4 * length text.blanks + 3 * length (bytes_of_sign text.sign) + 4 * length text.digits + n in
    let skip : Skips P further (e.inside_readn (calls P (suc (suc d)))) cells cells streams (after_reads (suc (length text.blanks)) streams) f d i (3 + 4 * length text.blanks) more = λ u.
    skip_loop P address further e r (e.inside_readn (calls P (suc (suc d)))) (Set 0 ∷ Set 0 ∷ []) f d u i (3 + 3 * length text.blanks + u) refl text.blanks more cells streams
    (3 + 4 * length text.blanks + u) (3 + 4 * length text.blanks + u) is.blank (no_blank text.sign text.digits text.rest is.decimal is.split) given.1 s (omega arith) refl in
    number_does P address further e r text.digits text.rest text.sign cells cells streams (after_reads (suc (length text.blanks)) streams) f d t i (3 + 4 * length text.blanks) (turns_of_text text + n) (turns_of_text text + t)
    able s is.decimal is.ends is.split skip (after_blanks text.blanks more streams given.1) (omega arith) (omega arith)
    ∙ ap (λ z. Done (with_sign text.sign (number_from 0 text.digits % 65536)) (state (with_character further i (first_of text.rest) cells) z t))
    (reads_add (length text.blanks) (length (bytes_of_sign text.sign) + length text.digits) (after_read streams))

-- the store in which no character is taken back any more
abbrev none_back : (further : ℕ → ℕ) → ℕ → List Cell → List Cell
none_back further i cells = slice_set cells (last_at further i + 1) (Set 0)

reader_taken : (P : List Placed) (address further : ℕ → ℕ) → HasReading P further → (cells : List Cell) (f i again : ℕ) → Able address further cells f 14 → CanRead further cells i again → Reader address further (none_back further i cells) f i
reader_taken P address further r cells f i again able can =
    let base = r.high in
    let high : 520 ≤ last_at further i = omega (arith, base) in
    let lt : last_at further i + 1 < f = low f (last_at further i + 1) again cells able.ready.free can.selected.flag in
    let other : (b : ℕ) → b ≢ last_at further i + 1 → cell_at (none_back further i cells) b ≡ cell_at cells b = λ b away. get_or-set_other cells (last_at further i + 1) b (Set 0) Dead away in
    let below : (b : ℕ) → b < 520 → cell_at (none_back further i cells) b ≡ cell_at cells b = λ b small. other b (λ same. omega (arith, same, small, high)) in
    reader_of P address further r (none_back further i cells) f i (able_written address further f 14 (last_at further i + 1) 0 cells able (omega (arith, high)) lt) (record {
      selected = record {
        low = can.selected.low;
        high = can.selected.high;
        number = other (further 1) (λ same. ⊎_elim (λ under. omega (arith, same, under)) (λ over. let h = can.selected.high in omega (arith, same, over, h)) r.apart) ∙ can.selected.number;
        last = ap is_live (other (last_at further i) (λ same. omega (arith, same))) ∙ can.selected.last;
        flag = get_or-set_same cells (last_at further i + 1) (Set 0) Dead (omega (arith, lt, able.ready.whole, able.ready.room));
      };
      primitive = below 21 (omega arith) ∙ can.primitive;
      routine = below 48 (omega arith) ∙ can.routine;
      terminator = ap is_live (below 46 (omega arith)) ∙ can.terminator;
    })

-- the steps of `TERMINATOR := RDCH()` after UNRDCH
record TakesBack (P : List Placed) (further : ℕ → ℕ) (cells ks : List Cell) (streams : Content) (f m t i c : ℕ) : Type 0 where
  routine : cell_at (laid (f + 2) ks cells) 48 ≡ Set (further 8)
  got : calls P (suc (suc m)) (further 8) [] (f + 4) (state (laid (f + 2) ks cells) streams (suc (suc t))) ≡ Done c (state (slice_set (laid (f + 2) ks cells) (last_at further i + 1) (Set 0)) streams t)
  puts : written (cell_at (slice_set (laid (f + 2) ks cells) (last_at further i + 1) (Set 0)) 46) 46 c (state (slice_set (laid (f + 2) ks cells) (last_at further i + 1) (Set 0)) streams t)
      ≡ Done tt (state (slice_set (slice_set (laid (f + 2) ks cells) (last_at further i + 1) (Set 0)) 46 (Set c)) streams t)
  stored : slice_set (slice_set (laid (f + 2) ks cells) (last_at further i + 1) (Set 0)) 46 (Set c) ≡ laid (f + 2) ks (with_character further i c (none_back further i cells))

takes_back_of : (P : List Placed) (address further : ℕ → ℕ) → HasFurther P further → HasReading P further → (cells ks : List Cell) (streams : Content) (f m t i c again : ℕ) → Able address further cells f 14 → CanRead further cells i again
    → again ≢ 0 → cell_at cells (last_at further i) ≡ Set c → length ks ≡ 2 → TakesBack P further cells ks streams f m t i c
takes_back_of P address further e r cells ks streams f m t i c again able can back is size =
    let base = r.high in
    let high : 520 ≤ last_at further i = omega (arith, base) in
    let lt : last_at further i + 1 < f = low f (last_at further i + 1) again cells able.ready.free can.selected.flag in
    let term_low : 46 < f = live_below f 46 cells able.ready.free can.terminator in
    let up = able_after address further f (f + 4) 14 10 ks cells able (omega (arith, size)) (omega arith) in
    let below : (a : ℕ) → a < f → cell_at (laid (f + 2) ks cells) a ≡ cell_at cells a = λ a less. laid_below (f + 2) a ks cells (omega (arith, less)) in
    let stays : (a w : ℕ) → cell_at cells a ≡ Set w → cell_at (laid (f + 2) ks cells) a ≡ Set w = λ a w set. below a (low f a w cells able.ready.free set) ∙ set in
    let selected : IsSelected further (laid (f + 2) ks cells) i again = record {
      low = can.selected.low;
      high = can.selected.high;
      number = stays (further 1) i can.selected.number;
      last = ap is_live (stays (last_at further i) c is);
      flag = stays (last_at further i + 1) again can.selected.flag;
    } in
    let live : is_live (cell_at (slice_set (laid (f + 2) ks cells) (last_at further i + 1) (Set 0)) 46) ≡ true =
    ap is_live (get_or-set_other (laid (f + 2) ks cells) (last_at further i + 1) 46 (Set 0) Dead (λ same. omega (arith, same, high)) ∙ below 46 term_low) ∙ can.terminator in
    let same : slice_set (none_back further i cells) (last_at further i) (Set c) ≡ none_back further i cells =
    ap (λ z. slice_set (none_back further i cells) (last_at further i) z) (sym (get_or-set_other cells (last_at further i + 1) (last_at further i) (Set 0) Dead (λ same. omega (arith, same)) ∙ is))
    ∙ set-get_or (none_back further i cells) (last_at further i) Dead in
    record {
      routine = stays 48 (further 8) can.routine;
      got = once_more_does P address further e r (laid (f + 2) ks cells) streams (f + 4) m t i c again up selected back (stays (last_at further i) c is);
      puts = writes_live (cell_at (slice_set (laid (f + 2) ks cells) (last_at further i + 1) (Set 0)) 46) 46 c (state (slice_set (laid (f + 2) ks cells) (last_at further i + 1) (Set 0)) streams t) live;
      stored = ap (λ z. slice_set z 46 (Set c)) (set_before (last_at further i + 1) (f + 2) ks cells (Set 0) (omega (arith, lt)))
          ∙ set_before 46 (f + 2) ks (none_back further i cells) (Set c) (omega (arith, term_low))
          ∙ ap (λ z. laid (f + 2) ks (slice_set z 46 (Set c))) (sym same);
    }

back_loop : (P : List Placed) (address further : ℕ → ℕ) → HasFurther P further → HasReading P further → (V : ℕ → ℕ → ℕ → Run ℕ) → (ks : List Cell) (f m t i again : ℕ) → length ks ≡ 2
    → (bs rest : List ℕ) (cells : List Cell) (streams : Content) (T : ℕ) → AreBlanks bs → is_blank (first_of rest) ≡ false → Able address further cells f 14 → CanRead further cells i again → again ≢ 0
    → cell_at cells (last_at further i) ≡ Set (first_of (bs ++ rest)) → remaining streams ≡ rest_of (bs ++ rest) → T ≡ 2 + 4 * length bs + t
    → rounds (suc T) (skip_round (context further (calls P (suc (suc m))) V) f) tt (state (laid (f + 2) ks cells) streams T)
    ≡ Done Past (state (laid (f + 2) ks (with_character further i (first_of rest) (none_back further i cells))) (after_reads (length bs) streams) t)
back_loop P address further e r V ks f m t i again size [] rest cells streams T blank ends able can back is text eT =
    let s = reader_taken P address further r cells f i again able can in
    let takes = takes_back_of P address further e r cells ks streams f m t i (first_of rest) again able can back is size in
    let turns : T ≡ suc (suc t) = omega (arith, eT) in
    let test = blank_truth (context further (calls P (suc (suc m))) V) (laid (f + 2) ks (with_character further i (first_of rest) (none_back further i cells))) streams f t (first_of rest)
    (terminator_is address further (none_back further i cells) ks f i (first_of rest) s) in
    rw (turns, takes.routine, takes.got, takes.puts, takes.stored, test, ends) refl
back_loop P address further e r V ks f m t i again size (b ∷ bs) rest cells streams T blank ends able can back is text eT =
    let s = reader_taken P address further r cells f i again able can in
    let takes = takes_back_of P address further e r cells ks streams f m (suc (3 + 4 * length bs + t)) i b again able can back is size in
    let turns : T ≡ suc (suc (suc (3 + 4 * length bs + t))) = omega (arith, eT) in
    let test = blank_truth (context further (calls P (suc (suc m))) V) (laid (f + 2) ks (with_character further i b (none_back further i cells))) streams f (suc (3 + 4 * length bs + t)) b
    (terminator_is address further (none_back further i cells) ks f i b s) in
    rw (turns, takes.routine, takes.got, takes.puts, takes.stored, test, blank.0)
    (skip_loop P address further e r V ks f m t i (5 + 3 * length bs + t) size bs rest (with_character further i b (none_back further i cells)) streams (suc (suc (3 + 4 * length bs + t))) (3 + 4 * length bs + t) blank.1 ends text
    (reader_after P address further r (none_back further i cells) f i b s) (omega arith) refl
    ∙ ap (λ z. Done Past (state (laid (f + 2) ks z) (after_reads (suc (length bs)) streams) t)) (twice (none_back further i cells) (last_at further i) b (first_of rest) s.high))

-- the input after the blanks
after_back : (bs rest : List ℕ) (streams : Content) → remaining streams ≡ rest_of (bs ++ rest) → remaining (after_reads (length bs) streams) ≡ rest_of rest
after_back [] rest streams text = text
after_back (b ∷ bs) rest streams text = after_blanks bs rest streams text

pub taken_back_law : ReadnBeginsWithACharacterTakenBack
taken_back_law i again text back is cores address further places base m cells streams f n t able given =
    let P : List Placed = placed (library ∷ extension ∷ cores) (address ∷ further ∷ places) in
    let e = has_further cores address further places base m in
    let r = has_reading cores address further places base m in
    let s = reader_taken P address further r cells f i again able given.0 in
    let more : List ℕ = bytes_of_sign text.sign ++ (text.digits ++ text.rest) in
    let d : ℕ = 4 * length text.blanks + 3 * length (bytes_of_sign text.sign) + 4 * length text.digits + n in
    let skip : Skips P further (e.inside_readn (calls P (suc (suc d)))) cells (none_back further i cells) streams (after_reads (length text.blanks) streams) f d i (2 + 4 * length text.blanks) more = λ u.
    back_loop P address further e r (e.inside_readn (calls P (suc (suc d)))) (Set 0 ∷ Set 0 ∷ []) f d u i again refl text.blanks more cells streams
    (2 + 4 * length text.blanks + u) is.blank (no_blank text.sign text.digits text.rest is.decimal is.split) able given.0 back given.1 given.2 refl in
    number_does P address further e r text.digits text.rest text.sign cells (none_back further i cells) streams (after_reads (length text.blanks) streams) f d t i (2 + 4 * length text.blanks) (turns_of_text text - 1 + n) (turns_of_text text - 1 + t)
    able s is.decimal is.ends is.split skip (after_back text.blanks more streams given.2) (omega arith) (omega arith)
    ∙ ap (λ z. Done (with_sign text.sign (number_from 0 text.digits % 65536)) (state (with_character further i (first_of text.rest) (none_back further i cells)) z t))
    (reads_add (length text.blanks) (length (bytes_of_sign text.sign) + length text.digits) streams)
