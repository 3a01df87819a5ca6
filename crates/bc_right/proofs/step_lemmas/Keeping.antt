-- The machine keeps words in its registers and its store, by cases on its functions, operations and operators.
use Rattle.std.proofs.Common.{◌≡◌, ◌⊎◌, inl, inr, ⊎_elim, ℕ, zero, suc, ◌+◌, ◌-◌, ◌*◌, ◌/◌, ◌%◌, ◌<◌, ◌≤◌, ◌==◌, List, [], ◌∷◌, Bool, true, false, Option, Some, None, length, refl, sym, ap, ◌∙◌, subst, arith}
use Rattle.std.specs.Prelude.{slice_index, slice_set, cond, nat_le, ◌^◌, ℤ, pos, negsuc}
use Rattle.std.specs.List.{position_from}
use Rattle.std.specs.Str.{bytes_eq}
use Rattle.std.specs.Int.Bits.{and_lt}
use Rattle.std.proofs.lemmas.Nat.{or_lt, xor_lt}
use Rattle.std.proofs.lemmas.Bool.{cases_lt}
use Rattle.std.proofs.lemmas.Bool.Decides.{nat_tests}
use Rattle.std.proofs.lemmas.List.{get_or-set_same, get_or-set_other, length-set}
use Rattle.std.proofs.Math.ListN.{get_or-eq_default}
use Rattle.bc_word.specs.declared.operator.Op.{Op}
use Rattle.bc_word.specs.declared.operator.Op.TheVariants as operators
use Rattle.bc_word.specs.Words.{value_of, wrapped, truth, negated, complemented}
use Rattle.bc_machine_defs.specs.declared.state.Registers.{Registers}
use Rattle.bc_machine_defs.specs.declared.state.End.{End}
use Rattle.bc_machine_defs.specs.declared.operation.Operation.{Operation}
use Rattle.bc_machine_defs.specs.declared.operation.Operation.TheVariants.{Indirect, Negate, Complement, Return, Operate, Finish, Switch, Select, Read, Write, Find, EndStream, Bad}
use Rattle.bc_machine_defs.specs.declared.streams.Side.{Side}
use Rattle.bc_machine_defs.specs.declared.streams.Side.TheVariants as sides
use Rattle.bc_machine_defs.specs.Streams.{Content, Input, Output, numbered, AreBytes, HoldBytes}
use Rattle.bc_machine_defs.specs.StreamCalls.{names_of, find_stream, number_or_none, select_stream, read_byte, after_read, after_write, end_stream, next_byte, byte_of_input}
use Rattle.bc_machine_defs.specs.State.{State, state}
use Rattle.bc_machine_defs.specs.Effect.{Effect}
use Rattle.bc_machine_defs.specs.Instruction as steps
use Rattle.bc_machine_defs.specs.Execute.{byte_or_end, execute, with_value}
use Rattle.bc_machine_defs.specs.Text.{string_at}
use Rattle.bc_machine_defs.specs.Operation.{operation_of}
use Rattle.bc_machine_defs.specs.Instruction.{code_of, has_bit, function_of}
use Rattle.bc_machine_defs.specs.Step.{step, perform}
use Rattle.bc_machine_defs.specs.Run.{runs, ended}
use Rattle.bc_machine_defs.specs.Operand.{next, based, address_of, operand_of, after_operand}
use Rattle.bc_machine_defs.specs.Switch.{case_of, switch_of}
use Rattle.bc_machine_defs.proofs.Bytes.{numbered_at, read_keeps, write_keeps, end_keeps}
use Rattle.bc_right.specs.steps.Leads.{AreWords}
use Rattle.bc_right.specs.steps.Keeping.{WordsAreKept}

wrapped_small : (z : ℤ) → wrapped z < 65536
wrapped_small (pos a) = omega arith
wrapped_small (negsuc a) = omega arith

truth_small : (t : Bool) → truth t < 65536
truth_small true = omega arith
truth_small false = omega arith

some_is : (v w : ℕ) → Some v ≡ Some w → v ≡ w
some_is v w e = cc

small : (v w : ℕ) → v < 65536 → Some v ≡ Some w → w < 65536
small v w lt e = let same : v ≡ w = cc in omega arith

divided : (t : Bool) (v w : ℕ) → v < 65536 → cond t None (Some v) ≡ Some w → w < 65536
divided true v w lt e = absurd (let f : None ≡ Some w = e in cc)
divided false v w lt e = small v w lt e

shifted : (t : Bool) (v : ℕ) → v < 65536 → cond t 0 v < 65536
shifted true v lt = omega arith
shifted false v lt = lt

quotient_small : (b n : ℕ) → b < 65536 → b / n < 65536
quotient_small b zero lt = omega arith
quotient_small b (suc n) lt = omega arith

-- an operator's value is a word
pub value_small : (op : Op) (b a w : ℕ) → b < 65536 → a < 65536 → value_of op b a ≡ Some w → w < 65536
value_small operators.Multiply b a w hb ha e = small _ w (wrapped_small _) e
value_small operators.Divide b a w hb ha e = divided (a == 0) _ w (wrapped_small _) e
value_small operators.Remainder b a w hb ha e = divided (a == 0) _ w (wrapped_small _) e
value_small operators.Add b a w hb ha e = small ((b + a) % 65536) w (omega arith) e
value_small operators.Subtract b a w hb ha e = small ((b + (65536 - a)) % 65536) w (omega arith) e
value_small operators.Equal b a w hb ha e = small _ w (truth_small _) e
value_small operators.NotEqual b a w hb ha e = small _ w (truth_small _) e
value_small operators.Less b a w hb ha e = small _ w (truth_small _) e
value_small operators.GreaterEqual b a w hb ha e = small _ w (truth_small _) e
value_small operators.Greater b a w hb ha e = small _ w (truth_small _) e
value_small operators.LessEqual b a w hb ha e = small _ w (truth_small _) e
value_small operators.ShiftLeft b a w hb ha e = small _ w (shifted (nat_le 16 a) ((b * 2 ^ a) % 65536) (omega arith)) e
value_small operators.ShiftRight b a w hb ha e = small _ w (shifted (nat_le 16 a) (b / 2 ^ a) (quotient_small b (2 ^ a) hb)) e
value_small operators.And b a w hb ha e = small _ w (and_lt 16 b a hb ha) e
value_small operators.Or b a w hb ha e = small _ w (or_lt 16 b a hb ha) e
value_small operators.NotEquivalent b a w hb ha e = small _ w (xor_lt 16 b a hb ha) e
value_small operators.Equivalent b a w hb ha e = small _ w (omega arith) e

abbrev Small : List ℕ → Type 0
Small store = (i : ℕ) → slice_index store i < 65536

cond_small : (t : Bool) (v w : ℕ) → v < 65536 → w < 65536 → cond t v w < 65536
cond_small true v w hv hw = hv
cond_small false v w hv hw = hw

set_small : (store : List ℕ) (a v : ℕ) → v < 65536 → Small store → Small (slice_set store a v)
set_small store a v hv hs i = ⊎_elim (λ lt. other (inl lt)) (λ ge. ⊎_elim (λ lt. other (inr lt)) (λ le. here (omega arith)) (cases_lt a i)) (cases_lt i a) where
  other : (i < a) ⊎ (a < i) → slice_index (slice_set store a v) i < 65536
  other away = subst (λ z. z < 65536) (sym (get_or-set_other store a i v 0 (λ e. ⊎_elim (λ lt. omega arith) (λ lt. omega arith) away))) (hs i)

  here : i ≡ a → slice_index (slice_set store a v) i < 65536
  here at = ⊎_elim
      (λ lt. let e : slice_index (slice_set store a v) i ≡ v = ap (λ z. slice_index (slice_set store a v) z) at ∙ get_or-set_same store a v 0 lt in subst (λ z. z < 65536) (sym e) hv)
      (λ ge. let e : slice_index (slice_set store a v) i ≡ 0 = get_or-eq_default (slice_set store a v) 0 (subst (λ z. z ≤ i) (sym (length-set store a v)) (omega arith)) in omega arith)
      (cases_lt a (length store))

record SmallRegisters (r : Registers) : Type 0 where
  a : r.a < 65536
  b : r.b < 65536
  c : r.c < 65536
  p : r.p < 65536

made : (r : Registers) (store : List ℕ) (streams : Content) → SmallRegisters r → Small store → HoldBytes streams.inputs → AreWords (state r store streams)
made r store streams h m i = record { a = h.a; b = h.b; c = h.c; p = h.p; store = m; inputs = i }

by_test_small : (t : Bool) (v w : ℕ) → v < 65536 → w < 65536 → (elim t [ true ↦ v | false ↦ w ]) < 65536
by_test_small true v w hv hw = hv
by_test_small false v w hv hw = hw

case_small : (n at a default : ℕ) (store : List ℕ) → default < 65536 → Small store → case_of n at a default store < 65536
unfolding case_of
case_small zero at a default store hd hs = hd
case_small (suc n) at a default store hd hs =
    by_test_small (slice_index store at == a) (slice_index store (next at)) (case_of n (next (next at)) a default store) (hs (next at)) (case_small n (next (next at)) a default store hd hs)

number_small : (n : Option ℕ) → number_or_none n < 65536
number_small None = omega arith
number_small (Some n) = by_test (nat_le n 65535) refl where
  by_test : (t : Bool) → nat_le n 65535 ≡ t → cond t n 0 < 65536
  by_test true e = grind (arith, nat_tests)
  by_test false e = omega arith

-- the streams
next_small : (ended : Bool) (rest : List ℕ) → AreBytes rest → byte_or_end (next_byte ended rest) < 65536
next_small true rest h = omega arith
next_small false [] h = omega arith
next_small false (byte ∷ rest) h = let first : 0 < suc (length rest) = omega arith in let small : byte < 256 = h 0 byte first in omega arith

read_small : (c : Content) → HoldBytes c.inputs → byte_or_end (read_byte c) < 65536
read_small c h = by_input (numbered c.inputs c.input) refl where
  by_input : (i : Option Input) → numbered c.inputs c.input ≡ i → byte_or_end (byte_of_input i) < 65536
  by_input None e = omega arith
  by_input (Some i) e = next_small i.ended i.rest (numbered_at c.inputs c.input i h e)

select_keeps : (side : Side) (n : ℕ) (c : Content) → HoldBytes c.inputs → HoldBytes (select_stream side n c).inputs
select_keeps sides.Input n c h = h
select_keeps sides.Output n c h = h

find_small : (side : Side) (name : List ℕ) (c : Content) → find_stream side name c < 65536
find_small side name c = number_small (position_from (λ known. bytes_eq known name) 1 (names_of side c))

with_value_keeps : (v : Option ℕ) (r : Registers) (s : State) → ((w : ℕ) → v ≡ Some w → w < 65536) → SmallRegisters r → AreWords s → AreWords (with_value v r s).0
with_value_keeps None r s hv hr hs = hs
with_value_keeps (Some w) r s hv hr hs = made (record r { a = w }) s.store s.streams (record { a = hv w refl; b = hr.b; c = hr.c; p = hr.p }) hs.store hs.inputs

execute_keeps : (o : Operation) (r : Registers) (s : State) → SmallRegisters r → AreWords s → AreWords (execute o r s).0
execute_keeps Indirect r s hr hs = made (record r { a = slice_index s.store r.a }) s.store s.streams (record { a = hs.store r.a; b = hr.b; c = hr.c; p = hr.p }) hs.store hs.inputs
execute_keeps Negate r s hr hs = made (record r { a = negated r.a }) s.store s.streams (record { a = omega arith; b = hr.b; c = hr.c; p = hr.p }) hs.store hs.inputs
execute_keeps Complement r s hr hs = made (record r { a = complemented r.a }) s.store s.streams (record { a = omega arith; b = hr.b; c = hr.c; p = hr.p }) hs.store hs.inputs
execute_keeps Return r s hr hs =
    made (record r { c = slice_index s.store (next r.p); p = slice_index s.store r.p }) s.store s.streams (record { a = hr.a; b = hr.b; c = hs.store (next r.p); p = hs.store r.p }) hs.store hs.inputs
execute_keeps (Operate op) r s hr hs = with_value_keeps (value_of op r.b r.a) r s (λ w e. value_small op r.b r.a w hr.b hr.a e) hr hs
execute_keeps Finish r s hr hs = hs
execute_keeps Switch r s hr hs =
    made (record r { c = switch_of r.c r.a s.store }) s.store s.streams
    (record { a = hr.a; b = hr.b; c = case_small (slice_index s.store r.c) (next (next r.c)) r.a (slice_index s.store (next r.c)) s.store (hs.store (next r.c)) hs.store; p = hr.p }) hs.store hs.inputs
execute_keeps (Select side) r s hr hs = made r s.store (select_stream side r.a s.streams) hr hs.store (select_keeps side r.a s.streams hs.inputs)
execute_keeps Read r s hr hs =
    made (record r { a = byte_or_end (read_byte s.streams) }) s.store (after_read s.streams) (record { a = read_small s.streams hs.inputs; b = hr.b; c = hr.c; p = hr.p }) hs.store (read_keeps s.streams hs.inputs)
execute_keeps Write r s hr hs = made r s.store (after_write (r.a % 256) s.streams) hr hs.store (write_keeps (r.a % 256) s.streams hs.inputs)
execute_keeps (Find side) r s hr hs =
    made (record r { a = find_stream side (string_at r.a s.store) s.streams }) s.store s.streams (record { a = find_small side (string_at r.a s.store) s.streams; b = hr.b; c = hr.c; p = hr.p }) hs.store hs.inputs
execute_keeps (EndStream side) r s hr hs = made r s.store (end_stream side s.streams) hr hs.store (end_keeps side s.streams hs.inputs)
execute_keeps Bad r s hr hs = hs

cond_registers : (t : Bool) (r q : Registers) → SmallRegisters r → SmallRegisters q → SmallRegisters (cond t r q)
cond_registers true r q hr hq = hr
cond_registers false r q hr hq = hq

perform_keeps : (f : steps.Function) (d : ℕ) (r : Registers) (s : State) → d < 65536 → SmallRegisters r → AreWords s → AreWords (perform f d r s).0
perform_keeps steps.Load d r s hd hr hs = made (record r { a = d; b = r.a }) s.store s.streams (record { a = hd; b = hr.a; c = hr.c; p = hr.p }) hs.store hs.inputs
perform_keeps steps.Store d r s hd hr hs = made r (slice_set s.store d r.a) s.streams hr (set_small s.store d r.a hr.a hs.store) hs.inputs
perform_keeps steps.Plus d r s hd hr hs = made (record r { a = (r.a + d) % 65536 }) s.store s.streams (record { a = omega arith; b = hr.b; c = hr.c; p = hr.p }) hs.store hs.inputs
perform_keeps steps.Jump d r s hd hr hs = made (record r { c = d }) s.store s.streams (record { a = hr.a; b = hr.b; c = hd; p = hr.p }) hs.store hs.inputs
perform_keeps steps.JumpTrue d r s hd hr hs =
    made (cond (r.a == 0) r (record r { c = d })) s.store s.streams (cond_registers (r.a == 0) r (record r { c = d }) hr (record { a = hr.a; b = hr.b; c = hd; p = hr.p })) hs.store hs.inputs
perform_keeps steps.JumpFalse d r s hd hr hs =
    made (cond (r.a == 0) (record r { c = d }) r) s.store s.streams (cond_registers (r.a == 0) (record r { c = d }) r (record { a = hr.a; b = hr.b; c = hd; p = hr.p }) hr) hs.store hs.inputs
perform_keeps steps.Call d r s hd hr hs =
    let frame = (r.p + d) % 65536 in
    made (record { a = r.a; b = r.b; c = r.a; p = frame }) (slice_set (slice_set s.store frame r.p) (next frame) r.c) s.streams (record { a = hr.a; b = hr.b; c = hr.a; p = omega arith })
    (set_small (slice_set s.store frame r.p) (next frame) r.c hr.c (set_small s.store frame r.p hr.p hs.store)) hs.inputs
perform_keeps steps.Execute d r s hd hr hs = execute_keeps (operation_of d) r s hr hs

based_small : (p g : Bool) (r : Registers) (address : ℕ) → address < 65536 → based p g r address < 65536
based_small p g r address h =
    let framed = cond_small p ((address + r.p) % 65536) address (omega arith) h in
    cond_small g ((cond p ((address + r.p) % 65536) address + 8) % 65536) (cond p ((address + r.p) % 65536) address) (omega arith) framed

step_keeps : (s : State) → AreWords s → AreWords (step s).0
unfolding step
step_keeps s h =
    let word = slice_index s.store s.registers.c in
    let code = code_of word in
    let at = based (has_bit code 4) (has_bit code 2) s.registers (address_of (has_bit code 1) word s.registers s.store) in
    let at_small = based_small (has_bit code 4) (has_bit code 2) s.registers (address_of (has_bit code 1) word s.registers s.store)
    (cond_small (has_bit code 1) (slice_index s.store (next s.registers.c)) (word % 512) (h.store (next s.registers.c)) (omega arith)) in
    perform_keeps (function_of code) (operand_of code word s.registers s.store) (record s.registers { c = after_operand code s.registers.c }) s
    (cond_small (has_bit code 8) (slice_index s.store at) at (h.store at) at_small)
    (record { a = h.a; b = h.b; c = cond_small (has_bit code 1) (next (next s.registers.c)) (next s.registers.c) (omega arith) (omega arith); p = h.p }) h

pub words_are_kept : WordsAreKept
unfolding runs
words_are_kept zero x h = h
words_are_kept (suc n) x h = by_end (step x) (step_keeps x h) (λ y k. words_are_kept n y k) where
  by_end : (e : Effect) → AreWords e.0 → ((y : State) → AreWords y → AreWords (runs n y).0) → AreWords (elim e.1 as (λ z. State × End) [ None ↦ runs n e.0 | Some end ↦ ended e.0 end ]).0
  by_end (y, None) h1 k = k y h1
  by_end (y, Some end) h1 k = h1
