-- What each instruction writes, function by function.
use Rattle.std.proofs.Common.{◌≡◌, ◌<◌, ℕ, ◌-◌, ◌/◌, ◌%◌, ◌==◌, zero, suc, Bool, true, false, cond, List, Option, Some, None, refl, sym, ap, ◌∙◌, subst, arith}
use Rattle.std.specs.Prelude.{slice_index, slice_get}
use Rattle.std.proofs.lemmas.Bool.{eqb-true}
use Rattle.std.proofs.Math.Seq.{map-set_same}
use Rattle.std.proofs.lemmas.Option.{get_or_from_slice_get}
use Rattle.bc_machine_defs.specs.declared.state.Registers.{Registers}
use Rattle.bc_machine_defs.specs.declared.state.End.{End}
use Rattle.bc_machine_defs.specs.declared.streams.Side.{Side}
use Rattle.bc_machine_defs.specs.declared.streams.Side.TheVariants as sides
use Rattle.bc_machine_defs.specs.Streams.{Input, Output, Content, numbered}
use Rattle.bc_machine_defs.specs.StreamCalls.{select_stream, with_input_read, end_stream, with_input_ended, with_output_ended, output_of}
use Rattle.bc_word.specs.Words.{value_of}
use Rattle.bc_machine_defs.specs.State.{State}
use Rattle.bc_machine_defs.specs.Effect.{Effect, effect}
use Rattle.bc_machine_defs.specs.Operand.{operand_of}
use Rattle.bc_machine_defs.specs.Operation.{operation_of}
use Rattle.bc_machine_defs.specs.declared.operation.Operation.{Operation}
use Rattle.bc_machine_defs.specs.declared.operation.Operation.TheVariants.{Indirect, Negate, Complement, Return, Operate, Finish, Switch, Select, Read, Write, Find, EndStream, Bad}
use Rattle.bc_machine_defs.specs.Execute.{execute, with_value}
use Rattle.bc_machine_defs.specs.Instruction.{code_of, function_of, Function, Load, Store, Plus, Jump, JumpTrue, JumpFalse, Call, Execute}
use Rattle.bc_machine_defs.specs.Step.{perform, step}
use Rattle.bcpl_trace.specs.declared.change.Change.TheVariants.{Nothing, Byte}
use Rattle.bcpl_trace.specs.Changes.{written_by, writes, following, Wrote}
use Rattle.bcpl_trace.specs.Told.{told}

-- The store and the streams of an effect.
store_of : (e f : Effect) → e ≡ f → e.0.store ≡ f.0.store
store_of e f h = ap (λ (x : Effect). x.0.store) h

streams_of : (e f : Effect) → e ≡ f → e.0.streams ≡ f.0.streams
streams_of e f h = ap (λ (x : Effect). x.0.streams) h

-- ---- What the outputs were given stays, whatever else happens to the streams.

selected_keeps : (side : Side) (n : ℕ) (c : Content) → output_of (select_stream side n c) ≡ output_of c
selected_keeps sides.Input n c = refl
selected_keeps sides.Output n c = refl

read_keeps : (i : Option Input) (c : Content) → output_of (with_input_read i c) ≡ output_of c
read_keeps None c = refl
read_keeps (Some i) c = refl

input_ended_keeps : (i : Option Input) (c : Content) → output_of (with_input_ended i c) ≡ output_of c
input_ended_keeps None c = refl
input_ended_keeps (Some i) c = refl

-- the stream with this number, found at the place before it
found : (xs : List Output) (n : ℕ) (o : Output) → numbered xs n ≡ Some o → slice_get xs (n - 1) ≡ Some o
found xs zero o h = absurd cc
found xs (suc k) o h = let e : k ≡ suc k - 1 = omega arith in subst (λ (i : ℕ). slice_get xs i ≡ Some o) e h

output_ended_keeps : (o : Option Output) (c : Content) → numbered c.outputs c.output ≡ o → output_of (with_output_ended o c) ≡ output_of c
output_ended_keeps None c h = refl
output_ended_keeps (Some o) c h =
    map-set_same (λ (x : Output). x.written) c.outputs (c.output - 1) (record o { ended = true }) o
    (ap (λ (x : Output). x.written) (sym (get_or_from_slice_get c.outputs (c.output - 1) o o (found c.outputs c.output o h))))

ended_keeps : (side : Side) (c : Content) → output_of (end_stream side c) ≡ output_of c
ended_keeps sides.Input c = input_ended_keeps (numbered c.inputs c.input) c
ended_keeps sides.Output c = output_ended_keeps (numbered c.outputs c.output) c refl

-- ---- Operations

-- an effect that writes nothing
kept : (e : Effect) (s t : State) (end : Option End) → effect t end ≡ e → e.0.store ≡ s.store → output_of e.0.streams ≡ output_of s.streams
    → Wrote Nothing s t
kept e s t end h store output = (store_of _ _ h ∙ store, ap output_of (streams_of _ _ h) ∙ output)

value_kept : (v : Option ℕ) (r : Registers) (s t : State) (end : Option End) → effect t end ≡ with_value v r s → Wrote Nothing s t
value_kept None r s t end h = kept _ s t end h refl refl
value_kept (Some x) r s t end h = kept _ s t end h refl refl

by_operation : (o : Operation) (r : Registers) (s t : State) (end : Option End) → effect t end ≡ execute o r s → Wrote (written_by o r.a) s t
by_operation Indirect r s t end h = kept _ s t end h refl refl
by_operation Negate r s t end h = kept _ s t end h refl refl
by_operation Complement r s t end h = kept _ s t end h refl refl
by_operation Return r s t end h = kept _ s t end h refl refl
by_operation (Operate op) r s t end h = value_kept (value_of op r.b r.a) r s t end h
by_operation Finish r s t end h = kept _ s t end h refl refl
by_operation Switch r s t end h = kept _ s t end h refl refl
by_operation (Select side) r s t end h = kept _ s t end h refl (selected_keeps side r.a s.streams)
by_operation Read r s t end h = kept _ s t end h refl (read_keeps (numbered s.streams.inputs s.streams.input) s.streams)
by_operation Write r s t end h = (store_of _ _ h, streams_of _ _ h)
by_operation (Find side) r s t end h = kept _ s t end h refl refl
by_operation (EndStream side) r s t end h = kept _ s t end h refl (ended_keeps side s.streams)
by_operation Bad r s t end h = kept _ s t end h refl refl

-- ---- Functions

-- the registers after the fetch of the instruction at C
abbrev fetched : State → Registers
fetched s = record s.registers { c = following s }

by_function : (f : Function) (d : ℕ) (s t : State) (end : Option End) → effect t end ≡ perform f d (fetched s) s → Wrote (writes f d s.registers) s t
by_function Load d s t end h = kept _ s t end h refl refl
by_function Store d s t end h = (store_of _ _ h, streams_of _ _ h)
by_function Plus d s t end h = kept _ s t end h refl refl
by_function Jump d s t end h = kept _ s t end h refl refl
by_function JumpTrue d s t end h = kept _ s t end h refl refl
by_function JumpFalse d s t end h = kept _ s t end h refl refl
by_function Call d s t end h = (store_of _ _ h, streams_of _ _ h)
by_function Execute d s t end h = by_operation (operation_of d) (fetched s) s t end h

-- What the instruction at C writes.
pub wrote : (s t : State) (end : Option End) (word : ℕ) → word ≡ slice_index s.store s.registers.c → effect t end ≡ step s
    → Wrote (writes (function_of (code_of word)) (operand_of (code_of word) word s.registers s.store) s.registers) s t
unfolding step
wrote s t end word e h = rw e
    (let at = slice_index s.store s.registers.c in
    by_function (function_of (code_of at)) (operand_of (code_of at) at s.registers s.store) s t end h)

-- ---- The change as the code computes it

skip : (b : Bool) (x y : Operation) (a : ℕ) → written_by x a ≡ Nothing → written_by y a ≡ Nothing → written_by (cond b x y) a ≡ Nothing
skip true x y a h k = h
skip false x y a h k = k

skip_write : (b : Bool) (y : Operation) (a : ℕ) → b ≡ false → written_by y a ≡ Nothing → written_by (cond b Write y) a ≡ Nothing
skip_write true y a e k = absurd cc
skip_write false y a e k = k

-- No operation but number 27 writes anything.
not_27 : (d a : ℕ) → (d == 27) ≡ false → written_by (operation_of d) a ≡ Nothing
not_27 d a e =
    skip (d == 1) _ _ a refl (skip (d == 2) _ _ a refl (skip (d == 3) _ _ a refl (skip (d == 4) _ _ a refl (
    skip (d == 5) _ _ a refl (skip (d == 6) _ _ a refl (skip (d == 7) _ _ a refl (skip (d == 8) _ _ a refl (
    skip (d == 9) _ _ a refl (skip (d == 10) _ _ a refl (skip (d == 11) _ _ a refl (skip (d == 12) _ _ a refl (
    skip (d == 13) _ _ a refl (skip (d == 14) _ _ a refl (skip (d == 15) _ _ a refl (skip (d == 16) _ _ a refl (
    skip (d == 17) _ _ a refl (skip (d == 18) _ _ a refl (skip (d == 19) _ _ a refl (skip (d == 20) _ _ a refl (
    skip (d == 21) _ _ a refl (skip (d == 22) _ _ a refl (skip (d == 23) _ _ a refl (skip (d == 24) _ _ a refl (
    skip (d == 25) _ _ a refl (skip (d == 26) _ _ a refl (skip_write (d == 27) _ a e (skip (d == 28) _ _ a refl (
    skip (d == 29) _ _ a refl (skip (d == 33) _ _ a refl (skip (d == 34) _ _ a refl (
    refl)))))))))))))))))))))))))))))))

by_byte : (b : Bool) (d a : ℕ) → (d == 27) ≡ b → cond b (Byte (a % 256)) Nothing ≡ written_by (operation_of d) a
by_byte true d a e = let at : d ≡ 27 = eqb-true d 27 e in ap (λ (n : ℕ). written_by (operation_of n) a) (sym at)
by_byte false d a e = sym (not_27 d a e)

-- The function with this number.
abbrev kind : ℕ → Function
kind f =
    cond (f == 0) Load (cond (f == 1) Store (cond (f == 2) Plus (
    cond (f == 3) Jump (cond (f == 4) JumpTrue (cond (f == 5) JumpFalse (
    cond (f == 6) Call Execute))))))

by_number : (f d : ℕ) (r : Registers) → f < 8 → told f d r ≡ writes (kind f) d r
by_number zero d r lt = refl
by_number (suc zero) d r lt = refl
by_number (suc (suc zero)) d r lt = refl
by_number (suc (suc (suc zero))) d r lt = refl
by_number (suc (suc (suc (suc zero)))) d r lt = refl
by_number (suc (suc (suc (suc (suc zero))))) d r lt = refl
by_number (suc (suc (suc (suc (suc (suc zero)))))) d r lt = refl
by_number (suc (suc (suc (suc (suc (suc (suc zero))))))) d r lt = by_byte (d == 27) d r.a refl
by_number (suc (suc (suc (suc (suc (suc (suc (suc f)))))))) d r lt = absurd (omega arith)

-- What the code computes from the upper bits of a word is what the instruction writes.
pub told_is : (code d : ℕ) (r : Registers) → code / 16 < 8 → told (code / 16) d r ≡ writes (function_of code) d r
told_is code d r lt = by_number (code / 16) d r lt
