-- What an instruction writes to the store and to the selected output, and the state after it.
use Rattle.std.specs.Prelude.{ℕ, ◌≡◌, ◌+◌, ◌%◌, Option, slice_index, slice_set}
use Rattle.bc_machine_defs.specs.declared.state.Registers.{Registers}
use Rattle.bc_machine_defs.specs.declared.state.End.{End}
use Rattle.bc_machine_defs.specs.declared.operation.Operation.{Operation}
use Rattle.bc_machine_defs.specs.declared.operation.Operation.TheVariants.{Indirect, Negate, Complement, Return, Operate, Finish, Switch, Select, Read, Write, Find, EndStream, Bad}
use Rattle.bc_machine_defs.specs.State.{State}
use Rattle.bc_machine_defs.specs.Instruction.{code_of, function_of, Function, Load, Store, Plus, Jump, JumpTrue, JumpFalse, Call, Execute}
use Rattle.bc_machine_defs.specs.Operand.{next, operand_of, after_operand}
use Rattle.bc_machine_defs.specs.Operation.{operation_of}
use Rattle.bc_machine_defs.specs.Streams.{Content}
use Rattle.bc_machine_defs.specs.StreamCalls.{after_write, output_of}
use Rattle.bc_machine_defs.specs.Effect.{effect}
use Rattle.bc_machine_defs.specs.Step.{step}
use Rattle.bc_machine.specs.Ran.{Held, held_state}
use Rattle.bcpl_trace.specs.declared.change.Change.{Change}
use Rattle.bcpl_trace.specs.declared.change.Change.TheVariants.{Nothing, Cell, Links, Byte}

-- what an operation of X writes, if A is a
abbrev pub written_by : Operation → ℕ → Change
written_by Indirect a = Nothing
written_by Negate a = Nothing
written_by Complement a = Nothing
written_by Return a = Nothing
written_by (Operate op) a = Nothing
written_by Finish a = Nothing
written_by Switch a = Nothing
written_by (Select side) a = Nothing
written_by Read a = Nothing
written_by Write a = Byte (a % 256)
written_by (Find side) a = Nothing
written_by (EndStream side) a = Nothing
written_by Bad a = Nothing

-- what a function with the operand d writes, from the registers before it
abbrev pub writes : Function → ℕ → Registers → Change
writes Load d r = Nothing
writes Store d r = Cell d
writes Plus d r = Nothing
writes Jump d r = Nothing
writes JumpTrue d r = Nothing
writes JumpFalse d r = Nothing
writes Call d r = Links ((r.p + d) % 65536)
writes Execute d r = written_by (operation_of d) r.a

-- what the instruction at C writes
abbrev pub written_at : Held → Change
written_at m = let word = slice_index m.store m.registers.c in
    writes (function_of (code_of word)) (operand_of (code_of word) word m.registers m.store) m.registers

-- the address after the instruction at C
abbrev pub following : State → ℕ
following s = after_operand (code_of (slice_index s.store s.registers.c)) s.registers.c

-- From `old` to `new` this and nothing else was written: A to a cell; P and the address after the instruction to the links of a frame;
-- or a byte to the selected output. The other cells, and what the outputs were given, are as they were.
abbrev pub Wrote : Change → State → State → Type 0
Wrote Nothing old new = (new.store ≡ old.store) × (output_of new.streams ≡ output_of old.streams)
Wrote (Cell at) old new = (new.store ≡ slice_set old.store at old.registers.a) × (new.streams ≡ old.streams)
Wrote (Links at) old new =
    (new.store ≡ slice_set (slice_set old.store at old.registers.p) (next at) (following old)) × (new.streams ≡ old.streams)
Wrote (Byte byte) old new = (new.store ≡ old.store) × (new.streams ≡ after_write byte old.streams)

-- The change is what the step from the machine's state writes, whatever the streams contain.
abbrev pub IsChangeOf : Held → Change → Type 0
IsChangeOf m change =
    (streams : Content) (t : State) (end : Option End) → effect t end ≡ step (held_state m streams) → Wrote change (held_state m streams) t
