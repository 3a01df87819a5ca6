-- The content of streams in memory.
use Rattle.std.specs.Prelude.{ℕ, ◌+◌, ◌≡◌, ◌≤◌, ◌==◌, List, [], ◌∷◌, map, filter, drop, length, ◌++◌, Option, Some, None, Bool, true, false, cond}
use Rattle.bc_machine_defs.specs.Streams.{Input, Output, Content, numbered, HoldBytes}
use Rattle.bc_machine.specs.declared.memory.MemoryInput.{MemoryInput}
use Rattle.bc_machine.specs.declared.names.NamedOutput.{NamedOutput}
use Rattle.bc_machine.specs.declared.memory.MemoryStreams.{MemoryStreams}

-- an input: its name, its remaining bytes, and whether it has been ended
abbrev pub memory_input : MemoryInput → Input
memory_input i = record { name = i.name.items; rest = drop i.at i.bytes.items; ended = i.ended }

-- the bytes that were written to the output of this number
abbrev pub bytes_to : ℕ → List (ℕ × ℕ) → List ℕ
bytes_to number written = map (λ (w : ℕ × ℕ). w.1) (filter (λ (w : ℕ × ℕ). w.0 == number) written)

-- the outputs from this number on
abbrev pub memory_outputs : ℕ → List (ℕ × ℕ) → List NamedOutput → List Output
memory_outputs number written [] = []
memory_outputs number written (o ∷ os) =
    record { name = o.name.items; written = bytes_to number written; ended = o.ended } ∷ memory_outputs (number + 1) written os

-- the content of the streams
abbrev pub memory_content : MemoryStreams → Content
memory_content m = record {
  inputs = map memory_input m.inputs.items;
  outputs = memory_outputs 1 m.written.items m.outputs.items;
  input = m.input;
  output = m.output;
}

-- the content is known: what remains of the inputs consists of bytes
abbrev pub IsKnown : MemoryStreams → Type 0
IsKnown m = HoldBytes (memory_content m).inputs

-- the bytes that were written, each with the number of its output
abbrev pub memory_written : MemoryStreams → List (ℕ × ℕ)
memory_written m = m.written.items

-- the number of bytes of output for which there is room
abbrev pub memory_room : MemoryStreams → ℕ
memory_room m = m.room

-- what was written after one more byte: an output that is open takes it, any other drops it
abbrev pub written_to : Option NamedOutput → ℕ → ℕ → List (ℕ × ℕ) → List (ℕ × ℕ)
written_to None number byte written = written
written_to (Some o) number byte written = cond o.ended written (written ++ (number, byte) ∷ [])

-- what was written after one more byte for the selected output
abbrev pub written_after : ℕ → MemoryStreams → List (ℕ × ℕ)
written_after byte m = written_to (numbered m.outputs.items m.output) m.output byte m.written.items

-- how often no room was left
abbrev pub memory_failures : MemoryStreams → ℕ
memory_failures m = m.failures

-- the room and the count of failures are unchanged
abbrev pub StaysAsRoom : MemoryStreams → MemoryStreams → Type 0
StaysAsRoom old new = (memory_room new ≡ memory_room old) × (memory_failures new ≡ memory_failures old)

-- what was written, the room and the count of failures are unchanged
abbrev pub WritesNothing : MemoryStreams → MemoryStreams → Type 0
WritesNothing old new = (memory_written new ≡ memory_written old) × StaysAsRoom old new

-- whether an output takes a byte: it does if it is open
abbrev pub takes : Option NamedOutput → Bool
takes None = false
takes (Some o) = cond o.ended false true

-- the selected output would take a byte, but no room is left
abbrev pub IsSpent : MemoryStreams → Type 0
IsSpent m = (takes (numbered m.outputs.items m.output) ≡ true) × (memory_room m ≤ length (memory_written m))
