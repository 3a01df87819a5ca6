use Rattle.std.proofs.Common.{arith, ◌≤◌, length, ap, Ok}
use Rattle.bc_machine_defs.specs.StreamCalls.{after_read}
use Rattle.bc_machine.specs.MemoryContent.{memory_content, memory_input, memory_outputs}
use Rattle.bc_machine.proofs.Tables.{reads, reads_on}
use Rattle.bc_machine.proofs.Held.{held}
use Rattle.bc_machine_defs.proofs.Bytes.{read_keeps}
use Rattle.bc_machine.proofs.memory.MemoryStreamsStreams.read.Goals as goal

pub returns-clause-byte : goal.returns-clause-byte
returns-clause-byte c =
    let m = c.args.self.now in
    let within : m.input ≤ length m.inputs.items = omega (arith, m.input_exists, m.inputs.ok.0) in
    ap Ok (
    reads memory_input m.inputs.items (memory_outputs 1 m.written.items m.outputs.items) m.input m.output c.index_mut-input.result.now
    (omega arith) within c.index_mut-input.ensures.value c.next_byte.result c.next_byte.ensures.byte)

pub returns-clause-content : goal.returns-clause-content
returns-clause-content c =
    let m = c.args.self.now in
    let within : m.input ≤ length m.inputs.items = omega (arith, m.input_exists, m.inputs.ok.0) in
    reads_on memory_input m.inputs.items (memory_outputs 1 m.written.items m.outputs.items) m.input m.output c.index_mut-input.result.now
    (omega arith) within c.index_mut-input.ensures.value c.next_byte.new.self c.next_byte.ensures.after

pub returns-clause-known : goal.returns-clause-known
returns-clause-known c = λ known.
    let old = memory_content c.args.self.now in
    held _ (after_read old) (returns-clause-content c) (read_keeps old known)
