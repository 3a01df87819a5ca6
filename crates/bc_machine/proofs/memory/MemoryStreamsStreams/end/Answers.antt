use Rattle.std.proofs.Common.{arith, ◌≤◌, ◌-◌, ◌+◌, ◌≡◌, true, length, map, slice_set, sym, ap, ◌∙◌, refl}
use Rattle.bc_machine_defs.specs.StreamCalls.{end_stream}
use Rattle.bc_machine.specs.MemoryContent.{memory_content, memory_input, memory_outputs}
use Rattle.bc_machine.proofs.Tables.{content, ends_input, end_output-at}
use Rattle.bc_machine.proofs.MemoryOutputs.{numbered_output, memory_outputs-ended, output_at}
use Rattle.bc_machine.proofs.Held.{held}
use Rattle.bc_machine_defs.proofs.Bytes.{end_keeps}
use Rattle.bc_machine.proofs.memory.MemoryStreamsStreams.end.Goals as goal

pub returns-then-self-gt0-clause-content : goal.returns-then-self-gt0-clause-content
returns-then-self-gt0-clause-content c =
    let m = c.args.self.now in
    let within : m.input ≤ length m.inputs.items = omega (arith, m.input_exists, m.inputs.ok.0) in
    rw c.in-Input.is (
    ends_input memory_input m.inputs.items (memory_outputs 1 m.written.items m.outputs.items) m.input m.output c.index_mut-input.result.now
    (omega arith) within c.index_mut-input.ensures.value (record c.index_mut-input.result.now { ended = true }) refl)

pub returns-then-self-gt0-2-clause-content : goal.returns-then-self-gt0-2-clause-content
returns-then-self-gt0-2-clause-content c =
    let m = c.args.self.now in
    let o = c.index_mut-output.result.now in
    let within : m.output ≤ length m.outputs.items = omega (arith, m.output_exists, m.outputs.ok.0) in
    let inputs = map memory_input m.inputs.items in
    let number : 1 + (m.output - 1) ≡ m.output = omega arith in
    rw c.in-Output.is (
    ap (λ outputs. content inputs outputs m.input 0)
    (memory_outputs-ended 1 (m.output - 1) m.written.items m.outputs.items (record o { ended = true })
    ∙ ap (λ n. slice_set (memory_outputs 1 m.written.items m.outputs.items) (m.output - 1) (output_at n m.written.items (record o { ended = true }))) number)
    ∙ sym (end_output-at inputs (memory_outputs 1 m.written.items m.outputs.items) m.input m.output (output_at m.output m.written.items o)
    (numbered_output m.output m.written.items m.outputs.items o (omega arith) within c.index_mut-output.ensures.value)))

pub returns-then-self-gt0-clause-known : goal.returns-then-self-gt0-clause-known
returns-then-self-gt0-clause-known c = λ known.
    let old = memory_content c.args.self.now in
    held _ (end_stream c.args.side old) (returns-then-self-gt0-clause-content c) (end_keeps c.args.side old known)
