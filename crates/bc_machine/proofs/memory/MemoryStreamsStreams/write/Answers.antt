use Rattle.std.proofs.Common.{arith, ◌≤◌, length, map, sym, ap, ◌∙◌, refl}
use Rattle.bc_machine.specs.MemoryContent.{memory_input, memory_outputs}
use Rattle.bc_machine.proofs.Tables.{content, after_write-ended, after_write-open}
use Rattle.bc_machine.proofs.MemoryOutputs.{numbered_output, memory_outputs-more, output_at}
use Rattle.bc_machine.proofs.memory.MemoryStreamsStreams.write.Goals as goal

pub returns-then-index-clause-ok : goal.returns-then-index-clause-ok
returns-then-index-clause-ok c =
    let m = c.args.self.now in
    let within : m.output ≤ length m.outputs.items = omega (arith, m.output_exists, m.outputs.ok.0) in
    let outputs = memory_outputs 1 m.written.items m.outputs.items in
    let o = c.index.result.now in
    after_write-ended (map memory_input m.inputs.items) outputs m.input m.output c.args.byte (output_at m.output m.written.items o)
    (numbered_output m.output m.written.items m.outputs.items o (omega arith) within c.index.ensures) c.if-index.true

pub returns-then-is_ok-clause-ok : goal.returns-then-is_ok-clause-ok
returns-then-is_ok-clause-ok c =
    let m = c.args.self.now in
    let within : m.output ≤ length m.outputs.items = omega (arith, m.output_exists, m.outputs.ok.0) in
    let inputs = map memory_input m.inputs.items in
    let outputs = memory_outputs 1 m.written.items m.outputs.items in
    let o = c.index.result.now in
    ap (λ log. content inputs (memory_outputs 1 log m.outputs.items) m.input m.output) (c.push.ensures.items ∙ (let yes = sym c.is_ok.ensures.value ∙ c.if-is_ok.true in rw (yes, c.new.ensures) refl))
    ∙ ap (λ os. content inputs os m.input m.output) (memory_outputs-more m.output m.written.items c.args.byte m.outputs.items o (omega arith) within c.index.ensures)
    ∙ sym (after_write-open inputs outputs m.input m.output c.args.byte (output_at m.output m.written.items o)
    (numbered_output m.output m.written.items m.outputs.items o (omega arith) within c.index.ensures) c.if-index.false)
