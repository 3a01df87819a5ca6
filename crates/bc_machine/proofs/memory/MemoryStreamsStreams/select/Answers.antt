use Rattle.std.proofs.Common.{◌≡◌, refl, sym, ◌∙◌, length, vec_len}
use Rattle.bc_machine.specs.MemoryContent.{memory_outputs}
use Rattle.bc_machine.proofs.MemoryOutputs.{length_outputs}
use Rattle.bc_machine.proofs.memory.MemoryStreamsStreams.select.Goals as goal

pub returns-in-Output-clause-content : goal.returns-in-Output-clause-content
returns-in-Output-clause-content c =
    let m = c.args.self.now in
    let long : length (memory_outputs 1 m.written.items m.outputs.items) ≡ vec_len m.outputs = length_outputs 1 m.written.items m.outputs.items ∙ sym m.outputs.ok.0 in
    rw (c.in-Output.is, c.chosen-self-in-Output.ensures.number, c.len-in-Output.ensures, long) refl
