use Rattle.std.proofs.Common.{◌≡◌, ℕ, List, map, ap, ◌∙◌}
use Rattle.bc_machine_defs.specs.StreamStart.{first_number, fresh_input, fresh_output}
use Rattle.bc_machine.specs.Names.{named_bytes, bytes_of}
use Rattle.bc_machine.specs.MemoryContent.{memory_input}
use Rattle.bc_machine.proofs.MemoryOutputs.{opens}
use Rattle.bc_machine.proofs.memory.MemoryStreams.new.Goals as goal

pub returns-clause-content : goal.returns-clause-content
returns-clause-content c =
    let inputs = map (λ (i : List ℕ × List ℕ). fresh_input i.0 i.1) (named_bytes c.args.inputs.items) in
    let outputs = map fresh_output (bytes_of c.args.outputs.items) in
    let input : c.number_of_first-input.result ≡ first_number c.in_ok-inputs.inputs.items =
    c.number_of_first-input.ensures.number ∙ ap first_number c.as_slice-3.ensures.value in
    let output : c.number_of_first-output.result ≡ first_number c.in_ok-outputs.outputs.items =
    c.number_of_first-output.ensures.number ∙ ap first_number c.as_slice-4.ensures.value in
    rw (input, output)
    (opens memory_input c.in_ok-inputs.inputs.items c.in_ok-written.written.items c.in_ok-outputs.outputs.items inputs outputs
    c.in_ok-written.ensures.empty c.in_ok-inputs.ensures.content c.in_ok-outputs.ensures)
