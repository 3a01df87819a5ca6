use Rattle.std.proofs.Common.{refl, sym, ap}
use Rattle.std.specs.List.{position_from}
use Rattle.std.specs.Str.{bytes_eq}
use Rattle.bc_machine_defs.specs.StreamCalls.{number_or_none}
use Rattle.bc_machine.specs.MemoryContent.{memory_input}
use Rattle.bc_machine.specs.declared.memory.MemoryInput.{MemoryInput}
use Rattle.bc_machine.proofs.Tables.{names_of_inputs}
use Rattle.bc_machine.proofs.MemoryOutputs.{names_of_outputs}
use Rattle.bc_machine.proofs.memory.MemoryStreamsStreams.find.Goals as goal

pub returns-in-Input : goal.returns-in-Input
returns-in-Input c = λ _.
    rw (c.in-Input.is, c.number_of.ensures, c.as_slice.ensures.value)
    (ap (λ names. number_or_none (position_from (λ known. bytes_eq known c.args.name.now) 1 names))
    (sym (names_of_inputs memory_input (λ (i : MemoryInput). i.name.items) (λ x. refl) c.args.self.now.inputs.items)))

pub returns-in-Output : goal.returns-in-Output
returns-in-Output c = λ _.
    rw (c.in-Output.is, c.number_of-in-Output.ensures, c.as_slice-in-Output.ensures.value)
    (ap (λ names. number_or_none (position_from (λ known. bytes_eq known c.args.name.now) 1 names))
    (sym (names_of_outputs 1 c.args.self.now.written.items c.args.self.now.outputs.items)))
