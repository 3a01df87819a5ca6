use Rattle.std.proofs.Common.{refl, false}
use Rattle.std.proofs.lemmas.List.{map-append}
use Rattle.bc_machine_defs.specs.StreamStart.{fresh_output}
use Rattle.bc_machine.specs.Names.{Bytes}
use Rattle.bc_machine.proofs.MemoryOutputs.{memory_outputs-fresh}
use Rattle.bc_machine.proofs.names.NamedOutput.table.Goals as goal

pub loop-name-preserved : goal.loop-name-preserved
loop-name-preserved c =
    rw (c.in_ok-push.ensures.items, memory_outputs-fresh 1 c.loop-name.table.items (record { name = c.in-Some.name; ended = false }) refl, c.loop-name.invariant)
    (rw (map-append (λ (name : Bytes). name.items), map-append fresh_output) refl)
