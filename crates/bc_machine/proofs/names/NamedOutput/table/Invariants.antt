use Rattle.std.proofs.Common.{◌≡◌, [], map}
use Rattle.bc_machine_defs.specs.StreamStart.{fresh_output}
use Rattle.bc_machine.specs.MemoryContent.{memory_outputs}
use Rattle.bc_machine.specs.Names.{bytes_of}
use Rattle.bc_machine.proofs.names.NamedOutput.table.Given as goal

abbrev pub invariant-loop-name : goal.invariant-loop-name
invariant-loop-name l = memory_outputs 1 [] l.table.items ≡ map fresh_output (bytes_of l.yielded)
