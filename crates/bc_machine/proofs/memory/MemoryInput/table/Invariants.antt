use Rattle.std.proofs.Common.{◌≡◌, map}
use Rattle.bc_machine_defs.specs.StreamStart.{fresh_input}
use Rattle.bc_machine_defs.specs.Streams.{HoldBytes}
use Rattle.bc_machine.specs.MemoryContent.{memory_input}
use Rattle.bc_machine.specs.Names.{named_bytes}
use Rattle.bc_machine.proofs.memory.MemoryInput.table.Given as goal

abbrev pub invariant-loop-input : goal.invariant-loop-input
invariant-loop-input l = record {
  content : map memory_input l.table.items ≡ map (λ i. fresh_input i.0 i.1) (named_bytes l.yielded);
  bytes : HoldBytes (map memory_input l.table.items);
}
