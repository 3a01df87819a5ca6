use Rattle.std.proofs.Common.{◌≡◌, map, vec_len}
use Rattle.bc_machine.specs.FileContent.{file_outputs, fresh_outputs, devices}
use Rattle.bc_machine.proofs.files.Outputs.tables.Given as goal

abbrev pub invariant-loop-output : goal.invariant-loop-output
invariant-loop-output g l = record {
  content : file_outputs l.names.items (map g.W.Write.contents l.writers.items) ≡ fresh_outputs g.W.Write.contents l.yielded;
  writers : l.writers.items ≡ devices l.yielded;
  same_length : vec_len l.writers ≡ vec_len l.names;
}
