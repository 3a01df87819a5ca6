use Rattle.std.proofs.Common.{◌≡◌, map}
use Rattle.bc_machine.specs.FileContent.{file_input, fresh_inputs}
use Rattle.bc_machine.proofs.files.FileInput.table.Given as goal

abbrev pub invariant-loop-input : goal.invariant-loop-input
invariant-loop-input g l = record {
  content : map (file_input g.R.Read.remaining) l.table.items ≡ fresh_inputs g.R.Read.remaining l.yielded;
  told : map (λ i. g.R.Read.remaining i.reader) l.table.items ≡ map (λ n. g.R.Read.remaining n.device) l.yielded;
}
