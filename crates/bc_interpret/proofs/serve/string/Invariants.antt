use Rattle.bc_interpret.specs.Serving.{Naming}
use Rattle.bc_interpret.proofs.serve.string.Given as goal

abbrev pub invariant-loop-k : goal.invariant-loop-k
invariant-loop-k l = Naming l.state l.address l.length l.k l.name.items
