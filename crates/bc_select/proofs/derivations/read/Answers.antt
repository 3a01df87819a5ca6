use Rattle.bc_select.specs.Waiting.{trees_of}
use Rattle.bc_select.proofs.derivations.read.Goals as goal

pub returns : goal.returns
returns c = c.built.ensures (trees_of c.args.waiting.items) c.in_ok-marks.ensures
