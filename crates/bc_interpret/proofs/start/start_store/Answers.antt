use Rattle.std.proofs.Common.{◌∙◌}
use Rattle.bc_interpret.specs.Starting.{IsStart}
use Rattle.bc_interpret.proofs.start.start_store.Goals as goal

pub returns : goal.returns
unfolding IsStart
returns c = c.new.ensures ∙ c.in_ok-cells.ensures
