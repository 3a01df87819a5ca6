use Rattle.bc_interpret.proofs.Starting.{all_dead, resized}
use Rattle.bc_interpret.proofs.start.dead_cells.Goals as goal

pub returns : goal.returns
returns c =
    all_dead 65536 c.resize.new.self.items (resized 65536 _ _ _ c.new-cells.ensures.items c.new-cells.ensures.len c.in_ok-resize.ensures.items)
