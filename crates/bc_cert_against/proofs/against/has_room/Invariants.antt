-- The remaining pieces fit into the remaining items exactly if all pieces fit into all items.
use Rattle.std.proofs.Common.{◌≤◌, ◌↔◌, drop}
use Rattle.bc_cert_defs.specs.Against.{extent}
use Rattle.bc_cert_against.proofs.against.has_room.Given as goal

abbrev pub invariant-loop-piece : goal.invariant-loop-piece
invariant-loop-piece l = (extent (drop l.piece-index l.code) ≤ l.left) ↔ (extent l.code ≤ l.items)
