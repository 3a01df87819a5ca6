-- The remaining items begin with the remaining pieces exactly if all items begin with all pieces.
use Rattle.std.proofs.Common.{◌↔◌, drop}
use Rattle.bc_cert_defs.specs.Against.{Stands}
use Rattle.bc_cert_against.proofs.against.is_there.Given as goal

abbrev pub invariant-loop-piece : goal.invariant-loop-piece
invariant-loop-piece l = Stands (drop l.piece-index l.code) l.rest ↔ Stands l.code l.items
