use Rattle.std.proofs.Common.{◌≡◌, ◌≤◌, ◌+◌, ◌*◌, drop}
use Rattle.bc_rules_defs.specs.Piece.{words}
use Rattle.bc_rules.specs.Words.{rest_words}
use Rattle.bc_rules.proofs.sizes.words.Given as goal

abbrev pub invariant-loop-piece : goal.invariant-loop-piece
invariant-loop-piece l = (l.total ≤ 2 * l.piece-index) × (l.total + rest_words l.half (drop l.piece-index l.pieces) ≡ words l.pieces)
