-- The reader has read the pieces up to here.
use Rattle.std.proofs.Common.{take}
use Rattle.bc_text.specs.Reading.{HasRead, bytes_of}
use Rattle.bc_text.proofs.reader.read_all.Given as goal

abbrev pub invariant-loop-piece : goal.invariant-loop-piece
invariant-loop-piece l = HasRead l.reader (bytes_of (take l.piece-index l.pieces))
