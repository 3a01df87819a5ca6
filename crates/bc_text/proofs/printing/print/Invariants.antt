-- The writer has taken the lines up to here.
use Rattle.std.proofs.Common.{take, flat_map}
use Rattle.std.specs.Io.KnownBytes.{Appends}
use Rattle.bc_text.specs.Printed.{line}
use Rattle.bc_text.proofs.printing.print.Given as goal

abbrev pub invariant-loop-item : goal.invariant-loop-item
invariant-loop-item g l =
    let contents = g.W.Write.contents in
    Appends (contents l.fn.out) (contents l.out) (flat_map line (take l.item-index l.item-items))
