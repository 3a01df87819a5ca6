use Rattle.std.proofs.Common.{◌<◌, length, map, arith, refl, sym, ap, ◌∙◌, subst}
use Rattle.std.specs.Io.KnownBytes.{Keeps}
use Rattle.std.specs.Option.{option_map}
use Rattle.std.proofs.lemmas.Option.{slice_get_read, slice_get-map}
use Rattle.bc_machine.specs.Known.{AllKnown}
use Rattle.bc_machine.proofs.FileOutputs.{known_get}
use Rattle.bc_machine.proofs.FileSteps.{keeps_same, same_told}
use Rattle.bc_machine.proofs.files.flush_all.Goals as goal

pub loop-writer-preserved : goal.loop-writer-preserved
loop-writer-preserved g c = λ known.
    let contents = g.W.Write.contents in
    let writers = c.loop-writer.writers in
    let at = c.loop-writer.writer-index in
    let x = c.writer-item.result in
    let known_here = subst AllKnown (sym (c.loop-writer.invariant known)) known in
    let less : at < length writers = omega arith in
    let told = slice_get-map contents writers at ∙ ap (option_map contents) (slice_get_read writers (length writers) at x refl less c.writer-item.is) in
    let keeps = subst (λ w. Keeps (contents w) (contents c.flush.new.writer)) (sym c.writer-item.is) c.flush.ensures in
    same_told contents writers at x c.flush.new.writer c.writer-item.is
    (keeps_same (contents x) (contents c.flush.new.writer) keeps (known_get (map contents writers) at (contents x) known_here told))
    ∙ c.loop-writer.invariant known
