use Rattle.std.proofs.Common.{map, length, refl, ap, ◌∙◌}
use Rattle.bc_core.specs.View.{place_of}
use Rattle.bc_core.specs.Words.{data_words}
use Rattle.bc_interpret_store.specs.Cells.{cell_view}
use Rattle.bc_interpret_steps.specs.Sections.{placed_of}
use Rattle.bc_interpret.specs.Starting.{written}
use Rattle.bc_interpret.proofs.Starting.{place_more}
use Rattle.bc_interpret.proofs.start.put_section.Goals as goal

pub loop-place-preserved : goal.loop-place-preserved
loop-place-preserved c =
    let address = (placed_of c.args.section.now).address in
    let left = c.loop-place.left.now in
    let p = c.in-Some.place.now in
    let now = map cell_view c.loop-place.cells.items in
    place_more address left c.in-Some.earlier.now p (length left) now (map cell_view c.put_place.new.cells.items) _ c.in-Some.ensures.cases.0 refl
    (c.in_ok-put_place.ensures ∙ ap (λ a. written (data_words (place_of p)) a now) c.address_of-from.ensures) c.loop-place.invariant
