use Rattle.std.proofs.Common.{List, subst}
use Rattle.bc_interpret_store.specs.declared.change.Change.{Change}
use Rattle.bc_interpret_store.specs.Changes.{Walks}
use Rattle.bc_interpret_record.proofs.recording.Recording.walk.Goals as goal

pub returns : goal.returns
returns c =
    subst (λ (changes : List Change). Walks changes c.args.from c.args.to c.args.cells.now.items c.walk.new.cells.items) c.as_slice.ensures.value c.walk.ensures
