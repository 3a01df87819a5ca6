use Rattle.bc_core.specs.declared.command.Place.TheVariants as places
use Rattle.bc_gen.specs.Room.{StringHasRoom}
use Rattle.bc_gen.proofs.Room.{place_at}
use Rattle.bc_gen.proofs.generation.put_data.Goals as goal

pub put_string-requires : goal.put_string-requires
put_string-requires c =
    rw c.deref-in-Text.ensures.value (place_at StringHasRoom c.args.places.now c.loop-place.place-index c.place-item.result (places.Text c.in-Text.bytes)
    c.requires.room c.loop-place-test.true c.place-item.is c.in-Text.is)
