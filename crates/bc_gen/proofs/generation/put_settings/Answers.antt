use Rattle.bc_core.specs.declared.command.Place.TheVariants as places
use Rattle.bc_gen.specs.Room.{SettingHasRoom}
use Rattle.bc_gen.proofs.Room.{place_at}
use Rattle.bc_gen.proofs.generation.put_settings.Goals as goal

pub put_setting-requires : goal.put_setting-requires
put_setting-requires c =
    place_at SettingHasRoom c.args.places.now c.loop-place.place-index c.place-item.result (places.Routine c.in-Routine.routine)
    c.requires.room c.loop-place-test.true c.place-item.is c.in-Routine.is
