use Rattle.std.proofs.Common.{map}
use Rattle.bc_core.specs.Level.{level_after_parameters}
use Rattle.bc_core.specs.View.{body_of, place_of}
use Rattle.bc_gen_defs.specs.Bodies.{emit_body}
use Rattle.bc_gen_defs.specs.Section.{emit_routines}
use Rattle.bc_gen_defs.specs.Entries.{Plain}
use Rattle.bc_gen.specs.Surroundings.{roots_in}
use Rattle.bc_core.specs.declared.command.Place.TheVariants as places
use Rattle.bc_gen.specs.Room.{room_in, RoutineHasRoom}
use Rattle.bc_gen.proofs.Room.{place_at}
use Rattle.bc_gen.proofs.Outs.{fails, rising, routines_out}
use Rattle.bc_gen.proofs.writer.Writer.routines.Goals as goal

pub returns-in_err-routine : goal.returns-in_err-routine
returns-in_err-routine c =
    let r = c.in-Routine.routine in
    fails c.from_residual-in_err-routine.result c.in_err-routine.field-0.0 c.args.self.now c.routine.new.self
    (emit_body Plain (roots_in c.args.around.now) (body_of r.body) (level_after_parameters r.parameters) c.label.new.self.next).1
    (emit_routines Plain (roots_in c.args.around.now) 0 (map place_of c.args.places.now) c.args.self.now.next)
    c.from_residual-in_err-routine.ensures.1 c.in_err-routine.ensures
    (routines_out (roots_in c.args.around.now) (rising c.args.around.now) c.args.places.now c.loop-place.place-index c.place-item.result r c.loop-place.label c.loop-place.self.next c.label.new.self.next _
    c.loop-place-test.true c.place-item.is c.in-Routine.is c.in_ok-label.ensures.1 c.loop-place.invariant.1)

pub routine-requires : goal.routine-requires
routine-requires c =
    let h = place_at (RoutineHasRoom (room_in c.args.around.now)) c.args.places.now c.loop-place.place-index c.place-item.result (places.Routine c.in-Routine.routine)
    c.requires.room c.loop-place-test.true c.place-item.is c.in-Routine.is in
    record { outside = c.requires.outside; level = h.0; room = h.1 }
