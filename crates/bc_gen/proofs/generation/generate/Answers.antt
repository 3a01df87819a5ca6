use Rattle.std.proofs.Common.{◌≡◌, ◌+◌, ◌≤◌, map, length, ap, refl, ◌∙◌, arith}
use Rattle.bc_core.specs.View.{place_of, section}
use Rattle.bc_gen_defs.specs.Entries.{Plain, entries_from, marked_code}
use Rattle.bc_gen_defs.specs.Section.{emit_routines, routines_code}
use Rattle.bc_gen.specs.Chosen.{coding}
use Rattle.bc_gen.specs.Parts.{parts}
use Rattle.bc_gen.specs.Surroundings.{roots_in}
use Rattle.bc_gen.proofs.Forms.{there}
use Rattle.bc_gen.proofs.Outs.{refused}
use Rattle.bc_gen.proofs.Room.{routines_have_room, settings_have_room, strings_have_room}
use Rattle.bc_gen.proofs.Whole.{routines_are, items_are, places_up, routines_end}
use Rattle.bc_gen.proofs.generation.generate.Goals as goal

made : (c : goal.After-new-2) → (there c.routines.new.self ≡ marked_code coding (section c.args.core.now)) × (c.routines.new.self.next ≡ (routines_code coding (section c.args.core.now)).1)
made c = routines_are c.args.core.now c.places-places.result.now c.valofs.result.now c.body-around.result c.new.result 1 c.take.new.self c.routines.new.self
    c.places-places.ensures.places c.valofs.ensures.valofs (ap parts c.new.ensures.items) refl c.in_ok-take.ensures.taken.1 c.in_ok-take.ensures.parts c.body-around.ensures.roots c.in_ok-routines.ensures

pub returns-clause-items : goal.returns-clause-items
returns-clause-items c =
    items_are c.args.core.now c.places-places.result.now c.routines.new.self c.in_ok-items.field-0.items.items c.put_data.new.items.items c.put_settings.new.items.items c.new-2.result
    c.places-places.ensures.places (made c).0 c.in_ok-items.ensures.items c.in_ok-put_data.ensures c.in_ok-put_settings.ensures c.new-2.ensures

pub returns-clause-entries : goal.returns-clause-entries
returns-clause-entries c = c.in_ok-items.ensures.entries ∙ ap (entries_from 0) (made c).0

pub returns-clause-labels : goal.returns-clause-labels
returns-clause-labels c = let e = (made c).1 in let b : c.routines.new.self.next ≤ 20001 = c.routines.new.self.bounded in omega (arith, e, b)

pub returns-in_err-take-clause-refused : goal.returns-in_err-take-clause-refused
returns-in_err-take-clause-refused c =
    refused c.from_residual.result c.in_err-take.field-0.0 (1 + length c.places-places.result.now) (routines_code coding (section c.args.core.now)).1 c.from_residual.ensures.1 c.in_err-take.ensures.out
    (places_up c.args.core.now c.places-places.result.now _ c.places-places.ensures.places refl)

pub returns-in_err-routines-clause-refused : goal.returns-in_err-routines-clause-refused
returns-in_err-routines-clause-refused c =
    refused c.from_residual-in_err-routines.result c.in_err-routines.field-0.0 (emit_routines Plain (roots_in c.body-around.result) 0 (map place_of c.places-places.result.now) c.take.new.self.next).1
    (routines_code coding (section c.args.core.now)).1 c.from_residual-in_err-routines.ensures.1 c.in_err-routines.ensures
    (routines_end c.args.core.now c.places-places.result.now c.valofs.result.now c.body-around.result 1 c.take.new.self.next
    c.places-places.ensures.places c.valofs.ensures.valofs refl c.in_ok-take.ensures.taken.1 c.body-around.ensures.roots)

pub routines-requires-clause-room : goal.routines-requires-clause-room
routines-requires-clause-room c =
    rw (c.places-places.ensures.places, c.body-around.ensures.least, c.body-around.ensures.valofs, c.valofs.ensures.valofs) (routines_have_room (section c.args.core.now) c.places-places.ensures.fits)

pub put_data-requires-clause-room : goal.put_data-requires-clause-room
put_data-requires-clause-room c = rw c.places-places.ensures.places (strings_have_room (section c.args.core.now) c.places-places.ensures.fits)

pub put_settings-requires-clause-room : goal.put_settings-requires-clause-room
put_settings-requires-clause-room c = rw c.places-places.ensures.places (settings_have_room (section c.args.core.now) c.places-places.ensures.fits)
