-- The roots of a section with nesting depth at most 200 are shallow.
use Rattle.std.proofs.Common.{List, [], ◌∷◌, arith}
use Rattle.bc_scope_defs.specs.Scope.{nothing_known}
use Rattle.bc_scope_defs.specs.Found.{Thing, AValof, ARoutine, Data, AStatic, ATable, AText, section_start, found_in_section}
use Rattle.bc_scope_defs.specs.Translation.{valofs_of, places_of, core_of}
use Rattle.bc_build.specs.RoomLaws.{IsShallow, RootsAreShallow}
use Rattle.bc_build.proofs.Throughout.{OfPlaces, OfValofs}
use Rattle.bc_build.proofs.Commands.{Low}
use Rattle.bc_build.proofs.Things.{ThingsLow, declarations_low}
use Rattle.bc_build.proofs.Emitted.{Suits, all_roots}

suits : Suits IsShallow Low
suits = record {
  value = λ s e h. h;
  test = λ s sense e h. h;
  assign = λ s v a h k. (h, k);
  frame = λ k. omega arith;
  end = λ by s. omega arith;
  step = λ by s. omega arith;
}

places_low : (things : List Thing) → ThingsLow things → OfPlaces Low (places_of things)
places_low [] h = tt
places_low (AValof f ∷ things) h = places_low things h.1
places_low (ARoutine r ∷ things) h = (h.0, places_low things h.1)
places_low (Data m (AStatic w) ∷ things) h = places_low things h.1
places_low (Data m (ATable ws) ∷ things) h = places_low things h.1
places_low (Data m (AText bytes) ∷ things) h = places_low things h.1

valofs_low : (things : List Thing) → ThingsLow things → OfValofs Low (valofs_of things)
valofs_low [] h = tt
valofs_low (AValof f ∷ things) h = (h.0, valofs_low things h.1)
valofs_low (ARoutine r ∷ things) h = valofs_low things h.1
valofs_low (Data m d ∷ things) h = valofs_low things h.1

pub roots_are_shallow : RootsAreShallow
roots_are_shallow coding ds h =
    let things = found_in_section ds in
    let low = declarations_low nothing_known section_start ds 0 h in
    all_roots IsShallow Low suits coding (core_of ds) (places_low things low) (valofs_low things low)
