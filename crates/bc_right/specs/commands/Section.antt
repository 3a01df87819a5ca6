-- Sections whose routines' code is in the store.
use Rattle.std.specs.Prelude.{ℕ, List, [], ◌∷◌}
use Rattle.bc_core.specs.Commands as commands
use Rattle.bc_core.specs.Commands.{Place}
use Rattle.bc_core.specs.Level.{level_after_parameters}
use Rattle.bc_core.specs.Map.{Placed}
use Rattle.bc_gen_defs.specs.Bodies.{bodies_from, level_of}
use Rattle.bc_gen_defs.specs.Section.{emit_routines}
use Rattle.bc_right.specs.steps.Landing.{Moment, Stands}
use Rattle.bc_right.specs.steps.Premises.{Roots, BodiesCode, RootsRight}
use Rattle.bc_right.specs.commands.Levelled.{BodyLevelled, ValofsLevelled}
use Rattle.bc_right.specs.commands.Calls.{ProgramStands}

abbrev pub PlacesLevelled : (ℕ → ℕ) → List Place → Type 0
PlacesLevelled levels [] = Unit {0}
PlacesLevelled levels (commands.Code r ∷ places) = BodyLevelled levels r.body (level_after_parameters r.parameters) × PlacesLevelled levels places
PlacesLevelled levels (commands.Static w ∷ places) = PlacesLevelled levels places
PlacesLevelled levels (commands.Table ws ∷ places) = PlacesLevelled levels places
PlacesLevelled levels (commands.Text bytes ∷ places) = PlacesLevelled levels places

-- The code of a section's routines is somewhere in the store, and its labels are the section's places.
pub record SectionStands (S : Moment) (section : Placed) : Type 0 where
  pub over : BodiesCode → Roots
  pub begin : ℕ
  pub first : ℕ
  pub end : ℕ
  pub right : RootsRight section.address (level_of section.core.valofs) S over
  pub places : PlacesLevelled (level_of section.core.valofs) section.core.places
  pub valofs : ValofsLevelled (level_of section.core.valofs) section.core.valofs
  pub stands : Stands section.address S begin
      (emit_routines (λ i. i) (over (bodies_from (λ i. i) over 0 section.core.valofs)) 0 section.core.places first).0 end

-- all sections' code is in the store
abbrev pub AllStand : Moment → List Placed → Type 0
AllStand S [] = Unit {0}
AllStand S (section ∷ sections) = SectionStands S section × AllStand S sections

-- If all sections' code is in the store, the program is as the law of calls needs it.
abbrev pub SectionsStand : Type 0
SectionsStand = (S : Moment) (program : List Placed) → AllStand S program → ProgramStands S program
