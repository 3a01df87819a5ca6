-- Calls and routines: when their code is in the store, and that it does what they mean.
use Rattle.std.specs.Prelude.{ℕ, ◌≡◌, ◌+◌, List, Some}
use Rattle.bc_core.specs.Commands.{Routine}
use Rattle.bc_core.specs.Level.{level_after_parameters}
use Rattle.bc_core.specs.Map.{Placed}
use Rattle.bc_core.specs.Primitive.{Primitive, primitive_frame, primitive_work}
use Rattle.bc_core.specs.Meaning.{OfSection, OfLibrary, callee, calls, in_frame, with_arguments}
use Rattle.bc_gen_defs.specs.Bodies.{bodies_from, emit_body, level_of}
use Rattle.bc_right.specs.steps.Landing.{Moment, Stands}
use Rattle.bc_right.specs.steps.Premises.{Roots, BodiesCode, CallLands, RootsRight}
use Rattle.bc_right.specs.commands.Levelled.{BodyLevelled, ValofsLevelled}

-- The code of a routine is at the routine's address, and the VALOFs in it are at their levels.
pub record RoutineStands (S : Moment) (section : Placed) (r : Routine) (v : ℕ) : Type 0 where
  pub over : BodiesCode → Roots
  pub first : ℕ
  pub end : ℕ
  pub right : RootsRight section.address (level_of section.core.valofs) S over
  pub levelled : BodyLevelled (level_of section.core.valofs) r.body (level_after_parameters r.parameters)
  pub valofs : ValofsLevelled (level_of section.core.valofs) section.core.valofs
  pub stands : Stands section.address S v (emit_body (λ i. i) (over (bodies_from (λ i. i) over 0 section.core.valofs)) r.body
      (level_after_parameters r.parameters) first).0 end

abbrev pub ProgramStands : Moment → List Placed → Type 0
ProgramStands S program = (v : ℕ) (section : Placed) (r : Routine) → callee program v ≡ Some (OfSection section r) → RoutineStands S section r v

abbrev pub LibraryLands : Moment → List Placed → Type 0
LibraryLands S program =
    (most v : ℕ) (q : Primitive) → callee program v ≡ Some (OfLibrary q)
    → CallLands S most v (λ vs f. in_frame f primitive_frame (with_arguments 1 (f + 2) vs (primitive_work q f)))

-- If routines and primitives are in the store, each call does what it means.
abbrev pub CallsLand : Type 0
CallsLand =
    (S : Moment) (program : List Placed) → ProgramStands S program → LibraryLands S program
    → (n v : ℕ) → CallLands S n v (calls program n v)
