-- The meaning of a list of sections.
use Rattle.std.specs.Prelude.{ℕ, ◌==◌, true, false, List, [], ◌∷◌, ◌++◌, Option, Some, None}
use Rattle.bc_machine_defs.specs.Streams.{Content}
use Rattle.bc_parse_tree.specs.Tree.{Declarations}
use Rattle.bc_core.specs.Level.{level_after_parameters}
use Rattle.bc_core.specs.Map.{Map, Standing, Words}
use Rattle.bc_core.specs.Map as map
use Rattle.bc_core.specs.Words.{string_words}
use Rattle.bc_core.specs.Outcome.{Run, then_do}
use Rattle.bc_core.specs.Primitive.{Primitive, primitives, primitive_among, primitive_frame, primitive_work}
use Rattle.bc_core.specs.Start.{start_cells}
use Rattle.bc_core.specs.Meaning.{Call, Entered, Result, routine_value, meaning_over}
use Rattle.bc_scope_defs.specs.Meaning.{Around, worth, run_block}
use Rattle.bc_scope_defs.specs.Found.{Thing, AValof, ARoutine, Data, Datum, AStatic, ATable, AText, FoundRoutine, RoutineBody, Gives, Does, found_in_section}
use Rattle.bc_scope_defs.specs.Frames.{frame_of}

-- a section, and the address of each of its places, by label
pub record PlacedSection : Type 0 where
  pub declarations : Declarations
  pub address : ℕ → ℕ

-- each section with its addresses
abbrev pub placed_sections : List Declarations → List (ℕ → ℕ) → List PlacedSection
placed_sections (ds ∷ sections) (address ∷ addresses) =
    record { declarations = ds; address = address } ∷ placed_sections sections addresses
placed_sections _ _ = []

-- ---- Calls

-- what the meaning of a section depends on, from its two components
abbrev pub around : (ℕ → ℕ) → Call → Around
around address call = record { place = address; call = call }

-- what the body of a routine does in the frame at f, and its value
abbrev pub routine_does : Around → FoundRoutine → RoutineBody → ℕ → Run ℕ
routine_does A r (Gives e) f = (worth A r.names r.numbers e f (level_after_parameters r.parameters)).content.value
routine_does A r (Does b) f = then_do (run_block A r.names r.numbers b f (level_after_parameters r.parameters)) routine_value

-- what a call of a routine enters
abbrev pub routine_entered : (address : ℕ → ℕ) → FoundRoutine → Entered
routine_entered address r = record {
  parameters = r.parameters;
  frame = frame_of r;
  body = λ call f. routine_does (around address call) r r.body f;
}

-- the routine at the address a among what is found in a section
abbrev pub routine_among : (address : ℕ → ℕ) → List Thing → ℕ → Option Entered
routine_among address [] a = None
routine_among address (ARoutine r ∷ things) a =
    elim (address r.label == a) [ true ↦ Some (routine_entered address r) | false ↦ routine_among address things a ]
routine_among address (AValof f ∷ things) a = routine_among address things a
routine_among address (Data label d ∷ things) a = routine_among address things a

-- the first one, if there is one, else the second
abbrev pub or_else : Option Entered → Option Entered → Option Entered
or_else (Some e) other = Some e
or_else None other = other

-- what a call of a primitive enters
abbrev pub primitive_entered : Option Primitive → Option Entered
primitive_entered None = None
primitive_entered (Some primitive) = Some (record { parameters = 1; frame = primitive_frame; body = λ call f. primitive_work primitive f })

-- what a call of the address a enters, if it is that of a routine or primitive
abbrev pub find : List PlacedSection → ℕ → Option Entered
find [] a = primitive_entered (primitive_among primitives a)
find (s ∷ ss) a = or_else (routine_among s.address (found_in_section s.declarations) a) (find ss a)

-- ---- The store when a run begins

-- the words of a static, table or string
abbrev pub words_of : Datum → List ℕ
words_of (AStatic w) = w ∷ []
words_of (ATable words) = words
words_of (AText bytes) = string_words bytes

-- where the routines, statics, tables and strings of a section are
abbrev pub standing_of : (address : ℕ → ℕ) → List Thing → List Standing
standing_of address [] = []
standing_of address (ARoutine r ∷ things) = record { address = address r.label; holding = map.ARoutine r.global } ∷ standing_of address things
standing_of address (Data label d ∷ things) = record { address = address label; holding = Words (words_of d) } ∷ standing_of address things
standing_of address (AValof f ∷ things) = standing_of address things

-- the same for all sections
abbrev pub standing_in : List PlacedSection → List Standing
standing_in [] = []
standing_in (s ∷ ss) = standing_of s.address (found_in_section s.declarations) ++ standing_in ss

-- The meaning of sections in n turns, where a map says which addresses their places have, over the streams that are
-- given.
abbrev pub meaning_of_sections : List Declarations → Map → Content → ℕ → Result
meaning_of_sections sections map streams n =
    let program = placed_sections sections map.places in
    meaning_over (start_cells (standing_in program)) (find program) map.stack_base streams n
