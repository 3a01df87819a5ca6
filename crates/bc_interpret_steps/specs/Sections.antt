-- The interpreter's sections as placed sections of bc_core, and what its table of routines must hold.
use Rattle.std.specs.Prelude.{ℕ, ◌≡◌, ◌==◌, true, false, List, [], ◌∷◌, map, All, slice_index_or, Option, Some, None}
use Rattle.bc_core.specs.Layout.{frame_size}
use Rattle.bc_core.specs.View.{routine_of, valof_of}
use Rattle.bc_core.specs.View as view
use Rattle.bc_core.specs.Map.{Placed}
use Rattle.bc_core.specs.Meaning.{Callee, OfSection, callee, of_library}
use Rattle.bc_core.specs.Primitive.{primitives, primitive_among}
use Rattle.bc_interpret_steps.specs.declared.sections.Section.{Section}
use Rattle.bc_interpret_steps.specs.declared.sections.Callable.{Callable}

-- a section, with the addresses of its labels
abbrev pub placed_of : Section → Placed
placed_of s = record { core = view.section (s.places.now, s.valofs.now); address = λ l. slice_index_or s.addresses.now l 0 }

-- the program of these sections
abbrev pub program_of : List Section → List Placed
program_of ss = map placed_of ss

-- the routine of an entry, as the definitions have it
abbrev pub callee_of : Callable → Callee
callee_of e = OfSection (placed_of e.section.now) (routine_of e.routine.now)

-- the first routine of the table with this address
abbrev pub entry_among : List Callable → ℕ → Option Callable
entry_among [] a = None
entry_among (e ∷ es) a = elim (e.address == a) [ true ↦ Some e | false ↦ entry_among es a ]

-- the entry of the table that is found for this address, if there is one
abbrev pub IsFound : List Callable → ℕ → Option Callable → Type 0
IsFound table a found = found ≡ entry_among table a

-- what is called at this address: the routine of the table, else the primitive
abbrev pub called : Option Callable → ℕ → Option Callee
called (Some e) a = Some (callee_of e)
called None a = of_library (primitive_among primitives a)

-- the recorded frame size is the one that the routine takes
abbrev pub IsSized : Callable → Type 0
IsSized e = e.frame ≡ frame_size (map valof_of e.section.now.valofs.now) (routine_of e.routine.now)

-- the table lists the routines of the program, with their frame sizes
pub record IsTable (program : List Placed) (table : List Callable) : Type 0 where
  pub finds : (a : ℕ) → callee program a ≡ called (entry_among table a) a
  pub sized : All IsSized table
