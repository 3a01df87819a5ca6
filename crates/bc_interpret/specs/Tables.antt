-- For proofs: which routines a table holds.
use Rattle.std.specs.Prelude.{ℕ, ◌≡◌, ◌==◌, ◌+◌, cond, List, [], ◌∷◌, All, Option, Some, None}
use Rattle.bc_core.specs.Commands.{Place}
use Rattle.bc_core.specs.Map.{Placed}
use Rattle.bc_core.specs.Meaning.{Callee, callee, callee_among, or_else}
use Rattle.bc_interpret_steps.specs.declared.sections.Callable.{Callable}
use Rattle.bc_interpret_steps.specs.Sections.{callee_of, IsSized}

-- the first routine of the table with this address
abbrev pub found_in : List Callable → ℕ → Option Callee
found_in [] a = None
found_in (e ∷ es) a = cond (e.address == a) (Some (callee_of e)) (found_in es a)

-- the routines of a section were appended to a table
pub record Adds (section : Placed) (old new : List Callable) : Type 0 where
  pub finds : (a : ℕ) → found_in new a ≡ or_else (found_in old a) (callee_among section 1 section.core.places a)
  pub sized : All IsSized old → All IsSized new

-- those of the section's places before this label were appended
pub record Adding (section : Placed) (label : ℕ) (left : List Place) (old new : List Callable) : Type 0 where
  pub finds : (a : ℕ)
      → or_else (found_in old a) (callee_among section 1 section.core.places a) ≡ or_else (found_in new a) (callee_among section label left a)
  pub sized : All IsSized old → All IsSized new

-- this place was appended if it is a routine
pub record AddsPlace (section : Placed) (label : ℕ) (place : Place) (old new : List Callable) : Type 0 where
  pub finds : (left : List Place) (a : ℕ)
      → or_else (found_in old a) (callee_among section label (place ∷ left) a) ≡ or_else (found_in new a) (callee_among section (label + 1) left a)
  pub sized : All IsSized old → All IsSized new

-- the routines of a program are those of the table, followed by those of the remaining sections
pub record Covers (program left : List Placed) (table : List Callable) : Type 0 where
  pub finds : (a : ℕ) → callee program a ≡ or_else (found_in table a) (callee left a)
  pub sized : All IsSized table
