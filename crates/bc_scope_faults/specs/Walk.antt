-- For proofs: the result of walking a part, as a function of the names and numbers before it; and ways to combine parts.
use Rattle.std.specs.Prelude.{ℕ, List, ◌++◌, max, Option}
use Rattle.bc_scope_names.specs.View.{scope_view, numbers_view}
use Rattle.bc_scope_names.specs.declared.scope.Entry.{Entry}
use Rattle.bc_scope_faults.specs.declared.progress.Progress.{Progress}
use Rattle.bc_scope_defs.specs.Scope.{Env, Numbers}
use Rattle.bc_scope_defs.specs.Found.{Thing}
use Rattle.bc_scope_defs.specs.Faults.{Fault, or_else}

-- the names and numbers at one point of a section
pub record Here : Type 0 where
  pub names : Env
  pub at : Numbers

-- the names and numbers that a walk has reached
abbrev pub here : List Entry → Progress → Here
here scope progress = record { names = scope_view scope; at = numbers_view progress.at }

-- a part's first fault, the frame size that it needs, the numbers after it, and the routines, VALOFs and data in it
pub record Walk : Type 0 where
  pub fault : Option Fault
  pub width : ℕ
  pub following : Numbers
  pub found : List Thing

-- a part of a section: its walk, from each point where it may be
abbrev pub Part : Type 0
Part = Here → Walk

-- one part after another
abbrev pub in_turn : Part → Part → Part
in_turn p q h =
    let a = p h in
    let b = q (record h { at = a.following }) in
    record { fault = or_else a.fault b.fault; width = max a.width b.width; following = b.following; found = a.found ++ b.found }

-- a part that needs a frame of at least w cells
abbrev pub at_least : ℕ → Part → Part
at_least w p h = let a = p h in record a { width = max w a.width }

-- a part with other names in scope
abbrev pub among : (Env → Env) → Part → Part
among f p h = p (record h { names = f h.names })

-- a part after something that may have a fault and takes no numbers
abbrev pub after_judged : (Here → Option Fault) → Part → Part
after_judged f p h = let a = p h in record a { fault = or_else (f h) a.fault }

-- the walk of declarations, and the names and the next free offset after them
pub record Declaring : Type 0 where
  pub walk : Walk
  pub names : Env
  pub level : ℕ

-- the walk of one side of an assignment, and the frame size that each of its expressions needs
pub record Siding : Type 0 where
  pub walk : Walk
  pub widths : List ℕ
