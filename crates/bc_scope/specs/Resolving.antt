-- The contract of `resolve`.
use Rattle.std.specs.Prelude.{◌≡◌, List, None, Result, Ok, Err}
use Rattle.bc_core.specs.View.{section}
use Rattle.bc_core.specs.declared.command.Place.{Place}
use Rattle.bc_core.specs.declared.command.Valof.{Valof}
use Rattle.bc_parse_tree.specs.Tree.{Declarations}
use Rattle.bc_scope_names.specs.declared.error.ScopeError.{ScopeError}
use Rattle.bc_scope_faults.specs.Judged.{IsFault}
use Rattle.bc_scope_defs.specs.Translation.{core_of}
use Rattle.bc_scope_defs.specs.Faults.{section_fault}

-- a result means that the section has no fault, and the result is its translation; an error is the section's first fault, or Memory
abbrev pub Resolves : Result (List Place × List Valof) ScopeError → Declarations → Type 0
Resolves (Ok core) ds = (section_fault ds ≡ None) × (section core ≡ core_of ds)
Resolves (Err e) ds = IsFault e (section_fault ds)
