-- Scopes and numbers of the code as those of the definitions, and what it means that a scope grew.
pub use Rattle.bc_scope_names.specs.Known.{meant_view}
use Rattle.std.specs.Prelude.{◌≡◌, List, [], ◌∷◌, length, take}
use Rattle.bc_scope_names.specs.declared.scope.Entry.{Entry}
use Rattle.bc_scope_names.specs.declared.scope.Entry.TheVariants as entry
use Rattle.bc_scope_names.specs.declared.numbers.Numbers.{Numbers}
use Rattle.bc_scope_defs.specs.Scope as scoping
use Rattle.bc_scope_defs.specs.Scope.{Env, nothing_known, with_name}
use Rattle.bc_scope_defs.specs.Scoping.{in_routine, in_valof}

-- the names in scope after one more entry
abbrev pub after_one : Entry → Env → Env
after_one (entry.Name n position hidden) E = with_name n.name.now (meant_view n.meant) E
after_one (entry.Routine borders) E = in_routine E
after_one (entry.Valof borders) E = in_valof E

-- the names in scope after more entries, oldest first
abbrev pub after_entries : List Entry → Env → Env
after_entries [] E = E
after_entries (e ∷ es) E = after_entries es (after_one e E)

-- the names in scope by all entries of a scope of the code
unfoldable pub scope_view : List Entry → Env
scope_view es = after_entries es nothing_known

-- the scope `after` still begins with all entries of `before`
unfoldable pub Extends : (before after : List Entry) → Type 0
Extends before after = take (length before) after ≡ before

-- the scope `after` has the names E, and still begins with all entries of `before`
abbrev pub Declares : (before after : List Entry) → Env → Type 0
Declares before after E = (scope_view after ≡ E) × Extends before after

-- numbers of the code, as the definitions have them
abbrev pub numbers_view : Numbers → scoping.Numbers
numbers_view n = record { place = n.place; valof = n.valof; label = n.label }
