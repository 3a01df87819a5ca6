-- For proofs: the scope after a part has been walked. After an error it is unspecified, and no caller reads it.
use Rattle.std.specs.Prelude.{◌≡◌, List, Result, Ok, Err}
use Rattle.bc_scope_names.specs.declared.error.ScopeError.{ScopeError}
use Rattle.bc_scope_names.specs.declared.scope.Entry.{Entry}
use Rattle.bc_scope_names.specs.View.{Extends}

-- without an error the scope is as it was
abbrev pub Keeps : {X : Type 0} → Result X ScopeError → (scope scope_after : List Entry) → Type 0
Keeps (Ok x) scope scope_after = scope_after ≡ scope
Keeps (Err e) scope scope_after = Unit {0}

-- without an error the scope extends what it was
abbrev pub Grows : {X : Type 0} → Result X ScopeError → (scope scope_after : List Entry) → Type 0
Grows (Ok x) scope scope_after = Extends scope scope_after
Grows (Err e) scope scope_after = Unit {0}
