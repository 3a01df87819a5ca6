-- The names in faults and in tokens.
use Rattle.std.specs.Prelude.{◌≡◌, ℕ, List, Option, Some, None, slice_get}
use Rattle.std.specs.Borrow.{Bor}
use Rattle.bc_lex_tokens.specs.declared.token.Token.{Token}
use Rattle.bc_lex_tokens.specs.declared.token.TokenKind.{TokenKind}
use Rattle.bc_lex_tokens.specs.declared.token.TokenKind.TheVariants as kind
use Rattle.bc_scope_names.specs.declared.error.ScopeError.{ScopeError}
use Rattle.bc_scope_names.specs.declared.error.ScopeError.TheVariants as code

-- the name in a fault, if it has one
abbrev pub name_of : ScopeError → Option (List ℕ)
name_of (code.Undeclared n) = Some n.now
name_of (code.DeclaredTwice n) = Some n.now
name_of (code.DynamicFree n) = Some n.now
name_of (code.GlobalNumber n) = Some n.now
name_of _ = None

-- a name of the code, as a list of bytes
abbrev pub named : Option (Bor (List ℕ)) → Option (List ℕ)
named None = None
named (Some n) = Some n.now

-- the name that a token is, if it is one
abbrev pub spelled : TokenKind → Option (List ℕ)
spelled (kind.Name n) = Some n.now
spelled _ = None

-- the same of a token that may be missing
abbrev pub spelled_at : Option Token → Option (List ℕ)
spelled_at None = None
spelled_at (Some t) = spelled t.kind

-- there is no name, or token i is this name
abbrev pub HasName : List Token → (i : ℕ) → Option (List ℕ) → Type 0
HasName tokens i None = Unit
HasName tokens i (Some n) = spelled_at (slice_get tokens i) ≡ Some n
