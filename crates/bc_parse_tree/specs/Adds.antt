-- For proofs: which tokens a call appends.
use Rattle.std.specs.Prelude.{◌≡◌, ℕ, Bool, true, false, List, [], ◌∷◌, ◌++◌, Vec, Result, IfOk}
use Rattle.std.specs.declared.alloc.Global.{Global}
use Rattle.bc_lex_tokens.specs.declared.symbol.Symbol.{Symbol}
use Rattle.bc_lex_tokens.specs.declared.token.TokenKind.{TokenKind}
use Rattle.bc_parse_tree.specs.Parts.{Part, A, kind_parts}
use Rattle.bc_parse_tree.specs.Canonical.{after_first}

-- unless memory ran out, the call appended exactly these tokens
abbrev pub Adds : {X E : Type 0} → Result X E → Vec TokenKind Global → Vec TokenKind Global → List Part → Type 0
Adds result before after ts = IfOk result (λ _. kind_parts after.items ≡ kind_parts before.items ++ ts)

-- the separator before an element of a list, which the first element doesn't have
abbrev pub separator : Bool → Symbol → List Part
separator true s = []
separator false s = A s ∷ []

-- elements, each with its separator before it; if nothing precedes them, without the first separator
abbrev pub joined : Bool → List Part → List Part
joined true ts = after_first ts
joined false ts = ts

-- unless memory ran out, the call appended exactly these bytes
abbrev pub AddsText : {X E : Type 0} → Result X E → Vec ℕ Global → Vec ℕ Global → List ℕ → Type 0
AddsText result before after bytes = IfOk result (λ _. after.items ≡ before.items ++ bytes)
