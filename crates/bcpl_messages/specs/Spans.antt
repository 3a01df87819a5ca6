-- The span of a token in the sources, as messages give it.
use Rattle.std.specs.Prelude.{◌≡◌, Option, Some, None}
use Rattle.bc_lex_tokens.specs.declared.token.Token.{Token}
use Rattle.bcpl_places.specs.declared.Span.{Span}

-- The span is that of the token, if there is a token.
abbrev pub IsSpanOf : Option Token → Span → Type 0
IsSpanOf None span = Unit
IsSpanOf (Some token) span = (span.file ≡ token.file) × (span.start ≡ token.start) × (span.end ≡ token.end)
