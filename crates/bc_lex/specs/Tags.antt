-- The symbols that may have a tag: the section brackets.
use Rattle.std.specs.Prelude.{Bool, true, false}
use Rattle.bc_lex_tokens.specs.declared.symbol.Symbol.{Symbol}
use Rattle.bc_lex_tokens.specs.declared.symbol.Symbol.TheVariants as symbol

-- whether a symbol may have a tag
abbrev pub has_tag : Symbol → Bool
has_tag symbol.OpenSection = true
has_tag symbol.CloseSection = true
has_tag _ = false
