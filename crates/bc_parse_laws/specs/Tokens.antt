-- Tokens that are the canonical spelling of a section.
use Rattle.std.specs.Prelude.{◌≡◌, false, List, [], map, All}
use Rattle.bc_lex_tokens.specs.declared.symbol.Symbol.TheVariants as sign
use Rattle.bc_lex_tokens.specs.Token.{Lexeme}
use Rattle.bc_lex_tokens.specs.Token as token
use Rattle.bc_parse_tree.specs.Tree.{Declarations}
use Rattle.bc_parse_tree.specs.Canonical.{section_spelling}
use Rattle.bc_parse_defs.specs.Closing.{kind_part, tag_of}

-- no line break precedes the token, and it has no tag if it closes a section
pub record IsBare (t : Lexeme) : Type 0 where
  pub no_line : t.line_before ≡ false
  pub no_tag : t.kind ≡ token.Sign sign.CloseSection → tag_of t ≡ []

-- the tokens are those of the canonical spelling, without line breaks and tags
pub record IsSpelling (ds : Declarations) (ts : List Lexeme) : Type 0 where
  pub parts : map (λ t. kind_part t.kind) ts ≡ section_spelling ds
  pub bare : All IsBare ts
