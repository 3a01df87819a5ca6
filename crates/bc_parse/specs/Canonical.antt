-- Tokens that are the canonical spelling of a section, within the parser's bounds.
use Rattle.std.specs.Prelude.{◌≤◌, List}
use Rattle.bc_lex_tokens.specs.Token.{Lexeme}
use Rattle.bc_parse_tree.specs.Parts.{Part}
use Rattle.bc_parse_tree.specs.Tree.{Declarations}
use Rattle.bc_parse_tree.specs.Height.{declarations_height}
use Rattle.bc_parse_tree.specs.Spelling.{SpellsSection}
use Rattle.bc_parse_tree.specs.Canonical.{section_spelling}
use Rattle.bc_parse_laws.specs.Open.{most_open}
use Rattle.bc_parse_laws.specs.Repeated.{RepeatsNoValof}
use Rattle.bc_parse_laws.specs.Tokens.{IsSpelling}

-- The grammar has a spelling for the section, and these tokens are the canonical one, without line breaks and tags.
-- The section nests at most 200 deep, at most 400 parentheses are open at once, and no VALOF's body precedes a REPEAT
-- word.
pub record IsCanonical (ds : Declarations) (ts : List Lexeme) : Type 0 where
  pub some_spelling : List Part
  pub is_spelled : SpellsSection ds some_spelling
  pub tokens : IsSpelling ds ts
  pub nests : declarations_height ds ≤ 200
  pub brackets : most_open 0 (section_spelling ds) ≤ 400
  pub repeats : RepeatsNoValof (section_spelling ds)
