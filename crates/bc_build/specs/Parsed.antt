-- What a main is: the section as which its tokens are parsed.
use Rattle.std.specs.Prelude.{ℕ, ◌≡◌, List, [], ◌∷◌, Ok}
use Rattle.bc_lex_tokens.specs.Token.{Lexeme}
use Rattle.bc_lex.specs.Files.{File}
use Rattle.bc_lex.specs.Tokens.{HasTokens}
use Rattle.bc_parse_tree.specs.Tree.{Declarations}
use Rattle.bc_parse.specs.Parsing.{parsed}

-- The source has these tokens, and they are parsed as this section.
pub record IsParsed (files : List File) (main : ℕ) (section : Declarations) : Type 0 where
  pub tokens : List Lexeme
  pub lexed : HasTokens files main tokens
  pub read : parsed tokens ≡ Ok section

-- The mains are parsed as these sections, in this order.
abbrev pub AreParsed : List File → List ℕ → List Declarations → Type 0
AreParsed files [] [] = Unit {0}
AreParsed files (main ∷ mains) (section ∷ sections) = IsParsed files main section × AreParsed files mains sections
AreParsed files _ _ = ⊥
