-- When a source is accepted: it has tokens, these are a section, and the section has code.
use Rattle.std.specs.Prelude.{ℕ, ◌≡◌, ◌≤◌, List, [], ◌∷◌, Ok, None}
use Rattle.bc_lex_tokens.specs.Token.{Lexeme}
use Rattle.bc_lex.specs.Files.{File}
use Rattle.bc_lex.specs.Tokens.{HasTokens}
use Rattle.bc_parse_tree.specs.Tree.{Declarations}
use Rattle.bc_parse_tree.specs.Size.{declarations_size}
use Rattle.bc_parse_tree.specs.Height.{declarations_height}
use Rattle.bc_parse.specs.Parsing.{parsed, TokensSpell}
use Rattle.bc_scope_defs.specs.Faults.{section_fault}
use Rattle.bc_gen_defs.specs.Section.{labels_suffice}
use Rattle.bc_scope_defs.specs.Translation.{core_of}
use Rattle.bc_gen.specs.Chosen.{coding}

-- The source has these tokens, and they are those of this section, which is within the parser's limits of size and nesting.
pub record IsSection (files : List File) (main : ℕ) (tokens : List Lexeme) (section : Declarations) : Type 0 where
  pub lexed : HasTokens files main tokens
  pub read : parsed tokens ≡ Ok section
  pub spelled : TokensSpell tokens section
  pub small : declarations_size section ≤ 60000
  pub nests : declarations_height section ≤ 200

-- The source is this section, which has no fault and takes at most 20,000 labels.
pub record IsAccepted (files : List File) (main : ℕ) (section : Declarations) : Type 0 where
  pub tokens : List Lexeme
  pub is_section : IsSection files main tokens section
  pub faultless : section_fault section ≡ None
  pub labelled : labels_suffice coding (core_of section)

-- The mains are these sections, in this order.
abbrev pub AreAccepted : List File → List ℕ → List Declarations → Type 0
AreAccepted files [] [] = Unit {0}
AreAccepted files (main ∷ mains) (section ∷ sections) = IsAccepted files main section × AreAccepted files mains sections
AreAccepted files _ _ = ⊥
