-- What the grammar is about: tokens without their place and tag, and line breaks that count as semicolons.
use Rattle.std.specs.Prelude.{ℕ, List, map}
use Rattle.bc_lex_tokens.specs.declared.symbol.Symbol.{Symbol}
use Rattle.bc_lex_tokens.specs.declared.token.TokenKind.{TokenKind}
use Rattle.bc_lex_tokens.specs.declared.token.TokenKind.TheVariants as kind
use Rattle.bc_parse_tree.specs.declared.part.Part as code
use Rattle.bc_parse_tree.specs.declared.part.Part.TheVariants as variant

-- an element of a closed list: the kind of a token, or a line break that counts as a semicolon
pub data Part : Type 0 where
  A : Symbol → Part
  Name : List ℕ → Part
  Number : ℕ → Part
  Character : ℕ → Part
  String : List ℕ → Part
  NewLine : Part

-- the program's `Part` as an element of a closed list
abbrev pub part : code.Part → Part
part (variant.Symbol s) = A s
part (variant.Name s) = Name s.now
part (variant.Number n) = Number n
part (variant.Character n) = Character n
part (variant.String s) = String s.now
part variant.NewLine = NewLine

-- the same for a list
abbrev pub parts : List code.Part → List Part
parts ts = map part ts

-- the kind of a token as an element of a closed list
abbrev pub kind_part : TokenKind → Part
kind_part (kind.Symbol s) = A s
kind_part (kind.Name s) = Name s.now
kind_part (kind.Number n) = Number n
kind_part (kind.Character n) = Character n
kind_part (kind.String s) = String s.now

-- the same for a list
abbrev pub kind_parts : List TokenKind → List Part
kind_parts ts = map kind_part ts
