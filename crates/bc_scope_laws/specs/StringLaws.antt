-- The law about strings that `bc_scope_laws::string_laws` proves.
use Rattle.std.specs.Prelude.{ℕ, ◌≡◌, ◌≤◌, List, [], ◌∷◌, ◌++◌, length, All}
use Rattle.bc_lex_tokens.specs.Token.{Kind, Lexeme, Sign, Name, Number, Character, String}
use Rattle.bc_lex.specs.Files.{File}
use Rattle.bc_lex.specs.Quotes.{Spells}
use Rattle.bc_lex.specs.Tokens.{HasTokens}
use Rattle.bc_scope_defs.specs.Characters.{decoded}

-- the text between the quotes spells the bytes that the string has in the meaning, at most 255
pub record IsDecoded (string : List ℕ) : Type 0 where
  pub text : List ℕ
  pub signs : string ≡ 34 ∷ (text ++ 34 ∷ [])
  pub spelled : Spells 34 text (decoded string)
  pub short : length (decoded string) ≤ 255

-- if the token is a string, this holds of it
abbrev pub IsDecodedKind : Kind → Type 0
IsDecodedKind (Sign s) = Unit {0}
IsDecodedKind (Name n) = Unit {0}
IsDecodedKind (Number n) = Unit {0}
IsDecodedKind (Character c) = Unit {0}
IsDecodedKind (String s) = IsDecoded s

-- this holds of each string among the tokens of a source
abbrev pub StringsAreDecoded : Type 0
StringsAreDecoded = (files : List File) (main : ℕ) (tokens : List Lexeme) → HasTokens files main tokens → All (λ t. IsDecodedKind t.kind) tokens
