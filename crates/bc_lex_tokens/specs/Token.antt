-- Tokens as plain values: texts are lists of bytes, without addresses.
use Rattle.std.specs.Prelude.{ℕ, Bool, List, map}
use Rattle.bc_lex_tokens.specs.declared.symbol.Symbol.{Symbol}
use Rattle.bc_lex_tokens.specs.declared.token.TokenKind.{TokenKind}
use Rattle.bc_lex_tokens.specs.declared.token.TokenKind.TheVariants as kind
use Rattle.bc_lex_tokens.specs.declared.token.Token.{Token}

-- the kind of a token, with its value
pub data Kind : Type 0 where
  Sign : Symbol → Kind
  Name : List ℕ → Kind
  Number : ℕ → Kind
  Character : ℕ → Kind
  String : List ℕ → Kind

-- a token, and where it is
pub record Lexeme : Type 0 where
  pub kind : Kind
  pub text : List ℕ
  pub file : ℕ
  pub start : ℕ
  pub end : ℕ
  pub line_before : Bool

-- the kind of a token of the code
abbrev pub kind_of : TokenKind → Kind
kind_of (kind.Symbol s) = Sign s
kind_of (kind.Name text) = Name text.now
kind_of (kind.Number n) = Number n
kind_of (kind.Character c) = Character c
kind_of (kind.String text) = String text.now

-- kinds of tokens of the code
abbrev pub kinds_of : List TokenKind → List Kind
kinds_of = map kind_of

-- a token of the code
abbrev pub lexeme_of : Token → Lexeme
lexeme_of t = record { kind = kind_of t.kind; text = t.text.now; file = t.file; start = t.start; end = t.end; line_before = t.line_before }

-- tokens of the code
abbrev pub lexemes_of : List Token → List Lexeme
lexemes_of = map lexeme_of
