-- Worked examples of the definitions, computed at each check.
use Rattle.std.specs.Prelude.{◌≡◌, false, List, [], ◌∷◌, codes}
use Rattle.std.proofs.Common.{refl, arith}
use Rattle.bc_lex_tokens.specs.declared.symbol.Symbol.TheVariants as symbol
use Rattle.bc_lex_tokens.specs.Spelling.{symbol_of}
use Rattle.bc_lex_tokens.specs.Token.{Sign, Name}
use Rattle.bc_lex.specs.Gaps.{IsBlank, Space, Line, Nothing, More}
use Rattle.bc_lex.specs.Quotes.{IsCharacter, Escape, IsBadEscape, Bad}
use Rattle.bc_lex.specs.Lexemes.{IsNumber, Octal, Hexadecimal, value_after, IsLexeme, Word, Named}
use Rattle.bc_lex.specs.Files.{File}
use Rattle.bc_lex.specs.Tokens.{token, End, Next, Whole, HasTokens}

-- 12, #17 and #X1F
twelve : value_after 10 0 (codes "12") ≡ 12
twelve = refl

octal : IsNumber (codes "#17") (codes "8") 15
octal = Octal 49 (codes "7") (codes "8") refl refl

hexadecimal : IsNumber (codes "#X1F") (codes " G") 31
hexadecimal = Hexadecimal 49 (codes "F") (codes " G") refl refl

-- a line break, as *N in either case
line_break : IsCharacter 39 (codes "*n") 10
line_break = Escape 110 10 refl

-- *Q is no escape
bad_escape : IsBadEscape (codes "*Q\"")
bad_escape = Bad 81 (codes "\"") (λ e. cc) refl

-- a comment up to the end of its line; the line break follows it
comment : IsBlank (codes "// a") (10 ∷ codes "B")
comment = Line 47 47 (codes " a") (10 ∷ codes "B") refl refl refl

-- LOGAND is a reserved word, LOGANDS a name
word : IsLexeme (codes "LOGAND") (codes " ") (Sign symbol.LogicalAnd)
unfolding symbol_of
word = Word (codes "LOGAND") (codes " ") symbol.LogicalAnd (refl, refl) refl refl

name : IsLexeme (codes "LOGANDS") [] (Name (codes "LOGANDS"))
unfolding symbol_of
name = Named (codes "LOGANDS") [] (refl, refl) tt refl

-- one file, ` AB`, with one token
abbrev source : List File
source = record { name = codes "M"; text = codes " AB" } ∷ []

one_token : HasTokens source 0 (token 0 1 false (Name (codes "AB")) (codes "AB") ∷ [])
unfolding symbol_of
one_token =
    Next 8 0 0 0 false (codes " ") (codes "AB") [] (Name (codes "AB")) [] Whole
    (More (codes " ") [] (codes "AB") (Space 32 (codes "AB") refl) (Nothing (codes "AB"))) (Named (codes "AB") [] (refl, refl) tt refl) (λ e. cc)
    (omega arith)
    (End 8 0 1 3 false [] (Nothing []))
