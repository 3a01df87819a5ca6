-- Lexemes: which token a text is, by the text and what follows it in its file. Each lexeme is as long as possible.
use Rattle.std.specs.Prelude.{◌≡◌, ◌≢◌, ℕ, ◌+◌, ◌*◌, ◌<◌, ◌≤◌, Bool, true, false, List, [], ◌∷◌, ◌++◌, length, Some, None, is_some, unwrap_or}
use Rattle.std.specs.List.{list_all}
use Rattle.bc_lex_tokens.specs.declared.symbol.Symbol.{Symbol}
use Rattle.bc_lex_tokens.specs.Spelling.{symbol_of}
use Rattle.bc_lex_tokens.specs.Token.{Kind, Sign, Name, Number, Character, String}
use Rattle.bc_lex.specs.Bytes.{is_letter, is_name_byte, digit_of}
use Rattle.bc_lex.specs.Gaps.{opens_line, opens_block}
use Rattle.bc_lex.specs.Quotes.{IsCharacter, Spells}
use Rattle.bc_lex.specs.Tags.{has_tag}

-- a run of bytes that pass a test ends here: by another byte, or by the end of the file
abbrev pub Ends : (ℕ → Bool) → List ℕ → Type 0
Ends test [] = Unit {0}
Ends test (b ∷ bs) = test b ≡ false

-- a letter, followed by letters, digits and dots
abbrev pub IsName : List ℕ → Type 0
IsName [] = ⊥
IsName (b ∷ bs) = (is_letter b ≡ true) × (list_all is_name_byte bs ≡ true)

-- whether a byte is a digit of this base
abbrev pub is_digit_of : ℕ → ℕ → Bool
is_digit_of base b = is_some (digit_of base b)

-- the value of more digits after those of the value n
abbrev pub value_after : ℕ → ℕ → List ℕ → ℕ
value_after base n [] = n
value_after base n (b ∷ bs) = value_after base (n * base + unwrap_or (digit_of base b) 0) bs

-- IsNumber text after n: the text is a number constant with the value n
pub data IsNumber : List ℕ → List ℕ → ℕ → Type 0 where
  -- 12
  Decimal : (b : ℕ) (bs after : List ℕ) → list_all (is_digit_of 10) (b ∷ bs) ≡ true → Ends (is_digit_of 10) after
      → IsNumber (b ∷ bs) after (value_after 10 0 (b ∷ bs))
  -- #17
  Octal : (b : ℕ) (bs after : List ℕ) → list_all (is_digit_of 8) (b ∷ bs) ≡ true → Ends (is_digit_of 8) after
      → IsNumber (35 ∷ b ∷ bs) after (value_after 8 0 (b ∷ bs))
  -- #X1F
  Hexadecimal : (b : ℕ) (bs after : List ℕ) → list_all (is_digit_of 16) (b ∷ bs) ≡ true → Ends (is_digit_of 16) after
      → IsNumber (35 ∷ 88 ∷ b ∷ bs) after (value_after 16 0 (b ∷ bs))

-- the text doesn't begin with a letter
abbrev pub NoLetter : List ℕ → Type 0
NoLetter [] = Unit {0}
NoLetter (b ∷ bs) = is_letter b ≡ false

-- the text is the longest spelling of a sign here, and doesn't begin a comment
pub record IsSign (text after : List ℕ) (s : Symbol) : Type 0 where
  pub spelled : symbol_of text ≡ Some s
  pub sign : NoLetter text
  pub longest : (more rest : List ℕ) → more ≢ [] → after ≡ more ++ rest → symbol_of (text ++ more) ≡ None
  pub line : opens_line (text ++ after) ≡ false
  pub block : opens_block (text ++ after) ≡ false

-- IsLexeme text after kind: the text is a token of this kind
pub data IsLexeme : List ℕ → List ℕ → Kind → Type 0 where
  -- a reserved word
  Word : (text after : List ℕ) (s : Symbol) → IsName text → Ends is_name_byte after → symbol_of text ≡ Some s → IsLexeme text after (Sign s)
  -- any other name
  Named : (text after : List ℕ) → IsName text → Ends is_name_byte after → symbol_of text ≡ None → IsLexeme text after (Name text)
  -- a number of at most 65,535
  Numeral : (text after : List ℕ) (n : ℕ) → IsNumber text after n → n ≤ 65535 → IsLexeme text after (Number n)
  -- a character constant: one character between two '
  Constant : (text after : List ℕ) (c : ℕ) → IsCharacter 39 text c → IsLexeme (39 ∷ (text ++ 39 ∷ [])) after (Character c)
  -- a string: fewer than 256 characters between two "
  Literal : (text after cs : List ℕ) → Spells 34 text cs → length cs < 256 → IsLexeme (34 ∷ (text ++ 34 ∷ [])) after (String (34 ∷ (text ++ 34 ∷ [])))
  -- a sign that can't have a tag
  Marked : (text after : List ℕ) (s : Symbol) → IsSign text after s → has_tag s ≡ false → IsLexeme text after (Sign s)
  -- a section bracket with its whole tag
  Bracket : (text tag after : List ℕ) (s : Symbol) → symbol_of text ≡ Some s → has_tag s ≡ true → list_all is_name_byte tag ≡ true
      → Ends is_name_byte after → IsLexeme (text ++ tag) after (Sign s)
