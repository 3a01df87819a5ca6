-- The faults of a text that begins with no blank, and the offset of the fault.
use Rattle.std.specs.Prelude.{◌≡◌, ℕ, ◌+◌, ◌<◌, Bool, true, false, not, ◌==◌, ◌||◌, List, ◌∷◌, ◌++◌, length, Some, codes}
use Rattle.bc_lex_tokens.specs.declared.symbol.Symbol.{Symbol}
use Rattle.bc_lex_tokens.specs.Spelling.{symbol_of}
use Rattle.bc_lex.specs.declared.fault.FaultKind.{FaultKind}
use Rattle.bc_lex.specs.declared.fault.FaultKind.TheVariants as faults
use Rattle.bc_lex.specs.Bytes.{is_letter, is_digit, is_space}
use Rattle.bc_lex.specs.Gaps.{Holds, opens_line, opens_block}
use Rattle.bc_lex.specs.Quotes.{IsCharacter, Spells, IsCut, IsBadEscape}
use Rattle.bc_lex.specs.Lexemes.{Ends, is_digit_of, IsNumber}

-- whether a byte can only begin a sign
abbrev pub is_sign_byte : ℕ → Bool
is_sign_byte b = not (is_letter b || is_digit b || (b == 35) || (b == 34) || (b == 39) || is_space b)

-- a # is followed neither by an octal digit nor by X and a hexadecimal digit
abbrev pub NoDigits : List ℕ → Type 0
NoDigits bs = Ends (is_digit_of 8) bs × ((rest : List ℕ) → bs ≡ 88 ∷ rest → Ends (is_digit_of 16) rest)

-- IsFaulty bytes kind at: these bytes begin with something that has this fault, at this offset
pub data IsFaulty : List ℕ → FaultKind → ℕ → Type 0 where
  -- a block comment that isn't closed
  OpenComment : (text : List ℕ) → (Holds (codes "*/") text → ⊥) → IsFaulty (codes "/*" ++ text) faults.Unterminated 0
  -- a number over 65,535
  LargeNumber : (text after : List ℕ) (n : ℕ) → IsNumber text after n → 65535 < n → IsFaulty (text ++ after) faults.NumberTooLarge 0
  -- a # without a digit of its base
  NoNumber : (after : List ℕ) → NoDigits after → IsFaulty (35 ∷ after) faults.BadCharacter 0
  -- a string with more than 255 characters
  LongString : (text after cs : List ℕ) → Spells 34 text cs → length cs ≡ 256 → IsFaulty (34 ∷ (text ++ after)) faults.StringTooLong 0
  -- a string that the end of the line or file cuts off before its 256th character
  OpenString : (text after cs : List ℕ) → Spells 34 text cs → length cs < 256 → IsCut after → IsFaulty (34 ∷ (text ++ after)) faults.Unterminated 0
  -- a string with a bad escape before or at its 256th character
  BadString : (text after cs : List ℕ) → Spells 34 text cs → length cs < 256 → IsBadEscape after → IsFaulty (34 ∷ (text ++ after)) faults.BadEscape
      (1 + length text)
  -- a character constant that begins with a bad escape
  BadConstant : (after : List ℕ) → IsBadEscape after → IsFaulty (39 ∷ after) faults.BadEscape 1
  -- a ' that is not followed by one character and a '
  OpenConstant : (after : List ℕ) → (IsBadEscape after → ⊥) → ((text rest : List ℕ) (c : ℕ) → after ≡ text ++ 39 ∷ rest → IsCharacter 39 text c → ⊥)
      → IsFaulty (39 ∷ after) faults.Unterminated 0
  -- a byte that begins no token
  NoToken : (b : ℕ) (after : List ℕ) → is_sign_byte b ≡ true → opens_line (b ∷ after) ≡ false → opens_block (b ∷ after) ≡ false
      → ((text rest : List ℕ) (s : Symbol) → b ∷ after ≡ text ++ rest → symbol_of text ≡ Some s → ⊥) → IsFaulty (b ∷ after) faults.BadCharacter 0
