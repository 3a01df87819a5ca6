-- Tokens as text. Bytes are given by their numbers.
use Rattle.std.specs.Prelude.{ℕ, ◌==◌, ◌||◌, nat_lt, List, [], ◌∷◌, Option, Some, None, if◌then◌else◌}
use Rattle.std.specs.Fmt.{decimal}
use Rattle.std.specs.List.{join_by}
use Rattle.bc_lex_tokens.specs.Spelling.{spelling_of}
use Rattle.bc_parse_tree.specs.Parts.{Part, A, Name, Number, Character, String, NewLine}

-- the letter after `*` if a byte is written as an escape: line break, tab, backspace, page and return, the quote and
-- `*` itself
abbrev pub escape_of : ℕ → Option ℕ
escape_of b =
    if b == 10 then Some 78
    else (if b == 9 then Some 84
    else (if b == 8 then Some 66
    else (if b == 12 then Some 80
    else (if b == 13 then Some 67
    else (if (b == 39) || (b == 42) then Some b
    else None)))))

-- a character constant for this byte: between quotes, as an escape if a letter for it is given
abbrev pub in_signs : ℕ → Option ℕ → List ℕ
in_signs b None = 39 ∷ b ∷ 39 ∷ []
in_signs b (Some e) = 39 ∷ 42 ∷ e ∷ 39 ∷ []

-- the text of a character constant; a value that isn't a byte is written as a number
abbrev pub character_text : ℕ → List ℕ
character_text c = if nat_lt c 256 then in_signs c (escape_of c) else decimal c

-- the text of a token: numbers in decimal, names and strings as the source has them
abbrev pub text_of : Part → List ℕ
text_of (A s) = spelling_of s
text_of (Name s) = s
text_of (Number n) = decimal n
text_of (Character c) = character_text c
text_of (String s) = s
text_of NewLine = 10 ∷ []

-- the text of a list of tokens, with one blank between neighbours
abbrev pub rendered : List Part → List ℕ
rendered ts = join_by text_of (32 ∷ []) ts
