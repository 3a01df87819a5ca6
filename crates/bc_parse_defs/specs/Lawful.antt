-- What a closed list is, said without how it is computed: the tokens, with some more closing brackets and line
-- breaks.
use Rattle.std.specs.Prelude.{ℕ, ◌≡◌, ◌+◌, Bool, true, false, not, List, [], ◌∷◌, ◌++◌, filter, Option, Some, None, slice_get}
use Rattle.bc_lex_tokens.specs.declared.symbol.Symbol.TheVariants as sign
use Rattle.bc_lex_tokens.specs.Token.{Lexeme}
use Rattle.bc_parse_tree.specs.Parts.{Part, A, Name, Number, Character, String, NewLine}
use Rattle.bc_parse_defs.specs.Closing.{Placed, kind_part, ends_command, begins_command, parts_in}

-- each token as a part, with its index, counted from `at`
abbrev pub placed_from : ℕ → List Lexeme → List Placed
placed_from at [] = []
placed_from at (t ∷ ts) = (kind_part t.kind, at) ∷ placed_from (at + 1) ts

-- whether a part is a line break
abbrev pub is_break : Part → Bool
is_break NewLine = true
is_break (A s) = false
is_break (Name n) = false
is_break (Number n) = false
is_break (Character n) = false
is_break (String s) = false

-- the list without its line breaks
abbrev pub without_breaks : List Placed → List Placed
without_breaks ps = filter (λ p. not (is_break p.0)) ps

-- the first list is repeated by the second, with each closing section bracket once or more
pub data RepeatsClosings : List Placed → List Placed → Type 0 where
  nothing : RepeatsClosings [] []
  kept : (p : Placed) (ts ps : List Placed) → RepeatsClosings ts ps → RepeatsClosings (p ∷ ts) (p ∷ ps)
  again : (at : ℕ) (ts ps : List Placed) → RepeatsClosings ((A sign.CloseSection, at) ∷ ts) ps
      → RepeatsClosings ((A sign.CloseSection, at) ∷ ts) ((A sign.CloseSection, at) ∷ ps)

-- whether a part is a section bracket
abbrev pub is_bracket : Part → Bool
is_bracket (A sign.OpenSection) = true
is_bracket (A sign.CloseSection) = true
is_bracket _ = false

-- if `n` sections are open before these parts, each of them is closed in these parts, and so is each that is opened
-- here
pub data Balanced : ℕ → List Part → Type 0 where
  nothing_open : Balanced 0 []
  opens : (n : ℕ) (ts : List Part) → Balanced (n + 1) ts → Balanced n (A sign.OpenSection ∷ ts)
  closes : (n : ℕ) (ts : List Part) → Balanced n ts → Balanced (n + 1) (A sign.CloseSection ∷ ts)
  passes : (n : ℕ) (p : Part) (ts : List Part) → is_bracket p ≡ false → Balanced n ts → Balanced n (p ∷ ts)

-- whether a line break precedes the token; no token, no line break
abbrev pub line_before : Option Lexeme → Bool
line_before None = false
line_before (Some t) = t.line_before

-- A line break is due between two parts: the left one can end a command, the right one can begin one, and a line
-- break precedes the right one's token.
pub record IsOwed (ts : List Lexeme) (left right : Placed) : Type 0 where
  pub ends : ends_command left.0 ≡ true
  pub begins : begins_command right.0 ≡ true
  pub line : line_before (slice_get ts right.1) ≡ true

-- no line break is missing: none is due between two neighbours
abbrev pub StandsWhereOwed : List Lexeme → List Placed → Type 0
StandsWhereOwed ts ps = (before after : List Placed) (left right : Placed) → ps ≡ before ++ left ∷ right ∷ after → IsOwed ts left right → ⊥

-- a line break that is between two parts, is due there, and has the index of the right one
pub record IsBetween (ts : List Lexeme) (before : List Placed) (at : ℕ) (after : List Placed) : Type 0 where
  pub left : Placed
  pub right : Placed
  pub front : List Placed
  pub back : List Placed
  pub left_is : before ≡ front ++ left ∷ []
  pub right_is : after ≡ right ∷ back
  pub index : right.1 ≡ at
  pub owed : IsOwed ts left right

-- no line break is superfluous: each is between two parts where it is due
abbrev pub StandsOnlyWhereOwed : List Lexeme → List Placed → Type 0
StandsOnlyWhereOwed ts ps = (before after : List Placed) (at : ℕ) → ps ≡ before ++ (NewLine, at) ∷ after → IsBetween ts before at after

-- The closed list of tokens. It has a line break between two parts exactly where one is due. Without line breaks it
-- is the tokens, with each closing section bracket once or more. Its section brackets balance.
pub record IsClosedList (ts : List Lexeme) (ps : List Placed) : Type 0 where
  pub owed : StandsWhereOwed ts ps
  pub only : StandsOnlyWhereOwed ts ps
  pub tokens : RepeatsClosings (placed_from 0 ts) (without_breaks ps)
  pub brackets : Balanced 0 (parts_in ps)
