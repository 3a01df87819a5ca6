-- Closed lists: section brackets lose their tags, and line breaks that count as semicolons become parts.
use Rattle.std.specs.Prelude.{ℕ, ◌+◌, Bool, true, false, ◌&&◌, ◌||◌, List, [], ◌∷◌, ◌++◌, drop, replicate, map, nat_eq, Option, Some, None, Result, Ok, Err, if◌then◌else◌}
use Rattle.std.specs.Cmp.Lexicographic.{pointwise}
use Rattle.bc_lex_tokens.specs.declared.symbol.Symbol.{Symbol}
use Rattle.bc_lex_tokens.specs.declared.symbol.Symbol.TheVariants as sign
use Rattle.bc_lex_tokens.specs.Token.{Kind, Lexeme}
use Rattle.bc_lex_tokens.specs.Token as token
use Rattle.bc_parse_tree.specs.Parts.{Part, A, Name, Number, Character, String, NewLine}

-- A fault of section brackets: a `$)` that closes nothing, with its index among the tokens, or a section that is
-- still open at the end.
pub data Fault : Type 0 where
  NotOpen : ℕ → Fault
  Unclosed : Fault

-- goes on with the value of a result, or keeps its fault
infixl 10 ◌>>=◌
abbrev pub ◌>>=◌ : {A B : Type 0} → Result A Fault → (A → Result B Fault) → Result B Fault
(Ok x) >>= f = f x
(Err e) >>= f = Err e

-- the tag of a section bracket: its text after `$(` or `$)`
abbrev pub tag_of : Lexeme → List ℕ
tag_of t = drop 2 t.text

-- whether a list is empty
abbrev pub is_empty : {X : Type 0} → List X → Bool
is_empty [] = true
is_empty (x ∷ xs) = false

-- whether a closing bracket with the tag `tag` closes a section that was opened with the tag `opening`; without a tag
-- it closes any
abbrev pub is_matched : List ℕ → List ℕ → Bool
is_matched tag opening = is_empty tag || pointwise nat_eq opening tag

-- one more section is closed
abbrev pub one_more : Option (ℕ × List (List ℕ)) → Option (ℕ × List (List ℕ))
one_more None = None
one_more (Some c) = Some (c.0 + 1, c.1)

-- How many sections a bracket closes, up to the innermost one with its tag, and which stay open. Open sections are
-- given by their tags, innermost first.
abbrev pub closes : List ℕ → List (List ℕ) → Option (ℕ × List (List ℕ))
closes tag [] = None
closes tag (opening ∷ opened) = if is_matched tag opening then Some (1, opened) else one_more (closes tag opened)

-- whether a command can end with this symbol
abbrev pub symbol_ends : Symbol → Bool
symbol_ends sign.True = true
symbol_ends sign.False = true
symbol_ends sign.CloseBracket = true
symbol_ends sign.CloseSection = true
symbol_ends sign.Break = true
symbol_ends sign.Loop = true
symbol_ends sign.EndCase = true
symbol_ends sign.Return = true
symbol_ends sign.Finish = true
symbol_ends sign.Repeat = true
symbol_ends _ = false

-- whether a command can begin with this symbol
abbrev pub symbol_begins : Symbol → Bool
symbol_begins sign.OpenBracket = true
symbol_begins sign.Indirection = true
symbol_begins sign.OpenSection = true
symbol_begins sign.If = true
symbol_begins sign.Unless = true
symbol_begins sign.Test = true
symbol_begins sign.While = true
symbol_begins sign.Until = true
symbol_begins sign.For = true
symbol_begins sign.SwitchOn = true
symbol_begins sign.Case = true
symbol_begins sign.Default = true
symbol_begins sign.Break = true
symbol_begins sign.Loop = true
symbol_begins sign.EndCase = true
symbol_begins sign.Return = true
symbol_begins sign.Finish = true
symbol_begins sign.ResultIs = true
symbol_begins sign.Goto = true
symbol_begins sign.Let = true
symbol_begins sign.Manifest = true
symbol_begins sign.Static = true
symbol_begins sign.Global = true
symbol_begins _ = false

-- whether a command can end with this part
abbrev pub ends_command : Part → Bool
ends_command (A s) = symbol_ends s
ends_command NewLine = false
ends_command (Name n) = true
ends_command (Number n) = true
ends_command (Character n) = true
ends_command (String n) = true

-- whether a command can begin with this part
abbrev pub begins_command : Part → Bool
begins_command (A s) = symbol_begins s
begins_command NewLine = false
begins_command (Name n) = true
begins_command (Number n) = true
begins_command (Character n) = true
begins_command (String n) = true

-- a part, with the index of its token
abbrev pub Placed : Type 0
Placed = Part × ℕ

-- A part, preceded by a line break if that counts as a semicolon: the part before it can end a command, a line break
-- precedes the token, and this part can begin a command.
abbrev pub broken : Bool → Bool → Part → ℕ → List Placed
broken ends line p at = if ends && line && begins_command p then (NewLine, at) ∷ (p, at) ∷ [] else (p, at) ∷ []

-- the kind of a token as a part
abbrev pub kind_part : Kind → Part
kind_part (token.Sign s) = A s
kind_part (token.Name n) = Name n
kind_part (token.Number n) = Number n
kind_part (token.Character n) = Character n
kind_part (token.String n) = String n

-- the parts that a token becomes, the sections that are open after it, and whether the last part can end a command
pub record Step : Type 0 where
  pub out : List Placed
  pub opened : List (List ℕ)
  pub ends : Bool

-- what a token is for closing: an opening section bracket, a closing one, or any other token
pub data Role : Type 0 where
  Opens : Role
  Closes : Role
  Stays : Role

-- the role of a kind of token
abbrev pub role_of : Kind → Role
role_of (token.Sign sign.OpenSection) = Opens
role_of (token.Sign sign.CloseSection) = Closes
role_of _ = Stays

-- a closing bracket becomes as many `$)` as it closes sections
abbrev pub closing : ℕ → Option (ℕ × List (List ℕ)) → Result Step Fault
closing at None = Err (NotOpen at)
closing at (Some c) = Ok (record { out = replicate c.0 (A sign.CloseSection, at); opened = c.1; ends = true })

-- What a token becomes: given its role, its index, the open sections, and whether the part before it can end a
-- command.
abbrev pub step_by : Role → ℕ → List (List ℕ) → Bool → Lexeme → Result Step Fault
step_by Opens at opened ends t = Ok (record { out = broken ends t.line_before (A sign.OpenSection) at; opened = tag_of t ∷ opened; ends = false })
step_by Closes at opened ends t = closing at (closes (tag_of t) opened)
step_by Stays at opened ends t = Ok (record { out = broken ends t.line_before (kind_part t.kind) at; opened = opened; ends = ends_command (kind_part t.kind) })

-- the same, where the token's kind gives its role
abbrev pub token_step : ℕ → List (List ℕ) → Bool → Lexeme → Result Step Fault
token_step at opened ends t = step_by (role_of t.kind) at opened ends t

-- The closed list of tokens. `at` is the index of the first one, `opened` has the sections that are open before it,
-- and `ends` says whether the part before it can end a command.
abbrev pub closed : ℕ → List (List ℕ) → Bool → List Lexeme → Result (List Placed) Fault
closed at opened ends [] = if is_empty opened then Ok [] else Err Unclosed
closed at opened ends (t ∷ ts) = token_step at opened ends t >>= λ s. closed (at + 1) s.opened s.ends ts >>= λ rest. Ok (s.out ++ rest)

-- the closed list of all tokens
abbrev pub closed_list : List Lexeme → Result (List Placed) Fault
closed_list ts = closed 0 [] false ts

-- the parts of a closed list
abbrev pub parts_in : List Placed → List Part
parts_in ps = map (λ p. p.0) ps

-- the index of each part's token
abbrev pub places_in : List Placed → List ℕ
places_in ps = map (λ p. p.1) ps
