-- The laws about text that is written from tokens: what is read back from it.
use Rattle.std.specs.Prelude.{◌≡◌, ◌≢◌, ℕ, ◌<◌, ◌≤◌, List, [], ◌∷◌, ◌++◌, length, map, All, None, Ok}
use Rattle.std.specs.List.{AllByRecursion}
use Rattle.bc_lex_tokens.specs.declared.symbol.Symbol.TheVariants as sign
use Rattle.bc_lex_tokens.specs.Spelling.{symbol_of}
use Rattle.bc_lex_tokens.specs.Token.{Lexeme}
use Rattle.bc_parse_tree.specs.Parts.{Part, A, Name, Number, Character, String, NewLine}
use Rattle.bc_parse_tree.specs.Tree.{Declarations}
use Rattle.bc_parse_tree.specs.Height.{declarations_height}
use Rattle.bc_parse_tree.specs.Spelling.{SpellsSection}
use Rattle.bc_parse_tree.specs.Canonical.{section_spelling}
use Rattle.bc_parse_defs.specs.Closing.{kind_part}
use Rattle.bc_parse_laws.specs.Tokens.{IsBare}
use Rattle.bc_parse_laws.specs.Open.{most_open}
use Rattle.bc_parse_laws.specs.Repeated.{RepeatsNoValof}
use Rattle.bc_parse.specs.Parsing.{parsed}
use Rattle.bc_lex.specs.Lexemes.{IsName}
use Rattle.bc_lex.specs.Quotes.{Spells}
use Rattle.bc_lex.specs.Tokens.{HasTokens}
use Rattle.bc_parse_tree.specs.Rendered.{rendered}

-- a string with its quotes, of fewer than 256 characters
pub data IsString : List ℕ → Type 0 where
  quoted : (text cs : List ℕ) → Spells 34 text cs → length cs < 256 → IsString (34 ∷ (text ++ 34 ∷ []))

-- a part that some source can have as a token
abbrev pub IsToken : Part → Type 0
IsToken (A s) = s ≢ sign.Get
IsToken (Name n) = IsName n × (symbol_of n ≡ None)
IsToken (Number n) = n ≤ 65535
IsToken (Character c) = c < 256
IsToken (String s) = IsString s
IsToken NewLine = ⊥

-- the text of the parts, as a file, has these parts as its tokens, none after a line break, and no `$)` with a tag
pub record IsReread (name : List ℕ) (ts : List Part) : Type 0 where
  pub tokens : List Lexeme
  pub read : HasTokens (record { name = name; text = rendered ts } ∷ []) 0 tokens
  pub same : map (λ t. kind_part t.kind) tokens ≡ ts
  pub bare : All IsBare tokens

-- at most 60,000 tokens are read back from their text
abbrev pub AreReread : Type 0
AreReread = (name : List ℕ) (ts : List Part) → AllByRecursion IsToken ts → length ts ≤ 60000 → IsReread name ts

-- A section whose canonical spelling can be read back. The grammar has a spelling for it, and it nests at most 200
-- deep. Its canonical spelling has at most 60,000 tokens, each of which some source can have, opens at most 400
-- parentheses at once, and has no REPEAT word after a VALOF's body.
pub record IsReadable (ds : Declarations) : Type 0 where
  pub some_spelling : List Part
  pub is_spelled : SpellsSection ds some_spelling
  pub tokens : AllByRecursion IsToken (section_spelling ds)
  pub few : length (section_spelling ds) ≤ 60000
  pub nests : declarations_height ds ≤ 200
  pub brackets : most_open 0 (section_spelling ds) ≤ 400
  pub repeats : RepeatsNoValof (section_spelling ds)

-- the text of the section's canonical spelling, as a file, has tokens that are parsed as the section
abbrev pub ComesBack : List ℕ → Declarations → Type 0
ComesBack name ds = (tokens : List Lexeme) × HasTokens (record { name = name; text = rendered (section_spelling ds) } ∷ []) 0 tokens × (parsed tokens ≡ Ok ds)

-- a section is the same after it was spelled, written, lexed and parsed
abbrev pub SectionsComeBack : Type 0
SectionsComeBack = (name : List ℕ) (ds : Declarations) → IsReadable ds → ComesBack name ds
