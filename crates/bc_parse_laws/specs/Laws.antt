-- The laws about canonical spellings that `bc_parse_laws::laws` proves.
use Rattle.std.specs.Prelude.{◌≡◌, ◌≤◌, List, [], Ok}
use Rattle.bc_parse_tree.specs.Parts.{Part}
use Rattle.bc_parse_tree.specs.Tree.{Exp, Declarations}
use Rattle.bc_parse_tree.specs.Height.{declarations_height}
use Rattle.bc_parse_tree.specs.Spelling.{SpellsSection, in_round}
use Rattle.bc_parse_tree.specs.Canonical.{whole, section_spelling}
use Rattle.bc_lex_tokens.specs.Token.{Lexeme}
use Rattle.bc_parse_defs.specs.Closing.{Placed, closed_list, parts_in}
use Rattle.bc_parse_defs.specs.Reading.{section_of}
use Rattle.bc_parse_laws.specs.Open.{most_open}
use Rattle.bc_parse_laws.specs.Held.{most_held}
use Rattle.bc_parse_laws.specs.Repeated.{RepeatsNoValof}
use Rattle.bc_parse_laws.specs.Tokens.{IsSpelling}

-- if the grammar has a spelling for a section, the canonical spelling is one of its spellings
abbrev pub SpellingIsSpelled : Type 0
SpellingIsSpelled = (ds : Declarations) (ts : List Part) → SpellsSection ds ts → SpellsSection ds (section_spelling ds)

-- The canonical spelling of a section is read as that section. The section must have a spelling by the grammar and
-- nest at most 200 deep. Its canonical spelling must open at most 400 parentheses at once, and have no REPEAT word
-- after a VALOF's body.
abbrev pub SpellingIsRead : Type 0
SpellingIsRead = (ds : Declarations) (ts : List Part) → SpellsSection ds ts → declarations_height ds ≤ 200 → most_open 0 (section_spelling ds) ≤ 400
    → RepeatsNoValof (section_spelling ds) → section_of (section_spelling ds) ≡ Ok ds

-- the tokens of a canonical spelling have that spelling as their closed list
abbrev pub SpellingIsClosed : Type 0
SpellingIsClosed = (ds : Declarations) (ts : List Lexeme) → IsSpelling ds ts → (ps : List Placed) × (closed_list ts ≡ Ok ps)
    × (parts_in ps ≡ section_spelling ds)

-- each pair of parentheses of a canonical spelling holds at most one operator outside its inner parentheses
abbrev pub BracketsHoldOne : Type 0
BracketsHoldOne = (ds : Declarations) → most_held [] (section_spelling ds) ≤ 1

-- so does the spelling of an expression in a place that needs no parentheses, as if parentheses were around it
abbrev pub WholeHoldsOne : Type 0
WholeHoldsOne = (e : Exp) → most_held [] (in_round (whole e)) ≤ 1
