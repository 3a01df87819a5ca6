-- What `parse` returns: the section that the tokens spell, or the first fault.
use Rattle.std.specs.Prelude.{◌≡◌, ℕ, ◌-◌, List, length, Result, Ok, Err, unwrap_or, slice_get}
use Rattle.bc_lex_tokens.specs.Token.{Lexeme}
use Rattle.bc_parse_tree.specs.Tree.{Declarations}
use Rattle.bc_parse_tree.specs.Spelling.{SpellsSection}
use Rattle.bc_parse_defs.specs.Closing.{Placed, closed_list, parts_in, places_in}
use Rattle.bc_parse_defs.specs.Closing as closing
use Rattle.bc_parse_defs.specs.Reading.{section_of}
use Rattle.bc_parse_defs.specs.Reading as reading
use Rattle.bc_parse.specs.declared.error.ParseError.{ParseError}
use Rattle.bc_parse.specs.declared.error.ParseError.TheVariants as errors

-- the tokens spell the section: the grammar allows their closed list as a spelling of it
abbrev pub TokensSpell : List Lexeme → Declarations → Type 0
TokensSpell ts ds = (ps : List Placed) × (closed_list ts ≡ Ok ps) × SpellsSection ds (parts_in ps)

-- the index of the token of a part; `left` is the number of parts from there to the end, and `end` represents the end
abbrev pub place_of : List ℕ → ℕ → ℕ → ℕ
place_of places left end = unwrap_or (slice_get places (length places - left)) end

-- a fault of reading, with the index of its token
abbrev pub placed_fault : List ℕ → ℕ → reading.Fault → ParseError
placed_fault places end (reading.Expected left) = errors.Expected (place_of places left end)
placed_fault places end (reading.TooDeep left) = errors.TooDeep (place_of places left end)

-- the section, or such a fault
abbrev pub placed : List ℕ → ℕ → Result Declarations reading.Fault → Result Declarations ParseError
placed places end (Ok ds) = Ok ds
placed places end (Err f) = Err (placed_fault places end f)

-- what a closed list is read as, or a fault of its section brackets
abbrev pub read_list : ℕ → Result (List Placed) closing.Fault → Result Declarations ParseError
read_list end (Ok ps) = placed (places_in ps) end (section_of (parts_in ps))
read_list end (Err (closing.NotOpen at)) = Err (errors.NotOpen at)
read_list end (Err closing.Unclosed) = Err errors.Unclosed

-- the section that the tokens are parsed as, or the first fault; those of section brackets come before all others
abbrev pub parsed : List Lexeme → Result Declarations ParseError
parsed ts = read_list (length ts) (closed_list ts)

-- what was returned is exactly this, unless memory ran out
abbrev pub Answers : {X Y : Type 0} → (X → Y) → Result X ParseError → Result Y ParseError → Type 0
Answers view (Ok x) read = read ≡ Ok (view x)
Answers view (Err errors.Memory) read = Unit {0}
Answers view (Err (errors.Expected n)) read = read ≡ Err (errors.Expected n)
Answers view (Err errors.Unclosed) read = read ≡ Err errors.Unclosed
Answers view (Err (errors.NotOpen n)) read = read ≡ Err (errors.NotOpen n)
Answers view (Err (errors.TooDeep n)) read = read ≡ Err (errors.TooDeep n)
