-- For proofs: the search for the first source whose name a string spells.
use Rattle.std.specs.Prelude.{ℕ, ◌+◌, Bool, true, false, ◌==◌, List, [], ◌∷◌, drop, Option, Some, None, if◌then◌else◌}
use Rattle.bc_lex.specs.declared.quoted.Quoted.{Quoted}
use Rattle.bc_lex.specs.declared.quoted.Quoted.TheVariants as quoted
use Rattle.bc_lex.specs.Files.{File}
use Rattle.bc_lex.specs.Reading.{quoted_of}

-- whether the closing quote was read
abbrev pub is_closed : Quoted → Bool
is_closed quoted.Closed = true
is_closed _ = false

-- the number of bytes of a character, if it is this one
abbrev pub same_as : ℕ → Quoted → Option ℕ
same_as b (quoted.Character v n) = if v == b then Some n else None
same_as b _ = None

-- the number of bytes of the next character of a string, if it is this one
abbrev pub same_of : ℕ → List ℕ → Option ℕ
same_of b bs = same_as b (quoted_of 34 bs)

-- one iteration of the comparison
abbrev pub names_on : (List ℕ → Bool) → List ℕ → Option ℕ → Bool
names_on again bs None = false
names_on again bs (Some n) = again (drop n bs)

-- whether the rest of a string spells the rest of a name
abbrev pub names_from : List ℕ → List ℕ → Bool
names_from [] bs = is_closed (quoted_of 34 bs)
names_from (b ∷ name) bs = names_on (names_from name) bs (same_of b bs)

-- whether a string with its quotes spells a name
unfoldable pub spells_name : List ℕ → List ℕ → Bool
spells_name string name = names_from name (drop 1 string)

-- the index of the first file whose name a string spells, if these files are numbered from i
abbrev pub source_from : List ℕ → ℕ → List File → Option ℕ
source_from string i [] = None
source_from string i (f ∷ files) = if spells_name string f.name then Some i else source_from string (i + 1) files
