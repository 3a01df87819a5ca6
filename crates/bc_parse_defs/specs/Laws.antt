-- The laws about reading that `bc_parse_defs::laws` proves.
use Rattle.std.specs.Prelude.{◌≡◌, ◌≤◌, List, Ok}
use Rattle.bc_parse_tree.specs.Parts.{Part}
use Rattle.bc_parse_tree.specs.Tree.{Declarations}
use Rattle.bc_parse_tree.specs.Height.{declarations_height}
use Rattle.bc_parse_tree.specs.Spelling.{SpellsSection}
use Rattle.bc_parse_defs.specs.Reading.{section_of}

-- a list that is read as a section spells the tree that was read
abbrev pub ReadIsSpelled : Type 0
ReadIsSpelled = (ts : List Part) (ds : Declarations) → section_of ts ≡ Ok ds → SpellsSection ds ts

-- a tree that is read as a section nests at most 200 deep
abbrev pub ReadNestsLittle : Type 0
ReadNestsLittle = (ts : List Part) (ds : Declarations) → section_of ts ≡ Ok ds → declarations_height ds ≤ 200
