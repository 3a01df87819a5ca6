-- The law about trees that `bc_parse_tree::laws` proves.
use Rattle.std.specs.Prelude.{◌≤◌, List}
use Rattle.bc_parse_tree.specs.Parts.{Part}
use Rattle.bc_parse_tree.specs.Tree.{Declarations}
use Rattle.bc_parse_tree.specs.Spelling.{SpellsSection}
use Rattle.bc_parse_tree.specs.Size.{declarations_size, weight}

-- a section has at most as many definitions, commands and expressions as its spelling has parts that count
abbrev pub SizeIsBounded : Type 0
SizeIsBounded = (ds : Declarations) (ts : List Part) → SpellsSection ds ts → declarations_size ds ≤ weight ts
