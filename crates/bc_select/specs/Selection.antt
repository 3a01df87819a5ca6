-- For proofs: the words of a choice, and the table of a root's nodes.
use Rattle.std.specs.Prelude.{ℕ, List, ◌++◌, Option, Some, None}
use Rattle.bc_core.specs.Tree.{Root, Value, Test, Assign}
use Rattle.bc_core.specs.Level.{side_level}
use Rattle.bc_select_defs.specs.declared.choice.Choice.{Choice}
use Rattle.bc_select.specs.declared.node.PartNode.{PartNode}
use Rattle.bc_select.specs.Vector.{vector}

-- the words of a choice, or 0
abbrev pub words_or_none : Option Choice → ℕ
words_or_none None = 0
words_or_none (Some c) = c.words

-- the nodes of a root
abbrev pub root_vector : Root → List PartNode
root_vector (Value s e) = vector e s
root_vector (Test s sense e) = vector e s
root_vector (Assign s v a) = vector v (side_level a s) ++ vector a (side_level a s)
