-- For proofs: what the functions of `cursor.rt` and `blocks.rt` find, as the definitions see it.
use Rattle.std.specs.Prelude.{Bool, true, false, List}
use Rattle.bc_parse_tree.specs.Parts.{Part}
use Rattle.bc_parse_defs.specs.Reading.{Following, LabelStart, Shape}
use Rattle.bc_parse_defs.specs.Reading as reading
use Rattle.bc_parse.specs.Seen.{seen}
use Rattle.bc_parse.specs.declared.blocks.ElementEnd as code_end
use Rattle.bc_parse.specs.declared.blocks.ElementEnd.TheVariants as place_end
use Rattle.bc_parse.specs.declared.cursor.FollowingPart as code_follow
use Rattle.bc_parse.specs.declared.cursor.FollowingPart.TheVariants as follow
use Rattle.bc_parse.specs.declared.cursor.LabelStartAt as code_label
use Rattle.bc_parse.specs.declared.cursor.LabelStartAt.TheVariants as label_at
use Rattle.bc_parse.specs.declared.cursor.DefinitionShape as code_shape
use Rattle.bc_parse.specs.declared.cursor.DefinitionShape.TheVariants as shape_at

-- what follows an operand
abbrev pub follow_view : code_follow.FollowingPart → Following
follow_view follow.Ends = reading.Ends
follow_view (follow.Operator o ts) = reading.Operator o (seen ts)
follow_view (follow.Arguments ts) = reading.Arguments (seen ts)
follow_view (follow.Choice ts) = reading.Choice (seen ts)

-- what begins a label
abbrev pub label_at_view : code_label.LabelStartAt → LabelStart
label_at_view label_at.No = reading.NoLabel
label_at_view (label_at.Case ts) = reading.CaseLabel (seen ts)
label_at_view (label_at.Default ts) = reading.DefaultLabel (seen ts)
label_at_view (label_at.Name n ts) = reading.NameLabel n.now (seen ts)

-- what follows the first name of a definition
abbrev pub shape_view : code_shape.DefinitionShape → Shape
shape_view (shape_at.Parameters ts) = reading.Parameters (seen ts)
shape_view (shape_at.Size ts) = reading.Size (seen ts)
shape_view shape_at.Values = reading.Values

-- what follows an element of a list, and whether the list ends there
abbrev pub end_view : code_end.ElementEnd → List Part × Bool
end_view (place_end.More ts) = (seen ts, false)
end_view (place_end.Last ts) = (seen ts, true)
