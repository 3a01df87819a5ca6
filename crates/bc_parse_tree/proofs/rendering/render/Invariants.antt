use Rattle.std.proofs.Common.{◌≡◌, ◌++◌, ◌∷◌, drop, cond}
use Rattle.std.specs.List.{flat_map}
use Rattle.bc_parse_tree.specs.Parts.{kind_parts}
use Rattle.bc_parse_tree.specs.Rendered.{text_of, rendered}
use Rattle.bc_parse_tree.proofs.rendering.render.Given as goal

abbrev pub invariant-loop-kind : goal.invariant-loop-kind
invariant-loop-kind l =
    l.text.items ++ cond l.is_first (rendered (kind_parts (drop l.kind-index l.kinds))) (flat_map (λ t. 32 ∷ text_of t) (kind_parts (drop l.kind-index l.kinds)))
    ≡ rendered (kind_parts l.kinds)
