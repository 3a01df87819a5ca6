use Rattle.std.proofs.Common.{◌≡◌, ◌++◌, map, drop}
use Rattle.bc_parse_tree.specs.Parts.{kind_parts}
use Rattle.bc_parse_tree.specs.Spelling.{named}
use Rattle.bc_parse_tree.specs.Adds.{joined}
use Rattle.bc_parse_tree.proofs.Lists.{after_commas_named}
use Rattle.bc_parse_tree.proofs.spelling.names.Given as goal

abbrev pub invariant-loop-found : goal.invariant-loop-found
invariant-loop-found l =
    kind_parts l.out.items ++ joined l.is_first (after_commas_named (map (λ n. n.now) (drop l.found-index l.names)))
    ≡ kind_parts l.fn.out.items ++ named (map (λ n. n.now) l.names)
