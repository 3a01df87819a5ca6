use Rattle.std.proofs.Common.{◌≡◌, ◌++◌, drop}
use Rattle.bc_parse_tree.specs.Canonical.{after_first, after_commas, declarations_spelling, entries_spelling, definitions_spelling, items_spelling, labels_spelling}
use Rattle.bc_parse_tree.specs.Parts.{kind_parts}
use Rattle.bc_parse_tree.specs.View.{exps_view, declarations_view, definitions_view, labels_view, items_view, entries_view}
use Rattle.bc_parse_tree.specs.Adds.{joined}
use Rattle.bc_parse_tree.proofs.spelling.+spelling.Given as goal

-- the tokens up to here, followed by those of the remaining elements, are the whole spelling

abbrev pub invariant-expressions-loop-each : goal.invariant-expressions-loop-each
invariant-expressions-loop-each l =
    kind_parts l.out.items ++ joined l.is_first (after_commas (exps_view (drop l.each-index l.list)))
    ≡ kind_parts l.fn.out.items ++ after_first (after_commas (exps_view l.list))

abbrev pub invariant-declarations-loop-each : goal.invariant-declarations-loop-each
invariant-declarations-loop-each l =
    kind_parts l.out.items ++ joined l.is_first (declarations_spelling (declarations_view (drop l.each-index l.list)))
    ≡ kind_parts l.fn.out.items ++ after_first (declarations_spelling (declarations_view l.list))

abbrev pub invariant-definitions-loop-each : goal.invariant-definitions-loop-each
invariant-definitions-loop-each l =
    kind_parts l.out.items ++ joined l.is_first (definitions_spelling (definitions_view (drop l.each-index l.list)))
    ≡ kind_parts l.fn.out.items ++ after_first (definitions_spelling (definitions_view l.list))

abbrev pub invariant-entries-loop-constant : goal.invariant-entries-loop-constant
invariant-entries-loop-constant l =
    kind_parts l.out.items ++ joined l.is_first (entries_spelling l.symbol (entries_view (drop l.constant-index l.constants)))
    ≡ kind_parts l.fn.out.items ++ after_first (entries_spelling l.symbol (entries_view l.constants))

abbrev pub invariant-items-loop-each : goal.invariant-items-loop-each
invariant-items-loop-each l =
    kind_parts l.out.items ++ joined l.is_first (items_spelling (items_view (drop l.each-index l.list)))
    ≡ kind_parts l.fn.out.items ++ joined l.fn.nothing_before (items_spelling (items_view l.list))

abbrev pub invariant-labels-loop-each : goal.invariant-labels-loop-each
invariant-labels-loop-each l =
    kind_parts l.out.items ++ labels_spelling (labels_view (drop l.each-index l.list))
    ≡ kind_parts l.fn.out.items ++ labels_spelling (labels_view l.list)
