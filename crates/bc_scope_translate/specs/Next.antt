-- For proofs: the next numbers, whether they are counted yet or not.
use Rattle.bc_parse_tree.specs.View.{block_view, definition_view}
use Rattle.bc_scope_translate.specs.declared.numbering.NextNumbers.{NextNumbers}
use Rattle.bc_scope_translate.specs.declared.numbering.Passed.{Passed}
use Rattle.bc_scope_translate.specs.declared.numbering.Passed.TheVariants as passed
use Rattle.bc_scope_defs.specs.Scope as scoping
use Rattle.bc_scope_defs.specs.Numbering.{after_block, after_definition}
use Rattle.bc_scope_names.specs.View.{numbers_view}

-- the numbers after the tree that was skipped
abbrev pub after_passed : scoping.Numbers → Passed → scoping.Numbers
after_passed at passed.Nothing = at
after_passed at (passed.Routine d) = after_definition at (definition_view d.now)
after_passed at (passed.Body b) = after_block at (block_view b.now)

-- the next numbers that this value represents
unfoldable pub next_numbers : NextNumbers → scoping.Numbers
next_numbers n = after_passed (numbers_view n.counted) n.passed
