-- The law of a section's number of words.
use Rattle.std.specs.Prelude.{◌≡◌}
use Rattle.bc_text_items.specs.Sizes.{size_of_all}
use Rattle.bc_core.specs.Tree.{Root}
use Rattle.bc_core.specs.Commands.{Core}
use Rattle.bc_rules_defs.specs.declared.rule.Table.{Table}
use Rattle.bc_rules_defs.specs.Rules.{RootDerives}
use Rattle.bc_rules_defs.specs.Code.{root_cost}
use Rattle.bc_gen_defs.specs.Bodies.{coding_of}
use Rattle.bc_gen_defs.specs.Section.{section_items}
use Rattle.bc_gen_defs.specs.Size.{section_size}

-- For every choice of derivations, the items of a section take as many words as its commands, its data and the derivations of its
-- roots do.
abbrev pub SectionsHaveTheirSize : Type 0
SectionsHaveTheirSize =
    (T : Table) (choice : (r : Root) → RootDerives T r) (core : Core)
    → size_of_all (section_items (coding_of choice) core) ≡ section_size (λ r. root_cost (choice r)) core
