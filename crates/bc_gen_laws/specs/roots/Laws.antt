-- Laws of the roots of a section, for every choice of derivations.
use Rattle.std.specs.Prelude.{ℕ, ◌≡◌, ◌+◌, map, sum_by}
use Rattle.bc_text_items.specs.Sizes.{size_of_all}
use Rattle.bc_core.specs.Commands.{Core}
use Rattle.bc_rules_defs.specs.declared.rule.Table.{Table}
use Rattle.bc_rules_defs.specs.Code.{root_cost}
use Rattle.bc_rules_defs.specs.Entry.{Entry}
use Rattle.bc_gen_defs.specs.Bodies.{Choice, coding_of}
use Rattle.bc_gen_defs.specs.Section.{section_items}
use Rattle.bc_gen_defs.specs.Entries.{section_entries}
use Rattle.bc_gen_defs.specs.Size.{section_size}
use Rattle.bc_gen_laws.specs.roots.Roots.{in_code, roots_of}

-- The entries of a section belong to its roots, in the order of the walk.
abbrev pub EntriesAreOfTheRoots : Type 0
EntriesAreOfTheRoots =
    (T : Table) (choice : Choice T) (core : Core)
    → map (λ (e : Entry). e.root) (section_entries (coding_of choice) core) ≡ roots_of (in_code choice) core

-- the words of a section's commands and data: its size if the roots took no words
abbrev pub fixed_words : Core → ℕ
fixed_words core = section_size (λ r. 0) core

-- A section takes these words and those of its roots' derivations.
abbrev pub SizeIsByTheRoots : Type 0
SizeIsByTheRoots =
    (T : Table) (choice : Choice T) (core : Core)
    → size_of_all (section_items (coding_of choice) core) ≡ fixed_words core + sum_by (λ r. root_cost (choice r)) (roots_of (in_code choice) core)
