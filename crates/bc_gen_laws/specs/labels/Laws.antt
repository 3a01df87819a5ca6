-- Laws of the labels of a section's items, in the terms of the linker.
use Rattle.std.specs.Prelude.{◌≡◌, ◌==◌, ◌&&◌, ℕ, true, cond, nat_le, nat_lt, List, None, map, count_by}
use Rattle.std.specs.List.{AllByRecursion}
use Rattle.bc_text_items.specs.declared.item.Item.{Item}
use Rattle.bc_core.specs.Tree.{Root}
use Rattle.bc_core.specs.Commands.{Core}
use Rattle.bc_core.specs.WellFormed.{is_core}
use Rattle.bc_rules_defs.specs.declared.rule.Table.{Table}
use Rattle.bc_rules_defs.specs.Rules.{RootDerives}
use Rattle.bc_gen_defs.specs.Bodies.{coding_of}
use Rattle.bc_gen_defs.specs.Section.{routines_code, section_items}
use Rattle.bc_link.specs.Labels.{labels_of, uses_of}
use Rattle.bc_link.specs.Refusals.{first_of, first_repeated, first_unset, global_twice, too_large, refusal_of}

-- The items set no label twice, and set each label that they use.
abbrev pub LabelsStand : List Item → Type 0
LabelsStand items = (first_repeated (labels_of items) ≡ None) × (first_unset (labels_of items) (uses_of items) ≡ None)

-- This holds of the items of every section, whatever derivations are chosen.
abbrev pub LabelsStandOnce : Type 0
LabelsStandOnce = (T : Table) (choice : (r : Root) → RootDerives T r) (core : Core) → is_core core ≡ true → LabelsStand (section_items (coding_of choice) core)

-- The labels that are set are those that the section takes, from 1 on, each once.
abbrev pub LabelsAreThoseTaken : Type 0
LabelsAreThoseTaken =
    (T : Table) (choice : (r : Root) → RootDerives T r) (core : Core) → is_core core ≡ true
    → (k : ℕ) → count_by (λ l. l == k) (labels_of (section_items (coding_of choice) core))
    ≡ cond (nat_le 1 k && nat_lt k (routines_code (coding_of choice) core).1) 1 0

-- The linker refuses such sections only for a global that is set twice or for their size.
abbrev pub OnlyGlobalsAndSizeAreRefused : Type 0
OnlyGlobalsAndSizeAreRefused =
    (T : Table) (choice : (r : Root) → RootDerives T r) (cores : List Core) → AllByRecursion (λ core. is_core core ≡ true) cores
    → let segments = map (section_items (coding_of choice)) cores in refusal_of segments ≡ first_of (global_twice segments) (too_large segments)
