-- From parsed sections to the run of the machine.
use Rattle.std.specs.Prelude.{ℕ, ◌≡◌, ◌≤◌, ◌<◌, List, map, All, None, slice_index}
use Rattle.bc_machine_defs.specs.Streams.{Content, HoldBytes}
use Rattle.bc_machine_defs.specs.State.{start}
use Rattle.bc_parse_tree.specs.Tree.{Declarations}
use Rattle.bc_parse_tree.specs.Size.{declarations_size}
use Rattle.bc_core.specs.Same.{Same}
use Rattle.bc_scope_defs.specs.Translation.{core_of}
use Rattle.bc_scope_defs.specs.Faults.{section_fault}
use Rattle.bc_scope_defs.specs.Sections.{meaning_of_sections}
use Rattle.bc_rules_defs.specs.declared.rule.Table.{Table}
use Rattle.bc_gen_defs.specs.Bodies.{Choice, coding_of}
use Rattle.bc_link.specs.Layout.{stack_base_of}
use Rattle.bc_link.specs.Refusals.{refusal_of}
use Rattle.bc_link.specs.Store.{store_of}
use Rattle.bc_right.specs.programs.Linked.{segments_of, linked_map}

-- The section has no fault, and is within the parser's limits.
pub record IsFaultless (section : Declarations) : Type 0 where
  pub no_fault : section_fault section ≡ None
  pub size : declarations_size section ≤ 524288

-- For every choice of derivations, all faultless sections that the linker accepts, all inputs of bytes and every n: the machine's
-- run of the linked store does the same as the meaning of the sections. The addresses are those that the linker gives.
abbrev pub SectionsRun : Type 0
SectionsRun =
    (T : Table) (choice : Choice T) (sections : List Declarations) → All IsFaultless sections
    → (let coding = coding_of choice in
    let cores = map core_of sections in
    let segments = segments_of coding cores in
    refusal_of segments ≡ None → ((i : ℕ) → slice_index (store_of segments) i < 65536)
    → (streams : Content) → HoldBytes streams.inputs → (n : ℕ)
    → Same (meaning_of_sections sections (linked_map coding cores) streams n) n (start (store_of segments) (stack_base_of segments) streams))
