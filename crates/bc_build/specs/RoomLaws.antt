-- Laws: the roots of a section without fault have room in the lines of a certificate.
use Rattle.std.specs.Prelude.{◌≡◌, ◌+◌, ◌^◌, ◌<◌, ◌≤◌, None}
use Rattle.std.specs.List.{AllByRecursion}
use Rattle.bc_core.specs.Tree.{Exp, Call, Root, Value, Test, Assign}
use Rattle.bc_core.specs.Commands.{Core}
use Rattle.bc_select_defs.specs.Nodes.{root_in_order, root_nodes}
use Rattle.bc_select_defs.specs.LeastDerivation.{least_derivation}
use Rattle.bc_parse_tree.specs.Tree.{Declarations}
use Rattle.bc_parse_tree.specs.Height.{declarations_height}
use Rattle.bc_parse_tree.specs.Size.{declarations_size}
use Rattle.bc_scope_defs.specs.Faults.{section_fault}
use Rattle.bc_scope_defs.specs.Translation.{core_of}
use Rattle.bc_rules_defs.specs.declared.rule.Table.{Table}
use Rattle.bc_rules_defs.specs.declared.rule.Table.TheVariants.{Two}
use Rattle.bc_rules_defs.specs.Rules.{RootDerives}
use Rattle.bc_rules_defs.specs.Code.{root_cost}
use Rattle.bc_rules_defs.specs.Entry.{Entry}
use Rattle.bc_gen_defs.specs.Bodies.{Coding, coding_of}
use Rattle.bc_gen_defs.specs.Section.{labels_suffice}
use Rattle.bc_gen_defs.specs.Entries.{section_entries, section_roots}
use Rattle.bc_cert_write.specs.Shown.{root_shown}
use Rattle.bc_cert_laws.specs.Entries.{HasSmallNumber, nested, NodeHasRoom, RootHasRoom}

-- The nodes of the root nest at most 400 deep.
abbrev pub IsShallow : Root → Type 0
IsShallow (Value s e) = nested e ≤ 400
IsShallow (Test s sense e) = nested e ≤ 400
IsShallow (Assign s v a) = (nested v ≤ 400) × (nested a ≤ 400)

-- All roots of a section with nesting depth at most 200 are shallow. Every section that was parsed has such a depth.
abbrev pub RootsAreShallow : Type 0
RootsAreShallow = (coding : Coding) (ds : Declarations) → declarations_height ds ≤ 200 → AllByRecursion IsShallow (section_roots coding (core_of ds))

-- Each node of the root is at a level of at most 32,768.
abbrev pub HasLevels : Root → Type 0
HasLevels r = AllByRecursion (λ n. n.1 ≤ 32768) (root_in_order r)

-- All roots of a section without fault have such levels, whatever derivations its code comes from.
abbrev pub RootsHaveLevels : Type 0
RootsHaveLevels = (T : Table) (choice : (r : Root) → RootDerives T r) (ds : Declarations) → section_fault ds ≡ None
    → AllByRecursion HasLevels (section_roots (coding_of choice) (core_of ds))

-- All roots of a section without fault, with at most 524,288 definitions, commands and expressions, have at most 2^32 nodes.
abbrev pub RootsHaveFewNodes : Type 0
RootsHaveFewNodes =
    (T : Table) (choice : (r : Root) → RootDerives T r) (ds : Declarations) → section_fault ds ≡ None → declarations_size ds ≤ 524288
    → AllByRecursion (λ r. root_nodes r ≤ 2 ^ 32) (section_roots (coding_of choice) (core_of ds))

-- If the labels of a section suffice, no root takes a label after the last one.
abbrev pub LabelsHaveRoom : Type 0
LabelsHaveRoom = (coding : Coding) (core : Core) → labels_suffice coding core → AllByRecursion (λ (e : Entry). e.first + coding.labels e.root ≤ 20001)
    (section_entries coding core)

-- the number of an expression is small; the number of a call, which is that of its arguments, is not considered here
abbrev pub HasSmallForm : Exp → Type 0
HasSmallForm (Call es f) = Unit {0}
HasSmallForm e = HasSmallNumber e

abbrev pub HasSmallForms : Root → Type 0
HasSmallForms r = AllByRecursion (λ n. HasSmallForm n.0) (root_in_order r)

-- The node lines and the root line of such a root have room.
abbrev pub NodesHaveRoom : Type 0
NodesHaveRoom = (T : Table) (r : Root) (d : RootDerives T r) → HasLevels r → HasSmallForms r → IsShallow r → root_nodes r ≤ 2 ^ 32
    → AllByRecursion (NodeHasRoom T) (root_shown d) × RootHasRoom r

-- The words of the chosen derivation of a root with at most 2^32 nodes are fewer than 2^64.
abbrev pub RootWordsHaveRoom : Type 0
RootWordsHaveRoom = (r : Root) → root_nodes r ≤ 2 ^ 32 → root_cost (least_derivation Two r) < 2 ^ 64
