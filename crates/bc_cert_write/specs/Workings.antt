-- What must be computed for an entry before its lines can be written, and when its numbers have no room.
use Rattle.std.specs.Prelude.{ℕ, ◌<◌, ◌^◌, ◌⊎◌}
use Rattle.std.specs.List.{AllZip}
use Rattle.bc_core.specs.Tree.{Root}
use Rattle.bc_rules_defs.specs.Rules.{Tree}
use Rattle.bc_rules_defs.specs.Entry.{Entry}
use Rattle.bc_rules.specs.Code.{IsCodeOf, LacksRoom}
use Rattle.bc_select_defs.specs.Nodes.{root_in_order, root_nodes}
use Rattle.bc_select.specs.Rows.{IsRowOf}
use Rattle.bc_cert_write.specs.declared.workings.Workings.{Workings}

-- the workings have a row for each node of the root, and the code of each derivation of the root that has these rules
pub record AreWorkings (r : Root) (x : Tree) (target first : ℕ) (w : Workings) : Type 0 where
  pub rows : AllZip IsRowOf (root_in_order r) w.rows.items
  pub code : IsCodeOf r x target first w.code.items

-- these are the workings of the entry; truncated, so that it can be kept beside the fields of a struct
abbrev pub WorkedOut : Entry → Workings → Type 0
WorkedOut e w = ∥ AreWorkings e.root e.derivation e.target e.first w ∥₁

-- the entry's root has more than 2^32 nodes, or a number of its code doesn't fit into 16 bits
abbrev pub HasNoRoom : Entry → Type 0
HasNoRoom e = (2 ^ 32 < root_nodes e.root) ⊎ LacksRoom e.root e.derivation e.first
