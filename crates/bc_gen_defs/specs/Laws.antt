-- Laws of the code of a section, for any choice of its roots' code.
use Rattle.std.specs.Prelude.{◌≡◌, ℕ, ◌≤◌, List, [], ◌∷◌, length, drop}
use Rattle.bc_text_items.specs.declared.item.Item.{Item}
use Rattle.bc_rules_defs.specs.declared.piece.Piece.{Piece}
use Rattle.bc_rules_defs.specs.declared.piece.Piece.TheVariants as pieces
use Rattle.bc_rules_defs.specs.Entry.{Entry}
use Rattle.bc_core.specs.Commands.{Core}
use Rattle.bc_gen_defs.specs.Bodies.{Coding}
use Rattle.bc_gen_defs.specs.Section.{routines_code, section_items}
use Rattle.bc_gen_defs.specs.Entries.{plain_items, marked_code, section_entries}

-- The marked code of the routines, without its marks, is their code.
abbrev pub MarksAddNothing : Type 0
MarksAddNothing = (coding : Coding) (core : Core) → plain_items (marked_code coding core) ≡ (routines_code coding core).0

-- The items of the entries are at k or later, and never decrease.
abbrev pub RiseFrom : ℕ → List Entry → Type 0
RiseFrom k [] = Unit {0}
RiseFrom k (e ∷ es) = (k ≤ e.item) × RiseFrom e.item es

-- The items of the entries never decrease, for every choice of code and every section.
abbrev pub EntriesRise : Type 0
EntriesRise = (coding : Coding) (core : Core) → RiseFrom 0 (section_entries coding core)

-- The items begin with these pieces, where the bodies of VALOFs, whose numbers of items are `counts`, are skipped.
abbrev pub Begin : List Piece → List ℕ → List Item → Type 0
Begin [] counts is = Unit {0}
Begin (pieces.Item i ∷ ps) counts [] = ⊥
Begin (pieces.Item i ∷ ps) counts (j ∷ is) = (i ≡ j) × Begin ps counts is
Begin (pieces.Body n ∷ ps) [] is = ⊥
Begin (pieces.Body n ∷ ps) (count ∷ counts) is = (count ≤ length is) × Begin ps counts (drop count is)

-- The entry has its root's derivation, and its root's code is in the items at the entry's index.
abbrev pub StandsAt : Coding → List Item → Entry → Type 0
StandsAt coding items e = (e.derivation ≡ coding.derivation e.root) × Begin (coding.pieces e.root e.target e.first) e.bodies (drop e.item items)

-- all entries have their derivations and their code
abbrev pub AllStandAt : Coding → List Item → List Entry → Type 0
AllStandAt coding items [] = Unit {0}
AllStandAt coding items (e ∷ es) = StandsAt coding items e × AllStandAt coding items es

-- This holds of the entries of every section, for every choice of code.
abbrev pub EntriesStand : Type 0
EntriesStand = (coding : Coding) (core : Core) → AllStandAt coding (section_items coding core) (section_entries coding core)
