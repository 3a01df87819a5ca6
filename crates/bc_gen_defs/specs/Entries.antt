-- The entries of a section, which say where the code of each root is.
use Rattle.std.specs.Prelude.{ℕ, ◌+◌, List, [], ◌∷◌, map}
use Rattle.bc_text_items.specs.declared.item.Item.{Item}
use Rattle.bc_rules_defs.specs.Rules.{Tree}
use Rattle.bc_rules_defs.specs.Entry.{Entry}
use Rattle.bc_core.specs.Tree.{Root}
use Rattle.bc_core.specs.Commands.{Core}
use Rattle.bc_gen_defs.specs.Emit.{Roots}
use Rattle.bc_gen_defs.specs.Bodies.{BodiesCode, Coding, fill, level_of}
use Rattle.bc_gen_defs.specs.Section.{routines_over}

-- A mark: a root with its derivation, the target and the first label of its code, and the number of items of each of its VALOFs'
-- bodies, in the order of the code.
pub record Mark : Type 0 where
  pub target : ℕ
  pub first : ℕ
  pub root : Root
  pub derivation : Tree
  pub bodies : List ℕ

-- items, with a mark where a root's code begins
pub data Marked : Type 0 where
  Plain : Item → Marked
  Begins : Mark → Marked

-- the items without the marks
abbrev pub plain_items : List Marked → List Item
plain_items [] = []
plain_items (Plain i ∷ ps) = i ∷ plain_items ps
plain_items (Begins m ∷ ps) = plain_items ps

-- the number of items without the marks
abbrev pub count_items : List Marked → ℕ
count_items [] = 0
count_items (Plain i ∷ ps) = count_items ps + 1
count_items (Begins m ∷ ps) = count_items ps

-- the code of a root with its mark, which comes before the marks of the roots in its VALOFs
abbrev pub marked_over : Coding → (levels : ℕ → ℕ) → BodiesCode Marked → Roots Marked
marked_over coding levels bodies r target f =
    let x = fill Plain levels bodies (coding.pieces r target f) (f + coding.labels r) in
    (Begins (record { target = target; first = f; root = r; derivation = coding.derivation r; bodies = map count_items x.2 }) ∷ x.0, x.1)

-- the code of a section's routines with its marks
abbrev pub marked_code : Coding → Core → List Marked
marked_code coding core = (routines_over Plain (marked_over coding (level_of core.valofs)) core).0

-- the entry of a root whose code begins at the item with the index k
abbrev pub entry_at : ℕ → Mark → Entry
entry_at k m = record { segment = 0; item = k; target = m.target; first = m.first; root = m.root; derivation = m.derivation; bodies = m.bodies }

-- the entries of marked code that follows k items
abbrev pub entries_from : (k : ℕ) → List Marked → List Entry
entries_from k [] = []
entries_from k (Plain i ∷ ps) = entries_from (k + 1) ps
entries_from k (Begins m ∷ ps) = entry_at k m ∷ entries_from k ps

-- The entries of a section in the order of its code, a root before those in its VALOFs' bodies.
abbrev pub section_entries : Coding → Core → List Entry
section_entries coding core = entries_from 0 (marked_code coding core)

-- The roots of a section in the order of its code.
abbrev pub section_roots : Coding → Core → List Root
section_roots coding core = map (λ (e : Entry). e.root) (section_entries coding core)
