-- For proofs: that a text is the one of an entry, for every derivation that has the entry's rules.
use Rattle.std.specs.Prelude.{ℕ, ◌≡◌, List, ◌++◌, flat_map}
use Rattle.bc_core.specs.Tree.{Root}
use Rattle.bc_rules_defs.specs.declared.rule.Table.{Table}
use Rattle.bc_rules_defs.specs.declared.rule.Table.TheVariants.{Two}
use Rattle.bc_rules_defs.specs.Rules.{RootDerives, Tree, root_shape}
use Rattle.bc_rules_defs.specs.Entry.{Entry}
use Rattle.bc_cert_write.specs.Shown.{root_shown}
use Rattle.bc_cert_write.specs.Lines.{node_line}
use Rattle.bc_cert_write.specs.Certificate.{Derived, entry_of, entry_text}

-- the new text is the old one, followed by the node lines of each derivation of the root that has these rules
pub record AddsNodes (r : Root) (x : Tree) (old new : List ℕ) : Type 0 where
  pub exact : (T : Table) (d : RootDerives T r) → root_shape d ≡ x → new ≡ old ++ flat_map (node_line Two) (root_shown d)

-- the text is that of each derived root with this entry
pub record IsEntryText (e : Entry) (text : List ℕ) : Type 0 where
  pub exact : (d : Derived) → e ≡ entry_of d → text ≡ entry_text d
