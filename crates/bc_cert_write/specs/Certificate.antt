-- The text of a certificate.
use Rattle.std.specs.Prelude.{ℕ, List, ◌++◌, length, flat_map}
use Rattle.bc_core.specs.Tree.{Root}
use Rattle.bc_rules_defs.specs.declared.rule.Table.TheVariants.{Two}
use Rattle.bc_rules_defs.specs.Rules.{RootDerives, root_shape}
use Rattle.bc_rules_defs.specs.Code.{root_code}
use Rattle.bc_rules_defs.specs.Entry.{Entry}
use Rattle.bc_rules_defs.specs.Piece.{words}
use Rattle.bc_cert_defs.specs.Text.{header_line, end_line}
use Rattle.bc_cert_write.specs.Shown.{root_shown}
use Rattle.bc_cert_write.specs.Lines.{entry_line, node_line, root_line, code_line}

-- a root with a derivation of it by table 2, and the place of its code
pub record Derived : Type 0 where
  pub segment : ℕ
  pub item : ℕ
  pub target : ℕ
  pub first : ℕ
  pub root : Root
  pub derivation : RootDerives Two root
  -- the number of items of each VALOF's body, in the order of the code
  pub bodies : List ℕ

-- the entry as the program has it: the derivation as a tree of rule names
abbrev pub entry_of : Derived → Entry
entry_of d = record {
  segment = d.segment;
  item = d.item;
  target = d.target;
  first = d.first;
  root = d.root;
  derivation = root_shape d.derivation;
  bodies = d.bodies;
}

-- the lines of an entry: the `E` line, the node lines, the root line and the code line
abbrev pub entry_text : Derived → List ℕ
entry_text d =
    let code = root_code d.derivation d.target d.first in
    entry_line d.segment d.item d.target d.first (words code)
    ++ (flat_map (node_line Two) (root_shown d.derivation) ++ (root_line d.derivation ++ code_line code d.bodies))

-- the certificate of these entries by table 2: header, the lines of each entry, end line
abbrev pub certificate : List Derived → List ℕ
certificate ds = header_line Two ++ (flat_map entry_text ds ++ end_line (length ds))
