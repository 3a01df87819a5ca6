-- What a written certificate says of its entries, and when their numbers fit into its lines.
use Rattle.std.specs.Prelude.{ℕ, ◌+◌, ◌≤◌, List, [], ◌∷◌, map}
use Rattle.std.specs.List.{AllByRecursion}
use Rattle.bc_rules_defs.specs.declared.piece.Piece.{Piece}
use Rattle.bc_rules_defs.specs.declared.piece.Piece.TheVariants.{Item, Body}
use Rattle.bc_rules_defs.specs.declared.rule.Table.TheVariants.{Two}
use Rattle.bc_rules_defs.specs.Rules.{RootDerives}
use Rattle.bc_rules_defs.specs.Code.{root_code, root_labels, root_cost}
use Rattle.bc_cert_defs.specs.Verdict.{Judged, Verdict}
use Rattle.bc_cert_write.specs.Shown.{root_shown}
use Rattle.bc_cert_write.specs.Certificate.{Derived}
use Rattle.bc_cert_laws.specs.Entries.{IsNumber, IsSmall, NodeHasRoom, RootHasRoom}

-- code as its line states it: each body has the next of these numbers of items, or 0 if none remains
abbrev pub with_bodies : List Piece → (bodies : List ℕ) → List Piece
with_bodies [] bodies = []
with_bodies (Item i ∷ ps) bodies = Item i ∷ with_bodies ps bodies
with_bodies (Body k ∷ ps) [] = Body 0 ∷ with_bodies ps []
with_bodies (Body k ∷ ps) (n ∷ bodies) = Body n ∷ with_bodies ps bodies

-- what a verdict says of an entry
abbrev pub judged_of : Derived → Judged
judged_of d = record {
  segment = d.segment;
  item = d.item;
  root = d.root;
  target = d.target;
  first = d.first;
  code = with_bodies (root_code d.derivation d.target d.first) d.bodies;
  words = root_cost d.derivation;
}

-- the entry's numbers are within the bounds of its lines
pub record HasRoom (d : Derived) : Type 0 where
  pub segment : IsNumber d.segment
  pub item : IsNumber d.item
  pub target : IsSmall d.target
  pub first : IsSmall d.first
  pub words : IsNumber (root_cost d.derivation)
  pub labels : d.first + root_labels d.derivation ≤ 65536
  pub nodes : AllByRecursion (NodeHasRoom Two) (root_shown d.derivation)
  pub root : RootHasRoom d.root
  pub bodies : AllByRecursion IsNumber d.bodies

-- no derivation of the entry's root has fewer words
abbrev pub HasFewest : Derived → Type 0
HasFewest d = (other : RootDerives Two d.root) → root_cost d.derivation ≤ root_cost other

-- what the certificate of these entries says if it is accepted
abbrev pub verdict_of : List Derived → Verdict
verdict_of ds = record { table = Two; entries = map judged_of ds }
