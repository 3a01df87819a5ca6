-- The entries have the shortest code, and this code is in the segments.
use Rattle.std.specs.Prelude.{◌≡◌, List, map, All}
use Rattle.bc_text_items.specs.declared.item.Item.{Item}
use Rattle.bc_rules_defs.specs.declared.rule.Table.TheVariants.{Two}
use Rattle.bc_rules_defs.specs.Rules.{RootDerives, root_shape}
use Rattle.bc_rules_defs.specs.Code.{root_code, root_cost}
use Rattle.bc_rules_defs.specs.Entry.{Entry}
use Rattle.bc_select_defs.specs.Least.{RootIsLeast, RootHasLeastParts}
use Rattle.bc_select_defs.specs.LeastDerivation.{least_derivation}
use Rattle.bc_cert_defs.specs.Verdict.{Judged}
use Rattle.bc_cert_defs.specs.Against.{StandsIn, Fit}
use Rattle.bc_cert_laws.specs.Written.{with_bodies}

-- what a certificate says of an entry with this derivation
abbrev pub judged_by : (e : Entry) → RootDerives Two e.root → Judged
judged_by e d = record {
  segment = e.segment;
  item = e.item;
  root = e.root;
  target = e.target;
  first = e.first;
  code = with_bodies (root_code d e.target e.first) e.bodies;
  words = root_cost d;
}

-- The entry names a derivation of its root. No derivation of the root has fewer words, and the same holds of each of its parts. Its
-- code is in the segments at the entry's place.
pub record IsLeast (segments : List (List Item)) (e : Entry) : Type 0 where
  pub derivation : RootDerives Two e.root
  pub named : root_shape derivation ≡ e.derivation
  pub least : RootIsLeast derivation
  pub parts : RootHasLeastParts derivation
  pub stands : StandsIn segments (judged_by e derivation)

-- what a certificate says of an entry
abbrev pub judged : Entry → Judged
judged e = judged_by e (least_derivation Two e.root)

-- Each entry has the shortest code, the entries are in the order of their places, and their code lies within the segments.
pub record AreLeast (segments : List (List Item)) (entries : List Entry) : Type 0 where
  pub each : All (IsLeast segments) entries
  pub fit : Fit segments 0 0 (map judged entries)
