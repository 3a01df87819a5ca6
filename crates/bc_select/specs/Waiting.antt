-- For proofs: expressions that wait until their derivations are read off the table.
use Rattle.std.specs.Prelude.{◌≡◌, ◌+◌, ◌*◌, ◌≤◌, ◌^◌, List, [], ◌∷◌, ◌++◌}
use Rattle.bc_core.specs.View.{exp}
use Rattle.bc_core.specs.WellFormed.{nodes}
use Rattle.bc_rules_defs.specs.declared.rule.Table.TheVariants.{Two}
use Rattle.bc_rules_defs.specs.Rules.{Tree, Trees, no_part, part}
use Rattle.bc_select_defs.specs.Choices.{choice_for, choices}
use Rattle.bc_select_defs.specs.Readings.{tree_for, readings}
use Rattle.bc_select.specs.declared.node.PartNode.{PartNode}
use Rattle.bc_select.specs.declared.pending.Waiting.{Waiting}
use Rattle.bc_select.specs.Ends.{EndsAt}
use Rattle.bc_select.specs.Reads.{rule_or_v1}
use Rattle.bc_select.specs.Vector.{vector}

-- the derivation of a waiting expression
abbrev pub tree_of : Waiting → Tree
tree_of t = tree_for t.step.aim (readings Two (exp t.e.now) t.step.place.level)

-- the derivations of the waiting expressions
abbrev pub trees_of : List Waiting → Trees
trees_of [] = no_part
trees_of (t ∷ ts) = part (tree_of t) (trees_of ts)

-- the waiting expression's nodes are among these nodes, at its place
pub record IsReady (all : List PartNode) (t : Waiting) : Type 0 where
  pub fits : t.step.place.level + 2 * nodes (exp t.e.now) ≤ 2 ^ 40
  pub nodes_are : EndsAt all t.step.place.end (vector (exp t.e.now) t.step.place.level)
  pub rule_is : t.step.rule ≡ rule_or_v1 (choice_for t.step.aim (choices Two (exp t.e.now) t.step.place.level))

-- all waiting expressions are ready
abbrev pub AreReady : List PartNode → List Waiting → Type 0
AreReady all [] = Unit {0}
AreReady all (t ∷ ts) = IsReady all t × AreReady all ts

-- expressions were appended that are ready and have these derivations
pub record Added (all : List PartNode) (old new : List Waiting) (trees : Trees) : Type 0 where
  pub added : List Waiting
  pub is : new ≡ old ++ added
  pub ready : AreReady all added
  pub trees_are : trees_of added ≡ trees
