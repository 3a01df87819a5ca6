-- For proofs: where the nodes of an expression end among those of a root.
use Rattle.std.specs.Prelude.{◌≡◌, ℕ, ◌+◌, List, ◌++◌, length}
use Rattle.bc_select.specs.declared.node.PartNode.{PartNode}

-- the nodes `own` end at the index `end` of all nodes
pub record EndsAt (nodes : List PartNode) (end : ℕ) (own : List PartNode) : Type 0 where
  pub front : List PartNode
  pub following : List PartNode
  pub is : nodes ≡ (front ++ own) ++ following
  pub count : end ≡ length front + length own
