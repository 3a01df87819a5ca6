-- For proofs: a list split in two.
use Rattle.std.specs.Prelude.{◌≡◌, List}
use Rattle.bc_select.specs.declared.node.PartNode.{PartNode}

-- the two parts are these lists
pub record IsCut (first second : List PartNode) (xs ys : List PartNode) : Type 0 where
  pub first_is : first ≡ xs
  pub second_is : second ≡ ys
