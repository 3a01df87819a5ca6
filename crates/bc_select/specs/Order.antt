-- For proofs: expressions at their levels, in the order of their nodes or in the reverse order.
use Rattle.std.specs.Prelude.{◌≡◌, ℕ, ◌+◌, ◌*◌, ◌≤◌, ◌^◌, List, [], ◌∷◌, ◌++◌, map, reverse, Option, Some, None}
use Rattle.bc_core.specs.Tree.{Exp, Load, Neg, Not, Bin, Cond, Call, Args, count, Root}
use Rattle.bc_core.specs.View.{exp}
use Rattle.bc_core.specs.WellFormed.{nodes}
use Rattle.bc_select_defs.specs.Nodes.{in_order, all_in_order, root_in_order}
use Rattle.bc_select.specs.declared.layout.AtLevel.{AtLevel}
use Rattle.bc_select.specs.declared.node.PartNode.{PartNode}
use Rattle.bc_select.specs.Laid.{EndsInParts}
use Rattle.bc_select.specs.Vector.{node}

-- an expression with its level
abbrev pub expression_at : AtLevel → Exp × ℕ
expression_at x = (exp x.e.now, x.level)

-- the listed expressions, read from the end of the list
abbrev pub from_the_end : List AtLevel → List (Exp × ℕ)
from_the_end xs = map expression_at (reverse xs)

-- these expressions with all their parts
abbrev pub in_order_of : List AtLevel → List (Exp × ℕ)
in_order_of [] = []
in_order_of (x ∷ xs) = in_order (exp x.e.now) x.level ++ in_order_of xs

-- the parts of an expression, with all their parts
abbrev pub parts_in_order : Exp → ℕ → List (Exp × ℕ)
parts_in_order (Load e) s = in_order e s
parts_in_order (Neg e) s = in_order e s
parts_in_order (Not e) s = in_order e s
parts_in_order (Bin op a b) s = in_order a (s + 1) ++ in_order b (s + 1)
parts_in_order (Cond c x y) s = (in_order c s ++ in_order x s) ++ in_order y s
parts_in_order (Call es f) s = all_in_order es (s + 2) ++ in_order f (s + 2 + count es)
parts_in_order _ s = []

-- the expression and its level are small enough for all sums
pub record Fits (x : AtLevel) : Type 0 where
  pub is : x.level + 2 * nodes (exp x.e.now) ≤ 2 ^ 40

-- all of them fit
abbrev pub AllFit : List AtLevel → Type 0
AllFit [] = Unit {0}
AllFit (x ∷ xs) = Fits x × AllFit xs

-- a list of the expression, if there is one
abbrev pub listed : Option AtLevel → List AtLevel
listed None = []
listed (Some x) = x ∷ []

-- these are the expressions from which a root gets its nodes
pub record AreOf (found : List AtLevel) (r : Root) : Type 0 where
  pub fit : AllFit found
  pub order : in_order_of found ≡ root_in_order r

-- the arguments of a call were appended to the waiting expressions
pub record ArgumentsPut (old new : List AtLevel) (es : Args) (s : ℕ) : Type 0 where
  pub added : List AtLevel
  pub is : new ≡ old ++ added
  pub fit : AllFit added
  pub order : in_order_of added ≡ all_in_order es s

-- all parts of an expression but the last were appended to the waiting expressions
pub record PartsPut (old new : List AtLevel) (last : Option AtLevel) (whole : AtLevel) : Type 0 where
  pub added : List AtLevel
  pub is : new ≡ old ++ added
  pub fit : AllFit (added ++ listed last)
  pub order : in_order_of (added ++ listed last) ≡ parts_in_order (exp whole.e.now) whole.level

-- the node of an expression at a level
abbrev pub node_at : Exp × ℕ → PartNode
node_at at = node at.0 at.1

-- a node can be made next, since those of its parts are there; and the same for a list of nodes, one after the other
pub record IsNext (made : List PartNode) (at : Exp × ℕ) : Type 0 where
  pub fits : at.1 + 2 * nodes at.0 ≤ 2 ^ 40
  pub laid : EndsInParts made at.0 at.1

-- the nodes of these expressions can be made one after the other
abbrev pub CanFollow : List PartNode → List (Exp × ℕ) → Type 0
CanFollow made [] = Unit {0}
CanFollow made (at ∷ ats) = IsNext made at × CanFollow (made ++ (node_at at ∷ [])) ats
