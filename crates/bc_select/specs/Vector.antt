-- For proofs: the nodes of an expression as a list, parts before wholes.
use Rattle.std.specs.Prelude.{ℕ, ◌+◌, List, [], ◌∷◌, ◌++◌, ◌||◌, Option}
use Rattle.bc_core.specs.Tree.{Exp, Load, Neg, Not, Bin, Cond, Call, Args, no_argument, argument, count}
use Rattle.bc_rules_defs.specs.declared.rule.Table.TheVariants.{Two}
use Rattle.bc_core.specs.Value.{has_call}
use Rattle.bc_core.specs.WellFormed.{nodes}
use Rattle.bc_select_defs.specs.Choices.{choices, node_of, pair_choices}
use Rattle.bc_core.specs.declared.operands.Operand.{Operand}
use Rattle.bc_word.specs.declared.operator.Op.{Op}
use Rattle.bc_select.specs.declared.binary_choices.Pair.{Pair}
use Rattle.bc_select.specs.declared.node.PartNode.{PartNode}

-- the node of an expression at level s
abbrev pub node : Exp → ℕ → PartNode
node e s = record { choices = choices Two e s; calls = has_call e; nodes = nodes e }

-- a binary operator with its operands
abbrev pub pair_of : Op → Exp → Exp → ℕ → Pair
pair_of op a b s = record { op = op; left = node_of Two a (s + 1); right = node_of Two b (s + 1); level = s }

-- the node of a binary operator
abbrev pub part_of_pair : Pair → Option Operand → PartNode
part_of_pair p o = record { choices = pair_choices Two p.op o p.left p.right p.level; calls = p.left.calls || p.right.calls; nodes = 1 + p.left.nodes + p.right.nodes }

-- these nodes, followed by that of the expression
abbrev pub ending : List PartNode → Exp → ℕ → List PartNode
ending ns e s = ns ++ (node e s ∷ [])

-- the nodes of an expression's parts
abbrev mutual
  pub before : Exp → ℕ → List PartNode
  before (Load e) s = ending (before e s) e s
  before (Neg e) s = ending (before e s) e s
  before (Not e) s = ending (before e s) e s
  before (Bin op a b) s = ending (before a (s + 1)) a (s + 1) ++ ending (before b (s + 1)) b (s + 1)
  before (Cond c x y) s = (ending (before c s) c s ++ ending (before x s) x s) ++ ending (before y s) y s
  before (Call es f) s = before_all es (s + 2) ++ ending (before f (s + 2 + count es)) f (s + 2 + count es)
  before _ s = []

  -- the nodes of the arguments of a call
  pub before_all : Args → ℕ → List PartNode
  before_all no_argument s = []
  before_all (argument e es) s = ending (before e s) e s ++ before_all es (s + 1)

-- the nodes of an expression at level s
abbrev pub vector : Exp → ℕ → List PartNode
vector e s = ending (before e s) e s
