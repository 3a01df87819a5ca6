-- For proofs: nodes that end with those of an expression's parts, and the words of arguments, summed from the last to the first.
use Rattle.std.specs.Prelude.{◌≡◌, ℕ, ◌+◌, ◌*◌, List, ◌++◌, Option}
use Rattle.bc_core.specs.Tree.{Exp, Args, no_argument, argument}
use Rattle.bc_rules_defs.specs.declared.rule.Table.TheVariants.{Two}
use Rattle.bc_rules_defs.specs.Piece.{w}
use Rattle.bc_select_defs.specs.Choices.{choices}
use Rattle.bc_select_defs.specs.Options.{plus, sum, words_of}
use Rattle.bc_select.specs.declared.node_of_parts.Arguments.{Arguments}
use Rattle.bc_select.specs.declared.node.PartNode.{PartNode}
use Rattle.bc_select.specs.Small.{UpTo}
use Rattle.bc_select.specs.Vector.{before, before_all}

-- the nodes end with those of an expression's parts
pub record EndsInParts (nodes : List PartNode) (e : Exp) (s : ℕ) : Type 0 where
  pub front : List PartNode
  pub is : nodes ≡ front ++ before e s

-- the nodes end with those of a call's arguments
pub record EndsInArguments (nodes : List PartNode) (es : Args) (s : ℕ) : Type 0 where
  pub front : List PartNode
  pub is : nodes ≡ front ++ before_all es s

-- the words of these arguments, each stored in its cell, and of those that follow
abbrev pub words_before : Args → ℕ → Option ℕ → Option ℕ
words_before no_argument s following = following
words_before (argument e es) s following = sum (plus (words_of (choices Two e s).any) (w s)) (words_before es (s + 1) following)

-- the words of the arguments are at most sixteen times their nodes
pub record AreFew (a : Arguments) : Type 0 where
  pub words : UpTo a.words (16 * a.nodes)
