-- For proofs: what the walk knows of a node after its parts, and which candidates it has appended.
use Rattle.std.specs.Prelude.{◌≡◌, ℕ, ◌+◌, List, ◌++◌, map}
use Rattle.bc_core.specs.Tree.{Exp, Args}
use Rattle.bc_core.specs.Value.{has_call}
use Rattle.bc_core.specs.WellFormed.{nodes, nodes_of_args}
use Rattle.bc_rules_defs.specs.declared.rule.Table.TheVariants.{Two}
use Rattle.bc_select_defs.specs.Options.{sum}
use Rattle.bc_select_defs.specs.Choices.{choices, words_of_all}
use Rattle.bc_select_defs.specs.Nodes.{all_in_order}
use Rattle.bc_candidates.specs.declared.nodes.Below.{Below}
use Rattle.bc_candidates.specs.declared.nodes.NodeParts.{NodeParts}
use Rattle.bc_candidates.specs.declared.nodes.Arguments.{Arguments}
use Rattle.bc_candidates.specs.Aims.{ForAims}
use Rattle.bc_candidates.specs.Lists.{lists, candidates_at}

-- the walk's result for an expression is right
pub record IsBelow (b : Below) (e : Exp) (s : ℕ) : Type 0 where
  pub lists : b.lists ≡ lists Two e s
  pub calls : b.calls ≡ has_call e
  pub nodes : b.nodes ≡ nodes e

-- the facts that the walk passes up are those of the expression
pub record IsPart (p : NodeParts) (e : Exp) (s : ℕ) : Type 0 where
  pub choices : p.choices ≡ choices Two e s
  pub calls : p.calls ≡ has_call e
  pub nodes : p.nodes ≡ nodes e

-- the totals are those of the arguments
pub record AreArguments (a : Arguments) (es : Args) (s : ℕ) : Type 0 where
  pub words : a.words ≡ words_of_all Two es s
  pub nodes : a.nodes ≡ nodes_of_args es

-- the candidates of these nodes were appended
pub record Adds (old new : List ForAims) (nodes : List (Exp × ℕ)) : Type 0 where
  pub is : new ≡ old ++ map candidates_at nodes

-- some arguments of a call were walked, and these remain
pub record IsOnTheWay (a : Arguments) (old new : List ForAims) (left es : Args) (level first : ℕ) : Type 0 where
  pub words : sum a.words (words_of_all Two left level) ≡ words_of_all Two es first
  pub nodes : a.nodes + nodes_of_args left ≡ nodes_of_args es
  pub found : new ++ map candidates_at (all_in_order left level) ≡ old ++ map candidates_at (all_in_order es first)
