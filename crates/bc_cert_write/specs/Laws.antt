-- Statements of the laws about the lines of an entry.
use Rattle.std.specs.Prelude.{◌≡◌, map}
use Rattle.bc_core.specs.Tree.{Root}
use Rattle.bc_rules_defs.specs.declared.rule.Table.{Table}
use Rattle.bc_rules_defs.specs.declared.rule.Aim.{Aim}
use Rattle.bc_rules_defs.specs.Rules.{RootDerives}
use Rattle.bc_select_defs.specs.Least.{AreLeastWords}
use Rattle.bc_select_defs.specs.Nodes.{root_in_order}
use Rattle.bc_cert_write.specs.Shown.{Shown, root_shown}
use Rattle.bc_cert_write.specs.Lines.{least_words}

-- every derivation of a root has one line for each node of the root, in the order of the nodes
abbrev pub NodesInOrder : Type 0
NodesInOrder = (T : Table) (r : Root) (d : RootDerives T r) → map (λ n. (n.expression, n.level)) (root_shown d) ≡ root_in_order r

-- each number of a node line is the fewest words of the node's derivations for its aim, and `-` means that there is none
abbrev pub NumbersAreLeast : Type 0
NumbersAreLeast = (T : Table) (aim : Aim) (n : Shown) → AreLeastWords T n.expression aim n.level (least_words T aim n)
