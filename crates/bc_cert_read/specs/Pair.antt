-- For proofs: a dyadic operator with what is known of its two operands.
use Rattle.std.specs.Prelude.{ℕ, Bool, List, [], ◌∷◌, Option}
use Rattle.bc_rules_defs.specs.declared.rule.Mode.{Mode}
use Rattle.bc_rules_defs.specs.declared.rule.Rule.{Rule}
use Rattle.bc_cert_read.specs.declared.facts.Facts.{Facts}
use Rattle.bc_cert_read.specs.declared.form.Form.TheVariants as forms
use Rattle.bc_cert_read.specs.declared.least_words.Pair.{Pair}
use Rattle.bc_cert_read.specs.declared.node.Node as code
use Rattle.bc_cert_read.specs.Recipe.{value_of_two, test_of_two}
use Rattle.bc_cert_read.specs.Node.{Node, node_of, words_where}

abbrev pub both : Pair → List Facts
both p = p.left.now ∷ p.right.now ∷ []

-- the node with these operands
abbrev pub pair_node : code.Node → Pair → Node
pair_node n p = node_of n (forms.Bin p.op) (both p)

-- the words of a rule of values, and those of a rule of tests
abbrev pub value_words : code.Node → Pair → Rule → Mode → Option ℕ
value_words n p r m = words_where n.level (both p) (value_of_two r m p.op n.level p.left.now p.right.now)

abbrev pub test_words : code.Node → Pair → Rule → (sense : Bool) → Option ℕ
test_words n p r sense = words_where n.level (both p) (test_of_two r n.table sense p.op p.left.now p.right.now)
