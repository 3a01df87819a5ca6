-- For proofs: the words that the rules give at a node, and the least of them, computed as the program does it.
use Rattle.std.specs.Prelude.{ℕ, ◌+◌, min, Bool, true, false, cond, List, [], ◌∷◌, Option, Some, None}
use Rattle.bc_rules_defs.specs.declared.rule.Table.{Table}
use Rattle.bc_rules_defs.specs.declared.rule.Mode.TheVariants.{Any, Push}
use Rattle.bc_rules_defs.specs.declared.rule.Aim.{Aim}
use Rattle.bc_rules_defs.specs.declared.rule.Aim.TheVariants.{Gets, Jumps}
use Rattle.bc_rules_defs.specs.declared.rule.Rule.{Rule}
use Rattle.bc_rules_defs.specs.declared.rule.Rule.TheVariants.{V1, V2, V3, V4, V6, V7, V8, V9, V10, V11, V12, V13, V14, V15, V16, V17, V18, V19, V20, V21, V22, J1, J2, J3, J4, J5, J7, J8, J9}
use Rattle.bc_rules_defs.specs.Piece.{w}
use Rattle.bc_select_defs.specs.Options.{sum}
use Rattle.bc_cert_read.specs.declared.costs.LeastWords.{LeastWords}
use Rattle.bc_cert_read.specs.declared.facts.Facts.{Facts}
use Rattle.bc_cert_read.specs.declared.form.Form.{Form}
use Rattle.bc_cert_read.specs.declared.form.Form.TheVariants as forms
use Rattle.bc_cert_read.specs.declared.node.Node as code
use Rattle.bc_rules_defs.specs.declared.takes.Takes.{Takes}
use Rattle.bc_rules_defs.specs.declared.takes.Takes.TheVariants.{Call}
use Rattle.bc_cert_read.specs.declared.recipe.Recipe.{Recipe}
use Rattle.bc_cert_read.specs.Costs.{cost_of}
use Rattle.bc_cert_read.specs.Form.{is_plain}
use Rattle.bc_rules_defs.specs.Takes.{aim_at}
use Rattle.bc_cert_read.specs.Recipe.{of_form, of_operand}

pub record Node : Type 0 where
  pub table : Table
  pub level : ℕ
  pub form : Form
  pub operand : Option ℕ
  pub parts : List Facts

abbrev pub node : code.Node → Node
node n = record { table = n.table; level = n.level; form = n.form; operand = n.operand; parts = n.parts.now }

-- the same node with another form and other parts
abbrev pub node_of : code.Node → Form → List Facts → Node
node_of n form parts = record { table = n.table; level = n.level; form = form; operand = n.operand; parts = parts }

abbrev pub recipe_by : Node → Rule → Aim → Option Recipe
recipe_by n V1 aim = of_operand aim n.operand
recipe_by n r aim = of_form r aim n.table n.level n.form n.parts

-- the words that store an argument of a call in its cell
abbrev pub held : Takes → ℕ → ℕ → (is_last : Bool) → ℕ
held Call s at is_last = cond is_last 0 (w (s + 2 + at))
held _ s at is_last = 0

abbrev pub more_words : Option ℕ → ℕ → Option ℕ
more_words None k = None
more_words (Some n) k = Some (n + k)

abbrev pub wanted_for : Option Aim → Facts → ℕ → Option ℕ
wanted_for None p k = Some 0
wanted_for (Some aim) p k = more_words (cost_of aim p.costs) k

abbrev pub wanted : Takes → ℕ → ℕ → Facts → (is_last : Bool) → Option ℕ
wanted t s at p is_last = wanted_for (aim_at t at) p (held t s at is_last)

abbrev pub no_parts : List Facts → Bool
no_parts [] = true
no_parts _ = false

abbrev pub words_from : Takes → ℕ → Option ℕ → ℕ → List Facts → Option ℕ
words_from t s words at [] = words
words_from t s words at (p ∷ ps) = words_from t s (sum words (wanted t s at p (no_parts ps))) (at + 1) ps

abbrev pub words_of : ℕ → List Facts → Recipe → Option ℕ
words_of s ps r = words_from r.takes s (Some r.words) 0 ps

abbrev pub words_where : ℕ → List Facts → Option Recipe → Option ℕ
words_where s ps None = None
words_where s ps (Some r) = words_of s ps r

abbrev pub words_by : Node → Rule → Aim → Option ℕ
words_by n r aim = words_where n.level n.parts (recipe_by n r aim)

abbrev pub lesser : Option ℕ → Option ℕ → Option ℕ
lesser None y = y
lesser (Some x) None = Some x
lesser (Some x) (Some y) = Some (min x y)

abbrev pub least : Node → Aim → Option ℕ → List Rule → Option ℕ
least n aim words [] = words
least n aim words (r ∷ rs) = least n aim (lesser words (words_by n r aim)) rs

abbrev pub plain_words : Bool → ℕ → Option ℕ
plain_words true n = Some (n + 2)
plain_words false n = None

abbrev pub by_value : Form → Option ℕ → Option ℕ
by_value form None = None
by_value form (Some n) = plain_words (is_plain form) n

abbrev pub pushes_of : Form → List Rule
pushes_of forms.Load = V1 ∷ V2 ∷ []
pushes_of forms.Neg = V1 ∷ V3 ∷ []
pushes_of forms.Not = V1 ∷ V4 ∷ []
pushes_of (forms.Bin op) = V1 ∷ V6 ∷ V7 ∷ V8 ∷ V9 ∷ V10 ∷ V11 ∷ []
pushes_of _ = V1 ∷ []

abbrev pub values_of : Form → List Rule
values_of forms.Load = V2 ∷ []
values_of forms.Neg = V3 ∷ []
values_of forms.Not = V4 ∷ []
values_of (forms.Bin op) = V6 ∷ V7 ∷ V8 ∷ V9 ∷ V10 ∷ V11 ∷ V12 ∷ V13 ∷ V14 ∷ V15 ∷ V16 ∷ V17 ∷ V18 ∷ V19 ∷ []
values_of forms.Cond = V20 ∷ V21 ∷ []
values_of (forms.Call n) = V22 ∷ []
values_of (forms.Valof n) = V22 ∷ []
values_of _ = []

abbrev pub tests_of : Form → List Rule
tests_of (forms.Num n) = J7 ∷ []
tests_of forms.Not = J1 ∷ []
tests_of (forms.Bin op) = J2 ∷ J3 ∷ J4 ∷ J5 ∷ J8 ∷ J9 ∷ []
tests_of _ = []

abbrev pub least_push : Node → Option ℕ
least_push n = least n (Gets Push) None (pushes_of n.form)

abbrev pub least_any : Node → Option ℕ
least_any n = lesser (least_push n) (least n (Gets Any) None (values_of n.form))

abbrev pub least_on : Node → Bool → Option ℕ
least_on n sense = lesser (by_value n.form (least_any n)) (least n (Jumps sense) None (tests_of n.form))

-- the least words for each aim, from the least by each kind of rule
abbrev pub gathered : Form → (push values on_false on_true : Option ℕ) → LeastWords
gathered form push values on_false on_true = record {
  any = lesser push values;
  push = push;
  on_false = lesser (by_value form (lesser push values)) on_false;
  on_true = lesser (by_value form (lesser push values)) on_true;
}

abbrev pub least_words_of : Node → LeastWords
least_words_of n = record { any = least_any n; push = least_push n; on_false = least_on n false; on_true = least_on n true }
