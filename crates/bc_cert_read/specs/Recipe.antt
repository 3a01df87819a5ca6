-- For proofs: the parts that a rule derives at a node and the words that it adds, computed from the facts of the parts.
use Rattle.std.specs.Prelude.{ℕ, ◌+◌, ◌*◌, ◌==◌, Bool, true, false, not, ◌||◌, cond, List, [], ◌∷◌, Option, Some, None, is_some}
use Rattle.bc_word.specs.declared.operator.Op.{Op}
use Rattle.bc_word.specs.declared.operator.Op.TheVariants.{Add, Subtract, Equal, NotEqual, And, Or}
use Rattle.bc_word.specs.Words.{number_of, negated}
use Rattle.bc_word.specs.Mirror.{mirror_of}
use Rattle.bc_core.specs.declared.operands.Operand.{Operand}
use Rattle.bc_core.specs.Tree.{Exp}
use Rattle.bc_core.specs.Operand.{operand_of, constant_of}
use Rattle.bc_rules_defs.specs.declared.rule.Table.{Table}
use Rattle.bc_rules_defs.specs.declared.rule.Mode.{Mode}
use Rattle.bc_rules_defs.specs.declared.rule.Mode.TheVariants.{Any, Push}
use Rattle.bc_rules_defs.specs.declared.rule.Aim.{Aim}
use Rattle.bc_rules_defs.specs.declared.rule.Aim.TheVariants.{Gets, Jumps}
use Rattle.bc_rules_defs.specs.declared.rule.Rule.{Rule}
use Rattle.bc_rules_defs.specs.declared.rule.Rule.TheVariants.{V1, V2, V3, V4, V6, V7, V8, V9, V10, V11, V12, V13, V14, V15, V16, V17, V18, V19, V20, V21, V22, J1, J2, J3, J4, J5, J7, J8, J9}
use Rattle.bc_rules_defs.specs.declared.takes.Takes.{Takes}
use Rattle.bc_rules_defs.specs.Takes.{takes}
use Rattle.bc_rules_defs.specs.Free.{direct_operand, jumps_at}
use Rattle.bc_rules_defs.specs.Piece.{w, operand_words}
use Rattle.bc_select_defs.specs.Choices.{zero_number, has_tests_of_zero}
use Rattle.bc_cert_defs.specs.declared.costs.Costs.{Costs}
use Rattle.bc_cert_read.specs.declared.facts.Facts.{Facts}
use Rattle.bc_cert_read.specs.declared.form.Form.{Form}
use Rattle.bc_cert_read.specs.declared.form.Form.TheVariants as forms
use Rattle.bc_cert_read.specs.declared.recipe.Recipe.{Recipe}

abbrev pub words_of_operand : Option Operand → Option ℕ
words_of_operand None = None
words_of_operand (Some o) = Some (operand_words o)

abbrev pub words_of_operand_of : Exp → Option ℕ
words_of_operand_of e = words_of_operand (operand_of e)

abbrev pub is_direct_expression : Exp → Bool
is_direct_expression e = direct_operand (operand_of e)

abbrev pub facts_of : Exp → Bool → Costs → Facts
facts_of e calls costs = record { operand = words_of_operand_of e; is_direct = is_direct_expression e; constant = constant_of e; calls = calls; costs = costs }

abbrev pub free : Facts → Facts → Bool
free a b = not (a.calls || b.calls) || a.is_direct || b.is_direct

abbrev pub recipe : Takes → ℕ → Option Recipe
recipe takes words = Some (record { takes = takes; words = words })

abbrev pub adding : Takes → Option ℕ → ℕ → Option Recipe
adding takes None k = None
adding takes (Some n) k = recipe takes (n + k)

abbrev pub where_so : Bool → Option Recipe → Option Recipe
where_so true r = r
where_so false r = None

abbrev pub only_at : Op → Op → Option Recipe → Option Recipe
only_at wanted op r = where_so (number_of op == number_of wanted) r

abbrev pub in_any : Mode → Option Recipe → Option Recipe
in_any Any r = r
in_any Push r = None

-- what the table of rules says the rule takes if the second part isn't a 0, with these words
abbrev pub by_table : Rule → Aim → ℕ → Option Recipe
by_table r aim words = recipe (takes r aim false) words

-- a rule that drops an operand 0; if both are 0 the right one is dropped
abbrev pub beside_zero : Rule → Facts → Facts → Aim → ℕ → Option Recipe
beside_zero r a b aim words = cond (zero_number b.constant) (recipe (takes r aim true) words) (cond (zero_number a.constant) (by_table r aim words) None)

abbrev pub without_zero : Op → Facts → Facts → Aim → Option Recipe
without_zero Add a b aim = beside_zero V8 a b aim 0
without_zero Subtract a b aim = where_so (zero_number b.constant) (recipe (takes V8 aim true) 0)
without_zero _ a b aim = None

abbrev pub less_number : Option ℕ → Aim → Option Recipe
less_number None aim = None
less_number (Some n) aim = by_table V9 aim (w (negated n))

-- the rules of values at an operator that derive both operands
abbrev pub both_parts : Rule → Op → ℕ → (are_free : Bool) → Option Recipe
both_parts V12 op s f = by_table V12 (Gets Any) 1
both_parts V13 op s f = where_so (is_some (mirror_of op)) (where_so f (by_table V13 (Gets Any) 1))
both_parts V14 op s f = only_at Subtract op (where_so f (by_table V14 (Gets Any) 2))
both_parts V15 op s f = where_so (is_some (mirror_of op)) (by_table V15 (Gets Any) (1 + 2 * w s))
both_parts V16 op s f = where_so f (by_table V16 (Gets Any) (1 + 2 * w s))
both_parts V17 op s f = by_table V17 (Gets Any) (1 + 2 * w s + 2 * w (s + 1))
both_parts V18 op s f = only_at Add op (by_table V18 (Gets Any) (2 * w s))
both_parts V19 op s f = only_at Subtract op (by_table V19 (Gets Any) (1 + 2 * w s))
both_parts _ op s f = None

-- the rules of values at an operator
abbrev pub value_of_two : Rule → Mode → Op → ℕ → Facts → Facts → Option Recipe
value_of_two V6 m op s a b = only_at Add op (adding (takes V6 (Gets m) false) b.operand 0)
value_of_two V7 m op s a b = only_at Add op (where_so (free a b) (adding (takes V7 (Gets m) false) a.operand 0))
value_of_two V8 m op s a b = without_zero op a b (Gets m)
value_of_two V9 m op s a b = only_at Subtract op (less_number b.constant (Gets m))
value_of_two V10 m op s a b = only_at Subtract op (adding (takes V10 (Gets m) false) b.operand 2)
value_of_two V11 m op s a b = only_at Subtract op (where_so (free a b) (adding (takes V11 (Gets m) false) a.operand 1))
value_of_two r m op s a b = in_any m (both_parts r op s (free a b))

abbrev pub zero_test : Rule → Table → Facts → Facts → Option Recipe
zero_test r T a b = where_so (has_tests_of_zero T) (beside_zero r a b (Gets Any) 2)

-- the rules of tests at an operator, other than J6
abbrev pub test_of_two : Rule → Table → (sense : Bool) → Op → Facts → Facts → Option Recipe
test_of_two J2 T sense op a b = only_at And op (where_so (not sense) (by_table J2 (Jumps sense) 0))
test_of_two J3 T sense op a b = only_at And op (where_so sense (by_table J3 (Jumps sense) 0))
test_of_two J4 T sense op a b = only_at Or op (where_so sense (by_table J4 (Jumps sense) 0))
test_of_two J5 T sense op a b = only_at Or op (where_so (not sense) (by_table J5 (Jumps sense) 0))
test_of_two J8 T sense op a b = only_at Equal op (zero_test J8 T a b)
test_of_two J9 T sense op a b = only_at NotEqual op (zero_test J9 T a b)
test_of_two _ T sense op a b = None

abbrev pub of_two : Rule → Aim → Table → Op → ℕ → Facts → Facts → Option Recipe
of_two r (Gets m) T op s a b = value_of_two r m op s a b
of_two r (Jumps sense) T op s a b = test_of_two r T sense op a b

abbrev pub of_number : Rule → Aim → ℕ → Option Recipe
of_number J7 (Jumps sense) n = by_table J7 (Jumps sense) (cond (jumps_at sense n) 2 0)
of_number _ _ n = None

abbrev pub of_load : Rule → Aim → Option Recipe
of_load V2 (Gets m) = by_table V2 (Gets m) 1
of_load _ _ = None

abbrev pub of_neg : Rule → Aim → Option Recipe
of_neg V3 (Gets m) = by_table V3 (Gets m) 1
of_neg _ _ = None

abbrev pub of_not : Rule → Aim → Option Recipe
of_not V4 (Gets m) = by_table V4 (Gets m) 1
of_not J1 (Jumps sense) = by_table J1 (Jumps sense) 0
of_not _ _ = None

abbrev pub of_cond : Rule → Aim → Option Recipe
of_cond V20 (Gets Any) = by_table V20 (Gets Any) 2
of_cond V21 (Gets Any) = by_table V21 (Gets Any) 2
of_cond _ _ = None

abbrev pub of_call : Rule → Aim → ℕ → Option Recipe
of_call V22 (Gets Any) s = by_table V22 (Gets Any) (w s)
of_call _ _ s = None

abbrev pub of_valof : Rule → Aim → Option Recipe
of_valof V22 (Gets Any) = by_table V22 (Gets Any) 0
of_valof _ _ = None

abbrev pub of_parts : Rule → Aim → Table → Op → ℕ → List Facts → Option Recipe
of_parts r aim T op s (a ∷ b ∷ []) = of_two r aim T op s a b
of_parts r aim T op s _ = None

abbrev pub of_form : Rule → Aim → Table → ℕ → Form → List Facts → Option Recipe
of_form r aim T s (forms.Num n) ps = of_number r aim n
of_form r aim T s forms.Load ps = of_load r aim
of_form r aim T s forms.Neg ps = of_neg r aim
of_form r aim T s forms.Not ps = of_not r aim
of_form r aim T s (forms.Bin op) ps = of_parts r aim T op s ps
of_form r aim T s forms.Cond ps = of_cond r aim
of_form r aim T s (forms.Call n) ps = of_call r aim s
of_form r aim T s (forms.Valof n) ps = of_valof r aim
of_form r aim T s _ ps = None

-- the node itself as operand of an instruction, pushed
abbrev pub of_operand : Aim → Option ℕ → Option Recipe
of_operand (Gets Push) o = adding (takes V1 (Gets Push) false) o 0
of_operand _ o = None
