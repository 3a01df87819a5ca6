-- What holds of translated expressions at any place.
use Rattle.std.proofs.Common.{◌≡◌, ◌∙◌, ℕ, ◌+◌, ◌||◌, Bool, true, false, Option, Some, None, refl, sym, ap, arith}
use Rattle.std.specs.Prelude.{not, int_lt, int_le, ◌==◌, ℤ}
use Rattle.bc_word.specs.declared.operator.Op.{Op}
use Rattle.bc_word.specs.declared.operator.Op.TheVariants as operators
use Rattle.bc_word.specs.Words.{value_of, complemented, truth, signed}
use Rattle.bc_parse_tree.specs.declared.tree.UnaryOp.{UnaryOp}
use Rattle.bc_parse_tree.specs.declared.tree.UnaryOp.TheVariants as unary
use Rattle.bc_parse_tree.specs.Tree as tree
use Rattle.bc_core.specs.Tree.{Exp, Num, Frame, Glob, Place, Load, Neg, Not, Bin, Cond, Call, Valof}
use Rattle.bc_core.specs.Tree as core
use Rattle.bc_core.specs.Outcome.{Done, Run, then_do, both}
use Rattle.bc_core.specs.Value.{Context, Sense, has_call, sense, value, by_value, given, not_sense, is_true, truth_of_value}
use Rattle.bc_core.specs.Level.{operand_level}
use Rattle.bc_core.specs.Meaning.{context}
use Rattle.std.proofs.lemmas.Int.{ints}
use Rattle.bc_scope_defs.specs.Scope.{Meant, Constant, Pending, Static, Global, Routine, Variable, OuterVariable, OuterLabel, StrayVariable, StrayLabel, LabelOutside, Undeclared, Env, meant_by, Numbers}
use Rattle.bc_scope_defs.specs.Scope as scope
use Rattle.bc_scope_defs.specs.Numbering.{following}
use Rattle.bc_scope_defs.specs.Scoping.{operator, count}
use Rattle.bc_scope_defs.specs.Meaning.{Around, holds_call, worth_of_name, worth_of_unary, worth_of_binary, Worth}
use Rattle.bc_scope_defs.specs.Translation.{Forms, form_of_name, form_of_unary, form_of_binary, forms, core_arguments, negation, opposite, or_not}
use Rattle.bc_scope_laws.proofs.Runs.{both_then, then_then}

pub count_kept : (E : Env) (at : Numbers) (es : tree.Exps) → core.count (core_arguments E at es) ≡ count es
count_kept E at tree.none = refl
count_kept E at (tree.more e es) = ap (λ n. 1 + n) (count_kept E (following at e) es)

-- Calls

abbrev pub CallsAre : Forms → Bool → Type 0
CallsAre f b = (has_call f.address ≡ b) × (has_call f.content ≡ b)

calls_of_name : (m : Meant) → CallsAre (form_of_name m) false
calls_of_name (Constant w) = (refl, refl)
calls_of_name Pending = (refl, refl)
calls_of_name (Static m) = (refl, refl)
calls_of_name (Global n) = (refl, refl)
calls_of_name (Routine m) = (refl, refl)
calls_of_name (Variable k) = (refl, refl)
calls_of_name (scope.Label l) = (refl, refl)
calls_of_name OuterVariable = (refl, refl)
calls_of_name OuterLabel = (refl, refl)
calls_of_name StrayVariable = (refl, refl)
calls_of_name StrayLabel = (refl, refl)
calls_of_name LabelOutside = (refl, refl)
calls_of_name Undeclared = (refl, refl)

negation_calls : (e : Exp) → has_call (negation e) ≡ has_call e
negation_calls (Bin op a b) = of_operator (opposite op) where
  of_operator : (o : Option Op) → has_call (or_not o op a b) ≡ has_call (Bin op a b)
  of_operator None = refl
  of_operator (Some o) = refl
negation_calls (Num n) = refl
negation_calls (Frame k) = refl
negation_calls (Glob n) = refl
negation_calls (Place m) = refl
negation_calls (Load e) = refl
negation_calls (Neg e) = refl
negation_calls (Not e) = refl
negation_calls (Cond c x y) = refl
negation_calls (Call es f) = refl
negation_calls (Valof n) = refl

calls_of_unary : (m : UnaryOp) (f : Forms) (b : Bool) → CallsAre f b → CallsAre (form_of_unary m f) b
calls_of_unary unary.Load f b h = (h.1, h.1)
calls_of_unary unary.Address f b h = (h.0, h.0)
calls_of_unary unary.Not f b h = let c = negation_calls f.content ∙ h.1 in (c, c)
calls_of_unary unary.Neg f b h = (h.1, h.1)

calls_of_binary : (o : Option Op) (l r : Exp) (b : Bool) → (has_call l || has_call r) ≡ b → CallsAre (form_of_binary o l r) b
calls_of_binary None l r b h = (h, h)
calls_of_binary (Some op) l r b h = (h, h)

pub calls_kept : (E : Env) (at : Numbers) (e : tree.Exp) → CallsAre (forms E at e) (holds_call e)
calls_kept E at (tree.Name n) = calls_of_name (meant_by E n)
calls_kept E at (tree.Num w) = (refl, refl)
calls_kept E at (tree.Character w) = (refl, refl)
calls_kept E at tree.True = (refl, refl)
calls_kept E at tree.False = (refl, refl)
calls_kept E at (tree.Text bytes) = (refl, refl)
calls_kept E at (tree.Table ks) = (refl, refl)
calls_kept E at (tree.Valof b) = (refl, refl)
calls_kept E at (tree.Call f es) = (refl, refl)
calls_kept E at (tree.Unary m e) = calls_of_unary m _ _ (calls_kept E at e)
calls_kept E at (tree.Bin o l r) =
    calls_of_binary (operator o) _ _ _ (λ i. (calls_kept E at l).1 i || (calls_kept E (following at l) r).1 i)
calls_kept E at (tree.Cond c x y) =
    let h : has_call (forms E at (tree.Cond c x y)).content ≡ holds_call (tree.Cond c x y) =
    λ i. (calls_kept E at c).1 i || (calls_kept E (following at c) x).1 i || (calls_kept E (following (following at c) x) y).1 i in
    (h, h)

-- NOT of a relation

complement_of_truth : (b : Bool) → truth (not b) ≡ complemented (truth b)
complement_of_truth true = refl
complement_of_truth false = refl

truth_of_complement : (b : Bool) → is_true (truth (not b)) ≡ not (is_true (truth b))
truth_of_complement true = refl
truth_of_complement false = refl

-- a relation, and the one that holds exactly if it doesn't
pub record Opposes (op1 op : Op) : Type 0 where
  pub test : ℕ → ℕ → Bool
  pub is : (x y : ℕ) → value_of op x y ≡ Some (truth (test x y))
  pub is1 : (x y : ℕ) → value_of op1 x y ≡ Some (truth (not (test x y)))

negated_values : (op1 op : Op) → Opposes op1 op → (x y : ℕ) → then_do (given (value_of op x y)) (λ v. Done (complemented v)) ≡ given (value_of op1 x y)
negated_values op1 op o x y =
    ap (λ (v : Option ℕ). then_do (given v) (λ w. Done (complemented w))) (o.is x y)
    ∙ ap (λ v. Done v) (sym (complement_of_truth (o.test x y)))
    ∙ ap given (sym (o.is1 x y))

negated_truths : (op1 op : Op) → Opposes op1 op → (x y : ℕ) → then_do (given (value_of op x y)) (λ v. Done (not (is_true v))) ≡ then_do (given (value_of op1 x y)) (λ v. Done (is_true v))
negated_truths op1 op o x y =
    ap (λ (v : Option ℕ). then_do (given v) (λ w. Done (not (is_true w)))) (o.is x y)
    ∙ ap (λ v. Done v) (sym (truth_of_complement (o.test x y)))
    ∙ ap (λ (v : Option ℕ). then_do (given v) (λ w. Done (is_true w))) (sym (o.is1 x y))

value_negated : (op1 op : Op) → Opposes op1 op → (calls : Bool) (a b : Run ℕ) → both calls a b (λ x y. given (value_of op1 x y)) ≡ then_do (both calls a b (λ x y. given (value_of op x y))) (λ v. Done (complemented v))
value_negated op1 op o calls a b =
    sym (both_then calls a b (λ x y. given (value_of op x y)) (λ v. Done (complemented v)) ∙ (λ i. both calls a b (λ x y. negated_values op1 op o x y i)))

truth_negated : (op1 op : Op) → Opposes op1 op → (calls : Bool) (a b : Run ℕ) → truth_of_value (both calls a b (λ x y. given (value_of op1 x y))) ≡ then_do (truth_of_value (both calls a b (λ x y. given (value_of op x y)))) (λ t. Done (not t))
truth_negated op1 op o calls a b =
    both_then calls a b (λ x y. given (value_of op1 x y)) (λ v. Done (is_true v))
    ∙ (λ i. both calls a b (λ x y. sym (negated_truths op1 op o x y) i))
    ∙ sym (both_then calls a b (λ x y. given (value_of op x y)) (λ v. Done (not (is_true v))))
    ∙ sym (then_then (both calls a b (λ x y. given (value_of op x y))) (λ v. Done (is_true v)) (λ t. Done (not t)))

equal_opposed : Opposes operators.NotEqual operators.Equal
equal_opposed = record { test = λ x y. x == y; is = λ x y. refl; is1 = λ x y. refl }

not_not : (b : Bool) → not (not b) ≡ b
not_not true = refl
not_not false = refl

not_equal_opposed : Opposes operators.Equal operators.NotEqual
not_equal_opposed = record { test = λ x y. not (x == y); is = λ x y. refl; is1 = λ x y. ap (λ b. Some (truth b)) (sym (not_not (x == y))) }

le_not_lt : (a b : ℤ) → int_le a b ≡ not (int_lt b a)
le_not_lt a b = by (int_le a b) (int_lt b a) refl refl where
  by : (s t : Bool) → int_le a b ≡ s → int_lt b a ≡ t → s ≡ not t
  by true true e1 e2 = absurd (omega (arith, ints))
  by true false e1 e2 = refl
  by false true e1 e2 = refl
  by false false e1 e2 = absurd (omega (arith, ints))

less_opposed : Opposes operators.GreaterEqual operators.Less
less_opposed = record { test = λ x y. int_lt (signed x) (signed y); is = λ x y. refl; is1 = λ x y. ap (λ b. Some (truth b)) (le_not_lt (signed y) (signed x)) }

greater_opposed : Opposes operators.LessEqual operators.Greater
greater_opposed = record { test = λ x y. int_lt (signed y) (signed x); is = λ x y. refl; is1 = λ x y. ap (λ b. Some (truth b)) (le_not_lt (signed x) (signed y)) }

greater_equal_opposed : Opposes operators.Less operators.GreaterEqual
greater_equal_opposed = record { test = λ x y. int_le (signed y) (signed x); is = λ x y. refl; is1 = λ x y. ap (λ b. Some (truth b)) (sym (not_not (int_lt (signed x) (signed y))) ∙ ap not (sym (le_not_lt (signed y) (signed x)))) }

less_equal_opposed : Opposes operators.Greater operators.LessEqual
less_equal_opposed = record { test = λ x y. int_le (signed x) (signed y); is = λ x y. refl; is1 = λ x y. ap (λ b. Some (truth b)) (sym (not_not (int_lt (signed y) (signed x))) ∙ ap not (sym (le_not_lt (signed x) (signed y)))) }

abbrev of_relation : Op → (calls : Bool) → Run ℕ → Run ℕ → Sense
of_relation op calls a b = by_value (both calls a b (λ x y. given (value_of op x y)))

relation_negated : (op1 op : Op) → Opposes op1 op → (calls : Bool) (a b : Run ℕ) → of_relation op1 calls a b ≡ not_sense (of_relation op calls a b)
relation_negated op1 op o calls a b = λ i. record { value = value_negated op1 op o calls a b i; truth = truth_negated op1 op o calls a b i }

operator_negated : (C : Context) (op : Op) (a b : Exp) (p s : ℕ) → sense C (or_not (opposite op) op a b) p s ≡ not_sense (sense C (Bin op a b) p s)
operator_negated C operators.Equal a b p s = relation_negated _ _ equal_opposed (has_call a || has_call b) (value C a p (operand_level s)) (value C b p (operand_level s))
operator_negated C operators.NotEqual a b p s = relation_negated _ _ not_equal_opposed (has_call a || has_call b) (value C a p (operand_level s)) (value C b p (operand_level s))
operator_negated C operators.Less a b p s = relation_negated _ _ less_opposed (has_call a || has_call b) (value C a p (operand_level s)) (value C b p (operand_level s))
operator_negated C operators.GreaterEqual a b p s = relation_negated _ _ greater_equal_opposed (has_call a || has_call b) (value C a p (operand_level s)) (value C b p (operand_level s))
operator_negated C operators.Greater a b p s = relation_negated _ _ greater_opposed (has_call a || has_call b) (value C a p (operand_level s)) (value C b p (operand_level s))
operator_negated C operators.LessEqual a b p s = relation_negated _ _ less_equal_opposed (has_call a || has_call b) (value C a p (operand_level s)) (value C b p (operand_level s))
operator_negated C operators.Multiply a b p s = refl
operator_negated C operators.Divide a b p s = refl
operator_negated C operators.Remainder a b p s = refl
operator_negated C operators.Add a b p s = refl
operator_negated C operators.Subtract a b p s = refl
operator_negated C operators.ShiftLeft a b p s = refl
operator_negated C operators.ShiftRight a b p s = refl
operator_negated C operators.And a b p s = refl
operator_negated C operators.Or a b p s = refl
operator_negated C operators.NotEquivalent a b p s = refl
operator_negated C operators.Equivalent a b p s = refl

negation_means : (C : Context) (e : Exp) (p s : ℕ) → sense C (negation e) p s ≡ not_sense (sense C e p s)
negation_means C (Bin op a b) p s = operator_negated C op a b p s
negation_means C (Num n) p s = refl
negation_means C (Frame k) p s = refl
negation_means C (Glob n) p s = refl
negation_means C (Place m) p s = refl
negation_means C (Load e) p s = refl
negation_means C (Neg e) p s = refl
negation_means C (Not e) p s = refl
negation_means C (Cond c x y) p s = refl
negation_means C (Call es f) p s = refl
negation_means C (Valof n) p s = refl

-- what a translated expression means

abbrev pub worth_of : Context → Forms → (p s : ℕ) → Worth
worth_of C f p s = record { address = sense C f.address p s; content = sense C f.content p s }

abbrev pub in_context : Around → (ℕ → ℕ → ℕ → Run ℕ) → Context
in_context A V = context A.place A.call V

pub name_means : (A : Around) (V : ℕ → ℕ → ℕ → Run ℕ) (m : Meant) (p s : ℕ) → worth_of_name A m p ≡ worth_of (in_context A V) (form_of_name m) p s
name_means A V (Constant w) p s = refl
name_means A V Pending p s = refl
name_means A V (Static m) p s = refl
name_means A V (Global n) p s = refl
name_means A V (Routine m) p s = refl
name_means A V (Variable k) p s = refl
name_means A V (scope.Label l) p s = refl
name_means A V OuterVariable p s = refl
name_means A V OuterLabel p s = refl
name_means A V StrayVariable p s = refl
name_means A V StrayLabel p s = refl
name_means A V LabelOutside p s = refl
name_means A V Undeclared p s = refl

pub unary_means : (C : Context) (m : UnaryOp) (f : Forms) (p s : ℕ) → worth_of_unary m (worth_of C f p s) ≡ worth_of C (form_of_unary m f) p s
unary_means C unary.Load f p s = refl
unary_means C unary.Address f p s = refl
unary_means C unary.Neg f p s = refl
unary_means C unary.Not f p s = λ i. record { address = sym (negation_means C f.content p s) i; content = sym (negation_means C f.content p s) i }

pub binary_means : (C : Context) (o : Option Op) (l r : Exp) (p s : ℕ)
    → worth_of_binary o (has_call l || has_call r) (sense C l p (operand_level s)) (sense C r p (operand_level s)) ≡ worth_of C (form_of_binary o l r) p s
binary_means C None l r p s = refl
binary_means C (Some op) l r p s = refl
