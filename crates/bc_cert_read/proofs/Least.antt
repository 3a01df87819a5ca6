-- The least words that the rules give at a node are those of the derivations of its expression.
use Rattle.std.proofs.Common.{◌≡◌, ℕ, ◌+◌, Bool, true, false, List, [], ◌∷◌, ◌++◌, Option, Some, None, cond, refl, ap, sym, ◌∙◌, subst, arith}
use Rattle.std.specs.Prelude.{not, ◌==◌}
use Rattle.bc_word.specs.declared.operator.Op.{Op}
use Rattle.bc_word.specs.declared.operator.Op.TheVariants as operators
use Rattle.bc_word.specs.Words.{number_of, negated}
use Rattle.bc_core.specs.declared.operands.Operand.{Operand}
use Rattle.bc_core.specs.Tree.{Exp, Num, Frame, Glob, Place, Load, Neg, Not, Bin, Cond, Call, Valof, Args, no_argument, argument, count}
use Rattle.bc_core.specs.Operand.{operand_of, constant_of}
use Rattle.bc_core.specs.Value.{has_call}
use Rattle.bc_rules_defs.specs.declared.rule.Table.{Table}
use Rattle.bc_rules_defs.specs.declared.rule.Mode.{Mode}
use Rattle.bc_rules_defs.specs.declared.rule.Mode.TheVariants.{Any, Push}
use Rattle.bc_rules_defs.specs.declared.rule.Aim.{Aim}
use Rattle.bc_rules_defs.specs.declared.rule.Aim.TheVariants.{Gets, Jumps}
use Rattle.bc_rules_defs.specs.declared.rule.Rule.{Rule}
use Rattle.bc_rules_defs.specs.declared.rule.Rule.TheVariants as rule
use Rattle.bc_rules_defs.specs.Piece.{w, operand_words}
use Rattle.bc_select_defs.specs.declared.choice.Choice.{Choice}
use Rattle.bc_select_defs.specs.declared.choice.Choices.{Choices}
use Rattle.bc_select_defs.specs.declared.choice.Candidate.{Candidate}
use Rattle.bc_select_defs.specs.declared.choice.Asked as choosing
use Rattle.bc_select_defs.specs.Options.{plus, more, sum, given, operand_cost, words_of as words_in, better, least_from, candidate}
use Rattle.bc_select_defs.specs.Choices.{words_for, by_value as by_value_choice, number_tests, not_tests, line, zero_number, number_cost, beside, without, mixed, worked, pair_tests, has_tests_of_zero, choices, words_of_all, node_of}
use Rattle.bc_cert_defs.specs.declared.costs.Costs.{Costs}
use Rattle.bc_cert_read.specs.declared.facts.Facts.{Facts}
use Rattle.bc_cert_read.specs.declared.form.Form.{Form}
use Rattle.bc_rules_defs.specs.declared.takes.Takes.TheVariants.{Nothing, First, Second, InOrder, Turned, Choice as Chosen, Call as Called}
use Rattle.bc_cert_read.specs.declared.recipe.Recipe.{Recipe}
use Rattle.bc_cert_read.specs.Costs.{cost_of}
use Rattle.bc_cert_read.specs.Form.{is_plain}
use Rattle.bc_cert_read.specs.Recipe.{facts_of, words_of_operand, recipe, adding, where_so, less_number, without_zero, zero_test}
use Rattle.bc_cert_read.specs.Node.{Node, more_words, words_where, words_by, words_from, lesser, least, by_value, plain_words, pushes_of, values_of, tests_of, least_push, least_any, least_on}
use Rattle.bc_cert_read.specs.Parts.{AreLeast, AreCallParts, AreParts, form_of, node_over}
use Rattle.bc_cert_read.proofs.Minima.{lesser_none, lesser_turned, lesser_grouped, least_after, Give, give_least, better_words}

-- the words of a recipe at two parts
abbrev pair_words : ℕ → Facts → Facts → Option Recipe → Option ℕ
pair_words s p q r = words_where s (p ∷ q ∷ []) r

so_words : (s : ℕ) (p q : Facts) (b : Bool) (r : Option Recipe) (x : Option ℕ) → pair_words s p q r ≡ x → pair_words s p q (where_so b r) ≡ given b x
unfolding given
so_words s p q true r x h = h
so_words s p q false r x h = refl

-- sums of the words of parts
none_first : (x : Option ℕ) (j : ℕ) → sum (sum (Some j) (more_words x 0)) (Some 0) ≡ sum x (Some j)
unfolding sum
none_first None j = refl
none_first (Some m) j = ap Some (omega arith)

none_second : (x : Option ℕ) (j : ℕ) → sum (sum (Some j) (Some 0)) (more_words x 0) ≡ sum x (Some j)
unfolding sum
none_second None j = refl
none_second (Some m) j = ap Some (omega arith)

in_turn : (x y : Option ℕ) (k : ℕ) → sum (sum (Some k) (more_words x 0)) (more_words y 0) ≡ plus (sum x y) k
unfolding sum plus
in_turn None y k = refl
in_turn (Some m) None k = refl
in_turn (Some m) (Some n) k = ap Some (omega arith)

turned : (x y : Option ℕ) → sum x y ≡ sum y x
unfolding sum
turned None None = refl
turned None (Some n) = refl
turned (Some m) None = refl
turned (Some m) (Some n) = ap Some (omega arith)

sum_none : (x : Option ℕ) → sum x None ≡ None
unfolding sum
sum_none None = refl
sum_none (Some m) = refl

sum_some : (x : Option ℕ) (k : ℕ) → sum x (Some k) ≡ plus x k
unfolding sum plus
sum_some None k = refl
sum_some (Some m) k = refl

plus_nothing : (x : Option ℕ) → plus x 0 ≡ x
unfolding plus
plus_nothing None = refl
plus_nothing (Some m) = ap Some (omega arith)

more_nothing : (o : Option Operand) → more 0 (operand_cost o) ≡ operand_cost o
unfolding more operand_cost
more_nothing None = refl
more_nothing (Some o) = ap Some (omega arith)

-- the first or the second part, and an operand
with_first : (s : ℕ) (p q : Facts) (aim : Aim) (x : Option ℕ) (o : Option Operand) (k : ℕ) → cost_of aim p.costs ≡ x → pair_words s p q (adding (First aim) (words_of_operand o) k) ≡ sum x (more k (operand_cost o))
unfolding more operand_cost
with_first s p q aim x None k h = sym (sum_none x)
with_first s p q aim x (Some o) k h =
    ap (λ y. sum (sum (Some (operand_words o + k)) (more_words y 0)) (Some 0)) h
    ∙ none_first x (operand_words o + k)
    ∙ ap (λ n. sum x (Some n)) (omega arith)

with_second : (s : ℕ) (p q : Facts) (aim : Aim) (x : Option ℕ) (o : Option Operand) (k : ℕ) → cost_of aim q.costs ≡ x → pair_words s p q (adding (Second aim) (words_of_operand o) k) ≡ sum x (more k (operand_cost o))
unfolding more operand_cost
with_second s p q aim x None k h = sym (sum_none x)
with_second s p q aim x (Some o) k h =
    ap (λ y. sum (sum (Some (operand_words o + k)) (Some 0)) (more_words y 0)) h
    ∙ none_second x (operand_words o + k)
    ∙ ap (λ n. sum x (Some n)) (omega arith)

only_first : (s : ℕ) (p q : Facts) (aim : Aim) (x : Option ℕ) (k : ℕ) → cost_of aim p.costs ≡ x → pair_words s p q (recipe (First aim) k) ≡ plus x k
only_first s p q aim x k h = ap (λ y. sum (sum (Some k) (more_words y 0)) (Some 0)) h ∙ none_first x k ∙ sum_some x k

only_second : (s : ℕ) (p q : Facts) (aim : Aim) (x : Option ℕ) (k : ℕ) → cost_of aim q.costs ≡ x → pair_words s p q (recipe (Second aim) k) ≡ plus x k
only_second s p q aim x k h = ap (λ y. sum (sum (Some k) (Some 0)) (more_words y 0)) h ∙ none_second x k ∙ sum_some x k

-- both parts
in_order : (s : ℕ) (p q : Facts) (l m : Aim) (x y : Option ℕ) (k : ℕ) → cost_of l p.costs ≡ x → cost_of m q.costs ≡ y → pair_words s p q (recipe (InOrder l m) k) ≡ plus (sum x y) k
in_order s p q l m x y k h i = ap (λ u. sum (sum (Some k) (more_words u 0)) (more_words (cost_of m q.costs) 0)) h ∙ ap (λ u. sum (sum (Some k) (more_words x 0)) (more_words u 0)) i ∙ in_turn x y k

in_turned : (s : ℕ) (p q : Facts) (l m : Aim) (x y : Option ℕ) (k : ℕ) → cost_of l p.costs ≡ x → cost_of m q.costs ≡ y → pair_words s p q (recipe (Turned l m) k) ≡ plus (sum y x) k
in_turned s p q l m x y k h i = ap (λ u. sum (sum (Some k) (more_words u 0)) (more_words (cost_of m q.costs) 0)) h ∙ ap (λ u. sum (sum (Some k) (more_words x 0)) (more_words u 0)) i ∙ in_turn x y k ∙ ap (λ u. plus u k) (turned x y)

-- a part beside a 0
beside_words : (s : ℕ) (p q : Facts) (aim : Aim) (x y : Option ℕ) (k : ℕ) (t u : Bool) → cost_of aim p.costs ≡ x → cost_of aim q.costs ≡ y → pair_words s p q (cond t (recipe (First aim) k) (cond u (recipe (Second aim) k) None)) ≡ plus (cond t x (cond u y None)) k
unfolding plus
beside_words s p q aim x y k true u h i = only_first s p q aim x k h
beside_words s p q aim x y k false true h i = only_second s p q aim y k i
beside_words s p q aim x y k false false h i = refl

-- a node that is an operand
alone : (s : ℕ) (p q : Facts) (o : Option Operand) → pair_words s p q (adding Nothing (words_of_operand o) 0) ≡ operand_cost o
unfolding operand_cost sum
alone s p q None = refl
alone s p q (Some o) = ap Some (omega arith)

chosen : (t : Bool) (x : Option ℕ) → given t x ≡ cond t x None
unfolding given
chosen true x = refl
chosen false x = refl

so_none : (s : ℕ) (p q : Facts) (t : Bool) → pair_words s p q (where_so t None) ≡ None
so_none s p q true = refl
so_none s p q false = refl

-- V0 takes the words of the pushed value, J6 adds to those of the value
no_given : (x : Option ℕ) → given false x ≡ None
unfolding given
no_given x = refl

so_given : (x : Option ℕ) → given true x ≡ x
unfolding given
so_given x = refl

any_from : (n : Node) (push : Option Choice) (cs : List Candidate) → least_push n ≡ words_in push → Give n (Gets Any) (values_of n.form) cs → least_any n ≡ words_in (least_from None (candidate rule.V0 (words_in push) ∷ cs))
unfolding least_from
any_from n push cs h g =
    least_after n (Gets Any) (least_push n) (values_of n.form)
    ∙ ap (λ x. least n (Gets Any) x (values_of n.form)) (h ∙ sym (better_words None rule.V0 (words_in push)))
    ∙ give_least n (Gets Any) (better None rule.V0 (words_in push)) (values_of n.form) cs g

none_given : (t : Bool) → None ≡ given t (plus None 2)
unfolding given plus
none_given true = refl
none_given false = refl

some_given : (t : Bool) (n : ℕ) → plain_words t n ≡ given t (plus (Some n) 2)
unfolding given plus
some_given true n = refl
some_given false n = refl

value_words : (form : Form) (x : Option ℕ) → by_value form x ≡ given (is_plain form) (plus x 2)
value_words form None = none_given (is_plain form)
value_words form (Some n) = some_given (is_plain form) n

-- a fold over candidates depends only on their words
abbrev folded : Option ℕ → List Candidate → Option ℕ
folded x [] = x
folded x (c ∷ cs) = folded (lesser x c.words) cs

fold_words : (best : Option Choice) (cs : List Candidate) → words_in (least_from best cs) ≡ folded (words_in best) cs
unfolding least_from
fold_words best [] = refl
fold_words best (c ∷ cs) = fold_words (better best c.rule c.words) cs ∙ ap (λ x. folded x cs) (better_words best c.rule c.words)

middle : (a v c d : Option ℕ) → lesser v (lesser (lesser a c) d) ≡ lesser (lesser (lesser a v) c) d
middle a v c d =
    sym (lesser_grouped v (lesser a c) d)
    ∙ ap (λ q. lesser q d) (sym (lesser_grouped v a c) ∙ ap (λ q. lesser q c) (lesser_turned v a))

inner_none : (v a b c d e f : Option ℕ) → b ≡ None → c ≡ None → lesser v (lesser (lesser (lesser (lesser (lesser a b) c) d) e) f) ≡ lesser (lesser (lesser (lesser a d) v) e) f
inner_none v a b c d e f h i =
    ap (λ q. lesser v (lesser (lesser (lesser (lesser (lesser a q) c) d) e) f)) h
    ∙ ap (λ q. lesser v (lesser (lesser (lesser (lesser (lesser a None) q) d) e) f)) i
    ∙ ap (λ q. lesser v (lesser (lesser (lesser q d) e) f)) (lesser_none (lesser a None) ∙ lesser_none a)
    ∙ middle (lesser a d) v e f

outer_none : (v a b c d e f : Option ℕ) → a ≡ None → d ≡ None → lesser v (lesser (lesser (lesser (lesser (lesser a b) c) d) e) f) ≡ lesser (lesser (lesser (lesser b c) v) e) f
outer_none v a b c d e f h i =
    ap (λ q. lesser v (lesser (lesser (lesser (lesser (lesser q b) c) d) e) f)) h
    ∙ ap (λ q. lesser v (lesser (lesser (lesser (lesser b c) q) e) f)) i
    ∙ ap (λ q. lesser v (lesser (lesser q e) f)) (lesser_none (lesser b c))
    ∙ middle (lesser b c) v e f

five : (a b v e f a1 b1 v1 e1 f1 : Option ℕ) → a ≡ a1 → b ≡ b1 → v ≡ v1 → e ≡ e1 → f ≡ f1 → lesser (lesser (lesser (lesser a b) v) e) f ≡ lesser (lesser (lesser (lesser a1 b1) v1) e1) f1
five a b v e f a1 b1 v1 e1 f1 h i j k m =
    ap (λ q. lesser (lesser (lesser (lesser q b) v) e) f) h
    ∙ ap (λ q. lesser (lesser (lesser (lesser a1 q) v) e) f) i
    ∙ ap (λ q. lesser (lesser (lesser (lesser a1 b1) q) e) f) j
    ∙ ap (λ q. lesser (lesser (lesser (lesser a1 b1) v1) q) f) k
    ∙ ap (λ q. lesser (lesser (lesser (lesser a1 b1) v1) e1) q) m

-- the choices of an expression are what the rules give
pub record IsLine (n : Node) (c : Choices) : Type 0 where
  pub push : least_push n ≡ words_in c.push
  pub any : least_any n ≡ words_in c.any
  pub on_false : least_on n false ≡ words_in c.on_false
  pub on_true : least_on n true ≡ words_in c.on_true

given_turned : (t u : Bool) (x : Option ℕ) → given t (given u x) ≡ given u (given t x)
unfolding given
given_turned true u x = refl
given_turned false true x = refl
given_turned false false x = refl

-- the facts of two expressions
module _ (T : Table) (a b : Exp) (s : ℕ) (c d : Costs) (h : AreLeast T a (s + 1) c) (i : AreLeast T b (s + 1) d) where
  abbrev left : Facts
  left = facts_of a (has_call a) c

  abbrev right : Facts
  right = facts_of b (has_call b) d

  abbrev la : choosing.Asked
  la = node_of T a (s + 1)

  abbrev rb : choosing.Asked
  rb = node_of T b (s + 1)

  abbrev over_pair : Op → Node
  over_pair op = node_over T (Bin op a b) 0 s (left ∷ right ∷ [])

  abbrev x_of : Aim → Option ℕ
  x_of aim = words_for aim (choices T a (s + 1))

  abbrev y_of : Aim → Option ℕ
  y_of aim = words_for aim (choices T b (s + 1))

  has_x : (aim : Aim) → cost_of aim c ≡ x_of aim
  has_x aim = sym (h.words aim)

  has_y : (aim : Aim) → cost_of aim d ≡ y_of aim
  has_y aim = sym (i.words aim)

  without_words : (op : Op) (m : Mode) → pair_words s left right (without_zero op left right (Gets m)) ≡ without op la rb (x_of (Gets m)) (y_of (Gets m))
  without_words operators.Add m = beside_words s left right (Gets m) _ _ 0 (zero_number (constant_of b)) (zero_number (constant_of a)) (has_x (Gets m)) (has_y (Gets m)) ∙ plus_nothing _
  without_words operators.Subtract m = so_words s left right (zero_number (constant_of b)) _ _ (only_first s left right (Gets m) _ 0 (has_x (Gets m)) ∙ plus_nothing _) ∙ chosen (zero_number (constant_of b)) (x_of (Gets m))
  without_words operators.Multiply m = refl
  without_words operators.Divide m = refl
  without_words operators.Remainder m = refl
  without_words operators.Equal m = refl
  without_words operators.NotEqual m = refl
  without_words operators.Less m = refl
  without_words operators.GreaterEqual m = refl
  without_words operators.Greater m = refl
  without_words operators.LessEqual m = refl
  without_words operators.ShiftLeft m = refl
  without_words operators.ShiftRight m = refl
  without_words operators.And m = refl
  without_words operators.Or m = refl
  without_words operators.NotEquivalent m = refl
  without_words operators.Equivalent m = refl

  number_words : (m : Mode) (n : Option ℕ) → pair_words s left right (less_number n (Gets m)) ≡ sum (x_of (Gets m)) (number_cost n)
  unfolding number_cost
  number_words m None = sym (sum_none _)
  number_words m (Some n) = only_first s left right (Gets m) _ (w (negated n)) (has_x (Gets m)) ∙ sym (sum_some _ _)

  mixed_give : (op : Op) (m : Mode) (rs : List Rule) (cs : List Candidate) → Give (over_pair op) (Gets m) rs cs → Give (over_pair op) (Gets m) (rule.V6 ∷ rule.V7 ∷ rule.V8 ∷ rule.V9 ∷ rule.V10 ∷ rule.V11 ∷ rs) (mixed op la rb (x_of (Gets m)) (y_of (Gets m)) ++ cs)
  mixed_give op m rs cs k = (
    so_words s left right _ _ _ (with_first s left right (Gets m) _ (operand_of b) 0 (has_x (Gets m)) ∙ ap (λ u. sum (x_of (Gets m)) u) (more_nothing (operand_of b))),
    (
      so_words s left right _ _ _ (so_words s left right _ _ _ (with_second s left right (Gets m) _ (operand_of a) 0 (has_y (Gets m)) ∙ ap (λ u. sum (y_of (Gets m)) u) (more_nothing (operand_of a)))),
      (
        without_words op m,
        (
          so_words s left right _ _ _ (number_words m (constant_of b)),
          (
            so_words s left right _ _ _ (with_first s left right (Gets m) _ (operand_of b) 2 (has_x (Gets m))),
            (
              so_words s left right _ _ _ (so_words s left right _ _ _ (with_second s left right (Gets m) _ (operand_of a) 1 (has_y (Gets m)))),
              k,
            ),
          ),
        ),
      ),
    ),
  )

  taken : (l m : Aim) (k : ℕ) → pair_words s left right (recipe (InOrder l m) k) ≡ plus (sum (x_of l) (y_of m)) k
  taken l m k = in_order s left right l m _ _ k (has_x l) (has_y m)

  taken_back : (l m : Aim) (k : ℕ) → pair_words s left right (recipe (Turned l m) k) ≡ plus (sum (y_of m) (x_of l)) k
  taken_back l m k = in_turned s left right l m _ _ k (has_x l) (has_y m)

  worked_give : (op : Op) → Give (over_pair op) (Gets Any) (rule.V12 ∷ rule.V13 ∷ rule.V14 ∷ rule.V15 ∷ rule.V16 ∷ rule.V17 ∷ rule.V18 ∷ rule.V19 ∷ []) (worked op la rb s)
  worked_give op = (
    taken (Gets Any) (Gets Push) 1,
    (
      so_words s left right _ _ _ (so_words s left right _ _ _ (taken_back (Gets Push) (Gets Any) 1)),
      (
        so_words s left right _ _ _ (so_words s left right _ _ _ (taken_back (Gets Push) (Gets Any) 2)),
        (
          so_words s left right _ _ _ (taken (Gets Any) (Gets Any) _),
          (
            so_words s left right _ _ _ (taken_back (Gets Any) (Gets Any) _),
            (
              taken (Gets Any) (Gets Any) _,
              (
                so_words s left right _ _ _ (taken (Gets Any) (Gets Any) _),
                (
                  so_words s left right _ _ _ (taken (Gets Any) (Gets Any) _),
                  tt,
                ),
              ),
            ),
          ),
        ),
      ),
    ),
  )

  push_words : (op : Op) → words_by (over_pair op) rule.V1 (Gets Push) ≡ operand_cost (operand_of (Bin op a b))
  push_words op = alone s left right (operand_of (Bin op a b))

  pair_push : (op : Op) → least_push (over_pair op) ≡ words_in (choices T (Bin op a b) s).push
  pair_push op = give_least (over_pair op) (Gets Push) None (rule.V1 ∷ rule.V6 ∷ rule.V7 ∷ rule.V8 ∷ rule.V9 ∷ rule.V10 ∷ rule.V11 ∷ []) (candidate rule.V1 (operand_cost (operand_of (Bin op a b))) ∷ mixed op la rb (x_of (Gets Push)) (y_of (Gets Push))) (push_words op, mixed_give op Push [] [] tt)

  zero_words : (t : Table) → pair_words s left right (zero_test rule.J8 t left right) ≡ given (has_tests_of_zero t) (plus (beside la rb (x_of (Gets Any)) (y_of (Gets Any))) 2)
  zero_words t = so_words s left right _ _ _ (beside_words s left right (Gets Any) _ _ 2 (zero_number (constant_of b)) (zero_number (constant_of a)) (has_x (Gets Any)) (has_y (Gets Any)))

  zero_at : (t : Bool) → pair_words s left right (where_so t (zero_test rule.J8 T left right)) ≡ given (has_tests_of_zero T) (given t (plus (beside la rb (x_of (Gets Any)) (y_of (Gets Any))) 2))
  zero_at t = so_words s left right t _ _ (zero_words T) ∙ given_turned t (has_tests_of_zero T) _

  pair_any : (op : Op) → least_any (over_pair op) ≡ words_in (choices T (Bin op a b) s).any
  pair_any op = any_from (over_pair op) (choices T (Bin op a b) s).push _ (pair_push op) (mixed_give op Any (rule.V12 ∷ rule.V13 ∷ rule.V14 ∷ rule.V15 ∷ rule.V16 ∷ rule.V17 ∷ rule.V18 ∷ rule.V19 ∷ []) (worked op la rb s) (worked_give op))

  test_words : (t : Bool) (l m : Aim) → pair_words s left right (where_so t (recipe (InOrder l m) 0)) ≡ given t (sum (x_of l) (y_of m))
  test_words t l m = so_words s left right t _ _ (in_order s left right l m _ _ 0 (has_x l) (has_y m) ∙ plus_nothing _)

  value_test : (op : Op) → by_value (over_pair op).form (least_any (over_pair op)) ≡ given (is_plain (over_pair op).form) (plus (words_in (choices T (Bin op a b) s).any) 2)
  value_test op = value_words (over_pair op).form (least_any (over_pair op)) ∙ ap (λ x. given (is_plain (over_pair op).form) (plus x 2)) (pair_any op)

  pair_false : (op : Op) → least_on (over_pair op) false ≡ words_in (choices T (Bin op a b) s).on_false
  pair_false op =
      inner_none _ _ _ _ _ _ _ (so_none s left right (number_of op == number_of operators.And)) (so_none s left right (number_of op == number_of operators.Or))
      ∙ five _ _ _ _ _ _ _ _ _ _ (test_words _ (Jumps false) (Jumps false)) (test_words _ (Jumps true) (Jumps false)) (value_test op) (zero_at (number_of op == number_of operators.Equal)) (zero_at (number_of op == number_of operators.NotEqual))
      ∙ sym (fold_words None (pair_tests T op la rb (words_in (choices T (Bin op a b) s).any) false))

  pair_true : (op : Op) → least_on (over_pair op) true ≡ words_in (choices T (Bin op a b) s).on_true
  pair_true op =
      outer_none _ _ _ _ _ _ _ (so_none s left right (number_of op == number_of operators.And)) (so_none s left right (number_of op == number_of operators.Or))
      ∙ five _ _ _ _ _ _ _ _ _ _ (test_words _ (Jumps false) (Jumps true)) (test_words _ (Jumps true) (Jumps true)) (value_test op) (zero_at (number_of op == number_of operators.Equal)) (zero_at (number_of op == number_of operators.NotEqual))
      ∙ sym (fold_words None (pair_tests T op la rb (words_in (choices T (Bin op a b) s).any) true))

  pair_line : (op : Op) → IsLine (over_pair op) (choices T (Bin op a b) s)
  pair_line op = record { push = pair_push op; any = pair_any op; on_false = pair_false op; on_true = pair_true op }

-- the choices of the other forms; a value of which a test is made
tested : (n : Node) (any : Option Choice) → least_any n ≡ words_in any → is_plain n.form ≡ true → tests_of n.form ≡ [] → (sense : Bool) → least_on n sense ≡ words_in (least_from None (by_value_choice (words_in any) sense))
tested n any h plain none sense =
    ap (λ rs. lesser (by_value n.form (least_any n)) (least n (Jumps sense) None rs)) none
    ∙ lesser_none (by_value n.form (least_any n))
    ∙ value_words n.form (least_any n)
    ∙ ap (λ t. given t (plus (least_any n) 2)) plain
    ∙ so_given (plus (least_any n) 2)
    ∙ ap (λ x. plus x 2) h
    ∙ sym (fold_words None (by_value_choice (words_in any) sense))

nothing_more : (s n at : ℕ) (ps : List Facts) → words_from Nothing s (Some n) at ps ≡ Some n
unfolding sum
nothing_more s n at [] = refl
nothing_more s n at (p ∷ ps) = ap (λ k. words_from Nothing s (Some k) (at + 1) ps) (omega arith) ∙ nothing_more s n (at + 1) ps

operand_alone : (s : ℕ) (ps : List Facts) (o : Option Operand) → words_where s ps (adding Nothing (words_of_operand o) 0) ≡ operand_cost o
unfolding operand_cost
operand_alone s ps None = refl
operand_alone s ps (Some o) = nothing_more s (operand_words o + 0) 0 ps ∙ ap Some (omega arith)

-- by which rules an expression is pushed and computed, and when a test is made of its value
plain_line : (T : Table) (e : Exp) (k s : ℕ) (ps : List Facts) (rs qs : List Rule) (pushes values : List Candidate)
    → pushes_of (form_of e k) ≡ rule.V1 ∷ rs → values_of (form_of e k) ≡ qs → tests_of (form_of e k) ≡ [] → is_plain (form_of e k) ≡ true
    → Give (node_over T e k s ps) (Gets Push) rs pushes → Give (node_over T e k s ps) (Gets Any) qs values
    → IsLine (node_over T e k s ps) (line (operand_of e) pushes values by_value_choice)
plain_line T e k s ps rs qs pushes values h v t q g i =
    let n = node_over T e k s ps in
    let c = line (operand_of e) pushes values by_value_choice in
    let push : least_push n ≡ words_in c.push =
    ap (λ xs. least n (Gets Push) None xs) h ∙ give_least n (Gets Push) None (rule.V1 ∷ rs) (candidate rule.V1 (operand_cost (operand_of e)) ∷ pushes) (operand_alone s ps (operand_of e), g) in
    let any : least_any n ≡ words_in c.any = any_from n c.push values push (subst (λ xs. Give n (Gets Any) xs values) (sym v) i) in
    record { push = push; any = any; on_false = tested n c.any any q t false; on_true = tested n c.any any q t true }

-- one part
one_sum : (x : Option ℕ) (k : ℕ) → sum (Some k) (more_words x 0) ≡ plus x k
unfolding sum plus
one_sum None k = refl
one_sum (Some m) k = ap Some (omega arith)

one_words : (s : ℕ) (p : Facts) (aim : Aim) (x : Option ℕ) (k : ℕ) → cost_of aim p.costs ≡ x → words_where s (p ∷ []) (recipe (First aim) k) ≡ plus x k
one_words s p aim x k h = ap (λ y. sum (Some k) (more_words y 0)) h ∙ one_sum x k

module _ (T : Table) (e : Exp) (s : ℕ) (c : Costs) (h : AreLeast T e s c) where
  abbrev only_part : List Facts
  only_part = facts_of e (has_call e) c ∷ []

  by_one : (aim : Aim) (k : ℕ) → words_where s only_part (recipe (First aim) k) ≡ plus (words_for aim (choices T e s)) k
  by_one aim k = one_words s (facts_of e (has_call e) c) aim _ k (sym (h.words aim))

  load_line : (k : ℕ) → IsLine (node_over T (Load e) k s only_part) (choices T (Load e) s)
  load_line k = plain_line T (Load e) k s only_part (rule.V2 ∷ []) (rule.V2 ∷ []) _ _ refl refl refl refl (by_one (Gets Push) 1, tt) (by_one (Gets Any) 1, tt)

  neg_line : (k : ℕ) → IsLine (node_over T (Neg e) k s only_part) (choices T (Neg e) s)
  neg_line k = plain_line T (Neg e) k s only_part (rule.V3 ∷ []) (rule.V3 ∷ []) _ _ refl refl refl refl (by_one (Gets Push) 1, tt) (by_one (Gets Any) 1, tt)

  not_on : (k : ℕ) (sense : Bool) → least_on (node_over T (Not e) k s only_part) sense ≡ words_in (least_from None (not_tests (choices T e s) None sense))
  not_on k sense =
      let n = node_over T (Not e) k s only_part in
      ap (λ x. lesser x (least n (Jumps sense) None (rule.J1 ∷ []))) (value_words n.form (least_any n) ∙ no_given _)
      ∙ give_least n (Jumps sense) None (rule.J1 ∷ []) (not_tests (choices T e s) None sense) (by_one (Jumps (not sense)) 0 ∙ plus_nothing _, tt)

  not_line : (k : ℕ) → IsLine (node_over T (Not e) k s only_part) (choices T (Not e) s)
  not_line k =
      let n = node_over T (Not e) k s only_part in
      let d = choices T (Not e) s in
      let push : least_push n ≡ words_in d.push = give_least n (Gets Push) None (rule.V1 ∷ rule.V4 ∷ []) (candidate rule.V1 (operand_cost None) ∷ candidate rule.V4 (plus (words_for (Gets Push) (choices T e s)) 1) ∷ []) (operand_alone s only_part None, (by_one (Gets Push) 1, tt)) in
      let any : least_any n ≡ words_in d.any = any_from n d.push (candidate rule.V4 (plus (words_for (Gets Any) (choices T e s)) 1) ∷ []) push (by_one (Gets Any) 1, tt) in
      record { push = push; any = any; on_false = not_on k false; on_true = not_on k true }

-- a number
number_on : (T : Table) (m k s : ℕ) (any : Option Choice) → least_any (node_over T (Num m) k s []) ≡ words_in any → (sense : Bool) → least_on (node_over T (Num m) k s []) sense ≡ words_in (least_from None (number_tests m (words_in any) sense))
number_on T m k s any h sense =
    let n = node_over T (Num m) k s [] in
    ap (λ x. lesser x (least n (Jumps sense) None (rule.J7 ∷ []))) (value_words n.form (least_any n) ∙ so_given _ ∙ ap (λ x. plus x 2) h)
    ∙ sym (fold_words None (number_tests m (words_in any) sense))

number_line : (T : Table) (m k s : ℕ) → IsLine (node_over T (Num m) k s []) (choices T (Num m) s)
number_line T m k s =
    let n = node_over T (Num m) k s [] in
    let d = choices T (Num m) s in
    let push : least_push n ≡ words_in d.push = give_least n (Gets Push) None (rule.V1 ∷ []) (candidate rule.V1 (operand_cost (operand_of (Num m))) ∷ []) (operand_alone s [] (operand_of (Num m)), tt) in
    let any : least_any n ≡ words_in d.any = any_from n d.push [] push tt in
    record { push = push; any = any; on_false = number_on T m k s d.any any false; on_true = number_on T m k s d.any any true }

-- three parts
three_sum : (x y z : Option ℕ) (k : ℕ) → sum (sum (sum (Some k) (more_words x 0)) (more_words y 0)) (more_words z 0) ≡ plus (sum (sum x y) z) k
unfolding sum plus
three_sum None y z k = refl
three_sum (Some l) None z k = refl
three_sum (Some l) (Some m) None k = refl
three_sum (Some l) (Some m) (Some n) k = ap Some (omega arith)

last_two : (x y z : Option ℕ) → sum (sum x y) z ≡ sum (sum x z) y
unfolding sum
last_two None y z = refl
last_two (Some l) None None = refl
last_two (Some l) None (Some n) = refl
last_two (Some l) (Some m) None = refl
last_two (Some l) (Some m) (Some n) = ap Some (omega arith)

three_words : (s : ℕ) (p q r : Facts) (sense : Bool) (x y z : Option ℕ) (k : ℕ) → cost_of (Jumps sense) p.costs ≡ x → cost_of (Gets Any) q.costs ≡ y → cost_of (Gets Any) r.costs ≡ z → words_where s (p ∷ q ∷ r ∷ []) (recipe (Chosen sense) k) ≡ plus (sum (sum x y) z) k
three_words s p q r sense x y z k h i j =
    ap (λ u. sum (sum (sum (Some k) (more_words u 0)) (more_words (cost_of (Gets Any) q.costs) 0)) (more_words (cost_of (Gets Any) r.costs) 0)) h
    ∙ ap (λ u. sum (sum (sum (Some k) (more_words x 0)) (more_words u 0)) (more_words (cost_of (Gets Any) r.costs) 0)) i
    ∙ ap (λ u. sum (sum (sum (Some k) (more_words x 0)) (more_words y 0)) (more_words u 0)) j
    ∙ three_sum x y z k

cond_line : (T : Table) (a b c : Exp) (k s : ℕ) (p q r : Costs) → AreLeast T a s p → AreLeast T b s q → AreLeast T c s r → IsLine (node_over T (Cond a b c) k s (facts_of a (has_call a) p ∷ facts_of b (has_call b) q ∷ facts_of c (has_call c) r ∷ [])) (choices T (Cond a b c) s)
cond_line T a b c k s p q r h i j =
    let pa = facts_of a (has_call a) p in
    let pb = facts_of b (has_call b) q in
    let pc = facts_of c (has_call c) r in
    plain_line T (Cond a b c) k s (pa ∷ pb ∷ pc ∷ []) [] (rule.V20 ∷ rule.V21 ∷ []) _ _ refl refl refl refl tt (
      three_words s pa pb pc false _ _ _ 2 (sym (h.words (Jumps false))) (sym (i.words (Gets Any))) (sym (j.words (Gets Any))),
      (
        three_words s pa pb pc true _ _ _ 2 (sym (h.words (Jumps true))) (sym (i.words (Gets Any))) (sym (j.words (Gets Any))) ∙ ap (λ u. plus u 2) (last_two _ _ _),
        tt,
      ),
    )

-- the parts of a call
sum_grouped : (x y z : Option ℕ) → sum (sum x y) z ≡ sum x (sum y z)
unfolding sum
sum_grouped None y z = refl
sum_grouped (Some l) None z = refl
sum_grouped (Some l) (Some m) None = refl
sum_grouped (Some l) (Some m) (Some n) = ap Some (omega arith)

sum_zero : (x : Option ℕ) → sum (Some 0) x ≡ x
unfolding sum
sum_zero None = refl
sum_zero (Some n) = ap Some (omega arith)

argument_words : (x : Option ℕ) (n k : ℕ) → x ≡ Some n → Some (n + k) ≡ plus x k
unfolding plus
argument_words None n k h = cc
argument_words (Some m) n k h = cc

call_sum : (T : Table) (es : Args) (f : Exp) (s at l : ℕ) (ps : List Facts) (x : Option ℕ) → l ≡ s + 2 + at → AreCallParts T es f l ps → words_from Called s x at ps ≡ sum x (sum (words_of_all T es l) (words_for (Gets Any) (choices T f (l + count es))))
call_sum T no_argument f s at l [] x e h = absurd h
call_sum T no_argument f s at l (p ∷ []) x e h =
    ap (λ y. sum x y) (ap Some (omega arith) ∙ sym (h.costs.words (Gets Any)) ∙ ap (λ m. words_for (Gets Any) (choices T f m)) (omega arith) ∙ sym (sum_zero (words_for (Gets Any) (choices T f (l + 0)))))
call_sum T no_argument f s at l (p ∷ q ∷ ps) x e h = absurd h
call_sum T (argument a es) f s at l [] x e h = absurd h
call_sum T (argument a no_argument) f s at l (p ∷ []) x e h = absurd h.1
call_sum T (argument a (argument b es)) f s at l (p ∷ []) x e h = absurd h.1
call_sum T (argument a es) f s at l (p ∷ q ∷ ps) x e h =
    let here : Some (p.costs.any + w (s + 2 + at)) ≡ plus (words_for (Gets Any) (choices T a l)) (w l) =
    ap (λ m. Some (p.costs.any + w m)) (sym e) ∙ argument_words (words_for (Gets Any) (choices T a l)) p.costs.any (w l) (h.0.costs.words (Gets Any)) in
    let level : l + 1 + count es ≡ l + (1 + count es) = omega arith in
    call_sum T es f s (at + 1) (l + 1) (q ∷ ps) (sum x (Some (p.costs.any + w (s + 2 + at)))) (omega arith) h.1
    ∙ ap (λ y. sum (sum x y) (sum (words_of_all T es (l + 1)) (words_for (Gets Any) (choices T f (l + 1 + count es))))) here
    ∙ ap (λ m. sum (sum x (plus (words_for (Gets Any) (choices T a l)) (w l))) (sum (words_of_all T es (l + 1)) (words_for (Gets Any) (choices T f m)))) level
    ∙ sum_grouped x (plus (words_for (Gets Any) (choices T a l)) (w l)) (sum (words_of_all T es (l + 1)) (words_for (Gets Any) (choices T f (l + (1 + count es)))))
    ∙ ap (λ y. sum x y) (sym (sum_grouped (plus (words_for (Gets Any) (choices T a l)) (w l)) (words_of_all T es (l + 1)) (words_for (Gets Any) (choices T f (l + (1 + count es))))))

call_line : (T : Table) (es : Args) (f : Exp) (k s : ℕ) (ps : List Facts) → AreCallParts T es f (s + 2) ps → IsLine (node_over T (Call es f) k s ps) (choices T (Call es f) s)
call_line T es f k s ps h =
    plain_line T (Call es f) k s ps [] (rule.V22 ∷ []) _ _ refl refl refl refl tt
    (call_sum T es f s 0 (s + 2) ps (Some (w s)) (omega arith) h ∙ turned _ _ ∙ sum_some _ _, tt)

-- If the facts are true of the parts of an expression, the least words that the rules give are those of its choices.
pub least_is : (T : Table) (e : Exp) (k s : ℕ) (ps : List Facts) → AreParts T e s ps → IsLine (node_over T e k s ps) (choices T e s)
least_is T (Num n) k s [] h = number_line T n k s
least_is T (Num n) k s (p ∷ ps) h = absurd h
least_is T (Frame n) k s [] h = plain_line T (Frame n) k s [] [] [] [] [] refl refl refl refl tt tt
least_is T (Frame n) k s (p ∷ ps) h = absurd h
least_is T (Glob n) k s [] h = plain_line T (Glob n) k s [] [] [] [] [] refl refl refl refl tt tt
least_is T (Glob n) k s (p ∷ ps) h = absurd h
least_is T (Place n) k s [] h = plain_line T (Place n) k s [] [] [] [] [] refl refl refl refl tt tt
least_is T (Place n) k s (p ∷ ps) h = absurd h
least_is T (Valof n) k s [] h = plain_line T (Valof n) k s [] [] (rule.V22 ∷ []) [] (candidate rule.V22 (Some 0) ∷ []) refl refl refl refl tt (refl, tt)
least_is T (Valof n) k s (p ∷ ps) h = absurd h
least_is T (Load e) k s [] h = absurd h
least_is T (Load e) k s (p ∷ []) h = subst (λ q. IsLine (node_over T (Load e) k s (q ∷ [])) (choices T (Load e) s)) (sym h.facts) (load_line T e s p.costs h.costs k)
least_is T (Load e) k s (p ∷ q ∷ ps) h = absurd h
least_is T (Neg e) k s [] h = absurd h
least_is T (Neg e) k s (p ∷ []) h = subst (λ q. IsLine (node_over T (Neg e) k s (q ∷ [])) (choices T (Neg e) s)) (sym h.facts) (neg_line T e s p.costs h.costs k)
least_is T (Neg e) k s (p ∷ q ∷ ps) h = absurd h
least_is T (Not e) k s [] h = absurd h
least_is T (Not e) k s (p ∷ []) h = subst (λ q. IsLine (node_over T (Not e) k s (q ∷ [])) (choices T (Not e) s)) (sym h.facts) (not_line T e s p.costs h.costs k)
least_is T (Not e) k s (p ∷ q ∷ ps) h = absurd h
least_is T (Bin op a b) k s [] h = absurd h
least_is T (Bin op a b) k s (p ∷ []) h = absurd h.1
least_is T (Bin op a b) k s (p ∷ q ∷ []) h =
    subst (λ u. IsLine (node_over T (Bin op a b) k s (u ∷ q ∷ [])) (choices T (Bin op a b) s)) (sym h.0.facts)
    (subst (λ u. IsLine (node_over T (Bin op a b) k s (facts_of a (has_call a) p.costs ∷ u ∷ [])) (choices T (Bin op a b) s)) (sym h.1.facts) (pair_line T a b s p.costs q.costs h.0.costs h.1.costs op))
least_is T (Bin op a b) k s (p ∷ q ∷ r ∷ ps) h = absurd h.1
least_is T (Cond a b c) k s [] h = absurd h
least_is T (Cond a b c) k s (p ∷ []) h = absurd h.1
least_is T (Cond a b c) k s (p ∷ q ∷ []) h = absurd h.1.1
least_is T (Cond a b c) k s (p ∷ q ∷ r ∷ []) h =
    subst (λ u. IsLine (node_over T (Cond a b c) k s (u ∷ q ∷ r ∷ [])) (choices T (Cond a b c) s)) (sym h.0.facts)
    (subst (λ u. IsLine (node_over T (Cond a b c) k s (facts_of a (has_call a) p.costs ∷ u ∷ r ∷ [])) (choices T (Cond a b c) s)) (sym h.1.0.facts)
    (subst (λ u. IsLine (node_over T (Cond a b c) k s (facts_of a (has_call a) p.costs ∷ facts_of b (has_call b) q.costs ∷ u ∷ [])) (choices T (Cond a b c) s)) (sym h.1.1.facts)
    (cond_line T a b c k s p.costs q.costs r.costs h.0.costs h.1.0.costs h.1.1.costs)))
least_is T (Cond a b c) k s (p ∷ q ∷ r ∷ t ∷ ps) h = absurd h.1.1
least_is T (Call es f) k s ps h = call_line T es f k s ps h
