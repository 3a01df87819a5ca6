-- For each rule in the lists of a node, some derivation that begins with it has its words.
use Rattle.std.proofs.Common.{◌≡◌, ℕ, ◌+◌, ◌*◌, ◌==◌, List, Bool, true, false, not, Option, Some, None, IsTrue, cond, refl, sym, subst, ◌∙◌}
use Rattle.std.specs.Prelude.{is_some}
use Rattle.std.proofs.lemmas.Bool.{cond-true}
use Rattle.bc_word.specs.declared.operator.Op.{Op}
use Rattle.bc_word.specs.declared.operator.Op.TheVariants as operators
use Rattle.bc_word.specs.Words.{number_of, negated}
use Rattle.bc_word.specs.Mirror.{mirror_of}
use Rattle.bc_core.specs.declared.operands.Operand.{Operand}
use Rattle.bc_core.specs.Tree.{Exp, Num, Frame, Glob, Place, Load, Neg, Not, Bin, Cond, Call, Valof, Args, count}
use Rattle.bc_core.specs.Operand.{operand_of, constant_of}
use Rattle.bc_rules_defs.specs.declared.rule.Table.{Table}
use Rattle.bc_rules_defs.specs.declared.rule.Table.TheVariants as tables
use Rattle.bc_rules_defs.specs.declared.rule.Mode.{Mode}
use Rattle.bc_rules_defs.specs.declared.rule.Mode.TheVariants.{Any, Push}
use Rattle.bc_rules_defs.specs.declared.rule.Aim.{Aim}
use Rattle.bc_rules_defs.specs.declared.rule.Aim.TheVariants.{Gets, Jumps}
use Rattle.bc_rules_defs.specs.declared.rule.Rule.{Rule}
use Rattle.bc_rules_defs.specs.declared.rule.Rule.TheVariants as rule
use Rattle.bc_rules_defs.specs.Rules.{Derives, v0, v1, v2, v3, v4, v6, v7, v8, v9, v10, v11, v12, v13, v14, v15, v16, v17, v18, v19, v20, v21, v22, v22_valof, j1, j2, j3, j4, j5, j6, j7, j8, j9}
use Rattle.bc_rules_defs.specs.Code.{cost}
use Rattle.bc_rules_defs.specs.Free.{are_free, is_plain, is_zero, beside_zero, without_zero, is_plain_operator}
use Rattle.bc_rules_defs.specs.Piece.{w, operand_words}
use Rattle.bc_select_defs.specs.declared.choice.Candidate.{Candidate}
use Rattle.bc_select_defs.specs.Least.{first_rule}
use Rattle.bc_select_defs.specs.Options.{plus, more, sum, only, operand_cost, words_of}
use Rattle.bc_select_defs.specs.Choices.{words_for, number_cost, zero_number, without, mixed, worked, has_tests_of_zero, pair_tests, choices, words_of_all, node_of}
use Rattle.bc_select_defs.specs.Lower.{is_zero_is}
use Rattle.bc_select_defs.specs.Makes.{Makes, makes_none, makes_some, makes_map, makes_plus, makes_more, makes_sum, makes_given, OperandOf, makes_operand, AllMade, all_append}
use Rattle.bc_select_defs.specs.Attained.{part_for, attained, all_attained, same_operator, Beside, first_zero, second_zero, makes_number, some_operator, table_two}
use Rattle.bc_candidates.specs.Lists.{list_for, lists}

-- some derivation has these words; some derivation that begins with the rule has them
abbrev Has : Table → Exp → Aim → ℕ → Option ℕ → Type 0
Has T e aim s x = Makes (Derives T e aim) (λ d. cost d s) (λ d. Unit {0}) x

abbrev By : Table → Exp → Aim → ℕ → Rule → Option ℕ → Type 0
By T e aim s r x = Makes (Derives T e aim) (λ d. cost d s) (λ d. first_rule d ≡ r) x

abbrev pub AllBy : Table → Exp → Aim → ℕ → List Candidate → Type 0
AllBy T e aim s cs = AllMade (Derives T e aim) (λ d. cost d s) (λ r d. first_rule d ≡ r) cs

has : (T : Table) (e : Exp) (aim : Aim) (s : ℕ) → Has T e aim s (words_for aim (choices T e s))
has T e aim s = makes_map _ _ _ _ _ _ _ (λ d. d) (λ d. refl) (λ d i. tt) (part_for (attained T e s) aim)

by_v0 : (T : Table) (e : Exp) (s : ℕ) → By T e (Gets Any) s rule.V0 (words_of (choices T e s).push)
by_v0 T e s = makes_map _ _ _ _ _ _ _ (λ d. v0 d) (λ d. refl) (λ d i. refl) (has T e (Gets Push) s)

by_v1 : (T : Table) (e : Exp) (s : ℕ) → By T e (Gets Push) s rule.V1 (operand_cost (operand_of e))
by_v1 T e s = makes_map _ _ _ _ _ _ _ (λ q. v1 q.1) (λ q. refl) (λ q i. refl) (makes_operand (operand_of e))

by_j6 : (T : Table) (e : Exp) (s : ℕ) (sense : Bool) → IsTrue (is_plain e) → By T e (Jumps sense) s rule.J6 (plus (words_of (choices T e s).any) 2)
by_j6 T e s sense p = makes_map _ _ _ _ _ _ _ (λ d. j6 p d) (λ d. refl) (λ d i. refl) (makes_plus _ _ _ _ 2 (has T e (Gets Any) s))

-- a rule with one part
of_one : (T : Table) (e g : Exp) (aim of : Aim) (s t k : ℕ) (r : Rule) (rule_of : Derives T e of → Derives T g aim) → ((d : Derives T e of) → cost (rule_of d) s ≡ cost d t + k) → ((d : Derives T e of) → first_rule (rule_of d) ≡ r) → (x : Option ℕ) → Has T e of t x → By T g aim s r (plus x k)
of_one T e g aim of s t k r rule_of c f x h = makes_map _ _ _ _ _ _ _ rule_of c (λ d i. f d) (makes_plus _ _ _ x k h)

by_only : (T : Table) (op wanted : Op) (a b : Exp) (aim : Aim) (s : ℕ) (r : Rule) (x : Option ℕ) → By T (Bin wanted a b) aim s r x → By T (Bin op a b) aim s r (only wanted op x)
by_only T op wanted a b aim s r x h = makes_given _ _ _ (number_of op == number_of wanted) x (λ e. let P : Op → Type 0 = λ o. By T (Bin o a b) aim s r x in subst P (same_operator op wanted e) h)

-- a derivation of the operand that remains when a rule drops a 0
makes_beside : (T : Table) (p : Option Exp) (a b : Exp) (aim : Aim) (s : ℕ) (x y : Option ℕ) (zero_b zero_a : Bool) → (zero_b ≡ true → p ≡ Some a) → (zero_b ≡ false → zero_a ≡ true → p ≡ Some b) → Has T a aim s x → Has T b aim s y → Makes (Beside T p aim) (λ q. cost q.derivation s) (λ q. Unit {0}) (cond zero_b x (cond zero_a y None))
makes_beside T p a b aim s x y true zero_a f g ha hb = makes_map _ _ _ _ _ _ _ (λ d. record { expression = a; is = f refl; derivation = d }) (λ d. refl) (λ d i. tt) ha
makes_beside T p a b aim s x y false true f g ha hb = makes_map _ _ _ _ _ _ _ (λ d. record { expression = b; is = g refl refl; derivation = d }) (λ d. refl) (λ d i. tt) hb
makes_beside T p a b aim s x y false false f g ha hb = makes_none _ _ _

of_beside : (T : Table) (a b : Exp) (aim : Aim) (s : ℕ) (x y : Option ℕ) → Has T a aim s x → Has T b aim s y → Makes (Beside T (beside_zero a b) aim) (λ q. cost q.derivation s) (λ q. Unit {0}) (cond (zero_number (constant_of b)) x (cond (zero_number (constant_of a)) y None))
of_beside T a b aim s x y ha hb = makes_beside T (beside_zero a b) a b aim s x y (zero_number (constant_of b)) (zero_number (constant_of a)) (second_zero a b) (first_zero a b) ha hb

by_v8 : (T : Table) (op : Op) (a b : Exp) (m : Mode) (s : ℕ) (x : Option ℕ) → Makes (Beside T (without_zero op a b) (Gets m)) (λ q. cost q.derivation (s + 1)) (λ q. Unit {0}) x → By T (Bin op a b) (Gets m) s rule.V8 x
by_v8 T op a b m s x h = makes_map _ _ _ _ _ _ _ (λ q. v8 q.is q.derivation) (λ q. refl) (λ q i. refl) h

without_0 : (T : Table) (op : Op) (a b : Exp) (m : Mode) (s : ℕ) (x y : Option ℕ) → Has T a (Gets m) (s + 1) x → Has T b (Gets m) (s + 1) y → By T (Bin op a b) (Gets m) s rule.V8 (without op (node_of T a (s + 1)) (node_of T b (s + 1)) x y)
without_0 T operators.Multiply a b m s x y ha hb = makes_none _ _ _
without_0 T operators.Divide a b m s x y ha hb = makes_none _ _ _
without_0 T operators.Remainder a b m s x y ha hb = makes_none _ _ _
without_0 T operators.Add a b m s x y ha hb = by_v8 T operators.Add a b m s _ (of_beside T a b (Gets m) (s + 1) x y ha hb)
without_0 T operators.Subtract a b m s x y ha hb = by_v8 T operators.Subtract a b m s _ (makes_beside T (without_zero operators.Subtract a b) a b (Gets m) (s + 1) x y (zero_number (constant_of b)) false (λ h. cond-true (is_zero b) _ _ (sym (is_zero_is b) ∙ h)) (λ h i. cc) ha hb)
without_0 T operators.Equal a b m s x y ha hb = makes_none _ _ _
without_0 T operators.NotEqual a b m s x y ha hb = makes_none _ _ _
without_0 T operators.Less a b m s x y ha hb = makes_none _ _ _
without_0 T operators.GreaterEqual a b m s x y ha hb = makes_none _ _ _
without_0 T operators.Greater a b m s x y ha hb = makes_none _ _ _
without_0 T operators.LessEqual a b m s x y ha hb = makes_none _ _ _
without_0 T operators.ShiftLeft a b m s x y ha hb = makes_none _ _ _
without_0 T operators.ShiftRight a b m s x y ha hb = makes_none _ _ _
without_0 T operators.And a b m s x y ha hb = makes_none _ _ _
without_0 T operators.Or a b m s x y ha hb = makes_none _ _ _
without_0 T operators.NotEquivalent a b m s x y ha hb = makes_none _ _ _
without_0 T operators.Equivalent a b m s x y ha hb = makes_none _ _ _

-- one operand is evaluated, the other is the operand of an instruction
abbrev WithOperand : Table → Exp → Mode → Option Operand → Type 0
WithOperand T e m p = Derives T e (Gets m) × OperandOf p

with_operand : (T : Table) (e : Exp) (m : Mode) (s : ℕ) (p : Option Operand) (x : Option ℕ) → Has T e (Gets m) (s + 1) x → Makes (WithOperand T e m p) (λ q. cost q.0 (s + 1) + operand_words q.1.0) (λ q. Unit {0} × Unit {0}) (sum x (operand_cost p))
with_operand T e m s p x h = makes_sum _ _ _ _ _ _ x (operand_cost p) h (makes_operand p)

with_operand_more : (T : Table) (e : Exp) (m : Mode) (s k : ℕ) (p : Option Operand) (x : Option ℕ) → Has T e (Gets m) (s + 1) x → Makes (WithOperand T e m p) (λ q. cost q.0 (s + 1) + (k + operand_words q.1.0)) (λ q. Unit {0} × Unit {0}) (sum x (more k (operand_cost p)))
with_operand_more T e m s k p x h = makes_sum _ _ _ _ _ _ x (more k (operand_cost p)) h (makes_more _ _ _ (operand_cost p) k (makes_operand p))

by_v6 : (T : Table) (a b : Exp) (m : Mode) (s : ℕ) (x : Option ℕ) → Has T a (Gets m) (s + 1) x → By T (Bin operators.Add a b) (Gets m) s rule.V6 (sum x (operand_cost (operand_of b)))
by_v6 T a b m s x h = makes_map _ _ _ _ _ _ _ (λ q. v6 q.1.1 q.0) (λ q. refl) (λ q i. refl) (with_operand T a m s (operand_of b) x h)

by_v7 : (T : Table) (a b : Exp) (m : Mode) (s : ℕ) (x : Option ℕ) → IsTrue (are_free a b) → Has T b (Gets m) (s + 1) x → By T (Bin operators.Add a b) (Gets m) s rule.V7 (sum x (operand_cost (operand_of a)))
by_v7 T a b m s x free h = makes_map _ _ _ _ _ _ _ (λ q. v7 q.1.1 free q.0) (λ q. refl) (λ q i. refl) (with_operand T b m s (operand_of a) x h)

by_v10 : (T : Table) (a b : Exp) (m : Mode) (s : ℕ) (x : Option ℕ) → Has T a (Gets m) (s + 1) x → By T (Bin operators.Subtract a b) (Gets m) s rule.V10 (sum x (more 2 (operand_cost (operand_of b))))
by_v10 T a b m s x h = makes_map _ _ _ _ _ _ _ (λ q. v10 q.1.1 q.0) (λ q. refl) (λ q i. refl) (with_operand_more T a m s 2 (operand_of b) x h)

by_v11 : (T : Table) (a b : Exp) (m : Mode) (s : ℕ) (x : Option ℕ) → IsTrue (are_free a b) → Has T b (Gets m) (s + 1) x → By T (Bin operators.Subtract a b) (Gets m) s rule.V11 (sum x (more 1 (operand_cost (operand_of a))))
by_v11 T a b m s x free h = makes_map _ _ _ _ _ _ _ (λ q. v11 q.1.1 free q.0) (λ q. refl) (λ q i. refl) (with_operand_more T b m s 1 (operand_of a) x h)

-- a - n: the second operand is the number
record Lessened (T : Table) (a b : Exp) (m : Mode) (s : ℕ) (n : ℕ) (d : Derives T a (Gets m)) : Type 0 where
  derivation : Derives T (Bin operators.Subtract a b) (Gets m)
  words : cost derivation s ≡ cost d (s + 1) + w (negated n)
  begins : first_rule derivation ≡ rule.V9

lessened : (T : Table) (a b : Exp) (m : Mode) (s : ℕ) (n : ℕ) (d : Derives T a (Gets m)) → b ≡ Num n → Lessened T a b m s n d
lessened T a b m s n d e =
    let P : Exp → Type 0 = λ c. Lessened T a c m s n d in
    subst P (sym e) (record { derivation = v9 d; words = refl; begins = refl })

by_v9 : (T : Table) (a b : Exp) (m : Mode) (s : ℕ) (x : Option ℕ) → Has T a (Gets m) (s + 1) x → By T (Bin operators.Subtract a b) (Gets m) s rule.V9 (sum x (number_cost (constant_of b)))
by_v9 T a b m s x h =
    makes_map _ _ _ _ _ _ _ (λ q. (lessened T a b m s q.1.0 q.0 q.1.1).derivation) (λ q. (lessened T a b m s q.1.0 q.0 q.1.1).words) (λ q i. (lessened T a b m s q.1.0 q.0 q.1.1).begins)
    (makes_sum _ _ _ _ _ _ x (number_cost (constant_of b)) h (makes_number b))

-- the rules that have one operand in an instruction
mixed_made : (T : Table) (op : Op) (a b : Exp) (m : Mode) (s : ℕ) (x y : Option ℕ) → Has T a (Gets m) (s + 1) x → Has T b (Gets m) (s + 1) y → AllBy T (Bin op a b) (Gets m) s (mixed op (node_of T a (s + 1)) (node_of T b (s + 1)) x y)
mixed_made T op a b m s x y ha hb = (
  by_only T op operators.Add a b (Gets m) s _ _ (by_v6 T a b m s x ha),
  (
    by_only T op operators.Add a b (Gets m) s _ _ (makes_given _ _ _ (are_free a b) _ (λ free. by_v7 T a b m s y free hb)),
    (
      without_0 T op a b m s x y ha hb,
      (
        by_only T op operators.Subtract a b (Gets m) s _ _ (by_v9 T a b m s x ha),
        (
          by_only T op operators.Subtract a b (Gets m) s _ _ (by_v10 T a b m s x ha),
          (
            by_only T op operators.Subtract a b (Gets m) s _ _ (makes_given _ _ _ (are_free a b) _ (λ free. by_v11 T a b m s y free hb)),
            tt,
          ),
        ),
      ),
    ),
  ),
)

-- a rule with two parts
of_two : (T : Table) (e f g : Exp) (aim1 aim2 aim : Aim) (s t k : ℕ) (r : Rule) (rule_of : Derives T e aim1 × Derives T f aim2 → Derives T g aim) → ((q : Derives T e aim1 × Derives T f aim2) → cost (rule_of q) s ≡ cost q.0 t + cost q.1 t + k) → ((q : Derives T e aim1 × Derives T f aim2) → first_rule (rule_of q) ≡ r) → (x y : Option ℕ) → Has T e aim1 t x → Has T f aim2 t y → By T g aim s r (plus (sum x y) k)
of_two T e f g aim1 aim2 aim s t k r rule_of c fr x y h i = makes_map _ _ _ _ _ _ _ rule_of c (λ q j. fr q) (makes_plus _ _ _ (sum x y) k (makes_sum _ _ _ _ _ _ x y h i))

-- the rules that evaluate both operands
worked_made : (T : Table) (op : Op) (a b : Exp) (s : ℕ) → AllBy T (Bin op a b) (Gets Any) s (worked op (node_of T a (s + 1)) (node_of T b (s + 1)) s)
worked_made T op a b s =
    let e = Bin op a b in
    let held = 1 + 2 * w s in
    let x = has T a (Gets Any) (s + 1) in
    let y = has T b (Gets Any) (s + 1) in
    let first = has T a (Gets Push) (s + 1) in
    let second = has T b (Gets Push) (s + 1) in (
      of_two T a b e _ _ _ s (s + 1) 1 rule.V12 (λ q. v12 q.0 q.1) (λ q. refl) (λ q. refl) _ _ x second,
      (
        makes_given _ _ _ (is_some (mirror_of op)) _ (λ m. let q = some_operator (mirror_of op) m in makes_given _ _ _ (are_free a b) _ (λ free. of_two T b a e _ _ _ s (s + 1) 1 rule.V13 (λ p. v13 q.1 free p.0 p.1) (λ p. refl) (λ p. refl) _ _ y first)),
        (
          by_only T op operators.Subtract a b (Gets Any) s _ _ (makes_given _ _ _ (are_free a b) _ (λ free. of_two T b a (Bin operators.Subtract a b) _ _ _ s (s + 1) 2 rule.V14 (λ p. v14 free p.0 p.1) (λ p. refl) (λ p. refl) _ _ y first)),
          (
            makes_given _ _ _ (is_some (mirror_of op)) _ (λ m. let q = some_operator (mirror_of op) m in of_two T a b e _ _ _ s (s + 1) held rule.V15 (λ p. v15 q.1 p.0 p.1) (λ p. refl) (λ p. refl) _ _ x y),
            (
              makes_given _ _ _ (are_free a b) _ (λ free. of_two T b a e _ _ _ s (s + 1) held rule.V16 (λ p. v16 free p.0 p.1) (λ p. refl) (λ p. refl) _ _ y x),
              (
                of_two T a b e _ _ _ s (s + 1) (held + 2 * w (s + 1)) rule.V17 (λ p. v17 p.0 p.1) (λ p. refl) (λ p. refl) _ _ x y,
                (
                  by_only T op operators.Add a b (Gets Any) s _ _ (of_two T a b (Bin operators.Add a b) _ _ _ s (s + 1) (2 * w s) rule.V18 (λ p. v18 p.0 p.1) (λ p. refl) (λ p. refl) _ _ x y),
                  (
                    by_only T op operators.Subtract a b (Gets Any) s _ _ (of_two T a b (Bin operators.Subtract a b) _ _ _ s (s + 1) held rule.V19 (λ p. v19 p.0 p.1) (λ p. refl) (λ p. refl) _ _ x y),
                    tt,
                  ),
                ),
              ),
            ),
          ),
        ),
      ),
    )

-- tests of two operands, and of the operand beside a 0
of_tests : (T : Table) (a b g : Exp) (aim1 aim2 aim : Aim) (s : ℕ) (r : Rule) (rule_of : Derives T a aim1 × Derives T b aim2 → Derives T g aim) → ((q : Derives T a aim1 × Derives T b aim2) → cost (rule_of q) s ≡ cost q.0 (s + 1) + cost q.1 (s + 1)) → ((q : Derives T a aim1 × Derives T b aim2) → first_rule (rule_of q) ≡ r) → (x y : Option ℕ) → Has T a aim1 (s + 1) x → Has T b aim2 (s + 1) y → By T g aim s r (sum x y)
of_tests T a b g aim1 aim2 aim s r rule_of c f x y h i = makes_map _ _ _ _ _ _ _ rule_of c (λ q j. f q) (makes_sum _ _ _ _ _ _ x y h i)

of_zero : (T : Table) (a b g : Exp) (aim : Aim) (s : ℕ) (r : Rule) (rule_of : (q : Beside T (beside_zero a b) (Gets Any)) → Derives T g aim) → ((q : Beside T (beside_zero a b) (Gets Any)) → cost (rule_of q) s ≡ cost q.derivation (s + 1) + 2) → ((q : Beside T (beside_zero a b) (Gets Any)) → first_rule (rule_of q) ≡ r) → By T g aim s r (plus (cond (zero_number (constant_of b)) (words_of (choices T a (s + 1)).any) (cond (zero_number (constant_of a)) (words_of (choices T b (s + 1)).any) None)) 2)
of_zero T a b g aim s r rule_of c f = makes_map _ _ _ _ _ _ _ rule_of c (λ q i. f q) (makes_plus _ _ _ _ 2 (of_beside T a b (Gets Any) (s + 1) _ _ (has T a (Gets Any) (s + 1)) (has T b (Gets Any) (s + 1))))

tests_made : (T : Table) (op : Op) (a b : Exp) (s : ℕ) (sense : Bool) → AllBy T (Bin op a b) (Jumps sense) s (pair_tests T op (node_of T a (s + 1)) (node_of T b (s + 1)) (words_of (choices T (Bin op a b) s).any) sense)
tests_made T op a b s false = (
  by_only T op operators.And a b (Jumps false) s _ _ (of_tests T a b (Bin operators.And a b) (Jumps false) (Jumps false) (Jumps false) s rule.J2 (λ q. j2 q.0 q.1) (λ q. refl) (λ q. refl) _ _ (has T a (Jumps false) (s + 1)) (has T b (Jumps false) (s + 1))),
  (
    by_only T op operators.Or a b (Jumps false) s _ _ (of_tests T a b (Bin operators.Or a b) (Jumps true) (Jumps false) (Jumps false) s rule.J5 (λ q. j5 q.0 q.1) (λ q. refl) (λ q. refl) _ _ (has T a (Jumps true) (s + 1)) (has T b (Jumps false) (s + 1))),
    (
      makes_given _ _ _ (is_plain_operator op) _ (λ p. by_j6 T (Bin op a b) s false p),
      (
        makes_given _ _ _ (has_tests_of_zero T) _ (λ k. by_only T op operators.Equal a b (Jumps false) s _ _ (of_zero T a b (Bin operators.Equal a b) (Jumps false) s rule.J8 (λ q. j8 (table_two T k) q.is q.derivation) (λ q. refl) (λ q. refl))),
        (
          makes_given _ _ _ (has_tests_of_zero T) _ (λ k. by_only T op operators.NotEqual a b (Jumps false) s _ _ (of_zero T a b (Bin operators.NotEqual a b) (Jumps false) s rule.J9 (λ q. j9 (table_two T k) q.is q.derivation) (λ q. refl) (λ q. refl))),
          tt,
        ),
      ),
    ),
  ),
)
tests_made T op a b s true = (
  by_only T op operators.And a b (Jumps true) s _ _ (of_tests T a b (Bin operators.And a b) (Jumps false) (Jumps true) (Jumps true) s rule.J3 (λ q. j3 q.0 q.1) (λ q. refl) (λ q. refl) _ _ (has T a (Jumps false) (s + 1)) (has T b (Jumps true) (s + 1))),
  (
    by_only T op operators.Or a b (Jumps true) s _ _ (of_tests T a b (Bin operators.Or a b) (Jumps true) (Jumps true) (Jumps true) s rule.J4 (λ q. j4 q.0 q.1) (λ q. refl) (λ q. refl) _ _ (has T a (Jumps true) (s + 1)) (has T b (Jumps true) (s + 1))),
    (
      makes_given _ _ _ (is_plain_operator op) _ (λ p. by_j6 T (Bin op a b) s true p),
      (
        makes_given _ _ _ (has_tests_of_zero T) _ (λ k. by_only T op operators.Equal a b (Jumps true) s _ _ (of_zero T a b (Bin operators.Equal a b) (Jumps true) s rule.J8 (λ q. j8 (table_two T k) q.is q.derivation) (λ q. refl) (λ q. refl))),
        (
          makes_given _ _ _ (has_tests_of_zero T) _ (λ k. by_only T op operators.NotEqual a b (Jumps true) s _ _ (of_zero T a b (Bin operators.NotEqual a b) (Jumps true) s rule.J9 (λ q. j9 (table_two T k) q.is q.derivation) (λ q. refl) (λ q. refl))),
          tt,
        ),
      ),
    ),
  ),
)

-- conditional expressions and calls
by_v20 : (T : Table) (c x y : Exp) (s : ℕ) (k m n : Option ℕ) → Has T c (Jumps false) s k → Has T x (Gets Any) s m → Has T y (Gets Any) s n → By T (Cond c x y) (Gets Any) s rule.V20 (plus (sum (sum k m) n) 2)
by_v20 T c x y s k m n hc hx hy = makes_map _ _ _ _ _ _ _ (λ q. v20 q.0.0 q.0.1 q.1) (λ q. refl) (λ q i. refl) (makes_plus _ _ _ (sum (sum k m) n) 2 (makes_sum _ _ _ _ _ _ (sum k m) n (makes_sum _ _ _ _ _ _ k m hc hx) hy))

by_v21 : (T : Table) (c x y : Exp) (s : ℕ) (k m n : Option ℕ) → Has T c (Jumps true) s k → Has T y (Gets Any) s m → Has T x (Gets Any) s n → By T (Cond c x y) (Gets Any) s rule.V21 (plus (sum (sum k m) n) 2)
by_v21 T c x y s k m n hc hy hx = makes_map _ _ _ _ _ _ _ (λ q. v21 q.0.0 q.0.1 q.1) (λ q. refl) (λ q i. refl) (makes_plus _ _ _ (sum (sum k m) n) 2 (makes_sum _ _ _ _ _ _ (sum k m) n (makes_sum _ _ _ _ _ _ k m hc hy) hx))

by_v22 : (T : Table) (es : Args) (f : Exp) (s : ℕ) → By T (Call es f) (Gets Any) s rule.V22 (plus (sum (words_of_all T es (s + 2)) (words_of (choices T f (s + 2 + count es)).any)) (w s))
by_v22 T es f s =
    makes_map _ _ _ _ _ _ _ (λ q. v22 q.0 q.1) (λ q. refl) (λ q j. refl)
    (makes_plus _ _ _ _ (w s) (makes_sum _ _ _ _ _ _ _ _ (all_attained T es (s + 2)) (has T f (Gets Any) (s + 2 + count es))))

turned : (T : Table) (e : Exp) (s : ℕ) (sense : Bool) → By T (Not e) (Jumps sense) s rule.J1 (words_for (Jumps (not sense)) (choices T e s))
turned T e s true = makes_map _ _ _ _ _ _ _ (λ d. j1 {sense = true} d) (λ d. refl) (λ d i. refl) (has T e (Jumps false) s)
turned T e s false = makes_map _ _ _ _ _ _ _ (λ d. j1 {sense = false} d) (λ d. refl) (λ d i. refl) (has T e (Jumps true) s)

by_j7 : (T : Table) (n s : ℕ) (sense : Bool) (k : ℕ) → cost {T = T} (j7 {n = n} {sense = sense}) s ≡ k → By T (Num n) (Jumps sense) s rule.J7 (Some k)
by_j7 T n s sense k h = makes_some _ _ _ j7 k h refl

-- the lists of a node
pushes_made : (T : Table) (e : Exp) (s : ℕ) → AllBy T e (Gets Push) s (lists T e s).push
pushes_made T (Num n) s = (by_v1 T (Num n) s, tt)
pushes_made T (Frame n) s = (by_v1 T (Frame n) s, tt)
pushes_made T (Glob n) s = (by_v1 T (Glob n) s, tt)
pushes_made T (Place n) s = (by_v1 T (Place n) s, tt)
pushes_made T (Load e) s = (by_v1 T (Load e) s, (of_one T e (Load e) (Gets Push) (Gets Push) s s 1 rule.V2 (λ d. v2 d) (λ d. refl) (λ d. refl) _ (has T e (Gets Push) s), tt))
pushes_made T (Neg e) s = (by_v1 T (Neg e) s, (of_one T e (Neg e) (Gets Push) (Gets Push) s s 1 rule.V3 (λ d. v3 d) (λ d. refl) (λ d. refl) _ (has T e (Gets Push) s), tt))
pushes_made T (Not e) s = (by_v1 T (Not e) s, (of_one T e (Not e) (Gets Push) (Gets Push) s s 1 rule.V4 (λ d. v4 d) (λ d. refl) (λ d. refl) _ (has T e (Gets Push) s), tt))
pushes_made T (Bin op a b) s = (by_v1 T (Bin op a b) s, mixed_made T op a b Push s _ _ (has T a (Gets Push) (s + 1)) (has T b (Gets Push) (s + 1)))
pushes_made T (Cond c x y) s = (by_v1 T (Cond c x y) s, tt)
pushes_made T (Call es f) s = (by_v1 T (Call es f) s, tt)
pushes_made T (Valof n) s = (by_v1 T (Valof n) s, tt)

values_made : (T : Table) (e : Exp) (s : ℕ) → AllBy T e (Gets Any) s (lists T e s).any
values_made T (Num n) s = (by_v0 T (Num n) s, tt)
values_made T (Frame n) s = (by_v0 T (Frame n) s, tt)
values_made T (Glob n) s = (by_v0 T (Glob n) s, tt)
values_made T (Place n) s = (by_v0 T (Place n) s, tt)
values_made T (Load e) s = (by_v0 T (Load e) s, (of_one T e (Load e) (Gets Any) (Gets Any) s s 1 rule.V2 (λ d. v2 d) (λ d. refl) (λ d. refl) _ (has T e (Gets Any) s), tt))
values_made T (Neg e) s = (by_v0 T (Neg e) s, (of_one T e (Neg e) (Gets Any) (Gets Any) s s 1 rule.V3 (λ d. v3 d) (λ d. refl) (λ d. refl) _ (has T e (Gets Any) s), tt))
values_made T (Not e) s = (by_v0 T (Not e) s, (of_one T e (Not e) (Gets Any) (Gets Any) s s 1 rule.V4 (λ d. v4 d) (λ d. refl) (λ d. refl) _ (has T e (Gets Any) s), tt))
values_made T (Bin op a b) s = (
  by_v0 T (Bin op a b) s,
  all_append (Derives T (Bin op a b) (Gets Any)) (λ d. cost d s) (λ r d. first_rule d ≡ r) (mixed op (node_of T a (s + 1)) (node_of T b (s + 1)) _ _) (worked op (node_of T a (s + 1)) (node_of T b (s + 1)) s) (mixed_made T op a b Any s _ _ (has T a (Gets Any) (s + 1)) (has T b (Gets Any) (s + 1))) (worked_made T op a b s),
)
values_made T (Cond c x y) s = (by_v0 T (Cond c x y) s, (by_v20 T c x y s _ _ _ (has T c (Jumps false) s) (has T x (Gets Any) s) (has T y (Gets Any) s), (by_v21 T c x y s _ _ _ (has T c (Jumps true) s) (has T y (Gets Any) s) (has T x (Gets Any) s), tt)))
values_made T (Call es f) s = (by_v0 T (Call es f) s, (by_v22 T es f s, tt))
values_made T (Valof n) s = (by_v0 T (Valof n) s, (makes_some _ _ _ v22_valof 0 refl refl, tt))

jumps_made : (T : Table) (e : Exp) (s : ℕ) (sense : Bool) → AllBy T e (Jumps sense) s (list_for (Jumps sense) (lists T e s))
jumps_made T (Num n) s true = (by_j6 T (Num n) s true refl, (by_j7 T n s true _ refl, tt))
jumps_made T (Num n) s false = (by_j6 T (Num n) s false refl, (by_j7 T n s false _ refl, tt))
jumps_made T (Frame n) s true = (by_j6 T (Frame n) s true refl, tt)
jumps_made T (Frame n) s false = (by_j6 T (Frame n) s false refl, tt)
jumps_made T (Glob n) s true = (by_j6 T (Glob n) s true refl, tt)
jumps_made T (Glob n) s false = (by_j6 T (Glob n) s false refl, tt)
jumps_made T (Place n) s true = (by_j6 T (Place n) s true refl, tt)
jumps_made T (Place n) s false = (by_j6 T (Place n) s false refl, tt)
jumps_made T (Load e) s true = (by_j6 T (Load e) s true refl, tt)
jumps_made T (Load e) s false = (by_j6 T (Load e) s false refl, tt)
jumps_made T (Neg e) s true = (by_j6 T (Neg e) s true refl, tt)
jumps_made T (Neg e) s false = (by_j6 T (Neg e) s false refl, tt)
jumps_made T (Not e) s true = (turned T e s true, tt)
jumps_made T (Not e) s false = (turned T e s false, tt)
jumps_made T (Bin op a b) s true = tests_made T op a b s true
jumps_made T (Bin op a b) s false = tests_made T op a b s false
jumps_made T (Cond c x y) s true = (by_j6 T (Cond c x y) s true refl, tt)
jumps_made T (Cond c x y) s false = (by_j6 T (Cond c x y) s false refl, tt)
jumps_made T (Call es f) s true = (by_j6 T (Call es f) s true refl, tt)
jumps_made T (Call es f) s false = (by_j6 T (Call es f) s false refl, tt)
jumps_made T (Valof n) s true = (by_j6 T (Valof n) s true refl, tt)
jumps_made T (Valof n) s false = (by_j6 T (Valof n) s false refl, tt)

pub made : (T : Table) (e : Exp) (aim : Aim) (s : ℕ) → AllBy T e aim s (list_for aim (lists T e s))
made T e (Gets Any) s = values_made T e s
made T e (Gets Push) s = pushes_made T e s
made T e (Jumps true) s = jumps_made T e s true
made T e (Jumps false) s = jumps_made T e s false
