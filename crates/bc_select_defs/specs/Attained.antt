-- For proofs: each choice has the words and the rule of some derivation, whose parts are derivations of the parts' choices.
use Rattle.std.proofs.Common.{◌≡◌, ℕ, ◌+◌, ◌*◌, ◌==◌, ◌≤◌, List, [], ◌∷◌, ◌++◌, Bool, true, false, not, Option, Some, None, IsTrue, cond, refl, ap, sym, subst, ◌∙◌, arith}
use Rattle.std.specs.Prelude.{is_some}
use Rattle.std.proofs.lemmas.Bool.{cond-true, cond-false, eqb-true}
use Rattle.bc_word.specs.declared.operator.Op.{Op}
use Rattle.bc_word.specs.declared.operator.Op.TheVariants as operators
use Rattle.bc_word.specs.Words.{number_of, negated}
use Rattle.bc_word.specs.Mirror.{mirror_of}
use Rattle.bc_core.specs.declared.operands.Operand.{Operand}
use Rattle.bc_core.specs.Tree.{Exp, Num, Frame, Glob, Place, Load, Neg, Not, Bin, Cond, Call, Valof, Args, no_argument, argument, count}
use Rattle.bc_core.specs.Operand.{operand_of, constant_of}
use Rattle.bc_rules_defs.specs.declared.rule.Table.{Table}
use Rattle.bc_rules_defs.specs.declared.rule.Table.TheVariants as tables
use Rattle.bc_rules_defs.specs.declared.rule.Table.TheVariants.{Two}
use Rattle.bc_rules_defs.specs.declared.rule.Mode.{Mode}
use Rattle.bc_rules_defs.specs.declared.rule.Mode.TheVariants.{Any, Push}
use Rattle.bc_rules_defs.specs.declared.rule.Aim.{Aim}
use Rattle.bc_rules_defs.specs.declared.rule.Aim.TheVariants.{Gets, Jumps}
use Rattle.bc_rules_defs.specs.declared.rule.Rule.{Rule}
use Rattle.bc_rules_defs.specs.declared.rule.Rule.TheVariants as rule
use Rattle.bc_rules_defs.specs.Rules.{Derives, v0, v1, v2, v3, v4, v6, v7, v8, v9, v10, v11, v12, v13, v14, v15, v16, v17, v18, v19, v20, v21, v22, v22_valof, j1, j2, j3, j4, j5, j6, j7, j8, j9, DerivesAll, no_more, one_more, Tree, Trees, by, no_part, part, one, two, three, end_with, shape, shapes}
use Rattle.bc_rules_defs.specs.Code.{labels, cost, all_cost}
use Rattle.bc_rules_defs.specs.Layers.{Layer, argument_layers}
use Rattle.bc_rules_defs.specs.Layers as layer
use Rattle.bc_rules_defs.specs.Free.{are_free, is_plain, is_zero, beside_zero, without_zero, is_plain_operator, jumps_at}
use Rattle.bc_rules_defs.specs.Piece.{w, operand_words, J}
use Rattle.bc_select_defs.specs.declared.choice.Choice.{Choice}
use Rattle.bc_select_defs.specs.declared.choice.Choices.{Choices}
use Rattle.bc_select_defs.specs.declared.choice.Candidate.{Candidate}
use Rattle.bc_select_defs.specs.Least.{top, first_rule, IsLeast, HasLeastParts, AreLeastParts, none}
use Rattle.bc_select_defs.specs.Least as least
use Rattle.bc_rules_defs.specs.Names.{rule_number}
use Rattle.bc_rules_defs.specs.Takes.{beside}
use Rattle.bc_select_defs.specs.Options.{plus, more, sum, only, operand_cost, words_of, candidate, least_from}
use Rattle.bc_select_defs.specs.Choices.{choice_for, words_for, line, by_value, number_cost, zero_number, without, mixed, worked, number_tests, not_tests, pair_tests, has_tests_of_zero, node, choices, words_of_all}
use Rattle.bc_select_defs.specs.Folds.{AtMost}
use Rattle.bc_select_defs.specs.Lower.{lower, is_zero_is}
use Rattle.bc_select_defs.specs.Readings.{Readings, tree_for, tree_of, push_parts, value_parts, test_parts, read_line, leaf_parts, part_parts, two_taken, pair_parts, cond_parts, call_parts, readings, readings_of_all}
use Rattle.bc_select_defs.specs.Makes.{Makes, makes_none, makes_some, makes_map, makes_plus, makes_more, makes_sum, makes_given, OperandOf, makes_operand, AllMade, all_append, Chosen, chosen_least}

-- a derivation with this tree, whose parts are least
pub record IsWhole {T : Table} {e : Exp} {aim : Aim} (s : ℕ) (t : Tree) (d : Derives T e aim) : Type 0 where
  pub shape_is : shape d ≡ t
  pub parts : HasLeastParts d s

-- a derivation with this tree that is least, and whose parts are least
pub record IsPart {T : Table} {e : Exp} {aim : Aim} (s : ℕ) (t : Tree) (d : Derives T e aim) : Type 0 where
  pub shape_is : shape d ≡ t
  pub least : IsLeast d s
  pub parts : HasLeastParts d s

pub least_parts : {T : Table} {e : Exp} {aim : Aim} {s : ℕ} {t : Tree} {d : Derives T e aim} → IsPart s t d → IsLeast d s × HasLeastParts d s
least_parts h = (h.least, h.parts)

pub least_part : {T : Table} {e : Exp} {aim : Aim} {d : Derives T e aim} {s t f : ℕ} {ls : List (Layer T)} → IsLeast d s × HasLeastParts d s → AreLeastParts ls
    → AreLeastParts (layer.part d s t f ∷ ls)
least_part h i = least.part h.0 h.1 i

abbrev pub Part : Table → Exp → Aim → ℕ → Tree → Option ℕ → Type 0
Part T e aim s t x = Makes (Derives T e aim) (λ d. cost d s) (λ d. IsPart s t d) x

abbrev pub Whole : Table → Exp → Aim → ℕ → Tree → Option ℕ → Type 0
Whole T e aim s t x = Makes (Derives T e aim) (λ d. cost d s) (λ d. IsWhole s t d) x

-- each candidate has the words of a derivation with its rule and that rule's parts
abbrev pub AllMake : Table → Exp → Aim → ℕ → (Rule → Trees) → List Candidate → Type 0
AllMake T e aim s parts cs = AllMade (Derives T e aim) (λ d. cost d s) (λ r d. IsWhole s (by r (parts r)) d) cs

abbrev pub IsChosen : Table → Exp → Aim → ℕ → (Rule → Trees) → Option Choice → Type 0
IsChosen T e aim s parts x = Chosen (Derives T e aim) (λ d. cost d s) (λ r d. IsWhole s (by r (parts r)) d) x

part_of_choice : (T : Table) (e : Exp) (aim : Aim) (s : ℕ) (parts : Rule → Trees) (x : Option Choice) → IsChosen T e aim s parts x
    → ((d : Derives T e aim) → AtMost x (cost d s) (rule_number (first_rule d))) → Part T e aim s (tree_of x parts) (words_of x)
part_of_choice T e aim s parts None h low = makes_none (Derives T e aim) (λ d. cost d s) (λ d. IsPart s (by rule.V1 no_part) d)
part_of_choice T e aim s parts (Some c) h low =
    let found = h.some c refl in
    let d = found.thing in
    let same : cost d s ≡ c.words = found.words in
    let starts : first_rule d ≡ c.rule = ap top found.fact.shape_is in
    makes_some (Derives T e aim) (λ b. cost b s) (λ b. IsPart s (by c.rule (parts c.rule)) b) d c.words same (record {
      shape_is = found.fact.shape_is;
      least = record {
        fewest = λ other. let up = (low other).fact in let f : c.words ≤ cost other s = up.fewer in omega arith;
        first = λ other i. let up = (low other).fact in let f : cost other s ≤ c.words → rule_number c.rule ≤ rule_number (first_rule other) = up.first in
            let P : Rule → Type 0 = λ r. rule_number r ≤ rule_number (first_rule other) in subst P (sym starts) (f (omega arith));
      };
      parts = found.fact.parts;
    })

pub part_of : (T : Table) (e : Exp) (aim : Aim) (s : ℕ) (parts : Rule → Trees) (cs : List Candidate) → AllMake T e aim s parts cs
    → ((d : Derives T e aim) → AtMost (least_from None cs) (cost d s) (rule_number (first_rule d))) → Part T e aim s (tree_of (least_from None cs) parts)
    (words_of (least_from None cs))
part_of T e aim s parts cs all low =
    part_of_choice T e aim s parts (least_from None cs) (chosen_least (Derives T e aim) (λ d. cost d s) (λ r d. IsWhole s (by r (parts r)) d) cs all) low

-- all choices of an expression
pub record Attains (T : Table) (e : Exp) (s : ℕ) (c : Choices) (r : Readings) : Type 0 where
  pub any : Part T e (Gets Any) s r.any (words_of c.any)
  pub push : Part T e (Gets Push) s r.push (words_of c.push)
  pub on_false : Part T e (Jumps false) s r.on_false (words_of c.on_false)
  pub on_true : Part T e (Jumps true) s r.on_true (words_of c.on_true)

pub part_for : {T : Table} {e : Exp} {s : ℕ} {c : Choices} {r : Readings} → Attains T e s c r → (aim : Aim) → Part T e aim s (tree_for aim r) (words_for aim c)
part_for h (Gets Any) = h.any
part_for h (Gets Push) = h.push
part_for h (Jumps false) = h.on_false
part_for h (Jumps true) = h.on_true

abbrev pub Low : Table → Exp → ℕ → Choices → Type 0
Low T e s c = (aim : Aim) (d : Derives T e aim) → AtMost (choice_for aim c) (cost d s) (rule_number (first_rule d))

-- the choices of a node are attained if the candidates of its own rules are
attains_line :
    (T : Table) (e : Exp) (s : ℕ) (pushes values : List Candidate) (tests : Option ℕ → Bool → List Candidate) (own : Aim → Rule → Trees)
    → Low T e s (line (operand_of e) pushes values tests)
    → AllMake T e (Gets Push) s (push_parts (own (Gets Push))) pushes
    → ((t : Tree) → AllMake T e (Gets Any) s (value_parts t (own (Gets Any))) values)
    → ((any : Option ℕ) (t : Tree) → Part T e (Gets Any) s t any → (sense : Bool) → AllMake T e (Jumps sense) s (test_parts t (own (Jumps sense)))
    (tests any sense))
    → Attains T e s (line (operand_of e) pushes values tests) (read_line (line (operand_of e) pushes values tests) own)
attains_line T e s pushes values tests own low hp hv ht =
    let by_operand : Whole T e (Gets Push) s (by rule.V1 no_part) (operand_cost (operand_of e)) =
    makes_map _ _ _ _ _ _ _ (λ q. v1 q.1) (λ q. refl) (λ q h. record { shape_is = refl; parts = least.own none }) (makes_operand (operand_of e)) in
    let push = part_of T e (Gets Push) s (push_parts (own (Gets Push))) (candidate rule.V1 (operand_cost (operand_of e)) ∷ pushes) (by_operand, hp)
    (low (Gets Push)) in
    let c = line (operand_of e) pushes values tests in
    let r = read_line c own in
    let by_push : Whole T e (Gets Any) s (by rule.V0 (one r.push)) (words_of c.push) =
    makes_map _ _ _ _ _ _ _ (λ d. v0 d) (λ d. refl)
    (λ d h. record { shape_is = ap (λ y. by rule.V0 (one y)) h.shape_is; parts = least_part (least_parts h) none }) push in
    let any = part_of T e (Gets Any) s (value_parts r.push (own (Gets Any))) (candidate rule.V0 (words_of c.push) ∷ values) (by_push, hv r.push)
    (low (Gets Any)) in
    record {
      any = any;
      push = push;
      on_false = part_of T e (Jumps false) s (test_parts r.any (own (Jumps false))) (tests (words_of c.any) false) (ht (words_of c.any) r.any any false)
          (low (Jumps false));
      on_true = part_of T e (Jumps true) s (test_parts r.any (own (Jumps true))) (tests (words_of c.any) true) (ht (words_of c.any) r.any any true)
          (low (Jumps true));
    }

-- J6, at an expression to which it applies
test_of_value : (T : Table) (e : Exp) (s : ℕ) (any : Option ℕ) (t : Tree) (sense : Bool) → IsTrue (is_plain e) → Part T e (Gets Any) s t any
    → Whole T e (Jumps sense) s (by rule.J6 (one t)) (plus any 2)
test_of_value T e s any t sense p h =
    makes_map _ _ _ _ _ _ _ (λ d. j6 p d) (λ d. refl)
    (λ d i. record { shape_is = ap (λ y. by rule.J6 (one y)) i.shape_is; parts = least_part (least_parts i) (least.own none) })
    (makes_plus _ _ _ any 2 h)

-- rules with one part that add one word
unary_push : (T : Table) (e e1 : Exp) (m : Mode) (s : ℕ) (r : Rule) (x : Option ℕ) (t : Tree) (rule_of : Derives T e (Gets m) → Derives T e1 (Gets m))
    → ((d : Derives T e (Gets m)) → cost (rule_of d) s ≡ cost d s + 1) → ((d : Derives T e (Gets m)) → shape (rule_of d) ≡ by r (one (shape d)))
    → ((d : Derives T e (Gets m)) → IsLeast d s × HasLeastParts d s → HasLeastParts (rule_of d) s) → Part T e (Gets m) s t x
    → Whole T e1 (Gets m) s (by r (one t)) (plus x 1)
unary_push T e e1 m s r x t rule_of w sh least h =
    makes_map _ _ _ _ _ _ _ rule_of w (λ d i. record { shape_is = sh d ∙ ap (λ y. by r (one y)) i.shape_is; parts = least d (least_parts i) })
    (makes_plus _ _ _ x 1 h)

-- an operator is determined by its number
abbrev operator_at : ℕ → Op
operator_at n = cond (n == 5) operators.Multiply
    (cond (n == 6) operators.Divide
    (cond (n == 7) operators.Remainder
    (cond (n == 8) operators.Add (cond (n == 9) operators.Subtract
    (cond (n == 10) operators.Equal
    (cond (n == 11) operators.NotEqual
    (cond (n == 12) operators.Less
    (cond (n == 13) operators.GreaterEqual
    (cond (n == 14) operators.Greater
    (cond (n == 15) operators.LessEqual
    (cond (n == 16) operators.ShiftLeft
    (cond (n == 17) operators.ShiftRight
    (cond (n == 18) operators.And (cond (n == 19) operators.Or (cond (n == 20) operators.NotEquivalent (operators.Equivalent))))))))))))))))

operator_at_number : (op : Op) → operator_at (number_of op) ≡ op
operator_at_number operators.Multiply = refl
operator_at_number operators.Divide = refl
operator_at_number operators.Remainder = refl
operator_at_number operators.Add = refl
operator_at_number operators.Subtract = refl
operator_at_number operators.Equal = refl
operator_at_number operators.NotEqual = refl
operator_at_number operators.Less = refl
operator_at_number operators.GreaterEqual = refl
operator_at_number operators.Greater = refl
operator_at_number operators.LessEqual = refl
operator_at_number operators.ShiftLeft = refl
operator_at_number operators.ShiftRight = refl
operator_at_number operators.And = refl
operator_at_number operators.Or = refl
operator_at_number operators.NotEquivalent = refl
operator_at_number operators.Equivalent = refl

pub same_operator : (op wanted : Op) → IsTrue (number_of op == number_of wanted) → wanted ≡ op
same_operator op wanted h = sym (operator_at_number wanted) ∙ ap operator_at (sym (eqb-true (number_of op) (number_of wanted) h)) ∙ operator_at_number op

makes_only : (T : Table) (op wanted : Op) (a b : Exp) (aim : Aim) (s : ℕ) (t : Tree) (x : Option ℕ) → Whole T (Bin wanted a b) aim s t x
    → Whole T (Bin op a b) aim s t (only wanted op x)
makes_only T op wanted a b aim s t x h =
    makes_given _ _ _ (number_of op == number_of wanted) x (λ e. let P : Op → Type 0 = λ o. Whole T (Bin o a b) aim s t x in
    subst P (same_operator op wanted e) h)

-- a derivation of the operand that remains when a rule drops a 0
pub record Beside (T : Table) (p : Option Exp) (aim : Aim) : Type 0 where
  pub expression : Exp
  pub is : p ≡ Some expression
  pub derivation : Derives T expression aim

makes_beside : (T : Table) (p : Option Exp) (a b : Exp) (aim : Aim) (s : ℕ) (ra rb : Readings) (x y : Option ℕ) (zero_b zero_a : Bool)
    → (zero_b ≡ true → p ≡ Some a) → (zero_b ≡ false → zero_a ≡ true → p ≡ Some b) → Part T a aim s (tree_for aim ra) x
    → Part T b aim s (tree_for aim rb) y → Makes (Beside T p aim) (λ q. cost q.derivation s)
    (λ q. IsPart s (tree_for aim (cond zero_b ra rb)) q.derivation) (cond zero_b x (cond zero_a y None))
makes_beside T p a b aim s ra rb x y true zero_a f g ha hb = makes_map _ _ _ _ _ _ _ (λ d. record { expression = a; is = f refl; derivation = d })
    (λ d. refl) (λ d i. i) ha
makes_beside T p a b aim s ra rb x y false true f g ha hb = makes_map _ _ _ _ _ _ _ (λ d. record { expression = b; is = g refl refl; derivation = d })
    (λ d. refl) (λ d i. i) hb
makes_beside T p a b aim s ra rb x y false false f g ha hb = makes_none _ _ _

pub second_zero : (a b : Exp) → IsTrue (zero_number (constant_of b)) → beside_zero a b ≡ Some a
second_zero a b h = cond-true (is_zero b) _ _ (sym (is_zero_is b) ∙ h)

pub first_zero : (a b : Exp) → zero_number (constant_of b) ≡ false → IsTrue (zero_number (constant_of a)) → beside_zero a b ≡ Some b
first_zero a b h i = cond-false (is_zero b) _ _ (sym (is_zero_is b) ∙ h) ∙ cond-true (is_zero a) _ _ (sym (is_zero_is a) ∙ i)

-- the operand beside a 0
of_beside : (T : Table) (a b : Exp) (aim : Aim) (s : ℕ) (ra rb : Readings) (x y : Option ℕ) → Part T a aim s (tree_for aim ra) x
    → Part T b aim s (tree_for aim rb) y → Makes (Beside T (beside_zero a b) aim) (λ q. cost q.derivation s)
    (λ q. IsPart s (tree_for aim (cond (zero_number (constant_of b)) ra rb)) q.derivation)
    (cond (zero_number (constant_of b)) x (cond (zero_number (constant_of a)) y None))
of_beside T a b aim s ra rb x y ha hb = makes_beside T (beside_zero a b) a b aim s ra rb x y (zero_number (constant_of b)) (zero_number (constant_of a))
    (second_zero a b) (first_zero a b) ha hb

by_v8 : (T : Table) (op : Op) (a b : Exp) (m : Mode) (s : ℕ) (t : Tree) (x : Option ℕ) → Makes (Beside T (without_zero op a b) (Gets m))
    (λ q. cost q.derivation (s + 1)) (λ q. IsPart (s + 1) t q.derivation) x → Whole T (Bin op a b) (Gets m) s (by rule.V8 (one t)) x
by_v8 T op a b m s t x h = makes_map _ _ _ _ _ _ _ (λ q. v8 q.is q.derivation) (λ q. refl)
    (λ q i. record { shape_is = ap (λ y. by rule.V8 (one y)) i.shape_is; parts = least_part (least_parts i) none }) h

without_0 : (T : Table) (op : Op) (a b : Exp) (m : Mode) (s : ℕ) (ca cb : Choices) (ra rb : Readings) (x y : Option ℕ)
    → Part T a (Gets m) (s + 1) (tree_for (Gets m) ra) x → Part T b (Gets m) (s + 1) (tree_for (Gets m) rb) y
    → Whole T (Bin op a b) (Gets m) s (by rule.V8 (one (tree_for (Gets m) (cond (zero_number (constant_of b)) ra rb))))
    (without op (node a ca) (node b cb) x y)
without_0 T operators.Multiply a b m s ca cb ra rb x y ha hb = makes_none _ _ _
without_0 T operators.Divide a b m s ca cb ra rb x y ha hb = makes_none _ _ _
without_0 T operators.Remainder a b m s ca cb ra rb x y ha hb = makes_none _ _ _
without_0 T operators.Add a b m s ca cb ra rb x y ha hb = by_v8 T operators.Add a b m s _ _ (of_beside T a b (Gets m) (s + 1) ra rb x y ha hb)
without_0 T operators.Subtract a b m s ca cb ra rb x y ha hb =
    by_v8 T operators.Subtract a b m s _ _ (makes_beside T (without_zero operators.Subtract a b) a b (Gets m) (s + 1) ra rb x y
    (zero_number (constant_of b)) false (λ h. cond-true (is_zero b) _ _ (sym (is_zero_is b) ∙ h)) (λ h i. cc) ha hb)
without_0 T operators.Equal a b m s ca cb ra rb x y ha hb = makes_none _ _ _
without_0 T operators.NotEqual a b m s ca cb ra rb x y ha hb = makes_none _ _ _
without_0 T operators.Less a b m s ca cb ra rb x y ha hb = makes_none _ _ _
without_0 T operators.GreaterEqual a b m s ca cb ra rb x y ha hb = makes_none _ _ _
without_0 T operators.Greater a b m s ca cb ra rb x y ha hb = makes_none _ _ _
without_0 T operators.LessEqual a b m s ca cb ra rb x y ha hb = makes_none _ _ _
without_0 T operators.ShiftLeft a b m s ca cb ra rb x y ha hb = makes_none _ _ _
without_0 T operators.ShiftRight a b m s ca cb ra rb x y ha hb = makes_none _ _ _
without_0 T operators.And a b m s ca cb ra rb x y ha hb = makes_none _ _ _
without_0 T operators.Or a b m s ca cb ra rb x y ha hb = makes_none _ _ _
without_0 T operators.NotEquivalent a b m s ca cb ra rb x y ha hb = makes_none _ _ _
without_0 T operators.Equivalent a b m s ca cb ra rb x y ha hb = makes_none _ _ _

-- it is the part that the table of rules takes
beside_taken : (aim : Aim) (zero : Bool) (ra rb : Readings) → one (tree_for aim (cond zero ra rb)) ≡ two_taken (beside aim zero) ra rb
beside_taken aim true ra rb = refl
beside_taken aim false ra rb = refl

-- one operand is evaluated, the other is the operand of an instruction
beside_operand : (T : Table) (e e1 : Exp) (m : Mode) (s : ℕ) (p : Option Operand) (r : Rule) (x z : Option ℕ) (t : Tree) (c : Derives T e (Gets m)
    × OperandOf p → ℕ) (rule_of : Derives T e (Gets m) × OperandOf p → Derives T e1 (Gets m))
    → ((q : Derives T e (Gets m) × OperandOf p) → cost (rule_of q) s ≡ c q)
    → ((q : Derives T e (Gets m) × OperandOf p) → shape (rule_of q) ≡ by r (one (shape q.0)))
    → ((q : Derives T e (Gets m) × OperandOf p) → IsLeast q.0 (s + 1) × HasLeastParts q.0 (s + 1) → HasLeastParts (rule_of q) s)
    → Makes (Derives T e (Gets m) × OperandOf p) c (λ q. IsPart (s + 1) t q.0 × Unit {0}) z → Whole T e1 (Gets m) s (by r (one t)) z
beside_operand T e e1 m s p r x z t c rule_of w sh least h =
    makes_map _ _ _ _ _ _ _ rule_of w (λ q i. record { shape_is = sh q ∙ ap (λ y. by r (one y)) i.0.shape_is; parts = least q (least_parts i.0) }) h

with_operand : (T : Table) (e : Exp) (m : Mode) (s : ℕ) (p : Option Operand) (x : Option ℕ) (t : Tree) → Part T e (Gets m) (s + 1) t x
    → Makes (Derives T e (Gets m) × OperandOf p) (λ q. cost q.0 (s + 1) + operand_words q.1.0) (λ q. IsPart (s + 1) t q.0 × Unit {0})
    (sum x (operand_cost p))
with_operand T e m s p x t h = makes_sum _ _ _ _ _ _ x (operand_cost p) h (makes_operand p)

with_operand_more : (T : Table) (e : Exp) (m : Mode) (s k : ℕ) (p : Option Operand) (x : Option ℕ) (t : Tree) → Part T e (Gets m) (s + 1) t x
    → Makes (Derives T e (Gets m) × OperandOf p) (λ q. cost q.0 (s + 1) + (k + operand_words q.1.0)) (λ q. IsPart (s + 1) t q.0 × Unit {0})
    (sum x (more k (operand_cost p)))
with_operand_more T e m s k p x t h = makes_sum _ _ _ _ _ _ x (more k (operand_cost p)) h (makes_more _ _ _ (operand_cost p) k (makes_operand p))

by_v6 : (T : Table) (a b : Exp) (m : Mode) (s : ℕ) (x : Option ℕ) (t : Tree) → Part T a (Gets m) (s + 1) t x
    → Whole T (Bin operators.Add a b) (Gets m) s (by rule.V6 (one t)) (sum x (operand_cost (operand_of b)))
by_v6 T a b m s x t h = beside_operand T a (Bin operators.Add a b) m s (operand_of b) rule.V6 x _ t _ (λ q. v6 q.1.1 q.0) (λ q. refl) (λ q. refl)
    (λ q i. least_part i (least.own none)) (with_operand T a m s (operand_of b) x t h)

by_v7 : (T : Table) (a b : Exp) (m : Mode) (s : ℕ) (x : Option ℕ) (t : Tree) → IsTrue (are_free a b) → Part T b (Gets m) (s + 1) t x
    → Whole T (Bin operators.Add a b) (Gets m) s (by rule.V7 (one t)) (sum x (operand_cost (operand_of a)))
by_v7 T a b m s x t free h = beside_operand T b (Bin operators.Add a b) m s (operand_of a) rule.V7 x _ t _ (λ q. v7 q.1.1 free q.0) (λ q. refl) (λ q. refl)
    (λ q i. least_part i (least.own none)) (with_operand T b m s (operand_of a) x t h)

by_v10 : (T : Table) (a b : Exp) (m : Mode) (s : ℕ) (x : Option ℕ) (t : Tree) → Part T a (Gets m) (s + 1) t x
    → Whole T (Bin operators.Subtract a b) (Gets m) s (by rule.V10 (one t)) (sum x (more 2 (operand_cost (operand_of b))))
by_v10 T a b m s x t h = beside_operand T a (Bin operators.Subtract a b) m s (operand_of b) rule.V10 x _ t _ (λ q. v10 q.1.1 q.0) (λ q. refl) (λ q. refl)
    (λ q i. least_part i (least.own (least.own (least.own none)))) (with_operand_more T a m s 2 (operand_of b) x t h)

by_v11 : (T : Table) (a b : Exp) (m : Mode) (s : ℕ) (x : Option ℕ) (t : Tree) → IsTrue (are_free a b) → Part T b (Gets m) (s + 1) t x
    → Whole T (Bin operators.Subtract a b) (Gets m) s (by rule.V11 (one t)) (sum x (more 1 (operand_cost (operand_of a))))
by_v11 T a b m s x t free h = beside_operand T b (Bin operators.Subtract a b) m s (operand_of a) rule.V11 x _ t _ (λ q. v11 q.1.1 free q.0) (λ q. refl)
    (λ q. refl) (λ q i. least_part i (least.own (least.own none))) (with_operand_more T b m s 1 (operand_of a) x t h)

-- a - n: the second operand is the number
abbrev pub NumberOf : Exp → Type 0
NumberOf b = (n : ℕ) × (b ≡ Num n)

pub makes_number : (b : Exp) → Makes (NumberOf b) (λ q. w (negated q.0)) (λ q. Unit {0}) (number_cost (constant_of b))
unfolding number_cost
makes_number (Num n) = makes_some _ _ _ (n, refl) (w (negated n)) refl tt
makes_number (Frame n) = makes_none _ _ _
makes_number (Glob n) = makes_none _ _ _
makes_number (Place n) = makes_none _ _ _
makes_number (Load e) = makes_none _ _ _
makes_number (Neg e) = makes_none _ _ _
makes_number (Not e) = makes_none _ _ _
makes_number (Bin op a b) = makes_none _ _ _
makes_number (Cond c x y) = makes_none _ _ _
makes_number (Call es f) = makes_none _ _ _
makes_number (Valof n) = makes_none _ _ _

record Lessened (T : Table) (a b : Exp) (m : Mode) (s : ℕ) (t : Tree) (n : ℕ) (d : Derives T a (Gets m)) : Type 0 where
  derivation : Derives T (Bin operators.Subtract a b) (Gets m)
  words : cost derivation s ≡ cost d (s + 1) + w (negated n)
  whole : IsPart (s + 1) t d → IsWhole s (by rule.V9 (one t)) derivation

lessened : (T : Table) (a b : Exp) (m : Mode) (s : ℕ) (t : Tree) (n : ℕ) (d : Derives T a (Gets m)) → b ≡ Num n → Lessened T a b m s t n d
lessened T a b m s t n d e =
    let P : Exp → Type 0 = λ c. Lessened T a c m s t n d in
    subst P (sym e) (record {
      derivation = v9 d;
      words = refl;
      whole = λ i. record { shape_is = ap (λ y. by rule.V9 (one y)) i.shape_is; parts = least_part (least_parts i) (least.own none) };
    })

by_v9 : (T : Table) (a b : Exp) (m : Mode) (s : ℕ) (x : Option ℕ) (t : Tree) → Part T a (Gets m) (s + 1) t x
    → Whole T (Bin operators.Subtract a b) (Gets m) s (by rule.V9 (one t)) (sum x (number_cost (constant_of b)))
by_v9 T a b m s x t h =
    makes_map _ _ _ _ _ _ _ (λ q. (lessened T a b m s t q.1.0 q.0 q.1.1).derivation) (λ q. (lessened T a b m s t q.1.0 q.0 q.1.1).words)
    (λ q i. (lessened T a b m s t q.1.0 q.0 q.1.1).whole i.0)
    (makes_sum _ _ _ _ _ _ x (number_cost (constant_of b)) h (makes_number b))

-- the rules that have one operand in an instruction
mixed_attained : (T : Table) (op : Op) (a b : Exp) (m : Mode) (s : ℕ) (ca cb : Choices) (ra rb : Readings) (x y : Option ℕ) (t : Tree)
    → Part T a (Gets m) (s + 1) (tree_for (Gets m) ra) x → Part T b (Gets m) (s + 1) (tree_for (Gets m) rb) y
    → AllMake T (Bin op a b) (Gets m) s (pair_parts (zero_number (constant_of b)) ra rb (Gets m)) (mixed op (node a ca) (node b cb) x y)
mixed_attained T op a b m s ca cb ra rb x y t ha hb = (
  makes_only T op operators.Add a b (Gets m) s _ _ (by_v6 T a b m s x _ ha),
  (
    makes_only T op operators.Add a b (Gets m) s _ _ (makes_given _ _ _ (are_free a b) _ (λ free. by_v7 T a b m s y _ free hb)),
    (
      subst (λ ts. Whole T (Bin op a b) (Gets m) s (by rule.V8 ts) (without op (node a ca) (node b cb) x y))
          (beside_taken (Gets m) (zero_number (constant_of b)) ra rb) (without_0 T op a b m s ca cb ra rb x y ha hb),
      (
        makes_only T op operators.Subtract a b (Gets m) s _ _ (by_v9 T a b m s x _ ha),
        (
          makes_only T op operators.Subtract a b (Gets m) s _ _ (by_v10 T a b m s x _ ha),
          (
            makes_only T op operators.Subtract a b (Gets m) s _ _ (makes_given _ _ _ (are_free a b) _ (λ free. by_v11 T a b m s y _ free hb)),
            tt,
          ),
        ),
      ),
    ),
  ),
)

abbrev Both : Table → Exp → Exp → Aim → Aim → ℕ → Tree → Tree → ℕ → Option ℕ → Type 0
Both T e f aim1 aim2 s t u k x = Makes (Derives T e aim1 × Derives T f aim2) (λ q. cost q.0 s + cost q.1 s + k) (λ q. IsPart s t q.0 × IsPart s u q.1) x

both_parts : (T : Table) (e f : Exp) (aim1 aim2 : Aim) (s : ℕ) (t u : Tree) (k : ℕ) (x y : Option ℕ) → Part T e aim1 s t x → Part T f aim2 s u y
    → Both T e f aim1 aim2 s t u k (plus (sum x y) k)
both_parts T e f aim1 aim2 s t u k x y h i = makes_plus _ _ _ (sum x y) k (makes_sum _ _ _ _ _ _ x y h i)

-- a rule with two parts
of_both : (T : Table) (e f g : Exp) (aim1 aim2 aim : Aim) (s s1 : ℕ) (t u : Tree) (k : ℕ) (r : Rule) (x : Option ℕ) (rule_of : Derives T e aim1
    × Derives T f aim2 → Derives T g aim) → ((q : Derives T e aim1 × Derives T f aim2) → cost (rule_of q) s ≡ cost q.0 s1 + cost q.1 s1 + k)
    → ((q : Derives T e aim1 × Derives T f aim2) → shape (rule_of q) ≡ by r (two (shape q.0) (shape q.1)))
    → ((q : Derives T e aim1 × Derives T f aim2) → (IsLeast q.0 s1 × HasLeastParts q.0 s1) × (IsLeast q.1 s1 × HasLeastParts q.1 s1)
    → HasLeastParts (rule_of q) s) → Both T e f aim1 aim2 s1 t u k x → Whole T g aim s (by r (two t u)) x
of_both T e f g aim1 aim2 aim s s1 t u k r x rule_of w sh least h =
    makes_map _ _ _ _ _ _ _ rule_of w
    (λ q i. record {
      shape_is = sh q ∙ ap (λ y. by r (two y (shape q.1))) i.0.shape_is ∙ ap (λ y. by r (two t y)) i.1.shape_is;
      parts = least q (least_parts i.0, least_parts i.1);
    }) h

pub some_operator : (p : Option Op) → IsTrue (is_some p) → (q : Op) × (p ≡ Some q)
some_operator None h = cc
some_operator (Some q) h = (q, refl)

-- the rules that evaluate both operands
worked_attained : (T : Table) (op : Op) (a b : Exp) (s : ℕ) (ca cb : Choices) (ra rb : Readings) → Attains T a (s + 1) ca ra → Attains T b (s + 1) cb rb
    → AllMake T (Bin op a b) (Gets Any) s (pair_parts (zero_number (constant_of b)) ra rb (Gets Any)) (worked op (node a ca) (node b cb) s)
worked_attained T op a b s ca cb ra rb ha hb =
    let e = Bin op a b in
    let held = 1 + 2 * w s in
    let first = λ (k : ℕ). both_parts T a b (Gets Any) (Gets Any) (s + 1) ra.any rb.any k (words_of ca.any) (words_of cb.any) ha.any hb.any in
    let second = λ (k : ℕ). both_parts T b a (Gets Any) (Gets Any) (s + 1) rb.any ra.any k (words_of cb.any) (words_of ca.any) hb.any ha.any in
    let pushed = λ (k : ℕ). both_parts T b a (Gets Any) (Gets Push) (s + 1) rb.any ra.push k (words_of cb.any) (words_of ca.push) hb.any ha.push in (
      of_both T a b e _ _ _ s (s + 1) _ _ 1 rule.V12 _ (λ q. v12 q.0 q.1) (λ q. refl) (λ q. refl) (λ q i. least_part i.0 (least_part i.1 (least.own none)))
          (both_parts T a b (Gets Any) (Gets Push) (s + 1) ra.any rb.push 1 (words_of ca.any) (words_of cb.push) ha.any hb.push),
      (
        makes_given _ _ _ (is_some (mirror_of op)) _ (λ m. let q = some_operator (mirror_of op) m in
            makes_given _ _ _ (are_free a b) _ (λ free. of_both T b a e _ _ _ s (s + 1) _ _ 1 rule.V13 _ (λ p. v13 q.1 free p.0 p.1) (λ p. refl)
            (λ p. refl) (λ p i. least_part i.0 (least_part i.1 (least.own none))) (pushed 1))),
        (
          makes_only T op operators.Subtract a b (Gets Any) s _ _
              (makes_given _ _ _ (are_free a b) _ (λ free. of_both T b a (Bin operators.Subtract a b) _ _ _ s (s + 1) _ _ 2 rule.V14 _
              (λ p. v14 free p.0 p.1) (λ p. refl) (λ p. refl) (λ p i. least_part i.0 (least_part i.1 (least.own (least.own none)))) (pushed 2))),
          (
            makes_given _ _ _ (is_some (mirror_of op)) _ (λ m. let q = some_operator (mirror_of op) m in
                of_both T a b e _ _ _ s (s + 1) _ _ held rule.V15 _ (λ p. v15 q.1 p.0 p.1) (λ p. refl) (λ p. refl)
                (λ p i. least_part i.0 (least.own (least_part i.1 (least.own (least.own none))))) (first held)),
            (
              makes_given _ _ _ (are_free a b) _ (λ free. of_both T b a e _ _ _ s (s + 1) _ _ held rule.V16 _ (λ p. v16 free p.0 p.1) (λ p. refl)
                  (λ p. refl) (λ p i. least_part i.0 (least.own (least_part i.1 (least.own (least.own none))))) (second held)),
              (
                of_both T a b e _ _ _ s (s + 1) _ _ (held + 2 * w (s + 1)) rule.V17 _ (λ p. v17 p.0 p.1) (λ p. refl) (λ p. refl)
                    (λ p i. least_part i.0 (least.own (least_part i.1 (least.own (least.own (least.own (least.own none)))))))
                    (first (held + 2 * w (s + 1))),
                (
                  makes_only T op operators.Add a b (Gets Any) s _ _ (of_both T a b (Bin operators.Add a b) _ _ _ s (s + 1) _ _ (2 * w s) rule.V18 _
                      (λ p. v18 p.0 p.1) (λ p. refl) (λ p. refl) (λ p i. least_part i.0 (least.own (least_part i.1 (least.own none)))) (first (2 * w s))),
                  (
                    makes_only T op operators.Subtract a b (Gets Any) s _ _ (of_both T a b (Bin operators.Subtract a b) _ _ _ s (s + 1) _ _ held rule.V19 _
                        (λ p. v19 p.0 p.1) (λ p. refl) (λ p. refl)
                        (λ p i. least_part i.0 (least.own (least_part i.1 (least.own (least.own none))))) (first held)),
                    tt,
                  ),
                ),
              ),
            ),
          ),
        ),
      ),
    )

-- tests of two operands, and of the operand beside a 0
test_of_both : (T : Table) (a b g : Exp) (aim1 aim2 aim : Aim) (s : ℕ) (t u : Tree) (r : Rule) (x y : Option ℕ) (rule_of : Derives T a aim1
    × Derives T b aim2 → Derives T g aim) → ((q : Derives T a aim1 × Derives T b aim2) → cost (rule_of q) s ≡ cost q.0 (s + 1) + cost q.1 (s + 1))
    → ((q : Derives T a aim1 × Derives T b aim2) → shape (rule_of q) ≡ by r (two (shape q.0) (shape q.1)))
    → ((q : Derives T a aim1 × Derives T b aim2) → (IsLeast q.0 (s + 1) × HasLeastParts q.0 (s + 1)) × (IsLeast q.1 (s + 1) × HasLeastParts q.1 (s + 1))
    → HasLeastParts (rule_of q) s) → Part T a aim1 (s + 1) t x → Part T b aim2 (s + 1) u y → Whole T g aim s (by r (two t u)) (sum x y)
test_of_both T a b g aim1 aim2 aim s t u r x y rule_of w sh least h i =
    makes_map _ _ _ _ _ _ _ rule_of w
    (λ q j. record {
      shape_is = sh q ∙ ap (λ z. by r (two z (shape q.1))) j.0.shape_is ∙ ap (λ z. by r (two t z)) j.1.shape_is;
      parts = least q (least_parts j.0, least_parts j.1);
    }) (makes_sum _ _ _ _ _ _ x y h i)

pub table_two : (T : Table) → IsTrue (has_tests_of_zero T) → T ≡ Two
table_two tables.One h = cc
table_two tables.Two h = refl

test_of_zero : (T : Table) (a b g : Exp) (aim : Aim) (s : ℕ) (t : Tree) (ts : Trees) (r : Rule) (x : Option ℕ) → one t ≡ ts
    → (rule_of : (q : Beside T (beside_zero a b) (Gets Any)) → Derives T g aim)
    → ((q : Beside T (beside_zero a b) (Gets Any)) → cost (rule_of q) s ≡ cost q.derivation (s + 1) + 2)
    → ((q : Beside T (beside_zero a b) (Gets Any)) → shape (rule_of q) ≡ by r (one (shape q.derivation)))
    → ((q : Beside T (beside_zero a b) (Gets Any)) → IsLeast q.derivation (s + 1) × HasLeastParts q.derivation (s + 1) → HasLeastParts (rule_of q) s)
    → Makes (Beside T (beside_zero a b) (Gets Any)) (λ q. cost q.derivation (s + 1)) (λ q. IsPart (s + 1) t q.derivation) x
    → Whole T g aim s (by r ts) (plus x 2)
test_of_zero T a b g aim s t ts r x is rule_of w sh least h =
    makes_map _ _ _ _ _ _ _ rule_of w (λ q i. record { shape_is = sh q ∙ ap (λ y. by r (one y)) i.shape_is ∙ ap (by r) is; parts = least q (least_parts i) })
    (makes_plus _ _ _ x 2 h)

tests_attained : (T : Table) (op : Op) (a b : Exp) (s : ℕ) (ca cb : Choices) (ra rb : Readings) → Attains T a (s + 1) ca ra → Attains T b (s + 1) cb rb
    → (any : Option ℕ) (t : Tree) → Part T (Bin op a b) (Gets Any) s t any → (sense : Bool)
    → AllMake T (Bin op a b) (Jumps sense) s (test_parts t (pair_parts (zero_number (constant_of b)) ra rb (Jumps sense)))
    (pair_tests T op (node a ca) (node b cb) any sense)
tests_attained T op a b s ca cb ra rb ha hb any t h false =
    let taken = beside_taken (Gets Any) (zero_number (constant_of b)) ra rb in
    let zero = of_beside T a b (Gets Any) (s + 1) ra rb (words_of ca.any) (words_of cb.any) ha.any hb.any in (
      makes_only T op operators.And a b (Jumps false) s _ _
          (test_of_both T a b (Bin operators.And a b) (Jumps false) (Jumps false) (Jumps false) s _ _ rule.J2 _ _ (λ q. j2 q.0 q.1) (λ q. refl) (λ q. refl)
          (λ q i. least_part i.0 (least_part i.1 none)) ha.on_false hb.on_false),
      (
        makes_only T op operators.Or a b (Jumps false) s _ _
            (test_of_both T a b (Bin operators.Or a b) (Jumps true) (Jumps false) (Jumps false) s _ _ rule.J5 _ _ (λ q. j5 q.0 q.1) (λ q. refl) (λ q. refl)
            (λ q i. least_part i.0 (least_part i.1 (least.own none))) ha.on_true hb.on_false),
        (
          makes_given _ _ _ (is_plain_operator op) _ (λ p. test_of_value T (Bin op a b) s any t false p h),
          (
            makes_given _ _ _ (has_tests_of_zero T) _
                (λ k. makes_only T op operators.Equal a b (Jumps false) s _ _
                (test_of_zero T a b (Bin operators.Equal a b) (Jumps false) s _ _ rule.J8 _ taken (λ q. j8 (table_two T k) q.is q.derivation) (λ q. refl)
                (λ q. refl) (λ q i. least_part i (least.own none)) zero)),
            (
              makes_given _ _ _ (has_tests_of_zero T) _
                  (λ k. makes_only T op operators.NotEqual a b (Jumps false) s _ _
                  (test_of_zero T a b (Bin operators.NotEqual a b) (Jumps false) s _ _ rule.J9 _ taken (λ q. j9 (table_two T k) q.is q.derivation) (λ q. refl)
                  (λ q. refl) (λ q i. least_part i (least.own none)) zero)),
              tt,
            ),
          ),
        ),
      ),
    )
tests_attained T op a b s ca cb ra rb ha hb any t h true =
    let taken = beside_taken (Gets Any) (zero_number (constant_of b)) ra rb in
    let zero = of_beside T a b (Gets Any) (s + 1) ra rb (words_of ca.any) (words_of cb.any) ha.any hb.any in (
      makes_only T op operators.And a b (Jumps true) s _ _
          (test_of_both T a b (Bin operators.And a b) (Jumps false) (Jumps true) (Jumps true) s _ _ rule.J3 _ _ (λ q. j3 q.0 q.1) (λ q. refl) (λ q. refl)
          (λ q i. least_part i.0 (least_part i.1 (least.own none))) ha.on_false hb.on_true),
      (
        makes_only T op operators.Or a b (Jumps true) s _ _
            (test_of_both T a b (Bin operators.Or a b) (Jumps true) (Jumps true) (Jumps true) s _ _ rule.J4 _ _ (λ q. j4 q.0 q.1) (λ q. refl) (λ q. refl)
            (λ q i. least_part i.0 (least_part i.1 none)) ha.on_true hb.on_true),
        (
          makes_given _ _ _ (is_plain_operator op) _ (λ p. test_of_value T (Bin op a b) s any t true p h),
          (
            makes_given _ _ _ (has_tests_of_zero T) _
                (λ k. makes_only T op operators.Equal a b (Jumps true) s _ _
                (test_of_zero T a b (Bin operators.Equal a b) (Jumps true) s _ _ rule.J8 _ taken (λ q. j8 (table_two T k) q.is q.derivation) (λ q. refl)
                (λ q. refl) (λ q i. least_part i (least.own none)) zero)),
            (
              makes_given _ _ _ (has_tests_of_zero T) _
                  (λ k. makes_only T op operators.NotEqual a b (Jumps true) s _ _
                  (test_of_zero T a b (Bin operators.NotEqual a b) (Jumps true) s _ _ rule.J9 _ taken (λ q. j9 (table_two T k) q.is q.derivation) (λ q. refl)
                  (λ q. refl) (λ q i. least_part i (least.own none)) zero)),
              tt,
            ),
          ),
        ),
      ),
    )

-- the arguments of a call
pub record AreParts {T : Table} {es : Args} (s : ℕ) (ts : Trees) (ds : DerivesAll T es) : Type 0 where
  pub shapes_are : shapes ds ≡ ts
  pub parts : (t f : ℕ) (ls : List (Layer T)) → AreLeastParts ls → AreLeastParts (argument_layers ds s t f ++ ls)

abbrev pub AllParts : Table → Args → ℕ → Trees → Option ℕ → Type 0
AllParts T es s ts x = Makes (DerivesAll T es) (λ ds. all_cost ds s) (λ ds. AreParts s ts ds) x

one_argument : (T : Table) (e : Exp) (es : Args) (s : ℕ) (t : Tree) (ts : Trees) (x y : Option ℕ) → Part T e (Gets Any) s t x → AllParts T es (s + 1) ts y
    → AllParts T (argument e es) s (part t ts) (sum (plus x (w s)) y)
one_argument T e es s t ts x y h i =
    makes_map _ _ _ _ _ _ _ (λ q. one_more q.0 q.1) (λ q. refl)
    (λ q j. record {
      shapes_are = ap (λ z. part z (shapes q.1)) j.0.shape_is ∙ ap (part t) j.1.shapes_are;
      parts = λ t f ls h. least_part (least_parts j.0) (least.own (j.1.parts t (f + labels q.0) ls h));
    })
    (makes_sum _ _ _ _ _ _ (plus x (w s)) y (makes_plus _ _ _ x (w s) h) i)

by_v22 : (T : Table) (es : Args) (f : Exp) (s : ℕ) (ts : Trees) (u : Tree) (x y : Option ℕ) → AllParts T es (s + 2) ts x
    → Part T f (Gets Any) (s + 2 + count es) u y → Whole T (Call es f) (Gets Any) s (by rule.V22 (end_with ts u)) (plus (sum x y) (w s))
by_v22 T es f s ts u x y h i =
    makes_map _ _ _ _ _ _ _ (λ q. v22 q.0 q.1) (λ q. refl)
    (λ q j. record {
      shape_is = ap (λ z. by rule.V22 (end_with z (shape q.1))) j.0.shapes_are ∙ ap (λ z. by rule.V22 (end_with ts z)) j.1.shape_is;
      parts = j.0.parts 0 0 _ (least_part (least_parts j.1) (least.own none));
    })
    (makes_plus _ _ _ (sum x y) (w s) (makes_sum _ _ _ _ _ _ x y h i))

by_v20 : (T : Table) (c x y : Exp) (s : ℕ) (t u v : Tree) (k m n : Option ℕ) → Part T c (Jumps false) s t k → Part T x (Gets Any) s u m
    → Part T y (Gets Any) s v n → Whole T (Cond c x y) (Gets Any) s (by rule.V20 (three t u v)) (plus (sum (sum k m) n) 2)
by_v20 T c x y s t u v k m n hc hx hy =
    makes_map _ _ _ _ _ _ _ (λ q. v20 q.0.0 q.0.1 q.1) (λ q. refl)
    (λ q i. record {
      shape_is = ap (λ z. by rule.V20 (three z (shape q.0.1) (shape q.1))) i.0.0.shape_is
          ∙ ap (λ z. by rule.V20 (three t z (shape q.1))) i.0.1.shape_is ∙ ap (λ z. by rule.V20 (three t u z)) i.1.shape_is;
      parts = least_part (least_parts i.0.0) (least_part (least_parts i.0.1) (least.own (least.own (least_part (least_parts i.1) (least.own none)))));
    })
    (makes_plus _ _ _ (sum (sum k m) n) 2 (makes_sum _ _ _ _ _ _ (sum k m) n (makes_sum _ _ _ _ _ _ k m hc hx) hy))

by_v21 : (T : Table) (c x y : Exp) (s : ℕ) (t u v : Tree) (k m n : Option ℕ) → Part T c (Jumps true) s t k → Part T y (Gets Any) s u m
    → Part T x (Gets Any) s v n → Whole T (Cond c x y) (Gets Any) s (by rule.V21 (three t u v)) (plus (sum (sum k m) n) 2)
by_v21 T c x y s t u v k m n hc hy hx =
    makes_map _ _ _ _ _ _ _ (λ q. v21 q.0.0 q.0.1 q.1) (λ q. refl)
    (λ q i. record {
      shape_is = ap (λ z. by rule.V21 (three z (shape q.0.1) (shape q.1))) i.0.0.shape_is
          ∙ ap (λ z. by rule.V21 (three t z (shape q.1))) i.0.1.shape_is ∙ ap (λ z. by rule.V21 (three t u z)) i.1.shape_is;
      parts = least_part (least_parts i.0.0) (least_part (least_parts i.0.1) (least.own (least.own (least_part (least_parts i.1) (least.own none)))));
    })
    (makes_plus _ _ _ (sum (sum k m) n) 2 (makes_sum _ _ _ _ _ _ (sum k m) n (makes_sum _ _ _ _ _ _ k m hc hy) hx))

abbrev Tests : Table → Exp → ℕ → (Option ℕ → Bool → List Candidate) → (Aim → Rule → Trees) → Type 0
Tests T e s tests own = (any : Option ℕ) (t : Tree) → Part T e (Gets Any) s t any → (sense : Bool)
    → AllMake T e (Jumps sense) s (test_parts t (own (Jumps sense))) (tests any sense)

value_tests : (T : Table) (e : Exp) (s : ℕ) (own : Aim → Rule → Trees) → IsTrue (is_plain e) → Tests T e s by_value own
value_tests T e s own p any t h sense = (test_of_value T e s any t sense p h, tt)

number_layers : (T : Table) (b : Bool) → AreLeastParts (cond b (layer.own {T = T} (J 0) ∷ []) [])
number_layers T true = least.own none
number_layers T false = none

number_tests_attained : (T : Table) (n s : ℕ) → Tests T (Num n) s (number_tests n) leaf_parts
number_tests_attained T n s any t h sense =
    (test_of_value T (Num n) s any t sense refl h, (makes_some _ _ _ j7 _ refl (record { shape_is = refl; parts = number_layers T (jumps_at sense n) }), tt))

turned_part : {T : Table} {e : Exp} {s : ℕ} {c : Choices} {r : Readings} → Attains T e s c r → (sense : Bool)
    → Whole T (Not e) (Jumps sense) s (by rule.J1 (one (tree_for (Jumps (not sense)) r))) (words_for (Jumps (not sense)) c)
turned_part h true = makes_map _ _ _ _ _ _ _ (λ d. j1 {sense = true} d) (λ d. refl)
    (λ d i. record { shape_is = ap (λ y. by rule.J1 (one y)) i.shape_is; parts = least_part (least_parts i) none }) h.on_false
turned_part h false = makes_map _ _ _ _ _ _ _ (λ d. j1 {sense = false} d) (λ d. refl)
    (λ d i. record { shape_is = ap (λ y. by rule.J1 (one y)) i.shape_is; parts = least_part (least_parts i) none }) h.on_true

low_of : (T : Table) (e : Exp) (s : ℕ) → Low T e s (choices T e s)
low_of T e s aim d = lower d s

-- each choice is attained
mutual
  pub attained : (T : Table) (e : Exp) (s : ℕ) → Attains T e s (choices T e s) (readings T e s)
  attained T (Num n) s = attains_line T (Num n) s [] [] (number_tests n) leaf_parts (low_of T (Num n) s) tt (λ t. tt) (number_tests_attained T n s)
  attained T (Frame k) s = attains_line T (Frame k) s [] [] by_value leaf_parts (low_of T (Frame k) s) tt (λ t. tt) (value_tests T (Frame k) s leaf_parts refl)
  attained T (Glob n) s = attains_line T (Glob n) s [] [] by_value leaf_parts (low_of T (Glob n) s) tt (λ t. tt) (value_tests T (Glob n) s leaf_parts refl)
  attained T (Place m) s = attains_line T (Place m) s [] [] by_value leaf_parts (low_of T (Place m) s) tt (λ t. tt) (value_tests T (Place m) s leaf_parts refl)
  attained T (Load e) s =
      let h = attained T e s in
      attains_line T (Load e) s _ _ by_value (part_parts (readings T e s)) (low_of T (Load e) s)
      (unary_push T e (Load e) Push s rule.V2 _ _ (λ d. v2 d) (λ d. refl) (λ d. refl) (λ d i. least_part i (least.own none)) h.push, tt)
      (λ t. (unary_push T e (Load e) Any s rule.V2 _ _ (λ d. v2 d) (λ d. refl) (λ d. refl) (λ d i. least_part i (least.own none)) h.any, tt))
      (value_tests T (Load e) s (part_parts (readings T e s)) refl)
  attained T (Neg e) s =
      let h = attained T e s in
      attains_line T (Neg e) s _ _ by_value (part_parts (readings T e s)) (low_of T (Neg e) s)
      (unary_push T e (Neg e) Push s rule.V3 _ _ (λ d. v3 d) (λ d. refl) (λ d. refl) (λ d i. least_part i (least.own none)) h.push, tt)
      (λ t. (unary_push T e (Neg e) Any s rule.V3 _ _ (λ d. v3 d) (λ d. refl) (λ d. refl) (λ d i. least_part i (least.own none)) h.any, tt))
      (value_tests T (Neg e) s (part_parts (readings T e s)) refl)
  attained T (Not e) s =
      let h = attained T e s in
      attains_line T (Not e) s _ _ (not_tests (choices T e s)) (part_parts (readings T e s)) (low_of T (Not e) s)
      (unary_push T e (Not e) Push s rule.V4 _ _ (λ d. v4 d) (λ d. refl) (λ d. refl) (λ d i. least_part i (least.own none)) h.push, tt)
      (λ t. (unary_push T e (Not e) Any s rule.V4 _ _ (λ d. v4 d) (λ d. refl) (λ d. refl) (λ d i. least_part i (least.own none)) h.any, tt))
      (λ any t p sense. (turned_part h sense, tt))
  attained T (Bin op a b) s =
      let ha = attained T a (s + 1) in
      let hb = attained T b (s + 1) in
      let ca = choices T a (s + 1) in
      let cb = choices T b (s + 1) in
      let ra = readings T a (s + 1) in
      let rb = readings T b (s + 1) in
      attains_line T (Bin op a b) s _ _ (pair_tests T op (node a ca) (node b cb)) (pair_parts (zero_number (constant_of b)) ra rb) (low_of T (Bin op a b) s)
      (mixed_attained T op a b Push s ca cb ra rb (words_of ca.push) (words_of cb.push) ra.push ha.push hb.push)
      (λ t. all_append (Derives T (Bin op a b) (Gets Any)) (λ d. cost d s)
      (λ r d. IsWhole s (by r (pair_parts (zero_number (constant_of b)) ra rb (Gets Any) r)) d)
      (mixed op (node a ca) (node b cb) (words_of ca.any) (words_of cb.any)) (worked op (node a ca) (node b cb) s)
      (mixed_attained T op a b Any s ca cb ra rb (words_of ca.any) (words_of cb.any) ra.any ha.any hb.any)
      (worked_attained T op a b s ca cb ra rb ha hb))
      (tests_attained T op a b s ca cb ra rb ha hb)
  attained T (Cond c x y) s =
      let hc = attained T c s in
      let hx = attained T x s in
      let hy = attained T y s in
      let own = cond_parts (readings T c s) (readings T x s) (readings T y s) in
      attains_line T (Cond c x y) s [] _ by_value own (low_of T (Cond c x y) s) tt
      (λ t. (by_v20 T c x y s _ _ _ _ _ _ hc.on_false hx.any hy.any, (by_v21 T c x y s _ _ _ _ _ _ hc.on_true hy.any hx.any, tt)))
      (value_tests T (Cond c x y) s own refl)
  attained T (Call es f) s =
      let hs = all_attained T es (s + 2) in
      let hf = attained T f (s + 2 + count es) in
      let own = call_parts (readings_of_all T es (s + 2)) (readings T f (s + 2 + count es)) in
      attains_line T (Call es f) s [] _ by_value own (low_of T (Call es f) s) tt
      (λ t. (by_v22 T es f s _ _ _ _ hs hf.any, tt))
      (value_tests T (Call es f) s own refl)
  attained T (Valof n) s =
      attains_line T (Valof n) s [] _ by_value leaf_parts (low_of T (Valof n) s) tt
      (λ t. (makes_some _ _ _ v22_valof 0 refl (record { shape_is = refl; parts = least.body none }), tt))
      (value_tests T (Valof n) s leaf_parts refl)

  pub all_attained : (T : Table) (es : Args) (s : ℕ) → AllParts T es s (readings_of_all T es s) (words_of_all T es s)
  all_attained T no_argument s = makes_some _ _ _ no_more 0 refl (record { shapes_are = refl; parts = λ t f ls h. h })
  all_attained T (argument e es) s = one_argument T e es s _ _ _ _ (attained T e s).any (all_attained T es (s + 1))
