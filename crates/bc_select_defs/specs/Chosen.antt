-- For proofs: the derivation of a root to which the choices lead, and why it is least.
use Rattle.std.proofs.Common.{◌≡◌, ℕ, ◌+◌, ◌*◌, ◌≤◌, [], ◌∷◌, Bool, true, false, not, Option, Some, None, cond, refl, ap, sym, subst, ◌∙◌, arith}
use Rattle.std.specs.Prelude.{is_some}
use Rattle.bc_word.specs.declared.operator.Op.{Op}
use Rattle.bc_word.specs.declared.operator.Op.TheVariants as operators
use Rattle.bc_core.specs.declared.operands.Operand.{Operand}
use Rattle.bc_core.specs.Tree.{Exp, Num, Frame, Glob, Place, Load, Neg, Not, Bin, Cond, Call, Valof, Args, no_argument, argument, Root, Value, Test, Assign}
use Rattle.bc_core.specs.Operand.{operand_of}
use Rattle.bc_core.specs.Level.{side_level}
use Rattle.bc_rules_defs.specs.declared.rule.Table.{Table}
use Rattle.bc_rules_defs.specs.declared.rule.Mode.TheVariants.{Any}
use Rattle.bc_rules_defs.specs.declared.rule.Aim.{Aim}
use Rattle.bc_rules_defs.specs.declared.rule.Aim.TheVariants.{Gets, Jumps}
use Rattle.bc_rules_defs.specs.declared.rule.Rule.{Rule}
use Rattle.bc_rules_defs.specs.declared.rule.Rule.TheVariants as rule
use Rattle.bc_rules_defs.specs.Takes.{takes}
use Rattle.bc_rules_defs.specs.Free.{are_free}
use Rattle.bc_rules_defs.specs.Piece.{w, operand_words}
use Rattle.bc_rules_defs.specs.Rules.{Derives, v0, v1, v2, v3, v4, v17, v20, v22, v22_valof, j1, j2, j3, j4, j5, j6, DerivesAll, no_more, one_more, RootDerives, value, test, a1, a2, a3, Tree, Trees, by, one, two, shape, root_shape}
use Rattle.bc_rules_defs.specs.Code.{cost, root_cost}
use Rattle.bc_select_defs.specs.declared.choice.Choice.{Choice}
use Rattle.bc_select_defs.specs.declared.choice.Asked.{Asked}
use Rattle.bc_select_defs.specs.Least.{top, first_rule, RootIsLeast, RootHasLeastParts, none, AreLeastWords}
use Rattle.bc_select_defs.specs.Least as least
use Rattle.bc_rules_defs.specs.Names.{rule_number}
use Rattle.bc_select_defs.specs.Options.{plus, sum, given, words_of, candidate, least_from}
use Rattle.bc_select_defs.specs.Choices.{choice_for, words_for, free, choices, node_of}
use Rattle.bc_select_defs.specs.Folds.{Chooses, AtMost, by_rule, words}
use Rattle.bc_select_defs.specs.Lower.{both, more_words, by_given, lower}
use Rattle.bc_select_defs.specs.Readings.{Readings, tree_for, tree_of, two_taken, readings}
use Rattle.bc_select_defs.specs.Makes.{Made, Makes, makes_none, makes_some, makes_map, makes_plus, makes_sum, makes_given, Chosen, chosen_least}
use Rattle.bc_select_defs.specs.Attained.{IsPart, Part, least_parts, least_part, part_for, attained}

-- the choice of an assignment, given the operand that its address is
abbrev pub assign_choice : Option Operand → (value address : Asked) → ℕ → Option Choice
assign_choice (Some o) v a s = least_from None (candidate rule.A1 (plus (words_of v.choices.any) (operand_words o)) ∷ [])
assign_choice None v a s =
    least_from None
    (candidate rule.A2 (given (free v a) (plus (sum (words_of a.choices.any) (words_of v.choices.any)) (2 * w s)))
    ∷ candidate rule.A3 (plus (sum (words_of v.choices.any) (words_of a.choices.any)) (2 * w s + 2 * w (s + 1)))
    ∷ [])

-- the choice of a root
abbrev pub root_choice : Table → Root → Option Choice
root_choice T (Value s e) = (choices T e s).any
root_choice T (Test s sense e) = choice_for (Jumps sense) (choices T e s)
root_choice T (Assign s v a) = assign_choice (operand_of a) (node_of T v (side_level a s)) (node_of T a (side_level a s)) s

-- the trees of the sides that an assignment's rule takes
abbrev pub assign_parts : (value address : Readings) → Rule → Trees
assign_parts v a r = two_taken (takes r (Gets Any) false) v a

-- the tree to which the choices of a root lead
abbrev pub root_reading : Table → Root → Tree
root_reading T (Value s e) = (readings T e s).any
root_reading T (Test s sense e) = tree_for (Jumps sense) (readings T e s)
root_reading T (Assign s v a) = tree_of (root_choice T (Assign s v a)) (assign_parts (readings T v (side_level a s)) (readings T a (side_level a s)))

-- no derivation of a root has fewer words than its choice
abbrev assign_at : Table → Exp → Exp → ℕ → Option Operand → Option Choice
assign_at T v a s p = assign_choice p (node_of T v (cond (is_some p) s (s + 1))) (node_of T a (cond (is_some p) s (s + 1))) s

root_lower : {T : Table} {r : Root} (d : RootDerives T r) → AtMost (root_choice T r) (root_cost d) (rule_number (top (root_shape d)))
root_lower (value {s = s} d) = lower d s
root_lower (test {s = s} d) = lower d s
root_lower (a1 {T = T} {s = s} {v = v} {a = a} {o = o} h d) = subst (λ p. AtMost (assign_at T v a s p) (cost d s + operand_words o) 1) (sym h)
    (by_rule _ _ _ refl (more_words _ _ _ (words _ _ _ (lower d s))))
root_lower (a2 {T = T} {s = s} {v = v} {a = a} h k b d) = subst (λ p. AtMost (assign_at T v a s p) (cost b (s + 1) + cost d (s + 1) + 2 * w s) 2) (sym h)
    (by_rule _ _ _ refl (by_given _ _ _ k (more_words _ _ _ (both _ _ _ _ (words _ _ _ (lower b (s + 1))) (words _ _ _ (lower d (s + 1)))))))
root_lower (a3 {T = T} {s = s} {v = v} {a = a} h d b) =
    subst (λ p. AtMost (assign_at T v a s p) (cost d (s + 1) + cost b (s + 1) + (2 * w s + 2 * w (s + 1))) 3) (sym h)
    (by_rule _ _ _ refl (more_words _ _ _ (both _ _ _ _ (words _ _ _ (lower d (s + 1))) (words _ _ _ (lower b (s + 1))))))

-- a derivation of a root with this tree that is least, and whose parts are least
pub record IsRootPart {T : Table} {r : Root} (t : Tree) (d : RootDerives T r) : Type 0 where
  pub shape_is : root_shape d ≡ t
  pub least : RootIsLeast d
  pub parts : RootHasLeastParts d

record IsRootWhole {T : Table} {r : Root} (t : Tree) (d : RootDerives T r) : Type 0 where
  shape_is : root_shape d ≡ t
  parts : RootHasLeastParts d

abbrev pub RootPart : (T : Table) → Root → Tree → Option ℕ → Type 0
RootPart T r t x = Makes (RootDerives T r) (λ d. root_cost d) (λ d. IsRootPart t d) x

root_part : (T : Table) (r : Root) (parts : Rule → Trees) (x : Option Choice)
    → Chosen (RootDerives T r) (λ d. root_cost d) (λ q d. IsRootWhole (by q (parts q)) d) x
    → ((d : RootDerives T r) → AtMost x (root_cost d) (rule_number (top (root_shape d)))) → RootPart T r (tree_of x parts) (words_of x)
root_part T r parts None h low = makes_none _ _ _
root_part T r parts (Some c) h low =
    let found = h.some c refl in
    let d = found.thing in
    let same : root_cost d ≡ c.words = found.words in
    let starts : top (root_shape d) ≡ c.rule = ap top found.fact.shape_is in
    makes_some (RootDerives T r) (λ b. root_cost b) (λ b. IsRootPart (by c.rule (parts c.rule)) b) d c.words same (record {
      shape_is = found.fact.shape_is;
      least = record {
        fewest = λ other. let up = (low other).fact in let f : c.words ≤ root_cost other = up.fewer in omega arith;
        first = λ other i. let up = (low other).fact in let f : root_cost other ≤ c.words
            → rule_number c.rule ≤ rule_number (top (root_shape other)) = up.first in let P : Rule
            → Type 0 = λ q. rule_number q ≤ rule_number (top (root_shape other)) in subst P (sym starts) (f (omega arith));
      };
      parts = found.fact.parts;
    })

-- the same for an assignment, given the operand that its address is
abbrev AssignPart : Table → Exp → Exp → ℕ → Option Operand → Type 0
AssignPart T v a s p = Chosen (RootDerives T (Assign s v a)) (λ d. root_cost d)
    (λ q d. IsRootWhole (by q (assign_parts (readings T v (cond (is_some p) s (s + 1))) (readings T a (cond (is_some p) s (s + 1))) q)) d)
    (assign_at T v a s p)

assign_attained : (T : Table) (v a : Exp) (s : ℕ) (p : Option Operand) → operand_of a ≡ p → AssignPart T v a s p
assign_attained T v a s (Some o) h =
    chosen_least _ _ _ _ (
      makes_map _ _ _ _ _ _ _ (λ d. a1 h d) (λ d. refl)
          (λ d i. record { shape_is = ap (λ y. by rule.A1 (one y)) i.shape_is; parts = least_part (least_parts i) (least.own none) })
          (makes_plus _ _ _ _ (operand_words o) (attained T v s).any),
      tt,
    )
assign_attained T v a s None h =
    let hv = attained T v (s + 1) in
    let ha = attained T a (s + 1) in
    chosen_least _ _ _ _ (
      makes_given _ _ _ (are_free v a) _
          (λ k. makes_map _ _ _ _ _ _ _ (λ q. a2 h k q.0 q.1) (λ q. refl)
          (λ q i. record {
            shape_is = ap (λ y. by rule.A2 (two y (shape q.1))) i.0.shape_is
                ∙ ap (λ y. by rule.A2 (two (readings T a (s + 1)).any y)) i.1.shape_is;
            parts = least_part (least_parts i.0) (least.own (least_part (least_parts i.1) (least.own none)));
          })
          (makes_plus _ _ _ _ (2 * w s) (makes_sum _ _ _ _ _ _ _ _ ha.any hv.any))),
      (
        makes_map _ _ _ _ _ _ _ (λ q. a3 h q.0 q.1) (λ q. refl)
            (λ q i. record {
              shape_is = ap (λ y. by rule.A3 (two y (shape q.1))) i.0.shape_is
                  ∙ ap (λ y. by rule.A3 (two (readings T v (s + 1)).any y)) i.1.shape_is;
              parts = least_part (least_parts i.0) (least.own (least_part (least_parts i.1) (least.own (least.own (least.own none)))));
            })
            (makes_plus _ _ _ _ (2 * w s + 2 * w (s + 1)) (makes_sum _ _ _ _ _ _ _ _ hv.any ha.any)),
        tt,
      ),
    )

root_attained : (T : Table) (r : Root) → RootPart T r (root_reading T r) (words_of (root_choice T r))
root_attained T (Value s e) = makes_map _ _ _ _ _ _ _ (λ d. value d) (λ d. refl)
    (λ d i. record {
      shape_is = i.shape_is;
      least = record { fewest = λ other. value_fewest d i other; first = λ other. value_first d i other };
      parts = least_part (least_parts i) none;
    }) (attained T e s).any where
      value_fewest : (d : Derives T e (Gets Any)) → IsPart s (readings T e s).any d → (other : RootDerives T (Value s e)) → cost d s ≤ root_cost other
      value_fewest d i (value other) = i.least.fewest other

      value_first : (d : Derives T e (Gets Any)) → IsPart s (readings T e s).any d → (other : RootDerives T (Value s e)) → root_cost other ≤ cost d s
          → rule_number (top (root_shape (value {s = s} d))) ≤ rule_number (top (root_shape other))
      value_first d i (value other) = i.least.first other
root_attained T (Test s sense e) =
    makes_map _ _ _ _ _ _ _ (λ d. test d) (λ d. refl)
    (λ d i. record {
      shape_is = i.shape_is;
      least = record { fewest = λ other. test_fewest d i other; first = λ other. test_first d i other };
      parts = least_part (least_parts i) none;
    }) (part_for (attained T e s) (Jumps sense)) where
      test_fewest : (d : Derives T e (Jumps sense)) → IsPart s (tree_for (Jumps sense) (readings T e s)) d → (other : RootDerives T (Test s sense e))
          → cost d s ≤ root_cost other
      test_fewest d i (test other) = i.least.fewest other

      test_first : (d : Derives T e (Jumps sense)) → IsPart s (tree_for (Jumps sense) (readings T e s)) d → (other : RootDerives T (Test s sense e))
          → root_cost other ≤ cost d s → rule_number (top (root_shape (test {s = s} d))) ≤ rule_number (top (root_shape other))
      test_first d i (test other) = i.least.first other
root_attained T (Assign s v a) = root_part T (Assign s v a) (assign_parts (readings T v (side_level a s)) (readings T a (side_level a s)))
    (root_choice T (Assign s v a)) (assign_attained T v a s (operand_of a) refl) (λ d. root_lower d)

-- every expression has a derivation as a value and as a test, hence every root has one
test_of_pair : (T : Table) (op : Op) (a b : Exp) → ((sense : Bool) → Derives T a (Jumps sense)) → ((sense : Bool) → Derives T b (Jumps sense))
    → Derives T (Bin op a b) (Gets Any) → (sense : Bool) → Derives T (Bin op a b) (Jumps sense)
test_of_pair T operators.Multiply a b ha hb d sense = j6 refl d
test_of_pair T operators.Divide a b ha hb d sense = j6 refl d
test_of_pair T operators.Remainder a b ha hb d sense = j6 refl d
test_of_pair T operators.Add a b ha hb d sense = j6 refl d
test_of_pair T operators.Subtract a b ha hb d sense = j6 refl d
test_of_pair T operators.Equal a b ha hb d sense = j6 refl d
test_of_pair T operators.NotEqual a b ha hb d sense = j6 refl d
test_of_pair T operators.Less a b ha hb d sense = j6 refl d
test_of_pair T operators.GreaterEqual a b ha hb d sense = j6 refl d
test_of_pair T operators.Greater a b ha hb d sense = j6 refl d
test_of_pair T operators.LessEqual a b ha hb d sense = j6 refl d
test_of_pair T operators.ShiftLeft a b ha hb d sense = j6 refl d
test_of_pair T operators.ShiftRight a b ha hb d sense = j6 refl d
test_of_pair T operators.And a b ha hb d true = j3 (ha false) (hb true)
test_of_pair T operators.And a b ha hb d false = j2 (ha false) (hb false)
test_of_pair T operators.Or a b ha hb d true = j4 (ha true) (hb true)
test_of_pair T operators.Or a b ha hb d false = j5 (ha true) (hb false)
test_of_pair T operators.NotEquivalent a b ha hb d sense = j6 refl d
test_of_pair T operators.Equivalent a b ha hb d sense = j6 refl d

mutual
  pub some_value : (T : Table) (e : Exp) → Derives T e (Gets Any)
  some_value T (Num n) = v0 (v1 refl)
  some_value T (Frame k) = v0 (v1 refl)
  some_value T (Glob n) = v0 (v1 refl)
  some_value T (Place m) = v0 (v1 refl)
  some_value T (Load e) = v2 (some_value T e)
  some_value T (Neg e) = v3 (some_value T e)
  some_value T (Not e) = v4 (some_value T e)
  some_value T (Bin op a b) = v17 (some_value T a) (some_value T b)
  some_value T (Cond c x y) = v20 (some_test T c false) (some_value T x) (some_value T y)
  some_value T (Call es f) = v22 (some_values T es) (some_value T f)
  some_value T (Valof n) = v22_valof

  pub some_test : (T : Table) (e : Exp) (sense : Bool) → Derives T e (Jumps sense)
  some_test T (Num n) sense = j6 refl (v0 (v1 refl))
  some_test T (Frame k) sense = j6 refl (v0 (v1 refl))
  some_test T (Glob n) sense = j6 refl (v0 (v1 refl))
  some_test T (Place m) sense = j6 refl (v0 (v1 refl))
  some_test T (Load e) sense = j6 refl (v2 (some_value T e))
  some_test T (Neg e) sense = j6 refl (v3 (some_value T e))
  some_test T (Not e) sense = j1 (some_test T e (not sense))
  some_test T (Bin op a b) sense = test_of_pair T op a b (some_test T a) (some_test T b) (v17 (some_value T a) (some_value T b)) sense
  some_test T (Cond c x y) sense = j6 refl (v20 (some_test T c false) (some_value T x) (some_value T y))
  some_test T (Call es f) sense = j6 refl (v22 (some_values T es) (some_value T f))
  some_test T (Valof n) sense = j6 refl v22_valof

  pub some_values : (T : Table) (es : Args) → DerivesAll T es
  some_values T no_argument = no_more
  some_values T (argument e es) = one_more (some_value T e) (some_values T es)

some_assignment : (T : Table) (v a : Exp) (s : ℕ) (p : Option Operand) → operand_of a ≡ p → RootDerives T (Assign s v a)
some_assignment T v a s (Some o) h = a1 h (some_value T v)
some_assignment T v a s None h = a3 h (some_value T v) (some_value T a)

some_root : (T : Table) (r : Root) → RootDerives T r
some_root T (Value s e) = value (some_value T e)
some_root T (Test s sense e) = test (some_test T e sense)
some_root T (Assign s v a) = some_assignment T v a s (operand_of a) refl

there_is : (x : Option Choice) (k q : ℕ) → Chooses x k q → (n : ℕ) × (words_of x ≡ Some n)
there_is None k q h = absurd h
there_is (Some c) k q h = (c.words, refl)

-- every root has a choice
pub root_words : (T : Table) (r : Root) → (n : ℕ) × (words_of (root_choice T r) ≡ Some n)
root_words T r = let d = some_root T r in there_is (root_choice T r) (root_cost d) (rule_number (top (root_shape d))) (root_lower d).fact

pub the_choice : (T : Table) (r : Root) → Made (RootDerives T r) (λ d. root_cost d) (λ d. IsRootPart (root_reading T r) d) (root_words T r).0
the_choice T r = (root_attained T r).some (root_words T r).0 (root_words T r).1

-- The derivation with the fewest words; among these the one that begins with the rule of the lowest number, at each step.
pub chosen : (T : Table) (r : Root) → RootDerives T r
chosen T r = (the_choice T r).thing

pub chosen_reads : (T : Table) (r : Root) → root_shape (chosen T r) ≡ root_reading T r
unfolding chosen
chosen_reads T r = (the_choice T r).fact.shape_is

pub chosen_words : (T : Table) (r : Root) → words_of (root_choice T r) ≡ Some (root_cost (chosen T r))
unfolding chosen
chosen_words T r = (root_words T r).1 ∙ ap Some (sym (the_choice T r).words)

pub chosen_is_least : (T : Table) (r : Root) → RootIsLeast (chosen T r)
unfolding chosen
chosen_is_least T r = (the_choice T r).fact.least

pub chosen_has_least_parts : (T : Table) (r : Root) → RootHasLeastParts (chosen T r)
unfolding chosen
chosen_has_least_parts T r = (the_choice T r).fact.parts

-- the choices of an expression have the least words
words_least : (T : Table) (e : Exp) (aim : Aim) (s : ℕ) (t : Tree) (x : Option Choice) → Part T e aim s t (words_of x)
    → ((d : Derives T e aim) → AtMost x (cost d s) (rule_number (first_rule d))) → AreLeastWords T e aim s (words_of x)
words_least T e aim s t None h low = λ d. (low d).fact
words_least T e aim s t (Some c) h low = let found = h.some c.words refl in ((found.thing, found.words), λ d. (low d).fact.fewer)

pub words_are_least : (T : Table) (e : Exp) (aim : Aim) (s : ℕ) → AreLeastWords T e aim s (words_for aim (choices T e s))
words_are_least T e aim s = words_least T e aim s (tree_for aim (readings T e s)) (choice_for aim (choices T e s)) (part_for (attained T e s) aim)
    (λ d. lower d s)
