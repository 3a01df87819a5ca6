-- The trees of an expression begin with the rules of its choices, and continue with the trees of these rules' parts.
use Rattle.std.proofs.Common.{◌≡◌, ℕ, ◌+◌, ◌++◌, Option, Some, None, refl, ap, sym, ◌∙◌, append-nil, append_assoc, arith}
use Rattle.std.specs.Prelude.{true, false}
use Rattle.bc_core.specs.declared.operands.Operand.{Operand}
use Rattle.bc_core.specs.Level.{side_level}
use Rattle.bc_core.specs.Operand.{operand_of}
use Rattle.bc_core.specs.Tree.{Exp, Num, Frame, Glob, Place, Load, Neg, Not, Bin, Cond, Call, Valof, Args, no_argument, argument, count, Assign}
use Rattle.bc_core.specs.WellFormed.{nodes, nodes_of_args}
use Rattle.bc_core.proofs.Rows.{then_argument}
use Rattle.bc_rules_defs.specs.declared.rule.Table.TheVariants.{Two}
use Rattle.bc_rules_defs.specs.declared.rule.Mode.TheVariants.{Any, Push}
use Rattle.bc_rules_defs.specs.declared.rule.Aim.{Aim}
use Rattle.bc_rules_defs.specs.declared.rule.Aim.TheVariants.{Gets, Jumps}
use Rattle.bc_rules_defs.specs.declared.rule.Rule.{Rule}
use Rattle.bc_rules_defs.specs.declared.rule.Rule.TheVariants.{V1}
use Rattle.bc_rules_defs.specs.Rules.{Trees, by, no_part, part, end_with}
use Rattle.bc_rules_defs.specs.Code.{cost}
use Rattle.bc_select_defs.specs.declared.choice.Choice.{Choice}
use Rattle.bc_select_defs.specs.Least.{first_rule}
use Rattle.bc_rules_defs.specs.Names.{rule_number}
use Rattle.bc_select_defs.specs.declared.choice.Asked.{Asked}
use Rattle.bc_select_defs.specs.Choices.{choice_for, choices, node_of}
use Rattle.bc_select_defs.specs.Folds.{AtMost}
use Rattle.bc_select_defs.specs.Lower.{lower}
use Rattle.bc_select_defs.specs.Chosen.{some_value, some_test, assign_choice, assign_parts, root_choice, root_reading}
use Rattle.bc_select_defs.specs.Readings.{tree_for, tree_of, push_parts, value_parts, test_parts, read_line, readings, readings_of_all}
use Rattle.bc_select.specs.Vector.{before_all, vector}
use Rattle.bc_select.specs.Reads.{own_parts, parts_for, rule_or_v1}

is_line : (e : Exp) (s : ℕ) → readings Two e s ≡ read_line (choices Two e s) (own_parts e s)
is_line (Num n) s = refl
is_line (Frame k) s = refl
is_line (Glob n) s = refl
is_line (Place m) s = refl
is_line (Load e) s = refl
is_line (Neg e) s = refl
is_line (Not e) s = refl
is_line (Bin op a b) s = refl
is_line (Cond c x y) s = refl
is_line (Call es f) s = refl
is_line (Valof n) s = refl

pub chosen_tree : (x : Option Choice) (parts : Rule → Trees) → (x ≡ None → parts V1 ≡ no_part) → tree_of x parts ≡ by (rule_or_v1 x) (parts (rule_or_v1 x))
chosen_tree None parts h = ap (by V1) (sym (h refl))
chosen_tree (Some c) parts h = refl

never : (x : Option Choice) (k q : ℕ) (p : Trees) → AtMost x k q → x ≡ None → p ≡ no_part
never None k q p h e = absurd h.fact
never (Some c) k q p h e = cc

pub reading_is : (e : Exp) (s : ℕ) (aim : Aim) (r : Rule) → r ≡ rule_or_v1 (choice_for aim (choices Two e s)) → by r (parts_for e s aim r) ≡ tree_for aim (readings Two e s)
reading_is e s (Gets Push) r h =
    let own = own_parts e s in
    ap (λ q. by q (parts_for e s (Gets Push) q)) h ∙ sym (chosen_tree (choices Two e s).push (push_parts (own (Gets Push))) (λ k. refl)) ∙ sym (ap (λ x. x.push) (is_line e s))
reading_is e s (Gets Any) r h =
    let own = own_parts e s in let x = (choices Two e s).any in let d = some_value Two e in
    ap (λ q. by q (parts_for e s (Gets Any) q)) h
    ∙ sym (chosen_tree x (value_parts (readings Two e s).push (own (Gets Any))) (never x (cost d s) (rule_number (first_rule d)) _ (lower d s)))
    ∙ ap (λ y. tree_of x (value_parts y.push (own (Gets Any)))) (is_line e s) ∙ sym (ap (λ y. y.any) (is_line e s))
reading_is e s (Jumps false) r h =
    let own = own_parts e s in let x = (choices Two e s).on_false in let d = some_test Two e false in
    ap (λ q. by q (parts_for e s (Jumps false) q)) h
    ∙ sym (chosen_tree x (test_parts (readings Two e s).any (own (Jumps false))) (never x (cost d s) (rule_number (first_rule d)) _ (lower d s)))
    ∙ ap (λ y. tree_of x (test_parts y.any (own (Jumps false)))) (is_line e s) ∙ sym (ap (λ y. y.on_false) (is_line e s))
reading_is e s (Jumps true) r h =
    let own = own_parts e s in let x = (choices Two e s).on_true in let d = some_test Two e true in
    ap (λ q. by q (parts_for e s (Jumps true) q)) h
    ∙ sym (chosen_tree x (test_parts (readings Two e s).any (own (Jumps true))) (never x (cost d s) (rule_number (first_rule d)) _ (lower d s)))
    ∙ ap (λ y. tree_of x (test_parts y.any (own (Jumps true)))) (is_line e s) ∙ sym (ap (λ y. y.on_true) (is_line e s))

-- the choice of an assignment whose sides are at level s, and its tree
pub assignment_choice : (v a : Exp) (level s : ℕ) (o : Option Operand) (x y : Asked) (r : Option Choice) → r ≡ assign_choice o x y level → o ≡ operand_of a → x ≡ node_of Two v s → y ≡ node_of Two a s → s ≡ side_level a level → r ≡ root_choice Two (Assign level v a)
assignment_choice v a level s o x y r h i j k l =
    h ∙ ap (λ q. assign_choice q x y level) i ∙ ap (λ n. assign_choice (operand_of a) n y level) j ∙ ap (λ n. assign_choice (operand_of a) (node_of Two v s) n level) k
    ∙ ap (λ n. assign_choice (operand_of a) (node_of Two v n) (node_of Two a n) level) l

pub assignment_is : (v a : Exp) (level s : ℕ) (x : Option Choice) (r : Rule) → s ≡ side_level a level → x ≡ root_choice Two (Assign level v a) → r ≡ rule_or_v1 x → by r (assign_parts (readings Two v s) (readings Two a s) r) ≡ root_reading Two (Assign level v a)
assignment_is v a level s x r h i j =
    let parts : Rule → Trees = assign_parts (readings Two v (side_level a level)) (readings Two a (side_level a level)) in
    ap (λ n. by r (assign_parts (readings Two v n) (readings Two a n) r)) h ∙ ap (λ q. by q (parts q)) (j ∙ ap rule_or_v1 i) ∙ sym (chosen_tree (root_choice Two (Assign level v a)) parts (λ k. refl))

-- with one more argument at the end
pub before_all-then : (es : Args) (e : Exp) (s : ℕ) → before_all (then_argument es e) s ≡ before_all es s ++ vector e (s + count es)
before_all-then no_argument e s = append-nil (vector e s) ∙ ap (vector e) (omega arith)
before_all-then (argument d es) e s =
    ap (λ x. vector d s ++ x) (before_all-then es e (s + 1)) ∙ sym (append_assoc (vector d s) (before_all es (s + 1)) (vector e (s + 1 + count es))) ∙ ap (λ n. (vector d s ++ before_all es (s + 1)) ++ vector e n) (omega arith)

pub readings_of_all-then : (es : Args) (e : Exp) (s : ℕ) → readings_of_all Two (then_argument es e) s ≡ end_with (readings_of_all Two es s) (readings Two e (s + count es)).any
readings_of_all-then no_argument e s = let same : s ≡ s + count no_argument = omega arith in ap (λ n. part (readings Two e n).any no_part) same
readings_of_all-then (argument d es) e s = ap (part (readings Two d s).any) (readings_of_all-then es e (s + 1)) ∙ ap (λ n. part (readings Two d s).any (end_with (readings_of_all Two es (s + 1)) (readings Two e n).any)) (omega arith)

pub nodes-then : (es : Args) (e : Exp) → nodes_of_args (then_argument es e) ≡ nodes_of_args es + nodes e
nodes-then no_argument e = omega arith
nodes-then (argument d es) e = omega (arith, nodes-then es e)
