-- The node of each form, from the nodes of its parts.
use Rattle.std.proofs.Common.{◌≡◌, ℕ, ◌+◌, ◌≤◌, ◌^◌, List, [], ◌∷◌, length, true, Option, None, refl, ap, sym, ◌∙◌, arith}
use Rattle.bc_word.specs.declared.operator.Op.{Op}
use Rattle.bc_core.specs.declared.expression.CoreExp.{CoreExp}
use Rattle.bc_core.specs.declared.operands.Operand.{Operand}
use Rattle.bc_core.specs.Tree as tree
use Rattle.bc_core.specs.Tree.{Exp, Args, count}
use Rattle.bc_core.specs.View.{args}
use Rattle.bc_core.specs.Operand.{operand_of, constant_of}
use Rattle.bc_core.specs.WellFormed.{nodes, nodes_of_args}
use Rattle.bc_rules_defs.specs.declared.rule.Table.TheVariants.{Two}
use Rattle.bc_rules_defs.specs.declared.rule.Rule.TheVariants.{V2, V3}
use Rattle.bc_select_defs.specs.declared.choice.Choices.{Choices}
use Rattle.bc_select_defs.specs.declared.choice.Asked.{Asked}
use Rattle.bc_select_defs.specs.Options.{plus, words_of}
use Rattle.bc_rules_defs.specs.Piece.{w}
use Rattle.bc_select_defs.specs.Choices.{leaf_choices, number_choices, number_tests, by_value, unary_choices, cond_choices, call_choices, pair_choices, words_of_all, choices, node_of}
use Rattle.bc_select.specs.declared.node.PartNode.{PartNode}
use Rattle.bc_select.specs.declared.binary_choices.Pair.{Pair}
use Rattle.bc_select.specs.Vector.{node, pair_of, part_of_pair}
use Rattle.bc_select.specs.Small.{Small}
use Rattle.bc_select.proofs.Bounds.{value_small, line_bound, by_value_bound, number_tests_bound, under_small}

pub leaf_small : (o : Option Operand) → Small (words_of (leaf_choices o).any)
leaf_small o = (under_small (leaf_choices o) 1 (line_bound o [] [] by_value 1 2 (omega arith) (omega arith) tt tt (by_value_bound 2)) (omega arith)).any

pub number_small : (o : Option Operand) (n : ℕ) → Small (words_of (number_choices o n).any)
number_small o n = (under_small (number_choices o n) 1 (line_bound o [] [] (number_tests n) 1 2 (omega arith) (omega arith) tt tt (number_tests_bound n 2)) (omega arith)).any

pub args_count : (es : List CoreExp) → count (args es) ≡ length es
args_count [] = refl
args_count (e ∷ es) = omega (arith, args_count es)

-- the value of each form takes a small number of words
pub load_small : (p : PartNode) (o : Option Operand) (e : Exp) (s : ℕ) → nodes (tree.Load e) ≤ 2 ^ 40 → p ≡ node e s → o ≡ operand_of (tree.Load e) → Small (words_of (unary_choices V2 o p.choices).any)
load_small p o e s h i j = value_small Two (unary_choices V2 o p.choices) (tree.Load e) s h (ap (λ q. unary_choices V2 o q.choices) i ∙ ap (λ q. unary_choices V2 q (choices Two e s)) j)

pub neg_small : (p : PartNode) (e : Exp) (s : ℕ) → nodes (tree.Neg e) ≤ 2 ^ 40 → p ≡ node e s → Small (words_of (unary_choices V3 None p.choices).any)
neg_small p e s h i = value_small Two (unary_choices V3 None p.choices) (tree.Neg e) s h (ap (λ q. unary_choices V3 None q.choices) i)

pub cond_small : (c x y : PartNode) (ec ex ey : Exp) (s : ℕ) → nodes (tree.Cond ec ex ey) ≤ 2 ^ 40 → c ≡ node ec s → x ≡ node ex s → y ≡ node ey s → Small (words_of (cond_choices c.choices x.choices y.choices).any)
cond_small c x y ec ex ey s h i j k =
    value_small Two (cond_choices c.choices x.choices y.choices) (tree.Cond ec ex ey) s h
    (ap (λ q. cond_choices q.choices x.choices y.choices) i ∙ ap (λ q. cond_choices (choices Two ec s) q.choices y.choices) j ∙ ap (λ q. cond_choices (choices Two ec s) (choices Two ex s) q.choices) k)

pub pair_small : (p : Pair) (o : Option Operand) (op : Op) (a b : Exp) (s : ℕ) → nodes (tree.Bin op a b) ≤ 2 ^ 40 → p ≡ pair_of op a b s → o ≡ operand_of (tree.Bin op a b) → Small (words_of (pair_choices Two p.op o p.left p.right p.level).any)
pair_small p o op a b s h i j =
    value_small Two (pair_choices Two p.op o p.left p.right p.level) (tree.Bin op a b) s h
    (ap (λ q. pair_choices Two q.op o q.left q.right q.level) i ∙ ap (λ q. (part_of_pair (pair_of op a b s) q).choices) j)

pub pair_whole : (p : Pair) (o : Option Operand) (op : Op) (a b : Exp) (s : ℕ) (r : PartNode) → p ≡ pair_of op a b s → o ≡ operand_of (tree.Bin op a b) → r ≡ part_of_pair p o → r ≡ node (tree.Bin op a b) s
pair_whole p o op a b s r i j k = k ∙ ap (λ q. part_of_pair q o) i ∙ ap (λ q. part_of_pair (pair_of op a b s) q) j

routine_at : (es : List CoreExp) (f : Exp) (s : ℕ) (r : PartNode) → r ≡ node f (s + 2 + length es) → r ≡ node f (s + 2 + count (args es))
routine_at es f s r h = h ∙ ap (λ n. node f (s + 2 + n)) (sym (args_count es))

call_same : (es : List CoreExp) (f : Exp) (s : ℕ) (w : Option ℕ) (r : PartNode) → w ≡ words_of_all Two (args es) (s + 2) → r ≡ node f (s + 2 + length es) → call_choices w r.choices s ≡ choices Two (tree.Call (args es) f) s
call_same es f s w r h i = ap (λ x. call_choices x r.choices s) h ∙ ap (λ q. call_choices (words_of_all Two (args es) (s + 2)) q.choices s) (routine_at es f s r i)

pub call_small : (es : List CoreExp) (f : Exp) (s : ℕ) (w : Option ℕ) (r : PartNode) → nodes (tree.Call (args es) f) ≤ 2 ^ 40 → w ≡ words_of_all Two (args es) (s + 2) → r ≡ node f (s + 2 + length es) → Small (words_of (call_choices w r.choices s).any)
call_small es f s w r h i j = value_small Two (call_choices w r.choices s) (tree.Call (args es) f) s h (call_same es f s w r i j)

whole : Choices → ℕ → ℕ → PartNode
whole c n m = record { choices = c; calls = true; nodes = 1 + n + m }

pub call_whole : (es : List CoreExp) (f : Exp) (s : ℕ) (w : Option ℕ) (n : ℕ) (r : PartNode) (c : Choices) → w ≡ words_of_all Two (args es) (s + 2) → n ≡ nodes_of_args (args es) → r ≡ node f (s + 2 + length es) → c ≡ call_choices w r.choices s → ◌≡◌ {A = PartNode} (record { choices = c; calls = true; nodes = 1 + n + r.nodes }) (node (tree.Call (args es) f) s)
unfolding whole
call_whole es f s w n r c h i j k =
    ap (λ x. whole x n r.nodes) (k ∙ call_same es f s w r h j) ∙ ap (λ x. whole (choices Two (tree.Call (args es) f) s) x r.nodes) i ∙ ap (λ q. whole (choices Two (tree.Call (args es) f) s) (nodes_of_args (args es)) q.nodes) j

operand_at : Exp → PartNode → Asked
operand_at e q = record { choices = q.choices; operand = operand_of e; number = constant_of e; calls = q.calls; nodes = q.nodes }

pub operand_is : (n : Asked) (q : PartNode) (e : Exp) (s : ℕ) → n ≡ record { choices = q.choices; operand = operand_of e; number = constant_of e; calls = q.calls; nodes = q.nodes } → q ≡ node e s → n ≡ node_of Two e s
unfolding operand_at
operand_is n q e s h i = h ∙ ap (operand_at e) i

pub pair_is : (op : Op) (l r : Asked) (a b : Exp) (s : ℕ) → l ≡ node_of Two a (s + 1) → r ≡ node_of Two b (s + 1) → ◌≡◌ {A = Pair} (record { op = op; left = l; right = r; level = s }) (pair_of op a b s)
pair_is op l r a b s h i = cc

pub stored_is : (x y : Option ℕ) (k : ℕ) (q : PartNode) (e : Exp) (s : ℕ) → x ≡ plus y k → y ≡ words_of q.choices.any → k ≡ w s → q ≡ node e s → x ≡ plus (words_of (choices Two e s).any) (w s)
stored_is x y k q e s h i j l = h ∙ ap (λ z. plus z k) i ∙ ap (λ n. plus (words_of q.choices.any) n) j ∙ ap (λ p. plus (words_of p.choices.any) (w s)) l
