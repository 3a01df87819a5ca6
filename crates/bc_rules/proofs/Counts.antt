-- Counts of labels and of cells, capped at 65,537.
use Rattle.std.proofs.Common.{◌≡◌, ℕ, zero, suc, ◌+◌, ◌<◌, ◌≤◌, max, Bool, cond, Option, Some, None, List, [], ◌∷◌, length, get_or, drop, refl, sym, ap, ◌∙◌, arith, ⊎_elim, length-drop, Vec, Box, Global}
use Rattle.std.proofs.lemmas.List.{drop_all}
use Rattle.std.proofs.lemmas.Bool.{cases_lt}
use Rattle.bc_core.specs.declared.expression.CoreExp.{CoreExp}
use Rattle.bc_core.specs.declared.expression.CoreExp as expressions
use Rattle.bc_core.specs.Tree.{Exp, Call, Assign, Args, no_argument, argument, count}
use Rattle.bc_core.specs.View.{exp, args}
use Rattle.bc_core.proofs.Rows.{call_view}
use Rattle.bc_core.specs.declared.operands.Operand.{Operand}
use Rattle.bc_core.specs.Operand.{operand_of}
use Rattle.bc_core.specs.Value.{has_call}
use Rattle.bc_rules_defs.specs.declared.rule.Rule.TheVariants.{A1, A2, A3}
use Rattle.bc_rules_defs.specs.declared.derivation.Derivation.{Derivation, out-Derivation}
use Rattle.bc_rules_defs.specs.declared.rule.Mode.TheVariants.{Any}
use Rattle.bc_rules_defs.specs.declared.rule.Aim.{Aim}
use Rattle.bc_rules_defs.specs.declared.rule.Aim.TheVariants.{Gets}
use Rattle.bc_rules_defs.specs.declared.rule.Rule.{Rule}
use Rattle.bc_rules_defs.specs.Rules.{no_part, part}
use Rattle.bc_rules_defs.specs.Parts.{leaf, single, pair, triple, called, parts_of, assignment_parts, where_some, where_none}
use Rattle.bc_rules_defs.specs.ByShape.{own_labels, labels_by, labels_of_parts, labels_of_sides, root_labels_by}
use Rattle.bc_rules_defs.specs.View.{derivation, derivations}
use Rattle.bc_rules.specs.Levels.{cells, cells_of_all}
use Rattle.bc_rules.proofs.Calls.{leaf_calls}
use Rattle.bc_rules.proofs.Trees.{tree_view, one_tree, two_trees, three_trees, next_tree, next_argument}

-- labels of one, two and three parts
pub one_labels : (r : Rule) (xs : List Derivation) (d : Derivation) (m : Aim) (a : Exp) → length xs ≡ 1 → labels_of_parts r (single m a) (derivations xs) ≡ labels_by (derivation (get_or xs 0 d)) m a
one_labels r xs d m a h = ap (labels_of_parts r (single m a)) (one_tree xs d h)

-- a rule's own labels
pub two_own : (r : Rule) (xs : List Derivation) (m n : Aim) (a b : Exp) → length xs ≡ 2 → own_labels r ≤ labels_of_parts r (pair m a n b) (derivations xs)
two_own r [] m n a b h = absurd (omega arith)
two_own r (x ∷ []) m n a b h = absurd (omega arith)
two_own r (x ∷ y ∷ []) m n a b h = omega arith
two_own r (x ∷ y ∷ z ∷ xs) m n a b h = absurd (omega arith)

pub three_own : (r : Rule) (xs : List Derivation) (m n l : Aim) (a b c : Exp) → length xs ≡ 3 → 2 ≤ labels_of_parts r (triple m a n b l c) (derivations xs)
three_own r [] m n l a b c h = absurd (omega arith)
three_own r (x ∷ []) m n l a b c h = absurd (omega arith)
three_own r (x ∷ y ∷ []) m n l a b c h = absurd (omega arith)
three_own r (x ∷ y ∷ z ∷ []) m n l a b c h = omega arith
three_own r (x ∷ y ∷ z ∷ u ∷ xs) m n l a b c h = absurd (omega arith)

pub no_one_labels : (r : Rule) (xs : List Derivation) (m : Aim) (a : Exp) → (length xs ≡ 1 → ⊥) → labels_of_parts r (single m a) (derivations xs) ≡ 0
no_one_labels r [] m a h = refl
no_one_labels r (x ∷ []) m a h = absurd (h (omega arith))
no_one_labels r (x ∷ y ∷ xs) m a h = refl

pub two_labels : (r : Rule) (xs : List Derivation) (d : Derivation) (m n : Aim) (a b : Exp) → length xs ≡ 2 → labels_of_parts r (pair m a n b) (derivations xs) ≡ own_labels r + labels_by (derivation (get_or xs 0 d)) m a + labels_by (derivation (get_or xs 1 d)) n b
two_labels r xs d m n a b h = ap (labels_of_parts r (pair m a n b)) (two_trees xs d h)

pub no_two_labels : (r : Rule) (xs : List Derivation) (m n : Aim) (a b : Exp) → (length xs ≡ 2 → ⊥) → labels_of_parts r (pair m a n b) (derivations xs) ≡ 0
no_two_labels r [] m n a b h = refl
no_two_labels r (x ∷ []) m n a b h = refl
no_two_labels r (x ∷ y ∷ []) m n a b h = absurd (h (omega arith))
no_two_labels r (x ∷ y ∷ z ∷ xs) m n a b h = refl

pub three_labels : (r : Rule) (xs : List Derivation) (d : Derivation) (m n l : Aim) (a b c : Exp) → length xs ≡ 3 → labels_of_parts r (triple m a n b l c) (derivations xs) ≡ 2 + labels_by (derivation (get_or xs 0 d)) m a + labels_by (derivation (get_or xs 1 d)) n b + labels_by (derivation (get_or xs 2 d)) l c
three_labels r xs d m n l a b c h = ap (labels_of_parts r (triple m a n b l c)) (three_trees xs d h)

pub no_three_labels : (r : Rule) (xs : List Derivation) (m n l : Aim) (a b c : Exp) → (length xs ≡ 3 → ⊥) → labels_of_parts r (triple m a n b l c) (derivations xs) ≡ 0
no_three_labels r [] m n l a b c h = refl
no_three_labels r (x ∷ []) m n l a b c h = refl
no_three_labels r (x ∷ y ∷ []) m n l a b c h = refl
no_three_labels r (x ∷ y ∷ z ∷ []) m n l a b c h = absurd (h (omega arith))
no_three_labels r (x ∷ y ∷ z ∷ u ∷ xs) m n l a b c h = refl

pub no_leaf_labels : (r : Rule) (xs : List Derivation) (v : Bool) → 1 ≤ length xs → labels_of_parts r (leaf v) (derivations xs) ≡ 0
no_leaf_labels r [] v h = absurd (omega arith)
no_leaf_labels r (x ∷ xs) v h = refl

-- the label of a VALOF, in rules without parts
pub leaf_labels : (r : Rule) (aim : Aim) (e : Exp) (xs : List Derivation) (v : Bool) → length xs ≡ 0 → leaf v ≡ parts_of r aim e → labels_of_parts r (leaf v) (derivations xs) ≡ cond (has_call e) 1 0
leaf_labels r aim e [] v h i = ap (λ z. cond z 1 0) (leaf_calls r aim e v i)
leaf_labels r aim e (x ∷ xs) v h i = absurd (omega arith)

pub labels_seen : (d : Derivation) (aim : Aim) (e : Exp) → labels_by (derivation d) aim e ≡ labels_of_parts (out-Derivation d).rule (parts_of (out-Derivation d).rule aim e) (derivations (out-Derivation d).parts.items)
labels_seen d aim e = ap (λ x. labels_by x aim e) (tree_view d)

-- a call's labels, from the i-th argument on
pub call_labels_next : (r : Rule) (xs : List Derivation) (es : List CoreExp) (f : Exp) (i : ℕ) (d : Derivation) (e : CoreExp) → i < length xs → i < length es
    → labels_of_parts r (called i (args (drop i es)) f) (derivations (drop i xs)) ≡ labels_by (derivation (get_or xs i d)) (Gets Any) (exp (get_or es i e)) + labels_of_parts r (called (i + 1) (args (drop (i + 1) es)) f) (derivations (drop (i + 1) xs))
call_labels_next r xs es f i d e h k =
    ap (λ ds. labels_of_parts r (called i (args (drop i es)) f) ds) (next_tree xs i d h)
    ∙ ap (λ more. labels_of_parts r (called i more f) (part (derivation (get_or xs i d)) (derivations (drop (i + 1) xs)))) (next_argument es i e k)

no_call_labels : (r : Rule) (i : ℕ) (more : Args) (f : Exp) → labels_of_parts r (called i more f) no_part ≡ 0
no_call_labels r i no_argument f = refl
no_call_labels r i (argument a more) f = refl

pub call_labels_short : (r : Rule) (xs : List Derivation) (es : List CoreExp) (f : Exp) (i : ℕ) → length xs ≤ i → labels_of_parts r (called i (args (drop i es)) f) (derivations (drop i xs)) ≡ 0
call_labels_short r xs es f i h = ap (λ ds. labels_of_parts r (called i (args (drop i es)) f) (derivations ds)) (drop_all i xs h) ∙ no_call_labels r i (args (drop i es)) f

pub call_labels_last : (r : Rule) (xs : List Derivation) (es : List CoreExp) (f : Exp) (n : ℕ) (d y : Derivation) → n ≡ length es → length xs ≡ n + 1 → y ≡ get_or xs (length es) d
    → labels_of_parts r (called n (args (drop n es)) f) (derivations (drop n xs)) ≡ labels_by (derivation y) (Gets Any) f
call_labels_last r xs es f n d y h k g =
    let end : drop n es ≡ [] = drop_all n es (omega arith) in
    let last : drop (n + 1) xs ≡ [] = drop_all (n + 1) xs (omega arith) in
    ap (λ more. labels_of_parts r (called n (args more) f) (derivations (drop n xs))) end
    ∙ ap (λ ds. labels_of_parts r (called n no_argument f) ds) (next_tree xs n d (omega arith))
    ∙ ap (λ ds. labels_of_parts r (called n no_argument f) (part (derivation (get_or xs n d)) (derivations ds))) last
    ∙ ap (λ m. labels_by (derivation (get_or xs m d)) (Gets Any) f) h
    ∙ ap (λ z. labels_by (derivation z) (Gets Any) f) (sym g)

two_more : (r : Rule) (n : ℕ) (ys : List Derivation) (f : Exp) → 2 ≤ length ys → labels_of_parts r (called n no_argument f) (derivations ys) ≡ 0
two_more r n [] f h = absurd (omega arith)
two_more r n (y ∷ []) f h = absurd (omega arith)
two_more r n (y ∷ z ∷ ys) f h = refl

call_labels_long : (r : Rule) (xs : List Derivation) (es : List CoreExp) (f : Exp) (n : ℕ) → n ≡ length es → n + 2 ≤ length xs
    → labels_of_parts r (called n (args (drop n es)) f) (derivations (drop n xs)) ≡ 0
call_labels_long r xs es f n h k =
    let end : drop n es ≡ [] = drop_all n es (omega arith) in
    ap (λ more. labels_of_parts r (called n (args more) f) (derivations (drop n xs))) end
    ∙ two_more r n (drop n xs) f (omega (arith, length-drop n xs))

pub call_labels_misfit : (r : Rule) (xs : List Derivation) (es : List CoreExp) (f : Exp) (n : ℕ) → n ≡ length es → (length xs ≡ n + 1 → ⊥) → labels_of_parts r (called n (args (drop n es)) f) (derivations (drop n xs)) ≡ 0
call_labels_misfit r xs es f n h k =
    ⊎_elim (λ long. call_labels_long r xs es f n h (over (length xs) n long k)) (λ short. call_labels_short r xs es f n short) (cases_lt n (length xs)) where
      over : (m n : ℕ) → n < m → (m ≡ n + 1 → ⊥) → n + 2 ≤ m
      over m n h k = omega arith

-- cells
pub call_cells : (es : Vec CoreExp Global) (f : Box CoreExp Global) (s : ℕ) → cells (exp (expressions.Call es f)) s ≡ cells (Call (args es.items) (exp f.value)) s
call_cells es f s = ap (λ e. cells e s) (call_view es f)

pub count_args : (es : List CoreExp) → count (args es) ≡ length es
count_args [] = refl
count_args (e ∷ es) = omega (arith, count_args es)

pub cells_next : (es : List CoreExp) (i s : ℕ) (e : CoreExp) → i < length es → cells_of_all (args (drop i es)) s ≡ max (cells (exp (get_or es i e)) s) (cells_of_all (args (drop (i + 1) es)) (s + 1))
cells_next es i s e h = ap (λ more. cells_of_all more s) (next_argument es i e h)

-- the cells of one argument
pub argument_cells : (es : List CoreExp) (i s k : ℕ) (e : CoreExp) → i < length es → k ≡ s + i → cells (exp (get_or es i e)) k ≤ cells_of_all (args es) s
argument_cells [] i s k e h j = absurd (omega arith)
argument_cells (x ∷ es) zero s k e h j = let here : cells (exp x) k ≡ cells (exp x) s = ap (cells (exp x)) (omega arith) in omega arith
argument_cells (x ∷ es) (suc i) s k e h j = let rest = argument_cells es i (s + 1) k e (omega arith) (omega arith) in omega arith

pub cells_end : (es : List CoreExp) (i s : ℕ) → length es ≤ i → cells_of_all (args (drop i es)) s ≡ 0
cells_end es i s h = ap (λ more. cells_of_all (args more) s) (drop_all i es h)

-- an assignment's sides
pub one_side_labels : (xs : List Derivation) (d : Derivation) (m : Aim) (a : Exp) → length xs ≡ 1 → labels_of_sides (single m a) (derivations xs) ≡ labels_by (derivation (get_or xs 0 d)) m a
one_side_labels xs d m a h = ap (labels_of_sides (single m a)) (one_tree xs d h)

pub two_sides_labels : (xs : List Derivation) (d : Derivation) (m n : Aim) (a b : Exp) → length xs ≡ 2 → labels_of_sides (pair m a n b) (derivations xs) ≡ labels_by (derivation (get_or xs 0 d)) m a + labels_by (derivation (get_or xs 1 d)) n b
two_sides_labels xs d m n a b h = ap (labels_of_sides (pair m a n b)) (two_trees xs d h)

-- no rule of assignments has labels of its own
sides_are : (r : Rule) (v a : Exp) (xs : List Derivation) → labels_of_sides (assignment_parts r v a) (derivations xs) ≡ labels_of_parts r (assignment_parts r v a) (derivations xs)
sides_are A1 v a xs = one_side (operand_of a) xs where
  one_side : (x : Option Operand) (xs : List Derivation) → labels_of_sides (where_some x (single (Gets Any) v)) (derivations xs) ≡ labels_of_parts A1 (where_some x (single (Gets Any) v)) (derivations xs)
  one_side None xs = refl
  one_side (Some o) [] = refl
  one_side (Some o) (x ∷ []) = refl
  one_side (Some o) (x ∷ y ∷ xs) = refl
sides_are A2 v a xs = two_sides (operand_of a) xs where
  two_sides : (x : Option Operand) (xs : List Derivation) → labels_of_sides (where_none x (pair (Gets Any) a (Gets Any) v)) (derivations xs) ≡ labels_of_parts A2 (where_none x (pair (Gets Any) a (Gets Any) v)) (derivations xs)
  two_sides (Some o) xs = refl
  two_sides None [] = refl
  two_sides None (x ∷ []) = refl
  two_sides None (x ∷ y ∷ []) = omega arith
  two_sides None (x ∷ y ∷ z ∷ xs) = refl
sides_are A3 v a xs = two_sides (operand_of a) xs where
  two_sides : (x : Option Operand) (xs : List Derivation) → labels_of_sides (where_none x (pair (Gets Any) v (Gets Any) a)) (derivations xs) ≡ labels_of_parts A3 (where_none x (pair (Gets Any) v (Gets Any) a)) (derivations xs)
  two_sides (Some o) xs = refl
  two_sides None [] = refl
  two_sides None (x ∷ []) = refl
  two_sides None (x ∷ y ∷ []) = omega arith
  two_sides None (x ∷ y ∷ z ∷ xs) = refl
sides_are r v a xs = refl

pub sides_labels : (d : Derivation) (v a : Exp) (s : ℕ) → root_labels_by (Assign s v a) (derivation d) ≡ labels_of_parts (out-Derivation d).rule (assignment_parts (out-Derivation d).rule v a) (derivations (out-Derivation d).parts.items)
sides_labels d v a s = ap (root_labels_by (Assign s v a)) (tree_view d) ∙ sides_are (out-Derivation d).rule v a (out-Derivation d).parts.items
