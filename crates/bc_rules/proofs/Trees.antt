-- Trees of rule names as the program has them, and their parts.
use Rattle.std.proofs.Common.{◌≡◌, ℕ, ◌+◌, ◌<◌, refl, ap, ◌∙◌, sym, arith, rules, Vec, Box, Global, Bool, true, false, cond, Some, None, List, [], ◌∷◌, length, get_or, drop, add-one, drop-cons}
use Rattle.bc_core.specs.declared.expression.CoreExp.{CoreExp}
use Rattle.bc_core.specs.declared.expression.CoreExp as expressions
use Rattle.bc_word.specs.declared.operator.Op.{Op}
use Rattle.bc_word.specs.declared.operator.Op.TheVariants as operators
use Rattle.bc_core.specs.Tree.{Exp, argument}
use Rattle.bc_core.specs.View.{exp, args}
use Rattle.bc_core.proofs.Rows.{call_view}
use Rattle.bc_rules_defs.specs.declared.derivation.Derivation.{Derivation, Derivation', Row_of-Derivation, end_of-Derivation, more_of-Derivation, items-the_row-Derivation, out-Derivation, the_lemmas}
use Rattle.bc_rules_defs.specs.declared.rule.Mode.TheVariants.{Any}
use Rattle.bc_rules_defs.specs.declared.rule.Aim.{Aim}
use Rattle.bc_rules_defs.specs.declared.rule.Aim.TheVariants.{Gets}
use Rattle.bc_rules_defs.specs.declared.rule.Rule.TheVariants.{V22}
use Rattle.bc_rules_defs.specs.Rules.{by, part, one, two, three}
use Rattle.bc_rules_defs.specs.Free.{is_zero, beside_zero, without_zero}
use Rattle.bc_rules_defs.specs.Parts.{called, node_parts, single_if}
use Rattle.bc_rules_defs.specs.Takes.{beside, of_two}
use Rattle.bc_rules_defs.specs.View.{derivation, derivations, derivations_of_row}

rows_seen : {n : _} (r : Row_of-Derivation n) → derivations_of_row r ≡ derivations (items-the_row-Derivation n r)
rows_seen end_of-Derivation = refl
rows_seen (more_of-Derivation d ds) = ap (part (derivation d)) (rows_seen ds)

-- the view of a tree, from the list of its parts
pub tree_view : (d : Derivation) → derivation d ≡ by (out-Derivation d).rule (derivations (out-Derivation d).parts.items)
tree_view (Derivation' r shape ps) = let h = rows_seen ps in search (rules, the_lemmas)

pub call_parts_seen : (es : Vec CoreExp Global) (f : Box CoreExp Global) → node_parts V22 (Gets Any) (exp (expressions.Call es f)) ≡ called 0 (args es.items) (exp f.value)
call_parts_seen es f = ap (node_parts V22 (Gets Any)) (call_view es f)

-- lists of one, two and three trees
pub one_tree : (xs : List Derivation) (d : Derivation) → length xs ≡ 1 → derivations xs ≡ one (derivation (get_or xs 0 d))
one_tree [] d h = absurd (omega arith)
one_tree (x ∷ []) d h = refl
one_tree (x ∷ y ∷ xs) d h = absurd (omega arith)

pub two_trees : (xs : List Derivation) (d : Derivation) → length xs ≡ 2 → derivations xs ≡ two (derivation (get_or xs 0 d)) (derivation (get_or xs 1 d))
two_trees [] d h = absurd (omega arith)
two_trees (x ∷ []) d h = absurd (omega arith)
two_trees (x ∷ y ∷ []) d h = refl
two_trees (x ∷ y ∷ z ∷ xs) d h = absurd (omega arith)

pub three_trees : (xs : List Derivation) (d : Derivation) → length xs ≡ 3 → derivations xs ≡ three (derivation (get_or xs 0 d)) (derivation (get_or xs 1 d)) (derivation (get_or xs 2 d))
three_trees [] d h = absurd (omega arith)
three_trees (x ∷ []) d h = absurd (omega arith)
three_trees (x ∷ y ∷ []) d h = absurd (omega arith)
three_trees (x ∷ y ∷ z ∷ []) d h = refl
three_trees (x ∷ y ∷ z ∷ u ∷ xs) d h = absurd (omega arith)

-- the trees from the i-th on
pub next_tree : (xs : List Derivation) (i : ℕ) (d : Derivation) → i < length xs → derivations (drop i xs) ≡ part (derivation (get_or xs i d)) (derivations (drop (i + 1) xs))
next_tree xs i d h = ap derivations (drop-cons xs i d h ∙ ap (λ n. get_or xs i d ∷ drop n xs) (sym (add-one i)))

pub next_argument : (es : List CoreExp) (i : ℕ) (e : CoreExp) → i < length es → args (drop i es) ≡ argument (exp (get_or es i e)) (args (drop (i + 1) es))
next_argument es i e h = ap args (drop-cons es i e h ∙ ap (λ n. get_or es i e ∷ drop n es) (sym (add-one i)))

-- the operand beside a 0 is the part that the table takes
beside_at : (aim : Aim) (a b c : Exp) (y z : Bool) → Some c ≡ cond z (Some a) (cond y (Some b) None) → of_two (beside aim z) a b ≡ single_if aim (cond z (Some a) (cond y (Some b) None))
beside_at aim a b c y true h = refl
beside_at aim a b c true false h = refl
beside_at aim a b c false false h = cc

left_at : (aim : Aim) (a b c : Exp) (z : Bool) → Some c ≡ cond z (Some a) None → of_two (beside aim z) a b ≡ single_if aim (cond z (Some a) None)
left_at aim a b c true h = refl
left_at aim a b c false h = cc

pub beside_taken : (aim : Aim) (a b c : Exp) → Some c ≡ beside_zero a b → of_two (beside aim (is_zero b)) a b ≡ single_if aim (beside_zero a b)
beside_taken aim a b c h = beside_at aim a b c (is_zero a) (is_zero b) h

pub without_taken : (aim : Aim) (op : Op) (a b c : Exp) → Some c ≡ without_zero op a b → of_two (beside aim (is_zero b)) a b ≡ single_if aim (without_zero op a b)
without_taken aim operators.Add a b c h = beside_at aim a b c (is_zero a) (is_zero b) h
without_taken aim operators.Subtract a b c h = left_at aim a b c (is_zero b) h
without_taken aim op a b c h = cc
