-- The rows of the nodes have the least words and rules of their expressions.
use Rattle.std.proofs.Common.{◌≡◌, ℕ, ◌+◌, List, [], ◌∷◌, ◌++◌, map, Option, Some, None, refl, ap, sym, subst, ◌∙◌}
use Rattle.std.proofs.lemmas.List.{map-append}
use Rattle.std.specs.Prelude.{true, false}
use Rattle.std.specs.List.{AllZip}
use Rattle.bc_core.specs.Tree.{Exp, Root, Num, Frame, Glob, Place, Load, Neg, Not, Bin, Cond, Call, Valof, Args, no_argument, argument, count, Value, Test, Assign}
use Rattle.bc_core.specs.Level.{side_level}
use Rattle.bc_rules_defs.specs.declared.rule.Table.TheVariants.{Two}
use Rattle.bc_rules_defs.specs.declared.rule.Mode.TheVariants.{Any, Push}
use Rattle.bc_rules_defs.specs.declared.rule.Aim.TheVariants.{Gets, Jumps}
use Rattle.bc_rules_defs.specs.Code.{root_cost}
use Rattle.bc_select_defs.specs.declared.choice.Choice.{Choice}
use Rattle.bc_select_defs.specs.Options.{words_of}
use Rattle.bc_select_defs.specs.Nodes.{in_order, all_in_order, root_in_order}
use Rattle.bc_select_defs.specs.Chosen.{chosen, chosen_words, root_choice}
use Rattle.bc_select_defs.proofs.Words.{choices_are_least}
use Rattle.bc_select.specs.declared.node.PartNode.{PartNode}
use Rattle.bc_select.specs.declared.row.Row.{Row}
use Rattle.bc_select.specs.Order.{node_at, parts_in_order}
use Rattle.bc_select.specs.Vector.{node, before, before_all, vector}
use Rattle.bc_select.specs.Selection.{root_vector, words_or_none}
use Rattle.bc_select.specs.Row.{row_of_part}
use Rattle.bc_select.specs.Rows.{IsRowOf}

row_right : (at : Exp × ℕ) → IsRowOf at (row_of_part (node_at at))
row_right at =
    let any = choices_are_least Two at.0 (Gets Any) at.1 in
    let push = choices_are_least Two at.0 (Gets Push) at.1 in
    let on_false = choices_are_least Two at.0 (Jumps false) at.1 in
    let on_true = choices_are_least Two at.0 (Jumps true) at.1 in
    record { costs = (any.0, push.0, on_false.0, on_true.0); rules = (any.1, push.1, on_false.1, on_true.1) }

all_right : (ats : List (Exp × ℕ)) → AllZip IsRowOf ats (map row_of_part (map node_at ats))
all_right [] = tt
all_right (at ∷ ats) = (row_right at, all_right ats)

both : (xs ys : List PartNode) (ats bts : List (Exp × ℕ)) → xs ≡ map node_at ats → ys ≡ map node_at bts → xs ++ ys ≡ map node_at (ats ++ bts)
both xs ys ats bts h i = ap (λ zs. zs ++ ys) h ∙ ap (λ zs. map node_at ats ++ zs) i ∙ sym (map-append node_at ats bts)

following : (xs : List PartNode) (e : Exp) (s : ℕ) (ats : List (Exp × ℕ)) → xs ≡ map node_at ats → xs ++ (node e s ∷ []) ≡ map node_at (ats ++ ((e, s) ∷ []))
following xs e s ats h = both xs (node e s ∷ []) ats ((e, s) ∷ []) h refl

-- the nodes belong to the expressions in their order
mutual
  pub before_is : (e : Exp) (s : ℕ) → before e s ≡ map node_at (parts_in_order e s)
  before_is (Num n) s = refl
  before_is (Frame k) s = refl
  before_is (Glob n) s = refl
  before_is (Place m) s = refl
  before_is (Load e) s = vector_is e s
  before_is (Neg e) s = vector_is e s
  before_is (Not e) s = vector_is e s
  before_is (Bin op a b) s = both (vector a (s + 1)) (vector b (s + 1)) (in_order a (s + 1)) (in_order b (s + 1)) (vector_is a (s + 1)) (vector_is b (s + 1))
  before_is (Cond c x y) s = both _ _ _ _ (both (vector c s) (vector x s) (in_order c s) (in_order x s) (vector_is c s) (vector_is x s)) (vector_is y s)
  before_is (Call es f) s = both (before_all es (s + 2)) (vector f (s + 2 + count es)) (all_in_order es (s + 2)) (in_order f (s + 2 + count es)) (before_all_is es (s + 2)) (vector_is f (s + 2 + count es))
  before_is (Valof n) s = refl

  pub vector_is : (e : Exp) (s : ℕ) → vector e s ≡ map node_at (in_order e s)
  vector_is (Num n) s = refl
  vector_is (Frame k) s = refl
  vector_is (Glob n) s = refl
  vector_is (Place m) s = refl
  vector_is (Load e) s = following (vector e s) (Load e) s (in_order e s) (vector_is e s)
  vector_is (Neg e) s = following (vector e s) (Neg e) s (in_order e s) (vector_is e s)
  vector_is (Not e) s = following (vector e s) (Not e) s (in_order e s) (vector_is e s)
  vector_is (Bin op a b) s = following _ (Bin op a b) s _ (both (vector a (s + 1)) (vector b (s + 1)) (in_order a (s + 1)) (in_order b (s + 1)) (vector_is a (s + 1)) (vector_is b (s + 1)))
  vector_is (Cond c x y) s = following _ (Cond c x y) s _ (both _ _ _ _ (both (vector c s) (vector x s) (in_order c s) (in_order x s) (vector_is c s) (vector_is x s)) (vector_is y s))
  vector_is (Call es f) s = following _ (Call es f) s _ (both (before_all es (s + 2)) (vector f (s + 2 + count es)) (all_in_order es (s + 2)) (in_order f (s + 2 + count es)) (before_all_is es (s + 2)) (vector_is f (s + 2 + count es)))
  vector_is (Valof n) s = refl

  before_all_is : (es : Args) (s : ℕ) → before_all es s ≡ map node_at (all_in_order es s)
  before_all_is no_argument s = refl
  before_all_is (argument e es) s = both (vector e s) (before_all es (s + 1)) (in_order e s) (all_in_order es (s + 1)) (vector_is e s) (before_all_is es (s + 1))

pub root_vector_is : (r : Root) → root_vector r ≡ map node_at (root_in_order r)
root_vector_is (Value s e) = vector_is e s
root_vector_is (Test s sense e) = vector_is e s
root_vector_is (Assign s v a) = both (vector v (side_level a s)) (vector a (side_level a s)) (in_order v (side_level a s)) (in_order a (side_level a s)) (vector_is v (side_level a s)) (vector_is a (side_level a s))

pub rows_of_root : (r : Root) (rows : List Row) (nodes : List PartNode) → rows ≡ map row_of_part nodes → nodes ≡ root_vector r → AllZip IsRowOf (root_in_order r) rows
rows_of_root r rows nodes h i =
    let P : List Row → Type 0 = λ x. AllZip IsRowOf (root_in_order r) x in
    subst P (sym (h ∙ ap (map row_of_part) (i ∙ root_vector_is r))) (all_right (root_in_order r))

counted : (x : Option Choice) (n : ℕ) → words_of x ≡ Some n → words_or_none x ≡ n
counted None n h = cc
counted (Some c) n h = cc

pub words_are : (r : Root) → words_or_none (root_choice Two r) ≡ root_cost (chosen Two r)
words_are r = counted (root_choice Two r) (root_cost (chosen Two r)) (chosen_words Two r)
