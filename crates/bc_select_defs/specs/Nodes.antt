-- The nodes of an expression and of a root, each with its level: parts before wholes, a call's arguments before its
-- routine, an assignment's value before its address. A certificate lists its node lines in this order.
use Rattle.std.specs.Prelude.{ℕ, ◌+◌, List, [], ◌∷◌, ◌++◌}
use Rattle.bc_core.specs.Tree.{Exp, Load, Neg, Not, Bin, Cond, Call, Args, no_argument, argument, count, Root, Value, Test, Assign}
use Rattle.bc_core.specs.Level.{side_level}
use Rattle.bc_core.specs.WellFormed.{nodes}

abbrev mutual
  -- the nodes of an expression at level s
  pub in_order : Exp → ℕ → List (Exp × ℕ)
  in_order (Load e) s = in_order e s ++ ((Load e, s) ∷ [])
  in_order (Neg e) s = in_order e s ++ ((Neg e, s) ∷ [])
  in_order (Not e) s = in_order e s ++ ((Not e, s) ∷ [])
  in_order (Bin op a b) s = (in_order a (s + 1) ++ in_order b (s + 1)) ++ ((Bin op a b, s) ∷ [])
  in_order (Cond c x y) s = ((in_order c s ++ in_order x s) ++ in_order y s) ++ ((Cond c x y, s) ∷ [])
  in_order (Call es f) s = (all_in_order es (s + 2) ++ in_order f (s + 2 + count es)) ++ ((Call es f, s) ∷ [])
  in_order e s = (e, s) ∷ []

  -- the nodes of the arguments of a call
  pub all_in_order : Args → ℕ → List (Exp × ℕ)
  all_in_order no_argument s = []
  all_in_order (argument e es) s = in_order e s ++ all_in_order es (s + 1)

-- the nodes of a root
abbrev pub root_in_order : Root → List (Exp × ℕ)
root_in_order (Value s e) = in_order e s
root_in_order (Test s sense e) = in_order e s
root_in_order (Assign s v a) = in_order v (side_level a s) ++ in_order a (side_level a s)

-- the number of a root's nodes
abbrev pub root_nodes : Root → ℕ
root_nodes (Value s e) = nodes e
root_nodes (Test s sense e) = nodes e
root_nodes (Assign s v a) = nodes v + nodes a
