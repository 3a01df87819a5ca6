-- A root has as many nodes as rows.
use Rattle.std.proofs.Common.{ℕ, ◌+◌, ◌^◌, ◌≤◌, ◌≡◌, List, [], ◌∷◌, ◌++◌, length, length-append, refl, sym, ◌∙◌, ap, suc, arith}
use Rattle.std.proofs.Math.Logic.{∥∥₁_elim}
use Rattle.std.specs.Coded.{Coded-set, coded_ℕ}
use Rattle.std.specs.List.{AllZip}
use Rattle.bc_core.specs.Tree.{Exp, Num, Frame, Glob, Place, Load, Neg, Not, Bin, Cond, Call, Valof, Args, no_argument, argument, count, Root, Value, Test, Assign}
use Rattle.bc_core.specs.Level.{side_level}
use Rattle.bc_core.specs.WellFormed.{nodes, nodes_of_args}
use Rattle.bc_select_defs.specs.Nodes.{in_order, all_in_order, root_in_order, root_nodes}
use Rattle.bc_select.specs.declared.row.Row.{Row}
use Rattle.bc_select.specs.Rows.{IsRowOf}

mutual
  pub length_in_order : (e : Exp) (s : ℕ) → length (in_order e s) ≡ nodes e
  length_in_order (Num n) s = refl
  length_in_order (Frame k) s = refl
  length_in_order (Glob n) s = refl
  length_in_order (Place m) s = refl
  length_in_order (Valof n) s = refl
  length_in_order (Load e) s = omega (arith, length-append (in_order e s) ((Load e, s) ∷ []), length_in_order e s)
  length_in_order (Neg e) s = omega (arith, length-append (in_order e s) ((Neg e, s) ∷ []), length_in_order e s)
  length_in_order (Not e) s = omega (arith, length-append (in_order e s) ((Not e, s) ∷ []), length_in_order e s)
  length_in_order (Bin op a b) s =
      omega (
        arith,
        length-append (in_order a (s + 1) ++ in_order b (s + 1)) ((Bin op a b, s) ∷ []),
        length-append (in_order a (s + 1)) (in_order b (s + 1)),
        length_in_order a (s + 1),
        length_in_order b (s + 1),
      )
  length_in_order (Cond c x y) s =
      omega (
        arith,
        length-append ((in_order c s ++ in_order x s) ++ in_order y s) ((Cond c x y, s) ∷ []),
        length-append (in_order c s ++ in_order x s) (in_order y s),
        length-append (in_order c s) (in_order x s),
        length_in_order c s,
        length_in_order x s,
        length_in_order y s,
      )
  length_in_order (Call es f) s =
      omega (
        arith,
        length-append (all_in_order es (s + 2) ++ in_order f (s + 2 + count es)) ((Call es f, s) ∷ []),
        length-append (all_in_order es (s + 2)) (in_order f (s + 2 + count es)),
        length_all_in_order es (s + 2),
        length_in_order f (s + 2 + count es),
      )

  length_all_in_order : (es : Args) (s : ℕ) → length (all_in_order es s) ≡ nodes_of_args es
  length_all_in_order no_argument s = refl
  length_all_in_order (argument e es) s = omega (arith, length-append (in_order e s) (all_in_order es (s + 1)), length_in_order e s, length_all_in_order es (s + 1))

length_root : (r : Root) → length (root_in_order r) ≡ root_nodes r
length_root (Value s e) = length_in_order e s
length_root (Test s sense e) = length_in_order e s
length_root (Assign s v a) = omega (arith, length-append (in_order v (side_level a s)) (in_order a (side_level a s)), length_in_order v (side_level a s), length_in_order a (side_level a s))

as_many : (xs : List (Exp × ℕ)) (rows : List Row) → AllZip IsRowOf xs rows → length xs ≡ length rows
as_many [] [] h = refl
as_many [] (y ∷ ys) h = absurd h
as_many (x ∷ xs) [] h = absurd h
as_many (x ∷ xs) (y ∷ ys) h = ap suc (as_many xs ys h.1)

pub nodes_by_rows : (r : Root) (rows : List Row) → AllZip IsRowOf (root_in_order r) rows → root_nodes r ≡ length rows
nodes_by_rows r rows h = sym (length_root r) ∙ as_many (root_in_order r) rows h

pub few_nodes : (r : Root) (rows : List Row) → ∥ AllZip IsRowOf (root_in_order r) rows ∥₁ → length rows ≤ 2 ^ 60 → root_nodes r ≤ 2 ^ 60
few_nodes r rows h few =
    let n : root_nodes r ≡ length rows = ∥∥₁_elim h (Coded-set coded_ℕ _ _) (λ h. nodes_by_rows r rows h) in
    omega arith
