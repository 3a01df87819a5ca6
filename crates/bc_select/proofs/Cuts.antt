-- Splitting the nodes of an expression at those of its last part.
use Rattle.std.proofs.Common.{◌≡◌, ℕ, ◌+◌, List, [], ◌∷◌, ◌++◌, length, take, drop, refl, ap, ◌∙◌, arith, length-append}
use Rattle.std.proofs.Math.Seq.{take-append_seam, drop-append_seam}
use Rattle.bc_core.specs.Tree.{Exp, Num, Frame, Glob, Place, Load, Neg, Not, Bin, Cond, Call, Valof, Args, no_argument, argument, count}
use Rattle.bc_core.specs.WellFormed.{nodes, nodes_of_args}
use Rattle.bc_select.specs.declared.node.PartNode.{PartNode}
use Rattle.bc_select.specs.Vector.{node, before, before_all, vector, ending}

ending_length : (ns : List PartNode) (e : Exp) (s : ℕ) → length (ending ns e s) ≡ length ns + 1
ending_length ns e s = length-append ns (node e s ∷ [])

mutual
  pub before_length : (e : Exp) (s : ℕ) → length (before e s) + 1 ≡ nodes e
  before_length (Num n) s = omega arith
  before_length (Frame k) s = omega arith
  before_length (Glob n) s = omega arith
  before_length (Place m) s = omega arith
  before_length (Load e) s = omega (arith, ending_length (before e s) e s, before_length e s)
  before_length (Neg e) s = omega (arith, ending_length (before e s) e s, before_length e s)
  before_length (Not e) s = omega (arith, ending_length (before e s) e s, before_length e s)
  before_length (Bin op a b) s =
      omega (arith, length-append (vector a (s + 1)) (vector b (s + 1)), ending_length (before a (s + 1)) a (s + 1), before_length a (s + 1), ending_length (before b (s + 1)) b (s + 1), before_length b (s + 1))
  before_length (Cond c x y) s =
      omega (arith, length-append (vector c s ++ vector x s) (vector y s), length-append (vector c s) (vector x s), ending_length (before c s) c s, before_length c s, ending_length (before x s) x s, before_length x s, ending_length (before y s) y s, before_length y s)
  before_length (Call es f) s =
      omega (arith, length-append (before_all es (s + 2)) (vector f (s + 2 + count es)), before_all_length es (s + 2), ending_length (before f (s + 2 + count es)) f (s + 2 + count es), before_length f (s + 2 + count es))
  before_length (Valof n) s = omega arith

  pub before_all_length : (es : Args) (s : ℕ) → length (before_all es s) ≡ nodes_of_args es
  before_all_length no_argument s = refl
  before_all_length (argument e es) s = omega (arith, length-append (vector e s) (before_all es (s + 1)), ending_length (before e s) e s, before_length e s, before_all_length es (s + 1))

pub vector_length : (e : Exp) (s : ℕ) → length (vector e s) ≡ nodes e
vector_length e s = omega (arith, ending_length (before e s) e s, before_length e s)

pub take_front : (xs ys : List PartNode) (n : ℕ) → n ≡ length xs → take n (xs ++ ys) ≡ xs
take_front xs ys n h = ap (λ k. take k (xs ++ ys)) h ∙ take-append_seam xs ys

pub drop_front : (xs ys : List PartNode) (n : ℕ) → n ≡ length xs → drop n (xs ++ ys) ≡ ys
drop_front xs ys n h = ap (λ k. drop k (xs ++ ys)) h ∙ drop-append_seam xs ys
