-- The levels of all nodes of an expression, and the bodies of its VALOFs, are within its frame.
use Rattle.std.proofs.Common.{ℕ, ◌+◌, ◌≤◌, max, cond, Bool, true, false, List, [], ◌∷◌, ◌++◌, arith}
use Rattle.std.specs.List.{AllByRecursion}
use Rattle.bc_core.specs.Tree.{Exp, Num, Frame, Glob, Place, Load, Neg, Not, Bin, Cond, Call, Valof, Args, no_argument, argument, count, Root, Value, Test, Assign}
use Rattle.bc_core.specs.Level.{side_level}
use Rattle.bc_core.specs.Operand.{is_operand}
use Rattle.bc_core.specs.Layout.{Bodies, cells_of_exp, cells_of_args, cells_of_assignment}
use Rattle.bc_select_defs.specs.Nodes.{in_order, all_in_order}
use Rattle.bc_build.specs.RoomLaws.{HasLevels}

-- the greatest number of cells of a frame
abbrev pub most : ℕ
most = 32768

abbrev mutual
  pub Fits : Bodies → Exp → ℕ → Type 0
  Fits V (Load e) s = (s ≤ most) × Fits V e s
  Fits V (Neg e) s = (s ≤ most) × Fits V e s
  Fits V (Not e) s = (s ≤ most) × Fits V e s
  Fits V (Bin op a b) s = (s ≤ most) × Fits V a (s + 1) × Fits V b (s + 1)
  Fits V (Cond c x y) s = (s ≤ most) × Fits V c s × Fits V x s × Fits V y s
  Fits V (Call es f) s = (s ≤ most) × AllFit V es (s + 2) × Fits V f (s + 2 + count es)
  Fits V (Valof n) s = (s ≤ most) × (V n s ≤ most)
  Fits V _ s = s ≤ most

  pub AllFit : Bodies → Args → ℕ → Type 0
  AllFit V no_argument s = Unit {0}
  AllFit V (argument e es) s = Fits V e s × AllFit V es (s + 1)

pub left_most : (a b : ℕ) → max a b ≤ most → a ≤ most
left_most a b h = omega arith

pub right_most : (a b : ℕ) → max a b ≤ most → b ≤ most
right_most a b h = omega arith

pub less_most : (a k : ℕ) → a + k ≤ most → a ≤ most
less_most a k h = omega arith

mutual
  pub exp_fits : (V : Bodies) (e : Exp) (s : ℕ) → s ≤ most → cells_of_exp V e s ≤ most → Fits V e s
  exp_fits V (Num n) s h c = h
  exp_fits V (Frame k) s h c = h
  exp_fits V (Glob n) s h c = h
  exp_fits V (Place m) s h c = h
  exp_fits V (Load e) s h c = (h, exp_fits V e s h c)
  exp_fits V (Neg e) s h c = (h, exp_fits V e s h c)
  exp_fits V (Not e) s h c = (h, exp_fits V e s h c)
  exp_fits V (Bin op a b) s h c =
      let ca = cells_of_exp V a (s + 1) in
      let cb = cells_of_exp V b (s + 1) in
      let own : s + 2 ≤ most = left_most (s + 2) (max ca cb) c in
      let parts = right_most (s + 2) (max ca cb) c in
      let up : s + 1 ≤ most = omega arith in
      (h, exp_fits V a (s + 1) up (left_most ca cb parts), exp_fits V b (s + 1) up (right_most ca cb parts))
  exp_fits V (Cond p x y) s h c =
      let cp = cells_of_exp V p s in
      let cx = cells_of_exp V x s in
      let cy = cells_of_exp V y s in
      let parts = right_most cp (max cx cy) c in
      (h, exp_fits V p s h (left_most cp (max cx cy) c), exp_fits V x s h (left_most cx cy parts), exp_fits V y s h (right_most cx cy parts))
  exp_fits V (Call es f) s h c =
      let ca = cells_of_args V es (s + 2) in
      let cf = cells_of_exp V f (s + 2 + count es) in
      let own = left_most (s + 2 + count es) (max ca cf) c in
      let parts = right_most (s + 2 + count es) (max ca cf) c in
      (h, args_fit V es (s + 2) own (left_most ca cf parts), exp_fits V f (s + 2 + count es) own (right_most ca cf parts))
  exp_fits V (Valof n) s h c = (h, c)

  args_fit : (V : Bodies) (es : Args) (s : ℕ) → s + count es ≤ most → cells_of_args V es s ≤ most → AllFit V es s
  args_fit V no_argument s h c = tt
  args_fit V (argument e es) s h c =
      let ce = cells_of_exp V e s in
      let cs = cells_of_args V es (s + 1) in
      let l : s + (1 + count es) ≤ most = h in
      let more : (s + 1) + count es ≤ most = omega arith in
      let here : s ≤ most = omega arith in
      (exp_fits V e s here (left_most ce cs c), args_fit V es (s + 1) more (right_most ce cs c))

abbrev pub RootFits : Bodies → Root → Type 0
RootFits V (Value s e) = Fits V e s
RootFits V (Test s sense e) = Fits V e s
RootFits V (Assign s v a) = Fits V v (side_level a s) × Fits V a (side_level a s)

side_most : (t : Bool) (s : ℕ) → s ≤ most → cond t 0 (s + 2) ≤ most → cond t s (s + 1) ≤ most
side_most true s h c = h
side_most false s h c = let l : s + 2 ≤ most = c in omega arith

pub sides_fit : (V : Bodies) (v a : Exp) (s : ℕ) → s ≤ most → cells_of_assignment V v a s ≤ most → RootFits V (Assign s v a)
sides_fit V v a s h c =
    let held = cond (is_operand a) 0 (s + 2) in
    let at = side_level a s in
    let cv = cells_of_exp V v at in
    let ca = cells_of_exp V a at in
    let l : at ≤ most = side_most (is_operand a) s h (left_most held (max cv ca) c) in
    let parts = right_most held (max cv ca) c in
    (exp_fits V v at l (left_most cv ca parts), exp_fits V a at l (right_most cv ca parts))

-- hence the level of each node is at most that
abbrev AreLevels : List (Exp × ℕ) → Type 0
AreLevels ns = AllByRecursion (λ (n : Exp × ℕ). n.1 ≤ most) ns

after_levels : (xs ys : List (Exp × ℕ)) → AreLevels xs → AreLevels ys → AreLevels (xs ++ ys)
after_levels [] ys h k = k
after_levels (x ∷ xs) ys h k = (h.0, after_levels xs ys h.1 k)

mutual
  levels_fit : (V : Bodies) (e : Exp) (s : ℕ) → Fits V e s → AreLevels (in_order e s)
  levels_fit V (Num n) s h = (h, tt)
  levels_fit V (Frame k) s h = (h, tt)
  levels_fit V (Glob n) s h = (h, tt)
  levels_fit V (Place m) s h = (h, tt)
  levels_fit V (Valof n) s h = (h.0, tt)
  levels_fit V (Load e) s h = after_levels _ _ (levels_fit V e s h.1) (h.0, tt)
  levels_fit V (Neg e) s h = after_levels _ _ (levels_fit V e s h.1) (h.0, tt)
  levels_fit V (Not e) s h = after_levels _ _ (levels_fit V e s h.1) (h.0, tt)
  levels_fit V (Bin op a b) s h = after_levels _ _ (after_levels _ _ (levels_fit V a (s + 1) h.1) (levels_fit V b (s + 1) h.2)) (h.0, tt)
  levels_fit V (Cond c x y) s h = after_levels _ _ (after_levels _ _ (after_levels _ _ (levels_fit V c s h.1) (levels_fit V x s h.2)) (levels_fit V y s h.3)) (h.0, tt)
  levels_fit V (Call es f) s h = after_levels _ _ (after_levels _ _ (all_levels_fit V es (s + 2) h.1) (levels_fit V f (s + 2 + count es) h.2)) (h.0, tt)

  all_levels_fit : (V : Bodies) (es : Args) (s : ℕ) → AllFit V es s → AreLevels (all_in_order es s)
  all_levels_fit V no_argument s h = tt
  all_levels_fit V (argument e es) s h = after_levels _ _ (levels_fit V e s h.0) (all_levels_fit V es (s + 1) h.1)

pub root_levels : (V : Bodies) (r : Root) → RootFits V r → HasLevels r
root_levels V (Value s e) h = levels_fit V e s h
root_levels V (Test s sense e) h = levels_fit V e s h
root_levels V (Assign s v a) h = after_levels _ _ (levels_fit V v (side_level a s) h.0) (levels_fit V a (side_level a s) h.1)
