-- The premises about calls, VALOFs and the code of roots.
use Rattle.std.specs.Prelude.{ℕ, ◌≡◌, ◌+◌, ◌≤◌, Bool, List, [], ◌∷◌, ◌++◌, length}
use Rattle.bc_text_items.specs.declared.item.Item.{Item}
use Rattle.bc_text_items.specs.declared.item.Item.TheVariants.{Label}
use Rattle.bc_machine_defs.specs.State.{State}
use Rattle.bc_core.specs.Tree.{Exp, Frame, Load, Neg, Not, Bin, Cond, Call, Valof, Args, no_argument, argument, count, Root, Value, Test, Assign}
use Rattle.bc_core.specs.Level.{operand_level, argument_level, routine_level, side_level}
use Rattle.bc_core.specs.Layout.{Bodies, cells_of_exp, cells_of_assignment}
use Rattle.bc_core.specs.Outcome as outcomes
use Rattle.bc_core.specs.Outcome.{Run}
use Rattle.bc_core.specs.Value.{Context, value, truth, assign}
use Rattle.bc_right.specs.steps.CodeAt.{HasWords}
use Rattle.bc_right.specs.steps.Landing.{Moment, Later, Stands, Reached, Lands, Does}
use Rattle.bc_right.specs.steps.Items.{hold_item, call_item}
use Rattle.bc_right.specs.steps.Goals.{value_goal, test_goal, end_goal}

-- items, and the next free label after them
abbrev pub Code : Type 0
Code = List Item × ℕ

-- the code of a root, given its target and its first label
abbrev pub Roots : Type 0
Roots = Root → (target first : ℕ) → Code

-- the code of a VALOF's body, given the VALOF's number, its level, the label after it, and the first free label
abbrev pub BodiesCode : Type 0
BodiesCode = (number level label first : ℕ) → Code

-- each VALOF in an expression at level s is at the level that `levels` has for it
abbrev mutual
  pub Levelled : (ℕ → ℕ) → Exp → ℕ → Type 0
  Levelled levels (Load e) s = Levelled levels e s
  Levelled levels (Neg e) s = Levelled levels e s
  Levelled levels (Not e) s = Levelled levels e s
  Levelled levels (Bin op a b) s = Levelled levels a (operand_level s) × Levelled levels b (operand_level s)
  Levelled levels (Cond c x y) s = Levelled levels c s × Levelled levels x s × Levelled levels y s
  Levelled levels (Call es f) s = AllLevelled levels es (argument_level s) × Levelled levels f (routine_level s (count es))
  Levelled levels (Valof n) s = levels n ≡ s
  Levelled levels _ s = Unit {0}

  pub AllLevelled : (ℕ → ℕ) → Args → ℕ → Type 0
  AllLevelled levels no_argument s = Unit {0}
  AllLevelled levels (argument e es) s = Levelled levels e s × AllLevelled levels es (s + 1)

-- With the arguments stored after the links of the new frame, and the called value v in A, the machine gets from `Ks` to the
-- instruction after it, with the call's value in A.
pub record CallLands (S : Moment) (most v : ℕ) (call : List ℕ → ℕ → Run ℕ) : Type 0 where
  pub from : (K : Moment) → Later S K → (address : ℕ → ℕ) (O : Moment) (x : State) (t p s b c end limit : ℕ) (vs store : List ℕ) (st : outcomes.State)
      → Stands address S c (call_item s ∷ []) end → HasWords store (p + s + 2) vs → p + s + 2 + length vs ≤ 65536
      → st.turns ≤ limit → Reached K most O x t (p + s) p v b c 0 store st
      → Lands K most O x t (p + s) p limit (value_goal end) (call vs (p + s) st)

-- The code of a VALOF's body, with its label right after it, gives the VALOF's value at its level.
pub record ValofsLand (address levels : ℕ → ℕ) (S : Moment) (most : ℕ) (V : Bodies) (bodies : BodiesCode) (valof : ℕ → ℕ → ℕ → Run ℕ) : Type 0 where
  pub from : (K : Moment) → Later S K → (n p l first a c end limit : ℕ)
      → Stands address S c ((bodies n (levels n) l first).0 ++ Label l ∷ []) end → p + V n (levels n) ≤ 65536
      → Does K most (p + levels n) p limit a c (value_goal end) (valof n p (levels n))

-- the code of a value, followed by a store of it at an offset of the frame
pub record StoresLast (address : ℕ → ℕ) (S K : Moment) (most top p limit a c k end : ℕ) (r : Run ℕ) : Type 0 where
  pub middle : ℕ
  pub gives : Does K most top p limit a c (value_goal middle) r
  pub stores : Stands address S middle (hold_item k ∷ []) end

-- Wherever the code of a root is placed, it does what the root means.
pub record RootsLand (C : Context) (address levels : ℕ → ℕ) (V : Bodies) (S : Moment) (most : ℕ) (roots : Roots) : Type 0 where
  pub gives : (K : Moment) → Later S K → (e : Exp) (p s first a c end limit : ℕ)
      → Stands address S c (roots (Value s e) 0 first).0 end → p + cells_of_exp V e s ≤ 65536 → Levelled levels e s
      → Does K most (p + s) p limit a c (value_goal end) (value C e p s)
  pub tests : (K : Moment) → Later S K → (sense : Bool) (e : Exp) (p s target first a c end limit : ℕ)
      → Stands address S c (roots (Test s sense e) target first).0 end → p + cells_of_exp V e s ≤ 65536 → Levelled levels e s
      → Does K most (p + s) p limit a c (test_goal sense (address target) end) (truth C e p s)
  pub assigns : (K : Moment) → Later S K → (e f : Exp) (p s first a c end limit : ℕ)
      → Stands address S c (roots (Assign s e f) 0 first).0 end → p + cells_of_assignment V e f s ≤ 65536
      → Levelled levels e (side_level f s) → Levelled levels f (side_level f s)
      → Does K most (p + s) p limit a c (end_goal end) (assign C e f p s)
  -- the limit of a FOR, which has no live cell
  pub limits : (K : Moment) → Later S K → (e : Exp) (p s first a c end limit : ℕ)
      → Stands address S c (roots (Assign (s + 2) e (Frame (s + 1))) 0 first).0 end → p + cells_of_exp V e (s + 2) ≤ 65536 → Levelled levels e (s + 2)
      → StoresLast address S K most (p + (s + 2)) p limit a c (s + 1) end (value C e p (s + 2))

-- The code of roots is right for all calls and VALOFs that are right, if labels have the addresses of the source's places.
pub record RootsRight (address levels : ℕ → ℕ) (S : Moment) (over : BodiesCode → Roots) : Type 0 where
  pub from : (most : ℕ) (C : Context) (V : Bodies) (bodies : BodiesCode)
      → ((l : ℕ) → address l ≡ C.place l) → ((v : ℕ) → CallLands S most v (C.call v)) → ValofsLand address levels S most V bodies C.valof
      → RootsLand C address levels V S most (over bodies)
