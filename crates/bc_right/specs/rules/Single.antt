-- What the code of one derivation does on a machine that is about to execute it. It doesn't matter what code other roots have or how
-- the derivation was chosen.
use Rattle.std.specs.Prelude.{ℕ, ◌≡◌, ◌+◌, ◌<◌, ◌≤◌, Bool, cond, List, [], ◌∷◌, slice_index}
use Rattle.bc_text_items.specs.declared.item.Item.{Item}
use Rattle.bc_machine_defs.specs.declared.state.End.TheVariants.{BudgetSpent}
use Rattle.bc_machine_defs.specs.State as machines
use Rattle.bc_machine_defs.specs.Run.{runs}
use Rattle.bc_core.specs.Tree.{Exp, Frame, Assign}
use Rattle.bc_core.specs.Level.{side_level}
use Rattle.bc_core.specs.Layout.{Bodies, cells_of_exp, cells_of_assignment}
use Rattle.bc_core.specs.Store.{Cell, cell_at}
use Rattle.bc_core.specs.Outcome.{State, Outcome, Done, Ended, Going, Wild}
use Rattle.bc_core.specs.Loop.{agrees}
use Rattle.bc_core.specs.Same.{end_of}
use Rattle.bc_core.specs.Value.{Context, value, truth, assign}
use Rattle.bc_rules_defs.specs.declared.rule.Table.{Table}
use Rattle.bc_rules_defs.specs.declared.rule.Mode.{Mode}
use Rattle.bc_rules_defs.specs.declared.rule.Mode.TheVariants.{Any, Push}
use Rattle.bc_rules_defs.specs.declared.rule.Aim.TheVariants.{Gets, Jumps}
use Rattle.bc_rules_defs.specs.declared.piece.Piece.{Piece}
use Rattle.bc_rules_defs.specs.Rules.{Derives, RootDerives}
use Rattle.bc_rules_defs.specs.Code.{code, root_code}
use Rattle.bc_gen_defs.specs.Bodies.{BodiesCode, fill}
use Rattle.bc_right.specs.steps.Leads.{machine, StopsAt, AreWords}
use Rattle.bc_right.specs.steps.Agreement.{Holds}
use Rattle.bc_right.specs.steps.Landing.{Moment, moment, Later, Stands}
use Rattle.bc_right.specs.steps.Items.{hold_item}
use Rattle.bc_right.specs.steps.Premises.{Levelled, CallLands, ValofsLand}

-- a machine with its registers A, B, C, P and its store, and the state of the source at that moment
pub record Start : Type 0 where
  pub a : ℕ
  pub b : ℕ
  pub c : ℕ
  pub p : ℕ
  pub store : List ℕ
  pub source : State

abbrev pub machine_of : Start → machines.State
machine_of x = machine x.a x.b x.c x.p x.store x.source.streams

-- Its store agrees with the source's cells, of which none is live from the top on; it holds words; and the code that was in the store
-- at the moment S is still there.
pub record IsReady (S : Moment) (top : ℕ) (x : Start) : Type 0 where
  pub holds : Holds top x.source.cells x.store
  pub are_words : AreWords (machine_of x)
  pub since : Later S (moment top x.source.cells x.store)

-- Below the top, a word of the store is unchanged if the source's cell there is.
abbrev pub NothingElseChanges : (top : ℕ) → (cells : List Cell) (store : List ℕ) (cells1 : List Cell) (store1 : List ℕ) → Type 0
NothingElseChanges top cells store cells1 store1 = (i : ℕ) → i < top → cell_at cells1 i ≡ cell_at cells i → slice_index store1 i ≡ slice_index store i

-- a condition on A, B and C, given a value
abbrev pub Registers : Type 0 → Type 1
Registers A = A → (a b c : ℕ) → Type 0

-- After this many instructions, at least one for each turn that the source took, the machine is still running in the same frame. A, B and
-- C fulfil the condition, the streams are the source's, the store agrees with the source's cells, and nothing else changed.
pub record Comes {A : Type 0} (top : ℕ) (x : Start) (wanted : Registers A) (v : A) (now : State) : Type 0 where
  pub instructions : ℕ
  pub a : ℕ
  pub b : ℕ
  pub c : ℕ
  pub store : List ℕ
  pub comes : runs instructions (machine_of x) ≡ (machine a b c x.p store now.streams, BudgetSpent)
  pub turns : x.source.turns ≤ instructions + now.turns
  pub registers : wanted v a b c
  pub holds : Holds top now.cells store
  pub others : NothingElseChanges top x.source.cells x.store now.cells store

-- The machine does the same as the source: it comes to the same state, or it ends in the same way, or both are still running, with at
-- least one instruction for each turn. If the source is wild, nothing is claimed.
abbrev pub DoesTheSame : {A : Type 0} → (top : ℕ) → Start → Registers A → Outcome A → Type 0
DoesTheSame top x wanted (Done v now) = Comes top x wanted v now
DoesTheSame top x wanted (Ended e streams) = (n : ℕ) × StopsAt (machine_of x) n (end_of e) streams
DoesTheSame top x wanted (Going streams) = (n : ℕ) × (x.source.turns ≤ n) × StopsAt (machine_of x) n BudgetSpent streams
DoesTheSame top x wanted Wild = Unit {0}

-- in mode Push, B holds what A held before
abbrev pub Kept : Mode → (was b : ℕ) → Type 0
Kept Any was b = Unit {0}
Kept Push was b = b ≡ was

-- the value is in A after the code; a test has jumped if its truth is the sense; an assignment has ended
abbrev pub has_value : Mode → (was end : ℕ) → Registers ℕ
has_value m was end v a b c = (a ≡ v) × (c ≡ end) × Kept m was b

abbrev pub has_jumped : (sense : Bool) → (target end : ℕ) → Registers Bool
has_jumped sense target end v a b c = c ≡ cond (agrees sense v) target end

abbrev pub is_after : ℕ → Registers (Unit {0})
is_after end v a b c = c ≡ end

-- Labels have the addresses of the source's places, and calls and the bodies of VALOFs do what they mean.
pub record Surrounds (address levels : ℕ → ℕ) (S : Moment) (most : ℕ) (C : Context) (V : Bodies) (bodies : BodiesCode Item) : Type 0 where
  pub places : (l : ℕ) → address l ≡ C.place l
  pub calls : (v : ℕ) → CallLands S most v (C.call v)
  pub valofs : ValofsLand address levels S most V bodies C.valof

-- The pieces, with these bodies filled in, have been in the store since the moment S, from the machine's C to `end`.
abbrev pub CodeStands : (address levels : ℕ → ℕ) → Moment → BodiesCode Item → List Piece → (g : ℕ) → Start → (end : ℕ) → Type 0
CodeStands address levels S bodies ps g x end = Stands address S x.c (fill (λ i. i) levels bodies ps g).0 end

-- One derivation of any expression by either table, at any level and with any labels. If its code is in the store and the frame has
-- room, the machine loads the expression's value into A, and in mode Push B then holds what A held before; or it jumps if the
-- expression's truth is the sense. One derivation of an assignment: the machine does what the assignment means. The limit of a FOR
-- has no live cell; its code is that of the value, and a store of A at the limit's offset.
pub record EachIsRight (address levels : ℕ → ℕ) (S : Moment) (most : ℕ) (C : Context) (V : Bodies) (bodies : BodiesCode Item) : Type 0 where
  pub values : {T : Table} {e : Exp} {m : Mode} (d : Derives T e (Gets m)) (s t f g end : ℕ) (x : Start)
      → Levelled levels e s → CodeStands address levels S bodies (code d s t f) g x end → x.p + cells_of_exp V e s ≤ 65536
      → x.source.turns < most → IsReady S (x.p + s) x
      → DoesTheSame (x.p + s) x (has_value m x.a end) (value C e x.p s x.source)
  pub tests : {T : Table} {e : Exp} {sense : Bool} (d : Derives T e (Jumps sense)) (s t f g end : ℕ) (x : Start)
      → Levelled levels e s → CodeStands address levels S bodies (code d s t f) g x end → x.p + cells_of_exp V e s ≤ 65536
      → x.source.turns < most → IsReady S (x.p + s) x
      → DoesTheSame (x.p + s) x (has_jumped sense (address t) end) (truth C e x.p s x.source)
  pub assignments : {T : Table} {s : ℕ} {v to : Exp} (d : RootDerives T (Assign s v to)) (t f g end : ℕ) (x : Start)
      → Levelled levels v (side_level to s) → Levelled levels to (side_level to s)
      → CodeStands address levels S bodies (root_code d t f) g x end → x.p + cells_of_assignment V v to s ≤ 65536
      → x.source.turns < most → IsReady S (x.p + s) x
      → DoesTheSame (x.p + s) x (is_after end) (assign C v to x.p s x.source)
  pub limits : {T : Table} (s : ℕ) {e : Exp} (d : RootDerives T (Assign (s + 2) e (Frame (s + 1)))) (t f g end : ℕ) (x : Start)
      → Levelled levels e (s + 2) → CodeStands address levels S bodies (root_code d t f) g x end → x.p + cells_of_exp V e (s + 2) ≤ 65536
      → x.source.turns < most → IsReady S (x.p + (s + 2)) x
      → (middle : ℕ) × Stands address S middle (hold_item (s + 1) ∷ []) end
      × DoesTheSame (x.p + (s + 2)) x (has_value Any x.a middle) (value C e x.p (s + 2) x.source)

-- Each derivation is right, if labels have the addresses of places, and calls and the bodies of VALOFs are right.
abbrev pub EachDerivationIsRight : Type 0
EachDerivationIsRight =
    (address levels : ℕ → ℕ) (S : Moment) (most : ℕ) (C : Context) (V : Bodies) (bodies : BodiesCode Item)
    → Surrounds address levels S most C V bodies → EachIsRight address levels S most C V bodies
