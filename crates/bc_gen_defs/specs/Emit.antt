-- The code of commands, given the code of their roots: expressions, tests and assignments.
--
-- Code takes the next free label and returns the first free one after it. It is a list of any type X: of items, or of items with
-- marks between them (`Entries`). The function `of` turns an item into an X.
use Rattle.std.specs.Prelude.{ℕ, suc, ◌+◌, ◌==◌, true, false, not, cond, List, [], ◌∷◌, ◌++◌, nat_le}
use Rattle.bc_word.specs.declared.operator.Op.{Op}
use Rattle.bc_word.specs.declared.operator.Op.TheVariants as operators
use Rattle.bc_text_items.specs.declared.item.Item.{Item}
use Rattle.bc_text_items.specs.declared.item.Item.TheVariants.{Label, Data, DataLabel, Operation}
use Rattle.bc_text_items.specs.declared.item.Base.TheVariants as bases
use Rattle.bc_text_items.specs.declared.item.Function.TheVariants as functions
use Rattle.bc_core.specs.Tree.{Exp, Frame, Load, Bin, Root, Value, Test, Assign}
use Rattle.bc_core.specs.Commands.{Variable, Initial, Vector, Command, Block, block, Items, no_item, command, case, default, label}
use Rattle.bc_core.specs.Commands as commands
use Rattle.bc_core.specs.Level.{cells_of, cells_of_all, cells_declared, level_in_for}
use Rattle.bc_core.specs.Command.{step_of_for}

-- a piece of code, and the next free label after it
abbrev pub Code : Type 0 → Type 0
Code X = List X × ℕ

-- the code of a root, given its target and its first label
abbrev pub Roots : Type 0 → Type 0
Roots X = Root → (target first : ℕ) → Code X

-- The labels to which BREAK, LOOP, ENDCASE and RESULTIS jump, and those of the source's labels.
pub record Exits : Type 0 where
  pub broken : ℕ
  pub looped : ℕ
  pub cases : ℕ
  pub result : ℕ
  pub labels : ℕ → ℕ

-- `JLl`
abbrev pub jump : ℕ → Item
jump l = Operation functions.Jump false bases.Label l

-- `Xn`
abbrev pub execute : ℕ → Item
execute n = Operation functions.Execute false bases.Number n

-- `L0`
abbrev pub zero_item : Item
zero_item = Operation functions.Load false bases.Number 0

-- the code's label for the source's label l: the labels of the list are numbered from f on, in order; `outer` has all others
abbrev pub labelled : Items → ℕ → (ℕ → ℕ) → ℕ → ℕ
labelled no_item f outer l = outer l
labelled (command c is) f outer l = labelled is f outer l
labelled (case k is) f outer l = labelled is f outer l
labelled (default is) f outer l = labelled is f outer l
labelled (label k is) f outer l = cond (k == l) f (labelled is (f + 1) outer l)

-- the number of labels of a list
abbrev pub labels_in : Items → ℕ
labels_in no_item = 0
labels_in (command c is) = labels_in is
labels_in (case k is) = labels_in is
labels_in (default is) = labels_in is
labels_in (label k is) = labels_in is + 1

-- The label of the first DEFAULT of a SWITCHON, which takes a label for each CASE and DEFAULT in order, from f on.
abbrev pub defaulted : Items → ℕ → (without : ℕ) → ℕ
defaulted no_item f without = without
defaulted (command c is) f without = defaulted is f without
defaulted (case k is) f without = defaulted is (f + 1) without
defaulted (default is) f without = f
defaulted (label k is) f without = defaulted is f without

-- the number of CASEs in a list
abbrev pub cases_in : Items → ℕ
cases_in no_item = 0
cases_in (command c is) = cases_in is
cases_in (case k is) = suc (cases_in is)
cases_in (default is) = cases_in is
cases_in (label k is) = cases_in is

-- the number of CASEs and DEFAULTs in a list
abbrev pub entries_in : Items → ℕ
entries_in no_item = 0
entries_in (command c is) = entries_in is
entries_in (case k is) = entries_in is + 1
entries_in (default is) = entries_in is + 1
entries_in (label k is) = entries_in is

-- the value and the address of each CASE, where the first CASE or DEFAULT has label f
abbrev pub table_of : {X : Type 0} → (Item → X) → Items → (f : ℕ) → List X
table_of of no_item f = []
table_of of (command c is) f = table_of of is f
table_of of (case k is) f = of (Data k) ∷ of (DataLabel f) ∷ table_of of is (f + 1)
table_of of (default is) f = table_of of is (f + 1)
table_of of (label k is) f = table_of of is f

-- a variable whose cell is at offset k, at level s
abbrev pub emit_variable : {X : Type 0} → Roots X → Variable → (k s f : ℕ) → Code X
emit_variable roots (Initial e) k s f = roots (Assign s e (Frame k)) 0 f
emit_variable roots (Vector n) k s f = roots (Assign s (Frame (k + 1)) (Frame k)) 0 f

-- the variables of a declaration, whose cells begin at offset k
abbrev pub emit_variables : {X : Type 0} → Roots X → List Variable → (k s f : ℕ) → Code X
emit_variables roots [] k s f = ([], f)
emit_variables roots (v ∷ vs) k s f =
    let x = emit_variable roots v k s f in
    let y = emit_variables roots vs (k + cells_of v) s x.1 in
    (x.0 ++ y.0, y.1)

-- the declarations of a block, one after the other
abbrev pub emit_declarations : {X : Type 0} → Roots X → List (List Variable) → (s f : ℕ) → Code X
emit_declarations roots [] s f = ([], f)
emit_declarations roots (vs ∷ ds) s f =
    let n = cells_of_all vs in
    let x = emit_variables roots vs s (s + n) f in
    let y = emit_declarations roots ds (s + n) x.1 in
    (x.0 ++ y.0, y.1)

-- the test that ends a FOR: its variable is greater than its limit, or less if it counts down
abbrev pub end_operator : ℕ → Op
end_operator by = cond (nat_le 32768 by) operators.Less operators.Greater

-- the test of a FOR with the step `by`, whose variable is at offset s and its limit at the next offset
abbrev pub end_of_for : ℕ → ℕ → Exp
end_of_for by s = Bin (end_operator by) (Load (Frame s)) (Load (Frame (s + 1)))

-- The code of a command, where s is the next free offset of the frame and f the next free label. A command takes its own labels
-- before its parts take theirs.
abbrev mutual
  pub emit : {X : Type 0} → (Item → X) → Roots X → Command → (s : ℕ) → Exits → (f : ℕ) → Code X
  emit of roots (commands.Call e) s E f = roots (Value s e) 0 f
  emit of roots (commands.Assign v a) s E f = roots (Assign s v a) 0 f
  emit of roots (commands.If sense e b) s E f =
      let t = roots (Test s (not sense) e) f (f + 1) in
      let x = emit_block of roots b s E t.1 in
      (t.0 ++ (x.0 ++ of (Label f) ∷ []), x.1)
  emit of roots (commands.Test e b c) s E f =
      let t = roots (Test s false e) f (f + 2) in
      let x = emit_block of roots b s E t.1 in
      let y = emit_block of roots c s E x.1 in
      (t.0 ++ (x.0 ++ (of (jump (f + 1)) ∷ of (Label f) ∷ (y.0 ++ of (Label (f + 1)) ∷ []))), y.1)
  emit of roots (commands.While sense e b) s E f =
      let t = roots (Test s (not sense) e) (f + 1) (f + 2) in
      let x = emit_block of roots b s (record E { broken = f + 1; looped = f }) t.1 in
      (of (Label f) ∷ (t.0 ++ (x.0 ++ of (jump f) ∷ of (Label (f + 1)) ∷ [])), x.1)
  emit of roots (commands.Repeat b) s E f =
      let x = emit_block of roots b s (record E { broken = f + 1; looped = f }) (f + 2) in
      (of (Label f) ∷ (x.0 ++ of (jump f) ∷ of (Label (f + 1)) ∷ []), x.1)
  emit of roots (commands.RepeatWhile b sense e) s E f =
      let x = emit_block of roots b s (record E { broken = f + 1; looped = f + 2 }) (f + 3) in
      let t = roots (Test s sense e) f x.1 in
      (of (Label f) ∷ (x.0 ++ of (Label (f + 2)) ∷ (t.0 ++ of (Label (f + 1)) ∷ [])), t.1)
  emit of roots (commands.For start limit by b) s E f =
      let s1 = level_in_for s in
      let i = roots (Assign s1 start (Frame s)) 0 (f + 3) in
      let n = roots (Assign s1 limit (Frame (s + 1))) 0 i.1 in
      let t = roots (Test s1 true (end_of_for by s)) (f + 1) n.1 in
      let x = emit_block of roots b s1 (record E { broken = f + 1; looped = f + 2 }) t.1 in
      let u = roots (Assign s1 (step_of_for by s) (Frame s)) 0 x.1 in
      (i.0 ++ (n.0 ++ of (Label f) ∷ (t.0 ++ (x.0 ++ of (Label (f + 2)) ∷ (u.0 ++ of (jump f) ∷ of (Label (f + 1)) ∷ [])))), u.1)
  emit of roots (commands.SwitchOn e is) s E f =
      let v = roots (Value s e) 0 (f + 1 + entries_in is) in
      let E1 = record E { cases = f; labels = labelled is v.1 E.labels } in
      let x = emit_items of roots is s E1 (f + 1) (v.1 + labels_in is) in
      let at_default = of (DataLabel (defaulted is (f + 1) f)) in
      (v.0 ++ (of (execute 23) ∷ of (Data (cases_in is)) ∷ at_default ∷ (table_of of is (f + 1) ++ (x.0 ++ of (Label f) ∷ []))), x.1)
  emit of roots commands.Break s E f = (of (jump E.broken) ∷ [], f)
  emit of roots commands.Loop s E f = (of (jump E.looped) ∷ [], f)
  emit of roots commands.EndCase s E f = (of (jump E.cases) ∷ [], f)
  emit of roots commands.Return s E f = (of zero_item ∷ of (execute 4) ∷ [], f)
  emit of roots (commands.ResultIs e) s E f = let v = roots (Value s e) 0 f in (v.0 ++ of (jump E.result) ∷ [], v.1)
  emit of roots commands.Finish s E f = (of (execute 22) ∷ [], f)
  emit of roots (commands.Goto l) s E f = (of (jump (E.labels l)) ∷ [], f)
  emit of roots (commands.Nested b) s E f = emit_block of roots b s E f

  -- a block; its list takes its labels before its declarations do
  pub emit_block : {X : Type 0} → (Item → X) → Roots X → Block → (s : ℕ) → Exits → (f : ℕ) → Code X
  emit_block of roots (block ds is) s E f =
      let d = emit_declarations roots ds s (f + labels_in is) in
      let x = emit_items of roots is (s + cells_declared ds) (record E { labels = labelled is f E.labels }) 0 d.1 in
      (d.0 ++ x.0, x.1)

  -- the items of a list whose first CASE or DEFAULT has the label `first`; the list of a block has neither
  pub emit_items : {X : Type 0} → (Item → X) → Roots X → Items → (s : ℕ) → Exits → (first f : ℕ) → Code X
  emit_items of roots no_item s E first f = ([], f)
  emit_items of roots (command c is) s E first f =
      let x = emit of roots c s E f in
      let y = emit_items of roots is s E first x.1 in
      (x.0 ++ y.0, y.1)
  emit_items of roots (case k is) s E first f = let x = emit_items of roots is s E (first + 1) f in (of (Label first) ∷ x.0, x.1)
  emit_items of roots (default is) s E first f = let x = emit_items of roots is s E (first + 1) f in (of (Label first) ∷ x.0, x.1)
  emit_items of roots (label l is) s E first f = let x = emit_items of roots is s E first f in (of (Label (E.labels l)) ∷ x.0, x.1)
