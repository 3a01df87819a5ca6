-- A fact that holds of items and of the code of roots, and that concatenation keeps, holds of the code of all commands.
use Rattle.std.proofs.Common.{ℕ, ◌+◌, true, false, not, List, [], ◌∷◌, ◌++◌}
use Rattle.bc_text_items.specs.declared.item.Item.{Item}
use Rattle.bc_core.specs.Tree.{Frame, Root, Value, Test, Assign}
use Rattle.bc_core.specs.Commands.{Variable, Initial, Vector, Command, Block, block, Items, no_item, command, case, default, label, Body, Gives, Does, Place}
use Rattle.bc_core.specs.Commands as commands
use Rattle.bc_core.specs.Level.{cells_of, cells_of_all, cells_declared, level_in_for, level_after_parameters}
use Rattle.bc_core.specs.Command.{step_of_for}
use Rattle.bc_gen_defs.specs.Emit.{Roots, Exits, labelled, labels_in, entries_in, table_of, emit_variable, emit_variables, emit_declarations, end_of_for, emit, emit_block, emit_items}
use Rattle.bc_gen_defs.specs.Bodies.{body_exits, emit_body}
use Rattle.bc_gen_defs.specs.Section.{emit_routines}
use Rattle.bc_gen_defs.specs.Entries.{Marked, Plain}

-- a fact of marked code that concatenation keeps
pub record Keeps (Q : List Marked → Type 0) : Type 0 where
  pub nothing : Q []
  pub item : (i : Item) → Q (Plain i ∷ [])
  pub following : (xs ys : List Marked) → Q xs → Q ys → Q (xs ++ ys)

abbrev pub OfRoots : (List Marked → Type 0) → Roots Marked → Type 0
OfRoots Q roots = (r : Root) (t f : ℕ) → Q (roots r t f).0

-- an item, and what follows it
one : (Q : List Marked → Type 0) → Keeps Q → (i : Item) (xs : List Marked) → Q xs → Q (Plain i ∷ xs)
one Q k i xs h = k.following (Plain i ∷ []) xs (k.item i) h

table_kept : (Q : List Marked → Type 0) → Keeps Q → (is : Items) (first : ℕ) → Q (table_of Plain is first)
table_kept Q k no_item first = k.nothing
table_kept Q k (command c is) first = table_kept Q k is first
table_kept Q k (case v is) first = one Q k _ _ (one Q k _ _ (table_kept Q k is (first + 1)))
table_kept Q k (default is) first = table_kept Q k is (first + 1)
table_kept Q k (label l is) first = table_kept Q k is first

variable_kept : (Q : List Marked → Type 0) (roots : Roots Marked) → OfRoots Q roots → (v : Variable) (k s f : ℕ) → Q (emit_variable roots v k s f).0
variable_kept Q roots r (Initial e) k s f = r (Assign s e (Frame k)) 0 f
variable_kept Q roots r (Vector n) k s f = r (Assign s (Frame (k + 1)) (Frame k)) 0 f

variables_kept : (Q : List Marked → Type 0) → Keeps Q → (roots : Roots Marked) → OfRoots Q roots → (vs : List Variable) (k s f : ℕ) → Q (emit_variables roots vs k s f).0
variables_kept Q q roots r [] k s f = q.nothing
variables_kept Q q roots r (v ∷ vs) k s f =
    let x = emit_variable roots v k s f in
    q.following _ _ (variable_kept Q roots r v k s f) (variables_kept Q q roots r vs (k + cells_of v) s x.1)

declarations_kept : (Q : List Marked → Type 0) → Keeps Q → (roots : Roots Marked) → OfRoots Q roots → (ds : List (List Variable)) (s f : ℕ) → Q (emit_declarations roots ds s f).0
declarations_kept Q q roots r [] s f = q.nothing
declarations_kept Q q roots r (vs ∷ ds) s f =
    let n = cells_of_all vs in
    let x = emit_variables roots vs s (s + n) f in
    q.following _ _ (variables_kept Q q roots r vs s (s + n) f) (declarations_kept Q q roots r ds (s + n) x.1)

mutual
  command_kept : (Q : List Marked → Type 0) → Keeps Q → (roots : Roots Marked) → OfRoots Q roots → (c : Command) (s : ℕ) (E : Exits) (f : ℕ) → Q (emit Plain roots c s E f).0
  command_kept Q q roots r (commands.Call e) s E f = r (Value s e) 0 f
  command_kept Q q roots r (commands.Assign v a) s E f = r (Assign s v a) 0 f
  command_kept Q q roots r (commands.If sense e b) s E f =
      let t = roots (Test s (not sense) e) f (f + 1) in
      q.following _ _ (r (Test s (not sense) e) f (f + 1)) (q.following _ _ (block_kept Q q roots r b s E t.1) (q.item _))
  command_kept Q q roots r (commands.Test e b c) s E f =
      let t = roots (Test s false e) f (f + 2) in
      let x = emit_block Plain roots b s E t.1 in
      q.following _ _ (r (Test s false e) f (f + 2)) (q.following _ _ (block_kept Q q roots r b s E t.1)
      (one Q q _ _ (one Q q _ _ (q.following _ _ (block_kept Q q roots r c s E x.1) (q.item _)))))
  command_kept Q q roots r (commands.While sense e b) s E f =
      let t = roots (Test s (not sense) e) (f + 1) (f + 2) in
      one Q q _ _ (q.following _ _ (r (Test s (not sense) e) (f + 1) (f + 2))
      (q.following _ _ (block_kept Q q roots r b s (record E { broken = f + 1; looped = f }) t.1) (one Q q _ _ (q.item _))))
  command_kept Q q roots r (commands.Repeat b) s E f =
      one Q q _ _ (q.following _ _ (block_kept Q q roots r b s (record E { broken = f + 1; looped = f }) (f + 2)) (one Q q _ _ (q.item _)))
  command_kept Q q roots r (commands.RepeatWhile b sense e) s E f =
      let x = emit_block Plain roots b s (record E { broken = f + 1; looped = f + 2 }) (f + 3) in
      one Q q _ _ (q.following _ _ (block_kept Q q roots r b s (record E { broken = f + 1; looped = f + 2 }) (f + 3))
      (one Q q _ _ (q.following _ _ (r (Test s sense e) f x.1) (q.item _))))
  command_kept Q q roots r (commands.For start limit by b) s E f =
      let s1 = level_in_for s in
      let i = roots (Assign s1 start (Frame s)) 0 (f + 3) in
      let n = roots (Assign s1 limit (Frame (s + 1))) 0 i.1 in
      let t = roots (Test s1 true (end_of_for by s)) (f + 1) n.1 in
      let x = emit_block Plain roots b s1 (record E { broken = f + 1; looped = f + 2 }) t.1 in
      q.following _ _ (r (Assign s1 start (Frame s)) 0 (f + 3)) (q.following _ _ (r (Assign s1 limit (Frame (s + 1))) 0 i.1)
      (one Q q _ _ (q.following _ _ (r (Test s1 true (end_of_for by s)) (f + 1) n.1)
      (q.following _ _ (block_kept Q q roots r b s1 (record E { broken = f + 1; looped = f + 2 }) t.1)
      (one Q q _ _ (q.following _ _ (r (Assign s1 (step_of_for by s) (Frame s)) 0 x.1) (one Q q _ _ (q.item _))))))))
  command_kept Q q roots r (commands.SwitchOn e is) s E f =
      let v = roots (Value s e) 0 (f + 1 + entries_in is) in
      let E1 = record E { cases = f; labels = labelled is v.1 E.labels } in
      q.following _ _ (r (Value s e) 0 (f + 1 + entries_in is)) (one Q q _ _ (one Q q _ _ (one Q q _ _ (q.following _ _ (table_kept Q q is (f + 1))
      (q.following _ _ (items_kept Q q roots r is s E1 (f + 1) (v.1 + labels_in is)) (q.item _))))))
  command_kept Q q roots r commands.Break s E f = q.item _
  command_kept Q q roots r commands.Loop s E f = q.item _
  command_kept Q q roots r commands.EndCase s E f = q.item _
  command_kept Q q roots r commands.Return s E f = one Q q _ _ (q.item _)
  command_kept Q q roots r (commands.ResultIs e) s E f = q.following _ _ (r (Value s e) 0 f) (q.item _)
  command_kept Q q roots r commands.Finish s E f = q.item _
  command_kept Q q roots r (commands.Goto l) s E f = q.item _
  command_kept Q q roots r (commands.Nested b) s E f = block_kept Q q roots r b s E f

  pub block_kept : (Q : List Marked → Type 0) → Keeps Q → (roots : Roots Marked) → OfRoots Q roots → (b : Block) (s : ℕ) (E : Exits) (f : ℕ) → Q (emit_block Plain roots b s E f).0
  block_kept Q q roots r (block ds is) s E f =
      let d = emit_declarations roots ds s (f + labels_in is) in
      q.following _ _ (declarations_kept Q q roots r ds s (f + labels_in is))
      (items_kept Q q roots r is (s + cells_declared ds) (record E { labels = labelled is f E.labels }) 0 d.1)

  items_kept : (Q : List Marked → Type 0) → Keeps Q → (roots : Roots Marked) → OfRoots Q roots → (is : Items) (s : ℕ) (E : Exits) (first f : ℕ) → Q (emit_items Plain roots is s E first f).0
  items_kept Q q roots r no_item s E first f = q.nothing
  items_kept Q q roots r (command c is) s E first f =
      let x = emit Plain roots c s E f in
      q.following _ _ (command_kept Q q roots r c s E f) (items_kept Q q roots r is s E first x.1)
  items_kept Q q roots r (case v is) s E first f = one Q q _ _ (items_kept Q q roots r is s E (first + 1) f)
  items_kept Q q roots r (default is) s E first f = one Q q _ _ (items_kept Q q roots r is s E (first + 1) f)
  items_kept Q q roots r (label l is) s E first f = one Q q _ _ (items_kept Q q roots r is s E first f)

body_kept : (Q : List Marked → Type 0) → Keeps Q → (roots : Roots Marked) → OfRoots Q roots → (b : Body) (s f : ℕ) → Q (emit_body Plain roots b s f).0
body_kept Q q roots r (Gives e) s f = q.following _ _ (r (Value s e) 0 f) (q.item _)
body_kept Q q roots r (Does b) s f = q.following _ _ (block_kept Q q roots r b s (body_exits 0) f) (one Q q _ _ (q.item _))

pub routines_kept : (Q : List Marked → Type 0) → Keeps Q → (roots : Roots Marked) → OfRoots Q roots → (j : ℕ) (ps : List Place) (f : ℕ) → Q (emit_routines Plain roots j ps f).0
routines_kept Q q roots r j [] f = q.nothing
routines_kept Q q roots r j (commands.Code p ∷ ps) f =
    let x = emit_body Plain roots p.body (level_after_parameters p.parameters) f in
    one Q q _ _ (q.following _ _ (body_kept Q q roots r p.body (level_after_parameters p.parameters) f) (routines_kept Q q roots r (j + 1) ps x.1))
routines_kept Q q roots r j (commands.Static w ∷ ps) f = routines_kept Q q roots r (j + 1) ps f
routines_kept Q q roots r j (commands.Table ws ∷ ps) f = routines_kept Q q roots r (j + 1) ps f
routines_kept Q q roots r j (commands.Text bytes ∷ ps) f = routines_kept Q q roots r (j + 1) ps f
