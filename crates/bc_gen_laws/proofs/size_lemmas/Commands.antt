-- The words of commands, from those of their roots.
use Rattle.std.proofs.Common.{ℕ, ◌+◌, ◌*◌, true, false, not, List, [], ◌∷◌, arith}
use Rattle.bc_text_items.specs.declared.item.Item.{Item}
use Rattle.bc_text_items.specs.declared.item.Base.TheVariants as bases
use Rattle.bc_text_items.specs.declared.item.Function.TheVariants as functions
use Rattle.bc_core.specs.Tree.{Frame, Root, Value, Test, Assign}
use Rattle.bc_core.specs.Commands.{Variable, Initial, Vector, Command, Block, block, Items, no_item, command, case, default, label}
use Rattle.bc_core.specs.Commands as commands
use Rattle.bc_core.specs.Level.{cells_of, cells_of_all, cells_declared, level_in_for}
use Rattle.bc_core.specs.Command.{step_of_for}
use Rattle.bc_gen_defs.specs.Emit.{Roots, Exits, labelled, labels_in, defaulted, entries_in, cases_in, table_of, emit_variable, emit_variables, emit_declarations, end_of_for, emit, emit_block, emit_items, jump}
use Rattle.bc_gen_defs.specs.Size.{Words, words_of_variable, words_of_variables, words_of_declarations, words_of_command, words_of_block, words_of_items}
use Rattle.bc_gen_laws.proofs.size_lemmas.Takes.{Takes, takes_none, takes_both, takes_as, takes_operation, takes_label, takes_data, takes_address}

-- each root takes these words
pub record RootsTake (words : Words) (roots : Roots Item) : Type 0 where
  pub each : (r : Root) (t f : ℕ) → Takes (roots r t f).0 (words r)

abbrev plain : Item → Item
plain i = i

pub takes_jump : (l : ℕ) {is : List Item} {n : ℕ} → Takes is n → Takes (jump l ∷ is) (2 + n)
takes_jump l h = takes_operation functions.Jump false bases.Label l h

table_takes : (is : Items) (first : ℕ) → Takes (table_of plain is first) (2 * cases_in is)
table_takes no_item first = takes_none
table_takes (command c is) first = table_takes is first
table_takes (case k is) first = takes_as (takes_data k (takes_address first (table_takes is (first + 1)))) (omega arith)
table_takes (default is) first = table_takes is (first + 1)
table_takes (label k is) first = table_takes is first

variable_takes : (words : Words) (roots : Roots Item) → RootsTake words roots → (v : Variable) (k s f : ℕ) → Takes (emit_variable roots v k s f).0 (words_of_variable words v k s)
variable_takes words roots r (Initial e) k s f = r.each (Assign s e (Frame k)) 0 f
variable_takes words roots r (Vector n) k s f = r.each (Assign s (Frame (k + 1)) (Frame k)) 0 f

variables_take : (words : Words) (roots : Roots Item) → RootsTake words roots → (vs : List Variable) (k s f : ℕ) → Takes (emit_variables roots vs k s f).0 (words_of_variables words vs k s)
variables_take words roots r [] k s f = takes_none
variables_take words roots r (v ∷ vs) k s f =
    let x = emit_variable roots v k s f in
    takes_both (variable_takes words roots r v k s f) (variables_take words roots r vs (k + cells_of v) s x.1)

declarations_take : (words : Words) (roots : Roots Item) → RootsTake words roots → (ds : List (List Variable)) (s f : ℕ) → Takes (emit_declarations roots ds s f).0 (words_of_declarations words ds s)
declarations_take words roots r [] s f = takes_none
declarations_take words roots r (vs ∷ ds) s f =
    let n = cells_of_all vs in
    let x = emit_variables roots vs s (s + n) f in
    takes_both (variables_take words roots r vs s (s + n) f) (declarations_take words roots r ds (s + n) x.1)

mutual
  command_takes : (words : Words) (roots : Roots Item) → RootsTake words roots → (c : Command) (s : ℕ) (E : Exits) (f : ℕ) → Takes (emit plain roots c s E f).0 (words_of_command words c s)
  command_takes words roots r (commands.Call e) s E f = r.each (Value s e) 0 f
  command_takes words roots r (commands.Assign v a) s E f = r.each (Assign s v a) 0 f
  command_takes words roots r (commands.If sense e b) s E f =
      let t = roots (Test s (not sense) e) f (f + 1) in
      takes_as (takes_both (r.each (Test s (not sense) e) f (f + 1)) (takes_both (block_takes words roots r b s E t.1) (takes_label f takes_none))) (omega arith)
  command_takes words roots r (commands.Test e b c) s E f =
      let t = roots (Test s false e) f (f + 2) in
      let x = emit_block plain roots b s E t.1 in
      takes_as (takes_both (r.each (Test s false e) f (f + 2)) (takes_both (block_takes words roots r b s E t.1)
      (takes_jump (f + 1) (takes_label f (takes_both (block_takes words roots r c s E x.1) (takes_label (f + 1) takes_none)))))) (omega arith)
  command_takes words roots r (commands.While sense e b) s E f =
      let t = roots (Test s (not sense) e) (f + 1) (f + 2) in
      takes_as (takes_label f (takes_both (r.each (Test s (not sense) e) (f + 1) (f + 2))
      (takes_both (block_takes words roots r b s (record E { broken = f + 1; looped = f }) t.1) (takes_jump f (takes_label (f + 1) takes_none))))) (omega arith)
  command_takes words roots r (commands.Repeat b) s E f =
      takes_as (takes_label f (takes_both (block_takes words roots r b s (record E { broken = f + 1; looped = f }) (f + 2)) (takes_jump f (takes_label (f + 1) takes_none)))) (omega arith)
  command_takes words roots r (commands.RepeatWhile b sense e) s E f =
      let x = emit_block plain roots b s (record E { broken = f + 1; looped = f + 2 }) (f + 3) in
      takes_as (takes_label f (takes_both (block_takes words roots r b s (record E { broken = f + 1; looped = f + 2 }) (f + 3))
      (takes_label (f + 2) (takes_both (r.each (Test s sense e) f x.1) (takes_label (f + 1) takes_none))))) (omega arith)
  command_takes words roots r (commands.For start limit by b) s E f =
      let s1 = level_in_for s in
      let i = roots (Assign s1 start (Frame s)) 0 (f + 3) in
      let n = roots (Assign s1 limit (Frame (s + 1))) 0 i.1 in
      let t = roots (Test s1 true (end_of_for by s)) (f + 1) n.1 in
      let x = emit_block plain roots b s1 (record E { broken = f + 1; looped = f + 2 }) t.1 in
      takes_as (takes_both (r.each (Assign s1 start (Frame s)) 0 (f + 3)) (takes_both (r.each (Assign s1 limit (Frame (s + 1))) 0 i.1)
      (takes_label f (takes_both (r.each (Test s1 true (end_of_for by s)) (f + 1) n.1)
      (takes_both (block_takes words roots r b s1 (record E { broken = f + 1; looped = f + 2 }) t.1)
      (takes_label (f + 2) (takes_both (r.each (Assign s1 (step_of_for by s) (Frame s)) 0 x.1) (takes_jump f (takes_label (f + 1) takes_none))))))))) (omega arith)
  command_takes words roots r (commands.SwitchOn e is) s E f =
      let v = roots (Value s e) 0 (f + 1 + entries_in is) in
      let E1 = record E { cases = f; labels = labelled is v.1 E.labels } in
      takes_as (takes_both (r.each (Value s e) 0 (f + 1 + entries_in is)) (takes_operation functions.Execute false bases.Number 23 (takes_data (cases_in is) (takes_address (defaulted is (f + 1) f)
      (takes_both (table_takes is (f + 1)) (takes_both (items_take words roots r is s E1 (f + 1) (v.1 + labels_in is)) (takes_label f takes_none))))))) (omega arith)
  command_takes words roots r commands.Break s E f = takes_jump E.broken takes_none
  command_takes words roots r commands.Loop s E f = takes_jump E.looped takes_none
  command_takes words roots r commands.EndCase s E f = takes_jump E.cases takes_none
  command_takes words roots r commands.Return s E f = takes_operation functions.Load false bases.Number 0 (takes_operation functions.Execute false bases.Number 4 takes_none)
  command_takes words roots r (commands.ResultIs e) s E f = takes_as (takes_both (r.each (Value s e) 0 f) (takes_jump E.result takes_none)) (omega arith)
  command_takes words roots r commands.Finish s E f = takes_operation functions.Execute false bases.Number 22 takes_none
  command_takes words roots r (commands.Goto l) s E f = takes_jump (E.labels l) takes_none
  command_takes words roots r (commands.Nested b) s E f = block_takes words roots r b s E f

  pub block_takes : (words : Words) (roots : Roots Item) → RootsTake words roots → (b : Block) (s : ℕ) (E : Exits) (f : ℕ) → Takes (emit_block plain roots b s E f).0 (words_of_block words b s)
  block_takes words roots r (block ds is) s E f =
      let d = emit_declarations roots ds s (f + labels_in is) in
      takes_both (declarations_take words roots r ds s (f + labels_in is)) (items_take words roots r is (s + cells_declared ds) (record E { labels = labelled is f E.labels }) 0 d.1)

  items_take : (words : Words) (roots : Roots Item) → RootsTake words roots → (is : Items) (s : ℕ) (E : Exits) (first f : ℕ) → Takes (emit_items plain roots is s E first f).0 (words_of_items words is s)
  items_take words roots r no_item s E first f = takes_none
  items_take words roots r (command c is) s E first f =
      let x = emit plain roots c s E f in
      takes_both (command_takes words roots r c s E f) (items_take words roots r is s E first x.1)
  items_take words roots r (case k is) s E first f = takes_label first (items_take words roots r is s E (first + 1) f)
  items_take words roots r (default is) s E first f = takes_label first (items_take words roots r is s E (first + 1) f)
  items_take words roots r (label l is) s E first f = takes_label (E.labels l) (items_take words roots r is s E first f)
