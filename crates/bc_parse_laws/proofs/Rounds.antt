-- How many parentheses are open at once in the canonical spelling of a tree.
use Rattle.std.proofs.Common.{ℕ, ◌+◌, max}
use Rattle.bc_parse_tree.specs.Tree.{Exp, Exps, none, more, Block, block, Declaration, Declarations, no_declarations, declaration, Entries, no_entries, entry, Definition, Definitions, no_definitions, definition, Item, Labelled, Labels_alone, Items, no_items, item, Label, Labels, no_labels, label, Command}
use Rattle.bc_parse_tree.specs.Tree as tree

-- one more if it is a part of another one
abbrev pub part_rounds : Exp → ℕ → ℕ
part_rounds (tree.Name s) k = 0
part_rounds (tree.Num n) k = 0
part_rounds (tree.Character n) k = 0
part_rounds (tree.Text s) k = 0
part_rounds tree.True k = 0
part_rounds tree.False k = 0
part_rounds _ k = k + 1

abbrev pub routine_rounds : Exp → ℕ → ℕ
routine_rounds (tree.Name s) k = 0
routine_rounds _ k = k + 1

abbrev mutual
  pub exp_rounds : Exp → ℕ
  exp_rounds (tree.Name s) = 0
  exp_rounds (tree.Num n) = 0
  exp_rounds (tree.Character n) = 0
  exp_rounds (tree.Text s) = 0
  exp_rounds tree.True = 0
  exp_rounds tree.False = 0
  exp_rounds (tree.Table ks) = exps_rounds ks
  exp_rounds (tree.Valof b) = block_rounds b
  exp_rounds (tree.Unary m e) = part_rounds e (exp_rounds e)
  exp_rounds (tree.Bin o l r) = max (part_rounds l (exp_rounds l)) (part_rounds r (exp_rounds r))
  exp_rounds (tree.Cond c x y) = max (max (part_rounds c (exp_rounds c)) (part_rounds x (exp_rounds x))) (part_rounds y (exp_rounds y))
  exp_rounds (tree.Call f es) = max (routine_rounds f (exp_rounds f)) (exps_rounds es + 1)

  pub exps_rounds : Exps → ℕ
  exps_rounds none = 0
  exps_rounds (more e es) = max (part_rounds e (exp_rounds e)) (exps_rounds es)

  pub block_rounds : Block → ℕ
  block_rounds (block ds is) = max (declarations_rounds ds) (items_rounds is)

  pub declaration_rounds : Declaration → ℕ
  declaration_rounds (tree.Constants s es) = entries_rounds es
  declaration_rounds (tree.Let ds) = definitions_rounds ds

  pub declarations_rounds : Declarations → ℕ
  declarations_rounds no_declarations = 0
  declarations_rounds (declaration d ds) = max (declaration_rounds d) (declarations_rounds ds)

  pub entries_rounds : Entries → ℕ
  entries_rounds no_entries = 0
  entries_rounds (entry n k es) = max (part_rounds k (exp_rounds k)) (entries_rounds es)

  pub definition_rounds : Definition → ℕ
  definition_rounds (tree.Variables ns es) = exps_rounds es
  definition_rounds (tree.Vector n k) = part_rounds k (exp_rounds k)
  definition_rounds (tree.Function n ps e) = max 1 (exp_rounds e)
  definition_rounds (tree.Routine n ps b) = max 1 (block_rounds b)

  pub definitions_rounds : Definitions → ℕ
  definitions_rounds no_definitions = 0
  definitions_rounds (definition d ds) = max (definition_rounds d) (definitions_rounds ds)

  pub item_rounds : Item → ℕ
  item_rounds (Labelled ls c) = max (labels_rounds ls) (command_rounds c)
  item_rounds (Labels_alone ls) = labels_rounds ls

  pub items_rounds : Items → ℕ
  items_rounds no_items = 0
  items_rounds (item i is) = max (item_rounds i) (items_rounds is)

  pub label_rounds : Label → ℕ
  label_rounds (tree.Case k) = part_rounds k (exp_rounds k)
  label_rounds tree.Default = 0
  label_rounds (tree.Named n) = 0

  pub labels_rounds : Labels → ℕ
  labels_rounds no_labels = 0
  labels_rounds (label l ls) = max (label_rounds l) (labels_rounds ls)

  pub command_rounds : Command → ℕ
  command_rounds (tree.Assign xs es) = max (exps_rounds xs) (exps_rounds es)
  command_rounds (tree.Do f es) = max (routine_rounds f (exp_rounds f)) (exps_rounds es + 1)
  command_rounds (tree.Compound b) = block_rounds b
  command_rounds tree.Break = 0
  command_rounds tree.Loop = 0
  command_rounds tree.EndCase = 0
  command_rounds tree.Return = 0
  command_rounds tree.Finish = 0
  command_rounds (tree.ResultIs e) = exp_rounds e
  command_rounds (tree.Goto n) = 0
  command_rounds (tree.Repeat c) = command_rounds c
  command_rounds (tree.RepeatWhile c e) = max (command_rounds c) (exp_rounds e)
  command_rounds (tree.RepeatUntil c e) = max (command_rounds c) (exp_rounds e)
  command_rounds (tree.If e b) = max (exp_rounds e) (block_rounds b)
  command_rounds (tree.Unless e b) = max (exp_rounds e) (block_rounds b)
  command_rounds (tree.While e b) = max (exp_rounds e) (block_rounds b)
  command_rounds (tree.Until e b) = max (exp_rounds e) (block_rounds b)
  command_rounds (tree.Test e b d) = max (max (exp_rounds e) (block_rounds b)) (block_rounds d)
  command_rounds (tree.For n a z b) = max (max (exp_rounds a) (exp_rounds z)) (block_rounds b)
  command_rounds (tree.ForBy n a z k b) = max (max (max (exp_rounds a) (exp_rounds z)) (part_rounds k (exp_rounds k))) (block_rounds b)
  command_rounds (tree.SwitchOn e is) = max (exp_rounds e) (items_rounds is)
