-- How deep a tree nests: definitions, commands and expressions within one another. A body's block, labels, LET and
-- the entries of MANIFEST, STATIC and GLOBAL add nothing. A call that is a command counts twice, as a command and as
-- an expression.
use Rattle.std.specs.Prelude.{ℕ, ◌+◌, max}
use Rattle.bc_parse_tree.specs.Tree.{Exp, Exps, none, more, Block, block, Declaration, Declarations, no_declarations, declaration, Entries, no_entries, entry, Definition, Definitions, no_definitions, definition, Item, Labelled, Labels_alone, Items, no_items, item, Label, Labels, no_labels, label, Command}
use Rattle.bc_parse_tree.specs.Tree as tree

abbrev mutual
  pub exp_height : Exp → ℕ
  exp_height (tree.Name s) = 1
  exp_height (tree.Num n) = 1
  exp_height (tree.Character n) = 1
  exp_height (tree.Text s) = 1
  exp_height tree.True = 1
  exp_height tree.False = 1
  exp_height (tree.Table ks) = exps_height ks + 1
  exp_height (tree.Valof b) = block_height b + 1
  exp_height (tree.Unary m e) = exp_height e + 1
  exp_height (tree.Bin o l r) = max (exp_height l) (exp_height r) + 1
  exp_height (tree.Cond c x y) = max (max (exp_height c) (exp_height x)) (exp_height y) + 1
  exp_height (tree.Call f es) = max (exp_height f) (exps_height es) + 1

  pub exps_height : Exps → ℕ
  exps_height none = 0
  exps_height (more e es) = max (exp_height e) (exps_height es)

  pub block_height : Block → ℕ
  block_height (block ds is) = max (declarations_height ds) (items_height is)

  pub declaration_height : Declaration → ℕ
  declaration_height (tree.Constants s es) = entries_height es
  declaration_height (tree.Let ds) = definitions_height ds

  pub declarations_height : Declarations → ℕ
  declarations_height no_declarations = 0
  declarations_height (declaration d ds) = max (declaration_height d) (declarations_height ds)

  pub entries_height : Entries → ℕ
  entries_height no_entries = 0
  entries_height (entry n k es) = max (exp_height k) (entries_height es)

  pub definition_height : Definition → ℕ
  definition_height (tree.Variables ns es) = exps_height es + 1
  definition_height (tree.Vector n k) = exp_height k + 1
  definition_height (tree.Function n ps e) = exp_height e + 1
  definition_height (tree.Routine n ps b) = block_height b + 1

  pub definitions_height : Definitions → ℕ
  definitions_height no_definitions = 0
  definitions_height (definition d ds) = max (definition_height d) (definitions_height ds)

  pub item_height : Item → ℕ
  item_height (Labelled ls c) = max (labels_height ls) (command_height c)
  item_height (Labels_alone ls) = labels_height ls

  pub items_height : Items → ℕ
  items_height no_items = 0
  items_height (item i is) = max (item_height i) (items_height is)

  pub label_height : Label → ℕ
  label_height (tree.Case k) = exp_height k
  label_height tree.Default = 0
  label_height (tree.Named n) = 0

  pub labels_height : Labels → ℕ
  labels_height no_labels = 0
  labels_height (label l ls) = max (label_height l) (labels_height ls)

  pub command_height : Command → ℕ
  command_height (tree.Assign xs es) = max (exps_height xs) (exps_height es) + 1
  command_height (tree.Do f es) = max (exp_height f) (exps_height es) + 1 + 1
  command_height (tree.Compound b) = block_height b + 1
  command_height tree.Break = 1
  command_height tree.Loop = 1
  command_height tree.EndCase = 1
  command_height tree.Return = 1
  command_height tree.Finish = 1
  command_height (tree.ResultIs e) = exp_height e + 1
  command_height (tree.Goto n) = 1
  command_height (tree.Repeat c) = command_height c + 1
  command_height (tree.RepeatWhile c e) = max (command_height c) (exp_height e) + 1
  command_height (tree.RepeatUntil c e) = max (command_height c) (exp_height e) + 1
  command_height (tree.If e b) = max (exp_height e) (block_height b) + 1
  command_height (tree.Unless e b) = max (exp_height e) (block_height b) + 1
  command_height (tree.While e b) = max (exp_height e) (block_height b) + 1
  command_height (tree.Until e b) = max (exp_height e) (block_height b) + 1
  command_height (tree.Test e b d) = max (max (exp_height e) (block_height b)) (block_height d) + 1
  command_height (tree.For n a z b) = max (max (exp_height a) (exp_height z)) (block_height b) + 1
  command_height (tree.ForBy n a z k b) = max (max (max (exp_height a) (exp_height z)) (exp_height k)) (block_height b) + 1
  command_height (tree.SwitchOn e is) = max (exp_height e) (items_height is) + 1
