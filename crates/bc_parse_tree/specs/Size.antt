-- How many definitions, commands and expressions a tree has, and how many parts of a list can give rise to them.
use Rattle.std.specs.Prelude.{ℕ, ◌+◌, List, [], ◌∷◌}
use Rattle.bc_lex_tokens.specs.declared.symbol.Symbol.TheVariants as sign
use Rattle.bc_parse_tree.specs.Parts.{Part, A, NewLine}
use Rattle.bc_parse_tree.specs.Tree.{Exp, Exps, none, more, Block, block, Declaration, Declarations, no_declarations, declaration, Entries, no_entries, entry, Definition, Definitions, no_definitions, definition, Item, Labelled, Labels_alone, Items, no_items, item, Label, Labels, no_labels, label, Command}
use Rattle.bc_parse_tree.specs.Tree as tree

abbrev mutual
  pub exp_size : Exp → ℕ
  exp_size (tree.Name s) = 1
  exp_size (tree.Num n) = 1
  exp_size (tree.Character n) = 1
  exp_size (tree.Text s) = 1
  exp_size tree.True = 1
  exp_size tree.False = 1
  exp_size (tree.Table ks) = exps_size ks + 1
  exp_size (tree.Valof b) = block_size b + 1
  exp_size (tree.Unary m e) = exp_size e + 1
  exp_size (tree.Bin o l r) = exp_size l + exp_size r + 1
  exp_size (tree.Cond c x y) = exp_size c + exp_size x + exp_size y + 1
  exp_size (tree.Call f es) = exp_size f + exps_size es + 1

  pub exps_size : Exps → ℕ
  exps_size none = 0
  exps_size (more e es) = exp_size e + exps_size es

  pub block_size : Block → ℕ
  block_size (block ds is) = declarations_size ds + items_size is

  pub declaration_size : Declaration → ℕ
  declaration_size (tree.Constants s es) = entries_size es
  declaration_size (tree.Let ds) = definitions_size ds

  pub declarations_size : Declarations → ℕ
  declarations_size no_declarations = 0
  declarations_size (declaration d ds) = declaration_size d + declarations_size ds

  pub entries_size : Entries → ℕ
  entries_size no_entries = 0
  entries_size (entry n k es) = exp_size k + entries_size es

  pub definition_size : Definition → ℕ
  definition_size (tree.Variables ns es) = exps_size es + 1
  definition_size (tree.Vector n k) = exp_size k + 1
  definition_size (tree.Function n ps e) = exp_size e + 1
  definition_size (tree.Routine n ps b) = block_size b + 1

  pub definitions_size : Definitions → ℕ
  definitions_size no_definitions = 0
  definitions_size (definition d ds) = definition_size d + definitions_size ds

  pub item_size : Item → ℕ
  item_size (Labelled ls c) = labels_size ls + command_size c
  item_size (Labels_alone ls) = labels_size ls

  pub items_size : Items → ℕ
  items_size no_items = 0
  items_size (item i is) = item_size i + items_size is

  pub label_size : Label → ℕ
  label_size (tree.Case k) = exp_size k
  label_size tree.Default = 0
  label_size (tree.Named n) = 0

  pub labels_size : Labels → ℕ
  labels_size no_labels = 0
  labels_size (label l ls) = label_size l + labels_size ls

  pub command_size : Command → ℕ
  command_size (tree.Assign xs es) = exps_size xs + exps_size es + 1
  command_size (tree.Do f es) = exp_size f + exps_size es + 1 + 1
  command_size (tree.Compound b) = block_size b + 1
  command_size tree.Break = 1
  command_size tree.Loop = 1
  command_size tree.EndCase = 1
  command_size tree.Return = 1
  command_size tree.Finish = 1
  command_size (tree.ResultIs e) = exp_size e + 1
  command_size (tree.Goto n) = 1
  command_size (tree.Repeat c) = command_size c + 1
  command_size (tree.RepeatWhile c e) = command_size c + exp_size e + 1
  command_size (tree.RepeatUntil c e) = command_size c + exp_size e + 1
  command_size (tree.If e b) = exp_size e + block_size b + 1
  command_size (tree.Unless e b) = exp_size e + block_size b + 1
  command_size (tree.While e b) = exp_size e + block_size b + 1
  command_size (tree.Until e b) = exp_size e + block_size b + 1
  command_size (tree.Test e b d) = exp_size e + block_size b + block_size d + 1
  command_size (tree.For n a z b) = exp_size a + exp_size z + block_size b + 1
  command_size (tree.ForBy n a z k b) = exp_size a + exp_size z + exp_size k + block_size b + 1
  command_size (tree.SwitchOn e is) = exp_size e + items_size is + 1

-- how much a part counts: 1, except for closing section brackets and line breaks, since closing can insert these
abbrev pub weight_of : Part → ℕ
weight_of (A sign.CloseSection) = 0
weight_of NewLine = 0
weight_of _ = 1

-- the sum over a list
abbrev pub weight : List Part → ℕ
weight [] = 0
weight (p ∷ ts) = weight_of p + weight ts
