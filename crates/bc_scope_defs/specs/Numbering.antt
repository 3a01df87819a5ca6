-- How places, VALOFs and labels are numbered in text order: for each form of the tree the next numbers after it.
use Rattle.std.specs.Prelude.{ℕ, ◌+◌}
use Rattle.bc_parse_tree.specs.declared.tree.Storage.{Storage}
use Rattle.bc_parse_tree.specs.declared.tree.Storage.TheVariants as storage
use Rattle.bc_parse_tree.specs.Tree.{Exp, Exps, none, more, Block, block, Declaration, Declarations, no_declarations, declaration, Entries, no_entries, entry, Definition, Definitions, no_definitions, definition, Item, Labelled, Labels_alone, Items, no_items, item, Label, Labels, no_labels, label, Command}
use Rattle.bc_parse_tree.specs.Tree as tree
use Rattle.bc_scope_defs.specs.Scope.{Numbers, after_place, after_valof, after_labels}

-- how many named labels there are: in a label,
abbrev pub labels_named : Label → ℕ
labels_named (tree.Named n) = 1
labels_named _ = 0

-- before a command,
abbrev pub labels_of : Labels → ℕ
labels_of no_labels = 0
labels_of (label l ls) = labels_named l + labels_of ls

-- in an item,
abbrev pub labels_of_item : Item → ℕ
labels_of_item (Labelled ls c) = labels_of ls
labels_of_item (Labels_alone ls) = labels_of ls

-- and in a list
abbrev pub labels_in : Items → ℕ
labels_in no_items = 0
labels_in (item i is) = labels_of_item i + labels_in is

-- a static is a place, while a manifest and a global aren't
abbrev pub after_entry : Storage → Numbers → Numbers
after_entry storage.Static at = after_place at
after_entry _ at = at

-- the numbers after the entries of a declaration
abbrev pub after_entries : Storage → Numbers → Entries → Numbers
after_entries s at no_entries = at
after_entries s at (entry n k es) = after_entries s (after_entry s at) es

-- The numbers after a tree. A constant contains nothing that is numbered. A list takes the numbers of its labels when
-- it begins.
abbrev mutual
  pub following : Numbers → Exp → Numbers
  following at (tree.Text s) = after_place at
  following at (tree.Table ks) = after_place at
  following at (tree.Valof b) = after_block (after_valof at) b
  following at (tree.Unary m e) = following at e
  following at (tree.Bin o l r) = following (following at l) r
  following at (tree.Cond c x y) = following (following (following at c) x) y
  following at (tree.Call f es) = after_all (following at f) es
  following at _ = at

  pub after_all : Numbers → Exps → Numbers
  after_all at none = at
  after_all at (more e es) = after_all (following at e) es

  pub after_block : Numbers → Block → Numbers
  after_block at (block ds is) = after_items (after_labels (after_declarations at ds) (labels_in is)) is

  pub after_declarations : Numbers → Declarations → Numbers
  after_declarations at no_declarations = at
  after_declarations at (declaration d ds) = after_declarations (after_declaration at d) ds

  pub after_declaration : Numbers → Declaration → Numbers
  after_declaration at (tree.Constants s es) = after_entries s at es
  after_declaration at (tree.Let ds) = after_definitions at ds

  pub after_definitions : Numbers → Definitions → Numbers
  after_definitions at no_definitions = at
  after_definitions at (definition d ds) = after_definitions (after_definition at d) ds

  pub after_definition : Numbers → Definition → Numbers
  after_definition at (tree.Variables ns es) = after_all at es
  after_definition at (tree.Vector n k) = at
  after_definition at (tree.Function n ps e) = following (after_place at) e
  after_definition at (tree.Routine n ps b) = after_block (after_place at) b

  pub after_items : Numbers → Items → Numbers
  after_items at no_items = at
  after_items at (item i is) = after_items (after_item at i) is

  pub after_item : Numbers → Item → Numbers
  after_item at (Labelled ls c) = after_command at c
  after_item at (Labels_alone ls) = at

  pub after_command : Numbers → Command → Numbers
  after_command at (tree.Assign xs es) = after_all (after_all at xs) es
  after_command at (tree.Do f es) = after_all (following at f) es
  after_command at (tree.Compound b) = after_block at b
  after_command at (tree.ResultIs e) = following at e
  after_command at (tree.Repeat c) = after_command at c
  after_command at (tree.RepeatWhile c e) = following (after_command at c) e
  after_command at (tree.RepeatUntil c e) = following (after_command at c) e
  after_command at (tree.If e b) = after_block (following at e) b
  after_command at (tree.Unless e b) = after_block (following at e) b
  after_command at (tree.While e b) = after_block (following at e) b
  after_command at (tree.Until e b) = after_block (following at e) b
  after_command at (tree.Test e b c) = after_block (after_block (following at e) b) c
  after_command at (tree.For n a z b) = after_block (following (following at a) z) b
  after_command at (tree.ForBy n a z k b) = after_block (following (following at a) z) b
  after_command at (tree.SwitchOn e is) = let in_list = following at e in after_items (after_labels in_list (labels_in is)) is
  after_command at _ = at
