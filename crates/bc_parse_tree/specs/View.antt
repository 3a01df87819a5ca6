-- What the program's trees are in the definitions: a view for each type. Each is the generated fold over the types,
-- with one step per type.
use Rattle.std.specs.Prelude.{ℕ, List, [], ◌∷◌, map, Option, Some, None}
use Rattle.std.specs.declared.alloc.Global.{Global}
use Rattle.std.specs.declared.boxed.Box.{Box}
use Rattle.bc_parse_tree.specs.declared.tree.Block.{fold-Block, Block-F}
use Rattle.bc_parse_tree.specs.declared.tree.Block as code_block
use Rattle.bc_parse_tree.specs.declared.tree.Command.{fold-Command, Command-F}
use Rattle.bc_parse_tree.specs.declared.tree.Command as code_command
use Rattle.bc_parse_tree.specs.declared.tree.Constant.{fold-Constant, Constant-F}
use Rattle.bc_parse_tree.specs.declared.tree.Constant as code_constant
use Rattle.bc_parse_tree.specs.declared.tree.Declaration.{fold-Declaration, Declaration-F}
use Rattle.bc_parse_tree.specs.declared.tree.Declaration as code_declaration
use Rattle.bc_parse_tree.specs.declared.tree.Definition.{fold-Definition, Definition-F}
use Rattle.bc_parse_tree.specs.declared.tree.Definition as code_definition
use Rattle.bc_parse_tree.specs.declared.tree.Exp.{fold-Exp, Exp-F}
use Rattle.bc_parse_tree.specs.declared.tree.Exp as code
use Rattle.bc_parse_tree.specs.declared.tree.Item.{fold-Item, Item-F}
use Rattle.bc_parse_tree.specs.declared.tree.Item as code_item
use Rattle.bc_parse_tree.specs.declared.tree.Label.{fold-Label, Label-F}
use Rattle.bc_parse_tree.specs.declared.tree.Label as code_label
use Rattle.bc_parse_tree.specs.declared.tree.Section.{Section}
use Rattle.bc_parse_tree.specs.Tree.{Exp, Exps, none, more, Block, block, Declaration, Declarations, no_declarations, declaration, Entries, no_entries, entry, Definition, Definitions, no_definitions, definition, Item, Labelled, Labels_alone, Items, no_items, item, Label, Labels, no_labels, label, Command}
use Rattle.bc_parse_tree.specs.Tree as pure

-- ---- lists of the program as lists of the definitions
abbrev pub exps_of : List Exp → Exps
exps_of [] = none
exps_of (e ∷ es) = more e (exps_of es)

abbrev pub declarations_of : List Declaration → Declarations
declarations_of [] = no_declarations
declarations_of (d ∷ ds) = declaration d (declarations_of ds)

abbrev pub entries_of : List (List ℕ × Exp) → Entries
entries_of [] = no_entries
entries_of (e ∷ es) = entry e.0 e.1 (entries_of es)

abbrev pub definitions_of : List Definition → Definitions
definitions_of [] = no_definitions
definitions_of (d ∷ ds) = definition d (definitions_of ds)

abbrev pub items_of : List Item → Items
items_of [] = no_items
items_of (i ∷ is) = item i (items_of is)

abbrev pub labels_of : List Label → Labels
labels_of [] = no_labels
labels_of (l ∷ ls) = label l (labels_of ls)

-- one layer of an expression, whose parts are views already
abbrev pub exp_step : Exp-F Command Declaration Definition Exp Label Block (List ℕ × Exp) Item → Exp
exp_step (Exp-F.Exp::Name s) = pure.Name s.now
exp_step (Exp-F.Num n) = pure.Num n
exp_step (Exp-F.Character n) = pure.Character n
exp_step (Exp-F.String s) = pure.Text s.now
exp_step Exp-F.True = pure.True
exp_step Exp-F.False = pure.False
exp_step (Exp-F.Table es) = pure.Table (exps_of es.items)
exp_step (Exp-F.Valof b) = pure.Valof b
exp_step (Exp-F.Unary m e) = pure.Unary m e.value
exp_step (Exp-F.Bin o l r) = pure.Bin o l.value r.value
exp_step (Exp-F.Cond c x y) = pure.Cond c.value x.value y.value
exp_step (Exp-F.Exp::Call f es) = pure.Call f.value (exps_of es.items)

-- one layer of a label
abbrev pub label_step : Label-F Command Declaration Definition Exp Label Block (List ℕ × Exp) Item → Label
label_step (Label-F.Case e) = pure.Case e
label_step Label-F.Default = pure.Default
label_step (Label-F.Label::Name s) = pure.Named s.now

-- an item from its labels and its command, which may be missing
abbrev pub item_from : Labels → Option Command → Item
item_from ls None = Labels_alone ls
item_from ls (Some c) = Labelled ls c

-- one layer of an item
abbrev pub item_step : Item-F Command Declaration Definition Exp Label Block (List ℕ × Exp) Item → Item
item_step i = item_from (labels_of i.labels.items) i.command

-- one layer of an entry: a name and its constant
abbrev pub constant_step : Constant-F Command Declaration Definition Exp Label Block (List ℕ × Exp) Item → List ℕ × Exp
constant_step c = (c.name.now, c.value)

-- one layer of a block
abbrev pub block_step : Block-F Command Declaration Definition Exp Label Block (List ℕ × Exp) Item → Block
block_step b = block (declarations_of b.declarations.items) (items_of b.items.items)

-- one layer of a declaration
abbrev pub declaration_step : Declaration-F Command Declaration Definition Exp Label Block (List ℕ × Exp) Item → Declaration
declaration_step (Declaration-F.Constants s es) = pure.Constants s (entries_of es.items)
declaration_step (Declaration-F.Let ds) = pure.Let (definitions_of ds.items)

-- one layer of a definition
abbrev pub definition_step : Definition-F Command Declaration Definition Exp Label Block (List ℕ × Exp) Item → Definition
definition_step (Definition-F.Variables ns es) = pure.Variables (map (λ n. n.now) ns.items) (exps_of es.items)
definition_step (Definition-F.Vector n k) = pure.Vector n.now k
definition_step (Definition-F.Function n ps e) = pure.Function n.now (map (λ n. n.now) ps.items) e
definition_step (Definition-F.Routine n ps b) = pure.Routine n.now (map (λ n. n.now) ps.items) b

-- a FOR, with or without BY
abbrev pub for_from : List ℕ → Exp → Exp → Option Exp → Block → Command
for_from n a z None b = pure.For n a z b
for_from n a z (Some k) b = pure.ForBy n a z k b

-- an expression in a box, which may be missing
abbrev pub unboxed : Option (Box Exp Global) → Option Exp
unboxed None = None
unboxed (Some k) = Some k.value

-- one layer of a command
abbrev pub command_step : Command-F Command Declaration Definition Exp Label Block (List ℕ × Exp) Item → Command
command_step (Command-F.Assign xs es) = pure.Assign (exps_of xs.items) (exps_of es.items)
command_step (Command-F.Command::Call f es) = pure.Do f.value (exps_of es.items)
command_step (Command-F.Block b) = pure.Compound b
command_step Command-F.Break = pure.Break
command_step Command-F.Loop = pure.Loop
command_step Command-F.EndCase = pure.EndCase
command_step Command-F.Return = pure.Return
command_step Command-F.Finish = pure.Finish
command_step (Command-F.ResultIs e) = pure.ResultIs e
command_step (Command-F.Goto n) = pure.Goto n.now
command_step (Command-F.Repeat c) = pure.Repeat c.value
command_step (Command-F.RepeatWhile c e) = pure.RepeatWhile c.value e
command_step (Command-F.RepeatUntil c e) = pure.RepeatUntil c.value e
command_step (Command-F.If e b) = pure.If e b
command_step (Command-F.Unless e b) = pure.Unless e b
command_step (Command-F.While e b) = pure.While e b
command_step (Command-F.Until e b) = pure.Until e b
command_step (Command-F.Test e b d) = pure.Test e.value b d
command_step (Command-F.For n a z k b) = for_from n.now a.value z.value (unboxed k) b
command_step (Command-F.SwitchOn e is) = pure.SwitchOn e (items_of is.items)

-- the view of each type of tree
abbrev pub exp_view : code.Exp → Exp
exp_view = fold-Exp Command Declaration Definition Exp Label Block
    (List ℕ × Exp) Item command_step declaration_step definition_step exp_step label_step block_step constant_step item_step

abbrev pub command_view : code_command.Command → Command
command_view = fold-Command Command Declaration Definition Exp Label Block
    (List ℕ × Exp) Item command_step declaration_step definition_step exp_step label_step block_step constant_step item_step

abbrev pub block_view : code_block.Block → Block
block_view = fold-Block Command Declaration Definition Exp Label Block
    (List ℕ × Exp) Item command_step declaration_step definition_step exp_step label_step block_step constant_step item_step

abbrev pub declaration_view : code_declaration.Declaration → Declaration
declaration_view = fold-Declaration Command Declaration Definition Exp Label Block
    (List ℕ × Exp) Item command_step declaration_step definition_step exp_step label_step block_step constant_step item_step

abbrev pub definition_view : code_definition.Definition → Definition
definition_view = fold-Definition Command Declaration Definition Exp Label Block
    (List ℕ × Exp) Item command_step declaration_step definition_step exp_step label_step block_step constant_step item_step

abbrev pub label_view : code_label.Label → Label
label_view = fold-Label Command Declaration Definition Exp Label Block
    (List ℕ × Exp) Item command_step declaration_step definition_step exp_step label_step block_step constant_step item_step

abbrev pub item_view : code_item.Item → Item
item_view = fold-Item Command Declaration Definition Exp Label Block
    (List ℕ × Exp) Item command_step declaration_step definition_step exp_step label_step block_step constant_step item_step

abbrev pub constant_view : code_constant.Constant → List ℕ × Exp
constant_view = fold-Constant Command Declaration Definition Exp Label Block
    (List ℕ × Exp) Item command_step declaration_step definition_step exp_step label_step block_step constant_step item_step

-- the views of lists of trees
abbrev pub exps_view : List code.Exp → Exps
exps_view es = exps_of (map exp_view es)

abbrev pub declarations_view : List code_declaration.Declaration → Declarations
declarations_view ds = declarations_of (map declaration_view ds)

abbrev pub entries_view : List code_constant.Constant → Entries
entries_view cs = entries_of (map constant_view cs)

abbrev pub definitions_view : List code_definition.Definition → Definitions
definitions_view ds = definitions_of (map definition_view ds)

abbrev pub items_view : List code_item.Item → Items
items_view is = items_of (map item_view is)

abbrev pub labels_view : List code_label.Label → Labels
labels_view ls = labels_of (map label_view ls)

-- the view of a section is that of its declarations
abbrev pub section_view : Section → Declarations
section_view s = declarations_view s.declarations.items
