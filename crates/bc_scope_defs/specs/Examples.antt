-- Small sections that the worked examples use.
use Rattle.std.specs.Prelude.{ℕ, codes, List, [], ◌∷◌}
use Rattle.bc_parse_tree.specs.declared.tree.Storage.{Storage}
use Rattle.bc_parse_tree.specs.declared.tree.Storage.TheVariants as storage
use Rattle.bc_parse_tree.specs.declared.tree.BinaryOp.{BinaryOp}
use Rattle.bc_parse_tree.specs.Tree.{Exp, Exps, none, more, Block, block, Declaration, Declarations, no_declarations, declaration, Entries, no_entries, entry, Definition, Definitions, no_definitions, definition, Item, Labelled, Labels_alone, Items, no_items, item, Label, no_labels, label, Command}
use Rattle.bc_parse_tree.specs.Tree as tree
use Rattle.bc_scope_defs.specs.Scope.{Name}

-- Names

abbrev pub a : Name
a = codes "A"

abbrev pub b : Name
b = codes "B"

abbrev pub f : Name
f = codes "F"

abbrev pub g : Name
g = codes "G"

abbrev pub l : Name
l = codes "L"

abbrev pub v : Name
v = codes "V"

abbrev pub x : Name
x = codes "X"

abbrev pub y : Name
y = codes "Y"

abbrev pub start : Name
start = codes "START"

abbrev pub wrch : Name
wrch = codes "WRCH"

-- Expressions

abbrev pub of : Name → Exp
of n = tree.Name n

abbrev pub number : ℕ → Exp
number n = tree.Num n

abbrev pub two : BinaryOp → Exp → Exp → Exp
two o d e = tree.Bin o d e

abbrev pub list : List Exp → Exps
list [] = none
list (e ∷ es) = more e (list es)

abbrev pub call : Name → List Exp → Exp
call n es = tree.Call (of n) (list es)

-- Commands

abbrev pub set : Name → Exp → Command
set n e = tree.Assign (list (of n ∷ [])) (list (e ∷ []))

abbrev pub do_call : Name → List Exp → Command
do_call n es = tree.Do (of n) (list es)

abbrev pub plain : Command → Item
plain c = Labelled no_labels c

abbrev pub labelled : Name → Command → Item
labelled n c = Labelled (label (tree.Named n) no_labels) c

abbrev pub with_case : ℕ → Command → Item
with_case k c = Labelled (label (tree.Case (number k)) no_labels) c

abbrev pub items : List Item → Items
items [] = no_items
items (i ∷ is) = item i (items is)

abbrev pub declarations : List Declaration → Declarations
declarations [] = no_declarations
declarations (d ∷ ds) = declaration d (declarations ds)

abbrev pub body : List Declaration → List Item → Block
body ds is = block (declarations ds) (items is)

abbrev pub commands : List Command → Block
commands cs = block no_declarations (all cs) where
  all : List Command → Items
  all [] = no_items
  all (c ∷ cs) = item (plain c) (all cs)

-- Declarations

abbrev pub lets : List Definition → Declaration
lets ds = tree.Let (all ds) where
  all : List Definition → Definitions
  all [] = no_definitions
  all (d ∷ ds) = definition d (all ds)

abbrev pub variables : List Name → List Exp → Definition
variables ns es = tree.Variables ns (list es)

abbrev pub variable : Name → Exp → Declaration
variable n e = lets (variables (n ∷ []) (e ∷ []) ∷ [])

abbrev pub constants : Storage → List (Name × Exp) → Declaration
constants s es = tree.Constants s (all es) where
  all : List (Name × Exp) → Entries
  all [] = no_entries
  all (e ∷ es) = entry e.0 e.1 (all es)

-- Sections

-- `LET START() BE ..`, and nothing else
abbrev pub alone : Block → Declarations
alone b = declarations (lets (tree.Routine start [] b ∷ []) ∷ [])

-- `GLOBAL $( START:1; WRCH:14 $)` and `LET START() BE ..`
abbrev pub program : Block → Declarations
program b =
    declarations (constants storage.Global ((start, number 1) ∷ (wrch, number 14) ∷ []) ∷ lets (tree.Routine start [] b ∷ []) ∷ [])
