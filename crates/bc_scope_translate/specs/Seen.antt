-- For proofs: the data of the translation as those of the definitions.
use Rattle.std.specs.Prelude.{◌≡◌, ◌+◌, ℕ, List, [], ◌∷◌, ◌++◌, map, Bool, Result, IfOk}
use Rattle.bc_core.specs.declared.command.Condition.{Condition}
use Rattle.bc_core.specs.declared.command.ListItem as code_entry
use Rattle.bc_core.specs.declared.command.ListItem.TheVariants as items
use Rattle.bc_core.specs.Commands as core
use Rattle.bc_core.specs.Tree.{Exp, Args, no_argument, argument}
use Rattle.bc_core.specs.View.{exp}
use Rattle.bc_core.specs.View as view
use Rattle.bc_scope_translate.specs.declared.blocks.Branch.{Branch}
use Rattle.bc_scope_translate.specs.declared.forms.Formed as code_formed
use Rattle.bc_scope_translate.specs.declared.forms.Formed.TheVariants as formed
use Rattle.bc_scope_defs.specs.Translation.{Forms, cell, plain, core_command}
use Rattle.bc_scope_defs.specs.Scope as scoping
use Rattle.bc_scope_defs.specs.Scoping.{constant}
use Rattle.bc_scope_defs.specs.Numbering.{labels_named, labels_of, after_item}
use Rattle.bc_scope_names.specs.declared.scope.Entry as names
use Rattle.bc_scope_translate.specs.declared.numbering.NextNumbers.{NextNumbers}
use Rattle.bc_scope_translate.specs.Next.{next_numbers}
use Rattle.bc_parse_tree.specs.Tree as tree

-- a translated expression of the code, by address and content
abbrev pub formed_view : code_formed.Formed → Forms
formed_view (formed.Cell a) = cell (exp a)
formed_view (formed.Plain v) = plain (exp v)

-- translated expressions of the code
abbrev pub formed_list : List code_formed.Formed → List Forms
formed_list fs = map formed_view fs

-- arguments as a list
abbrev pub args_list : Args → List Exp
args_list no_argument = []
args_list (argument e es) = e ∷ args_list es

-- an item of a command list
pub data Entry : Type 0 where
  ACommand : core.Command → Entry
  ACase : ℕ → Entry
  ADefault : Entry
  ALabel : ℕ → Entry

-- an item of the code
abbrev pub entry_view : code_entry.ListItem → Entry
entry_view (items.Command c) = ACommand (view.command c)
entry_view (items.Case k) = ACase k
entry_view items.Default = ADefault
entry_view (items.Label l) = ALabel l

-- items of the definitions, as a list
abbrev pub entry_list : core.Items → List Entry
entry_list core.no_item = []
entry_list (core.command c is) = ACommand c ∷ entry_list is
entry_list (core.case k is) = ACase k ∷ entry_list is
entry_list (core.default is) = ADefault ∷ entry_list is
entry_list (core.label l is) = ALabel l ∷ entry_list is

-- the item for a label, with number k if it is named
abbrev pub label_entry : scoping.Env → (k : ℕ) → tree.Label → Entry
label_entry E k (tree.Case c) = ACase (constant E c)
label_entry E k tree.Default = ADefault
label_entry E k (tree.Named n) = ALabel k

-- the items for the labels before a command, named ones numbered from k
abbrev pub label_entries : scoping.Env → (k : ℕ) → tree.Labels → List Entry
label_entries E k tree.no_labels = []
label_entries E k (tree.label l ls) = label_entry E k l ∷ label_entries E (k + labels_named l) ls

-- the item for the command, if there is one
abbrev pub command_entry : scoping.Env → scoping.Numbers → tree.Item → (s : ℕ) → List Entry
command_entry E at (tree.Labelled ls c) s = ACommand (core_command E at c s) ∷ []
command_entry E at (tree.Labels_alone ls) s = []

-- the labels of an item
abbrev pub labels_before : tree.Item → tree.Labels
labels_before (tree.Labelled ls c) = ls
labels_before (tree.Labels_alone ls) = ls

-- the items of a list whose labels are numbered from k
abbrev pub items_entries : scoping.Env → (k : ℕ) → scoping.Numbers → tree.Items → (s : ℕ) → List Entry
items_entries E k at tree.no_items s = []
items_entries E k at (tree.item i is) s =
    label_entries E k (labels_before i) ++ (command_entry E at i s ++ items_entries E (k + labels_of (labels_before i)) (after_item at i) is s)

-- without an error, the result is the translation y, and then these are the next numbers
abbrev pub Translates : {X Y E : Type 0} → (X → Y) → Result X E → Y → (after : NextNumbers) → (following : scoping.Numbers) → Type 0
Translates view result y after following = IfOk result (λ x. (view x ≡ y) × (next_numbers after ≡ following))

-- the same, and the scope is as it was before
abbrev pub TranslatesWithin : {X Y E : Type 0} → (X → Y) → Result X E → Y → (after : NextNumbers) → (following : scoping.Numbers)
    → (known_before known_after : List names.Entry) → Type 0
TranslatesWithin view result y after following known_before known_after =
    IfOk result (λ x. (view x ≡ y) × (next_numbers after ≡ following) × (known_after ≡ known_before))

-- the sense and the test of a condition
abbrev pub condition_view : Condition → Bool × Exp
condition_view c = (c.sense, exp c.test)

-- the test and the block of a branch
abbrev pub branch_view : Branch → Exp × core.Block
branch_view b = (exp b.test, view.block_of b.this)
