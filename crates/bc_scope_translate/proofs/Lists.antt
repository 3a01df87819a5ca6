-- Arguments and command lists, compared as lists of what they hold.
use Rattle.std.proofs.Common.{◌≡◌, ◌+◌, ℕ, refl, ap, ◌∙◌, sym, List, [], ◌∷◌, ◌++◌, map, drop, length, ◌≤◌}
use Rattle.std.proofs.lemmas.List.{at_drop_all, append-nil}
use Rattle.bc_core.specs.declared.expression.CoreExp.{CoreExp}
use Rattle.bc_core.specs.declared.command.ListItem.{ListItem}
use Rattle.bc_core.specs.declared.command.ListItem.TheVariants as entries
use Rattle.bc_core.specs.Tree.{Exp, Args, no_argument, argument}
use Rattle.bc_core.specs.Commands as core
use Rattle.bc_core.specs.View.{exp, args, items, command}
use Rattle.bc_parse_tree.specs.Tree as source
use Rattle.bc_scope_defs.specs.Scope.{Env, Numbers, after_labels}
use Rattle.bc_scope_defs.specs.Numbering.{labels_of, labels_in, after_command, after_declarations}
use Rattle.bc_scope_defs.specs.Scoping.{constant, in_declarations, in_list, level_after}
use Rattle.bc_scope_defs.specs.Translation.{core_declarations, core_labels, core_block, core_items, core_command}
use Rattle.bc_scope_translate.specs.Seen.{args_list, Entry, ACommand, ACase, ADefault, ALabel, entry_view, entry_list, label_entries, items_entries}

abbrev pub list_args : List Exp → Args
list_args [] = no_argument
list_args (e ∷ es) = argument e (list_args es)

args_listed : (es : List CoreExp) → args es ≡ list_args (map exp es)
args_listed [] = refl
args_listed (e ∷ es) = ap (argument (exp e)) (args_listed es)

listed_args : (a : Args) → list_args (args_list a) ≡ a
listed_args no_argument = refl
listed_args (argument e es) = ap (argument e) (listed_args es)

pub args_seen : (es : List CoreExp) (a : Args) → map exp es ≡ args_list a → args es ≡ a
args_seen es a e = args_listed es ∙ ap list_args e ∙ listed_args a

-- at the end of a loop nothing is left
pub args_done : {X : Type 0} (vs : List CoreExp) (es : List X) (i : ℕ) (F : List X → List Exp) (a : Args)
    → length es ≤ i → F [] ≡ [] → map exp vs ++ F (drop i es) ≡ args_list a → args vs ≡ a
args_done vs es i F a h z e = args_seen vs a (sym (append-nil (map exp vs)) ∙ ap (◌++◌ (map exp vs)) (sym z ∙ sym (at_drop_all F es i h)) ∙ e)

abbrev pub entry_before : Entry → core.Items → core.Items
entry_before (ACommand c) is = core.command c is
entry_before (ACase k) is = core.case k is
entry_before ADefault is = core.default is
entry_before (ALabel l) is = core.label l is

abbrev pub list_items : List Entry → core.Items
list_items [] = core.no_item
list_items (e ∷ es) = entry_before e (list_items es)

items_listed : (is : List ListItem) → items is ≡ list_items (map entry_view is)
items_listed [] = refl
items_listed (entries.Command c ∷ is) = ap (core.command (command c)) (items_listed is)
items_listed (entries.Case k ∷ is) = ap (core.case k) (items_listed is)
items_listed (entries.Default ∷ is) = ap core.default (items_listed is)
items_listed (entries.Label l ∷ is) = ap (core.label l) (items_listed is)

listed_items : (is : core.Items) → list_items (entry_list is) ≡ is
listed_items core.no_item = refl
listed_items (core.command c is) = ap (core.command c) (listed_items is)
listed_items (core.case k is) = ap (core.case k) (listed_items is)
listed_items (core.default is) = ap core.default (listed_items is)
listed_items (core.label l is) = ap (core.label l) (listed_items is)

pub items_seen : (is : List ListItem) (a : core.Items) → map entry_view is ≡ entry_list a → items is ≡ a
items_seen is a e = items_listed is ∙ ap list_items e ∙ listed_items a

pub labels_entered : (E : Env) (k : ℕ) (ls : source.Labels) (is : core.Items) → entry_list (core_labels E k ls is) ≡ label_entries E k ls ++ entry_list is
labels_entered E k source.no_labels is = refl
labels_entered E k (source.label (source.Case c) ls) is = ap (◌∷◌ (ACase (constant E c))) (labels_entered E (k + 0) ls is)
labels_entered E k (source.label source.Default ls) is = ap (◌∷◌ ADefault) (labels_entered E (k + 0) ls is)
labels_entered E k (source.label (source.Named n) ls) is = ap (◌∷◌ (ALabel k)) (labels_entered E (k + 1) ls is)

entered : (E : Env) (k : ℕ) (at : Numbers) (is : source.Items) (s : ℕ) → entry_list (core_items E k at is s) ≡ items_entries E k at is s
entered E k at source.no_items s = refl
entered E k at (source.item (source.Labelled ls c) is) s =
    labels_entered E k ls (core.command (core_command E at c s) (core_items E (k + labels_of ls) (after_command at c) is s))
    ∙ ap (λ es. label_entries E k ls ++ (ACommand (core_command E at c s) ∷ es)) (entered E (k + labels_of ls) (after_command at c) is s)
entered E k at (source.item (source.Labels_alone ls) is) s =
    labels_entered E k ls (core_items E (k + labels_of ls) at is s)
    ∙ ap (λ es. label_entries E k ls ++ es) (entered E (k + labels_of ls) at is s)

-- at the end of a loop nothing is left
pub items_done : {X : Type 0} (vs : List ListItem) (ts : List X) (i : ℕ) (F : List X → List Entry) (E : Env) (k : ℕ) (at : Numbers) (is : source.Items) (s : ℕ)
    → length ts ≤ i → F [] ≡ [] → map entry_view vs ++ F (drop i ts) ≡ items_entries E k at is s → items vs ≡ core_items E k at is s
items_done vs ts i F E k at is s h z e =
    items_seen vs (core_items E k at is s)
    (sym (append-nil (map entry_view vs)) ∙ ap (◌++◌ (map entry_view vs)) (sym z ∙ sym (at_drop_all F ts i h)) ∙ e ∙ sym (entered E k at is s))

-- a block, whose list has the names and numbers after its declarations
pub block_made : (ps : List (List core.Variable)) (qs : core.Items) (S E : Env) (N at : Numbers) (ds : source.Declarations) (is : source.Items) (l s : ℕ)
    → ps ≡ core_declarations E at s ds → N ≡ after_declarations at ds → S ≡ in_declarations E at s ds → l ≡ level_after E at s ds
    → qs ≡ core_items (in_list N.label is S) N.label (after_labels N (labels_in is)) is l
    → core.block ps qs ≡ core_block E at (source.block ds is) s
block_made ps qs S E N at ds is l s p n d k q =
    let B = after_declarations at ds in
    ap (λ xs. core.block xs qs) p
    ∙ ap (core.block (core_declarations E at s ds))
    (q
    ∙ ap (λ (M : Numbers). core_items (in_list M.label is S) M.label (after_labels M (labels_in is)) is l) n
    ∙ ap (λ D. core_items (in_list B.label is D) B.label (after_labels B (labels_in is)) is l) d
    ∙ ap (λ m. core_items (in_list B.label is (in_declarations E at s ds)) B.label (after_labels B (labels_in is)) is m) k)
