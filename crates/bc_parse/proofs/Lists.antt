-- The view of a list with one more element.
use Rattle.std.proofs.Common.{◌≡◌, ℕ, Bool, true, false, List, [], ◌∷◌, ◌++◌, length, map, refl, sym, ap, ◌∙◌, arith}
use Rattle.std.specs.Borrow.{Bor}
use Rattle.std.proofs.lemmas.List.{map_push, length-map}
use Rattle.bc_parse_tree.specs.declared.tree.Constant as code_constant
use Rattle.bc_parse_tree.specs.declared.tree.Declaration as code_declaration
use Rattle.bc_parse_tree.specs.declared.tree.Definition as code_definition
use Rattle.bc_parse_tree.specs.declared.tree.Exp as code
use Rattle.bc_parse_tree.specs.declared.tree.Item as code_item
use Rattle.bc_parse_tree.specs.declared.tree.Label as code_label
use Rattle.bc_parse_tree.specs.Tree.{Exp, Exps, more, Declaration, Declarations, declaration, Entries, entry, Definition, Definitions, definition, Item, Items, item, Label, Labels, label}
use Rattle.bc_parse_tree.specs.View.{exp_view, exps_view, exps_of, declaration_view, declarations_view, declarations_of, definition_view, definitions_view, definitions_of, label_view, labels_view, labels_of, item_view, items_view, items_of, constant_view, entries_view, entries_of}
use Rattle.bc_parse_tree.specs.Spelling.{add_exp, add_entry, add_definition, add_declaration, add_label, add_item, count}
use Rattle.bc_parse.specs.declared.cursor.Rest.{Rest}
use Rattle.bc_parse_defs.specs.Reading.{no_item_yet, some_label, call_in}
use Rattle.bc_parse_tree.specs.Tree.{none}
use Rattle.bc_parse_tree.specs.Tree as tree
use Rattle.std.proofs.Common.{None, eqb, not}
use Rattle.std.proofs.lemmas.Bool.{eqb-true}
use Rattle.std.proofs.Common.{◌<◌}
use Rattle.bc_parse.specs.Seen.{seen}
use Rattle.bc_parse.specs.Names.{names_view}

pub names_view_push : (ns : List (Bor (List ℕ))) (n : Bor (List ℕ)) → names_view (ns ++ n ∷ []) ≡ names_view ns ++ n.now ∷ []
names_view_push ns n = map_push (λ (m : Bor (List ℕ)). m.now) ns n

exps_of_push : (es : List Exp) (e : Exp) → exps_of (es ++ e ∷ []) ≡ add_exp (exps_of es) e
exps_of_push [] e = refl
exps_of_push (d ∷ es) e = ap (λ (x : Exps). more d x) (exps_of_push es e)

pub exps_view_push : (es : List code.Exp) (e : code.Exp) → exps_view (es ++ e ∷ []) ≡ add_exp (exps_view es) (exp_view e)
exps_view_push es e = ap exps_of (map_push exp_view es e) ∙ exps_of_push (map exp_view es) (exp_view e)

declarations_of_push : (ds : List Declaration) (d : Declaration) → declarations_of (ds ++ d ∷ []) ≡ add_declaration (declarations_of ds) d
declarations_of_push [] d = refl
declarations_of_push (c ∷ ds) d = ap (λ (x : Declarations). declaration c x) (declarations_of_push ds d)

pub declarations_view_push : (ds : List code_declaration.Declaration) (d : code_declaration.Declaration) → declarations_view (ds ++ d ∷ []) ≡ add_declaration (declarations_view ds) (declaration_view d)
declarations_view_push ds d = ap declarations_of (map_push declaration_view ds d) ∙ declarations_of_push (map declaration_view ds) (declaration_view d)

definitions_of_push : (ds : List Definition) (d : Definition) → definitions_of (ds ++ d ∷ []) ≡ add_definition (definitions_of ds) d
definitions_of_push [] d = refl
definitions_of_push (c ∷ ds) d = ap (λ (x : Definitions). definition c x) (definitions_of_push ds d)

pub definitions_view_push : (ds : List code_definition.Definition) (d : code_definition.Definition) → definitions_view (ds ++ d ∷ []) ≡ add_definition (definitions_view ds) (definition_view d)
definitions_view_push ds d = ap definitions_of (map_push definition_view ds d) ∙ definitions_of_push (map definition_view ds) (definition_view d)

items_of_push : (is : List Item) (i : Item) → items_of (is ++ i ∷ []) ≡ add_item (items_of is) i
items_of_push [] i = refl
items_of_push (j ∷ is) i = ap (λ (x : Items). item j x) (items_of_push is i)

pub items_view_push : (is : List code_item.Item) (i : code_item.Item) → items_view (is ++ i ∷ []) ≡ add_item (items_view is) (item_view i)
items_view_push is i = ap items_of (map_push item_view is i) ∙ items_of_push (map item_view is) (item_view i)

labels_of_push : (ls : List Label) (l : Label) → labels_of (ls ++ l ∷ []) ≡ add_label (labels_of ls) l
labels_of_push [] l = refl
labels_of_push (k ∷ ls) l = ap (λ (x : Labels). label k x) (labels_of_push ls l)

pub labels_view_push : (ls : List code_label.Label) (l : code_label.Label) → labels_view (ls ++ l ∷ []) ≡ add_label (labels_view ls) (label_view l)
labels_view_push ls l = ap labels_of (map_push label_view ls l) ∙ labels_of_push (map label_view ls) (label_view l)

entries_of_push : (es : List (List ℕ × Exp)) (e : List ℕ × Exp) → entries_of (es ++ e ∷ []) ≡ add_entry (entries_of es) e.0 e.1
entries_of_push [] e = refl
entries_of_push (d ∷ es) e = ap (λ (x : Entries). entry d.0 d.1 x) (entries_of_push es e)

pub entries_view_push : (es : List code_constant.Constant) (e : code_constant.Constant) → entries_view (es ++ e ∷ []) ≡ add_entry (entries_view es) (constant_view e).0 (constant_view e).1
entries_view_push es e = ap entries_of (map_push constant_view es e) ∙ entries_of_push (map constant_view es) (constant_view e)

count_of : (es : List Exp) → count (exps_of es) ≡ length es
count_of [] = refl
count_of (e ∷ es) = omega (arith, count_of es)

pub count_exps_view : (es : List code.Exp) → count (exps_view es) ≡ length es
count_exps_view es = count_of (map exp_view es) ∙ length-map es exp_view

pub length_seen : (rest : Rest) → length (seen rest) ≡ length rest.parts.now
length_seen rest = length-map rest.parts.now _

-- a list that is none or many is no call
pub no_call : (es : Exps) → (count es ≡ 1 → ⊥) → call_in es ≡ None
no_call none h = refl
no_call (more (tree.Call f es) none) h = absurd (h refl)
no_call (more (tree.Call f es) (more d ds)) h = refl
no_call (more (tree.Name s) ds) h = refl
no_call (more (tree.Num n) ds) h = refl
no_call (more (tree.Character n) ds) h = refl
no_call (more (tree.Text s) ds) h = refl
no_call (more tree.True ds) h = refl
no_call (more tree.False ds) h = refl
no_call (more (tree.Table ks) ds) h = refl
no_call (more (tree.Valof b) ds) h = refl
no_call (more (tree.Unary m x) ds) h = refl
no_call (more (tree.Bin o l r) ds) h = refl
no_call (more (tree.Cond x y z) ds) h = refl

pub length_names_view : (ns : List (Bor (List ℕ))) → length (names_view ns) ≡ length ns
length_names_view ns = length-map ns _

ne_zero : (n : ℕ) → 0 < n → eqb n 0 ≡ false
ne_zero n pos = go (eqb n 0) refl
  where
    go : (b : Bool) → eqb n 0 ≡ b → eqb n 0 ≡ false
    go true e = absurd (omega (arith, eqb-true n 0 e))
    go false e = e

pub no_item_view : (is : List code_item.Item) → no_item_yet (items_view is) ≡ eqb (length is) 0
no_item_view [] = refl
no_item_view (i ∷ is) = sym (ne_zero (length (i ∷ is)) (omega arith))

pub some_label_view : (ls : List code_label.Label) → some_label (labels_view ls) ≡ not (eqb (length ls) 0)
some_label_view [] = refl
some_label_view (l ∷ ls) = ap not (sym (ne_zero (length (l ∷ ls)) (omega arith)))
