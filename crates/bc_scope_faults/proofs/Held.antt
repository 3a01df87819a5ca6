-- An element of a list is no larger than the list.
use Rattle.std.proofs.Common.{◌≡◌, ℕ, ◌+◌, ◌<◌, ◌≤◌, ap, refl, zero, suc, List, [], ◌∷◌, length, get_or, arith}
use Rattle.bc_parse_tree.specs.declared.tree.Exp as code
use Rattle.bc_parse_tree.specs.declared.tree.Constant as code_constant
use Rattle.bc_parse_tree.specs.declared.tree.Declaration as code_declaration
use Rattle.bc_parse_tree.specs.declared.tree.Definition as code_definition
use Rattle.bc_parse_tree.specs.declared.tree.Item as code_item
use Rattle.bc_parse_tree.specs.declared.tree.Label as code_label
use Rattle.bc_scope_faults.proofs.Lists.{constant_seen}
use Rattle.bc_parse_tree.specs.View.{exp_view, exps_view, entries_view, declaration_view, declarations_view, definition_view, definitions_view, item_view, items_view, label_view, labels_view}
use Rattle.bc_parse_tree.specs.Size.{exp_size, exps_size, entries_size, declaration_size, declarations_size, definition_size, definitions_size, item_size, items_size, label_size, labels_size}

held : {A : Type 0} (size : A → ℕ) (total : List A → ℕ) → ((x : A) (xs : List A) → total (x ∷ xs) ≡ size x + total xs)
    → (xs : List A) (i : ℕ) (x : A) → i < length xs → x ≡ get_or xs i x → size x ≤ total xs
held size total step [] i x h q = absurd (omega arith)
held size total step (y ∷ ys) zero x h q = rw q (omega (arith, step y ys))
held size total step (y ∷ ys) (suc i) x h q = omega (arith, step y ys, held size total step ys i x (omega arith) q)

pub exp_held : (es : List code.Exp) (i : ℕ) (e : code.Exp) → i < length es → e ≡ get_or es i e → exp_size (exp_view e) ≤ exps_size (exps_view es)
exp_held = held (λ e. exp_size (exp_view e)) (λ es. exps_size (exps_view es)) (λ e es. refl)

pub entry_held : (es : List code_constant.Constant) (i : ℕ) (e : code_constant.Constant) → i < length es → e ≡ get_or es i e → exp_size (exp_view e.value) ≤ entries_size (entries_view es)
entry_held = held (λ e. exp_size (exp_view e.value)) (λ es. entries_size (entries_view es)) (λ e es. ap (λ p. exp_size p.1 + entries_size (entries_view es)) (constant_seen e))

pub declaration_held : (ds : List code_declaration.Declaration) (i : ℕ) (d : code_declaration.Declaration) → i < length ds → d ≡ get_or ds i d → declaration_size (declaration_view d) ≤ declarations_size (declarations_view ds)
declaration_held = held (λ d. declaration_size (declaration_view d)) (λ ds. declarations_size (declarations_view ds)) (λ d ds. refl)

pub definition_held : (ds : List code_definition.Definition) (i : ℕ) (d : code_definition.Definition) → i < length ds → d ≡ get_or ds i d → definition_size (definition_view d) ≤ definitions_size (definitions_view ds)
definition_held = held (λ d. definition_size (definition_view d)) (λ ds. definitions_size (definitions_view ds)) (λ d ds. refl)

pub item_held : (is : List code_item.Item) (n : ℕ) (i : code_item.Item) → n < length is → i ≡ get_or is n i → item_size (item_view i) ≤ items_size (items_view is)
item_held = held (λ i. item_size (item_view i)) (λ is. items_size (items_view is)) (λ i is. refl)

pub label_held : (ls : List code_label.Label) (i : ℕ) (l : code_label.Label) → i < length ls → l ≡ get_or ls i l → label_size (label_view l) ≤ labels_size (labels_view ls)
label_held = held (λ l. label_size (label_view l)) (λ ls. labels_size (labels_view ls)) (λ l ls. refl)
