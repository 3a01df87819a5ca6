-- A command list without labels is the same by all numbers of labels.
use Rattle.std.proofs.Common.{◌≡◌, ◌+◌, ℕ, refl, ap, ◌∙◌, arith}
use Rattle.bc_core.specs.Commands as core
use Rattle.bc_parse_tree.specs.Tree.{Item, Items, no_items, item, Labelled, Labels_alone, Case, Default, Named, Labels, no_labels, label}
use Rattle.bc_scope_defs.specs.Scope.{Env, Numbers, after_labels}
use Rattle.bc_scope_defs.specs.Numbering.{labels_of, labels_of_item, labels_in, after_command, after_items}
use Rattle.bc_scope_defs.specs.Scoping.{constant, in_labels, in_item, in_list}
use Rattle.bc_scope_defs.specs.Translation.{core_labels, core_items, core_command}

first_none : (a b : ℕ) → a + b ≡ 0 → a ≡ 0
first_none a b h = omega (arith, h)

rest_none : (a b : ℕ) → a + b ≡ 0 → b ≡ 0
rest_none a b h = omega (arith, h)

no_names : (k : ℕ) (ls : Labels) (E : Env) → labels_of ls ≡ 0 → in_labels k ls E ≡ E
no_names k no_labels E h = refl
no_names k (label (Case c) ls) E h = no_names (k + 0) ls E (rest_none 0 (labels_of ls) h)
no_names k (label Default ls) E h = no_names (k + 0) ls E (rest_none 0 (labels_of ls) h)
no_names k (label (Named n) ls) E h = absurd (omega (arith, h))

no_item_names : (k : ℕ) (i : Item) (E : Env) → labels_of_item i ≡ 0 → in_item k i E ≡ E
no_item_names k (Labelled ls c) E h = no_names k ls E h
no_item_names k (Labels_alone ls) E h = no_names k ls E h

no_list_names : (k : ℕ) (is : Items) (E : Env) → labels_in is ≡ 0 → in_list k is E ≡ E
no_list_names k no_items E h = refl
no_list_names k (item i is) E h =
    ap (in_list (k + labels_of_item i) is) (no_item_names k i E (first_none (labels_of_item i) (labels_in is) h)) ∙ no_list_names (k + labels_of_item i) is E (rest_none (labels_of_item i) (labels_in is) h)

labels_alike : (E : Env) (k m : ℕ) (ls : Labels) (is : core.Items) → labels_of ls ≡ 0 → core_labels E k ls is ≡ core_labels E m ls is
labels_alike E k m no_labels is h = refl
labels_alike E k m (label (Case c) ls) is h = ap (core.case (constant E c)) (labels_alike E (k + 0) (m + 0) ls is (rest_none 0 (labels_of ls) h))
labels_alike E k m (label Default ls) is h = ap core.default (labels_alike E (k + 0) (m + 0) ls is (rest_none 0 (labels_of ls) h))
labels_alike E k m (label (Named n) ls) is h = absurd (omega (arith, h))

items_alike : (E : Env) (k m : ℕ) (at : Numbers) (is : Items) (s : ℕ) → labels_in is ≡ 0 → core_items E k at is s ≡ core_items E m at is s
items_alike E k m at no_items s h = refl
items_alike E k m at (item (Labelled ls c) is) s h =
    labels_alike E k m ls (core.command (core_command E at c s) (core_items E (k + labels_of ls) (after_command at c) is s)) (first_none (labels_of ls) (labels_in is) h)
    ∙ ap (λ js. core_labels E m ls (core.command (core_command E at c s) js)) (items_alike E (k + labels_of ls) (m + labels_of ls) (after_command at c) is s (rest_none (labels_of ls) (labels_in is) h))
items_alike E k m at (item (Labels_alone ls) is) s h =
    labels_alike E k m ls (core_items E (k + labels_of ls) at is s) (first_none (labels_of ls) (labels_in is) h)
    ∙ ap (λ js. core_labels E m ls js) (items_alike E (k + labels_of ls) (m + labels_of ls) at is s (rest_none (labels_of ls) (labels_in is) h))

none_counted : (at : Numbers) (n : ℕ) → n ≡ 0 → after_labels at n ≡ at
none_counted at n h = ap (λ (k : ℕ). record { place = at.place; valof = at.valof; label = k }) (omega (arith, h))

-- the names, the labels and the numbers after such a list
pub unlabelled : (E : Env) (k : ℕ) (at : Numbers) (is : Items) (s : ℕ) → labels_in is ≡ 0 → core_items (in_list k is E) k (after_labels at (labels_in is)) is s ≡ core_items E 0 at is s
unlabelled E k at is s h =
    ap (λ F. core_items F k (after_labels at (labels_in is)) is s) (no_list_names k is E h)
    ∙ ap (λ (N : Numbers). core_items E k N is s) (none_counted at (labels_in is) h)
    ∙ items_alike E k 0 at is s h

pub after_unlabelled : (at : Numbers) (is : Items) → labels_in is ≡ 0 → after_items (after_labels at (labels_in is)) is ≡ after_items at is
after_unlabelled at is h = ap (λ (N : Numbers). after_items N is) (none_counted at (labels_in is) h)
