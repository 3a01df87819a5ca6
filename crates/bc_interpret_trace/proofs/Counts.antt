-- How many roots the first parts of a list have, when one more is counted.
use Rattle.std.proofs.Common.{◌≡◌, ℕ, ◌+◌, ◌<◌, List, [], ◌∷◌, ◌++◌, map, take, length, get_or, sym, ap, ◌∙◌, arith}
use Rattle.std.specs.List.{sum_by}
use Rattle.std.proofs.Math.Nat.{zero-add}
use Rattle.std.proofs.lemmas.List.{map-append, take_more}
use Rattle.std.proofs.lemmas.List.Sums.{sum_by_push}
use Rattle.bc_core.specs.declared.command.Variable.{Variable}
use Rattle.bc_core.specs.declared.command.Declaration.{Declaration}
use Rattle.bc_core.specs.declared.command.ListItem.{ListItem}
use Rattle.bc_core.specs.declared.command.ListItem.TheVariants as entries
use Rattle.bc_core.specs.Commands.{Items, no_item}
use Rattle.bc_core.specs.View.{variable, declarations, items, items_before}
use Rattle.bc_interpret_defs.specs.Trails.{roots_of_variable, roots_of_declarations, roots_of_items}

mapped_more : {A B : Type 0} (f : A → B) (g : B → ℕ) (xs : List A) (i : ℕ) (x : A) → i < length xs → sum_by g (map f (take (i + 1) xs)) ≡ sum_by g (map f (take i xs)) + g (f (get_or xs i x))
mapped_more f g xs i x inside =
    ap (λ ys. sum_by g (map f ys)) (take_more xs i x inside) ∙ (ap (sum_by g) (map-append f (take i xs) (get_or xs i x ∷ [])) ∙ sum_by_push g (map f (take i xs)) (f (get_or xs i x)))

pub variables_more : (vs : List Variable) (i : ℕ) (v : Variable) → i < length vs → sum_by roots_of_variable (map variable (take (i + 1) vs)) ≡ sum_by roots_of_variable (map variable (take i vs)) + roots_of_variable (variable (get_or vs i v))
variables_more vs i v inside = mapped_more variable roots_of_variable vs i v inside

pub declarations_more : (ds : List Declaration) (i : ℕ) (d : Declaration) → i < length ds → roots_of_declarations (declarations (take (i + 1) ds)) ≡ roots_of_declarations (declarations (take i ds)) + sum_by roots_of_variable (map variable (get_or ds i d).variables.items)
declarations_more ds i d inside = mapped_more (λ e. map variable e.variables.items) (sum_by roots_of_variable) ds i d inside

first_apart : (x : ListItem) (is : Items) → roots_of_items (items_before x is) ≡ roots_of_items (items_before x no_item) + roots_of_items is
first_apart (entries.Command c) is = omega arith
first_apart (entries.Case k) is = sym (zero-add (roots_of_items is))
first_apart entries.Default is = sym (zero-add (roots_of_items is))
first_apart (entries.Label l) is = sym (zero-add (roots_of_items is))

last_apart : (xs : List ListItem) (x : ListItem) → roots_of_items (items (xs ++ x ∷ [])) ≡ roots_of_items (items xs) + roots_of_items (items_before x no_item)
last_apart [] x = sym (zero-add (roots_of_items (items_before x no_item)))
last_apart (y ∷ xs) x =
    let here = last_apart xs x in
    let whole = first_apart y (items (xs ++ x ∷ [])) in
    let part = first_apart y (items xs) in
    omega arith

pub items_more : (xs : List ListItem) (i : ℕ) (x : ListItem) → i < length xs → roots_of_items (items (take (i + 1) xs)) ≡ roots_of_items (items (take i xs)) + roots_of_items (items_before (get_or xs i x) no_item)
items_more xs i x inside = ap (λ ys. roots_of_items (items ys)) (take_more xs i x inside) ∙ last_apart (take i xs) (get_or xs i x)
