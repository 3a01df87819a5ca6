-- In a section without fault no value of a CASE occurs twice in a SWITCHON, and DEFAULT at most once.
use Rattle.std.proofs.Common.{◌≡◌, ◌∙◌, ℕ, ◌+◌, ◌≤◌, ◌==◌, ◌&&◌, ◌||◌, Bool, true, false, not, Option, None, List, [], ◌∷◌, ◌++◌, refl, sym, ap, arith}
use Rattle.std.specs.Prelude.{nat_le}
use Rattle.std.proofs.lemmas.Bool.Decides.{nat_tests}
use Rattle.bc_parse_tree.specs.Tree as tree
use Rattle.bc_core.specs.Commands.{Items}
use Rattle.bc_core.specs.WellFormed.{has, are_distinct, cases_of, defaults_in, entries_differ}
use Rattle.bc_scope_defs.specs.Scope.{Env, Numbers}
use Rattle.bc_scope_defs.specs.Numbering.{after_command, labels_of}
use Rattle.bc_scope_defs.specs.Scoping.{constant}
use Rattle.bc_scope_defs.specs.Translation.{core_labels, core_items}
use Rattle.bc_scope_defs.specs.Faults.{Fault, ACaseTwice, or_else, unless, Met, met_label, met_labels, has_value, Allowed}
use Rattle.bc_scope_defs.specs.FaultsAlong.{labels_fault, items_fault}
use Rattle.bc_scope_defs.specs.Faults as faults
use Rattle.bc_scope_defs.specs.FaultsAlong as along
use Rattle.bc_scope_laws.proofs.Fits.{none_left, none_right, no_fault}

not_true : (a : Bool) → not a ≡ true → a ≡ false
not_true true h = absurd (cc)
not_true false h = refl

same_number : (l : ℕ) → (l == l) ≡ true
same_number l = grind (arith, nat_tests)

both_true : (a b : Bool) → a ≡ true → b ≡ true → (a && b) ≡ true
both_true true b h k = k
both_true false b h k = absurd (cc)

-- no value of a CASE in a list occurs before it or twice in it, and DEFAULT occurs at most once
record Fresh (M : Met) (is : Items) : Type 0 where
  apart : (v : ℕ) → has_value M.values v ≡ true → has (cases_of is) v ≡ false
  distinct : are_distinct (cases_of is) ≡ true
  none : M.default ≡ true → defaults_in is ≡ 0
  few : defaults_in is ≤ 1

value_kept : (vs : List ℕ) (w v : ℕ) → has_value vs v ≡ true → has_value (vs ++ w ∷ []) v ≡ true
value_kept [] w v h = absurd (cc)
value_kept (x ∷ vs) w v h = by (x == v) h (value_kept vs w v) where
  by : (b : Bool) → (b || has_value vs v) ≡ true → (has_value vs v ≡ true → has_value (vs ++ w ∷ []) v ≡ true) → (b || has_value (vs ++ w ∷ []) v) ≡ true
  by true i rest = refl
  by false i rest = rest i

value_last : (vs : List ℕ) (w : ℕ) → has_value (vs ++ w ∷ []) w ≡ true
value_last [] w = by (w == w) (same_number w) where
  by : (b : Bool) → b ≡ true → (b || false) ≡ true
  by true h = refl
  by false h = h
value_last (x ∷ vs) w = by (x == w) (value_last vs w) where
  by : (b : Bool) → has_value (vs ++ w ∷ []) w ≡ true → (b || has_value (vs ++ w ∷ []) w) ≡ true
  by true h = refl
  by false h = h

other_value : (vs : List ℕ) (w v : ℕ) → has_value vs w ≡ false → has_value vs v ≡ true → (w == v) ≡ false
other_value vs w v h i = by (w == v) refl where
  by : (b : Bool) → (w == v) ≡ b → b ≡ false
  by true e = let same : w ≡ v = grind (arith, nat_tests) in absurd (let j : has_value vs v ≡ false = ap (has_value vs) (sym same) ∙ h in cc)
  by false e = refl

neither : (a b : Bool) → a ≡ false → b ≡ false → (a || b) ≡ false
neither true b h k = h
neither false b h k = k

labels_fresh : (M : Met) (E : Env) (k : ℕ) (at : Numbers) (ls : tree.Labels) (is : Items) → labels_fault true M E at ls ≡ None → Fresh (met_labels E M ls) is → Fresh M (core_labels E k ls is)
labels_fresh M E k at tree.no_labels is h i = i
labels_fresh M E k at (tree.label (tree.Case c) ls) is h i =
    let w = constant E c in
    let M1 = met_label E M (tree.Case c) in
    let js = core_labels E (k + 0) ls is in
    let of_constant = or_else (along.fault true E at c 0) (faults.not_constant E c) in
    let twice : Option Fault = unless (not (has_value M.values w)) ACaseTwice in
    let rest = labels_fault true M1 E at ls in
    let new = not_true (has_value M.values w) (no_fault (not (has_value M.values w)) ACaseTwice (none_right of_constant twice (none_left (or_else of_constant twice) rest h))) in
    let inner = labels_fresh M1 E (k + 0) at ls is (none_right (or_else of_constant twice) rest h) i in
    record {
      apart = λ v l. neither (w == v) (has (cases_of js) v) (other_value M.values w v new l) (inner.apart v (value_kept M.values w v l));
      distinct = both_true (not (has (cases_of js) w)) (are_distinct (cases_of js)) (ap not (inner.apart w (value_last M.values w))) inner.distinct;
      none = inner.none;
      few = inner.few;
    }
labels_fresh M E k at (tree.label tree.Default ls) is h i =
    let M1 = met_label E M tree.Default in
    let js = core_labels E (k + 0) ls is in
    let twice : Option Fault = unless (not M.default) ACaseTwice in
    let rest = labels_fault true M1 E at ls in
    let new = not_true M.default (no_fault (not M.default) ACaseTwice (none_left twice rest h)) in
    let inner = labels_fresh M1 E (k + 0) at ls is (none_right twice rest h) i in
    let alone : defaults_in js ≡ 0 = inner.none refl in
    record {
      apart = inner.apart;
      distinct = inner.distinct;
      none = λ e. absurd (cc);
      few = omega arith;
    }
labels_fresh M E k at (tree.label (tree.Named n) ls) is h i =
    let M1 = met_label E M (tree.Named n) in
    let inner = labels_fresh M1 E (k + 1) at ls is (none_right (faults.twice_fault M.names n) (labels_fault true M1 E at ls) h) i in
    record { apart = inner.apart; distinct = inner.distinct; none = inner.none; few = inner.few }

items_fresh : (M : Met) (W : Allowed) (E : Env) (k : ℕ) (at : Numbers) (is : tree.Items) (s : ℕ) → items_fault true M W E at is s ≡ None → Fresh M (core_items E k at is s)
items_fresh M W E k at tree.no_items s h = record { apart = λ v l. refl; distinct = refl; none = λ e. refl; few = omega arith }
items_fresh M W E k at (tree.item (tree.Labelled ls c) is) s h =
    let M1 = met_labels E M ls in
    let of_command = along.command_fault W E at c s in
    let rest = items_fault true M1 W E (after_command at c) is s in
    let inner = items_fresh M1 W E (k + labels_of ls) (after_command at c) is s (none_right of_command rest (none_right (labels_fault true M E at ls) (or_else of_command rest) h)) in
    labels_fresh M E k at ls _ (none_left (labels_fault true M E at ls) (or_else of_command rest) h) (record { apart = inner.apart; distinct = inner.distinct; none = inner.none; few = inner.few })
items_fresh M W E k at (tree.item (tree.Labels_alone ls) is) s h =
    let M1 = met_labels E M ls in
    let rest = items_fault true M1 W E at is s in
    labels_fresh M E k at ls _ (none_left (labels_fault true M E at ls) rest h) (items_fresh M1 W E (k + labels_of ls) at is s (none_right (labels_fault true M E at ls) rest h))

is_few : (n : ℕ) → n ≤ 1 → nat_le n 1 ≡ true
is_few n h = grind (arith, nat_tests)

pub entered : (W : Allowed) (E : Env) (k : ℕ) (at : Numbers) (is : tree.Items) (s : ℕ) → items_fault true faults.none_met W E at is s ≡ None
    → entries_differ (core_items E k at is s) ≡ true
entered W E k at is s h =
    let own = items_fresh faults.none_met W E k at is s h in
    let js = core_items E k at is s in
    both_true (are_distinct (cases_of js)) (nat_le (defaults_in js) 1) own.distinct (is_few (defaults_in js) own.few)
