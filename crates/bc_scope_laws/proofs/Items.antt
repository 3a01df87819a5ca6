-- Command lists: labels, and lists without labels.
use Rattle.std.proofs.Common.{◌≡◌, ◌∙◌, ℕ, ◌+◌, ◌||◌, Bool, true, false, List, [], ◌∷◌, refl, sym, ap, arith}
use Rattle.std.specs.Prelude.{◌==◌}
use Rattle.bc_parse_tree.specs.Tree as tree
use Rattle.bc_core.specs.Commands.{Command, block, Items, no_item, command, label}
use Rattle.bc_core.specs.Commands as core
use Rattle.bc_core.specs.Level.{side_level}
use Rattle.bc_core.specs.Outcome.{then_do, both, write}
use Rattle.bc_core.specs.Exit.{past, onward}
use Rattle.bc_core.specs.Value.{Context, assign}
use Rattle.bc_core.specs.Lists.{Entry, Beginning, has_label, has_case, listed}
use Rattle.bc_core.specs.Command.{perform, perform_block, perform_items}
use Rattle.bc_scope_defs.specs.Scope.{Env, Numbers}
use Rattle.bc_scope_defs.specs.Numbering.{after_command, labels_of}
use Rattle.bc_scope_defs.specs.Scoping.{constant}
use Rattle.bc_scope_defs.specs.Meaning.{met_labels, among_labels, has_label_in, among_cases, has_case_in, Side, set_side, set_sides}
use Rattle.bc_scope_defs.specs.Translation.{Forms, core_labels, core_items, assignments, assignment, block_of}
use Rattle.bc_scope_laws.proofs.Runs.{then_then, then_onward, listed_without_labels}
use Rattle.bc_scope_laws.proofs.Forms.{CallsAre, worth_of}

pub labels_met : (C : Context) (E : Env) (k : ℕ) (ls : tree.Labels) (is : Items) (p s : ℕ) (from : Entry) → perform_items C (core_labels E k ls is) p s from ≡ perform_items C is p s (met_labels E k ls from)
labels_met C E k tree.no_labels is p s from = refl
labels_met C E k (tree.label (tree.Case c) ls) is p s from = labels_met C E (k + 0) ls is p s _
labels_met C E k (tree.label tree.Default ls) is p s from = labels_met C E (k + 0) ls is p s _
labels_met C E k (tree.label (tree.Named n) ls) is p s from = labels_met C E (k + 1) ls is p s _

or_or : (a b c : Bool) → (a || (b || c)) ≡ ((a || b) || c)
or_or true b c = refl
or_or false b c = refl

pub label_among : (E : Env) (k : ℕ) (ls : tree.Labels) (is : Items) (l : ℕ) → has_label (core_labels E k ls is) l ≡ (among_labels k ls l || has_label is l)
label_among E k tree.no_labels is l = refl
label_among E k (tree.label (tree.Case c) ls) is l = label_among E (k + 0) ls is l
label_among E k (tree.label tree.Default ls) is l = label_among E (k + 0) ls is l
label_among E k (tree.label (tree.Named n) ls) is l = ap (λ b. k == l || b) (label_among E (k + 1) ls is l) ∙ or_or (k == l) (among_labels (k + 1) ls l) (has_label is l)

pub label_kept : (E : Env) (k : ℕ) (at : Numbers) (is : tree.Items) (s l : ℕ) → has_label (core_items E k at is s) l ≡ has_label_in k is l
label_kept E k at tree.no_items s l = refl
label_kept E k at (tree.item (tree.Labelled ls c) is) s l = label_among E k ls _ l ∙ ap (λ b. among_labels k ls l || b) (label_kept E (k + labels_of ls) (after_command at c) is s l)
label_kept E k at (tree.item (tree.Labels_alone ls) is) s l = label_among E k ls _ l ∙ ap (λ b. among_labels k ls l || b) (label_kept E (k + labels_of ls) at is s l)

case_among : (E : Env) (k : ℕ) (ls : tree.Labels) (is : Items) (v : ℕ) → has_case (core_labels E k ls is) v ≡ (among_cases E ls v || has_case is v)
case_among E k tree.no_labels is v = refl
case_among E k (tree.label (tree.Case c) ls) is v = ap (λ b. constant E c == v || b) (case_among E (k + 0) ls is v) ∙ or_or (constant E c == v) (among_cases E ls v) (has_case is v)
case_among E k (tree.label tree.Default ls) is v = case_among E (k + 0) ls is v
case_among E k (tree.label (tree.Named n) ls) is v = case_among E (k + 1) ls is v

pub case_kept : (E : Env) (k : ℕ) (at : Numbers) (is : tree.Items) (s v : ℕ) → has_case (core_items E k at is s) v ≡ has_case_in E is v
case_kept E k at tree.no_items s v = refl
case_kept E k at (tree.item (tree.Labelled ls c) is) s v = case_among E k ls _ v ∙ ap (λ b. among_cases E ls v || b) (case_kept E (k + labels_of ls) (after_command at c) is s v)
case_kept E k at (tree.item (tree.Labels_alone ls) is) s v = case_among E k ls _ v ∙ ap (λ b. among_cases E ls v || b) (case_kept E (k + labels_of ls) at is s v)

-- a block without declarations and labels does what its items do

pub plain_block : (C : Context) (is : Items) (p s : ℕ) → ((l : ℕ) → has_label is l ≡ false) → perform_block C (block [] is) p s ≡ perform_items C is p s Beginning
plain_block C is p s none =
    let e : s + 0 ≡ s = omega arith in
    (λ i. listed (λ l. none l i) (perform_items C is p (e i)) Beginning) ∙ listed_without_labels (perform_items C is p s) Beginning

pub one_command : (C : Context) (c : Command) (p s : ℕ) → perform_block C (block_of c) p s ≡ perform C c p s
one_command C c p s = plain_block C (command c no_item) p s (λ l. refl) ∙ then_onward (perform C c p s)

-- Assignments

-- these sides, each at its level, have these forms
abbrev pub SidesAre : Context → (p : ℕ) → List Side → List Forms → List ℕ → Type 0
SidesAre C p (x ∷ xs) (f ∷ fs) (s ∷ ss) = CallsAre f x.calls × (x.worth ≡ worth_of C f p s) × SidesAre C p xs fs ss
SidesAre C p [] [] ss = Unit {0}
SidesAre C p [] (f ∷ fs) [] = Unit {0}
SidesAre C p _ _ _ = ⊥

abbrev pub levels : List Forms → ℕ → List ℕ
levels [] s = []
levels (f ∷ fs) s = side_level f.address s ∷ levels fs s

set_is_assign : (C : Context) (p s : ℕ) (x e : Side) (f g : Forms) → CallsAre f x.calls → x.worth ≡ worth_of C f p (side_level f.address s) → CallsAre g e.calls → e.worth ≡ worth_of C g p (side_level f.address s)
    → set_side x e ≡ assign C g.content f.address p s
set_is_assign C p s x e f g cx wx ce we = λ i. both (sym ce.1 i || sym cx.0 i) (we i).content.value (wx i).address.value (λ w a. write a w)

pub pairs_mean : (C : Context) (p s : ℕ) (xs es : List Side) (fs gs : List Forms) → SidesAre C p xs fs (levels fs s) → SidesAre C p es gs (levels fs s)
    → set_sides xs es ≡ perform_items C (assignments fs gs) p s Beginning
pairs_mean C p s [] es [] gs hx he = refl
pairs_mean C p s (x ∷ xs) es [] gs hx he = absurd hx
pairs_mean C p s [] es (f ∷ fs) gs hx he = absurd hx
pairs_mean C p s (x ∷ xs) [] (f ∷ fs) [] hx he = refl
pairs_mean C p s (x ∷ xs) [] (f ∷ fs) (g ∷ gs) hx he = absurd he
pairs_mean C p s (x ∷ xs) (e ∷ es) (f ∷ fs) [] hx he = absurd he
pairs_mean C p s (x ∷ xs) (e ∷ es) (f ∷ fs) (g ∷ gs) hx he =
    (λ i. then_do (set_is_assign C p s x e f g hx.0 hx.1 he.0 he.1 i) (λ u. pairs_mean C p s xs es fs gs hx.2 he.2 i))
    ∙ sym (then_then (assign C g.content f.address p s) past (onward (perform_items C (assignments fs gs) p s Beginning)))

no_label_in_assignments : (fs gs : List Forms) (l : ℕ) → has_label (assignments fs gs) l ≡ false
no_label_in_assignments [] gs l = refl
no_label_in_assignments (f ∷ fs) [] l = refl
no_label_in_assignments (f ∷ fs) (g ∷ gs) l = no_label_in_assignments fs gs l

several_mean : (C : Context) (p s : ℕ) (xs es : List Side) (fs gs : List Forms) → SidesAre C p xs fs (levels fs s) → SidesAre C p es gs (levels fs s)
    → set_sides xs es ≡ perform C (core.Nested (block [] (assignments fs gs))) p s
several_mean C p s xs es fs gs hx he = pairs_mean C p s xs es fs gs hx he ∙ sym (plain_block C (assignments fs gs) p s (no_label_in_assignments fs gs))

pub assignment_means : (C : Context) (p s : ℕ) (xs es : List Side) (fs gs : List Forms) → SidesAre C p xs fs (levels fs s) → SidesAre C p es gs (levels fs s)
    → set_sides xs es ≡ perform C (assignment fs gs) p s
assignment_means C p s (x ∷ []) (e ∷ []) (f ∷ []) (g ∷ []) hx he = λ i. then_do (set_is_assign C p s x e f g hx.0 hx.1 he.0 he.1 i) past
assignment_means C p s (x ∷ y ∷ xs) es (f ∷ []) gs hx he = absurd hx.2
assignment_means C p s [] es (f ∷ []) gs hx he = absurd hx
assignment_means C p s (x ∷ []) [] (f ∷ []) (g ∷ []) hx he = absurd he
assignment_means C p s (x ∷ []) (e ∷ d ∷ es) (f ∷ []) (g ∷ []) hx he = absurd he.2
assignment_means C p s xs es [] gs hx he = several_mean C p s xs es [] gs hx he
assignment_means C p s xs es (f ∷ f1 ∷ fs) gs hx he = several_mean C p s xs es (f ∷ f1 ∷ fs) gs hx he
assignment_means C p s xs es (f ∷ []) [] hx he = several_mean C p s xs es (f ∷ []) [] hx he
assignment_means C p s xs es (f ∷ []) (g ∷ g1 ∷ gs) hx he = several_mean C p s xs es (f ∷ []) (g ∷ g1 ∷ gs) hx he
