-- The translation of a section without fault is well formed: blocks and commands.
use Rattle.std.proofs.Common.{◌≡◌, ◌∙◌, ℕ, ◌+◌, ◌*◌, ◌≤◌, ◌<◌, ◌==◌, ◌||◌, ◌&&◌, not, Bool, true, false, List, [], ◌∷◌, ◌++◌, Some, None, refl, sym, ap, subst, arith}
use Rattle.bc_parse_tree.specs.Tree as tree
use Rattle.bc_core.specs.Tree.{Exp, Frame}
use Rattle.bc_core.specs.Commands as core
use Rattle.bc_core.specs.Commands.{Items, no_item, command, case, default, label}
use Rattle.bc_core.specs.Level.{level_in_for, side_level}
use Rattle.bc_core.specs.WellFormed.{Around, Jumps, nodes, most_nodes, exp_fits, root_fits, assignment_fits, variables_fit, declarations_fit, has, are_distinct, has_entries, command_fits, block_fits, items_fit}
use Rattle.bc_core.specs.WellFormed as fitting
use Rattle.bc_scope_defs.specs.Scope.{Meant, Constant, Pending, Static, Global, Routine, Variable, OuterVariable, OuterLabel, StrayVariable, StrayLabel, LabelOutside, Undeclared, Env, Name, Numbers, meant_by, after_labels}
use Rattle.bc_scope_defs.specs.Scope as scope
use Rattle.bc_scope_defs.specs.Numbering.{following, after_all, after_declarations, after_declaration, after_definition, after_command, after_block, labels_of, labels_in}
use Rattle.bc_scope_defs.specs.Scoping.{pending, before_let, in_let, in_declaration, in_declarations, cells_in, level_after, in_for, in_labels, in_list, in_valof}
use Rattle.bc_scope_defs.specs.Scoping as scoping
use Rattle.bc_scope_defs.specs.Translation.{Forms, forms, forms_of_all, assignments, assignment, initials, core_definition, core_definitions, core_declarations, core_labels, core_block, core_items, block_of}
use Rattle.bc_scope_defs.specs.Translation as translation
use Rattle.bc_scope_defs.specs.Found.{found, found_in_sides, found_in_initials, found_in_definition, found_in_definitions, found_in_declaration, found_in_declarations, found_in_block, found_in_items, found_in_command}
use Rattle.bc_parse_tree.specs.Size.{exp_size, exps_size, block_size, declarations_size, definition_size, definitions_size, items_size, command_size}
use Rattle.bc_core.specs.Lists.{has_label}
use Rattle.bc_scope_defs.specs.Sides.{side_levels}
use Rattle.bc_scope_defs.specs.Meaning.{among_labels, has_label_in, label_number}
use Rattle.bc_scope_defs.specs.Faults.{Fault, or_else, Allowed}
use Rattle.bc_scope_defs.specs.Faults as faults
use Rattle.bc_scope_defs.specs.FaultsAlong as along
use Rattle.bc_scope_laws.proofs.Declared.{cells_kept, level_kept}
use Rattle.bc_scope_laws.proofs.Small.{small, few, nodes_of_addresses, nodes_of_contents, addresses_small, contents_small}
use Rattle.bc_scope_laws.proofs.Items.{label_among, label_kept, levels}
use Rattle.bc_scope_laws.proofs.SideLevels.{levels_kept}
use Rattle.bc_scope_laws.proofs.Table.{same_number, other_number}
use Rattle.bc_scope_laws.proofs.Entries.{entered}
use Rattle.bc_scope_laws.proofs.Fits.{AllThings, first, second, Stands, MeantFits, Sound, sound_more, sound_definitions, sound_pending, sound_entries, none_left, none_right, no_fault, FormFits, exp_fit}

-- a root with twice as many nodes is still within the limit
abbrev pub most_size : ℕ
most_size = 524288

abbrev jumps_of : Allowed → List ℕ → Jumps
jumps_of W L = record { in_loop = W.in_loop; in_cases = W.in_cases; in_valof = W.in_valof; may_return = W.may_return; labels = L }

-- Labels of lists

or_left : (a b : Bool) → a ≡ true → (a || b) ≡ true
or_left a b h = λ i. (h i || b)

or_right : (a b : Bool) → b ≡ true → (a || b) ≡ true
or_right true b h = refl
or_right false b h = h

or_more : (a b c : Bool) → (b ≡ true → c ≡ true) → (a || b) ≡ true → (a || c) ≡ true
or_more true b c f h = refl
or_more false b c f h = f h

has_in_second : (ks ls : List ℕ) (l : ℕ) → has ls l ≡ true → has (ks ++ ls) l ≡ true
has_in_second [] ls l h = h
has_in_second (k ∷ ks) ls l h = or_right (k == l) _ (has_in_second ks ls l h)

no_truth : (b : Bool) → false ≡ true → b ≡ true
no_truth b h = cc

has_in_first : (ks ls : List ℕ) (l : ℕ) → has ks l ≡ true → has (ks ++ ls) l ≡ true
has_in_first [] ls l h = no_truth _ h
has_in_first (k ∷ ks) ls l h = or_more (k == l) _ _ (has_in_first ks ls l) h

meant_still : (P : ℕ) (K L : List ℕ) (m : Meant) → MeantFits P L m → MeantFits P (K ++ L) m
meant_still P K L (scope.Label l) h = has_in_second K L l h
meant_still P K L (Constant w) h = tt
meant_still P K L Pending h = tt
meant_still P K L (Static m) h = h
meant_still P K L (Global n) h = h
meant_still P K L (Routine m) h = h
meant_still P K L (Variable k) h = tt
meant_still P K L OuterVariable h = tt
meant_still P K L OuterLabel h = tt
meant_still P K L StrayVariable h = tt
meant_still P K L StrayLabel h = tt
meant_still P K L LabelOutside h = tt
meant_still P K L Undeclared h = tt

sound_still : {P : ℕ} {L : List ℕ} {E : Env} (K : List ℕ) → Sound P L E → Sound P (K ++ L) E
sound_still {P} {L} {E} K h = record { from = λ n. meant_still P K L (meant_by E n) (h.from n) }

sound_labels : {P : ℕ} {L : List ℕ} (k : ℕ) (ls : tree.Labels) (E : Env) → ((l : ℕ) → among_labels k ls l ≡ true → has L l ≡ true) → Sound P L E → Sound P L (in_labels k ls E)
sound_labels k tree.no_labels E h so = so
sound_labels k (tree.label (tree.Case c) ls) E h so = sound_labels (k + 0) ls E h so
sound_labels k (tree.label tree.Default ls) E h so = sound_labels (k + 0) ls E h so
sound_labels k (tree.label (tree.Named n) ls) E h so =
    sound_labels (k + 1) ls _ (λ l e. h l (or_right (k == l) _ e)) (sound_more n (scope.Label k) (h k (or_left (k == k) _ (same_number k k refl))) so)

pub sound_list : {P : ℕ} {L : List ℕ} (k : ℕ) (is : tree.Items) (E : Env) → ((l : ℕ) → has_label_in k is l ≡ true → has L l ≡ true) → Sound P L E → Sound P L (in_list k is E)
sound_list k tree.no_items E h so = so
sound_list k (tree.item (tree.Labelled ls c) is) E h so =
    sound_list (k + labels_of ls) is _ (λ l e. h l (or_right (among_labels k ls l) _ e)) (sound_labels k ls E (λ l e. h l (or_left _ _ e)) so)
sound_list k (tree.item (tree.Labels_alone ls) is) E h so =
    sound_list (k + labels_of ls) is _ (λ l e. h l (or_right (among_labels k ls l) _ e)) (sound_labels k ls E (λ l e. h l (or_left _ _ e)) so)

has_is : (is : Items) (l : ℕ) → has (fitting.labels_of is) l ≡ has_label is l
has_is no_item l = refl
has_is (command c is) l = has_is is l
has_is (case k is) l = has_is is l
has_is (default is) l = has_is is l
has_is (label k is) l = ap (λ b. k == l || b) (has_is is l)

-- the list's own labels are among those that GOTO may go to
pub sound_in_list : {P : ℕ} {L : List ℕ} (E0 : Env) (k : ℕ) (at : Numbers) (is : tree.Items) (s : ℕ) (E : Env) → Sound P L E
    → Sound P (fitting.labels_of (core_items E0 k at is s) ++ L) (in_list k is E)
sound_in_list {P} {L} E0 k at is s E so =
    let own = fitting.labels_of (core_items E0 k at is s) in
    sound_list k is E (λ l e. has_in_first own L l (has_is (core_items E0 k at is s) l ∙ label_kept E0 k at is s l ∙ e)) (sound_still own so)

-- they rise, so no two are the same
not_among : (k : ℕ) (ls : tree.Labels) (m : ℕ) → m < k → among_labels k ls m ≡ false
not_among k tree.no_labels m h = refl
not_among k (tree.label (tree.Case c) ls) m h = not_among (k + 0) ls m (omega arith)
not_among k (tree.label tree.Default ls) m h = not_among (k + 0) ls m (omega arith)
not_among k (tree.label (tree.Named n) ls) m h = λ i. other_number m k h i || not_among (k + 1) ls m (omega arith) i

not_in_list : (k : ℕ) (is : tree.Items) (m : ℕ) → m < k → has_label_in k is m ≡ false
not_in_list k tree.no_items m h = refl
not_in_list k (tree.item (tree.Labelled ls c) is) m h = λ i. not_among k ls m h i || not_in_list (k + labels_of ls) is m (omega arith) i
not_in_list k (tree.item (tree.Labels_alone ls) is) m h = λ i. not_among k ls m h i || not_in_list (k + labels_of ls) is m (omega arith) i

distinct_labels : (E : Env) (k : ℕ) (ls : tree.Labels) (is : Items) → ((m : ℕ) → m < k + labels_of ls → has_label is m ≡ false) → are_distinct (fitting.labels_of is) ≡ true → are_distinct (fitting.labels_of (core_labels E k ls is)) ≡ true
distinct_labels E k tree.no_labels is h d = d
distinct_labels E k (tree.label (tree.Case c) ls) is h d = distinct_labels E (k + 0) ls is (λ m l. h m (omega arith)) d
distinct_labels E k (tree.label tree.Default ls) is h d = distinct_labels E (k + 0) ls is (λ m l. h m (omega arith)) d
distinct_labels E k (tree.label (tree.Named n) ls) is h d =
    let fresh : has (fitting.labels_of (core_labels E (k + 1) ls is)) k ≡ false =
    has_is (core_labels E (k + 1) ls is) k ∙ label_among E (k + 1) ls is k ∙ (λ i. not_among (k + 1) ls k (omega arith) i || h k (omega arith) i) in
    λ i. not (fresh i) && distinct_labels E (k + 1) ls is (λ m l. h m (omega arith)) d i

distinct : (E : Env) (k : ℕ) (at : Numbers) (is : tree.Items) (s : ℕ) → are_distinct (fitting.labels_of (core_items E k at is s)) ≡ true
distinct E k at tree.no_items s = refl
distinct E k at (tree.item (tree.Labelled ls c) is) s =
    distinct_labels E k ls _ (λ m l. label_kept E (k + labels_of ls) (after_command at c) is s m ∙ not_in_list (k + labels_of ls) is m l) (distinct E (k + labels_of ls) (after_command at c) is s)
distinct E k at (tree.item (tree.Labels_alone ls) is) s =
    distinct_labels E k ls _ (λ m l. label_kept E (k + labels_of ls) at is s m ∙ not_in_list (k + labels_of ls) is m l) (distinct E (k + labels_of ls) at is s)

-- CASE and DEFAULT occur only in the list of a SWITCHON

some_none : (f : Fault) → Some f ≡ None → ⊥
some_none f h = cc

no_case : (M : faults.Met) (E : Env) (k : ℕ) (at : Numbers) (ls : tree.Labels) (is : Items) → along.labels_fault false M E at ls ≡ None → has_entries (core_labels E k ls is) ≡ has_entries is
no_case M E k at tree.no_labels is h = refl
no_case M E k at (tree.label (tree.Case c) ls) is h =
    let constant_fault = or_else (along.fault true E at c 0) (faults.not_constant E c) in
    let rest = along.labels_fault false (faults.met_label E M (tree.Case c)) E at ls in
    absurd (some_none faults.AMisplaced (none_right constant_fault (Some faults.AMisplaced) (none_left (or_else constant_fault (Some faults.AMisplaced)) rest h)))
no_case M E k at (tree.label tree.Default ls) is h =
    absurd (some_none faults.AMisplaced (none_left (Some faults.AMisplaced) (along.labels_fault false (faults.met_label E M tree.Default) E at ls) h))
no_case M E k at (tree.label (tree.Named n) ls) is h =
    let M1 = faults.met_label E M (tree.Named n) in
    no_case M1 E (k + 1) at ls is (none_right (faults.twice_fault M.names n) (along.labels_fault false M1 E at ls) h)

no_cases : (M : faults.Met) (W : Allowed) (E : Env) (k : ℕ) (at : Numbers) (is : tree.Items) (s : ℕ) → along.items_fault false M W E at is s ≡ None → has_entries (core_items E k at is s) ≡ false
no_cases M W E k at tree.no_items s h = refl
no_cases M W E k at (tree.item (tree.Labelled ls c) is) s h =
    let rest = along.items_fault false (faults.met_labels E M ls) W E (after_command at c) is s in
    let of_item = or_else (along.command_fault W E at c s) rest in
    no_case M E k at ls _ (none_left (along.labels_fault false M E at ls) of_item h)
    ∙ no_cases (faults.met_labels E M ls) W E (k + labels_of ls) (after_command at c) is s
    (none_right (along.command_fault W E at c s) rest (none_right (along.labels_fault false M E at ls) of_item h))
no_cases M W E k at (tree.item (tree.Labels_alone ls) is) s h =
    let rest = along.items_fault false (faults.met_labels E M ls) W E at is s in
    no_case M E k at ls _ (none_left (along.labels_fault false M E at ls) rest h)
    ∙ no_cases (faults.met_labels E M ls) W E (k + labels_of ls) at is s (none_right (along.labels_fault false M E at ls) rest h)

labels_fit : (A : Around) (J : Jumps) (E : Env) (k : ℕ) (ls : tree.Labels) (is : Items) (s : ℕ) → items_fit A J (core_labels E k ls is) s ≡ items_fit A J is s
labels_fit A J E k tree.no_labels is s = refl
labels_fit A J E k (tree.label (tree.Case c) ls) is s = labels_fit A J E (k + 0) ls is s
labels_fit A J E k (tree.label tree.Default ls) is s = labels_fit A J E (k + 0) ls is s
labels_fit A J E k (tree.label (tree.Named n) ls) is s = labels_fit A J E (k + 1) ls is s

plain_fits : (A : Around) (J : Jumps) (is : Items) (s : ℕ) → has_entries is ≡ false → fitting.labels_of is ≡ [] → items_fit A J is s ≡ true → block_fits A J (core.block [] is) s ≡ true
plain_fits A J is s none no_labels h =
    let e : s + 0 ≡ s = omega arith in
    (λ i. true && not (none i) && are_distinct (no_labels i) && items_fit A (record J { labels = no_labels i ++ J.labels }) is (e i)) ∙ h

-- Assignments

abbrev SidesFit : Around → List Forms → List ℕ → Type 0
SidesFit A [] ss = Unit {0}
SidesFit A (f ∷ fs) [] = Unit {0}
SidesFit A (f ∷ fs) (s ∷ ss) = FormFits A f s × SidesFit A fs ss

one_fits : (A : Around) (f g : Forms) (s : ℕ) → nodes g.content + nodes f.address ≤ most_nodes → FormFits A f (side_level f.address s) → FormFits A g (side_level f.address s) → assignment_fits A g.content f.address s ≡ true
one_fits A f g s n hf hg = λ i. few (nodes g.content + nodes f.address) n i && hg.1 i && hf.0 i

pairs_fit : (A : Around) (J : Jumps) (s : ℕ) (fs gs : List Forms) → nodes_of_addresses fs + nodes_of_contents gs ≤ most_nodes → SidesFit A fs (levels fs s) → SidesFit A gs (levels fs s) → items_fit A J (assignments fs gs) s ≡ true
pairs_fit A J s [] gs n hf hg = refl
pairs_fit A J s (f ∷ fs) [] n hf hg = refl
pairs_fit A J s (f ∷ fs) (g ∷ gs) n hf hg = λ i. one_fits A f g s (omega arith) hf.0 hg.0 i && pairs_fit A J s fs gs (omega arith) hf.1 hg.1 i

plain_pairs : (fs gs : List Forms) → has_entries (assignments fs gs) ≡ false
plain_pairs [] gs = refl
plain_pairs (f ∷ fs) [] = refl
plain_pairs (f ∷ fs) (g ∷ gs) = plain_pairs fs gs

unlabelled_pairs : (fs gs : List Forms) → fitting.labels_of (assignments fs gs) ≡ []
unlabelled_pairs [] gs = refl
unlabelled_pairs (f ∷ fs) [] = refl
unlabelled_pairs (f ∷ fs) (g ∷ gs) = unlabelled_pairs fs gs

several_fit : (A : Around) (J : Jumps) (s : ℕ) (fs gs : List Forms) → nodes_of_addresses fs + nodes_of_contents gs ≤ most_nodes → SidesFit A fs (levels fs s) → SidesFit A gs (levels fs s) → command_fits A J (core.Nested (core.block [] (assignments fs gs))) s ≡ true
several_fit A J s fs gs n hf hg = plain_fits A J (assignments fs gs) s (plain_pairs fs gs) (unlabelled_pairs fs gs) (pairs_fit A J s fs gs n hf hg)

assignment_fit : (A : Around) (J : Jumps) (s : ℕ) (fs gs : List Forms) → nodes_of_addresses fs + nodes_of_contents gs ≤ most_nodes → SidesFit A fs (levels fs s) → SidesFit A gs (levels fs s) → command_fits A J (assignment fs gs) s ≡ true
assignment_fit A J s [] gs n hf hg = several_fit A J s [] gs n hf hg
assignment_fit A J s (f ∷ f1 ∷ fs) gs n hf hg = several_fit A J s (f ∷ f1 ∷ fs) gs n hf hg
assignment_fit A J s (f ∷ []) [] n hf hg = several_fit A J s (f ∷ []) [] n hf hg
assignment_fit A J s (f ∷ []) (g ∷ g1 ∷ gs) n hf hg = several_fit A J s (f ∷ []) (g ∷ g1 ∷ gs) n hf hg
assignment_fit A J s (f ∷ []) (g ∷ []) n hf hg = one_fits A f g s (omega arith) hf.0 hg.0

sides_fit : {L : List ℕ} (A : Around) (E : Env) (at : Numbers) (es : tree.Exps) (ss : List ℕ) → Sound A.places L E → AllThings (Stands A) (found_in_sides E at es ss) → SidesFit A (forms_of_all E at es) ss
sides_fit A E at tree.none ss so h = tt
sides_fit A E at (tree.more e es) [] so h = tt
sides_fit A E at (tree.more e es) (s ∷ ss) so h =
    let of_first = found E at e s in
    let of_rest = found_in_sides E (following at e) es ss in
    (exp_fit A E at e s so (first (Stands A) of_first of_rest h), sides_fit A E (following at e) es ss so (second (Stands A) of_first of_rest h))

-- Declarations

abbrev VariablesFit : Around → List core.Variable → (s : ℕ) → Type 0
VariablesFit A [] s = Unit {0}
VariablesFit A (core.Initial e ∷ vs) s = (assignment_fits A e (Frame 0) s ≡ true) × VariablesFit A vs s
VariablesFit A (core.Vector n ∷ vs) s = VariablesFit A vs s

-- variables that fit do so at any offset
variables_stand : (A : Around) (vs : List core.Variable) (k s : ℕ) → VariablesFit A vs s → variables_fit A vs k s ≡ true
variables_stand A [] k s h = refl
variables_stand A (core.Initial e ∷ vs) k s h = λ i. h.0 i && variables_stand A vs (k + 1) s h.1 i
variables_stand A (core.Vector n ∷ vs) k s h = variables_stand A vs (k + (n + 2)) s h

variables_append : (A : Around) (vs ws : List core.Variable) (s : ℕ) → VariablesFit A vs s → VariablesFit A ws s → VariablesFit A (vs ++ ws) s
variables_append A [] ws s h k = k
variables_append A (core.Initial e ∷ vs) ws s h k = (h.0, variables_append A vs ws s h.1 k)
variables_append A (core.Vector n ∷ vs) ws s h k = variables_append A vs ws s h k

initials_fit : {L : List ℕ} (A : Around) (E : Env) (at : Numbers) (es : tree.Exps) (s : ℕ) → exps_size es + 1 ≤ most_size → Sound A.places L E → AllThings (Stands A) (found_in_initials E at es s) → VariablesFit A (initials (forms_of_all E at es)) s
initials_fit A E at tree.none s z so h = tt
initials_fit A E at (tree.more e es) s z so h =
    let of_first = found E at e s in
    let of_rest = found_in_initials E (following at e) es s in
    let he = exp_fit A E at e s so (first (Stands A) of_first of_rest h) in
    let n : nodes (forms E at e).content ≤ 2 * exp_size e = (small E at e).1 in
    let e_few : nodes (forms E at e).content + 1 ≤ most_nodes = omega arith in
    ((λ i. few (nodes (forms E at e).content + 1) e_few i && he.1 i && true), initials_fit A E (following at e) es s (omega arith) so (second (Stands A) of_first of_rest h))

definition_fits : {L : List ℕ} (A : Around) (O E B : Env) (at : Numbers) (d : tree.Definition) (s : ℕ) → definition_size d ≤ most_size → Sound A.places L E → AllThings (Stands A) (found_in_definition O E at d s) → VariablesFit A (core_definition E B at d) s
definition_fits A O E B at (tree.Variables ns es) s z so h = initials_fit A E at es s (omega arith) so h
definition_fits A O E B at (tree.Vector n c) s z so h = tt
definition_fits A O E B at (tree.Function n ps e) s z so h = tt
definition_fits A O E B at (tree.Routine n ps b) s z so h = tt

definitions_fit : {L : List ℕ} (A : Around) (O E B : Env) (at : Numbers) (ds : tree.Definitions) (s : ℕ) → definitions_size ds ≤ most_size → Sound A.places L E → AllThings (Stands A) (found_in_definitions O E at ds s) → VariablesFit A (core_definitions E B at ds) s
definitions_fit A O E B at tree.no_definitions s z so h = tt
definitions_fit A O E B at (tree.definition d ds) s z so h =
    let of_first = found_in_definition O E at d s in
    let of_rest = found_in_definitions O E (after_definition at d) ds s in
    variables_append A (core_definition E B at d) (core_definitions E B (after_definition at d) ds) s
    (definition_fits A O E B at d s (omega arith) so (first (Stands A) of_first of_rest h))
    (definitions_fit A O E B (after_definition at d) ds s (omega arith) so (second (Stands A) of_first of_rest h))

pub sound_declaration : {L : List ℕ} (A : Around) (E : Env) (at : Numbers) (d : tree.Declaration) (s : ℕ) → Sound A.places L E → AllThings (Stands A) (found_in_declaration E at d s) → along.declaration_fault E at d s ≡ None → Sound A.places L (in_declaration E at s d)
sound_declaration A E at (tree.Constants k es) s so h n = sound_entries A k [] at es (pending k es E) h n (sound_pending A k at es E (pending k es E) h so)
sound_declaration A E at (tree.Let ds) s so h n =
    sound_definitions A E (in_let E at s ds) E (before_let ds E) at s (s + scoping.cells_of_all (before_let ds E) ds) ds E h so

pub sound_declarations : {L : List ℕ} (A : Around) (E : Env) (at : Numbers) (ds : tree.Declarations) (s : ℕ) → Sound A.places L E → AllThings (Stands A) (found_in_declarations E at ds s) → along.declarations_fault E at ds s ≡ None → Sound A.places L (in_declarations E at s ds)
sound_declarations A E at tree.no_declarations s so h n = so
sound_declarations A E at (tree.declaration d ds) s so h n =
    let of_first = found_in_declaration E at d s in
    let of_rest = found_in_declarations (in_declaration E at s d) (after_declaration at d) ds (s + cells_in E d) in
    sound_declarations A (in_declaration E at s d) (after_declaration at d) ds (s + cells_in E d)
    (sound_declaration A E at d s so (first (Stands A) of_first of_rest h) (none_left _ _ n)) (second (Stands A) of_first of_rest h) (none_right _ _ n)

declarations_stand : {L : List ℕ} (A : Around) (E : Env) (at : Numbers) (ds : tree.Declarations) (s : ℕ) → declarations_size ds ≤ most_size → Sound A.places L E → AllThings (Stands A) (found_in_declarations E at ds s) → along.declarations_fault E at ds s ≡ None → declarations_fit A (core_declarations E at s ds) s ≡ true
declarations_stand A E at tree.no_declarations s z so h n = refl
declarations_stand A E at (tree.declaration (tree.Constants k es) ds) s z so h n =
    let d : tree.Declaration = tree.Constants k es in
    let E1 = in_declaration E at s d in
    let at1 = after_declaration at d in
    let of_first = found_in_declaration E at d s in
    let of_rest = found_in_declarations E1 at1 ds (s + 0) in
    let e : s ≡ s + 0 = omega arith in
    (λ i. declarations_fit A (core_declarations E1 at1 (s + 0) ds) (e i))
    ∙ declarations_stand A E1 at1 ds (s + 0) (omega arith) (sound_declaration A E at d s so (first (Stands A) of_first of_rest h) (none_left _ _ n)) (second (Stands A) of_first of_rest h) (none_right _ _ n)
declarations_stand A E at (tree.declaration (tree.Let defs) ds) s z so h n =
    let d : tree.Declaration = tree.Let defs in
    let E1 = in_let E at s defs in
    let B = before_let defs E in
    let at1 = after_declaration at d in
    let m = scoping.cells_of_all B defs in
    let of_first = found_in_declaration E at d s in
    let of_rest = found_in_declarations E1 at1 ds (s + m) in
    let so1 = sound_declaration A E at d s so (first (Stands A) of_first of_rest h) (none_left _ _ n) in
    let hd = variables_stand A (core_definitions E1 B at defs) s (s + m) (definitions_fit A E E1 B at defs (s + m) (omega arith) so1 (first (Stands A) of_first of_rest h)) in
    let hs = declarations_stand A E1 at1 ds (s + m) (omega arith) so1 (second (Stands A) of_first of_rest h) (none_right _ _ n) in
    (λ i. let c = s + cells_kept E1 B at defs i in variables_fit A (core_definitions E1 B at defs) s c && declarations_fit A (core_declarations E1 at1 (s + m) ds) c)
    ∙ (λ i. hd i && hs i)

-- Commands

pub root_fit : (A : Around) (e : Exp) (s n : ℕ) → nodes e ≤ 2 * n → n ≤ most_size → exp_fits A e s ≡ true → root_fits A e s ≡ true
root_fit A e s n h z k = let l : nodes e ≤ most_nodes = omega arith in λ i. few (nodes e) l i && k i

jump_fits : (P : ℕ) (L : List ℕ) (n : Name) (m : Meant) → MeantFits P L m → faults.jump_fault n m ≡ None → has L (label_number m) ≡ true
jump_fits P L n (scope.Label l) h k = h
jump_fits P L n (Constant w) h k = cc
jump_fits P L n Pending h k = cc
jump_fits P L n (Static m) h k = cc
jump_fits P L n (Global m) h k = cc
jump_fits P L n (Routine m) h k = cc
jump_fits P L n (Variable m) h k = cc
jump_fits P L n OuterVariable h k = cc
jump_fits P L n OuterLabel h k = cc
jump_fits P L n StrayVariable h k = cc
jump_fits P L n StrayLabel h k = cc
jump_fits P L n LabelOutside h k = cc
jump_fits P L n Undeclared h k = cc

body_fits : (A : Around) (J : Jumps) (c : core.Command) (s : ℕ) → command_fits A J c s ≡ true → block_fits A J (block_of c) s ≡ true
body_fits A J c s h = plain_fits A J (command c no_item) s refl refl (λ i. h i && true)

mutual
  pub block_fit : (A : Around) (W : Allowed) (L : List ℕ) (E : Env) (at : Numbers) (b : tree.Block) (s : ℕ) → block_size b ≤ most_size → Sound A.places L E → AllThings (Stands A) (found_in_block E at b s) → along.block_fault W E at b s ≡ None
      → block_fits A (jumps_of W L) (core_block E at b s) s ≡ true
  block_fit A W L E at (tree.block ds is) s z so h n =
      let at1 = after_declarations at ds in
      let k = at1.label in
      let E1 = in_list k is (in_declarations E at s ds) in
      let at2 = after_labels at1 (labels_in is) in
      let s1 = level_after E at s ds in
      let of_first = found_in_declarations E at ds s in
      let of_rest = found_in_items E1 k at2 is s1 in
      let items = core_items E1 k at2 is s1 in
      let so1 = sound_declarations A E at ds s so (first (Stands A) of_first of_rest h) (none_left _ _ n) in
      let hd = declarations_stand A E at ds s (omega arith) so (first (Stands A) of_first of_rest h) (none_left _ _ n) in
      let so2 = sound_in_list E1 k at2 is s1 (in_declarations E at s ds) so1 in
      let hi = items_stand A false faults.none_met W (fitting.labels_of items ++ L) E1 k at2 is s1 (omega arith) so2 (second (Stands A) of_first of_rest h) (none_right _ _ n) in
      (λ i. hd i && not (no_cases faults.none_met W E1 k at2 is s1 (none_right _ _ n) i) && distinct E1 k at2 is s1 i && items_fit A (jumps_of W (fitting.labels_of items ++ L)) items (sym (level_kept E at s ds) i))
      ∙ hi

  items_stand : (A : Around) (cases : Bool) (M : faults.Met) (W : Allowed) (L : List ℕ) (E : Env) (k : ℕ) (at : Numbers) (is : tree.Items) (s : ℕ) → items_size is ≤ most_size → Sound A.places L E → AllThings (Stands A) (found_in_items E k at is s) → along.items_fault cases M W E at is s ≡ None
      → items_fit A (jumps_of W L) (core_items E k at is s) s ≡ true
  items_stand A cases M W L E k at tree.no_items s z so h n = refl
  items_stand A cases M W L E k at (tree.item (tree.Labelled ls c) is) s z so h n =
      let of_first = found_in_command E at c s in
      let of_rest = found_in_items E (k + labels_of ls) (after_command at c) is s in
      let n1 = none_right _ _ n in
      let hc = command_fit A W L E at c s (omega arith) so (first (Stands A) of_first of_rest h) (none_left _ _ n1) in
      let hs = items_stand A cases (faults.met_labels E M ls) W L E (k + labels_of ls) (after_command at c) is s (omega arith) so (second (Stands A) of_first of_rest h) (none_right _ _ n1) in
      labels_fit A (jumps_of W L) E k ls _ s ∙ (λ i. hc i && hs i)
  items_stand A cases M W L E k at (tree.item (tree.Labels_alone ls) is) s z so h n =
      labels_fit A (jumps_of W L) E k ls _ s ∙ items_stand A cases (faults.met_labels E M ls) W L E (k + labels_of ls) at is s (omega arith) so h (none_right _ _ n)

  pub command_fit : (A : Around) (W : Allowed) (L : List ℕ) (E : Env) (at : Numbers) (c : tree.Command) (s : ℕ) → command_size c ≤ most_size → Sound A.places L E → AllThings (Stands A) (found_in_command E at c s) → along.command_fault W E at c s ≡ None
      → command_fits A (jumps_of W L) (translation.core_command E at c s) s ≡ true
  command_fit A W L E at (tree.Assign xs es) s z so h n =
      let ss = side_levels E xs s in
      let at1 = after_all at xs in
      let of_first = found_in_sides E at xs ss in
      let of_rest = found_in_sides E at1 es ss in
      let e = levels_kept E at xs s in
      let nx = addresses_small E at xs in
      let ne = contents_small E at1 es in
      assignment_fit A (jumps_of W L) s (forms_of_all E at xs) (forms_of_all E at1 es) (omega arith)
      (subst (λ ls. SidesFit A (forms_of_all E at xs) ls) e (sides_fit A E at xs ss so (first (Stands A) of_first of_rest h)))
      (subst (λ ls. SidesFit A (forms_of_all E at1 es) ls) e (sides_fit A E at1 es ss so (second (Stands A) of_first of_rest h)))
  command_fit A W L E at (tree.Do f es) s z so h n =
      let e : tree.Exp = tree.Call f es in
      root_fit A (forms E at e).content s (exp_size e) (small E at e).1 (omega arith) (exp_fit A E at e s so h).1
  command_fit A W L E at (tree.Compound b) s z so h n = block_fit A W L E at b s (omega arith) so h n
  command_fit A W L E at tree.Break s z so h n = no_fault _ _ n
  command_fit A W L E at tree.Loop s z so h n = no_fault _ _ n
  command_fit A W L E at tree.EndCase s z so h n = no_fault _ _ n
  command_fit A W L E at tree.Return s z so h n = no_fault _ _ n
  command_fit A W L E at tree.Finish s z so h n = refl
  command_fit A W L E at (tree.Goto x) s z so h n = jump_fits A.places L x (meant_by E x) (so.from x) n
  command_fit A W L E at (tree.ResultIs e) s z so h n =
      λ i. no_fault _ _ (none_right _ _ n) i && root_fit A (forms E at e).content s (exp_size e) (small E at e).1 (omega arith) (exp_fit A E at e s so h).1 i
  command_fit A W L E at (tree.Repeat c) s z so h n = body_fits A (jumps_of (faults.in_a_loop W) L) (translation.core_command E at c s) s (command_fit A (faults.in_a_loop W) L E at c s (omega arith) so h n)
  command_fit A W L E at (tree.RepeatWhile c e) s z so h n =
      let bc = after_command at c in
      let of_body = found_in_command E at c s in
      let of_test = found E bc e s in
      let hc = body_fits A (jumps_of (faults.in_a_loop W) L) (translation.core_command E at c s) s (command_fit A (faults.in_a_loop W) L E at c s (omega arith) so (first (Stands A) of_body of_test h) (none_left _ _ n)) in
      let he = exp_fit A E bc e s so (second (Stands A) of_body of_test h) in
      λ i. root_fit A (forms E bc e).content s (exp_size e) (small E bc e).1 (omega arith) he.1 i && hc i
  command_fit A W L E at (tree.RepeatUntil c e) s z so h n =
      let bc = after_command at c in
      let of_body = found_in_command E at c s in
      let of_test = found E bc e s in
      let hc = body_fits A (jumps_of (faults.in_a_loop W) L) (translation.core_command E at c s) s (command_fit A (faults.in_a_loop W) L E at c s (omega arith) so (first (Stands A) of_body of_test h) (none_left _ _ n)) in
      let he = exp_fit A E bc e s so (second (Stands A) of_body of_test h) in
      λ i. root_fit A (forms E bc e).content s (exp_size e) (small E bc e).1 (omega arith) he.1 i && hc i
  command_fit A W L E at (tree.If e b) s z so h n =
      let be = following at e in
      let of_test = found E at e s in
      let of_body = found_in_block E be b s in
      let he = exp_fit A E at e s so (first (Stands A) of_test of_body h) in
      let hb = block_fit A W L E be b s (omega arith) so (second (Stands A) of_test of_body h) (none_right _ _ n) in
      λ i. root_fit A (forms E at e).content s (exp_size e) (small E at e).1 (omega arith) he.1 i && hb i
  command_fit A W L E at (tree.Unless e b) s z so h n =
      let be = following at e in
      let of_test = found E at e s in
      let of_body = found_in_block E be b s in
      let he = exp_fit A E at e s so (first (Stands A) of_test of_body h) in
      let hb = block_fit A W L E be b s (omega arith) so (second (Stands A) of_test of_body h) (none_right _ _ n) in
      λ i. root_fit A (forms E at e).content s (exp_size e) (small E at e).1 (omega arith) he.1 i && hb i
  command_fit A W L E at (tree.While e b) s z so h n =
      let be = following at e in
      let of_test = found E at e s in
      let of_body = found_in_block E be b s in
      let he = exp_fit A E at e s so (first (Stands A) of_test of_body h) in
      let hb = block_fit A (faults.in_a_loop W) L E be b s (omega arith) so (second (Stands A) of_test of_body h) (none_right _ _ n) in
      λ i. root_fit A (forms E at e).content s (exp_size e) (small E at e).1 (omega arith) he.1 i && hb i
  command_fit A W L E at (tree.Until e b) s z so h n =
      let be = following at e in
      let of_test = found E at e s in
      let of_body = found_in_block E be b s in
      let he = exp_fit A E at e s so (first (Stands A) of_test of_body h) in
      let hb = block_fit A (faults.in_a_loop W) L E be b s (omega arith) so (second (Stands A) of_test of_body h) (none_right _ _ n) in
      λ i. root_fit A (forms E at e).content s (exp_size e) (small E at e).1 (omega arith) he.1 i && hb i
  command_fit A W L E at (tree.Test e b c) s z so h n =
      let be = following at e in
      let bb = after_block be b in
      let of_this = found_in_block E be b s in
      let of_that = found_in_block E bb c s in
      let rest = second (Stands A) (found E at e s) (of_this ++ of_that) h in
      let he = exp_fit A E at e s so (first (Stands A) (found E at e s) (of_this ++ of_that) h) in
      let hb = block_fit A W L E be b s (omega arith) so (first (Stands A) of_this of_that rest) (none_left _ _ (none_right _ _ n)) in
      let hc = block_fit A W L E bb c s (omega arith) so (second (Stands A) of_this of_that rest) (none_right _ _ (none_right _ _ n)) in
      λ i. root_fit A (forms E at e).content s (exp_size e) (small E at e).1 (omega arith) he.1 i && hb i && hc i
  command_fit A W L E at (tree.For x a y b) s z so h n =
      let s1 = level_in_for s in
      let ba = following at a in
      let by = following ba y in
      let of_start = found E at a s1 in
      let of_limit = found E ba y s1 in
      let of_body = found_in_block (in_for E x s) by b s1 in
      let rest = second (Stands A) of_start (of_limit ++ of_body) h in
      let ha = exp_fit A E at a s1 so (first (Stands A) of_start (of_limit ++ of_body) h) in
      let hy = exp_fit A E ba y s1 so (first (Stands A) of_limit of_body rest) in
      let na = (small E at a).1 in
      let ny = (small E ba y).1 in
      let la : nodes (forms E at a).content + 1 ≤ most_nodes = omega arith in
      let ly : nodes (forms E ba y).content + 1 ≤ most_nodes = omega arith in
      let hb = block_fit A (faults.in_a_loop W) L (in_for E x s) by b s1 (omega arith) (sound_more x (Variable s) tt so) (second (Stands A) of_limit of_body rest) (none_right _ _ (none_right _ _ n)) in
      λ i. (few (nodes (forms E at a).content + 1) la i && ha.1 i && true) && (few (nodes (forms E ba y).content + 1) ly i && hy.1 i && true) && hb i
  command_fit A W L E at (tree.ForBy x a y k b) s z so h n =
      let s1 = level_in_for s in
      let ba = following at a in
      let by = following ba y in
      let of_start = found E at a s1 in
      let of_limit = found E ba y s1 in
      let of_body = found_in_block (in_for E x s) by b s1 in
      let rest = second (Stands A) of_start (of_limit ++ of_body) h in
      let ha = exp_fit A E at a s1 so (first (Stands A) of_start (of_limit ++ of_body) h) in
      let hy = exp_fit A E ba y s1 so (first (Stands A) of_limit of_body rest) in
      let na = (small E at a).1 in
      let ny = (small E ba y).1 in
      let la : nodes (forms E at a).content + 1 ≤ most_nodes = omega arith in
      let ly : nodes (forms E ba y).content + 1 ≤ most_nodes = omega arith in
      let hb = block_fit A (faults.in_a_loop W) L (in_for E x s) by b s1 (omega arith) (sound_more x (Variable s) tt so) (second (Stands A) of_limit of_body rest) (none_right (or_else (along.fault true E by k 0) (faults.not_constant E k)) _ (none_right (along.fault false E ba y s1) _ (none_right (along.fault false E at a s1) _ n))) in
      λ i. (few (nodes (forms E at a).content + 1) la i && ha.1 i && true) && (few (nodes (forms E ba y).content + 1) ly i && hy.1 i && true) && hb i
  command_fit A W L E at (tree.SwitchOn e is) s z so h n =
      let be = following at e in
      let k = be.label in
      let E1 = in_list k is E in
      let at1 = after_labels be (labels_in is) in
      let of_items = found_in_items E1 k at1 is s in
      let items = core_items E1 k at1 is s in
      let he = exp_fit A E at e s so (first (Stands A) (found E at e s) of_items h) in
      let hs = items_stand A true faults.none_met (faults.in_a_switch W) (fitting.labels_of items ++ L) E1 k at1 is s (omega arith) (sound_in_list E1 k at1 is s E so) (second (Stands A) (found E at e s) of_items h) (none_right _ _ n) in
      λ i. root_fit A (forms E at e).content s (exp_size e) (small E at e).1 (omega arith) he.1 i && distinct E1 k at1 is s i
      && entered (faults.in_a_switch W) E1 k at1 is s (none_right _ _ n) i && hs i
