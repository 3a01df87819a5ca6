-- A LET as `declare_let` computes it is the LET of the definitions.
use Rattle.std.proofs.Common.{◌≡◌, ℕ, ◌+◌, ◌<◌, ◌≤◌, refl, ap, ◌∙◌, sym, true≢false, false, List, [], ◌∷◌, length, drop, get_or, Option}
use Rattle.std.proofs.lemmas.List.{at_drop_more, drop-drop, drop_all}
use Rattle.bc_parse_tree.specs.declared.tree.Definition as code
use Rattle.bc_parse_tree.specs.View.{definition_view, definitions_view}
use Rattle.bc_scope_names.specs.declared.declaring.Prior.{Prior}
use Rattle.bc_parse_tree.specs.Tree.{Definition, Definitions, no_definitions, definition}
use Rattle.bc_parse_tree.specs.Tree as tree
use Rattle.bc_scope_names.specs.Priors.{first_global, prior_at, global_before, globals_before, greatest_of, all_greatest_of, has_vector, cells_by, all_cells_by, routine_by, declared_by, all_declared_by, own_by}
use Rattle.bc_scope_defs.specs.Scope.{Env, Name, Numbers, Meant, Constant, Pending, Static, Global, Routine, Variable, Label, OuterVariable, OuterLabel, StrayVariable, StrayLabel, LabelOutside, Undeclared, meant_by}
use Rattle.bc_scope_defs.specs.Scoping.{any_numbers, cells_of, cells_of_all, routine_name, in_definition, in_definitions, own_names}
use Rattle.bc_scope_defs.specs.Found.{global_of}
use Rattle.bc_scope_defs.specs.Numbering.{after_definition}

routine_is : (m : Meant) (n : Name) (l : ℕ) (E : Env) → routine_by (global_of m) n l E ≡ routine_name m n l E
routine_is (Constant w) n l E = refl
routine_is Pending n l E = refl
routine_is (Static w) n l E = refl
routine_is (Global w) n l E = refl
routine_is (Routine w) n l E = refl
routine_is (Variable w) n l E = refl
routine_is (Label w) n l E = refl
routine_is OuterVariable n l E = refl
routine_is StrayVariable n l E = refl
routine_is StrayLabel n l E = refl
routine_is OuterLabel n l E = refl
routine_is LabelOutside n l E = refl
routine_is Undeclared n l E = refl

cells_are : (B K : Env) (d : Definition) → cells_by (record { global = global_before B d; greatest = greatest_of K d }) d ≡ cells_of K d
cells_are B K (tree.Variables ns es) = refl
cells_are B K (tree.Vector n k) = refl
cells_are B K (tree.Function n ps e) = refl
cells_are B K (tree.Routine n ps b) = refl

pub all_cells_are : (B K : Env) (ds : Definitions) → all_cells_by (globals_before B ds) (all_greatest_of K ds) ds ≡ cells_of_all K ds
all_cells_are B K no_definitions = refl
all_cells_are B K (definition d ds) = ap (λ n. n + all_cells_by (globals_before B ds) (all_greatest_of K ds) ds) (cells_are B K d) ∙ ap (λ n. cells_of K d + n) (all_cells_are B K ds)

declared_is : (B K : Env) (at : Numbers) (k : ℕ) (d : Definition) (E : Env) → declared_by (record { global = global_before B d; greatest = greatest_of K d }) at k d E ≡ in_definition B at k d E
declared_is B K at k (tree.Variables ns es) E = refl
declared_is B K at k (tree.Vector n c) E = refl
declared_is B K at k (tree.Function n ps e) E = routine_is (meant_by B n) n at.place E
declared_is B K at k (tree.Routine n ps b) E = routine_is (meant_by B n) n at.place E

pub all_declared_is : (B K : Env) (at : Numbers) (k : ℕ) (ds : Definitions) (E : Env) → all_declared_by (globals_before B ds) (all_greatest_of K ds) at k ds E ≡ in_definitions B K at k ds E
all_declared_is B K at k no_definitions E = refl
all_declared_is B K at k (definition d ds) E =
    ap (λ j. all_declared_by (globals_before B ds) (all_greatest_of K ds) (after_definition at d) (k + j) ds (declared_by (record { global = global_before B d; greatest = greatest_of K d }) at k d E)) (cells_are B K d)
    ∙ ap (λ F. all_declared_by (globals_before B ds) (all_greatest_of K ds) (after_definition at d) (k + cells_of K d) ds F) (declared_is B K at k d E)
    ∙ all_declared_is B K (after_definition at d) (k + cells_of K d) ds (in_definition B at k d E)

one_own_is : (B : Env) (d : Definition) (E : Env) → declared_by (record { global = global_before B d; greatest = 0 }) any_numbers 0 d E ≡ in_definition B any_numbers 0 d E
one_own_is B (tree.Variables ns es) E = refl
one_own_is B (tree.Vector n c) E = refl
one_own_is B (tree.Function n ps e) E = routine_is (meant_by B n) n any_numbers.place E
one_own_is B (tree.Routine n ps b) E = routine_is (meant_by B n) n any_numbers.place E

all_own_is : (B : Env) (ds : Definitions) (E : Env) → own_by (globals_before B ds) ds E ≡ own_names B ds E
all_own_is B no_definitions E = refl
all_own_is B (definition d ds) E = ap (λ F. own_by (globals_before B ds) ds F) (one_own_is B d E) ∙ all_own_is B ds (in_definition B any_numbers 0 d E)

pub own_is : (gs : List (Option ℕ)) (B : Env) (ds : Definitions) → gs ≡ globals_before B ds → own_by gs ds B ≡ own_names B ds B
own_is gs B ds e = ap (λ x. own_by x ds B) e ∙ all_own_is B ds B

-- without a vector, the greatest indexes are the same by any names
pub greatest_anywhere : (K L : Env) (ds : Definitions) → has_vector ds ≡ false → all_greatest_of K ds ≡ all_greatest_of L ds
greatest_anywhere K L no_definitions h = refl
greatest_anywhere K L (definition (tree.Variables ns es) ds) h = ap (λ ws. 0 ∷ ws) (greatest_anywhere K L ds h)
greatest_anywhere K L (definition (tree.Vector n k) ds) h = absurd (true≢false h)
greatest_anywhere K L (definition (tree.Function n ps e) ds) h = ap (λ ws. 0 ∷ ws) (greatest_anywhere K L ds h)
greatest_anywhere K L (definition (tree.Routine n ps b) ds) h = ap (λ ws. 0 ∷ ws) (greatest_anywhere K L ds h)

-- the priors of one definition, at its number in the list

definitions_on : (ds : List code.Definition) (i : ℕ) (d : code.Definition) → i < length ds → d ≡ get_or ds i d → definitions_view (drop i ds) ≡ definition (definition_view d) (definitions_view (drop (i + 1) ds))
definitions_on ds i d h q = at_drop_more definitions_view ds i d h ∙ ap (λ x. definition (definition_view x) (definitions_view (drop (i + 1) ds))) (sym q)

-- the cells of a definition, and those of the rest
pub cells_on : (gs : List (Option ℕ)) (ws : List ℕ) (ds : List code.Definition) (n j i : ℕ) (d : code.Definition) → i < length ds → d ≡ get_or ds i d → j ≡ n + 1
    → all_cells_by (drop n gs) (drop n ws) (definitions_view (drop i ds)) ≡ cells_by (prior_at (drop n gs) (drop n ws)) (definition_view d) + all_cells_by (drop j gs) (drop j ws) (definitions_view (drop (i + 1) ds))
cells_on gs ws ds n j i d h q e =
    let own = cells_by (prior_at (drop n gs) (drop n ws)) (definition_view d) in
    let rest = definitions_view (drop (i + 1) ds) in
    ap (λ x. all_cells_by (drop n gs) (drop n ws) x) (definitions_on ds i d h q)
    ∙ ap (λ x. own + all_cells_by x (drop 1 (drop n ws)) rest) (drop-drop 1 n gs ∙ ap (λ k. drop k gs) (sym e))
    ∙ ap (λ x. own + all_cells_by (drop j gs) x rest) (drop-drop 1 n ws ∙ ap (λ k. drop k ws) (sym e))

-- the names that it adds, and then the rest
pub declared_on : (gs : List (Option ℕ)) (ws : List ℕ) (at : Numbers) (k : ℕ) (ds : List code.Definition) (n j i : ℕ) (d : code.Definition) (E : Env) → i < length ds → d ≡ get_or ds i d → j ≡ n + 1
    → all_declared_by (drop n gs) (drop n ws) at k (definitions_view (drop i ds)) E
    ≡ all_declared_by (drop j gs) (drop j ws) (after_definition at (definition_view d)) (k + cells_by (prior_at (drop n gs) (drop n ws)) (definition_view d)) (definitions_view (drop (i + 1) ds)) (declared_by (prior_at (drop n gs) (drop n ws)) at k (definition_view d) E)
declared_on gs ws at k ds n j i d E h q e =
    let p : Prior = prior_at (drop n gs) (drop n ws) in
    let following = after_definition at (definition_view d) in
    let level = k + cells_by p (definition_view d) in
    let rest = definitions_view (drop (i + 1) ds) in
    let known = declared_by p at k (definition_view d) E in
    ap (λ x. all_declared_by (drop n gs) (drop n ws) at k x E) (definitions_on ds i d h q)
    ∙ ap (λ x. all_declared_by x (drop 1 (drop n ws)) following level rest known) (drop-drop 1 n gs ∙ ap (λ m. drop m gs) (sym e))
    ∙ ap (λ x. all_declared_by (drop j gs) x following level rest known) (drop-drop 1 n ws ∙ ap (λ m. drop m ws) (sym e))

-- the same for the names as constants see them
pub own_on : (gs : List (Option ℕ)) (ds : List code.Definition) (n j i : ℕ) (d : code.Definition) (E : Env) → i < length ds → d ≡ get_or ds i d → j ≡ n + 1
    → own_by (drop n gs) (definitions_view (drop i ds)) E ≡ own_by (drop j gs) (definitions_view (drop (i + 1) ds)) (declared_by (prior_at (drop n gs) []) any_numbers 0 (definition_view d) E)
own_on gs ds n j i d E h q e =
    ap (λ x. own_by (drop n gs) x E) (definitions_on ds i d h q)
    ∙ ap (λ x. own_by x (definitions_view (drop (i + 1) ds)) (declared_by (prior_at (drop n gs) []) any_numbers 0 (definition_view d) E)) (drop-drop 1 n gs ∙ ap (λ k. drop k gs) (sym e))

pub own_after : (gs : List (Option ℕ)) (ds : List code.Definition) (i : ℕ) (E : Env) → length ds ≤ i → own_by gs (definitions_view (drop i ds)) E ≡ E
own_after gs ds i E h = ap (λ x. own_by gs (definitions_view x) E) (drop_all i ds h)

-- without a definition left, the numbers don't matter
pub declared_last : (gs : List (Option ℕ)) (ws : List ℕ) (at at1 : Numbers) (k : ℕ) (ds : List code.Definition) (i : ℕ) (E : Env) → length ds ≤ i
    → all_declared_by gs ws at k (definitions_view (drop i ds)) E ≡ all_declared_by gs ws at1 k (definitions_view (drop i ds)) E
declared_last gs ws at at1 k ds i E h =
    ap (λ x. all_declared_by gs ws at k (definitions_view x) E) (drop_all i ds h) ∙ ap (λ x. all_declared_by gs ws at1 k (definitions_view x) E) (sym (drop_all i ds h))

-- without a definition left, no cell is taken and no name added
pub cells_after : (gs : List (Option ℕ)) (ws : List ℕ) (ds : List code.Definition) (i : ℕ) → length ds ≤ i → all_cells_by gs ws (definitions_view (drop i ds)) ≡ 0
cells_after gs ws ds i h = ap (λ x. all_cells_by gs ws (definitions_view x)) (drop_all i ds h)

pub declared_after : (gs : List (Option ℕ)) (ws : List ℕ) (at : Numbers) (k : ℕ) (ds : List code.Definition) (i : ℕ) (E : Env) → length ds ≤ i → all_declared_by gs ws at k (definitions_view (drop i ds)) E ≡ E
declared_after gs ws at k ds i E h = ap (λ x. all_declared_by gs ws at k (definitions_view x) E) (drop_all i ds h)
