-- For proofs: a LET as `declare_let` computes it, from the globals that its routines set and the sizes of its vectors. `Lets` shows
-- it to be the `in_let` of bc_scope_defs.
use Rattle.std.specs.Prelude.{◌≡◌, ◌+◌, ℕ, Bool, true, false, ◌||◌, List, [], ◌∷◌, drop, Option, Some, None}
use Rattle.bc_parse_tree.specs.Tree.{Definition, Definitions, no_definitions, definition}
use Rattle.bc_parse_tree.specs.Tree as tree
use Rattle.bc_scope_names.specs.declared.declaring.Prior.{Prior}
use Rattle.bc_scope_names.specs.declared.declaring.Priors.{Priors}
use Rattle.bc_scope_defs.specs.Scope.{Env, Name, Variable, Routine, Numbers, with_name, meant_by}
use Rattle.bc_scope_defs.specs.Scoping.{constant, count, variables, any_numbers, before_let}
use Rattle.bc_scope_defs.specs.Found.{global_of}
use Rattle.bc_scope_defs.specs.Numbering.{after_definition}

-- the global that a definition sets, by the names E before its LET
abbrev pub global_before : Env → Definition → Option ℕ
global_before E (tree.Variables ns es) = None
global_before E (tree.Vector n k) = None
global_before E (tree.Function n ps e) = global_of (meant_by E n)
global_before E (tree.Routine n ps b) = global_of (meant_by E n)

-- the global that each definition sets
abbrev pub globals_before : Env → Definitions → List (Option ℕ)
globals_before E no_definitions = []
globals_before E (definition d ds) = global_before E d ∷ globals_before E ds

-- the greatest index of a vector, by the names K that its constant sees
abbrev pub greatest_of : Env → Definition → ℕ
greatest_of K (tree.Variables ns es) = 0
greatest_of K (tree.Vector n k) = constant K k
greatest_of K (tree.Function n ps e) = 0
greatest_of K (tree.Routine n ps b) = 0

-- the greatest index of each definition that is a vector, else 0
abbrev pub all_greatest_of : Env → Definitions → List ℕ
all_greatest_of K no_definitions = []
all_greatest_of K (definition d ds) = greatest_of K d ∷ all_greatest_of K ds

-- whether a definition has a constant, which looks up the LET's names
abbrev pub is_vector : Definition → Bool
is_vector (tree.Variables ns es) = false
is_vector (tree.Vector n k) = true
is_vector (tree.Function n ps e) = false
is_vector (tree.Routine n ps b) = false

-- whether a LET declares a vector
abbrev pub has_vector : Definitions → Bool
has_vector no_definitions = false
has_vector (definition d ds) = is_vector d || has_vector ds

-- these are the globals and the greatest indexes of the definitions ds of a LET after the names E
abbrev pub ArePriors : Priors → Env → Definitions → Type 0
ArePriors ps E ds = (ps.globals.items ≡ globals_before E ds) × (ps.greatest.items ≡ all_greatest_of (before_let ds E) ds)

-- the first global; none if the list is empty
abbrev pub first_global : List (Option ℕ) → Option ℕ
first_global [] = None
first_global (g ∷ gs) = g

-- the first greatest index; 0 if the list is empty
abbrev pub first_word : List ℕ → ℕ
first_word [] = 0
first_word (w ∷ ws) = w

-- the first global and the first greatest index; no global and 0 where the lists are empty
abbrev pub prior_at : List (Option ℕ) → List ℕ → Prior
prior_at gs ws = record { global = first_global gs; greatest = first_word ws }

-- the number of cells that a definition takes
abbrev pub cells_by : Prior → Definition → ℕ
cells_by p (tree.Variables ns es) = count es
cells_by p (tree.Vector n k) = p.greatest + 2
cells_by p (tree.Function n ps e) = 0
cells_by p (tree.Routine n ps b) = 0

-- the number of cells that a LET takes
abbrev pub all_cells_by : List (Option ℕ) → List ℕ → Definitions → ℕ
all_cells_by gs ws no_definitions = 0
all_cells_by gs ws (definition d ds) = cells_by (prior_at gs ws) d + all_cells_by (drop 1 gs) (drop 1 ws) ds

-- the names after a routine n with label m; if it sets a global, it adds no name
abbrev pub routine_by : Option ℕ → Name → ℕ → Env → Env
routine_by None n m E = with_name n (Routine m) E
routine_by (Some g) n m E = E

-- the names after a definition with numbers from at, and cells from offset k
abbrev pub declared_by : Prior → Numbers → (k : ℕ) → Definition → Env → Env
declared_by p at k (tree.Variables ns es) E = variables ns k E
declared_by p at k (tree.Vector n c) E = with_name n (Variable k) E
declared_by p at k (tree.Function n ps e) E = routine_by p.global n at.place E
declared_by p at k (tree.Routine n ps b) E = routine_by p.global n at.place E

-- the names after all definitions of a LET
abbrev pub all_declared_by : List (Option ℕ) → List ℕ → Numbers → (k : ℕ) → Definitions → Env → Env
all_declared_by gs ws at k no_definitions E = E
all_declared_by gs ws at k (definition d ds) E =
    all_declared_by (drop 1 gs) (drop 1 ws) (after_definition at d) (k + cells_by (prior_at gs ws) d) ds (declared_by (prior_at gs ws) at k d E)

-- the names of a LET as its constants see them, by the globals that its routines set
abbrev pub own_by : List (Option ℕ) → Definitions → Env → Env
own_by gs no_definitions E = E
own_by gs (definition d ds) E = own_by (drop 1 gs) ds (declared_by (prior_at gs []) any_numbers 0 d E)
