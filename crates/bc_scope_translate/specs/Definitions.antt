-- For proofs: the translation of a LET, and what is found in it, by the globals that its routines set and the sizes of its vectors.
use Rattle.std.specs.Prelude.{ℕ, List, [], ◌∷◌, ◌++◌, drop, length, Option}
use Rattle.bc_core.specs.Commands.{Vector}
use Rattle.bc_core.specs.Commands as core
use Rattle.bc_core.specs.Level.{level_after_parameters}
use Rattle.bc_parse_tree.specs.Tree.{Definition, Definitions, no_definitions, definition}
use Rattle.bc_parse_tree.specs.Tree as tree
use Rattle.bc_scope_defs.specs.Scope.{Env, Name, Numbers, after_place}
use Rattle.bc_scope_defs.specs.Numbering.{after_definition}
use Rattle.bc_scope_defs.specs.Found.{Thing, ARoutine, RoutineBody, Gives, Does, in_parameters, found, found_in_initials, found_in_block}
use Rattle.bc_scope_defs.specs.Translation.{initials, forms_of_all}
use Rattle.bc_scope_names.specs.Priors.{first_global, first_word}

-- the variables of a definition; w is the greatest index of a vector
abbrev pub core_definition_by : (w : ℕ) → Env → Numbers → Definition → List core.Variable
core_definition_by w E at (tree.Variables ns es) = initials (forms_of_all E at es)
core_definition_by w E at (tree.Vector n c) = Vector w ∷ []
core_definition_by w E at (tree.Function n ps e) = []
core_definition_by w E at (tree.Routine n ps b) = []

-- the variables of a LET; the list has the greatest index of each definition
abbrev pub core_definitions_by : List ℕ → Env → Numbers → Definitions → List core.Variable
core_definitions_by ws E at no_definitions = []
core_definitions_by ws E at (definition d ds) = core_definition_by (first_word ws) E at d ++ core_definitions_by (drop 1 ws) E (after_definition at d) ds

-- the routine with parameters ps and body b, which sets the global g if there is one
abbrev pub routine_setting : (g : Option ℕ) → Env → Numbers → List Name → RoutineBody → Thing
routine_setting g E at ps b =
    ARoutine (record { label = at.place; global = g; parameters = length ps; names = in_parameters ps E; numbers = after_place at; body = b })

-- what is found in a definition that sets the global g, if there is one
abbrev pub found_in_definition_by : (g : Option ℕ) → Env → Numbers → Definition → (s : ℕ) → List Thing
found_in_definition_by g E at (tree.Variables ns es) s = found_in_initials E at es s
found_in_definition_by g E at (tree.Vector n k) s = []
found_in_definition_by g E at (tree.Function n ps e) s = routine_setting g E at ps (Gives e)
    ∷ found (in_parameters ps E) (after_place at) e (level_after_parameters (length ps))
found_in_definition_by g E at (tree.Routine n ps b) s = routine_setting g E at ps (Does b) ∷ found_in_block (in_parameters ps E) (after_place at) b
    (level_after_parameters (length ps))

-- what is found in the definitions of a LET; the list has the global of each
abbrev pub found_in_definitions_by : List (Option ℕ) → Env → Numbers → Definitions → (s : ℕ) → List Thing
found_in_definitions_by gs E at no_definitions s = []
found_in_definitions_by gs E at (definition d ds) s = found_in_definition_by (first_global gs) E at d s
    ++ found_in_definitions_by (drop 1 gs) E (after_definition at d) ds s
