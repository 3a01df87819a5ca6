-- The definitions of `specs/Definitions` are those of bc_scope_defs.
use Rattle.std.proofs.Common.{◌≡◌, ℕ, ◌++◌, List, refl, ap, ◌∙◌}
use Rattle.bc_core.specs.Commands as core
use Rattle.bc_parse_tree.specs.Tree.{Definition, Definitions, no_definitions, definition}
use Rattle.bc_parse_tree.specs.Tree as tree
use Rattle.bc_scope_names.specs.Priors.{global_before, globals_before, greatest_of, all_greatest_of}
use Rattle.bc_scope_defs.specs.Scope.{Env, Numbers}
use Rattle.bc_scope_defs.specs.Numbering.{after_definition}
use Rattle.bc_scope_defs.specs.Found.{Thing, found_in_definition, found_in_definitions}
use Rattle.bc_scope_defs.specs.Translation.{core_definition, core_definitions}
use Rattle.bc_scope_translate.specs.Definitions.{core_definition_by, core_definitions_by, found_in_definition_by, found_in_definitions_by}

core_definition_is : (E K : Env) (at : Numbers) (d : Definition) → core_definition_by (greatest_of K d) E at d ≡ core_definition E K at d
core_definition_is E K at (tree.Variables ns es) = refl
core_definition_is E K at (tree.Vector n k) = refl
core_definition_is E K at (tree.Function n ps e) = refl
core_definition_is E K at (tree.Routine n ps b) = refl

pub core_definitions_are : (E K : Env) (at : Numbers) (ds : Definitions) → core_definitions_by (all_greatest_of K ds) E at ds ≡ core_definitions E K at ds
core_definitions_are E K at no_definitions = refl
core_definitions_are E K at (definition d ds) =
    let vs = λ (xs : List core.Variable). xs ++ core_definitions_by (all_greatest_of K ds) E (after_definition at d) ds in
    ap vs (core_definition_is E K at d) ∙ ap (λ xs. core_definition E K at d ++ xs) (core_definitions_are E K (after_definition at d) ds)

found_definition_is : (B E : Env) (at : Numbers) (d : Definition) (s : ℕ) → found_in_definition_by (global_before B d) E at d s ≡ found_in_definition B E at d s
found_definition_is B E at (tree.Variables ns es) s = refl
found_definition_is B E at (tree.Vector n k) s = refl
found_definition_is B E at (tree.Function n ps e) s = refl
found_definition_is B E at (tree.Routine n ps b) s = refl

pub found_definitions_are : (B E : Env) (at : Numbers) (ds : Definitions) (s : ℕ) → found_in_definitions_by (globals_before B ds) E at ds s ≡ found_in_definitions B E at ds s
found_definitions_are B E at no_definitions s = refl
found_definitions_are B E at (definition d ds) s =
    let ts = λ (xs : List Thing). xs ++ found_in_definitions_by (globals_before B ds) E (after_definition at d) ds s in
    ap ts (found_definition_is B E at d s) ∙ ap (λ xs. found_in_definition B E at d s ++ xs) (found_definitions_are B E (after_definition at d) ds s)
