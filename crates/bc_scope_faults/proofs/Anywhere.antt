-- Whether frames fit doesn't depend on the meaning that a routine's name had before its LET.
use Rattle.std.proofs.Common.{◌≡◌, ℕ, refl, ap, ◌∙◌, sym, Bool}
use Rattle.bc_parse_tree.specs.Tree.{Definition, Definitions, no_definitions, definition}
use Rattle.bc_parse_tree.specs.Tree as tree
use Rattle.bc_scope_defs.specs.Scope.{Env, Numbers}
use Rattle.bc_scope_defs.specs.Numbering.{after_definition}
use Rattle.bc_scope_defs.specs.Found.{found_in_definition, found_in_definitions}
use Rattle.bc_scope_faults.specs.Seen.{frames_fit}
use Rattle.bc_scope_faults.proofs.Frames.{frames_along}

one_anywhere : (b : Bool) (B C E : Env) (at : Numbers) (d : Definition) (s : ℕ) → frames_fit b (found_in_definition B E at d s) ≡ frames_fit b (found_in_definition C E at d s)
one_anywhere b B C E at (tree.Variables ns es) s = refl
one_anywhere b B C E at (tree.Vector n k) s = refl
one_anywhere b B C E at (tree.Function n ps e) s = refl
one_anywhere b B C E at (tree.Routine n ps body) s = refl

pub frames_anywhere : (b : Bool) (B C E : Env) (at : Numbers) (ds : Definitions) (s : ℕ) → frames_fit b (found_in_definitions B E at ds s) ≡ frames_fit b (found_in_definitions C E at ds s)
frames_anywhere b B C E at no_definitions s = refl
frames_anywhere b B C E at (definition d ds) s =
    frames_along b (found_in_definition B E at d s) (found_in_definitions B E (after_definition at d) ds s)
    ∙ ap (λ c. frames_fit c (found_in_definitions B E (after_definition at d) ds s)) (one_anywhere b B C E at d s)
    ∙ frames_anywhere (frames_fit b (found_in_definition C E at d s)) B C E (after_definition at d) ds s
    ∙ sym (frames_along b (found_in_definition C E at d s) (found_in_definitions C E (after_definition at d) ds s))

pub frames_of_own : (b : Bool) (B E : Env) (at : Numbers) (ds : Definitions) (s : ℕ) → frames_fit b (found_in_definitions B E at ds s) ≡ frames_fit b (found_in_definitions E E at ds s)
frames_of_own b B E at ds s = frames_anywhere b B E E at ds s
