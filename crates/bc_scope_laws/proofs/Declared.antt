-- Declarations: how many cells they have, and their initialisers.
use Rattle.std.proofs.Common.{◌≡◌, ◌∙◌, ℕ, ◌+◌, List, [], ◌∷◌, ◌++◌, refl, ap, arith}
use Rattle.bc_parse_tree.specs.Tree as tree
use Rattle.bc_core.specs.Commands.{Variable}
use Rattle.bc_core.specs.Level.{cells_of, cells_of_all, cells_declared}
use Rattle.bc_core.specs.Outcome.{then_do}
use Rattle.bc_core.specs.Value.{Context}
use Rattle.bc_core.specs.Command.{initialise_one, initialise}
use Rattle.bc_scope_defs.specs.Scope.{Env, Numbers}
use Rattle.bc_scope_defs.specs.Numbering.{following, after_declaration, after_definition}
use Rattle.bc_scope_defs.specs.Scoping as scoping
use Rattle.bc_scope_defs.specs.Scoping.{count, before_let, in_let, in_declaration, level_after}
use Rattle.bc_scope_defs.specs.Translation.{initials, forms_of_all, core_definition, core_definitions, core_declarations}
use Rattle.bc_scope_laws.proofs.Runs.{then_then}

cells_append : (vs ws : List Variable) → cells_of_all (vs ++ ws) ≡ cells_of_all vs + cells_of_all ws
cells_append [] ws = omega arith
cells_append (v ∷ vs) ws = let h = cells_append vs ws in omega arith

cells_of_initials : (E : Env) (at : Numbers) (es : tree.Exps) → cells_of_all (initials (forms_of_all E at es)) ≡ count es
cells_of_initials E at tree.none = refl
cells_of_initials E at (tree.more e es) = ap (λ n. 1 + n) (cells_of_initials E (following at e) es)

pub cells_of_one : (E B : Env) (at : Numbers) (d : tree.Definition) → cells_of_all (core_definition E B at d) ≡ scoping.cells_of B d
cells_of_one E B at (tree.Variables ns es) = cells_of_initials E at es
cells_of_one E B at (tree.Vector n c) = omega arith
cells_of_one E B at (tree.Function n ps e) = refl
cells_of_one E B at (tree.Routine n ps b) = refl

pub cells_kept : (E B : Env) (at : Numbers) (ds : tree.Definitions) → cells_of_all (core_definitions E B at ds) ≡ scoping.cells_of_all B ds
cells_kept E B at tree.no_definitions = refl
cells_kept E B at (tree.definition d ds) =
    cells_append (core_definition E B at d) (core_definitions E B (after_definition at d) ds)
    ∙ (λ i. cells_of_one E B at d i + cells_kept E B (after_definition at d) ds i)

pub level_kept : (E : Env) (at : Numbers) (s : ℕ) (ds : tree.Declarations) → level_after E at s ds ≡ s + cells_declared (core_declarations E at s ds)
level_kept E at s tree.no_declarations = omega arith
level_kept E at s (tree.declaration (tree.Constants k es) ds) =
    let h = level_kept (in_declaration E at s (tree.Constants k es)) (after_declaration at (tree.Constants k es)) (s + 0) ds in omega arith
level_kept E at s (tree.declaration (tree.Let defs) ds) =
    let n = cells_kept (in_let E at s defs) (before_let defs E) at defs in
    let h = level_kept (in_let E at s defs) (after_declaration at (tree.Let defs)) (s + scoping.cells_of_all (before_let defs E) defs) ds in
    omega arith

pub initialise_append : (C : Context) (vs ws : List Variable) (p k s : ℕ) → then_do (initialise C vs p k s) (λ u. initialise C ws p (k + cells_of_all vs) s) ≡ initialise C (vs ++ ws) p k s
initialise_append C [] ws p k s = let e : k + 0 ≡ k = omega arith in λ i. initialise C ws p (e i) s
initialise_append C (v ∷ vs) ws p k s =
    let e : k + (cells_of v + cells_of_all vs) ≡ (k + cells_of v) + cells_of_all vs = omega arith in
    (λ i. then_do (initialise C (v ∷ vs) p k s) (λ u. initialise C ws p (e i) s))
    ∙ then_then (initialise_one C v p k s) (λ u. initialise C vs p (k + cells_of v) s) (λ u. initialise C ws p ((k + cells_of v) + cells_of_all vs) s)
    ∙ (λ i. then_do (initialise_one C v p k s) (λ u. initialise_append C vs ws p (k + cells_of v) s i))
