-- The translated commands of trees with nesting depth at most 200 have expressions that nest at most 400 deep.
use Rattle.std.proofs.Common.{ℕ, ◌+◌, ◌≤◌, List, [], ◌∷◌, ◌++◌, arith}
use Rattle.bc_parse_tree.specs.Tree as tree
use Rattle.bc_parse_tree.specs.Height.{exp_height, exps_height, block_height, declarations_height, definition_height, definitions_height, items_height, command_height}
use Rattle.bc_core.specs.Tree.{Exp}
use Rattle.bc_core.specs.Commands as core
use Rattle.bc_core.specs.Level.{level_in_for}
use Rattle.bc_scope_defs.specs.Scope.{Env, Numbers, after_labels}
use Rattle.bc_scope_defs.specs.Numbering.{following, after_all, after_declarations, after_declaration, after_definition, after_command, after_block, labels_of, labels_in}
use Rattle.bc_scope_defs.specs.Scoping.{before_let, in_let, in_declaration, in_declarations, cells_in, level_after, in_for, in_list}
use Rattle.bc_scope_defs.specs.Translation.{Forms, forms, forms_of_all, assignments, assignment, initials, core_definition, core_definitions, core_declarations, core_labels, core_block, core_items, core_command}
use Rattle.bc_cert_laws.specs.Entries.{nested}
use Rattle.bc_build.proofs.Throughout.{OfVariables, OfDeclarations, OfCommand, OfBlock, OfItems}
use Rattle.bc_build.proofs.Depth.{AreNested, forms_nested, arguments_nested}

abbrev pub Low : Exp → Type 0
Low e = nested e ≤ 400

-- Expressions

pub content_low : (E : Env) (at : Numbers) (e : tree.Exp) → exp_height e ≤ 200 → Low (forms E at e).content
content_low E at e h = let k = (forms_nested E at e).1 in omega arith

abbrev FormsLow : Forms → Type 0
FormsLow f = AreNested f 400

abbrev AllLow : List Forms → Type 0
AllLow [] = Unit {0}
AllLow (f ∷ fs) = FormsLow f × AllLow fs

forms_low : (E : Env) (at : Numbers) (es : tree.Exps) → exps_height es ≤ 200 → AllLow (forms_of_all E at es)
forms_low E at tree.none h = tt
forms_low E at (tree.more e es) h =
    let a = (forms_nested E at e).0 in
    let c = (forms_nested E at e).1 in
    ((omega arith, omega arith), forms_low E (following at e) es (omega arith))

-- Assignments

pairs_low : (fs gs : List Forms) → AllLow fs → AllLow gs → OfItems Low (assignments fs gs)
pairs_low [] gs h k = tt
pairs_low (f ∷ fs) [] h k = tt
pairs_low (f ∷ fs) (g ∷ gs) h k = ((k.0.1, h.0.0), pairs_low fs gs h.1 k.1)

assignment_low : (fs gs : List Forms) → AllLow fs → AllLow gs → OfCommand Low (assignment fs gs)
assignment_low [] gs h k = (tt, tt)
assignment_low (f ∷ f1 ∷ fs) gs h k = (tt, pairs_low (f ∷ f1 ∷ fs) gs h k)
assignment_low (f ∷ []) [] h k = (tt, tt)
assignment_low (f ∷ []) (g ∷ g1 ∷ gs) h k = (tt, pairs_low (f ∷ []) (g ∷ g1 ∷ gs) h k)
assignment_low (f ∷ []) (g ∷ []) h k = (k.0.1, h.0.0)

-- Declarations

variables_append : (vs ws : List core.Variable) → OfVariables Low vs → OfVariables Low ws → OfVariables Low (vs ++ ws)
variables_append [] ws h k = k
variables_append (core.Initial e ∷ vs) ws h k = (h.0, variables_append vs ws h.1 k)
variables_append (core.Vector n ∷ vs) ws h k = variables_append vs ws h k

initials_low : (fs : List Forms) → AllLow fs → OfVariables Low (initials fs)
initials_low [] h = tt
initials_low (f ∷ fs) h = (h.0.1, initials_low fs h.1)

definition_low : (E B : Env) (at : Numbers) (d : tree.Definition) → definition_height d ≤ 200 → OfVariables Low (core_definition E B at d)
definition_low E B at (tree.Variables ns es) h = initials_low (forms_of_all E at es) (forms_low E at es (omega arith))
definition_low E B at (tree.Vector n k) h = tt
definition_low E B at (tree.Function n ps e) h = tt
definition_low E B at (tree.Routine n ps b) h = tt

definitions_low : (E B : Env) (at : Numbers) (ds : tree.Definitions) → definitions_height ds ≤ 200 → OfVariables Low (core_definitions E B at ds)
definitions_low E B at tree.no_definitions h = tt
definitions_low E B at (tree.definition d ds) h =
    variables_append (core_definition E B at d) _ (definition_low E B at d (omega arith)) (definitions_low E B (after_definition at d) ds (omega arith))

declarations_low : (E : Env) (at : Numbers) (s : ℕ) (ds : tree.Declarations) → declarations_height ds ≤ 200 → OfDeclarations Low (core_declarations E at s ds)
declarations_low E at s tree.no_declarations h = tt
declarations_low E at s (tree.declaration (tree.Constants k es) ds) h =
    let d : tree.Declaration = tree.Constants k es in
    declarations_low (in_declaration E at s d) (after_declaration at d) (s + cells_in E d) ds (omega arith)
declarations_low E at s (tree.declaration (tree.Let defs) ds) h =
    let d : tree.Declaration = tree.Let defs in (
      definitions_low (in_let E at s defs) (before_let defs E) at defs (omega arith),
      declarations_low (in_declaration E at s d) (after_declaration at d) (s + cells_in E d) ds (omega arith),
    )

-- Commands

labels_low : (E : Env) (k : ℕ) (ls : tree.Labels) (is : core.Items) → OfItems Low is → OfItems Low (core_labels E k ls is)
labels_low E k tree.no_labels is h = h
labels_low E k (tree.label (tree.Case c) ls) is h = labels_low E (k + 0) ls is h
labels_low E k (tree.label tree.Default ls) is h = labels_low E (k + 0) ls is h
labels_low E k (tree.label (tree.Named x) ls) is h = labels_low E (k + 1) ls is h

mutual
  pub block_low : (E : Env) (at : Numbers) (b : tree.Block) (s : ℕ) → block_height b ≤ 200 → OfBlock Low (core_block E at b s)
  block_low E at (tree.block ds is) s h =
      let at1 = after_declarations at ds in
      let k = at1.label in (
        declarations_low E at s ds (omega arith),
        items_low (in_list k is (in_declarations E at s ds)) k (after_labels at1 (labels_in is)) is (level_after E at s ds) (omega arith),
      )

  items_low : (E : Env) (k : ℕ) (at : Numbers) (is : tree.Items) (s : ℕ) → items_height is ≤ 200 → OfItems Low (core_items E k at is s)
  items_low E k at tree.no_items s h = tt
  items_low E k at (tree.item (tree.Labelled ls c) is) s h =
      labels_low E k ls _ (command_low E at c s (omega arith), items_low E (k + labels_of ls) (after_command at c) is s (omega arith))
  items_low E k at (tree.item (tree.Labels_alone ls) is) s h = labels_low E k ls _ (items_low E (k + labels_of ls) at is s (omega arith))

  command_low : (E : Env) (at : Numbers) (c : tree.Command) (s : ℕ) → command_height c ≤ 200 → OfCommand Low (core_command E at c s)
  command_low E at (tree.Assign xs es) s h = assignment_low _ _ (forms_low E at xs (omega arith)) (forms_low E (after_all at xs) es (omega arith))
  command_low E at (tree.Do f es) s h =
      let hf = (forms_nested E at f).1 in
      let hs = arguments_nested E (following at f) es in
      omega arith
  command_low E at (tree.Compound b) s h = block_low E at b s (omega arith)
  command_low E at tree.Break s h = tt
  command_low E at tree.Loop s h = tt
  command_low E at tree.EndCase s h = tt
  command_low E at tree.Return s h = tt
  command_low E at tree.Finish s h = tt
  command_low E at (tree.Goto n) s h = tt
  command_low E at (tree.ResultIs e) s h = content_low E at e (omega arith)
  command_low E at (tree.Repeat c) s h = (tt, (command_low E at c s (omega arith), tt))
  command_low E at (tree.RepeatWhile c e) s h = ((tt, (command_low E at c s (omega arith), tt)), content_low E (after_command at c) e (omega arith))
  command_low E at (tree.RepeatUntil c e) s h = ((tt, (command_low E at c s (omega arith), tt)), content_low E (after_command at c) e (omega arith))
  command_low E at (tree.If e b) s h = (content_low E at e (omega arith), block_low E (following at e) b s (omega arith))
  command_low E at (tree.Unless e b) s h = (content_low E at e (omega arith), block_low E (following at e) b s (omega arith))
  command_low E at (tree.While e b) s h = (content_low E at e (omega arith), block_low E (following at e) b s (omega arith))
  command_low E at (tree.Until e b) s h = (content_low E at e (omega arith), block_low E (following at e) b s (omega arith))
  command_low E at (tree.Test e b c) s h =
      let be = following at e in
      (content_low E at e (omega arith), block_low E be b s (omega arith), block_low E (after_block be b) c s (omega arith))
  command_low E at (tree.For n a z b) s h =
      let ba = following at a in
      (content_low E at a (omega arith), content_low E ba z (omega arith), block_low (in_for E n s) (following ba z) b (level_in_for s) (omega arith))
  command_low E at (tree.ForBy n a z k b) s h =
      let ba = following at a in
      (content_low E at a (omega arith), content_low E ba z (omega arith), block_low (in_for E n s) (following ba z) b (level_in_for s) (omega arith))
  command_low E at (tree.SwitchOn e is) s h =
      let be = following at e in
      let k = be.label in
      (content_low E at e (omega arith), items_low (in_list k is E) k (after_labels be (labels_in is)) is s (omega arith))
