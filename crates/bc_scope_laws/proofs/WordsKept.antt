-- The numbers of a translation are words if those of the section are.
use Rattle.std.proofs.Common.{◌≡◌, ◌∙◌, ℕ, ◌+◌, ◌&&◌, Bool, true, false, List, [], ◌∷◌, ◌++◌, length, Option, Some, None, refl}
use Rattle.bc_word.specs.declared.operator.Op.{Op}
use Rattle.bc_parse_tree.specs.declared.tree.Storage.{Storage}
use Rattle.bc_parse_tree.specs.declared.tree.Storage.TheVariants as storage
use Rattle.bc_parse_tree.specs.declared.tree.UnaryOp.{UnaryOp}
use Rattle.bc_parse_tree.specs.declared.tree.UnaryOp.TheVariants as unary
use Rattle.bc_parse_tree.specs.Tree as tree
use Rattle.bc_core.specs.Tree.{Exp, Num, Frame, Glob, Place, Load, Neg, Not, Bin, Cond, Call, Valof}
use Rattle.bc_core.specs.Commands as core
use Rattle.bc_core.specs.Level.{operand_level, argument_level, routine_level, level_in_for, level_after_parameters}
use Rattle.bc_core.specs.Numbers.{is_word, has_words, args_have_words, variables_have_words, declarations_have_words, command_has_words, block_has_words, items_have_words, body_has_words, places_have_words, valofs_have_words}
use Rattle.bc_scope_defs.specs.Scope.{Meant, Constant, Pending, Static, Global, Routine, Variable, OuterVariable, OuterLabel, StrayVariable, StrayLabel, LabelOutside, Undeclared, Env, nothing_known, Numbers, meant_by, after_valof, after_labels, after_place}
use Rattle.bc_scope_defs.specs.Scope as scope
use Rattle.bc_scope_defs.specs.Numbering.{following, after_all, after_declarations, after_declaration, after_definition, after_command, after_block, labels_of, labels_in}
use Rattle.bc_scope_defs.specs.Scoping.{operator, count, pending, in_entry, before_let, in_let, in_declaration, in_declarations, cells_in, cells_of_all, level_after, in_for, in_list, in_valof}
use Rattle.bc_scope_defs.specs.Sides.{side_levels}
use Rattle.bc_scope_defs.specs.Translation.{Forms, form_of_name, form_of_unary, form_of_binary, negation, opposite, or_not, forms, core_arguments, forms_of_all, assignments, assignment, initials, core_definition, core_definitions, core_declarations, core_labels, core_block, core_items, core_command, block_of, core_datum, core_routine, valof_of, places_of, valofs_of}
use Rattle.bc_scope_defs.specs.Found.{Thing, AValof, ARoutine, Data, AStatic, ATable, AText, in_parameters, section_start, found_in_section, found_in_entries, found, found_in_arguments, found_in_sides, found_in_initials, found_in_definition, found_in_definitions, found_in_declaration, found_in_declarations, found_in_block, found_in_items, found_in_command}
use Rattle.bc_scope_defs.specs.Words.{ExpHasWords, ExpsHaveWords, BlockHasWords, DeclarationHasWords, DeclarationsHaveWords, EntriesHaveWords, DefinitionHasWords, DefinitionsHaveWords, ItemsHaveWords, LabelsHaveWords, CommandHasWords}
use Rattle.bc_scope_laws.specs.Laws.{WordsAreKept}
use Rattle.bc_scope_laws.proofs.Constants.{MeansWord, Wordy, word_is, meant_word, word_of_constant, table_words, text_is_bytes, wordy_pending, wordy_entry, wordy_before, wordy_let, wordy_declaration, wordy_declarations, wordy_list, wordy_valof, wordy_parameters}
use Rattle.bc_scope_laws.proofs.Fits.{AllThings}
use Rattle.bc_scope_laws.proofs.Cleanness.{all_joined}

-- Expressions

abbrev FormsHaveWords : Forms → Type 0
FormsHaveWords f = (has_words f.address ≡ true) × (has_words f.content ≡ true)

of_name : (m : Meant) → MeansWord m → FormsHaveWords (form_of_name m)
of_name (Constant w) h = (h, h)
of_name Pending h = (refl, refl)
of_name (Static m) h = (refl, refl)
of_name (Global n) h = (refl, refl)
of_name (Routine m) h = (refl, refl)
of_name (Variable k) h = (refl, refl)
of_name (scope.Label l) h = (refl, refl)
of_name OuterVariable h = (refl, refl)
of_name OuterLabel h = (refl, refl)
of_name StrayVariable h = (refl, refl)
of_name StrayLabel h = (refl, refl)
of_name LabelOutside h = (refl, refl)
of_name Undeclared h = (refl, refl)

of_negation : (e : Exp) → has_words (negation e) ≡ has_words e
of_negation (Bin op a b) = of_operator (opposite op) where
  of_operator : (o : Option Op) → has_words (or_not o op a b) ≡ has_words (Bin op a b)
  of_operator None = refl
  of_operator (Some o) = refl
of_negation (Num n) = refl
of_negation (Frame k) = refl
of_negation (Glob n) = refl
of_negation (Place m) = refl
of_negation (Load e) = refl
of_negation (Neg e) = refl
of_negation (Not e) = refl
of_negation (Cond c x y) = refl
of_negation (Call es f) = refl
of_negation (Valof n) = refl

of_unary : (m : UnaryOp) (f : Forms) → FormsHaveWords f → FormsHaveWords (form_of_unary m f)
of_unary unary.Load f h = (h.1, h.1)
of_unary unary.Address f h = (h.0, h.0)
of_unary unary.Not f h = let k = of_negation f.content ∙ h.1 in (k, k)
of_unary unary.Neg f h = (h.1, h.1)

of_binary : (o : Option Op) (l r : Exp) → (has_words l && has_words r) ≡ true → FormsHaveWords (form_of_binary o l r)
of_binary None l r h = (h, h)
of_binary (Some op) l r h = (h, h)

mutual
  exp_words : (E : Env) (at : Numbers) (e : tree.Exp) → Wordy E → ExpHasWords e → FormsHaveWords (forms E at e)
  exp_words E at (tree.Name n) w h = of_name (meant_by E n) (meant_word E n w)
  exp_words E at (tree.Num n) w h = (word_is n h, word_is n h)
  exp_words E at (tree.Character n) w h = (word_is n h, word_is n h)
  exp_words E at tree.True w h = (refl, refl)
  exp_words E at tree.False w h = (refl, refl)
  exp_words E at (tree.Text text) w h = (refl, refl)
  exp_words E at (tree.Table ks) w h = (refl, refl)
  exp_words E at (tree.Valof b) w h = (refl, refl)
  exp_words E at (tree.Unary m e) w h = of_unary m (forms E at e) (exp_words E at e w h)
  exp_words E at (tree.Bin o l r) w h =
      of_binary (operator o) (forms E at l).content (forms E (following at l) r).content (λ i. (exp_words E at l w h.0).1 i && (exp_words E (following at l) r w h.1).1 i)
  exp_words E at (tree.Cond c x y) w h =
      let bc = following at c in
      let bx = following bc x in
      let k : has_words (forms E at (tree.Cond c x y)).content ≡ true =
      λ i. (exp_words E at c w h.0).1 i && (exp_words E bc x w h.1).1 i && (exp_words E bx y w h.2).1 i in
      (k, k)
  exp_words E at (tree.Call f es) w h =
      let k : has_words (forms E at (tree.Call f es)).content ≡ true =
      λ i. arguments_words E (following at f) es w h.1 i && (exp_words E at f w h.0).1 i in
      (k, k)

  arguments_words : (E : Env) (at : Numbers) (es : tree.Exps) → Wordy E → ExpsHaveWords es → args_have_words (core_arguments E at es) ≡ true
  arguments_words E at tree.none w h = refl
  arguments_words E at (tree.more e es) w h = λ i. (exp_words E at e w h.0).1 i && arguments_words E (following at e) es w h.1 i

-- Assignments

abbrev AllHaveWords : List Forms → Type 0
AllHaveWords [] = Unit {0}
AllHaveWords (f ∷ fs) = FormsHaveWords f × AllHaveWords fs

forms_words : (E : Env) (at : Numbers) (es : tree.Exps) → Wordy E → ExpsHaveWords es → AllHaveWords (forms_of_all E at es)
forms_words E at tree.none w h = tt
forms_words E at (tree.more e es) w h = (exp_words E at e w h.0, forms_words E (following at e) es w h.1)

pairs_words : (fs gs : List Forms) → AllHaveWords fs → AllHaveWords gs → items_have_words (assignments fs gs) ≡ true
pairs_words [] gs h k = refl
pairs_words (f ∷ fs) [] h k = refl
pairs_words (f ∷ fs) (g ∷ gs) h k = λ i. (k.0.1 i && h.0.0 i) && pairs_words fs gs h.1 k.1 i

assignment_words : (fs gs : List Forms) → AllHaveWords fs → AllHaveWords gs → command_has_words (assignment fs gs) ≡ true
assignment_words [] gs h k = refl
assignment_words (f ∷ f1 ∷ fs) gs h k = λ i. true && pairs_words (f ∷ f1 ∷ fs) gs h k i
assignment_words (f ∷ []) [] h k = refl
assignment_words (f ∷ []) (g ∷ g1 ∷ gs) h k = λ i. true && pairs_words (f ∷ []) (g ∷ g1 ∷ gs) h k i
assignment_words (f ∷ []) (g ∷ []) h k = λ i. k.0.1 i && h.0.0 i

-- Declarations

after_both : (a b c : Bool) → (a && b) ≡ true → (b ≡ true → c ≡ true) → (a && c) ≡ true
after_both true b c e f = f e
after_both false b c e f = e

variables_append : (vs ws : List core.Variable) → variables_have_words vs ≡ true → variables_have_words ws ≡ true → variables_have_words (vs ++ ws) ≡ true
variables_append [] ws h k = k
variables_append (core.Initial e ∷ vs) ws h k = after_both (has_words e) (variables_have_words vs) _ h (λ t. variables_append vs ws t k)
variables_append (core.Vector n ∷ vs) ws h k = after_both (is_word n) (variables_have_words vs) _ h (λ t. variables_append vs ws t k)

initials_words : (fs : List Forms) → AllHaveWords fs → variables_have_words (initials fs) ≡ true
initials_words [] h = refl
initials_words (f ∷ fs) h = λ i. h.0.1 i && initials_words fs h.1 i

definition_words : (E B : Env) (at : Numbers) (d : tree.Definition) → Wordy E → Wordy B → DefinitionHasWords d → variables_have_words (core_definition E B at d) ≡ true
definition_words E B at (tree.Variables ns es) w v h = initials_words (forms_of_all E at es) (forms_words E at es w h)
definition_words E B at (tree.Vector n k) w v h = λ i. word_of_constant B k v h i && true
definition_words E B at (tree.Function n ps e) w v h = refl
definition_words E B at (tree.Routine n ps b) w v h = refl

definitions_words : (E B : Env) (at : Numbers) (ds : tree.Definitions) → Wordy E → Wordy B → DefinitionsHaveWords ds → variables_have_words (core_definitions E B at ds) ≡ true
definitions_words E B at tree.no_definitions w v h = refl
definitions_words E B at (tree.definition d ds) w v h =
    variables_append (core_definition E B at d) _ (definition_words E B at d w v h.0) (definitions_words E B (after_definition at d) ds w v h.1)

declarations_words : (E : Env) (at : Numbers) (s : ℕ) (ds : tree.Declarations) → Wordy E → DeclarationsHaveWords ds → declarations_have_words (core_declarations E at s ds) ≡ true
declarations_words E at s tree.no_declarations w h = refl
declarations_words E at s (tree.declaration (tree.Constants k es) ds) w h =
    let d : tree.Declaration = tree.Constants k es in
    declarations_words (in_declaration E at s d) (after_declaration at d) (s + 0) ds (wordy_declaration at s d E w h.0) h.1
declarations_words E at s (tree.declaration (tree.Let defs) ds) w h =
    let w1 = wordy_let at s defs E w in
    let B = before_let defs E in
    λ i. definitions_words (in_let E at s defs) B at defs w1 (wordy_before defs E w) h.0 i
    && declarations_words (in_let E at s defs) (after_declaration at (tree.Let defs)) (s + cells_of_all B defs) ds w1 h.1 i

-- Commands

labels_words : (E : Env) (k : ℕ) (ls : tree.Labels) (is : core.Items) → Wordy E → LabelsHaveWords ls → items_have_words is ≡ true → items_have_words (core_labels E k ls is) ≡ true
labels_words E k tree.no_labels is w h n = n
labels_words E k (tree.label (tree.Case c) ls) is w h n = λ i. word_of_constant E c w h.0 i && labels_words E (k + 0) ls is w h.1 n i
labels_words E k (tree.label tree.Default ls) is w h n = labels_words E (k + 0) ls is w h.1 n
labels_words E k (tree.label (tree.Named x) ls) is w h n = labels_words E (k + 1) ls is w h.1 n

one_words : (c : core.Command) → command_has_words c ≡ true → block_has_words (block_of c) ≡ true
one_words c h = λ i. true && (h i && true)

mutual
  block_words : (E : Env) (at : Numbers) (b : tree.Block) (s : ℕ) → Wordy E → BlockHasWords b → block_has_words (core_block E at b s) ≡ true
  block_words E at (tree.block ds is) s w h =
      let at1 = after_declarations at ds in
      let k = at1.label in
      let E1 = in_declarations E at s ds in
      let w1 = wordy_declarations at s ds E w h.0 in
      λ i. declarations_words E at s ds w h.0 i && items_words (in_list k is E1) k (after_labels at1 (labels_in is)) is (level_after E at s ds) (wordy_list k is E1 w1) h.1 i

  items_words : (E : Env) (k : ℕ) (at : Numbers) (is : tree.Items) (s : ℕ) → Wordy E → ItemsHaveWords is → items_have_words (core_items E k at is s) ≡ true
  items_words E k at tree.no_items s w h = refl
  items_words E k at (tree.item (tree.Labelled ls c) is) s w h =
      labels_words E k ls _ w h.0 (λ i. command_words E at c s w h.1 i && items_words E (k + labels_of ls) (after_command at c) is s w h.2 i)
  items_words E k at (tree.item (tree.Labels_alone ls) is) s w h = labels_words E k ls _ w h.0 (items_words E (k + labels_of ls) at is s w h.1)

  command_words : (E : Env) (at : Numbers) (c : tree.Command) (s : ℕ) → Wordy E → CommandHasWords c → command_has_words (core_command E at c s) ≡ true
  command_words E at (tree.Assign xs es) s w h = assignment_words _ _ (forms_words E at xs w h.0) (forms_words E (after_all at xs) es w h.1)
  command_words E at (tree.Do f es) s w h = λ i. arguments_words E (following at f) es w h.1 i && (exp_words E at f w h.0).1 i
  command_words E at (tree.Compound b) s w h = block_words E at b s w h
  command_words E at tree.Break s w h = refl
  command_words E at tree.Loop s w h = refl
  command_words E at tree.EndCase s w h = refl
  command_words E at tree.Return s w h = refl
  command_words E at tree.Finish s w h = refl
  command_words E at (tree.Goto n) s w h = refl
  command_words E at (tree.ResultIs e) s w h = (exp_words E at e w h).1
  command_words E at (tree.Repeat c) s w h = one_words (core_command E at c s) (command_words E at c s w h)
  command_words E at (tree.RepeatWhile c e) s w h = λ i. one_words (core_command E at c s) (command_words E at c s w h.0) i && (exp_words E (after_command at c) e w h.1).1 i
  command_words E at (tree.RepeatUntil c e) s w h = λ i. one_words (core_command E at c s) (command_words E at c s w h.0) i && (exp_words E (after_command at c) e w h.1).1 i
  command_words E at (tree.If e b) s w h = λ i. (exp_words E at e w h.0).1 i && block_words E (following at e) b s w h.1 i
  command_words E at (tree.Unless e b) s w h = λ i. (exp_words E at e w h.0).1 i && block_words E (following at e) b s w h.1 i
  command_words E at (tree.While e b) s w h = λ i. (exp_words E at e w h.0).1 i && block_words E (following at e) b s w h.1 i
  command_words E at (tree.Until e b) s w h = λ i. (exp_words E at e w h.0).1 i && block_words E (following at e) b s w h.1 i
  command_words E at (tree.Test e b c) s w h =
      let be = following at e in
      λ i. (exp_words E at e w h.0).1 i && block_words E be b s w h.1 i && block_words E (after_block be b) c s w h.2 i
  command_words E at (tree.For n a z b) s w h =
      let ba = following at a in
      λ i. (exp_words E at a w h.0).1 i && (exp_words E ba z w h.1).1 i && true && block_words (in_for E n s) (following ba z) b (level_in_for s) (tt, w) h.2 i
  command_words E at (tree.ForBy n a z k b) s w h =
      let ba = following at a in
      λ i. (exp_words E at a w h.0).1 i && (exp_words E ba z w h.1).1 i && word_of_constant E k w h.2 i && block_words (in_for E n s) (following ba z) b (level_in_for s) (tt, w) h.3 i
  command_words E at (tree.SwitchOn e is) s w h =
      let be = following at e in
      let k = be.label in
      λ i. (exp_words E at e w h.0).1 i && items_words (in_list k is E) k (after_labels be (labels_in is)) is s (wordy_list k is E w) h.1 i

-- Things that are found

abbrev ThingHasWords : Thing → Type 0
ThingHasWords (AValof f) = block_has_words (valof_of f).body ≡ true
ThingHasWords (ARoutine r) = body_has_words (core_routine r).body ≡ true
ThingHasWords (Data label d) = places_have_words (core_datum d ∷ []) ≡ true

abbrev AllWordy : List Thing → Type 0
AllWordy things = AllThings ThingHasWords things

both_wordy : (fs gs : List Thing) → AllWordy fs → AllWordy gs → AllWordy (fs ++ gs)
both_wordy fs gs h k = all_joined ThingHasWords fs gs h k

entries_wordy : (s : Storage) (at : Numbers) (es : tree.Entries) (E : Env) → Wordy E → EntriesHaveWords es → AllWordy (found_in_entries s at es E)
entries_wordy s at tree.no_entries E w h = tt
entries_wordy storage.Static at (tree.entry n k es) E w h =
    ((λ i. word_of_constant E k w h.0 i && true), entries_wordy storage.Static (after_place at) es (in_entry storage.Static at n k E) (wordy_entry storage.Static at n k E w h.0) h.1)
entries_wordy storage.Manifest at (tree.entry n k es) E w h = entries_wordy storage.Manifest at es (in_entry storage.Manifest at n k E) (wordy_entry storage.Manifest at n k E w h.0) h.1
entries_wordy storage.Global at (tree.entry n k es) E w h = entries_wordy storage.Global at es (in_entry storage.Global at n k E) (wordy_entry storage.Global at n k E w h.0) h.1

mutual
  exp_wordy : (E : Env) (at : Numbers) (e : tree.Exp) (s : ℕ) → Wordy E → ExpHasWords e → AllWordy (found E at e s)
  exp_wordy E at (tree.Name n) s w h = tt
  exp_wordy E at (tree.Num n) s w h = tt
  exp_wordy E at (tree.Character n) s w h = tt
  exp_wordy E at tree.True s w h = tt
  exp_wordy E at tree.False s w h = tt
  exp_wordy E at (tree.Text text) s w h = ((λ i. text_is_bytes text h i && true), tt)
  exp_wordy E at (tree.Table ks) s w h = ((λ i. table_words E ks w h i && true), tt)
  exp_wordy E at (tree.Valof b) s w h =
      let w1 = wordy_valof E w in
      (block_words (in_valof E) (after_valof at) b s w1 h, block_wordy (in_valof E) (after_valof at) b s w1 h)
  exp_wordy E at (tree.Unary m e) s w h = exp_wordy E at e s w h
  exp_wordy E at (tree.Bin o l r) s w h =
      let s1 = operand_level s in
      both_wordy (found E at l s1) (found E (following at l) r s1) (exp_wordy E at l s1 w h.0) (exp_wordy E (following at l) r s1 w h.1)
  exp_wordy E at (tree.Cond c x y) s w h =
      let bc = following at c in
      let bx = following bc x in
      both_wordy (found E at c s) (found E bc x s ++ found E bx y s) (exp_wordy E at c s w h.0)
      (both_wordy (found E bc x s) (found E bx y s) (exp_wordy E bc x s w h.1) (exp_wordy E bx y s w h.2))
  exp_wordy E at (tree.Call f es) s w h =
      both_wordy (found E at f (routine_level s (count es))) (found_in_arguments E (following at f) es (argument_level s))
      (exp_wordy E at f (routine_level s (count es)) w h.0) (arguments_wordy E (following at f) es (argument_level s) w h.1)

  arguments_wordy : (E : Env) (at : Numbers) (es : tree.Exps) (s : ℕ) → Wordy E → ExpsHaveWords es → AllWordy (found_in_arguments E at es s)
  arguments_wordy E at tree.none s w h = tt
  arguments_wordy E at (tree.more e es) s w h =
      both_wordy (found E at e s) (found_in_arguments E (following at e) es (s + 1)) (exp_wordy E at e s w h.0) (arguments_wordy E (following at e) es (s + 1) w h.1)

  sides_wordy : (E : Env) (at : Numbers) (es : tree.Exps) (ss : List ℕ) → Wordy E → ExpsHaveWords es → AllWordy (found_in_sides E at es ss)
  sides_wordy E at tree.none ss w h = tt
  sides_wordy E at (tree.more e es) [] w h =
      both_wordy (found E at e 0) (found_in_sides E (following at e) es []) (exp_wordy E at e 0 w h.0) (sides_wordy E (following at e) es [] w h.1)
  sides_wordy E at (tree.more e es) (s ∷ ss) w h =
      both_wordy (found E at e s) (found_in_sides E (following at e) es ss) (exp_wordy E at e s w h.0) (sides_wordy E (following at e) es ss w h.1)

  initials_wordy : (E : Env) (at : Numbers) (es : tree.Exps) (s : ℕ) → Wordy E → ExpsHaveWords es → AllWordy (found_in_initials E at es s)
  initials_wordy E at tree.none s w h = tt
  initials_wordy E at (tree.more e es) s w h =
      both_wordy (found E at e s) (found_in_initials E (following at e) es s) (exp_wordy E at e s w h.0) (initials_wordy E (following at e) es s w h.1)

  definition_wordy : (O E : Env) (at : Numbers) (d : tree.Definition) (s : ℕ) → Wordy E → DefinitionHasWords d → AllWordy (found_in_definition O E at d s)
  definition_wordy O E at (tree.Variables ns es) s w h = initials_wordy E at es s w h
  definition_wordy O E at (tree.Vector n k) s w h = tt
  definition_wordy O E at (tree.Function n ps e) s w h =
      let w1 = wordy_parameters ps E w in
      let s1 = level_after_parameters (length ps) in
      ((exp_words (in_parameters ps E) (after_place at) e w1 h).1, exp_wordy (in_parameters ps E) (after_place at) e s1 w1 h)
  definition_wordy O E at (tree.Routine n ps b) s w h =
      let w1 = wordy_parameters ps E w in
      let s1 = level_after_parameters (length ps) in
      (block_words (in_parameters ps E) (after_place at) b s1 w1 h, block_wordy (in_parameters ps E) (after_place at) b s1 w1 h)

  definitions_wordy : (O E : Env) (at : Numbers) (ds : tree.Definitions) (s : ℕ) → Wordy E → DefinitionsHaveWords ds → AllWordy (found_in_definitions O E at ds s)
  definitions_wordy O E at tree.no_definitions s w h = tt
  definitions_wordy O E at (tree.definition d ds) s w h =
      both_wordy (found_in_definition O E at d s) (found_in_definitions O E (after_definition at d) ds s)
      (definition_wordy O E at d s w h.0) (definitions_wordy O E (after_definition at d) ds s w h.1)

  declaration_wordy : (E : Env) (at : Numbers) (d : tree.Declaration) (s : ℕ) → Wordy E → DeclarationHasWords d → AllWordy (found_in_declaration E at d s)
  declaration_wordy E at (tree.Constants k es) s w h = entries_wordy k at es (pending k es E) (wordy_pending k es E w) h
  declaration_wordy E at (tree.Let ds) s w h =
      definitions_wordy E (in_let E at s ds) at ds (s + cells_of_all (before_let ds E) ds) (wordy_let at s ds E w) h

  declarations_wordy : (E : Env) (at : Numbers) (ds : tree.Declarations) (s : ℕ) → Wordy E → DeclarationsHaveWords ds → AllWordy (found_in_declarations E at ds s)
  declarations_wordy E at tree.no_declarations s w h = tt
  declarations_wordy E at (tree.declaration d ds) s w h =
      let E1 = in_declaration E at s d in
      let at1 = after_declaration at d in
      both_wordy (found_in_declaration E at d s) (found_in_declarations E1 at1 ds (s + cells_in E d))
      (declaration_wordy E at d s w h.0) (declarations_wordy E1 at1 ds (s + cells_in E d) (wordy_declaration at s d E w h.0) h.1)

  block_wordy : (E : Env) (at : Numbers) (b : tree.Block) (s : ℕ) → Wordy E → BlockHasWords b → AllWordy (found_in_block E at b s)
  block_wordy E at (tree.block ds is) s w h =
      let at1 = after_declarations at ds in
      let k = at1.label in
      let E1 = in_declarations E at s ds in
      let E2 = in_list k is E1 in
      let at2 = after_labels at1 (labels_in is) in
      let s1 = level_after E at s ds in
      both_wordy (found_in_declarations E at ds s) (found_in_items E2 k at2 is s1)
      (declarations_wordy E at ds s w h.0) (items_wordy E2 k at2 is s1 (wordy_list k is E1 (wordy_declarations at s ds E w h.0)) h.1)

  items_wordy : (E : Env) (k : ℕ) (at : Numbers) (is : tree.Items) (s : ℕ) → Wordy E → ItemsHaveWords is → AllWordy (found_in_items E k at is s)
  items_wordy E k at tree.no_items s w h = tt
  items_wordy E k at (tree.item (tree.Labelled ls c) is) s w h =
      both_wordy (found_in_command E at c s) (found_in_items E (k + labels_of ls) (after_command at c) is s)
      (command_wordy E at c s w h.1) (items_wordy E (k + labels_of ls) (after_command at c) is s w h.2)
  items_wordy E k at (tree.item (tree.Labels_alone ls) is) s w h = items_wordy E (k + labels_of ls) at is s w h.1

  command_wordy : (E : Env) (at : Numbers) (c : tree.Command) (s : ℕ) → Wordy E → CommandHasWords c → AllWordy (found_in_command E at c s)
  command_wordy E at (tree.Assign xs es) s w h =
      let ss = side_levels E xs s in
      let at1 = after_all at xs in
      both_wordy (found_in_sides E at xs ss) (found_in_sides E at1 es ss) (sides_wordy E at xs ss w h.0) (sides_wordy E at1 es ss w h.1)
  command_wordy E at (tree.Do f es) s w h =
      both_wordy (found E at f (routine_level s (count es))) (found_in_arguments E (following at f) es (argument_level s))
      (exp_wordy E at f (routine_level s (count es)) w h.0) (arguments_wordy E (following at f) es (argument_level s) w h.1)
  command_wordy E at (tree.Compound b) s w h = block_wordy E at b s w h
  command_wordy E at tree.Break s w h = tt
  command_wordy E at tree.Loop s w h = tt
  command_wordy E at tree.EndCase s w h = tt
  command_wordy E at tree.Return s w h = tt
  command_wordy E at tree.Finish s w h = tt
  command_wordy E at (tree.Goto n) s w h = tt
  command_wordy E at (tree.ResultIs e) s w h = exp_wordy E at e s w h
  command_wordy E at (tree.Repeat c) s w h = command_wordy E at c s w h
  command_wordy E at (tree.RepeatWhile c e) s w h =
      let bc = after_command at c in both_wordy (found_in_command E at c s) (found E bc e s) (command_wordy E at c s w h.0) (exp_wordy E bc e s w h.1)
  command_wordy E at (tree.RepeatUntil c e) s w h =
      let bc = after_command at c in both_wordy (found_in_command E at c s) (found E bc e s) (command_wordy E at c s w h.0) (exp_wordy E bc e s w h.1)
  command_wordy E at (tree.If e b) s w h = let be = following at e in both_wordy (found E at e s) (found_in_block E be b s) (exp_wordy E at e s w h.0) (block_wordy E be b s w h.1)
  command_wordy E at (tree.Unless e b) s w h = let be = following at e in both_wordy (found E at e s) (found_in_block E be b s) (exp_wordy E at e s w h.0) (block_wordy E be b s w h.1)
  command_wordy E at (tree.While e b) s w h = let be = following at e in both_wordy (found E at e s) (found_in_block E be b s) (exp_wordy E at e s w h.0) (block_wordy E be b s w h.1)
  command_wordy E at (tree.Until e b) s w h = let be = following at e in both_wordy (found E at e s) (found_in_block E be b s) (exp_wordy E at e s w h.0) (block_wordy E be b s w h.1)
  command_wordy E at (tree.Test e b c) s w h =
      let be = following at e in
      let bb = after_block be b in
      both_wordy (found E at e s) (found_in_block E be b s ++ found_in_block E bb c s) (exp_wordy E at e s w h.0)
      (both_wordy (found_in_block E be b s) (found_in_block E bb c s) (block_wordy E be b s w h.1) (block_wordy E bb c s w h.2))
  command_wordy E at (tree.For n a z b) s w h =
      let s1 = level_in_for s in
      let ba = following at a in
      let bz = following ba z in
      both_wordy (found E at a s1) (found E ba z s1 ++ found_in_block (in_for E n s) bz b s1) (exp_wordy E at a s1 w h.0)
      (both_wordy (found E ba z s1) (found_in_block (in_for E n s) bz b s1) (exp_wordy E ba z s1 w h.1) (block_wordy (in_for E n s) bz b s1 (tt, w) h.2))
  command_wordy E at (tree.ForBy n a z k b) s w h =
      let s1 = level_in_for s in
      let ba = following at a in
      let bz = following ba z in
      both_wordy (found E at a s1) (found E ba z s1 ++ found_in_block (in_for E n s) bz b s1) (exp_wordy E at a s1 w h.0)
      (both_wordy (found E ba z s1) (found_in_block (in_for E n s) bz b s1) (exp_wordy E ba z s1 w h.1) (block_wordy (in_for E n s) bz b s1 (tt, w) h.3))
  command_wordy E at (tree.SwitchOn e is) s w h =
      let be = following at e in
      let k = be.label in
      let E1 = in_list k is E in
      let at1 = after_labels be (labels_in is) in
      both_wordy (found E at e s) (found_in_items E1 k at1 is s) (exp_wordy E at e s w h.0) (items_wordy E1 k at1 is s (wordy_list k is E w) h.1)

-- Sections

left_of : (a : Bool) → (a && true) ≡ true → a ≡ true
left_of true h = refl
left_of false h = h

places_words : (things : List Thing) → AllWordy things → places_have_words (places_of things) ≡ true
places_words [] h = refl
places_words (AValof f ∷ things) h = places_words things h.1
places_words (ARoutine r ∷ things) h = λ i. h.0 i && places_words things h.1 i
places_words (Data label (AStatic v) ∷ things) h = λ i. left_of _ h.0 i && places_words things h.1 i
places_words (Data label (ATable words) ∷ things) h = λ i. left_of _ h.0 i && places_words things h.1 i
places_words (Data label (AText bytes) ∷ things) h = λ i. left_of _ h.0 i && places_words things h.1 i

valofs_words : (things : List Thing) → AllWordy things → valofs_have_words (valofs_of things) ≡ true
valofs_words [] h = refl
valofs_words (AValof f ∷ things) h = λ i. h.0 i && valofs_words things h.1 i
valofs_words (ARoutine r ∷ things) h = valofs_words things h.1
valofs_words (Data label d ∷ things) h = valofs_words things h.1

pub words_are_kept : WordsAreKept
words_are_kept ds h =
    let things = found_in_section ds in
    let all = declarations_wordy nothing_known section_start ds 0 tt h in
    λ i. places_words things all i && valofs_words things all i
