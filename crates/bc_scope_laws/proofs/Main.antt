-- The translation keeps the meaning, by one induction over the trees.
use Rattle.std.proofs.Common.{◌≡◌, ◌∙◌, ℕ, ◌+◌, ◌%◌, ◌||◌, true, false, List, [], ◌∷◌, ◌++◌, refl, sym, ap, subst, arith}
use Rattle.bc_word.specs.declared.operator.Op.TheVariants as operators
use Rattle.bc_word.specs.Words.{value_of}
use Rattle.bc_parse_tree.specs.Tree as tree
use Rattle.bc_core.specs.Tree.{Frame, Call}
use Rattle.bc_core.specs.Commands as core_commands
use Rattle.bc_core.specs.Level.{operand_level, argument_level, routine_level, level_in_for}
use Rattle.bc_core.specs.Outcome.{Done, Run, then_do, choose, with_cells, read, write, both}
use Rattle.bc_core.specs.Value.{Context, has_call, value, values, assign, by_value, given}
use Rattle.bc_core.specs.Exit.{Exit, Past, Resulted, onward}
use Rattle.bc_core.specs.Lists.{Entry, Beginning, from_entry, has_label, listed, switched}
use Rattle.bc_core.specs.Loop.{agrees, while_loop, repeat_loop, repeat_while_loop, for_loop}
use Rattle.bc_core.specs.Command.{perform, perform_block, perform_items, step_of_for}
use Rattle.bc_core.specs.Command as core_command
use Rattle.bc_core.specs.Meaning.{valof_value}
use Rattle.bc_scope_defs.specs.Scope.{Env, Numbers, meant_by, after_labels}
use Rattle.bc_scope_defs.specs.Numbering.{following, after_all, after_declarations, after_declaration, after_definition, after_command, after_block, labels_of, labels_in}
use Rattle.bc_scope_defs.specs.Scoping.{operator, constant, count, before_let, in_let, in_declaration, in_declarations, level_after, in_for, in_list}
use Rattle.bc_scope_defs.specs.Scoping as scoping
use Rattle.bc_scope_defs.specs.Sides.{side_levels}
use Rattle.bc_scope_defs.specs.Meaning.{Around, Worth, plain, worth, worth_of_unary, worth_of_binary, arguments, sides, set_variable, initial_values, initialise_one, initialise, declare, run_block, run_items, run_command, run_for, met_labels}
use Rattle.bc_scope_defs.specs.Translation.{Forms, forms, core_arguments, forms_of_all, initials, core_definition, core_definitions, core_declarations, core_block, core_items}
use Rattle.bc_scope_defs.specs.Translation as translation
use Rattle.bc_scope_defs.specs.Found.{Thing, AValof, ARoutine, Data, found, found_in_arguments, found_in_sides, found_in_initials, found_in_definition, found_in_definitions, found_in_declaration, found_in_declarations, found_in_block, found_in_items, found_in_command}
use Rattle.bc_scope_laws.proofs.Runs.{then_then, then_done, both_done}
use Rattle.bc_scope_laws.proofs.Forms.{calls_kept, count_kept, worth_of, in_context, name_means, unary_means, binary_means}
use Rattle.bc_scope_laws.proofs.Items.{labels_met, label_kept, case_kept, one_command, SidesAre, assignment_means}
use Rattle.bc_scope_laws.proofs.Declared.{cells_of_one, cells_kept, level_kept, initialise_append}
use Rattle.bc_scope_laws.proofs.SideLevels.{levels_kept}

-- what VALOFs do, by number
abbrev pub Bodies : Type 0
Bodies = ℕ → ℕ → ℕ → Run ℕ

-- these VALOFs do what was found
abbrev pub AllRight : Around → Bodies → (p : ℕ) → List Thing → Type 0
AllRight A V p [] = Unit {0}
AllRight A V p (AValof f ∷ fs) = (V f.number p f.level ≡ then_do (run_block A f.names f.numbers f.body p f.level) valof_value) × AllRight A V p fs
AllRight A V p (ARoutine r ∷ fs) = AllRight A V p fs
AllRight A V p (Data q d ∷ fs) = AllRight A V p fs

pub first : (A : Around) (V : Bodies) (p : ℕ) (fs gs : List Thing) → AllRight A V p (fs ++ gs) → AllRight A V p fs
first A V p [] gs h = tt
first A V p (AValof f ∷ fs) gs h = (h.0, first A V p fs gs h.1)
first A V p (ARoutine r ∷ fs) gs h = first A V p fs gs h
first A V p (Data q d ∷ fs) gs h = first A V p fs gs h

pub second : (A : Around) (V : Bodies) (p : ℕ) (fs gs : List Thing) → AllRight A V p (fs ++ gs) → AllRight A V p gs
second A V p [] gs h = h
second A V p (AValof f ∷ fs) gs h = second A V p fs gs h.1
second A V p (ARoutine r ∷ fs) gs h = second A V p fs gs h
second A V p (Data q d ∷ fs) gs h = second A V p fs gs h

-- a variable is set as by an assignment
variable_set : (C : Context) (p k s : ℕ) (w : Worth) (f : Forms) → w ≡ worth_of C f p s → set_variable k p w.content ≡ assign C f.content (Frame k) p s
variable_set C p k s w f h =
    (λ i. then_do (h i).content.value (λ v. write ((p + k) % 65536) v))
    ∙ sym (both_done (has_call f.content || false) (value C f.content p s) ((p + k) % 65536) (λ v a. write a v))

vector_set : (C : Context) (n p k s : ℕ) → set_variable k p (by_value (Done ((p + (k + 1)) % 65536))) ≡ core_command.initialise_one C (core_commands.Vector n) p k s
vector_set C n p k s = sym (both_done false (Done ((p + (k + 1)) % 65536)) ((p + k) % 65536) (λ v a. write a v))

step_taken : (C : Context) (by p s s1 : ℕ) → then_do (read ((p + s) % 65536)) (λ x. write ((p + s) % 65536) ((x + by) % 65536)) ≡ assign C (step_of_for by s) (Frame s) p s1
step_taken C by p s s1 =
    let a = (p + s) % 65536 in
    let sum : ℕ → ℕ → Run ℕ = λ x y. given (value_of operators.Add x y) in
    sym (then_then (read a) (λ x. sum x by) (λ v. write a v))
    ∙ (λ i. then_do (sym (both_done false (read a) by sum) i) (λ v. write a v))
    ∙ sym (both_done false (both false (read a) (Done by) sum) a (λ v b. write b v))

-- what forms mean, given what their parts mean

call_means : (A : Around) (V : Bodies) (p : ℕ) (E : Env) (at : Numbers) (f : tree.Exp) (es : tree.Exps) (s : ℕ)
    → worth A E at f p (routine_level s (count es)) ≡ worth_of (in_context A V) (forms E at f) p (routine_level s (count es))
    → arguments A E (following at f) es p (argument_level s) ≡ values (in_context A V) (core_arguments E (following at f) es) p (argument_level s)
    → then_do (arguments A E (following at f) es p (argument_level s)) (λ vs. then_do (worth A E at f p (routine_level s (count es))).content.value (λ r. A.call r vs (p + s)))
    ≡ value (in_context A V) (Call (core_arguments E (following at f) es) (forms E at f).content) p s
call_means A V p E at f es s hf hs =
    let C = in_context A V in
    (λ i. then_do (hs i) (λ vs. then_do (hf i).content.value (λ r. A.call r vs (p + s))))
    ∙ (λ i. then_do (values C (core_arguments E (following at f) es) p (argument_level s)) (λ vs.
    then_do (value C (forms E at f).content p (routine_level s (sym (count_kept E (following at f) es) i))) (λ r. A.call r vs (p + s))))

for_means : (C : Context) (by p s : ℕ) (start limit : Worth) (f g : Forms) (body : Run Exit) (b : core_commands.Block)
    → start ≡ worth_of C f p (level_in_for s) → limit ≡ worth_of C g p (level_in_for s) → body ≡ perform_block C b p (level_in_for s)
    → run_for by (p + s) start.content.value limit.content.value body ≡ perform C (core_commands.For f.content g.content by b) p s
for_means C by p s start limit f g body b hs hl hb =
    let s1 = level_in_for s in
    λ i. with_cells 1 (p + s) (for_loop by (variable_set C p s s1 start f hs i) (hl i).content.value (read ((p + s) % 65536)) (step_taken C by p s s1 i) (hb i))

mutual
  pub exp_means : (A : Around) (V : Bodies) (p : ℕ) (E : Env) (at : Numbers) (e : tree.Exp) (s : ℕ) → AllRight A V p (found E at e s) → worth A E at e p s ≡ worth_of (in_context A V) (forms E at e) p s
  exp_means A V p E at (tree.Name n) s h = name_means A V (meant_by E n) p s
  exp_means A V p E at (tree.Num w) s h = refl
  exp_means A V p E at (tree.Character w) s h = refl
  exp_means A V p E at tree.True s h = refl
  exp_means A V p E at tree.False s h = refl
  exp_means A V p E at (tree.Text bytes) s h = refl
  exp_means A V p E at (tree.Table ks) s h = refl
  exp_means A V p E at (tree.Valof b) s h = λ i. plain (by_value (sym h.0 i))
  exp_means A V p E at (tree.Unary m e) s h = ap (worth_of_unary m) (exp_means A V p E at e s h) ∙ unary_means (in_context A V) m (forms E at e) p s
  exp_means A V p E at (tree.Bin o l r) s h =
      let s1 = operand_level s in
      let hl = exp_means A V p E at l s1 (first A V p (found E at l s1) (found E (following at l) r s1) h) in
      let hr = exp_means A V p E (following at l) r s1 (second A V p (found E at l s1) (found E (following at l) r s1) h) in
      (λ i. worth_of_binary (operator o) (sym (calls_kept E at l).1 i || sym (calls_kept E (following at l) r).1 i) (hl i).content (hr i).content)
      ∙ binary_means (in_context A V) (operator o) (forms E at l).content (forms E (following at l) r).content p s
  exp_means A V p E at (tree.Cond c x y) s h =
      let bc = following at c in
      let bx = following bc x in
      let rest = found E bc x s ++ found E bx y s in
      let hxy = second A V p (found E at c s) rest h in
      let hc = exp_means A V p E at c s (first A V p (found E at c s) rest h) in
      let hx = exp_means A V p E bc x s (first A V p (found E bc x s) (found E bx y s) hxy) in
      let hy = exp_means A V p E bx y s (second A V p (found E bc x s) (found E bx y s) hxy) in
      λ i. plain (by_value (then_do (hc i).content.truth (λ t. choose t (hx i).content.value (hy i).content.value)))
  exp_means A V p E at (tree.Call f es) s h =
      let of_routine = found E at f (routine_level s (count es)) in
      let of_arguments = found_in_arguments E (following at f) es (argument_level s) in
      let hf = exp_means A V p E at f (routine_level s (count es)) (first A V p of_routine of_arguments h) in
      let hs = arguments_mean A V p E (following at f) es (argument_level s) (second A V p of_routine of_arguments h) in
      ap (λ r. plain (by_value r)) (call_means A V p E at f es s hf hs)

  pub arguments_mean : (A : Around) (V : Bodies) (p : ℕ) (E : Env) (at : Numbers) (es : tree.Exps) (s : ℕ) → AllRight A V p (found_in_arguments E at es s) → arguments A E at es p s ≡ values (in_context A V) (core_arguments E at es) p s
  arguments_mean A V p E at tree.none s h = refl
  arguments_mean A V p E at (tree.more e es) s h =
      let he = exp_means A V p E at e s (first A V p (found E at e s) (found_in_arguments E (following at e) es (s + 1)) h) in
      let hs = arguments_mean A V p E (following at e) es (s + 1) (second A V p (found E at e s) (found_in_arguments E (following at e) es (s + 1)) h) in
      λ i. then_do (he i).content.value (λ v. then_do (hs i) (λ vs. Done (v ∷ vs)))

  pub sides_mean : (A : Around) (V : Bodies) (p : ℕ) (E : Env) (at : Numbers) (es : tree.Exps) (ss : List ℕ) → AllRight A V p (found_in_sides E at es ss) → SidesAre (in_context A V) p (sides A E at es p ss) (forms_of_all E at es) ss
  sides_mean A V p E at tree.none ss h = tt
  sides_mean A V p E at (tree.more e es) [] h = tt
  sides_mean A V p E at (tree.more e es) (s ∷ ss) h =
      let of_first = found E at e s in
      let of_rest = found_in_sides E (following at e) es ss in
      (calls_kept E at e, exp_means A V p E at e s (first A V p of_first of_rest h), sides_mean A V p E (following at e) es ss (second A V p of_first of_rest h))

  pub initials_mean : (A : Around) (V : Bodies) (p : ℕ) (E : Env) (at : Numbers) (es : tree.Exps) (k s : ℕ) → AllRight A V p (found_in_initials E at es s)
      → initial_values A E at es p k s ≡ core_command.initialise (in_context A V) (initials (forms_of_all E at es)) p k s
  initials_mean A V p E at tree.none k s h = refl
  initials_mean A V p E at (tree.more e es) k s h =
      let of_first = found E at e s in
      let of_rest = found_in_initials E (following at e) es s in
      let he = exp_means A V p E at e s (first A V p of_first of_rest h) in
      let hs = initials_mean A V p E (following at e) es (k + 1) s (second A V p of_first of_rest h) in
      λ i. then_do (variable_set (in_context A V) p k s (worth A E at e p s) (forms E at e) he i) (λ u. hs i)

  pub definition_means : (A : Around) (V : Bodies) (p : ℕ) (O E B : Env) (at : Numbers) (d : tree.Definition) (k s : ℕ) → AllRight A V p (found_in_definition O E at d s)
      → initialise_one A E B at d p k s ≡ core_command.initialise (in_context A V) (core_definition E B at d) p k s
  definition_means A V p O E B at (tree.Variables ns es) k s h = initials_mean A V p E at es k s h
  definition_means A V p O E B at (tree.Vector n c) k s h = vector_set (in_context A V) (constant B c) p k s ∙ sym (then_done _)
  definition_means A V p O E B at (tree.Function n ps e) k s h = refl
  definition_means A V p O E B at (tree.Routine n ps b) k s h = refl

  pub definitions_mean : (A : Around) (V : Bodies) (p : ℕ) (O E B : Env) (at : Numbers) (ds : tree.Definitions) (k s : ℕ) → AllRight A V p (found_in_definitions O E at ds s)
      → initialise A E B at ds p k s ≡ core_command.initialise (in_context A V) (core_definitions E B at ds) p k s
  definitions_mean A V p O E B at tree.no_definitions k s h = refl
  definitions_mean A V p O E B at (tree.definition d ds) k s h =
      let of_first = found_in_definition O E at d s in
      let of_rest = found_in_definitions O E (after_definition at d) ds s in
      let hd = definition_means A V p O E B at d k s (first A V p of_first of_rest h) in
      let hs = definitions_mean A V p O E B (after_definition at d) ds (k + scoping.cells_of B d) s (second A V p of_first of_rest h) in
      let C = in_context A V in
      (λ i. then_do (hd i) (λ u. hs i))
      ∙ (λ i. then_do (core_command.initialise C (core_definition E B at d) p k s) (λ u. core_command.initialise C (core_definitions E B (after_definition at d) ds) p (k + sym (cells_of_one E B at d) i) s))
      ∙ initialise_append C (core_definition E B at d) (core_definitions E B (after_definition at d) ds) p k s

  pub declarations_mean : (A : Around) (V : Bodies) (p : ℕ) (E : Env) (at : Numbers) (ds : tree.Declarations) (s : ℕ) (r : Run Exit) → AllRight A V p (found_in_declarations E at ds s)
      → declare A E at ds p s r ≡ core_command.declare (in_context A V) (core_declarations E at s ds) p s r
  declarations_mean A V p E at tree.no_declarations s r h = refl
  declarations_mean A V p E at (tree.declaration (tree.Constants k es) ds) s r h =
      let E1 = in_declaration E at s (tree.Constants k es) in
      let at1 = after_declaration at (tree.Constants k es) in
      let e : s + 0 ≡ s = omega arith in
      declarations_mean A V p E1 at1 ds (s + 0) r (second A V p (found_in_declaration E at (tree.Constants k es) s) (found_in_declarations E1 at1 ds (s + 0)) h)
      ∙ (λ i. core_command.declare (in_context A V) (core_declarations E1 at1 (s + 0) ds) p (e i) r)
  declarations_mean A V p E at (tree.declaration (tree.Let defs) ds) s r h =
      let E1 = in_let E at s defs in
      let B = before_let defs E in
      let at1 = after_declaration at (tree.Let defs) in
      let n = scoping.cells_of_all B defs in
      let of_first = found_in_definitions E E1 at defs (s + n) in
      let of_rest = found_in_declarations E1 at1 ds (s + n) in
      let hd = definitions_mean A V p E E1 B at defs s (s + n) (first A V p of_first of_rest h) in
      let hs = declarations_mean A V p E1 at1 ds (s + n) r (second A V p of_first of_rest h) in
      let C = in_context A V in
      (λ i. with_cells n (p + s) (then_do (hd i) (λ u. hs i)))
      ∙ (λ i. let m = sym (cells_kept E1 B at defs) i in with_cells m (p + s) (then_do (core_command.initialise C (core_definitions E1 B at defs) p s (s + m)) (λ u. core_command.declare C (core_declarations E1 at1 (s + n) ds) p (s + m) r)))

  pub block_means : (A : Around) (V : Bodies) (p : ℕ) (E : Env) (at : Numbers) (b : tree.Block) (s : ℕ) → AllRight A V p (found_in_block E at b s)
      → run_block A E at b p s ≡ perform_block (in_context A V) (core_block E at b s) p s
  block_means A V p E at (tree.block ds is) s h =
      let at1 = after_declarations at ds in
      let k = at1.label in
      let E1 = in_list k is (in_declarations E at s ds) in
      let at2 = after_labels at1 (labels_in is) in
      let s1 = level_after E at s ds in
      let of_first = found_in_declarations E at ds s in
      let of_rest = found_in_items E1 k at2 is s1 in
      let C = in_context A V in
      let items = core_items E1 k at2 is s1 in
      (λ i. declare A E at ds p s (listed (λ l. sym (label_kept E1 k at2 is s1 l) i) (λ from. items_mean A V p E1 k at2 is s1 from (second A V p of_first of_rest h) i) Beginning))
      ∙ declarations_mean A V p E at ds s (listed (has_label items) (perform_items C items p s1) Beginning) (first A V p of_first of_rest h)
      ∙ (λ i. core_command.declare C (core_declarations E at s ds) p s (listed (has_label items) (perform_items C items p (level_kept E at s ds i)) Beginning))

  pub items_mean : (A : Around) (V : Bodies) (p : ℕ) (E : Env) (k : ℕ) (at : Numbers) (is : tree.Items) (s : ℕ) (from : Entry) → AllRight A V p (found_in_items E k at is s)
      → run_items A E k at is p s from ≡ perform_items (in_context A V) (core_items E k at is s) p s from
  items_mean A V p E k at tree.no_items s from h = refl
  items_mean A V p E k at (tree.item (tree.Labelled ls c) is) s from h =
      let of_first = found_in_command E at c s in
      let of_rest = found_in_items E (k + labels_of ls) (after_command at c) is s in
      let from1 = met_labels E k ls from in
      let hc = command_means A V p E at c s (first A V p of_first of_rest h) in
      let hs = items_mean A V p E (k + labels_of ls) (after_command at c) is s from1 (second A V p of_first of_rest h) in
      (λ i. then_do (from_entry from1 (hc i)) (onward (hs i)))
      ∙ sym (labels_met (in_context A V) E k ls _ p s from)
  items_mean A V p E k at (tree.item (tree.Labels_alone ls) is) s from h =
      items_mean A V p E (k + labels_of ls) at is s (met_labels E k ls from) h
      ∙ sym (labels_met (in_context A V) E k ls _ p s from)

  pub command_means : (A : Around) (V : Bodies) (p : ℕ) (E : Env) (at : Numbers) (c : tree.Command) (s : ℕ) → AllRight A V p (found_in_command E at c s)
      → run_command A E at c p s ≡ perform (in_context A V) (translation.core_command E at c s) p s
  command_means A V p E at (tree.Assign xs es) s h =
      let ss = side_levels E xs s in
      let at1 = after_all at xs in
      let of_first = found_in_sides E at xs ss in
      let of_rest = found_in_sides E at1 es ss in
      let C = in_context A V in
      let fs = forms_of_all E at xs in
      let gs = forms_of_all E at1 es in
      let e = levels_kept E at xs s in
      assignment_means C p s (sides A E at xs p ss) (sides A E at1 es p ss) fs gs
      (subst (λ ls. SidesAre C p (sides A E at xs p ss) fs ls) e (sides_mean A V p E at xs ss (first A V p of_first of_rest h)))
      (subst (λ ls. SidesAre C p (sides A E at1 es p ss) gs ls) e (sides_mean A V p E at1 es ss (second A V p of_first of_rest h)))
  command_means A V p E at (tree.Do f es) s h =
      let of_routine = found E at f (routine_level s (count es)) in
      let of_arguments = found_in_arguments E (following at f) es (argument_level s) in
      let hf = exp_means A V p E at f (routine_level s (count es)) (first A V p of_routine of_arguments h) in
      let hs = arguments_mean A V p E (following at f) es (argument_level s) (second A V p of_routine of_arguments h) in
      ap (λ r. then_do r (λ v. Done Past)) (call_means A V p E at f es s hf hs)
  command_means A V p E at (tree.Compound b) s h = block_means A V p E at b s h
  command_means A V p E at tree.Break s h = refl
  command_means A V p E at tree.Loop s h = refl
  command_means A V p E at tree.EndCase s h = refl
  command_means A V p E at tree.Return s h = refl
  command_means A V p E at tree.Finish s h = refl
  command_means A V p E at (tree.ResultIs e) s h = ap (λ (w : Worth). then_do w.content.value (λ v. Done (Resulted v))) (exp_means A V p E at e s h)
  command_means A V p E at (tree.Goto n) s h = refl
  command_means A V p E at (tree.Repeat c) s h = ap repeat_loop (command_means A V p E at c s h ∙ sym (one_command (in_context A V) (translation.core_command E at c s) p s))
  command_means A V p E at (tree.RepeatWhile c e) s h =
      let of_body = found_in_command E at c s in
      let of_test = found E (after_command at c) e s in
      let hc = command_means A V p E at c s (first A V p of_body of_test h) ∙ sym (one_command (in_context A V) (translation.core_command E at c s) p s) in
      let he = exp_means A V p E (after_command at c) e s (second A V p of_body of_test h) in
      λ i. repeat_while_loop (hc i) true (he i).content.truth
  command_means A V p E at (tree.RepeatUntil c e) s h =
      let of_body = found_in_command E at c s in
      let of_test = found E (after_command at c) e s in
      let hc = command_means A V p E at c s (first A V p of_body of_test h) ∙ sym (one_command (in_context A V) (translation.core_command E at c s) p s) in
      let he = exp_means A V p E (after_command at c) e s (second A V p of_body of_test h) in
      λ i. repeat_while_loop (hc i) false (he i).content.truth
  command_means A V p E at (tree.If e b) s h =
      let of_test = found E at e s in
      let of_body = found_in_block E (following at e) b s in
      let he = exp_means A V p E at e s (first A V p of_test of_body h) in
      let hb = block_means A V p E (following at e) b s (second A V p of_test of_body h) in
      λ i. then_do (he i).content.truth (λ t. choose (agrees true t) (hb i) (Done Past))
  command_means A V p E at (tree.Unless e b) s h =
      let of_test = found E at e s in
      let of_body = found_in_block E (following at e) b s in
      let he = exp_means A V p E at e s (first A V p of_test of_body h) in
      let hb = block_means A V p E (following at e) b s (second A V p of_test of_body h) in
      λ i. then_do (he i).content.truth (λ t. choose (agrees false t) (hb i) (Done Past))
  command_means A V p E at (tree.While e b) s h =
      let of_test = found E at e s in
      let of_body = found_in_block E (following at e) b s in
      let he = exp_means A V p E at e s (first A V p of_test of_body h) in
      let hb = block_means A V p E (following at e) b s (second A V p of_test of_body h) in
      λ i. while_loop true (he i).content.truth (hb i)
  command_means A V p E at (tree.Until e b) s h =
      let of_test = found E at e s in
      let of_body = found_in_block E (following at e) b s in
      let he = exp_means A V p E at e s (first A V p of_test of_body h) in
      let hb = block_means A V p E (following at e) b s (second A V p of_test of_body h) in
      λ i. while_loop false (he i).content.truth (hb i)
  command_means A V p E at (tree.Test e b c) s h =
      let be = following at e in
      let bb = after_block be b in
      let rest = found_in_block E be b s ++ found_in_block E bb c s in
      let hbc = second A V p (found E at e s) rest h in
      let he = exp_means A V p E at e s (first A V p (found E at e s) rest h) in
      let hb = block_means A V p E be b s (first A V p (found_in_block E be b s) (found_in_block E bb c s) hbc) in
      let hc = block_means A V p E bb c s (second A V p (found_in_block E be b s) (found_in_block E bb c s) hbc) in
      λ i. then_do (he i).content.truth (λ t. choose t (hb i) (hc i))
  command_means A V p E at (tree.For n a z b) s h =
      let s1 = level_in_for s in
      let ba = following at a in
      let bz = following ba z in
      let of_start = found E at a s1 in
      let of_limit = found E ba z s1 in
      let of_body = found_in_block (in_for E n s) bz b s1 in
      let rest = second A V p of_start (of_limit ++ of_body) h in
      let ha = exp_means A V p E at a s1 (first A V p of_start (of_limit ++ of_body) h) in
      let hz = exp_means A V p E ba z s1 (first A V p of_limit of_body rest) in
      let hb = block_means A V p (in_for E n s) bz b s1 (second A V p of_limit of_body rest) in
      for_means (in_context A V) 1 p s (worth A E at a p s1) (worth A E ba z p s1) (forms E at a) (forms E ba z) (run_block A (in_for E n s) bz b p s1) (core_block (in_for E n s) bz b s1) ha hz hb
  command_means A V p E at (tree.ForBy n a z k b) s h =
      let s1 = level_in_for s in
      let ba = following at a in
      let bz = following ba z in
      let of_start = found E at a s1 in
      let of_limit = found E ba z s1 in
      let of_body = found_in_block (in_for E n s) bz b s1 in
      let rest = second A V p of_start (of_limit ++ of_body) h in
      let ha = exp_means A V p E at a s1 (first A V p of_start (of_limit ++ of_body) h) in
      let hz = exp_means A V p E ba z s1 (first A V p of_limit of_body rest) in
      let hb = block_means A V p (in_for E n s) bz b s1 (second A V p of_limit of_body rest) in
      for_means (in_context A V) (constant E k) p s (worth A E at a p s1) (worth A E ba z p s1) (forms E at a) (forms E ba z) (run_block A (in_for E n s) bz b p s1) (core_block (in_for E n s) bz b s1) ha hz hb
  command_means A V p E at (tree.SwitchOn e is) s h =
      let be = following at e in
      let k = be.label in
      let E1 = in_list k is E in
      let at1 = after_labels be (labels_in is) in
      let of_items = found_in_items E1 k at1 is s in
      let he = exp_means A V p E at e s (first A V p (found E at e s) of_items h) in
      λ i. switched (he i).content.value (λ v. sym (case_kept E1 k at1 is s v) i) (λ l. sym (label_kept E1 k at1 is s l) i)
      (λ from. items_mean A V p E1 k at1 is s from (second A V p (found E at e s) of_items h) i)
