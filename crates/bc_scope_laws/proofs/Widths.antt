-- The frames of the translation are as wide as those of the section.
use Rattle.std.proofs.Common.{◌≡◌, ◌∙◌, ℕ, ◌+◌, ◌<◌, max, cond, Bool, true, false, List, [], ◌∷◌, ◌++◌, Option, Some, None, refl, sym, ap, subst, arith}
use Rattle.bc_word.specs.declared.operator.Op.{Op}
use Rattle.bc_parse_tree.specs.declared.tree.UnaryOp.{UnaryOp}
use Rattle.bc_parse_tree.specs.declared.tree.UnaryOp.TheVariants as unary
use Rattle.bc_parse_tree.specs.Tree as tree
use Rattle.bc_core.specs.Tree.{Exp, Num, Frame, Glob, Place, Load, Neg, Not, Bin, Cond, Call, Valof}
use Rattle.bc_core.specs.Commands as core
use Rattle.bc_core.specs.Commands.{Items, no_item, command, case, default, label}
use Rattle.bc_core.specs.Level.{operand_level, argument_level, routine_level, level_in_for, level_after_parameters}
use Rattle.bc_core.specs.Operand.{is_operand}
use Rattle.bc_core.specs.Layout.{Bodies, cells_of_exp, cells_of_args, cells_of_assignment, cells_of_initials, cells_of_declarations, cells_of_command, cells_of_block, cells_of_items, cells_of_valofs, cells_of_body, frame_size}
use Rattle.bc_scope_defs.specs.Scope.{Meant, Constant, Pending, Static, Global, Routine, Variable, OuterVariable, OuterLabel, StrayVariable, StrayLabel, LabelOutside, Undeclared, Env, Numbers, meant_by, after_valof, after_labels}
use Rattle.bc_scope_defs.specs.Scope as scope
use Rattle.bc_scope_defs.specs.Numbering.{following, after_all, after_declarations, after_declaration, after_definition, after_command, after_block, labels_of, labels_in}
use Rattle.bc_scope_defs.specs.Scoping.{operator, constant, count, before_let, in_let, in_declaration, in_declarations, cells_in, level_after, in_for, in_list, in_valof}
use Rattle.bc_scope_defs.specs.Scoping as scoping
use Rattle.bc_scope_defs.specs.Sides.{side_levels}
use Rattle.bc_scope_defs.specs.Translation.{Forms, form_of_name, form_of_unary, form_of_binary, negation, opposite, or_not, forms, core_arguments, forms_of_all, assignments, assignment, initials, core_definition, core_definitions, core_declarations, core_labels, core_block, core_items, block_of, valofs_of, core_routine, core_body}
use Rattle.bc_scope_defs.specs.Translation as translation
use Rattle.bc_scope_defs.specs.Found.{Found, FoundRoutine, RoutineBody, Gives, Does, Thing, AValof, ARoutine, Data, found, found_in_arguments, found_in_sides, found_in_initials, found_in_definition, found_in_definitions, found_in_declaration, found_in_declarations, found_in_block, found_in_items, found_in_command}
use Rattle.bc_scope_defs.specs.FramesAlong.{all_held, widest, width, width_of_arguments, widths, width_of_initials, width_of_definition, width_of_definitions, width_of_declarations, width_of_block, width_of_items, width_of_command, width_of_body, frame_of}
use Rattle.bc_scope_laws.proofs.Forms.{count_kept}
use Rattle.bc_scope_laws.proofs.Items.{levels}
use Rattle.bc_scope_laws.proofs.Declared.{cells_kept, level_kept}
use Rattle.bc_scope_laws.proofs.SideLevels.{levels_kept, operand_test}
use Rattle.bc_scope_laws.proofs.Table.{same_number, other_number}
use Rattle.bc_scope_laws.proofs.Numbered.{Nested, body_of, routine_body, found_in_routine}

-- these VALOFs use as many cells as was found
abbrev pub AllWide : Bodies → List Thing → Type 0
AllWide V [] = Unit {0}
AllWide V (AValof f ∷ fs) = (V f.number f.level ≡ width_of_block f.names f.numbers f.body f.level) × AllWide V fs
AllWide V (ARoutine r ∷ fs) = AllWide V fs
AllWide V (Data q d ∷ fs) = AllWide V fs

first : (V : Bodies) (fs gs : List Thing) → AllWide V (fs ++ gs) → AllWide V fs
first V [] gs h = tt
first V (AValof f ∷ fs) gs h = (h.0, first V fs gs h.1)
first V (ARoutine r ∷ fs) gs h = first V fs gs h
first V (Data q d ∷ fs) gs h = first V fs gs h

second : (V : Bodies) (fs gs : List Thing) → AllWide V (fs ++ gs) → AllWide V gs
second V [] gs h = h
second V (AValof f ∷ fs) gs h = second V fs gs h.1
second V (ARoutine r ∷ fs) gs h = second V fs gs h
second V (Data q d ∷ fs) gs h = second V fs gs h

-- an address and a content use the same cells
abbrev AreWide : Bodies → Forms → ℕ → ℕ → Type 0
AreWide V f s n = (cells_of_exp V f.address s ≡ n) × (cells_of_exp V f.content s ≡ n)

name_wide : (V : Bodies) (m : Meant) (s : ℕ) → AreWide V (form_of_name m) s 0
name_wide V (Constant w) s = (refl, refl)
name_wide V Pending s = (refl, refl)
name_wide V (Static m) s = (refl, refl)
name_wide V (Global n) s = (refl, refl)
name_wide V (Routine m) s = (refl, refl)
name_wide V (Variable k) s = (refl, refl)
name_wide V (scope.Label l) s = (refl, refl)
name_wide V OuterVariable s = (refl, refl)
name_wide V OuterLabel s = (refl, refl)
name_wide V StrayVariable s = (refl, refl)
name_wide V StrayLabel s = (refl, refl)
name_wide V LabelOutside s = (refl, refl)
name_wide V Undeclared s = (refl, refl)

negation_wide : (V : Bodies) (e : Exp) (s : ℕ) → cells_of_exp V (negation e) s ≡ cells_of_exp V e s
negation_wide V (Bin op a b) s = of_operator (opposite op) where
  of_operator : (o : Option Op) → cells_of_exp V (or_not o op a b) s ≡ cells_of_exp V (Bin op a b) s
  of_operator None = refl
  of_operator (Some o) = refl
negation_wide V (Num n) s = refl
negation_wide V (Frame k) s = refl
negation_wide V (Glob n) s = refl
negation_wide V (Place m) s = refl
negation_wide V (Load e) s = refl
negation_wide V (Neg e) s = refl
negation_wide V (Not e) s = refl
negation_wide V (Cond c x y) s = refl
negation_wide V (Call es f) s = refl
negation_wide V (Valof n) s = refl

unary_wide : (V : Bodies) (m : UnaryOp) (f : Forms) (s n : ℕ) → AreWide V f s n → AreWide V (form_of_unary m f) s n
unary_wide V unary.Load f s n h = (h.1, h.1)
unary_wide V unary.Address f s n h = (h.0, h.0)
unary_wide V unary.Not f s n h = let k = negation_wide V f.content s ∙ h.1 in (k, k)
unary_wide V unary.Neg f s n h = (h.1, h.1)

binary_wide : (V : Bodies) (o : Option Op) (l r : Exp) (s n : ℕ) → max (s + 2) (max (cells_of_exp V l (operand_level s)) (cells_of_exp V r (operand_level s))) ≡ n → AreWide V (form_of_binary o l r) s n
binary_wide V None l r s n h = (h, h)
binary_wide V (Some op) l r s n h = (h, h)

items_labels : (V : Bodies) (E : Env) (k : ℕ) (ls : tree.Labels) (is : Items) (s : ℕ) → cells_of_items V (core_labels E k ls is) s ≡ cells_of_items V is s
items_labels V E k tree.no_labels is s = refl
items_labels V E k (tree.label (tree.Case c) ls) is s = items_labels V E (k + 0) ls is s
items_labels V E k (tree.label tree.Default ls) is s = items_labels V E (k + 0) ls is s
items_labels V E k (tree.label (tree.Named n) ls) is s = items_labels V E (k + 1) ls is s

plain_wide : (V : Bodies) (is : Items) (s n : ℕ) → cells_of_items V is s ≡ n → cells_of_block V (core.block [] is) s ≡ n
plain_wide V is s n h =
    let e : s + 0 ≡ s = omega arith in
    let m : max 0 (cells_of_items V is s) ≡ cells_of_items V is s = omega arith in
    (λ i. max 0 (cells_of_items V is (e i))) ∙ m ∙ h

one_wide : (V : Bodies) (c : core.Command) (s n : ℕ) → cells_of_command V c s ≡ n → cells_of_block V (block_of c) s ≡ n
one_wide V c s n h =
    let m : max (cells_of_command V c s) 0 ≡ cells_of_command V c s = omega arith in
    plain_wide V (command c no_item) s n (m ∙ h)

initials_append : (V : Bodies) (vs ws : List core.Variable) (s : ℕ) → cells_of_initials V (vs ++ ws) s ≡ max (cells_of_initials V vs s) (cells_of_initials V ws s)
initials_append V [] ws s = omega arith
initials_append V (v ∷ vs) ws s = let h = initials_append V vs ws s in omega arith

-- Assignments
abbrev SidesWide : Bodies → List ℕ → List Forms → List ℕ → Type 0
SidesWide V (x ∷ xs) (f ∷ fs) (s ∷ ss) = AreWide V f s x × SidesWide V xs fs ss
SidesWide V [] [] ss = Unit {0}
SidesWide V [] (f ∷ fs) [] = Unit {0}
SidesWide V _ _ _ = ⊥

abbrev helds : List Forms → (s : ℕ) → List ℕ
helds [] s = []
helds (f ∷ fs) s = cond (is_operand f.address) 0 (s + 2) ∷ helds fs s

pairs_wide : (V : Bodies) (s : ℕ) (xs es : List ℕ) (fs gs : List Forms) → SidesWide V xs fs (levels fs s) → SidesWide V es gs (levels fs s)
    → cells_of_items V (assignments fs gs) s ≡ widest (helds fs s) xs es
pairs_wide V s [] es [] gs hx he = refl
pairs_wide V s (x ∷ xs) es [] gs hx he = absurd hx
pairs_wide V s [] es (f ∷ fs) gs hx he = absurd hx
pairs_wide V s (x ∷ xs) [] (f ∷ fs) [] hx he = refl
pairs_wide V s (x ∷ xs) [] (f ∷ fs) (g ∷ gs) hx he = absurd he
pairs_wide V s (x ∷ xs) (e ∷ es) (f ∷ fs) [] hx he = absurd he
pairs_wide V s (x ∷ xs) (e ∷ es) (f ∷ fs) (g ∷ gs) hx he =
    λ i. max (max (cond (is_operand f.address) 0 (s + 2)) (max (he.0.1 i) (hx.0.0 i))) (pairs_wide V s xs es fs gs hx.1 he.1 i)

assignment_wide : (V : Bodies) (s : ℕ) (xs es : List ℕ) (fs gs : List Forms) → SidesWide V xs fs (levels fs s) → SidesWide V es gs (levels fs s)
    → cells_of_command V (assignment fs gs) s ≡ widest (helds fs s) xs es
assignment_wide V s xs es [] gs hx he = plain_wide V (assignments [] gs) s _ (pairs_wide V s xs es [] gs hx he)
assignment_wide V s xs es (f ∷ f1 ∷ fs) gs hx he = plain_wide V (assignments (f ∷ f1 ∷ fs) gs) s _ (pairs_wide V s xs es (f ∷ f1 ∷ fs) gs hx he)
assignment_wide V s xs es (f ∷ []) [] hx he = plain_wide V (assignments (f ∷ []) []) s _ (pairs_wide V s xs es (f ∷ []) [] hx he)
assignment_wide V s xs es (f ∷ []) (g ∷ g1 ∷ gs) hx he = plain_wide V (assignments (f ∷ []) (g ∷ g1 ∷ gs)) s _ (pairs_wide V s xs es (f ∷ []) (g ∷ g1 ∷ gs) hx he)
assignment_wide V s xs es (f ∷ []) (g ∷ []) hx he =
    let m : cells_of_assignment V g.content f.address s ≡ max (cells_of_assignment V g.content f.address s) 0 = omega arith in
    m ∙ pairs_wide V s xs es (f ∷ []) (g ∷ []) hx he

helds_kept : (E : Env) (at : Numbers) (xs : tree.Exps) (s : ℕ) → all_held E xs s ≡ helds (forms_of_all E at xs) s
helds_kept E at tree.none s = refl
helds_kept E at (tree.more x xs) s = λ i. cond (operand_test E at x i) 0 (s + 2) ∷ helds_kept E (following at x) xs s i

call_wide : (V : Bodies) (E : Env) (at : Numbers) (f : tree.Exp) (es : tree.Exps) (s : ℕ)
    → cells_of_exp V (forms E at f).content (routine_level s (count es)) ≡ width E at f (routine_level s (count es))
    → cells_of_args V (core_arguments E (following at f) es) (argument_level s) ≡ width_of_arguments E (following at f) es (argument_level s)
    → cells_of_exp V (Call (core_arguments E (following at f) es) (forms E at f).content) s
    ≡ max (s + 2 + count es) (max (width_of_arguments E (following at f) es (argument_level s)) (width E at f (routine_level s (count es))))
call_wide V E at f es s hf hs =
    (λ i. let n = count_kept E (following at f) es i in max (s + 2 + n) (max (cells_of_args V (core_arguments E (following at f) es) (argument_level s)) (cells_of_exp V (forms E at f).content (routine_level s n))))
    ∙ (λ i. max (s + 2 + count es) (max (hs i) (hf i)))

mutual
  pub exp_wide : (V : Bodies) (E : Env) (at : Numbers) (e : tree.Exp) (s : ℕ) → AllWide V (found E at e s) → AreWide V (forms E at e) s (width E at e s)
  exp_wide V E at (tree.Name n) s h = name_wide V (meant_by E n) s
  exp_wide V E at (tree.Num w) s h = (refl, refl)
  exp_wide V E at (tree.Character w) s h = (refl, refl)
  exp_wide V E at tree.True s h = (refl, refl)
  exp_wide V E at tree.False s h = (refl, refl)
  exp_wide V E at (tree.Text bytes) s h = (refl, refl)
  exp_wide V E at (tree.Table ks) s h = (refl, refl)
  exp_wide V E at (tree.Valof b) s h = (h.0, h.0)
  exp_wide V E at (tree.Unary m e) s h = unary_wide V m _ s _ (exp_wide V E at e s h)
  exp_wide V E at (tree.Bin o l r) s h =
      let s1 = operand_level s in
      let hl = exp_wide V E at l s1 (first V (found E at l s1) (found E (following at l) r s1) h) in
      let hr = exp_wide V E (following at l) r s1 (second V (found E at l s1) (found E (following at l) r s1) h) in
      binary_wide V (operator o) _ _ s _ (λ i. max (s + 2) (max (hl.1 i) (hr.1 i)))
  exp_wide V E at (tree.Cond c x y) s h =
      let bc = following at c in
      let bx = following bc x in
      let rest = found E bc x s ++ found E bx y s in
      let hxy = second V (found E at c s) rest h in
      let hc = exp_wide V E at c s (first V (found E at c s) rest h) in
      let hx = exp_wide V E bc x s (first V (found E bc x s) (found E bx y s) hxy) in
      let hy = exp_wide V E bx y s (second V (found E bc x s) (found E bx y s) hxy) in
      let k : cells_of_exp V (forms E at (tree.Cond c x y)).content s ≡ width E at (tree.Cond c x y) s = λ i. max (hc.1 i) (max (hx.1 i) (hy.1 i)) in
      (k, k)
  exp_wide V E at (tree.Call f es) s h =
      let of_routine = found E at f (routine_level s (count es)) in
      let of_arguments = found_in_arguments E (following at f) es (argument_level s) in
      let hf = exp_wide V E at f (routine_level s (count es)) (first V of_routine of_arguments h) in
      let hs = arguments_wide V E (following at f) es (argument_level s) (second V of_routine of_arguments h) in
      let k = call_wide V E at f es s hf.1 hs in
      (k, k)

  arguments_wide : (V : Bodies) (E : Env) (at : Numbers) (es : tree.Exps) (s : ℕ) → AllWide V (found_in_arguments E at es s) → cells_of_args V (core_arguments E at es) s ≡ width_of_arguments E at es s
  arguments_wide V E at tree.none s h = refl
  arguments_wide V E at (tree.more e es) s h =
      let of_first = found E at e s in
      let of_rest = found_in_arguments E (following at e) es (s + 1) in
      let he = exp_wide V E at e s (first V of_first of_rest h) in
      let hs = arguments_wide V E (following at e) es (s + 1) (second V of_first of_rest h) in
      λ i. max (he.1 i) (hs i)

  sides_wide : (V : Bodies) (E : Env) (at : Numbers) (es : tree.Exps) (ss : List ℕ) → AllWide V (found_in_sides E at es ss) → SidesWide V (widths E at es ss) (forms_of_all E at es) ss
  sides_wide V E at tree.none ss h = tt
  sides_wide V E at (tree.more e es) [] h = tt
  sides_wide V E at (tree.more e es) (s ∷ ss) h =
      let of_first = found E at e s in
      let of_rest = found_in_sides E (following at e) es ss in
      (exp_wide V E at e s (first V of_first of_rest h), sides_wide V E (following at e) es ss (second V of_first of_rest h))

  initials_wide : (V : Bodies) (E : Env) (at : Numbers) (es : tree.Exps) (s : ℕ) → AllWide V (found_in_initials E at es s) → cells_of_initials V (initials (forms_of_all E at es)) s ≡ width_of_initials E at es s
  initials_wide V E at tree.none s h = refl
  initials_wide V E at (tree.more e es) s h =
      let of_first = found E at e s in
      let of_rest = found_in_initials E (following at e) es s in
      let he = exp_wide V E at e s (first V of_first of_rest h) in
      let hs = initials_wide V E (following at e) es s (second V of_first of_rest h) in
      λ i. max (he.1 i) (hs i)

  definition_wide : (V : Bodies) (O E B : Env) (at : Numbers) (d : tree.Definition) (s : ℕ) → AllWide V (found_in_definition O E at d s) → cells_of_initials V (core_definition E B at d) s ≡ width_of_definition E at d s
  definition_wide V O E B at (tree.Variables ns es) s h = initials_wide V E at es s h
  definition_wide V O E B at (tree.Vector n c) s h = refl
  definition_wide V O E B at (tree.Function n ps e) s h = refl
  definition_wide V O E B at (tree.Routine n ps b) s h = refl

  definitions_wide : (V : Bodies) (O E B : Env) (at : Numbers) (ds : tree.Definitions) (s : ℕ) → AllWide V (found_in_definitions O E at ds s) → cells_of_initials V (core_definitions E B at ds) s ≡ width_of_definitions E at ds s
  definitions_wide V O E B at tree.no_definitions s h = refl
  definitions_wide V O E B at (tree.definition d ds) s h =
      let of_first = found_in_definition O E at d s in
      let of_rest = found_in_definitions O E (after_definition at d) ds s in
      let hd = definition_wide V O E B at d s (first V of_first of_rest h) in
      let hs = definitions_wide V O E B (after_definition at d) ds s (second V of_first of_rest h) in
      initials_append V (core_definition E B at d) (core_definitions E B (after_definition at d) ds) s ∙ (λ i. max (hd i) (hs i))

  declarations_wide : (V : Bodies) (E : Env) (at : Numbers) (ds : tree.Declarations) (s : ℕ) → AllWide V (found_in_declarations E at ds s) → cells_of_declarations V (core_declarations E at s ds) s ≡ width_of_declarations E at ds s
  declarations_wide V E at tree.no_declarations s h = refl
  declarations_wide V E at (tree.declaration (tree.Constants k es) ds) s h =
      let E1 = in_declaration E at s (tree.Constants k es) in
      let at1 = after_declaration at (tree.Constants k es) in
      let e : s ≡ s + 0 = omega arith in
      let m : width_of_declarations E1 at1 ds (s + 0) ≡ max 0 (width_of_declarations E1 at1 ds (s + 0)) = omega arith in
      (λ i. cells_of_declarations V (core_declarations E1 at1 (s + 0) ds) (e i))
      ∙ declarations_wide V E1 at1 ds (s + 0) (second V (found_in_declaration E at (tree.Constants k es) s) (found_in_declarations E1 at1 ds (s + 0)) h)
      ∙ m
  declarations_wide V E at (tree.declaration (tree.Let defs) ds) s h =
      let E1 = in_let E at s defs in
      let B = before_let defs E in
      let at1 = after_declaration at (tree.Let defs) in
      let n = scoping.cells_of_all B defs in
      let of_first = found_in_definitions E E1 at defs (s + n) in
      let of_rest = found_in_declarations E1 at1 ds (s + n) in
      let hd = definitions_wide V E E1 B at defs (s + n) (first V of_first of_rest h) in
      let hs = declarations_wide V E1 at1 ds (s + n) (second V of_first of_rest h) in
      let m : max (s + n) (max (width_of_definitions E1 at defs (s + n)) (width_of_declarations E1 at1 ds (s + n))) ≡ max (max (s + n) (width_of_definitions E1 at defs (s + n))) (width_of_declarations E1 at1 ds (s + n)) = omega arith in
      (λ i. let c = s + cells_kept E1 B at defs i in max c (max (cells_of_initials V (core_definitions E1 B at defs) c) (cells_of_declarations V (core_declarations E1 at1 (s + n) ds) c)))
      ∙ (λ i. max (s + n) (max (hd i) (hs i)))
      ∙ m

  pub block_wide : (V : Bodies) (E : Env) (at : Numbers) (b : tree.Block) (s : ℕ) → AllWide V (found_in_block E at b s) → cells_of_block V (core_block E at b s) s ≡ width_of_block E at b s
  block_wide V E at (tree.block ds is) s h =
      let at1 = after_declarations at ds in
      let k = at1.label in
      let E1 = in_list k is (in_declarations E at s ds) in
      let at2 = after_labels at1 (labels_in is) in
      let s1 = level_after E at s ds in
      let of_first = found_in_declarations E at ds s in
      let of_rest = found_in_items E1 k at2 is s1 in
      (λ i. max (declarations_wide V E at ds s (first V of_first of_rest h) i) (cells_of_items V (core_items E1 k at2 is s1) (sym (level_kept E at s ds) i)))
      ∙ (λ i. max (width_of_declarations E at ds s) (items_wide V E1 k at2 is s1 (second V of_first of_rest h) i))

  items_wide : (V : Bodies) (E : Env) (k : ℕ) (at : Numbers) (is : tree.Items) (s : ℕ) → AllWide V (found_in_items E k at is s) → cells_of_items V (core_items E k at is s) s ≡ width_of_items E k at is s
  items_wide V E k at tree.no_items s h = refl
  items_wide V E k at (tree.item (tree.Labelled ls c) is) s h =
      let of_first = found_in_command E at c s in
      let of_rest = found_in_items E (k + labels_of ls) (after_command at c) is s in
      let hc = command_wide V E at c s (first V of_first of_rest h) in
      let hs = items_wide V E (k + labels_of ls) (after_command at c) is s (second V of_first of_rest h) in
      items_labels V E k ls _ s ∙ (λ i. max (hc i) (hs i))
  items_wide V E k at (tree.item (tree.Labels_alone ls) is) s h = items_labels V E k ls _ s ∙ items_wide V E (k + labels_of ls) at is s h

  command_wide : (V : Bodies) (E : Env) (at : Numbers) (c : tree.Command) (s : ℕ) → AllWide V (found_in_command E at c s) → cells_of_command V (translation.core_command E at c s) s ≡ width_of_command E at c s
  command_wide V E at (tree.Assign xs es) s h =
      let ss = side_levels E xs s in
      let at1 = after_all at xs in
      let of_first = found_in_sides E at xs ss in
      let of_rest = found_in_sides E at1 es ss in
      let fs = forms_of_all E at xs in
      let gs = forms_of_all E at1 es in
      let e = levels_kept E at xs s in
      assignment_wide V s (widths E at xs ss) (widths E at1 es ss) fs gs
      (subst (λ ls. SidesWide V (widths E at xs ss) fs ls) e (sides_wide V E at xs ss (first V of_first of_rest h)))
      (subst (λ ls. SidesWide V (widths E at1 es ss) gs ls) e (sides_wide V E at1 es ss (second V of_first of_rest h)))
      ∙ (λ i. widest (sym (helds_kept E at xs s) i) (widths E at xs ss) (widths E at1 es ss))
  command_wide V E at (tree.Do f es) s h =
      let of_routine = found E at f (routine_level s (count es)) in
      let of_arguments = found_in_arguments E (following at f) es (argument_level s) in
      let hf = exp_wide V E at f (routine_level s (count es)) (first V of_routine of_arguments h) in
      let hs = arguments_wide V E (following at f) es (argument_level s) (second V of_routine of_arguments h) in
      call_wide V E at f es s hf.1 hs
  command_wide V E at (tree.Compound b) s h = block_wide V E at b s h
  command_wide V E at tree.Break s h = refl
  command_wide V E at tree.Loop s h = refl
  command_wide V E at tree.EndCase s h = refl
  command_wide V E at tree.Return s h = refl
  command_wide V E at tree.Finish s h = refl
  command_wide V E at (tree.Goto n) s h = refl
  command_wide V E at (tree.ResultIs e) s h = (exp_wide V E at e s h).1
  command_wide V E at (tree.Repeat c) s h = one_wide V (translation.core_command E at c s) s _ (command_wide V E at c s h)
  command_wide V E at (tree.RepeatWhile c e) s h =
      let of_body = found_in_command E at c s in
      let of_test = found E (after_command at c) e s in
      let hc = one_wide V (translation.core_command E at c s) s _ (command_wide V E at c s (first V of_body of_test h)) in
      let he = exp_wide V E (after_command at c) e s (second V of_body of_test h) in
      λ i. max (hc i) (he.1 i)
  command_wide V E at (tree.RepeatUntil c e) s h =
      let of_body = found_in_command E at c s in
      let of_test = found E (after_command at c) e s in
      let hc = one_wide V (translation.core_command E at c s) s _ (command_wide V E at c s (first V of_body of_test h)) in
      let he = exp_wide V E (after_command at c) e s (second V of_body of_test h) in
      λ i. max (hc i) (he.1 i)
  command_wide V E at (tree.If e b) s h =
      let of_test = found E at e s in
      let of_body = found_in_block E (following at e) b s in
      let he = exp_wide V E at e s (first V of_test of_body h) in
      let hb = block_wide V E (following at e) b s (second V of_test of_body h) in
      λ i. max (he.1 i) (hb i)
  command_wide V E at (tree.Unless e b) s h =
      let of_test = found E at e s in
      let of_body = found_in_block E (following at e) b s in
      let he = exp_wide V E at e s (first V of_test of_body h) in
      let hb = block_wide V E (following at e) b s (second V of_test of_body h) in
      λ i. max (he.1 i) (hb i)
  command_wide V E at (tree.While e b) s h =
      let of_test = found E at e s in
      let of_body = found_in_block E (following at e) b s in
      let he = exp_wide V E at e s (first V of_test of_body h) in
      let hb = block_wide V E (following at e) b s (second V of_test of_body h) in
      λ i. max (he.1 i) (hb i)
  command_wide V E at (tree.Until e b) s h =
      let of_test = found E at e s in
      let of_body = found_in_block E (following at e) b s in
      let he = exp_wide V E at e s (first V of_test of_body h) in
      let hb = block_wide V E (following at e) b s (second V of_test of_body h) in
      λ i. max (he.1 i) (hb i)
  command_wide V E at (tree.Test e b c) s h =
      let be = following at e in
      let bb = after_block be b in
      let rest = found_in_block E be b s ++ found_in_block E bb c s in
      let hbc = second V (found E at e s) rest h in
      let he = exp_wide V E at e s (first V (found E at e s) rest h) in
      let hb = block_wide V E be b s (first V (found_in_block E be b s) (found_in_block E bb c s) hbc) in
      let hc = block_wide V E bb c s (second V (found_in_block E be b s) (found_in_block E bb c s) hbc) in
      λ i. max (he.1 i) (max (hb i) (hc i))
  command_wide V E at (tree.For n a z b) s h =
      let s1 = level_in_for s in
      let ba = following at a in
      let bz = following ba z in
      let of_start = found E at a s1 in
      let of_limit = found E ba z s1 in
      let of_body = found_in_block (in_for E n s) bz b s1 in
      let rest = second V of_start (of_limit ++ of_body) h in
      let ha = exp_wide V E at a s1 (first V of_start (of_limit ++ of_body) h) in
      let hz = exp_wide V E ba z s1 (first V of_limit of_body rest) in
      let hb = block_wide V (in_for E n s) bz b s1 (second V of_limit of_body rest) in
      λ i. max (s1 + 2) (max (ha.1 i) (max (hz.1 i) (hb i)))
  command_wide V E at (tree.ForBy n a z k b) s h =
      let s1 = level_in_for s in
      let ba = following at a in
      let bz = following ba z in
      let of_start = found E at a s1 in
      let of_limit = found E ba z s1 in
      let of_body = found_in_block (in_for E n s) bz b s1 in
      let rest = second V of_start (of_limit ++ of_body) h in
      let ha = exp_wide V E at a s1 (first V of_start (of_limit ++ of_body) h) in
      let hz = exp_wide V E ba z s1 (first V of_limit of_body rest) in
      let hb = block_wide V (in_for E n s) bz b s1 (second V of_limit of_body rest) in
      λ i. max (s1 + 2) (max (ha.1 i) (max (hz.1 i) (hb i)))
  command_wide V E at (tree.SwitchOn e is) s h =
      let be = following at e in
      let k = be.label in
      let E1 = in_list k is E in
      let at1 = after_labels be (labels_in is) in
      let of_items = found_in_items E1 k at1 is s in
      let he = exp_wide V E at e s (first V (found E at e s) of_items h) in
      let hs = items_wide V E1 k at1 is s (second V (found E at e s) of_items h) in
      λ i. max (he.1 i) (hs i)

-- the table of VALOFs

abbrev table : ℕ → List Thing → Bodies
table n fs = cells_of_valofs n (valofs_of fs)

lifted : (n m q : ℕ) (f : Found) (fs gs : List Thing) → n < m → Nested m q gs → AllWide (table (n + 1) fs) gs → AllWide (table n (AValof f ∷ fs)) gs
lifted n m q f fs [] l h r = tt
lifted n m q f fs (ARoutine g ∷ gs) l h r = lifted n m (q + 1) f fs gs l h.1 r
lifted n m q f fs (Data x g ∷ gs) l h r = lifted n m (q + 1) f fs gs l h.0 r
lifted n m q f fs (AValof g ∷ gs) l h r = (
  ap (λ (b : Bool). elim b [ true ↦ cells_of_block (table (n + 1) fs) (core_block f.names f.numbers f.body f.level) g.level | false ↦ table (n + 1) fs g.number g.level ]) (other_number n g.number (subst (λ k. n < k) (sym h.0) l)) ∙ r.0,
  lifted n (m + 1) q f fs gs (omega arith) h.2 r.1,
)

pub table_wide : (n q : ℕ) (fs : List Thing) → Nested n q fs → AllWide (table n fs) fs
table_wide n q [] h = tt
table_wide n q (ARoutine f ∷ fs) h = table_wide n (q + 1) fs h.1
table_wide n q (Data x d ∷ fs) h = table_wide n (q + 1) fs h.0
table_wide n q (AValof f ∷ fs) h =
    let inner = table (n + 1) fs in
    let rest = table_wide (n + 1) q fs h.2 in
    let of_body = first inner (body_of f) h.1.0 (subst (λ gs. AllWide inner gs) h.1.1 rest) in (
      ap (λ (b : Bool). elim b [ true ↦ cells_of_block inner (core_block f.names f.numbers f.body f.level) f.level | false ↦ inner f.number f.level ]) (same_number n f.number h.0)
          ∙ block_wide inner f.names f.numbers f.body f.level of_body,
      lifted n (n + 1) q f fs fs (omega arith) h.2 rest,
    )

-- the frame of a routine

pub wide_in_routine : (all : List Thing) (r : FoundRoutine) → AllWide (table 0 all) (routine_body r) → frame_of r ≡ frame_size (valofs_of all) (core_routine r)
wide_in_routine all r h = λ i. max (level_after_parameters r.parameters) (sym (of_body r.body h) i) where
  of_body : (b : RoutineBody) → AllWide (table 0 all) (found_in_routine r.names r.numbers b (level_after_parameters r.parameters))
      → cells_of_body (table 0 all) (core_body r.names r.numbers b (level_after_parameters r.parameters)) (level_after_parameters r.parameters) ≡ width_of_body r.names r.numbers b (level_after_parameters r.parameters)
  of_body (Gives e) k = (exp_wide (table 0 all) r.names r.numbers e (level_after_parameters r.parameters) k).1
  of_body (Does b) k = block_wide (table 0 all) r.names r.numbers b (level_after_parameters r.parameters) k

pub first_wide : (V : Bodies) (fs gs : List Thing) → AllWide V (fs ++ gs) → AllWide V fs
first_wide V fs gs h = first V fs gs h
