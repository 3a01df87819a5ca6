-- Widths don't depend on numbers: with names that are alike, a walk along numbers finds the widths of the definition.
use Rattle.std.proofs.Common.{◌≡◌, ◌∙◌, ℕ, ◌+◌, List, [], ◌∷◌, max, refl, arith}
use Rattle.bc_parse_tree.specs.Tree as tree
use Rattle.bc_core.specs.Level.{operand_level, argument_level, routine_level, level_in_for, level_after_parameters}
use Rattle.bc_scope_defs.specs.Scope.{Env, Numbers, after_valof, after_labels}
use Rattle.bc_scope_defs.specs.Numbering.{following, after_all, after_declarations, after_declaration, after_definition, after_command, after_block, labels_of, labels_in}
use Rattle.bc_scope_defs.specs.Scoping.{count, cells_of_all, before_let, cells_in, level_after, in_list}
use Rattle.bc_scope_defs.specs.Sides.{side_levels}
use Rattle.bc_scope_defs.specs.Found.{FoundRoutine, RoutineBody, Gives, Does, section_start}
use Rattle.bc_scope_defs.specs.Frames.{known_after, known_after_all, width, width_of_all, width_of_pairs, widths, width_of_definition, width_of_definitions, width_of_declaration, width_of_declarations, width_of_block, width_of_items, width_of_command, width_of_body, frame_of}
use Rattle.bc_scope_defs.specs.FramesAlong as along
use Rattle.bc_scope_laws.specs.Laws.{WidthsAskNoNumbers}
use Rattle.bc_scope_laws.proofs.Alike.{Alike, alike_self, alike_valof, alike_before_let, alike_let, alike_declaration, alike_declarations, alike_for, alike_list, same_cells, same_cells_in, same_level, same_held, same_side_levels}

mutual
  pub same_width : {E F : Env} (at : Numbers) (e : tree.Exp) (s : ℕ) → Alike E F → along.width E at e s ≡ width F e s
  same_width at (tree.Name n) s h = refl
  same_width at (tree.Num w) s h = refl
  same_width at (tree.Character w) s h = refl
  same_width at tree.True s h = refl
  same_width at tree.False s h = refl
  same_width at (tree.Text bytes) s h = refl
  same_width at (tree.Table ks) s h = refl
  same_width at (tree.Valof b) s h = same_block (after_valof at) b s (alike_valof h)
  same_width at (tree.Unary m e) s h = same_width at e s h
  same_width at (tree.Bin o l r) s h =
      let s1 = operand_level s in λ i. max (s + 2) (max (same_width at l s1 h i) (same_width (following at l) r s1 h i))
  same_width at (tree.Cond c x y) s h =
      let bc = following at c in λ i. max (same_width at c s h i) (max (same_width bc x s h i) (same_width (following bc x) y s h i))
  same_width at (tree.Call f es) s h =
      λ i. max (s + 2 + count es) (max (same_arguments (following at f) es (argument_level s) h i) (same_width at f (routine_level s (count es)) h i))

  same_arguments : {E F : Env} (at : Numbers) (es : tree.Exps) (s : ℕ) → Alike E F → along.width_of_arguments E at es s ≡ width_of_all F es s 1
  same_arguments at tree.none s h = refl
  same_arguments at (tree.more e es) s h = λ i. max (same_width at e s h i) (same_arguments (following at e) es (s + 1) h i)

  same_initials : {E F : Env} (at : Numbers) (es : tree.Exps) (s : ℕ) → Alike E F → along.width_of_initials E at es s ≡ width_of_all F es s 0
  same_initials at tree.none s h = refl
  same_initials {E} {F} at (tree.more e es) s h =
      let same : s ≡ s + 0 = omega arith in
      let rest = same_initials (following at e) es s h ∙ (λ i. width_of_all F es (same i) 0) in
      λ i. max (same_width at e s h i) (rest i)

  same_widths : {E F : Env} (at : Numbers) (es : tree.Exps) (ks : List ℕ) → Alike E F → along.widths E at es ks ≡ widths F es ks
  same_widths at tree.none ks h = refl
  same_widths at (tree.more e es) [] h = refl
  same_widths at (tree.more e es) (k ∷ ks) h = λ i. same_width at e k h i ∷ same_widths (following at e) es ks h i

  same_pairs : {E F : Env} (at : Numbers) (xs : tree.Exps) (ws : List ℕ) (s : ℕ) (ks : List ℕ)
      → Alike E F → along.widest (along.all_held E xs s) (along.widths E at xs ks) ws ≡ width_of_pairs F xs ws s ks
  same_pairs at tree.none ws s ks h = refl
  same_pairs at (tree.more x xs) [] s [] h = refl
  same_pairs at (tree.more x xs) [] s (k ∷ ks) h = refl
  same_pairs at (tree.more x xs) (w ∷ ws) s [] h = refl
  same_pairs at (tree.more x xs) (w ∷ ws) s (k ∷ ks) h =
      λ i. max (max (same_held x s h i) (max w (same_width at x k h i))) (same_pairs (following at x) xs ws s ks h i)

  same_definition : {E F : Env} (at : Numbers) (d : tree.Definition) (s : ℕ) → Alike E F → along.width_of_definition E at d s ≡ width_of_definition F d s
  same_definition at (tree.Variables ns es) s h = same_initials at es s h
  same_definition at (tree.Vector n k) s h = refl
  same_definition at (tree.Function n ps e) s h = refl
  same_definition at (tree.Routine n ps b) s h = refl

  same_definitions : {E F : Env} (at : Numbers) (ds : tree.Definitions) (s : ℕ) → Alike E F → along.width_of_definitions E at ds s ≡ width_of_definitions F ds s
  same_definitions at tree.no_definitions s h = refl
  same_definitions at (tree.definition d ds) s h = λ i. max (same_definition at d s h i) (same_definitions (after_definition at d) ds s h i)

  same_declaration : {E F : Env} (at : Numbers) (d : tree.Declaration) (s : ℕ) → Alike E F → along.width_of_declaration E at d s ≡ width_of_declaration F d s
  same_declaration at (tree.Constants k es) s h = refl
  same_declaration {E} {F} at (tree.Let ds) s h =
      let s1 = s + cells_of_all (before_let ds E) ds in
      (λ i. max s1 (same_definitions at ds s1 (alike_let at section_start s 0 ds h) i))
      ∙ (λ i. let s2 = s + same_cells ds (alike_before_let ds h) i in max s2 (width_of_definitions (known_after F (tree.Let ds)) ds s2))

  pub same_declarations : {E F : Env} (at : Numbers) (ds : tree.Declarations) (s : ℕ) → Alike E F → along.width_of_declarations E at ds s ≡ width_of_declarations F ds s
  same_declarations at tree.no_declarations s h = refl
  same_declarations {E} {F} at (tree.declaration d ds) s h =
      let rest =
      same_declarations (after_declaration at d) ds (s + cells_in E d) (alike_declaration at section_start s 0 d h)
      ∙ (λ i. width_of_declarations (known_after F d) ds (s + same_cells_in d h i)) in
      λ i. max (same_declaration at d s h i) (rest i)

  same_block : {E F : Env} (at : Numbers) (b : tree.Block) (s : ℕ) → Alike E F → along.width_of_block E at b s ≡ width_of_block F b s
  same_block {E} {F} at (tree.block ds is) s h =
      let after_it = after_declarations at ds in
      let k = after_it.label in
      let rest =
      same_items k (after_labels after_it (labels_in is)) is (level_after E at s ds) (alike_list k 0 is (alike_declarations at section_start s 0 ds h))
      ∙ (λ i. width_of_items (in_list 0 is (known_after_all F ds)) is (same_level at section_start s s ds refl h i)) in
      λ i. max (same_declarations at ds s h i) (rest i)

  same_items : {E F : Env} (k : ℕ) (at : Numbers) (is : tree.Items) (s : ℕ) → Alike E F → along.width_of_items E k at is s ≡ width_of_items F is s
  same_items k at tree.no_items s h = refl
  same_items k at (tree.item (tree.Labelled ls c) is) s h = λ i. max (same_command at c s h i) (same_items (k + labels_of ls) (after_command at c) is s h i)
  same_items k at (tree.item (tree.Labels_alone ls) is) s h = same_items (k + labels_of ls) at is s h

  pub same_command : {E F : Env} (at : Numbers) (c : tree.Command) (s : ℕ) → Alike E F → along.width_of_command E at c s ≡ width_of_command F c s
  same_command {E} {F} at (tree.Assign xs es) s h =
      let ks = side_levels E xs s in
      same_pairs at xs (along.widths E (after_all at xs) es ks) s ks h
      ∙ (λ i. width_of_pairs F xs (same_widths (after_all at xs) es ks h i) s ks)
      ∙ (λ i. let ls = same_side_levels xs s h i in width_of_pairs F xs (widths F es ls) s ls)
  same_command at (tree.Do f es) s h =
      λ i. max (s + 2 + count es) (max (same_arguments (following at f) es (argument_level s) h i) (same_width at f (routine_level s (count es)) h i))
  same_command at (tree.Compound b) s h = same_block at b s h
  same_command at tree.Break s h = refl
  same_command at tree.Loop s h = refl
  same_command at tree.EndCase s h = refl
  same_command at tree.Return s h = refl
  same_command at tree.Finish s h = refl
  same_command at (tree.ResultIs e) s h = same_width at e s h
  same_command at (tree.Goto n) s h = refl
  same_command at (tree.Repeat c) s h = same_command at c s h
  same_command at (tree.RepeatWhile c e) s h = λ i. max (same_command at c s h i) (same_width (after_command at c) e s h i)
  same_command at (tree.RepeatUntil c e) s h = λ i. max (same_command at c s h i) (same_width (after_command at c) e s h i)
  same_command at (tree.If e b) s h = λ i. max (same_width at e s h i) (same_block (following at e) b s h i)
  same_command at (tree.Unless e b) s h = λ i. max (same_width at e s h i) (same_block (following at e) b s h i)
  same_command at (tree.While e b) s h = λ i. max (same_width at e s h i) (same_block (following at e) b s h i)
  same_command at (tree.Until e b) s h = λ i. max (same_width at e s h i) (same_block (following at e) b s h i)
  same_command at (tree.Test e b c) s h =
      let be = following at e in λ i. max (same_width at e s h i) (max (same_block be b s h i) (same_block (after_block be b) c s h i))
  same_command at (tree.For n a z b) s h =
      let s1 = level_in_for s in
      let ba = following at a in
      λ i. max (s1 + 2) (max (same_width at a s1 h i) (max (same_width ba z s1 h i) (same_block (following ba z) b s1 (alike_for n s 0 h) i)))
  same_command at (tree.ForBy n a z k b) s h =
      let s1 = level_in_for s in
      let ba = following at a in
      λ i. max (s1 + 2) (max (same_width at a s1 h i) (max (same_width ba z s1 h i) (same_block (following ba z) b s1 (alike_for n s 0 h) i)))
  same_command at (tree.SwitchOn e is) s h =
      let be = following at e in
      let k = be.label in
      λ i. max (same_width at e s h i) (same_items k (after_labels be (labels_in is)) is s (alike_list k 0 is h) i)

same_body : (E : Env) (at : Numbers) (b : RoutineBody) (s : ℕ) → along.width_of_body E at b s ≡ width_of_body E b s
same_body E at (Gives e) s = same_width at e s (alike_self E)
same_body E at (Does b) s = same_block at b s (alike_self E)

pub same_frame : (r : FoundRoutine) → along.frame_of r ≡ frame_of r
same_frame r = let s = level_after_parameters r.parameters in λ i. max s (same_body r.names r.numbers r.body s i)

pub widths_ask_no_numbers : WidthsAskNoNumbers
widths_ask_no_numbers = record {
  of_expressions = λ E F h at e s. same_width at e s (record { same = h });
  of_commands = λ E F h at c s. same_command at c s (record { same = h });
  of_declarations = λ E F h at ds s. same_declarations at ds s (record { same = h });
  of_routines = same_frame;
}
