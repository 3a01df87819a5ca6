-- The VALOFs that are found in a tree have rising numbers, and each is followed by those of its body.
use Rattle.std.proofs.Common.{◌≡◌, ℕ, ◌+◌, List, [], ◌∷◌, ◌++◌, length, refl, sym, subst, append_assoc, append-nil}
use Rattle.bc_parse_tree.specs.declared.tree.Storage.{Storage}
use Rattle.bc_parse_tree.specs.declared.tree.Storage.TheVariants as storage
use Rattle.bc_parse_tree.specs.Tree as tree
use Rattle.bc_parse_tree.specs.Tree.{Declarations}
use Rattle.bc_core.specs.Level.{operand_level, argument_level, routine_level, level_in_for, level_after_parameters}
use Rattle.bc_scope_defs.specs.Scope.{Env, nothing_known, Numbers, after_valof, after_labels, after_place}
use Rattle.bc_scope_defs.specs.Numbering.{after_entries, following, after_all, after_declarations, after_declaration, after_definitions, after_definition, after_command, after_block, after_items, labels_of, labels_in}
use Rattle.bc_scope_defs.specs.Scoping.{pending, in_entry, count, cells_of_all, before_let, in_let, in_declaration, in_declarations, cells_in, level_after, in_for, in_list, in_valof}
use Rattle.bc_scope_defs.specs.Sides.{side_levels}
use Rattle.bc_scope_defs.specs.Found.{Found, FoundRoutine, RoutineBody, Gives, Does, Thing, AValof, ARoutine, Data, in_parameters, found_in_entries, found, found_in_arguments, found_in_sides, found_in_initials, found_in_definition, found_in_definitions, found_in_declaration, found_in_declarations, found_in_block, found_in_items, found_in_command, section_start, found_in_section}

abbrev pub body_of : Found → List Thing
body_of f = found_in_block f.names f.numbers f.body f.level

abbrev pub found_in_routine : Env → Numbers → RoutineBody → (s : ℕ) → List Thing
found_in_routine E at (Gives e) s = found E at e s
found_in_routine E at (Does b) s = found_in_block E at b s

abbrev pub routine_body : FoundRoutine → List Thing
routine_body r = found_in_routine r.names r.numbers r.body (level_after_parameters r.parameters)

-- VALOFs are numbered from n on and places labelled from q on; each body is followed by what is found in it
abbrev pub Nested : (n q : ℕ) → List Thing → Type 0
Nested n q [] = Unit {0}
Nested n q (AValof f ∷ fs) = (f.number ≡ n) × ((rest : List Thing) × (fs ≡ body_of f ++ rest)) × Nested (n + 1) q fs
Nested n q (ARoutine r ∷ fs) = ((rest : List Thing) × (fs ≡ routine_body r ++ rest)) × Nested n (q + 1) fs × (r.label ≡ q)
Nested n q (Data m d ∷ fs) = Nested n (q + 1) fs × (m ≡ q)

-- things that lead from these numbers to those; a record, so that a use shows which things
pub record NestedRun (from upto : Numbers) (fs : List Thing) : Type 0 where
  pub before : (rest : List Thing) → Nested upto.valof upto.place rest → Nested from.valof from.place (fs ++ rest)

nothing : (at : Numbers) → NestedRun at at []
nothing at = record { before = λ rest h. h }

joined : {a b c : Numbers} {fs gs : List Thing} → NestedRun a b fs → NestedRun b c gs → NestedRun a c (fs ++ gs)
joined {a} {b} {c} {fs} {gs} hf hg =
    record { before = λ rest h. subst (λ l. Nested a.valof a.place l) (sym (append_assoc fs gs rest)) (hf.before (gs ++ rest) (hg.before rest h)) }

-- labels of a list aren't VALOFs
with_labels : (a c : Numbers) (n : ℕ) (gs : List Thing) → NestedRun (after_labels a n) c gs → NestedRun a c gs
with_labels a c n gs h = record { before = h.before }

nested_entries : (s : Storage) (at : Numbers) (es : tree.Entries) (E : Env) → NestedRun at (after_entries s at es) (found_in_entries s at es E)
nested_entries s at tree.no_entries E = nothing at
nested_entries storage.Static at (tree.entry n k es) E = record { before = λ rest h. ((nested_entries storage.Static (after_place at) es (in_entry storage.Static at n k E)).before rest h, refl) }
nested_entries storage.Manifest at (tree.entry n k es) E = record { before = λ rest h. (nested_entries storage.Manifest at es (in_entry storage.Manifest at n k E)).before rest h }
nested_entries storage.Global at (tree.entry n k es) E = record { before = λ rest h. (nested_entries storage.Global at es (in_entry storage.Global at n k E)).before rest h }

mutual
  pub nested : (E : Env) (at : Numbers) (e : tree.Exp) (s : ℕ) → NestedRun at (following at e) (found E at e s)
  nested E at (tree.Name n) s = nothing at
  nested E at (tree.Num w) s = nothing at
  nested E at (tree.Character w) s = nothing at
  nested E at tree.True s = nothing at
  nested E at tree.False s = nothing at
  nested E at (tree.Text bytes) s = record { before = λ rest h. (h, refl) }
  nested E at (tree.Table ks) s = record { before = λ rest h. (h, refl) }
  nested E at (tree.Valof b) s = record { before = λ rest h. (refl, (rest, refl), (nested_block (in_valof E) (after_valof at) b s).before rest h) }
  nested E at (tree.Unary m e) s = nested E at e s
  nested E at (tree.Bin o l r) s = joined (nested E at l (operand_level s)) (nested E (following at l) r (operand_level s))
  nested E at (tree.Cond c x y) s =
      let bc = following at c in
      let bx = following bc x in
      joined (nested E at c s) (joined (nested E bc x s) (nested E bx y s))
  nested E at (tree.Call f es) s =
      joined (nested E at f (routine_level s (count es))) (nested_arguments E (following at f) es (argument_level s))

  nested_arguments : (E : Env) (at : Numbers) (es : tree.Exps) (s : ℕ) → NestedRun at (after_all at es) (found_in_arguments E at es s)
  nested_arguments E at tree.none s = nothing at
  nested_arguments E at (tree.more e es) s = joined (nested E at e s) (nested_arguments E (following at e) es (s + 1))

  nested_sides : (E : Env) (at : Numbers) (es : tree.Exps) (ss : List ℕ) → NestedRun at (after_all at es) (found_in_sides E at es ss)
  nested_sides E at tree.none ss = nothing at
  nested_sides E at (tree.more e es) [] = joined (nested E at e 0) (nested_sides E (following at e) es [])
  nested_sides E at (tree.more e es) (s ∷ ss) = joined (nested E at e s) (nested_sides E (following at e) es ss)

  nested_initials : (E : Env) (at : Numbers) (es : tree.Exps) (s : ℕ) → NestedRun at (after_all at es) (found_in_initials E at es s)
  nested_initials E at tree.none s = nothing at
  nested_initials E at (tree.more e es) s = joined (nested E at e s) (nested_initials E (following at e) es s)

  nested_definition : (O E : Env) (at : Numbers) (d : tree.Definition) (s : ℕ) → NestedRun at (after_definition at d) (found_in_definition O E at d s)
  nested_definition O E at (tree.Variables ns es) s = nested_initials E at es s
  nested_definition O E at (tree.Vector n k) s = nothing at
  nested_definition O E at (tree.Function n ps e) s = record { before = λ rest h. ((rest, refl), (nested (in_parameters ps E) (after_place at) e (level_after_parameters (length ps))).before rest h, refl) }
  nested_definition O E at (tree.Routine n ps b) s = record { before = λ rest h. ((rest, refl), (nested_block (in_parameters ps E) (after_place at) b (level_after_parameters (length ps))).before rest h, refl) }

  nested_definitions : (O E : Env) (at : Numbers) (ds : tree.Definitions) (s : ℕ) → NestedRun at (after_definitions at ds) (found_in_definitions O E at ds s)
  nested_definitions O E at tree.no_definitions s = nothing at
  nested_definitions O E at (tree.definition d ds) s =
      joined (nested_definition O E at d s) (nested_definitions O E (after_definition at d) ds s)

  nested_declaration : (E : Env) (at : Numbers) (d : tree.Declaration) (s : ℕ) → NestedRun at (after_declaration at d) (found_in_declaration E at d s)
  nested_declaration E at (tree.Constants k es) s = nested_entries k at es (pending k es E)
  nested_declaration E at (tree.Let ds) s = nested_definitions E (in_let E at s ds) at ds (s + cells_of_all (before_let ds E) ds)

  pub nested_declarations : (E : Env) (at : Numbers) (ds : tree.Declarations) (s : ℕ) → NestedRun at (after_declarations at ds) (found_in_declarations E at ds s)
  nested_declarations E at tree.no_declarations s = nothing at
  nested_declarations E at (tree.declaration d ds) s =
      joined (nested_declaration E at d s)
      (nested_declarations (in_declaration E at s d) (after_declaration at d) ds (s + cells_in E d))

  pub nested_block : (E : Env) (at : Numbers) (b : tree.Block) (s : ℕ) → NestedRun at (after_block at b) (found_in_block E at b s)
  nested_block E at (tree.block ds is) s =
      let at1 = after_declarations at ds in
      let k = at1.label in
      let at2 = after_labels at1 (labels_in is) in
      joined (nested_declarations E at ds s) (with_labels at1 _ (labels_in is) _ (nested_items (in_list k is (in_declarations E at s ds)) k at2 is (level_after E at s ds)))

  nested_items : (E : Env) (k : ℕ) (at : Numbers) (is : tree.Items) (s : ℕ) → NestedRun at (after_items at is) (found_in_items E k at is s)
  nested_items E k at tree.no_items s = nothing at
  nested_items E k at (tree.item (tree.Labelled ls c) is) s =
      joined (nested_command E at c s) (nested_items E (k + labels_of ls) (after_command at c) is s)
  nested_items E k at (tree.item (tree.Labels_alone ls) is) s = nested_items E (k + labels_of ls) at is s

  pub nested_command : (E : Env) (at : Numbers) (c : tree.Command) (s : ℕ) → NestedRun at (after_command at c) (found_in_command E at c s)
  nested_command E at (tree.Assign xs es) s =
      let ss = side_levels E xs s in
      joined (nested_sides E at xs ss) (nested_sides E (after_all at xs) es ss)
  nested_command E at (tree.Do f es) s =
      joined (nested E at f (routine_level s (count es))) (nested_arguments E (following at f) es (argument_level s))
  nested_command E at (tree.Compound b) s = nested_block E at b s
  nested_command E at tree.Break s = nothing at
  nested_command E at tree.Loop s = nothing at
  nested_command E at tree.EndCase s = nothing at
  nested_command E at tree.Return s = nothing at
  nested_command E at tree.Finish s = nothing at
  nested_command E at (tree.Goto n) s = nothing at
  nested_command E at (tree.ResultIs e) s = nested E at e s
  nested_command E at (tree.Repeat c) s = nested_command E at c s
  nested_command E at (tree.RepeatWhile c e) s = let bc = after_command at c in joined (nested_command E at c s) (nested E bc e s)
  nested_command E at (tree.RepeatUntil c e) s = let bc = after_command at c in joined (nested_command E at c s) (nested E bc e s)
  nested_command E at (tree.If e b) s = let be = following at e in joined (nested E at e s) (nested_block E be b s)
  nested_command E at (tree.Unless e b) s = let be = following at e in joined (nested E at e s) (nested_block E be b s)
  nested_command E at (tree.While e b) s = let be = following at e in joined (nested E at e s) (nested_block E be b s)
  nested_command E at (tree.Until e b) s = let be = following at e in joined (nested E at e s) (nested_block E be b s)
  nested_command E at (tree.Test e b c) s =
      let be = following at e in
      let bb = after_block be b in
      joined (nested E at e s) (joined (nested_block E be b s) (nested_block E bb c s))
  nested_command E at (tree.For n a z b) s =
      let ba = following at a in
      let bz = following ba z in
      let s1 = level_in_for s in
      joined (nested E at a s1) (joined (nested E ba z s1) (nested_block (in_for E n s) bz b s1))
  nested_command E at (tree.ForBy n a z k b) s =
      let ba = following at a in
      let bz = following ba z in
      let s1 = level_in_for s in
      joined (nested E at a s1) (joined (nested E ba z s1) (nested_block (in_for E n s) bz b s1))
  nested_command E at (tree.SwitchOn e is) s =
      let be = following at e in
      let k = be.label in
      let at1 = after_labels be (labels_in is) in
      joined (nested E at e s) (with_labels be _ (labels_in is) _ (nested_items (in_list k is E) k at1 is s))

pub all_nested : (ds : Declarations) → Nested 0 1 (found_in_section ds)
all_nested ds = subst (λ l. Nested 0 1 l) (append-nil (found_in_section ds)) ((nested_declarations nothing_known section_start ds 0).before [] tt)
