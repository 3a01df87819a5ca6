-- If a tree has no fault, neither has the body of a routine or VALOF that is found in it.
use Rattle.std.proofs.Common.{◌≡◌, ℕ, ◌+◌, ◌≤◌, Bool, true, false, List, [], ◌∷◌, ◌++◌, length, Option, None, refl, arith}
use Rattle.std.specs.Prelude.{drop}
use Rattle.std.proofs.lemmas.List.{length-take}
use Rattle.bc_parse_tree.specs.declared.tree.Storage.{Storage}
use Rattle.bc_parse_tree.specs.declared.tree.Storage.TheVariants as storage
use Rattle.bc_parse_tree.specs.Tree as tree
use Rattle.bc_core.specs.Level.{operand_level, argument_level, routine_level, level_in_for, level_after_parameters}
use Rattle.bc_core.specs.WellFormed.{Around, has, global_fits}
use Rattle.bc_core.specs.WellFormed as fitting
use Rattle.bc_scope_defs.specs.Scope.{Meant, Constant, Pending, Static, Global, Routine, Variable, OuterVariable, OuterLabel, StrayVariable, StrayLabel, LabelOutside, Undeclared, Env, Names, Name, Numbers, meant_among, meant_by, is_name, after_valof, after_labels, after_place}
use Rattle.bc_scope_defs.specs.Scope as scope
use Rattle.bc_scope_defs.specs.Numbering.{following, after_all, after_declarations, after_declaration, after_definition, after_command, after_block, labels_of, labels_in}
use Rattle.bc_scope_defs.specs.Scoping.{names_of, count, pending, in_entry, before_let, in_let, in_declaration, in_declarations, cells_in, level_after, in_for, in_list, around_routine, around_valof, seen_through, in_valof, in_routine}
use Rattle.bc_scope_defs.specs.Scoping as scoping
use Rattle.bc_scope_defs.specs.Translation.{core_items}
use Rattle.bc_scope_defs.specs.Found.{RoutineBody, Gives, Does, in_parameters, global_of, Thing, AValof, ARoutine, Data, AText, found, found_in_arguments, found_in_sides, found_in_initials, found_in_definition, found_in_definitions, found_in_entries, found_in_declaration, found_in_declarations, found_in_block, found_in_items, found_in_command}
use Rattle.bc_parse_tree.specs.Size.{exp_size, exps_size, block_size, declaration_size, declarations_size, definition_size, definitions_size, items_size, command_size}
use Rattle.bc_scope_defs.specs.Characters.{characters, decoded}
use Rattle.bc_scope_defs.specs.Sides.{side_levels}
use Rattle.bc_scope_defs.specs.Faults.{Fault, or_else, unless, Allowed}
use Rattle.bc_scope_defs.specs.Faults as faults
use Rattle.bc_scope_defs.specs.FaultsAlong as along
use Rattle.bc_scope_laws.proofs.Fits.{AllThings, first, second, Stands, MeantFits, Sound, sound_more, sound_variables, none_left, none_right}
use Rattle.bc_scope_laws.proofs.FitsCommands.{most_size, sound_in_list, sound_declaration, sound_declarations}

abbrev pub body_fault : Env → Numbers → RoutineBody → (s : ℕ) → Option Fault
body_fault E at (Gives e) s = along.fault false E at e s
body_fault E at (Does b) s = along.block_fault faults.allowed_in_routine E at b s

abbrev pub body_size : RoutineBody → ℕ
body_size (Gives e) = exp_size e
body_size (Does b) = block_size b

-- what is needed to show that the body fits: its names exist, it has no fault, and its size is within the limit
abbrev pub Clean : (places : ℕ) → Thing → Type 0
Clean P (AValof f) = Sound P [] f.names × (along.block_fault faults.allowed_in_valof f.names f.numbers f.body f.level ≡ None) × (block_size f.body ≤ most_size)
Clean P (ARoutine r) = Sound P [] r.names × (body_fault r.names r.numbers r.body (level_after_parameters r.parameters) ≡ None) × (body_size r.body ≤ most_size) × (global_fits r.global ≡ true)
Clean P (Data m (AText bytes)) = length bytes ≤ 255
Clean P (Data m _) = Unit {0}

-- inside a routine or VALOF no label is in scope

valof_fits : (P : ℕ) (L : List ℕ) (m : Meant) → MeantFits P L m → MeantFits P [] (around_valof m)
valof_fits P L (Constant w) h = tt
valof_fits P L Pending h = tt
valof_fits P L (Static m) h = h
valof_fits P L (Global n) h = h
valof_fits P L (Routine m) h = h
valof_fits P L (Variable k) h = tt
valof_fits P L (scope.Label l) h = tt
valof_fits P L OuterVariable h = tt
valof_fits P L OuterLabel h = tt
valof_fits P L StrayVariable h = tt
valof_fits P L StrayLabel h = tt
valof_fits P L LabelOutside h = tt
valof_fits P L Undeclared h = tt

routine_fits : (P : ℕ) (L : List ℕ) (i : Bool) (m : Meant) → MeantFits P L m → MeantFits P [] (around_routine i m)
routine_fits P L true (Constant w) h = tt
routine_fits P L true Pending h = tt
routine_fits P L true (Static m) h = h
routine_fits P L true (Global n) h = h
routine_fits P L true (Routine m) h = h
routine_fits P L true (Variable k) h = tt
routine_fits P L true (scope.Label l) h = tt
routine_fits P L true OuterVariable h = tt
routine_fits P L true OuterLabel h = tt
routine_fits P L true StrayVariable h = tt
routine_fits P L true StrayLabel h = tt
routine_fits P L true LabelOutside h = tt
routine_fits P L true Undeclared h = tt
routine_fits P L false (Constant w) h = tt
routine_fits P L false Pending h = tt
routine_fits P L false (Static m) h = h
routine_fits P L false (Global n) h = h
routine_fits P L false (Routine m) h = h
routine_fits P L false (Variable k) h = tt
routine_fits P L false (scope.Label l) h = tt
routine_fits P L false OuterVariable h = tt
routine_fits P L false OuterLabel h = tt
routine_fits P L false StrayVariable h = tt
routine_fits P L false StrayLabel h = tt
routine_fits P L false LabelOutside h = tt
routine_fits P L false Undeclared h = tt

through_fits : (P : ℕ) (L : List ℕ) (f : Meant → Meant) → ((m : Meant) → MeantFits P L m → MeantFits P [] (f m)) → (es : Names) (q : Name)
    → MeantFits P L (meant_among es q) → MeantFits P [] (meant_among (seen_through f es) q)
through_fits P L f h [] q k = tt
through_fits P L f h (e ∷ es) q k = by (is_name e.0 q) (through_fits P L f h es q) k where
  by : (b : Bool) → (MeantFits P L (meant_among es q) → MeantFits P [] (meant_among (seen_through f es) q))
      → MeantFits P L (elim b [ true ↦ e.1 | false ↦ meant_among es q ]) → MeantFits P [] (elim b [ true ↦ f e.1 | false ↦ meant_among (seen_through f es) q ])
  by true g x = h e.1 x
  by false g x = g x

sound_valof : {P : ℕ} {L : List ℕ} {E : Env} → Sound P L E → Sound P [] (in_valof E)
sound_valof {P} {L} {E} h = record { from = λ q. through_fits P L around_valof (valof_fits P L) E.names q (h.from q) }

sound_parameters : {P : ℕ} {L : List ℕ} (ps : List Name) (E : Env) → Sound P L E → Sound P [] (in_parameters ps E)
sound_parameters {P} {L} ps E h = sound_variables ps 2 (in_routine E) (record { from = λ q. through_fits P L (around_routine E.inside) (routine_fits P L E.inside) E.names q (h.from q) })

pub all_joined : (Q : Thing → Type 0) (fs gs : List Thing) → AllThings Q fs → AllThings Q gs → AllThings Q (fs ++ gs)
all_joined Q [] gs h k = k
all_joined Q (x ∷ fs) gs h k = (h.0, all_joined Q fs gs h.1 k)

entries_clean : (P : ℕ) (s : Storage) (at : Numbers) (es : tree.Entries) (E : Env) → AllThings (Clean P) (found_in_entries s at es E)
entries_clean P s at tree.no_entries E = tt
entries_clean P storage.Static at (tree.entry n k es) E = (tt, entries_clean P storage.Static (after_place at) es (in_entry storage.Static at n k E))
entries_clean P storage.Manifest at (tree.entry n k es) E = entries_clean P storage.Manifest at es (in_entry storage.Manifest at n k E)
entries_clean P storage.Global at (tree.entry n k es) E = entries_clean P storage.Global at es (in_entry storage.Global at n k E)

global_is_fit : (P : ℕ) (L : List ℕ) (m : Meant) → MeantFits P L m → global_fits (global_of m) ≡ true
global_is_fit P L (Global n) h = h
global_is_fit P L (Constant w) h = refl
global_is_fit P L Pending h = refl
global_is_fit P L (Static m) h = refl
global_is_fit P L (Routine m) h = refl
global_is_fit P L (Variable k) h = refl
global_is_fit P L (scope.Label l) h = refl
global_is_fit P L OuterVariable h = refl
global_is_fit P L OuterLabel h = refl
global_is_fit P L StrayVariable h = refl
global_is_fit P L StrayLabel h = refl
global_is_fit P L LabelOutside h = refl
global_is_fit P L Undeclared h = refl

decoded_short : (text : List ℕ) → length (decoded text) ≤ 255
decoded_short text = let e = length-take 255 (characters false (drop 1 text)) in omega (arith, e)

mutual
  pub clean : (A : Around) (L : List ℕ) (E : Env) (at : Numbers) (e : tree.Exp) (s : ℕ) → exp_size e ≤ most_size → Sound A.places L E → AllThings (Stands A) (found E at e s) → along.fault false E at e s ≡ None → AllThings (Clean A.places) (found E at e s)
  clean A L E at (tree.Name n) s z so h n1 = tt
  clean A L E at (tree.Num w) s z so h n = tt
  clean A L E at (tree.Character w) s z so h n = tt
  clean A L E at tree.True s z so h n = tt
  clean A L E at tree.False s z so h n = tt
  clean A L E at (tree.Text text) s z so h n = (decoded_short text, tt)
  clean A L E at (tree.Table ks) s z so h n = (tt, tt)
  clean A L E at (tree.Valof b) s z so h n =
      let so1 = sound_valof so in
      let z1 : block_size b ≤ most_size = omega arith in
      ((so1, n, z1), clean_block A faults.allowed_in_valof [] (in_valof E) (after_valof at) b s z1 so1 h.1 n)
  clean A L E at (tree.Unary m e) s z so h n = clean A L E at e s (omega arith) so h (none_left (along.fault false E at e s) _ n)
  clean A L E at (tree.Bin o l r) s z so h n =
      let s1 = operand_level s in
      let x = found E at l s1 in
      let y = found E (following at l) r s1 in
      all_joined (Clean A.places) x y
      (clean A L E at l s1 (omega arith) so (first (Stands A) x y h) (none_left (along.fault false E at l s1) (along.fault false E (following at l) r s1) n))
      (clean A L E (following at l) r s1 (omega arith) so (second (Stands A) x y h) (none_right (along.fault false E at l s1) (along.fault false E (following at l) r s1) n))
  clean A L E at (tree.Cond c d e) s z so h n =
      let bc = following at c in
      let bd = following bc d in
      let x = found E at c s in
      let y = found E bc d s in
      let v = found E bd e s in
      let h1 = second (Stands A) x (y ++ v) h in
      let n1 : or_else (along.fault false E bc d s) (along.fault false E bd e s) ≡ None = none_right (along.fault false E at c s) (or_else (along.fault false E bc d s) (along.fault false E bd e s)) n in
      all_joined (Clean A.places) x (y ++ v)
      (clean A L E at c s (omega arith) so (first (Stands A) x (y ++ v) h) (none_left (along.fault false E at c s) (or_else (along.fault false E bc d s) (along.fault false E bd e s)) n))
      (all_joined (Clean A.places) y v
      (clean A L E bc d s (omega arith) so (first (Stands A) y v h1) (none_left (along.fault false E bc d s) (along.fault false E bd e s) n1))
      (clean A L E bd e s (omega arith) so (second (Stands A) y v h1) (none_right (along.fault false E bc d s) (along.fault false E bd e s) n1)))
  clean A L E at (tree.Call f es) s z so h n =
      let x = found E at f (routine_level s (count es)) in
      let y = found_in_arguments E (following at f) es (argument_level s) in
      all_joined (Clean A.places) x y
      (clean A L E at f (routine_level s (count es)) (omega arith) so (first (Stands A) x y h) (none_left _ (along.arguments_fault false E (following at f) es (argument_level s)) n))
      (clean_arguments A L E (following at f) es (argument_level s) (omega arith) so (second (Stands A) x y h) (none_right (along.fault false E at f (routine_level s (count es))) _ n))

  clean_arguments : (A : Around) (L : List ℕ) (E : Env) (at : Numbers) (es : tree.Exps) (s : ℕ) → exps_size es ≤ most_size → Sound A.places L E → AllThings (Stands A) (found_in_arguments E at es s) → along.arguments_fault false E at es s ≡ None → AllThings (Clean A.places) (found_in_arguments E at es s)
  clean_arguments A L E at tree.none s z so h n = tt
  clean_arguments A L E at (tree.more e es) s z so h n =
      let x = found E at e s in
      let y = found_in_arguments E (following at e) es (s + 1) in
      all_joined (Clean A.places) x y
      (clean A L E at e s (omega arith) so (first (Stands A) x y h) (none_left (along.fault false E at e s) (along.arguments_fault false E (following at e) es (s + 1)) n))
      (clean_arguments A L E (following at e) es (s + 1) (omega arith) so (second (Stands A) x y h) (none_right (along.fault false E at e s) (along.arguments_fault false E (following at e) es (s + 1)) n))

  clean_initials : (A : Around) (L : List ℕ) (E : Env) (at : Numbers) (es : tree.Exps) (s : ℕ) → exps_size es ≤ most_size → Sound A.places L E → AllThings (Stands A) (found_in_initials E at es s) → along.initials_fault E at es s ≡ None → AllThings (Clean A.places) (found_in_initials E at es s)
  clean_initials A L E at tree.none s z so h n = tt
  clean_initials A L E at (tree.more e es) s z so h n =
      let x = found E at e s in
      let y = found_in_initials E (following at e) es s in
      all_joined (Clean A.places) x y
      (clean A L E at e s (omega arith) so (first (Stands A) x y h) (none_left (along.fault false E at e s) (along.initials_fault E (following at e) es s) n))
      (clean_initials A L E (following at e) es s (omega arith) so (second (Stands A) x y h) (none_right (along.fault false E at e s) (along.initials_fault E (following at e) es s) n))

  clean_sides : (A : Around) (L : List ℕ) (E : Env) (at : Numbers) (es : tree.Exps) (ss : List ℕ) → exps_size es ≤ most_size → Sound A.places L E → AllThings (Stands A) (found_in_sides E at es ss) → along.sides_fault E at es ss ≡ None → AllThings (Clean A.places) (found_in_sides E at es ss)
  clean_sides A L E at tree.none ss z so h n = tt
  clean_sides A L E at (tree.more e es) [] z so h n =
      let x = found E at e 0 in
      let y = found_in_sides E (following at e) es [] in
      all_joined (Clean A.places) x y
      (clean A L E at e 0 (omega arith) so (first (Stands A) x y h) (none_left (along.fault false E at e 0) (along.sides_fault E (following at e) es []) n))
      (clean_sides A L E (following at e) es [] (omega arith) so (second (Stands A) x y h) (none_right (along.fault false E at e 0) (along.sides_fault E (following at e) es []) n))
  clean_sides A L E at (tree.more e es) (s ∷ ss) z so h n =
      let x = found E at e s in
      let y = found_in_sides E (following at e) es ss in
      all_joined (Clean A.places) x y
      (clean A L E at e s (omega arith) so (first (Stands A) x y h) (none_left (along.fault false E at e s) (along.sides_fault E (following at e) es ss) n))
      (clean_sides A L E (following at e) es ss (omega arith) so (second (Stands A) x y h) (none_right (along.fault false E at e s) (along.sides_fault E (following at e) es ss) n))

  clean_definition : (ns : List Name) (A : Around) (L : List ℕ) (O E : Env) (at : Numbers) (d : tree.Definition) (s : ℕ) → definition_size d ≤ most_size → Sound A.places L O → Sound A.places L E → AllThings (Stands A) (found_in_definition O E at d s) → along.definition_fault ns E at d s ≡ None → AllThings (Clean A.places) (found_in_definition O E at d s)
  clean_definition ns A L O E at (tree.Variables xs es) s z o so h n =
      let f = along.initials_fault E at es s in
      let g = unless E.inside faults.AMisplaced in
      clean_initials A L E at es s (omega arith) so h (none_left f g (none_right (faults.all_twice_fault ns xs) (or_else f g) n))
  clean_definition ns A L O E at (tree.Vector x k) s z o so h n = tt
  clean_definition ns A L O E at (tree.Function x ps e) s z o so h n =
      let so1 = sound_parameters ps E so in
      let z1 : exp_size e ≤ most_size = omega arith in
      let f = along.fault false (in_parameters ps E) (after_place at) e (level_after_parameters (length ps)) in
      let n1 = none_right (faults.all_twice_fault [] ps) f (none_right (faults.all_twice_fault ns (x ∷ [])) (or_else (faults.all_twice_fault [] ps) f) n) in
      ((so1, n1, z1, global_is_fit A.places L (meant_by O x) (o.from x)), clean A [] (in_parameters ps E) (after_place at) e (level_after_parameters (length ps)) z1 so1 h.1 n1)
  clean_definition ns A L O E at (tree.Routine x ps b) s z o so h n =
      let so1 = sound_parameters ps E so in
      let z1 : block_size b ≤ most_size = omega arith in
      let f = along.block_fault faults.allowed_in_routine (in_parameters ps E) (after_place at) b (level_after_parameters (length ps)) in
      let n1 = none_right (faults.all_twice_fault [] ps) f (none_right (faults.all_twice_fault ns (x ∷ [])) (or_else (faults.all_twice_fault [] ps) f) n) in
      ((so1, n1, z1, global_is_fit A.places L (meant_by O x) (o.from x)), clean_block A faults.allowed_in_routine [] (in_parameters ps E) (after_place at) b (level_after_parameters (length ps)) z1 so1 h.1 n1)

  clean_definitions : (ns : List Name) (A : Around) (L : List ℕ) (O E : Env) (at : Numbers) (ds : tree.Definitions) (s : ℕ) → definitions_size ds ≤ most_size → Sound A.places L O → Sound A.places L E → AllThings (Stands A) (found_in_definitions O E at ds s) → along.definitions_fault ns E at ds s ≡ None → AllThings (Clean A.places) (found_in_definitions O E at ds s)
  clean_definitions ns A L O E at tree.no_definitions s z o so h n = tt
  clean_definitions ns A L O E at (tree.definition d ds) s z o so h n =
      let x = found_in_definition O E at d s in
      let y = found_in_definitions O E (after_definition at d) ds s in
      all_joined (Clean A.places) x y
      (clean_definition ns A L O E at d s (omega arith) o so (first (Stands A) x y h) (none_left (along.definition_fault ns E at d s) (along.definitions_fault (ns ++ names_of d) E (after_definition at d) ds s) n))
      (clean_definitions (ns ++ names_of d) A L O E (after_definition at d) ds s (omega arith) o so (second (Stands A) x y h) (none_right (along.definition_fault ns E at d s) (along.definitions_fault (ns ++ names_of d) E (after_definition at d) ds s) n))

  clean_declaration : (A : Around) (L : List ℕ) (E : Env) (at : Numbers) (d : tree.Declaration) (s : ℕ) → declaration_size d ≤ most_size → Sound A.places L E → AllThings (Stands A) (found_in_declaration E at d s) → along.declaration_fault E at d s ≡ None → AllThings (Clean A.places) (found_in_declaration E at d s)
  clean_declaration A L E at (tree.Constants k es) s z so h n = entries_clean A.places k at es (pending k es E)
  clean_declaration A L E at (tree.Let ds) s z so h n =
      clean_definitions [] A L E (in_let E at s ds) at ds (s + scoping.cells_of_all (before_let ds E) ds) (omega arith) so (sound_declaration A E at (tree.Let ds) s so h n) h n

  pub clean_declarations : (A : Around) (L : List ℕ) (E : Env) (at : Numbers) (ds : tree.Declarations) (s : ℕ) → declarations_size ds ≤ most_size → Sound A.places L E → AllThings (Stands A) (found_in_declarations E at ds s) → along.declarations_fault E at ds s ≡ None → AllThings (Clean A.places) (found_in_declarations E at ds s)
  clean_declarations A L E at tree.no_declarations s z so h n = tt
  clean_declarations A L E at (tree.declaration d ds) s z so h n =
      let E1 = in_declaration E at s d in
      let at1 = after_declaration at d in
      let s1 = s + cells_in E d in
      let x = found_in_declaration E at d s in
      let y = found_in_declarations E1 at1 ds s1 in
      let n0 = none_left (along.declaration_fault E at d s) (along.declarations_fault E1 at1 ds s1) n in
      all_joined (Clean A.places) x y
      (clean_declaration A L E at d s (omega arith) so (first (Stands A) x y h) n0)
      (clean_declarations A L E1 at1 ds s1 (omega arith) (sound_declaration A E at d s so (first (Stands A) x y h) n0) (second (Stands A) x y h) (none_right (along.declaration_fault E at d s) (along.declarations_fault E1 at1 ds s1) n))

  pub clean_block : (A : Around) (W : Allowed) (L : List ℕ) (E : Env) (at : Numbers) (b : tree.Block) (s : ℕ) → block_size b ≤ most_size → Sound A.places L E → AllThings (Stands A) (found_in_block E at b s) → along.block_fault W E at b s ≡ None → AllThings (Clean A.places) (found_in_block E at b s)
  clean_block A W L E at (tree.block ds is) s z so h n =
      let at1 = after_declarations at ds in
      let k = at1.label in
      let E0 = in_declarations E at s ds in
      let E1 = in_list k is E0 in
      let at2 = after_labels at1 (labels_in is) in
      let s1 = level_after E at s ds in
      let x = found_in_declarations E at ds s in
      let y = found_in_items E1 k at2 is s1 in
      let n0 = none_left (along.declarations_fault E at ds s) (along.items_fault false faults.none_met W E1 at2 is s1) n in
      all_joined (Clean A.places) x y
      (clean_declarations A L E at ds s (omega arith) so (first (Stands A) x y h) n0)
      (clean_items A false faults.none_met W (fitting.labels_of (core_items E1 k at2 is s1) ++ L) E1 k at2 is s1 (omega arith) (sound_in_list E1 k at2 is s1 E0 (sound_declarations A E at ds s so (first (Stands A) x y h) n0)) (second (Stands A) x y h) (none_right (along.declarations_fault E at ds s) (along.items_fault false faults.none_met W E1 at2 is s1) n))

  clean_items : (A : Around) (cases : Bool) (M : faults.Met) (W : Allowed) (L : List ℕ) (E : Env) (k : ℕ) (at : Numbers) (is : tree.Items) (s : ℕ) → items_size is ≤ most_size → Sound A.places L E → AllThings (Stands A) (found_in_items E k at is s) → along.items_fault cases M W E at is s ≡ None → AllThings (Clean A.places) (found_in_items E k at is s)
  clean_items A cases M W L E k at tree.no_items s z so h n = tt
  clean_items A cases M W L E k at (tree.item (tree.Labelled ls c) is) s z so h n =
      let at1 = after_command at c in
      let k1 = k + labels_of ls in
      let x = found_in_command E at c s in
      let y = found_in_items E k1 at1 is s in
      let n1 = none_right (along.labels_fault cases M E at ls) (or_else (along.command_fault W E at c s) (along.items_fault cases (faults.met_labels E M ls) W E at1 is s)) n in
      all_joined (Clean A.places) x y
      (clean_command A W L E at c s (omega arith) so (first (Stands A) x y h) (none_left (along.command_fault W E at c s) (along.items_fault cases (faults.met_labels E M ls) W E at1 is s) n1))
      (clean_items A cases (faults.met_labels E M ls) W L E k1 at1 is s (omega arith) so (second (Stands A) x y h) (none_right (along.command_fault W E at c s) (along.items_fault cases (faults.met_labels E M ls) W E at1 is s) n1))
  clean_items A cases M W L E k at (tree.item (tree.Labels_alone ls) is) s z so h n =
      clean_items A cases (faults.met_labels E M ls) W L E (k + labels_of ls) at is s (omega arith) so h (none_right (along.labels_fault cases M E at ls) (along.items_fault cases (faults.met_labels E M ls) W E at is s) n)

  clean_command : (A : Around) (W : Allowed) (L : List ℕ) (E : Env) (at : Numbers) (c : tree.Command) (s : ℕ) → command_size c ≤ most_size → Sound A.places L E → AllThings (Stands A) (found_in_command E at c s) → along.command_fault W E at c s ≡ None → AllThings (Clean A.places) (found_in_command E at c s)
  clean_command A W L E at (tree.Assign xs es) s z so h n =
      let ss = side_levels E xs s in
      let at1 = after_all at xs in
      let x = found_in_sides E at xs ss in
      let y = found_in_sides E at1 es ss in
      let n1 = none_right (along.sides_fault E at xs ss) (or_else (along.sides_fault E at1 es ss) (unless (faults.all_have_cells E xs) faults.ANotAssignable)) n in
      all_joined (Clean A.places) x y
      (clean_sides A L E at xs ss (omega arith) so (first (Stands A) x y h) (none_left (along.sides_fault E at xs ss) (or_else (along.sides_fault E at1 es ss) (unless (faults.all_have_cells E xs) faults.ANotAssignable)) n))
      (clean_sides A L E at1 es ss (omega arith) so (second (Stands A) x y h) (none_left (along.sides_fault E at1 es ss) (unless (faults.all_have_cells E xs) faults.ANotAssignable) n1))
  clean_command A W L E at (tree.Do f es) s z so h n =
      let x = found E at f (routine_level s (count es)) in
      let y = found_in_arguments E (following at f) es (argument_level s) in
      all_joined (Clean A.places) x y
      (clean A L E at f (routine_level s (count es)) (omega arith) so (first (Stands A) x y h) (none_left (along.fault false E at f (routine_level s (count es))) (along.arguments_fault false E (following at f) es (argument_level s)) n))
      (clean_arguments A L E (following at f) es (argument_level s) (omega arith) so (second (Stands A) x y h) (none_right (along.fault false E at f (routine_level s (count es))) (along.arguments_fault false E (following at f) es (argument_level s)) n))
  clean_command A W L E at (tree.Compound b) s z so h n = clean_block A W L E at b s (omega arith) so h n
  clean_command A W L E at tree.Break s z so h n = tt
  clean_command A W L E at tree.Loop s z so h n = tt
  clean_command A W L E at tree.EndCase s z so h n = tt
  clean_command A W L E at tree.Return s z so h n = tt
  clean_command A W L E at tree.Finish s z so h n = tt
  clean_command A W L E at (tree.Goto x) s z so h n = tt
  clean_command A W L E at (tree.ResultIs e) s z so h n = clean A L E at e s (omega arith) so h (none_left (along.fault false E at e s) (unless W.in_valof faults.AMisplaced) n)
  clean_command A W L E at (tree.Repeat c) s z so h n = clean_command A (faults.in_a_loop W) L E at c s (omega arith) so h n
  clean_command A W L E at (tree.RepeatWhile c e) s z so h n =
      let at1 = after_command at c in
      let x = found_in_command E at c s in
      let y = found E at1 e s in
      let f = along.command_fault (faults.in_a_loop W) E at c s in
      let g = along.fault false E at1 e s in
      all_joined (Clean A.places) x y
      (clean_command A (faults.in_a_loop W) L E at c s (omega arith) so (first (Stands A) x y h) (none_left f g n))
      (clean A L E at1 e s (omega arith) so (second (Stands A) x y h) (none_right f g n))
  clean_command A W L E at (tree.RepeatUntil c e) s z so h n =
      let at1 = after_command at c in
      let x = found_in_command E at c s in
      let y = found E at1 e s in
      let f = along.command_fault (faults.in_a_loop W) E at c s in
      let g = along.fault false E at1 e s in
      all_joined (Clean A.places) x y
      (clean_command A (faults.in_a_loop W) L E at c s (omega arith) so (first (Stands A) x y h) (none_left f g n))
      (clean A L E at1 e s (omega arith) so (second (Stands A) x y h) (none_right f g n))
  clean_command A W L E at (tree.If e b) s z so h n =
      let at1 = following at e in
      let x = found E at e s in
      let y = found_in_block E at1 b s in
      let f = along.fault false E at e s in
      let g = along.block_fault W E at1 b s in
      all_joined (Clean A.places) x y
      (clean A L E at e s (omega arith) so (first (Stands A) x y h) (none_left f g n))
      (clean_block A W L E at1 b s (omega arith) so (second (Stands A) x y h) (none_right f g n))
  clean_command A W L E at (tree.Unless e b) s z so h n =
      let at1 = following at e in
      let x = found E at e s in
      let y = found_in_block E at1 b s in
      let f = along.fault false E at e s in
      let g = along.block_fault W E at1 b s in
      all_joined (Clean A.places) x y
      (clean A L E at e s (omega arith) so (first (Stands A) x y h) (none_left f g n))
      (clean_block A W L E at1 b s (omega arith) so (second (Stands A) x y h) (none_right f g n))
  clean_command A W L E at (tree.While e b) s z so h n =
      let at1 = following at e in
      let x = found E at e s in
      let y = found_in_block E at1 b s in
      let f = along.fault false E at e s in
      let g = along.block_fault (faults.in_a_loop W) E at1 b s in
      all_joined (Clean A.places) x y
      (clean A L E at e s (omega arith) so (first (Stands A) x y h) (none_left f g n))
      (clean_block A (faults.in_a_loop W) L E at1 b s (omega arith) so (second (Stands A) x y h) (none_right f g n))
  clean_command A W L E at (tree.Until e b) s z so h n =
      let at1 = following at e in
      let x = found E at e s in
      let y = found_in_block E at1 b s in
      let f = along.fault false E at e s in
      let g = along.block_fault (faults.in_a_loop W) E at1 b s in
      all_joined (Clean A.places) x y
      (clean A L E at e s (omega arith) so (first (Stands A) x y h) (none_left f g n))
      (clean_block A (faults.in_a_loop W) L E at1 b s (omega arith) so (second (Stands A) x y h) (none_right f g n))
  clean_command A W L E at (tree.Test e b c) s z so h n =
      let at1 = following at e in
      let at2 = after_block at1 b in
      let x = found E at e s in
      let y = found_in_block E at1 b s in
      let v = found_in_block E at2 c s in
      let f = along.fault false E at e s in
      let g = along.block_fault W E at1 b s in
      let j = along.block_fault W E at2 c s in
      let h1 = second (Stands A) x (y ++ v) h in
      let n1 = none_right f (or_else g j) n in
      all_joined (Clean A.places) x (y ++ v)
      (clean A L E at e s (omega arith) so (first (Stands A) x (y ++ v) h) (none_left f (or_else g j) n))
      (all_joined (Clean A.places) y v
      (clean_block A W L E at1 b s (omega arith) so (first (Stands A) y v h1) (none_left g j n1))
      (clean_block A W L E at2 c s (omega arith) so (second (Stands A) y v h1) (none_right g j n1)))
  clean_command A W L E at (tree.For q a d b) s z so h n =
      let s1 = level_in_for s in
      let at1 = following at a in
      let at2 = following at1 d in
      let x = found E at a s1 in
      let y = found E at1 d s1 in
      let v = found_in_block (in_for E q s) at2 b s1 in
      let f = along.fault false E at a s1 in
      let g = along.fault false E at1 d s1 in
      let j = along.block_fault (faults.in_a_loop W) (in_for E q s) at2 b s1 in
      let h1 = second (Stands A) x (y ++ v) h in
      let n1 = none_right f (or_else g j) n in
      all_joined (Clean A.places) x (y ++ v)
      (clean A L E at a s1 (omega arith) so (first (Stands A) x (y ++ v) h) (none_left f (or_else g j) n))
      (all_joined (Clean A.places) y v
      (clean A L E at1 d s1 (omega arith) so (first (Stands A) y v h1) (none_left g j n1))
      (clean_block A (faults.in_a_loop W) L (in_for E q s) at2 b s1 (omega arith) (sound_more q (Variable s) tt so) (second (Stands A) y v h1) (none_right g j n1)))
  clean_command A W L E at (tree.ForBy q a d k b) s z so h n =
      let s1 = level_in_for s in
      let at1 = following at a in
      let at2 = following at1 d in
      let x = found E at a s1 in
      let y = found E at1 d s1 in
      let v = found_in_block (in_for E q s) at2 b s1 in
      let f = along.fault false E at a s1 in
      let g = along.fault false E at1 d s1 in
      let j = or_else (or_else (along.fault true E at2 k 0) (faults.not_constant E k)) (along.block_fault (faults.in_a_loop W) (in_for E q s) at2 b s1) in
      let h1 = second (Stands A) x (y ++ v) h in
      let n1 = none_right f (or_else g j) n in
      all_joined (Clean A.places) x (y ++ v)
      (clean A L E at a s1 (omega arith) so (first (Stands A) x (y ++ v) h) (none_left f (or_else g j) n))
      (all_joined (Clean A.places) y v
      (clean A L E at1 d s1 (omega arith) so (first (Stands A) y v h1) (none_left g j n1))
      (clean_block A (faults.in_a_loop W) L (in_for E q s) at2 b s1 (omega arith) (sound_more q (Variable s) tt so) (second (Stands A) y v h1) (none_right (or_else (along.fault true E at2 k 0) (faults.not_constant E k)) (along.block_fault (faults.in_a_loop W) (in_for E q s) at2 b s1) (none_right g j n1))))
  clean_command A W L E at (tree.SwitchOn e is) s z so h n =
      let at1 = following at e in
      let k = at1.label in
      let E1 = in_list k is E in
      let at2 = after_labels at1 (labels_in is) in
      let x = found E at e s in
      let y = found_in_items E1 k at2 is s in
      let f = along.fault false E at e s in
      let g = along.items_fault true faults.none_met (faults.in_a_switch W) E1 at2 is s in
      all_joined (Clean A.places) x y
      (clean A L E at e s (omega arith) so (first (Stands A) x y h) (none_left f g n))
      (clean_items A true faults.none_met (faults.in_a_switch W) (fitting.labels_of (core_items E1 k at2 is s) ++ L) E1 k at2 is s (omega arith) (sound_in_list E1 k at2 is s E so) (second (Stands A) x y h) (none_right f g n))
