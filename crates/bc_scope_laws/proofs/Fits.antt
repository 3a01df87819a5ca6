-- The translation of a section without fault is well formed: expressions, and what names mean.
use Rattle.std.proofs.Common.{◌≡◌, ◌∙◌, ℕ, ◌+◌, ◌&&◌, Bool, true, false, List, [], ◌∷◌, ◌++◌, Option, Some, None, slice_get, refl, arith}
use Rattle.std.specs.Prelude.{nat_le, nat_lt}
use Rattle.bc_word.specs.declared.operator.Op.{Op}
use Rattle.bc_parse_tree.specs.declared.tree.Storage.{Storage}
use Rattle.bc_parse_tree.specs.declared.tree.Storage.TheVariants as storage
use Rattle.bc_parse_tree.specs.declared.tree.UnaryOp.{UnaryOp}
use Rattle.bc_parse_tree.specs.declared.tree.UnaryOp.TheVariants as unary
use Rattle.bc_parse_tree.specs.Tree as tree
use Rattle.bc_core.specs.Tree.{Exp, Num, Frame, Glob, Place, Load, Neg, Not, Bin, Cond, Call, Valof}
use Rattle.bc_core.specs.Level.{operand_level, argument_level, routine_level}
use Rattle.bc_core.specs.WellFormed.{Around, stands_at, exp_fits, args_fit, has}
use Rattle.bc_scope_defs.specs.Scope.{Meant, Constant, Pending, Static, Global, Routine, Variable, OuterVariable, OuterLabel, StrayVariable, StrayLabel, LabelOutside, Undeclared, Env, Name, Numbers, with_name, meant_by, is_name, after_place}
use Rattle.bc_scope_defs.specs.Scope as scope
use Rattle.bc_scope_defs.specs.Numbering.{following, after_definition, after_entry}
use Rattle.bc_scope_defs.specs.Scoping.{operator, constant, constant_in, count, pending, in_entry, in_entries, variables, routine_name, in_definition, in_definitions}
use Rattle.bc_scope_defs.specs.Scoping as scoping
use Rattle.bc_scope_defs.specs.Translation.{Forms, form_of_name, form_of_unary, form_of_binary, negation, opposite, or_not, forms, core_arguments}
use Rattle.bc_scope_defs.specs.Found.{Thing, AValof, ARoutine, Data, found, found_in_arguments, found_in_definition, found_in_definitions, found_in_entries}
use Rattle.bc_scope_defs.specs.Faults.{Fault, or_else, unless}
use Rattle.bc_scope_defs.specs.Faults as faults
use Rattle.bc_scope_defs.specs.FaultsAlong as along
use Rattle.bc_scope_laws.proofs.Forms.{count_kept}

-- this holds of all things that are found

abbrev pub AllThings : (Thing → Type 0) → List Thing → Type 0
AllThings P [] = Unit {0}
AllThings P (x ∷ xs) = P x × AllThings P xs

pub first : (P : Thing → Type 0) (fs gs : List Thing) → AllThings P (fs ++ gs) → AllThings P fs
first P [] gs h = tt
first P (x ∷ fs) gs h = (h.0, first P fs gs h.1)

pub second : (P : Thing → Type 0) (fs gs : List Thing) → AllThings P (fs ++ gs) → AllThings P gs
second P [] gs h = h
second P (x ∷ fs) gs h = second P fs gs h.1

abbrev pub IsLabel : ℕ → ℕ → Type 0
IsLabel places m = (nat_le 1 m && nat_le m places) ≡ true

abbrev pub Stands : Around → Thing → Type 0
Stands A (AValof f) = (nat_le A.first f.number ≡ true) × (stands_at (slice_get A.levels f.number) f.level ≡ true)
Stands A (ARoutine r) = IsLabel A.places r.label
Stands A (Data m d) = IsLabel A.places m

-- what names mean exists

abbrev pub MeantFits : (places : ℕ) → (labels : List ℕ) → Meant → Type 0
MeantFits P L (Static m) = IsLabel P m
MeantFits P L (Routine m) = IsLabel P m
MeantFits P L (Global n) = nat_lt n 512 ≡ true
MeantFits P L (scope.Label l) = has L l ≡ true
MeantFits P L _ = Unit {0}

pub record Sound (P : ℕ) (L : List ℕ) (E : Env) : Type 0 where
  pub from : (n : Name) → MeantFits P L (meant_by E n)

pub sound_more : {P : ℕ} {L : List ℕ} {E : Env} (n : Name) (m : Meant) → MeantFits P L m → Sound P L E → Sound P L (with_name n m E)
sound_more {P} {L} {E} n m h k = record { from = λ q. by q (is_name n q) } where
  by : (q : Name) (b : Bool) → MeantFits P L (elim b [ true ↦ m | false ↦ meant_by E q ])
  by q true = h
  by q false = k.from q

pub sound_variables : {P : ℕ} {L : List ℕ} (ns : List Name) (k : ℕ) (E : Env) → Sound P L E → Sound P L (variables ns k E)
sound_variables [] k E h = h
sound_variables (n ∷ ns) k E h = sound_variables ns (k + 1) _ (sound_more n (Variable k) tt h)

pub sound_routine : {P : ℕ} {L : List ℕ} (m : Meant) (n : Name) (q : ℕ) (E : Env) → IsLabel P q → Sound P L E → Sound P L (routine_name m n q E)
sound_routine (Global g) n q E h k = k
sound_routine (Constant w) n q E h k = sound_more n (Routine q) h k
sound_routine Pending n q E h k = sound_more n (Routine q) h k
sound_routine (Static m) n q E h k = sound_more n (Routine q) h k
sound_routine (Routine m) n q E h k = sound_more n (Routine q) h k
sound_routine (Variable m) n q E h k = sound_more n (Routine q) h k
sound_routine (scope.Label m) n q E h k = sound_more n (Routine q) h k
sound_routine OuterVariable n q E h k = sound_more n (Routine q) h k
sound_routine OuterLabel n q E h k = sound_more n (Routine q) h k
sound_routine StrayVariable n q E h k = sound_more n (Routine q) h k
sound_routine StrayLabel n q E h k = sound_more n (Routine q) h k
sound_routine LabelOutside n q E h k = sound_more n (Routine q) h k
sound_routine Undeclared n q E h k = sound_more n (Routine q) h k

pub sound_definition : {L : List ℕ} (A : Around) (O N B : Env) (at : Numbers) (k s : ℕ) (d : tree.Definition) (E : Env) → AllThings (Stands A) (found_in_definition O N at d s) → Sound A.places L E → Sound A.places L (in_definition B at k d E)
sound_definition A O N B at k s (tree.Variables ns es) E h so = sound_variables ns k E so
sound_definition A O N B at k s (tree.Vector n c) E h so = sound_more n (Variable k) tt so
sound_definition A O N B at k s (tree.Function n ps e) E h so = sound_routine (meant_by B n) n at.place E h.0 so
sound_definition A O N B at k s (tree.Routine n ps b) E h so = sound_routine (meant_by B n) n at.place E h.0 so

pub sound_definitions : {L : List ℕ} (A : Around) (O N B K : Env) (at : Numbers) (k s : ℕ) (ds : tree.Definitions) (E : Env) → AllThings (Stands A) (found_in_definitions O N at ds s) → Sound A.places L E → Sound A.places L (in_definitions B K at k ds E)
sound_definitions A O N B K at k s tree.no_definitions E h so = so
sound_definitions A O N B K at k s (tree.definition d ds) E h so =
    let of_first = found_in_definition O N at d s in
    let of_rest = found_in_definitions O N (after_definition at d) ds s in
    sound_definitions A O N B K (after_definition at d) (k + scoping.cells_of K d) s ds _ (second (Stands A) of_first of_rest h)
    (sound_definition A O N B at k s d E (first (Stands A) of_first of_rest h) so)

-- if the whole has no fault, its parts have none

pub none_left : (x y : Option Fault) → or_else x y ≡ None → x ≡ None
none_left None y h = refl
none_left (Some f) y h = h

pub none_right : (x y : Option Fault) → or_else x y ≡ None → y ≡ None
none_right None y h = h
none_right (Some f) y h = cc

pub no_fault : (b : Bool) (f : Fault) → unless b f ≡ None → b ≡ true
no_fault true f h = refl
no_fault false f h = cc

-- if a place has a label, there is a first one
first_label : (places m : ℕ) → IsLabel places m → IsLabel places 1
first_label places m h = grind arith

pub sound_pending : {L : List ℕ} (A : Around) (s : Storage) (at : Numbers) (es : tree.Entries) (E F : Env) → AllThings (Stands A) (found_in_entries s at es F) → Sound A.places L E → Sound A.places L (pending s es E)
sound_pending A s at tree.no_entries E F h so = so
sound_pending A storage.Manifest at (tree.entry n k es) E F h so = sound_pending A storage.Manifest at es _ (in_entry storage.Manifest at n k F) h (sound_more n Pending tt so)
sound_pending A storage.Static at (tree.entry n k es) E F h so = sound_pending A storage.Static (after_place at) es _ (in_entry storage.Static at n k F) h.1 (sound_more n (Static 1) (first_label A.places at.place h.0) so)
sound_pending A storage.Global at (tree.entry n k es) E F h so = sound_pending A storage.Global at es _ (in_entry storage.Global at n k F) h (sound_more n (Global 0) refl so)

manifest_fits : (P : ℕ) (L : List ℕ) (at : Numbers) (w : Option ℕ) → MeantFits P L (scoping.meant_as storage.Manifest at w)
manifest_fits P L at None = tt
manifest_fits P L at (Some w) = tt

abbrev first_part : (ns : List Name) (at : Numbers) (x : Name) (k : tree.Exp) (E : Env) → Option Fault
first_part ns at x k E = or_else (along.fault true E at k 0) (faults.not_constant E k)

abbrev last_part : (s : Storage) (ns : List Name) (at : Numbers) (x : Name) (k : tree.Exp) (es : tree.Entries) (E : Env) → Option Fault
last_part s ns at x k es E = along.entries_fault s (ns ++ (x ∷ [])) (after_entry s at) es (in_entry s at x k E)

after_constant : (s : Storage) (ns : List Name) (at : Numbers) (x : Name) (k : tree.Exp) (es : tree.Entries) (E : Env) → along.entries_fault s ns at (tree.entry x k es) E ≡ None → or_else (faults.entry_fault s E x k) (last_part s ns at x k es E) ≡ None
after_constant s ns at x k es E n =
    none_right (first_part ns at x k E) (or_else (faults.entry_fault s E x k) (last_part s ns at x k es E))
    (none_right (faults.twice_fault ns x) (or_else (first_part ns at x k E) (or_else (faults.entry_fault s E x k) (last_part s ns at x k es E))) n)

own_entry_fault : (s : Storage) (ns : List Name) (at : Numbers) (x : Name) (k : tree.Exp) (es : tree.Entries) (E : Env) → along.entries_fault s ns at (tree.entry x k es) E ≡ None → faults.entry_fault s E x k ≡ None
own_entry_fault s ns at x k es E n = none_left (faults.entry_fault s E x k) (last_part s ns at x k es E) (after_constant s ns at x k es E n)

after_entry_fault : (s : Storage) (ns : List Name) (at : Numbers) (x : Name) (k : tree.Exp) (es : tree.Entries) (E : Env) → along.entries_fault s ns at (tree.entry x k es) E ≡ None → last_part s ns at x k es E ≡ None
after_entry_fault s ns at x k es E n = none_right (faults.entry_fault s E x k) (last_part s ns at x k es E) (after_constant s ns at x k es E n)

pub sound_entries : {L : List ℕ} (A : Around) (s : Storage) (ns : List Name) (at : Numbers) (es : tree.Entries) (E : Env) → AllThings (Stands A) (found_in_entries s at es E) → along.entries_fault s ns at es E ≡ None → Sound A.places L E → Sound A.places L (in_entries s at es E)
sound_entries A s ns at tree.no_entries E h n so = so
sound_entries {L} A storage.Manifest ns at (tree.entry x k es) E h n so =
    sound_entries A storage.Manifest (ns ++ (x ∷ [])) at es _ h (after_entry_fault storage.Manifest ns at x k es E n) (sound_more x _ (manifest_fits A.places L at (constant_in E k)) so)
sound_entries A storage.Static ns at (tree.entry x k es) E h n so =
    sound_entries A storage.Static (ns ++ (x ∷ [])) (after_place at) es _ h.1 (after_entry_fault storage.Static ns at x k es E n) (sound_more x (Static at.place) h.0 so)
sound_entries A storage.Global ns at (tree.entry x k es) E h n so =
    sound_entries A storage.Global (ns ++ (x ∷ [])) at es _ h (after_entry_fault storage.Global ns at x k es E n)
    (sound_more x (Global (constant E k)) (no_fault (nat_lt (constant E k) 512) (faults.AGlobalNumber x) (own_entry_fault storage.Global ns at x k es E n)) so)

-- Expressions

abbrev pub FormFits : Around → Forms → ℕ → Type 0
FormFits A f s = (exp_fits A f.address s ≡ true) × (exp_fits A f.content s ≡ true)

name_fits : (A : Around) (L : List ℕ) (m : Meant) (s : ℕ) → MeantFits A.places L m → FormFits A (form_of_name m) s
name_fits A L (Constant w) s h = (refl, refl)
name_fits A L Pending s h = (refl, refl)
name_fits A L (Static m) s h = (h, h)
name_fits A L (Global n) s h = (h, h)
name_fits A L (Routine m) s h = (h, h)
name_fits A L (Variable k) s h = (refl, refl)
name_fits A L (scope.Label l) s h = (refl, refl)
name_fits A L OuterVariable s h = (refl, refl)
name_fits A L OuterLabel s h = (refl, refl)
name_fits A L StrayVariable s h = (refl, refl)
name_fits A L StrayLabel s h = (refl, refl)
name_fits A L LabelOutside s h = (refl, refl)
name_fits A L Undeclared s h = (refl, refl)

negation_fits : (A : Around) (e : Exp) (s : ℕ) → exp_fits A (negation e) s ≡ exp_fits A e s
negation_fits A (Bin op a b) s = of_operator (opposite op) where
  of_operator : (o : Option Op) → exp_fits A (or_not o op a b) s ≡ exp_fits A (Bin op a b) s
  of_operator None = refl
  of_operator (Some o) = refl
negation_fits A (Num n) s = refl
negation_fits A (Frame k) s = refl
negation_fits A (Glob n) s = refl
negation_fits A (Place m) s = refl
negation_fits A (Load e) s = refl
negation_fits A (Neg e) s = refl
negation_fits A (Not e) s = refl
negation_fits A (Cond c x y) s = refl
negation_fits A (Call es f) s = refl
negation_fits A (Valof n) s = refl

unary_fits : (A : Around) (m : UnaryOp) (f : Forms) (s : ℕ) → FormFits A f s → FormFits A (form_of_unary m f) s
unary_fits A unary.Load f s h = (h.1, h.1)
unary_fits A unary.Address f s h = (h.0, h.0)
unary_fits A unary.Not f s h = let k = negation_fits A f.content s ∙ h.1 in (k, k)
unary_fits A unary.Neg f s h = (h.1, h.1)

binary_fits : (A : Around) (o : Option Op) (l r : Exp) (s : ℕ) → (exp_fits A l (operand_level s) && exp_fits A r (operand_level s)) ≡ true → FormFits A (form_of_binary o l r) s
binary_fits A None l r s h = (h, h)
binary_fits A (Some op) l r s h = (h, h)

mutual
  pub exp_fit : {L : List ℕ} (A : Around) (E : Env) (at : Numbers) (e : tree.Exp) (s : ℕ) → Sound A.places L E → AllThings (Stands A) (found E at e s) → FormFits A (forms E at e) s
  exp_fit {L} A E at (tree.Name n) s so h = name_fits A L (meant_by E n) s (so.from n)
  exp_fit A E at (tree.Num w) s so h = (refl, refl)
  exp_fit A E at (tree.Character w) s so h = (refl, refl)
  exp_fit A E at tree.True s so h = (refl, refl)
  exp_fit A E at tree.False s so h = (refl, refl)
  exp_fit A E at (tree.Text bytes) s so h = (h.0, h.0)
  exp_fit A E at (tree.Table ks) s so h = (h.0, h.0)
  exp_fit A E at (tree.Valof b) s so h = let k : exp_fits A (Valof at.valof) s ≡ true = λ i. h.0.0 i && h.0.1 i in (k, k)
  exp_fit A E at (tree.Unary m e) s so h = unary_fits A m (forms E at e) s (exp_fit A E at e s so h)
  exp_fit A E at (tree.Bin o l r) s so h =
      let s1 = operand_level s in
      let of_left = found E at l s1 in
      let of_right = found E (following at l) r s1 in
      let hl = exp_fit A E at l s1 so (first (Stands A) of_left of_right h) in
      let hr = exp_fit A E (following at l) r s1 so (second (Stands A) of_left of_right h) in
      binary_fits A (operator o) (forms E at l).content (forms E (following at l) r).content s (λ i. hl.1 i && hr.1 i)
  exp_fit A E at (tree.Cond c x y) s so h =
      let bc = following at c in
      let bx = following bc x in
      let rest = found E bc x s ++ found E bx y s in
      let hxy = second (Stands A) (found E at c s) rest h in
      let hc = exp_fit A E at c s so (first (Stands A) (found E at c s) rest h) in
      let hx = exp_fit A E bc x s so (first (Stands A) (found E bc x s) (found E bx y s) hxy) in
      let hy = exp_fit A E bx y s so (second (Stands A) (found E bc x s) (found E bx y s) hxy) in
      let k : exp_fits A (forms E at (tree.Cond c x y)).content s ≡ true = λ i. hc.1 i && hx.1 i && hy.1 i in
      (k, k)
  exp_fit A E at (tree.Call f es) s so h =
      let of_routine = found E at f (routine_level s (count es)) in
      let of_arguments = found_in_arguments E (following at f) es (argument_level s) in
      let hf = exp_fit A E at f (routine_level s (count es)) so (first (Stands A) of_routine of_arguments h) in
      let hs = arguments_fit A E (following at f) es (argument_level s) so (second (Stands A) of_routine of_arguments h) in
      let k : exp_fits A (forms E at (tree.Call f es)).content s ≡ true =
      (λ i. args_fit A (core_arguments E (following at f) es) (argument_level s) && exp_fits A (forms E at f).content (routine_level s (count_kept E (following at f) es i)))
      ∙ (λ i. hs i && hf.1 i) in
      (k, k)

  pub arguments_fit : {L : List ℕ} (A : Around) (E : Env) (at : Numbers) (es : tree.Exps) (s : ℕ) → Sound A.places L E → AllThings (Stands A) (found_in_arguments E at es s) → args_fit A (core_arguments E at es) s ≡ true
  arguments_fit A E at tree.none s so h = refl
  arguments_fit A E at (tree.more e es) s so h =
      let of_first = found E at e s in
      let of_rest = found_in_arguments E (following at e) es (s + 1) in
      let he = exp_fit A E at e s so (first (Stands A) of_first of_rest h) in
      let hs = arguments_fit A E (following at e) es (s + 1) so (second (Stands A) of_first of_rest h) in
      λ i. he.1 i && hs i
