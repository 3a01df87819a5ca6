-- Names that are alike: the same names in the same order, with meanings that differ at most in their numbers.
use Rattle.std.proofs.Common.{◌≡◌, ◌∙◌, ℕ, ◌+◌, Bool, true, false, List, [], ◌∷◌, ◌++◌, cond, is_some, Option, Some, None, refl, sym, ap}
use Rattle.std.specs.Prelude.{nat_lt, ◌&&◌, ◌||◌}
use Rattle.bc_parse_tree.specs.declared.tree.Storage.{Storage}
use Rattle.bc_parse_tree.specs.declared.tree.Storage.TheVariants as storage
use Rattle.bc_parse_tree.specs.declared.tree.BinaryOp.TheVariants as binary
use Rattle.bc_parse_tree.specs.declared.tree.UnaryOp.{UnaryOp}
use Rattle.bc_parse_tree.specs.declared.tree.UnaryOp.TheVariants as unary
use Rattle.bc_parse_tree.specs.Tree as tree
use Rattle.bc_scope_defs.specs.Scope.{Meant, Constant, Pending, Static, Global, Routine, Variable, OuterVariable, OuterLabel, StrayVariable, StrayLabel, LabelOutside, Undeclared, Env, Names, Name, Numbers, with_name, meant_among, meant_by, is_name}
use Rattle.bc_scope_defs.specs.Scope as scope
use Rattle.bc_scope_defs.specs.Numbering.{after_entry, after_declaration, after_definition, labels_named, labels_of_item}
use Rattle.bc_scope_defs.specs.Scoping.{operator, constant, constant_in, constant_name, constant_unary, constant_binary, or_zero, any_numbers, pending, own_names, meant_as, in_entry, in_entries, cells_of, cells_of_all, variables, routine_name, in_definition, in_definitions, before_let, in_let, in_declaration, in_declarations, cells_in, level_after, in_for, in_label, in_labels, in_item, in_list, around_routine, around_valof, seen_through, in_routine, in_valof}
use Rattle.bc_scope_defs.specs.Sides.{kinds_of_name, kinds_of_unary, kinds_of_binary, kinds, is_operand_kind, side_levels}
use Rattle.bc_scope_defs.specs.Found.{in_parameters}
use Rattle.bc_scope_defs.specs.Frames.{held}
use Rattle.bc_scope_defs.specs.Faults.{ANotConstant, ANotAssignable, AGlobalNumber, unless, name_fault, jump_fault, not_constant, is_cell, has_cell, is_label, names_label, address_fault, all_have_cells, Met, met_label, met_labels, entry_fault}
use Rattle.bc_scope_laws.specs.Laws.{without_number, without_numbers}

pub record Alike (E F : Env) : Type 0 where
  pub same : without_numbers E ≡ without_numbers F

pub alike_self : (E : Env) → Alike E E
alike_self E = record { same = refl }

-- what a name means

among_without : (es : Names) (n : Name) → without_number (meant_among es n) ≡ meant_among (seen_through without_number es) n
among_without [] n = refl
among_without (e ∷ es) n = by (is_name e.0 n) (among_without es n) where
  by : (b : Bool) → without_number (meant_among es n) ≡ meant_among (seen_through without_number es) n
      → without_number (elim b [ true ↦ e.1 | false ↦ meant_among es n ]) ≡ elim b [ true ↦ without_number e.1 | false ↦ meant_among (seen_through without_number es) n ]
  by true h = refl
  by false h = h

meant_without : (E : Env) (n : Name) → without_number (meant_by E n) ≡ meant_by (without_numbers E) n
meant_without E n = among_without E.names n

-- what is said of a meaning without its number is said of both
pub same_told : {A : Type 0} {E F : Env} (told : Meant → A) → ((m : Meant) → told (without_number m) ≡ told m) → (n : Name) → Alike E F → told (meant_by E n) ≡ told (meant_by F n)
same_told {E = E} {F = F} told blind n h =
    sym (blind (meant_by E n)) ∙ ap told (meant_without E n ∙ ap (λ G. meant_by G n) h.same ∙ sym (meant_without F n)) ∙ blind (meant_by F n)

constant_blind : (m : Meant) → constant_name (without_number m) ≡ constant_name m
constant_blind (Constant w) = refl
constant_blind Pending = refl
constant_blind (Static m) = refl
constant_blind (Global g) = refl
constant_blind (Routine m) = refl
constant_blind (Variable k) = refl
constant_blind (scope.Label l) = refl
constant_blind OuterVariable = refl
constant_blind OuterLabel = refl
constant_blind StrayVariable = refl
constant_blind StrayLabel = refl
constant_blind LabelOutside = refl
constant_blind Undeclared = refl

kinds_blind : (m : Meant) → kinds_of_name (without_number m) ≡ kinds_of_name m
kinds_blind (Constant w) = refl
kinds_blind Pending = refl
kinds_blind (Static m) = refl
kinds_blind (Global g) = refl
kinds_blind (Routine m) = refl
kinds_blind (Variable k) = refl
kinds_blind (scope.Label l) = refl
kinds_blind OuterVariable = refl
kinds_blind OuterLabel = refl
kinds_blind StrayVariable = refl
kinds_blind StrayLabel = refl
kinds_blind LabelOutside = refl
kinds_blind Undeclared = refl

cell_blind : (m : Meant) → is_cell (without_number m) ≡ is_cell m
cell_blind (Constant w) = refl
cell_blind Pending = refl
cell_blind (Static m) = refl
cell_blind (Global g) = refl
cell_blind (Routine m) = refl
cell_blind (Variable k) = refl
cell_blind (scope.Label l) = refl
cell_blind OuterVariable = refl
cell_blind OuterLabel = refl
cell_blind StrayVariable = refl
cell_blind StrayLabel = refl
cell_blind LabelOutside = refl
cell_blind Undeclared = refl

label_blind : (m : Meant) → is_label (without_number m) ≡ is_label m
label_blind (Constant w) = refl
label_blind Pending = refl
label_blind (Static m) = refl
label_blind (Global g) = refl
label_blind (Routine m) = refl
label_blind (Variable k) = refl
label_blind (scope.Label l) = refl
label_blind OuterVariable = refl
label_blind OuterLabel = refl
label_blind StrayVariable = refl
label_blind StrayLabel = refl
label_blind LabelOutside = refl
label_blind Undeclared = refl

name_blind : (c : Bool) (n : Name) (m : Meant) → name_fault c n (without_number m) ≡ name_fault c n m
name_blind c n (Constant w) = refl
name_blind c n Pending = refl
name_blind c n (Static m) = refl
name_blind c n (Global g) = refl
name_blind c n (Routine m) = refl
name_blind c n (Variable k) = refl
name_blind c n (scope.Label l) = refl
name_blind c n OuterVariable = refl
name_blind c n OuterLabel = refl
name_blind c n StrayVariable = refl
name_blind c n StrayLabel = refl
name_blind c n LabelOutside = refl
name_blind c n Undeclared = refl

jump_blind : (n : Name) (m : Meant) → jump_fault n (without_number m) ≡ jump_fault n m
jump_blind n (Constant w) = refl
jump_blind n Pending = refl
jump_blind n (Static m) = refl
jump_blind n (Global g) = refl
jump_blind n (Routine m) = refl
jump_blind n (Variable k) = refl
jump_blind n (scope.Label l) = refl
jump_blind n OuterVariable = refl
jump_blind n OuterLabel = refl
jump_blind n StrayVariable = refl
jump_blind n StrayLabel = refl
jump_blind n LabelOutside = refl
jump_blind n Undeclared = refl

pub same_name_fault : {E F : Env} (c : Bool) (n : Name) → Alike E F → name_fault c n (meant_by E n) ≡ name_fault c n (meant_by F n)
same_name_fault c n h = same_told (name_fault c n) (name_blind c n) n h

pub same_jump_fault : {E F : Env} (n : Name) → Alike E F → jump_fault n (meant_by E n) ≡ jump_fault n (meant_by F n)
same_jump_fault n h = same_told (jump_fault n) (jump_blind n) n h

-- Constants

pub same_constant_in : {E F : Env} (k : tree.Exp) → Alike E F → constant_in E k ≡ constant_in F k
same_constant_in (tree.Name n) h = same_told constant_name constant_blind n h
same_constant_in (tree.Num w) h = refl
same_constant_in (tree.Character w) h = refl
same_constant_in tree.True h = refl
same_constant_in tree.False h = refl
same_constant_in (tree.Unary m e) h = ap (constant_unary m) (same_constant_in e h)
same_constant_in (tree.Bin o l r) h = λ i. constant_binary (operator o) (same_constant_in l h i) (same_constant_in r h i)
same_constant_in (tree.Text bytes) h = refl
same_constant_in (tree.Table ks) h = refl
same_constant_in (tree.Valof b) h = refl
same_constant_in (tree.Cond c x y) h = refl
same_constant_in (tree.Call f es) h = refl

pub same_constant : {E F : Env} (k : tree.Exp) → Alike E F → constant E k ≡ constant F k
same_constant k h = ap or_zero (same_constant_in k h)

pub same_not_constant : {E F : Env} (k : tree.Exp) → Alike E F → not_constant E k ≡ not_constant F k
same_not_constant k h = ap (λ w. unless (is_some w) ANotConstant) (same_constant_in k h)

pub same_entry_fault : {E F : Env} (s : Storage) (n : Name) (k : tree.Exp) → Alike E F → entry_fault s E n k ≡ entry_fault s F n k
same_entry_fault storage.Manifest n k h = refl
same_entry_fault storage.Static n k h = refl
same_entry_fault storage.Global n k h = ap (λ w. unless (nat_lt w 512) (AGlobalNumber n)) (same_constant k h)

pub same_met : {E F : Env} (M : Met) (l : tree.Label) → Alike E F → met_label E M l ≡ met_label F M l
same_met M (tree.Case k) h = ap (λ w. record M { values = M.values ++ (w ∷ []) }) (same_constant k h)
same_met M tree.Default h = refl
same_met M (tree.Named n) h = refl

pub same_mets : {E F : Env} (M : Met) (ls : tree.Labels) → Alike E F → met_labels E M ls ≡ met_labels F M ls
same_mets M tree.no_labels h = refl
same_mets {E} {F} M (tree.label l ls) h = ap (λ N. met_labels E N ls) (same_met M l h) ∙ same_mets (met_label F M l) ls h

-- Cells and sides

pub same_has_cell : {E F : Env} (e : tree.Exp) → Alike E F → has_cell E e ≡ has_cell F e
same_has_cell (tree.Name n) h = same_told is_cell cell_blind n h
same_has_cell (tree.Unary unary.Load e) h = refl
same_has_cell (tree.Bin binary.Index l r) h = refl
same_has_cell _ h = refl

pub same_have_cells : {E F : Env} (xs : tree.Exps) → Alike E F → all_have_cells E xs ≡ all_have_cells F xs
same_have_cells tree.none h = refl
same_have_cells (tree.more x xs) h = λ i. same_has_cell x h i && same_have_cells xs h i

same_names_label : {E F : Env} (e : tree.Exp) → Alike E F → names_label E e ≡ names_label F e
same_names_label (tree.Name n) h = same_told is_label label_blind n h
same_names_label _ h = refl

pub same_address_fault : {E F : Env} (c : Bool) (m : UnaryOp) (e : tree.Exp) → Alike E F → address_fault c E m e ≡ address_fault c F m e
same_address_fault c unary.Address e h = λ i. unless (same_has_cell e h i || (c && same_names_label e h i)) ANotAssignable
same_address_fault c _ e h = refl

same_kinds : {E F : Env} (e : tree.Exp) → Alike E F → kinds E e ≡ kinds F e
same_kinds (tree.Name n) h = same_told kinds_of_name kinds_blind n h
same_kinds (tree.Num w) h = refl
same_kinds (tree.Character w) h = refl
same_kinds tree.True h = refl
same_kinds tree.False h = refl
same_kinds (tree.Text bytes) h = refl
same_kinds (tree.Table ks) h = refl
same_kinds (tree.Unary m e) h = ap (kinds_of_unary m) (same_kinds e h)
same_kinds (tree.Bin o l r) h = λ i. kinds_of_binary o (same_kinds l h i).content (same_kinds r h i).content
same_kinds (tree.Valof b) h = refl
same_kinds (tree.Cond c x y) h = refl
same_kinds (tree.Call f es) h = refl

pub same_side_levels : {E F : Env} (xs : tree.Exps) (s : ℕ) → Alike E F → side_levels E xs s ≡ side_levels F xs s
same_side_levels tree.none s h = refl
same_side_levels (tree.more x xs) s h = λ i. cond (is_operand_kind (same_kinds x h i).address) s (s + 1) ∷ same_side_levels xs s h i

pub same_held : {E F : Env} (x : tree.Exp) (s : ℕ) → Alike E F → held E x s ≡ held F x s
same_held x s h = λ i. cond (is_operand_kind (same_kinds x h i).address) 0 (s + 2)

-- Names that are declared

pub alike_more : {E F : Env} (n : Name) (m q : Meant) → without_number m ≡ without_number q → Alike E F → Alike (with_name n m E) (with_name n q F)
alike_more n m q e h = record { same = λ i. with_name n (e i) (h.same i) }

same_storage : (s : Storage) (at to : Numbers) (w : Option ℕ) → without_number (meant_as s at w) ≡ without_number (meant_as s to w)
same_storage storage.Manifest at to None = refl
same_storage storage.Manifest at to (Some w) = refl
same_storage storage.Static at to w = refl
same_storage storage.Global at to w = refl

pub alike_pending : (s : Storage) {E F : Env} (es : tree.Entries) → Alike E F → Alike (pending s es E) (pending s es F)
alike_pending s tree.no_entries h = h
alike_pending s (tree.entry n k es) h = alike_pending s es (alike_more n (meant_as s any_numbers None) (meant_as s any_numbers None) refl h)

pub alike_entry : {E F : Env} (s : Storage) (at to : Numbers) (n : Name) (k : tree.Exp) → Alike E F → Alike (in_entry s at n k E) (in_entry s to n k F)
alike_entry {E} {F} s at to n k h =
    alike_more n (meant_as s at (constant_in E k)) (meant_as s to (constant_in F k))
    (ap (λ w. without_number (meant_as s at w)) (same_constant_in k h) ∙ same_storage s at to (constant_in F k)) h

alike_entries : (s : Storage) (at to : Numbers) {E F : Env} (es : tree.Entries) → Alike E F → Alike (in_entries s at es E) (in_entries s to es F)
alike_entries s at to tree.no_entries h = h
alike_entries s at to (tree.entry n k es) h = alike_entries s (after_entry s at) (after_entry s to) es (alike_entry s at to n k h)

pub alike_variables : {E F : Env} (ns : List Name) (k l : ℕ) → Alike E F → Alike (variables ns k E) (variables ns l F)
alike_variables [] k l h = h
alike_variables (n ∷ ns) k l h = alike_variables ns (k + 1) (l + 1) (alike_more n (Variable k) (Variable l) refl h)

routine_without : (n : Name) (q : ℕ) (E : Env) (m : Meant) → without_numbers (routine_name m n q E) ≡ routine_name (without_number m) n 0 (without_numbers E)
routine_without n q E (Constant w) = refl
routine_without n q E Pending = refl
routine_without n q E (Static m) = refl
routine_without n q E (Global g) = refl
routine_without n q E (Routine m) = refl
routine_without n q E (Variable k) = refl
routine_without n q E (scope.Label l) = refl
routine_without n q E OuterVariable = refl
routine_without n q E OuterLabel = refl
routine_without n q E StrayVariable = refl
routine_without n q E StrayLabel = refl
routine_without n q E LabelOutside = refl
routine_without n q E Undeclared = refl

without_twice : (m : Meant) → without_number (without_number m) ≡ without_number m
without_twice (Constant w) = refl
without_twice Pending = refl
without_twice (Static m) = refl
without_twice (Global g) = refl
without_twice (Routine m) = refl
without_twice (Variable k) = refl
without_twice (scope.Label l) = refl
without_twice OuterVariable = refl
without_twice OuterLabel = refl
without_twice StrayVariable = refl
without_twice StrayLabel = refl
without_twice LabelOutside = refl
without_twice Undeclared = refl

alike_routine_name : {B C E F : Env} (n : Name) (q r : ℕ) → Alike B C → Alike E F → Alike (routine_name (meant_by B n) n q E) (routine_name (meant_by C n) n r F)
alike_routine_name {B} {C} {E} {F} n q r k h = record {
  same =
      routine_without n q E (meant_by B n)
      ∙ (λ i. routine_name (same_told without_number without_twice n k i) n 0 (h.same i))
      ∙ sym (routine_without n r F (meant_by C n));
}

alike_definition : {B C E F : Env} (at to : Numbers) (k l : ℕ) (d : tree.Definition) → Alike B C → Alike E F → Alike (in_definition B at k d E) (in_definition C to l d F)
alike_definition at to k l (tree.Variables ns es) b h = alike_variables ns k l h
alike_definition at to k l (tree.Vector n c) b h = alike_more n (Variable k) (Variable l) refl h
alike_definition at to k l (tree.Function n ps e) b h = alike_routine_name n at.place to.place b h
alike_definition at to k l (tree.Routine n ps c) b h = alike_routine_name n at.place to.place b h

alike_own : {B C : Env} (ds : tree.Definitions) {E F : Env} → Alike B C → Alike E F → Alike (own_names B ds E) (own_names C ds F)
alike_own tree.no_definitions b h = h
alike_own (tree.definition d ds) b h = alike_own ds b (alike_definition any_numbers any_numbers 0 0 d b h)

pub alike_before_let : {E F : Env} (ds : tree.Definitions) → Alike E F → Alike (before_let ds E) (before_let ds F)
alike_before_let ds h = alike_own ds h h

alike_definitions : {B C : Env} (K L : Env) (at to : Numbers) (k l : ℕ) {E F : Env} (ds : tree.Definitions) → Alike B C → Alike E F → Alike (in_definitions B K at k ds E) (in_definitions C L to l ds F)
alike_definitions K L at to k l tree.no_definitions b h = h
alike_definitions K L at to k l (tree.definition d ds) b h =
    alike_definitions K L (after_definition at d) (after_definition to d) (k + cells_of K d) (l + cells_of L d) ds b (alike_definition at to k l d b h)

pub alike_let : {E F : Env} (at to : Numbers) (s t : ℕ) (ds : tree.Definitions) → Alike E F → Alike (in_let E at s ds) (in_let F to t ds)
alike_let {E} {F} at to s t ds h = alike_definitions (before_let ds E) (before_let ds F) at to s t ds h h

pub alike_declaration : {E F : Env} (at to : Numbers) (s t : ℕ) (d : tree.Declaration) → Alike E F → Alike (in_declaration E at s d) (in_declaration F to t d)
alike_declaration at to s t (tree.Constants k es) h = alike_entries k at to es (alike_pending k es h)
alike_declaration at to s t (tree.Let ds) h = alike_let at to s t ds h

pub alike_declarations : (at to : Numbers) (s t : ℕ) {E F : Env} (ds : tree.Declarations) → Alike E F → Alike (in_declarations E at s ds) (in_declarations F to t ds)
alike_declarations at to s t tree.no_declarations h = h
alike_declarations at to s t {E} {F} (tree.declaration d ds) h =
    alike_declarations (after_declaration at d) (after_declaration to d) (s + cells_in E d) (t + cells_in F d) ds (alike_declaration at to s t d h)

pub alike_for : {E F : Env} (n : Name) (s t : ℕ) → Alike E F → Alike (in_for E n s) (in_for F n t)
alike_for n s t h = alike_more n (Variable s) (Variable t) refl h

alike_label : {E F : Env} (k l : ℕ) (x : tree.Label) → Alike E F → Alike (in_label k x E) (in_label l x F)
alike_label k l (tree.Named n) h = alike_more n (scope.Label k) (scope.Label l) refl h
alike_label k l (tree.Case c) h = h
alike_label k l tree.Default h = h

alike_labels : (k l : ℕ) {E F : Env} (xs : tree.Labels) → Alike E F → Alike (in_labels k xs E) (in_labels l xs F)
alike_labels k l tree.no_labels h = h
alike_labels k l (tree.label x xs) h = alike_labels (k + labels_named x) (l + labels_named x) xs (alike_label k l x h)

alike_item : {E F : Env} (k l : ℕ) (x : tree.Item) → Alike E F → Alike (in_item k x E) (in_item l x F)
alike_item k l (tree.Labelled xs c) h = alike_labels k l xs h
alike_item k l (tree.Labels_alone xs) h = alike_labels k l xs h

pub alike_list : (k l : ℕ) {E F : Env} (is : tree.Items) → Alike E F → Alike (in_list k is E) (in_list l is F)
alike_list k l tree.no_items h = h
alike_list k l (tree.item i is) h = alike_list (k + labels_of_item i) (l + labels_of_item i) is (alike_item k l i h)

around_routine_without : (i : Bool) (m : Meant) → without_number (around_routine i m) ≡ around_routine i (without_number m)
around_routine_without true (Variable k) = refl
around_routine_without true (scope.Label l) = refl
around_routine_without true LabelOutside = refl
around_routine_without false (Variable k) = refl
around_routine_without false (scope.Label l) = refl
around_routine_without false LabelOutside = refl
around_routine_without true (Constant w) = refl
around_routine_without true Pending = refl
around_routine_without true (Static m) = refl
around_routine_without true (Global g) = refl
around_routine_without true (Routine m) = refl
around_routine_without true OuterVariable = refl
around_routine_without true OuterLabel = refl
around_routine_without true StrayVariable = refl
around_routine_without true StrayLabel = refl
around_routine_without true Undeclared = refl
around_routine_without false (Constant w) = refl
around_routine_without false Pending = refl
around_routine_without false (Static m) = refl
around_routine_without false (Global g) = refl
around_routine_without false (Routine m) = refl
around_routine_without false OuterVariable = refl
around_routine_without false OuterLabel = refl
around_routine_without false StrayVariable = refl
around_routine_without false StrayLabel = refl
around_routine_without false Undeclared = refl

around_valof_without : (m : Meant) → without_number (around_valof m) ≡ around_valof (without_number m)
around_valof_without (Constant w) = refl
around_valof_without Pending = refl
around_valof_without (Static m) = refl
around_valof_without (Global g) = refl
around_valof_without (Routine m) = refl
around_valof_without (Variable k) = refl
around_valof_without (scope.Label l) = refl
around_valof_without OuterVariable = refl
around_valof_without OuterLabel = refl
around_valof_without StrayVariable = refl
around_valof_without StrayLabel = refl
around_valof_without LabelOutside = refl
around_valof_without Undeclared = refl

-- a change of meanings may come before or after dropping the numbers
through_without : (f : Meant → Meant) → ((m : Meant) → without_number (f m) ≡ f (without_number m)) → (es : Names)
    → seen_through without_number (seen_through f es) ≡ seen_through f (seen_through without_number es)
through_without f h [] = refl
through_without f h (e ∷ es) = λ i. (e.0, h e.1 i) ∷ through_without f h es i

valof_without : (E : Env) → without_numbers (in_valof E) ≡ in_valof (without_numbers E)
valof_without E = λ i. record E { names = through_without around_valof around_valof_without E.names i }

routine_side_without : (E : Env) → without_numbers (in_routine E) ≡ in_routine (without_numbers E)
routine_side_without E = λ i. record { names = through_without (around_routine E.inside) (around_routine_without E.inside) E.names i; inside = true }

pub alike_valof : {E F : Env} → Alike E F → Alike (in_valof E) (in_valof F)
alike_valof {E} {F} h = record { same = valof_without E ∙ ap in_valof h.same ∙ sym (valof_without F) }

pub alike_parameters : {E F : Env} (ps : List Name) → Alike E F → Alike (in_parameters ps E) (in_parameters ps F)
alike_parameters {E} {F} ps h = alike_variables ps 2 2 (record { same = routine_side_without E ∙ ap in_routine h.same ∙ sym (routine_side_without F) })

-- both are inside a routine, or both outside
pub same_inside : {E F : Env} → Alike E F → E.inside ≡ F.inside
same_inside h = ap (λ (G : Env). G.inside) h.same

-- Levels

same_cells_of : {E F : Env} (d : tree.Definition) → Alike E F → cells_of E d ≡ cells_of F d
same_cells_of (tree.Variables ns es) h = refl
same_cells_of (tree.Vector n k) h = ap (λ w. w + 2) (same_constant k h)
same_cells_of (tree.Function n ps e) h = refl
same_cells_of (tree.Routine n ps b) h = refl

pub same_cells : {E F : Env} (ds : tree.Definitions) → Alike E F → cells_of_all E ds ≡ cells_of_all F ds
same_cells tree.no_definitions h = refl
same_cells (tree.definition d ds) h = λ i. same_cells_of d h i + same_cells ds h i

pub same_cells_in : {E F : Env} (d : tree.Declaration) → Alike E F → cells_in E d ≡ cells_in F d
same_cells_in (tree.Constants k es) h = refl
same_cells_in (tree.Let ds) h = same_cells ds (alike_before_let ds h)

pub same_level : (at to : Numbers) (s t : ℕ) {E F : Env} (ds : tree.Declarations) → s ≡ t → Alike E F → level_after E at s ds ≡ level_after F to t ds
same_level at to s t tree.no_declarations e h = e
same_level at to s t (tree.declaration d ds) e h =
    same_level (after_declaration at d) (after_declaration to d) _ _ ds (λ i. e i + same_cells_in d h i) (alike_declaration at to s t d h)
