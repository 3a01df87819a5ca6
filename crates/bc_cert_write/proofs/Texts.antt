-- The node lines that the program writes for a root are those of its derivation.
use Rattle.std.proofs.Common.{◌≡◌, ℕ, ◌+◌, Option, Some, None, List, [], ◌∷◌, ◌++◌, map, flat_map, get_or, refl, ap, sym, subst, ◌∙◌, arith, append-nil, append_assoc}
use Rattle.std.specs.Fmt.{decimal}
use Rattle.std.specs.Prelude.{true, false}
use Rattle.std.specs.List.{AllZip}
use Rattle.bc_core.specs.Tree.{Exp, Num, Frame, Glob, Place, Load, Neg, Not, Bin, Cond, Call, Valof, Args, no_argument, argument, count, Root, Value, Test, Assign}
use Rattle.bc_core.specs.Level.{side_level}
use Rattle.bc_rules_defs.specs.declared.rule.Table.{Table}
use Rattle.bc_rules_defs.specs.declared.rule.Table.TheVariants.{Two}
use Rattle.bc_rules_defs.specs.declared.rule.Mode.TheVariants.{Any, Push}
use Rattle.bc_rules_defs.specs.declared.rule.Aim.{Aim}
use Rattle.bc_rules_defs.specs.declared.rule.Aim.TheVariants.{Gets, Jumps}
use Rattle.bc_rules_defs.specs.Rules.{RootDerives, value, test, a1, a2, a3, Tree, Trees, root_shape}
use Rattle.bc_select_defs.specs.Least.{AreLeastWords}
use Rattle.bc_select_defs.specs.Nodes.{in_order, all_in_order, root_in_order}
use Rattle.bc_select_defs.specs.Choices.{choices, words_for}
use Rattle.bc_select_defs.proofs.Words.{choices_are_least}
use Rattle.bc_select.specs.declared.row.Row.{Row}
use Rattle.bc_select.specs.Rows.{AreCosts, IsRowOf}
use Rattle.bc_cert_write.specs.declared.chain.Chain.{Chain}
use Rattle.bc_cert_write.specs.declared.chain.Chain.TheVariants as chains
use Rattle.bc_cert_write.specs.declared.mark.NodeMark.{NodeMark}
use Rattle.bc_cert_write.specs.Shown.{root_shown}
use Rattle.bc_cert_write.specs.Lines.{line, rule_name, rules_field, form_field, words_field, node_line, root_line, entry_line, code_line}
use Rattle.bc_cert_write.specs.Walked.{own, mark, rules_of, chain_of, form_of, below_with, all_with, whole_with, root_with}
use Rattle.bc_cert_write.specs.Printed.{form_text, chain_text, mark_line, mark_lines, line_of_root}
use Rattle.bc_rules_defs.specs.Code.{root_code}
use Rattle.bc_rules_defs.specs.Entry.{Entry}
use Rattle.bc_rules_defs.specs.Piece.{words}
use Rattle.bc_rules_defs.specs.declared.piece.Piece.{Piece}
use Rattle.bc_rules.specs.Code.{IsCodeOf}
use Rattle.bc_cert_write.specs.Certificate.{Derived, entry_of, entry_text}
use Rattle.bc_cert_write.specs.Exact.{AddsNodes, IsEntryText}
use Rattle.bc_cert_write.specs.Nodes.{Laid, laid, shown_at, node_at}
use Rattle.bc_cert_write.specs.Laws.{NodesInOrder}
use Rattle.bc_cert_write.proofs.Shapes.{root_nodes_shown}

-- one list of nodes, seen by three functions
map_both : {A B : Type 0} (g : A → B) (xs ys : List A) (us vs : List B) → map g xs ≡ us → map g ys ≡ vs → map g (xs ++ ys) ≡ us ++ vs
map_both g [] ys us vs h i = i ∙ ap (λ l. l ++ vs) h
map_both g (x ∷ xs) ys us vs h i = ap (λ l. g x ∷ l) (map_both g xs ys (map g xs) vs refl i) ∙ ap (λ l. l ++ vs) h

module _ {A B : Type 0} (f : Exp → ℕ → Option Tree → A) (g : A → B) where
  mutual
    seen_below : (e : Exp) (s : ℕ) (y : Option Tree) → map g (below_with f e s y) ≡ below_with (λ e s x. g (f e s x)) e s y
    seen_below (Num n) s y = refl
    seen_below (Frame k) s y = refl
    seen_below (Glob n) s y = refl
    seen_below (Place m) s y = refl
    seen_below (Load e) s y = map_both g _ _ _ _ (seen_below e s _) refl
    seen_below (Neg e) s y = map_both g _ _ _ _ (seen_below e s _) refl
    seen_below (Not e) s y = map_both g _ _ _ _ (seen_below e s _) refl
    seen_below (Bin op a b) s y = map_both g _ _ _ _ (map_both g _ _ _ _ (seen_below a (s + 1) _) refl) (map_both g _ _ _ _ (seen_below b (s + 1) _) refl)
    seen_below (Cond c x z) s y = map_both g _ _ _ _ (map_both g _ _ _ _ (map_both g _ _ _ _ (seen_below c s _) refl) (map_both g _ _ _ _ (seen_below x s _) refl)) (map_both g _ _ _ _ (seen_below z s _) refl)
    seen_below (Call es e) s y = map_both g _ _ _ _ (seen_all es (s + 2) _) (map_both g _ _ _ _ (seen_below e (s + 2 + count es) _) refl)
    seen_below (Valof n) s y = refl

    seen_all : (es : Args) (s : ℕ) (xs : Trees) → map g (all_with f es s xs) ≡ all_with (λ e s x. g (f e s x)) es s xs
    seen_all no_argument s xs = refl
    seen_all (argument e es) s xs = map_both g _ _ _ _ (map_both g _ _ _ _ (seen_below e s _) refl) (seen_all es (s + 1) _)

  seen_whole : (e : Exp) (s : ℕ) (x : Option Tree) → map g (whole_with f e s x) ≡ whole_with (λ e s x. g (f e s x)) e s x
  seen_whole e s x = map_both g _ _ _ _ (seen_below e s (own x)) refl

  pub seen_root : (r : Root) (x : Tree) → map g (root_with f r x) ≡ root_with (λ e s x. g (f e s x)) r x
  seen_root (Value s e) x = seen_whole e s (Some x)
  seen_root (Test s sense e) x = seen_whole e s (Some x)
  seen_root (Assign s v a) x = map_both g _ _ _ _ (seen_whole v (side_level a s) _) (seen_whole a (side_level a s) _)

-- they are the root's nodes in order
two_lists : (xs ys us vs : List (Exp × ℕ)) → xs ≡ us → ys ≡ vs → xs ++ ys ≡ us ++ vs
two_lists xs ys us vs h i = ap (λ l. l ++ ys) h ∙ ap (λ l. us ++ l) i

mutual
  order_whole : (e : Exp) (s : ℕ) (x : Option Tree) → whole_with node_at e s x ≡ in_order e s
  order_whole (Num n) s x = refl
  order_whole (Frame k) s x = refl
  order_whole (Glob n) s x = refl
  order_whole (Place m) s x = refl
  order_whole (Load e) s x = two_lists _ _ _ _ (order_whole e s _) refl
  order_whole (Neg e) s x = two_lists _ _ _ _ (order_whole e s _) refl
  order_whole (Not e) s x = two_lists _ _ _ _ (order_whole e s _) refl
  order_whole (Bin op a b) s x = two_lists _ _ _ _ (two_lists _ _ _ _ (order_whole a (s + 1) _) (order_whole b (s + 1) _)) refl
  order_whole (Cond c y z) s x = two_lists _ _ _ _ (two_lists _ _ _ _ (two_lists _ _ _ _ (order_whole c s _) (order_whole y s _)) (order_whole z s _)) refl
  order_whole (Call es f) s x = two_lists _ _ _ _ (two_lists _ _ _ _ (order_all es (s + 2) _) (order_whole f (s + 2 + count es) _)) refl
  order_whole (Valof n) s x = refl

  order_all : (es : Args) (s : ℕ) (xs : Trees) → all_with node_at es s xs ≡ all_in_order es s
  order_all no_argument s xs = refl
  order_all (argument e es) s xs = two_lists _ _ _ _ (order_whole e s _) (order_all es (s + 1) _)

order_root : (r : Root) (x : Tree) → root_with node_at r x ≡ root_in_order r
order_root (Value s e) x = order_whole e s (Some x)
order_root (Test s sense e) x = order_whole e s (Some x)
order_root (Assign s v a) x = two_lists _ _ _ _ (order_whole v (side_level a s) _) (order_whole a (side_level a s) _)

-- least words are unique
least_unique : (T : Table) (e : Exp) (aim : Aim) (s : ℕ) (x y : Option ℕ) → AreLeastWords T e aim s x → AreLeastWords T e aim s y → x ≡ y
least_unique T e aim s None None h k = refl
least_unique T e aim s None (Some n) h k = absurd (h k.0.0)
least_unique T e aim s (Some n) None h k = absurd (k h.0.0)
least_unique T e aim s (Some n) (Some m) h k =
    let a = h.1 k.0.0 in let b = k.1 h.0.0 in let p = h.0.1 in let q = k.0.1 in
    let same : n ≡ m = omega arith in ap (λ i. Some i) same

cost_is : (e : Exp) (s : ℕ) (aim : Aim) (x : Option ℕ) → AreLeastWords Two e aim s x → x ≡ words_for aim (choices Two e s)
cost_is e s aim x h = least_unique Two e aim s x _ h (choices_are_least Two e aim s).0

record Costs (e : Exp) (s : ℕ) (cs : List (Option ℕ)) : Type 0 where
  any : get_or cs 0 None ≡ words_for (Gets Any) (choices Two e s)
  push : get_or cs 1 None ≡ words_for (Gets Push) (choices Two e s)
  on_false : get_or cs 2 None ≡ words_for (Jumps false) (choices Two e s)
  on_true : get_or cs 3 None ≡ words_for (Jumps true) (choices Two e s)

costs_are : (e : Exp) (s : ℕ) (cs : List (Option ℕ)) → AreCosts e s cs → Costs e s cs
costs_are e s (a ∷ b ∷ c ∷ d ∷ []) h = record { any = cost_is e s (Gets Any) a h.0; push = cost_is e s (Gets Push) b h.1; on_false = cost_is e s (Jumps false) c h.2; on_true = cost_is e s (Jumps true) d h.3 }
costs_are e s [] h = absurd h
costs_are e s (a ∷ []) h = absurd h
costs_are e s (a ∷ b ∷ []) h = absurd h
costs_are e s (a ∷ b ∷ c ∷ []) h = absurd h
costs_are e s (a ∷ b ∷ c ∷ d ∷ f ∷ cs) h = absurd h

-- the fields of a node line
form_is : (e : Exp) → form_text (form_of e) ≡ form_field e
form_is (Num n) = refl
form_is (Frame k) = refl
form_is (Glob n) = refl
form_is (Place m) = refl
form_is (Load e) = refl
form_is (Neg e) = refl
form_is (Not e) = refl
form_is (Bin op a b) = refl
form_is (Cond c x y) = refl
form_is (Call es f) = refl
form_is (Valof n) = refl

rules_are : (c : Chain) → chain_text c ≡ rules_field (rules_of c)
rules_are chains.Nothing = refl
rules_are (chains.One r) = sym (append-nil (rule_name r))
rules_are (chains.Two r q) = ap (λ l. rule_name r ++ 46 ∷ l) (sym (append-nil (rule_name q)))
rules_are (chains.Three r q p) =
    append_assoc (rule_name r) (46 ∷ rule_name q) (46 ∷ rule_name p)
    ∙ ap (λ l. rule_name r ++ 46 ∷ (rule_name q ++ 46 ∷ l)) (sym (append-nil (rule_name p)))

fields_are : (n a u r v : List ℕ) (x y z w x1 y1 z1 w1 : Option ℕ) → a ≡ u → x ≡ x1 → y ≡ y1 → z ≡ z1 → w ≡ w1 → r ≡ v
    → line n (a ∷ words_field x ∷ words_field y ∷ words_field z ∷ words_field w ∷ r ∷ []) ≡ line n (u ∷ words_field x1 ∷ words_field y1 ∷ words_field z1 ∷ words_field w1 ∷ v ∷ [])
fields_are n a u r v x y z w x1 y1 z1 w1 h i j k l m =
    ap (λ t. line n (t ∷ words_field x ∷ words_field y ∷ words_field z ∷ words_field w ∷ r ∷ [])) h
    ∙ ap (λ t. line n (u ∷ words_field t ∷ words_field y ∷ words_field z ∷ words_field w ∷ r ∷ [])) i
    ∙ ap (λ t. line n (u ∷ words_field x1 ∷ words_field t ∷ words_field z ∷ words_field w ∷ r ∷ [])) j
    ∙ ap (λ t. line n (u ∷ words_field x1 ∷ words_field y1 ∷ words_field t ∷ words_field w ∷ r ∷ [])) k
    ∙ ap (λ t. line n (u ∷ words_field x1 ∷ words_field y1 ∷ words_field z1 ∷ words_field t ∷ r ∷ [])) l
    ∙ ap (λ t. line n (u ∷ words_field x1 ∷ words_field y1 ∷ words_field z1 ∷ words_field w1 ∷ t ∷ [])) m

line_is : (e : Exp) (s : ℕ) (x : Option Tree) (row : Row) → IsRowOf (e, s) row → mark_line (mark e s x) row ≡ node_line Two (shown_at e s x)
line_is e s x row h =
    let c = costs_are e s row.costs h.costs in
    fields_are (decimal s) _ _ _ _ _ _ _ _ _ _ _ _ (form_is e) c.any c.push c.on_false c.on_true (rules_are (chain_of x))

lines_are : (ns : List Laid) (rows : List Row) → AllZip IsRowOf (map (λ n. node_at n.expression n.level n.tree) ns) rows
    → mark_lines (map (λ n. mark n.expression n.level n.tree) ns) rows ≡ flat_map (node_line Two) (map (λ n. shown_at n.expression n.level n.tree) ns)
lines_are [] [] h = refl
lines_are [] (r ∷ rows) h = absurd h
lines_are (n ∷ ns) [] h = absurd h
lines_are (n ∷ ns) (r ∷ rows) h =
    ap (λ l. l ++ mark_lines (map (λ n. mark n.expression n.level n.tree) ns) rows) (line_is n.expression n.level n.tree r h.0)
    ∙ ap (λ l. node_line Two (shown_at n.expression n.level n.tree) ++ l) (lines_are ns rows h.1)

pub node_lines_are : {T : Table} {r : Root} (d : RootDerives T r) (rows : List Row) → AllZip IsRowOf (root_in_order r) rows → mark_lines (root_with mark r (root_shape d)) rows ≡ flat_map (node_line Two) (root_shown d)
node_lines_are {r = r} d rows h =
    let x = root_shape d in
    let order : map (λ n. node_at n.expression n.level n.tree) (root_with laid r x) ≡ root_in_order r = seen_root laid (λ n. node_at n.expression n.level n.tree) r x ∙ order_root r x in
    ap (λ l. mark_lines l rows) (sym (seen_root laid (λ n. mark n.expression n.level n.tree) r x))
    ∙ lines_are (root_with laid r x) rows (subst (λ l. AllZip IsRowOf l rows) (sym order) h)
    ∙ ap (flat_map (node_line Two)) (seen_root laid (λ n. shown_at n.expression n.level n.tree) r x ∙ root_nodes_shown d)

pub root_line_is : {T : Table} {r : Root} (d : RootDerives T r) → line_of_root r (root_shape d) ≡ root_line d
root_line_is (value d) = refl
root_line_is (test d) = refl
root_line_is (a1 h v) = refl
root_line_is (a2 h free a v) = refl
root_line_is (a3 h v a) = refl

pub nodes_added : (r : Root) (x : Tree) (rows : List Row) (marks : List NodeMark) (old new : List ℕ) → AllZip IsRowOf (root_in_order r) rows → marks ≡ root_with mark r x → new ≡ old ++ mark_lines marks rows → AddsNodes r x old new
nodes_added r x rows marks old new h i j = record {
  exact = λ T d e.
      j ∙ ap (λ l. old ++ mark_lines l rows) (i ∙ ap (root_with mark r) (sym e))
      ∙ ap (λ l. old ++ l) (node_lines_are d rows h);
}

-- the lines of an entry, one after another
four : (t0 t1 t2 t3 t4 a b c d : List ℕ) → t0 ≡ [] → t1 ≡ t0 ++ a → t2 ≡ t1 ++ b → t3 ≡ t2 ++ c → t4 ≡ t3 ++ d → t4 ≡ a ++ (b ++ (c ++ d))
four t0 t1 t2 t3 t4 a b c d h i j k l =
    l ∙ ap (λ t. t ++ d) (k ∙ ap (λ t. t ++ c) (j ∙ ap (λ t. t ++ b) (i ∙ ap (λ t. t ++ a) h))) ∙ simp append_assoc

pub text_of_derived : (d : Derived) (pieces : List Piece) (n : ℕ) (t0 t1 t2 t3 t4 : List ℕ)
    → IsCodeOf d.root (root_shape d.derivation) d.target d.first pieces → n ≡ words pieces → t0 ≡ []
    → t1 ≡ t0 ++ entry_line d.segment d.item d.target d.first n → AddsNodes d.root (root_shape d.derivation) t1 t2
    → t3 ≡ t2 ++ line_of_root d.root (root_shape d.derivation) → t4 ≡ t3 ++ code_line pieces d.bodies → t4 ≡ entry_text d
text_of_derived d pieces n t0 t1 t2 t3 t4 code h z i j k l =
    let same : pieces ≡ root_code d.derivation d.target d.first = code.exact Two d.derivation refl in
    four t0 t1 t2 t3 t4 _ _ _ _ z
    (i ∙ ap (λ m. t0 ++ entry_line d.segment d.item d.target d.first m) (h ∙ ap words same))
    (j.exact Two d.derivation refl)
    (k ∙ ap (λ m. t2 ++ m) (root_line_is d.derivation))
    (l ∙ ap (λ m. t3 ++ code_line m d.bodies) same)

pub text_of_entry : (e : Entry) (pieces : List Piece) (n : ℕ) (t0 t1 t2 t3 t4 : List ℕ)
    → IsCodeOf e.root e.derivation e.target e.first pieces → n ≡ words pieces → t0 ≡ []
    → t1 ≡ t0 ++ entry_line e.segment e.item e.target e.first n → AddsNodes e.root e.derivation t1 t2
    → t3 ≡ t2 ++ line_of_root e.root e.derivation → t4 ≡ t3 ++ code_line pieces e.bodies → IsEntryText e t4
text_of_entry e pieces n t0 t1 t2 t3 t4 code h z i j k l = record { exact = λ d same. from_entry d e same code i j k l } where
  from_entry : (d : Derived) → (e : Entry) → e ≡ entry_of d → IsCodeOf e.root e.derivation e.target e.first pieces
      → t1 ≡ t0 ++ entry_line e.segment e.item e.target e.first n → AddsNodes e.root e.derivation t1 t2
      → t3 ≡ t2 ++ line_of_root e.root e.derivation → t4 ≡ t3 ++ code_line pieces e.bodies → t4 ≡ entry_text d
  from_entry d e same =
      let P : Entry → Type 0 = λ e. IsCodeOf e.root e.derivation e.target e.first pieces → t1 ≡ t0 ++ entry_line e.segment e.item e.target e.first n → AddsNodes e.root e.derivation t1 t2 → t3 ≡ t2 ++ line_of_root e.root e.derivation → t4 ≡ t3 ++ code_line pieces e.bodies → t4 ≡ entry_text d in
      subst P (sym same) (λ code i j k l. text_of_derived d pieces n t0 t1 t2 t3 t4 code h z i j k l)

-- the lines are those of the root's nodes
pub nodes_in_order : NodesInOrder
nodes_in_order T r d =
    ap (map (λ n. (n.expression, n.level))) (sym (root_nodes_shown d))
    ∙ seen_root shown_at (λ n. (n.expression, n.level)) r (root_shape d) ∙ order_root r (root_shape d)
