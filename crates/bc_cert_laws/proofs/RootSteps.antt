-- The checker's step at a root line agrees with the relations.
use Rattle.std.proofs.Common.{◌≡◌, ℕ, ◌+◌, ◌*◌, ◌==◌, ◌≤◌, ◌<◌, Bool, true, false, cond, List, [], ◌∷◌, ◌++◌, Option, Some, None, Result, Ok, Err, refl, ap, sym, subst, ◌∙◌, append-nil, arith, IsTrue}
use Rattle.std.specs.Prelude.{◌&&◌}
use Rattle.std.specs.Fmt.{decimal}
use Rattle.std.proofs.lemmas.Bool.{eqb-true, and_parts}
use Rattle.std.proofs.lemmas.Fmt.{decimal_digit}
use Rattle.bc_cert_defs.specs.declared.check_fault.CheckFault.{CheckFault}
use Rattle.bc_cert_defs.specs.declared.check_fault.CheckFault.TheVariants as faults
use Rattle.bc_core.specs.declared.operands.Operand.{Operand}
use Rattle.bc_core.specs.Tree.{Exp, Root, Value, Test, Assign}
use Rattle.bc_core.specs.Operand.{operand_of}
use Rattle.bc_core.specs.Level.{side_level}
use Rattle.bc_rules_defs.specs.declared.rule.Table.{Table}
use Rattle.bc_rules_defs.specs.declared.rule.Mode.TheVariants.{Any}
use Rattle.bc_rules_defs.specs.declared.rule.Aim.{Aim}
use Rattle.bc_rules_defs.specs.declared.rule.Aim.TheVariants.{Gets, Jumps}
use Rattle.bc_rules_defs.specs.declared.rule.Rule.{Rule}
use Rattle.bc_rules_defs.specs.declared.rule.Rule.TheVariants.{A1, A2, A3}
use Rattle.bc_rules_defs.specs.Free.{are_free}
use Rattle.bc_rules_defs.specs.Rules.{Derives, RootDerives, value, test, a1, a2, a3, Tree, by, one, two, shape, root_shape}
use Rattle.bc_rules_defs.specs.Code.{cost, root_cost}
use Rattle.bc_rules_defs.specs.Piece.{w, operand_words}
use Rattle.bc_cert_defs.specs.declared.costs.Costs.{Costs}
use Rattle.bc_cert_read.specs.declared.facts.Facts.{Facts}
use Rattle.bc_cert_read.specs.Costs.{cost_of}
use Rattle.bc_cert_read.specs.Parts.{AreLeast, IsPart}
use Rattle.bc_cert_read.specs.Recipe.{words_of_operand, free}
use Rattle.bc_select_defs.specs.Nodes.{in_order}
use Rattle.bc_cert_write.specs.Shown.{Shown, shown, bare}
use Rattle.bc_cert_write.specs.Lines.{line}
use Rattle.bc_cert_read.specs.declared.lines.RootLine.{RootLine}
use Rattle.bc_cert_read.specs.declared.lines.RootLine.TheVariants as lines
use Rattle.bc_cert_read.specs.declared.mark.TreeFacts.{TreeFacts}
use Rattle.bc_cert_read.specs.declared.position.Position.{Position}
use Rattle.bc_cert_read.specs.Marks.{has_aim}
use Rattle.bc_cert_read.specs.Sides.{words_at, words_by, least_of, same}
use Rattle.bc_cert_read.specs.Stacks.{◌>>=◌, Stack, with_whole, One, one_among, one_tree, two_among, two_trees, Rooted, wrong_rule, value_root, test_root, words_on, side, sides_show, assigned, with_least, assign_root, root_step}
use Rattle.bc_cert_laws.specs.Entries.{IsLevel}
use Rattle.bc_cert_laws.specs.Faults.{Grown, all_shown, IsAssignment, first, second, third, RootStands}
use Rattle.bc_cert_laws.specs.Standing.{root_text, RootLineIsSmall, IsFewest, Stands}
use Rattle.bc_cert_laws.proofs.Over.{some_same}
use Rattle.bc_cert_laws.proofs.Results.{err_same, passed, both_true, equal_true}
use Rattle.bc_cert_laws.proofs.Sides.{sides_least, least_is_cost, cost_is_least, side_is, level_of_operand, level_of_none, words_are, free_is}
use Rattle.bc_cert_laws.proofs.CodeSteps.{rooted_by}
use Rattle.bc_cert_laws.proofs.Kept.{cut}
use Rattle.bc_cert_laws.proofs.Parts.{counted_of, shown_order}
use Rattle.bc_cert_laws.proofs.Keeping.{StackStands, Kept, nothing, further, kept}

abbrev pub OneStands : Table → Grown → One → Type 0
OneStands T t o = Stands T t o.mark o.facts o.expression o.derivation

-- the root that a root line says of trees
pub data IsRootOf : RootLine → List Grown → Root → Type 0 where
  of_value : {t : Grown} → IsRootOf lines.Value (t ∷ []) (Value t.level t.expression)
  of_test : {t : Grown} {sense : Bool} → IsRootOf (lines.Test sense) (t ∷ []) (Test t.level sense t.expression)
  of_assignment : {v a : Grown} {s : ℕ} {r : Rule} → IsAssignment r → IsLevel s → v.level ≡ side_level a.expression s → a.level ≡ side_level a.expression s → IsRootOf (lines.Assign r s) (v ∷ a ∷ []) (Assign s v.expression a.expression)

-- one tree, and two
data OneOf (T : Table) : List Grown → Option One → Type 0 where
  just_one : {t : Grown} {o : One} → OneStands T t o → OneOf T (t ∷ []) (Some o)
  not_one : {ts : List Grown} → ((t : Grown) → ¬ (ts ≡ t ∷ [])) → OneOf T ts None

one_of : {T : Table} {ts : List Grown} {ms : List TreeFacts} {fs : List Facts} {es : List Exp} {xs : List Tree} → Kept T ts ms fs es xs → OneOf T ts (one_among ms fs es xs)
one_of nothing = not_one (λ t i. cc)
one_of (further a nothing) = just_one a
one_of (further a (further b rest)) = not_one (λ t i. cc)

data TwoOf (T : Table) : List Grown → Option (One × One) → Type 0 where
  just_two : {t u : Grown} {q : One × One} → OneStands T t q.0 → OneStands T u q.1 → TwoOf T (t ∷ u ∷ []) (Some q)
  not_two : {ts : List Grown} → ((t u : Grown) → ¬ (ts ≡ t ∷ u ∷ [])) → TwoOf T ts None

two_of : {T : Table} {ts : List Grown} {ms : List TreeFacts} {fs : List Facts} {es : List Exp} {xs : List Tree} → Kept T ts ms fs es xs → TwoOf T ts (two_among ms fs es xs)
two_of nothing = not_two (λ t u i. cc)
two_of (further a nothing) = not_two (λ t u i. cc)
two_of (further a (further b nothing)) = just_two a b
two_of (further a (further b (further c rest))) = not_two (λ t u i. cc)

-- the words of a derivation of least words
least_cost : {T : Table} {e : Exp} {aim : Aim} (s n : ℕ) (c : Costs) (d : Derives T e aim) → AreLeast T e s c → cost_of aim c ≡ Some n → IsFewest d s → cost d s ≡ n
least_cost s n c d h i k = some_same (sym (counted_of h d k) ∙ i)

-- A root with true trees, and the derivation that their lines show.
pub record RootRight (T : Table) (rl : RootLine) (ts : List Grown) : Type 0 where
  pub root : Root
  pub over : IsRootOf rl ts root
  pub derivation : RootDerives T root
  pub stands : RootStands T root (all_shown ts) (root_text rl) derivation

-- the fault of a root line
pub data RootWrong (rl : RootLine) (ts : List Grown) (p : Position) : CheckFault → Type 0 where
  no_derivation : {r : Root} → IsRootOf rl ts r → RootWrong rl ts p (faults.WrongRule p.entry p.node)
  no_root : ((r : Root) → ¬ IsRootOf rl ts r) → RootWrong rl ts p (faults.Line p.line)

rooted_same : {q r : Root} {x y : Tree} {m n : ℕ} → q ≡ r → x ≡ y → m ≡ n → ◌≡◌ {A = Result Rooted CheckFault} (Ok (record { root = q; derivation = x; words = m })) (Ok (record { root = r; derivation = y; words = n }))
rooted_same h i j = cc

value_same : {s l : ℕ} {e f : Exp} → s ≡ l → e ≡ f → Value s e ≡ Value l f
value_same h i = cc

test_same : {s l : ℕ} {e f : Exp} (sense : Bool) → s ≡ l → e ≡ f → Test s sense e ≡ Test l sense f
test_same sense h i = cc

fewest_value : {T : Table} {e : Exp} (s : ℕ) (d : Derives T e (Gets Any)) → ((other : RootDerives T (Value s e)) → cost d s ≤ root_cost other) → IsFewest d s
fewest_value s d h other = h (value other)

fewest_test : {T : Table} {e : Exp} (s : ℕ) (sense : Bool) (d : Derives T e (Jumps sense)) → ((other : RootDerives T (Test s sense e)) → cost d s ≤ root_cost other) → IsFewest d s
fewest_test s sense d h other = h (test other)

root_of_value : {T : Table} {e : Exp} (s : ℕ) (d : Derives T e (Gets Any)) → IsFewest d s → (other : RootDerives T (Value s e)) → cost d s ≤ root_cost other
root_of_value s d h (value other) = h other

root_of_test : {T : Table} {e : Exp} (s : ℕ) (sense : Bool) (d : Derives T e (Jumps sense)) → IsFewest d s → (other : RootDerives T (Test s sense e)) → cost d s ≤ root_cost other
root_of_test s sense d h (test other) = h other

words_on_is : (sense : Bool) (f : Facts) → cost_of (Jumps sense) f.costs ≡ Some (words_on sense f)
words_on_is true f = refl
words_on_is false f = refl

refused_so : {A : Type 0} (b : Bool) (x : A) (e f : CheckFault) → ◌≡◌ {A = Result A CheckFault} (cond b (Ok x) (Err e)) (Err f) → e ≡ f
refused_so true x e f h = cc
refused_so false x e f h = err_same h

-- a value
value_made : {T : Table} (t : Grown) (o : One) (p : Position) → OneStands T t o → (d : Derives T t.expression (Gets Any)) → t.shown ≡ shown d t.level → IsFewest d t.level → value_root p o ≡ Ok (rooted_by (value {s = t.level} d))
value_made t o p h d i k =
    let has = h.has (Gets Any) d i k in
    ap (λ b. cond b (Ok (record { root = Value o.mark.level o.expression; derivation = o.derivation; words = o.facts.costs.any })) (wrong_rule p)) has.0
    ∙ rooted_same (value_same h.level h.expression) (sym has.1) (sym (least_cost t.level o.facts.costs.any o.facts.costs d h.part.costs refl k))

value_right : {T : Table} (t : Grown) (o : One) (p : Position) (y : Rooted) → OneStands T t o → (b : Bool) → has_aim o.mark.shown (Gets Any) ≡ b → cond b (Ok (record { root = Value o.mark.level o.expression; derivation = o.derivation; words = o.facts.costs.any })) (wrong_rule p) ≡ Ok y
    → RootRight T lines.Value (t ∷ [])
value_right t o p y h true i k =
    let s = h.shows (Gets Any) i in
    record {
      root = Value t.level t.expression;
      over = of_value;
      derivation = value {s = t.level} s.derivation;
      stands = record { shown = append-nil t.shown ∙ s.shown; is = refl; fewest = root_of_value t.level s.derivation s.fewest };
    }
value_right t o p y h false i k = cc

-- a test
test_made : {T : Table} (sense : Bool) (t : Grown) (o : One) (p : Position) → OneStands T t o → (d : Derives T t.expression (Jumps sense)) → t.shown ≡ shown d t.level → IsFewest d t.level → test_root sense p o ≡ Ok (rooted_by (test {s = t.level} d))
test_made sense t o p h d i k =
    let has = h.has (Jumps sense) d i k in
    ap (λ b. cond b (Ok (record { root = Test o.mark.level sense o.expression; derivation = o.derivation; words = words_on sense o.facts })) (wrong_rule p)) has.0
    ∙ rooted_same (test_same sense h.level h.expression) (sym has.1) (sym (least_cost t.level (words_on sense o.facts) o.facts.costs d h.part.costs (words_on_is sense o.facts) k))

test_right : {T : Table} (sense : Bool) (t : Grown) (o : One) (p : Position) (y : Rooted) → OneStands T t o → (b : Bool) → has_aim o.mark.shown (Jumps sense) ≡ b → cond b (Ok (record { root = Test o.mark.level sense o.expression; derivation = o.derivation; words = words_on sense o.facts })) (wrong_rule p) ≡ Ok y
    → RootRight T (lines.Test sense) (t ∷ [])
test_right sense t o p y h true i k =
    let s = h.shows (Jumps sense) i in
    record {
      root = Test t.level sense t.expression;
      over = of_test;
      derivation = test {s = t.level} s.derivation;
      stands = record { shown = append-nil t.shown ∙ s.shown; is = refl; fewest = root_of_test t.level sense s.derivation s.fewest };
    }
test_right sense t o p y h false i k = cc

-- an assignment: where its sides are at its level, with the words of the rule
record SidesStand (T : Table) (s : ℕ) (v a : Grown) (q : One × One) : Type 0 where
  value : OneStands T v q.0
  address : OneStands T a q.1
  value_level : v.level ≡ side_level a.expression s
  address_level : a.level ≡ side_level a.expression s

levels_hold : {T : Table} (s : ℕ) (v a : Grown) (q : One × One) → SidesStand T s v a q → (q.0.mark.level == side q.1.facts.operand s && q.1.mark.level == side q.1.facts.operand s) ≡ true
levels_hold s v a q h =
    let at = side_is s h.address.part in
    both_true _ _ (equal_true _ _ (h.value.level ∙ h.value_level ∙ sym at)) (equal_true _ _ (h.address.level ∙ h.address_level ∙ sym at))

levels_are : {T : Table} (s : ℕ) (v a : Grown) (q : One × One) → OneStands T v q.0 → OneStands T a q.1 → (q.0.mark.level == side q.1.facts.operand s && q.1.mark.level == side q.1.facts.operand s) ≡ true → SidesStand T s v a q
levels_are s v a q h i k =
    let at = side_is s i.part in
    let parts = and_parts _ _ k in
    record { value = h; address = i; value_level = sym h.level ∙ eqb-true _ _ parts.0 ∙ at; address_level = sym i.level ∙ eqb-true _ _ parts.1 ∙ at }

same_some : (x y : Option ℕ) (n : ℕ) → x ≡ Some n → y ≡ Some n → same x y ≡ Some n
same_some None y n h i = cc
same_some (Some m) None n h i = cc
same_some (Some m) (Some k) n h i = at (m == k) (equal_true m k (some_same (h ∙ sym i))) where
  at : (b : Bool) → b ≡ true → cond b (Some k) None ≡ Some n
  at true j = i
  at false j = cc

same_are : (x y : Option ℕ) (n : ℕ) → same x y ≡ Some n → (x ≡ Some n) × (y ≡ Some n)
same_are None None n h = cc
same_are None (Some m) n h = cc
same_are (Some k) None n h = cc
same_are (Some k) (Some m) n h = at (k == m) refl h where
  at : (b : Bool) → (k == m) ≡ b → cond b (Some m) None ≡ Some n → (◌≡◌ {A = Option ℕ} (Some k) (Some n)) × (◌≡◌ {A = Option ℕ} (Some m) (Some n))
  at true i j = (ap (λ z. Some z) (eqb-true k m i) ∙ j, j)
  at false i j = cc

assign_same : {s : ℕ} {e f g h : Exp} → e ≡ f → g ≡ h → Assign s e g ≡ Assign s f h
assign_same i j = cc

abbrev assigned_so : Rule → ℕ → One × One → ℕ → Rooted
assigned_so r s q n = record { root = Assign s q.0.expression q.1.expression; derivation = assigned r q.0.derivation q.1.derivation; words = n }

-- a derivation of least words, with the words of the rule, is that of the step
assign_made : {T : Table} (r : Rule) (s : ℕ) (v a : Grown) (q : One × One) (p : Position) → SidesStand T s v a q → (d : RootDerives T (Assign s v.expression a.expression)) → ((other : RootDerives T (Assign s v.expression a.expression)) → root_cost d ≤ root_cost other)
    → words_by s q.0.facts q.1.facts r ≡ Some (root_cost d) → sides_show r q.0.mark q.1.mark ≡ true → assigned r q.0.derivation q.1.derivation ≡ root_shape d → assign_root r s p q ≡ Ok (rooted_by d)
assign_made {T = T} r s v a q p h d fewest by_rule shows shape_is =
    let vp = subst (λ l. IsPart T v.expression l q.0.facts) h.value_level h.value.part in
    let address = subst (λ l. IsPart T a.expression l q.1.facts) h.address_level h.address.part in
    let least : least_of s q.0.facts q.1.facts ≡ Some (root_cost d) = sides_least v.expression a.expression s vp address ∙ ap (λ n. Some n) (least_is_cost d fewest) in
    ap (λ b. cond b (with_least r s p q.0 q.1 (same (words_by s q.0.facts q.1.facts r) (least_of s q.0.facts q.1.facts))) (Err (faults.Line p.line))) (levels_hold s v a q h)
    ∙ ap (λ o. with_least r s p q.0 q.1 o) (same_some _ _ (root_cost d) by_rule least)
    ∙ ap (λ b. cond b (Ok (assigned_so r s q (root_cost d))) (wrong_rule p)) shows
    ∙ rooted_same (assign_same h.value.expression h.address.expression) shape_is refl

-- what a side's lines show, at the level of the sides
record SideShows (T : Table) (t : Grown) (o : One) (k : ℕ) (x : Derives T t.expression (Gets Any)) : Type 0 where
  aim : has_aim o.mark.shown (Gets Any) ≡ true
  shape_is : o.derivation ≡ shape x
  words : o.facts.costs.any ≡ cost x k

side_shows : {T : Table} (t : Grown) (o : One) (k : ℕ) (x : Derives T t.expression (Gets Any)) → OneStands T t o → t.level ≡ k → t.shown ≡ shown x k → IsFewest x k → SideShows T t o k x
side_shows {T = T} t o k x h l = subst (λ k. t.shown ≡ shown x k → IsFewest x k → SideShows T t o k x) l (λ i j. let has = h.has (Gets Any) x i j in record { aim = has.0; shape_is = sym has.1; words = sym (least_cost t.level o.facts.costs.any o.facts.costs x h.part.costs refl j) })

record SideFrom (T : Table) (t : Grown) (k : ℕ) : Type 0 where
  derivation : Derives T t.expression (Gets Any)
  is_shown : t.shown ≡ shown derivation k
  fewest : IsFewest derivation k

side_from : {T : Table} (t : Grown) (o : One) (k : ℕ) → OneStands T t o → t.level ≡ k → has_aim o.mark.shown (Gets Any) ≡ true → SideFrom T t k
side_from {T = T} t o k h l i = let s = h.shows (Gets Any) i in subst (SideFrom T t) l (record { derivation = s.derivation; is_shown = s.shown; fewest = s.fewest })

shown_parted : {T : Table} (v a : Grown) (o : One) (k : ℕ) (x : Derives T v.expression (Gets Any)) (ys : List Shown) → OneStands T v o → v.level ≡ k → all_shown (v ∷ a ∷ []) ≡ shown x k ++ ys → (v.shown ≡ shown x k) × (a.shown ≡ ys)
shown_parted v a o k x ys h l i = cut v.shown a.shown (shown x k) ys (h.order ∙ ap (λ n. in_order v.expression n) l ∙ sym (shown_order (Gets Any) x k)) (ap (λ z. v.shown ++ z) (sym (append-nil a.shown)) ∙ i)

shown_joined : (v a : Grown) (xs ys : List Shown) → v.shown ≡ xs → a.shown ≡ ys → all_shown (v ∷ a ∷ []) ≡ xs ++ ys
shown_joined v a xs ys h i = ap (λ z. v.shown ++ z) (append-nil a.shown ∙ i) ∙ ap (λ z. z ++ ys) h

-- the words of each rule
first_words : {T : Table} {v a : Exp} {k l : ℕ} {f g : Facts} (s m : ℕ) (o : Operand) → operand_of a ≡ Some o → IsPart T v k f → IsPart T a l g → f.costs.any ≡ m → words_by s f g A1 ≡ Some (m + operand_words o)
first_words {f = f} {g = g} s m o h i j words = words_are s A1 i j ∙ ap (λ p. words_at (words_of_operand p) s f g A1) h ∙ ap (λ n. Some (n + operand_words o)) words

second_words : {T : Table} {v a : Exp} {k l : ℕ} {f g : Facts} (s m n : ℕ) → operand_of a ≡ None → are_free v a ≡ true → IsPart T v k f → IsPart T a l g → f.costs.any ≡ m → g.costs.any ≡ n → words_by s f g A2 ≡ Some (n + m + 2 * w s)
second_words {f = f} {g = g} s m n h is_free i j value_words address_words =
    words_are s A2 i j ∙ ap (λ p. words_at (words_of_operand p) s f g A2) h ∙ ap (λ b. cond b (Some (g.costs.any + f.costs.any + 2 * w s)) None) (free_is i j ∙ is_free)
    ∙ ap (λ x. Some (x + f.costs.any + 2 * w s)) address_words ∙ ap (λ x. Some (n + x + 2 * w s)) value_words

third_words : {T : Table} {v a : Exp} {k l : ℕ} {f g : Facts} (s m n : ℕ) → operand_of a ≡ None → IsPart T v k f → IsPart T a l g → f.costs.any ≡ m → g.costs.any ≡ n → words_by s f g A3 ≡ Some (m + n + (2 * w s + 2 * w (s + 1)))
third_words {f = f} {g = g} s m n h i j value_words address_words =
    words_are s A3 i j ∙ ap (λ p. words_at (words_of_operand p) s f g A3) h
    ∙ ap (λ x. Some (x + g.costs.any + (2 * w s + 2 * w (s + 1)))) value_words ∙ ap (λ x. Some (m + x + (2 * w s + 2 * w (s + 1)))) address_words

-- each rule, from its derivation
first_made : {T : Table} (s : ℕ) (v a : Grown) (q : One × One) (p : Position) (o : Operand) (h : operand_of a.expression ≡ Some o) (x : Derives T v.expression (Gets Any)) → SidesStand T s v a q → all_shown (v ∷ a ∷ []) ≡ shown x s ++ bare a.expression s
    → ((other : RootDerives T (Assign s v.expression a.expression)) → root_cost (a1 {s = s} {a = a.expression} h x) ≤ root_cost other) → assign_root A1 s p q ≡ Ok (rooted_by (a1 {s = s} {a = a.expression} h x))
first_made {T = T} s v a q p o h x sides nodes fewest =
    let at = level_of_operand a.expression o s h in
    let cut = shown_parted v a q.0 s x (bare a.expression s) sides.value (sides.value_level ∙ at) nodes in
    let least : IsFewest x s = λ other. let k = fewest (a1 {s = s} {a = a.expression} h other) in omega (arith, k) in
    let side = side_shows v q.0 s x sides.value (sides.value_level ∙ at) cut.0 least in
    let is_bare : q.1.mark.is_bare ≡ true = sides.address.bare_from (cut.1 ∙ ap (λ l. bare a.expression l) (sym (sides.address_level ∙ at))) in
    assign_made A1 s v a q p sides (a1 {s = s} {a = a.expression} h x) fewest (first_words s (cost x s) o h sides.value.part sides.address.part side.words) (both_true _ _ side.aim is_bare) (ap (λ t. by A1 (one t)) side.shape_is)

second_made : {T : Table} (s : ℕ) (v a : Grown) (q : One × One) (p : Position) (h : operand_of a.expression ≡ None) (is_free : IsTrue (are_free v.expression a.expression)) (y : Derives T a.expression (Gets Any)) (x : Derives T v.expression (Gets Any)) → SidesStand T s v a q
    → all_shown (v ∷ a ∷ []) ≡ shown x (s + 1) ++ shown y (s + 1) → ((other : RootDerives T (Assign s v.expression a.expression)) → root_cost (a2 {s = s} {a = a.expression} h is_free y x) ≤ root_cost other) → assign_root A2 s p q ≡ Ok (rooted_by (a2 {s = s} {a = a.expression} h is_free y x))
second_made {T = T} s v a q p h is_free y x sides nodes fewest =
    let at = level_of_none a.expression s h in
    let cut = shown_parted v a q.0 (s + 1) x (shown y (s + 1)) sides.value (sides.value_level ∙ at) nodes in
    let least_x : IsFewest x (s + 1) = λ other. let k = fewest (a2 {s = s} {a = a.expression} h is_free y other) in omega (arith, k) in
    let least_y : IsFewest y (s + 1) = λ other. let k = fewest (a2 {s = s} {a = a.expression} h is_free other x) in omega (arith, k) in
    let side_x = side_shows v q.0 (s + 1) x sides.value (sides.value_level ∙ at) cut.0 least_x in
    let side_y = side_shows a q.1 (s + 1) y sides.address (sides.address_level ∙ at) cut.1 least_y in
    assign_made A2 s v a q p sides (a2 {s = s} {a = a.expression} h is_free y x) fewest (second_words s (cost x (s + 1)) (cost y (s + 1)) h is_free sides.value.part sides.address.part side_x.words side_y.words) (both_true _ _ side_x.aim side_y.aim)
    (ap (λ t. by A2 (two t q.0.derivation)) side_y.shape_is ∙ ap (λ t. by A2 (two (shape y) t)) side_x.shape_is)

third_made : {T : Table} (s : ℕ) (v a : Grown) (q : One × One) (p : Position) (h : operand_of a.expression ≡ None) (x : Derives T v.expression (Gets Any)) (y : Derives T a.expression (Gets Any)) → SidesStand T s v a q
    → all_shown (v ∷ a ∷ []) ≡ shown x (s + 1) ++ shown y (s + 1) → ((other : RootDerives T (Assign s v.expression a.expression)) → root_cost (a3 {s = s} {a = a.expression} h x y) ≤ root_cost other) → assign_root A3 s p q ≡ Ok (rooted_by (a3 {s = s} {a = a.expression} h x y))
third_made {T = T} s v a q p h x y sides nodes fewest =
    let at = level_of_none a.expression s h in
    let cut = shown_parted v a q.0 (s + 1) x (shown y (s + 1)) sides.value (sides.value_level ∙ at) nodes in
    let least_x : IsFewest x (s + 1) = λ other. let k = fewest (a3 {s = s} {a = a.expression} h other y) in omega (arith, k) in
    let least_y : IsFewest y (s + 1) = λ other. let k = fewest (a3 {s = s} {a = a.expression} h x other) in omega (arith, k) in
    let side_x = side_shows v q.0 (s + 1) x sides.value (sides.value_level ∙ at) cut.0 least_x in
    let side_y = side_shows a q.1 (s + 1) y sides.address (sides.address_level ∙ at) cut.1 least_y in
    assign_made A3 s v a q p sides (a3 {s = s} {a = a.expression} h x y) fewest (third_words s (cost x (s + 1)) (cost y (s + 1)) h sides.value.part sides.address.part side_x.words side_y.words) (both_true _ _ side_x.aim side_y.aim)
    (ap (λ t. by A3 (two t q.1.derivation)) side_x.shape_is ∙ ap (λ t. by A3 (two (shape x) t)) side_y.shape_is)

-- the names of the rules of assignments differ
names_differ : (m n s : ℕ) → m < 10 → n < 10 → ¬ (m ≡ n) → ¬ (line (82 ∷ []) ((65 ∷ decimal m) ∷ decimal s ∷ []) ≡ line (82 ∷ []) ((65 ∷ decimal n) ∷ decimal s ∷ []))
names_differ m n s i j h k = at (sym (one m i) ∙ k ∙ one n j) where
  one : (m : ℕ) → m < 10 → line (82 ∷ []) ((65 ∷ decimal m) ∷ decimal s ∷ []) ≡ line (82 ∷ []) ((65 ∷ (48 + m) ∷ []) ∷ decimal s ∷ [])
  one m i = ap (λ x. line (82 ∷ []) ((65 ∷ x) ∷ decimal s ∷ [])) (decimal_digit m i)

  at : ¬ (line (82 ∷ []) ((65 ∷ (48 + m) ∷ []) ∷ decimal s ∷ []) ≡ line (82 ∷ []) ((65 ∷ (48 + n) ∷ []) ∷ decimal s ∷ []))
  at e = let k : 48 + m ≡ 48 + n = cc in h (omega (arith, k))

assignment_made : {T : Table} (r : Rule) (s : ℕ) (v a : Grown) (q : One × One) (p : Position) → IsAssignment r → SidesStand T s v a q → (d : RootDerives T (Assign s v.expression a.expression))
    → RootStands T (Assign s v.expression a.expression) (all_shown (v ∷ a ∷ [])) (root_text (lines.Assign r s)) d → assign_root r s p q ≡ Ok (rooted_by d)
assignment_made _ s v a q p first sides (a1 {o = o} h x) k = first_made s v a q p o h x sides k.shown k.fewest
assignment_made _ s v a q p first sides (a2 h is_free y x) k = absurd (names_differ 1 2 s (omega arith) (omega arith) (λ e. omega (arith, e)) k.is)
assignment_made _ s v a q p first sides (a3 h x y) k = absurd (names_differ 1 3 s (omega arith) (omega arith) (λ e. omega (arith, e)) k.is)
assignment_made _ s v a q p second sides (a1 h x) k = absurd (names_differ 2 1 s (omega arith) (omega arith) (λ e. omega (arith, e)) k.is)
assignment_made _ s v a q p second sides (a2 h is_free y x) k = second_made s v a q p h is_free y x sides k.shown k.fewest
assignment_made _ s v a q p second sides (a3 h x y) k = absurd (names_differ 2 3 s (omega arith) (omega arith) (λ e. omega (arith, e)) k.is)
assignment_made _ s v a q p third sides (a1 h x) k = absurd (names_differ 3 1 s (omega arith) (omega arith) (λ e. omega (arith, e)) k.is)
assignment_made _ s v a q p third sides (a2 h is_free y x) k = absurd (names_differ 3 2 s (omega arith) (omega arith) (λ e. omega (arith, e)) k.is)
assignment_made _ s v a q p third sides (a3 h x y) k = third_made s v a q p h x y sides k.shown k.fewest

-- what is known of an accepted assignment
record AssignmentTaken (T : Table) (r : Rule) (s : ℕ) (v a : Grown) (q : One × One) : Type 0 where
  sides : SidesStand T s v a q
  words : ℕ
  by_rule : words_by s q.0.facts q.1.facts r ≡ Some words
  least : least_of s q.0.facts q.1.facts ≡ Some words
  shows : sides_show r q.0.mark q.1.mark ≡ true

assignment_taken : {T : Table} (r : Rule) (s : ℕ) (v a : Grown) (q : One × One) (p : Position) (y : Rooted) → OneStands T v q.0 → OneStands T a q.1 → assign_root r s p q ≡ Ok y → AssignmentTaken T r s v a q
assignment_taken {T = T} r s v a q p y h i k =
    let levels = passed _ _ _ _ k in at (same (words_by s q.0.facts q.1.facts r) (least_of s q.0.facts q.1.facts)) refl (levels_are s v a q h i levels.0) levels.1 where
      at : (o : Option ℕ) → same (words_by s q.0.facts q.1.facts r) (least_of s q.0.facts q.1.facts) ≡ o → SidesStand T s v a q → with_least r s p q.0 q.1 o ≡ Ok y → AssignmentTaken T r s v a q
      at None e sides k = cc
      at (Some n) e sides k = let both = same_are _ _ n e in record { sides = sides; words = n; by_rule = both.0; least = both.1; shows = (passed _ _ _ _ k).0 }

-- a rule with least words begins a derivation of least words
least_of_root : {T : Table} {r : Rule} {s : ℕ} {v a : Grown} {q : One × One} → AssignmentTaken T r s v a q → (d : RootDerives T (Assign s v.expression a.expression)) → words_by s q.0.facts q.1.facts r ≡ Some (root_cost d)
    → (other : RootDerives T (Assign s v.expression a.expression)) → root_cost d ≤ root_cost other
least_of_root {T = T} {s = s} {v = v} {a = a} {q = q} t d h =
    let value_part = subst (λ l. IsPart T v.expression l q.0.facts) t.sides.value_level t.sides.value.part in
    let address_part = subst (λ l. IsPart T a.expression l q.1.facts) t.sides.address_level t.sides.address.part in
    cost_is_least d (some_same (sym (sides_least v.expression a.expression s value_part address_part) ∙ t.least ∙ sym t.by_rule ∙ h))

operand_some : (p : Option Operand) (s n : ℕ) (f g : Facts) → words_at (words_of_operand p) s f g A1 ≡ Some n → (o : Operand) × (p ≡ Some o)
operand_some None s n f g h = cc
operand_some (Some o) s n f g h = (o, refl)

operand_none : (p : Option Operand) (s n : ℕ) (f g : Facts) → words_at (words_of_operand p) s f g A2 ≡ Some n → (p ≡ None) × (free f g ≡ true)
operand_none None s n f g h = (refl, at (free f g) h) where
  at : (b : Bool) → cond b (Some (g.costs.any + f.costs.any + 2 * w s)) None ≡ Some n → b ≡ true
  at true h = refl
  at false h = cc
operand_none (Some o) s n f g h = cc

operand_none_too : (p : Option Operand) (s n : ℕ) (f g : Facts) → words_at (words_of_operand p) s f g A3 ≡ Some n → p ≡ None
operand_none_too None s n f g h = refl
operand_none_too (Some o) s n f g h = cc

assignment_right : {T : Table} (r : Rule) (s : ℕ) (v a : Grown) (q : One × One) → IsAssignment r → IsLevel s → AssignmentTaken T r s v a q → RootRight T (lines.Assign r s) (v ∷ a ∷ [])
assignment_right {T = T} _ s v a q first room t =
    let sides = t.sides in
    let o = operand_some (operand_of a.expression) s t.words q.0.facts q.1.facts (sym (words_are s A1 sides.value.part sides.address.part) ∙ t.by_rule) in
    let at = level_of_operand a.expression o.0 s o.1 in
    let shows = and_parts _ _ t.shows in
    let x = side_from v q.0 s sides.value (sides.value_level ∙ at) shows.0 in
    let words = (side_shows v q.0 s x.derivation sides.value (sides.value_level ∙ at) x.is_shown x.fewest).words in
    let d : RootDerives T (Assign s v.expression a.expression) = a1 {s = s} {a = a.expression} o.1 x.derivation in
    record {
      root = Assign s v.expression a.expression;
      over = of_assignment first room sides.value_level sides.address_level;
      derivation = d;
      stands = record {
        shown = shown_joined v a (shown x.derivation s) (bare a.expression s) x.is_shown (sides.address.bare_to shows.1 ∙ ap (λ l. bare a.expression l) (sides.address_level ∙ at));
        is = refl;
        fewest = least_of_root t d (first_words s (cost x.derivation s) o.0 o.1 sides.value.part sides.address.part words);
      };
    }
assignment_right {T = T} _ s v a q second room t =
    let sides = t.sides in
    let o = operand_none (operand_of a.expression) s t.words q.0.facts q.1.facts (sym (words_are s A2 sides.value.part sides.address.part) ∙ t.by_rule) in
    let is_free = sym (free_is sides.value.part sides.address.part) ∙ o.1 in
    let at = level_of_none a.expression s o.0 in
    let shows = and_parts _ _ t.shows in
    let x = side_from v q.0 (s + 1) sides.value (sides.value_level ∙ at) shows.0 in
    let y = side_from a q.1 (s + 1) sides.address (sides.address_level ∙ at) shows.1 in
    let value_words = (side_shows v q.0 (s + 1) x.derivation sides.value (sides.value_level ∙ at) x.is_shown x.fewest).words in
    let address_words = (side_shows a q.1 (s + 1) y.derivation sides.address (sides.address_level ∙ at) y.is_shown y.fewest).words in
    let d : RootDerives T (Assign s v.expression a.expression) = a2 {s = s} {a = a.expression} o.0 is_free y.derivation x.derivation in
    record {
      root = Assign s v.expression a.expression;
      over = of_assignment second room sides.value_level sides.address_level;
      derivation = d;
      stands = record {
        shown = shown_joined v a (shown x.derivation (s + 1)) (shown y.derivation (s + 1)) x.is_shown y.is_shown;
        is = refl;
        fewest = least_of_root t d (second_words s (cost x.derivation (s + 1)) (cost y.derivation (s + 1)) o.0 is_free sides.value.part sides.address.part value_words address_words);
      };
    }
assignment_right {T = T} _ s v a q third room t =
    let sides = t.sides in
    let o = operand_none_too (operand_of a.expression) s t.words q.0.facts q.1.facts (sym (words_are s A3 sides.value.part sides.address.part) ∙ t.by_rule) in
    let at = level_of_none a.expression s o in
    let shows = and_parts _ _ t.shows in
    let x = side_from v q.0 (s + 1) sides.value (sides.value_level ∙ at) shows.0 in
    let y = side_from a q.1 (s + 1) sides.address (sides.address_level ∙ at) shows.1 in
    let value_words = (side_shows v q.0 (s + 1) x.derivation sides.value (sides.value_level ∙ at) x.is_shown x.fewest).words in
    let address_words = (side_shows a q.1 (s + 1) y.derivation sides.address (sides.address_level ∙ at) y.is_shown y.fewest).words in
    let d : RootDerives T (Assign s v.expression a.expression) = a3 {s = s} {a = a.expression} o x.derivation y.derivation in
    record {
      root = Assign s v.expression a.expression;
      over = of_assignment third room sides.value_level sides.address_level;
      derivation = d;
      stands = record {
        shown = shown_joined v a (shown x.derivation (s + 1)) (shown y.derivation (s + 1)) x.is_shown y.is_shown;
        is = refl;
        fewest = least_of_root t d (third_words s (cost x.derivation (s + 1)) (cost y.derivation (s + 1)) o sides.value.part sides.address.part value_words address_words);
      };
    }

least_refused : (r : Rule) (s : ℕ) (p : Position) (v a : One) (o : Option ℕ) (f : CheckFault) → with_least r s p v a o ≡ Err f → faults.WrongRule p.entry p.node ≡ f
least_refused r s p v a None f h = err_same h
least_refused r s p v a (Some n) f h = refused_so (sides_show r v.mark a.mark) _ _ _ h

assignment_wrong : {T : Table} (r : Rule) (s : ℕ) (v a : Grown) (q : One × One) (p : Position) (f : CheckFault) → IsAssignment r → IsLevel s → OneStands T v q.0 → OneStands T a q.1 → assign_root r s p q ≡ Err f → RootWrong (lines.Assign r s) (v ∷ a ∷ []) p f
assignment_wrong {T = T} r s v a q p f is room h i k = at (q.0.mark.level == side q.1.facts.operand s && q.1.mark.level == side q.1.facts.operand s) refl k where
  over_none : (q.0.mark.level == side q.1.facts.operand s && q.1.mark.level == side q.1.facts.operand s) ≡ false → (root : Root) → ¬ IsRootOf (lines.Assign r s) (v ∷ a ∷ []) root
  over_none e root (of_assignment j l m n) = let t = levels_hold s v a q (record { value = h; address = i; value_level = m; address_level = n }) in let bad : true ≡ false = sym t ∙ e in cc

  at : (b : Bool) → (q.0.mark.level == side q.1.facts.operand s && q.1.mark.level == side q.1.facts.operand s) ≡ b
      → cond b (with_least r s p q.0 q.1 (same (words_by s q.0.facts q.1.facts r) (least_of s q.0.facts q.1.facts))) (Err (faults.Line p.line)) ≡ Err f → RootWrong (lines.Assign r s) (v ∷ a ∷ []) p f
  at true e k =
      let sides = levels_are s v a q h i e in
      subst (RootWrong (lines.Assign r s) (v ∷ a ∷ []) p) (least_refused r s p q.0 q.1 _ f k) (no_derivation (of_assignment is room sides.value_level sides.address_level))
  at false e k = subst (RootWrong (lines.Assign r s) (v ∷ a ∷ []) p) (err_same k) (no_root (over_none e))

-- the result of the step at a root line with true trees
pub root_made : {T : Table} (ts : List Grown) (r : Root) (rl : RootLine) (x : Stack) (p : Position) → StackStands T ts x → IsRootOf rl ts r → (d : RootDerives T r) → RootStands T r (all_shown ts) (root_text rl) d → root_step rl p x ≡ Ok (rooted_by d)
root_made {T = T} _ _ _ x p h (of_value {t = t}) (value d) k = at (one_tree x) (one_of (kept T (t ∷ []) x.marks x.facts x.expressions x.derivations h)) where
  at : (o : Option One) → OneOf T (t ∷ []) o → (with_whole p o >>= (λ o. value_root p o)) ≡ Ok (rooted_by (value {s = t.level} d))
  at _ (just_one {o = o} i) = value_made t o p i d (sym (append-nil t.shown) ∙ k.shown) (fewest_value t.level d k.fewest)
  at _ (not_one j) = absurd (j t refl)
root_made {T = T} _ _ _ x p h (of_test {t = t} {sense = sense}) (test d) k = at (one_tree x) (one_of (kept T (t ∷ []) x.marks x.facts x.expressions x.derivations h)) where
  at : (o : Option One) → OneOf T (t ∷ []) o → (with_whole p o >>= (λ o. test_root sense p o)) ≡ Ok (rooted_by (test {s = t.level} d))
  at _ (just_one {o = o} i) = test_made sense t o p i d (sym (append-nil t.shown) ∙ k.shown) (fewest_test t.level sense d k.fewest)
  at _ (not_one j) = absurd (j t refl)
root_made {T = T} _ _ _ x p h (of_assignment {v = v} {a = a} {s = s} {r = r} is room value_level address_level) d k = at (two_trees x) (two_of (kept T (v ∷ a ∷ []) x.marks x.facts x.expressions x.derivations h)) where
  at : (o : Option (One × One)) → TwoOf T (v ∷ a ∷ []) o → (with_whole p o >>= (λ q. assign_root r s p q)) ≡ Ok (rooted_by d)
  at _ (just_two {q = q} i j) = assignment_made r s v a q p is (record { value = i; address = j; value_level = value_level; address_level = address_level }) d k
  at _ (not_two j) = absurd (j v a refl)

pub root_right : {T : Table} (ts : List Grown) (rl : RootLine) (x : Stack) (p : Position) (y : Rooted) → StackStands T ts x → RootLineIsSmall rl → root_step rl p x ≡ Ok y → RootRight T rl ts
root_right {T = T} ts lines.Value x p y h room k = at (one_tree x) (one_of (kept T ts x.marks x.facts x.expressions x.derivations h)) k where
  at : {ts : List Grown} (o : Option One) → OneOf T ts o → (with_whole p o >>= (λ o. value_root p o)) ≡ Ok y → RootRight T lines.Value ts
  at _ (just_one {t = t} {o = o} i) k = value_right t o p y i _ refl k
  at _ (not_one j) k = cc
root_right {T = T} ts (lines.Test sense) x p y h room k = at (one_tree x) (one_of (kept T ts x.marks x.facts x.expressions x.derivations h)) k where
  at : {ts : List Grown} (o : Option One) → OneOf T ts o → (with_whole p o >>= (λ o. test_root sense p o)) ≡ Ok y → RootRight T (lines.Test sense) ts
  at _ (just_one {t = t} {o = o} i) k = test_right sense t o p y i _ refl k
  at _ (not_one j) k = cc
root_right {T = T} ts (lines.Assign r s) x p y h room k = at (two_trees x) (two_of (kept T ts x.marks x.facts x.expressions x.derivations h)) k where
  at : {ts : List Grown} (o : Option (One × One)) → TwoOf T ts o → (with_whole p o >>= (λ q. assign_root r s p q)) ≡ Ok y → RootRight T (lines.Assign r s) ts
  at _ (just_two {t = v} {u = a} {q = q} i j) k = assignment_right r s v a q room.0 room.1 (assignment_taken r s v a q p y i j k)
  at _ (not_two j) k = cc

pub root_wrong : (T : Table) (ts : List Grown) (rl : RootLine) (x : Stack) (p : Position) (f : CheckFault) → StackStands T ts x → RootLineIsSmall rl → root_step rl p x ≡ Err f → RootWrong rl ts p f
root_wrong T ts lines.Value x p f h room k = at (one_tree x) (one_of (kept T ts x.marks x.facts x.expressions x.derivations h)) k where
  at : {ts : List Grown} (o : Option One) → OneOf T ts o → (with_whole p o >>= (λ o. value_root p o)) ≡ Err f → RootWrong lines.Value ts p f
  at _ (just_one {t = t} {o = o} i) k = subst (RootWrong lines.Value (t ∷ []) p) (refused_so (has_aim o.mark.shown (Gets Any)) _ _ _ k) (no_derivation of_value)
  at _ (not_one {ts = ts} j) k = subst (RootWrong lines.Value ts p) (err_same k) (no_root (λ r i. none i j)) where
    none : {ts : List Grown} {r : Root} → IsRootOf lines.Value ts r → ((t : Grown) → ¬ (ts ≡ t ∷ [])) → ⊥
    none (of_value {t = t}) j = j t refl
root_wrong T ts (lines.Test sense) x p f h room k = at (one_tree x) (one_of (kept T ts x.marks x.facts x.expressions x.derivations h)) k where
  at : {ts : List Grown} (o : Option One) → OneOf T ts o → (with_whole p o >>= (λ o. test_root sense p o)) ≡ Err f → RootWrong (lines.Test sense) ts p f
  at _ (just_one {t = t} {o = o} i) k = subst (RootWrong (lines.Test sense) (t ∷ []) p) (refused_so (has_aim o.mark.shown (Jumps sense)) _ _ _ k) (no_derivation of_test)
  at _ (not_one {ts = ts} j) k = subst (RootWrong (lines.Test sense) ts p) (err_same k) (no_root (λ r i. none i j)) where
    none : {ts : List Grown} {r : Root} → IsRootOf (lines.Test sense) ts r → ((t : Grown) → ¬ (ts ≡ t ∷ [])) → ⊥
    none (of_test {t = t}) j = j t refl
root_wrong T ts (lines.Assign r s) x p f h room k = at (two_trees x) (two_of (kept T ts x.marks x.facts x.expressions x.derivations h)) k where
  at : {ts : List Grown} (o : Option (One × One)) → TwoOf T ts o → (with_whole p o >>= (λ q. assign_root r s p q)) ≡ Err f → RootWrong (lines.Assign r s) ts p f
  at _ (just_two {t = v} {u = a} {q = q} i j) k = assignment_wrong r s v a q p f room.0 room.1 i j k
  at _ (not_two {ts = ts} j) k = subst (RootWrong (lines.Assign r s) ts p) (err_same k) (no_root (λ root i. none i j)) where
    none : {ts : List Grown} {root : Root} → IsRootOf (lines.Assign r s) ts root → ((t u : Grown) → ¬ (ts ≡ t ∷ u ∷ [])) → ⊥
    none (of_assignment {v = v} {a = a} is room m n) j = j v a refl
