-- A root has only one least derivation, and an expression only one least number of words. Each least derivation has the tree of
-- rule names to which the choices lead: its first rule is that of the choice, and its parts are least derivations themselves.
use Rattle.std.proofs.Common.{◌≡◌, ℕ, ◌+◌, ◌==◌, List, [], ◌∷◌, ◌++◌, Bool, true, false, Option, Some, None, cond, refl, ap, sym, subst, ◌∙◌, arith}
use Rattle.bc_word.specs.declared.operator.Op.{Op}
use Rattle.bc_word.specs.declared.operator.Op.TheVariants as operators
use Rattle.bc_core.specs.Tree.{Exp, Num, Frame, Glob, Place, Load, Neg, Not, Bin, Cond, Call, Valof, Args, count, Root, Value, Test, Assign}
use Rattle.bc_core.specs.Operand.{constant_of}
use Rattle.bc_rules_defs.specs.declared.rule.Table.{Table}
use Rattle.bc_rules_defs.specs.declared.rule.Mode.{Mode}
use Rattle.bc_rules_defs.specs.declared.rule.Mode.TheVariants.{Any, Push}
use Rattle.bc_rules_defs.specs.declared.rule.Aim.{Aim}
use Rattle.bc_rules_defs.specs.declared.rule.Aim.TheVariants.{Gets, Jumps}
use Rattle.bc_rules_defs.specs.declared.rule.Rule.{Rule}
use Rattle.bc_rules_defs.specs.declared.rule.Rule.TheVariants as rule
use Rattle.bc_rules_defs.specs.Free.{is_zero, beside_zero, without_zero}
use Rattle.bc_rules_defs.specs.Names.{rule_number}
use Rattle.bc_rules_defs.specs.Piece.{K}
use Rattle.bc_rules_defs.specs.Rules.{Derives, v0, v1, v2, v3, v4, v6, v7, v8, v9, v10, v11, v12, v13, v14, v15, v16, v17, v18, v19, v20, v21, v22, v22_valof, j1, j2, j3, j4, j5, j6, j7, j8, j9, DerivesAll, no_more, one_more, RootDerives, value, test, a1, a2, a3, Tree, Trees, by, part, one, two, three, end_with, shape, shapes, root_shape}
use Rattle.bc_rules_defs.specs.Code.{labels, all_labels}
use Rattle.bc_rules_defs.specs.Layers.{Layer, argument_layers, layers}
use Rattle.bc_rules_defs.specs.Layers as layer
use Rattle.bc_rules_defs.specs.Takes.{beside}
use Rattle.bc_rules_defs.proofs.Likeness.{alike}
use Rattle.bc_select_defs.specs.declared.choice.Choice.{Choice}
use Rattle.bc_select_defs.specs.declared.choice.Choices.{Choices}
use Rattle.bc_select_defs.specs.Least.{top, first_rule, IsLeast, AreLeastParts, HasLeastParts, none, RootIsLeast, RootHasLeastParts, AreLeastWords, IsLeastRule}
use Rattle.bc_select_defs.specs.Least as least
use Rattle.bc_select_defs.specs.Options.{rule_of}
use Rattle.bc_select_defs.specs.Choices.{choice_for, zero_number, choices}
use Rattle.bc_select_defs.specs.Lower.{is_zero_is}
use Rattle.bc_select_defs.specs.Readings.{Readings, tree_for, tree_of, push_parts, value_parts, test_parts, read_line, leaf_parts, part_parts, two_taken, pair_parts, cond_parts, call_parts, readings, readings_of_all}
use Rattle.bc_select_defs.specs.Laws.{OneLeastDerivation, OneLeastWords}
use Rattle.bc_select_defs.proofs.Rules.{same_rule}
use Rattle.bc_select_defs.proofs.Words.{choices_are_least}

-- what least parts say, layer by layer
abbrev Known : {T : Table} → List (Layer T) → Type 0
Known [] = Unit {0}
Known (layer.own p ∷ ls) = Known ls
Known (layer.body n f ∷ ls) = Known ls
Known (layer.part d s t f ∷ ls) = (IsLeast d s × HasLeastParts d s) × Known ls

known : {T : Table} {ls : List (Layer T)} → AreLeastParts ls → Known ls
known none = tt
known (least.own h) = known h
known (least.body h) = known h
known (least.part i p h) = ((i, p), known h)

after_arguments : {T : Table} {es : Args} (ds : DerivesAll T es) (s t f : ℕ) (ls : List (Layer T)) → Known (argument_layers ds s t f ++ ls) → Known ls
after_arguments no_more s t f ls h = h
after_arguments (one_more d ds) s t f ls h = after_arguments ds (s + 1) t (f + labels d) ls h.1

-- the trees of the parts that an expression's own rules have
abbrev own_parts : Table → Exp → ℕ → Aim → Rule → Trees
own_parts T (Num n) s = leaf_parts
own_parts T (Frame k) s = leaf_parts
own_parts T (Glob n) s = leaf_parts
own_parts T (Place m) s = leaf_parts
own_parts T (Load e) s = part_parts (readings T e s)
own_parts T (Neg e) s = part_parts (readings T e s)
own_parts T (Not e) s = part_parts (readings T e s)
own_parts T (Bin op a b) s = pair_parts (zero_number (constant_of b)) (readings T a (s + 1)) (readings T b (s + 1))
own_parts T (Cond c x y) s = cond_parts (readings T c s) (readings T x s) (readings T y s)
own_parts T (Call es f) s = call_parts (readings_of_all T es (s + 2)) (readings T f (s + 2 + count es))
own_parts T (Valof n) s = leaf_parts

by_line : (T : Table) (e : Exp) (s : ℕ) → readings T e s ≡ read_line (choices T e s) (own_parts T e s)
by_line T (Num n) s = refl
by_line T (Frame k) s = refl
by_line T (Glob n) s = refl
by_line T (Place m) s = refl
by_line T (Load e) s = refl
by_line T (Neg e) s = refl
by_line T (Not e) s = refl
by_line T (Bin op a b) s = refl
by_line T (Cond c x y) s = refl
by_line T (Call es f) s = refl
by_line T (Valof n) s = refl

-- the trees of the parts that a rule has for an aim
abbrev parts_for : Readings → (Aim → Rule → Trees) → Aim → Rule → Trees
parts_for r own (Gets Any) q = value_parts r.push (own (Gets Any)) q
parts_for r own (Gets Push) q = push_parts (own (Gets Push)) q
parts_for r own (Jumps sense) q = test_parts r.any (own (Jumps sense)) q

tree_is : (x : Option Choice) (parts : Rule → Trees) (q : Rule) → rule_of x ≡ Some q → tree_of x parts ≡ by q (parts q)
tree_is None parts q h = cc
tree_is (Some c) parts q h = let e : c.rule ≡ q = cc in ap (λ r. by r (parts r)) e

line_is : (c : Choices) (own : Aim → Rule → Trees) (aim : Aim) (q : Rule) → rule_of (choice_for aim c) ≡ Some q → tree_for aim (read_line c own) ≡ by q (parts_for (read_line c own) own aim q)
line_is c own (Gets Any) q h = tree_is c.any _ q h
line_is c own (Gets Push) q h = tree_is c.push _ q h
line_is c own (Jumps false) q h = tree_is c.on_false _ q h
line_is c own (Jumps true) q h = tree_is c.on_true _ q h

-- the tree for an aim is that of the choice's rule
reading_is : (T : Table) (e : Exp) (s : ℕ) (aim : Aim) (q : Rule) → rule_of (choice_for aim (choices T e s)) ≡ Some q
    → tree_for aim (readings T e s) ≡ by q (parts_for (readings T e s) (own_parts T e s) aim q)
reading_is T e s aim q h =
    let P : Readings → Type 0 = λ r. tree_for aim r ≡ by q (parts_for r (own_parts T e s) aim q) in
    subst P (sym (by_line T e s)) (line_is (choices T e s) (own_parts T e s) aim q h)

-- a least derivation begins with the rule of the choice
rule_chosen : (T : Table) (e : Exp) (aim : Aim) (s : ℕ) (x : Option Rule) → IsLeastRule T e aim s x → (d : Derives T e aim) → IsLeast d s → x ≡ Some (first_rule d)
rule_chosen T e aim s None h d i = absurd (h d)
rule_chosen T e aim s (Some r) h d i =
    let b = h.0 in
    let j = h.1.0 in
    let u = i.first b (j.fewest d) in
    let v = j.first d (i.fewest b) in
    let n : rule_number (first_rule b) ≡ rule_number (first_rule d) = omega (arith, u, v) in
    let k : r ≡ first_rule d = sym h.1.1 ∙ same_rule b d n in
    ap (λ q. Some q) k

-- hence it has the tree for its aim, if its parts have the trees for theirs
is_read : {T : Table} {e : Exp} {aim : Aim} (d : Derives T e aim) (s : ℕ) → IsLeast d s → (ts : Trees) → shape d ≡ by (first_rule d) ts
    → ts ≡ parts_for (readings T e s) (own_parts T e s) aim (first_rule d) → shape d ≡ tree_for aim (readings T e s)
is_read {T = T} {e = e} {aim = aim} d s i ts h k =
    h ∙ ap (by (first_rule d)) k ∙ sym (reading_is T e s aim (first_rule d) (rule_chosen T e aim s _ (choices_are_least T e aim s).1 d i))

-- the same of a rule that exists in both modes
in_mode : (r : Readings) (own : Aim → Rule → Trees) (m : Mode) (q : Rule) → ((f : Rule → Trees) → push_parts f q ≡ f q)
    → ((t : Tree) (f : Rule → Trees) → value_parts t f q ≡ f q) → own (Gets m) q ≡ parts_for r own (Gets m) q
in_mode r own Any q h k = sym (k r.push (own (Gets Any)))
in_mode r own Push q h k = sym (h (own (Gets Push)))

is_read_in_mode : {T : Table} {e : Exp} {m : Mode} (d : Derives T e (Gets m)) (s : ℕ) → IsLeast d s → (ts : Trees) → shape d ≡ by (first_rule d) ts
    → ((f : Rule → Trees) → push_parts f (first_rule d) ≡ f (first_rule d)) → ((t : Tree) (f : Rule → Trees) → value_parts t f (first_rule d) ≡ f (first_rule d))
    → ts ≡ own_parts T e s (Gets m) (first_rule d) → shape d ≡ tree_for (Gets m) (readings T e s)
is_read_in_mode {T = T} {e = e} {m = m} d s i ts h p v k = is_read d s i ts h (k ∙ in_mode (readings T e s) (own_parts T e s) m (first_rule d) p v)

-- the operand beside a 0 is the one that the rule takes
either_taken : (aim : Aim) (f : Exp → Readings) (a b c : Exp) (first second : Bool) → cond second (Some a) (cond first (Some b) None) ≡ Some c
    → one (tree_for aim (f c)) ≡ two_taken (beside aim second) (f a) (f b)
either_taken aim f a b c first true h = let e : c ≡ a = cc in ap (λ x. one (tree_for aim (f x))) e
either_taken aim f a b c true false h = let e : c ≡ b = cc in ap (λ x. one (tree_for aim (f x))) e
either_taken aim f a b c false false h = cc

by_number : (T : Table) (a b : Exp) (aim : Aim) (s : ℕ) → two_taken (beside aim (is_zero b)) (readings T a s) (readings T b s) ≡ two_taken (beside aim (zero_number (constant_of b))) (readings T a s) (readings T b s)
by_number T a b aim s = ap (λ z. two_taken (beside aim z) (readings T a s) (readings T b s)) (sym (is_zero_is b))

beside_taken : (T : Table) (a b c : Exp) (aim : Aim) (s : ℕ) → beside_zero a b ≡ Some c → one (tree_for aim (readings T c s)) ≡ two_taken (beside aim (zero_number (constant_of b))) (readings T a s) (readings T b s)
beside_taken T a b c aim s h = either_taken aim (λ x. readings T x s) a b c (is_zero a) (is_zero b) h ∙ by_number T a b aim s

without_taken : (T : Table) (op : Op) (a b c : Exp) (aim : Aim) (s : ℕ) → without_zero op a b ≡ Some c → one (tree_for aim (readings T c s)) ≡ two_taken (beside aim (zero_number (constant_of b))) (readings T a s) (readings T b s)
without_taken T operators.Add a b c aim s h = beside_taken T a b c aim s h
without_taken T operators.Subtract a b c aim s h = either_taken aim (λ x. readings T x s) a b c false (is_zero b) h ∙ by_number T a b aim s
without_taken T op a b c aim s h = cc

-- lists of two and three trees
both : {x y u v : Tree} → x ≡ u → y ≡ v → two x y ≡ two u v
both {y = y} {u = u} h k = ap (λ z. two z y) h ∙ ap (λ z. two u z) k

all_three : {x y z u v w : Tree} → x ≡ u → y ≡ v → z ≡ w → three x y z ≡ three u v w
all_three {y = y} {z = z} {u = u} h k l = ap (λ t. three t y z) h ∙ ap (λ ts. part u ts) (both k l)

-- a least derivation with least parts has the tree for its aim
mutual
  is_reading : {T : Table} {e : Exp} {aim : Aim} (d : Derives T e aim) (s : ℕ) → IsLeast d s × HasLeastParts d s → shape d ≡ tree_for aim (readings T e s)
  is_reading (v0 d) s h = is_read (v0 d) s h.0 _ refl (ap one (is_reading d s (known h.1).0))
  is_reading (v1 k) s h = is_read (v1 k) s h.0 _ refl refl
  is_reading (v2 d) s h = is_read_in_mode (v2 d) s h.0 _ refl (λ f. refl) (λ t f. refl) (ap one (is_reading d s (known h.1).0))
  is_reading (v3 d) s h = is_read_in_mode (v3 d) s h.0 _ refl (λ f. refl) (λ t f. refl) (ap one (is_reading d s (known h.1).0))
  is_reading (v4 d) s h = is_read_in_mode (v4 d) s h.0 _ refl (λ f. refl) (λ t f. refl) (ap one (is_reading d s (known h.1).0))
  is_reading (v6 k d) s h = is_read_in_mode (v6 k d) s h.0 _ refl (λ f. refl) (λ t f. refl) (ap one (is_reading d (s + 1) (known h.1).0))
  is_reading (v7 k free d) s h = is_read_in_mode (v7 k free d) s h.0 _ refl (λ f. refl) (λ t f. refl) (ap one (is_reading d (s + 1) (known h.1).0))
  is_reading (v8 {T = T} {op = op} {a = a} {b = b} {c = c} {m = m} k d) s h =
      is_read_in_mode (v8 k d) s h.0 _ refl (λ f. refl) (λ t f. refl) (ap one (is_reading d (s + 1) (known h.1).0) ∙ without_taken T op a b c (Gets m) (s + 1) k)
  is_reading (v9 d) s h = is_read_in_mode (v9 d) s h.0 _ refl (λ f. refl) (λ t f. refl) (ap one (is_reading d (s + 1) (known h.1).0))
  is_reading (v10 k d) s h = is_read_in_mode (v10 k d) s h.0 _ refl (λ f. refl) (λ t f. refl) (ap one (is_reading d (s + 1) (known h.1).0))
  is_reading (v11 k free d) s h = is_read_in_mode (v11 k free d) s h.0 _ refl (λ f. refl) (λ t f. refl) (ap one (is_reading d (s + 1) (known h.1).0))
  is_reading (v12 a b) s h = let g = known h.1 in is_read (v12 a b) s h.0 _ refl (both (is_reading a (s + 1) g.0) (is_reading b (s + 1) g.1.0))
  is_reading (v13 k free b a) s h = let g = known h.1 in is_read (v13 k free b a) s h.0 _ refl (both (is_reading b (s + 1) g.0) (is_reading a (s + 1) g.1.0))
  is_reading (v14 free b a) s h = let g = known h.1 in is_read (v14 free b a) s h.0 _ refl (both (is_reading b (s + 1) g.0) (is_reading a (s + 1) g.1.0))
  is_reading (v15 k a b) s h = let g = known h.1 in is_read (v15 k a b) s h.0 _ refl (both (is_reading a (s + 1) g.0) (is_reading b (s + 1) g.1.0))
  is_reading (v16 free b a) s h = let g = known h.1 in is_read (v16 free b a) s h.0 _ refl (both (is_reading b (s + 1) g.0) (is_reading a (s + 1) g.1.0))
  is_reading (v17 a b) s h = let g = known h.1 in is_read (v17 a b) s h.0 _ refl (both (is_reading a (s + 1) g.0) (is_reading b (s + 1) g.1.0))
  is_reading (v18 a b) s h = let g = known h.1 in is_read (v18 a b) s h.0 _ refl (both (is_reading a (s + 1) g.0) (is_reading b (s + 1) g.1.0))
  is_reading (v19 a b) s h = let g = known h.1 in is_read (v19 a b) s h.0 _ refl (both (is_reading a (s + 1) g.0) (is_reading b (s + 1) g.1.0))
  is_reading (v20 c x y) s h = let g = known h.1 in is_read (v20 c x y) s h.0 _ refl (all_three (is_reading c s g.0) (is_reading x s g.1.0) (is_reading y s g.1.1.0))
  is_reading (v21 c y x) s h = let g = known h.1 in is_read (v21 c y x) s h.0 _ refl (all_three (is_reading c s g.0) (is_reading y s g.1.0) (is_reading x s g.1.1.0))
  is_reading (v22 {T = T} {es = es} ds r) s h =
      let g = known h.1 in
      let ls : List (Layer T) = layer.part r (s + 2 + count es) 0 (0 + all_labels ds) ∷ layer.own (K s) ∷ [] in
      let arguments : shapes ds ≡ readings_of_all T es (s + 2) = all_readings ds (s + 2) 0 0 ls g in
      is_read (v22 ds r) s h.0 _ refl
      (ap (λ ts. end_with ts (shape r)) arguments ∙ ap (end_with (readings_of_all T es (s + 2))) (is_reading r (s + 2 + count es) (after_arguments ds (s + 2) 0 0 ls g).0))
  is_reading v22_valof s h = is_read v22_valof s h.0 _ refl refl
  is_reading (j1 d) s h = is_read (j1 d) s h.0 _ refl (ap one (is_reading d s (known h.1).0))
  is_reading (j2 a b) s h = let g = known h.1 in is_read (j2 a b) s h.0 _ refl (both (is_reading a (s + 1) g.0) (is_reading b (s + 1) g.1.0))
  is_reading (j3 a b) s h = let g = known h.1 in is_read (j3 a b) s h.0 _ refl (both (is_reading a (s + 1) g.0) (is_reading b (s + 1) g.1.0))
  is_reading (j4 a b) s h = let g = known h.1 in is_read (j4 a b) s h.0 _ refl (both (is_reading a (s + 1) g.0) (is_reading b (s + 1) g.1.0))
  is_reading (j5 a b) s h = let g = known h.1 in is_read (j5 a b) s h.0 _ refl (both (is_reading a (s + 1) g.0) (is_reading b (s + 1) g.1.0))
  is_reading (j6 k d) s h = is_read (j6 k d) s h.0 _ refl (ap one (is_reading d s (known h.1).0))
  is_reading j7 s h = is_read j7 s h.0 _ refl refl
  is_reading (j8 {T = T} {a = a} {b = b} {c = c} k l d) s h = is_read (j8 k l d) s h.0 _ refl (ap one (is_reading d (s + 1) (known h.1).0) ∙ beside_taken T a b c (Gets Any) (s + 1) l)
  is_reading (j9 {T = T} {a = a} {b = b} {c = c} k l d) s h = is_read (j9 k l d) s h.0 _ refl (ap one (is_reading d (s + 1) (known h.1).0) ∙ beside_taken T a b c (Gets Any) (s + 1) l)

  all_readings : {T : Table} {es : Args} (ds : DerivesAll T es) (s t f : ℕ) (ls : List (Layer T)) → Known (argument_layers ds s t f ++ ls) → shapes ds ≡ readings_of_all T es s
  all_readings no_more s t f ls h = refl
  all_readings (one_more {T = T} {e = e} d ds) s t f ls h =
      ap (λ x. part x (shapes ds)) (is_reading d s h.0) ∙ ap (part (readings T e s).any) (all_readings ds (s + 1) t (f + labels d) ls h.1)

-- the tree of a root's derivation, given the number of its first rule
abbrev root_tree : Table → Root → ℕ → Tree
root_tree T (Value s e) n = (readings T e s).any
root_tree T (Test s sense e) n = tree_for (Jumps sense) (readings T e s)
root_tree T (Assign s v a) n =
    cond (n == 1) (by rule.A1 (one (readings T v s).any))
    (cond (n == 2) (by rule.A2 (two (readings T a (s + 1)).any (readings T v (s + 1)).any)) (by rule.A3 (two (readings T v (s + 1)).any (readings T a (s + 1)).any)))

root_is : {T : Table} {r : Root} (d : RootDerives T r) → RootHasLeastParts d → root_shape d ≡ root_tree T r (rule_number (top (root_shape d)))
root_is (value {s = s} d) h = is_reading d s (known h).0
root_is (test {s = s} d) h = is_reading d s (known h).0
root_is (a1 {s = s} k v) h = ap (λ t. by rule.A1 (one t)) (is_reading v s (known h).0)
root_is (a2 {s = s} k free a v) h = let g = known h in ap (by rule.A2) (both (is_reading a (s + 1) g.0) (is_reading v (s + 1) g.1.0))
root_is (a3 {s = s} k v a) h = let g = known h in ap (by rule.A3) (both (is_reading v (s + 1) g.0) (is_reading a (s + 1) g.1.0))

same_number : {T : Table} {r : Root} (d e : RootDerives T r) → RootIsLeast d → RootIsLeast e → rule_number (top (root_shape d)) ≡ rule_number (top (root_shape e))
same_number d e i j = let u = i.first e (j.fewest d) in let v = j.first d (i.fewest e) in omega (arith, u, v)

pub one_least_derivation : OneLeastDerivation
one_least_derivation T r d e =
    let same : root_shape d.derivation ≡ root_shape e.derivation =
    root_is d.derivation d.parts ∙ ap (root_tree T r) (same_number d.derivation e.derivation d.least e.least) ∙ sym (root_is e.derivation e.parts) in
    (same, alike T T r d.derivation e.derivation same)

-- least words are equal, since each is the words of a derivation
same_words : (T : Table) (e : Exp) (aim : Aim) (s : ℕ) (x y : Option ℕ) → AreLeastWords T e aim s x → AreLeastWords T e aim s y → x ≡ y
same_words T e aim s None None h k = refl
same_words T e aim s None (Some n) h k = absurd (h k.0.0)
same_words T e aim s (Some n) None h k = absurd (k h.0.0)
same_words T e aim s (Some n) (Some m) h k =
    let a = h.0.1 in let b = k.0.1 in let c = h.1 k.0.0 in let d = k.1 h.0.0 in
    let i : n ≡ m = omega (arith, a, b, c, d) in ap (λ z. Some z) i

pub one_least_words : OneLeastWords
one_least_words T e aim s a b = same_words T e aim s a.words b.words a.are_least b.are_least
