-- The steps of writing together append the code of each form.
use Rattle.std.proofs.Common.{◌≡◌, ◌==◌, Option, Result, Ok, Err, ℕ, zero, suc, ◌+◌, ◌<◌, ◌≤◌, max, Bool, true, false, cond, List, [], ◌∷◌, ◌++◌, length, get_or, drop, refl, sym, ap, subst, ◌∙◌, arith, append_assoc, append-nil, add-zero, length-drop}
use Rattle.std.proofs.lemmas.List.{drop_all}
use Rattle.bc_core.specs.declared.expression.CoreExp.{CoreExp}
use Rattle.bc_core.specs.Tree.{Exp, Args, no_argument, argument, Root, Assign}
use Rattle.bc_core.specs.Operand.{operand_of}
use Rattle.bc_core.specs.declared.operands.Operand.{Operand}
use Rattle.bc_core.specs.View.{args}
use Rattle.bc_rules_defs.specs.declared.derivation.Derivation.{Derivation, out-Derivation}
use Rattle.bc_rules_defs.specs.declared.piece.Piece.{Piece}
use Rattle.bc_rules_defs.specs.declared.rule.Mode.TheVariants.{Any}
use Rattle.bc_rules_defs.specs.declared.rule.Aim.{Aim}
use Rattle.bc_rules_defs.specs.declared.rule.Aim.TheVariants.{Gets}
use Rattle.bc_rules_defs.specs.declared.rule.Rule.{Rule}
use Rattle.bc_rules_defs.specs.Piece.{S, SP, K, J, label}
use Rattle.bc_rules_defs.specs.Rules.{Tree, Trees, by, no_part, part, one, two, three}
use Rattle.bc_rules_defs.specs.Parts.{Parts, no_rule, leaf, single, pair, triple, called, parts_of, assignment_parts}
use Rattle.bc_rules_defs.specs.ByShape.{own_labels, part_level, first_target, with_operand, between, leaf_code, after_single, after_pair, after_sides, labels_by, labels_of_parts, labels_of_sides, code_by, code_of_parts, code_of_sides, root_labels_by, root_code_by}
use Rattle.bc_rules_defs.specs.View.{derivation, derivations}
use Rattle.bc_rules.specs.declared.code_fault.CodeFault.{CodeFault}
use Rattle.bc_rules.specs.declared.writer.Writer.{Writer}
use Rattle.bc_rules.specs.Adds.{Writes, Adds, Takes, least_for, WritesOrLacks}
use Rattle.bc_rules.specs.Code.{IsCodeOf, cells_of_root}
use Rattle.bc_rules.specs.Levels.{cells, cells_of_parts, cells_of_sides}
use Rattle.bc_rules_defs.proofs.ByShape.{root_code_same}
use Rattle.bc_rules.proofs.Cells.{parts_within, sides_within}
use Rattle.bc_rules.proofs.Trees.{tree_view, one_tree, two_trees, three_trees, next_tree}

then_adds : {u v w : Writer} {xs ys : List Piece} {n : ℕ} → Writes u v xs n → Adds v w ys → Writes u w (xs ++ ys) n
then_adds {u = u} {v = v} {w = w} {xs = xs} {ys = ys} {n = n} h i = record {
  pieces = i.pieces ∙ ap (λ z. z ++ ys) h.pieces ∙ append_assoc u.pieces.items xs ys;
  next = i.next ∙ h.next;
}

then_writes : {u v w : Writer} {xs ys : List Piece} {n m : ℕ} → Writes u v xs n → Writes v w ys m → Writes u w (xs ++ ys) (n + m)
then_writes {u = u} {v = v} {w = w} {xs = xs} {ys = ys} {n = n} {m = m} h i = record {
  pieces = i.pieces ∙ ap (λ z. z ++ ys) h.pieces ∙ append_assoc u.pieces.items xs ys;
  next = i.next ∙ omega (arith, h.next);
}

takes_writes : {u v w : Writer} {xs : List Piece} {n m : ℕ} → Takes u v n → Writes v w xs m → Writes u w xs (n + m)
takes_writes {u = u} {v = v} {w = w} {xs = xs} {n = n} {m = m} h i = record {
  pieces = i.pieces ∙ ap (λ z. z ++ xs) h.pieces;
  next = i.next ∙ omega (arith, h.next);
}

takes_adds : {u v w : Writer} {xs : List Piece} {n : ℕ} → Takes u v n → Adds v w xs → Writes u w xs n
takes_adds {u = u} {v = v} {w = w} {xs = xs} {n = n} h i = record { pieces = i.pieces ∙ ap (λ z. z ++ xs) h.pieces; next = i.next ∙ h.next }

writes_as : {u w : Writer} {xs ys : List Piece} {n m : ℕ} → Writes u w xs n → xs ≡ ys → n ≡ m → Writes u w ys m
writes_as {u = u} {w = w} {xs = xs} {ys = ys} {n = n} {m = m} h e k = record { pieces = h.pieces ∙ ap (λ z. u.pieces.items ++ z) e; next = h.next ∙ ap (λ z. u.next + z) k }

pub nothing : (u : Writer) → Writes u u [] 0
nothing u = record { pieces = sym (append-nil u.pieces.items); next = sym (add-zero u.next) }

get_or_any : (xs : List Derivation) (i : ℕ) (d y : Derivation) → i < length xs → get_or xs i d ≡ get_or xs i y
get_or_any [] i d y h = absurd (omega arith)
get_or_any (x ∷ xs) zero d y h = refl
get_or_any (x ∷ xs) (suc i) d y h = get_or_any xs i d y (omega arith)

-- no parts
pub leaf_writes_not : (r : Rule) (aim : Aim) (e : Exp) (v : Bool) (s t : ℕ) (xs : List Derivation) (u : Writer) (none : Bool) → none ≡ (length xs == 0) → none ≡ false → Writes u u (code_of_parts r aim e (leaf v) (derivations xs) s t u.next) (labels_of_parts r (leaf v) (derivations xs))
leaf_writes_not r aim e v s t [] u none h k = absurd (let w : true ≡ false = sym h ∙ k in cc)
leaf_writes_not r aim e v s t (x ∷ xs) u none h k = nothing u

pub leaf_writes : (r : Rule) (aim : Aim) (e : Exp) (v : Bool) (s t n f : ℕ) (xs : List Derivation) (u v1 w : Writer) → length xs ≡ 0 → n ≡ cond v 1 0 → f ≡ u.next → Takes u v1 n → Adds v1 w (leaf_code r aim e t f) → Writes u w (code_of_parts r aim e (leaf v) (derivations xs) s t u.next) (labels_of_parts r (leaf v) (derivations xs))
leaf_writes r aim e v s t n f [] u v1 w h k g i j = writes_as (takes_adds i j) (ap (leaf_code r aim e t) g) k
leaf_writes r aim e v s t n f (x ∷ xs) u v1 w h k g i j = absurd (omega arith)

-- one part
pub single_writes : (r : Rule) (aim : Aim) (e : Exp) (m : Aim) (a : Exp) (s t l : ℕ) (xs : List Derivation) (d x : Derivation) (u v w : Writer) → length xs ≡ 1
    → x ≡ get_or xs 0 d → l ≡ part_level r s
    → Writes u v (code_by (derivation x) m a l t u.next) (labels_by (derivation x) m a) → Adds v w (after_single r aim e t)
    → Writes u w (code_of_parts r aim e (single m a) (derivations xs) s t u.next) (labels_of_parts r (single m a) (derivations xs))
single_writes r aim e m a s t l xs d x u v w h hx hl i j =
    let is : derivations xs ≡ one (derivation x) = one_tree xs d h ∙ ap (λ y. one (derivation y)) (sym hx) in
    writes_as (then_adds i j)
    (ap (λ k. code_by (derivation x) m a k t u.next ++ after_single r aim e t) hl ∙ sym (ap (λ ds. code_of_parts r aim e (single m a) ds s t u.next) is))
    (sym (ap (labels_of_parts r (single m a)) is))

pub single_writes_not : (r : Rule) (aim : Aim) (e : Exp) (m : Aim) (a : Exp) (s t : ℕ) (xs : List Derivation) (u : Writer) → (length xs ≡ 1 → ⊥) → Writes u u (code_of_parts r aim e (single m a) (derivations xs) s t u.next) (labels_of_parts r (single m a) (derivations xs))
single_writes_not r aim e m a s t [] u h = nothing u
single_writes_not r aim e m a s t (x ∷ []) u h = absurd (h (omega arith))
single_writes_not r aim e m a s t (x ∷ y ∷ xs) u h = nothing u

-- two parts
pub pair_writes : (r : Rule) (aim : Aim) (e : Exp) (m n : Aim) (a b : Exp) (s t f o l g : ℕ) (xs : List Derivation) (d1 d2 x1 x2 : Derivation) (u v w x y z : Writer) → length xs ≡ 2
    → x1 ≡ get_or xs 0 d1 → x2 ≡ get_or xs 1 d2 → o ≡ own_labels r → l ≡ s + 1 → g ≡ first_target r t f → f ≡ u.next → Takes u v o
    → Writes v w (code_by (derivation x1) m a l g v.next) (labels_by (derivation x1) m a) → Adds w x (between r s)
    → Writes x y (code_by (derivation x2) n b l t x.next) (labels_by (derivation x2) n b) → Adds y z (after_pair r e s f)
    → Writes u z (code_of_parts r aim e (pair m a n b) (derivations xs) s t u.next) (labels_of_parts r (pair m a n b) (derivations xs))
pair_writes r aim e m n a b s t f o l g xs d1 d2 x1 x2 u v w x y z h h1 h2 ho hl hg hf i j k q p =
    let first = derivation x1 in
    let second = derivation x2 in
    let is : derivations xs ≡ two first second = two_trees xs d1 h ∙ ap (λ c. two (derivation c) (derivation (get_or xs 1 d1))) (sym h1) ∙ ap (λ c. two first (derivation c)) (get_or_any xs 1 d1 d2 (omega arith) ∙ sym h2) in
    let at1 : v.next ≡ u.next + own_labels r = i.next ∙ ap (λ c. u.next + c) ho in
    let at2 : x.next ≡ u.next + own_labels r + labels_by first m a = k.next ∙ j.next ∙ ap (λ c. c + labels_by first m a) at1 in
    let whole = λ (c1 c2 k1 k2 c : ℕ). (code_by first m a k1 k2 c1 ++ (between r s ++ code_by second n b k1 t c2)) ++ after_pair r e s c in
    writes_as (takes_writes i (then_adds (then_writes (then_adds j k) q) p))
    (ap (λ c. c ++ after_pair r e s f) (append_assoc (code_by first m a l g v.next) (between r s) (code_by second n b l t x.next))
    ∙ ap (λ c. whole v.next x.next c g f) hl
    ∙ ap (λ c. whole v.next x.next (s + 1) c f) hg
    ∙ ap (λ c. whole c x.next (s + 1) (first_target r t f) f) at1
    ∙ ap (λ c. whole (u.next + own_labels r) c (s + 1) (first_target r t f) f) at2
    ∙ ap (λ c. whole (u.next + own_labels r) (u.next + own_labels r + labels_by first m a) (s + 1) (first_target r t c) c) hf
    ∙ sym (ap (λ ds. code_of_parts r aim e (pair m a n b) ds s t u.next) is))
    (omega arith ∙ sym (ap (labels_of_parts r (pair m a n b)) is))

pub pair_writes_not : (r : Rule) (aim : Aim) (e : Exp) (m n : Aim) (a b : Exp) (s t : ℕ) (xs : List Derivation) (u : Writer) → (length xs ≡ 2 → ⊥) → Writes u u (code_of_parts r aim e (pair m a n b) (derivations xs) s t u.next) (labels_of_parts r (pair m a n b) (derivations xs))
pair_writes_not r aim e m n a b s t [] u h = nothing u
pair_writes_not r aim e m n a b s t (x ∷ []) u h = nothing u
pair_writes_not r aim e m n a b s t (x ∷ y ∷ []) u h = absurd (h (omega arith))
pair_writes_not r aim e m n a b s t (x ∷ y ∷ z ∷ xs) u h = nothing u

-- three parts
pub triple_writes : (r : Rule) (aim : Aim) (e : Exp) (m n l : Aim) (a b c : Exp) (s t f g k j : ℕ) (xs : List Derivation) (d1 d2 d3 x1 x2 x3 : Derivation) (u u1 u2 u3 u4 u5 u6 u7 : Writer) → length xs ≡ 3
    → x1 ≡ get_or xs 0 d1 → x2 ≡ get_or xs 1 d2 → x3 ≡ get_or xs 2 d3 → f ≡ u.next → g ≡ f → k ≡ f + 1 → j ≡ k → Takes u u1 2
    → Writes u1 u2 (code_by (derivation x1) m a s g u1.next) (labels_by (derivation x1) m a)
    → Writes u2 u3 (code_by (derivation x2) n b s t u2.next) (labels_by (derivation x2) n b)
    → Adds u3 u4 (J j ∷ []) → Adds u4 u5 (label f ∷ [])
    → Writes u5 u6 (code_by (derivation x3) l c s t u5.next) (labels_by (derivation x3) l c)
    → Adds u6 u7 (label k ∷ [])
    → Writes u u7 (code_of_parts r aim e (triple m a n b l c) (derivations xs) s t u.next) (labels_of_parts r (triple m a n b l c) (derivations xs))
triple_writes r aim e m n l a b c s t f g k j xs d1 d2 d3 x1 x2 x3 u u1 u2 u3 u4 u5 u6 u7 h h1 h2 h3 hf hg hk hj i0 i1 i2 i3 i4 i5 i6 =
    let y1 = derivation x1 in
    let y2 = derivation x2 in
    let y3 = derivation x3 in
    let is : derivations xs ≡ three y1 y2 y3 =
    three_trees xs d1 h ∙ ap (λ y. three (derivation y) (derivation (get_or xs 1 d1)) (derivation (get_or xs 2 d1))) (sym h1)
    ∙ ap (λ y. three y1 (derivation y) (derivation (get_or xs 2 d1))) (get_or_any xs 1 d1 d2 (omega arith) ∙ sym h2)
    ∙ ap (λ y. three y1 y2 (derivation y)) (get_or_any xs 2 d1 d3 (omega arith) ∙ sym h3) in
    let at1 : u2.next ≡ u.next + 2 + labels_by y1 m a = i1.next ∙ ap (λ v. v + labels_by y1 m a) i0.next in
    let at2 : u5.next ≡ u.next + 2 + labels_by y1 m a + labels_by y2 n b = i4.next ∙ i3.next ∙ i2.next ∙ ap (λ v. v + labels_by y2 n b) at1 in
    let A = code_by y1 m a s g u1.next in
    let B = code_by y2 n b s t u2.next in
    let C = code_by y3 l c s t u5.next in
    let whole = λ (v0 v1 v2 t0 t1 t2 t3 : ℕ). code_by y1 m a s t0 v0 ++ code_by y2 n b s t v1 ++ J t1 ∷ label t2 ∷ code_by y3 l c s t v2 ++ label t3 ∷ [] in
    let k1 : k ≡ u.next + 1 = hk ∙ ap (λ v. v + 1) hf in
    writes_as (takes_writes i0 (then_adds (then_writes (then_adds (then_adds (then_writes i1 i2) i3) i4) i5) i6))
    (ap (λ v. (v ++ C) ++ label k ∷ []) (append_assoc (A ++ B) (J j ∷ []) (label f ∷ []))
    ∙ ap (λ v. v ++ label k ∷ []) (append_assoc (A ++ B) (J j ∷ label f ∷ []) C)
    ∙ ap (λ v. whole v u2.next u5.next g j f k) i0.next
    ∙ ap (λ v. whole (u.next + 2) v u5.next g j f k) at1
    ∙ ap (λ v. whole (u.next + 2) (u.next + 2 + labels_by y1 m a) v g j f k) at2
    ∙ ap (λ v. whole (u.next + 2) (u.next + 2 + labels_by y1 m a) (u.next + 2 + labels_by y1 m a + labels_by y2 n b) v j f k) (hg ∙ hf)
    ∙ ap (λ v. whole (u.next + 2) (u.next + 2 + labels_by y1 m a) (u.next + 2 + labels_by y1 m a + labels_by y2 n b) u.next v f k) (hj ∙ k1)
    ∙ ap (λ v. whole (u.next + 2) (u.next + 2 + labels_by y1 m a) (u.next + 2 + labels_by y1 m a + labels_by y2 n b) u.next (u.next + 1) v k) hf
    ∙ ap (λ v. whole (u.next + 2) (u.next + 2 + labels_by y1 m a) (u.next + 2 + labels_by y1 m a + labels_by y2 n b) u.next (u.next + 1) u.next v) k1
    ∙ sym (ap (λ ds. code_of_parts r aim e (triple m a n b l c) ds s t u.next) is))
    (omega arith ∙ sym (ap (labels_of_parts r (triple m a n b l c)) is))

pub triple_writes_not : (r : Rule) (aim : Aim) (e : Exp) (m n l : Aim) (a b c : Exp) (s t : ℕ) (xs : List Derivation) (u : Writer) → (length xs ≡ 3 → ⊥) → Writes u u (code_of_parts r aim e (triple m a n b l c) (derivations xs) s t u.next) (labels_of_parts r (triple m a n b l c) (derivations xs))
triple_writes_not r aim e m n l a b c s t [] u h = nothing u
triple_writes_not r aim e m n l a b c s t (x ∷ []) u h = nothing u
triple_writes_not r aim e m n l a b c s t (x ∷ y ∷ []) u h = nothing u
triple_writes_not r aim e m n l a b c s t (x ∷ y ∷ z ∷ []) u h = absurd (h (omega arith))
triple_writes_not r aim e m n l a b c s t (x ∷ y ∷ z ∷ k ∷ xs) u h = nothing u

-- a part has no more labels and cells than the whole
within : (y : CodeFault) (next n m c k : ℕ) → least_for y ≤ max (next + n) c → n ≡ m → c ≤ k → least_for y ≤ max (next + m) k
within y next n m c k h i j = omega arith

-- a derivation as the program has it
pub tree_writes : {X : Type 0} (z : Result X CodeFault) (d : Derivation) (xs : List Derivation) (aim : Aim) (e : Exp) (s t : ℕ) (p : Parts) (u w : Writer) → xs ≡ (out-Derivation d).parts.items → p ≡ parts_of (out-Derivation d).rule aim e
    → WritesOrLacks z u w (code_of_parts (out-Derivation d).rule aim e p (derivations xs) s t u.next) (labels_of_parts (out-Derivation d).rule p (derivations xs)) (cells_of_parts (out-Derivation d).rule p s)
    → WritesOrLacks z u w (code_by (derivation d) aim e s t u.next) (labels_by (derivation d) aim e) (cells e s)
tree_writes (Ok x) d xs aim e s t p u w k h i =
    let r = (out-Derivation d).rule in
    let tree : by r (derivations xs) ≡ derivation d = ap (λ ys. by r (derivations ys)) k ∙ sym (tree_view d) in
    writes_as i (ap (λ q. code_of_parts r aim e q (derivations xs) s t u.next) h ∙ ap (λ x. code_by x aim e s t u.next) tree)
    (ap (λ q. labels_of_parts r q (derivations xs)) h ∙ ap (λ x. labels_by x aim e) tree)
tree_writes (Err y) d xs aim e s t p u w k h i =
    let r = (out-Derivation d).rule in
    let tree : by r (derivations xs) ≡ derivation d = ap (λ ys. by r (derivations ys)) k ∙ sym (tree_view d) in
    within y u.next _ _ _ _ i (ap (λ q. labels_of_parts r q (derivations xs)) h ∙ ap (λ x. labels_by x aim e) tree)
    (subst (λ q. cells_of_parts r q s ≤ cells e s) (sym h) (parts_within r aim e s))

pub none_writes : (r : Rule) (aim : Aim) (e : Exp) (s t : ℕ) (ds : Trees) (u : Writer) → Writes u u (code_of_parts r aim e no_rule ds s t u.next) (labels_of_parts r no_rule ds)
none_writes r aim e s t ds u = nothing u

-- the end of a call: what was written and the rest make the whole
ends_as : (u v : Writer) (C D : List Piece) (L M : ℕ) → D ≡ [] → M ≡ 0 → v.next + M ≡ u.next + L → v.pieces.items ++ D ≡ u.pieces.items ++ C → Writes u v C L
ends_as u v C D L M h k i j = record { pieces = sym (append-nil v.pieces.items) ∙ ap (λ z. v.pieces.items ++ z) (sym h) ∙ j; next = omega arith }

none_code : (r : Rule) (aim : Aim) (e : Exp) (i : ℕ) (es : Args) (g : Exp) (s t f : ℕ) → code_of_parts r aim e (called i es g) no_part s t f ≡ []
none_code r aim e i no_argument g s t f = refl
none_code r aim e i (argument a es) g s t f = refl

none_labels : (r : Rule) (i : ℕ) (es : Args) (g : Exp) → labels_of_parts r (called i es g) no_part ≡ 0
none_labels r i no_argument g = refl
none_labels r i (argument a es) g = refl

-- too few trees
pub call_stops : (r : Rule) (aim : Aim) (e : Exp) (xs : List Derivation) (es : List CoreExp) (g : Exp) (i s t : ℕ) (u v : Writer) (C : List Piece) (L : ℕ) → length xs ≤ i
    → v.next + labels_of_parts r (called i (args (drop i es)) g) (derivations (drop i xs)) ≡ u.next + L
    → v.pieces.items ++ code_of_parts r aim e (called i (args (drop i es)) g) (derivations (drop i xs)) s t v.next ≡ u.pieces.items ++ C
    → Writes u v C L
call_stops r aim e xs es g i s t u v C L h j k =
    let is : derivations (drop i xs) ≡ no_part = ap derivations (drop_all i xs h) in
    ends_as u v C _ L _ (ap (λ ds. code_of_parts r aim e (called i (args (drop i es)) g) ds s t v.next) is ∙ none_code r aim e i (args (drop i es)) g s t v.next)
    (ap (labels_of_parts r (called i (args (drop i es)) g)) is ∙ none_labels r i (args (drop i es)) g) j k

-- no argument remains, and the number of trees isn't one
other_code : (r : Rule) (aim : Aim) (e : Exp) (i : ℕ) (g : Exp) (xs : List Derivation) (s t f : ℕ) → (length xs ≡ 1 → ⊥) → code_of_parts r aim e (called i no_argument g) (derivations xs) s t f ≡ []
other_code r aim e i g [] s t f h = refl
other_code r aim e i g (x ∷ []) s t f h = absurd (h (omega arith))
other_code r aim e i g (x ∷ y ∷ xs) s t f h = refl

other_labels : (r : Rule) (i : ℕ) (g : Exp) (xs : List Derivation) → (length xs ≡ 1 → ⊥) → labels_of_parts r (called i no_argument g) (derivations xs) ≡ 0
other_labels r i g [] h = refl
other_labels r i g (x ∷ []) h = absurd (h (omega arith))
other_labels r i g (x ∷ y ∷ xs) h = refl

no_arguments : (i : ℕ) (es : List CoreExp) → i ≡ length es → args (drop i es) ≡ no_argument
no_arguments i es h = ap args (drop_all i es (omega arith))

pub call_misfit : (r : Rule) (aim : Aim) (e : Exp) (xs : List Derivation) (es : List CoreExp) (g : Exp) (i s t : ℕ) (u v : Writer) (C : List Piece) (L : ℕ) → i ≡ length es → (length xs ≡ i + 1 → ⊥)
    → v.next + labels_of_parts r (called i (args (drop i es)) g) (derivations (drop i xs)) ≡ u.next + L
    → v.pieces.items ++ code_of_parts r aim e (called i (args (drop i es)) g) (derivations (drop i xs)) s t v.next ≡ u.pieces.items ++ C
    → Writes u v C L
call_misfit r aim e xs es g i s t u v C L h n j k =
    let many : length (drop i xs) ≡ 1 → ⊥ = λ o. n (let l = length-drop i xs in omega arith) in
    ends_as u v C _ L _ (ap (λ z. code_of_parts r aim e (called i z g) (derivations (drop i xs)) s t v.next) (no_arguments i es h) ∙ other_code r aim e i g (drop i xs) s t v.next many)
    (ap (λ z. labels_of_parts r (called i z g) (derivations (drop i xs))) (no_arguments i es h) ∙ other_labels r i g (drop i xs) many) j k

-- the routine
pub call_writes : (r : Rule) (aim : Aim) (e : Exp) (xs : List Derivation) (es : List CoreExp) (g : Exp) (i s t l o : ℕ) (d x : Derivation) (u v w z : Writer) (C : List Piece) (L : ℕ) → i ≡ length es → length xs ≡ i + 1
    → x ≡ get_or xs (length es) d → l ≡ s + 2 + i → o ≡ s
    → v.next + labels_of_parts r (called i (args (drop i es)) g) (derivations (drop i xs)) ≡ u.next + L
    → v.pieces.items ++ code_of_parts r aim e (called i (args (drop i es)) g) (derivations (drop i xs)) s t v.next ≡ u.pieces.items ++ C
    → Writes v w (code_by (derivation x) (Gets Any) g l t v.next) (labels_by (derivation x) (Gets Any) g) → Adds w z (K o ∷ [])
    → Writes u z C L
call_writes r aim e xs es g i s t l o d x u v w z C L h n hx hl ho j k p q =
    let trees : derivations (drop i xs) ≡ one (derivation x) =
    next_tree xs i d (omega arith) ∙ ap (λ y. part (derivation y) (derivations (drop (i + 1) xs))) (ap (λ y. get_or xs y d) h ∙ sym hx)
    ∙ ap (λ y. part (derivation x) (derivations y)) (drop_all (i + 1) xs (omega arith)) in
    let rest = Writes v z (code_of_parts r aim e (called i (args (drop i es)) g) (derivations (drop i xs)) s t v.next) (labels_of_parts r (called i (args (drop i es)) g) (derivations (drop i xs))) in
    let last : rest = writes_as (then_adds p q)
    (ap (λ y. code_by (derivation x) (Gets Any) g y t v.next ++ K o ∷ []) hl ∙ ap (λ y. code_by (derivation x) (Gets Any) g (s + 2 + i) t v.next ++ K y ∷ []) ho
    ∙ sym (ap (λ ds. code_of_parts r aim e (called i no_argument g) ds s t v.next) trees)
    ∙ sym (ap (λ y. code_of_parts r aim e (called i y g) (derivations (drop i xs)) s t v.next) (no_arguments i es h)))
    (sym (ap (labels_of_parts r (called i no_argument g)) trees) ∙ sym (ap (λ y. labels_of_parts r (called i y g) (derivations (drop i xs))) (no_arguments i es h))) in
    record { pieces = last.pieces ∙ k; next = last.next ∙ j }

-- an assignment
pub assignment_writes : {X : Type 0} (z : Result X CodeFault) (d : Derivation) (xs : List Derivation) (v a : Exp) (s t : ℕ) (p : Parts) (u w : Writer) → xs ≡ (out-Derivation d).parts.items → p ≡ assignment_parts (out-Derivation d).rule v a
    → WritesOrLacks z u w (code_of_sides (out-Derivation d).rule a p (derivations xs) s t u.next) (labels_of_sides p (derivations xs)) (cells_of_sides p s)
    → WritesOrLacks z u w (root_code_by (Assign s v a) (derivation d) t u.next) (root_labels_by (Assign s v a) (derivation d)) (cells_of_root (Assign s v a))
assignment_writes (Ok x) d xs v a s t p u w k h i =
    let r = (out-Derivation d).rule in
    let tree : by r (derivations xs) ≡ derivation d = ap (λ ys. by r (derivations ys)) k ∙ sym (tree_view d) in
    writes_as i (ap (λ q. code_of_sides r a q (derivations xs) s t u.next) h ∙ ap (λ x. root_code_by (Assign s v a) x t u.next) tree)
    (ap (λ q. labels_of_sides q (derivations xs)) h ∙ ap (λ x. root_labels_by (Assign s v a) x) tree)
assignment_writes (Err y) d xs v a s t p u w k h i =
    let r = (out-Derivation d).rule in
    let tree : by r (derivations xs) ≡ derivation d = ap (λ ys. by r (derivations ys)) k ∙ sym (tree_view d) in
    within y u.next _ _ _ _ i (ap (λ q. labels_of_sides q (derivations xs)) h ∙ ap (λ x. root_labels_by (Assign s v a) x) tree)
    (subst (λ q. cells_of_sides q s ≤ cells_of_root (Assign s v a)) (sym h) (sides_within r v a s))

pub side_writes : (r : Rule) (address : Exp) (m : Aim) (a : Exp) (s t : ℕ) (o : Option Operand) (xs : List Derivation) (d x : Derivation) (u v w : Writer) → length xs ≡ 1
    → x ≡ get_or xs 0 d → o ≡ operand_of address
    → Writes u v (code_by (derivation x) m a s t u.next) (labels_by (derivation x) m a) → Adds v w (with_operand S o [])
    → Writes u w (code_of_sides r address (single m a) (derivations xs) s t u.next) (labels_of_sides (single m a) (derivations xs))
side_writes r address m a s t o xs d x u v w h hx ho i j =
    let is : derivations xs ≡ one (derivation x) = one_tree xs d h ∙ ap (λ y. one (derivation y)) (sym hx) in
    writes_as (then_adds i j)
    (ap (λ y. code_by (derivation x) m a s t u.next ++ with_operand S y []) ho ∙ sym (ap (λ ds. code_of_sides r address (single m a) ds s t u.next) is))
    (sym (ap (labels_of_sides (single m a)) is))

pub side_writes_not : (r : Rule) (address : Exp) (m : Aim) (a : Exp) (s t : ℕ) (xs : List Derivation) (u : Writer) → (length xs ≡ 1 → ⊥)
    → Writes u u (code_of_sides r address (single m a) (derivations xs) s t u.next) (labels_of_sides (single m a) (derivations xs))
side_writes_not r address m a s t [] u h = nothing u
side_writes_not r address m a s t (x ∷ []) u h = absurd (h (omega arith))
side_writes_not r address m a s t (x ∷ y ∷ xs) u h = nothing u

pub sides_write : (r : Rule) (address : Exp) (m n : Aim) (a b : Exp) (s t l : ℕ) (xs : List Derivation) (d1 d2 x1 x2 : Derivation) (u v w y z : Writer) → length xs ≡ 2
    → x1 ≡ get_or xs 0 d1 → x2 ≡ get_or xs 1 d2 → l ≡ s + 1
    → Writes u v (code_by (derivation x1) m a l t u.next) (labels_by (derivation x1) m a) → Adds v w (SP s ∷ [])
    → Writes w y (code_by (derivation x2) n b l t w.next) (labels_by (derivation x2) n b) → Adds y z (after_sides r s)
    → Writes u z (code_of_sides r address (pair m a n b) (derivations xs) s t u.next) (labels_of_sides (pair m a n b) (derivations xs))
sides_write r address m n a b s t l xs d1 d2 x1 x2 u v w y z h h1 h2 hl i j k q =
    let first = derivation x1 in
    let second = derivation x2 in
    let is : derivations xs ≡ two first second = two_trees xs d1 h ∙ ap (λ c. two (derivation c) (derivation (get_or xs 1 d1))) (sym h1) ∙ ap (λ c. two first (derivation c)) (get_or_any xs 1 d1 d2 (omega arith) ∙ sym h2) in
    let whole = λ (c1 c2 : ℕ). code_by first m a c1 t u.next ++ SP s ∷ code_by second n b c1 t c2 ++ after_sides r s in
    writes_as (then_adds (then_writes (then_adds i j) k) q)
    (ap (λ c. c ++ after_sides r s) (append_assoc (code_by first m a l t u.next) (SP s ∷ []) (code_by second n b l t w.next))
    ∙ ap (λ c. whole c w.next) hl ∙ ap (λ c. whole (s + 1) c) (j.next ∙ i.next)
    ∙ sym (ap (λ ds. code_of_sides r address (pair m a n b) ds s t u.next) is))
    (sym (ap (labels_of_sides (pair m a n b)) is))

pub sides_write_not : (r : Rule) (address : Exp) (m n : Aim) (a b : Exp) (s t : ℕ) (xs : List Derivation) (u : Writer) → (length xs ≡ 2 → ⊥)
    → Writes u u (code_of_sides r address (pair m a n b) (derivations xs) s t u.next) (labels_of_sides (pair m a n b) (derivations xs))
sides_write_not r address m n a b s t [] u h = nothing u
sides_write_not r address m n a b s t (x ∷ []) u h = nothing u
sides_write_not r address m n a b s t (x ∷ y ∷ []) u h = absurd (h (omega arith))
sides_write_not r address m n a b s t (x ∷ y ∷ z ∷ xs) u h = nothing u

-- the whole
pub code_is_written : (r : Root) (x : Tree) (t f n : ℕ) (u w : Writer) → u.pieces.items ≡ [] → u.next ≡ f → Writes u w (root_code_by r x t u.next) n → IsCodeOf r x t f w.pieces.items
code_is_written r x t f n u w h k i = record {
  exact = λ T d e. i.pieces ∙ ap (λ ps. ps ++ root_code_by r x t u.next) h ∙ ap (λ g. root_code_by r x t g) k ∙ ap (λ y. root_code_by r y t f) (sym e) ∙ sym (root_code_same d t f);
}
