-- The rules at nodes other than dyadic operators: which ones the checker finds, and the derivations that begin with them.
use Rattle.std.proofs.Common.{◌≡◌, ℕ, ◌+◌, ◌≤◌, Bool, true, false, cond, Option, Some, None, List, [], ◌∷◌, ◌++◌, refl, ap, sym, subst, ◌∙◌, arith, append_assoc}
use Rattle.std.specs.Prelude.{◌&&◌, not}
use Rattle.std.proofs.lemmas.Bool.{and_parts, and_from}
use Rattle.bc_core.specs.declared.operands.Operand.{Operand}
use Rattle.bc_core.specs.Operand.{operand_of}
use Rattle.bc_core.specs.Tree.{Exp, Num, Load, Neg, Not, Cond, Call, Valof, Args, count}
use Rattle.bc_rules_defs.specs.declared.rule.Table.{Table}
use Rattle.bc_rules_defs.specs.declared.rule.Mode.TheVariants.{Any, Push}
use Rattle.bc_rules_defs.specs.declared.rule.Aim.{Aim}
use Rattle.bc_rules_defs.specs.declared.rule.Aim.TheVariants.{Gets, Jumps}
use Rattle.bc_rules_defs.specs.declared.rule.Rule.{Rule}
use Rattle.bc_rules_defs.specs.declared.rule.Rule.TheVariants.{V1, V2, V3, V4, V20, V21, V22, J1, J6, J7}
use Rattle.bc_rules_defs.specs.Free.{jumps_at}
use Rattle.bc_rules_defs.specs.Piece.{w, operand_words}
use Rattle.bc_rules_defs.specs.Rules.{Derives, v0, v1, v2, v3, v4, v20, v21, v22, v22_valof, j1, j6, j7, DerivesAll, no_more, one_more, Tree, Trees, by, no_part, part, one, end_with, shape, shapes}
use Rattle.bc_rules_defs.specs.Code.{cost, all_cost}
use Rattle.bc_select_defs.specs.Least.{first_rule}
use Rattle.bc_select_defs.specs.Options.{sum}
use Rattle.bc_cert_read.specs.declared.facts.Facts.{Facts}
use Rattle.bc_cert_read.specs.declared.form.Form.{Form}
use Rattle.bc_cert_read.specs.declared.form.Form.TheVariants as forms
use Rattle.bc_rules_defs.specs.declared.takes.Takes.TheVariants as takes
use Rattle.bc_cert_read.specs.Costs.{cost_of}
use Rattle.bc_cert_read.specs.Node.{Node, more_words, words_from, no_parts}
use Rattle.bc_cert_read.specs.Recipe.{words_of_operand, words_of_operand_of, of_operand, of_number, of_load, of_neg, of_not, of_cond, of_call, of_valof}
use Rattle.bc_cert_read.specs.declared.mark.TreeFacts.{TreeFacts}
use Rattle.bc_cert_read.specs.Marks.{all_bare}
use Rattle.bc_cert_read.specs.Showing.{has_words, agree, makes_by, makes}
use Rattle.bc_cert_read.specs.Derived.{trees}
use Rattle.bc_cert_write.specs.Shown.{Shown, below_bare, rules_of_value, rules_at, below, all_shown, shown}
use Rattle.bc_cert_write.proofs.Bare.{below_is}
use Rattle.bc_cert_laws.specs.Standing.{IsFewest, Begins, begun}
use Rattle.bc_cert_laws.proofs.Over.{some_same, StandsAt, AreArguments, routine, next, Over, num, valof, load, neg, not as not_over, choice, call}
use Rattle.bc_cert_laws.proofs.Kept.{two_true, true_two, pair_of, bare_to, bare_from, cut}
use Rattle.bc_cert_laws.proofs.Parts.{shown_order, part_to, part_from, words_are, are_words}

abbrev pub node_at : Table → ℕ → Form → Exp → List Facts → Node
node_at T s form e ps = record { table = T; level = s; form = form; operand = words_of_operand_of e; parts = ps }

-- a derivation that begins with one rule at its node
abbrev pub Alone : {T : Table} {e : Exp} {aim : Aim} → Derives T e aim → Type 0
Alone d = rules_at d ≡ first_rule d ∷ []

value_rules : {T : Table} {e : Exp} {aim : Aim} (d : Derives T e aim) → rules_of_value d ≡ [] → ⊥
value_rules (v0 d) h = cc
value_rules d h = cc

pub not_tested : {T : Table} {e : Exp} (d : Derives T e (Gets Any)) → J6 ∷ rules_of_value d ≡ J6 ∷ [] → ⊥
not_tested d g = let k : rules_of_value d ≡ [] = cc in value_rules d k

-- an operand
nothing_more : (s n at : ℕ) (ps : List Facts) → words_from takes.Nothing s (Some n) at ps ≡ Some n
unfolding sum
nothing_more s n at [] = refl
nothing_more s n at (p ∷ ps) = ap (λ k. words_from takes.Nothing s (Some k) (at + 1) ps) (omega arith) ∙ nothing_more s n (at + 1) ps

agree_bare : (at : ℕ) (ms : List TreeFacts) → agree takes.Nothing at ms ≡ all_bare ms
agree_bare at [] = refl
agree_bare at (m ∷ ms) = ap (λ b. cond m.is_bare b false) (agree_bare (at + 1) ms)

pub operand_begins : {T : Table} {s : ℕ} {form : Form} {ns : List Shown} {ms : List TreeFacts} {ps : List Facts} {xs : List Tree} {e : Exp} → Over T s form ns ms ps xs e → (aim : Aim) (k : ℕ) (o : Option Operand) → operand_of e ≡ o
    → makes_by (node_at T s form e ps) ms (Some k) (of_operand aim (words_of_operand o)) ≡ true → Begins T e aim s V1 k ns
operand_begins i (Gets Push) k None g h = cc
operand_begins {s = s} {ms = ms} {ps = ps} {e = e} i (Gets Push) k (Some o) g h =
    let c = and_parts _ _ h in
    let words = some_same (sym (nothing_more s (operand_words o + 0) 0 ps) ∙ words_are _ k c.0) in
    record { derivation = v1 g; first = refl; counted = omega arith; parts = below_is e s ∙ sym (bare_to i (sym (agree_bare 0 ms) ∙ c.1)) }
operand_begins i (Gets Any) k o g h = cc
operand_begins i (Jumps sense) k o g h = cc

pub operand_makes : {T : Table} {s : ℕ} {form : Form} {ns : List Shown} {ms : List TreeFacts} {ps : List Facts} {xs : List Tree} {e : Exp} {o : Operand} → Over T s form ns ms ps xs e → operand_of e ≡ Some o → below_bare e s ≡ ns
    → (makes (node_at T s form e ps) ms V1 (Gets Push) (Some (operand_words o)) ≡ true) × (by V1 no_part ≡ begun V1 ps xs)
operand_makes {T = T} {s = s} {form = form} {ms = ms} {ps = ps} {e = e} {o = o} i g b =
    let same : operand_words o + 0 ≡ operand_words o = omega arith in (
      ap (λ x. makes_by (node_at T s form e ps) ms (Some (operand_words o)) (of_operand (Gets Push) (words_of_operand x))) g
          ∙ and_from _ _ (are_words _ _ (nothing_more s (operand_words o + 0) 0 ps ∙ ap Some same)) (agree_bare 0 ms ∙ bare_from i (sym b ∙ below_is e s)),
      refl,
    )

-- a rule on one part
one_words : (s : ℕ) (p : Facts) (aim : Aim) (k c : ℕ) → cost_of aim p.costs ≡ Some c → words_from (takes.First aim) s (Some k) 0 (p ∷ []) ≡ Some (c + k)
unfolding sum
one_words s p aim k c h = ap (λ y. sum (Some k) (more_words y 0)) h ∙ ap Some (omega arith)

record OnPart (T : Table) (a : Exp) (s : ℕ) (ns : List Shown) (aim : Aim) (k n : ℕ) : Type 0 where
  derivation : Derives T a aim
  parts : shown derivation s ≡ ns
  words : cost derivation s + k ≡ n

one_to : {T : Table} {a : Exp} {s : ℕ} {ns : List Shown} {m : TreeFacts} {p : Facts} {x : Tree} → StandsAt T a s ns m p x → (aim : Aim) (k n : ℕ) → has_words (words_from (takes.First aim) s (Some k) 0 (p ∷ [])) (Some n) && agree (takes.First aim) 0 (m ∷ []) ≡ true
    → OnPart T a s ns aim k n
one_to {s = s} {p = p} h aim k n g =
    let c = and_parts _ _ g in
    let d = part_to h aim (two_true _ _ c.1).0 in
    record { derivation = d.derivation; parts = d.shown; words = some_same (sym (one_words s p aim k _ d.counted) ∙ words_are _ n c.0) }

one_from : {T : Table} {a : Exp} {s : ℕ} {ns : List Shown} {m : TreeFacts} {p : Facts} {x : Tree} {aim : Aim} → StandsAt T a s ns m p x → (d : Derives T a aim) (k n : ℕ) → cost d s + k ≡ n → shown d s ≡ ns → IsFewest d s
    → (has_words (words_from (takes.First aim) s (Some k) 0 (p ∷ [])) (Some n) && agree (takes.First aim) 0 (m ∷ []) ≡ true) × (shape d ≡ x)
one_from {s = s} {p = p} {aim = aim} h d k n e b f =
    let o = part_from h d b f in
    (and_from _ _ (are_words _ n (one_words s p aim k _ o.counted ∙ ap Some e)) (true_two _ _ o.agrees refl), o.shape)

-- what the rules of a form make
pub load_to : {T : Table} {a : Exp} {s : ℕ} {ns : List Shown} {m : TreeFacts} {p : Facts} {x : Tree} → StandsAt T a s ns m p x → (r : Rule) (aim : Aim) (k : ℕ) → makes_by (node_at T s forms.Load (Load a) (p ∷ [])) (m ∷ []) (Some k) (of_load r aim) ≡ true
    → Begins T (Load a) aim s r k ns
load_to h V2 (Gets m) k g = let o = one_to h (Gets m) 1 k g in record { derivation = v2 o.derivation; first = refl; counted = o.words; parts = o.parts }
load_to h r aim k g = cc

pub load_from : {T : Table} {a : Exp} {s : ℕ} {ns : List Shown} {m : TreeFacts} {p : Facts} {x : Tree} {aim : Aim} → StandsAt T a s ns m p x → (d : Derives T (Load a) aim) → Alone d → below d s ≡ ns → IsFewest d s
    → (makes (node_at T s forms.Load (Load a) (p ∷ [])) (m ∷ []) (first_rule d) aim (Some (cost d s)) ≡ true) × (shape d ≡ begun (first_rule d) (p ∷ []) (x ∷ []))
load_from h (v0 d) g b f = cc
load_from h (v1 i) g b f = operand_makes (load h) i b
load_from {s = s} h (v2 d) g b f = let o = one_from h d 1 _ refl b (λ other. let i = f (v2 other) in omega arith) in (o.0, ap (λ t. by V2 (one t)) o.1)
load_from h (j6 i d) g b f = absurd (not_tested d g)

pub neg_to : {T : Table} {a : Exp} {s : ℕ} {ns : List Shown} {m : TreeFacts} {p : Facts} {x : Tree} → StandsAt T a s ns m p x → (r : Rule) (aim : Aim) (k : ℕ) → makes_by (node_at T s forms.Neg (Neg a) (p ∷ [])) (m ∷ []) (Some k) (of_neg r aim) ≡ true
    → Begins T (Neg a) aim s r k ns
neg_to h V3 (Gets m) k g = let o = one_to h (Gets m) 1 k g in record { derivation = v3 o.derivation; first = refl; counted = o.words; parts = o.parts }
neg_to h r aim k g = cc

pub neg_from : {T : Table} {a : Exp} {s : ℕ} {ns : List Shown} {m : TreeFacts} {p : Facts} {x : Tree} {aim : Aim} → StandsAt T a s ns m p x → (d : Derives T (Neg a) aim) → Alone d → below d s ≡ ns → IsFewest d s
    → (makes (node_at T s forms.Neg (Neg a) (p ∷ [])) (m ∷ []) (first_rule d) aim (Some (cost d s)) ≡ true) × (shape d ≡ begun (first_rule d) (p ∷ []) (x ∷ []))
neg_from h (v0 d) g b f = cc
neg_from h (v1 i) g b f = operand_makes (neg h) i b
neg_from {s = s} h (v3 d) g b f = let o = one_from h d 1 _ refl b (λ other. let i = f (v3 other) in omega arith) in (o.0, ap (λ t. by V3 (one t)) o.1)
neg_from h (j6 i d) g b f = absurd (not_tested d g)

pub not_to : {T : Table} {a : Exp} {s : ℕ} {ns : List Shown} {m : TreeFacts} {p : Facts} {x : Tree} → StandsAt T a s ns m p x → (r : Rule) (aim : Aim) (k : ℕ) → makes_by (node_at T s forms.Not (Not a) (p ∷ [])) (m ∷ []) (Some k) (of_not r aim) ≡ true
    → Begins T (Not a) aim s r k ns
not_to h V4 (Gets m) k g = let o = one_to h (Gets m) 1 k g in record { derivation = v4 o.derivation; first = refl; counted = o.words; parts = o.parts }
not_to h J1 (Jumps sense) k g =
    let o = one_to h (Jumps (not sense)) 0 k g in
    let words = o.words in
    record { derivation = j1 o.derivation; first = refl; counted = omega arith; parts = o.parts }
not_to h r aim k g = cc

pub not_from : {T : Table} {a : Exp} {s : ℕ} {ns : List Shown} {m : TreeFacts} {p : Facts} {x : Tree} {aim : Aim} → StandsAt T a s ns m p x → (d : Derives T (Not a) aim) → Alone d → below d s ≡ ns → IsFewest d s
    → (makes (node_at T s forms.Not (Not a) (p ∷ [])) (m ∷ []) (first_rule d) aim (Some (cost d s)) ≡ true) × (shape d ≡ begun (first_rule d) (p ∷ []) (x ∷ []))
not_from h (v0 d) g b f = cc
not_from h (v1 i) g b f = operand_makes (not_over h) i b
not_from {s = s} h (v4 d) g b f = let o = one_from h d 1 _ refl b (λ other. let i = f (v4 other) in omega arith) in (o.0, ap (λ t. by V4 (one t)) o.1)
not_from {s = s} h (j1 d) g b f = let o = one_from h d 0 (cost d s) (omega arith) b (λ other. f (j1 other)) in (o.0, ap (λ t. by J1 (one t)) o.1)
not_from h (j6 i d) g b f = absurd (not_tested d g)

-- a number, and a VALOF
pub number_to : (T : Table) (s n : ℕ) (r : Rule) (aim : Aim) (k : ℕ) → makes_by (node_at T s (forms.Num n) (Num n) []) [] (Some k) (of_number r aim n) ≡ true → Begins T (Num n) aim s r k []
number_to T s n J7 (Jumps sense) k g = record { derivation = j7; first = refl; counted = some_same (words_are (Some (cond (jumps_at sense n) 2 0)) k (and_parts _ _ g).0); parts = refl }
number_to T s n r aim k g = cc

pub number_from : {T : Table} {n : ℕ} {aim : Aim} (s : ℕ) (d : Derives T (Num n) aim) → Alone d → below d s ≡ [] → (makes (node_at T s (forms.Num n) (Num n) []) [] (first_rule d) aim (Some (cost d s)) ≡ true) × (shape d ≡ begun (first_rule d) [] [])
number_from s (v0 d) g b = cc
number_from {T = T} {n = n} s (v1 i) g b = operand_makes {T = T} {s = s} (num {n = n}) i b
number_from s (j6 i d) g b = absurd (not_tested d g)
number_from s j7 g b = (and_from _ _ (are_words _ _ refl) refl, refl)

pub valof_to : (T : Table) (s n : ℕ) (r : Rule) (aim : Aim) (k : ℕ) → makes_by (node_at T s (forms.Valof n) (Valof n) []) [] (Some k) (of_valof r aim) ≡ true → Begins T (Valof n) aim s r k []
valof_to T s n V22 (Gets Any) k g = record { derivation = v22_valof; first = refl; counted = some_same (words_are (Some 0) k (and_parts _ _ g).0); parts = refl }
valof_to T s n r aim k g = cc

pub valof_from : {T : Table} {n : ℕ} {aim : Aim} (s : ℕ) (d : Derives T (Valof n) aim) → Alone d → below d s ≡ [] → (makes (node_at T s (forms.Valof n) (Valof n) []) [] (first_rule d) aim (Some (cost d s)) ≡ true) × (shape d ≡ begun (first_rule d) [] [])
valof_from s (v0 d) g b = cc
valof_from {T = T} {n = n} s (v1 i) g b = operand_makes {T = T} {s = s} (valof {n = n}) i b
valof_from s (j6 i d) g b = absurd (not_tested d g)
valof_from s v22_valof g b = (refl, refl)

-- a choice
three_words : (s : ℕ) (o p q : Facts) (sense : Bool) (k a b c : ℕ) → cost_of (Jumps sense) o.costs ≡ Some a → cost_of (Gets Any) p.costs ≡ Some b → cost_of (Gets Any) q.costs ≡ Some c
    → words_from (takes.Choice sense) s (Some k) 0 (o ∷ p ∷ q ∷ []) ≡ Some (a + b + c + k)
unfolding sum
three_words s o p q sense k a b c h i j =
    ap (λ u. sum (sum (sum (Some k) (more_words u 0)) (more_words (cost_of (Gets Any) p.costs) 0)) (more_words (cost_of (Gets Any) q.costs) 0)) h
    ∙ ap (λ u. sum (sum (Some (k + (a + 0))) (more_words u 0)) (more_words (cost_of (Gets Any) q.costs) 0)) i
    ∙ ap (λ u. sum (Some (k + (a + 0) + (b + 0))) (more_words u 0)) j
    ∙ ap Some (omega arith)

record OnThree (T : Table) (s : ℕ) (sense : Bool) (a b c : Exp) (ns : List Shown) (k n : ℕ) : Type 0 where
  condition : Derives T a (Jumps sense)
  this : Derives T b (Gets Any)
  that : Derives T c (Gets Any)
  parts : (shown condition s ++ shown this s) ++ shown that s ≡ ns
  words : cost condition s + cost this s + cost that s + k ≡ n

three_to : {T : Table} {a b c : Exp} {s : ℕ} {ks ns os : List Shown} {l m n : TreeFacts} {o p q : Facts} {x y z : Tree} → StandsAt T a s ks l o x → StandsAt T b s ns m p y → StandsAt T c s os n q z → (sense : Bool) (k j : ℕ)
    → has_words (words_from (takes.Choice sense) s (Some k) 0 (o ∷ p ∷ q ∷ [])) (Some j) && agree (takes.Choice sense) 0 (l ∷ m ∷ n ∷ []) ≡ true → OnThree T s sense a b c ((ks ++ ns) ++ os) k j
three_to {s = s} {ks = ks} {ns = ns} {os = os} {o = o} {p = p} {q = q} h i j sense k n g =
    let c = and_parts _ _ g in
    let u = two_true _ _ c.1 in let v = two_true _ _ u.1 in
    let d = part_to h (Jumps sense) u.0 in
    let e = part_to i (Gets Any) v.0 in
    let f = part_to j (Gets Any) (two_true _ _ v.1).0 in
    record { condition = d.derivation; this = e.derivation; that = f.derivation; parts = pair_of _ _ (ks ++ ns) os (pair_of _ _ ks ns d.shown e.shown) f.shown; words = some_same (sym (three_words s o p q sense k _ _ _ d.counted e.counted f.counted) ∙ words_are _ n c.0) }

record HasThree (s : ℕ) (sense : Bool) (l m n : TreeFacts) (o p q : Facts) (x y z t u v : Tree) (k j : ℕ) : Type 0 where
  makes : has_words (words_from (takes.Choice sense) s (Some k) 0 (o ∷ p ∷ q ∷ [])) (Some j) && agree (takes.Choice sense) 0 (l ∷ m ∷ n ∷ []) ≡ true
  condition : t ≡ x
  this : u ≡ y
  that : v ≡ z

three_from : {T : Table} {a b c : Exp} {s : ℕ} {ks ns os : List Shown} {l m n : TreeFacts} {o p q : Facts} {x y z : Tree} {sense : Bool} → StandsAt T a s ks l o x → StandsAt T b s ns m p y → StandsAt T c s os n q z
    → (d : Derives T a (Jumps sense)) (e : Derives T b (Gets Any)) (f : Derives T c (Gets Any)) (k j : ℕ) → cost d s + cost e s + cost f s + k ≡ j → (shown d s ++ shown e s) ++ shown f s ≡ (ks ++ ns) ++ os → IsFewest d s → IsFewest e s → IsFewest f s
    → HasThree s sense l m n o p q x y z (shape d) (shape e) (shape f) k j
three_from {s = s} {ks = ks} {ns = ns} {os = os} {o = o} {p = p} {q = q} {sense = sense} h i j d e f k n w b fd fe ff =
    let first = cut (shown d s) (shown e s ++ shown f s) ks (ns ++ os) (shown_order (Jumps sense) d s ∙ sym h.order) (sym (append_assoc (shown d s) (shown e s) (shown f s)) ∙ b ∙ append_assoc ks ns os) in
    let rest = cut (shown e s) (shown f s) ns os (shown_order (Gets Any) e s ∙ sym i.order) first.1 in
    let u = part_from h d first.0 fd in
    let v = part_from i e rest.0 fe in
    let t = part_from j f rest.1 ff in
    record { makes = and_from _ _ (are_words _ n (three_words s o p q sense k _ _ _ u.counted v.counted t.counted ∙ ap Some w)) (true_two _ _ u.agrees (true_two _ _ v.agrees (true_two _ _ t.agrees refl))); condition = u.shape; this = v.shape; that = t.shape }

pub choice_to : {T : Table} {a b c : Exp} {s : ℕ} {ks ns os : List Shown} {l m n : TreeFacts} {o p q : Facts} {x y z : Tree} → StandsAt T a s ks l o x → StandsAt T b s ns m p y → StandsAt T c s os n q z → (r : Rule) (aim : Aim) (k : ℕ)
    → makes_by (node_at T s forms.Cond (Cond a b c) (o ∷ p ∷ q ∷ [])) (l ∷ m ∷ n ∷ []) (Some k) (of_cond r aim) ≡ true → Begins T (Cond a b c) aim s r k ((ks ++ ns) ++ os)
choice_to h i j V20 (Gets Any) k g = let o = three_to h i j false 2 k g in record { derivation = v20 o.condition o.this o.that; first = refl; counted = o.words; parts = o.parts }
choice_to h i j V21 (Gets Any) k g =
    let o = three_to h i j true 2 k g in
    let words = o.words in
    record { derivation = v21 o.condition o.that o.this; first = refl; counted = omega arith; parts = o.parts }
choice_to h i j r aim k g = cc

two_more : (t u v x y z : Tree) → t ≡ x → u ≡ y → v ≡ z → part t (part u (one v)) ≡ part x (part y (one z))
two_more t u v x y z h i j = ap (λ a. part a (part u (one v))) h ∙ ap (λ a. part x (part a (one v))) i ∙ ap (λ a. part x (part y (one a))) j

pub choice_from : {T : Table} {a b c : Exp} {s : ℕ} {ks ns os : List Shown} {l m n : TreeFacts} {o p q : Facts} {x y z : Tree} {aim : Aim} → StandsAt T a s ks l o x → StandsAt T b s ns m p y → StandsAt T c s os n q z → (d : Derives T (Cond a b c) aim) → Alone d
    → below d s ≡ (ks ++ ns) ++ os → IsFewest d s
    → (makes (node_at T s forms.Cond (Cond a b c) (o ∷ p ∷ q ∷ [])) (l ∷ m ∷ n ∷ []) (first_rule d) aim (Some (cost d s)) ≡ true) × (shape d ≡ begun (first_rule d) (o ∷ p ∷ q ∷ []) (x ∷ y ∷ z ∷ []))
choice_from h i j (v0 d) g b f = cc
choice_from h i j (v1 k) g b f = operand_makes (choice h i j) k b
choice_from {s = s} h i j (v20 d e t) g b f =
    let o = three_from h i j d e t 2 _ refl b (λ other. let k = f (v20 other e t) in omega arith) (λ other. let k = f (v20 d other t) in omega arith) (λ other. let k = f (v20 d e other) in omega arith) in
    (o.makes, ap (by V20) (two_more _ _ _ _ _ _ o.condition o.this o.that))
choice_from {s = s} h i j (v21 d t e) g b f =
    let o = three_from h i j d e t 2 (cost (v21 d t e) s) (omega arith) b (λ other. let k = f (v21 other t e) in omega arith) (λ other. let k = f (v21 d t other) in omega arith) (λ other. let k = f (v21 d other e) in omega arith) in
    (o.makes, ap (by V21) (two_more _ _ _ _ _ _ o.condition o.that o.this))
choice_from h i j (j6 k d) g b f = absurd (not_tested d g)

-- a call
some_parts : {T : Table} {es : Args} {f : Exp} {s : ℕ} {ns : List Shown} {ms : List TreeFacts} {ps : List Facts} {xs : List Tree} → AreArguments T es f s ns ms ps xs → no_parts ps ≡ false
some_parts (routine h) = refl
some_parts (next h i) = refl

record OnAll (T : Table) (es : Args) (f : Exp) (s at l : ℕ) (ns : List Shown) (ps : List Facts) : Type 0 where
  arguments : DerivesAll T es
  routine : Derives T f (Gets Any)
  parts : all_shown arguments l ++ shown routine (l + count es) ≡ ns
  words : (k : ℕ) → words_from takes.Call s (Some k) at ps ≡ Some (all_cost arguments l + cost routine (l + count es) + k)

routine_words : (s at k c : ℕ) (p : Facts) → cost_of (Gets Any) p.costs ≡ Some c → words_from takes.Call s (Some k) at (p ∷ []) ≡ Some (c + k)
unfolding sum
routine_words s at k c p h = let same : p.costs.any ≡ c = some_same h in ap Some (omega arith)

argument_words : (s at k c : ℕ) (p : Facts) (ps : List Facts) → cost_of (Gets Any) p.costs ≡ Some c → no_parts ps ≡ false → words_from takes.Call s (Some k) at (p ∷ ps) ≡ words_from takes.Call s (Some (k + (c + w (s + 2 + at)))) (at + 1) ps
unfolding sum
argument_words s at k c p ps h i =
    ap (λ b. words_from takes.Call s (Some (k + (p.costs.any + cond b 0 (w (s + 2 + at))))) (at + 1) ps) i
    ∙ ap (λ n. words_from takes.Call s (Some (k + (n + w (s + 2 + at)))) (at + 1) ps) (some_same h)

all_to : {T : Table} {es : Args} {f : Exp} {l : ℕ} {ns : List Shown} {ms : List TreeFacts} {ps : List Facts} {xs : List Tree} → AreArguments T es f l ns ms ps xs → (s at : ℕ) → l ≡ s + 2 + at → agree takes.Call at ms ≡ true → OnAll T es f s at l ns ps
all_to {f = f} {l = l} (routine {p = p} h) s at e g =
    let d = part_to h (Gets Any) (two_true _ _ g).0 in
    let same : l + 0 ≡ l = omega arith in
    record { arguments = no_more; routine = d.derivation; parts = ap (λ n. shown d.derivation n) same ∙ d.shown; words = λ k. routine_words s at k _ p d.counted ∙ ap (λ n. Some (n + k)) (ap (λ n. cost d.derivation n) (sym same)) ∙ ap Some (omega arith) }
all_to {f = f} {l = l} (next {es = es} {ns = ns} {os = os} {p = p} {ps = ps} h i) s at e g =
    let c = two_true _ _ g in
    let d = part_to h (Gets Any) c.0 in
    let ds = all_to i s (at + 1) (omega arith) c.1 in
    let level : l + 1 + count es ≡ l + (1 + count es) = omega arith in
    let held : w (s + 2 + at) ≡ w l = ap w (sym e) in
    record {
      arguments = one_more d.derivation ds.arguments;
      routine = ds.routine;
      parts =
          append_assoc (shown d.derivation l) (all_shown ds.arguments (l + 1)) (shown ds.routine (l + (1 + count es)))
          ∙ pair_of _ _ ns os d.shown (ap (λ n. all_shown ds.arguments (l + 1) ++ shown ds.routine n) (sym level) ∙ ds.parts);
      words = λ k.
          argument_words s at k _ p ps d.counted (some_parts i)
          ∙ ds.words (k + (cost d.derivation l + w (s + 2 + at)))
          ∙ ap (λ n. Some (all_cost ds.arguments (l + 1) + cost ds.routine n + (k + (cost d.derivation l + w (s + 2 + at))))) level
          ∙ ap (λ n. Some (all_cost ds.arguments (l + 1) + cost ds.routine (l + (1 + count es)) + (k + (cost d.derivation l + n)))) held
          ∙ ap Some (omega arith);
    }

pub call_to : (n : ℕ) {T : Table} {es : Args} {f : Exp} {s : ℕ} {ns : List Shown} {ms : List TreeFacts} {ps : List Facts} {xs : List Tree} → AreArguments T es f (s + 2) ns ms ps xs → (r : Rule) (aim : Aim) (k : ℕ)
    → makes_by (node_at T s (forms.Call n) (Call es f) ps) ms (Some k) (of_call r aim s) ≡ true → Begins T (Call es f) aim s r k ns
call_to n {s = s} h V22 (Gets Any) k g =
    let level : s + 2 ≡ s + 2 + 0 = omega arith in
    let c = and_parts _ _ g in
    let o = all_to h s 0 level c.1 in
    record { derivation = v22 o.arguments o.routine; first = refl; counted = some_same (sym (o.words (w s)) ∙ words_are _ k c.0); parts = o.parts }
call_to n h r aim k g = cc

record HasAll (s at : ℕ) (ms : List TreeFacts) (ps : List Facts) (xs : List Tree) (words : ℕ) (ts : Trees) : Type 0 where
  agrees : agree takes.Call at ms ≡ true
  counted : (k : ℕ) → words_from takes.Call s (Some k) at ps ≡ Some (words + k)
  shapes : ts ≡ trees xs

all_from : {T : Table} {es : Args} {f : Exp} {l : ℕ} {ns : List Shown} {ms : List TreeFacts} {ps : List Facts} {xs : List Tree} → AreArguments T es f l ns ms ps xs → (s at : ℕ) → l ≡ s + 2 + at → (ds : DerivesAll T es) (d : Derives T f (Gets Any))
    → all_shown ds l ++ shown d (l + count es) ≡ ns → ((others : DerivesAll T es) (other : Derives T f (Gets Any)) → all_cost ds l + cost d (l + count es) ≤ all_cost others l + cost other (l + count es))
    → HasAll s at ms ps xs (all_cost ds l + cost d (l + count es)) (end_with (shapes ds) (shape d))
all_from {f = f} {l = l} (routine {p = p} h) s at e no_more d b g =
    let same : l + 0 ≡ l = omega arith in
    let low : (other : Derives _ f (Gets Any)) → cost d (l + 0) ≤ cost other (l + 0) = λ other. let k = g no_more other in omega arith in
    let o = part_from h d (ap (λ n. shown d n) (sym same) ∙ b) (subst (λ n. IsFewest d n) same low) in
    record { agrees = true_two _ _ o.agrees refl; counted = λ k. routine_words s at k _ p o.counted ∙ ap (λ n. Some (n + k)) (ap (λ n. cost d n) (sym same)) ∙ ap Some (omega arith); shapes = ap one o.shape }
all_from {T = T} {f = f} {l = l} (next {es = es} {ns = ns} {os = os} {p = p} {ps = ps} {x = x} h i) s at e (one_more d ds) r b g =
    let level : l + 1 + count es ≡ l + (1 + count es) = omega arith in
    let held : w (s + 2 + at) ≡ w l = ap w (sym e) in
    let c = cut (shown d l) (all_shown ds (l + 1) ++ shown r (l + (1 + count es))) ns os (shown_order (Gets Any) d l ∙ sym h.order) (sym (append_assoc (shown d l) (all_shown ds (l + 1)) (shown r (l + (1 + count es)))) ∙ b) in
    let o = part_from h d c.0 (λ other. let k = g (one_more other ds) r in omega arith) in
    let low : (others : DerivesAll T es) (other : Derives T f (Gets Any)) → all_cost ds (l + 1) + cost r (l + (1 + count es)) ≤ all_cost others (l + 1) + cost other (l + (1 + count es)) = λ others other. let k = g (one_more d others) other in omega arith in
    let next_at : l + 1 ≡ s + 2 + (at + 1) = omega arith in
    let rest = all_from i s (at + 1) next_at ds r (ap (λ n. all_shown ds (l + 1) ++ shown r n) level ∙ c.1)
    (subst (λ n. (others : DerivesAll T es) (other : Derives T f (Gets Any)) → all_cost ds (l + 1) + cost r n ≤ all_cost others (l + 1) + cost other n) (sym level) low) in
    record {
      agrees = true_two _ _ o.agrees rest.agrees;
      counted = λ k.
          argument_words s at k _ p ps o.counted (some_parts i)
          ∙ rest.counted (k + (cost d l + w (s + 2 + at)))
          ∙ ap (λ n. Some (all_cost ds (l + 1) + cost r n + (k + (cost d l + w (s + 2 + at))))) level
          ∙ ap (λ n. Some (all_cost ds (l + 1) + cost r (l + (1 + count es)) + (k + (cost d l + n)))) held
          ∙ ap Some (omega arith);
      shapes = ap (λ t. part t (end_with (shapes ds) (shape r))) o.shape ∙ ap (λ ts. part x ts) rest.shapes;
    }

pub call_from : (n : ℕ) {T : Table} {es : Args} {f : Exp} {s : ℕ} {ns : List Shown} {ms : List TreeFacts} {ps : List Facts} {xs : List Tree} {aim : Aim} → AreArguments T es f (s + 2) ns ms ps xs → (d : Derives T (Call es f) aim) → Alone d → below d s ≡ ns → IsFewest d s
    → (makes (node_at T s (forms.Call n) (Call es f) ps) ms (first_rule d) aim (Some (cost d s)) ≡ true) × (shape d ≡ begun (first_rule d) ps xs)
call_from n h (v0 d) g b f = cc
call_from n h (v1 k) g b f = operand_makes (call {n = n} h) k b
call_from n {s = s} h (v22 ds r) g b f =
    let o = all_from h s 0 (omega arith) ds r b (λ others other. let k = f (v22 others other) in omega arith) in
    (and_from _ _ (are_words _ _ (o.counted (w s))) o.agrees, ap (by V22) o.shapes)
call_from n h (j6 k d) g b f = absurd (not_tested d g)
