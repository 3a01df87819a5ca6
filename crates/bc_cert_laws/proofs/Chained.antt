-- The rules that a line names, and the derivations that have them at their node.
use Rattle.std.proofs.Common.{◌≡◌, ℕ, ◌+◌, ◌==◌, Bool, true, false, cond, Option, Some, None, List, [], ◌∷◌, ◌++◌, refl, ap, sym, subst, ◌∙◌, arith}
use Rattle.std.specs.Prelude.{◌&&◌, IsTrue}
use Rattle.std.proofs.lemmas.Bool.{eqb-true, eq-eqb, and_parts, and_from}
use Rattle.bc_core.specs.Tree.{Exp}
use Rattle.bc_rules_defs.specs.declared.rule.Table.{Table}
use Rattle.bc_rules_defs.specs.declared.rule.Mode.TheVariants.{Any, Push}
use Rattle.bc_rules_defs.specs.declared.rule.Aim.{Aim}
use Rattle.bc_rules_defs.specs.declared.rule.Aim.TheVariants.{Gets, Jumps}
use Rattle.bc_rules_defs.specs.declared.rule.Rule.{Rule}
use Rattle.bc_rules_defs.specs.declared.rule.Rule.TheVariants.{V0, J1, J2, J3, J4, J5, J6, J7, J8, J9}
use Rattle.bc_rules_defs.specs.Free as free
use Rattle.bc_rules_defs.specs.Rules.{Derives, v0, v1, v2, v3, v4, v6, v7, v8, v9, v10, v11, j6, Tree, by, one, shape}
use Rattle.bc_rules_defs.specs.Code.{cost}
use Rattle.bc_select_defs.specs.Least.{first_rule}
use Rattle.bc_rules_defs.specs.Names.{rule_number, rule_letter}
use Rattle.bc_cert_defs.specs.declared.costs.Costs.{Costs}
use Rattle.bc_cert_read.specs.declared.facts.Facts.{Facts}
use Rattle.bc_cert_read.specs.declared.form.Form.{Form}
use Rattle.bc_cert_read.specs.declared.recipe.Recipe.{Recipe}
use Rattle.bc_cert_read.specs.Form.{is_plain}
use Rattle.bc_cert_read.specs.Node.{Node}
use Rattle.bc_cert_read.specs.Costs.{cost_of}
use Rattle.bc_cert_read.specs.Parts.{AreLeast}
use Rattle.bc_cert_read.specs.declared.chain.Chain.{Chain}
use Rattle.bc_cert_read.specs.declared.chain.Rules.TheVariants.{Named}
use Rattle.bc_cert_read.specs.declared.mark.TreeFacts.{TreeFacts}
use Rattle.bc_cert_read.specs.declared.mark.Shown as marks
use Rattle.bc_cert_read.specs.Marks.{has_aim}
use Rattle.bc_cert_read.specs.Derived.{derived, over_if as made_over}
use Rattle.bc_cert_read.specs.Showing.{has_words, makes_by, makes, is_test, tested, tests, same_value, any_by, after_value, shown_by}
use Rattle.bc_cert_read.specs.Stacks.{second_zero}
use Rattle.bc_cert_write.specs.Shown.{Shown, rules_of_value, rules_at, below, shown}
use Rattle.bc_cert_laws.specs.Faults.{Grown, node}
use Rattle.bc_cert_laws.specs.Standing.{over_if, chain_rules, IsChain, IsFewest, Shows, begun}
use Rattle.bc_cert_laws.proofs.Over.{some_same, Over}
use Rattle.bc_cert_laws.proofs.Kept.{plain_of, last_is}
use Rattle.bc_cert_laws.proofs.Parts.{counted_of, fewest_of}
use Rattle.bc_cert_laws.proofs.TwoParts.{never}
use Rattle.bc_cert_laws.proofs.Others.{node_at, Alone}
use Rattle.bc_cert_laws.proofs.Begun.{begins_to, begins_from}

-- the tree of a node over these lines
abbrev pub tree_at : Exp → ℕ → List Shown → List Rule → Grown
tree_at e s ns rules = record { expression = e; level = s; shown = ns ++ node e s rules ∷ [] }

-- the rules of a derivation at its node
push_rules : {T : Table} {e : Exp} (d : Derives T e (Gets Push)) → Alone d
push_rules (v1 h) = refl
push_rules (v2 d) = refl
push_rules (v3 d) = refl
push_rules (v4 d) = refl
push_rules (v6 h d) = refl
push_rules (v7 h f d) = refl
push_rules (v8 h d) = refl
push_rules (v9 d) = refl
push_rules (v10 h d) = refl
push_rules (v11 h f d) = refl

any_rules : {T : Table} {e : Exp} (d : Derives T e (Gets Any)) → rules_of_value d ≡ rules_at d
any_rules (v0 d) = refl
any_rules d = refl

-- rules of tests have another letter
test_letter : (r : Rule) → is_test r ≡ true → rule_letter r ≡ 86 → ⊥
test_letter J1 h g = never (ap (λ n. n == 86) g)
test_letter J2 h g = never (ap (λ n. n == 86) g)
test_letter J3 h g = never (ap (λ n. n == 86) g)
test_letter J4 h g = never (ap (λ n. n == 86) g)
test_letter J5 h g = never (ap (λ n. n == 86) g)
test_letter J6 h g = never (ap (λ n. n == 86) g)
test_letter J7 h g = never (ap (λ n. n == 86) g)
test_letter J8 h g = never (ap (λ n. n == 86) g)
test_letter J9 h g = never (ap (λ n. n == 86) g)
test_letter r h g = never h

-- no rule makes a derivation where there are no words
none_has : (x : Option ℕ) → has_words x None ≡ true → ⊥
none_has None h = never h
none_has (Some n) h = never h

no_words : (n : Node) (ms : List TreeFacts) (x : Option Recipe) → makes_by n ms None x ≡ true → ⊥
no_words n ms None h = never h
no_words n ms (Some r) h = none_has _ (and_parts _ _ h).0

not_true : {b : Bool} → ¬ (b ≡ true) → b ≡ false
not_true {b = true} h = absurd (h refl)
not_true {b = false} h = refl

-- the rules of a derivation at its node, as a line names them
abbrev pub alone : Rule → Chain
alone r = record { is_tested = false; is_freed = false; rule = r }

abbrev value_chain : {T : Table} {e : Exp} {aim : Aim} → Derives T e aim → Chain
value_chain (v0 d) = record { is_tested = false; is_freed = true; rule = first_rule d }
value_chain d = alone (first_rule d)

abbrev pub chain_of : {T : Table} {e : Exp} {aim : Aim} → Derives T e aim → Chain
chain_of (j6 h d) = record { is_tested = true; is_freed = (value_chain d).is_freed; rule = (value_chain d).rule }
chain_of d = value_chain d

value_chain_rules : {T : Table} {e : Exp} {aim : Aim} (d : Derives T e aim) → over_if (value_chain d).is_freed V0 ((value_chain d).rule ∷ []) ≡ rules_of_value d
value_chain_rules (v0 d) = refl
value_chain_rules d = refl

pub rules_of_chain : {T : Table} {e : Exp} {aim : Aim} (d : Derives T e aim) → chain_rules (chain_of d) ≡ rules_at d
rules_of_chain (v0 d) = refl
rules_of_chain (j6 h d) = ap (λ rs. J6 ∷ rs) (value_chain_rules d)
rules_of_chain d = refl

push_chain : {T : Table} {e : Exp} (d : Derives T e (Gets Push)) → alone (first_rule d) ≡ chain_of d
push_chain (v1 h) = refl
push_chain d = refl

any_chain : {T : Table} {e : Exp} (d : Derives T e (Gets Any)) → record { is_tested = false; is_freed = (value_chain d).is_freed; rule = (value_chain d).rule } ≡ chain_of d
any_chain (v0 d) = refl
any_chain d = refl

-- rules of values and of tests other than V0 and J6
is_own : ℕ → ℕ → Rule → Bool
is_own letter n r = cond (rule_letter r == letter) (cond (rule_number r == n) false true) false

own_letter : (letter n : ℕ) (r : Rule) → is_own letter n r ≡ true → rule_letter r ≡ letter
unfolding is_own
own_letter letter n r h = eqb-true _ _ (first_true (rule_letter r == letter) (cond (rule_number r == n) false true) h) where
  first_true : (b c : Bool) → cond b c false ≡ true → b ≡ true
  first_true true c h = refl
  first_true false c h = never h

push_own : {T : Table} {e : Exp} (d : Derives T e (Gets Push)) → is_own 86 0 (first_rule d) ≡ true
unfolding is_own
push_own (v1 h) = refl
push_own d = refl

any_own : {T : Table} {e : Exp} (d : Derives T e (Gets Any)) → is_own 86 0 (value_chain d).rule ≡ true
unfolding is_own
any_own (v0 d) = push_own d
any_own d = refl

own_value : (r : Rule) → is_own 86 0 r ≡ true → is_test r ≡ false
unfolding is_own
own_value J1 h = never h
own_value J2 h = never h
own_value J3 h = never h
own_value J4 h = never h
own_value J5 h = never h
own_value J6 h = never h
own_value J7 h = never h
own_value J8 h = never h
own_value J9 h = never h
own_value r h = refl

value_is_chain : (is_tested is_freed : Bool) (r : Rule) → is_own 86 0 r ≡ true → IsChain (record { is_tested = is_tested; is_freed = is_freed; rule = r })
unfolding is_own
value_is_chain t f r h = record {
  tested = λ g. own_letter 86 0 r h;
  freed = λ g. own_letter 86 0 r h;
  not_freed_again = λ g. never (sym (ap (λ q. is_own 86 0 q) g) ∙ h);
  not_tested_again = λ g. never (sym (ap (λ q. is_own 86 0 q) g) ∙ h);
}

test_is_chain : (r : Rule) → is_own 74 6 r ≡ true → IsChain (alone r)
unfolding is_own
test_is_chain r h = record {
  tested = λ g. never g;
  freed = λ g. never g;
  not_freed_again = λ g. never (sym (ap (λ q. is_own 74 6 q) g) ∙ h);
  not_tested_again = λ g. never (sym (ap (λ q. is_own 74 6 q) g) ∙ h);
}

jump_is_chain : {T : Table} {e : Exp} {sense : Bool} (d : Derives T e (Jumps sense)) → IsChain (chain_of d)
unfolding is_own
jump_is_chain (j6 h d) = value_is_chain true (value_chain d).is_freed (value_chain d).rule (any_own d)
jump_is_chain d = test_is_chain (first_rule d) refl

pub chain_is : {T : Table} {e : Exp} (aim : Aim) (d : Derives T e aim) → IsChain (chain_of d)
chain_is (Gets Push) d = subst IsChain (push_chain d) (value_is_chain false false (first_rule d) (push_own d))
chain_is (Gets Any) d = subst IsChain (any_chain d) (value_is_chain false (value_chain d).is_freed (value_chain d).rule (any_own d))
chain_is (Jumps sense) d = jump_is_chain d

-- the rules at a node are those of only one chain
one_chain : (t f u g : Bool) (r q : Rule) → over_if t J6 (over_if f V0 (r ∷ [])) ≡ over_if u J6 (over_if g V0 (q ∷ [])) → ◌≡◌ {A = Chain} (record { is_tested = t; is_freed = f; rule = r }) (record { is_tested = u; is_freed = g; rule = q })
one_chain true true true true r q h = cc
one_chain true true true false r q h = cc
one_chain true true false true r q h = cc
one_chain true true false false r q h = cc
one_chain true false true true r q h = cc
one_chain true false true false r q h = cc
one_chain true false false true r q h = cc
one_chain true false false false r q h = cc
one_chain false true true true r q h = cc
one_chain false true true false r q h = cc
one_chain false true false true r q h = cc
one_chain false true false false r q h = cc
one_chain false false true true r q h = cc
one_chain false false true false r q h = cc
one_chain false false false true r q h = cc
one_chain false false false false r q h = cc

pub same_chain : (c d : Chain) → chain_rules c ≡ chain_rules d → c ≡ d
same_chain c d h = one_chain c.is_tested c.is_freed d.is_tested d.is_freed c.rule d.rule h

-- the ways in which a derivation begins
data ValueBegins {T : Table} {e : Exp} : Derives T e (Gets Any) → Type 0 where
  pushed : (d : Derives T e (Gets Push)) → ValueBegins (v0 d)
  own : {d : Derives T e (Gets Any)} → Alone d → alone (first_rule d) ≡ value_chain d → ValueBegins d

data TestBegins {T : Table} {e : Exp} {sense : Bool} : Derives T e (Jumps sense) → Type 0 where
  by_value : (p : IsTrue (free.is_plain e)) (d : Derives T e (Gets Any)) → TestBegins (j6 p d)
  own : {d : Derives T e (Jumps sense)} → Alone d → is_test (first_rule d) ≡ true → alone (first_rule d) ≡ chain_of d → TestBegins d

value_begins : {T : Table} {e : Exp} (d : Derives T e (Gets Any)) → ValueBegins d
value_begins (v0 d) = pushed d
value_begins d = own refl refl

test_begins : {T : Table} {e : Exp} {sense : Bool} (d : Derives T e (Jumps sense)) → TestBegins d
test_begins (j6 p d) = by_value p d
test_begins d = own refl refl refl

-- what a number of the line says of a derivation
module _ {T : Table} {s : ℕ} {form : Form} {ns : List Shown} {ms : List TreeFacts} {ps : List Facts} {xs : List Tree} {e : Exp} (o : Over T s form ns ms ps xs e) (c : Costs) (h : AreLeast T e s c) where
  shows : {aim : Aim} (rules : List Rule) (k : ℕ) (d : Derives T e aim) → rules_at d ≡ rules → below d s ≡ ns → cost d s ≡ k → cost_of aim c ≡ Some k → Shows T (tree_at e s ns rules) aim
  shows rules k d r b w g =
      record { derivation = d; shown = ap (λ us. us ++ node e s rules ∷ []) (sym b) ∙ ap (λ rs. below d s ++ node e s rs ∷ []) (sym r); fewest = fewest_of h d k g w }

  begun_shows : (r : Rule) (aim : Aim) (k : ℕ) → makes (node_at T s form e ps) ms r aim (Some k) ≡ true → cost_of aim c ≡ Some k → Shows T (tree_at e s ns (r ∷ [])) aim
  begun_shows r aim k g w = let b = begins_to o r aim k g in shows (r ∷ []) k b.derivation b.first b.parts b.counted w

  -- a rule of tests
  test_shows : (r : Rule) (aim : Aim) → has_aim (tests (node_at T s form e ps) ms c r) aim ≡ true → Shows T (tree_at e s ns (r ∷ [])) aim
  test_shows r (Gets Any) g = cc
  test_shows r (Gets Push) g = cc
  test_shows r (Jumps false) g = begun_shows r (Jumps false) c.on_false g refl
  test_shows r (Jumps true) g = begun_shows r (Jumps true) c.on_true g refl

  -- a value, by its own rule or pushed
  record Valued (r : Rule) (freed : Bool) : Type 0 where
    derivation : Derives T e (Gets Any)
    rules : rules_of_value derivation ≡ over_if freed V0 (r ∷ [])
    parts : below derivation s ≡ ns
    counted : cost derivation s ≡ c.any

  pushed_words : (x : Option ℕ) (r : Rule) → makes (node_at T s form e ps) ms r (Gets Push) x && same_value x c.any ≡ true → makes (node_at T s form e ps) ms r (Gets Push) (Some c.any) ≡ true
  pushed_words None r g = never (and_parts _ _ g).1
  pushed_words (Some k) r g = let f = and_parts _ _ g in subst (λ n. makes (node_at T s form e ps) ms r (Gets Push) (Some n) ≡ true) (eqb-true k c.any f.1) f.0

  valued : (r : Rule) (freed : Bool) → any_by (node_at T s form e ps) ms c r freed ≡ true → Valued r freed
  valued r true g =
      let b = begins_to o r (Gets Push) c.any (pushed_words c.push r g) in
      let first : first_rule b.derivation ∷ [] ≡ r ∷ [] = sym (push_rules b.derivation) ∙ b.first in
      record { derivation = v0 b.derivation; rules = ap (λ rs. V0 ∷ rs) first; parts = b.parts; counted = b.counted }
  valued r false g =
      let b = begins_to o r (Gets Any) c.any g in
      record { derivation = b.derivation; rules = any_rules b.derivation ∙ b.first; parts = b.parts; counted = b.counted }

  -- a test by the value
  tested_shows : (r : Rule) (freed sense : Bool) (k : ℕ) → any_by (node_at T s form e ps) ms c r freed && is_plain form && tested c.any k ≡ true → cost_of (Jumps sense) c ≡ Some k → Shows T (tree_at e s ns (J6 ∷ over_if freed V0 (r ∷ []))) (Jumps sense)
  tested_shows r freed sense k g w =
      let f = and_parts _ _ g in
      let i = and_parts _ _ f.0 in
      let v = valued r freed i.0 in
      let plain : free.is_plain e ≡ true = sym (plain_of o) ∙ i.1 in
      let more : c.any + 2 ≡ k = eqb-true (c.any + 2) k f.1 in
      let words = v.counted in
      shows (J6 ∷ over_if freed V0 (r ∷ [])) k (j6 plain v.derivation) (ap (λ rs. J6 ∷ rs) v.rules) v.parts (omega arith) w

  pushed_shows : (x : Option ℕ) (r : Rule) → x ≡ c.push → makes (node_at T s form e ps) ms r (Gets Push) x ≡ true → Shows T (tree_at e s ns (r ∷ [])) (Gets Push)
  pushed_shows None r i g = absurd (no_words (node_at T s form e ps) ms _ g)
  pushed_shows (Some k) r i g = begun_shows r (Gets Push) k g (sym i)

  value_shows : (r : Rule) (is_tested freed : Bool) (aim : Aim)
      → has_aim (after_value (node_at T s form e ps) c (any_by (node_at T s form e ps) ms c r freed) (makes (node_at T s form e ps) ms r (Gets Push) c.push) is_tested freed) aim ≡ true
      → Shows T (tree_at e s ns (over_if is_tested J6 (over_if freed V0 (r ∷ [])))) aim
  value_shows r true freed (Gets Any) g = cc
  value_shows r true freed (Gets Push) g = cc
  value_shows r true freed (Jumps false) g = tested_shows r freed false c.on_false g refl
  value_shows r true freed (Jumps true) g = tested_shows r freed true c.on_true g refl
  value_shows r false freed (Gets Any) g =
      let v = valued r freed g in
      shows (over_if freed V0 (r ∷ [])) c.any v.derivation (sym (any_rules v.derivation) ∙ v.rules) v.parts v.counted refl
  value_shows r false true (Gets Push) g = never (and_parts _ _ g).1
  value_shows r false false (Gets Push) g = pushed_shows c.push r refl (and_parts _ _ g).0
  value_shows r false freed (Jumps false) g = cc
  value_shows r false freed (Jumps true) g = cc

  -- a rule of tests is the only rule at its node
  alone_shows : (ch : Chain) → ch.is_tested ≡ false → ch.is_freed ≡ false → (aim : Aim) → Shows T (tree_at e s ns (ch.rule ∷ [])) aim → Shows T (tree_at e s ns (chain_rules ch)) aim
  alone_shows ch t f aim h = subst (λ rs. Shows T (tree_at e s ns rs) aim) (sym (ap (λ b. over_if b J6 (over_if ch.is_freed V0 (ch.rule ∷ []))) t ∙ ap (λ b. over_if b V0 (ch.rule ∷ [])) f)) h

  chain_shows : (ch : Chain) → IsChain ch → (aim : Aim) (b : Bool) → is_test ch.rule ≡ b
      → has_aim (cond b (tests (node_at T s form e ps) ms c ch.rule) (after_value (node_at T s form e ps) c (any_by (node_at T s form e ps) ms c ch.rule ch.is_freed) (makes (node_at T s form e ps) ms ch.rule (Gets Push) c.push) ch.is_tested ch.is_freed)) aim ≡ true
      → Shows T (tree_at e s ns (chain_rules ch)) aim
  chain_shows ch i aim true t g = alone_shows ch (not_true (λ f. test_letter ch.rule t (i.tested f))) (not_true (λ f. test_letter ch.rule t (i.freed f))) aim (test_shows ch.rule aim g)
  chain_shows ch i aim false t g = value_shows ch.rule ch.is_tested ch.is_freed aim g

  -- an aim that a line's rules have is that of a derivation that they show
  pub shows_to : (ch : Chain) → IsChain ch → (aim : Aim) → has_aim (shown_by (node_at T s form e ps) ms c ch) aim ≡ true → Shows T (tree_at e s ns (chain_rules ch)) aim
  shows_to ch i aim g = chain_shows ch i aim (is_test ch.rule) refl g

  -- A derivation of least words that shows these lines
  abbrev IsFound : {aim : Aim} → Derives T e aim → Chain → Type 0
  IsFound {aim = aim} d ch = (has_aim (shown_by (node_at T s form e ps) ms c ch) aim ≡ true) × (shape d ≡ derived (Named ch) (second_zero ps) xs)

  push_found : (d : Derives T e (Gets Push)) → below d s ≡ ns → IsFewest d s → IsFound d (alone (first_rule d))
  push_found d b f =
      let r = first_rule d in
      let g = begins_from o d (push_rules d) b f in
      let words : c.push ≡ Some (cost d s) = counted_of h d f in
      let found : makes (node_at T s form e ps) ms r (Gets Push) c.push ≡ true = ap (λ x. makes (node_at T s form e ps) ms r (Gets Push) x) words ∙ g.0 in (
        ap (λ b. has_aim (cond b (tests (node_at T s form e ps) ms c r) (after_value (node_at T s form e ps) c (any_by (node_at T s form e ps) ms c r false) (makes (node_at T s form e ps) ms r (Gets Push) c.push) false false)) (Gets Push)) (own_value r (push_own d))
            ∙ and_from _ _ found refl,
        g.1,
      )

  IsValued : Derives T e (Gets Any) → Chain → Type 0
  IsValued d ch = (any_by (node_at T s form e ps) ms c ch.rule ch.is_freed ≡ true) × (shape d ≡ made_over ch.is_freed V0 (begun ch.rule ps xs))

  any_alone : (d : Derives T e (Gets Any)) → Alone d → below d s ≡ ns → IsFewest d s → IsValued d (alone (first_rule d))
  unfolding IsValued
  any_alone d i b f =
      let g = begins_from o d i b f in
      let words : Some c.any ≡ Some (cost d s) = counted_of h d f in
      (ap (λ x. makes (node_at T s form e ps) ms (first_rule d) (Gets Any) x) words ∙ g.0, g.1)

  any_valued : (d : Derives T e (Gets Any)) → ValueBegins d → below d s ≡ ns → IsFewest d s → IsValued d (value_chain d)
  unfolding IsValued
  any_valued d (pushed q) b f =
      let low : IsFewest q s = λ other. f (v0 other) in
      let g = begins_from o q (push_rules q) b low in
      let push : c.push ≡ Some (cost q s) = counted_of h q low in
      let any : Some c.any ≡ Some (cost q s) = counted_of h (v0 q) f in
      let same : cost q s ≡ c.any = sym (some_same any) in (
        and_from _ _ (ap (λ x. makes (node_at T s form e ps) ms (first_rule q) (Gets Push) x) push ∙ g.0) (ap (λ x. same_value x c.any) push ∙ eq-eqb (cost q s) c.any same),
        ap (λ t. by V0 (one t)) g.1,
      )
  any_valued d (own i k) b f = subst (λ ch. IsValued d ch) k (any_alone d i b f)

  any_found : (d : Derives T e (Gets Any)) → below d s ≡ ns → IsFewest d s → IsFound d (record { is_tested = false; is_freed = (value_chain d).is_freed; rule = (value_chain d).rule })
  unfolding IsValued
  any_found d b f =
      let r = (value_chain d).rule in
      let v = any_valued d (value_begins d) b f in (
        ap (λ b. has_aim (cond b (tests (node_at T s form e ps) ms c r) (after_value (node_at T s form e ps) c (any_by (node_at T s form e ps) ms c r (value_chain d).is_freed) (makes (node_at T s form e ps) ms r (Gets Push) c.push) false (value_chain d).is_freed)) (Gets Any)) (own_value r (any_own d))
            ∙ v.0,
        v.1,
      )

  -- a test by the value
  abbrev tested_aims : Rule → Bool → Bool → marks.Shown
  tested_aims r freed b = cond b (tests (node_at T s form e ps) ms c r) (after_value (node_at T s form e ps) c (any_by (node_at T s form e ps) ms c r freed) (makes (node_at T s form e ps) ms r (Gets Push) c.push) true freed)

  tested_has : (r : Rule) (freed sense : Bool) (k : ℕ) → cost_of (Jumps sense) c ≡ Some k → any_by (node_at T s form e ps) ms c r freed && is_plain form && tested c.any k ≡ true → has_aim (tested_aims r freed false) (Jumps sense) ≡ true
  tested_has r freed false k w g = ap (λ n. any_by (node_at T s form e ps) ms c r freed && is_plain form && tested c.any n) (some_same w) ∙ g
  tested_has r freed true k w g = ap (λ n. any_by (node_at T s form e ps) ms c r freed && is_plain form && tested c.any n) (some_same w) ∙ g

  tested_found : {sense : Bool} (p : IsTrue (free.is_plain e)) (d : Derives T e (Gets Any)) → below d s ≡ ns → IsFewest (j6 {sense = sense} p d) s → IsFound (j6 {sense = sense} p d) (chain_of (j6 {sense = sense} p d))
  unfolding IsValued
  tested_found {sense = sense} p d b f =
      let r = (value_chain d).rule in
      let freed = (value_chain d).is_freed in
      let low : IsFewest d s = λ other. let k = f (j6 p other) in omega arith in
      let v = any_valued d (value_begins d) b low in
      let any : Some c.any ≡ Some (cost d s) = counted_of h d low in
      let same : c.any + 2 ≡ cost d s + 2 = ap (λ n. n + 2) (some_same any) in
      let words : cost_of (Jumps sense) c ≡ Some (cost d s + 2) = counted_of h (j6 {sense = sense} p d) f in (
        ap (λ b. has_aim (tested_aims r freed b) (Jumps sense)) (own_value r (any_own d))
            ∙ tested_has r freed sense (cost d s + 2) words (and_from _ _ (and_from _ _ v.0 (plain_of o ∙ p)) (eq-eqb (c.any + 2) (cost d s + 2) same)),
        ap (λ t. by J6 (one t)) v.1,
      )

  -- a rule of tests
  test_has : (r : Rule) (sense : Bool) → makes (node_at T s form e ps) ms r (Jumps sense) (cost_of (Jumps sense) c) ≡ true → has_aim (tests (node_at T s form e ps) ms c r) (Jumps sense) ≡ true
  test_has r false g = g
  test_has r true g = g

  jump_alone : {sense : Bool} (d : Derives T e (Jumps sense)) → Alone d → is_test (first_rule d) ≡ true → below d s ≡ ns → IsFewest d s → IsFound d (alone (first_rule d))
  jump_alone {sense = sense} d i t b f =
      let r = first_rule d in
      let g = begins_from o d i b f in
      let words : cost_of (Jumps sense) c ≡ Some (cost d s) = counted_of h d f in (
        ap (λ b. has_aim (cond b (tests (node_at T s form e ps) ms c r) (after_value (node_at T s form e ps) c (any_by (node_at T s form e ps) ms c r false) (makes (node_at T s form e ps) ms r (Gets Push) c.push) false false)) (Jumps sense)) t
            ∙ test_has r sense (ap (λ x. makes (node_at T s form e ps) ms r (Jumps sense) x) words ∙ g.0),
        g.1,
      )

  jump_found : {sense : Bool} (d : Derives T e (Jumps sense)) → TestBegins d → below d s ≡ ns → IsFewest d s → IsFound d (chain_of d)
  jump_found d (by_value p q) b f = tested_found p q b f
  jump_found d (own i t k) b f = subst (IsFound d) k (jump_alone d i t b f)

  found : (aim : Aim) (d : Derives T e aim) → below d s ≡ ns → IsFewest d s → IsFound d (chain_of d)
  found (Gets Push) d b f = subst (IsFound d) (push_chain d) (push_found d b f)
  found (Gets Any) d b f = subst (IsFound d) (any_chain d) (any_found d b f)
  found (Jumps sense) d b f = jump_found d (test_begins d) b f

  pub shows_from : (ch : Chain) (aim : Aim) (d : Derives T e aim) → ns ++ node e s (chain_rules ch) ∷ [] ≡ shown d s → IsFewest d s → (has_aim (shown_by (node_at T s form e ps) ms c ch) aim ≡ true) × (shape d ≡ derived (Named ch) (second_zero ps) xs)
  shows_from ch aim d k f =
      let l = last_is ns (below d s) (node e s (chain_rules ch)) (node e s (rules_at d)) k in
      let same : chain_of d ≡ ch = same_chain (chain_of d) ch (rules_of_chain d ∙ sym (ap (λ (x : Shown). x.rules) l.1)) in
      subst (IsFound d) same (found aim d (sym l.0) f)
