-- Which rules a list of names means at one node.
use Rattle.std.proofs.Common.{◌≡◌, ◌⊎◌, inl, inr, ⊎_elim, ℕ, ◌==◌, ◌&&◌, Bool, true, false, cond, List, [], ◌∷◌, map, Option, Some, None, refl, ap, ap₂, sym, subst, ◌∙◌, arith, eq-eqb}
use Rattle.std.proofs.lemmas.Bool.{eqb-true, and_parts}
use Rattle.bc_rules_defs.specs.declared.rule.Rule.{Rule}
use Rattle.bc_rules_defs.specs.declared.rule.Rule.TheVariants.{V0, J6}
use Rattle.bc_rules_defs.specs.Names.{rule_number, rule_letter, all_rules, found, rule_named}
use Rattle.bc_cert_read.specs.declared.chain.Chain.{Chain}
use Rattle.bc_cert_read.specs.declared.chain.Rules.TheVariants.{Named}
use Rattle.bc_cert_read.specs.declared.chain.Names.{Names}
use Rattle.bc_cert_read.specs.declared.chain.Names.TheVariants.{Nothing, Tested, Freed, Whole, Wrong}
use Rattle.bc_cert_read.specs.Chains.{whole, of_value, begun, after_test, after_free, longer, ended}
use Rattle.bc_cert_laws.specs.Faults.{Name, name}
use Rattle.bc_cert_laws.specs.Standing.{over_if, chain_rules, IsChain, AreNamed, named, wrong}
use Rattle.bc_cert_laws.proofs.Numbers.{chosen}
use Rattle.bc_cert_laws.proofs.Forms.{at_same}

-- a rule and its name
letter_same : (r : Rule) → rule_letter r ≡ rule_letter r
letter_same V0 = refl
letter_same _ = refl

rule_of_name : (r : Rule) → rule_named (rule_letter r) (rule_number r) ≡ Some r
rule_of_name V0 = refl
rule_of_name _ = refl

found_read : (letter n : ℕ) (rs : List Rule) (r : Rule) → found letter n rs ≡ Some r → (rule_letter r ≡ letter) × (rule_number r ≡ n)
found_read letter n [] r h = absurd (cc)
found_read letter n (x ∷ rs) r h =
    ⊎_elim
    (λ p. let t = and_parts (rule_letter x == letter) (rule_number x == n) p.0 in at_same (λ y. (rule_letter y ≡ letter) × (rule_number y ≡ n)) x r p.1 (eqb-true (rule_letter x) letter t.0, eqb-true (rule_number x) n t.1))
    (λ p. found_read letter n rs r p.1)
    (chosen (rule_letter x == letter && rule_number x == n) (Some x) _ r h)

name_of_rule : (x : Name) (r : Rule) → rule_named x.letter x.number ≡ Some r → x ≡ name r
name_of_rule x r h =
    let p = found_read x.letter x.number all_rules r h in
    ap₂ (λ l n. record { letter = l; number = n }) (sym p.0 ∙ letter_same r) (sym p.1)

-- names, one after another
abbrev pub run : Names → List Name → Names
run ns [] = ns
run ns (x ∷ xs) = run (longer ns (rule_named x.letter x.number)) xs

is_v0 : (r : Rule) → (r ≡ V0) ⊎ (¬ (r ≡ V0))
is_v0 V0 = inl refl
is_v0 _ = inr (λ e. cc)

is_j6 : (r : Rule) → (r ≡ J6) ⊎ (¬ (r ≡ J6))
is_j6 J6 = inl refl
is_j6 _ = inr (λ e. cc)

begun_is : (r : Rule) → ¬ (r ≡ V0) → ¬ (r ≡ J6) → begun r ≡ whole false false r
begun_is V0 h k = absurd (h refl)
begun_is J6 h k = absurd (k refl)
begun_is _ h k = refl

test_is : (r : Rule) → ¬ (r ≡ V0) → after_test r ≡ of_value r (whole true false r)
test_is V0 h = absurd (h refl)
test_is _ h = refl

free_is : (tested : Bool) (r : Rule) → ¬ (r ≡ V0) → after_free tested r ≡ of_value r (whole tested true r)
free_is tested V0 h = absurd (h refl)
free_is tested _ h = refl

value_is : (r : Rule) (ns : Names) → rule_letter r ≡ 86 → of_value r ns ≡ ns
value_is r ns h = rw (eq-eqb (rule_letter r) 86 h)

-- the names of a chain make the chain
chain_runs : (tested freed : Bool) (r : Rule) → (tested ≡ true → rule_letter r ≡ 86) → (freed ≡ true → rule_letter r ≡ 86) → ¬ (r ≡ V0) → ¬ (r ≡ J6) → run Nothing (map name (over_if tested J6 (over_if freed V0 (r ∷ [])))) ≡ whole tested freed r
chain_runs false false r t f v j = ap (longer Nothing) (rule_of_name r) ∙ begun_is r v j
chain_runs false true r t f v j = ap (longer (Freed false)) (rule_of_name r) ∙ free_is false r v ∙ value_is r _ (f refl)
chain_runs true false r t f v j = ap (longer Tested) (rule_of_name r) ∙ test_is r v ∙ value_is r _ (t refl)
chain_runs true true r t f v j = ap (longer (Freed true)) (rule_of_name r) ∙ free_is true r v ∙ value_is r _ (f refl)

chain_run : (c : Chain) → IsChain c → run Nothing (map name (chain_rules c)) ≡ Whole c
chain_run c h = chain_runs c.is_tested c.is_freed c.rule h.tested h.freed h.not_freed_again h.not_tested_again

-- and no others do
wrong_longer : (o : Option Rule) → longer Wrong o ≡ Wrong
wrong_longer None = refl
wrong_longer (Some r) = refl

whole_longer : (c : Chain) (o : Option Rule) → longer (Whole c) o ≡ Wrong
whole_longer c None = refl
whole_longer c (Some r) = refl

run_wrong : (xs : List Name) → run Wrong xs ≡ Wrong
run_wrong [] = refl
run_wrong (x ∷ xs) = ap (λ ns. run ns xs) (wrong_longer (rule_named x.letter x.number)) ∙ run_wrong xs

not_wrong : (xs : List Name) (d : Chain) → ¬ (run Wrong xs ≡ Whole d)
not_wrong xs d h = let e = run_wrong xs in cc

run_whole : (c d : Chain) (xs : List Name) → run (Whole c) xs ≡ Whole d → (xs ≡ []) × (c ≡ d)
run_whole c d [] h = (refl, cc)
run_whole c d (x ∷ xs) h = absurd (not_wrong xs d (sym (ap (λ ns. run ns xs) (whole_longer c (rule_named x.letter x.number))) ∙ h))

-- a last rule of values
record Last (tested freed : Bool) (xs : List Name) (d : Chain) : Type 0 where
  rule : Rule
  names : xs ≡ name rule ∷ []
  value : rule_letter rule ≡ 86
  not_v0 : ¬ (rule ≡ V0)
  is : d ≡ record { is_tested = tested; is_freed = freed; rule = rule }

run_value : (tested freed : Bool) (r : Rule) (xs : List Name) (d : Chain) (t : Bool) → (rule_letter r == 86) ≡ t → run (cond t (whole tested freed r) Wrong) xs ≡ Whole d → (rule_letter r ≡ 86) × (xs ≡ []) × (d ≡ record { is_tested = tested; is_freed = freed; rule = r })
run_value tested freed r xs d true e h = let p = run_whole _ d xs h in (eqb-true (rule_letter r) 86 e, p.0, sym p.1)
run_value tested freed r xs d false e h = absurd (not_wrong xs d h)

last_of : (tested freed : Bool) (x : Name) (xs : List Name) (d : Chain) (r : Rule) → x ≡ name r → ¬ (r ≡ V0) → run (of_value r (whole tested freed r)) xs ≡ Whole d → Last tested freed (x ∷ xs) d
last_of tested freed x xs d r e v h =
    let p = run_value tested freed r xs d (rule_letter r == 86) refl h in
    record { rule = r; names = ap₂ (λ y ys. y ∷ ys) e p.1; value = p.0; not_v0 = v; is = p.2 }

freed_at : (tested : Bool) (x : Name) (xs : List Name) (d : Chain) (o : Option Rule) → rule_named x.letter x.number ≡ o → run (longer (Freed tested) o) xs ≡ Whole d → Last tested true (x ∷ xs) d
freed_at tested x xs d None e h = absurd (not_wrong xs d h)
freed_at tested x xs d (Some r) e h =
    ⊎_elim
    (λ i. absurd (not_wrong xs d (sym (ap (λ y. run (after_free tested y) xs) i) ∙ h)))
    (λ i. last_of tested true x xs d r (name_of_rule x r e) i (sym (ap (λ ns. run ns xs) (free_is tested r i)) ∙ h))
    (is_v0 r)

run_freed : (tested : Bool) (xs : List Name) (d : Chain) → run (Freed tested) xs ≡ Whole d → Last tested true xs d
run_freed tested [] d h = absurd (cc)
run_freed tested (x ∷ xs) d h = freed_at tested x xs d (rule_named x.letter x.number) refl h

-- the names are those of the chain
abbrev AreOf : List Name → Chain → Type 0
AreOf xs d = IsChain d × (xs ≡ map name (chain_rules d))

not_j6 : (r : Rule) → rule_letter r ≡ 86 → ¬ (r ≡ J6)
not_j6 r h e = let i = ap rule_letter e in omega arith

are_of : (tested freed : Bool) (xs : List Name) (d : Chain) → (l : Last tested freed xs d) → AreOf (map name (over_if tested J6 (over_if freed V0 (l.rule ∷ [])))) d
are_of tested freed xs d l =
    subst (λ c. AreOf (map name (over_if tested J6 (over_if freed V0 (l.rule ∷ [])))) c) (sym l.is)
    (record { tested = λ _. l.value; freed = λ _. l.value; not_freed_again = l.not_v0; not_tested_again = not_j6 l.rule l.value }, refl)

with_names : (xs ys : List Name) (d : Chain) → xs ≡ ys → AreOf ys d → AreOf xs d
with_names xs ys d e h = (h.0, e ∙ h.1)

tested_at : (x : Name) (xs : List Name) (d : Chain) (o : Option Rule) → rule_named x.letter x.number ≡ o → run (longer Tested o) xs ≡ Whole d → AreOf (name J6 ∷ x ∷ xs) d
tested_at x xs d None e h = absurd (not_wrong xs d h)
tested_at x xs d (Some r) e h =
    ⊎_elim
    (λ i. let l = run_freed true xs d (sym (ap (λ y. run (after_test y) xs) i) ∙ h) in
    with_names (name J6 ∷ x ∷ xs) _ d (ap₂ (λ y ys. name J6 ∷ y ∷ ys) (name_of_rule x r e ∙ ap name i) l.names) (are_of true true xs d l))
    (λ i. let l = last_of true false x xs d r (name_of_rule x r e) i (sym (ap (λ ns. run ns xs) (test_is r i)) ∙ h) in
    with_names (name J6 ∷ x ∷ xs) _ d (ap (λ ys. name J6 ∷ ys) l.names) (are_of true false (x ∷ xs) d l))
    (is_v0 r)

run_tested : (xs : List Name) (d : Chain) → run Tested xs ≡ Whole d → AreOf (name J6 ∷ xs) d
run_tested [] d h = absurd (cc)
run_tested (x ∷ xs) d h = tested_at x xs d (rule_named x.letter x.number) refl h

whole_at : (x : Name) (xs : List Name) (d : Chain) (r : Rule) → x ≡ name r → ¬ (r ≡ V0) → ¬ (r ≡ J6) → run (begun r) xs ≡ Whole d → AreOf (x ∷ xs) d
whole_at x xs d r e v j h =
    let p = run_whole _ d xs (sym (ap (λ ns. run ns xs) (begun_is r v j)) ∙ h) in
    subst (λ c. AreOf (x ∷ xs) c) p.1 (record { tested = λ t. cc; freed = λ t. cc; not_freed_again = v; not_tested_again = j }, ap₂ (λ y ys. y ∷ ys) e p.0)

begun_at : (x : Name) (xs : List Name) (d : Chain) (o : Option Rule) → rule_named x.letter x.number ≡ o → run (longer Nothing o) xs ≡ Whole d → AreOf (x ∷ xs) d
begun_at x xs d None e h = absurd (not_wrong xs d h)
begun_at x xs d (Some r) e h =
    ⊎_elim
    (λ i. let l = run_freed false xs d (sym (ap (λ y. run (begun y) xs) i) ∙ h) in
    with_names (x ∷ xs) _ d (ap₂ (λ y ys. y ∷ ys) (name_of_rule x r e ∙ ap name i) l.names) (are_of false true xs d l))
    (λ v. ⊎_elim
    (λ i. with_names (x ∷ xs) _ d (ap (λ y. y ∷ xs) (name_of_rule x r e ∙ ap name i)) (run_tested xs d (sym (ap (λ y. run (begun y) xs) i) ∙ h)))
    (λ j. whole_at x xs d r (name_of_rule x r e) v j h)
    (is_j6 r))
    (is_v0 r)

run_begun : (xs : List Name) (d : Chain) → run Nothing xs ≡ Whole d → AreOf xs d
run_begun [] d h = absurd (cc)
run_begun (x ∷ xs) d h = begun_at x xs d (rule_named x.letter x.number) refl h

-- what the names say
no_chain : (xs : List Name) (ns : Names) → run Nothing xs ≡ ns → ((c : Chain) → ¬ (ns ≡ Whole c)) → (c : Chain) → IsChain c → ¬ (xs ≡ map name (chain_rules c))
no_chain xs ns e k c h i = k c (sym e ∙ ap (run Nothing) i ∙ chain_run c h)

said : (xs : List Name) (ns : Names) → ¬ (xs ≡ []) → run Nothing xs ≡ ns → AreNamed xs (ended ns)
said xs (Whole c) k e = let p = run_begun xs c e in subst (λ ys. AreNamed ys (Named c)) (sym p.1) (named p.0)
said xs ns k e = wrong k (no_chain xs ns e (λ c i. cc))

pub names_said : (xs : List Name) → ¬ (xs ≡ []) → AreNamed xs (ended (run Nothing xs))
names_said xs h = said xs (run Nothing xs) h refl
