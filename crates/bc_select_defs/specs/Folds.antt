-- For proofs: the fold over candidates keeps the best of them.
use Rattle.std.proofs.Common.{◌≡◌, ℕ, ◌≤◌, ◌<◌, ◌==◌, List, [], ◌∷◌, Bool, true, false, ◌&&◌, Option, Some, None, cond, refl, subst, arith}
use Rattle.std.specs.Prelude.{nat_le, nat_lt}
use Rattle.std.proofs.lemmas.Bool.{cond_both, ltb-true, ltb-false, leb-true, eqb-true, and_parts}
use Rattle.bc_rules_defs.specs.declared.rule.Rule.{Rule}
use Rattle.bc_select_defs.specs.declared.choice.Choice.{Choice}
use Rattle.bc_select_defs.specs.declared.choice.Candidate.{Candidate}
use Rattle.bc_rules_defs.specs.Names.{rule_number}
use Rattle.bc_select_defs.specs.Options.{words_of, choice, better, least_from}

-- the words exist and are at most k
abbrev pub Within : Option ℕ → ℕ → Type 0
Within None k = ⊥
Within (Some n) k = n ≤ k

pub record Reaches (x : Option ℕ) (k : ℕ) : Type 0 where
  pub fact : Within x k

-- the choice has at most k words; if it has k, its rule's number is at most q
pub record IsUpTo (c : Choice) (k q : ℕ) : Type 0 where
  pub fewer : c.words ≤ k
  pub first : k ≤ c.words → rule_number c.rule ≤ q

abbrev pub Chooses : Option Choice → ℕ → ℕ → Type 0
Chooses None k q = ⊥
Chooses (Some c) k q = IsUpTo c k q

pub record AtMost (x : Option Choice) (k q : ℕ) : Type 0 where
  pub fact : Chooses x k q

abbrev pub RuleUpTo : Option Choice → ℕ → Type 0
RuleUpTo None m = Unit {0}
RuleUpTo (Some c) m = rule_number c.rule ≤ m

-- the candidates' rules are in the order of their numbers, from m on
abbrev pub ascending : ℕ → List Candidate → Bool
ascending m [] = true
ascending m (c ∷ cs) = nat_le m (rule_number c.rule) && ascending (rule_number c.rule) cs

-- the words of the candidate whose rule has this number
abbrev pub of_rule : ℕ → List Candidate → Option ℕ
of_rule q [] = None
of_rule q (c ∷ cs) = cond (rule_number c.rule == q) c.words (of_rule q cs)

less : (b : Choice) (r : Rule) (n k q : ℕ) → IsUpTo b k q → n < b.words → IsUpTo (choice r n) k q
less b r n k q h e = let f = h.fewer in record { fewer = omega arith; first = λ i. absurd (omega arith) }

better_kept : (best : Option Choice) (r : Rule) (x : Option ℕ) (k q : ℕ) → Chooses best k q → Chooses (better best r x) k q
unfolding better
better_kept None r None k q h = absurd h
better_kept None r (Some n) k q h = absurd h
better_kept (Some b) r None k q h = h
better_kept (Some b) r (Some n) k q h = cond_both (nat_lt n b.words) (choice r n) b (λ c. IsUpTo c k q) (λ e. less b r n k q h (ltb-true n b.words e)) (λ e. h)

-- a bound on the best choice is kept by the fold
kept : (best : Option Choice) (cs : List Candidate) (k q : ℕ) → Chooses best k q → Chooses (least_from best cs) k q
unfolding least_from
kept best [] k q h = h
kept best (c ∷ cs) k q h = kept (better best c.rule c.words) cs k q (better_kept best c.rule c.words k q h)

better_is : (best : Option Choice) (r : Rule) (x : Option ℕ) (k : ℕ) → RuleUpTo best (rule_number r) → Within x k → Chooses (better best r x) k (rule_number r)
unfolding better
better_is best r None k b h = absurd h
better_is None r (Some n) k b h = record { fewer = h; first = λ i. omega arith }
better_is (Some c) r (Some n) k b h = cond_both (nat_lt n c.words) (choice r n) c (λ d. IsUpTo d k (rule_number r))
    (λ e. record { fewer = h; first = λ i. omega arith }) (λ e. let le = ltb-false n c.words e in record { fewer = omega arith; first = λ i. b })

better_rule : (best : Option Choice) (r : Rule) (x : Option ℕ) → RuleUpTo best (rule_number r) → RuleUpTo (better best r x) (rule_number r)
unfolding better
better_rule best r None b = b
better_rule None r (Some n) b = omega arith
better_rule (Some c) r (Some n) b = cond_both (nat_lt n c.words) (choice r n) c (λ d. rule_number d.rule ≤ rule_number r) (λ e. omega arith) (λ e. b)

rule_further : (best : Option Choice) (m n : ℕ) → m ≤ n → RuleUpTo best m → RuleUpTo best n
rule_further None m n h b = tt
rule_further (Some c) m n h b = omega arith

-- the fold chooses no more words than any rule among the candidates has
reached : (best : Option Choice) (m : ℕ) (cs : List Candidate) (k q : ℕ) → RuleUpTo best m → ascending m cs ≡ true → Within (of_rule q cs) k
    → Chooses (least_from best cs) k q
unfolding least_from
reached best m [] k q b a h = absurd h
reached best m (c ∷ cs) k q b a h =
    let parts = and_parts (nat_le m (rule_number c.rule)) (ascending (rule_number c.rule) cs) a in
    let le = leb-true m (rule_number c.rule) parts.0 in
    let b1 = rule_further best m (rule_number c.rule) le b in
    elim (rule_number c.rule == q) as (λ t. (rule_number c.rule == q) ≡ t → Within (cond t c.words (of_rule q cs)) k
    → Chooses (least_from (better best c.rule c.words) cs) k q) [
      | true ↦ (λ e g. let is = eqb-true (rule_number c.rule) q e in let P : ℕ → Type 0 = λ n. Chooses (least_from (better best c.rule c.words) cs) k n in
          subst P is (kept (better best c.rule c.words) cs k (rule_number c.rule) (better_is best c.rule c.words k b1 g)))
      | false ↦ (λ e g. reached (better best c.rule c.words) (rule_number c.rule) cs k q (better_rule best c.rule c.words b1) parts.1 g)
    ] refl h

pub by_rule : (cs : List Candidate) (k q : ℕ) → ascending 0 cs ≡ true → Reaches (of_rule q cs) k → AtMost (least_from None cs) k q
by_rule cs k q a h = record { fact = reached None 0 cs k q tt a h.fact }

words_within : (x : Option Choice) (k q : ℕ) → Chooses x k q → Within (words_of x) k
words_within None k q h = h
words_within (Some c) k q h = h.fewer

pub words : (x : Option Choice) (k q : ℕ) → AtMost x k q → Reaches (words_of x) k
words x k q h = record { fact = words_within x k q h.fact }
