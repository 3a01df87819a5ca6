-- For proofs: numbers that are the words of some thing, such as a derivation.
use Rattle.std.proofs.Common.{◌≡◌, ℕ, ◌+◌, List, [], ◌∷◌, ◌++◌, Bool, true, false, Option, Some, None, IsTrue, refl, ap, subst, ◌∙◌, arith}
use Rattle.bc_core.specs.declared.operands.Operand.{Operand}
use Rattle.bc_rules_defs.specs.Piece.{operand_words}
use Rattle.std.specs.Prelude.{nat_lt}
use Rattle.std.proofs.lemmas.Bool.{cond_both}
use Rattle.bc_rules_defs.specs.declared.rule.Rule.{Rule}
use Rattle.bc_select_defs.specs.declared.choice.Choice.{Choice}
use Rattle.bc_select_defs.specs.declared.choice.Candidate.{Candidate}
use Rattle.bc_select_defs.specs.Options.{plus, more, sum, given, operand_cost, choice, better, least_from}

-- some thing of type X has n words and has the property P
pub record Made (X : Type 0) (c : X → ℕ) (P : X → Type 0) (n : ℕ) : Type 0 where
  pub thing : X
  pub words : c thing ≡ n
  pub fact : P thing

-- if x is a number of words, some thing of type X has that many, and has the property P
pub record Makes (X : Type 0) (c : X → ℕ) (P : X → Type 0) (x : Option ℕ) : Type 0 where
  pub some : (n : ℕ) → x ≡ Some n → Made X c P n

pub makes_none : (X : Type 0) (c : X → ℕ) (P : X → Type 0) → Makes X c P None
makes_none X c P = record { some = λ n e. cc }

pub makes_some : (X : Type 0) (c : X → ℕ) (P : X → Type 0) (d : X) (n : ℕ) → c d ≡ n → P d → Makes X c P (Some n)
makes_some X c P d n h p = record { some = λ k e. let is : n ≡ k = cc in record { thing = d; words = h ∙ is; fact = p } }

pub makes_map : (X Y : Type 0) (c : X → ℕ) (e : Y → ℕ) (P : X → Type 0) (Q : Y → Type 0) (x : Option ℕ) (r : X → Y) → ((d : X) → e (r d) ≡ c d)
    → ((d : X) → P d → Q (r d)) → Makes X c P x → Makes Y e Q x
makes_map X Y c e P Q x r w q h =
    record { some = λ n i. let d = h.some n i in record { thing = r d.thing; words = w d.thing ∙ d.words; fact = q d.thing d.fact } }

pub makes_plus : (X : Type 0) (c : X → ℕ) (P : X → Type 0) (x : Option ℕ) (k : ℕ) → Makes X c P x → Makes X (λ d. c d + k) P (plus x k)
unfolding plus
makes_plus X c P None k h = makes_none X (λ d. c d + k) P
makes_plus X c P (Some x) k h = record {
  some = λ n e. let d = h.some x refl in let is : x + k ≡ n = cc in
      record { thing = d.thing; words = ap (λ y. y + k) d.words ∙ is; fact = d.fact };
}

pub makes_more : (X : Type 0) (c : X → ℕ) (P : X → Type 0) (x : Option ℕ) (k : ℕ) → Makes X c P x → Makes X (λ d. k + c d) P (more k x)
unfolding more
makes_more X c P None k h = makes_none X (λ d. k + c d) P
makes_more X c P (Some x) k h = record {
  some = λ n e. let d = h.some x refl in let is : k + x ≡ n = cc in
      record { thing = d.thing; words = ap (λ y. k + y) d.words ∙ is; fact = d.fact };
}

pub makes_sum : (X Y : Type 0) (c : X → ℕ) (e : Y → ℕ) (P : X → Type 0) (Q : Y → Type 0) (x y : Option ℕ) → Makes X c P x → Makes Y e Q y
    → Makes (X × Y) (λ p. c p.0 + e p.1) (λ p. P p.0 × Q p.1) (sum x y)
unfolding sum
makes_sum X Y c e P Q None y h i = makes_none (X × Y) (λ p. c p.0 + e p.1) (λ p. P p.0 × Q p.1)
makes_sum X Y c e P Q (Some x) None h i = makes_none (X × Y) (λ p. c p.0 + e p.1) (λ p. P p.0 × Q p.1)
makes_sum X Y c e P Q (Some x) (Some y) h i = record {
  some = λ n k. let d = h.some x refl in let b = i.some y refl in let is : x + y ≡ n = cc in
      record { thing = (d.thing, b.thing); words = omega (arith, d.words, b.words); fact = (d.fact, b.fact) };
}

pub makes_given : (X : Type 0) (c : X → ℕ) (P : X → Type 0) (b : Bool) (x : Option ℕ) → (IsTrue b → Makes X c P x) → Makes X c P (given b x)
unfolding given
makes_given X c P true x h = h refl
makes_given X c P false x h = makes_none X c P

abbrev pub OperandOf : Option Operand → Type 0
OperandOf p = (o : Operand) × (p ≡ Some o)

pub makes_operand : (p : Option Operand) → Makes (OperandOf p) (λ q. operand_words q.0) (λ q. Unit {0}) (operand_cost p)
unfolding operand_cost
makes_operand None = makes_none (OperandOf None) (λ q. operand_words q.0) (λ q. Unit {0})
makes_operand (Some o) = makes_some (OperandOf (Some o)) (λ q. operand_words q.0) (λ q. Unit {0}) (o, refl) (operand_words o) refl tt

-- each candidate has the words of a thing with the property for its rule
abbrev pub AllMade : (X : Type 0) (c : X → ℕ) (P : Rule → X → Type 0) → List Candidate → Type 0
AllMade X c P [] = Unit {0}
AllMade X c P (x ∷ xs) = Makes X c (P x.rule) x.words × AllMade X c P xs

pub all_append : (X : Type 0) (c : X → ℕ) (P : Rule → X → Type 0) (xs ys : List Candidate) → AllMade X c P xs → AllMade X c P ys → AllMade X c P (xs ++ ys)
all_append X c P [] ys h i = i
all_append X c P (x ∷ xs) ys h i = (h.0, all_append X c P xs ys h.1 i)

-- a choice has the words of a thing with the property for its rule
pub record Chosen (X : Type 0) (c : X → ℕ) (P : Rule → X → Type 0) (x : Option Choice) : Type 0 where
  pub some : (best : Choice) → x ≡ Some best → Made X c (P best.rule) best.words

chosen_none : (X : Type 0) (c : X → ℕ) (P : Rule → X → Type 0) → Chosen X c P None
chosen_none X c P = record { some = λ best h. cc }

chosen_new : (X : Type 0) (c : X → ℕ) (P : Rule → X → Type 0) (r : Rule) (n : ℕ) → Makes X c (P r) (Some n) → Chosen X c P (Some (choice r n))
chosen_new X c P r n h = record {
  some = λ best i. let is : choice r n ≡ best = cc in let Q : Choice → Type 0 = λ b. Made X c (P b.rule) b.words in
      subst Q is (h.some n refl);
}

chosen_better : (X : Type 0) (c : X → ℕ) (P : Rule → X → Type 0) (best : Option Choice) (r : Rule) (x : Option ℕ) → Chosen X c P best → Makes X c (P r) x
    → Chosen X c P (better best r x)
unfolding better
chosen_better X c P None r None h i = h
chosen_better X c P (Some b) r None h i = h
chosen_better X c P None r (Some n) h i = chosen_new X c P r n i
chosen_better X c P (Some b) r (Some n) h i = cond_both (nat_lt n b.words) (choice r n) b (λ d. Chosen X c P (Some d)) (λ t. chosen_new X c P r n i) (λ t. h)

chosen_from : (X : Type 0) (c : X → ℕ) (P : Rule → X → Type 0) (best : Option Choice) (xs : List Candidate) → Chosen X c P best → AllMade X c P xs
    → Chosen X c P (least_from best xs)
unfolding least_from
chosen_from X c P best [] h all = h
chosen_from X c P best (x ∷ xs) h all = chosen_from X c P (better best x.rule x.words) xs (chosen_better X c P best x.rule x.words h all.0) all.1

pub chosen_least : (X : Type 0) (c : X → ℕ) (P : Rule → X → Type 0) (xs : List Candidate) → AllMade X c P xs → Chosen X c P (least_from None xs)
chosen_least X c P xs all = chosen_from X c P None xs (chosen_none X c P) all
