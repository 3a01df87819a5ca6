-- The rules that apply, from the lists of a node, are exactly those with which a derivation can begin, with their least words.
-- It is stated for any things that begin with rules and have words, so no rule is named.
use Rattle.std.proofs.Common.{◌≡◌, ℕ, ◌+◌, ◌==◌, ◌≤◌, List, [], ◌∷◌, Bool, true, false, ◌&&◌, ◌⊎◌, Option, Some, None, map, cond, refl, ap, sym, subst, ◌∙◌, inl, inr, arith}
use Rattle.std.specs.Prelude.{nat_le, min}
use Rattle.std.specs.List.{AllZip, AllByRecursion}
use Rattle.std.proofs.lemmas.Bool.{cond-true, cond-false, and_parts, and_from, leb-true, leb-false, le-leb, eqb-true, eq-eqb, ne_eqb}
use Rattle.bc_core.specs.Tree.{Exp, Num, Frame, Glob, Place, Load, Neg, Not, Bin, Cond, Call, Valof}
use Rattle.bc_rules_defs.specs.declared.rule.Table.TheVariants.{Two}
use Rattle.bc_rules_defs.specs.declared.rule.Mode.TheVariants.{Any, Push}
use Rattle.bc_rules_defs.specs.declared.rule.Aim.{Aim}
use Rattle.bc_rules_defs.specs.declared.rule.Aim.TheVariants.{Gets, Jumps}
use Rattle.bc_rules_defs.specs.declared.rule.Rule.{Rule}
use Rattle.bc_rules_defs.specs.Rules.{Derives}
use Rattle.bc_rules_defs.specs.Code.{cost}
use Rattle.bc_select_defs.specs.declared.choice.Candidate.{Candidate}
use Rattle.bc_select_defs.specs.Least.{first_rule, AreLeastWords}
use Rattle.bc_rules_defs.specs.Names.{rule_number}
use Rattle.bc_select_defs.specs.Folds.{Within, Reaches, of_rule}
use Rattle.bc_select_defs.specs.Makes.{Makes, AllMade}
use Rattle.bc_select_defs.proofs.Rules.{same_rule}
use Rattle.bc_select.specs.Rows.{AreCosts}
use Rattle.bc_candidates.specs.declared.candidate.Beginning.{Beginning}
use Rattle.bc_candidates.specs.Beginnings.{IsAmong, rises_from, or_fewer, least_words, AreBeginnings}
use Rattle.bc_candidates.specs.Aims.{ForAims, AreCandidatesOf}
use Rattle.bc_candidates.specs.Laws.{LeastAreTheRows}
use Rattle.bc_candidates.specs.Below.{Adds}
use Rattle.bc_candidates.specs.Lists.{list_for, lists, beginnings, applying, candidates_at}
use Rattle.bc_candidates.proofs.Lower.{starts}
use Rattle.bc_candidates.proofs.Made.{made}

-- a rule with the least words of the things that begin with it
abbrev Least : (X : Type 0) (c : X → ℕ) (rule : X → Rule) → Beginning → Type 0
Least X c rule b = ((d : X) × (rule d ≡ b.rule) × (c d ≡ b.words)) × ((d : X) → rule d ≡ b.rule → b.words ≤ c d)

-- candidates whose numbers increase
abbrev rising : ℕ → List Candidate → Bool
rising m [] = true
rising m (c ∷ cs) = nat_le m (rule_number c.rule) && rising (rule_number c.rule + 1) cs

here : (k : Candidate) (ks : List Candidate) (q j : ℕ) → rule_number k.rule ≡ q → Reaches (of_rule q (k ∷ ks)) j → Reaches k.words j
here k ks q j e r = let P : Option ℕ → Type 0 = λ x. Reaches x j in subst P (cond-true (rule_number k.rule == q) k.words (of_rule q ks) (eq-eqb (rule_number k.rule) q e)) r

later : (k : Candidate) (ks : List Candidate) (q j : ℕ) → rule_number k.rule + 1 ≤ q → Reaches (of_rule q (k ∷ ks)) j → Reaches (of_rule q ks) j
later k ks q j h r = let P : Option ℕ → Type 0 = λ x. Reaches x j in subst P (cond-false (rule_number k.rule == q) k.words (of_rule q ks) (ne_eqb (rule_number k.rule) q (λ e. omega arith))) r

head : (X : Type 0) (c : X → ℕ) (rule : X → Rule) (r : Rule) (x : Option ℕ) (bs : List Beginning) → Makes X c (λ d. rule d ≡ r) x → ((d : X) → rule d ≡ r → Reaches x (c d)) → AllByRecursion (Least X c rule) bs → AllByRecursion (Least X c rule) (applying r x bs)
head X c rule r None bs m low rest = rest
head X c rule r (Some n) bs m low rest = let found = m.some n refl in (((found.thing, found.fact, found.words), λ d e. (low d e).fact), rest)

each_from : (X : Type 0) (c : X → ℕ) (rule : X → Rule) (m : ℕ) (cs : List Candidate) → rising m cs ≡ true → AllMade X c (λ r d. rule d ≡ r) cs → ((d : X) → m ≤ rule_number (rule d) → Reaches (of_rule (rule_number (rule d)) cs) (c d)) → AllByRecursion (Least X c rule) (beginnings cs)
each_from X c rule m [] r all low = tt
each_from X c rule m (k ∷ ks) r all low =
    let parts = and_parts (nat_le m (rule_number k.rule)) (rising (rule_number k.rule + 1) ks) r in
    let le = leb-true m (rule_number k.rule) parts.0 in
    let rest = each_from X c rule (rule_number k.rule + 1) ks parts.1 all.1 (λ d h. later k ks (rule_number (rule d)) (c d) h (low d (omega arith))) in
    head X c rule k.rule k.words (beginnings ks) all.0 (λ d e. let q : rule_number k.rule ≡ rule_number (rule d) = ap rule_number (sym e) in here k ks (rule_number (rule d)) (c d) q (low d (omega arith))) rest

-- the rule of every thing is in the list; `Same` says that rules with the same number are the same
abbrev Same : (X : Type 0) (rule : X → Rule) → Type 0
Same X rule = (d b : X) → rule_number (rule d) ≡ rule_number (rule b) → rule d ≡ rule b

first : (X : Type 0) (c : X → ℕ) (rule : X → Rule) (r : Rule) (x : Option ℕ) (bs : List Beginning) (j : ℕ) (d : X) → Same X rule → Makes X c (λ b. rule b ≡ r) x → rule_number r ≡ rule_number (rule d) → Within x j → IsAmong (rule d) (applying r x bs)
first X c rule r None bs j d same m e h = absurd h
first X c rule r (Some n) bs j d same m e h = let found = m.some n refl in inl (sym found.fact ∙ same found.thing d (ap rule_number found.fact ∙ e))

further : (q r : Rule) (x : Option ℕ) (bs : List Beginning) → IsAmong q bs → IsAmong q (applying r x bs)
further q r None bs h = h
further q r (Some n) bs h = inr h

among : (X : Type 0) (c : X → ℕ) (rule : X → Rule) (cs : List Candidate) (j : ℕ) (d : X) → Same X rule → AllMade X c (λ r b. rule b ≡ r) cs → Within (of_rule (rule_number (rule d)) cs) j → IsAmong (rule d) (beginnings cs)
among X c rule [] j d same all h = absurd h
among X c rule (k ∷ ks) j d same all h =
    let q = rule_number (rule d) in
    elim (rule_number k.rule == q) as (λ t. (rule_number k.rule == q) ≡ t → Within (cond t k.words (of_rule q ks)) j → IsAmong (rule d) (applying k.rule k.words (beginnings ks))) [
      | true ↦ (λ e g. first X c rule k.rule k.words (beginnings ks) j d same all.0 (eqb-true (rule_number k.rule) q e) g)
      | false ↦ (λ e g. further (rule d) k.rule k.words (beginnings ks) (among X c rule ks j d same all.1 g))
    ] refl h

-- the numbers of the candidates that apply increase too
lowered : (m n : ℕ) (bs : List Beginning) → m ≤ n → rises_from n bs ≡ true → rises_from m bs ≡ true
lowered m n [] h r = refl
lowered m n (b ∷ bs) h r =
    let parts = and_parts (nat_le n (rule_number b.rule)) (rises_from (rule_number b.rule + 1) bs) r in
    let le = leb-true n (rule_number b.rule) parts.0 in
    and_from (nat_le m (rule_number b.rule)) (rises_from (rule_number b.rule + 1) bs) (le-leb m (rule_number b.rule) (omega arith)) parts.1

risen : (m : ℕ) (r : Rule) (x : Option ℕ) (bs : List Beginning) → m ≤ rule_number r → rises_from (rule_number r + 1) bs ≡ true → rises_from m (applying r x bs) ≡ true
risen m r None bs h k = lowered m (rule_number r + 1) bs (omega arith) k
risen m r (Some n) bs h k = and_from (nat_le m (rule_number r)) (rises_from (rule_number r + 1) bs) (le-leb m (rule_number r) h) k

rises : (m : ℕ) (cs : List Candidate) → rising m cs ≡ true → rises_from m (beginnings cs) ≡ true
rises m [] r = refl
rises m (k ∷ ks) r =
    let parts = and_parts (nat_le m (rule_number k.rule)) (rising (rule_number k.rule + 1) ks) r in
    risen m k.rule k.words (beginnings ks) (leb-true m (rule_number k.rule) parts.0) (rises (rule_number k.rule + 1) ks parts.1)

-- the least of the words
fewer_left : (n j : ℕ) (x : Option ℕ) → n ≤ j → or_fewer n x ≤ j
fewer_left n j None h = h
fewer_left n j (Some k) h = omega arith

fewer_right : (n j : ℕ) (x : Option ℕ) → Within x j → or_fewer n x ≤ j
fewer_right n j None h = absurd h
fewer_right n j (Some k) h = omega arith

under : (X : Type 0) (c : X → ℕ) (rule : X → Rule) (bs : List Beginning) → AllByRecursion (Least X c rule) bs → (d : X) → IsAmong (rule d) bs → Within (least_words bs) (c d)
under X c rule [] a d h = absurd h
under X c rule (b ∷ bs) a d (inl e) = fewer_left b.words (c d) (least_words bs) (a.0.1 d (sym e))
under X c rule (b ∷ bs) a d (inr h) = fewer_right b.words (c d) (least_words bs) (under X c rule bs a.1 d h)

least_of_two : (n k : ℕ) → (min n k ≡ n) ⊎ (min n k ≡ k)
least_of_two n k =
    elim (nat_le n k) as (λ t. nat_le n k ≡ t → (min n k ≡ n) ⊎ (min n k ≡ k)) [
      | true ↦ (λ e. let h = leb-true n k e in inl (omega arith))
      | false ↦ (λ e. let h = leb-false n k e in inr (omega arith))
    ] refl

found : (X : Type 0) (c : X → ℕ) (rule : X → Rule) (b : Beginning) (bs : List Beginning) → AllByRecursion (Least X c rule) (b ∷ bs) → (d : X) × (c d ≡ or_fewer b.words (least_words bs))
found X c rule b [] a = (a.0.0.0, a.0.0.2)
found X c rule b (g ∷ gs) a =
    let rest = found X c rule g gs a.1 in
    let k = or_fewer g.words (least_words gs) in
    elim (least_of_two b.words k) [
      | inl e ↦ (a.0.0.0, a.0.0.2 ∙ sym e)
      | inr e ↦ (rest.0, rest.1 ∙ sym e)
    ]

least : (e : Exp) (aim : Aim) (s : ℕ) (bs : List Beginning) → AllByRecursion (Least (Derives Two e aim) (λ d. cost d s) (λ d. first_rule d)) bs → ((d : Derives Two e aim) → IsAmong (first_rule d) bs) → AreLeastWords Two e aim s (least_words bs)
least e aim s [] a every = every
least e aim s (b ∷ bs) a every = (found _ _ _ b bs a, λ d. under _ _ _ (b ∷ bs) a d (every d))

-- the numbers in the lists of a node increase
all_rise : (e : Exp) (aim : Aim) (s : ℕ) → rising 0 (list_for aim (lists Two e s)) ≡ true
all_rise (Num n) (Gets Any) s = refl
all_rise (Num n) (Gets Push) s = refl
all_rise (Num n) (Jumps true) s = refl
all_rise (Num n) (Jumps false) s = refl
all_rise (Frame n) (Gets Any) s = refl
all_rise (Frame n) (Gets Push) s = refl
all_rise (Frame n) (Jumps true) s = refl
all_rise (Frame n) (Jumps false) s = refl
all_rise (Glob n) (Gets Any) s = refl
all_rise (Glob n) (Gets Push) s = refl
all_rise (Glob n) (Jumps true) s = refl
all_rise (Glob n) (Jumps false) s = refl
all_rise (Place n) (Gets Any) s = refl
all_rise (Place n) (Gets Push) s = refl
all_rise (Place n) (Jumps true) s = refl
all_rise (Place n) (Jumps false) s = refl
all_rise (Load e) (Gets Any) s = refl
all_rise (Load e) (Gets Push) s = refl
all_rise (Load e) (Jumps true) s = refl
all_rise (Load e) (Jumps false) s = refl
all_rise (Neg e) (Gets Any) s = refl
all_rise (Neg e) (Gets Push) s = refl
all_rise (Neg e) (Jumps true) s = refl
all_rise (Neg e) (Jumps false) s = refl
all_rise (Not e) (Gets Any) s = refl
all_rise (Not e) (Gets Push) s = refl
all_rise (Not e) (Jumps true) s = refl
all_rise (Not e) (Jumps false) s = refl
all_rise (Bin op a b) (Gets Any) s = refl
all_rise (Bin op a b) (Gets Push) s = refl
all_rise (Bin op a b) (Jumps true) s = refl
all_rise (Bin op a b) (Jumps false) s = refl
all_rise (Cond c x y) (Gets Any) s = refl
all_rise (Cond c x y) (Gets Push) s = refl
all_rise (Cond c x y) (Jumps true) s = refl
all_rise (Cond c x y) (Jumps false) s = refl
all_rise (Call es f) (Gets Any) s = refl
all_rise (Call es f) (Gets Push) s = refl
all_rise (Call es f) (Jumps true) s = refl
all_rise (Call es f) (Jumps false) s = refl
all_rise (Valof n) (Gets Any) s = refl
all_rise (Valof n) (Gets Push) s = refl
all_rise (Valof n) (Jumps true) s = refl
all_rise (Valof n) (Jumps false) s = refl

beginnings_are : (e : Exp) (aim : Aim) (s : ℕ) → AreBeginnings e aim s (beginnings (list_for aim (lists Two e s)))
beginnings_are e aim s =
    let cs = list_for aim (lists Two e s) in
    let all = made Two e aim s in
    let up = all_rise e aim s in
    let each = each_from (Derives Two e aim) (λ d. cost d s) (λ d. first_rule d) 0 cs up all (λ d h. starts d s) in
    let every = λ (d : Derives Two e aim). among (Derives Two e aim) (λ b. cost b s) (λ b. first_rule b) cs (cost d s) d same_rule all (starts d s).fact in
    record { each = each; every = every; rising = rises 0 cs up; least = least e aim s (beginnings cs) each every }

candidates_are : (node : Exp × ℕ) → AreCandidatesOf node (candidates_at node)
candidates_are node = record {
  any = beginnings_are node.0 (Gets Any) node.1;
  push = beginnings_are node.0 (Gets Push) node.1;
  on_false = beginnings_are node.0 (Jumps false) node.1;
  on_true = beginnings_are node.0 (Jumps true) node.1;
}

pub all_are : (nodes : List (Exp × ℕ)) → AllZip AreCandidatesOf nodes (map candidates_at nodes)
all_are [] = tt
all_are (node ∷ nodes) = (candidates_are node, all_are nodes)

-- what was appended to the empty list
pub all_found : (new : List ForAims) (nodes : List (Exp × ℕ)) → Adds [] new nodes → AllZip AreCandidatesOf nodes new
all_found new nodes h = let P : List ForAims → Type 0 = λ x. AllZip AreCandidatesOf nodes x in subst P (sym h.is) (all_are nodes)

-- the least words are unique
one_least : (e : Exp) (aim : Aim) (s : ℕ) (x y : Option ℕ) → AreLeastWords Two e aim s x → AreLeastWords Two e aim s y → x ≡ y
one_least e aim s None None h i = refl
one_least e aim s None (Some n) h i = absurd (h i.0.0)
one_least e aim s (Some n) None h i = absurd (i h.0.0)
one_least e aim s (Some n) (Some k) h i =
    let a = h.0.1 in let b = i.0.1 in let f = h.1 i.0.0 in let g = i.1 h.0.0 in
    let same : n ≡ k = omega arith in ap Some same

costs_are : (node : Exp × ℕ) (costs : List (Option ℕ)) (f : ForAims) → AreCosts node.0 node.1 costs → AreCandidatesOf node f → costs ≡ least_words f.any ∷ least_words f.push ∷ least_words f.on_false ∷ least_words f.on_true ∷ []
costs_are node [] f h k = absurd h
costs_are node (a ∷ []) f h k = absurd h
costs_are node (a ∷ b ∷ []) f h k = absurd h
costs_are node (a ∷ b ∷ c ∷ []) f h k = absurd h
costs_are node (a ∷ b ∷ c ∷ d ∷ []) f h k =
    let p = one_least node.0 (Gets Any) node.1 a (least_words f.any) h.0 k.any.least in
    let q = one_least node.0 (Gets Push) node.1 b (least_words f.push) h.1 k.push.least in
    let r = one_least node.0 (Jumps false) node.1 c (least_words f.on_false) h.2 k.on_false.least in
    let t = one_least node.0 (Jumps true) node.1 d (least_words f.on_true) h.3 k.on_true.least in
    cc
costs_are node (a ∷ b ∷ c ∷ d ∷ e ∷ es) f h k = absurd h

pub least_are_the_rows : LeastAreTheRows
least_are_the_rows node row f h k = costs_are node row.costs f h.costs k
