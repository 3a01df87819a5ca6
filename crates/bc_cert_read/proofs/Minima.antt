-- The lesser of two numbers of words, and folds over rules.
use Rattle.std.proofs.Common.{◌≡◌, ℕ, ◌<◌, ◌≤◌, Bool, true, false, List, [], ◌∷◌, Option, Some, None, cond, refl, ap, sym, ◌∙◌, arith}
use Rattle.std.specs.Prelude.{nat_lt, min}
use Rattle.bc_rules_defs.specs.declared.rule.Rule.{Rule}
use Rattle.bc_rules_defs.specs.declared.rule.Aim.{Aim}
use Rattle.bc_select_defs.specs.declared.choice.Choice.{Choice}
use Rattle.bc_select_defs.specs.declared.choice.Candidate.{Candidate}
use Rattle.bc_select_defs.specs.Options.{words_of, better, least_from, choice}
use Rattle.bc_cert_read.specs.Node.{Node, lesser, least, words_by}

pub lesser_none : (x : Option ℕ) → lesser x None ≡ x
lesser_none None = refl
lesser_none (Some n) = refl

pub lesser_turned : (x y : Option ℕ) → lesser x y ≡ lesser y x
lesser_turned None None = refl
lesser_turned None (Some n) = refl
lesser_turned (Some m) None = refl
lesser_turned (Some m) (Some n) = ap Some (omega arith)

pub lesser_grouped : (x y z : Option ℕ) → lesser (lesser x y) z ≡ lesser x (lesser y z)
lesser_grouped None y z = refl
lesser_grouped (Some l) None z = refl
lesser_grouped (Some l) (Some m) None = refl
lesser_grouped (Some l) (Some m) (Some n) = ap Some (omega arith)

-- the middle one first
pub lesser_middle : (x y z : Option ℕ) → lesser (lesser x y) z ≡ lesser y (lesser x z)
lesser_middle x y z = ap (λ q. lesser q z) (lesser_turned x y) ∙ lesser_grouped y x z

-- a fold that begins with a number
pub least_on_from : (n : Node) (aim : Aim) (x y : Option ℕ) (rs : List Rule) → least n aim (lesser x y) rs ≡ lesser x (least n aim y rs)
least_on_from n aim x y [] = refl
least_on_from n aim x y (r ∷ rs) = ap (λ q. least n aim q rs) (lesser_grouped x y (words_by n r aim)) ∙ least_on_from n aim x (lesser y (words_by n r aim)) rs

pub least_after : (n : Node) (aim : Aim) (x : Option ℕ) (rs : List Rule) → lesser x (least n aim None rs) ≡ least n aim x rs
least_after n aim x rs = sym (least_on_from n aim x None rs) ∙ ap (λ q. least n aim q rs) (lesser_none x)

less_one : (m n : ℕ) (b : Bool) → nat_lt n m ≡ b → cond b n m ≡ min m n
less_one m n true h = let i : n < m = grind (arith, h) in omega arith
less_one m n false h = let i : m ≤ n = grind (arith, h) in omega arith

pub better_words : (best : Option Choice) (r : Rule) (x : Option ℕ) → words_of (better best r x) ≡ lesser (words_of best) x
unfolding better
better_words best r None = sym (lesser_none (words_of best))
better_words None r (Some n) = refl
better_words (Some b) r (Some n) = ap Some (taken (nat_lt n b.words) ∙ less_one b.words n (nat_lt n b.words) refl) where
  taken : (t : Bool) → (cond t (choice r n) b).words ≡ cond t n b.words
  taken true = refl
  taken false = refl

-- each rule gives the words of its candidate
abbrev pub Give : Node → Aim → List Rule → List Candidate → Type 0
Give n aim [] [] = Unit {0}
Give n aim (r ∷ rs) (c ∷ cs) = (words_by n r aim ≡ c.words) × Give n aim rs cs
Give n aim _ _ = ⊥

-- so the least words are the same
pub give_least : (n : Node) (aim : Aim) (best : Option Choice) (rs : List Rule) (cs : List Candidate) → Give n aim rs cs → least n aim (words_of best) rs ≡ words_of (least_from best cs)
unfolding least_from
give_least n aim best [] [] h = refl
give_least n aim best [] (c ∷ cs) h = absurd h
give_least n aim best (r ∷ rs) [] h = absurd h
give_least n aim best (r ∷ rs) (c ∷ cs) h =
    ap (λ q. least n aim q rs) (ap (λ x. lesser (words_of best) x) h.0 ∙ sym (better_words best c.rule c.words)) ∙ give_least n aim (better best c.rule c.words) rs cs h.1
