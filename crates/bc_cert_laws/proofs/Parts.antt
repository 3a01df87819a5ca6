-- A part of a node: what it contributes to a rule that takes it, and which derivation its lines show.
use Rattle.std.proofs.Common.{◌≡◌, ℕ, true, Option, Some, None, List, [], ◌∷◌, ◌++◌, refl, ap, sym, subst, ◌∙◌, arith}
use Rattle.std.proofs.lemmas.Bool.{eqb-true, eq-eqb}
use Rattle.bc_core.specs.Tree.{Exp, Value, Test}
use Rattle.bc_rules_defs.specs.declared.rule.Table.{Table}
use Rattle.bc_rules_defs.specs.declared.rule.Mode.TheVariants.{Any, Push}
use Rattle.bc_rules_defs.specs.declared.rule.Aim.{Aim}
use Rattle.bc_rules_defs.specs.declared.rule.Aim.TheVariants.{Gets, Jumps}
use Rattle.bc_rules_defs.specs.Rules.{Derives, v0, value, test, Tree, shape}
use Rattle.bc_rules_defs.specs.Code.{cost}
use Rattle.bc_select_defs.specs.Least.{AreLeastWords}
use Rattle.bc_select_defs.specs.Nodes.{in_order}
use Rattle.bc_select_defs.proofs.Words.{choices_are_least}
use Rattle.bc_cert_defs.specs.declared.costs.Costs.{Costs}
use Rattle.bc_cert_read.specs.declared.facts.Facts.{Facts}
use Rattle.bc_cert_read.specs.Costs.{cost_of}
use Rattle.bc_cert_read.specs.Parts.{AreLeast}
use Rattle.bc_cert_read.specs.declared.mark.TreeFacts.{TreeFacts}
use Rattle.bc_cert_read.specs.Marks.{has_aim}
use Rattle.bc_cert_read.specs.Showing.{has_words}
use Rattle.bc_cert_write.specs.Shown.{Shown, shown, below}
use Rattle.bc_cert_write.proofs.Texts.{nodes_in_order}
use Rattle.bc_cert_laws.specs.Standing.{IsFewest}
use Rattle.bc_cert_laws.proofs.Over.{StandsAt}
use Rattle.bc_cert_laws.proofs.Kept.{keys}

-- the nodes of a derivation, in order
other_rules : (xs : List Shown) (m n : Shown) → keys (m ∷ []) ≡ keys (n ∷ []) → keys (xs ++ m ∷ []) ≡ keys (xs ++ n ∷ [])
other_rules [] m n h = h
other_rules (x ∷ xs) m n h = ap (λ l. (x.expression, x.level) ∷ l) (other_rules xs m n h)

pub shown_order : {T : Table} {e : Exp} (aim : Aim) (d : Derives T e aim) (s : ℕ) → keys (shown d s) ≡ in_order e s
shown_order {T = T} {e = e} (Gets Any) d s = nodes_in_order T (Value s e) (value d)
shown_order {T = T} {e = e} (Gets Push) d s = other_rules (below d s) _ _ refl ∙ nodes_in_order T (Value s e) (value (v0 d))
shown_order {T = T} {e = e} (Jumps sense) d s = nodes_in_order T (Test s sense e) (test d)

-- a derivation has the least words exactly if no other has fewer
least_words : (T : Table) (e : Exp) (s : ℕ) (c : Costs) → AreLeast T e s c → (aim : Aim) → AreLeastWords T e aim s (cost_of aim c)
least_words T e s c h aim = subst (AreLeastWords T e aim s) (h.words aim) (choices_are_least T e aim s).0

words_of_fewest : {T : Table} {e : Exp} {aim : Aim} (d : Derives T e aim) (s : ℕ) (x : Option ℕ) → AreLeastWords T e aim s x → IsFewest d s → x ≡ Some (cost d s)
words_of_fewest d s None h f = absurd (h d)
words_of_fewest d s (Some n) h f =
    let words = h.0.1 in
    let low = h.1 d in
    let high = f h.0.0 in
    ap Some (omega arith)

fewest_of_words : {T : Table} {e : Exp} {aim : Aim} (d : Derives T e aim) (s k : ℕ) (x : Option ℕ) → AreLeastWords T e aim s x → x ≡ Some k → cost d s ≡ k → IsFewest d s
fewest_of_words d s k None h i j = cc
fewest_of_words d s k (Some n) h i j =
    let same : n ≡ k = cc in
    λ other. let low = h.1 other in omega arith

pub counted_of : {T : Table} {e : Exp} {s : ℕ} {c : Costs} {aim : Aim} → AreLeast T e s c → (d : Derives T e aim) → IsFewest d s → cost_of aim c ≡ Some (cost d s)
counted_of {T = T} {e = e} {s = s} {c = c} {aim = aim} h d f = words_of_fewest d s (cost_of aim c) (least_words T e s c h aim) f

pub fewest_of : {T : Table} {e : Exp} {s : ℕ} {c : Costs} {aim : Aim} → AreLeast T e s c → (d : Derives T e aim) (k : ℕ) → cost_of aim c ≡ Some k → cost d s ≡ k → IsFewest d s
fewest_of {T = T} {e = e} {s = s} {c = c} {aim = aim} h d k i j = fewest_of_words d s k (cost_of aim c) (least_words T e s c h aim) i j

-- a derivation that the lines of a part show
pub record Part (T : Table) (a : Exp) (s : ℕ) (ns : List Shown) (p : Facts) (aim : Aim) : Type 0 where
  pub derivation : Derives T a aim
  pub shown : shown derivation s ≡ ns
  pub counted : cost_of aim p.costs ≡ Some (cost derivation s)

pub part_to : {T : Table} {a : Exp} {s : ℕ} {ns : List Shown} {m : TreeFacts} {p : Facts} {x : Tree} → StandsAt T a s ns m p x → (aim : Aim) → has_aim m.shown aim ≡ true → Part T a s ns p aim
part_to h aim k = let d = h.shows aim k in record { derivation = d.derivation; shown = sym d.shown; counted = counted_of h.part.costs d.derivation d.fewest }

pub record Has (m : TreeFacts) (p : Facts) (x : Tree) (aim : Aim) (words : ℕ) (t : Tree) : Type 0 where
  pub agrees : has_aim m.shown aim ≡ true
  pub counted : cost_of aim p.costs ≡ Some words
  pub shape : t ≡ x

pub part_from : {T : Table} {a : Exp} {s : ℕ} {ns : List Shown} {m : TreeFacts} {p : Facts} {x : Tree} {aim : Aim} → StandsAt T a s ns m p x → (d : Derives T a aim) → shown d s ≡ ns → IsFewest d s → Has m p x aim (cost d s) (shape d)
part_from {aim = aim} h d k f = let o = h.has aim d (sym k) f in record { agrees = o.0; counted = counted_of h.part.costs d f; shape = o.1 }

-- the words of a recipe
pub words_are : (x : Option ℕ) (n : ℕ) → has_words x (Some n) ≡ true → x ≡ Some n
words_are None n h = cc
words_are (Some m) n h = ap Some (eqb-true m n h)

pub are_words : (x : Option ℕ) (n : ℕ) → x ≡ Some n → has_words x (Some n) ≡ true
are_words x n h = ap (λ y. has_words y (Some n)) h ∙ eq-eqb n n refl
