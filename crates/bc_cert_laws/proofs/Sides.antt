-- The least words of an assignment are those that the checker computes from its sides.
use Rattle.std.proofs.Common.{◌≡◌, ℕ, ◌+◌, ◌*◌, ◌≤◌, Bool, true, false, cond, Option, Some, None, [], ◌∷◌, refl, ap, sym, ◌∙◌, arith}
use Rattle.std.specs.Prelude.{is_some}
use Rattle.bc_core.specs.declared.operands.Operand.{Operand}
use Rattle.bc_core.specs.Tree.{Exp, Root, Assign}
use Rattle.bc_core.specs.Operand.{operand_of}
use Rattle.bc_core.specs.Level.{side_level}
use Rattle.bc_core.specs.Value.{has_call}
use Rattle.bc_rules_defs.specs.declared.rule.Table.{Table}
use Rattle.bc_rules_defs.specs.declared.rule.Mode.TheVariants.{Any}
use Rattle.bc_rules_defs.specs.declared.rule.Aim.TheVariants.{Gets}
use Rattle.bc_rules_defs.specs.declared.rule.Rule.{Rule}
use Rattle.bc_rules_defs.specs.declared.rule.Rule.TheVariants.{A1, A2, A3}
use Rattle.bc_rules_defs.specs.Free.{are_free}
use Rattle.bc_rules_defs.specs.Rules.{RootDerives}
use Rattle.bc_rules_defs.specs.Code.{root_cost}
use Rattle.bc_rules_defs.specs.Piece.{w, operand_words}
use Rattle.bc_select_defs.specs.Options.{plus, sum, given, words_of, candidate, better, least_from}
use Rattle.bc_select_defs.specs.Choices.{choices, words_for, node_of, free as free_nodes}
use Rattle.bc_select_defs.specs.Chosen.{assign_choice, chosen, chosen_words, chosen_is_least}
use Rattle.bc_cert_defs.specs.declared.costs.Costs.{Costs}
use Rattle.bc_cert_read.specs.declared.facts.Facts.{Facts}
use Rattle.bc_cert_read.specs.Node.{lesser}
use Rattle.bc_cert_read.specs.Parts.{AreLeast, IsPart}
use Rattle.bc_cert_read.specs.Recipe.{facts_of, words_of_operand, free}
use Rattle.bc_cert_read.proofs.Minima.{better_words}
use Rattle.bc_cert_read.specs.Sides.{words_at, words_by, least_of}
use Rattle.bc_cert_read.specs.Stacks.{side}

abbrev least_at : Option ℕ → ℕ → Facts → Facts → Option ℕ
least_at o s v a = lesser (words_at o s v a A1) (lesser (words_at o s v a A2) (words_at o s v a A3))

two_candidates : (x y : Option ℕ) → words_of (least_from None (candidate A2 x ∷ candidate A3 y ∷ [])) ≡ lesser x y
unfolding least_from
two_candidates x y = better_words (better None A2 x) A3 y ∙ ap (λ z. lesser z y) (better_words None A2 x)

one_candidate : (x : Option ℕ) → words_of (least_from None (candidate A1 x ∷ [])) ≡ lesser None x
unfolding least_from
one_candidate x = better_words None A1 x

free_words : (b : Bool) (m n k : ℕ) → given b (plus (sum (Some m) (Some n)) k) ≡ cond b (Some (m + n + k)) None
unfolding given plus sum
free_words true m n k = refl
free_words false m n k = refl

both_words : (m n k : ℕ) → plus (sum (Some m) (Some n)) k ≡ Some (m + n + k)
unfolding plus sum
both_words m n k = refl

operand_more : (m k : ℕ) → plus (Some m) k ≡ Some (m + k)
unfolding plus
operand_more m k = refl

assign_words : (T : Table) (v a : Exp) (s : ℕ) (c d : Costs) (p : Option Operand) → AreLeast T v (cond (is_some p) s (s + 1)) c → AreLeast T a (cond (is_some p) s (s + 1)) d
    → words_of (assign_choice p (node_of T v (cond (is_some p) s (s + 1))) (node_of T a (cond (is_some p) s (s + 1))) s) ≡ least_at (words_of_operand p) s (facts_of v (has_call v) c) (facts_of a (has_call a) d)
assign_words T v a s c d (Some o) h k =
    one_candidate _ ∙ ap (λ x. lesser None (plus x (operand_words o))) (h.words (Gets Any)) ∙ ap (lesser None) (operand_more c.any (operand_words o))
assign_words T v a s c d None h k =
    let f = free_nodes (node_of T v (s + 1)) (node_of T a (s + 1)) in
    two_candidates _ _
    ∙ ap (λ x. lesser (given f (plus (sum (words_for (Gets Any) (choices T a (s + 1))) x) (2 * w s))) (plus (sum x (words_for (Gets Any) (choices T a (s + 1)))) (2 * w s + 2 * w (s + 1)))) (h.words (Gets Any))
    ∙ ap (λ x. lesser (given f (plus (sum x (Some c.any)) (2 * w s))) (plus (sum (Some c.any) x) (2 * w s + 2 * w (s + 1)))) (k.words (Gets Any))
    ∙ ap (λ x. lesser x (plus (sum (Some c.any) (Some d.any)) (2 * w s + 2 * w (s + 1)))) (free_words f d.any c.any (2 * w s))
    ∙ ap (λ x. lesser (cond f (Some (d.any + c.any + 2 * w s)) None) x) (both_words c.any d.any (2 * w s + 2 * w (s + 1)))

facts_parted : (v a : Exp) (s : ℕ) (f g : Facts) → f ≡ facts_of v (has_call v) f.costs → g ≡ facts_of a (has_call a) g.costs → least_of s f g ≡ least_at (words_of_operand (operand_of a)) s (facts_of v (has_call v) f.costs) (facts_of a (has_call a) g.costs)
facts_parted v a s f g h i = ap (λ x. least_of s x g) h ∙ ap (λ y. least_of s (facts_of v (has_call v) f.costs) y) i

-- the least words of both sides are those of the root's derivation of least words
pub sides_least : {T : Table} {f g : Facts} (v a : Exp) (s : ℕ) → IsPart T v (side_level a s) f → IsPart T a (side_level a s) g → least_of s f g ≡ Some (root_cost (chosen T (Assign s v a)))
sides_least {T = T} {f = f} {g = g} v a s h i =
    facts_parted v a s f g h.facts i.facts ∙ sym (assign_words T v a s f.costs g.costs (operand_of a) h.costs i.costs) ∙ chosen_words T (Assign s v a)

pub least_is_cost : {T : Table} {r : Root} (d : RootDerives T r) → ((other : RootDerives T r) → root_cost d ≤ root_cost other) → root_cost (chosen T r) ≡ root_cost d
least_is_cost {T = T} {r = r} d h = let up = h (chosen T r) in let down = (chosen_is_least T r).fewest d in omega (arith, up, down)

pub cost_is_least : {T : Table} {r : Root} (d : RootDerives T r) → root_cost (chosen T r) ≡ root_cost d → (other : RootDerives T r) → root_cost d ≤ root_cost other
cost_is_least {T = T} {r = r} d h other = let down = (chosen_is_least T r).fewest other in omega (arith, h, down)

-- the sides' level
side_by : (p : Option Operand) (s : ℕ) → side (words_of_operand p) s ≡ cond (is_some p) s (s + 1)
side_by (Some o) s = refl
side_by None s = refl

pub side_is : {T : Table} {a : Exp} {l : ℕ} {g : Facts} (s : ℕ) → IsPart T a l g → side g.operand s ≡ side_level a s
side_is {a = a} s i = ap (λ f. side f.operand s) i.facts ∙ side_by (operand_of a) s

pub level_of_operand : (a : Exp) (o : Operand) (s : ℕ) → operand_of a ≡ Some o → side_level a s ≡ s
level_of_operand a o s h = ap (λ q. cond (is_some q) s (s + 1)) h

pub level_of_none : (a : Exp) (s : ℕ) → operand_of a ≡ None → side_level a s ≡ s + 1
level_of_none a s h = ap (λ q. cond (is_some q) s (s + 1)) h

-- the words of a rule, by whether the address is an operand
pub words_are : {T : Table} {v a : Exp} {k l : ℕ} {f g : Facts} (s : ℕ) (r : Rule) → IsPart T v k f → IsPart T a l g → words_by s f g r ≡ words_at (words_of_operand (operand_of a)) s f g r
words_are {f = f} {g = g} s r h i = ap (λ q. words_at q s f g r) (ap (λ x. x.operand) i.facts)

pub free_is : {T : Table} {v a : Exp} {k l : ℕ} {f g : Facts} → IsPart T v k f → IsPart T a l g → free f g ≡ are_free v a
free_is {v = v} {a = a} {f = f} {g = g} h i = ap (λ x. free x g) h.facts ∙ ap (λ y. free (facts_of v (has_call v) f.costs) y) i.facts
