-- The rules at a node of any form: which ones the checker finds, and the derivations that begin with them.
use Rattle.std.proofs.Common.{◌≡◌, ℕ, true, Some, List, inl, inr, ◌⊎◌, refl, ap, sym, subst, ◌∙◌}
use Rattle.bc_core.specs.Tree.{Exp, Frame, Glob, Place}
use Rattle.bc_rules_defs.specs.declared.rule.Table.{Table}
use Rattle.bc_rules_defs.specs.declared.rule.Aim.{Aim}
use Rattle.bc_rules_defs.specs.declared.rule.Rule.{Rule}
use Rattle.bc_rules_defs.specs.declared.rule.Rule.TheVariants.{V1}
use Rattle.bc_rules_defs.specs.Rules.{Derives, v0, v1, j6, Tree, shape}
use Rattle.bc_rules_defs.specs.Code.{cost}
use Rattle.bc_select_defs.specs.Least.{first_rule}
use Rattle.bc_cert_read.specs.declared.facts.Facts.{Facts}
use Rattle.bc_cert_read.specs.declared.form.Form.{Form}
use Rattle.bc_cert_read.specs.Node.{Node, recipe_by}
use Rattle.bc_cert_read.specs.Recipe.{of_form}
use Rattle.bc_cert_read.specs.declared.mark.TreeFacts.{TreeFacts}
use Rattle.bc_cert_read.specs.Showing.{makes_by, makes}
use Rattle.bc_cert_write.specs.Shown.{Shown, below}
use Rattle.bc_cert_laws.specs.Standing.{IsFewest, Begins, begun}
use Rattle.bc_cert_laws.proofs.Over.{Over, num, frame, glob, place, valof, load, neg, not, bin, choice, call}
use Rattle.bc_cert_laws.proofs.Others.{node_at, Alone, not_tested, operand_begins, operand_makes, load_to, load_from, neg_to, neg_from, not_to, not_from, number_to, number_from, valof_to, valof_from, choice_to, choice_from, call_to, call_from}
use Rattle.bc_cert_laws.proofs.Pairs.{pair_to, pair_from}

operand_or_not : (r : Rule) → (r ≡ V1) ⊎ (¬ (r ≡ V1))
operand_or_not V1 = inl refl
operand_or_not r = inr (λ e. cc)

by_form : (r : Rule) (n : Node) (aim : Aim) → ¬ (r ≡ V1) → recipe_by n r aim ≡ of_form r aim n.table n.level n.form n.parts
by_form V1 n aim h = absurd (h refl)
by_form r n aim h = refl

made : (T : Table) (s : ℕ) (form : Form) (e : Exp) (ps : List Facts) (ms : List TreeFacts) (k : ℕ) (r : Rule) (aim : Aim) → ¬ (r ≡ V1) → makes (node_at T s form e ps) ms r aim (Some k) ≡ true
    → makes_by (node_at T s form e ps) ms (Some k) (of_form r aim T s form ps) ≡ true
made T s form e ps ms k r aim n g = ap (λ x. makes_by (node_at T s form e ps) ms (Some k) x) (sym (by_form r (node_at T s form e ps) aim n)) ∙ g

form_to : {T : Table} {s : ℕ} {form : Form} {ns : List Shown} {ms : List TreeFacts} {ps : List Facts} {xs : List Tree} {e : Exp} → Over T s form ns ms ps xs e → (r : Rule) (aim : Aim) (k : ℕ) → ¬ (r ≡ V1)
    → makes (node_at T s form e ps) ms r aim (Some k) ≡ true → makes_by (node_at T s form e ps) ms (Some k) (of_form r aim T s form ps) ≡ true → Begins T e aim s r k ns
form_to {T = T} {s = s} (num {n = m}) r aim k n h g = number_to T s m r aim k g
form_to frame r aim k n h g = cc
form_to glob r aim k n h g = cc
form_to place r aim k n h g = cc
form_to {T = T} {s = s} (valof {n = m}) r aim k n h g = valof_to T s m r aim k g
form_to (load i) r aim k n h g = load_to i r aim k g
form_to (neg i) r aim k n h g = neg_to i r aim k g
form_to (not i) r aim k n h g = not_to i r aim k g
form_to (bin i j) r aim k n h g = pair_to i j r aim k n h
form_to (choice i j l) r aim k n h g = choice_to i j l r aim k g
form_to (call {n = m} i) r aim k n h g = call_to m i r aim k g

-- if the checker finds that a rule makes a derivation with these words, there is one that begins with it
pub begins_to : {T : Table} {s : ℕ} {form : Form} {ns : List Shown} {ms : List TreeFacts} {ps : List Facts} {xs : List Tree} {e : Exp} → Over T s form ns ms ps xs e → (r : Rule) (aim : Aim) (k : ℕ)
    → makes (node_at T s form e ps) ms r aim (Some k) ≡ true → Begins T e aim s r k ns
begins_to {T = T} {s = s} {form = form} {ns = ns} {ms = ms} {ps = ps} {e = e} o r aim k g =
    elim (operand_or_not r) [
      | inl i ↦ subst (λ q. Begins T e aim s q k ns) (sym i) (operand_begins o aim k _ refl (ap (λ q. makes (node_at T s form e ps) ms q aim (Some k)) (sym i) ∙ g))
      | inr n ↦ form_to o r aim k n g (made T s form e ps ms k r aim n g)
    ]

operand_from : {T : Table} {s : ℕ} {form : Form} {ns : List Shown} {ms : List TreeFacts} {ps : List Facts} {xs : List Tree} {e : Exp} {aim : Aim} → Over T s form ns ms ps xs e → (d : Derives T e aim) → first_rule d ≡ V1 → below d s ≡ ns
    → (makes (node_at T s form e ps) ms (first_rule d) aim (Some (cost d s)) ≡ true) × (shape d ≡ begun (first_rule d) ps xs)
operand_from i (v1 k) r b = operand_makes i k b
operand_from i d r b = cc

frame_rule : {T : Table} {n : ℕ} {aim : Aim} (d : Derives T (Frame n) aim) → Alone d → first_rule d ≡ V1
frame_rule (v0 d) g = cc
frame_rule (v1 i) g = refl
frame_rule (j6 i d) g = absurd (not_tested d g)

glob_rule : {T : Table} {n : ℕ} {aim : Aim} (d : Derives T (Glob n) aim) → Alone d → first_rule d ≡ V1
glob_rule (v0 d) g = cc
glob_rule (v1 i) g = refl
glob_rule (j6 i d) g = absurd (not_tested d g)

place_rule : {T : Table} {n : ℕ} {aim : Aim} (d : Derives T (Place n) aim) → Alone d → first_rule d ≡ V1
place_rule (v0 d) g = cc
place_rule (v1 i) g = refl
place_rule (j6 i d) g = absurd (not_tested d g)

-- and of a derivation of least words that shows the lines of the parts the checker finds the rule
pub begins_from : {T : Table} {s : ℕ} {form : Form} {ns : List Shown} {ms : List TreeFacts} {ps : List Facts} {xs : List Tree} {e : Exp} {aim : Aim} → Over T s form ns ms ps xs e → (d : Derives T e aim) → Alone d → below d s ≡ ns → IsFewest d s
    → (makes (node_at T s form e ps) ms (first_rule d) aim (Some (cost d s)) ≡ true) × (shape d ≡ begun (first_rule d) ps xs)
begins_from {s = s} num d g b f = number_from s d g b
begins_from frame d g b f = operand_from frame d (frame_rule d g) b
begins_from glob d g b f = operand_from glob d (glob_rule d g) b
begins_from place d g b f = operand_from place d (place_rule d g) b
begins_from {s = s} valof d g b f = valof_from s d g b
begins_from (load h) d g b f = load_from h d g b f
begins_from (neg h) d g b f = neg_from h d g b f
begins_from (not h) d g b f = not_from h d g b f
begins_from (bin h i) d g b f =
    elim (operand_or_not (first_rule d)) [
      | inl r ↦ operand_from (bin h i) d r b
      | inr n ↦ pair_from h i d g n b f
    ]
begins_from (choice h i j) d g b f = choice_from h i j d g b f
begins_from (call {n = n} h) d g b f = call_from n h d g b f
