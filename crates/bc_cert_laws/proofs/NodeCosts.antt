-- The numbers of a node line are the least words exactly if the checker's test succeeds.
use Rattle.std.proofs.Common.{◌≡◌, ℕ, ◌+◌, true, false, List, [], ◌∷◌, ◌++◌, Option, Some, None, refl, ap, sym, subst, ◌∙◌, arith}
use Rattle.std.proofs.lemmas.Bool.{eqb-true, and_parts}
use Rattle.bc_core.specs.Tree.{Exp, Num, Frame, Glob, Place, Load, Neg, Not, Bin, Cond, Call, Valof, Args, no_argument, argument, count}
use Rattle.bc_rules_defs.specs.declared.rule.Table.{Table}
use Rattle.bc_rules_defs.specs.declared.rule.Mode.TheVariants.{Any, Push}
use Rattle.bc_rules_defs.specs.declared.rule.Aim.{Aim}
use Rattle.bc_rules_defs.specs.declared.rule.Aim.TheVariants.{Gets, Jumps}
use Rattle.bc_rules_defs.specs.Rules.{Derives, Tree}
use Rattle.bc_select_defs.specs.Least.{AreLeastWords}
use Rattle.bc_select_defs.specs.Choices.{choices, words_for}
use Rattle.bc_select_defs.specs.Chosen.{some_value, some_test}
use Rattle.bc_select_defs.proofs.Words.{choices_are_least}
use Rattle.bc_cert_defs.specs.declared.costs.Costs.{Costs}
use Rattle.bc_cert_read.specs.declared.facts.Facts.{Facts}
use Rattle.bc_cert_read.specs.Costs.{cost_of, same_words, are_costs}
use Rattle.bc_cert_read.specs.Node.{least_words_of}
use Rattle.bc_cert_read.specs.Parts.{AreLeast, IsPart, AreCallParts, AreParts, node_over}
use Rattle.bc_cert_read.specs.Recipe.{words_of_operand_of}
use Rattle.bc_cert_read.proofs.Least.{least_is}
use Rattle.bc_cert_read.specs.declared.lines.NodeLine.{NodeLine}
use Rattle.bc_cert_read.specs.declared.mark.TreeFacts.{TreeFacts}
use Rattle.bc_cert_read.specs.Stacks.{line_node}
use Rattle.bc_cert_laws.specs.Faults.{Grown, all_parts, parts, AreLeastCosts}
use Rattle.bc_cert_laws.proofs.Over.{some_same}
use Rattle.bc_cert_laws.proofs.Results.{both_true, equal_true}
use Rattle.bc_cert_laws.proofs.Keeping.{Kept, nothing, further}
use Rattle.bc_cert_laws.proofs.NodeParts.{placed, arguments_of, own_form}

-- the facts that are kept are true of the parts
abbrev PartsHave : Table → List (Exp × ℕ) → List Facts → Type 0
PartsHave T [] [] = Unit {0}
PartsHave T (p ∷ ps) (f ∷ fs) = IsPart T p.0 p.1 f × PartsHave T ps fs
PartsHave T _ _ = ⊥

have_facts : {T : Table} {ts : List Grown} {ms : List TreeFacts} {fs : List Facts} {es : List Exp} {xs : List Tree} → Kept T ts ms fs es xs → PartsHave T (placed ts) fs
have_facts nothing = tt
have_facts (further a rest) = (a.part, have_facts rest)

call_have : (T : Table) (es : Args) (f : Exp) (s l : ℕ) (fs : List Facts) → s + count es ≡ l → PartsHave T (all_parts es s ++ (f, l) ∷ []) fs → AreCallParts T es f s fs
call_have T no_argument f s l [] h k = absurd k
call_have T no_argument f s l (p ∷ []) h k = let i : l ≡ s = omega (arith, h) in subst (λ n. IsPart T f n p) i k.0
call_have T no_argument f s l (p ∷ q ∷ fs) h k = absurd k.1
call_have T (argument e es) f s l [] h k = absurd k
call_have T (argument e es) f s l (p ∷ fs) h k = (k.0, call_have T es f (s + 1) l fs (omega (arith, h)) k.1)

are_parts : (T : Table) (e : Exp) (s : ℕ) (fs : List Facts) → PartsHave T (parts e s) fs → AreParts T e s fs
are_parts T (Num n) s [] h = tt
are_parts T (Num n) s (p ∷ fs) h = absurd h
are_parts T (Frame n) s [] h = tt
are_parts T (Frame n) s (p ∷ fs) h = absurd h
are_parts T (Glob n) s [] h = tt
are_parts T (Glob n) s (p ∷ fs) h = absurd h
are_parts T (Place n) s [] h = tt
are_parts T (Place n) s (p ∷ fs) h = absurd h
are_parts T (Valof n) s [] h = tt
are_parts T (Valof n) s (p ∷ fs) h = absurd h
are_parts T (Load e) s [] h = absurd h
are_parts T (Load e) s (p ∷ []) h = h.0
are_parts T (Load e) s (p ∷ q ∷ fs) h = absurd h.1
are_parts T (Neg e) s [] h = absurd h
are_parts T (Neg e) s (p ∷ []) h = h.0
are_parts T (Neg e) s (p ∷ q ∷ fs) h = absurd h.1
are_parts T (Not e) s [] h = absurd h
are_parts T (Not e) s (p ∷ []) h = h.0
are_parts T (Not e) s (p ∷ q ∷ fs) h = absurd h.1
are_parts T (Bin op a b) s [] h = absurd h
are_parts T (Bin op a b) s (p ∷ []) h = absurd h.1
are_parts T (Bin op a b) s (p ∷ q ∷ []) h = (h.0, h.1.0)
are_parts T (Bin op a b) s (p ∷ q ∷ r ∷ fs) h = absurd h.1.1
are_parts T (Cond c x y) s [] h = absurd h
are_parts T (Cond c x y) s (p ∷ []) h = absurd h.1
are_parts T (Cond c x y) s (p ∷ q ∷ []) h = absurd h.1.1
are_parts T (Cond c x y) s (p ∷ q ∷ r ∷ []) h = (h.0, (h.1.0, h.1.1.0))
are_parts T (Cond c x y) s (p ∷ q ∷ r ∷ t ∷ fs) h = absurd h.1.1.1
are_parts T (Call es f) s fs h = call_have T es f (s + 2) (s + 2 + count es) fs refl h

pub own_parts : {T : Table} {ts : List Grown} {ms : List TreeFacts} {fs : List Facts} {es : List Exp} {xs : List Tree} (e : Exp) (s : ℕ) → Kept T ts ms fs es xs → placed ts ≡ parts e s → AreParts T e s fs
own_parts {T = T} {fs = fs} e s h k = are_parts T e s fs (subst (λ ps. PartsHave T ps fs) k (have_facts h))

-- the test of the numbers
same_words_is : (x y : Option ℕ) → same_words x y ≡ true → x ≡ y
same_words_is None None h = refl
same_words_is None (Some n) h = cc
same_words_is (Some m) None h = cc
same_words_is (Some m) (Some n) h = ap (λ i. Some i) (eqb-true m n h)

same_words_true : (x y : Option ℕ) → x ≡ y → same_words x y ≡ true
same_words_true None None h = refl
same_words_true None (Some n) h = cc
same_words_true (Some m) None h = cc
same_words_true (Some m) (Some n) h = equal_true m n (some_same h)

node_is : (T : Table) (n : NodeLine) (e : Exp) (fs : List Facts) → n.form ≡ own_form e → least_words_of (line_node T n e fs) ≡ least_words_of (node_over T e (arguments_of e) n.level fs)
node_is T n e fs h = ap (λ f. least_words_of (record { table = T; level = n.level; form = f; operand = words_of_operand_of e; parts = fs })) h

pub costs_are_least : (T : Table) (n : NodeLine) (e : Exp) (fs : List Facts) (c : Costs) → n.form ≡ own_form e → AreParts T e n.level fs → are_costs (least_words_of (line_node T n e fs)) c ≡ true → AreLeast T e n.level c
costs_are_least T n e fs c h i k =
    let l = least_is T e (arguments_of e) n.level fs i in
    let k = ap (λ w. are_costs w c) (sym (node_is T n e fs h)) ∙ k in
    let last = and_parts _ _ k in let third = and_parts _ _ last.0 in let second = and_parts _ _ third.0 in
    record { words = for_aim (sym l.any ∙ same_words_is _ _ second.0) (sym l.push ∙ same_words_is _ _ second.1) (sym l.on_false ∙ same_words_is _ _ third.1) (sym l.on_true ∙ same_words_is _ _ last.1) } where
      for_aim : words_for (Gets Any) (choices T e n.level) ≡ Some c.any → words_for (Gets Push) (choices T e n.level) ≡ c.push → words_for (Jumps false) (choices T e n.level) ≡ Some c.on_false → words_for (Jumps true) (choices T e n.level) ≡ Some c.on_true
          → (aim : Aim) → words_for aim (choices T e n.level) ≡ cost_of aim c
      for_aim a b x y (Gets Any) = a
      for_aim a b x y (Gets Push) = b
      for_aim a b x y (Jumps false) = x
      for_aim a b x y (Jumps true) = y

pub least_are_costs : (T : Table) (n : NodeLine) (e : Exp) (fs : List Facts) (c : Costs) → n.form ≡ own_form e → AreParts T e n.level fs → AreLeast T e n.level c → are_costs (least_words_of (line_node T n e fs)) c ≡ true
least_are_costs T n e fs c h i k =
    let l = least_is T e (arguments_of e) n.level fs i in
    ap (λ w. are_costs w c) (node_is T n e fs h)
    ∙ both_true _ _ (both_true _ _ (both_true _ _ (same_words_true _ _ (l.any ∙ k.words (Gets Any))) (same_words_true _ _ (l.push ∙ k.words (Gets Push)))) (same_words_true _ _ (l.on_false ∙ k.words (Jumps false)))) (same_words_true _ _ (l.on_true ∙ k.words (Jumps true)))

-- the same by the derivations; least words are unique
least_unique : (T : Table) (e : Exp) (aim : Aim) (s : ℕ) (x y : Option ℕ) → AreLeastWords T e aim s x → AreLeastWords T e aim s y → x ≡ y
least_unique T e aim s None None h k = refl
least_unique T e aim s None (Some n) h k = absurd (h k.0.0)
least_unique T e aim s (Some n) None h k = absurd (k h.0.0)
least_unique T e aim s (Some n) (Some m) h k =
    let a = h.0.1 in let b = k.0.1 in let c = h.1 k.0.0 in let d = k.1 h.0.0 in
    let i : n ≡ m = omega (arith, a, b, c, d) in ap (λ z. Some z) i

pub by_derivations : (T : Table) (e : Exp) (s : ℕ) (c : Costs) → AreLeast T e s c → AreLeastCosts T e s c
by_derivations T e s c h =
    record { any = at (Gets Any); push = at (Gets Push); on_false = at (Jumps false); on_true = at (Jumps true) } where
      at : (aim : Aim) → AreLeastWords T e aim s (cost_of aim c)
      at aim = subst (AreLeastWords T e aim s) (h.words aim) (choices_are_least T e aim s).0

pub by_choices : (T : Table) (e : Exp) (s : ℕ) (c : Costs) → AreLeastCosts T e s c → AreLeast T e s c
by_choices T e s c h = record { words = at } where
  at : (aim : Aim) → words_for aim (choices T e s) ≡ cost_of aim c
  at (Gets Any) = least_unique T e (Gets Any) s _ _ (choices_are_least T e (Gets Any) s).0 h.any
  at (Gets Push) = least_unique T e (Gets Push) s _ _ (choices_are_least T e (Gets Push) s).0 h.push
  at (Jumps false) = least_unique T e (Jumps false) s _ _ (choices_are_least T e (Jumps false) s).0 h.on_false
  at (Jumps true) = least_unique T e (Jumps true) s _ _ (choices_are_least T e (Jumps true) s).0 h.on_true

-- each expression has such numbers
there_are : (T : Table) (e : Exp) (aim : Aim) (s : ℕ) (x : Option ℕ) → AreLeastWords T e aim s x → Derives T e aim → (n : ℕ) × (x ≡ Some n)
there_are T e aim s None h d = absurd (h d)
there_are T e aim s (Some n) h d = (n, refl)

pub least_costs : (T : Table) (e : Exp) (s : ℕ) → (c : Costs) × AreLeast T e s c
least_costs T e s =
    let any = there_are T e (Gets Any) s _ (choices_are_least T e (Gets Any) s).0 (some_value T e) in
    let on_false = there_are T e (Jumps false) s _ (choices_are_least T e (Jumps false) s).0 (some_test T e false) in
    let on_true = there_are T e (Jumps true) s _ (choices_are_least T e (Jumps true) s).0 (some_test T e true) in
    (record { any = any.0; push = words_for (Gets Push) (choices T e s); on_false = on_false.0; on_true = on_true.0 }, record { words = at any.1 on_false.1 on_true.1 }) where
      at : {a b c : ℕ} → words_for (Gets Any) (choices T e s) ≡ Some a → words_for (Jumps false) (choices T e s) ≡ Some b → words_for (Jumps true) (choices T e s) ≡ Some c
          → (aim : Aim) → words_for aim (choices T e s) ≡ cost_of aim (record { any = a; push = words_for (Gets Push) (choices T e s); on_false = b; on_true = c })
      at i j k (Gets Any) = i
      at i j k (Gets Push) = refl
      at i j k (Jumps false) = j
      at i j k (Jumps true) = k
