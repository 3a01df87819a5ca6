-- A node with the trees of its parts, split by its form.
use Rattle.std.proofs.Common.{◌≡◌, ℕ, ◌+◌, ◌==◌, Bool, true, false, cond, Option, Some, None, List, [], ◌∷◌, ◌++◌, refl, ap, sym, subst, ◌∙◌, arith, append-nil, append_assoc}
use Rattle.std.proofs.lemmas.Bool.{eqb-true}
use Rattle.bc_word.specs.declared.operator.Op.{Op}
use Rattle.bc_core.specs.Tree.{Exp, Num, Frame, Glob, Place, Load, Neg, Not, Bin, Cond, Call, Valof, Args, no_argument, argument}
use Rattle.bc_rules_defs.specs.declared.rule.Table.{Table}
use Rattle.bc_rules_defs.specs.Rules.{Tree}
use Rattle.bc_cert_read.specs.declared.facts.Facts.{Facts}
use Rattle.bc_cert_read.specs.declared.form.Form.{Form}
use Rattle.bc_cert_read.specs.declared.form.Form.TheVariants as forms
use Rattle.bc_cert_read.specs.declared.lines.NodeLine.{NodeLine}
use Rattle.bc_cert_read.specs.declared.mark.TreeFacts.{TreeFacts}
use Rattle.bc_cert_read.specs.Marks.{levels_from, levels_fit}
use Rattle.bc_cert_read.specs.Wholes.{leaf, one_of, with_one, two_of, three_of, with_argument, called_of, whole}
use Rattle.bc_cert_write.specs.Shown.{Shown}
use Rattle.bc_cert_laws.specs.Faults.{Grown, all_shown}
use Rattle.bc_cert_laws.specs.Standing.{Stands, AllStand, IsOver}

-- what is kept of a tree with these lines is true
abbrev pub StandsAt : Table → Exp → ℕ → List Shown → TreeFacts → Facts → Tree → Type 0
StandsAt T a s ns m p x = Stands T (record { expression = a; level = s; shown = ns }) m p a x

-- the arguments of a call, the first one at this level, and its routine
pub data AreArguments (T : Table) : Args → Exp → ℕ → List Shown → List TreeFacts → List Facts → List Tree → Type 0 where
  routine : {f : Exp} {s : ℕ} {ns : List Shown} {m : TreeFacts} {p : Facts} {x : Tree} → StandsAt T f s ns m p x → AreArguments T no_argument f s ns (m ∷ []) (p ∷ []) (x ∷ [])
  next : {e f : Exp} {es : Args} {s : ℕ} {ns os : List Shown} {m : TreeFacts} {ms : List TreeFacts} {p : Facts} {ps : List Facts} {x : Tree} {xs : List Tree} → StandsAt T e s ns m p x → AreArguments T es f (s + 1) os ms ps xs
      → AreArguments T (argument e es) f s (ns ++ os) (m ∷ ms) (p ∷ ps) (x ∷ xs)

-- an expression of this form at this level, over the trees of its parts
pub data Over (T : Table) (s : ℕ) : Form → List Shown → List TreeFacts → List Facts → List Tree → Exp → Type 0 where
  num : {n : ℕ} → Over T s (forms.Num n) [] [] [] [] (Num n)
  frame : {n : ℕ} → Over T s (forms.Frame n) [] [] [] [] (Frame n)
  glob : {n : ℕ} → Over T s (forms.Glob n) [] [] [] [] (Glob n)
  place : {n : ℕ} → Over T s (forms.Place n) [] [] [] [] (Place n)
  valof : {n : ℕ} → Over T s (forms.Valof n) [] [] [] [] (Valof n)
  load : {a : Exp} {ns : List Shown} {m : TreeFacts} {p : Facts} {x : Tree} → StandsAt T a s ns m p x → Over T s forms.Load ns (m ∷ []) (p ∷ []) (x ∷ []) (Load a)
  neg : {a : Exp} {ns : List Shown} {m : TreeFacts} {p : Facts} {x : Tree} → StandsAt T a s ns m p x → Over T s forms.Neg ns (m ∷ []) (p ∷ []) (x ∷ []) (Neg a)
  not : {a : Exp} {ns : List Shown} {m : TreeFacts} {p : Facts} {x : Tree} → StandsAt T a s ns m p x → Over T s forms.Not ns (m ∷ []) (p ∷ []) (x ∷ []) (Not a)
  bin : {op : Op} {a b : Exp} {ns os : List Shown} {m n : TreeFacts} {p q : Facts} {x y : Tree} → StandsAt T a (s + 1) ns m p x → StandsAt T b (s + 1) os n q y
      → Over T s (forms.Bin op) (ns ++ os) (m ∷ n ∷ []) (p ∷ q ∷ []) (x ∷ y ∷ []) (Bin op a b)
  choice : {a b c : Exp} {ks ns os : List Shown} {l m n : TreeFacts} {o p q : Facts} {x y z : Tree} → StandsAt T a s ks l o x → StandsAt T b s ns m p y → StandsAt T c s os n q z
      → Over T s forms.Cond ((ks ++ ns) ++ os) (l ∷ m ∷ n ∷ []) (o ∷ p ∷ q ∷ []) (x ∷ y ∷ z ∷ []) (Cond a b c)
  call : {n : ℕ} {es : Args} {f : Exp} {ns : List Shown} {ms : List TreeFacts} {ps : List Facts} {xs : List Tree} → AreArguments T es f (s + 2) ns ms ps xs → Over T s (forms.Call n) ns ms ps xs (Call es f)

-- trees at levels that go up by steps
data Levelled (T : Table) (step : ℕ) : ℕ → List Shown → List TreeFacts → List Facts → List Exp → List Tree → Type 0 where
  none : {s : ℕ} → Levelled T step s [] [] [] [] []
  some : {s : ℕ} {ns os : List Shown} {m : TreeFacts} {ms : List TreeFacts} {p : Facts} {ps : List Facts} {e : Exp} {es : List Exp} {x : Tree} {xs : List Tree} → StandsAt T e s ns m p x → Levelled T step (s + step) os ms ps es xs
      → Levelled T step s (ns ++ os) (m ∷ ms) (p ∷ ps) (e ∷ es) (x ∷ xs)

level_is : (m : TreeFacts) (s : ℕ) (b : Bool) → cond (m.level == s) b false ≡ true → (m.level ≡ s) × (b ≡ true)
level_is m s b h =
    elim (m.level == s) as (λ t. (m.level == s) ≡ t → cond t b false ≡ true → (m.level ≡ s) × (b ≡ true)) [
      | true ↦ (λ e k. (eqb-true m.level s e, k))
      | false ↦ (λ e k. cc)
    ] refl h

stands_at : (T : Table) (t : Grown) (m : TreeFacts) (p : Facts) (e : Exp) (x : Tree) (s : ℕ) → m.level ≡ s → Stands T t m p e x → StandsAt T e s t.shown m p x
stands_at T t m p e x s l h =
    let f : t ≡ record { expression = e; level = s; shown = t.shown } = ap (λ (a : Exp). record { expression = a; level = t.level; shown = t.shown }) (sym h.expression) ∙ ap (λ (k : ℕ). record { expression = e; level = k; shown = t.shown }) (sym h.level ∙ l) in
    subst (λ u. Stands T u m p e x) f h

levelled : (T : Table) (step s : ℕ) (ts : List Grown) (ms : List TreeFacts) (ps : List Facts) (es : List Exp) (xs : List Tree) → AllStand T ts ms ps es xs → levels_from s step ms ≡ true → Levelled T step s (all_shown ts) ms ps es xs
levelled T step s [] [] [] [] [] h l = none
levelled T step s (t ∷ ts) (m ∷ ms) (p ∷ ps) (e ∷ es) (x ∷ xs) h l =
    let at = level_is m s (levels_from (s + step) step ms) l in
    some (stands_at T t m p e x s at.0 h.0) (levelled T step (s + step) ts ms ps es xs h.1 at.1)
levelled T step s _ _ _ _ _ h l = absurd h

pub some_same : {A : Type 0} {x y : A} → ◌≡◌ {A = Option A} (Some x) (Some y) → x ≡ y
some_same h = cc

at_level : {T : Table} {a : Exp} {l s : ℕ} {ns : List Shown} {m : TreeFacts} {p : Facts} {x : Tree} → l ≡ s → StandsAt T a l ns m p x → StandsAt T a s ns m p x
at_level {T = T} {a = a} {ns = ns} {m = m} {p = p} {x = x} h i = subst (λ k. StandsAt T a k ns m p x) h i

leaf_over : (T : Table) (s step l : ℕ) (form : Form) (ns : List Shown) (ms : List TreeFacts) (ps : List Facts) (es : List Exp) (xs : List Tree) (a e : Exp) → Levelled T step l ns ms ps es xs → leaf es a ≡ Some e → Over T s form [] [] [] [] a → Over T s form ns ms ps xs e
leaf_over T s step l form ns ms ps es xs a e none k o = subst (λ u. Over T s form [] [] [] [] u) (some_same k) o
leaf_over T s step l form ns ms ps es xs a e (some h i) k o = cc

one_over : (T : Table) (s : ℕ) (form : Form) (f : Exp → Exp) (ns : List Shown) (ms : List TreeFacts) (ps : List Facts) (es : List Exp) (xs : List Tree) (e : Exp) → Levelled T 0 (s + 0) ns ms ps es xs → with_one f (one_of es) ≡ Some e
    → ((a : Exp) (os : List Shown) (m : TreeFacts) (p : Facts) (x : Tree) → StandsAt T a s os m p x → Over T s form os (m ∷ []) (p ∷ []) (x ∷ []) (f a)) → Over T s form ns ms ps xs e
one_over T s form f ns ms ps es xs e none k o = cc
one_over T s form f ns ms ps es xs e (some {ns = os} {m = m} {p = p} {e = a} {x = x} h none) k o =
    subst (λ u. Over T s form (os ++ []) (m ∷ []) (p ∷ []) (x ∷ []) u) (some_same k) (subst (λ us. Over T s form us (m ∷ []) (p ∷ []) (x ∷ []) (f a)) (sym (append-nil os)) (o a os m p x (at_level (omega arith) h)))
one_over T s form f ns ms ps es xs e (some h (some i j)) k o = cc

two_over : (T : Table) (s : ℕ) (op : Op) (ns : List Shown) (ms : List TreeFacts) (ps : List Facts) (es : List Exp) (xs : List Tree) (e : Exp) → Levelled T 0 (s + 1) ns ms ps es xs → two_of op es ≡ Some e → Over T s (forms.Bin op) ns ms ps xs e
two_over T s op ns ms ps es xs e none k = cc
two_over T s op ns ms ps es xs e (some h none) k = cc
two_over T s op ns ms ps es xs e (some {ns = us} {m = m} {p = p} {e = a} {x = x} h (some {ns = vs} {m = n} {p = q} {e = b} {x = y} i none)) k =
    subst (λ u. Over T s (forms.Bin op) (us ++ (vs ++ [])) (m ∷ n ∷ []) (p ∷ q ∷ []) (x ∷ y ∷ []) u) (some_same k)
    (subst (λ ws. Over T s (forms.Bin op) (us ++ ws) (m ∷ n ∷ []) (p ∷ q ∷ []) (x ∷ y ∷ []) (Bin op a b)) (sym (append-nil vs)) (bin h (at_level (omega arith) i)))
two_over T s op ns ms ps es xs e (some h (some i (some j k'))) k = cc

three_over : (T : Table) (s : ℕ) (ns : List Shown) (ms : List TreeFacts) (ps : List Facts) (es : List Exp) (xs : List Tree) (e : Exp) → Levelled T 0 (s + 0) ns ms ps es xs → three_of es ≡ Some e → Over T s forms.Cond ns ms ps xs e
three_over T s ns ms ps es xs e none k = cc
three_over T s ns ms ps es xs e (some h none) k = cc
three_over T s ns ms ps es xs e (some h (some i none)) k = cc
three_over T s ns ms ps es xs e (some {ns = us} {m = l} {p = o} {e = a} {x = x} h (some {ns = vs} {m = m} {p = p} {e = b} {x = y} i (some {ns = ws} {m = n} {p = q} {e = c} {x = z} j none))) k =
    let f : (us ++ vs) ++ ws ≡ us ++ (vs ++ (ws ++ [])) = append_assoc us vs ws ∙ ap (λ ts. us ++ (vs ++ ts)) (sym (append-nil ws)) in
    subst (λ u. Over T s forms.Cond (us ++ (vs ++ (ws ++ []))) (l ∷ m ∷ n ∷ []) (o ∷ p ∷ q ∷ []) (x ∷ y ∷ z ∷ []) u) (some_same k)
    (subst (λ ts. Over T s forms.Cond ts (l ∷ m ∷ n ∷ []) (o ∷ p ∷ q ∷ []) (x ∷ y ∷ z ∷ []) (Cond a b c)) f (choice (at_level (omega arith) h) (at_level (omega arith) i) (at_level (omega arith) j)))
three_over T s ns ms ps es xs e (some h (some i (some j (some g g')))) k = cc

-- a call
record CallOver (T : Table) (s : ℕ) (ns : List Shown) (ms : List TreeFacts) (ps : List Facts) (xs : List Tree) (e : Exp) : Type 0 where
  arguments : Args
  routine : Exp
  is : Call arguments routine ≡ e
  parts : AreArguments T arguments routine s ns ms ps xs

record WithArgument (a : Exp) (r : Option Exp) (e : Exp) : Type 0 where
  arguments : Args
  routine : Exp
  was : r ≡ Some (Call arguments routine)
  is : Call (argument a arguments) routine ≡ e

inverted : (a : Exp) (r : Option Exp) (e : Exp) → with_argument a r ≡ Some e → WithArgument a r e
inverted a None e h = cc
inverted a (Some (Call es f)) e h = record { arguments = es; routine = f; was = refl; is = some_same h }
inverted a (Some y) e h = cc

call_over : (T : Table) (s : ℕ) (ns : List Shown) (ms : List TreeFacts) (ps : List Facts) (es : List Exp) (xs : List Tree) (e : Exp) → Levelled T 1 s ns ms ps es xs → called_of es ≡ Some e → CallOver T s ns ms ps xs e
call_over T s ns ms ps es xs e none k = cc
call_over T s ns ms ps es xs e (some {ns = os} {m = m} {p = p} {e = f} {x = x} h none) k =
    record { arguments = no_argument; routine = f; is = some_same k; parts = subst (λ us. AreArguments T no_argument f s us (m ∷ []) (p ∷ []) (x ∷ [])) (sym (append-nil os)) (routine h) }
call_over T s ns ms ps es xs e (some {ns = us} {os = vs} {m = m} {ms = ns'} {p = p} {ps = qs} {e = a} {es = bs} {x = x} {xs = ys} h (some i j)) k =
    let w = inverted a (called_of bs) e k in
    let c = call_over T (s + 1) vs ns' qs bs ys (Call w.arguments w.routine) (some i j) w.was in
    let same : Call c.arguments c.routine ≡ Call w.arguments w.routine = c.is in
    let args : c.arguments ≡ w.arguments = cc in
    let last : c.routine ≡ w.routine = cc in
    record { arguments = argument a c.arguments; routine = c.routine; is = ap (λ u. Call (argument a u) c.routine) args ∙ ap (λ u. Call (argument a w.arguments) u) last ∙ w.is; parts = next h c.parts }

pub over_levelled : (T : Table) (s : ℕ) (form : Form) (ts : List Grown) (ms : List TreeFacts) (ps : List Facts) (es : List Exp) (xs : List Tree) (e : Exp) → AllStand T ts ms ps es xs → levels_fit s form ms ≡ true → whole form es ≡ Some e → Over T s form (all_shown ts) ms ps xs e
over_levelled T s (forms.Num n) ts ms ps es xs e h l k = leaf_over T s 0 (s + 0) _ _ ms ps es xs (Num n) e (levelled T 0 (s + 0) ts ms ps es xs h l) k num
over_levelled T s (forms.Frame n) ts ms ps es xs e h l k = leaf_over T s 0 (s + 0) _ _ ms ps es xs (Frame n) e (levelled T 0 (s + 0) ts ms ps es xs h l) k frame
over_levelled T s (forms.Glob n) ts ms ps es xs e h l k = leaf_over T s 0 (s + 0) _ _ ms ps es xs (Glob n) e (levelled T 0 (s + 0) ts ms ps es xs h l) k glob
over_levelled T s (forms.Place n) ts ms ps es xs e h l k = leaf_over T s 0 (s + 0) _ _ ms ps es xs (Place n) e (levelled T 0 (s + 0) ts ms ps es xs h l) k place
over_levelled T s (forms.Valof n) ts ms ps es xs e h l k = leaf_over T s 0 (s + 0) _ _ ms ps es xs (Valof n) e (levelled T 0 (s + 0) ts ms ps es xs h l) k valof
over_levelled T s forms.Load ts ms ps es xs e h l k = one_over T s _ Load _ ms ps es xs e (levelled T 0 (s + 0) ts ms ps es xs h l) k (λ a os m p x i. load i)
over_levelled T s forms.Neg ts ms ps es xs e h l k = one_over T s _ Neg _ ms ps es xs e (levelled T 0 (s + 0) ts ms ps es xs h l) k (λ a os m p x i. neg i)
over_levelled T s forms.Not ts ms ps es xs e h l k = one_over T s _ Not _ ms ps es xs e (levelled T 0 (s + 0) ts ms ps es xs h l) k (λ a os m p x i. not i)
over_levelled T s (forms.Bin op) ts ms ps es xs e h l k = two_over T s op _ ms ps es xs e (levelled T 0 (s + 1) ts ms ps es xs h l) k
over_levelled T s forms.Cond ts ms ps es xs e h l k = three_over T s _ ms ps es xs e (levelled T 0 (s + 0) ts ms ps es xs h l) k
over_levelled T s (forms.Call n) ts ms ps es xs e h l k =
    let c = call_over T (s + 2) _ ms ps es xs e (levelled T 1 (s + 2) ts ms ps es xs h l) k in
    subst (λ u. Over T s (forms.Call n) (all_shown ts) ms ps xs u) c.is (call c.parts)

pub over_is : {T : Table} {n : NodeLine} {ts : List Grown} {ms : List TreeFacts} {ps : List Facts} {es : List Exp} {xs : List Tree} {e : Exp} → IsOver T n ts ms ps es xs e → Over T n.level n.form (all_shown ts) ms ps xs e
over_is {T = T} {n = n} {ts = ts} {ms = ms} {ps = ps} {es = es} {xs = xs} {e = e} h = over_levelled T n.level n.form ts ms ps es xs e h.parts h.levels h.whole
