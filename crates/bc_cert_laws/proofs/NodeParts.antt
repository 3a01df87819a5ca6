-- The last trees are the parts of an expression exactly if the checker's tests of their number, their levels and the whole succeed.
use Rattle.std.proofs.Common.{◌≡◌, ℕ, zero, suc, ◌+◌, ◌==◌, Bool, true, false, cond, map, List, [], ◌∷◌, ◌++◌, length, Option, Some, None, refl, ap, sym, subst, ◌∙◌, arith, add-zero}
use Rattle.std.proofs.lemmas.Bool.{eqb-true}
use Rattle.bc_core.specs.Tree.{Exp, Num, Frame, Glob, Place, Load, Neg, Not, Bin, Cond, Call, Valof, Args, no_argument, argument, count}
use Rattle.bc_word.specs.declared.operator.Op.{Op}
use Rattle.bc_rules_defs.specs.declared.rule.Table.{Table}
use Rattle.bc_rules_defs.specs.Rules.{Tree}
use Rattle.bc_cert_read.specs.declared.facts.Facts.{Facts}
use Rattle.bc_cert_read.specs.declared.form.Form.{Form}
use Rattle.bc_cert_read.specs.declared.form.Form.TheVariants as forms
use Rattle.bc_cert_read.specs.Form.{parts_of}
use Rattle.bc_cert_read.specs.Parts.{form_of}
use Rattle.bc_cert_write.specs.Lines.{form_field}
use Rattle.bc_cert_read.specs.declared.mark.TreeFacts.{TreeFacts}
use Rattle.bc_cert_read.specs.Marks.{first_level, levels_from}
use Rattle.bc_cert_read.specs.Wholes.{leaf, one_of, with_one, two_of, three_of, with_argument, called_of, whole}
use Rattle.bc_cert_laws.specs.Entries.{HasSmallNumber}
use Rattle.bc_cert_laws.specs.Faults.{Grown, all_parts, parts}
use Rattle.bc_cert_laws.specs.Standing.{form_text, FormIsSmall}
use Rattle.bc_cert_laws.proofs.Over.{some_same}
use Rattle.bc_cert_laws.proofs.Results.{equal_true}
use Rattle.bc_cert_laws.proofs.Keeping.{Kept, nothing, further}

-- parts with their levels
abbrev pub placed : List Grown → List (Exp × ℕ)
placed ts = map (λ t. (t.expression, t.level)) ts

abbrev pub expressions : List (Exp × ℕ) → List Exp
expressions ps = map (λ p. p.0) ps

abbrev pub levels_of : ℕ → ℕ → List (Exp × ℕ) → Bool
levels_of s step [] = true
levels_of s step (p ∷ ps) = cond (p.1 == s) (levels_of (s + step) step ps) false

pub expressions_are : {T : Table} {ts : List Grown} {ms : List TreeFacts} {fs : List Facts} {es : List Exp} {xs : List Tree} → Kept T ts ms fs es xs → es ≡ expressions (placed ts)
expressions_are nothing = refl
expressions_are (further a rest) = let e = a.expression in let es = expressions_are rest in cc

pub levels_are : {T : Table} {ts : List Grown} {ms : List TreeFacts} {fs : List Facts} {es : List Exp} {xs : List Tree} (s step : ℕ) → Kept T ts ms fs es xs → levels_from s step ms ≡ levels_of s step (placed ts)
levels_are s step nothing = refl
levels_are s step (further {t = t} {m = m} {ms = ms} a rest) = ap (λ l. cond (l == s) (levels_from (s + step) step ms) false) a.level ∙ ap (λ b. cond (t.level == s) b false) (levels_are (s + step) step rest)

-- the number of a call's arguments
abbrev pub arguments_of : Exp → ℕ
arguments_of (Call es f) = count es
arguments_of _ = 0

abbrev pub own_form : Exp → Form
own_form e = form_of e (arguments_of e)

pub form_text_is : (e : Exp) → form_text (own_form e) ≡ form_field e
form_text_is (Num n) = refl
form_text_is (Frame n) = refl
form_text_is (Glob n) = refl
form_text_is (Place n) = refl
form_text_is (Valof n) = refl
form_text_is (Load e) = refl
form_text_is (Neg e) = refl
form_text_is (Not e) = refl
form_text_is (Bin op a b) = refl
form_text_is (Cond c x y) = refl
form_text_is (Call es f) = refl

pub small_form : (e : Exp) → HasSmallNumber e → FormIsSmall (own_form e)
small_form (Num n) h = h
small_form (Frame n) h = h
small_form (Glob n) h = h
small_form (Place n) h = h
small_form (Valof n) h = h
small_form (Load e) h = h
small_form (Neg e) h = h
small_form (Not e) h = h
small_form (Bin op a b) h = h
small_form (Cond c x y) h = h
small_form (Call es f) h = h

pub small_number : (e : Exp) → FormIsSmall (own_form e) → HasSmallNumber e
small_number (Num n) h = h
small_number (Frame n) h = h
small_number (Glob n) h = h
small_number (Place n) h = h
small_number (Valof n) h = h
small_number (Load e) h = h
small_number (Neg e) h = h
small_number (Not e) h = h
small_number (Bin op a b) h = h
small_number (Cond c x y) h = h
small_number (Call es f) h = h

-- the parts of an expression pass the tests
call_whole : (es : Args) (f : Exp) (s l : ℕ) → called_of (expressions (all_parts es s ++ (f, l) ∷ [])) ≡ Some (Call es f)
call_whole no_argument f s l = refl
call_whole (argument e no_argument) f s l = refl
call_whole (argument e (argument a es)) f s l = ap (with_argument e) (call_whole (argument a es) f (s + 1) l)

call_levels : (es : Args) (f : Exp) (s l : ℕ) → s + count es ≡ l → levels_of s 1 (all_parts es s ++ (f, l) ∷ []) ≡ true
call_levels no_argument f s l h = ap (λ b. cond b true false) (equal_true l s (omega (arith, h)))
call_levels (argument e es) f s l h = ap (λ b. cond b (levels_of (s + 1) 1 (all_parts es (s + 1) ++ (f, l) ∷ [])) false) (equal_true s s refl) ∙ call_levels es f (s + 1) l (omega (arith, h))

call_length : (es : Args) (f : Exp) (s l : ℕ) → length (all_parts es s ++ (f, l) ∷ []) ≡ count es + 1
call_length no_argument f s l = refl
call_length (argument e es) f s l = let h = call_length es f (s + 1) l in omega (arith, h)

one_level : (e : Exp) (s l : ℕ) → l ≡ s → levels_of s 0 ((e, l) ∷ []) ≡ true
one_level e s l h = ap (λ b. cond b true false) (equal_true l s h)

more_levels : (e : Exp) (s l : ℕ) (ps : List (Exp × ℕ)) → l ≡ s → levels_of s 0 ps ≡ true → levels_of s 0 ((e, l) ∷ ps) ≡ true
more_levels e s l ps h k = ap (λ b. cond b (levels_of (s + 0) 0 ps) false) (equal_true l s h) ∙ ap (λ n. levels_of n 0 ps) (add-zero s) ∙ k

abbrev pub levels_right : ℕ → Form → List (Exp × ℕ) → Bool
levels_right s form ps = levels_of (s + (first_level form).0) (first_level form).1 ps

pub right_levels : (e : Exp) (s : ℕ) → levels_right s (own_form e) (parts e s) ≡ true
right_levels (Num n) s = refl
right_levels (Frame n) s = refl
right_levels (Glob n) s = refl
right_levels (Place n) s = refl
right_levels (Valof n) s = refl
right_levels (Load e) s = one_level e (s + 0) s (omega arith)
right_levels (Neg e) s = one_level e (s + 0) s (omega arith)
right_levels (Not e) s = one_level e (s + 0) s (omega arith)
right_levels (Bin op a b) s = more_levels a (s + 1) (s + 1) ((b, s + 1) ∷ []) refl (one_level b (s + 1) (s + 1) refl)
right_levels (Cond c x y) s = more_levels c (s + 0) s ((x, s) ∷ (y, s) ∷ []) (omega arith) (more_levels x (s + 0) s ((y, s) ∷ []) (omega arith) (one_level y (s + 0) s (omega arith)))
right_levels (Call es f) s = call_levels es f (s + 2) (s + 2 + count es) refl

pub right_whole : (e : Exp) (s : ℕ) → whole (own_form e) (expressions (parts e s)) ≡ Some e
right_whole (Num n) s = refl
right_whole (Frame n) s = refl
right_whole (Glob n) s = refl
right_whole (Place n) s = refl
right_whole (Valof n) s = refl
right_whole (Load e) s = refl
right_whole (Neg e) s = refl
right_whole (Not e) s = refl
right_whole (Bin op a b) s = refl
right_whole (Cond c x y) s = refl
right_whole (Call es f) s = call_whole es f (s + 2) (s + 2 + count es)

pub right_length : (e : Exp) (s : ℕ) → length (parts e s) ≡ parts_of (own_form e)
right_length (Num n) s = refl
right_length (Frame n) s = refl
right_length (Glob n) s = refl
right_length (Place n) s = refl
right_length (Valof n) s = refl
right_length (Load e) s = refl
right_length (Neg e) s = refl
right_length (Not e) s = refl
right_length (Bin op a b) s = refl
right_length (Cond c x y) s = refl
right_length (Call es f) s = call_length es f (s + 2) (s + 2 + count es)

-- and what passes them are the parts of an expression
level_is : (p : Exp × ℕ) (s : ℕ) (b : Bool) → cond (p.1 == s) b false ≡ true → (p.1 ≡ s) × (b ≡ true)
level_is p s b h = at (p.1 == s) refl h where
  at : (t : Bool) → (p.1 == s) ≡ t → cond t b false ≡ true → (p.1 ≡ s) × (b ≡ true)
  at true e k = (eqb-true p.1 s e, k)
  at false e k = cc

at_level : (p : Exp × ℕ) (s : ℕ) → p.1 ≡ s → p ≡ (p.0, s)
at_level p s h = ap (λ n. (p.0, n)) h

abbrev PartsAre : ℕ → List (Exp × ℕ) → Exp → Type 0
PartsAre s ps e = ps ≡ parts e s

leaf_parts : (x e : Exp) (s : ℕ) (ps : List (Exp × ℕ)) → parts x s ≡ [] → leaf (expressions ps) x ≡ Some e → ps ≡ parts e s
leaf_parts x e s [] h k = subst (PartsAre s []) (some_same k) (sym h)
leaf_parts x e s (p ∷ ps) h k = cc

one_parts : (f : Exp → Exp) (e : Exp) (s : ℕ) (ps : List (Exp × ℕ)) → ((x : Exp) → parts (f x) s ≡ (x, s) ∷ []) → levels_of (s + 0) 0 ps ≡ true → with_one f (one_of (expressions ps)) ≡ Some e → ps ≡ parts e s
one_parts f e s [] h l k = cc
one_parts f e s (p ∷ q ∷ ps) h l k = cc
one_parts f e s (p ∷ []) h l k =
    let i = (level_is p (s + 0) true l).0 in
    subst (PartsAre s (p ∷ [])) (some_same k) (ap (λ q. q ∷ []) (at_level p s (omega (arith, i))) ∙ sym (h p.0))

two_parts : (op : Op) (e : Exp) (s : ℕ) (ps : List (Exp × ℕ)) → levels_of (s + 1) 0 ps ≡ true → two_of op (expressions ps) ≡ Some e → ps ≡ parts e s
two_parts op e s [] l k = cc
two_parts op e s (p ∷ []) l k = cc
two_parts op e s (p ∷ q ∷ r ∷ ps) l k = cc
two_parts op e s (p ∷ q ∷ []) l k =
    let i = level_is p (s + 1) _ l in let j = level_is q (s + 1 + 0) true i.1 in
    subst (PartsAre s (p ∷ q ∷ [])) (some_same k) (ap (λ x. x ∷ q ∷ []) (at_level p (s + 1) i.0) ∙ ap (λ y. (p.0, s + 1) ∷ y ∷ []) (at_level q (s + 1) (j.0 ∙ add-zero (s + 1))))

three_parts : (e : Exp) (s : ℕ) (ps : List (Exp × ℕ)) → levels_of (s + 0) 0 ps ≡ true → three_of (expressions ps) ≡ Some e → ps ≡ parts e s
three_parts e s [] l k = cc
three_parts e s (p ∷ []) l k = cc
three_parts e s (p ∷ q ∷ []) l k = cc
three_parts e s (p ∷ q ∷ r ∷ t ∷ ps) l k = cc
three_parts e s (p ∷ q ∷ r ∷ []) l k =
    let i = level_is p (s + 0) _ l in let j = level_is q (s + 0 + 0) _ i.1 in let m = level_is r (s + 0 + 0 + 0) true j.1 in
    let first = i.0 in let second = j.0 in let third = m.0 in
    subst (PartsAre s (p ∷ q ∷ r ∷ [])) (some_same k)
    (ap (λ x. x ∷ q ∷ r ∷ []) (at_level p s (omega (arith, first))) ∙ ap (λ y. (p.0, s) ∷ y ∷ r ∷ []) (at_level q s (omega (arith, second))) ∙ ap (λ z. (p.0, s) ∷ (q.0, s) ∷ z ∷ []) (at_level r s (omega (arith, third))))

record CallParts (l : ℕ) (ps : List (Exp × ℕ)) (e : Exp) : Type 0 where
  arguments : Args
  routine : Exp
  is : e ≡ Call arguments routine
  parts : ps ≡ all_parts arguments l ++ (routine, l + count arguments) ∷ []

record WithArgument (x : Exp) (r : Option Exp) (e : Exp) : Type 0 where
  arguments : Args
  routine : Exp
  was : r ≡ Some (Call arguments routine)
  is : e ≡ Call (argument x arguments) routine

inverted : (x : Exp) (r : Option Exp) (e : Exp) → with_argument x r ≡ Some e → WithArgument x r e
inverted x None e h = cc
inverted x (Some (Call es f)) e h = record { arguments = es; routine = f; was = refl; is = sym (some_same h) }
inverted x (Some y) e h = cc

call_parts : (l : ℕ) (ps : List (Exp × ℕ)) (e : Exp) → levels_of l 1 ps ≡ true → called_of (expressions ps) ≡ Some e → CallParts l ps e
call_parts l [] e h k = cc
call_parts l (p ∷ []) e h k =
    let i = (level_is p l true h).0 in
    record { arguments = no_argument; routine = p.0; is = sym (some_same k); parts = ap (λ q. q ∷ []) (at_level p (l + 0) (omega (arith, i))) }
call_parts l (p ∷ q ∷ ps) e h k =
    let i = level_is p l _ h in
    let a = inverted p.0 (called_of (expressions (q ∷ ps))) e k in
    let b = call_parts (l + 1) (q ∷ ps) (Call a.arguments a.routine) i.1 a.was in
    let same : Call a.arguments a.routine ≡ Call b.arguments b.routine = b.is in
    let args : a.arguments ≡ b.arguments = cc in
    let last : a.routine ≡ b.routine = cc in
    let level : l + 1 + count b.arguments ≡ l + (1 + count b.arguments) = omega arith in
    record {
      arguments = argument p.0 b.arguments;
      routine = b.routine;
      is = a.is ∙ ap (λ u. Call (argument p.0 u) a.routine) args ∙ ap (λ u. Call (argument p.0 b.arguments) u) last;
      parts = ap (λ x. x ∷ q ∷ ps) (at_level p l i.0) ∙ ap (λ xs. (p.0, l) ∷ xs) b.parts ∙ ap (λ n. (p.0, l) ∷ (all_parts b.arguments (l + 1) ++ (b.routine, n) ∷ [])) level;
    }

pub parts_right : (form : Form) (e : Exp) (s : ℕ) (ps : List (Exp × ℕ)) → levels_right s form ps ≡ true → whole form (expressions ps) ≡ Some e → ps ≡ parts e s
parts_right (forms.Num n) e s ps l k = leaf_parts (Num n) e s ps refl k
parts_right (forms.Frame n) e s ps l k = leaf_parts (Frame n) e s ps refl k
parts_right (forms.Glob n) e s ps l k = leaf_parts (Glob n) e s ps refl k
parts_right (forms.Place n) e s ps l k = leaf_parts (Place n) e s ps refl k
parts_right (forms.Valof n) e s ps l k = leaf_parts (Valof n) e s ps refl k
parts_right forms.Load e s ps l k = one_parts Load e s ps (λ x. refl) l k
parts_right forms.Neg e s ps l k = one_parts Neg e s ps (λ x. refl) l k
parts_right forms.Not e s ps l k = one_parts Not e s ps (λ x. refl) l k
parts_right (forms.Bin op) e s ps l k = two_parts op e s ps l k
parts_right forms.Cond e s ps l k = three_parts e s ps l k
parts_right (forms.Call n) e s ps l k = let c = call_parts (s + 2) ps e l k in c.parts ∙ ap (λ x. parts x s) (sym c.is)

-- a whole with as many parts as the form has is of this form
abbrev FormIs : Form → Exp → Type 0
FormIs form e = form ≡ own_form e

leaf_form : (form : Form) (es : List Exp) (x e : Exp) → form ≡ own_form x → leaf es x ≡ Some e → form ≡ own_form e
leaf_form form [] x e h k = subst (FormIs form) (some_same k) h
leaf_form form (y ∷ es) x e h k = cc

one_form : (form : Form) (f : Exp → Exp) (es : List Exp) (e : Exp) → ((x : Exp) → form ≡ own_form (f x)) → with_one f (one_of es) ≡ Some e → form ≡ own_form e
one_form form f [] e h k = cc
one_form form f (x ∷ []) e h k = subst (FormIs form) (some_same k) (h x)
one_form form f (x ∷ y ∷ es) e h k = cc

two_form : (op : Op) (es : List Exp) (e : Exp) → two_of op es ≡ Some e → forms.Bin op ≡ own_form e
two_form op [] e k = cc
two_form op (x ∷ []) e k = cc
two_form op (x ∷ y ∷ []) e k = subst (FormIs (forms.Bin op)) (some_same k) refl
two_form op (x ∷ y ∷ z ∷ es) e k = cc

three_form : (es : List Exp) (e : Exp) → three_of es ≡ Some e → forms.Cond ≡ own_form e
three_form [] e k = cc
three_form (x ∷ []) e k = cc
three_form (x ∷ y ∷ []) e k = cc
three_form (x ∷ y ∷ z ∷ []) e k = subst (FormIs forms.Cond) (some_same k) refl
three_form (x ∷ y ∷ z ∷ u ∷ es) e k = cc

call_form : (es : List Exp) (e : Exp) (n : ℕ) → length es ≡ n + 1 → called_of es ≡ Some e → forms.Call n ≡ own_form e
call_form [] e n h k = cc
call_form (x ∷ []) e n h k = let i : n ≡ 0 = omega (arith, h) in subst (FormIs (forms.Call n)) (some_same k) (ap (λ m. forms.Call m) i)
call_form (x ∷ y ∷ es) e zero h k = absurd (omega (arith, h))
call_form (x ∷ y ∷ es) e (suc n) h k =
    let a = inverted x (called_of (y ∷ es)) e k in
    let b : forms.Call n ≡ forms.Call (count a.arguments) = call_form (y ∷ es) (Call a.arguments a.routine) n (omega (arith, h)) a.was in
    let c : n ≡ count a.arguments = cc in
    ap (λ m. forms.Call m) (let i : suc n ≡ 1 + count a.arguments = omega (arith, c) in i) ∙ ap own_form (sym a.is)

pub whole_form : (form : Form) (es : List Exp) (e : Exp) → length es ≡ parts_of form → whole form es ≡ Some e → form ≡ own_form e
whole_form (forms.Num n) es e h k = leaf_form (forms.Num n) es (Num n) e refl k
whole_form (forms.Frame n) es e h k = leaf_form (forms.Frame n) es (Frame n) e refl k
whole_form (forms.Glob n) es e h k = leaf_form (forms.Glob n) es (Glob n) e refl k
whole_form (forms.Place n) es e h k = leaf_form (forms.Place n) es (Place n) e refl k
whole_form (forms.Valof n) es e h k = leaf_form (forms.Valof n) es (Valof n) e refl k
whole_form forms.Load es e h k = one_form forms.Load Load es e (λ x. refl) k
whole_form forms.Neg es e h k = one_form forms.Neg Neg es e (λ x. refl) k
whole_form forms.Not es e h k = one_form forms.Not Not es e (λ x. refl) k
whole_form (forms.Bin op) es e h k = two_form op es e k
whole_form forms.Cond es e h k = three_form es e k
whole_form (forms.Call n) es e h k = call_form es e n h k

-- and there is a whole with this number of parts
leaf_made : (es : List Exp) (x : Exp) → length es ≡ 0 → (e : Exp) × (leaf es x ≡ Some e)
leaf_made [] x h = (x, refl)
leaf_made (y ∷ es) x h = absurd (omega (arith, h))

one_made : (f : Exp → Exp) (es : List Exp) → length es ≡ 1 → (e : Exp) × (with_one f (one_of es) ≡ Some e)
one_made f [] h = absurd (omega (arith, h))
one_made f (x ∷ []) h = (f x, refl)
one_made f (x ∷ y ∷ es) h = absurd (omega (arith, h))

two_made : (op : Op) (es : List Exp) → length es ≡ 2 → (e : Exp) × (two_of op es ≡ Some e)
two_made op [] h = absurd (omega (arith, h))
two_made op (x ∷ []) h = absurd (omega (arith, h))
two_made op (x ∷ y ∷ []) h = (Bin op x y, refl)
two_made op (x ∷ y ∷ z ∷ es) h = absurd (omega (arith, h))

three_made : (es : List Exp) → length es ≡ 3 → (e : Exp) × (three_of es ≡ Some e)
three_made [] h = absurd (omega (arith, h))
three_made (x ∷ []) h = absurd (omega (arith, h))
three_made (x ∷ y ∷ []) h = absurd (omega (arith, h))
three_made (x ∷ y ∷ z ∷ []) h = (Cond x y z, refl)
three_made (x ∷ y ∷ z ∷ u ∷ es) h = absurd (omega (arith, h))

call_made : (x : Exp) (es : List Exp) → (a : Args) × ((f : Exp) × (called_of (x ∷ es) ≡ Some (Call a f)))
call_made x [] = (no_argument, (x, refl))
call_made x (y ∷ es) = let r = call_made y es in (argument x r.0, (r.1.0, ap (with_argument x) r.1.1))

some_call : (n : ℕ) (es : List Exp) → length es ≡ n + 1 → (e : Exp) × (called_of es ≡ Some e)
some_call n [] h = absurd (omega (arith, h))
some_call n (x ∷ es) h = let r = call_made x es in (Call r.0 r.1.0, r.1.1)

pub whole_made : (form : Form) (es : List Exp) → length es ≡ parts_of form → (e : Exp) × (whole form es ≡ Some e)
whole_made (forms.Num n) es h = leaf_made es (Num n) h
whole_made (forms.Frame n) es h = leaf_made es (Frame n) h
whole_made (forms.Glob n) es h = leaf_made es (Glob n) h
whole_made (forms.Place n) es h = leaf_made es (Place n) h
whole_made (forms.Valof n) es h = leaf_made es (Valof n) h
whole_made forms.Load es h = one_made Load es h
whole_made forms.Neg es h = one_made Neg es h
whole_made forms.Not es h = one_made Not es h
whole_made (forms.Bin op) es h = two_made op es h
whole_made forms.Cond es h = three_made es h
whole_made (forms.Call n) es h = some_call n es h
