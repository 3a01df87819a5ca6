-- What the checker keeps of a node is true if what it keeps of the parts is, form by form.
use Rattle.std.proofs.Common.{◌≡◌, ℕ, ◌+◌, max, Bool, true, false, cond, List, [], ◌∷◌, ◌++◌, map, refl, ap, sym, ◌∙◌, arith, append_assoc}
use Rattle.std.specs.Prelude.{◌||◌}
use Rattle.bc_core.specs.Tree.{Exp, Args, count}
use Rattle.bc_core.specs.Value.{has_call}
use Rattle.bc_rules_defs.specs.declared.rule.Table.{Table}
use Rattle.bc_rules_defs.specs.declared.rule.Rule.{Rule}
use Rattle.bc_rules_defs.specs.Free as free
use Rattle.bc_rules_defs.specs.Rules.{Tree}
use Rattle.bc_select_defs.specs.Nodes.{in_order, all_in_order}
use Rattle.bc_cert_read.specs.declared.facts.Facts.{Facts}
use Rattle.bc_cert_read.specs.declared.form.Form.{Form}
use Rattle.bc_cert_read.specs.Form.{calls_itself, is_plain}
use Rattle.bc_cert_read.specs.declared.mark.TreeFacts.{TreeFacts}
use Rattle.bc_cert_read.specs.Marks.{depth_from, depth_over, all_bare}
use Rattle.bc_cert_read.specs.Stacks.{any_calls}
use Rattle.bc_cert_write.specs.Shown.{Shown, bare}
use Rattle.bc_cert_write.proofs.Bare.{all_bare as all_bare_from, bare_parts}
use Rattle.bc_cert_laws.specs.Entries.{nested, all_nested}
use Rattle.bc_cert_laws.specs.Faults.{node}
use Rattle.bc_cert_laws.proofs.Over.{StandsAt, AreArguments, routine, next, Over, num, frame, glob, place, valof, load, neg, not, bin, choice, call}

abbrev pub keys : List Shown → List (Exp × ℕ)
keys ns = map (λ n. (n.expression, n.level)) ns

-- the nodes, in order
both : (xs ys : List Shown) (us vs : List (Exp × ℕ)) → keys xs ≡ us → keys ys ≡ vs → keys (xs ++ ys) ≡ us ++ vs
both [] ys us vs h i = i ∙ ap (λ l. l ++ vs) h
both (x ∷ xs) ys us vs h i = ap (λ l. (x.expression, x.level) ∷ l) (both xs ys (keys xs) vs refl i) ∙ ap (λ l. l ++ vs) h

pub arguments_order : {T : Table} {es : Args} {f : Exp} {s : ℕ} {ns : List Shown} {ms : List TreeFacts} {ps : List Facts} {xs : List Tree} → AreArguments T es f s ns ms ps xs → keys ns ≡ all_in_order es s ++ in_order f (s + count es)
arguments_order {f = f} {s = s} (routine h) = h.order ∙ ap (λ k. in_order f k) (omega arith)
arguments_order {f = f} {s = s} (next {e = e} {es = es} {ns = ns} {os = os} h i) =
    let level : s + 1 + count es ≡ s + (1 + count es) = omega arith in
    both ns os _ _ h.order (arguments_order i ∙ ap (λ k. all_in_order es (s + 1) ++ in_order f k) level) ∙ sym (append_assoc (in_order e s) (all_in_order es (s + 1)) (in_order f (s + (1 + count es))))

pub order_is : {T : Table} {s : ℕ} {form : Form} {ns : List Shown} {ms : List TreeFacts} {ps : List Facts} {xs : List Tree} {e : Exp} → Over T s form ns ms ps xs e → (rules : List Rule) → keys (ns ++ node e s rules ∷ []) ≡ in_order e s
order_is num rules = refl
order_is frame rules = refl
order_is glob rules = refl
order_is place rules = refl
order_is valof rules = refl
order_is (load {ns = ns} h) rules = both ns _ _ _ h.order refl
order_is (neg {ns = ns} h) rules = both ns _ _ _ h.order refl
order_is (not {ns = ns} h) rules = both ns _ _ _ h.order refl
order_is (bin {ns = ns} {os = os} h i) rules = both (ns ++ os) _ _ _ (both ns os _ _ h.order i.order) refl
order_is (choice {ks = ks} {ns = ns} {os = os} h i j) rules = both ((ks ++ ns) ++ os) _ _ _ (both (ks ++ ns) os _ _ (both ks ns _ _ h.order i.order) j.order) refl
order_is (call {ns = ns} h) rules = both ns _ _ _ (arguments_order h) refl

bares_order : (ns : List (Exp × ℕ)) → keys (map (λ n. record { expression = n.0; level = n.1; rules = [] }) ns) ≡ ns
bares_order [] = refl
bares_order (n ∷ ns) = ap (λ l. n ∷ l) (bares_order ns)

pub bare_order : (e : Exp) (s : ℕ) → keys (bare e s) ≡ in_order e s
bare_order e s = bares_order (in_order e s)

-- lists of the same nodes are cut at the same place
pub cut : (xs ys us vs : List Shown) → keys xs ≡ keys us → xs ++ ys ≡ us ++ vs → (xs ≡ us) × (ys ≡ vs)
cut [] ys [] vs k h = (refl, h)
cut [] ys (u ∷ us) vs k h = cc
cut (x ∷ xs) ys [] vs k h = cc
cut (x ∷ xs) ys (u ∷ us) vs k h =
    let here : x ≡ u = cc in
    let rest : keys xs ≡ keys us = cc in
    let following : xs ++ ys ≡ us ++ vs = cc in
    let c = cut xs ys us vs rest following in
    (ap (λ y. y ∷ xs) here ∙ ap (λ l. u ∷ l) c.0, c.1)

pub last_is : (xs us : List Shown) (y v : Shown) → xs ++ y ∷ [] ≡ us ++ v ∷ [] → (xs ≡ us) × (y ≡ v)
last_is [] [] y v h = (refl, cc)
last_is [] (u ∷ []) y v h = cc
last_is [] (u ∷ w ∷ us) y v h = cc
last_is (x ∷ []) [] y v h = cc
last_is (x ∷ w ∷ xs) [] y v h = cc
last_is (x ∷ xs) (u ∷ us) y v h =
    let here : x ≡ u = cc in
    let following : xs ++ y ∷ [] ≡ us ++ v ∷ [] = cc in
    let c = last_is xs us y v following in
    (ap (λ z. z ∷ xs) here ∙ ap (λ l. u ∷ l) c.0, c.1)

-- nodes without rules
pub two_true : (b c : Bool) → cond b c false ≡ true → (b ≡ true) × (c ≡ true)
two_true true c h = (refl, h)
two_true false c h = cc

pub true_two : (b c : Bool) → b ≡ true → c ≡ true → cond b c false ≡ true
true_two true c h i = i
true_two false c h i = cc

pub pair_of : (xs ys us vs : List Shown) → xs ≡ us → ys ≡ vs → xs ++ ys ≡ us ++ vs
pair_of xs ys us vs h i = ap (λ l. l ++ ys) h ∙ ap (λ l. us ++ l) i

bare_arguments : {T : Table} {es : Args} {f : Exp} {s : ℕ} {ns : List Shown} {ms : List TreeFacts} {ps : List Facts} {xs : List Tree} → AreArguments T es f s ns ms ps xs → all_bare ms ≡ true → ns ≡ all_bare_from es s ++ bare f (s + count es)
bare_arguments {f = f} {s = s} (routine h) b = h.bare_to (two_true _ _ b).0 ∙ ap (λ k. bare f k) (omega arith)
bare_arguments {f = f} {s = s} (next {e = e} {es = es} {ns = ns} {os = os} h i) b =
    let level : s + 1 + count es ≡ s + (1 + count es) = omega arith in
    let c = two_true _ _ b in
    pair_of ns os _ _ (h.bare_to c.0) (bare_arguments i c.1 ∙ ap (λ k. all_bare_from es (s + 1) ++ bare f k) level) ∙ sym (append_assoc (bare e s) (all_bare_from es (s + 1)) (bare f (s + (1 + count es))))

pub bare_to : {T : Table} {s : ℕ} {form : Form} {ns : List Shown} {ms : List TreeFacts} {ps : List Facts} {xs : List Tree} {e : Exp} → Over T s form ns ms ps xs e → all_bare ms ≡ true → ns ≡ bare_parts e s
bare_to num b = refl
bare_to frame b = refl
bare_to glob b = refl
bare_to place b = refl
bare_to valof b = refl
bare_to (load h) b = h.bare_to (two_true _ _ b).0
bare_to (neg h) b = h.bare_to (two_true _ _ b).0
bare_to (not h) b = h.bare_to (two_true _ _ b).0
bare_to (bin {ns = ns} {os = os} h i) b = let c = two_true _ _ b in pair_of ns os _ _ (h.bare_to c.0) (i.bare_to (two_true _ _ c.1).0)
bare_to (choice {ks = ks} {ns = ns} {os = os} h i j) b =
    let c = two_true _ _ b in let d = two_true _ _ c.1 in
    pair_of (ks ++ ns) os _ _ (pair_of ks ns _ _ (h.bare_to c.0) (i.bare_to d.0)) (j.bare_to (two_true _ _ d.1).0)
bare_to (call h) b = bare_arguments h b

arguments_bare : {T : Table} {es : Args} {f : Exp} {s : ℕ} {ns : List Shown} {ms : List TreeFacts} {ps : List Facts} {xs : List Tree} → AreArguments T es f s ns ms ps xs → ns ≡ all_bare_from es s ++ bare f (s + count es) → all_bare ms ≡ true
arguments_bare {f = f} {s = s} (routine h) k = true_two _ _ (h.bare_from (k ∙ ap (λ k. bare f k) (omega arith))) refl
arguments_bare {f = f} {s = s} (next {e = e} {es = es} {ns = ns} {os = os} h i) k =
    let level : s + (1 + count es) ≡ s + 1 + count es = omega arith in
    let c = cut ns os (bare e s) (all_bare_from es (s + 1) ++ bare f (s + (1 + count es))) (h.order ∙ sym (bare_order e s)) (k ∙ append_assoc (bare e s) (all_bare_from es (s + 1)) (bare f (s + (1 + count es)))) in
    true_two _ _ (h.bare_from c.0) (arguments_bare i (c.1 ∙ ap (λ k. all_bare_from es (s + 1) ++ bare f k) level))

pub bare_from : {T : Table} {s : ℕ} {form : Form} {ns : List Shown} {ms : List TreeFacts} {ps : List Facts} {xs : List Tree} {e : Exp} → Over T s form ns ms ps xs e → ns ≡ bare_parts e s → all_bare ms ≡ true
bare_from num k = refl
bare_from frame k = refl
bare_from glob k = refl
bare_from place k = refl
bare_from valof k = refl
bare_from (load h) k = true_two _ _ (h.bare_from k) refl
bare_from (neg h) k = true_two _ _ (h.bare_from k) refl
bare_from (not h) k = true_two _ _ (h.bare_from k) refl
bare_from {s = s} (bin {a = a} {b = b} {ns = ns} {os = os} h i) k =
    let c = cut ns os (bare a (s + 1)) (bare b (s + 1)) (h.order ∙ sym (bare_order a (s + 1))) k in
    true_two _ _ (h.bare_from c.0) (true_two _ _ (i.bare_from c.1) refl)
bare_from {s = s} (choice {a = x} {b = y} {c = z} {ks = ks} {ns = ns} {os = os} h i j) k =
    let c = cut (ks ++ ns) os (bare x s ++ bare y s) (bare z s) (both ks ns _ _ h.order i.order ∙ sym (both (bare x s) (bare y s) _ _ (bare_order x s) (bare_order y s))) k in
    let d = cut ks ns (bare x s) (bare y s) (h.order ∙ sym (bare_order x s)) c.0 in
    true_two _ _ (h.bare_from d.0) (true_two _ _ (i.bare_from d.1) (true_two _ _ (j.bare_from c.1) refl))
bare_from (call h) k = arguments_bare h k

-- the depth
arguments_depth : {T : Table} {es : Args} {f : Exp} {s : ℕ} {ns : List Shown} {ms : List TreeFacts} {ps : List Facts} {xs : List Tree} → AreArguments T es f s ns ms ps xs → (d : ℕ) → depth_from d ms ≡ max d (max (all_nested es) (nested f))
arguments_depth {f = f} (routine {m = m} h) d =
    let k : m.depth ≡ nested f = h.depth in
    omega arith
arguments_depth {f = f} (next {e = e} {es = es} {m = m} {ms = ms} h i) d =
    let k : m.depth ≡ nested e = h.depth in
    let r : depth_from (max d m.depth) ms ≡ max (max d m.depth) (max (all_nested es) (nested f)) = arguments_depth i (max d m.depth) in
    r ∙ (let l : max (max d m.depth) (max (all_nested es) (nested f)) ≡ max d (max (max (nested e) (all_nested es)) (nested f)) = omega arith in l)

pub depth_of : {T : Table} {s : ℕ} {form : Form} {ns : List Shown} {ms : List TreeFacts} {ps : List Facts} {xs : List Tree} {e : Exp} → Over T s form ns ms ps xs e → depth_over ms ≡ nested e
depth_of num = refl
depth_of frame = refl
depth_of glob = refl
depth_of place = refl
depth_of valof = refl
depth_of (load {a = a} {m = m} h) = let k : m.depth ≡ nested a = h.depth in omega arith
depth_of (neg {a = a} {m = m} h) = let k : m.depth ≡ nested a = h.depth in omega arith
depth_of (not {a = a} {m = m} h) = let k : m.depth ≡ nested a = h.depth in omega arith
depth_of (bin {a = a} {b = b} {m = m} {n = n} h i) = let k : m.depth ≡ nested a = h.depth in let l : n.depth ≡ nested b = i.depth in omega arith
depth_of (choice {a = a} {b = b} {c = c} {l = l} {m = m} {n = n} h i j) =
    let u : l.depth ≡ nested a = h.depth in
    let v : m.depth ≡ nested b = i.depth in
    let w : n.depth ≡ nested c = j.depth in
    omega arith
depth_of (call {es = es} {f = f} {ms = ms} h) = let k : depth_from 0 ms ≡ max 0 (max (all_nested es) (nested f)) = arguments_depth h 0 in omega arith

-- whether it contains a call
cond_true : (b : Bool) → cond b true false ≡ b
cond_true true = refl
cond_true false = refl

cond_or : (b c : Bool) → cond b true c ≡ b || c
cond_or true c = refl
cond_or false c = refl

or_grouped : (a b c : Bool) → a || (b || c) ≡ (a || b) || c
or_grouped true b c = refl
or_grouped false b c = refl

calls_is : {T : Table} {e : Exp} {s : ℕ} {ns : List Shown} {m : TreeFacts} {x : Tree} (p : Facts) → StandsAt T e s ns m p x → p.calls ≡ has_call e
calls_is p h = ap (λ f. f.calls) h.part.facts

one_calls : (p : Facts) (b : Bool) → p.calls ≡ b → any_calls (p ∷ []) ≡ b
one_calls p b h = cond_true p.calls ∙ h

more_calls : (p : Facts) (ps : List Facts) (b c : Bool) → p.calls ≡ b → any_calls ps ≡ c → any_calls (p ∷ ps) ≡ b || c
more_calls p ps b c h i = cond_or p.calls (any_calls ps) ∙ ap (λ x. p.calls || x) i ∙ ap (λ x. x || c) h

pub calls_of : {T : Table} {s : ℕ} {form : Form} {ns : List Shown} {ms : List TreeFacts} {ps : List Facts} {xs : List Tree} {e : Exp} → Over T s form ns ms ps xs e → calls_itself form || any_calls ps ≡ has_call e
calls_of num = refl
calls_of frame = refl
calls_of glob = refl
calls_of place = refl
calls_of valof = refl
calls_of (load {p = p} h) = one_calls p _ (calls_is p h)
calls_of (neg {p = p} h) = one_calls p _ (calls_is p h)
calls_of (not {p = p} h) = one_calls p _ (calls_is p h)
calls_of (bin {p = p} {q = q} h i) = more_calls p (q ∷ []) _ _ (calls_is p h) (one_calls q _ (calls_is q i))
calls_of (choice {a = a} {b = b} {c = c} {o = o} {p = p} {q = q} h i j) = more_calls o (p ∷ q ∷ []) _ _ (calls_is o h) (more_calls p (q ∷ []) _ _ (calls_is p i) (one_calls q _ (calls_is q j))) ∙ or_grouped (has_call a) (has_call b) (has_call c)
calls_of (call h) = refl

-- whether a test may be made of its value
pub plain_of : {T : Table} {s : ℕ} {form : Form} {ns : List Shown} {ms : List TreeFacts} {ps : List Facts} {xs : List Tree} {e : Exp} → Over T s form ns ms ps xs e → is_plain form ≡ free.is_plain e
plain_of num = refl
plain_of frame = refl
plain_of glob = refl
plain_of place = refl
plain_of valof = refl
plain_of (load h) = refl
plain_of (neg h) = refl
plain_of (not h) = refl
plain_of (bin h i) = refl
plain_of (choice h i j) = refl
plain_of (call h) = refl
