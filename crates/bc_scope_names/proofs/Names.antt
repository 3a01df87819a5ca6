-- The index and the borders of a scope lead to the same meanings as the walk over its entries in the definitions.
use Rattle.std.proofs.Common.{◌≡◌, ℕ, ◌+◌, ◌<◌, ◌≤◌, refl, ap, ◌∙◌, sym, List, [], ◌∷◌, ◌++◌, length, Bool, true, false, not, ◌==◌, true≢false, cond, ltb, Option, Some, None, arith, rules}
use Rattle.bc_scope_names.specs.declared.scope.Borders.{Borders}
use Rattle.bc_scope_names.specs.declared.scope.Bound.{Bound}
use Rattle.bc_scope_names.specs.declared.scope.Entry.{Entry}
use Rattle.bc_scope_names.specs.declared.scope.Entry.TheVariants as entry
use Rattle.bc_scope_names.specs.Crossing.{seen}
use Rattle.bc_scope_names.specs.Index.{newest, newest_one, borders_of, after_border, after_routine, no_borders}
use Rattle.bc_scope_names.specs.View.{meant_view, after_one, after_entries}
use Rattle.bc_scope_defs.specs.Scope.{Env, Names, Name, nothing_known, with_name, is_name, meant_among, meant_by, Meant, Constant, Pending, Static, Global, Routine, Variable, Label, OuterVariable, OuterLabel, StrayVariable, StrayLabel, LabelOutside, Undeclared}
use Rattle.bc_scope_defs.specs.Scoping.{around_routine, around_valof, seen_through, in_routine, in_valof}

-- after one more entry

pub after_push : (es : List Entry) (e : Entry) (E : Env) → after_entries (es ++ e ∷ []) E ≡ after_one e (after_entries es E)
after_push [] e E = refl
after_push (x ∷ es) e E = after_push es e (after_one x E)

newest_push : (i : ℕ) (es : List Entry) (e : Entry) (q : Name) (k : Option Bound) → newest i (es ++ e ∷ []) q k ≡ newest_one (i + length es) e q (newest i es q k)
newest_push i [] e q k = ap (λ j. newest_one j e q k) (omega arith)
newest_push i (x ∷ es) e q k = newest_push (i + 1) es e q (newest_one i x q k) ∙ ap (λ j. newest_one j e q (newest (i + 1) es q (newest_one i x q k))) (omega arith)

borders_push : (i : ℕ) (es : List Entry) (e : Entry) (b : Borders) → borders_of i (es ++ e ∷ []) b ≡ after_border (i + length es) e (borders_of i es b)
borders_push i [] e b = ap (λ j. after_border j e b) (omega arith)
borders_push i (x ∷ es) e b = borders_push (i + 1) es e (after_border i x b) ∙ ap (λ j. after_border j e (borders_of (i + 1) es (after_border i x b))) (omega arith)

pub newest_last : (es : List Entry) (e : Entry) (q : Name) (k : Option Bound) → newest 0 (es ++ e ∷ []) q k ≡ newest_one (length es) e q (newest 0 es q k)
newest_last es e q k = newest_push 0 es e q k ∙ ap (λ j. newest_one j e q (newest 0 es q k)) (omega arith)

pub borders_last : (es : List Entry) (e : Entry) (b : Borders) → borders_of 0 (es ++ e ∷ []) b ≡ after_border (length es) e (borders_of 0 es b)
borders_last es e b = borders_push 0 es e b ∙ ap (λ j. after_border j e (borders_of 0 es b)) (omega arith)

-- Crossing two borders, one after the other

-- a name of an outer routine, or from outside all routines, stays one through more borders
routed_again : (i j : Bool) (m : Meant) → around_routine i (around_routine j m) ≡ around_routine j m
routed_again true true (Constant w) = refl
routed_again true true Pending = refl
routed_again true true (Static w) = refl
routed_again true true (Global w) = refl
routed_again true true (Routine w) = refl
routed_again true true (Variable w) = refl
routed_again true true (Label w) = refl
routed_again true true OuterVariable = refl
routed_again true true OuterLabel = refl
routed_again true true StrayVariable = refl
routed_again true true StrayLabel = refl
routed_again true true LabelOutside = refl
routed_again true true Undeclared = refl
routed_again true false (Constant w) = refl
routed_again true false Pending = refl
routed_again true false (Static w) = refl
routed_again true false (Global w) = refl
routed_again true false (Routine w) = refl
routed_again true false (Variable w) = refl
routed_again true false (Label w) = refl
routed_again true false OuterVariable = refl
routed_again true false OuterLabel = refl
routed_again true false StrayVariable = refl
routed_again true false StrayLabel = refl
routed_again true false LabelOutside = refl
routed_again true false Undeclared = refl
routed_again false true (Constant w) = refl
routed_again false true Pending = refl
routed_again false true (Static w) = refl
routed_again false true (Global w) = refl
routed_again false true (Routine w) = refl
routed_again false true (Variable w) = refl
routed_again false true (Label w) = refl
routed_again false true OuterVariable = refl
routed_again false true OuterLabel = refl
routed_again false true StrayVariable = refl
routed_again false true StrayLabel = refl
routed_again false true LabelOutside = refl
routed_again false true Undeclared = refl
routed_again false false (Constant w) = refl
routed_again false false Pending = refl
routed_again false false (Static w) = refl
routed_again false false (Global w) = refl
routed_again false false (Routine w) = refl
routed_again false false (Variable w) = refl
routed_again false false (Label w) = refl
routed_again false false OuterVariable = refl
routed_again false false OuterLabel = refl
routed_again false false StrayVariable = refl
routed_again false false StrayLabel = refl
routed_again false false LabelOutside = refl
routed_again false false Undeclared = refl

routed_after_valof : (i : Bool) (m : Meant) → around_routine i (around_valof m) ≡ around_routine i m
routed_after_valof true (Constant w) = refl
routed_after_valof true Pending = refl
routed_after_valof true (Static w) = refl
routed_after_valof true (Global w) = refl
routed_after_valof true (Routine w) = refl
routed_after_valof true (Variable w) = refl
routed_after_valof true (Label w) = refl
routed_after_valof true OuterVariable = refl
routed_after_valof true OuterLabel = refl
routed_after_valof true StrayVariable = refl
routed_after_valof true StrayLabel = refl
routed_after_valof true LabelOutside = refl
routed_after_valof true Undeclared = refl
routed_after_valof false (Constant w) = refl
routed_after_valof false Pending = refl
routed_after_valof false (Static w) = refl
routed_after_valof false (Global w) = refl
routed_after_valof false (Routine w) = refl
routed_after_valof false (Variable w) = refl
routed_after_valof false (Label w) = refl
routed_after_valof false OuterVariable = refl
routed_after_valof false OuterLabel = refl
routed_after_valof false StrayVariable = refl
routed_after_valof false StrayLabel = refl
routed_after_valof false LabelOutside = refl
routed_after_valof false Undeclared = refl

valof_after_routed : (i : Bool) (m : Meant) → around_valof (around_routine i m) ≡ around_routine i m
valof_after_routed true (Constant w) = refl
valof_after_routed true Pending = refl
valof_after_routed true (Static w) = refl
valof_after_routed true (Global w) = refl
valof_after_routed true (Routine w) = refl
valof_after_routed true (Variable w) = refl
valof_after_routed true (Label w) = refl
valof_after_routed true OuterVariable = refl
valof_after_routed true OuterLabel = refl
valof_after_routed true StrayVariable = refl
valof_after_routed true StrayLabel = refl
valof_after_routed true LabelOutside = refl
valof_after_routed true Undeclared = refl
valof_after_routed false (Constant w) = refl
valof_after_routed false Pending = refl
valof_after_routed false (Static w) = refl
valof_after_routed false (Global w) = refl
valof_after_routed false (Routine w) = refl
valof_after_routed false (Variable w) = refl
valof_after_routed false (Label w) = refl
valof_after_routed false OuterVariable = refl
valof_after_routed false OuterLabel = refl
valof_after_routed false StrayVariable = refl
valof_after_routed false StrayLabel = refl
valof_after_routed false LabelOutside = refl
valof_after_routed false Undeclared = refl

valof_again : (m : Meant) → around_valof (around_valof m) ≡ around_valof m
valof_again (Constant w) = refl
valof_again Pending = refl
valof_again (Static w) = refl
valof_again (Global w) = refl
valof_again (Routine w) = refl
valof_again (Variable w) = refl
valof_again (Label w) = refl
valof_again OuterVariable = refl
valof_again OuterLabel = refl
valof_again StrayVariable = refl
valof_again StrayLabel = refl
valof_again LabelOutside = refl
valof_again Undeclared = refl

nothing_routed : (i : Bool) → around_routine i Undeclared ≡ Undeclared
nothing_routed true = refl
nothing_routed false = refl

-- crossing a border changes each name by itself, and leaves undeclared names undeclared
meant_through : (f : Meant → Meant) → f Undeclared ≡ Undeclared → (es : Names) (q : Name) → meant_among (seen_through f es) q ≡ f (meant_among es q)
meant_through f u [] q = sym u
meant_through f u (e ∷ es) q = by (is_name e.0 q) (meant_through f u es q)
  where
    by : (t : Bool) → meant_among (seen_through f es) q ≡ f (meant_among es q) → elim t [ true ↦ f e.1 | false ↦ meant_among (seen_through f es) q ] ≡ f (elim t [ true ↦ e.1 | false ↦ meant_among es q ])
    by true h = refl
    by false h = h

meant_in_routine : (E : Env) (q : Name) → meant_by (in_routine E) q ≡ around_routine E.inside (meant_by E q)
meant_in_routine E q = meant_through (around_routine E.inside) (nothing_routed E.inside) E.names q

meant_in_valof : (E : Env) (q : Name) → meant_by (in_valof E) q ≡ around_valof (meant_by E q)
meant_in_valof E q = meant_through around_valof refl E.names q

-- the meaning that a scope returns for what its index found
abbrev pub answered : Borders → Option Bound → Meant
answered b None = Undeclared
answered b (Some k) = seen b k

-- what was found is an entry before this number
abbrev pub Stands : ℕ → Option Bound → Type 0
Stands i None = Unit
Stands i (Some k) = k.place < i

stands_on : (i j : ℕ) (k : Option Bound) → i ≤ j → Stands i k → Stands j k
stands_on i j None h s = tt
stands_on i j (Some k) h s = omega arith

below : (a b : ℕ) → a < b → ltb a b ≡ true
below a b h = search rules

not_below : (a b : ℕ) → b ≤ a → ltb a b ≡ false
not_below a b h = search rules

-- a name that is declared now is seen as it was declared
seen_now : (b : Borders) (k : Bound) → b.outermost ≤ k.place → b.routine ≤ k.place → b.valof ≤ k.place → seen b k ≡ meant_view k.meant
seen_now b k o r v = rw (not_below k.place b.outermost o) (rw (not_below k.place b.routine r) (rw (not_below k.place b.valof v) refl))

-- whether these borders are those of a point inside a routine
abbrev is_within : Borders → Bool
is_within b = not (b.outermost == 0)

-- without a border there is no routine
abbrev IsFirst : Borders → Type 0
IsFirst b = b.outermost ≡ 0 → b.routine ≡ 0

none_below : (a b : ℕ) → b ≡ 0 → ltb a b ≡ false
none_below a b e = not_below a b (omega (arith, e))

zero_is : (n : ℕ) → (n == 0) ≡ true → n ≡ 0
zero_is n h = grind arith

not_zero : (n : ℕ) → 1 ≤ n → (n == 0) ≡ false
not_zero n h = grind arith

-- after entering a routine, all that was found before is before its border
routine_now : (i : ℕ) (b : Borders) (k : Option Bound) → Stands i k → IsFirst b → answered (after_routine (i + 1) b) k ≡ around_routine (is_within b) (answered b k)
routine_now i b None s f = sym (nothing_routed (is_within b))
routine_now i b (Some k) s f = by (b.outermost == 0) refl
  where
    m : Meant
    m = meant_view k.meant

    before : ltb k.place (i + 1) ≡ true
    before = below k.place (i + 1) (omega arith)

    inner : (t u v : Bool) → cond t (around_routine false m) (around_routine true m) ≡ around_routine true (cond t (around_routine false m) (cond u (around_routine true m) (cond v (around_valof m) m)))
    inner true u v = sym (routed_again true false m)
    inner false true v = sym (routed_again true true m)
    inner false false true = sym (routed_after_valof true m)
    inner false false false = refl

    first : (v : Bool) → around_routine false m ≡ around_routine false (cond v (around_valof m) m)
    first true = sym (routed_after_valof false m)
    first false = refl

    by : (z : Bool) → (b.outermost == 0) ≡ z
        → cond (ltb k.place (cond z (i + 1) b.outermost)) (around_routine false m) (cond (ltb k.place (i + 1)) (around_routine true m) (cond (ltb k.place b.valof) (around_valof m) m))
        ≡ around_routine (not z) (seen b k)
    by true e =
        let o = zero_is b.outermost e in
        rw before (rw (none_below k.place b.outermost o, none_below k.place b.routine (f o)) (first (ltb k.place b.valof)))
    by false e = rw before (inner (ltb k.place b.outermost) (ltb k.place b.routine) (ltb k.place b.valof))

valof_now : (i : ℕ) (b : Borders) (k : Option Bound) → Stands i k → answered (record b { valof = i + 1 }) k ≡ around_valof (answered b k)
valof_now i b None s = refl
valof_now i b (Some k) s = rw (below k.place (i + 1) (omega arith)) (by (ltb k.place b.outermost) (ltb k.place b.routine) (ltb k.place b.valof))
  where
    m : Meant
    m = meant_view k.meant

    by : (t u v : Bool) → cond t (around_routine false m) (cond u (around_routine true m) (around_valof m)) ≡ around_valof (cond t (around_routine false m) (cond u (around_routine true m) (cond v (around_valof m) m)))
    by true u v = sym (valof_after_routed false m)
    by false true v = sym (valof_after_routed true m)
    by false false true = sym (valof_again m)
    by false false false = refl

-- after entering a routine there is a border
first_stays : (i : ℕ) (b : Borders) → b.outermost ≤ i → (not (cond (b.outermost == 0) (i + 1) b.outermost == 0) ≡ true) × (cond (b.outermost == 0) (i + 1) b.outermost ≤ i + 1) × IsFirst (after_routine (i + 1) b)
first_stays i b h = by (b.outermost == 0) refl
  where
    zero_not : b.outermost ≡ 0 → (b.outermost == 0) ≡ true
    zero_not n = ap (λ x. x == 0) n

    by : (z : Bool) → (b.outermost == 0) ≡ z → (not (cond z (i + 1) b.outermost == 0) ≡ true) × (cond z (i + 1) b.outermost ≤ i + 1) × (cond z (i + 1) b.outermost ≡ 0 → i + 1 ≡ 0)
    by true e = (ap not (not_zero (i + 1) (omega arith)), omega arith, λ n. n)
    by false e = (ap not e, omega arith, λ n. absurd (true≢false (sym (zero_not n) ∙ e)))

-- by induction over the entries: index and borders give what a name means
means : (es : List Entry) (i : ℕ) (E : Env) (q : Name) (b : Borders) (k : Option Bound) → E.inside ≡ is_within b → IsFirst b → meant_by E q ≡ answered b k → Stands i k → b.outermost ≤ i → b.routine ≤ i → b.valof ≤ i
    → meant_by (after_entries es E) q ≡ answered (borders_of i es b) (newest i es q k)
means [] i E q b k n f h s o r v = h
means (entry.Name x p y ∷ es) i E q b k n f h s o r v = means es (i + 1) (with_name x.name.now (meant_view x.meant) E) q b (cond (is_name x.name.now q) (Some (record { meant = x.meant; place = i })) k) n f (by (is_name x.name.now q)) (on (is_name x.name.now q)) (omega arith) (omega arith) (omega arith)
  where
    by : (t : Bool) → elim t [ true ↦ meant_view x.meant | false ↦ meant_by E q ] ≡ answered b (cond t (Some (record { meant = x.meant; place = i })) k)
    by true = sym (seen_now b (record { meant = x.meant; place = i }) o r v)
    by false = h

    on : (t : Bool) → Stands (i + 1) (cond t (Some (record { meant = x.meant; place = i })) k)
    on true = omega arith
    on false = stands_on i (i + 1) k (omega arith) s
means (entry.Routine x ∷ es) i E q b k n f h s o r v =
    let g = first_stays i b o in
    means es (i + 1) (in_routine E) q (after_routine (i + 1) b) k (sym g.0) g.2
    (meant_in_routine E q ∙ (λ j. around_routine (n j) (h j)) ∙ sym (routine_now i b k s f)) (stands_on i (i + 1) k (omega arith) s) g.1 (omega arith) (omega arith)
means (entry.Valof x ∷ es) i E q b k n f h s o r v =
    means es (i + 1) (in_valof E) q (record b { valof = i + 1 }) k n f (meant_in_valof E q ∙ ap around_valof h ∙ sym (valof_now i b k s)) (stands_on i (i + 1) k (omega arith) s) (omega arith) (omega arith) (omega arith)

pub meant_is : (es : List Entry) (q : Name) → meant_by (after_entries es nothing_known) q ≡ answered (borders_of 0 es no_borders) (newest 0 es q None)
meant_is es q = means es 0 nothing_known q no_borders None refl (λ n. refl) refl tt (omega arith) (omega arith) (omega arith)

within : (es : List Entry) (i : ℕ) (E : Env) (b : Borders) → E.inside ≡ is_within b → b.outermost ≤ i → (after_entries es E).inside ≡ is_within (borders_of i es b)
within [] i E b n o = n
within (entry.Name x p y ∷ es) i E b n o = within es (i + 1) (with_name x.name.now (meant_view x.meant) E) b n (omega arith)
within (entry.Routine x ∷ es) i E b n o = let g = first_stays i b o in within es (i + 1) (in_routine E) (after_routine (i + 1) b) (sym g.0) g.1
within (entry.Valof x ∷ es) i E b n o = within es (i + 1) (in_valof E) (record b { valof = i + 1 }) n (omega arith)

-- and whether this point is inside a routine
pub inside_is : (es : List Entry) → (after_entries es nothing_known).inside ≡ is_within (borders_of 0 es no_borders)
inside_is es = within es 0 nothing_known no_borders refl (omega arith)
