-- If each label is set once, the linker doesn't refuse the segment for a label.
use Rattle.std.proofs.Common.{◌≡◌, ◌∙◌, ℕ, ◌+◌, ◌≤◌, ◌<◌, ◌==◌, ◌||◌, Bool, true, false, not, Option, Some, None, List, [], ◌∷◌, ◌++◌, refl, ap, arith}
use Rattle.std.specs.Prelude.{cond, map, nat_lt, nat_le, count_by, ◌&&◌}
use Rattle.std.specs.List.{fold, list_any, cons_option, AllByRecursion}
use Rattle.std.specs.Option.{option_map}
use Rattle.std.proofs.lemmas.Bool.Decides.{nat_tests}
use Rattle.bc_text_items.specs.declared.item.Item.{Item}
use Rattle.bc_core.specs.Tree.{Root}
use Rattle.bc_core.specs.Commands.{Core}
use Rattle.bc_rules_defs.specs.declared.rule.Table.{Table}
use Rattle.bc_rules_defs.specs.Rules.{RootDerives}
use Rattle.bc_gen_defs.specs.Bodies.{coding_of}
use Rattle.bc_gen_defs.specs.Section.{section_items, routines_code}
use Rattle.bc_link.specs.declared.link_error.LinkError.TheVariants.{LabelUnset, LabelTwice}
use Rattle.bc_link.specs.Labels.{labels_of, use_of, uses_of}
use Rattle.bc_link.specs.Refusals.{first_of, repeated_after, first_unset, label_twice_from, label_unset_from, global_twice, too_large}
use Rattle.bc_core.specs.WellFormed.{is_core}
use Rattle.bc_gen_laws.specs.labels.Laws.{LabelsStand, LabelsStandOnce, LabelsAreThoseTaken, OnlyGlobalsAndSizeAreRefused}
use Rattle.bc_gen_laws.proofs.label_lemmas.Counts.{at, below, count}
use Rattle.bc_gen_laws.proofs.label_lemmas.Fresh.{same_number}
use Rattle.bc_gen_laws.proofs.label_lemmas.Speaking.{In, Known, AllKnown}
use Rattle.bc_gen_laws.proofs.label_lemmas.Sections.{Labelled, section_labelled}

count_last : (k x : ℕ) (xs : List ℕ) → count k (xs ++ x ∷ []) ≡ count k xs + at x k
count_last k x [] = omega arith
count_last k x (y ∷ ys) = let h = count_last k x ys in omega arith

at_same : (x y : ℕ) → (x == y) ≡ true → at y x ≡ 1
at_same x y h = grind (arith, nat_tests)

at_other : (x y : ℕ) → (x == y) ≡ false → at y x ≡ 0
at_other x y h = grind (arith, nat_tests)

counted_first : (x y n : ℕ) (b rest : Bool) → (x == y) ≡ b → (b || rest) ≡ true → (rest ≡ true → 1 ≤ n) → 1 ≤ at y x + n
counted_first x y n true rest e h later = let a = at_same x y e in omega arith
counted_first x y n false rest e h later = let a = later h in omega arith

counted : (x : ℕ) (ys : List ℕ) → list_any (λ y. x == y) ys ≡ true → 1 ≤ count x ys
counted x [] h = absurd (cc)
counted x (y ∷ ys) h = counted_first x y (count x ys) (x == y) (list_any (λ z. x == z) ys) refl h (counted x ys)

found_first : (x y n : ℕ) (b rest : Bool) → (x == y) ≡ b → 1 ≤ at y x + n → (1 ≤ n → rest ≡ true) → (b || rest) ≡ true
found_first x y n true rest e h later = refl
found_first x y n false rest e h later = let a = at_other x y e in later (omega arith)

found : (x : ℕ) (ys : List ℕ) → 1 ≤ count x ys → list_any (λ y. x == y) ys ≡ true
found x [] h = absurd (omega arith)
found x (y ∷ ys) h = found_first x y (count x ys) (x == y) (list_any (λ z. x == z) ys) refl h (found x ys)

-- a number that occurs at most once isn't repeated
not_repeated : (before xs : List ℕ) → ((k : ℕ) → count k before + count k xs ≤ 1) → repeated_after before xs ≡ None
not_repeated before [] h = refl
not_repeated before (x ∷ xs) h =
    by (list_any (λ y. x == y) before) refl (not_repeated (before ++ x ∷ []) xs (λ k. let a = count_last k x before in let b = h k in omega arith)) where
      by : (b : Bool) → list_any (λ y. x == y) before ≡ b → repeated_after (before ++ x ∷ []) xs ≡ None → cond b (Some x) (repeated_after (before ++ x ∷ []) xs) ≡ None
      by true e i = let a = counted x before e in let b = h x in let c = at_same x x (same_number x) in absurd (omega arith)
      by false e i = i

-- every label that is used is set
all_set : (n : ℕ) (labels : List ℕ) → ((m : ℕ) → In n m → list_any (λ y. m == y) labels ≡ true) → (is : List Item) → AllKnown n is → first_unset labels (uses_of is) ≡ None
all_set n labels h [] k = refl
all_set n labels h (i ∷ is) k = by (use_of i) k.0 (all_set n labels h is k.1) where
  by : (o : Option ℕ) → Known n o → first_unset labels (uses_of is) ≡ None → first_unset labels (cons_option o (uses_of is)) ≡ None
  by None u e = e
  by (Some m) u e = ap (λ b. cond (not b) (Some m) (first_unset labels (uses_of is))) (h m u) ∙ e

below_most : (k m : ℕ) → below k m ≤ 1
below_most k m = by (nat_lt k m) where
  by : (b : Bool) → cond b 1 0 ≤ 1
  by true = omega arith
  by false = omega arith

below_one : (m : ℕ) → 1 ≤ m → below m 1 ≡ 0
below_one m h = grind (arith, nat_tests)

below_is : (m n : ℕ) → m < n → below m n ≡ 1
below_is m n h = grind (arith, nat_tests)

labels_stand : (n : ℕ) (is : List Item) → Labelled n is → LabelsStand is
labels_stand n is h = (
  not_repeated [] (labels_of is) (λ k. let a = h.once k in let b = below_most k n in omega arith),
  all_set n (labels_of is) (λ m i. found m (labels_of is) (let a = h.once m in let b = below_one m i.0 in let c = below_is m n i.1 in omega arith)) is h.speaks.all,
)

pub labels_stand_once : LabelsStandOnce
labels_stand_once T choice core h = labels_stand (routines_code (coding_of choice) core).1 (section_items (coding_of choice) core) (section_labelled choice core h)

counted_from : (k n : ℕ) (ls : List ℕ) → fold (λ a l. a + cond (l == k) 1 0) n ls ≡ n + count k ls
counted_from k n [] = omega arith
counted_from k n (l ∷ ls) = let h = counted_from k (n + at l k) ls in omega arith

count_is : (k : ℕ) (ls : List ℕ) → count_by (λ l. l == k) ls ≡ count k ls
count_is k ls = counted_from k 0 ls ∙ omega arith

within : (k g n : ℕ) → n + below k 1 ≡ below k g → n ≡ cond (nat_le 1 k && nat_lt k g) 1 0
within k g n h = by (nat_le 1 k) refl where
  by : (b : Bool) → nat_le 1 k ≡ b → n ≡ cond (b && nat_lt k g) 1 0
  by true e = let a = below_one k (grind (arith, nat_tests)) in omega arith
  by false e = let a = below_is k 1 (grind (arith, nat_tests)) in let b = below_most k g in omega arith

pub labels_are_those_taken : LabelsAreThoseTaken
labels_are_those_taken T choice core h k =
    let is = section_items (coding_of choice) core in
    let g = (routines_code (coding_of choice) core).1 in
    count_is k (labels_of is) ∙ within k g (count k (labels_of is)) ((section_labelled choice core h).once k)

nothing_first : {X : Type 0} (a b : Option X) → a ≡ None → first_of a b ≡ b
nothing_first a b h = ap (λ x. first_of x b) h

first_alone : {X : Type 0} (a : Option X) → first_of a None ≡ a
first_alone None = refl
first_alone (Some x) = refl

module _ {T : Table} (choice : (r : Root) → RootDerives T r) where
  abbrev segments : List Core → List (List Item)
  segments cores = map (section_items (coding_of choice)) cores

  none_twice : (k : ℕ) (cores : List Core) → AllByRecursion (λ core. is_core core ≡ true) cores → label_twice_from k (segments cores) ≡ None
  none_twice k [] h = refl
  none_twice k (core ∷ cores) h =
      nothing_first _ _ (ap (λ x. option_map (LabelTwice k) x) (labels_stand_once T choice core h.0).0) ∙ none_twice (k + 1) cores h.1

  none_unset : (k : ℕ) (cores : List Core) → AllByRecursion (λ core. is_core core ≡ true) cores → label_unset_from k (segments cores) ≡ None
  none_unset k [] h = refl
  none_unset k (core ∷ cores) h =
      nothing_first _ _ (ap (λ x. option_map (LabelUnset k) x) (labels_stand_once T choice core h.0).1) ∙ none_unset (k + 1) cores h.1

pub only_globals_and_size_are_refused : OnlyGlobalsAndSizeAreRefused
only_globals_and_size_are_refused T choice cores h =
    let all = map (section_items (coding_of choice)) cores in
    nothing_first _ _ (none_twice choice 0 cores h)
    ∙ ap (λ x. first_of (global_twice all) (first_of (too_large all) x)) (none_unset choice 0 cores h)
    ∙ ap (λ x. first_of (global_twice all) x) (first_alone (too_large all))
