-- Names and values kept as sets have the lists of the definitions as their views.
use Rattle.std.proofs.Common.{◌≡◌, ℕ, List, [], ◌∷◌, ◌++◌, Bool, true, false, not, ◌||◌, ◌&&◌, Some, None, refl, sym, ap, ◌∙◌, true≢false, nat_eq}
use Rattle.std.specs.Prelude.{if◌then◌else◌}
use Rattle.std.specs.Borrow.{Bor}
use Rattle.std.specs.List.{list_any}
use Rattle.std.specs.Str.{bytes_eq}
use Rattle.std.specs.Cmp.{nat_eq_equiv}
use Rattle.std.proofs.lemmas.List.{map_push}
use Rattle.indexmap.specs.IndexSet.{insert_key}
use Rattle.bc_scope_defs.specs.Scope.{Name, is_name}
use Rattle.bc_scope_defs.specs.Faults.{is_among, has_value, twice_fault, unless, ADeclaredTwice, ACaseTwice}
use Rattle.bc_scope_faults.specs.Seen.{names_view}

abbrev pub is_key : Bor (List ℕ) → Bor (List ℕ) → Bool
is_key k n = bytes_eq k.now n.now

same_name : (a b : Name) → bytes_eq a b ≡ is_name b a
same_name [] [] = refl
same_name [] (y ∷ b) = refl
same_name (x ∷ a) [] = refl
same_name (x ∷ a) (y ∷ b) = λ i. nat_eq_equiv.symm x y i && same_name a b i

among : (ks : List (Bor (List ℕ))) (n : Bor (List ℕ)) → list_any (is_key n) ks ≡ is_among (names_view ks) n.now
among [] n = refl
among (k ∷ ks) n = λ i. same_name n.now k.now i || among ks n i

-- a new name becomes the last of the list
pub fresh_name : (ks ks1 : List (Bor (List ℕ))) (n : Bor (List ℕ)) (fresh : Bool) → fresh ≡ not (list_any (is_key n) ks) → ks1 ≡ insert_key is_key ks n → fresh ≡ true → (twice_fault (names_view ks) n.now ≡ None) × (names_view ks1 ≡ names_view ks ++ n.now ∷ [])
fresh_name ks ks1 n fresh added after new = by (list_any (is_key n) ks) (among ks n) (sym new ∙ added) after
  where
    by : (b : Bool) → b ≡ is_among (names_view ks) n.now → true ≡ not b → ks1 ≡ (if b then ks else ks ++ n ∷ []) → (twice_fault (names_view ks) n.now ≡ None) × (names_view ks1 ≡ names_view ks ++ n.now ∷ [])
    by true s h e = absurd (true≢false h)
    by false s h e = (ap (λ b. unless (not b) (ADeclaredTwice n.now)) (sym s), ap names_view e ∙ map_push (λ (m : Bor (List ℕ)). m.now) ks n)

pub seen_name : (ks : List (Bor (List ℕ))) (n : Bor (List ℕ)) (fresh : Bool) → fresh ≡ not (list_any (is_key n) ks) → fresh ≡ false → twice_fault (names_view ks) n.now ≡ Some (ADeclaredTwice n.now)
seen_name ks n fresh added old = by (list_any (is_key n) ks) (among ks n) (sym old ∙ added)
  where
    by : (b : Bool) → b ≡ is_among (names_view ks) n.now → false ≡ not b → twice_fault (names_view ks) n.now ≡ Some (ADeclaredTwice n.now)
    by true s h = ap (λ b. unless (not b) (ADeclaredTwice n.now)) (sym s)
    by false s h = absurd (true≢false (sym h))

valued : (ws : List ℕ) (w : ℕ) → list_any (nat_eq w) ws ≡ has_value ws w
valued [] w = refl
valued (v ∷ ws) w = λ i. nat_eq_equiv.symm w v i || valued ws w i

-- a new value becomes the last of the list
pub fresh_value : (ws ws1 : List ℕ) (w : ℕ) (fresh : Bool) → fresh ≡ not (list_any (nat_eq w) ws) → ws1 ≡ insert_key nat_eq ws w → fresh ≡ true → (unless (not (has_value ws w)) ACaseTwice ≡ None) × (ws1 ≡ ws ++ w ∷ [])
fresh_value ws ws1 w fresh added after new = by (list_any (nat_eq w) ws) (valued ws w) (sym new ∙ added) after
  where
    by : (b : Bool) → b ≡ has_value ws w → true ≡ not b → ws1 ≡ (if b then ws else ws ++ w ∷ []) → (unless (not (has_value ws w)) ACaseTwice ≡ None) × (ws1 ≡ ws ++ w ∷ [])
    by true s h e = absurd (true≢false h)
    by false s h e = (ap (λ b. unless (not b) ACaseTwice) (sym s), e)

pub seen_value : (ws : List ℕ) (w : ℕ) (fresh : Bool) → fresh ≡ not (list_any (nat_eq w) ws) → fresh ≡ false → unless (not (has_value ws w)) ACaseTwice ≡ Some ACaseTwice
seen_value ws w fresh added old = by (list_any (nat_eq w) ws) (valued ws w) (sym old ∙ added)
  where
    by : (b : Bool) → b ≡ has_value ws w → false ≡ not b → unless (not (has_value ws w)) ACaseTwice ≡ Some ACaseTwice
    by true s h = ap (λ b. unless (not b) ACaseTwice) (sym s)
    by false s h = absurd (true≢false (sym h))
