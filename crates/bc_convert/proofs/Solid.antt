-- How far a token without blanks and quotes goes.
use Rattle.std.proofs.Common.{◌≡◌, refl, arith, inl, inr, ℕ, zero, suc, ◌+◌, ◌-◌, ◌≤◌, Bool, true, false, ◌||◌, ◌==◌, cond, List, [], ◌∷◌, length, drop, drop-drop, ap, ◌∙◌, sym, subst}
use Rattle.std.specs.Prelude.{nat_le}
use Rattle.std.proofs.lemmas.Bool.{and_parts, or_cases, eqb-true, leb-true, le-leb, ne_eqb, cases_lt}
use Rattle.std.specs.Int.{is_in_range}
use Rattle.std.specs.Char.{is_ascii_digit, is_ascii_hexdigit, is_ascii_alphanumeric}
use Rattle.std.specs.List.{prefix_len}
use Rattle.bc_convert.specs.Tokens.{is_solid, is_name, solid_of, names_of, IsSolid}

more_step : (c : Bool) (n a b : ℕ) → suc a ≤ cond c (1 + n) 0 → (a ≤ n → a + b ≤ n) → suc a + b ≤ cond c (1 + n) 0
more_step true n a b h ih = let k : a + b ≤ n = ih (omega arith) in omega arith
more_step false n a b h ih = absurd (omega arith)

-- a prefix that passes, and one more after it
pub prefix_more : (p : ℕ → Bool) (a b : ℕ) (bs : List ℕ) → a ≤ prefix_len p bs → b ≤ prefix_len p (drop a bs) → a + b ≤ prefix_len p bs
prefix_more p zero b bs h g = omega (arith, g)
prefix_more p (suc a) b [] h g = absurd (omega arith)
prefix_more p (suc a) b (x ∷ xs) h g = more_step (p x) (prefix_len p xs) a b h (λ k. prefix_more p a b xs k g)

cut_step : (c : Bool) (m n j k : ℕ) → m ≤ cond c (1 + n) 0 → ((i : ℕ) → i ≤ n → i ≤ j + k) → m ≤ suc j + k
cut_step true zero n j k h ih = omega arith
cut_step true (suc m) n j k h ih = let e : m ≤ j + k = ih m (omega arith) in omega arith
cut_step false m n j k h ih = omega arith

-- what is left of a prefix that passes
pub prefix_cut : (p : ℕ → Bool) (j m : ℕ) (bs : List ℕ) → m ≤ prefix_len p bs → m ≤ j + prefix_len p (drop j bs)
prefix_cut p zero m bs h = omega (arith, h)
prefix_cut p (suc j) m [] h = omega arith
prefix_cut p (suc j) m (x ∷ xs) h = cut_step (p x) m (prefix_len p xs) j (prefix_len p (drop j xs)) h (λ i e. prefix_cut p j i xs e)

wider_step : (c d : Bool) (m n : ℕ) → (c ≡ true → d ≡ true) → m ≤ n → cond c (1 + m) 0 ≤ cond d (1 + n) 0
wider_step true true m n h e = omega arith
wider_step true false m n h e = let no : false ≡ true = h refl in cc
wider_step false d m n h e = omega arith

-- a test that lets more pass
pub prefix_wider : (p q : ℕ → Bool) → ((x : ℕ) → p x ≡ true → q x ≡ true) → (bs : List ℕ) → prefix_len p bs ≤ prefix_len q bs
prefix_wider p q h [] = omega arith
prefix_wider p q h (x ∷ xs) = wider_step (p x) (q x) (prefix_len p xs) (prefix_len q xs) (h x) (prefix_wider p q h xs)

-- a byte that passes a test differs from one that doesn't
differs : (p : ℕ → Bool) (b c : ℕ) → p b ≡ true → p c ≡ false → (b == c) ≡ false
differs p b c h g = ne_eqb b c (λ (e : b ≡ c). let no : true ≡ false = sym h ∙ (ap p e ∙ g) in cc)

name_is_solid : (b : ℕ) → is_name b ≡ true → is_solid b ≡ true
name_is_solid b h =
    rw (differs is_name b 32 h refl, differs is_name b 9 h refl, differs is_name b 13 h refl, differs is_name b 12 h refl)
    (rw (differs is_name b 10 h refl, differs is_name b 34 h refl, differs is_name b 39 h refl) refl)

or_true : (x y : Bool) → y ≡ true → (x || y) ≡ true
or_true true y e = refl
or_true false y e = e

or_left : (x y : Bool) → x ≡ true → (x || y) ≡ true
or_left x y e = rw e refl

-- a range that goes further
further : (lo hi more b : ℕ) → hi ≤ more → is_in_range lo hi b ≡ true → is_in_range lo more b ≡ true
further lo hi more b le h =
    let p = and_parts (nat_le lo b) (nat_le b hi) h in
    let e : b ≤ more = omega (arith, leb-true b hi p.1) in
    rw (p.0, le-leb b more e) refl

underline_is_name : (b : ℕ) → (b == 95) ≡ true → is_name b ≡ true
underline_is_name b h = ap is_name (eqb-true b 95 h)

letter_is_name : (b : ℕ) → is_ascii_alphanumeric b ≡ true → is_name b ≡ true
letter_is_name b h = or_left _ (b == 95) (or_left (is_ascii_alphanumeric b) (b == 46) h)

digit_is_name : (b : ℕ) → (is_ascii_digit b || (b == 95)) ≡ true → is_name b ≡ true
digit_is_name b h = elim (or_cases (is_ascii_digit b) (b == 95) h) [
  | inl p ↦ letter_is_name b (or_left _ (is_in_range 97 122 b) (or_left (is_ascii_digit b) (is_in_range 65 90 b) p))
  | inr q ↦ underline_is_name b q
]

hexadecimal_is_letter : (b : ℕ) → is_ascii_hexdigit b ≡ true → is_ascii_alphanumeric b ≡ true
hexadecimal_is_letter b h = elim (or_cases (is_in_range 48 57 b || is_in_range 65 70 b) (is_in_range 97 102 b) h) [
  | inl p ↦ or_left (is_in_range 48 57 b || is_in_range 65 90 b) (is_in_range 97 122 b)
      (elim (or_cases (is_in_range 48 57 b) (is_in_range 65 70 b) p) [
        | inl q ↦ or_left (is_in_range 48 57 b) (is_in_range 65 90 b) q
        | inr q ↦ or_true (is_in_range 48 57 b) (is_in_range 65 90 b) (further 65 70 90 b (omega arith) q)
      ])
  | inr p ↦ or_true (is_in_range 48 57 b || is_in_range 65 90 b) (is_in_range 97 122 b) (further 97 102 122 b (omega arith) p)
]

hexadecimal_is_name : (b : ℕ) → (is_ascii_hexdigit b || (b == 95)) ≡ true → is_name b ≡ true
hexadecimal_is_name b h = elim (or_cases (is_ascii_hexdigit b) (b == 95) h) [
  | inl p ↦ letter_is_name b (hexadecimal_is_letter b p)
  | inr q ↦ underline_is_name b q
]

pub digits_are_names : (bs : List ℕ) → prefix_len (λ b. is_ascii_digit b || (b == 95)) bs ≤ names_of bs
digits_are_names bs = prefix_wider (λ b. is_ascii_digit b || (b == 95)) is_name digit_is_name bs

pub hexadecimals_are_names : (bs : List ℕ) → prefix_len (λ b. is_ascii_hexdigit b || (b == 95)) bs ≤ names_of bs
hexadecimals_are_names bs = prefix_wider (λ b. is_ascii_hexdigit b || (b == 95)) is_name hexadecimal_is_name bs

pub names_are_solid : (bs : List ℕ) → names_of bs ≤ solid_of bs
names_are_solid bs = prefix_wider is_name is_solid name_is_solid bs

-- up to four bytes, and bytes of a name after them
few_then : (k m : ℕ) (bs : List ℕ) → k ≤ 4 → m ≤ names_of (drop k bs) → k + m ≤ 4 + names_of (drop 4 bs)
few_then k m bs few names =
    let cut : m ≤ (4 - k) + names_of (drop (4 - k) (drop k bs)) = prefix_cut is_name (4 - k) m (drop k bs) names in
    let four : k + (4 - k) ≡ 4 = omega arith in
    let same : drop (4 - k) (drop k bs) ≡ drop 4 bs = drop-drop (4 - k) k bs ∙ ap (λ n. drop n bs) four in
    let e : m ≤ (4 - k) + names_of (drop 4 bs) = subst (λ (zs : List ℕ). m ≤ (4 - k) + names_of zs) same cut in
    omega arith

-- four bytes or more, and bytes of a name after them
many_then : (k m : ℕ) (bs : List ℕ) → 4 ≤ k → k ≤ 4 + names_of (drop 4 bs) → m ≤ names_of (drop k bs) → k + m ≤ 4 + names_of (drop 4 bs)
many_then k m bs many before names =
    let four : 4 + (k - 4) ≡ k = omega arith in
    let same : drop k bs ≡ drop (k - 4) (drop 4 bs) = ap (λ n. drop n bs) (sym four) ∙ sym (drop-drop (k - 4) 4 bs) in
    let e : m ≤ names_of (drop (k - 4) (drop 4 bs)) = subst (λ (zs : List ℕ). m ≤ names_of zs) same names in
    let whole : (k - 4) + m ≤ names_of (drop 4 bs) = prefix_more is_name (k - 4) m (drop 4 bs) (omega arith) e in
    omega arith

-- a token goes on with bytes of a name
pub solid_then : (k m : ℕ) (bs : List ℕ) → IsSolid bs k → m ≤ names_of (drop k bs) → IsSolid bs (k + m)
solid_then k m bs solid names =
    let whole : k + m ≤ solid_of bs = prefix_more is_solid k m bs solid.0 (omega (arith, names_are_solid (drop k bs))) in
    (whole, elim (cases_lt k 4) [ inl few ↦ few_then k m bs (omega arith) names | inr many ↦ many_then k m bs many solid.1 names ])
