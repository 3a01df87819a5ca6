-- The laws of quotient and remainder.
use Rattle.std.proofs.Common.{arith, ◌≡◌, ◌<◌, ℕ, ◌*◌, ◌%◌, ◌*ℤ◌, ap, sym, ◌∙◌, Some, refl, pos, negsuc, subst}
use Rattle.std.specs.Prelude.{ℤ, zero, suc, ◌+◌, ◌+ℤ◌, ◌≢◌, ◌≤◌, ◌==◌, ◌≤ℤ◌, FitsSigned, int_div, int_rem, unsigned_abs, cond, false, unwrap_or, Bool, None}
use Rattle.std.specs.Int.{cast_signed, cast_unsigned, w16, int_wrap}
use Rattle.std.proofs.lemmas.Int.{ints, wrapping_mul-bits, wrapping_add-bits, of_z-to_z, int_wrap-add_left, int_wrap-add_right, int_wrap-mul_left, int_wrap-add_same, int_wrap_fits, quot-rem, rem_below, fits_signed_from_abs}
use Rattle.std.proofs.Math.IntN.{neg_ℤ}
use Rattle.bc_word.specs.Words.{signed, wrapped}
use Rattle.bc_word.specs.Laws.{GivesBack, RemainderOf}
use Rattle.bc_word.proofs.Products.{wrapped_below}

nonzero : (a : ℕ) → a ≢ 0 → (a == 0) ≡ false
nonzero a h = grind (arith, h)

signed_fits : (w : ℕ) → w < 65536 → FitsSigned w16 (signed w)
signed_fits w p = search (arith, ints)

-- an integer as a word, and read again as a signed number, is the integer wrapped to the range of signed words
read_back : (z : ℤ) → signed (wrapped z) ≡ int_wrap w16 z
unfolding int_wrap
read_back z = refl

-- a signed word is at most 32,768 away from 0, and only 0 is 0 away
size_at_most : (a : ℕ) → a < 65536 → unsigned_abs (signed a) ≤ 32768
size_at_most a p = grind (arith, ints)

size_positive : (a : ℕ) → a < 65536 → a ≢ 0 → 0 < unsigned_abs (signed a)
size_positive a p h = grind (arith, ints, h)

remainder_fits : (b a : ℕ) → b < 65536 → a < 65536 → a ≢ 0 → FitsSigned w16 (int_rem (signed b) (signed a))
remainder_fits b a q p h =
    fits_signed_from_abs w16 _ (omega (arith, rem_below (signed b) (signed a) (size_positive a p h), size_at_most a p))

signed_remainder : (b a : ℕ) → b < 65536 → a < 65536 → a ≢ 0 → signed (wrapped (int_rem (signed b) (signed a))) ≡ int_rem (signed b) (signed a)
signed_remainder b a q p h = read_back _ ∙ int_wrap_fits w16 _ (remainder_fits b a q p h)

mod_first : (m n : ℕ) → (m + n) % 65536 ≡ (m % 65536 + n) % 65536
mod_first m n = omega arith

-- Q * A + R, computed on words, reads as B
recombined : (b a : ℕ) → b < 65536 → a < 65536 → (Q R : ℤ) → Q *ℤ signed a +ℤ R ≡ signed b → (wrapped Q * a + wrapped R) % 65536 ≡ b
recombined b a q p Q R e =
    sym (of_z-to_z w16 ((wrapped Q * a + wrapped R) % 65536) (omega arith))
    ∙ ap (cast_unsigned w16) (
    ap (cast_signed w16) (mod_first (wrapped Q * a) (wrapped R))
    ∙ wrapping_add-bits w16 ((wrapped Q * a) % 65536) (wrapped R) (omega arith) (wrapped_below R)
    ∙ ap (λ z. int_wrap w16 (z +ℤ signed (wrapped R))) (wrapping_mul-bits w16 (wrapped Q) a (wrapped_below Q) p)
    ∙ int_wrap-add_left w16 (signed (wrapped Q) *ℤ signed a) (signed (wrapped R))
    ∙ ap (λ z. int_wrap w16 (signed (wrapped Q) *ℤ signed a +ℤ z)) (read_back R)
    ∙ int_wrap-add_right w16 (signed (wrapped Q) *ℤ signed a) R
    ∙ ap (λ z. int_wrap w16 (z *ℤ signed a +ℤ R)) (read_back Q)
    ∙ int_wrap-add_same w16 (int_wrap w16 Q *ℤ signed a) (Q *ℤ signed a) R (int_wrap-mul_left w16 Q (signed a))
    ∙ ap (int_wrap w16) e
    ∙ int_wrap_fits w16 (signed b) (signed_fits b q))
    ∙ of_z-to_z w16 b q

-- the result of a division by a nonzero divisor
given : (t : Bool) (x y : ℕ) → t ≡ false → cond t None (Some x) ≡ Some y → x ≡ y
given t x y f e =
    let same : Some x ≡ Some y = sym (ap (λ v. cond v None (Some x)) f) ∙ e in ap (λ o. unwrap_or o 0) same

pub gives_back : (b a : ℕ) → b < 65536 → a < 65536 → a ≢ 0 → GivesBack b a
gives_back b a q p h x y ex ey =
    let quotient : wrapped (int_div (signed b) (signed a)) ≡ x = given _ _ x (nonzero a h) ex in
    let remainder : wrapped (int_rem (signed b) (signed a)) ≡ y = given _ _ y (nonzero a h) ey in
    ap (λ n. (n * a + y) % 65536) (sym quotient)
    ∙ ap (λ n. (wrapped (int_div (signed b) (signed a)) * a + n) % 65536) (sym remainder)
    ∙ recombined b a q p (int_div (signed b) (signed a)) (int_rem (signed b) (signed a)) (quot-rem (signed b) (signed a))

remainder_above : (x y : ℤ) → pos 0 ≤ℤ x → pos 0 ≤ℤ int_rem x y
remainder_above (pos n) y s = grind (arith, ints)
remainder_above (negsuc n) y s = omega (arith, ints)

opposite_below : (k : ℕ) → neg_ℤ (pos k) ≤ℤ pos 0
opposite_below zero = grind (arith, ints)
opposite_below (suc k) = omega (arith, ints)

remainder_below : (x y : ℤ) → x ≤ℤ pos 0 → int_rem x y ≤ℤ pos 0
remainder_below (pos zero) y s = grind (arith, ints)
remainder_below (pos (suc n)) y s = omega (arith, ints)
remainder_below (negsuc n) y s = opposite_below (suc n % unsigned_abs y)

pub remainder_lies : (b a : ℕ) → b < 65536 → a < 65536 → a ≢ 0 → RemainderOf b a
remainder_lies b a q p h r e =
    let reads : signed r ≡ int_rem (signed b) (signed a) =
    ap signed (sym (given _ _ r (nonzero a h) e)) ∙ signed_remainder b a q p h in
    record {
      nearer = subst (λ z. unsigned_abs z < unsigned_abs (signed a)) (sym reads) (rem_below (signed b) (signed a) (size_positive a p h));
      above = λ s. subst (λ z. pos 0 ≤ℤ z) (sym reads) (remainder_above (signed b) (signed a) s);
      below = λ s. subst (λ z. z ≤ℤ pos 0) (sym reads) (remainder_below (signed b) (signed a) s);
    }
