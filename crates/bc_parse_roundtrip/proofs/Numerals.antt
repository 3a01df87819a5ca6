-- Decimal digits are read back as their number, by the digits from the left.
use Rattle.std.proofs.Common.{◌≡◌, ◌≢◌, ◌∙◌, ℕ, zero, suc, ◌+◌, ◌*◌, ◌<◌, ◌≤◌, ◌/◌, ◌%◌, Bool, true, ◌&&◌, inl, inr, List, [], ◌∷◌, ◌++◌, length, eqb, refl, ap, subst, arith, length-append}
use Rattle.std.specs.Prelude.{unwrap_or}
use Rattle.std.specs.List.{list_all}
use Rattle.std.specs.Fmt.{decimal}
use Rattle.std.proofs.lemmas.Bool.{and_parts, eqb-true}
use Rattle.std.proofs.lemmas.Bool.Decides.{eqb_tells}
use Rattle.std.proofs.lemmas.Fmt.{decimal_by_steps}
use Rattle.bc_lex.specs.Bytes.{digit_of}
use Rattle.bc_lex.specs.Lexemes.{IsNumber, Decimal, Ends, is_digit_of, value_after}

-- a test holds of all numbers below a bound
abbrev pub below : ℕ → (ℕ → Bool) → Bool
below zero test = true
below (suc n) test = test n && below n test

below_step : (n : ℕ) (test : ℕ → Bool) → test n ≡ true → ((c : ℕ) → c < n → test c ≡ true) → (c : ℕ) → c < suc n → test c ≡ true
below_step n test here less c lt = elim (eqb_tells c n) [
  | inl p ↦ ap test p.1 ∙ here
  | inr p ↦ (let ne : c ≢ n = p.1 in less c (omega arith))
]

pub below_holds : (n : ℕ) (test : ℕ → Bool) → below n test ≡ true → (c : ℕ) → c < n → test c ≡ true
below_holds zero test h c lt = absurd (omega arith)
below_holds (suc n) test h c lt =
    let p = and_parts (test n) (below n test) h in
    below_step n test p.0 (below_holds n test p.1) c lt

abbrev digit_test : ℕ → Bool
digit_test d = is_digit_of 10 (48 + d) && eqb (unwrap_or (digit_of 10 (48 + d)) 0) d

digit_read : (d : ℕ) → d < 10 → (is_digit_of 10 (48 + d) ≡ true) × (unwrap_or (digit_of 10 (48 + d)) 0 ≡ d)
digit_read d lt =
    let p = and_parts (is_digit_of 10 (48 + d)) (eqb (unwrap_or (digit_of 10 (48 + d)) 0) d) (below_holds 10 digit_test refl d lt) in
    (p.0, eqb-true (unwrap_or (digit_of 10 (48 + d)) 0) d p.1)

-- digits up to here, and their value
pub record AreDigits (n : ℕ) (ds : List ℕ) : Type 0 where
  pub digits : list_all (is_digit_of 10) ds ≡ true
  pub value : value_after 10 0 ds ≡ n
  pub some : 0 < length ds

all_after : (ds : List ℕ) (d : ℕ) → list_all (is_digit_of 10) ds ≡ true → is_digit_of 10 d ≡ true → list_all (is_digit_of 10) (ds ++ d ∷ []) ≡ true
all_after [] d h e = rw e refl
all_after (b ∷ ds) d h e =
    let p = and_parts (is_digit_of 10 b) (list_all (is_digit_of 10) ds) h in
    rw (p.0) (all_after ds d p.1 e)

value_more : (n : ℕ) (ds : List ℕ) (d : ℕ) → value_after 10 n (ds ++ d ∷ []) ≡ value_after 10 n ds * 10 + unwrap_or (digit_of 10 d) 0
value_more n [] d = refl
value_more n (b ∷ ds) d = value_more (n * 10 + unwrap_or (digit_of 10 b) 0) ds d

one_digit : (n : ℕ) → n < 10 → AreDigits n ((48 + n) ∷ [])
one_digit n lt =
    let p = digit_read n lt in
    record { digits = rw (p.0) refl; value = omega (arith, p.1); some = omega arith }

more_digits : (n : ℕ) (ds : List ℕ) → 10 ≤ n → AreDigits (n / 10) ds → AreDigits n (ds ++ (48 + n % 10) ∷ [])
more_digits n ds h a =
    let lt : n % 10 < 10 = omega arith in
    let p = digit_read (n % 10) lt in
    let v = value_more 0 ds (48 + n % 10) in
    record {
      digits = all_after ds (48 + n % 10) a.digits p.0;
      value = v ∙ (let e : value_after 10 0 ds * 10 + unwrap_or (digit_of 10 (48 + n % 10)) 0 ≡ n = rw (a.value, p.1) (omega arith) in e);
      some = omega (arith, length-append ds ((48 + n % 10) ∷ []));
    }

digits_number : (ds : List ℕ) (n : ℕ) (after : List ℕ) → AreDigits n ds → Ends (is_digit_of 10) after → IsNumber ds after n
digits_number [] n after a e = let h = a.some in absurd (omega arith)
digits_number (b ∷ bs) n after a e = subst (λ v. IsNumber (b ∷ bs) after v) a.value (Decimal b bs after a.digits e)

pub decimal_number : (n : ℕ) (after : List ℕ) → n ≤ 65535 → Ends (is_digit_of 10) after → IsNumber (decimal n) after n
decimal_number n after h e = digits_number (decimal n) n after (decimal_by_steps AreDigits one_digit more_digits n (omega arith)) e
