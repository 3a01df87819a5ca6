-- Classes of bytes that exclude each other.
use Rattle.std.proofs.Common.{◌≡◌, ◌∙◌, refl, sym, ap, arith, ℕ, ◌+◌, ◌-◌, ◌≤◌, inl, inr, Bool, true, false, ◌||◌, Some, None, cond, nat_eq, nat_lt, nat_le, is_some}
use Rattle.std.proofs.lemmas.Bool.{eqb-true, and_parts, or_parts, or_cases, both_ways, false_from_ne_true, le-ltb, lt-ltb, leb-true, not-true}
use Rattle.bc_lex.specs.Bytes.{is_between, is_letter, is_digit, is_name_byte, is_space, below}
use Rattle.bc_lex.specs.Lexemes.{is_digit_of}
use Rattle.bc_lex.specs.Faults.{is_sign_byte}

between : (low high b : ℕ) → is_between low high b ≡ true → (low ≤ b) × (b ≤ high)
between low high b h = let p = and_parts (nat_le low b) (nat_le b high) h in (leb-true low b p.0, leb-true b high p.1)

pub letter_bound : (b : ℕ) → is_letter b ≡ true → 65 ≤ b
letter_bound b h = elim (or_cases (is_between 65 90 b) (is_between 97 122 b) h) [
  | inl p ↦ (between 65 90 b p).0
  | inr p ↦ (let q = between 97 122 b p in omega arith)
]

pub digit_bound : (b : ℕ) → is_digit b ≡ true → 48 ≤ b
digit_bound b h = (between 48 57 b h).0

pub digit_no_letter : (b : ℕ) → is_digit b ≡ true → is_letter b ≡ false
digit_no_letter b h =
    let p = between 48 57 b h in
    false_from_ne_true (is_letter b) (λ t. let q : 65 ≤ b = letter_bound b t in omega arith)

-- a digit is a digit of base 10
pub digit_ten : (b : ℕ) → is_digit b ≡ true → is_digit_of 10 b ≡ true
digit_ten b h =
    let p = between 48 57 b h in
    let s : nat_lt (b - 48) 10 ≡ true = lt-ltb (b - 48) 10 (omega arith) in
    rw (h, s) refl

no_ten : (b : ℕ) (t u : Bool) → is_some (below 10 (cond t (Some (b - 65 + 10)) (cond u (Some (b - 97 + 10)) None))) ≡ false
no_ten b true u = let s : nat_lt (b - 65 + 10) 10 ≡ false = le-ltb (b - 65 + 10) 10 (omega arith) in rw s refl
no_ten b false true = let s : nat_lt (b - 97 + 10) 10 ≡ false = le-ltb (b - 97 + 10) 10 (omega arith) in rw s refl
no_ten b false false = refl

ten_other : (b : ℕ) (t : Bool) → is_some (below 10 (cond t (Some (b - 48)) (cond (is_between 65 70 b) (Some (b - 65 + 10)) (cond (is_between 97 102 b) (Some (b - 97 + 10)) None)))) ≡ true → t ≡ true
ten_other b true h = refl
ten_other b false h = absurd (both_ways (is_some (below 10 (cond (is_between 65 70 b) (Some (b - 65 + 10)) (cond (is_between 97 102 b) (Some (b - 97 + 10)) None)))) (no_ten b (is_between 65 70 b) (is_between 97 102 b)) h)

pub ten_digit : (b : ℕ) → is_digit_of 10 b ≡ true → is_digit b ≡ true
ten_digit b h = ten_other b (is_digit b) h

-- two bytes are different if only one of them passes a test
pub test_apart : (p : ℕ → Bool) (b c : ℕ) → p b ≡ true → p c ≡ false → nat_eq b c ≡ false
test_apart p b c h n = false_from_ne_true (nat_eq b c) (λ t. both_ways (p c) n (ap p (sym (eqb-true b c t)) ∙ h))

pub letter_name : (b : ℕ) → is_letter b ≡ true → is_name_byte b ≡ true
letter_name b h = rw h refl

-- what a byte that can only begin a sign is not
pub record IsOther (b : ℕ) : Type 0 where
  pub letter : is_letter b ≡ false
  pub digit : is_digit b ≡ false
  pub hash : nat_eq b 35 ≡ false
  pub double : nat_eq b 34 ≡ false
  pub single : nat_eq b 39 ≡ false
  pub space : is_space b ≡ false

pub other_parts : (b : ℕ) → is_sign_byte b ≡ true → IsOther b
other_parts b h =
    let all = not-true (is_letter b || is_digit b || nat_eq b 35 || nat_eq b 34 || nat_eq b 39 || is_space b) h in
    let p = or_parts (is_letter b || is_digit b || nat_eq b 35 || nat_eq b 34 || nat_eq b 39) (is_space b) all in
    let q = or_parts (is_letter b || is_digit b || nat_eq b 35 || nat_eq b 34) (nat_eq b 39) p.0 in
    let r = or_parts (is_letter b || is_digit b || nat_eq b 35) (nat_eq b 34) q.0 in
    let s = or_parts (is_letter b || is_digit b) (nat_eq b 35) r.0 in
    let t = or_parts (is_letter b) (is_digit b) s.0 in
    record { letter = t.0; digit = t.1; hash = s.1; double = r.1; single = q.1; space = p.1 }

pub sign_byte : (b : ℕ) → is_letter b ≡ false → is_digit b ≡ false → nat_eq b 35 ≡ false → nat_eq b 34 ≡ false → nat_eq b 39 ≡ false → is_space b ≡ false → is_sign_byte b ≡ true
sign_byte b l d h q c s = rw (l, d, h, q, c, s) refl
