-- Decimal numbers in a text.
use Rattle.std.specs.Prelude.{ℕ, ◌+◌, ◌-◌, ◌*◌, ◌%◌, ◌≡◌, ◌≤◌, ◌⊎◌, List, [], ◌∷◌, true}
use Rattle.std.specs.Str.{all_ascii_digits}

-- the value of digits, most significant first, that follow digits with the value `n`
abbrev pub value_from : ℕ → List ℕ → ℕ
value_from n [] = n
value_from n (digit ∷ digits) = value_from (n * 10 + (digit - 48)) digits

abbrev pub value_of_digits : List ℕ → ℕ
value_of_digits digits = value_from 0 digits

-- The text is at least one decimal digit with the value n, which is at most `limit`. There may be any number of leading zeros.
abbrev pub IsNumber : ℕ → List ℕ → ℕ → Type 0
IsNumber limit [] n = ⊥
IsNumber limit (digit ∷ digits) n =
    (all_ascii_digits (digit ∷ digits) ≡ true) × (value_of_digits (digit ∷ digits) ≡ n) × (n ≤ limit)

-- The text is a number with or without a sign: from 0 to 65,535, or a `-` and a number up to 32,768, which means its negative modulo
-- 65,536.
abbrev pub IsSignedNumber : List ℕ → ℕ → Type 0
IsSignedNumber text n =
    IsNumber 65535 text n
    ⊎ ((digits : List ℕ) × (m : ℕ) × (text ≡ 45 ∷ digits) × IsNumber 32768 digits m × (n ≡ (65536 - m) % 65536))
