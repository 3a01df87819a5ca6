-- Laws of the arithmetic, which follow from the definition of the operators.
use Rattle.std.specs.Prelude.{ℕ, ◌≡◌, ◌<◌, ◌≤◌, ◌+◌, ◌*◌, ◌/◌, ◌%◌, ◌^◌, pos, ◌≤ℤ◌, unsigned_abs, Some}
use Rattle.bc_word.specs.declared.operator.Op.TheVariants.{Divide, Remainder, ShiftLeft, ShiftRight}
use Rattle.bc_word.specs.Words.{signed, value_of, negated, complemented}

-- from the quotient q and the remainder r of b by a, b is computed again
abbrev pub GivesBack : ℕ → ℕ → Type 0
GivesBack b a =
    (q r : ℕ) → value_of Divide b a ≡ Some q → value_of Remainder b a ≡ Some r → (q * a + r) % 65536 ≡ b

-- the remainder r is nearer to 0 than a, and on b's side of 0
pub record RemainderLies (b a r : ℕ) : Type 0 where
  pub nearer : unsigned_abs (signed r) < unsigned_abs (signed a)
  pub above : pos 0 ≤ℤ signed b → pos 0 ≤ℤ signed r
  pub below : signed b ≤ℤ pos 0 → signed r ≤ℤ pos 0

-- this holds for the remainder of b by a
abbrev pub RemainderOf : ℕ → ℕ → Type 0
RemainderOf b a = (r : ℕ) → value_of Remainder b a ≡ Some r → RemainderLies b a r

-- a shift of b by n multiplies or divides by 2 to the n; a shift by 16 or more results in 0
pub record ShiftsAre (b n : ℕ) : Type 0 where
  pub left : n < 16 → value_of ShiftLeft b n ≡ Some ((b * 2 ^ n) % 65536)
  pub right : n < 16 → value_of ShiftRight b n ≡ Some (b / 2 ^ n)
  pub left_past : 16 ≤ n → value_of ShiftLeft b n ≡ Some 0
  pub right_past : 16 ≤ n → value_of ShiftRight b n ≡ Some 0

-- a word and its negation add up to 0; a word and its complement add up to 65,535, all ones
pub record NegationIs (w : ℕ) : Type 0 where
  pub sum : (w + negated w) % 65536 ≡ 0
  pub ones : w + complemented w ≡ 65535
  pub next : negated w ≡ (complemented w + 1) % 65536
