-- Comparisons of words that are not negative.
use Rattle.std.proofs.Common.{◌≡◌, ◌≢◌, ℕ, ◌<◌, ◌≤◌, ◌==◌, true, false, arith}
use Rattle.std.proofs.lemmas.Bool.Decides.{nat_tests}
use Rattle.std.specs.Prelude.{int_lt, int_le, leb, ltb}
use Rattle.bc_word.specs.Words.{signed}
use Rattle.bc_library_laws.proofs.Words.{is_positive}

pub yes_le : (a b : ℕ) → a < 32768 → b < 32768 → a ≤ b → int_le (signed a) (signed b) ≡ true
yes_le a b ha hb h = rw (is_positive a ha, is_positive b hb) (tests a b h) where
  tests : (a b : ℕ) → a ≤ b → leb a b ≡ true
  tests a b h = grind (arith, nat_tests)

pub no_le : (a b : ℕ) → a < 32768 → b < 32768 → b < a → int_le (signed a) (signed b) ≡ false
no_le a b ha hb h = rw (is_positive a ha, is_positive b hb) (tests a b h) where
  tests : (a b : ℕ) → b < a → leb a b ≡ false
  tests a b h = grind (arith, nat_tests)

pub yes_lt : (a b : ℕ) → a < 32768 → b < 32768 → a < b → int_lt (signed a) (signed b) ≡ true
yes_lt a b ha hb h = rw (is_positive a ha, is_positive b hb) (tests a b h) where
  tests : (a b : ℕ) → a < b → ltb a b ≡ true
  tests a b h = grind (arith, nat_tests)

pub no_lt : (a b : ℕ) → a < 32768 → b < 32768 → b ≤ a → int_lt (signed a) (signed b) ≡ false
no_lt a b ha hb h = rw (is_positive a ha, is_positive b hb) (tests a b h) where
  tests : (a b : ℕ) → b ≤ a → ltb a b ≡ false
  tests a b h = grind (arith, nat_tests)

pub same_test : (a b : ℕ) → a ≡ b → (a == b) ≡ true
same_test a b h = grind (arith, nat_tests, h)

pub unlike_test : (a b : ℕ) → a ≢ b → (a == b) ≡ false
unlike_test a b h = grind (arith, nat_tests, h)
