-- Shifts, negation and complement.
use Rattle.std.proofs.Common.{arith, ◌≡◌, ◌<◌, ℕ, ap, Some}
use Rattle.std.specs.Prelude.{◌^◌, ◌*◌, ◌/◌, ◌%◌, ◌≤◌, nat_le, cond, true, false}
use Rattle.bc_word.specs.Laws.{ShiftsAre, NegationIs}

short : (n : ℕ) → n < 16 → nat_le 16 n ≡ false
short n p = grind arith

long : (n : ℕ) → 16 ≤ n → nat_le 16 n ≡ true
long n p = grind arith

pub shifts : (b n : ℕ) → ShiftsAre b n
shifts b n =
    record {
      left = λ p. ap (λ t. Some (cond t 0 ((b * 2 ^ n) % 65536))) (short n p);
      right = λ p. ap (λ t. Some (cond t 0 (b / 2 ^ n))) (short n p);
      left_past = λ p. ap (λ t. Some (cond t 0 ((b * 2 ^ n) % 65536))) (long n p);
      right_past = λ p. ap (λ t. Some (cond t 0 (b / 2 ^ n))) (long n p);
    }

pub negation : (w : ℕ) → w < 65536 → NegationIs w
negation w p = record { sum = omega arith; ones = omega arith; next = omega arith }
