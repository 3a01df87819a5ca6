-- Tests of numbers and bytes that hold.
use Rattle.std.proofs.Common.{◌≡◌, ℕ, ◌+◌, ◌<◌, ◌≤◌, Bool, true, false, List, ◌∷◌, Some, None, length, sym, ap, ◌∙◌, subst, arith}
use Rattle.std.specs.Prelude.{nat_lt, nat_le, ◌==◌, ◌&&◌, ◌||◌, not}
use Rattle.std.proofs.lemmas.Bool.Decides.{nat_tests}
use Rattle.std.proofs.lemmas.Bool.{eq-eqb}
use Rattle.bc_tame.specs.Tame.{fits_call}
use Rattle.bc_tame.specs.Programs.{known, are_bytes, are_words, library_fixed, Setter, is_known, own_callable, fixed_with}

pub and_true : (a b : Bool) → a ≡ true → b ≡ true → (a && b) ≡ true
and_true a b e f = subst (λ t. (t && b) ≡ true) (sym e) f

pub less_true : (a b : ℕ) → a < b → nat_lt a b ≡ true
less_true a b h = grind (arith, nat_tests)

pub most_true : (a b : ℕ) → a ≤ b → nat_le a b ≡ true
most_true a b h = grind (arith, nat_tests)

pub fits_true : (n a s r size : ℕ) → n ≡ a → s + r ≤ size → fits_call (Some (known a r)) n s size ≡ true
fits_true n a s r size e h = and_true (n == a) (nat_le (s + r) size) (eq-eqb n a e) (most_true (s + r) size h)

pub byte_more : (b : ℕ) (bs : List ℕ) → b < 256 → are_bytes bs ≡ true → are_bytes (b ∷ bs) ≡ true
byte_more b bs h e = and_true (nat_lt b 256) (are_bytes bs) (less_true b 256 h) e

pub byte_first : (bs : List ℕ) → length bs < 256 → are_bytes bs ≡ true → are_bytes (length bs ∷ bs) ≡ true
byte_first bs h e = byte_more (length bs) bs h e

pub word_more : (w : ℕ) (ws : List ℕ) → nat_lt w 65536 ≡ true → are_words ws ≡ true → are_words (w ∷ ws) ≡ true
word_more w ws h e = and_true (nat_lt w 65536) (are_words ws) h e

-- a global that holds no routine can be written
pub global_written : (ss : List Setter) (n : ℕ) (b : Bool) → n < 512 → b ≡ library_fixed n → b ≡ false → own_callable ss n ≡ None → (nat_lt n 512 && not (fixed_with ss n)) ≡ true
global_written ss n b h is isnt none =
    let free : fixed_with ss n ≡ false = ap (λ t. t || is_known (own_callable ss n)) (sym is ∙ isnt) ∙ ap is_known none in
    and_true (nat_lt n 512) (not (fixed_with ss n)) (less_true n 512 h) (ap not free)
