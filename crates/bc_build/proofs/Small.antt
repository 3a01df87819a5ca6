-- A fact about each element of a list holds of the element at any index.
use Rattle.std.proofs.Common.{ℕ, zero, suc, ◌<◌, List, [], ◌∷◌, length, get_or, arith}

pub small_words : (xs : List ℕ) → ((k d : ℕ) → k < length xs → get_or xs k d < 65536) → (i : ℕ) → get_or xs i 0 < 65536
small_words [] h i = omega arith
small_words (x ∷ xs) h zero = h 0 0 (omega arith)
small_words (x ∷ xs) h (suc i) = small_words xs (λ k d l. h (suc k) d (omega (arith, l))) i
