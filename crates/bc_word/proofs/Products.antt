-- The product, quotient and remainder of words.
use Rattle.std.proofs.Common.{arith, ◌≡◌, ◌<◌, ℕ, ◌*◌, ◌%◌, ◌*ℤ◌, ap, sym, ◌∙◌, Some, pos, negsuc}
use Rattle.std.specs.Prelude.{ℤ}
use Rattle.std.specs.Int.{cast_unsigned, w16, int_wrap}
use Rattle.std.proofs.lemmas.Int.{wrapping_mul-bits, of_z-to_z}
use Rattle.bc_word.specs.Words.{value_of, signed, wrapped}
use Rattle.bc_word.specs.declared.operator.Op.TheVariants.{Multiply}

pub wrapped_below : (z : ℤ) → wrapped z < 65536
wrapped_below (pos a) = omega arith
wrapped_below (negsuc a) = omega arith

-- the unsigned product and the signed product are the same word
pub product_is : (b a : ℕ) → b < 65536 → a < 65536 → (b * a) % 65536 ≡ wrapped (signed b *ℤ signed a)
unfolding int_wrap
product_is b a p q =
    sym (of_z-to_z w16 ((b * a) % 65536) (omega arith))
    ∙ ap (cast_unsigned w16) (wrapping_mul-bits w16 b a p q)
    ∙ of_z-to_z w16 (wrapped (signed b *ℤ signed a)) (wrapped_below _)

pub multiplied : (b a : ℕ) → b < 65536 → a < 65536 → Some ((b * a) % 65536) ≡ value_of Multiply b a
multiplied b a p q = ap Some (product_is b a p q)
