-- Worked examples of texts with replaced spans.
use Rattle.std.specs.Prelude.{◌≡◌, true, false, List, [], ◌∷◌, codes, ℕ}
use Rattle.std.proofs.Common.{refl, arith}
use Rattle.bc_convert.specs.declared.replacement.Replacement.{Replacement}
use Rattle.bc_convert.specs.Converted.{converted, RiseWithin, Changes}
use Rattle.bc_convert.specs.Settled.{fits}

-- without replacements the text is unchanged
unchanged : (text : List ℕ) → converted text [] ≡ text
unchanged text = refl

-- the second byte becomes two
replaced : (r : Replacement) → r.start ≡ 1 → r.end ≡ 2 → r.text.items ≡ codes "XY" → converted (codes "abc") (r ∷ []) ≡ codes "aXYc"
replaced r start end text = rw (start, end, text) refl

-- bytes are inserted between two others
put_in : (r : Replacement) → r.start ≡ 1 → r.end ≡ 1 → r.text.items ≡ codes "X" → converted (codes "abc") (r ∷ []) ≡ codes "aXbc"
put_in r start end text = rw (start, end, text) refl

-- two adjacent spans rise
side_by_side : (r s : Replacement) → r.start ≡ 0 → r.end ≡ 2 → s.start ≡ 2 → s.end ≡ 3 → RiseWithin 0 3 (r ∷ s ∷ [])
side_by_side r s a b c d = (omega arith, omega arith, omega arith, (omega arith, omega arith, omega arith, omega arith))

-- two that overlap don't rise
overlap : (r s : Replacement) → r.end ≡ 2 → s.start ≡ 1 → RiseWithin 0 3 (r ∷ s ∷ []) → ⊥
overlap r s b c rise = omega (arith, rise.3.0)

-- nor does one that goes past the end of the text
past_the_end : (r : Replacement) → r.end ≡ 4 → RiseWithin 0 3 (r ∷ []) → ⊥
past_the_end r b rise = omega (arith, rise.2)

-- a replacement with the bytes of its span changes nothing
no_change : (r : Replacement) → r.start ≡ 0 → r.end ≡ 1 → r.text.items ≡ codes "a" → Changes (codes "abc") r → ⊥
no_change r start end text changes = changes (rw (start, end, text) refl)

-- a replacement fits after one that ends where it begins
fits_after : (r : Replacement) → r.start ≡ 1 → r.end ≡ 3 → r.text.items ≡ codes "X" → fits 1 (codes "abc") r ≡ true
fits_after r start end text = rw (start, end, text) refl

-- but not after one that ends within it
overlaps_before : (r : Replacement) → r.start ≡ 1 → fits 2 (codes "abc") r ≡ false
overlaps_before r start = rw start refl

-- one that changes nothing doesn't fit
no_change_fits : (r : Replacement) → r.start ≡ 0 → r.end ≡ 2 → r.text.items ≡ codes "ab" → fits 0 (codes "abc") r ≡ false
no_change_fits r start end text = rw (start, end, text) refl
