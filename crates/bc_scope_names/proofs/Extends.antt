-- Scopes that extend others: composition, and the return to the state at a mark.
use Rattle.std.proofs.Common.{◌≡◌, ℕ, refl, ap, ◌∙◌, List, [], ◌∷◌, length, take, arith}
use Rattle.std.proofs.Math.Seq.{take-length}
use Rattle.bc_scope_names.specs.declared.scope.Entry.{Entry}
use Rattle.bc_scope_names.specs.View.{Extends}

fronts : (a b c : List Entry) → take (length a) b ≡ a → take (length b) c ≡ b → take (length a) c ≡ a
fronts [] b c p q = refl
fronts (x ∷ a) [] c p q = absurd (omega (arith, ap length p))
fronts (x ∷ a) (y ∷ b) [] p q = absurd (omega (arith, ap length q))
fronts (x ∷ a) (y ∷ b) (z ∷ c) p q = grind (arith, fronts a b c)

pub extends_self : (a : List Entry) → Extends a a
unfolding Extends
extends_self a = take-length a

pub extends_on : (a b c : List Entry) → Extends a b → Extends b c → Extends a c
unfolding Extends
extends_on a b c p q = fronts a b c p q

-- after `leave`, a scope is as it was at the mark
pub left : (a b : List Entry) (n : ℕ) → Extends a b → n ≡ length a → take n b ≡ a
unfolding Extends
left a b n p e = ap (λ k. take k b) e ∙ p
