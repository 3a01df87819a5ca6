-- The fast path, which recurs on the tree.
use Rattle.std.proofs.Common.{◌≡◌, ◌||◌, ℕ, Bool, true, false, Some, refl, ap, ◌∙◌}
use Rattle.bc_word.specs.declared.operator.Op.{Op}
use Rattle.bc_word.specs.Words.{value_of}
use Rattle.bc_interpret_defs.specs.Quiet.{Worth, Is, chained, paired, combined, quotient}

pub neither : (a b : Bool) → a ≡ false → b ≡ false → (a || b) ≡ false
neither true b e f = e
neither false b e f = f

pub first : (a b : Bool) → a ≡ true → (a || b) ≡ true
first true b e = refl
first false b e = cc

pub second : (a b : Bool) → b ≡ true → (a || b) ≡ true
second true b e = refl
second false b e = e

pub worked_out : {A B : Type 0} (w : Worth A) (x : A) (f : A → Worth B) (y : B) → w ≡ Is x → f x ≡ Is y → chained w f ≡ Is y
worked_out w x f y e h = ap (λ z. chained z f) e ∙ h

pub both_worked_out : (op : Op) (a b : Worth ℕ) (x y w : ℕ) → a ≡ Is x → b ≡ Is y → value_of op x y ≡ Some w → paired a b (combined op) ≡ Is w
both_worked_out op a b x y w e h v = ap (λ z. paired z b (combined op)) e ∙ (ap (λ z. chained z (combined op x)) h ∙ ap quotient v)

pub following : (op : Op) (a b : Worth ℕ) (x w : ℕ) → a ≡ Is x → chained b (combined op x) ≡ Is w → paired a b (combined op) ≡ Is w
following op a b x w e h = ap (λ z. paired z b (combined op)) e ∙ h
