-- Operators with their operands exchanged, by cases over the operator.
use Rattle.std.proofs.Common.{rules, arith, ◌≡◌, ℕ, ap, Some, None, refl, subst}
use Rattle.std.specs.Prelude.{◌%◌, ◌-◌, ◌==◌, unwrap_or, not}
use Rattle.std.proofs.Math.IntN.{*ℤ_comm}
use Rattle.std.proofs.Math.Nat.{add_comm}
use Rattle.std.proofs.lemmas.Nat.{and_comm, or_comm, xor_comm}
use Rattle.bc_word.specs.Words.{signed, wrapped, truth}
use Rattle.bc_word.specs.Mirror.{mirror_of, IsMirror}
use Rattle.bc_word.specs.declared.operator.Op.{Op}
use Rattle.bc_word.specs.declared.operator.Op.TheVariants.{Multiply, Divide, Remainder, Add, Subtract, Equal, NotEqual, Less, GreaterEqual, Greater, LessEqual, ShiftLeft, ShiftRight, And, Or, NotEquivalent, Equivalent}

along : (op p q : Op) → Some p ≡ Some q → IsMirror op p → IsMirror op q
along op p q e m = subst (IsMirror op) (ap (λ o. unwrap_or o p) e) m

none_is_not_some : {q : Op} → None ≡ Some q → ⊥
none_is_not_some e = search rules

pub multiply_exchanged : IsMirror Multiply Multiply
multiply_exchanged b a p q = ap (λ z. Some (wrapped z)) (*ℤ_comm (signed b) (signed a))

pub add_exchanged : IsMirror Add Add
add_exchanged b a p q = ap (λ n. Some (n % 65536)) (add_comm b a)

eqb_exchanged : (b a : ℕ) → (b == a) ≡ (a == b)
eqb_exchanged b a = grind arith

pub exchanged : (op q : Op) → mirror_of op ≡ Some q → IsMirror op q
exchanged Multiply q e = along Multiply Multiply q e multiply_exchanged
exchanged Add q e = along Add Add q e add_exchanged
exchanged Equal q e = along Equal Equal q e (λ b a _ _. ap (λ t. Some (truth t)) (eqb_exchanged b a))
exchanged NotEqual q e = along NotEqual NotEqual q e (λ b a _ _. ap (λ t. Some (truth (not t))) (eqb_exchanged b a))
exchanged And q e = along And And q e (λ b a _ _. ap Some (and_comm b a))
exchanged Or q e = along Or Or q e (λ b a _ _. ap Some (or_comm b a))
exchanged NotEquivalent q e = along NotEquivalent NotEquivalent q e (λ b a _ _. ap Some (xor_comm b a))
exchanged Equivalent q e = along Equivalent Equivalent q e (λ b a _ _. ap (λ n. Some (65535 - n)) (xor_comm b a))
exchanged Less q e = along Less Greater q e (λ b a _ _. refl)
exchanged Greater q e = along Greater Less q e (λ b a _ _. refl)
exchanged GreaterEqual q e = along GreaterEqual LessEqual q e (λ b a _ _. refl)
exchanged LessEqual q e = along LessEqual GreaterEqual q e (λ b a _ _. refl)
exchanged Divide q e = absurd (none_is_not_some e)
exchanged Remainder q e = absurd (none_is_not_some e)
exchanged Subtract q e = absurd (none_is_not_some e)
exchanged ShiftLeft q e = absurd (none_is_not_some e)
exchanged ShiftRight q e = absurd (none_is_not_some e)
