-- When the operands of an operator, or the sides of an assignment, may be evaluated in the other order.
use Rattle.std.specs.Prelude.{ℕ, ◌≡◌, ◌⊎◌, Bool, true, false, not, ◌||◌, Option, Some, None}
use Rattle.bc_word.specs.declared.operator.Op.{Op}
use Rattle.bc_word.specs.Words.{value_of}
use Rattle.bc_core.specs.declared.operands.Operand.{Operand}
use Rattle.bc_core.specs.Tree.{Exp, Bin}
use Rattle.bc_core.specs.Operand.{operand_of}
use Rattle.bc_core.specs.Level.{operand_level}
use Rattle.bc_core.specs.Outcome.{State, Outcome, Wild, Run, then_do, both, write}
use Rattle.bc_core.specs.Value.{Context, has_call, given, value}

abbrev pub is_direct : Option Operand → Bool
is_direct None = false
is_direct (Some o) = o.direct

-- Neither contains a call or a VALOF, or one of them is a number or an address.
abbrev pub are_free : Exp → Exp → Bool
are_free a b = not (has_call a || has_call b) || is_direct (operand_of a) || is_direct (operand_of b)

-- an operator that evaluates its right operand first
abbrev pub exchanged : Op → Run ℕ → Run ℕ → Run ℕ
exchanged op left right = then_do right (λ y. then_do left (λ x. given (value_of op x y)))

abbrev pub SameUnlessWild : {A : Type 0} → Outcome A → Outcome A → Type 0
SameUnlessWild source other = (source ≡ other) ⊎ (source ≡ Wild)

-- If the operands are free, the other order gives the same, or the source is wild.
abbrev pub FreeOperandsExchange : Type 0
FreeOperandsExchange =
    (C : Context) (op : Op) (l r : Exp) → are_free l r ≡ true → (p s : ℕ) (st : State)
    → SameUnlessWild (value C (Bin op l r) p s st) (exchanged op (value C l p (operand_level s)) (value C r p (operand_level s)) st)

-- The same for the two sides of an assignment.
abbrev pub FreeSidesExchange : Type 0
FreeSidesExchange =
    (C : Context) (v a : Exp) → are_free v a ≡ true → (p s : ℕ) (st : State)
    → SameUnlessWild (both (has_call v || has_call a) (value C v p s) (value C a p s) (λ w address. write address w) st)
    (then_do (value C a p s) (λ address. then_do (value C v p s) (λ w. write address w)) st)
