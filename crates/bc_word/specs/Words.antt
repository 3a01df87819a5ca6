-- The arithmetic of words, over natural numbers and integers.
use Rattle.std.specs.Prelude.{ℕ, ◌≡◌, ◌≢◌, ◌+◌, ◌-◌, ◌*◌, ◌/◌, ◌%◌, ◌^◌, ◌==◌, ℤ, pos, ◌*ℤ◌, int_lt, int_le, int_div, int_rem, bit_and, bit_or, bit_xor, unsigned_abs, Bool, true, false, not, cond, Option, Some, None, Result, Ok, Err, nat_le}
use Rattle.std.specs.Int.{int_rem_euclid, cast_signed, w16}
use Rattle.bc_word.specs.declared.operator.Op.{Op}
use Rattle.bc_word.specs.declared.operator.Op.TheVariants as operators
use Rattle.bc_word.specs.declared.operator.Rel.{Rel}
use Rattle.bc_word.specs.declared.operator.Rel.TheVariants as relations
use Rattle.bc_word.specs.declared.operator.NotAnOperator.{NotAnOperator}

-- a word as a signed number in two's complement
abbrev pub signed : ℕ → ℤ
signed w = cast_signed w16 w

-- an integer as a word: its remainder by 65,536
abbrev pub wrapped : ℤ → ℕ
wrapped z = unsigned_abs (int_rem_euclid z (pos 65536))

-- the word for TRUE or FALSE
abbrev pub truth : Bool → ℕ
truth true = 65535
truth false = 0

-- the negation: the machine's operation X2
abbrev pub negated : ℕ → ℕ
negated w = (65536 - w) % 65536

-- the complement, NOT: the machine's operation X3
abbrev pub complemented : ℕ → ℕ
complemented w = 65535 - w

-- whether `b rel a` holds
abbrev pub holds : Rel → ℕ → ℕ → Bool
holds relations.Equal b a = b == a
holds relations.NotEqual b a = not (b == a)
holds relations.Less b a = int_lt (signed b) (signed a)
holds relations.GreaterEqual b a = int_le (signed a) (signed b)
holds relations.Greater b a = int_lt (signed a) (signed b)
holds relations.LessEqual b a = int_le (signed b) (signed a)

-- the value of `b rel a`, as a word
abbrev pub value_of_relation : Rel → ℕ → ℕ → Option ℕ
value_of_relation rel b a = Some (truth (holds rel b a))

-- the value of `b op a`; none for a zero divisor
abbrev pub value_of : Op → ℕ → ℕ → Option ℕ
value_of operators.Multiply b a = Some (wrapped (signed b *ℤ signed a))
value_of operators.Divide b a = cond (a == 0) None (Some (wrapped (int_div (signed b) (signed a))))
value_of operators.Remainder b a = cond (a == 0) None (Some (wrapped (int_rem (signed b) (signed a))))
value_of operators.Add b a = Some ((b + a) % 65536)
value_of operators.Subtract b a = Some ((b + (65536 - a)) % 65536)
value_of operators.Equal b a = value_of_relation relations.Equal b a
value_of operators.NotEqual b a = value_of_relation relations.NotEqual b a
value_of operators.Less b a = value_of_relation relations.Less b a
value_of operators.GreaterEqual b a = value_of_relation relations.GreaterEqual b a
value_of operators.Greater b a = value_of_relation relations.Greater b a
value_of operators.LessEqual b a = value_of_relation relations.LessEqual b a
value_of operators.ShiftLeft b a = Some (cond (nat_le 16 a) 0 ((b * 2 ^ a) % 65536))
value_of operators.ShiftRight b a = Some (cond (nat_le 16 a) 0 (b / 2 ^ a))
value_of operators.And b a = Some (bit_and b a)
value_of operators.Or b a = Some (bit_or b a)
value_of operators.NotEquivalent b a = Some (bit_xor b a)
value_of operators.Equivalent b a = Some (65535 - bit_xor b a)

-- the operator that computes a relation
abbrev pub operator_of : Rel → Op
operator_of relations.Equal = operators.Equal
operator_of relations.NotEqual = operators.NotEqual
operator_of relations.Less = operators.Less
operator_of relations.GreaterEqual = operators.GreaterEqual
operator_of relations.Greater = operators.Greater
operator_of relations.LessEqual = operators.LessEqual

-- the number of the machine's operation that computes an operator
abbrev pub number_of : Op → ℕ
number_of operators.Multiply = 5
number_of operators.Divide = 6
number_of operators.Remainder = 7
number_of operators.Add = 8
number_of operators.Subtract = 9
number_of operators.Equal = 10
number_of operators.NotEqual = 11
number_of operators.Less = 12
number_of operators.GreaterEqual = 13
number_of operators.Greater = 14
number_of operators.LessEqual = 15
number_of operators.ShiftLeft = 16
number_of operators.ShiftRight = 17
number_of operators.And = 18
number_of operators.Or = 19
number_of operators.NotEquivalent = 20
number_of operators.Equivalent = 21

-- the result is the operator with this number, or an error if there is none
abbrev pub IsOperatorOf : ℕ → Result Op NotAnOperator → Type 0
IsOperatorOf number (Ok op) = number_of op ≡ number
IsOperatorOf number (Err e) = (op : Op) → number_of op ≢ number
