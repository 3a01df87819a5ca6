-- What an expression means, in the frame at p at the level s: a run for its value, and a run for its truth.
use Rattle.std.specs.Prelude.{ℕ, ◌+◌, ◌%◌, ◌==◌, Bool, true, false, not, ◌||◌, List, [], ◌∷◌, Option, Some, None}
use Rattle.bc_word.specs.declared.operator.Op.{Op}
use Rattle.bc_word.specs.declared.operator.Op.TheVariants.{And, Or}
use Rattle.bc_word.specs.Words.{value_of, negated, complemented}
use Rattle.bc_core.specs.Tree.{Exp, Num, Frame, Glob, Place, Load, Neg, Not, Bin, Cond, Call, Valof, Args, no_argument, argument, count}
use Rattle.bc_core.specs.Level.{operand_level, argument_level, routine_level, side_level}
use Rattle.bc_core.specs.Outcome.{Done, Run, ZeroDivide, ends, then_do, choose, read, write, both}

-- whether an expression contains a call or a VALOF
abbrev pub has_call : Exp → Bool
has_call (Load e) = has_call e
has_call (Neg e) = has_call e
has_call (Not e) = has_call e
has_call (Bin op a b) = has_call a || has_call b
has_call (Cond c x y) = has_call c || has_call x || has_call y
has_call (Call es f) = true
has_call (Valof n) = true
has_call _ = false

-- What the meaning of an expression depends on: the address of each label; what a call does, given the routine's
-- value, the arguments and the address of the new frame; and what a VALOF does, given its number, the frame and the
-- level.
pub record Context : Type 0 where
  pub place : ℕ → ℕ
  pub call : ℕ → List ℕ → ℕ → Run ℕ
  pub valof : ℕ → ℕ → ℕ → Run ℕ

-- what an expression means: its value, and its truth in a test position
pub record Sense : Type 0 where
  pub value : Run ℕ
  pub truth : Run Bool

-- a value is true unless it is 0
abbrev pub is_true : ℕ → Bool
is_true v = not (v == 0)

-- the truth of a value
abbrev pub truth_of_value : Run ℕ → Run Bool
truth_of_value r = then_do r (λ v. Done (is_true v))

-- an expression whose truth is that of its value
abbrev pub by_value : Run ℕ → Sense
by_value r = record { value = r; truth = truth_of_value r }

-- the value of an operator; there is none for a zero divisor, which ends the run
abbrev pub given : Option ℕ → Run ℕ
given None = ends ZeroDivide
given (Some v) = Done v

-- an operator applied to two operands; `calls` says whether one of them contains a call or a VALOF
abbrev pub operated : Op → (calls : Bool) → Run ℕ → Run ℕ → Run ℕ
operated op calls a b = both calls a b (λ x y. given (value_of op x y))

-- The truth of an operator. In a test position the right operand of `&` or of the bar is evaluated only if the left
-- one doesn't decide. The truth of any other operator is that of its value.
abbrev pub operator_truth : Op → Sense → Sense → Run ℕ → Run Bool
operator_truth And a b v = then_do a.truth (λ t. choose t b.truth (Done false))
operator_truth Or a b v = then_do a.truth (λ t. choose t (Done true) b.truth)
operator_truth _ a b v = truth_of_value v

-- the value and the truth of an operator
abbrev pub operator_sense : Op → (calls : Bool) → Sense → Sense → Sense
operator_sense op calls a b =
    let v = operated op calls a.value b.value in record { value = v; truth = operator_truth op a b v }

-- NOT: as a value it inverts every bit, as a truth it is the opposite
abbrev pub not_sense : Sense → Sense
not_sense a = record {
  value = then_do a.value (λ v. Done (complemented v));
  truth = then_do a.truth (λ t. Done (not t));
}

-- the meaning of an expression in the frame at p, at the level s
abbrev mutual
  pub sense : Context → Exp → (p s : ℕ) → Sense
  sense C (Num n) p s = by_value (Done n)
  sense C (Frame k) p s = by_value (Done ((p + k) % 65536))
  sense C (Glob n) p s = by_value (Done ((8 + n) % 65536))
  sense C (Place m) p s = by_value (Done (C.place m))
  sense C (Load e) p s = by_value (then_do (sense C e p s).value read)
  sense C (Neg e) p s = by_value (then_do (sense C e p s).value (λ v. Done (negated v)))
  sense C (Not e) p s = not_sense (sense C e p s)
  sense C (Bin op a b) p s =
      operator_sense op (has_call a || has_call b) (sense C a p (operand_level s)) (sense C b p (operand_level s))
  sense C (Cond c x y) p s =
      by_value (then_do (sense C c p s).truth (λ t. choose t (sense C x p s).value (sense C y p s).value))
  -- the arguments in order, then the routine; the new frame is at p + s
  sense C (Call es f) p s =
      by_value (then_do (values C es p (argument_level s)) (λ vs.
      then_do (sense C f p (routine_level s (count es))).value (λ r. C.call r vs (p + s))))
  sense C (Valof n) p s = by_value (C.valof n p s)

  -- the values of arguments, in order; each is one level higher than the one before it
  pub values : Context → Args → (p s : ℕ) → Run (List ℕ)
  values C no_argument p s = Done []
  values C (argument e es) p s = then_do (sense C e p s).value (λ v. then_do (values C es p (s + 1)) (λ vs. Done (v ∷ vs)))

-- the value of an expression
abbrev pub value : Context → Exp → (p s : ℕ) → Run ℕ
value C e p s = (sense C e p s).value

-- the truth of an expression in a test position
abbrev pub truth : Context → Exp → (p s : ℕ) → Run Bool
truth C e p s = (sense C e p s).truth

-- An assignment: the value is computed before the address, then the word is stored. Both are one level higher if the
-- address is no operand, since one of them is held.
abbrev pub assign : Context → (value address : Exp) → (p s : ℕ) → Run (Unit {0})
assign C v a p s =
    let s1 = side_level a s in
    both (has_call v || has_call a) (value C v p s1) (value C a p s1) (λ w address. write address w)
