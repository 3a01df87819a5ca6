-- Worked examples of the rules' conditions: which operands are free, which operators have a mirror, where a 0 is dropped.
use Rattle.std.specs.Prelude.{◌≡◌, true, false, [], ◌∷◌, map, Some, None, refl}
use Rattle.bc_word.specs.declared.operator.Op.TheVariants.{Multiply, Divide, Remainder, Add, Subtract, Equal, NotEqual, Less, GreaterEqual, Greater, LessEqual, ShiftLeft, ShiftRight, And, Or, NotEquivalent, Equivalent}
use Rattle.bc_word.specs.Mirror.{mirror_of}
use Rattle.bc_core.specs.Tree.{Num, Frame, Glob, Place, Load, Neg, Not, Bin, Cond, Valof}
use Rattle.bc_rules_defs.specs.Free.{is_direct, are_free, is_plain, beside_zero, without_zero, jumps_at}
use Rattle.bc_select_defs.specs.worked.Values.{at}
use Rattle.bc_select_defs.specs.worked.Refusals.{f}

-- ---- Worked examples

-- direct: 5, @v, the addresses of a global and of a place, @v + 3; not direct: v, !5, v + 3, f()
direct : (is_direct (Num 5) ≡ true) × (is_direct (Frame 2) ≡ true) × (is_direct (Glob 100) ≡ true) × (is_direct (Place 1)
    ≡ true) × (is_direct (Bin Add (Frame 2) (Num 3)) ≡ true)
direct = (refl, refl, refl, refl, refl)

not_direct : (is_direct (at 2) ≡ false) × (is_direct (Load (Num 5)) ≡ false) × (is_direct (Bin Add (at 2) (Num 3)) ≡ false) × (is_direct f ≡ false)
not_direct = (refl, refl, refl, refl)

-- v and !w contain no call; of f() and 5, and of f() and @v, one is direct
free : (are_free (at 2) (Load (at 3)) ≡ true) × (are_free f (Num 5) ≡ true) × (are_free (Num 5) f ≡ true) × (are_free f (Frame 2) ≡ true)
free = (refl, refl, refl, refl)

-- not free: f() and v, v and f(), since the call may set v; f() and f()
not_free : (are_free f (at 2) ≡ false) × (are_free (at 2) f ≡ false) × (are_free f f ≡ false)
not_free = (refl, refl, refl)

-- a VALOF counts as a call, also inside an operand: VALOF and v; v -> f(), 1 and w; -f() and v
deeper : (are_free (Valof 0) (at 2) ≡ false) × (are_free (Cond (at 2) f (Num 1)) (at 3) ≡ false) × (are_free (Neg f) (at 2)
    ≡ false) × (are_free (Valof 0) (Num 5) ≡ true)
deeper = (refl, refl, refl, refl)

-- the mirrors, of each operator
mirrors : map mirror_of (Multiply ∷ Add ∷ Equal ∷ NotEqual ∷ And ∷ Or ∷ NotEquivalent ∷ Equivalent ∷ Less ∷ Greater ∷ LessEqual ∷ GreaterEqual ∷ [])
    ≡ Some Multiply ∷ Some Add ∷ Some Equal ∷ Some NotEqual ∷ Some And ∷ Some Or ∷ Some NotEquivalent ∷ Some Equivalent ∷ Some Greater ∷ Some Less
    ∷ Some GreaterEqual ∷ Some LessEqual ∷ []
mirrors = refl

no_mirrors : map mirror_of (Divide ∷ Remainder ∷ Subtract ∷ ShiftLeft ∷ ShiftRight ∷ []) ≡ None ∷ None ∷ None ∷ None ∷ None ∷ []
no_mirrors = refl

-- plain: v, v + w, v = w, v -> w, w, -(NOT v); not plain: NOT v, v & w, v | w
plain : (is_plain (at 2) ≡ true) × (is_plain (Bin Add (at 2) (at 3)) ≡ true) × (is_plain (Bin Equal (at 2) (at 3))
    ≡ true) × (is_plain (Cond (at 2) (at 3) (at 3)) ≡ true)
    × (is_plain (Neg (Not (at 2))) ≡ true)
plain = (refl, refl, refl, refl, refl)

not_plain : (is_plain (Not (at 2)) ≡ false) × (is_plain (Bin And (at 2) (at 3)) ≡ false) × (is_plain (Bin Or (at 2) (at 3)) ≡ false)
not_plain = (refl, refl, refl)

-- NEQV and EQV are plain, like most operators
plain_bits : (is_plain (Bin NotEquivalent (at 2) (at 3)) ≡ true) × (is_plain (Bin Equivalent (at 2) (at 3)) ≡ true)
plain_bits = (refl, refl)

-- the operand beside a 0: of v = 0 and 0 = v, and the left one of 0 = 0; none beside a 1
beside : (beside_zero (at 2) (Num 0) ≡ Some (at 2)) × (beside_zero (Num 0) (at 2) ≡ Some (at 2)) × (beside_zero (Num 0) (Num 0)
    ≡ Some (Num 0)) × (beside_zero (at 2) (Num 1) ≡ None)
beside = (refl, refl, refl, refl)

-- v + 0, 0 + v and v - 0 reduce to v; 0 - v, v * 0, 0 * v and v | 0 don't
dropped : (without_zero Add (at 2) (Num 0) ≡ Some (at 2)) × (without_zero Add (Num 0) (at 2) ≡ Some (at 2)) × (without_zero Subtract (at 2) (Num 0)
    ≡ Some (at 2))
dropped = (refl, refl, refl)

not_dropped : (without_zero Subtract (Num 0) (at 2) ≡ None) × (without_zero Multiply (at 2) (Num 0) ≡ None) × (without_zero Multiply (Num 0) (at 2) ≡ None)
    × (without_zero Or (at 2) (Num 0) ≡ None)
not_dropped = (refl, refl, refl, refl)

-- a number is true if it isn't 0
number_jumps : (jumps_at true 1 ≡ true) × (jumps_at true 0 ≡ false) × (jumps_at false 1 ≡ false) × (jumps_at false 0 ≡ true)
number_jumps = (refl, refl, refl, refl)
