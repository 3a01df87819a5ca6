-- Worked examples: tests to jump on false and on true, by the rules that have code for both, and expressions without any
-- derivation for an aim. A test jumps to label 9.
use Rattle.std.specs.Prelude.{◌≡◌, Bool, true, false, List, [], ◌∷◌, refl}
use Rattle.bc_word.specs.declared.operator.Op.TheVariants.{Multiply, Divide, Equal, NotEqual}
use Rattle.bc_core.specs.Tree.{Exp, Num, Not, Bin, Cond, Valof}
use Rattle.bc_rules_defs.specs.declared.rule.Table.{Table}
use Rattle.bc_rules_defs.specs.declared.rule.Table.TheVariants.{One, Two}
use Rattle.bc_rules_defs.specs.declared.rule.Mode.TheVariants.{Push}
use Rattle.bc_rules_defs.specs.declared.rule.Aim.TheVariants.{Gets, Jumps}
use Rattle.bc_rules_defs.specs.declared.rule.Rule.TheVariants as rule
use Rattle.bc_rules_defs.specs.declared.piece.Piece.{Piece}
use Rattle.bc_rules_defs.specs.Piece.{LIP, J, jump_if}
use Rattle.bc_rules_defs.specs.Rules.{Derives, v1, v8, j1, j6, j7, j8, j9, test}
use Rattle.bc_rules_defs.specs.Code.{root_code}
use Rattle.bc_select_defs.specs.worked.Values.{at, get}
use Rattle.bc_select_defs.specs.worked.Refusals.{Never, f}

-- ---- Worked examples

abbrev code_of : {T : Table} {sense : Bool} {e : Exp} → Derives T e (Jumps sense) → List Piece
code_of x = root_code (test {s = 4} x) 9 1

-- NOT v: to jump on false it jumps where v is true, and the other way round
of_not : (code_of {T = One} {sense = false} (j1 {e = at 2} (j6 refl get)) ≡ LIP 2 ∷ jump_if true 9 ∷ [])
    × (code_of {T = One} {sense = true} (j1 {e = at 2} (j6 refl get)) ≡ LIP 2 ∷ jump_if false 9 ∷ [])
of_not = (refl, refl)

-- v, to jump on false and on true
of_variable : (code_of {T = One} {sense = false} (j6 {e = at 2} refl get) ≡ LIP 2 ∷ jump_if false 9 ∷ [])
    × (code_of {T = One} {sense = true} (j6 {e = at 2} refl get) ≡ LIP 2 ∷ jump_if true 9 ∷ [])
of_variable = (refl, refl)

-- 1 and 0, to jump on false and on true
of_one : (code_of {T = One} {sense = false} (j7 {n = 1}) ≡ []) × (code_of {T = One} {sense = true} (j7 {n = 1}) ≡ J 9 ∷ [])
of_one = (refl, refl)

of_zero : (code_of {T = One} {sense = false} (j7 {n = 0}) ≡ J 9 ∷ []) × (code_of {T = One} {sense = true} (j7 {n = 0}) ≡ [])
of_zero = (refl, refl)

-- v = 0 and 0 = v
equal_zero : (code_of {T = Two} {sense = false} (j8 {a = at 2} {b = Num 0} {c = at 2} refl refl get) ≡ LIP 2 ∷ jump_if true 9 ∷ [])
    × (code_of {T = Two} {sense = true} (j8 {a = at 2} {b = Num 0} {c = at 2} refl refl get) ≡ LIP 2 ∷ jump_if false 9 ∷ [])
equal_zero = (refl, refl)

zero_equal : code_of {T = Two} {sense = false} (j8 {a = Num 0} {b = at 2} {c = at 2} refl refl get) ≡ LIP 2 ∷ jump_if true 9 ∷ []
zero_equal = refl

-- v NE 0 and 0 NE v
not_zero : (code_of {T = Two} {sense = false} (j9 {a = at 2} {b = Num 0} {c = at 2} refl refl get) ≡ LIP 2 ∷ jump_if false 9 ∷ [])
    × (code_of {T = Two} {sense = true} (j9 {a = at 2} {b = Num 0} {c = at 2} refl refl get) ≡ LIP 2 ∷ jump_if true 9 ∷ [])
not_zero = (refl, refl)

zero_not : code_of {T = Two} {sense = false} (j9 {a = Num 0} {b = at 2} {c = at 2} refl refl get) ≡ LIP 2 ∷ jump_if false 9 ∷ []
zero_not = refl

-- J8 doesn't apply to v NE 0, nor J9 to v = 0
j8_of_not_equal : Never Two (Bin NotEqual (at 2) (Num 0)) (Jumps false) rule.J8
j8_of_not_equal (j9 h k c) parts e = cc
j8_of_not_equal _ parts e = cc

j9_of_equal : Never Two (Bin Equal (at 2) (Num 0)) (Jumps false) rule.J9
j9_of_equal (j8 h k c) parts e = cc
j9_of_equal _ parts e = cc

-- V0 isn't in mode Push
v0_pushed : Never One (at 2) (Gets Push) rule.V0
v0_pushed (v1 h) parts e = cc
v0_pushed _ parts e = cc

-- v * w, v / w, f(), v -> w, x and a VALOF have no derivation in mode Push
product_pushed : ¬ Derives One (Bin Multiply (at 2) (at 3)) (Gets Push)
product_pushed (v1 h) = cc
product_pushed (v8 h c) = cc

quotient_pushed : ¬ Derives One (Bin Divide (at 2) (at 3)) (Gets Push)
quotient_pushed (v1 h) = cc
quotient_pushed (v8 h c) = cc

call_pushed : ¬ Derives One f (Gets Push)
call_pushed (v1 h) = cc

choice_pushed : ¬ Derives One (Cond (at 2) (at 3) (at 4)) (Gets Push)
choice_pushed (v1 h) = cc

valof_pushed : ¬ Derives One (Valof 0) (Gets Push)
valof_pushed (v1 h) = cc

-- no test of NOT v is by its value
not_by_value : Never Two (Not (at 2)) (Jumps true) rule.J6
not_by_value (j6 h d) parts e = cc
not_by_value _ parts e = cc
