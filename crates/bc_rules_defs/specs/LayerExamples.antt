-- Worked examples of layers. The prover computes each.
use Rattle.std.specs.Prelude.{◌≡◌, refl, true, false, [], ◌∷◌}
use Rattle.bc_word.specs.declared.operator.Op.TheVariants.{Multiply, Or}
use Rattle.bc_core.specs.Tree.{Num, Frame, Load, Bin, Valof}
use Rattle.bc_rules_defs.specs.declared.rule.Table.TheVariants.{One}
use Rattle.bc_rules_defs.specs.declared.rule.Mode.TheVariants.{Any, Push}
use Rattle.bc_rules_defs.specs.declared.rule.Aim.TheVariants.{Gets, Jumps}
use Rattle.bc_rules_defs.specs.Piece.{X, jump_if, label}
use Rattle.bc_rules_defs.specs.Rules.{Derives, v0, v1, v12, v22_valof, j5, j6, j7}
use Rattle.bc_rules_defs.specs.Code.{code}
use Rattle.bc_rules_defs.specs.Layers.{own, body, part, layers, code_of}

abbrev number : Derives One (Num 7) (Gets Push)
number = v1 refl

abbrev content : Derives One (Load (Frame 2)) (Gets Push)
content = v1 refl

-- the content of cell 2 times 7: both parts are one level higher, followed by `X5`
abbrev product : Derives One (Bin Multiply (Load (Frame 2)) (Num 7)) (Gets Any)
product = v12 (v0 content) number

pub product_layers : layers product 5 0 1 ≡ part (v0 content) 6 0 1 ∷ part number 6 0 1 ∷ own (X 5) ∷ []
product_layers = refl

pub product_code : code product 5 0 1 ≡ code_of (layers product 5 0 1)
product_code = refl

-- the content of cell 2 as a test, and a VALOF as a test
abbrev first_test : Derives One (Load (Frame 2)) (Jumps true)
first_test = j6 refl (v0 content)

abbrev value : Derives One (Valof 3) (Gets Any)
value = v22_valof

abbrev second_test : Derives One (Valof 3) (Jumps false)
second_test = j6 refl value

-- `|` of both, a jump to 9 on false: the first one jumps to the rule's own label, 4, and the labels of the parts begin after it
abbrev either : Derives One (Bin Or (Load (Frame 2)) (Valof 3)) (Jumps false)
either = j5 first_test second_test

pub either_layers : layers either 5 9 4 ≡ part first_test 6 4 5 ∷ part second_test 6 9 5 ∷ own (label 4) ∷ []
either_layers = refl

pub test_layers : layers second_test 6 9 5 ≡ part value 6 9 5 ∷ own (jump_if false 9) ∷ []
test_layers = refl

pub body_layers : layers value 6 9 5 ≡ body 3 5 ∷ []
body_layers = refl

-- a jump on true has no layer at a 0, and one at a 1
abbrev at_zero : Derives One (Num 0) (Jumps true)
at_zero = j7

pub never_layers : layers at_zero 5 9 1 ≡ []
never_layers = refl

abbrev at_one : Derives One (Num 1) (Jumps true)
at_one = j7

pub always_layers : ¬ (layers at_one 5 9 1 ≡ [])
always_layers h = cc
