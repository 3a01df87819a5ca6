-- Worked examples: a derivation by each rule for values and assignments that has none in `Examples` of the rule table, with its
-- code.
use Rattle.std.specs.Prelude.{◌≡◌, ℕ, true, false, [], ◌∷◌, refl}
use Rattle.bc_word.specs.declared.operator.Op.TheVariants.{Add, Subtract, Multiply, Less}
use Rattle.bc_text_items.specs.declared.item.Item.TheVariants.{Operation}
use Rattle.bc_text_items.specs.declared.item.Base.TheVariants.{Number, P, G}
use Rattle.bc_text_items.specs.declared.item.Function.TheVariants as functions
use Rattle.bc_core.specs.Tree.{Exp, Num, Frame, Glob, Load, Neg, Not, Bin, Cond, Call, no_argument, argument, Root, Value, Assign}
use Rattle.bc_rules_defs.specs.declared.rule.Table.TheVariants.{One}
use Rattle.bc_rules_defs.specs.declared.rule.Mode.TheVariants.{Any, Push}
use Rattle.bc_rules_defs.specs.declared.rule.Aim.TheVariants.{Gets, Jumps}
use Rattle.bc_rules_defs.specs.declared.piece.Piece.{Piece}
use Rattle.bc_rules_defs.specs.declared.piece.Piece.TheVariants.{Item}
use Rattle.bc_rules_defs.specs.Piece.{SP, LIP, AIP, SIP, X, K, J, jump_if, label}
use Rattle.bc_rules_defs.specs.Rules.{Derives, v0, v1, v2, v3, v4, v6, v7, v10, v12, v13, v14, v15, v19, v21, v22, j6, no_more, one_more, RootDerives, value, a1, a2, a3}
use Rattle.bc_rules_defs.specs.Code.{root_code, root_cost, root_labels}

-- ---- Worked examples

-- the variable at an offset of the frame, and a call of the global 100
abbrev pub at : ℕ → Exp
at k = Load (Frame k)

abbrev f_of : Exp → Exp
f_of e = Call (argument e no_argument) (Load (Glob 100))

abbrev push : {T : _} {k : ℕ} → Derives T (at k) (Gets Push)
push = v1 refl

abbrev pub get : {T : _} {k : ℕ} → Derives T (at k) (Gets Any)
get = v0 (v1 refl)

abbrev call : {T : _} → Derives T (f_of (Num 1)) (Gets Any)
call = v22 (one_more (v0 (v1 refl)) no_more) (v0 (v1 refl))

abbrev LIG : ℕ → Piece
LIG n = Item (Operation functions.Load true G n)

abbrev L_number : ℕ → Piece
L_number n = Item (Operation functions.Load false Number n)

abbrev SP_variable : ℕ → Piece
SP_variable k = Item (Operation functions.Store false P k)

-- !!v, by V2: `LIP2 X1`
abbrev content : RootDerives One (Value 4 (Load (at 2)))
content = value (v2 get)

content_code : root_code content 0 1 ≡ LIP 2 ∷ X 1 ∷ []
content_code = refl

-- -v, by V3: `LIP2 X2`
abbrev negative : RootDerives One (Value 4 (Neg (at 2)))
negative = value (v3 get)

negative_code : root_code negative 0 1 ≡ LIP 2 ∷ X 2 ∷ []
negative_code = refl

-- NOT v, by V4: `LIP2 X3`
abbrev complement : RootDerives One (Value 4 (Not (at 2)))
complement = value (v4 get)

complement_code : root_code complement 0 1 ≡ LIP 2 ∷ X 3 ∷ []
complement_code = refl

-- v + !!w, by V7: the right operand is evaluated and the variable added
abbrev added : RootDerives One (Value 4 (Bin Add (at 2) (Load (at 3))))
added = value (v7 refl refl (v2 get))

added_code : root_code added 0 1 ≡ LIP 3 ∷ X 1 ∷ AIP 2 ∷ []
added_code = refl

-- a number may be added to a call in either order
abbrev to_a_call : RootDerives One (Value 4 (Bin Add (Num 3) (f_of (Num 1))))
to_a_call = value (v7 refl refl call)

to_a_call_words : root_cost to_a_call ≡ 5
to_a_call_words = refl

-- v - w, by V10: -((-v) + w)
abbrev less : RootDerives One (Value 4 (Bin Subtract (at 2) (at 3)))
less = value (v10 refl get)

less_code : root_code less 0 1 ≡ LIP 2 ∷ X 2 ∷ AIP 3 ∷ X 2 ∷ []
less_code = refl

-- v < !!w, by V13: the right operand first, with the mirrored relation `>`
abbrev mirrored : RootDerives One (Value 4 (Bin Less (at 2) (Load (at 3))))
mirrored = value (v13 refl refl (v2 get) push)

mirrored_code : root_code mirrored 0 1 ≡ LIP 3 ∷ X 1 ∷ LIP 2 ∷ X 14 ∷ []
mirrored_code = refl

-- v - !!w, by V14: !!w first, then the reversed difference, negated
abbrev turned : RootDerives One (Value 4 (Bin Subtract (at 2) (Load (at 3))))
turned = value (v14 refl (v2 get) push)

turned_code : root_code turned 0 1 ≡ LIP 3 ∷ X 1 ∷ LIP 2 ∷ X 9 ∷ X 2 ∷ []
turned_code = refl

-- f(1) * f(1), by V15: the first value is stored at the level and becomes the second operand
abbrev held : RootDerives One (Value 4 (Bin Multiply (f_of (Num 1)) (f_of (Num 1))))
held = value (v15 refl call call)

held_code : root_code held 0 1 ≡ L_number 1 ∷ SP 7 ∷ LIG 100 ∷ K 5 ∷ SP 4 ∷ L_number 1 ∷ SP 7 ∷ LIG 100 ∷ K 5 ∷ LIP 4 ∷ X 5 ∷ []
held_code = refl

-- f(1) - f(1), by V19: the second value is negated and the first one added
abbrev subtracted : RootDerives One (Value 4 (Bin Subtract (f_of (Num 1)) (f_of (Num 1))))
subtracted = value (v19 call call)

subtracted_code : root_code subtracted 0 1 ≡ L_number 1 ∷ SP 7 ∷ LIG 100 ∷ K 5 ∷ SP 4 ∷ L_number 1 ∷ SP 7 ∷ LIG 100 ∷ K 5 ∷ X 2 ∷ AIP 4 ∷ []
subtracted_code = refl

-- c -> x, y, by V21: a jump on true, and y before x
abbrev otherwise : RootDerives One (Value 5 (Cond (at 2) (at 3) (at 4)))
otherwise = value (v21 (j6 refl get) get get)

otherwise_code : root_code otherwise 0 1 ≡ LIP 2 ∷ jump_if true 1 ∷ LIP 4 ∷ J 2 ∷ label 1 ∷ LIP 3 ∷ label 2 ∷ []
otherwise_code = refl

otherwise_words : root_cost otherwise ≡ 7
otherwise_words = refl

otherwise_labels : root_labels otherwise ≡ 2
otherwise_labels = refl

-- v := w + 1, by A1
abbrev to_variable : RootDerives One (Assign 4 (Bin Add (at 3) (Num 1)) (Frame 2))
to_variable = a1 refl (v0 (v6 refl push))

to_variable_code : root_code to_variable 0 1 ≡ LIP 3 ∷ Item (Operation functions.Add false Number 1) ∷ SP_variable 2 ∷ []
to_variable_code = refl

-- v := a number of one word, and of two
abbrev to_511 : RootDerives One (Assign 4 (Num 511) (Frame 2))
to_511 = a1 refl (v0 (v1 refl))

to_511_words : root_cost to_511 ≡ 2
to_511_words = refl

abbrev to_512 : RootDerives One (Assign 4 (Num 512) (Frame 2))
to_512 = a1 refl (v0 (v1 refl))

to_512_words : root_cost to_512 ≡ 3
to_512_words = refl

-- !f(1) := f(1), by A3: the value and then the address are kept in cells, then the value is stored
abbrev both_held : RootDerives One (Assign 4 (f_of (Num 1)) (f_of (Num 1)))
both_held = a3 refl call call

both_held_code : root_code both_held 0 1
    ≡ L_number 1 ∷ SP 7 ∷ LIG 100 ∷ K 5 ∷ SP 4 ∷ L_number 1 ∷ SP 7 ∷ LIG 100 ∷ K 5 ∷ SP 5 ∷ LIP 4 ∷ SIP 5 ∷ []
both_held_code = refl
