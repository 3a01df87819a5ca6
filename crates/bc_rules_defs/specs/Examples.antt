-- Worked examples: derivations written by hand, with their code, words and labels. The prover computes each.
use Rattle.std.specs.Prelude.{ℕ, ◌≡◌, true, false, [], ◌∷◌, refl}
use Rattle.bc_word.specs.declared.operator.Op.TheVariants.{Add, Subtract, Multiply, Divide, Equal, Or}
use Rattle.bc_core.specs.Tree.{Exp, Num, Frame, Glob, Load, Bin, Cond, Call, Valof, no_argument, argument, Root, Value, Test, Assign}
use Rattle.bc_rules_defs.specs.declared.rule.Table.TheVariants.{One, Two}
use Rattle.bc_rules_defs.specs.declared.rule.Mode.TheVariants.{Any, Push}
use Rattle.bc_rules_defs.specs.declared.rule.Aim.TheVariants.{Gets}
use Rattle.bc_rules_defs.specs.declared.piece.Piece.{Piece}
use Rattle.bc_rules_defs.specs.declared.piece.Piece.TheVariants.{Body}
use Rattle.bc_text_items.specs.declared.item.Item.TheVariants.{Operation}
use Rattle.bc_text_items.specs.declared.item.Base.TheVariants.{Number, G}
use Rattle.bc_rules_defs.specs.declared.piece.Piece.TheVariants.{Item}
use Rattle.bc_text_items.specs.declared.item.Function.TheVariants as functions
use Rattle.bc_rules_defs.specs.Piece.{SP, LIP, AIP, SIP, X, K, J, jump_if, label, A_number, words}
use Rattle.bc_rules_defs.specs.Rules.{Derives, v0, v1, v6, v8, v9, v11, v12, v16, v17, v18, v20, v22, v22_valof, j5, j6, j8, no_more, one_more, RootDerives, value, test, a2}
use Rattle.bc_rules_defs.specs.Code.{root_code, root_cost, root_labels}

-- the variable at an offset of the frame, and calls of the globals 100 and 101
abbrev at : ℕ → Exp
at k = Load (Frame k)

abbrev f_of : Exp → Exp
f_of e = Call (argument e no_argument) (Load (Glob 100))

abbrev g_of : Exp → Exp
g_of e = Call (argument e no_argument) (Load (Glob 101))

abbrev L_number : ℕ → Piece
L_number n = Item (Operation functions.Load false Number n)

abbrev LIG : ℕ → Piece
LIG n = Item (Operation functions.Load true G n)

abbrev push : {T : _} {k : ℕ} → Derives T (at k) (Gets Push)
push = v1 refl

abbrev get : {T : _} {k : ℕ} → Derives T (at k) (Gets Any)
get = v0 (v1 refl)

-- (a + b) * (c - d): two of its derivations, with 6 and with 10 words
abbrev product : Root
product = Value 6 (Bin Multiply (Bin Add (at 2) (at 3)) (Bin Subtract (at 4) (at 5)))

abbrev pushed : RootDerives One product
pushed = value (v12 (v0 (v6 refl push)) (v11 refl refl push))

pub pushed_code : root_code pushed 0 1 ≡ LIP 2 ∷ AIP 3 ∷ LIP 5 ∷ X 2 ∷ AIP 4 ∷ X 5 ∷ []
pushed_code = refl

pub pushed_words : root_cost pushed ≡ 6
pushed_words = refl

abbrev held : RootDerives One product
held = value (v17 (v0 (v6 refl push)) (v0 (v11 refl refl push)))

pub held_code : root_code held 0 1 ≡ LIP 2 ∷ AIP 3 ∷ SP 6 ∷ LIP 5 ∷ X 2 ∷ AIP 4 ∷ SP 7 ∷ LIP 6 ∷ LIP 7 ∷ X 5 ∷ []
held_code = refl

pub held_words : words (root_code held 0 1) ≡ 10
held_words = refl

-- (a * b) * (c - 1)
abbrev with_constant : RootDerives One (Value 6 (Bin Multiply (Bin Multiply (at 2) (at 3)) (Bin Subtract (at 4) (Num 1))))
with_constant = value (v12 (v12 get push) (v9 push))

pub constant_code : root_code with_constant 0 1 ≡ LIP 2 ∷ LIP 3 ∷ X 5 ∷ LIP 4 ∷ A_number 65535 ∷ X 5 ∷ []
constant_code = refl

pub constant_words : root_cost with_constant ≡ 7
constant_words = refl

-- f(1) + g(2)
abbrev sum_of_calls : RootDerives One (Value 2 (Bin Add (f_of (Num 1)) (g_of (Num 2))))
sum_of_calls =
    value (v18 (v22 (one_more (v0 (v1 refl)) no_more) (v0 (v1 refl))) (v22 (one_more (v0 (v1 refl)) no_more) (v0 (v1 refl))))

pub calls_code : root_code sum_of_calls 0 1 ≡ L_number 1 ∷ SP 5 ∷ LIG 100 ∷ K 3 ∷ SP 2 ∷ L_number 2 ∷ SP 5 ∷ LIG 101 ∷ K 3 ∷ AIP 2 ∷ []
calls_code = refl

-- (a * b) / (c * d), the right operand evaluated first
abbrev quotient : RootDerives One (Value 6 (Bin Divide (Bin Multiply (at 2) (at 3)) (Bin Multiply (at 4) (at 5))))
quotient = value (v16 refl (v12 get push) (v12 get push))

pub quotient_code : root_code quotient 0 1 ≡ LIP 4 ∷ LIP 5 ∷ X 5 ∷ SP 6 ∷ LIP 2 ∷ LIP 3 ∷ X 5 ∷ LIP 6 ∷ X 6 ∷ []
quotient_code = refl

-- v!i := x
abbrev assignment : RootDerives One (Assign 5 (at 4) (Bin Add (at 2) (at 3)))
assignment = a2 refl refl (v0 (v6 refl push)) get

pub assignment_code : root_code assignment 0 1 ≡ LIP 2 ∷ AIP 3 ∷ SP 5 ∷ LIP 4 ∷ SIP 5 ∷ []
assignment_code = refl

-- a jump to the label 9 unless x = 0, by each table
abbrev is_zero_test : Root
is_zero_test = Test 3 false (Bin Equal (at 2) (Num 0))

abbrev by_relation : RootDerives One is_zero_test
by_relation = test (j6 refl (v12 get (v1 refl)))

pub relation_code : root_code by_relation 9 1 ≡ LIP 2 ∷ L_number 0 ∷ X 10 ∷ jump_if false 9 ∷ []
relation_code = refl

pub relation_words : root_cost by_relation ≡ 5
relation_words = refl

abbrev by_content : RootDerives Two is_zero_test
by_content = test (j8 refl refl get)

pub content_code : root_code by_content 9 1 ≡ LIP 2 ∷ jump_if true 9 ∷ []
content_code = refl

pub content_words : root_cost by_content ≡ 3
content_words = refl

-- 0 + 0: the right 0 is dropped
abbrev sum_of_zeros : RootDerives One (Value 3 (Bin Add (Num 0) (Num 0)))
sum_of_zeros = value (v8 {c = Num 0} refl (v0 (v1 refl)))

pub zeros_code : root_code sum_of_zeros 0 1 ≡ L_number 0 ∷ []
zeros_code = refl

-- x | (y -> VALOF, z), a jump to the label 9 on false: label 1 is of the `|`, 2 and 3 are of the condition, 4 is of the VALOF
abbrev labelled : RootDerives One (Test 5 false (Bin Or (at 2) (Cond (at 3) (Valof 0) (at 4))))
labelled = test (j5 (j6 refl get) (j6 refl (v20 (j6 refl get) v22_valof get)))

pub labelled_code : root_code labelled 9 1 ≡ LIP 2 ∷ jump_if true 1 ∷ LIP 3 ∷ jump_if false 2 ∷ Body 0 ∷ label 4 ∷ J 3 ∷ label 2 ∷ LIP 4 ∷ label 3
    ∷ jump_if false 9 ∷ label 1 ∷ []
labelled_code = refl

pub labelled_count : root_labels labelled ≡ 4
labelled_count = refl
