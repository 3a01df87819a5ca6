-- Worked examples: those of docs/rules.md. a, b, c and d are at the offsets 2 to 5, the level is 6, f and g are the globals 100
-- and 101, and a test jumps to label 9.
use Rattle.std.specs.Prelude.{◌≡◌, ℕ, true, false, List, [], ◌∷◌, refl}
use Rattle.bc_word.specs.declared.operator.Op.TheVariants.{Add, Subtract, Multiply, Divide, Less, Equal, And}
use Rattle.bc_text_items.specs.declared.item.Item.TheVariants.{Operation}
use Rattle.bc_text_items.specs.declared.item.Base.TheVariants.{Number, P, G}
use Rattle.bc_text_items.specs.declared.item.Function.TheVariants as functions
use Rattle.bc_core.specs.Tree.{Exp, Num, Frame, Glob, Load, Bin, Call, no_argument, argument, Test, Assign}
use Rattle.bc_rules_defs.specs.declared.rule.Table.TheVariants.{One, Two}
use Rattle.bc_rules_defs.specs.declared.rule.Mode.TheVariants.{Any, Push}
use Rattle.bc_rules_defs.specs.declared.rule.Aim.TheVariants.{Gets}
use Rattle.bc_rules_defs.specs.declared.rule.Rule.TheVariants as rule
use Rattle.bc_rules_defs.specs.declared.piece.Piece.{Piece}
use Rattle.bc_rules_defs.specs.declared.piece.Piece.TheVariants.{Item}
use Rattle.bc_rules_defs.specs.Piece.{SP, LIP, AIP, SIP, X, K, J, jump_if, label, A_number}
use Rattle.bc_rules_defs.specs.Rules.{Derives, v0, v1, v2, v6, v7, v8, v9, v10, v11, v12, v13, v14, v15, v17, v18, v19, v20, v21, v22, j3, j6, j8, no_more, one_more, RootDerives, value, test, a1, a2, a3}
use Rattle.bc_rules_defs.specs.Code.{root_code}
use Rattle.bc_select_defs.specs.worked.Refusals.{RootNever}

-- ---- Worked examples

abbrev a : Exp
a = Load (Frame 2)

abbrev b : Exp
b = Load (Frame 3)

abbrev c : Exp
c = Load (Frame 4)

abbrev d : Exp
d = Load (Frame 5)

-- b!c
abbrev b_c : Exp
b_c = Load (Bin Add b c)

abbrev f_1 : Exp
f_1 = Call (argument (Num 1) no_argument) (Load (Glob 100))

abbrev g_2 : Exp
g_2 = Call (argument (Num 2) no_argument) (Load (Glob 101))

abbrev LIG : ℕ → Piece
LIG n = Item (Operation functions.Load true G n)

abbrev L : ℕ → Piece
L n = Item (Operation functions.Load false Number n)

abbrev push : {k : ℕ} → Derives One (Load (Frame k)) (Gets Push)
push = v1 refl

abbrev get : {k : ℕ} → Derives One (Load (Frame k)) (Gets Any)
get = v0 (v1 refl)

abbrev get_b_c : Derives One b_c (Gets Any)
get_b_c = v0 (v2 (v6 refl push))

abbrev get_f_1 : Derives One f_1 (Gets Any)
get_f_1 = v22 (one_more (v0 (v1 refl)) no_more) (v0 (v1 refl))

abbrev get_g_2 : Derives One g_2 (Gets Any)
get_g_2 = v22 (one_more (v0 (v1 refl)) no_more) (v0 (v1 refl))

-- the code of a value at level 6
abbrev code_of : {e : Exp} → Derives One e (Gets Any) → List Piece
code_of x = root_code (value {s = 6} x) 0 1

-- a; !(a + b); a + b; a + b!c
by_v1 : code_of (v0 (v1 {e = a} refl)) ≡ LIP 2 ∷ []
by_v1 = refl

by_v2 : code_of (v2 {e = Bin Add a b} (v6 refl get)) ≡ LIP 2 ∷ AIP 3 ∷ X 1 ∷ []
by_v2 = refl

by_v6 : code_of (v6 {a = a} {b = b} refl get) ≡ LIP 2 ∷ AIP 3 ∷ []
by_v6 = refl

by_v7 : code_of (v7 {a = a} {b = b_c} refl refl get_b_c) ≡ LIP 3 ∷ AIP 4 ∷ X 1 ∷ AIP 2 ∷ []
by_v7 = refl

-- a + 0, a - 0, 0 + a; a - 1; a - b; c - d
by_v8 : (code_of (v8 {op = Add} {a = a} {b = Num 0} {c = a} refl get) ≡ LIP 2 ∷ []) × (code_of (v8 {op = Subtract} {a = a} {b = Num 0} {c = a} refl get)
    ≡ LIP 2 ∷ [])
    × (code_of (v8 {op = Add} {a = Num 0} {b = a} {c = a} refl get) ≡ LIP 2 ∷ [])
by_v8 = (refl, refl, refl)

by_v9 : code_of (v9 {a = a} {n = 1} get) ≡ LIP 2 ∷ A_number 65535 ∷ []
by_v9 = refl

by_v10 : code_of (v10 {a = a} {b = b} refl get) ≡ LIP 2 ∷ X 2 ∷ AIP 3 ∷ X 2 ∷ []
by_v10 = refl

by_v11 : code_of (v11 {a = c} {b = d} refl refl get) ≡ LIP 5 ∷ X 2 ∷ AIP 4 ∷ []
by_v11 = refl

-- a * b; a < b!c; a - b!c
by_v12 : code_of (v12 {op = Multiply} {a = a} {b = b} get push) ≡ LIP 2 ∷ LIP 3 ∷ X 5 ∷ []
by_v12 = refl

by_v13 : code_of (v13 {op = Less} {a = a} {b = b_c} refl refl get_b_c push) ≡ LIP 3 ∷ AIP 4 ∷ X 1 ∷ LIP 2 ∷ X 14 ∷ []
by_v13 = refl

by_v14 : code_of (v14 {a = a} {b = b_c} refl get_b_c push) ≡ LIP 3 ∷ AIP 4 ∷ X 1 ∷ LIP 2 ∷ X 9 ∷ X 2 ∷ []
by_v14 = refl

-- f(1) * g(2); f(1) / g(2); f(1) + g(2); f(1) - g(2)
by_v15 : code_of (v15 {op = Multiply} {a = f_1} {b = g_2} refl get_f_1 get_g_2)
    ≡ L 1 ∷ SP 9 ∷ LIG 100 ∷ K 7 ∷ SP 6 ∷ L 2 ∷ SP 9 ∷ LIG 101 ∷ K 7 ∷ LIP 6 ∷ X 5 ∷ []
by_v15 = refl

by_v17 : code_of (v17 {op = Divide} {a = f_1} {b = g_2} get_f_1 get_g_2)
    ≡ L 1 ∷ SP 9 ∷ LIG 100 ∷ K 7 ∷ SP 6 ∷ L 2 ∷ SP 9 ∷ LIG 101 ∷ K 7 ∷ SP 7 ∷ LIP 6 ∷ LIP 7 ∷ X 6 ∷ []
by_v17 = refl

by_v18 : code_of (v18 {a = f_1} {b = g_2} get_f_1 get_g_2) ≡ L 1 ∷ SP 9 ∷ LIG 100 ∷ K 7 ∷ SP 6 ∷ L 2 ∷ SP 9 ∷ LIG 101 ∷ K 7 ∷ AIP 6 ∷ []
by_v18 = refl

by_v19 : code_of (v19 {a = f_1} {b = g_2} get_f_1 get_g_2) ≡ L 1 ∷ SP 9 ∷ LIG 100 ∷ K 7 ∷ SP 6 ∷ L 2 ∷ SP 9 ∷ LIG 101 ∷ K 7 ∷ X 2 ∷ AIP 6 ∷ []
by_v19 = refl

-- a -> b, c by both rules; f(a)
by_v20 : code_of (v20 {c = a} {x = b} {y = c} (j6 refl get) get get) ≡ LIP 2 ∷ jump_if false 1 ∷ LIP 3 ∷ J 2 ∷ label 1 ∷ LIP 4 ∷ label 2 ∷ []
by_v20 = refl

by_v21 : code_of (v21 {c = a} {x = b} {y = c} (j6 refl get) get get) ≡ LIP 2 ∷ jump_if true 1 ∷ LIP 4 ∷ J 2 ∷ label 1 ∷ LIP 3 ∷ label 2 ∷ []
by_v21 = refl

by_v22 : code_of (v22 {es = argument a no_argument} {f = Load (Glob 100)} (one_more get no_more) (v0 (v1 refl))) ≡ LIP 2 ∷ SP 8 ∷ LIG 100 ∷ K 6 ∷ []
by_v22 = refl

-- a & b, to jump on true; a = b, to jump on false; a = 0, to jump on false by table 2
abbrev both_in_true : RootDerives One (Test 6 true (Bin And a b))
both_in_true = test (j3 (j6 refl get) (j6 refl get))

by_j3 : root_code both_in_true 9 1 ≡ LIP 2 ∷ jump_if false 1 ∷ LIP 3 ∷ jump_if true 9 ∷ label 1 ∷ []
by_j3 = refl

abbrev equal_in_false : RootDerives One (Test 6 false (Bin Equal a b))
equal_in_false = test (j6 refl (v12 get push))

by_j6 : root_code equal_in_false 9 1 ≡ LIP 2 ∷ LIP 3 ∷ X 10 ∷ jump_if false 9 ∷ []
by_j6 = refl

abbrev zero_in_false : RootDerives Two (Test 6 false (Bin Equal a (Num 0)))
zero_in_false = test (j8 {c = a} refl refl (v0 (v1 refl)))

by_j8 : root_code zero_in_false 9 1 ≡ LIP 2 ∷ jump_if true 9 ∷ []
by_j8 = refl

-- a := b; a!b := c
abbrev a_gets_b : RootDerives One (Assign 6 b (Frame 2))
a_gets_b = a1 refl get

by_a1 : root_code a_gets_b 0 1 ≡ LIP 3 ∷ Item (Operation functions.Store false P 2) ∷ []
by_a1 = refl

abbrev a_b_gets_c : RootDerives One (Assign 6 c (Bin Add a b))
a_b_gets_c = a2 refl refl (v6 refl get) get

by_a2 : root_code a_b_gets_c 0 1 ≡ LIP 2 ∷ AIP 3 ∷ SP 6 ∷ LIP 4 ∷ SIP 6 ∷ []
by_a2 = refl

-- f(1)!a := b: only A3 applies, since the call may write b
abbrev f_1_a : Exp
f_1_a = Bin Add f_1 a

by_a3 : RootDerives One (Assign 6 b f_1_a)
by_a3 = a3 refl get (v6 refl get_f_1)

not_by_a1 : RootNever One (Assign 6 b f_1_a) rule.A1
not_by_a1 (a1 h v) parts e = cc
not_by_a1 _ parts e = cc

not_by_a2 : RootNever One (Assign 6 b f_1_a) rule.A2
not_by_a2 (a2 h free x v) parts e = cc
not_by_a2 _ parts e = cc
