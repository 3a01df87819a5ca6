-- Worked examples: the code of derivations is run on the machine from a small store, and gives the value that the meaning gives. The
-- prover computes each from the definitions.
use Rattle.std.specs.Prelude.{ℕ, ◌≡◌, ◌+◌, ◌-◌, ◌==◌, cond, true, false, List, [], ◌∷◌, ◌++◌, length, replicate, slice_index, slice_set, refl}
use Rattle.bc_word.specs.declared.operator.Op.TheVariants.{Add, Subtract, Multiply, Divide, Equal}
use Rattle.bc_text_items.specs.declared.item.Item.{Item}
use Rattle.bc_text_items.specs.declared.item.Item.TheVariants.{Operation}
use Rattle.bc_text_items.specs.declared.item.Base.TheVariants as bases
use Rattle.bc_text_items.specs.declared.item.Function.TheVariants as functions
use Rattle.bc_text_items.specs.Assembled.{assembled}
use Rattle.bc_machine_defs.specs.Streams.{Content}
use Rattle.bc_machine_defs.specs.StreamStart.{start_streams}
use Rattle.bc_machine_defs.specs.Step.{step}
use Rattle.bc_machine_defs.specs.Run.{runs}
use Rattle.bc_core.specs.Tree.{Exp, Num, Frame, Glob, Load, Bin, Call, no_argument, argument, Value, Test, Assign}
use Rattle.bc_core.specs.Store.{Cell, Dead, Set}
use Rattle.bc_core.specs.Outcome as outcomes
use Rattle.bc_core.specs.Outcome.{Done, Run, wild}
use Rattle.bc_core.specs.Value.{Context, value, truth, assign}
use Rattle.bc_rules_defs.specs.declared.rule.Table.TheVariants.{One, Two}
use Rattle.bc_rules_defs.specs.declared.rule.Mode.TheVariants.{Any, Push}
use Rattle.bc_rules_defs.specs.declared.rule.Aim.TheVariants.{Gets}
use Rattle.bc_rules_defs.specs.Rules as rules
use Rattle.bc_rules_defs.specs.Rules.{Derives, v0, v1, v6, v11, v12, v15, v16, v17, v18, v19, v22, j6, j8, no_more, one_more, RootDerives, test, a2}
use Rattle.bc_rules_defs.specs.Code.{code, root_code}
use Rattle.bc_gen_defs.specs.Bodies.{BodiesCode, fill}
use Rattle.bc_right.specs.steps.Leads.{machine}

abbrev no_stream : Content
no_stream = start_streams [] []

abbrev pub no_body : BodiesCode Item
no_body n s l f = ([], f)

-- the words of a root's code, where all labels have the same address
abbrev words_of : {T : _} {r : _} → (target : ℕ) → RootDerives T r → List ℕ
words_of target d = assembled (λ l. target) (fill (λ i. i) (λ n. 0) no_body (root_code d 0 1) 9).0

-- A after n instructions of this code at address 0, with the frame after the code
abbrev gives : (n : ℕ) → (code frame : List ℕ) → ℕ
gives n code frame = (runs n (machine 0 0 0 (length code) (code ++ frame) no_stream)).0.registers.a

-- variables at the offsets 2 to 5, and room above them
abbrev frame : List ℕ
frame = 0 ∷ 0 ∷ 2 ∷ 3 ∷ 9 ∷ 5 ∷ 0 ∷ 0 ∷ []

abbrev pub alone : Context
alone = record { place = λ m. m; call = λ r vs f. wild; valof = λ n p s. wild }

abbrev before : outcomes.State
before = record { cells = Dead ∷ Dead ∷ Set 2 ∷ Set 3 ∷ Set 9 ∷ Set 5 ∷ []; streams = no_stream; turns = 0 }

abbrev at : ℕ → Exp
at k = Load (Frame k)

abbrev push : {T : _} {k : ℕ} → Derives T (at k) (Gets Push)
push = v1 refl

abbrev get : {T : _} {k : ℕ} → Derives T (at k) (Gets Any)
get = v0 (v1 refl)

-- A and B after n instructions of this code at address 0, where A was 40, with the frame after the code
abbrev from_forty : {T : _} {e : Exp} {m : _} → (n : ℕ) → Derives T e (Gets m) → ℕ × ℕ
from_forty n d =
    let words = assembled (λ l. 0) (fill (λ i. i) (λ n. 0) no_body (code d 6 0 1) 9).0 in
    let now = (runs n (machine 40 0 0 (length words) (words ++ frame) no_stream)).0.registers in (now.a, now.b)

abbrev eleven : Exp
eleven = Bin Add (at 2) (at 4)

-- 2 + 9 in mode Push: B holds what A held before
abbrev in_push : Derives One eleven (Gets Push)
in_push = v6 refl push

pub in_push_keeps : from_forty 2 in_push ≡ (11, 40)
unfolding runs step
in_push_keeps = refl

-- in mode Any B may hold something else, here the first operand
abbrev in_any : Derives One eleven (Gets Any)
in_any = v12 get push

pub in_any_loses : from_forty 3 in_any ≡ (11, 2)
unfolding runs step
in_any_loses = refl

-- (2 + 3) * (9 - 5), by two derivations
abbrev product : Exp
product = Bin Multiply (Bin Add (at 2) (at 3)) (Bin Subtract (at 4) (at 5))

abbrev pushed : RootDerives One (Value 6 product)
pushed = rules.value (v12 (v0 (v6 refl push)) (v11 refl refl push))

abbrev held : RootDerives One (Value 6 product)
held = rules.value (v17 (v0 (v6 refl push)) (v0 (v11 refl refl push)))

pub product_means : value alone product 0 6 before ≡ Done 20 before
product_means = refl

pub pushed_gives : gives 6 (words_of 0 pushed) frame ≡ 20
unfolding runs step
pushed_gives = refl

pub held_gives : gives 10 (words_of 0 held) frame ≡ 20
unfolding runs step
held_gives = refl

-- (9 * 5) / (2 * 3), the right operand evaluated first
abbrev quotient : Exp
quotient = Bin Divide (Bin Multiply (at 4) (at 5)) (Bin Multiply (at 2) (at 3))

abbrev exchanged : RootDerives One (Value 6 quotient)
exchanged = rules.value (v16 refl (v12 get push) (v12 get push))

pub quotient_means : value alone quotient 0 6 before ≡ Done 7 before
quotient_means = refl

pub exchanged_gives : gives 9 (words_of 0 exchanged) frame ≡ 7
unfolding runs step
exchanged_gives = refl

-- the cell at 4 + 5 is set to 7; the address is evaluated first
abbrev addressed : RootDerives One (Assign 6 (at 5) (Bin Add (at 2) (at 3)))
addressed = a2 refl refl (v0 (v6 refl push)) get

abbrev far : outcomes.State
far = record { cells = replicate 7 Dead ++ Set 4 ∷ Set 5 ∷ Set 1 ∷ Set 7 ∷ []; streams = no_stream; turns = 0 }

abbrev far_set : outcomes.State
far_set = record { cells = replicate 7 Dead ++ Set 4 ∷ Set 5 ∷ Set 7 ∷ Set 7 ∷ []; streams = no_stream; turns = 0 }

pub assignment_means : assign alone (at 5) (Bin Add (at 2) (at 3)) 5 6 far ≡ Done tt far_set
assignment_means = refl

pub addressed_sets : slice_index (runs 5 (machine 0 0 0 5 (words_of 0 addressed ++ 0 ∷ 0 ∷ 4 ∷ 5 ∷ 1 ∷ 7 ∷ 0 ∷ 0 ∷ []) no_stream)).0.store 9 ≡ 7
unfolding runs step
addressed_sets = refl

-- nothing else changes except the cell at the level, which keeps the address 9
abbrev after_addressed : List ℕ → List ℕ
after_addressed frame = (runs 5 (machine 0 0 0 5 (words_of 0 addressed ++ frame) no_stream)).0.store

pub addressed_leaves : after_addressed (0 ∷ 0 ∷ 4 ∷ 5 ∷ 1 ∷ 7 ∷ 0 ∷ 0 ∷ []) ≡ words_of 0 addressed ++ 0 ∷ 0 ∷ 4 ∷ 5 ∷ 7 ∷ 7 ∷ 9 ∷ 0 ∷ []
unfolding runs step
addressed_leaves = refl

-- x + f() and f() + x, where f sets x from 7 to 5 and returns 3; x is global 2, f is global 1
abbrev x : Exp
x = Load (Glob 2)

abbrev f : Exp
f = Call no_argument (Load (Glob 1))

abbrev sets_x : Context
sets_x = record { place = λ m. m; call = λ r vs f st. Done 3 (record st { cells = slice_set st.cells 10 (Set 5) }); valof = λ n p s. wild }

abbrev globals : outcomes.State
globals = record { cells = replicate 9 Dead ++ Set 30 ∷ Set 7 ∷ []; streams = no_stream; turns = 0 }

abbrev globals_set : outcomes.State
globals_set = record { cells = replicate 9 Dead ++ Set 30 ∷ Set 5 ∷ []; streams = no_stream; turns = 0 }

pub x_first : value sets_x (Bin Add x f) 40 2 globals ≡ Done 10 globals_set
x_first = refl

pub f_first : value sets_x (Bin Add f x) 40 2 globals ≡ Done 8 globals_set
f_first = refl

-- `L5 SG2 L3 X4` at 30
abbrev f_code : List ℕ
f_code = assembled (λ l. 0) (Operation functions.Load false bases.Number 5 ∷ Operation functions.Store false bases.G 2
    ∷ Operation functions.Load false bases.Number 3 ∷ Operation functions.Execute false bases.Number 4 ∷ [])

-- the globals from 8 on, code at 20, f at 30, and a frame at 40
abbrev after_calls : (n : ℕ) → List ℕ → ℕ
after_calls n code =
    let store = replicate 8 0 ++ 0 ∷ 30 ∷ 7 ∷ [] ++ replicate 9 0 ++ code ++ f_code ++ replicate 16 0 in
    (runs n (machine 0 0 20 40 store no_stream)).0.registers.a

abbrev x_and_f : RootDerives One (Value 2 (Bin Add x f))
x_and_f = rules.value (v18 (v0 (v1 refl)) (v22 no_more (v0 (v1 refl))))

abbrev f_and_x : RootDerives One (Value 2 (Bin Add f x))
f_and_x = rules.value (v6 refl (v22 no_more (v0 (v1 refl))))

pub x_and_f_gives : after_calls 9 (words_of 0 x_and_f ++ replicate 5 0) ≡ 10
unfolding runs step
x_and_f_gives = refl

pub f_and_x_gives : after_calls 7 (words_of 0 f_and_x ++ replicate 7 0) ≡ 8
unfolding runs step
f_and_x_gives = refl

-- g(1) op h(2), where g adds 5 and h adds 1 to its argument; g is global 1, h is global 2, and the value of the left call is kept
-- during the right one
abbrev g_of_1 : Exp
g_of_1 = Call (argument (Num 1) no_argument) (Load (Glob 1))

abbrev h_of_2 : Exp
h_of_2 = Call (argument (Num 2) no_argument) (Load (Glob 2))

abbrev answers : (routine argument : ℕ) → ℕ
answers r y = y + cond (r == 30) 5 1

abbrev adds : Context
adds = record { place = λ m. m; call = λ r vs f. Done (answers r (slice_index vs 0)); valof = λ n p s. wild }

abbrev with_both : outcomes.State
with_both = record { cells = replicate 9 Dead ++ Set 30 ∷ Set 33 ∷ []; streams = no_stream; turns = 0 }

pub products_means : value adds (Bin Multiply g_of_1 h_of_2) 50 2 with_both ≡ Done 18 with_both
products_means = refl

pub quotients_means : value adds (Bin Divide g_of_1 h_of_2) 50 2 with_both ≡ Done 2 with_both
quotients_means = refl

pub differences_means : value adds (Bin Subtract g_of_1 h_of_2) 50 2 with_both ≡ Done 3 with_both
differences_means = refl

pub sums_means : value adds (Bin Add g_of_1 h_of_2) 50 2 with_both ≡ Done 9 with_both
sums_means = refl

-- `LIP2 A5 X4` at 30 and `LIP2 A1 X4` at 33
abbrev adds_to : ℕ → List ℕ
adds_to n = assembled (λ l. 0) (Operation functions.Load true bases.P 2 ∷ Operation functions.Add false bases.Number n
    ∷ Operation functions.Execute false bases.Number 4 ∷ [])

-- A after n instructions of this code at address 11, with g and h after it, and the frame at 50
abbrev of_calls : (n : ℕ) → List ℕ → ℕ
of_calls n code =
    let store = replicate 9 0 ++ 30 ∷ 33 ∷ code ++ replicate (19 - length code) 0 ++ adds_to 5 ++ adds_to 1 ++ replicate 30 0 in
    (runs n (machine 0 0 11 50 store no_stream)).0.registers.a

abbrev call_1 : {T : _} → Derives T g_of_1 (Gets Any)
call_1 = v22 (one_more (v0 (v1 refl)) no_more) (v0 (v1 refl))

abbrev call_2 : {T : _} → Derives T h_of_2 (Gets Any)
call_2 = v22 (one_more (v0 (v1 refl)) no_more) (v0 (v1 refl))

abbrev as_product : RootDerives One (Value 2 (Bin Multiply g_of_1 h_of_2))
as_product = rules.value (v15 refl call_1 call_2)

abbrev as_quotient : RootDerives One (Value 2 (Bin Divide g_of_1 h_of_2))
as_quotient = rules.value (v17 call_1 call_2)

abbrev as_difference : RootDerives One (Value 2 (Bin Subtract g_of_1 h_of_2))
as_difference = rules.value (v19 call_1 call_2)

abbrev as_sum : RootDerives One (Value 2 (Bin Add g_of_1 h_of_2))
as_sum = rules.value (v18 call_1 call_2)

pub as_product_gives : of_calls 17 (words_of 0 as_product) ≡ 18
unfolding runs step
as_product_gives = refl

pub as_quotient_gives : of_calls 19 (words_of 0 as_quotient) ≡ 2
unfolding runs step
as_quotient_gives = refl

pub as_difference_gives : of_calls 17 (words_of 0 as_difference) ≡ 3
unfolding runs step
as_difference_gives = refl

pub as_sum_gives : of_calls 16 (words_of 0 as_sum) ≡ 9
unfolding runs step
as_sum_gives = refl

-- (2 * 3) * (9 * 5) at the last level whose cell is addressed by an instruction of one word, and at the next level
abbrev squares : Exp
squares = Bin Multiply (Bin Multiply (at 2) (at 3)) (Bin Multiply (at 4) (at 5))

abbrev wide : List Cell
wide = before.cells ++ replicate 510 Dead

pub squares_means : value alone squares 0 512 (record before { cells = wide }) ≡ Done 270 (record before { cells = wide })
squares_means = refl

abbrev squares_at : (s : ℕ) → RootDerives One (Value s squares)
squares_at s = rules.value (v15 refl (v12 get push) (v12 get push))

abbrev wide_gives : (n : ℕ) → List ℕ → ℕ
wide_gives n code = (runs n (machine 0 0 600 0 (frame ++ replicate 592 0 ++ code) no_stream)).0.registers.a

pub squares_at_511_gives : (length (words_of 0 (squares_at 511)) ≡ 9) × (wide_gives 9 (words_of 0 (squares_at 511)) ≡ 270)
unfolding runs step
squares_at_511_gives = (refl, refl)

pub squares_at_512_gives : (length (words_of 0 (squares_at 512)) ≡ 11) × (wide_gives 9 (words_of 0 (squares_at 512)) ≡ 270)
unfolding runs step
squares_at_512_gives = (refl, refl)

-- a jump to 50 unless 2 = 0, by table 2: C is 50
abbrev is_zero : RootDerives Two (Test 6 false (Bin Equal (at 2) (Num 0)))
is_zero = test (j8 refl refl get)

pub zero_means : truth alone (Bin Equal (at 2) (Num 0)) 0 6 before ≡ Done false before
zero_means = refl

pub zero_jumps : (runs 2 (machine 0 0 0 3 (words_of 50 is_zero ++ frame) no_stream)).0.registers.c ≡ 50
unfolding runs step
zero_jumps = refl
