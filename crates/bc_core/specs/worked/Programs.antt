-- Worked examples: routines, tables, FINISH, streams, and sections that share globals.
use Rattle.std.specs.Prelude.{◌≡◌, ℕ, ◌+◌, true, false, List, [], ◌∷◌, Some, None, refl}
use Rattle.bc_word.specs.declared.operator.Op.TheVariants.{Add, Subtract, Multiply, Equal}
use Rattle.bc_core.specs.Tree.{Exp, Num, Frame, Glob, Place, Load, Bin, Cond, Valof}
use Rattle.bc_core.specs.Commands.{Initial, Vector, Command, block, no_item, command, label, Gives, Does, Core}
use Rattle.bc_core.specs.Commands as c
use Rattle.bc_core.specs.Meaning.{Result, Going}
use Rattle.bc_core.specs.worked.Written.{at, routine, run_sections, starting, run_with, run, printed, call, print, digit, list, commands, let_in, set_to, more, where_is}

-- ---- Worked examples

-- FINISH in a loop of a routine that is called in an expression
finish : run_with (routine None 0 (Does (commands (c.Repeat (commands (digit (Num 1) ∷ c.Finish ∷ [])) ∷ []))) ∷ []) []
    (commands (digit (Bin Add (Num 1) (call (Place 2) [])) ∷ [])) ≡ printed (49 ∷ [])
finish = refl

-- LET T = TABLE 7, 8, 9; T!2, and T!0 := T!1 + 1
table : run_with (c.Table (7 ∷ 8 ∷ 9 ∷ []) ∷ []) []
    (let_in (Initial (Place 2) ∷ [])
    (digit (Load (Bin Add (at 2) (Num 2))) ∷ c.Assign (Bin Add (Load (Bin Add (at 2) (Num 1))) (Num 1)) (at 2) ∷ digit (Load (at 2)) ∷ []))
    ≡ printed (57 ∷ 57 ∷ [])
table = refl

-- a static is one and the same cell in all calls
static : run_with (c.Static 3 ∷ routine None 0 (Does (commands (c.Assign (Bin Add (Load (Place 2)) (Num 1)) (Place 2) ∷ []))) ∷ []) []
    (commands (c.Call (call (Place 3) []) ∷ c.Call (call (Place 3) []) ∷ digit (Load (Place 2)) ∷ [])) ≡ printed (53 ∷ [])
static = refl

-- a routine's frame is above its caller's, and the caller's variables don't change
frames : run_with (routine None 1 (Does (let_in (Initial (Num 7) ∷ []) (set_to 2 (Num 8) ∷ digit (at 3) ∷ []))) ∷ []) []
    (let_in (Initial (Num 1) ∷ Initial (Num 2) ∷ []) (c.Call (call (Place 2) (at 3 ∷ [])) ∷ digit (at 2) ∷ digit (at 3) ∷ [])) ≡ printed (55 ∷ 49 ∷ 50 ∷ [])
frames = refl

-- a routine of `=` is called in one of BE, by its label: G(X) = X*X, and F(X) BE print G(X)
nested_routine :
    run_with (routine None 1 (Does (commands (digit (call (Place 3) (at 2 ∷ [])) ∷ []))) ∷ routine None 1 (Gives (Bin Multiply (at 2) (at 2))) ∷ []) []
    (commands (c.Call (call (Place 2) (Num 3 ∷ [])) ∷ [])) ≡ printed (57 ∷ [])
nested_routine = refl

-- RETURN leaves the routine, and its value is 0
returns : run_with (routine None 0 (Does (commands (c.Repeat (commands (c.Return ∷ [])) ∷ digit (Num 9) ∷ []))) ∷ []) []
    (commands (digit (call (Place 2) []) ∷ [])) ≡ printed (48 ∷ [])
returns = refl

-- RESULTIS leaves only the inner VALOF: VALOF $( LET X = VALOF RESULTIS 3; RESULTIS X + 1 $)
valof_in_valof : run_with []
    (record { level = 5; body = let_in (Initial (Valof 1) ∷ []) (c.ResultIs (Bin Add (at 5) (Num 1)) ∷ []) }
    ∷ record { level = 6; body = commands (c.ResultIs (Num 3) ∷ []) } ∷ [])
    (commands (digit (Valof 0) ∷ [])) ≡ printed (52 ∷ [])
valof_in_valof = refl

-- WRCH without an argument reads an unset cell; its extra arguments are dropped
extra_argument : run (commands (c.Call (call (Load (Glob 14)) (Num 65 ∷ Num 66 ∷ [])) ∷ [])) ≡ printed (65 ∷ [])
extra_argument = refl

-- WRCH writes the low byte
low_byte : run (commands (print (Num 321) ∷ [])) ≡ printed (65 ∷ [])
low_byte = refl

-- two sections: START calls global 100, which the second sets, and which sets global 101, a variable of both
abbrev first : Core
first = starting [] [] (commands (c.Assign (Num 4) (Glob 101) ∷ c.Call (call (Load (Glob 100)) []) ∷ digit (Load (Glob 101)) ∷ []))

abbrev second : Core
second = record { places = routine (Some 100) 0 (Does (commands (c.Assign (Bin Add (Load (Glob 101)) (Num 1)) (Glob 101) ∷ []))) ∷ []; valofs = [] }

one_global : run_sections (first ∷ second ∷ []) 100 ≡ printed (53 ∷ [])
one_global = refl

-- the order of the sections doesn't matter
other_order : run_sections (second ∷ first ∷ []) 100 ≡ printed (53 ∷ [])
other_order = refl

-- LET I = 0; A: $( LET X = 5; I := I + 1; IF I < 3 GOTO A; digit X + I $): X is set each time
out_of_a_block : run (block ((Initial (Num 0) ∷ []) ∷ []) (label 0 (list
    (c.Nested (let_in (Initial (Num 5) ∷ []) (more 2 1 ∷ where_is 2 1 (c.Goto 0) ∷ where_is 2 2 (c.Goto 0) ∷ digit (Bin Add (at 3) (at 2)) ∷ [])) ∷ []))))
    ≡ printed (56 ∷ [])
out_of_a_block = refl
