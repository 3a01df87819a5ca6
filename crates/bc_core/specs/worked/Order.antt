-- Worked examples: the order in which the parts of expressions and commands are evaluated, shown by what they print.
use Rattle.std.specs.Prelude.{ℕ, ◌≡◌, true, List, [], ◌∷◌, None, refl}
use Rattle.bc_word.specs.declared.operator.Op.TheVariants.{Add, And}
use Rattle.bc_core.specs.Tree.{Exp, Num, Frame, Place, Bin, Cond, Valof}
use Rattle.bc_core.specs.Commands.{Initial, Command, Block, Gives}
use Rattle.bc_core.specs.Commands as c
use Rattle.bc_core.specs.Meaning.{Result}
use Rattle.bc_core.specs.worked.Written.{at, routine, run_with, printed, call, digit, commands, let_in}

-- ---- Worked examples

-- A() = VALOF $( print 1; RESULTIS 1 $), B() is the same with 2, F(X) = X, G() = VALOF $( print 3; RESULTIS F $)
abbrev told : ℕ → Exp → c.Valof
told n e = record { level = 2; body = commands (digit (Num n) ∷ c.ResultIs e ∷ []) }

abbrev run_among : Block → Result
run_among b =
    run_with (routine None 0 (Gives (Valof 0)) ∷ routine None 0 (Gives (Valof 1)) ∷ routine None 1 (Gives (at 2)) ∷ routine None 0 (Gives (Valof 2)) ∷ [])
    (told 1 (Num 1) ∷ told 2 (Num 2) ∷ told 3 (Place 4) ∷ []) b

abbrev a : Exp
a = call (Place 2) []

abbrev b : Exp
b = call (Place 3) []

abbrev does : List Command → Result
does cs = run_among (commands cs)

-- A() + B(), and B() + A()
sums : (does (digit (Bin Add a b) ∷ []) ≡ printed (49 ∷ 50 ∷ 51 ∷ [])) × (does (digit (Bin Add b a) ∷ []) ≡ printed (50 ∷ 49 ∷ 51 ∷ []))
sums = (refl, refl)

-- LET X, Y = 0, 0; (@X)!A() := B(): the value is computed before the address, and Y is 2 afterwards
assigned : run_among (let_in (Initial (Num 0) ∷ Initial (Num 0) ∷ []) (c.Assign b (Bin Add (Frame 2) a) ∷ digit (at 3) ∷ [])) ≡ printed (50 ∷ 49 ∷ 50 ∷ [])
assigned = refl

-- F(A(), B()): both arguments are computed, and the second one is dropped
arguments_in_order : does (digit (call (Place 4) (a ∷ b ∷ [])) ∷ []) ≡ printed (49 ∷ 50 ∷ 49 ∷ [])
arguments_in_order = refl

-- (G())(A()): the routine is computed after the arguments
routine_last : does (digit (call (call (Place 5) []) (a ∷ [])) ∷ []) ≡ printed (49 ∷ 51 ∷ 49 ∷ [])
routine_last = refl

-- 1 -> A(), B(), and 0 -> A(), B(): only one of the two is evaluated
choices : (does (digit (Cond (Num 1) a b) ∷ []) ≡ printed (49 ∷ 49 ∷ [])) × (does (digit (Cond (Num 0) a b) ∷ []) ≡ printed (50 ∷ 50 ∷ []))
choices = (refl, refl)

-- IF 0 & A() DO .. doesn't evaluate A(); the value of 0 & A() does
test_of_and : does (c.If true (Bin And (Num 0) a) (commands []) ∷ []) ≡ printed []
test_of_and = refl

value_of_and : does (digit (Bin And (Num 0) a) ∷ []) ≡ printed (49 ∷ 48 ∷ [])
value_of_and = refl

-- the values of `->` aren't in a test position: IF 1 -> 0 & A(), 0 DO ..
part_of_test : does (c.If true (Cond (Num 1) (Bin And (Num 0) a) (Num 0)) (commands []) ∷ []) ≡ printed (49 ∷ [])
part_of_test = refl

-- FOR I = A() TO B() DO print I: the start, the limit, and then each I; start and limit aren't computed again
for_in_order : does (c.For a b 1 (commands (digit (at 2) ∷ [])) ∷ []) ≡ printed (49 ∷ 50 ∷ 49 ∷ 50 ∷ [])
for_in_order = refl

-- LET X, Y = A(), B(), and LET X = B() AND Y = A(): in text order
initialisers : (run_among (let_in (Initial a ∷ Initial b ∷ []) []) ≡ printed (49 ∷ 50 ∷ [])) × (run_among (let_in (Initial b ∷ Initial a ∷ []) [])
    ≡ printed (50 ∷ 49 ∷ []))
initialisers = (refl, refl)

-- LET X = 1 AND Y = X: X is set before Y
x_first : run_among (let_in (Initial (Num 1) ∷ Initial (at 2) ∷ []) (digit (at 3) ∷ [])) ≡ printed (49 ∷ [])
x_first = refl
