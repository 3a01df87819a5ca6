-- Worked examples: loops with BREAK and LOOP, and choices.
use Rattle.std.specs.Prelude.{◌≡◌, ℕ, true, false, List, [], ◌∷◌, refl}
use Rattle.bc_core.specs.Tree.{Exp, Num, Cond}
use Rattle.bc_core.specs.Commands.{Initial, Command, Items, no_item, command, case, default}
use Rattle.bc_core.specs.Commands as c
use Rattle.bc_core.specs.Meaning.{Result}
use Rattle.bc_core.specs.worked.Written.{at, run, printed, digit, commands, let_in, more, where_is, below}

-- ---- Worked examples

-- LET X = 0, and a loop whose body adds 1 to X, leaves when it is 4, goes on when it is 2, and prints it
abbrev body : List Command
body = more 2 1 ∷ where_is 2 4 c.Break ∷ where_is 2 2 c.Loop ∷ digit (at 2) ∷ []

abbrev counting : Command → Result
counting loop = run (let_in (Initial (Num 0) ∷ []) (loop ∷ digit (at 2) ∷ []))

-- prints 1, 3, and after the loop 4
abbrev one_three_four : List ℕ
one_three_four = 49 ∷ 51 ∷ 52 ∷ []

while_loop : counting (c.While true (Num 1) (commands body)) ≡ printed one_three_four
while_loop = refl

until_loop : counting (c.While false (Num 0) (commands body)) ≡ printed one_three_four
until_loop = refl

repeat_loop : counting (c.Repeat (commands body)) ≡ printed one_three_four
repeat_loop = refl

repeat_while_loop : counting (c.RepeatWhile (commands body) true (Num 1)) ≡ printed one_three_four
repeat_while_loop = refl

repeat_until_loop : counting (c.RepeatWhile (commands body) false (Num 0)) ≡ printed one_three_four
repeat_until_loop = refl

-- LOOP in a REPEATWHILE goes to its condition, which ends the loop
loop_to_condition : counting (c.RepeatWhile (commands (more 2 1 ∷ c.Loop ∷ [])) true (below 2 3)) ≡ printed (51 ∷ [])
loop_to_condition = refl

-- BREAK leaves only the innermost loop
inner_break : counting (c.While true (below 2 2) (commands (more 2 1 ∷ c.Repeat (commands (c.Break ∷ [])) ∷ digit (at 2) ∷ [])))
    ≡ printed (49 ∷ 50 ∷ 50 ∷ [])
inner_break = refl

abbrev for_loop : (from to by : ℕ) → List Command → Result
for_loop from to by body = run (commands (c.For (Num from) (Num to) by (commands body) ∷ []))

-- BY 3, and BY -3
by_three : for_loop 1 8 3 (digit (at 2) ∷ []) ≡ printed (49 ∷ 52 ∷ 55 ∷ [])
by_three = refl

by_minus_three : for_loop 8 1 65533 (digit (at 2) ∷ []) ≡ printed (56 ∷ 53 ∷ 50 ∷ [])
by_minus_three = refl

-- BY 0 with a body that leaves
by_zero : for_loop 5 5 0 (digit (at 2) ∷ c.Break ∷ []) ≡ printed (53 ∷ [])
by_zero = refl

-- TEST v THEN digit 1 OR digit 2
abbrev tested : ℕ → Result
tested v = run (commands (c.Test (Num v) (commands (digit (Num 1) ∷ [])) (commands (digit (Num 2) ∷ [])) ∷ []))

test_of_true : tested 7 ≡ printed (49 ∷ [])
test_of_true = refl

test_of_false : tested 0 ≡ printed (50 ∷ [])
test_of_false = refl

unless : run (commands (c.If false (Num 0) (commands (digit (Num 3) ∷ [])) ∷ [])) ≡ printed (51 ∷ [])
unless = refl

-- v -> 1, 2
abbrev chosen : ℕ → Result
chosen v = run (commands (digit (Cond (Num v) (Num 1) (Num 2)) ∷ []))

chosen_of_true : chosen 65535 ≡ printed (49 ∷ [])
chosen_of_true = refl

chosen_of_false : chosen 0 ≡ printed (50 ∷ [])
chosen_of_false = refl

-- SWITCHON v INTO $( DEFAULT: digit 0; CASE 1: digit 1; ENDCASE; CASE 2: digit 2 $)
abbrev switched : ℕ → Result
switched v =
    run (commands (c.SwitchOn (Num v) (default (command (digit (Num 0)) (case 1 (command (digit (Num 1))
    (command c.EndCase (case 2 (command (digit (Num 2)) no_item))))))) ∷ []))

by_default : switched 9 ≡ printed (48 ∷ 49 ∷ [])
by_default = refl

by_first_case : switched 1 ≡ printed (49 ∷ [])
by_first_case = refl

by_last_case : switched 2 ≡ printed (50 ∷ [])
by_last_case = refl

-- ENDCASE in a loop within a SWITCHON leaves both
endcase_in_a_loop :
    run (commands (c.SwitchOn (Num 1) (case 1 (command (c.Repeat (commands (digit (Num 1) ∷ c.EndCase ∷ []))) (command (digit (Num 2)) no_item))) ∷ []))
    ≡ printed (49 ∷ [])
endcase_in_a_loop = refl
