-- Worked examples: what takes a turn, and what takes none. Each run has exactly the turns that it needs, or one
-- fewer.
use Rattle.std.specs.Prelude.{ℕ, ◌+◌, ◌≡◌, true, [], ◌∷◌, None, refl}
use Rattle.bc_core.specs.Tree.{Num, Place}
use Rattle.bc_core.specs.Commands.{Initial, Block, block, no_item, command, case, label, Gives}
use Rattle.bc_core.specs.Commands as c
use Rattle.bc_core.specs.Meaning.{Result, Going}
use Rattle.bc_core.specs.worked.Written.{at, routine, run_sections, starting, printed, call, digit, commands, let_in, set_to, more}

-- ---- Worked examples

-- the body of START with a number of turns; F() = 1 has the label 2
abbrev in_turns : ℕ → Block → Result
in_turns n b = run_sections (starting (routine None 0 (Gives (Num 1)) ∷ []) [] b ∷ []) n

-- the body takes n turns, and no fewer
abbrev takes : ℕ → Block → Type 0
takes n b = (in_turns (n + 1) b ≡ printed []) × (in_turns n b ≡ Going ([] ∷ []))

-- the call of START takes one
nothing : takes 0 (commands [])
nothing = (refl, refl)

-- IF, TEST, SWITCHON, a block with a variable, and an assignment take no more
no_turn : takes 0 (let_in (Initial (Num 1) ∷ []) (c.If true (Num 1) (commands []) ∷ c.Test (Num 1) (commands []) (commands [])
    ∷ c.SwitchOn (Num 1) (case 1 no_item) ∷ c.Nested (let_in (Initial (Num 2) ∷ []) []) ∷ set_to 2 (Num 3) ∷ []))
no_turn = (refl, refl)

-- F(), and F(); F()
one_call : takes 1 (commands (c.Call (call (Place 2) []) ∷ []))
one_call = (refl, refl)

two_calls : takes 2 (commands (c.Call (call (Place 2) []) ∷ c.Call (call (Place 2) []) ∷ []))
two_calls = (refl, refl)

-- WHILE 0 DO $( $) has no round, so it doesn't go back
while_false : takes 0 (commands (c.While true (Num 0) (commands []) ∷ []))
while_false = (refl, refl)

-- LET X = 2; WHILE X DO X := X - 1 has two rounds, so it goes back to the test twice
while_twice : takes 2 (let_in (Initial (Num 2) ∷ []) (c.While true (at 2) (commands (more 2 65535 ∷ [])) ∷ []))
while_twice = (refl, refl)

-- $( $) REPEATWHILE 0, and BREAK REPEAT: the body is done once, and nothing goes back
repeat_once : takes 0 (commands (c.RepeatWhile (commands []) true (Num 0) ∷ []))
repeat_once = (refl, refl)

repeat_break : takes 0 (commands (c.Repeat (commands (c.Break ∷ [])) ∷ []))
repeat_break = (refl, refl)

-- LET X = 2; $( X := X - 1 $) REPEATWHILE X
repeat_twice : takes 1 (let_in (Initial (Num 2) ∷ []) (c.RepeatWhile (commands (more 2 65535 ∷ [])) true (at 2) ∷ []))
repeat_twice = (refl, refl)

-- LET X = 1; WHILE X DO $( X := 0; LOOP $): LOOP itself takes no turn
loop : takes 1 (let_in (Initial (Num 1) ∷ []) (c.While true (at 2) (commands (set_to 2 (Num 0) ∷ c.Loop ∷ [])) ∷ []))
loop = (refl, refl)

-- FOR I = 1 TO 0, 1 TO 1, 1 TO 3: a turn after each round, also before the test that ends the loop
for_none : takes 0 (commands (c.For (Num 1) (Num 0) 1 (commands []) ∷ []))
for_none = (refl, refl)

for_one : takes 1 (commands (c.For (Num 1) (Num 1) 1 (commands []) ∷ []))
for_one = (refl, refl)

for_three : takes 3 (commands (c.For (Num 1) (Num 3) 1 (commands []) ∷ []))
for_three = (refl, refl)

-- BREAK in the second round: one turn
for_break : takes 1 (commands (c.For (Num 1) (Num 9) 1 (commands (c.If true (Num 1) (commands []) ∷ c.SwitchOn (at 2) (case 2 (command c.Break no_item))
    ∷ [])) ∷ []))
for_break = (refl, refl)

-- GOTO L; L:
goto_turn : takes 1 (block [] (command (c.Goto 0) (label 0 no_item)))
goto_turn = (refl, refl)

-- L: a label that control passes takes none
label_passed : takes 0 (block [] (label 0 no_item))
label_passed = (refl, refl)

-- FINISH and RETURN take none
finish : takes 0 (commands (c.Finish ∷ []))
finish = (refl, refl)

returning : takes 0 (commands (c.Return ∷ []))
returning = (refl, refl)

-- what was printed before the turns ran out is kept: print 1; print 2, in two turns
half : in_turns 2 (commands (digit (Num 1) ∷ digit (Num 2) ∷ [])) ≡ Going ((49 ∷ []) ∷ [])
half = refl

-- FOR I = 32767 TO 32767 doesn't end: 32,767 is followed by -32,768, which isn't greater than the limit
for_ever : in_turns 9 (commands (c.For (Num 32767) (Num 32767) 1 (commands []) ∷ [])) ≡ Going ([] ∷ [])
for_ever = refl

-- FOR I = 32766 TO 32766 ends
for_once : takes 1 (commands (c.For (Num 32766) (Num 32766) 1 (commands []) ∷ []))
for_once = (refl, refl)
