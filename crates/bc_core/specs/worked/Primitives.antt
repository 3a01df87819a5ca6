-- Worked examples: the primitives and their streams.
use Rattle.std.specs.Prelude.{ℕ, ◌+◌, ◌≡◌, List, [], ◌∷◌, refl}
use Rattle.bc_word.specs.declared.operator.Op.TheVariants.{Add}
use Rattle.bc_machine_defs.specs.StreamStart.{start_streams}
use Rattle.bc_core.specs.Tree.{Exp, Num, Frame, Glob, Place, Load, Bin}
use Rattle.bc_core.specs.Commands.{Initial, Command, Block, Core}
use Rattle.bc_core.specs.Commands as c
use Rattle.bc_core.specs.Map.{placed, standing}
use Rattle.bc_core.specs.Start.{cells_from}
use Rattle.bc_core.specs.Outcome.{Finished}
use Rattle.bc_core.specs.Meaning.{Result, Ended, Wild, entered_at, meaning_over}
use Rattle.bc_core.specs.worked.Written.{starting, call, print, digit, commands, let_in}

-- ---- Worked examples

-- The inputs are I with the bytes `hi` and J with the byte `k`, the outputs are O and P. The string "J" has the label
-- 2. START is called with 100 turns.
abbrev run : Block → Result
run b =
    let core : Core = starting (c.Text (74 ∷ []) ∷ []) [] b in
    let program = placed (core ∷ []) ((λ label. 545 + label) ∷ []) in
    let streams = start_streams ((73 ∷ [], 104 ∷ 105 ∷ []) ∷ (74 ∷ [], 107 ∷ []) ∷ []) ((79 ∷ []) ∷ (80 ∷ []) ∷ []) in
    meaning_over (cells_from 600 0 (standing program)) (entered_at program) 560 streams 100

abbrev does : List Command → Result
does cs = run (commands cs)

-- what is written to O and P
abbrev printed : List ℕ → List ℕ → Result
printed o p = Ended (o ∷ p ∷ []) Finished

abbrev primitive : ℕ → List Exp → Exp
primitive n es = call (Load (Glob n)) es

abbrev select_input : ℕ → Command
select_input n = c.Call (primitive 11 (Num n ∷ []))

abbrev select_output : ℕ → Command
select_output n = c.Call (primitive 12 (Num n ∷ []))

-- WRCH(RDCH())
abbrev echo : Command
echo = print (primitive 13 [])

abbrev end_read : Command
end_read = c.Call (primitive 17 [])

abbrev end_write : Command
end_write = c.Call (primitive 18 [])

-- the first output and the first input are selected when a run begins
first_ones : does (echo ∷ []) ≡ printed (104 ∷ []) []
first_ones = refl

-- SELECTOUTPUT(2); WRCH('A'), then the same with 3, which is no stream, and with 0
second_output : does (select_output 2 ∷ print (Num 65) ∷ []) ≡ printed [] (65 ∷ [])
second_output = refl

no_output : (does (select_output 3 ∷ print (Num 65) ∷ []) ≡ printed [] []) × (does (select_output 0 ∷ print (Num 65) ∷ []) ≡ printed [] [])
no_output = (refl, refl)

-- and back: SELECTOUTPUT(0); WRCH('A'); SELECTOUTPUT(1); WRCH('B')
back_again : does (select_output 0 ∷ print (Num 65) ∷ select_output 1 ∷ print (Num 66) ∷ []) ≡ printed (66 ∷ []) []
back_again = refl

-- SELECTINPUT(2): each input goes on where it was; prints h, k, i
inputs : does (echo ∷ select_input 2 ∷ echo ∷ select_input 1 ∷ echo ∷ []) ≡ printed (104 ∷ 107 ∷ 105 ∷ []) []
inputs = refl

-- RDCH() is -1 at the end, however often, and with nothing selected; its low byte is 255
at_the_end : does (select_input 2 ∷ echo ∷ echo ∷ echo ∷ []) ≡ printed (107 ∷ 255 ∷ 255 ∷ []) []
at_the_end = refl

no_input : does (select_input 9 ∷ echo ∷ []) ≡ printed (255 ∷ []) []
no_input = refl

-- this is the word 65,535: print RDCH() + 2
end_is_minus_one : does (select_input 9 ∷ digit (Bin Add (primitive 13 []) (Num 2)) ∷ []) ≡ printed (49 ∷ []) []
end_is_minus_one = refl

-- ENDREAD(): nothing is selected, and the input that was stays ended
ended_input : does (echo ∷ end_read ∷ echo ∷ select_input 1 ∷ echo ∷ select_input 2 ∷ echo ∷ []) ≡ printed (104 ∷ 255 ∷ 255 ∷ 107 ∷ []) []
ended_input = refl

-- WRCH('A'); ENDWRITE(); WRCH('B'); SELECTOUTPUT(1); WRCH('C'); SELECTOUTPUT(2); WRCH('D')
ended_output : does (print (Num 65) ∷ end_write ∷ print (Num 66) ∷ select_output 1 ∷ print (Num 67) ∷ select_output 2 ∷ print (Num 68) ∷ [])
    ≡ printed (65 ∷ []) (68 ∷ [])
ended_output = refl

-- FINDINPUT("J") is 2; FINDOUTPUT("J") is 0
finds : (does (digit (primitive 15 (Place 2 ∷ [])) ∷ []) ≡ printed (50 ∷ []) []) × (does (digit (primitive 16 (Place 2 ∷ [])) ∷ []) ≡ printed (48 ∷ []) [])
finds = (refl, refl)

-- the words of the name are read like any others: LET X = 330, which is 256 + 74, and FINDINPUT(@X) finds "J";
-- FINDINPUT(5) reads a cell that isn't live
finds_in_a_cell : run (let_in (Initial (Num 330) ∷ []) (digit (primitive 15 (Frame 2 ∷ [])) ∷ [])) ≡ printed (50 ∷ []) []
finds_in_a_cell = refl

finds_nowhere : does (c.Call (primitive 15 (Num 5 ∷ [])) ∷ []) ≡ Wild
finds_nowhere = refl

-- a name of two letters whose second word isn't live: LET X = 586, which is 2 * 256 + 74
finds_half : run (let_in (Initial (Num 586) ∷ []) (c.Call (primitive 15 (Frame 2 ∷ [])) ∷ [])) ≡ Wild
finds_half = refl

-- WRCH, the selections and the ends have the value 0
values : does (digit (primitive 14 (Num 65 ∷ [])) ∷ digit (primitive 11 (Num 1 ∷ [])) ∷ digit (primitive 12 (Num 1 ∷ [])) ∷ digit (primitive 17 []) ∷ [])
    ≡ printed (65 ∷ 48 ∷ 48 ∷ 48 ∷ 48 ∷ []) []
values = refl

-- SELECTINPUT(), SELECTOUTPUT(), WRCH(), FINDINPUT() and FINDOUTPUT() read a missing argument; RDCH(), ENDREAD() and
-- ENDWRITE() read none
abbrev without : ℕ → Result
without n = does (c.Call (primitive n []) ∷ [])

missing : (without 11 ≡ Wild) × (without 12 ≡ Wild) × (without 14 ≡ Wild) × (without 15 ≡ Wild) × (without 16 ≡ Wild)
missing = (refl, refl, refl, refl, refl)

none_read : (without 13 ≡ printed [] []) × (without 17 ≡ printed [] []) × (without 18 ≡ printed [] [])
none_read = (refl, refl, refl)

-- extra arguments are dropped: RDCH(1), WRCH('A', 'B'), ENDWRITE(1)
further : (does (print (primitive 13 (Num 1 ∷ [])) ∷ []) ≡ printed (104 ∷ []) []) × (does (c.Call (primitive 14 (Num 65 ∷ Num 66 ∷ [])) ∷ [])
    ≡ printed (65 ∷ []) [])
    × (does (c.Call (primitive 18 (Num 1 ∷ [])) ∷ print (Num 65) ∷ []) ≡ printed [] [])
further = (refl, refl, refl)
