-- Worked examples: the words that each form takes besides those of its parts, and the words of a section with roots.
use Rattle.std.specs.Prelude.{◌≡◌, ℕ, true, false, [], ◌∷◌, Some, refl}
use Rattle.bc_core.specs.Tree.{Num, Frame, Load, Valof}
use Rattle.bc_core.specs.Commands.{Initial, Vector, Command, Block, block, no_item, command, case, default, label, Gives, Does}
use Rattle.bc_core.specs.Commands as commands
use Rattle.bc_gen_defs.specs.Size.{Words, words_of_command, words_of_block, words_of_body, words_of_place, section_size}

-- ---- Worked examples

-- each root takes 10 words here
abbrev ten : Words
ten r = 10

abbrev words_of : Command → ℕ
words_of c = words_of_command ten c 2

abbrev nothing : Block
nothing = block [] no_item

-- a call, `x := 1`, IF, UNLESS, REPEATWHILE: no further words
no_word : (words_of (commands.Call (Num 1)) ≡ 10) × (words_of (commands.Assign (Num 1) (Frame 2)) ≡ 10) × (words_of (commands.If true (Num 1) nothing) ≡ 10)
    × (words_of (commands.If false (Num 1) nothing) ≡ 10) × (words_of (commands.RepeatWhile nothing true (Num 1)) ≡ 10)
no_word = (refl, refl, refl, refl, refl)

-- TEST, WHILE, REPEAT, RESULTIS: two words for a jump
one_jump : (words_of (commands.Test (Num 1) nothing nothing) ≡ 12) × (words_of (commands.While true (Num 1) nothing)
    ≡ 12) × (words_of (commands.Repeat nothing) ≡ 2)
    × (words_of (commands.ResultIs (Num 1)) ≡ 12)
one_jump = (refl, refl, refl, refl)

-- FOR: a jump, and four roots: start, limit, test and step
for_words : words_of (commands.For (Num 1) (Num 9) 1 nothing) ≡ 42
for_words = refl

-- SWITCHON with no CASE, with two, and with DEFAULT
switch_words : (words_of (commands.SwitchOn (Num 1) no_item) ≡ 13) × (words_of (commands.SwitchOn (Num 1) (case 3 (case 4 no_item))) ≡ 17)
    × (words_of (commands.SwitchOn (Num 1) (case 3 (case 4 (default no_item)))) ≡ 17)
switch_words = (refl, refl, refl)

-- BREAK, LOOP, ENDCASE, GOTO, RETURN, FINISH
jumps : (words_of commands.Break ≡ 2) × (words_of commands.Loop ≡ 2) × (words_of commands.EndCase ≡ 2) × (words_of (commands.Goto 1)
    ≡ 2) × (words_of commands.Return ≡ 2)
    × (words_of commands.Finish ≡ 1)
jumps = (refl, refl, refl, refl, refl, refl)

-- `$( LET A = 1 AND V = VEC 3; L: 1() $)`: one root each, and no word for the label
block_words : words_of_block ten (block ((Initial (Num 1) ∷ Vector 3 ∷ []) ∷ []) (label 1 (command (commands.Call (Num 1)) no_item))) 2 ≡ 30
block_words = refl

-- `F() = 1` and `F() BE 1()`
bodies : (words_of_body ten (Gives (Num 1)) 2 ≡ 11) × (words_of_body ten (Does (block [] (command (commands.Call (Num 1)) no_item))) 2 ≡ 12)
bodies = (refl, refl)

-- a static, a table of three, "", "A", "AB": a string's bytes are packed two to a word, beginning with its length
data_words : (words_of_place ten (commands.Static 7) ≡ 1) × (words_of_place ten (commands.Table (1 ∷ 2 ∷ 3 ∷ []))
    ≡ 3) × (words_of_place ten (commands.Text []) ≡ 1)
    × (words_of_place ten (commands.Text (65 ∷ [])) ≡ 1) × (words_of_place ten (commands.Text (65 ∷ 66 ∷ [])) ≡ 2)
data_words = (refl, refl, refl, refl, refl)

-- `LET START() BE $( LET X = VALOF $( LET Y = VALOF RESULTIS 5; RESULTIS Y $) $)`: four roots, a jump for each RESULTIS, `L0` after
-- each VALOF's body, and `L0 X4` after the routine's
nested : section_size ten (record {
  places = commands.Code (record { global = Some 1; parameters = 0; body = Does (block ((Initial (Valof 0) ∷ []) ∷ []) no_item) }) ∷ [];
  valofs =
      record { level = 3; body = block ((Initial (Valof 1) ∷ []) ∷ []) (command (commands.ResultIs (Load (Frame 3))) no_item) }
      ∷ record { level = 4; body = block [] (command (commands.ResultIs (Num 5)) no_item) } ∷ [];
}) ≡ 48
nested = refl
