-- BLIB as a resolved section, written by hand. Its routines have the labels 1 to 6 in text order. It has no VALOF, and calls each of
-- its routines through the global.
use Rattle.std.specs.Prelude.{ℕ, true, false, List, [], ◌∷◌, Some}
use Rattle.bc_word.specs.declared.operator.Op.TheVariants.{And, Or, Add, Subtract, Divide, Remainder, Equal, NotEqual, Less, LessEqual, Greater, ShiftLeft, ShiftRight}
use Rattle.bc_core.specs.Tree.{Exp, Num, Frame, Glob, Load, Neg, Bin, Cond, Call, Args, no_argument, argument}
use Rattle.bc_core.specs.Commands.{Initial, Command, Block, block, Items, no_item, command, case, default, Routine, Body, Gives, Does, Code, Core}
use Rattle.bc_core.specs.Commands as c

-- the variable at an offset of the frame
abbrev pub at : ℕ → Exp
at k = Load (Frame k)

-- the arguments of a call
abbrev pub arguments : List Exp → Args
arguments [] = no_argument
arguments (e ∷ es) = argument e (arguments es)

-- a call of the routine in this global
abbrev pub calling : ℕ → List Exp → Exp
calling n es = Call (arguments es) (Load (Glob n))

-- commands in sequence
abbrev pub list : List Command → Items
list [] = no_item
list (x ∷ xs) = command x (list xs)

-- a block of commands without declarations
abbrev pub commands : List Command → Block
commands xs = block [] (list xs)

-- `WRCH(e)`
abbrev pub write_char : Exp → Command
write_char e = c.Call (calling 14 (e ∷ []))

-- `S!(I>>1)`, the word with byte I
abbrev pub word_with_byte : Exp
word_with_byte = Load (Bin Add (at 2) (Bin ShiftRight (at 3) (Num 1)))

-- `(I&1)=0`
abbrev pub is_high : Exp
is_high = Bin Equal (Bin And (at 3) (Num 1)) (Num 0)

-- a routine that sets this global
abbrev pub routine : ℕ → ℕ → Body → Routine
routine global parameters body = record { global = Some global; parameters = parameters; body = body }

-- GETBYTE
abbrev pub get_byte : Routine
get_byte = routine 20 2 (Gives (Cond is_high (Bin ShiftRight word_with_byte (Num 8)) (Bin And word_with_byte (Num 255))))

-- PUTBYTE
abbrev pub put_byte : Routine
put_byte = routine 21 3 (Does (block ((Initial (Bin Add (at 2) (Bin ShiftRight (at 3) (Num 1))) ∷ []) ∷ [])
    (list (c.Assign (Cond is_high (Bin Or (Bin And (Load (at 5)) (Num 255)) (Bin ShiftLeft (at 4) (Num 8)))
    (Bin Or (Bin And (Load (at 5)) (Num 65280)) (Bin And (at 4) (Num 255)))) (at 5) ∷ []))))

-- WRITES
abbrev pub write_s : Routine
write_s = routine 22 1 (Does (commands (c.For (Num 1) (calling 20 (at 2 ∷ Num 0 ∷ [])) 1
    (commands (write_char (calling 20 (at 2 ∷ at 3 ∷ [])) ∷ [])) ∷ [])))

-- WRITEN
abbrev pub write_n : Routine
write_n = routine 23 1 (Does (commands (
    c.If true (Bin Less (at 2) (Num 0)) (commands (
    write_char (Num 45)
    ∷ c.If true (Bin NotEqual (Bin Divide (at 2) (Num 10)) (Num 0)) (commands (c.Call (calling 23 (Neg (Bin Divide (at 2) (Num 10)) ∷ [])) ∷ []))
    ∷ write_char (Bin Subtract (Num 48) (Bin Remainder (at 2) (Num 10)))
    ∷ c.Return ∷ []))
    ∷ c.If true (Bin Greater (at 2) (Num 9)) (commands (c.Call (calling 23 (Bin Divide (at 2) (Num 10) ∷ [])) ∷ []))
    ∷ write_char (Bin Add (Num 48) (Bin Remainder (at 2) (Num 10))) ∷ [])))

-- NEWLINE
abbrev pub newline : Routine
newline = routine 24 0 (Does (commands (write_char (Num 10) ∷ [])))

-- `GETBYTE(F,I)`, the byte of the format at I
abbrev pub next : Exp
next = calling 20 (at 2 ∷ at 8 ∷ [])

-- adds 1 to the variable at this offset
abbrev pub more : ℕ → Command
more k = c.Assign (Bin Add (at k) (Num 1)) (Frame k)

-- the cases for the byte after a `%`
abbrev pub choices : Items
choices =
    case 78 (command (c.Call (calling 23 (Load (at 7) ∷ []))) (command c.EndCase
    (case 83 (command (c.Call (calling 22 (Load (at 7) ∷ []))) (command c.EndCase
    (case 67 (command (write_char (Load (at 7))) (command c.EndCase
    (default (command (write_char next) (command (c.Assign (Bin Subtract (at 7) (Num 1)) (Frame 7)) no_item)))))))))))

-- `K='%' & I<=N`
abbrev pub is_place : Exp
is_place = Bin And (Bin Equal (at 10) (Num 37)) (Bin LessEqual (at 8) (at 9))

-- one iteration of WRITEF's loop, after the declaration of K
abbrev pub round : List Command
round = more 8 ∷ c.Test is_place (commands (c.SwitchOn next choices ∷ more 7 ∷ more 8 ∷ [])) (commands (write_char (at 10) ∷ [])) ∷ []

-- WRITEF
abbrev pub write_f : Routine
write_f = routine 25 5 (Does (block ((Initial (Frame 3) ∷ Initial (Num 1) ∷ Initial (calling 20 (at 2 ∷ Num 0 ∷ [])) ∷ []) ∷ [])
    (list (c.While false (Bin Greater (at 8) (at 9)) (block ((Initial next ∷ []) ∷ []) (list round)) ∷ []))))

-- the section
abbrev pub library : Core
library = record { places = Code get_byte ∷ Code put_byte ∷ Code write_s ∷ Code newline ∷ Code write_n ∷ Code write_f ∷ []; valofs = [] }
