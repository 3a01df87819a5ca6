-- The routines of EXTLIB, resolved, in text order. A routine that is a VALOF has its block beside it, as `.._body`.
use Rattle.std.specs.Prelude.{ℕ, true, false, List, [], ◌∷◌, None}
use Rattle.bc_word.specs.declared.operator.Op.TheVariants.{And, Or, Add, Subtract, Multiply, Divide, Equal, NotEqual, Less, LessEqual, Greater, GreaterEqual, ShiftLeft, ShiftRight, NotEquivalent}
use Rattle.bc_core.specs.Tree.{Exp, Num, Frame, Glob, Place, Load, Neg, Not, Bin, Cond, Valof}
use Rattle.bc_core.specs.Tree as t
use Rattle.bc_core.specs.Commands.{Initial, Vector, Block, block, no_item, command, case, default, Routine, Body, Gives, Does}
use Rattle.bc_core.specs.Commands as c
use Rattle.bc_library_laws.specs.Library.{at, arguments, calling, list, commands, write_char, routine}

-- a routine that sets no global
abbrev pub private : ℕ → Body → Routine
private parameters body = record { global = None; parameters = parameters; body = body }

-- a call of the routine with this label
abbrev pub own : ℕ → List Exp → Exp
own label es = t.Call (arguments es) (Place label)

-- `e!k`
abbrev pub cell : Exp → Exp → Exp
cell e k = Load (Bin Add e k)

-- the static with this label
abbrev pub static : ℕ → Exp
static label = Load (Place label)

-- KEPT
abbrev pub kept_body : Block
kept_body = block ((Initial (Place 7) ∷ []) ∷ []) (list (
    c.ResultIs (Cond (Bin Or (Bin Less (at 2) (Num 1)) (Bin Greater (at 2) (Num 31))) (Num 0) (Bin Add (at 3) (Bin Multiply (Num 4) (at 2)))) ∷ []))

abbrev pub kept : Routine
kept = private 1 (Gives (Valof 0))

-- RDCH
abbrev pub rdch_body : Block
rdch_body = block ((Initial (own 6 (static 1 ∷ [])) ∷ []) ∷ []) (list (
    c.If true (Bin Equal (at 2) (Num 0)) (commands (c.ResultIs (calling 13 []) ∷ []))
    ∷ c.Test (cell (at 2) (Num 1)) (commands (c.Assign (Num 0) (Bin Add (at 2) (Num 1)) ∷ [])) (commands (c.Assign (calling 13 []) (at 2) ∷ []))
    ∷ c.ResultIs (Load (at 2)) ∷ []))

abbrev pub rdch : Routine
rdch = routine 40 0 (Gives (Valof 1))

-- UNRDCH
abbrev pub unrdch_body : Block
unrdch_body = block ((Initial (own 6 (static 1 ∷ [])) ∷ []) ∷ []) (list (
    c.If true (Bin Equal (at 2) (Num 0)) (commands (c.ResultIs (Num 0) ∷ []))
    ∷ c.If true (Bin Or (Bin Equal (Load (at 2)) (Num 65534)) (cell (at 2) (Num 1))) (commands (c.ResultIs (Num 0) ∷ []))
    ∷ c.Assign (Num 65535) (Bin Add (at 2) (Num 1))
    ∷ c.ResultIs (Num 65535) ∷ []))

abbrev pub unrdch : Routine
unrdch = routine 39 0 (Gives (Valof 2))

-- SELECTINPUT
abbrev pub selectinput : Routine
selectinput = routine 41 1 (Does (commands (c.Call (calling 11 (at 2 ∷ [])) ∷ c.Assign (at 2) (Place 1) ∷ [])))

-- SELECTOUTPUT
abbrev pub selectoutput : Routine
selectoutput = routine 42 1 (Does (commands (c.Call (calling 12 (at 2 ∷ [])) ∷ c.Assign (at 2) (Place 2) ∷ [])))

-- INPUT
abbrev pub input : Routine
input = routine 43 0 (Gives (static 1))

-- OUTPUT
abbrev pub output : Routine
output = routine 44 0 (Gives (static 2))

-- ENDREAD
abbrev pub endread : Routine
endread = routine 45 0 (Does (block ((Initial (own 6 (static 1 ∷ [])) ∷ []) ∷ []) (list (
    c.If false (Bin Equal (at 2) (Num 0)) (commands (
    c.Nested (commands (
    c.Assign (Num 65534) (Bin Add (at 2) (Num 0))
    ∷ c.Assign (Num 0) (Bin Add (at 2) (Num 1))
    ∷ c.Assign (Num 65535) (Bin Add (at 2) (Num 2)) ∷ [])) ∷ []))
    ∷ c.Call (calling 17 [])
    ∷ c.Assign (Num 0) (Place 1) ∷ []))))

-- ENDWRITE
abbrev pub endwrite : Routine
endwrite = routine 46 0 (Does (commands (c.Call (calling 18 []) ∷ c.Assign (Num 0) (Place 2) ∷ [])))

-- NAMEAGAIN
abbrev pub nameagain_body : Block
nameagain_body = block ((Initial (calling 20 (at 2 ∷ Num 0 ∷ [])) ∷ []) ∷ []) (list (
    c.For (Num 0) (Bin ShiftRight (Bin Add (at 5) (Num 2)) (Num 1)) 1 (commands (c.Assign (Num 0) (Bin Add (at 4) (at 6)) ∷ []))
    ∷ c.For (Num 1) (at 5) 1 (commands (c.Call (calling 21 (at 4 ∷ at 6 ∷ calling 20 (at 2 ∷ at 6 ∷ []) ∷ [])) ∷ []))
    ∷ c.Call (calling 21 (at 4 ∷ Bin Add (at 5) (Num 1) ∷ Num 46 ∷ []))
    ∷ c.Call (calling 21 (at 4 ∷ Bin Add (at 5) (Num 2) ∷ Bin Add (Num 48) (at 3) ∷ []))
    ∷ c.Call (calling 21 (at 4 ∷ Num 0 ∷ Bin Add (at 5) (Num 2) ∷ []))
    ∷ c.ResultIs (at 4) ∷ []))

abbrev pub nameagain : Routine
nameagain = private 3 (Gives (Valof 3))

-- FINDINPUT
abbrev pub findinput_body : Block
findinput_body = block ((Vector 127 ∷ Initial (calling 15 (at 2 ∷ [])) ∷ []) ∷ []) (list (
    c.For (Num 2) (Bin Add (Num 9) (Num 1)) 1 (block ((Initial (own 6 (at 132 ∷ [])) ∷ Initial (Num 0) ∷ []) ∷ []) (list (
    c.If true (Bin Equal (at 135) (Num 0)) (commands (c.ResultIs (at 132) ∷ []))
    ∷ c.Assign (at 2) (Bin Add (at 135) (Num 3))
    ∷ c.If true
    (Bin Or (Bin Or (Not (cell (at 135) (Num 2))) (Bin Greater (at 133) (Num 9))) (Bin Greater (calling 20 (at 2 ∷ Num 0 ∷ [])) (Num 253))) (commands (
    c.ResultIs (at 132) ∷ []))
    ∷ c.Assign (calling 15 (own 16 (at 2 ∷ at 133 ∷ at 3 ∷ []) ∷ [])) (Frame 136)
    ∷ c.If true (Bin Equal (at 136) (Num 0)) (commands (c.ResultIs (at 132) ∷ []))
    ∷ c.Assign (at 136) (Frame 132) ∷ [])))
    ∷ c.ResultIs (at 132) ∷ []))

abbrev pub findinput : Routine
findinput = routine 92 1 (Gives (Valof 4))

-- ISFRESH
abbrev pub isfresh_body : Block
isfresh_body = block ((Initial (own 6 (at 2 ∷ [])) ∷ []) ∷ []) (list (
    c.ResultIs (Cond (Bin Equal (at 3) (Num 0)) (Num 65535) (Not (cell (at 3) (Num 2)))) ∷ []))

abbrev pub isfresh : Routine
isfresh = private 1 (Gives (Valof 5))

-- REWIND
abbrev pub rewind : Routine
rewind = routine 93 0 (Does (block ((Initial (own 6 (static 1 ∷ [])) ∷ Initial (Num 0) ∷ Initial (Num 0) ∷ []) ∷ []) (list (
    c.If true (Bin Equal (static 1) (Num 0)) (commands (c.Return ∷ []))
    ∷ c.If false (Bin Equal (at 2) (Num 0)) (commands (
    c.If true (Bin And (Bin Equal (Load (at 2)) (Num 65534)) (Not (cell (at 2) (Num 2)))) (commands (c.Return ∷ []))
    ∷ c.Assign
    (Cond (Bin And (Bin Equal (cell (at 2) (Num 3)) (Num 0)) (Bin Equal (static 1) (Num 1))) (Place 20) (cell (at 2) (Num 3))) (Frame 3) ∷ []))
    ∷ c.If false (Bin Equal (at 3) (Num 0)) (block ((Initial (Num 0) ∷ []) ∷ []) (list (
    c.Call (calling 45 [])
    ∷ c.Assign (calling 92 (at 3 ∷ [])) (Frame 5)
    ∷ c.If true (own 18 (at 5 ∷ [])) (commands (c.Call (calling 41 (at 5 ∷ [])) ∷ c.Return ∷ [])) ∷ [])))
    ∷ c.Call (calling 42 (Num 1 ∷ []))
    ∷ c.Test (Bin Equal (at 3) (Num 0)) (commands (c.Call (calling 22 (Place 21 ∷ [])) ∷ [])) (commands (
    c.Call (calling 30 (Place 22 ∷ at 3 ∷ at 3 ∷ [])) ∷ []))
    ∷ c.Assign (Bin Divide (Num 1) (at 4)) (Frame 4) ∷ []))))

-- READN
abbrev pub readn_body : Block
readn_body = block ((Initial (Num 0) ∷ Initial (Num 0) ∷ []) ∷ []) (list (
    c.RepeatWhile (commands (c.Assign (calling 40 []) (Glob 38) ∷ [])) true
    (Bin Or
    (Bin Or (Bin Or (Bin Or (Bin Equal (Load (Glob 38)) (Num 32)) (Bin Equal (Load (Glob 38)) (Num 9))) (Bin Equal (Load (Glob 38)) (Num 10)))
    (Bin Equal (Load (Glob 38)) (Num 13))) (Bin Equal (Load (Glob 38)) (Num 12)))
    ∷ c.If true (Bin Or (Bin Equal (Load (Glob 38)) (Num 45)) (Bin Equal (Load (Glob 38)) (Num 43))) (commands (
    c.Assign (Bin Equal (Load (Glob 38)) (Num 45)) (Frame 3)
    ∷ c.Assign (calling 40 []) (Glob 38) ∷ []))
    ∷ c.While true (Bin And (Bin LessEqual (Num 48) (Load (Glob 38))) (Bin LessEqual (Load (Glob 38)) (Num 57))) (commands (
    c.Assign (Bin Subtract (Bin Add (Bin Multiply (Num 10) (at 2)) (Load (Glob 38))) (Num 48)) (Frame 2)
    ∷ c.Assign (calling 40 []) (Glob 38) ∷ []))
    ∷ c.ResultIs (Cond (at 3) (Neg (at 2)) (at 2)) ∷ []))

abbrev pub readn : Routine
readn = routine 37 0 (Gives (Valof 6))

-- PUTNUMBER
abbrev pub putnumber : Routine
putnumber = private 3 (Does (block ((Vector 4 ∷ []) ∷ (Initial (Num 0) ∷ []) ∷ []) (list (
    c.RepeatWhile (commands (
    c.Nested (block ((Initial (Bin Divide (Bin ShiftRight (at 2) (Num 1)) (Num 5)) ∷ []) ∷ []) (list (
    c.Assign (Bin Subtract (at 2) (Bin Multiply (Num 10) (at 12))) (Bin Add (at 5) (at 11))
    ∷ c.Assign (Bin Add (at 11) (Num 1)) (Frame 11)
    ∷ c.Assign (at 12) (Frame 2) ∷ []))) ∷ [])) false (Bin Equal (at 2) (Num 0))
    ∷ c.For (Bin Add (Bin Add (at 11) (Cond (at 3) (Num 1) (Num 0))) (Num 1)) (at 4) 1 (commands (write_char (Num 32) ∷ []))
    ∷ c.If true (at 3) (commands (write_char (Num 45) ∷ []))
    ∷ c.For (Bin Subtract (at 11) (Num 1)) (Num 0) 65535 (commands (write_char (Bin Add (Num 48) (cell (at 5) (at 12))) ∷ [])) ∷ []))))

-- WRITED
abbrev pub writed : Routine
writed = routine 31 2 (Does (commands (
    c.Test (Bin Less (at 2) (Num 0)) (commands (c.Call (own 24 (Neg (at 2) ∷ Num 65535 ∷ at 3 ∷ [])) ∷ [])) (commands (
    c.Call (own 24 (at 2 ∷ Num 0 ∷ at 3 ∷ [])) ∷ [])) ∷ [])))

-- WRITEU
abbrev pub writeu : Routine
writeu = routine 32 2 (Does (commands (c.Call (own 24 (at 2 ∷ Num 0 ∷ at 3 ∷ [])) ∷ [])))

-- WRITEOCT
abbrev pub writeoct : Routine
writeoct = routine 33 2 (Does (commands (
    c.For (Bin Subtract (at 3) (Num 1)) (Num 0) 65535 (commands (
    write_char (Bin Add (Num 48) (Bin And (Bin ShiftRight (at 2) (Bin Multiply (Num 3) (at 4))) (Num 7))) ∷ [])) ∷ [])))

-- WRITEO
abbrev pub writeo : Routine
writeo = routine 94 1 (Does (commands (
    c.If false (Bin Equal (Bin ShiftRight (at 2) (Num 3)) (Num 0)) (commands (c.Call (calling 94 (Bin ShiftRight (at 2) (Num 3) ∷ [])) ∷ []))
    ∷ write_char (Bin Add (Num 48) (Bin And (at 2) (Num 7))) ∷ [])))

-- WRITEHEX
abbrev pub writehex : Routine
writehex = routine 34 2 (Does (commands (
    c.For (Bin Subtract (at 3) (Num 1)) (Num 0) 65535 (block
    ((Initial (Bin And (Bin ShiftRight (at 2) (Bin Multiply (Num 4) (at 4))) (Num 15)) ∷ []) ∷ []) (list (
    write_char (Cond (Bin Less (at 6) (Num 10)) (Bin Add (Num 48) (at 6)) (Bin Add (Bin Subtract (Num 65) (Num 10)) (at 6))) ∷ []))) ∷ [])))

-- NEWPAGE
abbrev pub newpage : Routine
newpage = routine 36 0 (Does (commands (write_char (Num 12) ∷ [])))

-- WRITET
abbrev pub writet : Routine
writet = routine 35 2 (Does (commands (
    c.Call (calling 22 (at 2 ∷ []))
    ∷ c.For (Bin Add (calling 20 (at 2 ∷ Num 0 ∷ [])) (Num 1)) (at 3) 1 (commands (write_char (Num 32) ∷ [])) ∷ [])))

-- CAPITALCH
abbrev pub capitalch : Routine
capitalch = routine 49 1 (Gives
    (Cond (Bin And (Bin LessEqual (Num 97) (at 2)) (Bin LessEqual (at 2) (Num 122))) (Bin Add (Bin Subtract (at 2) (Num 97)) (Num 65)) (at 2)))

-- COMPCH
abbrev pub compch : Routine
compch = routine 97 2 (Gives (Bin Subtract (calling 49 (at 2 ∷ [])) (calling 49 (at 3 ∷ []))))

-- COMPSTRING
abbrev pub compstring_body : Block
compstring_body = block ((Initial (calling 20 (at 2 ∷ Num 0 ∷ [])) ∷ Initial (calling 20 (at 3 ∷ Num 0 ∷ [])) ∷ []) ∷ []) (list (
    c.For (Num 1) (Cond (Bin Less (at 4) (at 5)) (at 4) (at 5)) 1 (block
    ((Initial (calling 49 (calling 20 (at 2 ∷ at 6 ∷ []) ∷ [])) ∷ Initial (calling 49 (calling 20 (at 3 ∷ at 6 ∷ []) ∷ [])) ∷ []) ∷ []) (list (
    c.If false (Bin Equal (at 8) (at 9)) (commands (c.ResultIs (Cond (Bin Less (at 8) (at 9)) (Neg (Num 1)) (Num 1)) ∷ [])) ∷ [])))
    ∷ c.ResultIs (Cond (Bin Equal (at 4) (at 5)) (Num 0) (Cond (Bin Less (at 4) (at 5)) (Neg (Num 1)) (Num 1))) ∷ []))

abbrev pub compstring : Routine
compstring = routine 50 2 (Gives (Valof 7))

-- PACKSTRING
abbrev pub packstring_body : Block
packstring_body = block ((Initial (Bin And (cell (at 2) (Num 0)) (Num 255)) ∷ []) ∷ []) (list (
    c.For (Num 0) (Bin ShiftRight (at 4) (Num 1)) 1 (commands (c.Assign (Num 0) (Bin Add (at 3) (at 5)) ∷ []))
    ∷ c.Call (calling 21 (at 3 ∷ Num 0 ∷ at 4 ∷ []))
    ∷ c.For (Num 1) (at 4) 1 (commands (c.Call (calling 21 (at 3 ∷ at 5 ∷ cell (at 2) (at 5) ∷ [])) ∷ []))
    ∷ c.ResultIs (Bin ShiftRight (at 4) (Num 1)) ∷ []))

abbrev pub packstring : Routine
packstring = routine 47 2 (Gives (Valof 8))

-- UNPACKSTRING
abbrev pub unpackstring : Routine
unpackstring = routine 48 2 (Does (commands (
    c.For (Num 0) (calling 20 (at 2 ∷ Num 0 ∷ [])) 1 (commands (c.Assign (calling 20 (at 2 ∷ at 4 ∷ [])) (Bin Add (at 3) (at 4)) ∷ [])) ∷ [])))

-- WIDTHOF
abbrev pub widthof_body : Block
widthof_body = block ((Initial (calling 49 (at 2 ∷ [])) ∷ []) ∷ []) (list (
    c.If true (Bin And (Bin LessEqual (Num 48) (at 2)) (Bin LessEqual (at 2) (Num 57))) (commands (
    c.ResultIs (Bin Subtract (at 2) (Num 48)) ∷ []))
    ∷ c.If true (Bin And (Bin LessEqual (Num 65) (at 3)) (Bin LessEqual (at 3) (Num 90))) (commands (
    c.ResultIs (Bin Add (Bin Subtract (at 3) (Num 65)) (Num 10)) ∷ []))
    ∷ c.ResultIs (Num 0) ∷ []))

abbrev pub widthof : Routine
widthof = private 1 (Gives (Valof 9))

-- PUTPART
abbrev pub putpart_body : Block
putpart_body = commands (
    c.While false (Bin Greater (at 3) (calling 20 (at 2 ∷ Num 0 ∷ []))) (block ((Initial (calling 20 (at 2 ∷ at 3 ∷ [])) ∷ []) ∷ []) (list (
    c.If true (Bin Equal (at 6) (at 4)) (commands (c.ResultIs (Bin Add (at 3) (Num 1)) ∷ []))
    ∷ c.If true (at 5) (commands (write_char (at 6) ∷ []))
    ∷ c.Assign (Bin Add (at 3) (Num 1)) (Frame 3) ∷ [])))
    ∷ c.ResultIs (at 3) ∷ [])

abbrev pub putpart : Routine
putpart = private 4 (Gives (Valof 10))

-- WRITEF
abbrev pub writef : Routine
writef = routine 30 12 (Does (block ((Initial (Frame 3) ∷ Initial (Num 1) ∷ Initial (calling 20 (at 2 ∷ Num 0 ∷ [])) ∷ []) ∷ []) (list (
    c.While false (Bin Greater (at 15) (at 16)) (block ((Initial (calling 20 (at 2 ∷ at 15 ∷ [])) ∷ []) ∷ []) (list (
    c.Assign (Bin Add (at 15) (Num 1)) (Frame 15)
    ∷ c.Test (Bin Or (Bin NotEqual (at 17) (Num 37)) (Bin Greater (at 15) (at 16))) (commands (write_char (at 17) ∷ [])) (block
    ((Initial (Cond (Bin Less (at 15) (at 16)) (own 37 (calling 20 (at 2 ∷ Bin Add (at 15) (Num 1) ∷ []) ∷ [])) (Num 0)) ∷ [])
    ∷ (Initial (Num 1) ∷ []) ∷ []) (list (
    c.Assign (Bin Add (at 15) (Num 1)) (Frame 15)
    ∷ c.SwitchOn (calling 49 (calling 20 (at 2 ∷ Bin Subtract (at 15) (Num 1) ∷ []) ∷ [])) (
    case 78 (command (c.Call (calling 23 (Load (at 14) ∷ []))) (command c.EndCase (
    case 83 (command (c.Call (calling 22 (Load (at 14) ∷ []))) (command c.EndCase (
    case 67 (command (write_char (Load (at 14))) (command c.EndCase (
    case 73 (command (c.Call (calling 31 (Load (at 14) ∷ at 18 ∷ []))) (
    command (c.Assign (Bin Add (at 15) (Num 1)) (Frame 15)) (command c.EndCase (
    case 85 (command (c.Call (calling 32 (Load (at 14) ∷ at 18 ∷ []))) (
    command (c.Assign (Bin Add (at 15) (Num 1)) (Frame 15)) (command c.EndCase (
    case 79 (command (c.Call (calling 33 (Load (at 14) ∷ at 18 ∷ []))) (
    command (c.Assign (Bin Add (at 15) (Num 1)) (Frame 15)) (command c.EndCase (
    case 88 (command (c.Call (calling 34 (Load (at 14) ∷ at 18 ∷ []))) (
    command (c.Assign (Bin Add (at 15) (Num 1)) (Frame 15)) (command c.EndCase (
    case 84 (command (c.Call (calling 35 (Load (at 14) ∷ at 18 ∷ []))) (
    command (c.Assign (Bin Add (at 15) (Num 1)) (Frame 15)) (command c.EndCase (
    case 80 (
    command (c.If true (Bin LessEqual (at 15) (at 16)) (block ((Initial (calling 20 (at 2 ∷ at 15 ∷ [])) ∷ []) ∷ []) (list (
    c.Assign (own 38 (at 2 ∷ Bin Add (at 15) (Num 1) ∷ at 20 ∷ Bin Equal (Load (at 14)) (Num 1) ∷ [])) (Frame 15)
    ∷ c.Assign (own 38 (at 2 ∷ at 15 ∷ at 20 ∷ Bin NotEqual (Load (at 14)) (Num 1) ∷ [])) (Frame 15) ∷ [])))) (
    command c.EndCase (
    case 43 (command c.EndCase (
    case 45 (command (c.Assign (Neg (Num 1)) (Frame 19)) (command c.EndCase (
    default (command (c.Assign (Num 0) (Frame 19)) (
    command (write_char (calling 20 (at 2 ∷ Bin Subtract (at 15) (Num 1) ∷ []))) no_item))))))))))))))))))))))))))))))))))))))))
    ∷ c.Assign (Bin Add (at 14) (at 19)) (Frame 14) ∷ []))) ∷ []))) ∷ []))))

-- ENDSITEM
abbrev pub endsitem_body : Block
endsitem_body = commands (
    c.SwitchOn (at 2) (
    case 32 (case 9 (case 13 (case 10 (case 59 (case 61 (case 65535 (command (c.ResultIs (Num 65535)) (
    default (command (c.ResultIs (Num 0)) no_item)))))))))) ∷ [])

abbrev pub endsitem : Routine
endsitem = private 1 (Gives (Valof 11))

-- PACKITEM
abbrev pub packitem_body : Block
packitem_body = block ((Initial (Num 0) ∷ []) ∷ []) (list (
    c.If true (Bin Less (at 3) (Num 0)) (commands (c.ResultIs (Num 0) ∷ []))
    ∷ c.Assign (Num 0) (Bin Add (at 2) (Num 0))
    ∷ c.While false
    (Cond (at 4) (Bin Or (Bin Or (Bin Equal (static 5) (Num 34)) (Bin Equal (static 5) (Num 10))) (Bin Equal (static 5) (Num 65535)))
    (own 40 (static 5 ∷ []))) (block ((Initial (static 5) ∷ []) ∷ []) (list (
    c.If true (Bin And (at 4) (Bin Equal (at 6) (Num 42))) (commands (
    c.Assign (calling 40 []) (Place 5)
    ∷ c.If true (Bin Or (Bin Equal (static 5) (Num 10)) (Bin Equal (static 5) (Num 65535))) (commands (c.ResultIs (Num 0) ∷ []))
    ∷ c.Assign (Cond (Bin Equal (calling 49 (static 5 ∷ [])) (Num 78)) (Num 10) (static 5)) (Frame 6) ∷ []))
    ∷ c.Assign (Bin Add (at 5) (Num 1)) (Frame 5)
    ∷ c.If true (Bin Or (Bin Greater (at 5) (Num 255)) (Bin Greater (Bin ShiftRight (at 5) (Num 1)) (at 3))) (commands (c.ResultIs (Num 0) ∷ []))
    ∷ c.Assign
    (Cond (Bin Equal (Bin And (at 5) (Num 1)) (Num 0)) (Bin ShiftLeft (at 6) (Num 8)) (Bin Or (cell (at 2) (Bin ShiftRight (at 5) (Num 1))) (at 6)))
    (Bin Add (at 2) (Bin ShiftRight (at 5) (Num 1)))
    ∷ c.Assign (calling 40 []) (Place 5) ∷ [])))
    ∷ c.Assign (Bin Or (cell (at 2) (Num 0)) (Bin ShiftLeft (at 5) (Num 8))) (Bin Add (at 2) (Num 0))
    ∷ c.ResultIs (Num 65535) ∷ []))

abbrev pub packitem : Routine
packitem = private 3 (Gives (Valof 12))

-- READITEM
abbrev pub readitem_body : Block
readitem_body = commands (
    c.While true (Bin Or (Bin Or (Bin Equal (static 5) (Num 32)) (Bin Equal (static 5) (Num 9))) (Bin Equal (static 5) (Num 13))) (commands (
    c.Assign (calling 40 []) (Place 5) ∷ []))
    ∷ c.SwitchOn (static 5) (
    case 10 (case 59 (case 65535 (command (c.ResultIs (Num 4)) (
    case 61 (command (c.Assign (calling 40 []) (Place 5)) (command (c.ResultIs (Num 3)) (
    case 34 (command (c.Assign (calling 40 []) (Place 5)) (
    command (c.If false (Bin And (own 41 (at 2 ∷ at 3 ∷ Num 65535 ∷ [])) (Bin Equal (static 5) (Num 34))) (commands (c.ResultIs (Num 5) ∷ []))) (
    command (c.Assign (calling 40 []) (Place 5)) (command (c.ResultIs (Num 2)) (
    default (command (c.ResultIs (Cond (own 41 (at 2 ∷ at 3 ∷ Num 0 ∷ [])) (Num 1) (Num 5))) no_item)))))))))))))) ∷ [])

abbrev pub readitem : Routine
readitem = private 2 (Gives (Valof 13))

-- KEYNUMBER
abbrev pub keynumber_body : Block
keynumber_body = block ((Initial (Num 0) ∷ Initial (Num 1) ∷ Initial (calling 20 (at 2 ∷ Num 0 ∷ [])) ∷ []) ∷ []) (list (
    c.While false (Bin Greater (at 5) (at 6)) (block ((Initial (Num 1) ∷ Initial (Num 0) ∷ Initial (Num 65535) ∷ []) ∷ []) (list (
    c.While false (Bin Greater (at 5) (at 6)) (commands (
    c.Assign (calling 20 (at 2 ∷ at 5 ∷ [])) (Frame 8)
    ∷ c.If true (Bin Or (Bin Or (Bin Equal (at 8) (Num 44)) (Bin Equal (at 8) (Num 47))) (Bin Equal (at 8) (Num 61))) (commands (c.Break ∷ []))
    ∷ c.If true
    (Cond (Bin Greater (at 7) (calling 20 (at 3 ∷ Num 0 ∷ []))) (Num 65535)
    (Bin NotEqual (calling 97 (at 8 ∷ calling 20 (at 3 ∷ at 7 ∷ []) ∷ [])) (Num 0))) (commands (c.Assign (Num 0) (Frame 9) ∷ []))
    ∷ c.Nested (commands (c.Assign (Bin Add (at 5) (Num 1)) (Frame 5) ∷ c.Assign (Bin Add (at 7) (Num 1)) (Frame 7) ∷ [])) ∷ []))
    ∷ c.If true (Bin And (at 9) (Bin Greater (at 7) (calling 20 (at 3 ∷ Num 0 ∷ [])))) (commands (c.ResultIs (at 4) ∷ []))
    ∷ c.While false (Bin Or (Bin Or (Bin Greater (at 5) (at 6)) (Bin Equal (at 8) (Num 44))) (Bin Equal (at 8) (Num 61))) (commands (
    c.Assign (Bin Add (at 5) (Num 1)) (Frame 5)
    ∷ c.If false (Bin Greater (at 5) (at 6)) (commands (c.Assign (calling 20 (at 2 ∷ at 5 ∷ [])) (Frame 8) ∷ [])) ∷ []))
    ∷ c.If true (Bin Equal (at 8) (Num 44)) (commands (c.Assign (Bin Add (at 4) (Num 1)) (Frame 4) ∷ []))
    ∷ c.Assign (Bin Add (at 5) (Num 1)) (Frame 5) ∷ [])))
    ∷ c.ResultIs (Neg (Num 1)) ∷ []))

abbrev pub keynumber : Routine
keynumber = private 2 (Gives (Valof 14))

-- PUTKEYS
abbrev pub putkeys_body : Block
putkeys_body = block ((Initial (Num 0) ∷ []) ∷ []) (list (
    c.If true (Bin Less (at 4) (Num 0)) (commands (c.ResultIs (Num 0) ∷ []))
    ∷ c.Assign (Num 0) (Bin Add (at 3) (Num 0))
    ∷ c.For (Num 1) (calling 20 (at 2 ∷ Num 0 ∷ [])) 1 (block
    ((Initial (calling 49 (calling 20 (at 2 ∷ at 6 ∷ []) ∷ [])) ∷ []) ∷ []) (list (
    c.If true (Bin Equal (at 8) (Num 44)) (commands (
    c.Assign (Bin Add (at 5) (Num 1)) (Frame 5)
    ∷ c.If true (Bin Greater (at 5) (at 4)) (commands (c.ResultIs (Num 0) ∷ []))
    ∷ c.Assign (Num 0) (Bin Add (at 3) (at 5)) ∷ []))
    ∷ c.If true (Cond (Bin Greater (at 6) (Num 1)) (Bin Equal (calling 20 (at 2 ∷ Bin Subtract (at 6) (Num 1) ∷ [])) (Num 47)) (Num 0)) (commands (
    c.Assign
    (Bin Or (cell (at 3) (at 5))
    (Cond (Bin Equal (at 8) (Num 65)) (Num 1) (Cond (Bin Equal (at 8) (Num 75)) (Num 2) (Cond (Bin Equal (at 8) (Num 83)) (Num 4) (Num 0)))))
    (Bin Add (at 3) (at 5)) ∷ [])) ∷ [])))
    ∷ c.ResultIs (Bin Add (at 5) (Num 1)) ∷ []))

abbrev pub putkeys : Routine
putkeys = private 3 (Gives (Valof 15))

-- ISUNFILLED
abbrev pub isunfilled : Routine
isunfilled = private 1 (Gives (Bin And (Bin LessEqual (Num 0) (at 2)) (Bin LessEqual (at 2) (Num 7))))

-- NEXTKEY
abbrev pub nextkey_body : Block
nextkey_body = commands (
    c.For (Num 0) (Bin Subtract (at 3) (Num 1)) 1 (commands (
    c.If true (Bin And (own 45 (cell (at 2) (at 4) ∷ [])) (Bin Equal (Bin And (cell (at 2) (at 4)) (Bin Add (Num 2) (Num 4))) (Num 0))) (commands (
    c.ResultIs (at 4) ∷ [])) ∷ []))
    ∷ c.ResultIs (Neg (Num 1)) ∷ [])

abbrev pub nextkey : Routine
nextkey = private 2 (Gives (Valof 16))

-- TAKEITEMS
abbrev pub takeitems_body : Block
takeitems_body = block ((Initial (Bin Add (at 3) (at 4)) ∷ []) ∷ []) (list (
    c.Assign (calling 40 []) (Place 5)
    ∷ c.Repeat (commands (
    c.Nested (block ((Initial (own 42 (at 6 ∷ Bin Subtract (at 5) (at 6) ∷ [])) ∷ Initial (Neg (Num 1)) ∷ []) ∷ []) (list (
    c.If true (Bin Equal (at 7) (Num 4)) (commands (c.Break ∷ []))
    ∷ c.If true (Bin Equal (at 7) (Num 1)) (commands (c.Assign (own 43 (at 2 ∷ at 6 ∷ [])) (Frame 8) ∷ []))
    ∷ c.Test (Bin Less (at 8) (Num 0)) (commands (c.Assign (own 46 (at 3 ∷ at 4 ∷ [])) (Frame 8) ∷ [])) (commands (
    c.If false (own 45 (cell (at 3) (at 8) ∷ [])) (commands (c.ResultIs (Num 0) ∷ []))
    ∷ c.If true (Bin NotEqual (Bin And (cell (at 3) (at 8)) (Num 4)) (Num 0)) (commands (
    c.Assign (Num 65535) (Bin Add (at 3) (at 8))
    ∷ c.Loop ∷ []))
    ∷ c.Assign (own 42 (at 6 ∷ Bin Subtract (at 5) (at 6) ∷ [])) (Frame 7)
    ∷ c.If true (Bin Equal (at 7) (Num 3)) (commands (c.Assign (own 42 (at 6 ∷ Bin Subtract (at 5) (at 6) ∷ [])) (Frame 7) ∷ [])) ∷ []))
    ∷ c.If false (Bin And (Bin GreaterEqual (at 8) (Num 0)) (Bin Or (Bin Equal (at 7) (Num 1)) (Bin Equal (at 7) (Num 2)))) (commands (
    c.ResultIs (Num 0) ∷ []))
    ∷ c.Assign (at 6) (Bin Add (at 3) (at 8))
    ∷ c.Assign (Bin Add (Bin Add (at 6) (Bin ShiftRight (calling 20 (at 6 ∷ Num 0 ∷ [])) (Num 1))) (Num 1)) (Frame 6) ∷ []))) ∷ []))
    ∷ c.For (Num 0) (Bin Subtract (at 4) (Num 1)) 1 (commands (
    c.If true (own 45 (cell (at 3) (at 7) ∷ [])) (commands (
    c.If true (Bin NotEqual (Bin And (cell (at 3) (at 7)) (Num 1)) (Num 0)) (commands (c.ResultIs (Num 0) ∷ []))
    ∷ c.Assign (Num 0) (Bin Add (at 3) (at 7)) ∷ [])) ∷ []))
    ∷ c.ResultIs (at 6) ∷ []))

abbrev pub takeitems : Routine
takeitems = private 4 (Gives (Valof 17))

-- RDARGS
abbrev pub rdargs_body : Block
rdargs_body = block ((Initial (own 44 (at 2 ∷ at 3 ∷ at 4 ∷ [])) ∷ Initial (Num 0) ∷ []) ∷ []) (list (
    c.If false (Bin Equal (at 5) (Num 0)) (commands (c.Assign (own 47 (at 2 ∷ at 3 ∷ at 5 ∷ Bin Add (at 3) (at 4) ∷ [])) (Frame 6) ∷ []))
    ∷ c.If true (Bin Equal (at 5) (Num 0)) (commands (c.Assign (calling 40 []) (Place 5) ∷ []))
    ∷ c.While false (Bin Or (Bin Or (Bin Equal (static 5) (Num 10)) (Bin Equal (static 5) (Num 59))) (Bin Equal (static 5) (Num 65535))) (commands (
    c.Assign (calling 40 []) (Place 5) ∷ []))
    ∷ c.ResultIs (at 6) ∷ []))

abbrev pub rdargs : Routine
rdargs = routine 95 3 (Gives (Valof 18))

-- INITVEC
abbrev pub initvec : Routine
initvec = routine 51 2 (Does (block ((Initial (Bin And (at 3) (Num 65534)) ∷ []) ∷ []) (list (
    c.Test (Bin Equal (at 4) (Num 0)) (commands (c.Assign (Num 0) (Place 3) ∷ [])) (commands (
    c.Assign (at 2) (Place 3)
    ∷ c.Assign (at 4) (Bin Add (at 2) (Num 0))
    ∷ c.Assign (Num 0) (Bin Add (at 2) (at 4)) ∷ [])) ∷ []))))

-- GETVEC
abbrev pub getvec_body : Block
getvec_body = block ((Initial (Bin And (Bin Add (at 2) (Num 3)) (Num 65534)) ∷ []) ∷ (Initial (static 3) ∷ []) ∷ []) (list (
    c.If true (Bin Or (Bin Or (Bin Equal (at 4) (Num 0)) (Bin Less (at 2) (Num 0))) (Bin Greater (at 2) (Num 32764))) (commands (
    c.ResultIs (Num 0) ∷ []))
    ∷ c.While false (Bin Equal (Load (at 4)) (Num 0)) (commands (
    c.If true (Bin Equal (Bin And (Load (at 4)) (Num 1)) (Num 0)) (commands (
    c.While false (Bin Or (Bin Equal (cell (at 4) (Load (at 4))) (Num 0)) (Bin Equal (Bin And (cell (at 4) (Load (at 4))) (Num 1)) (Num 1))) (commands (
    c.Assign (Bin Add (Load (at 4)) (cell (at 4) (Load (at 4)))) (at 4) ∷ []))
    ∷ c.If true (Bin GreaterEqual (Load (at 4)) (at 3)) (commands (
    c.If false (Bin Equal (Load (at 4)) (at 3)) (commands (c.Assign (Bin Subtract (Load (at 4)) (at 3)) (Bin Add (at 4) (at 3)) ∷ []))
    ∷ c.Assign (Bin Add (at 3) (Num 1)) (at 4)
    ∷ c.ResultIs (Bin Add (at 4) (Num 1)) ∷ [])) ∷ []))
    ∷ c.Assign (Bin Add (at 4) (Bin And (Load (at 4)) (Num 65534))) (Frame 4) ∷ []))
    ∷ c.ResultIs (Num 0) ∷ []))

abbrev pub getvec : Routine
getvec = routine 52 1 (Gives (Valof 19))

-- FREEVEC
abbrev pub freevec : Routine
freevec = routine 53 1 (Does (commands (
    c.If false (Bin Equal (at 2) (Num 0)) (commands (
    c.Assign (Bin And (cell (Bin Subtract (at 2) (Num 1)) (Num 0)) (Num 65534)) (Bin Add (Bin Subtract (at 2) (Num 1)) (Num 0)) ∷ [])) ∷ [])))

-- ISBELOW
abbrev pub isbelow : Routine
isbelow = private 2 (Gives (Bin Less (Bin NotEquivalent (at 2) (Num 32768)) (Bin NotEquivalent (at 3) (Num 32768))))

-- ADDDOUBLE
abbrev pub adddouble : Routine
adddouble = private 2 (Does (commands (
    c.Assign (Bin Add (cell (at 2) (Num 1)) (cell (at 3) (Num 1))) (Bin Add (at 2) (Num 1))
    ∷ c.Assign
    (Bin Add (Bin Add (cell (at 2) (Num 0)) (cell (at 3) (Num 0))) (Cond (own 52 (cell (at 2) (Num 1) ∷ cell (at 3) (Num 1) ∷ [])) (Num 1) (Num 0)))
    (Bin Add (at 2) (Num 0)) ∷ [])))

-- PUTPRODUCT
abbrev pub putproduct : Routine
putproduct = private 3 (Does (block ((Vector 1 ∷ []) ∷ []) (list (
    c.Nested (commands (c.Assign (Num 0) (Bin Add (at 2) (Num 0)) ∷ c.Assign (Num 0) (Bin Add (at 2) (Num 1)) ∷ []))
    ∷ c.Nested (commands (c.Assign (Num 0) (Bin Add (at 5) (Num 0)) ∷ c.Assign (at 3) (Bin Add (at 5) (Num 1)) ∷ []))
    ∷ c.While false (Bin Equal (at 4) (Num 0)) (commands (
    c.If true (Bin Equal (Bin And (at 4) (Num 1)) (Num 1)) (commands (c.Call (own 53 (at 2 ∷ at 5 ∷ [])) ∷ []))
    ∷ c.Assign (Bin Or (Bin ShiftLeft (cell (at 5) (Num 0)) (Num 1)) (Bin ShiftRight (cell (at 5) (Num 1)) (Num 15))) (Bin Add (at 5) (Num 0))
    ∷ c.Assign (Bin ShiftLeft (cell (at 5) (Num 1)) (Num 1)) (Bin Add (at 5) (Num 1))
    ∷ c.Assign (Bin ShiftRight (at 4) (Num 1)) (Frame 4) ∷ [])) ∷ []))))

-- DIVIDEDOUBLE
abbrev pub dividedouble : Routine
dividedouble = private 2 (Does (block ((Initial (cell (at 2) (Num 0)) ∷ Initial (cell (at 2) (Num 1)) ∷ Initial (Num 0) ∷ [])
    ∷ (Initial (Num 0) ∷ []) ∷ []) (list (
    c.For (Num 1) (Num 32) 1 (commands (
    c.Assign (Bin ShiftRight (at 7) (Num 15)) (Frame 6)
    ∷ c.Assign (Bin Or (Bin ShiftLeft (at 7) (Num 1)) (Bin ShiftRight (at 4) (Num 15))) (Frame 7)
    ∷ c.Assign (Bin Or (Bin ShiftLeft (at 4) (Num 1)) (Bin ShiftRight (at 5) (Num 15))) (Frame 4)
    ∷ c.Assign (Bin ShiftLeft (at 5) (Num 1)) (Frame 5)
    ∷ c.If true (Bin Or (Bin Equal (at 6) (Num 1)) (Not (own 52 (at 7 ∷ at 3 ∷ [])))) (commands (
    c.Assign (Bin Subtract (at 7) (at 3)) (Frame 7)
    ∷ c.Assign (Bin Or (at 5) (Num 1)) (Frame 5) ∷ [])) ∷ []))
    ∷ c.Nested (commands (c.Assign (at 7) (Bin Add (at 2) (Num 0)) ∷ c.Assign (at 5) (Bin Add (at 2) (Num 1)) ∷ [])) ∷ []))))

-- MAGNITUDE
abbrev pub magnitude : Routine
magnitude = private 1 (Gives (Cond (Bin Less (at 2) (Num 0)) (Neg (at 2)) (at 2)))

-- MULDIV
abbrev pub muldiv_body : Block
muldiv_body = block ((Vector 1 ∷ []) ∷ []) (list (
    c.If true (Bin Equal (at 4) (Num 0)) (commands (c.ResultIs (Bin Divide (at 2) (at 4)) ∷ []))
    ∷ c.Call (own 54 (at 5 ∷ own 56 (at 2 ∷ []) ∷ own 56 (at 3 ∷ []) ∷ []))
    ∷ c.Call (own 55 (at 5 ∷ own 56 (at 4 ∷ []) ∷ []))
    ∷ c.Assign (Cond (Bin Less (Bin NotEquivalent (at 2) (at 3)) (Num 0)) (Neg (cell (at 5) (Num 0))) (cell (at 5) (Num 0))) (Glob 55)
    ∷ c.ResultIs
    (Cond (Bin Less (Bin NotEquivalent (Bin NotEquivalent (at 2) (at 3)) (at 4)) (Num 0)) (Neg (cell (at 5) (Num 1))) (cell (at 5) (Num 1))) ∷ []))

abbrev pub muldiv : Routine
muldiv = routine 54 3 (Gives (Valof 20))

-- RANDOM
abbrev pub random_body : Block
random_body = block ((Vector 1 ∷ []) ∷ []) (list (
    c.If true (Bin Less (at 2) (Num 1)) (commands (c.ResultIs (Num 0) ∷ []))
    ∷ c.Assign (Bin NotEquivalent (static 4) (Bin ShiftLeft (static 4) (Num 7))) (Place 4)
    ∷ c.Assign (Bin NotEquivalent (static 4) (Bin ShiftRight (static 4) (Num 9))) (Place 4)
    ∷ c.Assign (Bin NotEquivalent (static 4) (Bin ShiftLeft (static 4) (Num 8))) (Place 4)
    ∷ c.Call (own 54 (at 3 ∷ static 4 ∷ at 2 ∷ []))
    ∷ c.ResultIs (Bin Add (cell (at 3) (Num 0)) (Num 1)) ∷ []))

abbrev pub random : Routine
random = routine 56 1 (Gives (Valof 21))

-- RANDOMISE
abbrev pub randomise : Routine
randomise = routine 57 1 (Does (commands (c.Assign (Cond (Bin Equal (at 2) (Num 0)) (Num 1) (at 2)) (Place 4) ∷ [])))

-- STOP
abbrev pub stop : Routine
stop = routine 58 1 (Does (commands (c.Finish ∷ [])))

-- TESTFLAGS
abbrev pub testflags : Routine
testflags = routine 96 1 (Gives (Num 0))

-- TIME
abbrev pub time : Routine
time = routine 98 0 (Gives (Num 0))

-- MAPSTORE
abbrev pub mapstore : Routine
mapstore = routine 99 0 (Does (commands (c.Return ∷ [])))
