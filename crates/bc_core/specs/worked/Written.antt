-- Programs, written briefly for the examples, and their runs.
use Rattle.std.specs.Prelude.{ℕ, ◌+◌, true, List, [], ◌∷◌, Option, Some, None}
use Rattle.bc_word.specs.declared.operator.Op.TheVariants.{Add, Less, Equal}
use Rattle.bc_machine_defs.specs.StreamStart.{start_streams}
use Rattle.bc_core.specs.Tree.{Exp, Num, Frame, Glob, Load, Bin, Call, Args, no_argument, argument}
use Rattle.bc_core.specs.Commands.{Variable, Command, Block, block, Items, no_item, command, Body, Does, Core, Code, Valof}
use Rattle.bc_core.specs.Commands as c
use Rattle.bc_core.specs.Map.{placed, standing}
use Rattle.bc_core.specs.Start.{cells_from}
use Rattle.bc_core.specs.Outcome.{Finished}
use Rattle.bc_core.specs.Meaning.{Result, Ended, entered_at, meaning_over}

-- ---- Worked examples

-- the variable at an offset of the frame
abbrev pub at : ℕ → Exp
at k = Load (Frame k)

abbrev pub routine : Option ℕ → ℕ → Body → c.Place
routine global parameters body = Code (record { global = global; parameters = parameters; body = body })

-- Sections, run in n turns with one output. The places of the first section are at 546, 547, .., those of the second
-- at 566, 567, .. There are cells up to 589. The stack begins at 560 if there is one section, else at 580.
abbrev pub run_sections : List Core → ℕ → Result
run_sections cores n =
    let program = placed cores ((λ label. 545 + label) ∷ (λ label. 565 + label) ∷ []) in
    meaning_over (cells_from 610 0 (standing program)) (entered_at program) 580 (start_streams [] ((79 ∷ []) ∷ [])) n

-- a section whose first routine is START, which sets global 1
abbrev pub starting : List c.Place → List Valof → Block → Core
starting more valofs body = record { places = routine (Some 1) 0 (Does body) ∷ more; valofs = valofs }

abbrev pub run_with : List c.Place → List Valof → Block → Result
run_with more valofs body = run_sections (starting more valofs body ∷ []) 100

abbrev pub run : Block → Result
run body = run_with [] [] body

abbrev pub printed : List ℕ → Result
printed bytes = Ended (bytes ∷ []) Finished

abbrev pub arguments : List Exp → Args
arguments [] = no_argument
arguments (e ∷ rest) = argument e (arguments rest)

abbrev pub call : Exp → List Exp → Exp
call f es = Call (arguments es) f

abbrev pub print : Exp → Command
print e = c.Call (call (Load (Glob 14)) (e ∷ []))

-- prints a small number as a digit
abbrev pub digit : Exp → Command
digit e = print (Bin Add (Num 48) e)

abbrev pub list : List Command → Items
list [] = no_item
list (x ∷ xs) = command x (list xs)

abbrev pub commands : List Command → Block
commands xs = block [] (list xs)

-- LET variables, followed by commands, from the offset 2 on
abbrev pub let_in : List Variable → List Command → Block
let_in vs xs = block (vs ∷ []) (list xs)

abbrev pub set_to : ℕ → Exp → Command
set_to k e = c.Assign e (Frame k)

-- adds a number to the variable at an offset
abbrev pub more : ℕ → ℕ → Command
more k n = set_to k (Bin Add (at k) (Num n))

-- a command that is done if the variable has this value
abbrev pub where_is : ℕ → ℕ → Command → Command
where_is k n x = c.If true (Bin Equal (at k) (Num n)) (commands (x ∷ []))

abbrev pub below : ℕ → ℕ → Exp
below k n = Bin Less (at k) (Num n)
