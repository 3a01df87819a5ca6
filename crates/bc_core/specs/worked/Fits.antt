-- Worked examples of what every resolved section keeps: its jumps, labels, places, VALOFs and sizes.
use Rattle.std.specs.Prelude.{ℕ, zero, suc, ◌≡◌, Bool, true, false, List, [], ◌∷◌, Option, Some, None, refl}
use Rattle.bc_core.specs.Tree.{Num, Glob, Place, Load, Valof}
use Rattle.bc_core.specs.Commands.{Initial, Vector, Command, Block, block, Items, no_item, command, case, default, label, Does}
use Rattle.bc_core.specs.Commands as c
use Rattle.bc_core.specs.WellFormed.{is_core}
use Rattle.bc_core.specs.worked.Written.{routine, starting, commands, let_in, set_to}

-- ---- Worked examples

abbrev fits : Command → Bool
fits x = is_core (starting [] [] (commands (x ∷ [])))

abbrev list_fits : Items → Bool
list_fits is = is_core (starting [] [] (block [] is))

-- a section with one VALOF at this level, in START as `x := VALOF ..` with x at 2
abbrev valof_fits : ℕ → Block → Bool
valof_fits s b = is_core (starting [] (record { level = s; body = b } ∷ []) (let_in (Initial (Num 0) ∷ []) (set_to 2 (Valof 0) ∷ [])))

-- BREAK and LOOP need a loop, ENDCASE a SWITCHON, RETURN a routine of BE, RESULTIS a VALOF
in_loop : (fits (c.Repeat (commands (c.Break ∷ []))) ≡ true) × (fits (c.Repeat (commands (c.Loop ∷ []))) ≡ true) × (fits c.Break ≡ false) × (fits c.Loop
    ≡ false)
in_loop = (refl, refl, refl, refl)

in_cases : (fits (c.SwitchOn (Num 1) (case 1 (command c.EndCase no_item))) ≡ true) × (fits c.EndCase
    ≡ false) × (fits (c.Repeat (commands (c.EndCase ∷ []))) ≡ false)
in_cases = (refl, refl, refl)

returns : (fits c.Return ≡ true) × (valof_fits 3 (commands (c.Return ∷ [])) ≡ false)
returns = (refl, refl)

results : (valof_fits 3 (commands (c.ResultIs (Num 1) ∷ [])) ≡ true) × (fits (c.ResultIs (Num 1)) ≡ false)
results = (refl, refl)

-- the VALOF has its level, and its body contains only later ones
levels : (valof_fits 3 (commands []) ≡ true) × (valof_fits 4 (commands []) ≡ false)
levels = (refl, refl)

own_number : valof_fits 3 (commands (c.ResultIs (Valof 0) ∷ [])) ≡ false
own_number = refl

-- GOTO to a label of a list around it
gotos : (list_fits (label 0 (command (c.Goto 0) no_item)) ≡ true) × (list_fits (command (c.Nested (block [] (command (c.Goto 0) no_item)))
    (label 0 no_item)) ≡ true)
    × (list_fits (command (c.Goto 0) no_item) ≡ false) × (list_fits (command (c.Nested (block [] (label 0 no_item))) (command (c.Goto 0) no_item)) ≡ false)
gotos = (refl, refl, refl, refl)

-- a CASE or DEFAULT twice in one list isn't well formed; in the list of a SWITCHON inside it they may occur again
abbrev entries_fit : Items → Bool
entries_fit is = fits (c.SwitchOn (Num 1) is)

entries : (entries_fit (case 1 (case 2 (default no_item))) ≡ true) × (entries_fit (case 1 (case 1 no_item)) ≡ false)
    × (entries_fit (default (case 1 (default no_item))) ≡ false)
    × (entries_fit (case 1 (default (command (c.SwitchOn (Num 2) (case 1 (default no_item))) no_item))) ≡ true)
entries = (refl, refl, refl, refl)

-- GOTO to a label in the list of a SWITCHON; not out of a VALOF
goto_in_cases : fits (c.SwitchOn (Num 1) (label 0 (command (c.Goto 0) no_item))) ≡ true
goto_in_cases = refl

goto_out_of_valof : is_core (starting [] (record { level = 3; body = commands (c.Goto 0 ∷ []) } ∷ [])
    (block ((Initial (Num 0) ∷ []) ∷ []) (label 0 (command (set_to 2 (Valof 0)) no_item)))) ≡ false
goto_out_of_valof = refl

-- a label twice in one list, and once in each of two lists
labels : (list_fits (label 0 (label 1 no_item)) ≡ true) × (list_fits (label 0 (label 0 no_item)) ≡ false)
    × (list_fits (label 0 (command (c.Nested (block [] (label 0 no_item))) no_item)) ≡ true)
labels = (refl, refl, refl)

-- CASE and DEFAULT occur only in the list of a SWITCHON
entries_of_switch : (fits (c.SwitchOn (Num 1) (case 1 (default no_item))) ≡ true) × (list_fits (case 1 no_item) ≡ false) × (list_fits (default no_item) ≡ false)
entries_of_switch = (refl, refl, refl)

-- globals are 0 to 511; places are 1 to the number of places, which is 1 here
globals : (fits (c.Call (Load (Glob 511))) ≡ true) × (fits (c.Call (Load (Glob 512))) ≡ false)
globals = (refl, refl)

places : (fits (c.Call (Place 1)) ≡ true) × (fits (c.Call (Place 0)) ≡ false) × (fits (c.Call (Place 2)) ≡ false)
places = (refl, refl, refl)

-- the global that a routine sets
abbrev setting : Option ℕ → Bool
setting g = is_core (record { places = routine g 0 (Does (commands [])) ∷ []; valofs = [] })

set_globals : (setting None ≡ true) × (setting (Some 511) ≡ true) × (setting (Some 512) ≡ false)
set_globals = (refl, refl, refl)

-- LET V = VEC 32764, and VEC 32765
abbrev vector_fits : ℕ → Bool
vector_fits k = is_core (starting [] [] (let_in (Vector k ∷ []) []))

frames : (vector_fits 32764 ≡ true) × (vector_fits 32765 ≡ false)
frames = (refl, refl)

-- a string of 255 bytes, and of 256
abbrev bytes : ℕ → List ℕ
bytes zero = []
bytes (suc n) = 65 ∷ bytes n

abbrev text_fits : ℕ → Bool
text_fits n = is_core (starting (c.Text (bytes n) ∷ []) [] (commands []))

texts : (text_fits 255 ≡ true) × (text_fits 256 ≡ false)
texts = (refl, refl)
