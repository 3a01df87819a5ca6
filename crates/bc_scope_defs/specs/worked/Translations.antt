-- Worked examples of the translation, command by command, and of how labels, VALOFs and places are numbered.
use Rattle.std.specs.Prelude.{◌≡◌, true, false, codes, [], ◌∷◌, None, refl}
use Rattle.bc_word.specs.declared.operator.Op.TheVariants as operators
use Rattle.bc_parse_tree.specs.declared.tree.Storage.TheVariants as storage
use Rattle.bc_parse_tree.specs.declared.tree.BinaryOp.TheVariants as binary
use Rattle.bc_parse_tree.specs.Tree.{Exp, Labels_alone, Labelled, no_labels, label, Command}
use Rattle.bc_parse_tree.specs.Tree as tree
use Rattle.bc_core.specs.Tree as core
use Rattle.bc_core.specs.Commands as c
use Rattle.bc_scope_defs.specs.Scope.{Env, Variable}
use Rattle.bc_scope_defs.specs.Found.{section_start}
use Rattle.bc_scope_defs.specs.Translation.{core_command, core_of}
use Rattle.bc_scope_defs.specs.Examples.{a, b, f, g, l, v, x, y, start, of, number, two, list, set, do_call, plain, labelled, with_case, items, body, commands, lets, variable, constants, declarations, alone}
use Rattle.bc_scope_defs.specs.worked.Written.{minus, opposite, plus, at, these, routine}

-- ---- Worked examples

-- a command at the level 4, with X and Y at 2 and 3
abbrev names : Env
names = record { names = (x, Variable 2) ∷ (y, Variable 3) ∷ []; inside = true }

abbrev translated : Command → c.Command
translated d = core_command names section_start d 4

abbrev nothing : c.Block
nothing = c.block [] c.no_item

-- IF X DO $( $), UNLESS X DO $( $)
ifs : (translated (tree.If (of x) (commands [])) ≡ c.If true (at 2) nothing) × (translated (tree.Unless (of x) (commands [])) ≡ c.If false (at 2) nothing)
ifs = (refl, refl)

-- IF NOT X DO keeps the NOT, IF NOT X = Y DO becomes IF X NE Y DO
nots : (translated (tree.If (opposite (of x)) (commands [])) ≡ c.If true (core.Not (at 2)) nothing)
    × (translated (tree.If (opposite (two binary.Equal (of x) (of y))) (commands [])) ≡ c.If true (core.Bin operators.NotEqual (at 2) (at 3)) nothing)
nots = (refl, refl)

-- TEST X THEN BREAK ELSE LOOP
tests : translated (tree.Test (of x) (commands (tree.Break ∷ [])) (commands (tree.Loop ∷ [])))
    ≡ c.Test (at 2) (c.block [] (these (c.Break ∷ []))) (c.block [] (these (c.Loop ∷ [])))
tests = refl

-- WHILE X, UNTIL X, C REPEAT, C REPEATWHILE X, C REPEATUNTIL X
loops : (translated (tree.While (of x) (commands [])) ≡ c.While true (at 2) nothing) × (translated (tree.Until (of x) (commands []))
    ≡ c.While false (at 2) nothing)
    × (translated (tree.Repeat tree.Break) ≡ c.Repeat (c.block [] (these (c.Break ∷ []))))
    × (translated (tree.RepeatWhile tree.Break (of x)) ≡ c.RepeatWhile (c.block [] (these (c.Break ∷ []))) true (at 2))
    × (translated (tree.RepeatUntil tree.Break (of x)) ≡ c.RepeatWhile (c.block [] (these (c.Break ∷ []))) false (at 2))
loops = (refl, refl, refl, refl, refl)

-- $( BREAK $) REPEAT: the block that is repeated is a separate command
block_repeated : translated (tree.Repeat (tree.Compound (commands (tree.Break ∷ [])))) ≡ c.Repeat (c.block [] (these (c.Nested (c.block [] (these
    (c.Break ∷ []))) ∷ [])))
block_repeated = refl

-- FOR V = X TO Y DO V := 1, and with BY -2: V is at 4, its limit at 5
fors : (translated (tree.For v (of x) (of y) (commands (set v (number 1) ∷ []))) ≡ c.For (at 2) (at 3) 1 (c.block [] (these (c.Assign (core.Num 1)
    (core.Frame 4) ∷ []))))
    × (translated (tree.ForBy v (of x) (of y) (minus (number 2)) (commands [])) ≡ c.For (at 2) (at 3) 65534 nothing)
fors = (refl, refl)

-- in its body a block's variable is at 6: FOR V = X TO Y DO $( LET G = V $)
variable_in_for : translated (tree.For v (of x) (of y) (body (variable g (of v) ∷ []) [])) ≡ c.For (at 2) (at 3) 1 (c.block ((c.Initial (at 4) ∷ [])
    ∷ []) c.no_item)
variable_in_for = refl

-- BREAK, LOOP, ENDCASE, RETURN, FINISH, RESULTIS X
jumps : (translated tree.Break ≡ c.Break) × (translated tree.Loop ≡ c.Loop) × (translated tree.EndCase ≡ c.EndCase) × (translated tree.Return ≡ c.Return)
    × (translated tree.Finish ≡ c.Finish) × (translated (tree.ResultIs (of x)) ≡ c.ResultIs (at 2))
jumps = (refl, refl, refl, refl, refl, refl)

-- X := Y; X, Y := Y, X is a block of two
assignments : (translated (set x (of y)) ≡ c.Assign (at 3) (core.Frame 2))
    × (translated (tree.Assign (list (of x ∷ of y ∷ [])) (list (of y ∷ of x ∷ [])))
    ≡ c.Nested (c.block [] (these (c.Assign (at 3) (core.Frame 2) ∷ c.Assign (at 2) (core.Frame 3) ∷ []))))
assignments = (refl, refl)

-- X(Y)
calls : translated (do_call x (of y ∷ [])) ≡ c.Call (core.Call (core.argument (at 3) core.no_argument) (at 2))
calls = refl

-- SWITCHON X INTO $( CASE 1: BREAK; L: DEFAULT: GOTO L; CASE 2: $)
switches : translated (tree.SwitchOn (of x) (items (with_case 1 tree.Break
    ∷ Labelled (label (tree.Named l) (label tree.Default no_labels)) (tree.Goto l) ∷ Labels_alone (label (tree.Case (number 2)) no_labels) ∷ [])))
    ≡ c.SwitchOn (at 2) (c.case 1 (c.command c.Break (c.label 0 (c.default (c.command (c.Goto 0) (c.case 2 c.no_item))))))
switches = refl

-- labels are numbered list by list: L: G: $( L: GOTO G; GOTO L $); GOTO L
labels_numbered : core_of (alone (body [] (labelled l tree.Return ∷ labelled g (tree.Compound (body [] (labelled l (tree.Goto g) ∷ plain (tree.Goto l)
    ∷ []))) ∷ plain (tree.Goto l) ∷ [])))
    ≡ record {
      places =
          routine None (c.block [] (c.label 0 (c.command c.Return (c.label 1 (c.command
          (c.Nested (c.block [] (c.label 2 (c.command (c.Goto 1) (c.command (c.Goto 2) c.no_item))))) (c.command (c.Goto 0) c.no_item)))))) ∷ [];
      valofs = [];
    }
labels_numbered = refl

-- VALOFs are numbered where they begin: VALOF RESULTIS VALOF RESULTIS 1, followed by VALOF RESULTIS 2
abbrev gives : Exp → Exp
gives e = tree.Valof (commands (tree.ResultIs e ∷ []))

valofs_numbered : core_of (declarations (lets (tree.Function f [] (plus (gives (gives (number 1))) (gives (number 2))) ∷ []) ∷ []))
    ≡ record {
      places = c.Code (record { global = None; parameters = 0; body = c.Gives (core.Bin operators.Add (core.Valof 0) (core.Valof 2)) }) ∷ [];
      valofs =
          record { level = 3; body = c.block [] (these (c.ResultIs (core.Valof 1) ∷ [])) }
          ∷ record { level = 3; body = c.block [] (these (c.ResultIs (core.Num 1) ∷ [])) }
          ∷ record { level = 3; body = c.block [] (these (c.ResultIs (core.Num 2) ∷ [])) } ∷ [];
    }
valofs_numbered = refl

-- places in text order: STATIC $( A = 1; B = 2 $); LET F() = "X" AND START() BE START(TABLE 3, F); the string is the
-- fourth, START the fifth
abbrev starts : Command
starts = do_call start (tree.Table (list (number 3 ∷ [])) ∷ of f ∷ [])

places_numbered : core_of (declarations (constants storage.Static ((a, number 1) ∷ (b, number 2) ∷ [])
    ∷ lets (tree.Function f [] (tree.Text (codes "\"X\"")) ∷ tree.Routine start [] (commands (starts ∷ [])) ∷ []) ∷ []))
    ≡ record {
      places =
          c.Static 1 ∷ c.Static 2 ∷ c.Code (record { global = None; parameters = 0; body = c.Gives (core.Place 4) }) ∷ c.Text (88 ∷ [])
          ∷ routine None (c.block [] (these (c.Call (core.Call (core.argument (core.Place 6) (core.argument (core.Place 3) core.no_argument))
          (core.Place 5)) ∷ [])))
          ∷ c.Table (3 ∷ []) ∷ [];
      valofs = [];
    }
places_numbered = refl
