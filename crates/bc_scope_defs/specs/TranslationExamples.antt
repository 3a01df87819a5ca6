-- Worked examples of the translation. The expected sections follow from the rules in docs/language.md.
use Rattle.std.specs.Prelude.{ℕ, ◌≡◌, true, codes, List, [], ◌∷◌, Option, Some, None}
use Rattle.std.proofs.Common.{refl}
use Rattle.bc_word.specs.declared.operator.Op.TheVariants as operators
use Rattle.bc_parse_tree.specs.declared.tree.Storage.TheVariants as storage
use Rattle.bc_parse_tree.specs.declared.tree.BinaryOp.TheVariants as binary
use Rattle.bc_parse_tree.specs.declared.tree.UnaryOp.TheVariants as unary
use Rattle.bc_parse_tree.specs.Tree.{Exp, Block, Declarations, Command}
use Rattle.bc_parse_tree.specs.Tree as tree
use Rattle.bc_core.specs.Tree as core
use Rattle.bc_core.specs.Commands as c
use Rattle.bc_scope_defs.specs.Scope.{Env, nothing_known, Constant, Global, Routine, Variable}
use Rattle.bc_scope_defs.specs.Scoping.{level_after}
use Rattle.bc_scope_defs.specs.Sides.{side_level_of}
use Rattle.bc_scope_defs.specs.Translation.{forms, core_of}
use Rattle.bc_scope_defs.specs.Found.{Thing, AValof, ARoutine, Data, section_start, found_in_section}
use Rattle.bc_scope_defs.specs.Frames.{frame_of}
use Rattle.bc_scope_defs.specs.Examples.{a, b, f, g, l, v, x, y, start, wrch, of, number, two, list, call, set, do_call, plain, labelled, body, commands, lets, variables, variable, constants, declarations, alone, program}

abbrev at : ℕ → core.Exp
at k = core.Load (core.Frame k)

-- Expressions, where A is the constant 5, V is the global 100, F is the routine with the label 3, and X and Y are at
-- the offsets 2 and 3

abbrev names : Env
names = record { names = (a, Constant 5) ∷ (v, Global 100) ∷ (f, Routine 3) ∷ (x, Variable 2) ∷ (y, Variable 3) ∷ []; inside = true }

abbrev translated : Exp → core.Exp
translated e = (forms names section_start e).content

abbrev load : Exp → Exp
load e = tree.Unary unary.Load e

abbrev address_of : Exp → Exp
address_of e = tree.Unary unary.Address e

abbrev opposite : Exp → Exp
opposite e = tree.Unary unary.Not e

names_stand : translated (two binary.Add (of a) (of v)) ≡ core.Bin operators.Add (core.Num 5) (core.Load (core.Glob 100))
names_stand = refl

routines_stand : translated (call f (of x ∷ of y ∷ [])) ≡ core.Call (core.argument (at 2) (core.argument (at 3) core.no_argument)) (core.Place 3)
routines_stand = refl

-- `!X`, `V!1`, `@(V!1)`, `@!X`
content : translated (load (of x)) ≡ core.Load (at 2)
content = refl

indexed : translated (two binary.Index (of v) (number 1)) ≡ core.Load (core.Bin operators.Add (core.Load (core.Glob 100)) (core.Num 1))
indexed = refl

address_of_indexed : translated (address_of (two binary.Index (of v) (number 1))) ≡ core.Bin operators.Add (core.Load (core.Glob 100)) (core.Num 1)
address_of_indexed = refl

address_of_content : translated (address_of (load (of x))) ≡ at 2
address_of_content = refl

-- NOT of a relation is the opposite relation, also if that relation was made in this way; NOT of anything else stays
not_less : translated (opposite (two binary.Less (of x) (number 7))) ≡ core.Bin operators.GreaterEqual (at 2) (core.Num 7)
not_less = refl

not_not_less : translated (opposite (opposite (two binary.Less (of x) (number 7)))) ≡ core.Bin operators.Less (at 2) (core.Num 7)
not_not_less = refl

not_variable : translated (opposite (of x)) ≡ core.Not (at 2)
not_variable = refl

-- nothing is folded or reordered
not_folded : translated (two binary.Add (number 1) (tree.Unary unary.Neg (number 2))) ≡ core.Bin operators.Add (core.Num 1) (core.Neg (core.Num 2))
not_folded = refl

-- in a call, a VALOF in the routine is numbered before those in the arguments
numbered : translated (tree.Call (tree.Valof (commands [])) (list (tree.Valof (commands []) ∷ [])))
    ≡ core.Call (core.argument (core.Valof 1) core.no_argument) (core.Valof 0)
numbered = refl

-- Both sides of an assignment are at the level s if the address is an operand, as that of `X`, `!X` and `(@X)!1` is.
-- Otherwise, as with `X!1` and `!(!X)`, they are at s + 1.
abbrev level_of_sides : Exp → ℕ
level_of_sides e = side_level_of names e 6

of_variable : level_of_sides (of x) ≡ 6
of_variable = refl

of_content : level_of_sides (load (of x)) ≡ 6
of_content = refl

of_cell_after : level_of_sides (two binary.Index (address_of (of x)) (number 1)) ≡ 6
of_cell_after = refl

of_indexed : level_of_sides (two binary.Index (of x) (number 1)) ≡ 7
of_indexed = refl

of_content_of_content : level_of_sides (load (load (of x))) ≡ 7
of_content_of_content = refl

-- Sections

abbrev routine : Option ℕ → c.Block → c.Place
routine global b = c.Code (record { global = global; parameters = 0; body = c.Does b })

abbrev these : List c.Command → c.Items
these [] = c.no_item
these (d ∷ ds) = c.command d (these ds)

-- the routines that are found, in text order
abbrev frames_among : List Thing → List ℕ
frames_among [] = []
frames_among (ARoutine r ∷ things) = frame_of r ∷ frames_among things
frames_among (AValof f ∷ things) = frames_among things
frames_among (Data label d ∷ things) = frames_among things

abbrev frames : Declarations → List ℕ
frames ds = frames_among (found_in_section ds)

-- `LET A, B = 1, 2; A := A + B`: the roots have the level 4, and the frame has 6 cells
abbrev sum : Declarations
sum = alone (body (lets (variables (a ∷ b ∷ []) (number 1 ∷ number 2 ∷ []) ∷ []) ∷ []) (plain (set a (two binary.Add (of a) (of b))) ∷ []))

sum_translated : core_of sum ≡ record {
  places =
      routine None (c.block ((c.Initial (core.Num 1) ∷ c.Initial (core.Num 2) ∷ []) ∷ [])
      (these (c.Assign (core.Bin operators.Add (at 2) (at 3)) (core.Frame 2) ∷ []))) ∷ [];
  valofs = [];
}
sum_translated = refl

sum_level : level_after nothing_known section_start 2 (declarations (lets (variables (a ∷ b ∷ []) (number 1 ∷ number 2 ∷ []) ∷ []) ∷ [])) ≡ 4
sum_level = refl

sum_frame : frames sum ≡ 6 ∷ []
sum_frame = refl

-- `FOR X = 1 TO 3 DO WRCH(X)`: X is at 2, its limit at 3, the call at the level 4, and its routine at the level 7,
-- which is the size of the frame
abbrev counting : Declarations
counting = program (commands (tree.For x (number 1) (number 3) (commands (do_call wrch (of x ∷ []) ∷ [])) ∷ []))

counting_translated : core_of counting ≡ record {
  places =
      routine (Some 1) (c.block [] (these (c.For (core.Num 1) (core.Num 3) 1 (c.block []
      (these (c.Call (core.Call (core.argument (at 2) core.no_argument) (core.Load (core.Glob 14))) ∷ []))) ∷ []))) ∷ [];
  valofs = [];
}
counting_translated = refl

counting_frame : frames counting ≡ 7 ∷ []
counting_frame = refl

-- a name that was hidden is visible again
comes_back : core_of (alone (body (variable x (number 1) ∷ []) (plain (tree.Compound (body (variable x (number 2) ∷ []) (plain (set x (number 3)) ∷ [])))
    ∷ plain (set x (number 4)) ∷ []))) ≡ record {
      places =
          routine None (c.block ((c.Initial (core.Num 1) ∷ []) ∷ []) (these
          (c.Nested (c.block ((c.Initial (core.Num 2) ∷ []) ∷ []) (these (c.Assign (core.Num 3) (core.Frame 3) ∷ [])))
          ∷ c.Assign (core.Num 4) (core.Frame 2) ∷ []))) ∷ [];
      valofs = [];
    }
comes_back = refl

-- two routines of one LET that call each other
call_each_other : core_of (declarations (lets (tree.Routine f [] (commands (do_call g [] ∷ [])) ∷ tree.Routine g [] (commands (do_call f [] ∷ [])) ∷ [])
    ∷ [])) ≡ record {
      places =
          routine None (c.block [] (these (c.Call (core.Call core.no_argument (core.Place 2)) ∷ [])))
          ∷ routine None (c.block [] (these (c.Call (core.Call core.no_argument (core.Place 1)) ∷ []))) ∷ [];
      valofs = [];
    }
call_each_other = refl

-- a nested routine whose name means a global sets it and makes no new name; its place comes after that of the routine
-- around it
sets_a_global : core_of (declarations (constants storage.Global ((f, number 100) ∷ [])
    ∷ lets (tree.Routine start [] (body (lets (tree.Routine f [] (commands []) ∷ []) ∷ []) (plain (do_call f []) ∷ [])) ∷ []) ∷ [])) ≡ record {
      places =
          routine None (c.block ([] ∷ []) (these (c.Call (core.Call core.no_argument (core.Load (core.Glob 100))) ∷ [])))
          ∷ routine (Some 100) (c.block [] c.no_item) ∷ [];
      valofs = [];
    }
sets_a_global = refl

-- `LET V = VEC 3 AND X = 1`: V is at 2, its cells at 3 to 6, X at 7
after_a_vector : core_of (alone (body (lets (tree.Vector v (number 3) ∷ variables (x ∷ []) (number 1 ∷ []) ∷ []) ∷ []) (plain (set x (of v)) ∷ []))) ≡ record {
  places = routine None (c.block ((c.Vector 3 ∷ c.Initial (core.Num 1) ∷ []) ∷ []) (these (c.Assign (at 2) (core.Frame 7) ∷ []))) ∷ [];
  valofs = [];
}
after_a_vector = refl

-- `MANIFEST $( A = -1; B = NOT A $)`, `STATIC $( X = B + 2 $)`, and data in a routine: all places in text order
places_in_order : core_of (declarations
    (constants storage.Manifest ((a, tree.Unary unary.Neg (number 1)) ∷ (b, opposite (of a)) ∷ [])
    ∷ constants storage.Static ((x, two binary.Add (of b) (number 2)) ∷ [])
    ∷ lets (tree.Routine start [] (commands (set x (tree.Table (list (of a ∷ number 3 ∷ []))) ∷ set x (tree.Text (codes "\"A*N\"")) ∷ [])) ∷ []) ∷ []))
    ≡ record {
      places =
          c.Static 2
          ∷ routine None (c.block [] (these (c.Assign (core.Place 3) (core.Place 1) ∷ c.Assign (core.Place 4) (core.Place 1) ∷ [])))
          ∷ c.Table (65535 ∷ 3 ∷ []) ∷ c.Text (65 ∷ 10 ∷ []) ∷ [];
      valofs = [];
    }
places_in_order = refl

-- GLOBAL $( START:1; WRCH:14 $)
-- LET F(X) = VALOF $( LET Y = X+1; IF Y = 3 GOTO L; RESULTIS Y; L: RESULTIS VALOF RESULTIS NOT Y < 7 $)
-- AND START() BE $( LET X, Y = 1, 2; X, !Y := Y, @X; WRCH(F(X)) $)
abbrev section : Declarations
section = declarations
    (constants storage.Global ((start, number 1) ∷ (wrch, number 14) ∷ [])
    ∷ lets
    (tree.Function f (x ∷ []) (tree.Valof (body (variable y (two binary.Add (of x) (number 1)) ∷ [])
    (plain (tree.If (two binary.Equal (of y) (number 3)) (commands (tree.Goto l ∷ [])))
    ∷ plain (tree.ResultIs (of y))
    ∷ labelled l (tree.ResultIs (tree.Valof (commands (tree.ResultIs (opposite (two binary.Less (of y) (number 7))) ∷ [])))) ∷ [])))
    ∷ tree.Routine start [] (body (lets (variables (x ∷ y ∷ []) (number 1 ∷ number 2 ∷ []) ∷ []) ∷ [])
    (plain (tree.Assign (list (of x ∷ load (of y) ∷ [])) (list (of y ∷ address_of (of x) ∷ [])))
    ∷ plain (do_call wrch (call f (of x ∷ []) ∷ [])) ∷ [])) ∷ []) ∷ [])

section_translated : core_of section ≡ record {
  places =
      c.Code (record { global = None; parameters = 1; body = c.Gives (core.Valof 0) })
      ∷ c.Code (record {
        global = Some 1;
        parameters = 0;
        body = c.Does (c.block ((c.Initial (core.Num 1) ∷ c.Initial (core.Num 2) ∷ []) ∷ [])
            (c.command (c.Nested (c.block [] (c.command (c.Assign (at 3) (core.Frame 2)) (c.command (c.Assign (core.Frame 2) (at 3)) c.no_item))))
            (c.command (c.Call (core.Call (core.argument (core.Call (core.argument (at 2) core.no_argument) (core.Place 1)) core.no_argument)
            (core.Load (core.Glob 14))))
            c.no_item)));
      })
      ∷ [];
  valofs =
      record {
        level = 3;
        body = c.block ((c.Initial (core.Bin operators.Add (at 2) (core.Num 1)) ∷ []) ∷ [])
            (c.command (c.If true (core.Bin operators.Equal (at 3) (core.Num 3)) (c.block [] (c.command (c.Goto 0) c.no_item)))
            (c.command (c.ResultIs (at 3))
            (c.label 0 (c.command (c.ResultIs (core.Valof 1)) c.no_item))));
      }
      ∷ record { level = 4; body = c.block [] (c.command (c.ResultIs (core.Bin operators.GreaterEqual (at 3) (core.Num 7))) c.no_item) }
      ∷ [];
}
section_translated = refl
