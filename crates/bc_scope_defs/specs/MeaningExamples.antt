-- Worked examples of what sections mean. The expected outputs follow from the rules in docs/language.md.
use Rattle.std.specs.Prelude.{ℕ, ◌≡◌, ◌+◌, codes, List, [], ◌∷◌}
use Rattle.std.proofs.Common.{refl}
use Rattle.bc_parse_tree.specs.declared.tree.Storage.TheVariants as storage
use Rattle.bc_parse_tree.specs.declared.tree.BinaryOp.TheVariants as binary
use Rattle.bc_parse_tree.specs.declared.tree.UnaryOp.TheVariants as unary
use Rattle.bc_parse_tree.specs.Tree.{Exp, Block, Declarations, Command}
use Rattle.bc_parse_tree.specs.Tree as tree
use Rattle.bc_machine_defs.specs.StreamStart.{start_streams}
use Rattle.bc_core.specs.Outcome.{Finished, ZeroDivide}
use Rattle.bc_core.specs.Start.{cells_from}
use Rattle.bc_core.specs.Meaning.{Result, Ended, Going, Wild, meaning_over}
use Rattle.bc_scope_defs.specs.Sections.{PlacedSection, find, standing_in}
use Rattle.bc_scope_defs.specs.Examples.{f, l, v, x, y, start, wrch, of, number, two, list, call, set, do_call, plain, labelled, with_case, items, body, commands, lets, variables, variable, constants, declarations, program}

-- places with the labels 1, 2, .. at 546, 547, .., and one output
abbrev runs : Declarations → ℕ → Result
runs ds n =
    let placed : List PlacedSection = record { declarations = ds; address = λ label. 545 + label } ∷ [] in
    meaning_over (cells_from 590 0 (standing_in placed)) (find placed) 560 (start_streams [] ((79 ∷ []) ∷ [])) n

abbrev run : Block → Result
run b = runs (program b) 100

abbrev printed : List ℕ → Result
printed bytes = Ended (bytes ∷ []) Finished

abbrev print : Exp → Command
print e = do_call wrch (e ∷ [])

-- `LET X = 0; L: X := X + 1; IF X < 3 DO GOTO L; WRCH('0' + X)`
by_labels : run (body (variable x (number 0) ∷ [])
    (labelled l (set x (two binary.Add (of x) (number 1))) ∷ plain (tree.If (two binary.Less (of x) (number 3)) (commands (tree.Goto l ∷ [])))
    ∷ plain (print (two binary.Add (number 48) (of x))) ∷ [])) ≡ printed (51 ∷ [])
by_labels = refl

-- `X, Y := Y, X` is done pair by pair
pair_by_pair : run (body (lets (variables (x ∷ y ∷ []) (number 65 ∷ number 66 ∷ []) ∷ []) ∷ [])
    (plain (tree.Assign (list (of x ∷ of y ∷ [])) (list (of y ∷ of x ∷ []))) ∷ plain (print (of x)) ∷ plain (print (of y)) ∷ [])) ≡ printed (66 ∷ 66 ∷ [])
pair_by_pair = refl

-- a list without the CASE and without DEFAULT is passed over; a case falls through to the next, and ENDCASE leaves
no_case : run (commands (tree.SwitchOn (number 3) (items (with_case 1 (print (number 88)) ∷ [])) ∷ [])) ≡ printed []
no_case = refl

falls_through : run (commands (tree.SwitchOn (number 2)
    (items (with_case 1 (print (number 65)) ∷ with_case 2 (print (number 66)) ∷ with_case 3 (print (number 67)) ∷ plain tree.EndCase
    ∷ with_case 4 (print (number 68)) ∷ [])) ∷ [])) ≡ printed (66 ∷ 67 ∷ [])
falls_through = refl

-- `IF NOT 1` doesn't hold; as a value NOT 1 is -2
not_one : run (commands (tree.If (tree.Unary unary.Not (number 1)) (commands (print (number 88) ∷ []))
    ∷ print (two binary.Add (number 67) (tree.Unary unary.Not (number 1))) ∷ [])) ≡ printed (65 ∷ [])
not_one = refl

-- a VALOF without RESULTIS has the value 0, and RESULTIS leaves a loop inside it
valofs : run (commands (print (two binary.Add (number 65) (tree.Valof (commands [])))
    ∷ print (tree.Valof (commands (tree.Repeat (tree.ResultIs (number 66)) ∷ []))) ∷ [])) ≡ printed (65 ∷ 66 ∷ [])
valofs = refl

-- statics and strings have their words when the run begins: the first of "AB" has the bytes 2 and 65
static_and_string : runs (declarations (constants storage.Global ((start, number 1) ∷ (wrch, number 14) ∷ []) ∷ constants storage.Static ((x, number 66) ∷ [])
    ∷ lets (tree.Routine start [] (commands (print (two binary.Index (tree.Text (codes "\"AB\"")) (number 0)) ∷ print (of x) ∷ [])) ∷ []) ∷ [])) 100
    ≡ printed (65 ∷ 66 ∷ [])
static_and_string = refl

-- `WRCH('A'); $( $) REPEAT` is going when its turns are used up
goes_on : runs (program (commands (print (number 65) ∷ tree.Repeat (tree.Compound (commands [])) ∷ []))) 9 ≡ Going ((65 ∷ []) ∷ [])
goes_on = refl

-- `X := 1/0` with X declared
zero_divisor : run (body (variable x (number 0) ∷ []) (plain (set x (two binary.Divide (number 1) (number 0))) ∷ [])) ≡ Ended ([] ∷ []) ZeroDivide
zero_divisor = refl

-- an unset cell outweighs the zero divisor on the other side: `LET V = VEC 0; !V := V!0 + 1/0`
wild : run (body (lets (tree.Vector v (number 0) ∷ []) ∷ []) (plain (tree.Assign (list (tree.Unary unary.Load (of v) ∷ []))
    (list (two binary.Add (two binary.Divide (number 1) (number 0)) (two binary.Index (of v) (number 0)) ∷ []))) ∷ [])) ≡ Wild
wild = refl

-- a missing argument is unset
abbrev with_routine : Exp → Exp → Result
with_routine e argument = runs (declarations (constants storage.Global ((start, number 1) ∷ (wrch, number 14) ∷ [])
    ∷ lets (tree.Function f (x ∷ y ∷ []) e ∷ tree.Routine start [] (commands (print (call f (argument ∷ [])) ∷ [])) ∷ []) ∷ [])) 100

missing_argument : with_routine (of y) (number 65) ≡ Wild
missing_argument = refl

unused_argument : with_routine (of x) (number 65) ≡ printed (65 ∷ [])
unused_argument = refl
