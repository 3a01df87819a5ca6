-- Worked examples of names: which names hide others, what a routine may use, and which routines set a global.
use Rattle.std.specs.Prelude.{ℕ, ◌≡◌, List, [], ◌∷◌, Option, Some, None, refl}
use Rattle.bc_parse_tree.specs.declared.tree.Storage.TheVariants as storage
use Rattle.bc_parse_tree.specs.Tree.{Exp, Block, Declaration, Definition}
use Rattle.bc_parse_tree.specs.Tree as tree
use Rattle.bc_core.specs.Meaning.{Wild}
use Rattle.bc_scope_defs.specs.Scope.{Name}
use Rattle.bc_scope_defs.specs.Faults.{Fault, AnUndeclared, ADynamicFree, ANotAssignable, AMisplaced, section_fault}
use Rattle.bc_scope_defs.specs.Found.{Thing, AValof, ARoutine, Data, found_in_section}
use Rattle.bc_scope_defs.specs.Examples.{a, b, f, g, l, x, y, start, wrch, of, number, call, set, do_call, plain, labelled, body, commands, lets, variables, variable, constants, declarations}
use Rattle.bc_scope_defs.specs.worked.Written.{fault_in, plus, digit, section, manifest, runs, run, printed}

-- ---- Worked examples

abbrev only : Block → Type 0
only b = fault_in b ≡ None

-- LET Y = 1; LET X = Y, and the other way round
declared_before : only (body (variable y (number 1) ∷ variable x (of y) ∷ []) [])
declared_before = refl

declared_after : fault_in (body (variable x (of y) ∷ variable y (number 1) ∷ []) []) ≡ Some (AnUndeclared y)
declared_after = refl

-- LET X = Y AND Y = 1: Y is in scope in all of the LET, but unset when X is set
abbrev together : Block
together = body (lets (variables (x ∷ []) (of y ∷ []) ∷ variables (y ∷ []) (number 1 ∷ []) ∷ []) ∷ []) (plain (digit (of x)) ∷ [])

known_together : section_fault (section [] together) ≡ None
known_together = refl

unset_together : run together ≡ Wild
unset_together = refl

-- LET Y = 1 AND X = Y: initialisers are done in text order
set_in_order : run (body (lets (variables (y ∷ []) (number 1 ∷ []) ∷ variables (x ∷ []) (of y ∷ []) ∷ []) ∷ []) (plain (digit (of x)) ∷ []))
    ≡ printed (49 ∷ [])
set_in_order = refl

-- LET X = 1; LET X = X + 1: the X in the second LET is its own, which is unset
own_initialiser : run (body (variable x (number 1) ∷ variable x (plus (of x) (number 1)) ∷ []) (plain (digit (of x)) ∷ [])) ≡ Wild
own_initialiser = refl

-- LET X = 1; LET Y = X + 1; LET X = Y
hides_later : run (body (variable x (number 1) ∷ variable y (plus (of x) (number 1)) ∷ variable x (of y) ∷ []) (plain (digit (of x)) ∷ []))
    ≡ printed (50 ∷ [])
hides_later = refl

-- MANIFEST $( A = 2 $), and then LET A = 3 in a block: 3, and 2 after the block
comes_back : runs (section (manifest a 2 ∷ []) (body [] (plain (tree.Compound (body (variable a (number 3) ∷ []) (plain (digit (of a)) ∷ []))) ∷ plain
    (digit (of a)) ∷ [])))
    ≡ printed (51 ∷ 50 ∷ [])
comes_back = refl

-- a manifest hides a variable in a block: LET X = 1; $( MANIFEST $( X = 2 $); X := 3 $)
hidden_by_manifest : fault_in (body (variable x (number 1) ∷ []) (plain (tree.Compound (body (manifest x 2 ∷ []) (plain (set x (number 3)) ∷ []))) ∷ []))
    ≡ Some ANotAssignable
hidden_by_manifest = refl

-- a label hides a variable of its block in the commands, but not in the declarations: LET L = 1; LET X = L; L: X :=
-- 2, and L: X := L
label_after_declarations : only (body (variable l (number 1) ∷ variable x (of l) ∷ []) (labelled l (set x (number 2)) ∷ []))
label_after_declarations = refl

label_hides : fault_in (body (variable l (number 1) ∷ variable x (of l) ∷ []) (labelled l (set x (of l)) ∷ [])) ≡ Some AMisplaced
label_hides = refl

-- What a routine uses of the things around it: LET START() BE $( LET X = 0; LET F() = E; .. $), with MANIFEST $( A =
-- 1 $), STATIC $( B = 2 $), GLOBAL $( G:100 $)
abbrev used : Exp → Option Fault
used e = section_fault (section (manifest a 1 ∷ constants storage.Static ((b, number 2) ∷ []) ∷ constants storage.Global ((g, number 100) ∷ []) ∷ [])
    (body (variable x (number 0) ∷ lets (tree.Function f [] e ∷ []) ∷ []) (labelled l (set x (call f [])) ∷ [])))

uses : (used (of a) ≡ None) × (used (of b) ≡ None) × (used (of g) ≡ None) × (used (of start) ≡ None) × (used (of f) ≡ None)
uses = (refl, refl, refl, refl, refl)

uses_variable : used (of x) ≡ Some (ADynamicFree x)
uses_variable = refl

-- a label of the commands isn't in scope in the declarations before them
uses_label : used (of l) ≡ Some (AnUndeclared l)
uses_label = refl

-- in the commands it is: L: $( LET F() = L; .. $)
label_around : fault_in (body [] (labelled l (tree.Compound (body (lets (tree.Function f [] (of l) ∷ []) ∷ []) [])) ∷ [])) ≡ Some (ADynamicFree l)
label_around = refl

-- a variable of an enclosing routine hides names further out: STATIC $( X = 1 $); LET START() BE $( LET X = 0; LET
-- F() = X $)
hidden_static : section_fault (section (constants storage.Static ((x, number 1) ∷ []) ∷ []) (body (variable x (number 0) ∷ lets (tree.Function f []
    (of x) ∷ []) ∷ []) []))
    ≡ Some (ADynamicFree x)
hidden_static = refl

static_alone : section_fault (section (constants storage.Static ((x, number 1) ∷ []) ∷ []) (body (lets (tree.Function f [] (of x) ∷ []) ∷ []) [])) ≡ None
static_alone = refl

-- a routine two deep: LET F(X) BE $( LET G(Y) BE $( LET L() = Y; .. $) $), and = X
abbrev two_deep : Name → Option Fault
two_deep n = section_fault (declarations (lets (tree.Routine f (x ∷ [])
    (body (lets (tree.Routine g (y ∷ []) (body (lets (tree.Function l [] (of n) ∷ []) ∷ []) []) ∷ []) ∷ []) []) ∷ []) ∷ []))

free_one_out : two_deep y ≡ Some (ADynamicFree y)
free_one_out = refl

free_two_out : two_deep x ≡ Some (ADynamicFree x)
free_two_out = refl

routines_out : (two_deep f ≡ None) × (two_deep g ≡ None) × (two_deep l ≡ None)
routines_out = (refl, refl, refl)

-- a VALOF belongs to the routine around it: LET F(X) = VALOF RESULTIS X
in_valof : section_fault (declarations (lets (tree.Function f (x ∷ []) (tree.Valof (commands (tree.ResultIs (of x) ∷ []))) ∷ []) ∷ [])) ≡ None
in_valof = refl

-- Which global a routine sets
abbrev globals_among : List Thing → List (Option ℕ)
globals_among [] = []
globals_among (ARoutine r ∷ things) = r.global ∷ globals_among things
globals_among (AValof t ∷ things) = globals_among things
globals_among (Data m d ∷ things) = globals_among things

-- the routines in text order
abbrev globals : List Declaration → List (Option ℕ)
globals ds = globals_among (found_in_section (declarations (constants storage.Global ((g, number 100) ∷ []) ∷ ds)))

abbrev g_does : Definition
g_does = tree.Routine g [] (commands [])

-- GLOBAL $( G:100 $); LET G() BE $( $), and LET F() BE $( $)
sets_its_global : globals (lets (g_does ∷ []) ∷ []) ≡ Some 100 ∷ []
sets_its_global = refl

sets_none : globals (lets (tree.Routine f [] (commands []) ∷ []) ∷ []) ≡ None ∷ []
sets_none = refl

-- LET G() BE $( $) twice, one inside the other: both set the global
sets_within : globals (lets (tree.Routine g [] (body (lets (g_does ∷ []) ∷ []) []) ∷ []) ∷ []) ≡ Some 100 ∷ Some 100 ∷ []
sets_within = refl

-- LET F(G) BE $( LET G() BE $( $) $): the parameter hides the global, so G is the name of a routine
hidden_by_parameter : globals (lets (tree.Routine f (g ∷ []) (body (lets (g_does ∷ []) ∷ []) []) ∷ []) ∷ []) ≡ None ∷ None ∷ []
hidden_by_parameter = refl

-- the same in a block with LET G = 1; LET G() BE $( $)
hidden_by_variable : globals (lets (tree.Routine f [] (body (variable g (number 1) ∷ lets (g_does ∷ []) ∷ []) []) ∷ []) ∷ []) ≡ None ∷ None ∷ []
hidden_by_variable = refl

-- STATIC $( G = 1 $) after GLOBAL $( G:100 $)
hidden_by_static : globals (constants storage.Static ((g, number 1) ∷ []) ∷ lets (g_does ∷ []) ∷ []) ≡ None ∷ []
hidden_by_static = refl

-- the name of such a routine means the global: LET G() BE $( $) AND START() BE G() calls what the global 100 holds,
-- which G := .. may change
global_is_called : runs (section (constants storage.Global ((g, number 100) ∷ []) ∷ lets (tree.Routine g [] (commands (digit (number 1) ∷ [])) ∷ []) ∷ [])
    (commands (do_call g [] ∷ set g (of wrch) ∷ do_call g (number 50 ∷ []) ∷ []))) ≡ printed (49 ∷ 50 ∷ [])
global_is_called = refl

-- without GLOBAL its name isn't a variable: G := WRCH
routine_is_set : section_fault (section (lets (tree.Routine g [] (commands (digit (number 1) ∷ [])) ∷ []) ∷ []) (commands (set g (of wrch) ∷ [])))
    ≡ Some ANotAssignable
routine_is_set = refl
