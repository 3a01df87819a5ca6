-- Worked examples of constants: their values, what isn't a constant, and what names mean in them.
use Rattle.std.specs.Prelude.{ℕ, ◌≡◌, codes, List, [], ◌∷◌, map, Option, Some, None, refl, true}
use Rattle.bc_parse_tree.specs.declared.tree.Storage.{Storage}
use Rattle.bc_parse_tree.specs.declared.tree.Storage.TheVariants as storage
use Rattle.bc_parse_tree.specs.declared.tree.BinaryOp.TheVariants as binary
use Rattle.bc_parse_tree.specs.Tree.{Exp, Declaration, Command}
use Rattle.bc_parse_tree.specs.Tree as tree
use Rattle.bc_core.specs.Commands as c
use Rattle.bc_scope_defs.specs.Scope.{Env, Name, Constant, Static, Global, Routine, Variable}
use Rattle.bc_scope_defs.specs.Scoping.{constant_in}
use Rattle.bc_scope_defs.specs.Faults.{Fault, ANotConstant, AGlobalNumber, section_fault}
use Rattle.bc_scope_defs.specs.Translation.{core_of}
use Rattle.bc_scope_defs.specs.Examples.{a, b, f, g, l, v, x, y, of, number, two, list, call, set, plain, labelled, items, body, commands, lets, variables, variable, constants, declarations}
use Rattle.bc_scope_defs.specs.worked.Written.{fault_in, load, address_of, minus, opposite, plus, index, cased, section, manifest}

-- ---- Worked examples

-- Values, where A is the constant 5, B a static, G a global, F a routine and X a variable
abbrev names : Env
names = record { names = (a, Constant 5) ∷ (b, Static 2) ∷ (g, Global 100) ∷ (f, Routine 3) ∷ (x, Variable 2) ∷ []; inside = true }

abbrev worth : Exp → Option ℕ
worth e = constant_in names e

-- 7, 'A', TRUE, FALSE, A
leaves : (worth (number 7) ≡ Some 7) × (worth (tree.Character 65) ≡ Some 65) × (worth tree.True ≡ Some 65535) × (worth tree.False
    ≡ Some 0) × (worth (of a) ≡ Some 5)
leaves = (refl, refl, refl, refl, refl)

-- -A, NOT A, -0
unaries : (worth (minus (of a)) ≡ Some 65531) × (worth (opposite (of a)) ≡ Some 65530) × (worth (minus (number 0)) ≡ Some 0)
unaries = (refl, refl, refl)

-- 13 op 5, for each operator but `!`: EQV NEQV | & << >> = NE < GE > LE + - * / REM
binaries : map (λ o. worth (two o (number 13) (of a)))
    (binary.Equivalent ∷ binary.NotEquivalent ∷ binary.Or ∷ binary.And ∷ binary.ShiftLeft ∷ binary.ShiftRight ∷ binary.Equal ∷ binary.NotEqual ∷ binary.Less
    ∷ binary.GreaterEqual ∷ binary.Greater ∷ binary.LessEqual ∷ binary.Add ∷ binary.Subtract ∷ binary.Multiply ∷ binary.Divide ∷ binary.Remainder ∷ [])
    ≡ Some 65527 ∷ Some 8 ∷ Some 13 ∷ Some 5 ∷ Some 416 ∷ Some 0 ∷ Some 0 ∷ Some 65535 ∷ Some 0
    ∷ Some 65535 ∷ Some 65535 ∷ Some 0 ∷ Some 18 ∷ Some 8 ∷ Some 65 ∷ Some 2 ∷ Some 3 ∷ []
binaries = refl

-- 65535 + 1 and 0 - 1 wrap; -7 / 2 is -3; -1 < 0
wraps : (worth (plus (number 65535) (number 1)) ≡ Some 0) × (worth (two binary.Subtract (number 0) (number 1)) ≡ Some 65535)
wraps = (refl, refl)

signed : (worth (two binary.Divide (minus (number 7)) (number 2)) ≡ Some 65533) × (worth (two binary.Less (minus (number 1)) (number 0)) ≡ Some 65535)
signed = (refl, refl)

-- 1/0 and 1 REM 0 aren't constants, and neither is anything that contains them: 0 * (1/0), FALSE & 1/0
zero_divisors : (worth (two binary.Divide (number 1) (number 0)) ≡ None) × (worth (two binary.Remainder (number 1) (number 0)) ≡ None)
    × (worth (two binary.Multiply (number 0) (two binary.Divide (number 1) (number 0))) ≡ None)
    × (worth (two binary.And tree.False (two binary.Divide (number 1) (number 0))) ≡ None)
zero_divisors = (refl, refl, refl, refl)

-- B, G, F, X and a name that isn't in scope aren't constants
no_constant_names : (worth (of b) ≡ None) × (worth (of g) ≡ None) × (worth (of f) ≡ None) × (worth (of x) ≡ None) × (worth (of y) ≡ None)
no_constant_names = (refl, refl, refl, refl, refl)

-- !1, @X, 1!2, "A", TABLE 1, VALOF RESULTIS 1, F(), 1 -> 2, 3
no_constants : (worth (load (number 1)) ≡ None) × (worth (address_of (of x)) ≡ None) × (worth (index (number 1) (number 2)) ≡ None)
    × (worth (tree.Text (codes "\"A\"")) ≡ None) × (worth (tree.Table (list (number 1 ∷ []))) ≡ None)
    × (worth (tree.Valof (commands (tree.ResultIs (number 1) ∷ []))) ≡ None) × (worth (call f []) ≡ None)
    × (worth (tree.Cond (number 1) (number 2) (number 3)) ≡ None)
no_constants = (refl, refl, refl, refl, refl, refl, refl, refl)

-- Where a constant is required: allowed with MANIFEST $( A = 1 $), and a fault with LET A = 1

abbrev with_manifest : Command → Option Fault
with_manifest d = section_fault (section (manifest a 1 ∷ []) (body (variable x (number 0) ∷ []) (plain d ∷ [])))

abbrev with_variable : Command → Option Fault
with_variable d = fault_in (body (lets (variables (x ∷ a ∷ []) (number 0 ∷ number 1 ∷ []) ∷ []) ∷ []) (plain d ∷ []))

abbrev wants_constant : Command → Type 0
wants_constant d = (with_manifest d ≡ None) × (with_variable d ≡ Some ANotConstant)

-- FOR Y = 1 TO 2 BY A
in_step : wants_constant (tree.ForBy y (number 1) (number 2) (of a) (commands []))
in_step = (refl, refl)

-- SWITCHON 1 INTO $( CASE A: RETURN $)
in_case : wants_constant (tree.SwitchOn (number 1) (items (cased (of a) tree.Return ∷ [])))
in_case = (refl, refl)

-- X := TABLE A, and TABLE 1, A
in_table : wants_constant (set x (tree.Table (list (of a ∷ [])))) × wants_constant (set x (tree.Table (list (number 1 ∷ of a ∷ []))))
in_table = ((refl, refl), (refl, refl))

-- $( LET V = VEC A $), $( STATIC $( V = A $) $), $( GLOBAL $( V:A $) $), $( MANIFEST $( V = A $) $)
abbrev declared : Declaration → Command
declared d = tree.Compound (body (d ∷ []) [])

in_vector : wants_constant (declared (lets (tree.Vector v (of a) ∷ [])))
in_vector = (refl, refl)

abbrev in_list : Storage → Type 0
in_list s = wants_constant (declared (constants s ((v, of a) ∷ [])))

in_lists : in_list storage.Static × in_list storage.Global × in_list storage.Manifest
in_lists = ((refl, refl), (refl, refl), (refl, refl))

-- a label's name in each of them is like a variable: L: FOR Y = 1 TO 2 BY L, ..
abbrev at_label : Command → Option Fault
at_label d = fault_in (body (variable x (number 0) ∷ []) (labelled l d ∷ []))

labels_are_none : (at_label (tree.ForBy y (number 1) (number 2) (of l) (commands [])) ≡ Some ANotConstant)
    × (at_label (tree.SwitchOn (number 1) (items (cased (of l) tree.Return ∷ []))) ≡ Some ANotConstant)
    × (at_label (set x (tree.Table (list (of l ∷ [])))) ≡ Some ANotConstant)
    × (at_label (declared (lets (tree.Vector v (of l) ∷ []))) ≡ Some ANotConstant)
    × (at_label (declared (constants storage.Static ((v, of l) ∷ []))) ≡ Some ANotConstant)
    × (at_label (declared (constants storage.Global ((v, of l) ∷ []))) ≡ Some ANotConstant)
    × (at_label (declared (constants storage.Manifest ((v, of l) ∷ []))) ≡ Some ANotConstant)
labels_are_none = (refl, refl, refl, refl, refl, refl, refl)

-- deeper in the constant, and with `@`: TABLE L + 1, TABLE @L
labels_deeper : (at_label (set x (tree.Table (list (plus (of l) (number 1) ∷ [])))) ≡ Some ANotConstant)
    × (at_label (set x (tree.Table (list (address_of (of l) ∷ [])))) ≡ Some ANotConstant)
labels_deeper = (refl, refl)

-- a start and a limit needn't be constants: FOR Y = A TO A, with LET A = 1
start_and_limit : (with_variable (tree.For y (of a) (of a) (commands [])) ≡ None) × (with_manifest (tree.For y (of a) (of a) (commands [])) ≡ None)
start_and_limit = (refl, refl)

-- Names of one declaration

-- MANIFEST $( A = 1; B = A + 1 $); STATIC $( X = A + B $): the static begins with 3
abbrev a_and_b : Declaration
a_and_b = constants storage.Manifest ((a, number 1) ∷ (b, plus (of a) (number 1)) ∷ [])

following : (core_of (declarations (a_and_b ∷ constants storage.Static ((x, plus (of a) (of b)) ∷ []) ∷ []))).places ≡ c.Static 3 ∷ []
following = refl

-- MANIFEST $( B = A + 1; A = 1 $), and MANIFEST $( A = A $)
before : section_fault (declarations (constants storage.Manifest ((b, plus (of a) (number 1)) ∷ (a, number 1) ∷ []) ∷ [])) ≡ Some ANotConstant
before = refl

itself : section_fault (declarations (constants storage.Manifest ((a, of a) ∷ []) ∷ [])) ≡ Some ANotConstant
itself = refl

-- a manifest further out is hidden by the declaration's own names: MANIFEST $( A = 1 $), then MANIFEST $( B = A $)
-- and MANIFEST $( B = A; A = 2 $)
abbrev then_constants : Storage → List (Name × Exp) → Option Fault
then_constants s es = section_fault (declarations (manifest a 1 ∷ constants s es ∷ []))

further_out : (then_constants storage.Manifest ((b, of a) ∷ []) ≡ None) × (then_constants storage.Static ((b, of a) ∷ [])
    ≡ None) × (then_constants storage.Global ((b, of a) ∷ []) ≡ None)
further_out = (refl, refl, refl)

hidden : (then_constants storage.Manifest ((b, of a) ∷ (a, number 2) ∷ []) ≡ Some ANotConstant)
    × (then_constants storage.Static ((b, of a) ∷ (a, number 2) ∷ []) ≡ Some ANotConstant)
    × (then_constants storage.Global ((b, of a) ∷ (a, number 2) ∷ []) ≡ Some ANotConstant)
hidden = (refl, refl, refl)

-- LET V = VEC A, and with AND A = 2, and with AND A() = 2
abbrev with_vector : List tree.Definition → Option Fault
with_vector ds = section_fault (section (manifest a 1 ∷ []) (body (lets (tree.Vector v (of a) ∷ ds) ∷ []) []))

vector_alone : with_vector [] ≡ None
vector_alone = refl

vector_and_variable : with_vector (variables (a ∷ []) (number 2 ∷ []) ∷ []) ≡ Some ANotConstant
vector_and_variable = refl

vector_and_routine : with_vector (tree.Function a [] (number 2) ∷ []) ≡ Some ANotConstant
vector_and_routine = refl

-- in an initialiser the same name is the variable: LET X = A AND A = 2
initialiser : section_fault (section (manifest a 1 ∷ []) (body (lets (variables (x ∷ []) (of a ∷ []) ∷ variables (a ∷ []) (number 2 ∷ []) ∷ [])
    ∷ []) [])) ≡ None
initialiser = refl

-- GLOBAL $( A:511 $), $( A:512 $), $( A:-1 $), $( A:1/0 $)
abbrev global : Exp → Option Fault
global k = section_fault (declarations (constants storage.Global ((a, k) ∷ []) ∷ []))

global_numbers : (global (number 511) ≡ None) × (global (number 512) ≡ Some (AGlobalNumber a)) × (global (minus (number 1)) ≡ Some (AGlobalNumber a))
    × (global (two binary.Divide (number 1) (number 0)) ≡ Some ANotConstant)
global_numbers = (refl, refl, refl, refl)

-- two globals with the same number are allowed: GLOBAL $( A:100; B:100 $)
one_number : section_fault (declarations (constants storage.Global ((a, number 100) ∷ (b, number 100) ∷ []) ∷ [])) ≡ None
one_number = refl
