-- Worked examples of `@E` for each form of E: whether it is a fault, what kind of operand it is, its translation, and
-- its meaning.
use Rattle.std.specs.Prelude.{ℕ, ◌≡◌, codes, List, [], ◌∷◌, map, Option, Some, None, refl, true, false}
use Rattle.bc_word.specs.declared.operator.Op.TheVariants as operators
use Rattle.bc_parse_tree.specs.declared.tree.Storage.TheVariants as storage
use Rattle.bc_parse_tree.specs.declared.tree.BinaryOp.TheVariants as binary
use Rattle.bc_parse_tree.specs.Tree.{Exp, Block, Declaration}
use Rattle.bc_parse_tree.specs.Tree as tree
use Rattle.bc_core.specs.Tree as core
use Rattle.bc_core.specs.Operand.{is_operand}
use Rattle.bc_scope_defs.specs.Scope.{Env, Constant, Static, Global, Routine, Variable}
use Rattle.bc_scope_defs.specs.Faults.{Fault, AnUndeclared, ADynamicFree, ANotAssignable, AMisplaced, section_fault}
use Rattle.bc_scope_defs.specs.Found.{section_start}
use Rattle.bc_scope_defs.specs.Sides.{side_level_of}
use Rattle.bc_scope_defs.specs.Translation.{forms}
use Rattle.bc_scope_defs.specs.Examples.{a, b, f, g, l, x, y, of, number, two, list, call, set, plain, labelled, body, commands, lets, variables, variable, constants, declarations}
use Rattle.bc_scope_defs.specs.worked.Written.{load, address_of, minus, opposite, plus, index, store, digit, section, manifest, run, printed, at}

-- ---- Worked examples

-- X := @E in START with LET X = 0 and a label L, where MANIFEST $( A = 2 $); STATIC $( B = 1 $); GLOBAL $( G:100 $);
-- LET F() = 1
abbrev things : List Declaration
things =
    manifest a 2 ∷ constants storage.Static ((b, number 1) ∷ []) ∷ constants storage.Global ((g, number 100) ∷ []) ∷ lets (tree.Function f [] (number 1)
    ∷ []) ∷ []

abbrev taken : Exp → Option Fault
taken e = section_fault (section things (body (variable x (number 0) ∷ []) (labelled l (set x (address_of e)) ∷ [])))

-- @X, @B, @G: a variable, a static, a global
of_variable : taken (of x) ≡ None
of_variable = refl

of_static : taken (of b) ≡ None
of_static = refl

of_global : taken (of g) ≡ None
of_global = refl

-- @A, @F: a constant and a routine have no cell
of_manifest : taken (of a) ≡ Some ANotAssignable
of_manifest = refl

of_routine : taken (of f) ≡ Some ANotAssignable
of_routine = refl

-- @L: a label is no value; and @Y, where Y isn't in scope
of_label : taken (of l) ≡ Some AMisplaced
of_label = refl

of_nothing : taken (of y) ≡ Some (AnUndeclared y)
of_nothing = refl

-- @!E and @(E!K), whatever E is
of_content : taken (load (number 1)) ≡ None
of_content = refl

of_content_of_routine : taken (load (of f)) ≡ None
of_content_of_routine = refl

of_element : taken (index (call f []) (of a)) ≡ None
of_element = refl

-- expressions without a cell
abbrev refused : Exp → Type 0
refused e = taken e ≡ Some ANotAssignable

of_number : refused (number 1)
of_number = refl

of_character : refused (tree.Character 65)
of_character = refl

of_true : refused tree.True
of_true = refl

of_false : refused tree.False
of_false = refl

of_string : refused (tree.Text (codes "\"AB\""))
of_string = refl

of_table : refused (tree.Table (list (number 1 ∷ [])))
of_table = refl

of_valof : refused (tree.Valof (commands (tree.ResultIs (of x) ∷ [])))
of_valof = refl

of_call : refused (call f [])
of_call = refl

of_minus : refused (minus (of x))
of_minus = refl

of_not : refused (opposite (of x))
of_not = refl

of_address : refused (address_of (of x))
of_address = refl

of_choice : refused (tree.Cond (of x) (of x) (of x))
of_choice = refl

-- X op 1 for each operator but `!`
of_operators : map (λ o. taken (two o (of x) (number 1)))
    (binary.Equivalent ∷ binary.NotEquivalent ∷ binary.Or ∷ binary.And ∷ binary.ShiftLeft ∷ binary.ShiftRight ∷ binary.Equal ∷ binary.NotEqual ∷ binary.Less
    ∷ binary.GreaterEqual ∷ binary.Greater ∷ binary.LessEqual ∷ binary.Add ∷ binary.Subtract ∷ binary.Multiply ∷ binary.Divide ∷ binary.Remainder ∷ [])
    ≡ (let no = Some ANotAssignable in no ∷ no ∷ no ∷ no ∷ no ∷ no ∷ no ∷ no ∷ no ∷ no ∷ no ∷ no ∷ no ∷ no ∷ no ∷ no ∷ no ∷ [])
of_operators = refl

-- a fault in E comes first: @!Y, @(X + Y)
within_content : taken (load (of y)) ≡ Some (AnUndeclared y)
within_content = refl

within_sum : taken (plus (of x) (of y)) ≡ Some (AnUndeclared y)
within_sum = refl

-- a variable of an enclosing routine: LET START() BE $( LET X = 0; LET F() = @X $)
of_outer_variable : section_fault (section [] (body (variable x (number 0) ∷ lets (tree.Function f [] (address_of (of x)) ∷ []) ∷ []) []))
    ≡ Some (ADynamicFree x)
of_outer_variable = refl

-- a parameter: LET F(X) = @X
of_parameter : section_fault (declarations (lets (tree.Function f (x ∷ []) (address_of (of x)) ∷ []) ∷ [])) ≡ None
of_parameter = refl

-- a variable outside routines has a cell; it is a fault where it is declared: LET F() = @X AND X = 1
of_stray_variable : section_fault (declarations (lets (tree.Function f [] (address_of (of x)) ∷ variables (x ∷ []) (number 1 ∷ []) ∷ []) ∷ []))
    ≡ Some AMisplaced
of_stray_variable = refl

-- `@` and `:=` accept the same expressions: `E := 1` for each E that has a cell, and for some that don't
abbrev assigned : Exp → Option Fault
assigned e = section_fault (section things (body (variable x (number 0) ∷ []) (plain (store e (number 1)) ∷ [])))

set_cells : (assigned (of x) ≡ None) × (assigned (of b) ≡ None) × (assigned (of g) ≡ None) × (assigned (load (of f))
    ≡ None) × (assigned (index (of x) (of a)) ≡ None)
set_cells = (refl, refl, refl, refl, refl)

set_no_cells : (assigned (of a) ≡ Some ANotAssignable) × (assigned (of f) ≡ Some ANotAssignable) × (assigned (address_of (of x)) ≡ Some ANotAssignable)
    × (assigned (call f []) ≡ Some ANotAssignable) × (assigned (tree.Text (codes "\"AB\"")) ≡ Some ANotAssignable)
set_no_cells = (refl, refl, refl, refl, refl)

-- Translations and operands, where A is the constant 5, B is the static with the label 2, G is the global 100, F is
-- the routine with the label 3, and X and Y are at 2 and 3
abbrev names : Env
names = record {
  names = (a, Constant 5) ∷ (b, Static 2) ∷ (g, Global 100) ∷ (f, Routine 3) ∷ (x, Variable 2) ∷ (y, Variable 3) ∷ [];
  inside = true;
}

abbrev translated : Exp → core.Exp
translated e = (forms names section_start e).content

-- @X, @B, @G are addresses; X, B, G are the contents
addresses : (translated (address_of (of x)) ≡ core.Frame 2) × (translated (address_of (of b)) ≡ core.Place 2) × (translated (address_of (of g))
    ≡ core.Glob 100)
addresses = (refl, refl, refl)

contents : (translated (of x) ≡ at 2) × (translated (of b) ≡ core.Load (core.Place 2)) × (translated (of g) ≡ core.Load (core.Glob 100))
contents = (refl, refl, refl)

-- F itself is an address, and A is a number
no_contents : (translated (of f) ≡ core.Place 3) × (translated (of a) ≡ core.Num 5)
no_contents = (refl, refl)

-- @!X is X, and @(X!Y) is X + Y; !@X is X again
at_content : translated (address_of (load (of x))) ≡ at 2
at_content = refl

at_element : translated (address_of (index (of x) (of y))) ≡ core.Bin operators.Add (at 2) (at 3)
at_element = refl

content_at : translated (load (address_of (of x))) ≡ at 2
content_at = refl

-- (@X)!3, and @((@X)!3)
element_at : translated (index (address_of (of x)) (number 3)) ≡ core.Load (core.Bin operators.Add (core.Frame 2) (core.Num 3))
element_at = refl

at_element_at : translated (address_of (index (address_of (of x)) (number 3))) ≡ core.Bin operators.Add (core.Frame 2) (core.Num 3)
at_element_at = refl

-- If the address of `E := ..` is an operand, both sides are at the level 6 of the assignment; otherwise both are at
-- 7. The definition for sections and that for resolved trees agree.
abbrev sides_of : Exp → ℕ
sides_of e = side_level_of names e 6

abbrev operand : Exp → Type 0
operand e = (sides_of e ≡ 6) × (is_operand (forms names section_start e).address ≡ true)

abbrev no_operand : Exp → Type 0
no_operand e = (sides_of e ≡ 7) × (is_operand (forms names section_start e).address ≡ false)

-- X, B, G
x_is : operand (of x)
x_is = (refl, refl)

b_is : operand (of b)
b_is = (refl, refl)

g_is : operand (of g)
g_is = (refl, refl)

-- !X, !B, !F, !5
content_of_x_is : operand (load (of x))
content_of_x_is = (refl, refl)

content_of_b_is : operand (load (of b))
content_of_b_is = (refl, refl)

content_of_f_is : operand (load (of f))
content_of_f_is = (refl, refl)

content_of_5_is : operand (load (number 5))
content_of_5_is = (refl, refl)

-- (@X)!3, 3!(@X), (@G)!A
cell_after_x_is : operand (index (address_of (of x)) (number 3))
cell_after_x_is = (refl, refl)

cell_before_x_is : operand (index (number 3) (address_of (of x)))
cell_before_x_is = (refl, refl)

cell_after_g_is : operand (index (address_of (of g)) (of a))
cell_after_g_is = (refl, refl)

-- (@B)!3 isn't one, since only the linker knows the address of a static; F!3 and (TABLE 1)!3 aren't either
cell_after_b_is_none : no_operand (index (address_of (of b)) (number 3))
cell_after_b_is_none = (refl, refl)

cell_after_f_is_none : no_operand (index (of f) (number 3))
cell_after_f_is_none = (refl, refl)

cell_of_table_is_none : no_operand (index (tree.Table (list (number 1 ∷ []))) (number 3))
cell_of_table_is_none = (refl, refl)

-- !(TABLE 1) is one
content_of_table_is : operand (load (tree.Table (list (number 1 ∷ []))))
content_of_table_is = (refl, refl)

-- X!3, !(!X), (@X)!Y, 5!3, !(X + 3) and !(-X) aren't operands
element_of_x_is_none : no_operand (index (of x) (number 3))
element_of_x_is_none = (refl, refl)

content_of_content_is_none : no_operand (load (load (of x)))
content_of_content_is_none = (refl, refl)

cell_y_after_x_is_none : no_operand (index (address_of (of x)) (of y))
cell_y_after_x_is_none = (refl, refl)

element_of_5_is_none : no_operand (index (number 5) (number 3))
element_of_5_is_none = (refl, refl)

content_of_sum_is_none : no_operand (load (plus (of x) (number 3)))
content_of_sum_is_none = (refl, refl)

content_of_minus_is_none : no_operand (load (minus (of x)))
content_of_minus_is_none = (refl, refl)

-- !(@X + 3) is (@X)!3, and !(@X - 3) isn't one
content_of_moved_is : operand (load (plus (address_of (of x)) (number 3)))
content_of_moved_is = (refl, refl)

content_of_lowered_is_none : no_operand (load (two binary.Subtract (address_of (of x)) (number 3)))
content_of_lowered_is_none = (refl, refl)

-- the result of a VALOF, of a call, and of `->`
content_of_valof_is_none : no_operand (load (tree.Valof (commands (tree.ResultIs (of x) ∷ []))))
content_of_valof_is_none = (refl, refl)

content_of_call_is_none : no_operand (load (call f []))
content_of_call_is_none = (refl, refl)

content_of_choice_is_none : no_operand (load (tree.Cond (of x) (of x) (of y)))
content_of_choice_is_none = (refl, refl)

-- Meaning

-- LET X, Y = 7, 8: !@X is 7, (@X)!1 is 8, and !(@X) := 9 sets X
abbrev shown : Exp → Block
shown e = body (lets (variables (x ∷ y ∷ []) (number 7 ∷ number 8 ∷ []) ∷ []) ∷ []) (plain (digit e) ∷ [])

reads_at : run (shown (load (address_of (of x)))) ≡ printed (55 ∷ [])
reads_at = refl

reads_after : run (shown (index (address_of (of x)) (number 1))) ≡ printed (56 ∷ [])
reads_after = refl

at_content_is : run (shown (address_of (load (of x)))) ≡ printed (55 ∷ [])
at_content_is = refl

-- @(X!Y) is X + Y: 7 + 8 = 15, printed as the digit '?'
at_element_is : run (shown (address_of (index (of x) (of y)))) ≡ printed (63 ∷ [])
at_element_is = refl

sets_at : run (body (variable x (number 7) ∷ []) (plain (store (load (address_of (of x))) (number 9)) ∷ plain (digit (of x)) ∷ [])) ≡ printed (57 ∷ [])
sets_at = refl
