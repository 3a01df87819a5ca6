-- Which names are in scope where, what they mean, and what a constant is.
use Rattle.std.specs.Prelude.{ℕ, ◌+◌, Bool, true, false, List, [], ◌∷◌, Option, Some, None}
use Rattle.bc_word.specs.declared.operator.Op.{Op}
use Rattle.bc_word.specs.declared.operator.Op.TheVariants as operators
use Rattle.bc_word.specs.Words.{value_of, negated, complemented}
use Rattle.bc_parse_tree.specs.declared.tree.Storage.{Storage}
use Rattle.bc_parse_tree.specs.declared.tree.Storage.TheVariants as storage
use Rattle.bc_parse_tree.specs.declared.tree.BinaryOp.{BinaryOp}
use Rattle.bc_parse_tree.specs.declared.tree.BinaryOp.TheVariants as binary
use Rattle.bc_parse_tree.specs.declared.tree.UnaryOp.{UnaryOp}
use Rattle.bc_parse_tree.specs.declared.tree.UnaryOp.TheVariants as unary
use Rattle.bc_parse_tree.specs.Tree.{Exp, Exps, none, more, Declaration, Declarations, no_declarations, declaration, Entries, no_entries, entry, Definition, Definitions, no_definitions, definition, Item, Labelled, Labels_alone, Items, no_items, item, Label, Labels, no_labels, label}
use Rattle.bc_parse_tree.specs.Tree as tree
use Rattle.bc_scope_defs.specs.Scope.{Meant, Constant, Pending, Static, Global, Routine, Variable, OuterVariable, OuterLabel, StrayVariable, StrayLabel, LabelOutside, Env, Name, Names, with_name, meant_by, Numbers}
use Rattle.bc_scope_defs.specs.Scope as scope
use Rattle.bc_scope_defs.specs.Numbering.{after_entry, after_declaration, after_definition, labels_named, labels_of_item}

-- the operator on words for each binary operator but `!`
abbrev pub operator : BinaryOp → Option Op
operator binary.Equivalent = Some operators.Equivalent
operator binary.NotEquivalent = Some operators.NotEquivalent
operator binary.Or = Some operators.Or
operator binary.And = Some operators.And
operator binary.ShiftLeft = Some operators.ShiftLeft
operator binary.ShiftRight = Some operators.ShiftRight
operator binary.Equal = Some operators.Equal
operator binary.NotEqual = Some operators.NotEqual
operator binary.Less = Some operators.Less
operator binary.GreaterEqual = Some operators.GreaterEqual
operator binary.Greater = Some operators.Greater
operator binary.LessEqual = Some operators.LessEqual
operator binary.Add = Some operators.Add
operator binary.Subtract = Some operators.Subtract
operator binary.Multiply = Some operators.Multiply
operator binary.Divide = Some operators.Divide
operator binary.Remainder = Some operators.Remainder
operator binary.Index = None

-- ---- Constants

-- the value of a name that means a constant
abbrev pub constant_name : Meant → Option ℕ
constant_name (Constant w) = Some w
constant_name _ = None

-- `-` or NOT of a constant; `!` and `@` make no constant
abbrev pub constant_unary : UnaryOp → Option ℕ → Option ℕ
constant_unary unary.Neg (Some w) = Some (negated w)
constant_unary unary.Not (Some w) = Some (complemented w)
constant_unary _ w = None

-- an operator between two constants; a zero divisor has no value, and `!` makes no constant
abbrev pub constant_binary : Option Op → Option ℕ → Option ℕ → Option ℕ
constant_binary (Some op) (Some a) (Some b) = value_of op a b
constant_binary _ _ _ = None

-- The value of a constant. None, if the expression is no constant.
abbrev pub constant_in : Env → Exp → Option ℕ
constant_in E (tree.Name n) = constant_name (meant_by E n)
constant_in E (tree.Num w) = Some w
constant_in E (tree.Character w) = Some w
constant_in E tree.True = Some 65535
constant_in E tree.False = Some 0
constant_in E (tree.Unary m e) = constant_unary m (constant_in E e)
constant_in E (tree.Bin o l r) = constant_binary (operator o) (constant_in E l) (constant_in E r)
constant_in E _ = None

-- Where a constant is required, anything else is a fault. For what follows it counts as 0.
abbrev pub or_zero : Option ℕ → ℕ
or_zero None = 0
or_zero (Some w) = w

-- the value of an expression where a constant is required
abbrev pub constant : Env → Exp → ℕ
constant E k = or_zero (constant_in E k)

-- ---- MANIFEST, STATIC and GLOBAL

-- what the name of an entry means, given the value of its constant if that is known
abbrev pub meant_as : Storage → Numbers → Option ℕ → Meant
meant_as storage.Manifest at None = Pending
meant_as storage.Manifest at (Some w) = Constant w
meant_as storage.Static at w = Static at.place
meant_as storage.Global at w = Global (or_zero w)

-- In the constants of a declaration its own names are in scope, with the kind of meaning that they will have. Nothing
-- there depends on their numbers, so any will do.
abbrev pub any_numbers : Numbers
any_numbers = record { place = 1; valof = 0; label = 0 }

-- all names of a declaration, whose constants aren't known yet
abbrev pub pending : Storage → Entries → Env → Env
pending s no_entries E = E
pending s (entry n k es) E = pending s es (with_name n (meant_as s any_numbers None) E)

-- the names after an entry
abbrev pub in_entry : Storage → Numbers → Name → Exp → Env → Env
in_entry s at n k E = with_name n (meant_as s at (constant_in E k)) E

-- the names after entries; each constant sees those before it in the same declaration
abbrev pub in_entries : Storage → Numbers → Entries → Env → Env
in_entries s at no_entries E = E
in_entries s at (entry n k es) E = in_entries s (after_entry s at) es (in_entry s at n k E)

-- ---- LET

-- how many expressions a list has
abbrev pub count : Exps → ℕ
count none = 0
count (more e es) = 1 + count es

-- how many cells of the frame a definition takes
abbrev pub cells_of : Env → Definition → ℕ
cells_of E (tree.Variables ns es) = count es
cells_of E (tree.Vector n k) = constant E k + 2
cells_of E (tree.Function n ps e) = 0
cells_of E (tree.Routine n ps b) = 0

-- how many cells the definitions of a LET take
abbrev pub cells_of_all : Env → Definitions → ℕ
cells_of_all E no_definitions = 0
cells_of_all E (definition d ds) = cells_of E d + cells_of_all E ds

-- the names that a definition declares
abbrev pub names_of : Definition → List Name
names_of (tree.Variables ns es) = ns
names_of (tree.Vector n k) = n ∷ []
names_of (tree.Function n ps e) = n ∷ []
names_of (tree.Routine n ps b) = n ∷ []

-- variables with the offsets from k on
abbrev pub variables : List Name → ℕ → Env → Env
variables [] k E = E
variables (n ∷ ns) k E = variables ns (k + 1) (with_name n (Variable k) E)

-- a routine whose name means a global makes no new name; it sets the global
abbrev pub routine_name : Meant → Name → ℕ → Env → Env
routine_name (Global g) n m E = E
routine_name _ n m E = with_name n (Routine m) E

-- The names after a definition at the offset k. `before` has what names mean before the LET.
abbrev pub in_definition : (before : Env) → Numbers → (k : ℕ) → Definition → Env → Env
in_definition B at k (tree.Variables ns es) E = variables ns k E
in_definition B at k (tree.Vector n c) E = with_name n (Variable k) E
in_definition B at k (tree.Function n ps e) E = routine_name (meant_by B n) n at.place E
in_definition B at k (tree.Routine n ps b) E = routine_name (meant_by B n) n at.place E

-- the names of a LET as its constants see them; none of them is a constant
abbrev pub own_names : (before : Env) → Definitions → Env → Env
own_names B no_definitions E = E
own_names B (definition d ds) E = own_names B ds (in_definition B any_numbers 0 d E)

-- what names mean in the constants of a LET
abbrev pub before_let : Definitions → Env → Env
before_let ds E = own_names E ds E

-- The names after definitions from the offset k on. `before` has what names mean before the LET, `constants` what
-- they mean in its constants.
abbrev pub in_definitions : (before constants : Env) → Numbers → (k : ℕ) → Definitions → Env → Env
in_definitions B K at k no_definitions E = E
in_definitions B K at k (definition d ds) E = in_definitions B K (after_definition at d) (k + cells_of K d) ds (in_definition B at k d E)

-- the names in a LET and after it, where s is the next free offset
abbrev pub in_let : Env → Numbers → (s : ℕ) → Definitions → Env
in_let E at s ds = in_definitions E (before_let ds E) at s ds E

-- the names after a declaration, where s is the next free offset
abbrev pub in_declaration : Env → Numbers → (s : ℕ) → Declaration → Env
in_declaration E at s (tree.Constants k es) = in_entries k at es (pending k es E)
in_declaration E at s (tree.Let ds) = in_let E at s ds

-- how many cells a declaration takes
abbrev pub cells_in : Env → Declaration → ℕ
cells_in E (tree.Constants k es) = 0
cells_in E (tree.Let ds) = cells_of_all (before_let ds E) ds

-- the names after declarations
abbrev pub in_declarations : Env → Numbers → (s : ℕ) → Declarations → Env
in_declarations E at s no_declarations = E
in_declarations E at s (declaration d ds) = in_declarations (in_declaration E at s d) (after_declaration at d) (s + cells_in E d) ds

-- the next free offset after declarations
abbrev pub level_after : Env → Numbers → (s : ℕ) → Declarations → ℕ
level_after E at s no_declarations = s
level_after E at s (declaration d ds) = level_after (in_declaration E at s d) (after_declaration at d) (s + cells_in E d) ds

-- the names in the body of a FOR, whose variable is at the offset s
abbrev pub in_for : Env → Name → (s : ℕ) → Env
in_for E n s = with_name n (Variable s) E

-- ---- The labels of a list, which are numbered from k on

-- the names with a label
abbrev pub in_label : (k : ℕ) → Label → Env → Env
in_label k (tree.Named n) E = with_name n (scope.Label k) E
in_label k _ E = E

-- the names with the labels of an item
abbrev pub in_labels : (k : ℕ) → Labels → Env → Env
in_labels k no_labels E = E
in_labels k (label l ls) E = in_labels (k + labels_named l) ls (in_label k l E)

-- the same for an item
abbrev pub in_item : (k : ℕ) → Item → Env → Env
in_item k (Labelled ls c) E = in_labels k ls E
in_item k (Labels_alone ls) E = in_labels k ls E

-- the names with all labels of a list
abbrev pub in_list : (k : ℕ) → Items → Env → Env
in_list k no_items E = E
in_list k (item i is) E = in_list (k + labels_of_item i) is (in_item k i E)

-- Inside a routine, a variable or label around it belongs to an enclosing routine, or is outside routines.
abbrev pub around_routine : (inside : Bool) → Meant → Meant
around_routine true (Variable k) = OuterVariable
around_routine true (scope.Label l) = OuterLabel
around_routine true LabelOutside = OuterLabel
around_routine false (Variable k) = StrayVariable
around_routine false (scope.Label l) = StrayLabel
around_routine false LabelOutside = StrayLabel
around_routine i m = m

-- inside a VALOF, a label around it is outside
abbrev pub around_valof : Meant → Meant
around_valof (scope.Label l) = LabelOutside
around_valof m = m

-- all names, with their meaning changed
abbrev pub seen_through : (Meant → Meant) → Names → Names
seen_through f [] = []
seen_through f (e ∷ es) = (e.0, f e.1) ∷ seen_through f es

-- the names inside a routine
abbrev pub in_routine : Env → Env
in_routine E = record { names = seen_through (around_routine E.inside) E.names; inside = true }

-- the names inside a VALOF
abbrev pub in_valof : Env → Env
in_valof E = record E { names = seen_through around_valof E.names }
