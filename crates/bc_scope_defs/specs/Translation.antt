-- The translation of a section: offsets, labels and numbers in place of names, its places, and its table of VALOFs.
use Rattle.std.specs.Prelude.{ℕ, ◌+◌, true, false, List, [], ◌∷◌, ◌++◌, map, Option, Some, None}
use Rattle.bc_word.specs.declared.operator.Op.{Op}
use Rattle.bc_word.specs.declared.operator.Op.TheVariants as operators
use Rattle.bc_parse_tree.specs.declared.tree.UnaryOp.{UnaryOp}
use Rattle.bc_parse_tree.specs.declared.tree.UnaryOp.TheVariants as unary
use Rattle.bc_parse_tree.specs.Tree.{Declarations}
use Rattle.bc_parse_tree.specs.Tree as tree
use Rattle.bc_core.specs.Tree.{Exp, Num, Frame, Glob, Place, Load, Neg, Not, Bin, Cond, Call, Valof, Args, no_argument, argument}
use Rattle.bc_core.specs.Commands.{Initial, Vector, Command, Block, block, Items, no_item, command, case, default, label}
use Rattle.bc_core.specs.Commands as core
use Rattle.bc_core.specs.Level.{level_in_for, level_after_parameters}
use Rattle.bc_scope_defs.specs.Scope.{Meant, Constant, Static, Global, Routine, Variable, Env, meant_by, Numbers, after_labels}
use Rattle.bc_scope_defs.specs.Numbering.{following, after_all, after_declarations, after_declaration, after_definition, after_command, after_block, labels_named, labels_of, labels_in}
use Rattle.bc_scope_defs.specs.Scoping.{operator, constant, before_let, in_let, in_declaration, in_declarations, cells_in, level_after, in_for, in_list}
use Rattle.bc_scope_defs.specs.Found.{Thing, AValof, ARoutine, Data, Datum, AStatic, ATable, AText, Found, FoundRoutine, RoutineBody, Gives, Does, found_in_section}
use Rattle.bc_scope_defs.specs.Meaning.{label_number}

-- What an expression becomes: an address and a content. Without a cell both are the same.
pub record Forms : Type 0 where
  pub address : Exp
  pub content : Exp

-- the cell at this address
abbrev pub cell : Exp → Forms
cell a = record { address = a; content = Load a }

-- an expression without a cell
abbrev pub plain : Exp → Forms
plain v = record { address = v; content = v }

-- what a name becomes; a name that is a fault counts as the number 0, but a section without fault has none
abbrev pub form_of_name : Meant → Forms
form_of_name (Constant w) = plain (Num w)
form_of_name (Static m) = cell (Place m)
form_of_name (Global n) = cell (Glob n)
form_of_name (Routine m) = plain (Place m)
form_of_name (Variable k) = cell (Frame k)
form_of_name _ = plain (Num 0)

-- the relation that holds exactly if this one doesn't
abbrev pub opposite : Op → Option Op
opposite operators.Equal = Some operators.NotEqual
opposite operators.NotEqual = Some operators.Equal
opposite operators.Less = Some operators.GreaterEqual
opposite operators.GreaterEqual = Some operators.Less
opposite operators.Greater = Some operators.LessEqual
opposite operators.LessEqual = Some operators.Greater
opposite _ = None

-- the opposite relation, if there is one, else NOT
abbrev pub or_not : Option Op → Op → Exp → Exp → Exp
or_not (Some opposite_op) op a b = Bin opposite_op a b
or_not None op a b = Not (Bin op a b)

-- NOT of a relation becomes the opposite relation
abbrev pub negation : Exp → Exp
negation (Bin op a b) = or_not (opposite op) op a b
negation e = Not e

-- what a unary operator becomes
abbrev pub form_of_unary : UnaryOp → Forms → Forms
form_of_unary unary.Load e = cell e.content
form_of_unary unary.Address e = plain e.address
form_of_unary unary.Not e = plain (negation e.content)
form_of_unary unary.Neg e = plain (Neg e.content)

-- what a binary operator becomes; `l ! r` is the cell at the sum of both
abbrev pub form_of_binary : Option Op → Exp → Exp → Forms
form_of_binary None l r = cell (Bin operators.Add l r)
form_of_binary (Some op) l r = plain (Bin op l r)

-- What an expression becomes. Of a VALOF only the number stays; its body is in the table of VALOFs.
abbrev mutual
  pub forms : Env → Numbers → tree.Exp → Forms
  forms E at (tree.Name n) = form_of_name (meant_by E n)
  forms E at (tree.Num w) = plain (Num w)
  forms E at (tree.Character w) = plain (Num w)
  forms E at tree.True = plain (Num 65535)
  forms E at tree.False = plain (Num 0)
  forms E at (tree.Text bytes) = plain (Place at.place)
  forms E at (tree.Table ks) = plain (Place at.place)
  forms E at (tree.Valof b) = plain (Valof at.valof)
  forms E at (tree.Unary m e) = form_of_unary m (forms E at e)
  forms E at (tree.Bin o l r) = form_of_binary (operator o) (forms E at l).content (forms E (following at l) r).content
  forms E at (tree.Cond c x y) =
      let after_test = following at c in
      plain (Cond (forms E at c).content (forms E after_test x).content (forms E (following after_test x) y).content)
  forms E at (tree.Call f es) = plain (Call (core_arguments E (following at f) es) (forms E at f).content)

  -- what the arguments of a call become
  pub core_arguments : Env → Numbers → tree.Exps → Args
  core_arguments E at tree.none = no_argument
  core_arguments E at (tree.more e es) = argument (forms E at e).content (core_arguments E (following at e) es)

-- what each of several expressions becomes
abbrev pub forms_of_all : Env → Numbers → tree.Exps → List Forms
forms_of_all E at tree.none = []
forms_of_all E at (tree.more e es) = forms E at e ∷ forms_of_all E (following at e) es

-- the commands of an assignment, pair by pair; the grammar gives both sides the same number of expressions
abbrev pub assignments : (addresses values : List Forms) → Items
assignments (x ∷ xs) (e ∷ es) = command (core.Assign e.content x.address) (assignments xs es)
assignments _ _ = no_item

-- an assignment; several pairs are a block of assignments
abbrev pub assignment : (addresses values : List Forms) → Command
assignment (x ∷ []) (e ∷ []) = core.Assign e.content x.address
assignment xs es = core.Nested (block [] (assignments xs es))

-- ---- Declarations

-- variables with these initialisers
abbrev pub initials : List Forms → List core.Variable
initials fs = map (λ f. Initial f.content) fs

-- the variables of a definition; `before` has what names mean in the constants of the LET
abbrev pub core_definition : Env → (before : Env) → Numbers → tree.Definition → List core.Variable
core_definition E B at (tree.Variables ns es) = initials (forms_of_all E at es)
core_definition E B at (tree.Vector n c) = Vector (constant B c) ∷ []
core_definition E B at (tree.Function n ps e) = []
core_definition E B at (tree.Routine n ps b) = []

-- the variables of a LET
abbrev pub core_definitions : Env → (before : Env) → Numbers → tree.Definitions → List core.Variable
core_definitions E B at tree.no_definitions = []
core_definitions E B at (tree.definition d ds) = core_definition E B at d ++ core_definitions E B (after_definition at d) ds

-- what a declaration becomes where s is the next free offset: a LET declares its variables at once, constants become
-- nothing
abbrev pub core_declaration : Env → Numbers → (s : ℕ) → tree.Declaration → List (List core.Variable)
core_declaration E at s (tree.Constants k es) = []
core_declaration E at s (tree.Let ds) = core_definitions (in_let E at s ds) (before_let ds E) at ds ∷ []

-- what declarations become
abbrev pub core_declarations : Env → Numbers → (s : ℕ) → tree.Declarations → List (List core.Variable)
core_declarations E at s tree.no_declarations = []
core_declarations E at s (tree.declaration d ds) =
    core_declaration E at s d ++ core_declarations (in_declaration E at s d) (after_declaration at d) (s + cells_in E d) ds

-- ---- Commands

-- a label before items, which has the number k if it is named
abbrev pub core_label : Env → (k : ℕ) → tree.Label → Items → Items
core_label E k (tree.Case c) is = case (constant E c) is
core_label E k tree.Default is = default is
core_label E k (tree.Named n) is = label k is

-- the labels of an item before items
abbrev pub core_labels : Env → (k : ℕ) → tree.Labels → Items → Items
core_labels E k tree.no_labels is = is
core_labels E k (tree.label l ls) is = core_label E k l (core_labels E (k + labels_named l) ls is)

-- a command as a block of its own
abbrev pub block_of : Command → Block
block_of c = block [] (command c no_item)

abbrev mutual
  -- what a block becomes where s is the next free offset
  pub core_block : Env → Numbers → tree.Block → (s : ℕ) → Block
  core_block E at (tree.block ds is) s =
      let after_it = after_declarations at ds in
      let k = after_it.label in
      block (core_declarations E at s ds) (core_items (in_list k is (in_declarations E at s ds)) k (after_labels after_it (labels_in is)) is
      (level_after E at s ds))

  -- what the items of a list become; the next label of the list has the number k
  pub core_items : Env → (k : ℕ) → Numbers → tree.Items → (s : ℕ) → Items
  core_items E k at tree.no_items s = no_item
  core_items E k at (tree.item (tree.Labelled ls c) is) s =
      core_labels E k ls (command (core_command E at c s) (core_items E (k + labels_of ls) (after_command at c) is s))
  core_items E k at (tree.item (tree.Labels_alone ls) is) s = core_labels E k ls (core_items E (k + labels_of ls) at is s)

  -- what a command becomes
  pub core_command : Env → Numbers → tree.Command → (s : ℕ) → Command
  core_command E at (tree.Assign xs es) s = assignment (forms_of_all E at xs) (forms_of_all E (after_all at xs) es)
  core_command E at (tree.Do f es) s = core.Call (Call (core_arguments E (following at f) es) (forms E at f).content)
  core_command E at (tree.Compound b) s = core.Nested (core_block E at b s)
  core_command E at tree.Break s = core.Break
  core_command E at tree.Loop s = core.Loop
  core_command E at tree.EndCase s = core.EndCase
  core_command E at tree.Return s = core.Return
  core_command E at tree.Finish s = core.Finish
  core_command E at (tree.ResultIs e) s = core.ResultIs (forms E at e).content
  core_command E at (tree.Goto n) s = core.Goto (label_number (meant_by E n))
  core_command E at (tree.Repeat c) s = core.Repeat (block_of (core_command E at c s))
  core_command E at (tree.RepeatWhile c e) s = core.RepeatWhile (block_of (core_command E at c s)) true (forms E (after_command at c) e).content
  core_command E at (tree.RepeatUntil c e) s = core.RepeatWhile (block_of (core_command E at c s)) false (forms E (after_command at c) e).content
  core_command E at (tree.If e b) s = core.If true (forms E at e).content (core_block E (following at e) b s)
  core_command E at (tree.Unless e b) s = core.If false (forms E at e).content (core_block E (following at e) b s)
  core_command E at (tree.While e b) s = core.While true (forms E at e).content (core_block E (following at e) b s)
  core_command E at (tree.Until e b) s = core.While false (forms E at e).content (core_block E (following at e) b s)
  core_command E at (tree.Test e b c) s =
      let after_test = following at e in
      core.Test (forms E at e).content (core_block E after_test b s) (core_block E (after_block after_test b) c s)
  core_command E at (tree.For n a z b) s =
      let after_start = following at a in
      core.For (forms E at a).content (forms E after_start z).content 1 (core_block (in_for E n s) (following after_start z) b (level_in_for s))
  core_command E at (tree.ForBy n a z k b) s =
      let after_start = following at a in
      core.For (forms E at a).content (forms E after_start z).content (constant E k) (core_block (in_for E n s) (following after_start z) b (level_in_for s))
  core_command E at (tree.SwitchOn e is) s =
      let after_value = following at e in
      let k = after_value.label in
      core.SwitchOn (forms E at e).content (core_items (in_list k is E) k (after_labels after_value (labels_in is)) is s)

-- ---- The table of VALOFs, and the places
-- what a VALOF becomes
abbrev pub valof_of : Found → core.Valof
valof_of f = record { level = f.level; body = core_block f.names f.numbers f.body f.level }

-- the VALOFs among what is found
abbrev pub valofs_of : List Thing → List core.Valof
valofs_of [] = []
valofs_of (AValof f ∷ things) = valof_of f ∷ valofs_of things
valofs_of (ARoutine r ∷ things) = valofs_of things
valofs_of (Data q d ∷ things) = valofs_of things

-- what the body of a routine becomes
abbrev pub core_body : Env → Numbers → RoutineBody → (s : ℕ) → core.Body
core_body E at (Gives e) s = core.Gives (forms E at e).content
core_body E at (Does b) s = core.Does (core_block E at b s)

-- what a routine becomes
abbrev pub core_routine : FoundRoutine → core.Routine
core_routine r =
    record { global = r.global; parameters = r.parameters; body = core_body r.names r.numbers r.body (level_after_parameters r.parameters) }

-- what a static, a table or a string becomes
abbrev pub core_datum : Datum → core.Place
core_datum (AStatic w) = core.Static w
core_datum (ATable words) = core.Table words
core_datum (AText bytes) = core.Text bytes

-- the places among what is found
abbrev pub places_of : List Thing → List core.Place
places_of [] = []
places_of (AValof f ∷ things) = places_of things
places_of (ARoutine r ∷ things) = core.Code (core_routine r) ∷ places_of things
places_of (Data q d ∷ things) = core_datum d ∷ places_of things

-- the translated section
abbrev pub core_of : Declarations → core.Core
core_of ds = let things = found_in_section ds in record { places = places_of things; valofs = valofs_of things }
