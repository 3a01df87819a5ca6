-- The first fault of a section, in text order. docs/language.md describes each fault.
use Rattle.std.specs.Prelude.{ℕ, ◌+◌, ◌==◌, ◌||◌, not, nat_le, nat_lt, ◌&&◌, Bool, true, false, List, [], ◌∷◌, ◌++◌, Option, Some, None, is_some}
use Rattle.bc_parse_tree.specs.declared.tree.Storage.{Storage}
use Rattle.bc_parse_tree.specs.declared.tree.Storage.TheVariants as storage
use Rattle.bc_parse_tree.specs.declared.tree.BinaryOp.TheVariants as binary
use Rattle.bc_parse_tree.specs.declared.tree.UnaryOp.{UnaryOp}
use Rattle.bc_parse_tree.specs.declared.tree.UnaryOp.TheVariants as unary
use Rattle.bc_parse_tree.specs.Tree.{Exp, Exps, none, more, Block, block, Declaration, Declarations, no_declarations, declaration, Entries, no_entries, entry, Definition, Definitions, no_definitions, definition, Item, Labelled, Labels_alone, Items, no_items, item, Label, Labels, no_labels, label, Command}
use Rattle.bc_parse_tree.specs.Tree as tree
use Rattle.bc_scope_defs.specs.Scope.{Meant, Constant, Pending, Static, Global, Routine, Variable, OuterVariable, OuterLabel, StrayVariable, StrayLabel, LabelOutside, Undeclared, Env, nothing_known, Name, is_name, meant_by}
use Rattle.bc_scope_defs.specs.Scope as scope
use Rattle.bc_scope_defs.specs.Scoping.{constant, constant_in, pending, in_entry, names_of, in_for, in_list, in_valof}
use Rattle.bc_scope_defs.specs.Found.{in_parameters, Thing, AValof, ARoutine, Data, section_start, found_in_section}
use Rattle.bc_scope_defs.specs.Frames.{known_after, known_after_all, frame_of}

-- a fault, with the name that it is about
pub data Fault : Type 0 where
  AnUndeclared : Name → Fault
  ADeclaredTwice : Name → Fault
  ADynamicFree : Name → Fault
  ANotConstant : Fault
  AGlobalNumber : Name → Fault
  ANotAssignable : Fault
  AMisplaced : Fault
  AFrameTooLarge : Fault
  ACaseTwice : Fault
  ATooManyPlaces : Fault

-- the first fault, if there is one, else the second
abbrev pub or_else : Option Fault → Option Fault → Option Fault
or_else (Some f) other = Some f
or_else None other = other

-- this fault, unless the condition holds
abbrev pub unless : Bool → Fault → Option Fault
unless true f = None
unless false f = Some f

-- what a command may do at its place: BREAK and LOOP, ENDCASE, RESULTIS, RETURN
pub record Allowed : Type 0 where
  pub in_loop : Bool
  pub in_cases : Bool
  pub in_valof : Bool
  pub may_return : Bool

-- in the body of a loop
abbrev pub in_a_loop : Allowed → Allowed
in_a_loop W = record W { in_loop = true }

-- in the list of a SWITCHON
abbrev pub in_a_switch : Allowed → Allowed
in_a_switch W = record W { in_cases = true }

-- in a routine of BE
abbrev pub allowed_in_routine : Allowed
allowed_in_routine = record { in_loop = false; in_cases = false; in_valof = false; may_return = true }

-- in a VALOF
abbrev pub allowed_in_valof : Allowed
allowed_in_valof = record { in_loop = false; in_cases = false; in_valof = true; may_return = false }

-- ---- Names

-- The fault of a name in an expression. In a constant a label has no fault of its own; it makes the whole no
-- constant.
abbrev pub name_fault : (constant : Bool) → Name → Meant → Option Fault
name_fault c n Undeclared = Some (AnUndeclared n)
name_fault c n OuterVariable = Some (ADynamicFree n)
name_fault c n OuterLabel = Some (ADynamicFree n)
name_fault c n (scope.Label l) = unless c AMisplaced
name_fault c n StrayLabel = unless c AMisplaced
name_fault c n LabelOutside = unless c AMisplaced
name_fault c n _ = None

-- the fault of a GOTO to this name
abbrev pub jump_fault : Name → Meant → Option Fault
jump_fault n (scope.Label l) = None
jump_fault n Undeclared = Some (AnUndeclared n)
jump_fault n OuterLabel = Some (ADynamicFree n)
jump_fault n _ = Some AMisplaced

-- the fault of a whole constant, which comes after those in it
abbrev pub not_constant : Env → Exp → Option Fault
not_constant E k = unless (is_some (constant_in E k)) ANotConstant

-- whether a name means a cell
abbrev pub is_cell : Meant → Bool
is_cell (Static m) = true
is_cell (Global n) = true
is_cell (Variable k) = true
is_cell StrayVariable = true
is_cell _ = false

-- whether an expression has a cell, so that it can be assigned to
abbrev pub has_cell : Env → Exp → Bool
has_cell E (tree.Name n) = is_cell (meant_by E n)
has_cell E (tree.Unary unary.Load e) = true
has_cell E (tree.Bin binary.Index l r) = true
has_cell E _ = false

-- whether a name means a label
abbrev pub is_label : Meant → Bool
is_label (scope.Label l) = true
is_label StrayLabel = true
is_label LabelOutside = true
is_label _ = false

-- whether an expression is the name of a label
abbrev pub names_label : Env → Exp → Bool
names_label E (tree.Name n) = is_label (meant_by E n)
names_label E _ = false

-- whether `@` may be applied to an expression; in a constant `@L` is treated like the label L, which has no fault of
-- its own
abbrev pub has_address : (constant : Bool) → Env → Exp → Bool
has_address c E e = has_cell E e || (c && names_label E e)

-- the fault of a unary operator, which comes after those of its operand
abbrev pub address_fault : (constant : Bool) → Env → UnaryOp → Exp → Option Fault
address_fault c E unary.Address e = unless (has_address c E e) ANotAssignable
address_fault c E _ e = None

-- whether all expressions have cells
abbrev pub all_have_cells : Env → Exps → Bool
all_have_cells E none = true
all_have_cells E (more x xs) = has_cell E x && all_have_cells E xs

-- ---- Names that are declared twice

-- whether a name is in the list
abbrev pub is_among : List Name → Name → Bool
is_among [] n = false
is_among (m ∷ ms) n = is_name m n || is_among ms n

-- the fault of a name that these names precede
abbrev pub twice_fault : List Name → Name → Option Fault
twice_fault before n = unless (not (is_among before n)) (ADeclaredTwice n)

-- the same for a list of names
abbrev pub all_twice_fault : (before : List Name) → List Name → Option Fault
all_twice_fault before [] = None
all_twice_fault before (n ∷ ns) = or_else (twice_fault before n) (all_twice_fault (before ++ (n ∷ [])) ns)

-- ---- Labels: the names, the values of CASEs, and whether DEFAULT is among the labels of a list up to here

-- the labels of a list up to here
pub record Met : Type 0 where
  pub names : List Name
  pub values : List ℕ
  pub default : Bool

-- no label up to here
abbrev pub none_met : Met
none_met = record { names = []; values = []; default = false }

-- whether a value is in the list
abbrev pub has_value : List ℕ → ℕ → Bool
has_value [] w = false
has_value (v ∷ vs) w = v == w || has_value vs w

-- a list with one more label
abbrev pub met_label : Env → Met → Label → Met
met_label E M (tree.Case k) = record M { values = M.values ++ (constant E k ∷ []) }
met_label E M tree.Default = record M { default = true }
met_label E M (tree.Named n) = record M { names = M.names ++ (n ∷ []) }

-- a list with more labels
abbrev pub met_labels : Env → Met → Labels → Met
met_labels E M no_labels = M
met_labels E M (label l ls) = met_labels E (met_label E M l) ls

-- The fault of a CASE, which comes after those of its constant. A CASE must be in the list of a SWITCHON, and its
-- value must be new there.
abbrev pub case_fault : (cases : Bool) → Met → ℕ → Option Fault
case_fault cases M w = or_else (unless cases AMisplaced) (unless (not (has_value M.values w)) ACaseTwice)

-- the fault of a DEFAULT, likewise
abbrev pub default_fault : (cases : Bool) → Met → Option Fault
default_fault cases M = or_else (unless cases AMisplaced) (unless (not M.default) ACaseTwice)

-- the fault of an entry, which comes after those of its constant
abbrev pub entry_fault : Storage → Env → Name → Exp → Option Fault
entry_fault storage.Global E n k = unless (nat_lt (constant E k) 512) (AGlobalNumber n)
entry_fault _ E n k = None

abbrev mutual
  -- The fault of an expression. `constant` says whether it is part of a constant.
  pub fault : (constant : Bool) → Env → Exp → Option Fault
  fault c E (tree.Name n) = name_fault c n (meant_by E n)
  fault c E (tree.Table ks) = constants_fault E ks
  fault c E (tree.Valof b) = block_fault allowed_in_valof (in_valof E) b
  fault c E (tree.Unary m e) = or_else (fault c E e) (address_fault c E m e)
  fault c E (tree.Bin o l r) = or_else (fault c E l) (fault c E r)
  fault c E (tree.Cond t x y) = or_else (fault c E t) (or_else (fault c E x) (fault c E y))
  fault c E (tree.Call f es) = or_else (fault c E f) (all_fault c E es)
  fault c E _ = None

  -- the first fault of several expressions
  pub all_fault : (constant : Bool) → Env → Exps → Option Fault
  all_fault c E none = None
  all_fault c E (more e es) = or_else (fault c E e) (all_fault c E es)

  -- the first fault of the constants of a TABLE
  pub constants_fault : Env → Exps → Option Fault
  constants_fault E none = None
  constants_fault E (more k ks) = or_else (or_else (fault true E k) (not_constant E k)) (constants_fault E ks)

  -- the first fault of the entries of a declaration; `before` has its names up to here
  pub entries_fault : Storage → (before : List Name) → Entries → Env → Option Fault
  entries_fault s ns no_entries E = None
  entries_fault s ns (entry n k es) E =
      or_else (twice_fault ns n) (or_else (or_else (fault true E k) (not_constant E k)) (or_else (entry_fault s E n k)
      (entries_fault s (ns ++ (n ∷ [])) es (in_entry s section_start n k E))))

  -- The first fault of a definition. `before` has the names of the LET up to here. A variable must be inside a
  -- routine.
  pub definition_fault : (before : List Name) → Env → Definition → Option Fault
  definition_fault ns E (tree.Variables xs es) = or_else (all_twice_fault ns xs) (or_else (all_fault false E es) (unless E.inside AMisplaced))
  definition_fault ns E (tree.Vector n k) = or_else (twice_fault ns n) (or_else (or_else (fault true E k) (not_constant E k)) (unless E.inside AMisplaced))
  definition_fault ns E (tree.Function n ps e) = or_else (twice_fault ns n) (or_else (all_twice_fault [] ps) (fault false (in_parameters ps E) e))
  definition_fault ns E (tree.Routine n ps b) =
      or_else (twice_fault ns n) (or_else (all_twice_fault [] ps) (block_fault allowed_in_routine (in_parameters ps E) b))

  -- the first fault of the definitions of a LET
  pub definitions_fault : (before : List Name) → Env → Definitions → Option Fault
  definitions_fault ns E no_definitions = None
  definitions_fault ns E (definition d ds) = or_else (definition_fault ns E d) (definitions_fault (ns ++ names_of d) E ds)

  -- the first fault of a declaration
  pub declaration_fault : Env → Declaration → Option Fault
  declaration_fault E (tree.Constants k es) = entries_fault k [] es (pending k es E)
  declaration_fault E (tree.Let ds) = definitions_fault [] (known_after E (tree.Let ds)) ds

  -- the first fault of declarations
  pub declarations_fault : Env → Declarations → Option Fault
  declarations_fault E no_declarations = None
  declarations_fault E (declaration d ds) = or_else (declaration_fault E d) (declarations_fault (known_after E d) ds)

  -- the first fault of a block
  pub block_fault : Allowed → Env → Block → Option Fault
  block_fault W E (block ds is) = or_else (declarations_fault E ds) (items_fault false none_met W (in_list 0 is (known_after_all E ds)) is)

  -- the fault of a label
  pub label_fault : (cases : Bool) → Met → Env → Label → Option Fault
  label_fault cases M E (tree.Case k) = or_else (or_else (fault true E k) (not_constant E k)) (case_fault cases M (constant E k))
  label_fault cases M E tree.Default = default_fault cases M
  label_fault cases M E (tree.Named n) = twice_fault M.names n

  -- the first fault of the labels of an item
  pub labels_fault : (cases : Bool) → Met → Env → Labels → Option Fault
  labels_fault cases M E no_labels = None
  labels_fault cases M E (label l ls) = or_else (label_fault cases M E l) (labels_fault cases (met_label E M l) E ls)

  -- The first fault of the items of a list. `cases` says whether the list is that of a SWITCHON; `met` has its labels
  -- up to here.
  pub items_fault : (cases : Bool) → (met : Met) → Allowed → Env → Items → Option Fault
  items_fault cases M W E no_items = None
  items_fault cases M W E (item (Labelled ls c) is) =
      or_else (labels_fault cases M E ls) (or_else (command_fault W E c) (items_fault cases (met_labels E M ls) W E is))
  items_fault cases M W E (item (Labels_alone ls) is) = or_else (labels_fault cases M E ls) (items_fault cases (met_labels E M ls) W E is)

  -- the first fault of a command
  pub command_fault : Allowed → Env → Command → Option Fault
  command_fault W E (tree.Assign xs es) = or_else (all_fault false E xs) (or_else (all_fault false E es) (unless (all_have_cells E xs) ANotAssignable))
  command_fault W E (tree.Do f es) = or_else (fault false E f) (all_fault false E es)
  command_fault W E (tree.Compound b) = block_fault W E b
  command_fault W E tree.Break = unless W.in_loop AMisplaced
  command_fault W E tree.Loop = unless W.in_loop AMisplaced
  command_fault W E tree.EndCase = unless W.in_cases AMisplaced
  command_fault W E tree.Return = unless W.may_return AMisplaced
  command_fault W E tree.Finish = None
  command_fault W E (tree.ResultIs e) = or_else (fault false E e) (unless W.in_valof AMisplaced)
  command_fault W E (tree.Goto n) = jump_fault n (meant_by E n)
  command_fault W E (tree.Repeat c) = command_fault (in_a_loop W) E c
  command_fault W E (tree.RepeatWhile c e) = or_else (command_fault (in_a_loop W) E c) (fault false E e)
  command_fault W E (tree.RepeatUntil c e) = or_else (command_fault (in_a_loop W) E c) (fault false E e)
  command_fault W E (tree.If e b) = or_else (fault false E e) (block_fault W E b)
  command_fault W E (tree.Unless e b) = or_else (fault false E e) (block_fault W E b)
  command_fault W E (tree.While e b) = or_else (fault false E e) (block_fault (in_a_loop W) E b)
  command_fault W E (tree.Until e b) = or_else (fault false E e) (block_fault (in_a_loop W) E b)
  command_fault W E (tree.Test e b c) = or_else (fault false E e) (or_else (block_fault W E b) (block_fault W E c))
  command_fault W E (tree.For n a z b) = or_else (fault false E a) (or_else (fault false E z) (block_fault (in_a_loop W) (in_for E n 0) b))
  command_fault W E (tree.ForBy n a z k b) =
      or_else (fault false E a) (or_else (fault false E z) (or_else (or_else (fault true E k) (not_constant E k)) (block_fault (in_a_loop W) (in_for E n 0) b)))
  command_fault W E (tree.SwitchOn e is) = or_else (fault false E e) (items_fault true none_met (in_a_switch W) (in_list 0 is E) is)

-- the first routine whose frame is too large, which comes after all faults above
abbrev pub frames_fault : List Thing → Option Fault
frames_fault [] = None
frames_fault (AValof f ∷ things) = frames_fault things
frames_fault (ARoutine r ∷ things) = or_else (unless (nat_le (frame_of r) 32768) AFrameTooLarge) (frames_fault things)
frames_fault (Data m d ∷ things) = frames_fault things

-- how many routines, statics, tables and strings there are
abbrev pub places_among : List Thing → ℕ
places_among [] = 0
places_among (AValof f ∷ things) = places_among things
places_among (ARoutine r ∷ things) = 1 + places_among things
places_among (Data m d ∷ things) = 1 + places_among things

-- a section has at most 8,000 of them; this fault comes last
abbrev pub places_fault : List Thing → Option Fault
places_fault things = unless (nat_le (places_among things) 8000) ATooManyPlaces

-- the first fault of a section
abbrev pub section_fault : Declarations → Option Fault
section_fault ds =
    let things = found_in_section ds in
    or_else (declarations_fault nothing_known ds) (or_else (frames_fault things) (places_fault things))
