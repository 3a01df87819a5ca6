-- For proofs: what a walk finds in each kind of part, by the definitions of bc_scope_defs.
use Rattle.std.specs.Prelude.{ℕ, ◌+◌, Bool, true, false, List, [], ◌∷◌, ◌++◌, length, max, Option}
use Rattle.bc_parse_tree.specs.declared.tree.Storage.{Storage}
use Rattle.bc_parse_tree.specs.Tree.{Exp, Exps, Block, Declaration, Declarations, Definition, Definitions, Entries, Item, Labelled, Labels_alone, Items, Command}
use Rattle.bc_core.specs.Level.{operand_level, argument_level, routine_level, level_in_for, level_after_parameters}
use Rattle.bc_scope_defs.specs.Scope.{Env, Name, Numbers, after_place, after_labels}
use Rattle.bc_scope_defs.specs.Numbering.{labels_in, following, after_all, after_block, after_declarations, after_declaration, after_definitions, after_definition, after_entries, after_items, after_item, after_command}
use Rattle.bc_scope_defs.specs.Scoping.{count, before_let, in_let, cells_of_all, in_entries, in_declaration, in_declarations, cells_in, level_after, in_for, in_list}
use Rattle.bc_scope_defs.specs.Sides.{side_levels}
use Rattle.bc_scope_defs.specs.Found.{Thing, Gives, Does, routine, in_parameters, found, found_in_arguments, found_in_sides, found_in_initials, found_in_entries, found_in_definition, found_in_definitions, found_in_declaration, found_in_declarations, found_in_block, found_in_items, found_in_command}
use Rattle.bc_scope_defs.specs.FramesAlong.{all_held, widest}
use Rattle.bc_scope_defs.specs.FramesAlong.{width, widths, width_of_arguments, width_of_initials, width_of_definition, width_of_definitions, width_of_declaration, width_of_declarations, width_of_block, width_of_items, width_of_command}
use Rattle.bc_scope_defs.specs.Faults.{Fault, ANotAssignable, Allowed, Met, or_else, unless, none_met, in_a_loop, in_a_switch, allowed_in_routine, all_have_cells, not_constant, all_twice_fault}
use Rattle.bc_scope_defs.specs.FaultsAlong.{fault, arguments_fault, sides_fault, initials_fault, entries_fault, definition_fault, definitions_fault, declaration_fault, declarations_fault, block_fault, labels_fault, items_fault, command_fault}
use Rattle.bc_scope_faults.specs.Walk.{Here, Part, Declaring, Siding, in_turn, at_least, among, after_judged}

-- Expressions

-- an expression at level s; c says that it is part of a constant
abbrev pub of_exp : (constant : Bool) → Exp → (s : ℕ) → Part
of_exp c e s h = record { fault = fault c h.names h.at e s; width = width h.names h.at e s; following = following h.at e; found = found h.names h.at e s }

-- arguments, the first at level s
abbrev pub of_arguments : (constant : Bool) → Exps → (s : ℕ) → Part
of_arguments c es s h = record {
  fault = arguments_fault c h.names h.at es s;
  width = width_of_arguments h.names h.at es s;
  following = after_all h.at es;
  found = found_in_arguments h.names h.at es s;
}

-- initial values of variables, all at level s
abbrev pub of_initials : Exps → (s : ℕ) → Part
of_initials es s h = record {
  fault = initials_fault h.names h.at es s;
  width = width_of_initials h.names h.at es s;
  following = after_all h.at es;
  found = found_in_initials h.names h.at es s;
}

-- both operands of an operator at level s
abbrev pub of_operands : (constant : Bool) → (left right : Exp) → (s : ℕ) → Part
of_operands c l r s = at_least (s + 2) (in_turn (of_exp c l (operand_level s)) (of_exp c r (operand_level s)))

-- `test -> this, that`
abbrev pub of_choice : (constant : Bool) → (test this that : Exp) → (s : ℕ) → Part
of_choice c t x y s = in_turn (of_exp c t s) (in_turn (of_exp c x s) (of_exp c y s))

-- a call at level s
abbrev pub of_call : (constant : Bool) → Exp → Exps → (s : ℕ) → Part
of_call c f es s h =
    let a = of_exp c f (routine_level s (count es)) h in
    let b = of_arguments c es (argument_level s) (record h { at = a.following }) in
    record { fault = or_else a.fault b.fault; width = max (s + 2 + count es) (max b.width a.width); following = b.following; found = a.found ++ b.found }

-- the first fault inside a constant, or that it isn't constant
abbrev pub constant_fault : Exp → Here → Option Fault
constant_fault k h = or_else (fault true h.names h.at k 0) (not_constant h.names k)

-- one side of an assignment, each expression at its level
abbrev pub of_sides : Exps → List ℕ → Here → Siding
of_sides es ss h = record {
  walk = record { fault = sides_fault h.names h.at es ss; width = 0; following = after_all h.at es; found = found_in_sides h.names h.at es ss };
  widths = widths h.names h.at es ss;
}

-- Declarations

-- the entries of a declaration of constants
abbrev pub of_entries : Storage → Entries → Here → Declaring
of_entries st es h = record {
  walk = record { fault = entries_fault st [] h.at es h.names; width = 0; following = after_entries st h.at es; found = found_in_entries st h.at es h.names };
  names = in_entries st h.at es h.names;
  level = 0;
}

-- a definition, whose names must differ from those before it
abbrev pub of_definition : (before : List Name) → Definition → (s : ℕ) → Part
of_definition ns d s h = record {
  fault = definition_fault ns h.names h.at d s;
  width = width_of_definition h.names h.at d s;
  following = after_definition h.at d;
  found = found_in_definition h.names h.names h.at d s;
}

-- the definitions of a LET, among its names
abbrev pub of_definitions : Definitions → (s : ℕ) → Part
of_definitions ds s h = record {
  fault = definitions_fault [] h.names h.at ds s;
  width = width_of_definitions h.names h.at ds s;
  following = after_definitions h.at ds;
  found = found_in_definitions h.names h.names h.at ds s;
}

-- a routine that is an expression
abbrev pub of_function : List Name → Exp → Part
of_function ps e h =
    let a = of_exp false e (level_after_parameters (length ps)) (record { names = in_parameters ps h.names; at = after_place h.at }) in
    record a { fault = or_else (all_twice_fault [] ps) a.fault; found = routine h.names h.names h.at [] ps (Gives e) ∷ a.found }

-- a block at level s; W says which commands may be in it
abbrev pub of_block : Allowed → Block → (s : ℕ) → Part
of_block W b s h = record {
  fault = block_fault W h.names h.at b s;
  width = width_of_block h.names h.at b s;
  following = after_block h.at b;
  found = found_in_block h.names h.at b s;
}

-- a routine that is a block
abbrev pub of_routine : List Name → Block → Part
of_routine ps b h =
    let a = of_block allowed_in_routine b (level_after_parameters (length ps)) (record { names = in_parameters ps h.names; at = after_place h.at }) in
    record a { fault = or_else (all_twice_fault [] ps) a.fault; found = routine h.names h.names h.at [] ps (Does b) ∷ a.found }

-- a LET, with its definitions among the names that it adds
abbrev pub of_let : Definitions → (s : ℕ) → Here → Declaring
of_let ds s h =
    let E = in_let h.names h.at s ds in
    let k = s + cells_of_all (before_let ds h.names) ds in
    record {
      walk = record {
        fault = definitions_fault [] E h.at ds k;
        width = max k (width_of_definitions E h.at ds k);
        following = after_definitions h.at ds;
        found = found_in_definitions h.names E h.at ds k;
      };
      names = E;
      level = k;
    }

-- one declaration, whose first free offset is s
abbrev pub of_declaration : Declaration → (s : ℕ) → Here → Declaring
of_declaration d s h = record {
  walk = record {
    fault = declaration_fault h.names h.at d s;
    width = width_of_declaration h.names h.at d s;
    following = after_declaration h.at d;
    found = found_in_declaration h.names h.at d s;
  };
  names = in_declaration h.names h.at s d;
  level = s + cells_in h.names d;
}

-- declarations, whose first free offset is s
abbrev pub of_declarations : Declarations → (s : ℕ) → Here → Declaring
of_declarations ds s h = record {
  walk = record {
    fault = declarations_fault h.names h.at ds s;
    width = width_of_declarations h.names h.at ds s;
    following = after_declarations h.at ds;
    found = found_in_declarations h.names h.at ds s;
  };
  names = in_declarations h.names h.at s ds;
  level = level_after h.names h.at s ds;
}

-- Lists of commands

-- items whose first label has number k
abbrev pub of_items : (cases : Bool) → Allowed → (k : ℕ) → Items → (s : ℕ) → Part
of_items cases W k is s h = record {
  fault = items_fault cases none_met W h.names h.at is s;
  width = width_of_items h.names k h.at is s;
  following = after_items h.at is;
  found = found_in_items h.names k h.at is s;
}

-- a command list, whose labels are in scope in all of it
abbrev pub of_list : (cases : Bool) → Allowed → Items → (s : ℕ) → Part
of_list cases W is s h =
    let k = h.at.label in
    of_items cases W k is s (record { names = in_list k is h.names; at = after_labels h.at (labels_in is) })

-- declarations and the items after them
abbrev pub of_body : Allowed → Declarations → Items → (s : ℕ) → Part
of_body W ds is s h =
    let d = of_declarations ds s h in
    in_turn (λ _. d.walk) (among (λ _. d.names) (of_list false W is d.level)) h

-- a command at level s; W says which commands may be here
abbrev pub of_command : Allowed → Command → (s : ℕ) → Part
of_command W c s h = record {
  fault = command_fault W h.names h.at c s;
  width = width_of_command h.names h.at c s;
  following = after_command h.at c;
  found = found_in_command h.names h.at c s;
}

-- the first fault of an item, after the labels M of its list
abbrev pub item_fault : (cases : Bool) → Met → Allowed → Env → Numbers → Item → (s : ℕ) → Option Fault
item_fault cases M W E at (Labelled ls c) s = or_else (labels_fault cases M E at ls) (command_fault W E at c s)
item_fault cases M W E at (Labels_alone ls) s = labels_fault cases M E at ls

-- what is found in an item
abbrev pub item_found : Env → Numbers → Item → (s : ℕ) → List Thing
item_found E at (Labelled ls c) s = found_in_command E at c s
item_found E at (Labels_alone ls) s = []

-- the frame size that an item needs
abbrev pub item_width : Env → Numbers → Item → (s : ℕ) → ℕ
item_width E at (Labelled ls c) s = width_of_command E at c s
item_width E at (Labels_alone ls) s = 0

-- an item, after the labels M of its list
abbrev pub of_item : (cases : Bool) → Met → Allowed → Item → (s : ℕ) → Part
of_item cases M W i s h = record {
  fault = item_fault cases M W h.names h.at i s;
  width = item_width h.names h.at i s;
  following = after_item h.at i;
  found = item_found h.names h.at i s;
}

-- Commands

-- an expression and then a block
abbrev pub of_guarded : Allowed → Exp → Block → (s : ℕ) → Part
of_guarded W e b s = in_turn (of_exp false e s) (of_block W b s)

-- a loop that tests after its command
abbrev pub of_repeated : Allowed → Command → Exp → (s : ℕ) → Part
of_repeated W c e s = in_turn (of_command (in_a_loop W) c s) (of_exp false e s)

-- an assignment at level s: its addresses, its values, and then that each address has a cell
abbrev pub of_assignment : (places values : Exps) → (s : ℕ) → Part
of_assignment xs es s h =
    let ss = side_levels h.names xs s in
    let a = of_sides xs ss h in
    let b = of_sides es ss (record h { at = a.walk.following }) in
    record {
      fault = or_else a.walk.fault (or_else b.walk.fault (unless (all_have_cells h.names xs) ANotAssignable));
      width = widest (all_held h.names xs s) a.widths b.widths;
      following = b.walk.following;
      found = a.walk.found ++ b.walk.found;
    }

-- a TEST with its two blocks
abbrev pub of_test : Allowed → Exp → (this that : Block) → (s : ℕ) → Part
of_test W e b c s = in_turn (of_exp false e s) (in_turn (of_block W b s) (of_block W c s))

-- the body of a FOR at level s over a variable
abbrev pub of_counted : Allowed → Name → Block → (s : ℕ) → Part
of_counted W n b s = among (λ E. in_for E n s) (of_block (in_a_loop W) b (level_in_for s))

-- a FOR without BY
abbrev pub of_for : Allowed → Name → (start limit : Exp) → Block → (s : ℕ) → Part
of_for W n a z b s =
    let k = level_in_for s in at_least (k + 2) (in_turn (of_exp false a k) (in_turn (of_exp false z k) (of_counted W n b s)))

-- a FOR with BY
abbrev pub of_for_by : Allowed → Name → (start limit by : Exp) → Block → (s : ℕ) → Part
of_for_by W n a z y b s =
    let k = level_in_for s in
    at_least (k + 2) (in_turn (of_exp false a k) (in_turn (of_exp false z k) (after_judged (constant_fault y) (of_counted W n b s))))

-- a SWITCHON
abbrev pub of_switch : Allowed → Exp → Items → (s : ℕ) → Part
of_switch W e is s = in_turn (of_exp false e s) (of_list true (in_a_switch W) is s)

-- One pair of an assignment

-- the first level, or 0
abbrev pub head_level : List ℕ → ℕ
head_level [] = 0
head_level (s ∷ ss) = s

-- the width w, if there is a pair for it
abbrev pub side_width : List ℕ → ℕ → List ℕ
side_width [] w = []
side_width (s ∷ ss) w = w ∷ []
