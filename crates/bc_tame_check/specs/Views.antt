-- What the check's values are in the definitions of `bc_tame`.
use Rattle.std.specs.Global.{Vec}
use Rattle.std.specs.Prelude.{⊤, ◌≡◌, ℕ, ◌+◌, ◌==◌, ◌&&◌, nat_le, cond, Bool, true, false, List, [], ◌∷◌, Option, Some, None, map}
use Rattle.bc_word.specs.declared.operator.Op.{Op}
use Rattle.bc_word.specs.declared.operator.Op.TheVariants.{Add, Subtract, Multiply}
use Rattle.bc_core.specs.Tree as tree
use Rattle.bc_core.specs.Tree.{Exp}
use Rattle.bc_core.specs.Commands as commands
use Rattle.bc_core.specs.Commands.{Variable, Command, Items, Core}
use Rattle.bc_core.specs.Level.{cells_declared}
use Rattle.bc_core.specs.declared.command.ListItem.{ListItem}
use Rattle.bc_core.specs.declared.command.ListItem.TheVariants as entries
use Rattle.bc_core.specs.declared.expression.CoreExp.{CoreExp}
use Rattle.bc_core.specs.View.{section, valof_of, place_of, args}
use Rattle.bc_core.specs.WellFormed.{has}
use Rattle.bc_tame.specs.Tame as tame
use Rattle.bc_tame.specs.Tame.{Note, notes_of, Knows, Env, is_set, is_string, is_cell_or_word, is_only, in_vector, bounds_of_held, sum_of, difference_of, product_of}
use Rattle.bc_tame.specs.Tame.{and_also, and_cells, and_where, and_declared, parameters_set, with_valofs, tame_valofs, tame_declarations, has_no_entry, learned, filled}
use Rattle.bc_tame.specs.Programs as programs
use Rattle.bc_tame.specs.Programs.{known, text_from, gives_from, env_of}
use Rattle.bc_tame_check.specs.declared.at.Around.{Around}
use Rattle.bc_tame_check.specs.declared.at.At.{At}
use Rattle.bc_tame_check.specs.declared.at.Setter.{Setter}
use Rattle.bc_tame_check.specs.declared.held.Held.{Held}
use Rattle.bc_tame_check.specs.declared.held.Held.TheVariants as holds
use Rattle.bc_tame_check.specs.declared.held.Bounds.{Bounds}
use Rattle.bc_tame_check.specs.declared.held.Entry.{Entry}
use Rattle.bc_tame_check.specs.declared.held.Entry.TheVariants as known_cells
use Rattle.bc_tame_check.specs.declared.held.Test.{Test}
use Rattle.bc_tame_check.specs.declared.held.Test.TheVariants as tests
use Rattle.bc_tame_check.specs.declared.rooms.Rooms.{Rooms}

-- numbers from one to another
abbrev pub bounds_in : Bounds → tame.Bounds
bounds_in b = record { least = b.least; greatest = b.greatest }

abbrev pub bounds_found : Option Bounds → Option tame.Bounds
bounds_found None = None
bounds_found (Some b) = Some (bounds_in b)

-- what a cell holds
abbrev pub held_of : Held → tame.Held
held_of holds.Nothing = tame.Nothing
held_of holds.Cell = tame.ACell
held_of holds.Word = tame.AnyWord
held_of (holds.StringAt m) = tame.StringAt m
held_of (holds.VectorOf n) = tame.VectorOf n
held_of (holds.TableAt m) = tame.TableAt m
held_of (holds.Between b) = tame.Between b.least b.greatest

abbrev pub within : ℕ → ℕ → ℕ → Bool
within first last j = nat_le first j && nat_le j last

-- what an entry adds
abbrev pub and_entry : Entry → Knows → Knows
and_entry (known_cells.One k h) R = and_also k (held_of h) R
and_entry (known_cells.Cells k n) R = and_cells n k R
and_entry (known_cells.Only k h) R = and_where (is_only (Some (tame.bounds k k))) (held_of h) R
and_entry (known_cells.Filled first last) R = and_where (within first last) tame.AnyWord R

-- these entries are known, in addition to others
abbrev pub set_over : Knows → List Entry → Knows
set_over R [] = R
set_over R (e ∷ es) = set_over (and_entry e R) es

-- what one cell holds after entries
abbrev pub held_over : List Entry → (offset : ℕ) → tame.Held → tame.Held
held_over [] j h = h
held_over (e ∷ es) j h = held_over es j (and_entry e (λ i. h) j)

-- tests of what a cell holds
abbrev pub test_of : Test → tame.Held → Bool
test_of tests.Set h = is_set h
test_of tests.Writable h = is_cell_or_word h
test_of tests.String h = is_string h

-- the bounds of an operator's value, from those of its operands
abbrev pub combined : Op → Option tame.Bounds → Option tame.Bounds → Option tame.Bounds
combined Add x y = sum_of x y
combined Subtract x y = difference_of x y
combined Multiply x y = product_of x y
combined _ x y = None

-- the offset of a local variable, by its address or by its content
abbrev pub local_in : Exp → Option ℕ
local_in (tree.Frame k) = Some k
local_in _ = None

abbrev pub content_in : Exp → Option ℕ
content_in (tree.Load a) = local_in a
content_in _ = None

-- the cells of the vector whose address is at an offset, if there is one
abbrev pub element_at : Knows → Option ℕ → Option tame.Bounds → Option tame.Bounds
element_at R None i = None
element_at R (Some k) i = in_vector k (R k) i

-- the offset of the vector, if the content of a cell is indexed by that of this variable
abbrev pub indexed_at : (variable : ℕ) → (vector index : Option ℕ) → Option ℕ
indexed_at i None j = None
indexed_at i (Some k) None = None
indexed_at i (Some k) (Some j) = cond (i == j) (Some k) None

-- at most one entry
abbrev pub listed : Option Entry → List Entry
listed None = []
listed (Some e) = e ∷ []

-- which commands are assignments, and which are blocks
abbrev pub is_assign : Command → Bool
is_assign (commands.Assign v a) = true
is_assign _ = false

abbrev pub is_nested : Command → Bool
is_nested (commands.Nested b) = true
is_nested _ = false

-- routines that set globals
abbrev pub setter_of : Setter → programs.Setter
setter_of s = record { global = s.global; known = known s.arguments s.room }

abbrev pub setters_in : List Setter → List programs.Setter
setters_in ss = map setter_of ss

-- the surroundings of a routine, without its VALOFs
abbrev pub env_around : Around → Env
env_around A = env_of (section (A.places.now, [])) A.rooms.now (setters_in A.setters.now) A.size

abbrev pub env_at : At → Env
env_at at = with_valofs (env_around at.around) (tame_valofs (env_around at.around) at.first (map valof_of at.valofs.now))

abbrev pub reads_at : At → Knows
reads_at at = set_over (parameters_set at.parameters) at.reads.now

abbrev pub exits_at : At → tame.Exits
exits_at at = record {
  in_loop = at.exits.in_loop;
  in_cases = at.exits.in_cases;
  in_valof = at.exits.in_valof;
  may_return = at.exits.may_return;
  labels = has at.exits.labels.now;
}

-- the label of an item, as a list
abbrev pub label_in : ListItem → List ℕ
label_in (entries.Command c) = []
label_in (entries.Case k) = []
label_in entries.Default = []
label_in (entries.Label l) = l ∷ []

-- what is known of arguments
abbrev pub notes_in : At → List CoreExp → List Note
notes_in at es =
    let places = map place_of at.around.places.now in
    notes_of (text_from places 1) (gives_from (text_from places 1) places 1) (reads_at at) (args es)

-- declarations pass, this is known after them, and this is the level then
pub record AreDeclared (at : At) (kept : Bool) (ds : List (List Variable)) (reads : List Entry) (level : ℕ) : Type 0 where
  pub pass : tame_declarations (env_at at) kept (reads_at at) ds at.level ≡ true
  pub set : set_over (parameters_set at.parameters) reads ≡ and_declared (env_at at) kept ds at.level (reads_at at)
  pub above : level ≡ at.level + cells_declared ds

-- this is learned from a command, before the rest of its list
abbrev pub IsLearned : At → Command → Items → List Entry → Type 0
IsLearned at c rest more = set_over (reads_at at) more ≡ cond (has_no_entry rest) (learned (env_at at) (reads_at at) c) (reads_at at)

-- what a command fills is known in addition to what was known before
abbrev pub FillsCells : At → Command → List Entry → Type 0
FillsCells at c [] = ⊤
FillsCells at c (e ∷ more) = set_over (reads_at at) (e ∷ more) ≡ filled (reads_at at) c at.level

-- a FOR passes as one that fills cells, and this is known after it
abbrev pub IsFilling : At → Command → List Entry → Type 0
IsFilling at c more = (tame.tame_filling (env_at at) (reads_at at) c at.level ≡ true) × (set_over (reads_at at) more ≡ filled (reads_at at) c at.level)

-- the rooms of each section
abbrev pub rooms_in : List (Vec ℕ) → List (List ℕ)
rooms_in all = map (λ (rooms : Vec ℕ). rooms.items) all

-- the hint that was found
abbrev pub hint : Rooms → programs.Rooms
hint r = record { each = rooms_in r.each.items; room = r.room }

-- the sections pass the check with these rooms, and START has this one
abbrev pub AreTame : List Core → (each : List (List ℕ)) (room : ℕ) → Type 0
AreTame cores each room = programs.is_tame cores (record { each = each; room = room }) ≡ true
