-- What holds of every resolved section, which `Core` keeps as its invariant. Its labels, numbers and jump targets
-- exist. In a SWITCHON no value of a CASE occurs twice, and DEFAULT at most once. Its frames and roots are within their
-- limits.
use Rattle.std.specs.Prelude.{ℕ, suc, ◌+◌, ◌==◌, ◌&&◌, ◌||◌, not, nat_le, nat_lt, Bool, true, false, List, [], ◌∷◌, ◌++◌, map, length, slice_get, Option, Some, None}
use Rattle.bc_core.specs.Tree.{Exp, Frame, Glob, Place, Load, Neg, Not, Bin, Cond, Call, Args, no_argument, argument, count}
use Rattle.bc_core.specs.Tree as tree
use Rattle.bc_core.specs.Commands.{Variable, Initial, Vector, Command, Block, block, Items, no_item, command, case, default, label, Routine, Body, Gives, Does, Code, Text, Valof, Core}
use Rattle.bc_core.specs.Commands as commands
use Rattle.bc_core.specs.Level.{level_after_parameters, operand_level, argument_level, routine_level, side_level, cells_of_all, cells_declared, level_in_for}
use Rattle.bc_core.specs.Layout.{frame_size}

abbrev mutual
  -- the number of nodes of an expression
  pub nodes : Exp → ℕ
  nodes (Load e) = 1 + nodes e
  nodes (Neg e) = 1 + nodes e
  nodes (Not e) = 1 + nodes e
  nodes (Bin op a b) = 1 + nodes a + nodes b
  nodes (Cond c x y) = 1 + nodes c + nodes x + nodes y
  nodes (Call es f) = 1 + nodes_of_args es + nodes f
  nodes _ = 1

  pub nodes_of_args : Args → ℕ
  nodes_of_args no_argument = 0
  nodes_of_args (argument e es) = nodes e + nodes_of_args es

-- a root has at most 2^20 nodes
abbrev pub most_nodes : ℕ
most_nodes = 1048576

-- What a body is checked against: how many places the section has, the least number that a VALOF in the body may
-- have, and the level of each VALOF.
pub record Around : Type 0 where
  pub places : ℕ
  pub first : ℕ
  pub levels : List ℕ

-- whether this level is s
abbrev pub stands_at : Option ℕ → ℕ → Bool
stands_at None s = false
stands_at (Some level) s = level == s

-- whether an expression at the level s fits: its globals and labels exist, and each VALOF in it has its level
abbrev mutual
  pub exp_fits : Around → Exp → ℕ → Bool
  exp_fits A (Glob n) s = nat_lt n 512
  exp_fits A (Place m) s = nat_le 1 m && nat_le m A.places
  exp_fits A (Load e) s = exp_fits A e s
  exp_fits A (Neg e) s = exp_fits A e s
  exp_fits A (Not e) s = exp_fits A e s
  exp_fits A (Bin op a b) s = exp_fits A a (operand_level s) && exp_fits A b (operand_level s)
  exp_fits A (Cond c x y) s = exp_fits A c s && exp_fits A x s && exp_fits A y s
  exp_fits A (Call es f) s = args_fit A es (argument_level s) && exp_fits A f (routine_level s (count es))
  exp_fits A (tree.Valof n) s = nat_le A.first n && stands_at (slice_get A.levels n) s
  exp_fits A _ s = true

  -- whether the arguments of a call fit, each one level higher than the one before it
  pub args_fit : Around → Args → ℕ → Bool
  args_fit A no_argument s = true
  args_fit A (argument e es) s = exp_fits A e s && args_fit A es (s + 1)

-- whether a root fits: its size is within the limit, and it fits as an expression
abbrev pub root_fits : Around → Exp → ℕ → Bool
root_fits A e s = nat_le (nodes e) most_nodes && exp_fits A e s

-- whether an assignment fits: both sides together are within the limit, and both fit
abbrev pub assignment_fits : Around → Exp → Exp → ℕ → Bool
assignment_fits A v a s =
    nat_le (nodes v + nodes a) most_nodes && exp_fits A v (side_level a s) && exp_fits A a (side_level a s)

-- whether variables from the offset k on fit, with their initialisers at the level s
abbrev pub variables_fit : Around → List Variable → (k s : ℕ) → Bool
variables_fit A [] k s = true
variables_fit A (Initial e ∷ vs) k s = assignment_fits A e (Frame k) s && variables_fit A vs (k + 1) s
variables_fit A (Vector n ∷ vs) k s = variables_fit A vs (k + (n + 2)) s

-- whether the declarations of a block fit; the level after each includes its cells
abbrev pub declarations_fit : Around → List (List Variable) → ℕ → Bool
declarations_fit A [] s = true
declarations_fit A (vs ∷ ds) s = let s1 = s + cells_of_all vs in variables_fit A vs s s1 && declarations_fit A ds s1

-- the jumps that are allowed at a command, and the labels that GOTO may go to
pub record Jumps : Type 0 where
  pub in_loop : Bool
  pub in_cases : Bool
  pub in_valof : Bool
  pub may_return : Bool
  pub labels : List ℕ

-- whether the list has this label
abbrev pub has : List ℕ → ℕ → Bool
has [] l = false
has (k ∷ ks) l = k == l || has ks l

-- whether no number occurs twice
abbrev pub are_distinct : List ℕ → Bool
are_distinct [] = true
are_distinct (k ∷ ks) = not (has ks k) && are_distinct ks

-- the labels of a list
abbrev pub labels_of : Items → List ℕ
labels_of no_item = []
labels_of (command c is) = labels_of is
labels_of (case k is) = labels_of is
labels_of (default is) = labels_of is
labels_of (label l is) = l ∷ labels_of is

-- in the body of a loop
abbrev pub in_a_loop : Jumps → Jumps
in_a_loop J = record J { in_loop = true }

-- in a list, whose labels are added to those around it
abbrev pub in_list : Items → Jumps → Jumps
in_list is J = record J { labels = labels_of is ++ J.labels }

-- whether a list has a CASE or a DEFAULT
abbrev pub has_entries : Items → Bool
has_entries no_item = false
has_entries (command c is) = has_entries is
has_entries (case k is) = true
has_entries (default is) = true
has_entries (label l is) = has_entries is

-- the values of the CASEs in a list, in order
abbrev pub cases_of : Items → List ℕ
cases_of no_item = []
cases_of (command c is) = cases_of is
cases_of (case v is) = v ∷ cases_of is
cases_of (default is) = cases_of is
cases_of (label l is) = cases_of is

-- how many DEFAULTs a list has
abbrev pub defaults_in : Items → ℕ
defaults_in no_item = 0
defaults_in (command c is) = defaults_in is
defaults_in (case v is) = defaults_in is
defaults_in (default is) = suc (defaults_in is)
defaults_in (label l is) = defaults_in is

-- whether no value of a CASE occurs twice in a list, and DEFAULT at most once
abbrev pub entries_differ : Items → Bool
entries_differ is = are_distinct (cases_of is) && nat_le (defaults_in is) 1

abbrev mutual
  -- whether a command fits
  pub command_fits : Around → Jumps → Command → ℕ → Bool
  command_fits A J (commands.Call e) s = root_fits A e s
  command_fits A J (commands.Assign v a) s = assignment_fits A v a s
  command_fits A J (commands.If sense e b) s = root_fits A e s && block_fits A J b s
  command_fits A J (commands.Test e b c) s = root_fits A e s && block_fits A J b s && block_fits A J c s
  command_fits A J (commands.While sense e b) s = root_fits A e s && block_fits A (in_a_loop J) b s
  command_fits A J (commands.Repeat b) s = block_fits A (in_a_loop J) b s
  command_fits A J (commands.RepeatWhile b sense e) s = root_fits A e s && block_fits A (in_a_loop J) b s
  command_fits A J (commands.For start limit by b) s =
      let s1 = level_in_for s in
      assignment_fits A start (Frame s) s1 && assignment_fits A limit (Frame (s + 1)) s1 && block_fits A (in_a_loop J) b s1
  command_fits A J (commands.SwitchOn e is) s =
      root_fits A e s && are_distinct (labels_of is) && entries_differ is && items_fit A (in_list is (record J { in_cases = true })) is s
  command_fits A J commands.Break s = J.in_loop
  command_fits A J commands.Loop s = J.in_loop
  command_fits A J commands.EndCase s = J.in_cases
  command_fits A J commands.Return s = J.may_return
  command_fits A J (commands.ResultIs e) s = J.in_valof && root_fits A e s
  command_fits A J (commands.Goto l) s = has J.labels l
  command_fits A J (commands.Nested b) s = block_fits A J b s
  command_fits A J commands.Finish s = true

  -- whether a block fits; its list has no CASE and no DEFAULT, since these belong to a SWITCHON
  pub block_fits : Around → Jumps → Block → ℕ → Bool
  block_fits A J (block ds is) s =
      declarations_fit A ds s && not (has_entries is) && are_distinct (labels_of is) && items_fit A (in_list is J) is (s + cells_declared ds)

  -- whether the items of a list fit
  pub items_fit : Around → Jumps → Items → ℕ → Bool
  items_fit A J no_item s = true
  items_fit A J (command c is) s = command_fits A J c s && items_fit A J is s
  items_fit A J (case k is) s = items_fit A J is s
  items_fit A J (default is) s = items_fit A J is s
  items_fit A J (label l is) s = items_fit A J is s

-- what is allowed in a routine of BE: RETURN leaves it, and no other jump does
abbrev pub jumps_in_routine : Jumps
jumps_in_routine = record { in_loop = false; in_cases = false; in_valof = false; may_return = true; labels = [] }

-- what is allowed in a VALOF: RESULTIS leaves it, and no other jump does, not even RETURN
abbrev pub jumps_in_valof : Jumps
jumps_in_valof = record { in_loop = false; in_cases = false; in_valof = true; may_return = false; labels = [] }

-- whether the body of a routine fits
abbrev pub body_fits : Around → Body → ℕ → Bool
body_fits A (Gives e) s = root_fits A e s
body_fits A (Does b) s = block_fits A jumps_in_routine b s

-- whether the global that a routine sets exists
abbrev pub global_fits : Option ℕ → Bool
global_fits None = true
global_fits (Some n) = nat_lt n 512

-- whether a place fits: a frame has at most 32,768 cells, a string at most 255 bytes
abbrev pub place_fits : Around → List Valof → commands.Place → Bool
place_fits A valofs (Code r) =
    global_fits r.global && nat_le (frame_size valofs r) 32768 && body_fits A r.body (level_after_parameters r.parameters)
place_fits A valofs (Text bytes) = nat_le (length bytes) 255
place_fits A valofs _ = true

-- whether all places fit
abbrev pub places_fit : Around → List Valof → List commands.Place → Bool
places_fit A valofs [] = true
places_fit A valofs (p ∷ ps) = place_fits A valofs p && places_fit A valofs ps

-- whether all VALOFs fit; those inside a body have greater numbers than its own
abbrev pub valofs_fit : Around → List Valof → Bool
valofs_fit A [] = true
valofs_fit A (v ∷ vs) =
    let inner = record A { first = A.first + 1 } in
    block_fits inner jumps_in_valof v.body v.level && valofs_fit inner vs

-- whether a resolved section is well formed
abbrev pub is_core : Core → Bool
is_core core =
    let A : Around = record { places = length core.places; first = 0; levels = map (λ (v : Valof). v.level) core.valofs } in
    places_fit A core.valofs core.places && valofs_fit A core.valofs
