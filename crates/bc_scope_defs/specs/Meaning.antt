-- What the trees of a section mean, with names in place of offsets. `E` has the names in scope, `at` the next
-- numbers, `p` the address of the frame, and `s` the level.
use Rattle.std.specs.Prelude.{ℕ, ◌+◌, ◌%◌, ◌==◌, ◌||◌, Bool, true, false, List, [], ◌∷◌, Option, Some, None}
use Rattle.bc_word.specs.declared.operator.Op.{Op}
use Rattle.bc_word.specs.declared.operator.Op.TheVariants as operators
use Rattle.bc_word.specs.Words.{negated}
use Rattle.bc_parse_tree.specs.declared.tree.UnaryOp.{UnaryOp}
use Rattle.bc_parse_tree.specs.declared.tree.UnaryOp.TheVariants as unary
use Rattle.bc_parse_tree.specs.Tree.{Exp, Exps, none, more, Block, block, Declaration, Declarations, no_declarations, declaration, Definition, Definitions, no_definitions, definition, Item, Labelled, Labels_alone, Items, no_items, item, Label, Labels, no_labels, label, Command}
use Rattle.bc_parse_tree.specs.Tree as tree
use Rattle.bc_core.specs.Level.{operand_level, argument_level, routine_level, level_in_for}
use Rattle.bc_core.specs.Outcome.{Done, Run, Finished, ends, then_do, choose, in_turn, with_cells, read, write, both}
use Rattle.bc_core.specs.Value.{Sense, by_value, operator_sense, not_sense}
use Rattle.bc_core.specs.Exit.{Exit, Past, Broke, Looped, LeftCases, Returned, Resulted, Jumped, onward}
use Rattle.bc_core.specs.Lists.{Entry, Beginning, meets_case, meets_default, meets_label, met, from_entry, listed, switched}
use Rattle.bc_core.specs.Loop.{agrees, while_loop, repeat_loop, repeat_while_loop, for_loop}
use Rattle.bc_core.specs.Meaning.{Call, valof_value}
use Rattle.bc_scope_defs.specs.Scope.{Meant, Constant, Static, Global, Routine, Variable, Env, meant_by, Numbers, after_valof, after_labels}
use Rattle.bc_scope_defs.specs.Scope as scope
use Rattle.bc_scope_defs.specs.Numbering.{following, after_all, after_declarations, after_declaration, after_definition, after_command, after_block, labels_named, labels_of, labels_in}
use Rattle.bc_scope_defs.specs.Scoping.{operator, constant, count, cells_of, cells_of_all, before_let, in_let, in_declaration, in_declarations, cells_in, level_after, in_for, in_list, in_valof}
use Rattle.bc_scope_defs.specs.Sides.{side_levels}

-- what the meaning of a section depends on: the address of each of its places, and what a call does
pub record Around : Type 0 where
  pub place : ℕ → ℕ
  pub call : Call

-- What an expression denotes: an address and a content, each as a value and as a truth. Without a cell both are the
-- same.
pub record Worth : Type 0 where
  pub address : Sense
  pub content : Sense

-- the cell at this address
abbrev pub cell : Sense → Worth
cell a = record { address = a; content = by_value (then_do a.value read) }

-- an expression without a cell
abbrev pub plain : Sense → Worth
plain v = record { address = v; content = v }

-- the value w
abbrev pub known : ℕ → Sense
known w = by_value (Done w)

-- what a name denotes; a name that is a fault counts as the number 0, but a section without fault has none
abbrev pub worth_of_name : Around → Meant → (p : ℕ) → Worth
worth_of_name A (Constant w) p = plain (known w)
worth_of_name A (Static m) p = cell (known (A.place m))
worth_of_name A (Global n) p = cell (known ((8 + n) % 65536))
worth_of_name A (Routine m) p = plain (known (A.place m))
worth_of_name A (Variable k) p = cell (known ((p + k) % 65536))
worth_of_name A _ p = plain (known 0)

-- whether an expression contains a call or a VALOF
abbrev pub holds_call : Exp → Bool
holds_call (tree.Valof b) = true
holds_call (tree.Call f es) = true
holds_call (tree.Unary m e) = holds_call e
holds_call (tree.Bin o l r) = holds_call l || holds_call r
holds_call (tree.Cond c x y) = holds_call c || holds_call x || holds_call y
holds_call _ = false

-- what a unary operator denotes with this operand
abbrev pub worth_of_unary : UnaryOp → Worth → Worth
worth_of_unary unary.Load e = cell e.content
worth_of_unary unary.Address e = plain e.address
worth_of_unary unary.Not e = plain (not_sense e.content)
worth_of_unary unary.Neg e = plain (by_value (then_do e.content.value (λ v. Done (negated v))))

-- what a binary operator denotes with these operands; `l ! r` is the cell at the sum of both
abbrev pub worth_of_binary : Option Op → (calls : Bool) → Sense → Sense → Worth
worth_of_binary None calls l r = cell (operator_sense operators.Add calls l r)
worth_of_binary (Some op) calls l r = plain (operator_sense op calls l r)

-- one expression on a side of an assignment: whether it contains a call or a VALOF, and what it denotes
pub record Side : Type 0 where
  pub calls : Bool
  pub worth : Worth

-- one assignment: the value is computed before the address
abbrev pub set_side : (address value : Side) → Run (Unit {0})
set_side x e = both (e.calls || x.calls) e.worth.content.value x.worth.address.value (λ w a. write a w)

-- assignments, pair by pair; the grammar gives both sides the same number of expressions
abbrev pub set_sides : (addresses values : List Side) → Run Exit
set_sides (x ∷ xs) (e ∷ es) = then_do (set_side x e) (λ u. set_sides xs es)
set_sides _ _ = Done Past

-- the initialiser v of the variable at the offset k
abbrev pub set_variable : (k p : ℕ) → Sense → Run (Unit {0})
set_variable k p v = then_do v.value (λ w. write ((p + k) % 65536) w)

-- where a list is entered after a label, which has the number k if it is named
abbrev pub met_label : Env → (k : ℕ) → Label → Entry → Entry
met_label E k (tree.Case c) at = met (meets_case (constant E c) at) at
met_label E k tree.Default at = met (meets_default at) at
met_label E k (tree.Named n) at = met (meets_label k at) at

-- the same after the labels of an item
abbrev pub met_labels : Env → (k : ℕ) → Labels → Entry → Entry
met_labels E k no_labels at = at
met_labels E k (label l ls) at = met_labels E (k + labels_named l) ls (met_label E k l at)

-- whether a label is the named one with the number l, if it has the number k
abbrev pub is_label : (k : ℕ) → Label → ℕ → Bool
is_label k (tree.Named n) l = k == l
is_label k _ l = false

-- whether the named label l is among labels numbered from k on
abbrev pub among_labels : (k : ℕ) → Labels → ℕ → Bool
among_labels k no_labels l = false
among_labels k (label x xs) l = is_label k x l || among_labels (k + labels_named x) xs l

-- the labels of an item
abbrev pub labels_of_that : Item → Labels
labels_of_that (Labelled ls c) = ls
labels_of_that (Labels_alone ls) = ls

-- whether a list has the label l, where its labels are numbered from k on
abbrev pub has_label_in : (k : ℕ) → Items → ℕ → Bool
has_label_in k no_items l = false
has_label_in k (item i is) l = among_labels k (labels_of_that i) l || has_label_in (k + labels_of (labels_of_that i)) is l

-- whether a label is the CASE of the value v
abbrev pub is_case : Env → Label → ℕ → Bool
is_case E (tree.Case c) v = constant E c == v
is_case E _ v = false

-- whether the CASE of v is among labels
abbrev pub among_cases : Env → Labels → ℕ → Bool
among_cases E no_labels v = false
among_cases E (label x xs) v = is_case E x v || among_cases E xs v

-- whether a list has the CASE of v
abbrev pub has_case_in : Env → Items → ℕ → Bool
has_case_in E no_items v = false
has_case_in E (item i is) v = among_cases E (labels_of_that i) v || has_case_in E is v

-- the number of a label; anything else counts as 0, but no GOTO of a section without fault goes there
abbrev pub label_number : Meant → ℕ
label_number (scope.Label l) = l
label_number _ = 0

-- A FOR whose variable is at this address. Start and limit are computed once, and the limit is held beside the store.
abbrev pub run_for : (by address : ℕ) → (start limit : Run ℕ) → Run Exit → Run Exit
run_for by a start limit body =
    with_cells 1 a (for_loop by (then_do start (λ w. write (a % 65536) w)) limit (read (a % 65536))
    (then_do (read (a % 65536)) (λ i. write (a % 65536) ((i + by) % 65536))) body)

abbrev mutual
  -- what an expression denotes
  pub worth : Around → Env → Numbers → Exp → (p s : ℕ) → Worth
  worth A E at (tree.Name n) p s = worth_of_name A (meant_by E n) p
  worth A E at (tree.Num w) p s = plain (known w)
  worth A E at (tree.Character w) p s = plain (known w)
  worth A E at tree.True p s = plain (known 65535)
  worth A E at tree.False p s = plain (known 0)
  worth A E at (tree.Text bytes) p s = plain (known (A.place at.place))
  worth A E at (tree.Table ks) p s = plain (known (A.place at.place))
  worth A E at (tree.Valof b) p s = plain (by_value (then_do (run_block A (in_valof E) (after_valof at) b p s) valof_value))
  worth A E at (tree.Unary m e) p s = worth_of_unary m (worth A E at e p s)
  worth A E at (tree.Bin o l r) p s =
      let s1 = operand_level s in
      worth_of_binary (operator o) (holds_call l || holds_call r) (worth A E at l p s1).content (worth A E (following at l) r p s1).content
  worth A E at (tree.Cond c x y) p s =
      let after_test = following at c in
      plain (by_value (then_do (worth A E at c p s).content.truth (λ t.
      choose t (worth A E after_test x p s).content.value (worth A E (following after_test x) y p s).content.value)))
  -- the arguments in order, then the routine; the new frame is at p + s
  worth A E at (tree.Call f es) p s =
      plain (by_value (then_do (arguments A E (following at f) es p (argument_level s)) (λ vs.
      then_do (worth A E at f p (routine_level s (count es))).content.value (λ r. A.call r vs (p + s)))))

  -- the values of arguments, in order
  pub arguments : Around → Env → Numbers → Exps → (p s : ℕ) → Run (List ℕ)
  arguments A E at none p s = Done []
  arguments A E at (more e es) p s =
      then_do (worth A E at e p s).content.value (λ v. then_do (arguments A E (following at e) es p (s + 1)) (λ vs. Done (v ∷ vs)))

  -- the expressions on a side of an assignment, each at its own level
  pub sides : Around → Env → Numbers → Exps → (p : ℕ) → List ℕ → List Side
  sides A E at (more e es) p (s ∷ ss) = record { calls = holds_call e; worth = worth A E at e p s } ∷ sides A E (following at e) es p ss
  sides A E at _ p _ = []

  -- the initialisers of variables from the offset k on, at the level s
  pub initial_values : Around → Env → Numbers → Exps → (p k s : ℕ) → Run (Unit {0})
  initial_values A E at none p k s = Done tt
  initial_values A E at (more e es) p k s =
      then_do (set_variable k p (worth A E at e p s).content) (λ u. initial_values A E (following at e) es p (k + 1) s)

  -- The initialisers of a definition. `before` has what names mean in the constants of the LET.
  pub initialise_one : Around → Env → (before : Env) → Numbers → Definition → (p k s : ℕ) → Run (Unit {0})
  initialise_one A E B at (tree.Variables ns es) p k s = initial_values A E at es p k s
  initialise_one A E B at (tree.Vector n c) p k s = set_variable k p (known ((p + (k + 1)) % 65536))
  initialise_one A E B at (tree.Function n ps e) p k s = Done tt
  initialise_one A E B at (tree.Routine n ps b) p k s = Done tt

  -- the initialisers of a LET, in text order
  pub initialise : Around → Env → (before : Env) → Numbers → Definitions → (p k s : ℕ) → Run (Unit {0})
  initialise A E B at no_definitions p k s = Done tt
  initialise A E B at (definition d ds) p k s =
      then_do (initialise_one A E B at d p k s) (λ u. initialise A E B (after_definition at d) ds p (k + cells_of B d) s)

  -- A declaration around what follows it. Its cells are live from there to the end of the block.
  pub declare_one : Around → Env → Numbers → Declaration → (p s : ℕ) → Run Exit → Run Exit
  declare_one A E at (tree.Constants k es) p s r = r
  declare_one A E at (tree.Let ds) p s r =
      let B = before_let ds E in
      let n = cells_of_all B ds in
      with_cells n (p + s) (then_do (initialise A (in_let E at s ds) B at ds p s (s + n)) (λ u. r))

  -- declarations around what follows them
  pub declare : Around → Env → Numbers → Declarations → (p s : ℕ) → Run Exit → Run Exit
  declare A E at no_declarations p s r = r
  declare A E at (declaration d ds) p s r =
      declare_one A E at d p s (declare A (in_declaration E at s d) (after_declaration at d) ds p (s + cells_in E d) r)

  -- a block: its declarations around its list, which is entered at the beginning
  pub run_block : Around → Env → Numbers → Block → (p s : ℕ) → Run Exit
  run_block A E at (block ds is) p s =
      let after_it = after_declarations at ds in
      let k = after_it.label in
      declare A E at ds p s (listed (has_label_in k is)
      (run_items A (in_list k is (in_declarations E at s ds)) k (after_labels after_it (labels_in is)) is p (level_after E at s ds)) Beginning)

  -- the items of a list from an entry on; the next label of the list has the number k
  pub run_items : Around → Env → (k : ℕ) → Numbers → Items → (p s : ℕ) → Entry → Run Exit
  run_items A E k at no_items p s from = Done Past
  run_items A E k at (item (Labelled ls c) is) p s from =
      let from1 = met_labels E k ls from in
      then_do (from_entry from1 (run_command A E at c p s)) (onward (run_items A E (k + labels_of ls) (after_command at c) is p s from1))
  run_items A E k at (item (Labels_alone ls) is) p s from = run_items A E (k + labels_of ls) at is p s (met_labels E k ls from)

  -- a command: a run that gives where control goes
  pub run_command : Around → Env → Numbers → Command → (p s : ℕ) → Run Exit
  run_command A E at (tree.Assign xs es) p s =
      let ss = side_levels E xs s in set_sides (sides A E at xs p ss) (sides A E (after_all at xs) es p ss)
  run_command A E at (tree.Do f es) p s =
      then_do (then_do (arguments A E (following at f) es p (argument_level s)) (λ vs.
      then_do (worth A E at f p (routine_level s (count es))).content.value (λ r. A.call r vs (p + s)))) (λ v. Done Past)
  run_command A E at (tree.Compound b) p s = run_block A E at b p s
  run_command A E at tree.Break p s = Done Broke
  run_command A E at tree.Loop p s = Done Looped
  run_command A E at tree.EndCase p s = Done LeftCases
  run_command A E at tree.Return p s = Done Returned
  run_command A E at tree.Finish p s = ends Finished
  run_command A E at (tree.ResultIs e) p s = then_do (worth A E at e p s).content.value (λ v. Done (Resulted v))
  -- GOTO takes a turn
  run_command A E at (tree.Goto n) p s = in_turn (Done (Jumped (label_number (meant_by E n))))
  run_command A E at (tree.Repeat c) p s = repeat_loop (run_command A E at c p s)
  run_command A E at (tree.RepeatWhile c e) p s =
      repeat_while_loop (run_command A E at c p s) true (worth A E (after_command at c) e p s).content.truth
  run_command A E at (tree.RepeatUntil c e) p s =
      repeat_while_loop (run_command A E at c p s) false (worth A E (after_command at c) e p s).content.truth
  run_command A E at (tree.If e b) p s =
      then_do (worth A E at e p s).content.truth (λ t. choose (agrees true t) (run_block A E (following at e) b p s) (Done Past))
  run_command A E at (tree.Unless e b) p s =
      then_do (worth A E at e p s).content.truth (λ t. choose (agrees false t) (run_block A E (following at e) b p s) (Done Past))
  run_command A E at (tree.While e b) p s = while_loop true (worth A E at e p s).content.truth (run_block A E (following at e) b p s)
  run_command A E at (tree.Until e b) p s = while_loop false (worth A E at e p s).content.truth (run_block A E (following at e) b p s)
  run_command A E at (tree.Test e b c) p s =
      let after_test = following at e in
      then_do (worth A E at e p s).content.truth (λ t. choose t (run_block A E after_test b p s) (run_block A E (after_block after_test b) c p s))
  run_command A E at (tree.For n a z b) p s =
      let s1 = level_in_for s in
      let after_start = following at a in
      run_for 1 (p + s) (worth A E at a p s1).content.value (worth A E after_start z p s1).content.value
      (run_block A (in_for E n s) (following after_start z) b p s1)
  run_command A E at (tree.ForBy n a z k b) p s =
      let s1 = level_in_for s in
      let after_start = following at a in
      run_for (constant E k) (p + s) (worth A E at a p s1).content.value (worth A E after_start z p s1).content.value
      (run_block A (in_for E n s) (following after_start z) b p s1)
  run_command A E at (tree.SwitchOn e is) p s =
      let after_value = following at e in
      let k = after_value.label in
      let E1 = in_list k is E in
      switched (worth A E at e p s).content.value (has_case_in E1 is) (has_label_in k is) (run_items A E1 k (after_labels after_value (labels_in is)) is p s)
