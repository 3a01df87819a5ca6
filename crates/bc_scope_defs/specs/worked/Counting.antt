-- Worked examples of FOR: its start, limit and K are resolved outside, and its variable is in scope only in the body.
-- Five definitions rely on this separately: faults, what is found, frames, the translation, and the meaning.
use Rattle.std.specs.Prelude.{ℕ, ◌≡◌, List, [], ◌∷◌, Some, None, refl}
use Rattle.bc_word.specs.declared.operator.Op.TheVariants as operators
use Rattle.bc_parse_tree.specs.Tree.{Exp, Block, Declarations, Command}
use Rattle.bc_parse_tree.specs.Tree as tree
use Rattle.bc_core.specs.Tree as core
use Rattle.bc_core.specs.Commands as c
use Rattle.bc_core.specs.Meaning.{Wild}
use Rattle.bc_scope_defs.specs.Faults.{AnUndeclared, ADynamicFree, ANotConstant, section_fault}
use Rattle.bc_scope_defs.specs.Translation.{core_of}
use Rattle.bc_scope_defs.specs.Examples.{f, v, x, y, of, number, list, call, set, plain, body, commands, lets, variables, variable, alone}
use Rattle.bc_scope_defs.specs.worked.Written.{fault_in, fault_of, load, address_of, plus, index, digit, section, manifest, runs, run, printed, frames, at, these, routine}

-- ---- Worked examples

-- LET X = 5; FOR X = X TO X + 2 DO ..: start and limit use the X outside, the body uses the FOR's own
abbrev outside_and_in : Command → Block
outside_and_in c = body (variable x (number 5) ∷ []) (plain (tree.For x (of x) (plus (of x) (number 2)) (commands (c ∷ []))) ∷ [])

no_fault : fault_in (outside_and_in (set x (number 9))) ≡ None
no_fault = refl

-- the X outside is at 2, the FOR's own at 3
for_translated : core_of (alone (outside_and_in (set x (number 9)))) ≡ record {
  places =
      routine None (c.block ((c.Initial (core.Num 5) ∷ []) ∷ [])
      (these (c.For (at 2) (core.Bin operators.Add (at 2) (core.Num 2)) 1 (c.block [] (these (c.Assign (core.Num 9) (core.Frame 3) ∷ []))) ∷ []))) ∷ [];
  valofs = [];
}
for_translated = refl

-- WRCH('0' + X) in the body: 5, 6 and 7
for_runs : run (outside_and_in (digit (of x))) ≡ printed (53 ∷ 54 ∷ 55 ∷ [])
for_runs = refl

-- after the FOR, X is the one outside again: LET X = 5; FOR X = 1 TO 2 DO $( $); WRCH('0' + X)
after_for : run (body (variable x (number 5) ∷ []) (plain (tree.For x (number 1) (number 2) (commands [])) ∷ plain (digit (of x)) ∷ [])) ≡ printed (53 ∷ [])
after_for = refl

-- FOR X = X TO 2, FOR X = 1 TO X, and FOR X = 1 TO 2 BY X, without an X outside
undeclared_start : fault_of (tree.For x (of x) (number 2) (commands [])) ≡ Some (AnUndeclared x)
undeclared_start = refl

undeclared_limit : fault_of (tree.For x (number 1) (of x) (commands [])) ≡ Some (AnUndeclared x)
undeclared_limit = refl

undeclared_step : fault_of (tree.ForBy x (number 1) (number 2) (of x) (commands [])) ≡ Some (AnUndeclared x)
undeclared_step = refl

-- the same with BY: FOR X = X TO 2 BY 1, FOR X = 1 TO X BY 1, and X in scope in the body
undeclared_start_by : fault_of (tree.ForBy x (of x) (number 2) (number 1) (commands [])) ≡ Some (AnUndeclared x)
undeclared_start_by = refl

undeclared_limit_by : fault_of (tree.ForBy x (number 1) (of x) (number 1) (commands [])) ≡ Some (AnUndeclared x)
undeclared_limit_by = refl

known_in_body_by : fault_of (tree.ForBy x (number 1) (number 2) (number 1) (commands (set x (number 3) ∷ []))) ≡ None
known_in_body_by = refl

-- K: MANIFEST $( X = 2 $) and FOR X = 1 TO 5 BY X DO WRCH('0' + X)
abbrev by_manifest : Command → Declarations
by_manifest c = section (manifest x 2 ∷ []) (commands (tree.ForBy x (number 1) (number 5) (of x) (commands (c ∷ [])) ∷ []))

by_manifest_fault : section_fault (by_manifest (digit (of x))) ≡ None
by_manifest_fault = refl

by_manifest_translated : core_of (by_manifest (set x (number 9))) ≡ record {
  places = routine (Some 1) (c.block [] (these (c.For (core.Num 1) (core.Num 5) 2 (c.block [] (these (c.Assign (core.Num 9) (core.Frame 2) ∷ [])))
      ∷ []))) ∷ [];
  valofs = [];
}
by_manifest_translated = refl

by_manifest_runs : runs (by_manifest (digit (of x))) ≡ printed (49 ∷ 51 ∷ 53 ∷ [])
by_manifest_runs = refl

-- if the X outside is a variable, BY X isn't a constant: LET X = 2; FOR X = 1 TO 5 BY X
by_variable : fault_in (body (variable x (number 2) ∷ []) (plain (tree.ForBy x (number 1) (number 5) (of x) (commands [])) ∷ [])) ≡ Some ANotConstant
by_variable = refl

-- the FOR's own X hides the manifest: in the body X := 9 is allowed, and TABLE X has no constant
hidden_in_body : section_fault (by_manifest (set x (tree.Table (list (of x ∷ []))))) ≡ Some ANotConstant
hidden_in_body = refl

-- LET X, Y = 1, 2; FOR X = VALOF RESULTIS X TO VALOF RESULTIS X DO Y := VALOF RESULTIS X: what is found in start and
-- limit has X at 2, what is found in the body has it at 4
abbrev its_own : Exp
its_own = tree.Valof (commands (tree.ResultIs (of x) ∷ []))

abbrev of_valofs : Block
of_valofs = body (lets (variables (x ∷ y ∷ []) (number 1 ∷ number 2 ∷ []) ∷ []) ∷ []) (plain (tree.For x its_own its_own (commands (set y its_own ∷ [])))
    ∷ [])

abbrev results_in : ℕ → c.Valof
results_in k = record { level = 6; body = c.block [] (these (c.ResultIs (at k) ∷ [])) }

valofs_found : (core_of (alone of_valofs)).valofs ≡ results_in 2 ∷ results_in 2 ∷ results_in 4 ∷ []
valofs_found = refl

valofs_run : run (body (variable x (number 5) ∷ []) (plain (tree.For x its_own its_own (commands (digit its_own ∷ []))) ∷ [])) ≡ printed (53 ∷ [])
valofs_run = refl

-- MANIFEST $( X = 7 $) and FOR X = (TABLE X)!0 TO (TABLE X, X)!1 DO $( $): the tables use the manifest
words_found : (core_of (section (manifest x 7 ∷ [])
    (commands (tree.For x (index (tree.Table (list (of x ∷ []))) (number 0)) (index (tree.Table (list (of x ∷ of x ∷ []))) (number 1)) (commands [])
    ∷ [])))).places
    ≡ routine (Some 1) (c.block [] (these (c.For
    (core.Load (core.Bin operators.Add (core.Place 2) (core.Num 0))) (core.Load (core.Bin operators.Add (core.Place 3) (core.Num 1))) 1
    (c.block [] c.no_item) ∷ [])))
    ∷ c.Table (7 ∷ []) ∷ c.Table (7 ∷ 7 ∷ []) ∷ []
words_found = refl

-- a routine in the start sees the manifest; one in the body sees the FOR's variable, which it may not use: LET F() =
-- X
abbrev with_routine : Exp
with_routine = tree.Valof (body (lets (tree.Function f [] (of x) ∷ []) ∷ []) (plain (tree.ResultIs (call f [])) ∷ []))

routine_in_start : section_fault (section (manifest x 7 ∷ []) (commands (tree.For x with_routine with_routine (commands []) ∷ []))) ≡ None
routine_in_start = refl

routine_in_body : section_fault (section (manifest x 7 ∷ []) (commands (tree.For x (number 1) (number 2) (commands (set x with_routine ∷ [])) ∷ [])))
    ≡ Some (ADynamicFree x)
routine_in_body = refl

-- frames: VALOF $( LET V = VEC X; RESULTIS 1 $) with MANIFEST $( X = 10 $) is at 4 and uses 12 cells in the start,
-- and in the limit
abbrev with_vector : Exp
with_vector = tree.Valof (body (lets (tree.Vector v (of x) ∷ []) ∷ []) (plain (tree.ResultIs (number 1)) ∷ []))

abbrev frame_with : (start limit : Exp) → Block → List ℕ
frame_with first last b = frames (section (manifest x 10 ∷ []) (commands (tree.For x first last b ∷ [])))

frame_of_start : frame_with with_vector (number 2) (commands []) ≡ 16 ∷ []
frame_of_start = refl

frame_of_limit : frame_with (number 1) with_vector (commands []) ≡ 16 ∷ []
frame_of_limit = refl

-- in the body X isn't a constant, which is a fault and counts as 0: the FOR's own test and step use 6 cells
frame_of_body : frame_with (number 1) (number 2) (commands (set x with_vector ∷ [])) ≡ 6 ∷ []
frame_of_body = refl

frame_without : frame_with (number 1) (number 2) (commands []) ≡ 6 ∷ []
frame_without = refl

-- the same four with BY
abbrev frame_by : (start limit : Exp) → Block → List ℕ
frame_by first last b = frames (section (manifest x 10 ∷ []) (commands (tree.ForBy x first last (of x) b ∷ [])))

frame_of_start_by : frame_by with_vector (number 2) (commands []) ≡ 16 ∷ []
frame_of_start_by = refl

frame_of_limit_by : frame_by (number 1) with_vector (commands []) ≡ 16 ∷ []
frame_of_limit_by = refl

frame_of_body_by : frame_by (number 1) (number 2) (commands (set x with_vector ∷ [])) ≡ 6 ∷ []
frame_of_body_by = refl

-- LET X, Y = 1, 2; FOR X = VALOF RESULTIS X TO VALOF RESULTIS X BY 1 DO Y := VALOF RESULTIS X
valofs_found_by : (core_of (alone (body (lets (variables (x ∷ y ∷ []) (number 1 ∷ number 2 ∷ []) ∷ []) ∷ [])
    (plain (tree.ForBy x its_own its_own (number 1) (commands (set y its_own ∷ []))) ∷ [])))).valofs ≡ results_in 2 ∷ results_in 2 ∷ results_in 4 ∷ []
valofs_found_by = refl

-- LET X = 5; FOR X = X TO X + 2 BY 1 DO WRCH('0' + X)
by_runs : run (body (variable x (number 5) ∷ []) (plain (tree.ForBy x (of x) (plus (of x) (number 2)) (number 1) (commands (digit (of x) ∷ []))) ∷ []))
    ≡ printed (53 ∷ 54 ∷ 55 ∷ [])
by_runs = refl

-- the limit is computed once: LET Y = 2; FOR X = 1 TO Y DO $( Y := 9; WRCH('0' + X) $)
limit_once : run (body (variable y (number 2) ∷ []) (plain (tree.For x (number 1) (of y) (commands (set y (number 9) ∷ digit (of x) ∷ []))) ∷ []))
    ≡ printed (49 ∷ 50 ∷ [])
limit_once = refl

-- The variable is set before the limit is computed, and is unset until its start is: LET Y = 0; FOR X = 5 TO (@Y)!1
-- and FOR X = (@Y)!1 TO 5, where the cell after that of Y is that of X.
set_before_limit : run (body (variable y (number 0) ∷ []) (plain (tree.For x (number 5) (index (address_of (of y)) (number 1)) (commands (digit (of x)
    ∷ []))) ∷ []))
    ≡ printed (53 ∷ [])
set_before_limit = refl

unset_in_start : run (body (variable y (number 0) ∷ []) (plain (tree.For x (index (address_of (of y)) (number 1)) (number 5) (commands [])) ∷ [])) ≡ Wild
unset_in_start = refl

-- the variable's cell is given back after the FOR: LET Y = 0; FOR X = 1 TO 1 DO Y := @X; WRCH(!Y)
given_back : run (body (variable y (number 0) ∷ []) (plain (tree.For x (number 1) (number 1) (commands (set y (address_of (of x)) ∷ []))) ∷ plain (digit
    (load (of y))) ∷ []))
    ≡ Wild
given_back = refl

-- during the FOR it is live: FOR X = 1 TO 1 DO $( Y := @X; WRCH('0' + !Y) $)
live_in_body : run (body (variable y (number 0) ∷ [])
    (plain (tree.For x (number 1) (number 1) (commands (set y (address_of (of x)) ∷ digit (load (of y)) ∷ []))) ∷ [])) ≡ printed (49 ∷ [])
live_in_body = refl
