-- What a command means, in the frame at p where s is the next free offset: a run that gives where control goes.
use Rattle.std.specs.Prelude.{ℕ, ◌+◌, List, [], ◌∷◌}
use Rattle.bc_word.specs.declared.operator.Op.TheVariants.{Add}
use Rattle.bc_core.specs.Tree.{Exp, Num, Frame, Load, Bin}
use Rattle.bc_core.specs.Commands.{Variable, Initial, Vector, Command, Block, block, Items, no_item, command, case, default, label}
use Rattle.bc_core.specs.Commands as commands
use Rattle.bc_core.specs.Level.{cells_of, cells_of_all, cells_declared, level_in_for}
use Rattle.bc_core.specs.Outcome.{Done, Run, Finished, ends, then_do, choose, in_turn, with_cells}
use Rattle.bc_core.specs.Value.{Context, value, truth, assign}
use Rattle.bc_core.specs.Exit.{Exit, Past, Broke, Looped, LeftCases, Returned, Resulted, Jumped, past, onward}
use Rattle.bc_core.specs.Lists.{Entry, Beginning, meets_case, meets_default, meets_label, met, from_entry, has_case, has_label, listed, switched}
use Rattle.bc_core.specs.Loop.{agrees, while_loop, repeat_loop, repeat_while_loop, for_loop}

-- The initialiser of a variable at the offset k, at the level s: its value, or the address of the vector right after
-- it, is stored in the variable.
abbrev pub initialise_one : Context → Variable → (p k s : ℕ) → Run (Unit {0})
initialise_one C (Initial e) p k s = assign C e (Frame k) p s
initialise_one C (Vector n) p k s = assign C (Frame (k + 1)) (Frame k) p s

-- the initialisers of variables from the offset k on, in text order
abbrev pub initialise : Context → List Variable → (p k s : ℕ) → Run (Unit {0})
initialise C [] p k s = Done tt
initialise C (v ∷ vs) p k s = then_do (initialise_one C v p k s) (λ u. initialise C vs p (k + cells_of v) s)

-- Declarations around `r`, which is what the block's list does. The cells of a declaration are live from there to the
-- end of the block, and its initialisers are done before the next declaration.
abbrev pub declare : Context → List (List Variable) → (p s : ℕ) → Run Exit → Run Exit
declare C [] p s r = r
declare C (vs ∷ ds) p s r =
    let n = cells_of_all vs in
    with_cells n (p + s) (then_do (initialise C vs p s (s + n)) (λ u. declare C ds p (s + n) r))

-- what a FOR at the offset s assigns to its variable after each round
abbrev pub step_of_for : ℕ → ℕ → Exp
step_of_for by s = Bin Add (Load (Frame s)) (Num by)

abbrev mutual
  -- The meaning of a command. `value`, `truth` and `assign` come from Value, the loops from Loop, the lists from
  -- Lists.
  pub perform : Context → Command → (p s : ℕ) → Run Exit
  perform C (commands.Call e) p s = then_do (value C e p s) (λ v. Done Past)
  perform C (commands.Assign v a) p s = then_do (assign C v a p s) past
  perform C (commands.If sense e b) p s = then_do (truth C e p s) (λ t. choose (agrees sense t) (perform_block C b p s) (Done Past))
  perform C (commands.Test e b c) p s = then_do (truth C e p s) (λ t. choose t (perform_block C b p s) (perform_block C c p s))
  perform C (commands.While sense e b) p s = while_loop sense (truth C e p s) (perform_block C b p s)
  perform C (commands.Repeat b) p s = repeat_loop (perform_block C b p s)
  perform C (commands.RepeatWhile b sense e) p s = repeat_while_loop (perform_block C b p s) sense (truth C e p s)
  -- FOR: only the variable is a cell; the limit is held beside the store
  perform C (commands.For start limit by b) p s =
      let s1 = level_in_for s in
      with_cells 1 (p + s) (for_loop by (assign C start (Frame s) p s1) (value C limit p s1) (value C (Load (Frame s)) p s1)
      (assign C (step_of_for by s) (Frame s) p s1) (perform_block C b p s1))
  perform C (commands.SwitchOn e is) p s = switched (value C e p s) (has_case is) (has_label is) (perform_items C is p s)
  perform C commands.Break p s = Done Broke
  perform C commands.Loop p s = Done Looped
  perform C commands.EndCase p s = Done LeftCases
  perform C commands.Return p s = Done Returned
  perform C (commands.ResultIs e) p s = then_do (value C e p s) (λ v. Done (Resulted v))
  perform C commands.Finish p s = ends Finished
  -- GOTO takes a turn
  perform C (commands.Goto l) p s = in_turn (Done (Jumped l))
  perform C (commands.Nested b) p s = perform_block C b p s

  -- a block: its declarations around its list, which is entered at the beginning
  pub perform_block : Context → Block → (p s : ℕ) → Run Exit
  perform_block C (block ds is) p s = declare C ds p s (listed (has_label is) (perform_items C is p (s + cells_declared ds)) Beginning)

  -- The items of a list, done from the entry `at` on. Those before it are passed over.
  pub perform_items : Context → Items → (p s : ℕ) → Entry → Run Exit
  perform_items C no_item p s at = Done Past
  perform_items C (command c is) p s at = then_do (from_entry at (perform C c p s)) (onward (perform_items C is p s at))
  perform_items C (case k is) p s at = perform_items C is p s (met (meets_case k at) at)
  perform_items C (default is) p s at = perform_items C is p s (met (meets_default at) at)
  perform_items C (label l is) p s at = perform_items C is p s (met (meets_label l at) at)
