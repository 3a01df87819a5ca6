-- Where a run is: the calls that are open, and its position in the text of each.
use Rattle.std.specs.Prelude.{ℕ, ◌≡◌, ◌+◌, List, [], ◌∷◌, sum_by, Option, Some, None}
use Rattle.bc_core.specs.Commands.{Variable, Initial, Vector, Command, Block, block, Items, no_item, command, case, default, label}
use Rattle.bc_core.specs.Commands as commands
use Rattle.bc_interpret_defs.specs.Machine.{Work, Perform, Listing, Give, Rest, Closes, Results, Ifs, Chooses, Skips, Whiles, RepeatWhileBody, Limits, Fors, Switches, Declares, Initialises, Follows, OpenCall, next_command}
use Rattle.bc_interpret_defs.specs.Called.{IsCall}

-- How many roots a part of the text has: expressions, tests and assignments, each with what it contains. Those in the bodies of VALOFs
-- don't count.
abbrev pub roots_of_variable : Variable → ℕ
roots_of_variable (Initial e) = 1
roots_of_variable (Vector n) = 0

abbrev pub roots_of_declarations : List (List Variable) → ℕ
roots_of_declarations ds = sum_by (sum_by roots_of_variable) ds

abbrev mutual
  pub roots_of_command : Command → ℕ
  roots_of_command (commands.Call e) = 1
  roots_of_command (commands.Assign v a) = 1
  roots_of_command (commands.ResultIs e) = 1
  roots_of_command (commands.If sense e b) = 1 + roots_of_block b
  roots_of_command (commands.Test e b c) = 1 + (roots_of_block b + roots_of_block c)
  roots_of_command (commands.While sense e b) = 1 + roots_of_block b
  roots_of_command (commands.Repeat b) = roots_of_block b
  roots_of_command (commands.RepeatWhile b sense e) = roots_of_block b + 1
  roots_of_command (commands.For start limit by b) = 2 + roots_of_block b
  roots_of_command (commands.SwitchOn e is) = 1 + roots_of_items is
  roots_of_command (commands.Nested b) = roots_of_block b
  roots_of_command _ = 0

  pub roots_of_block : Block → ℕ
  roots_of_block (block ds is) = roots_of_declarations ds + roots_of_items is

  pub roots_of_items : Items → ℕ
  roots_of_items no_item = 0
  roots_of_items (command c is) = roots_of_command c + roots_of_items is
  roots_of_items (case k is) = roots_of_items is
  roots_of_items (default is) = roots_of_items is
  roots_of_items (label l is) = roots_of_items is

-- a position in the body of a routine, or of a VALOF within it
pub record Position : Type 0 where
  -- the number of that VALOF
  pub valof : Option ℕ
  -- how many roots of the body follow the position in the text
  pub following : ℕ

-- the position with so many further roots after it
abbrev pub before : ℕ → Position → Position
before n p = record { valof = p.valof; following = n + p.following }

-- The position of the part whose answer these continuations take. A continuation adds the roots that it will begin, or that it skips, if they
-- come after that part in the text. The outermost one of a body gives the VALOF, if the body is that of one.
abbrev pub position_in : List Rest → Position
position_in [] = record { valof = None; following = 0 }
position_in (Closes (Some call) n a ∷ rs) = record { valof = None; following = 0 }
position_in (Results n ∷ rs) = record { valof = Some n; following = 0 }
position_in (Ifs E sense b s ∷ rs) = before (roots_of_block b) (position_in rs)
position_in (Chooses E b c s ∷ rs) = before (roots_of_block b + roots_of_block c) (position_in rs)
position_in (Skips that ∷ rs) = before (roots_of_block that) (position_in rs)
position_in (Whiles E sense e b s ∷ rs) = before (roots_of_block b) (position_in rs)
position_in (RepeatWhileBody E b sense e s ∷ rs) = before 1 (position_in rs)
position_in (Limits E limit by b s ∷ rs) = before (1 + roots_of_block b) (position_in rs)
position_in (Fors E by b s ∷ rs) = before (roots_of_block b) (position_in rs)
position_in (Switches E is s ∷ rs) = before (roots_of_items is) (position_in rs)
position_in (Declares E ds is s level ∷ rs) = before (roots_of_declarations ds + roots_of_items is) (position_in rs)
position_in (Initialises E vs k s ∷ rs) = before (sum_by roots_of_variable vs) (position_in rs)
position_in (Follows E is s ∷ rs) = before (roots_of_items is) (position_in rs)
position_in (r ∷ rs) = position_in rs

-- the roots after the command with which a list goes on
abbrev pub roots_after : Option (Command × Items) → ℕ
roots_after None = 0
roots_after (Some (c, is)) = roots_of_items is

-- The position of a step. Where the work is a command, its first root is begun; where it is a list, its next command. A continuation that
-- takes an answer has nothing after it that counts.
abbrev pub position_of : Work → List Rest → Position
position_of (Perform E (commands.If sense e b) s) rs = before (roots_of_block b) (position_in rs)
position_of (Perform E (commands.Test e b c) s) rs = before (roots_of_block b + roots_of_block c) (position_in rs)
position_of (Perform E (commands.While sense e b) s) rs = before (roots_of_block b) (position_in rs)
position_of (Perform E (commands.SwitchOn e is) s) rs = before (roots_of_items is) (position_in rs)
position_of (Listing E is s at) rs = before (roots_after (next_command is at)) (position_in rs)
position_of (Give a) (r ∷ rs) = position_in rs
position_of w rs = position_in rs

-- where a run is in one of its calls
pub record Standing : Type 0 where
  pub call : OpenCall
  pub position : Position

-- the calls that are over once these continuations are done, innermost first, each with its position; that of the innermost is p
abbrev pub trail_from : Position → List Rest → List Standing
trail_from p [] = []
trail_from p (Closes (Some call) n a ∷ rs) = record { call = call; position = p } ∷ trail_from (position_in rs) rs
trail_from p (r ∷ rs) = trail_from p rs

abbrev pub trail_in : List Rest → List Standing
trail_in rs = trail_from (position_in rs) rs

-- the trail of a step that makes no call
abbrev pub trail_of : Work → List Rest → List Standing
trail_of w rs = trail_from (position_of w rs) rs

-- a call that has not begun its body
abbrev pub begun : (value f : ℕ) → Standing
begun value f = record { call = record { routine = value; frame = f }; position = record { valof = None; following = 0 } }

-- The trail of a step: the calls that are open during it, and its position in each. First comes the call that the step itself makes, if it
-- makes one.
pub data IsTrail (w : Work) (rs : List Rest) (trail : List Standing) : Type 0 where
  Within :
      ((value : ℕ) (arguments : List ℕ) (f : ℕ) → ¬ IsCall w rs value arguments f) → trail ≡ trail_of w rs → IsTrail w rs trail
  Calling :
      (value : ℕ) (arguments : List ℕ) (f : ℕ) → IsCall w rs value arguments f → trail ≡ begun value f ∷ trail_in rs
      → IsTrail w rs trail
