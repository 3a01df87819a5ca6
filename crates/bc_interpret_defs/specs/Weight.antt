-- For proofs: the weight of a state, a number that every step decreases unless it takes a turn.
use Rattle.std.specs.Prelude.{ℕ, ◌+◌, ◌==◌, ◌<◌, ◌≤◌, true, false, List, [], ◌∷◌}
use Rattle.bc_core.specs.Tree.{Exp, Load, Neg, Not, Bin, Cond, Call, Args, no_argument, argument}
use Rattle.bc_core.specs.Tree as tree
use Rattle.bc_core.specs.Commands.{Variable, Initial, Vector, Command, Block, block, Items, no_item, command, case, default, label, Valof}
use Rattle.bc_core.specs.Commands as commands
use Rattle.bc_core.specs.Outcome.{Outcome, Done, Ended, Going, Wild}
use Rattle.bc_core.specs.Exit.{Exit, Jumped}
use Rattle.bc_interpret_defs.specs.Machine.{Spot, Answer, Left, Work, Rest, At}
use Rattle.bc_interpret_defs.specs.Machine as machine

-- the weight of each form; V gives the weights of VALOFs by their numbers
abbrev mutual
  pub weight_of : (ℕ → ℕ) → Exp → ℕ
  weight_of V (Load e) = weight_of V e + 2
  weight_of V (Neg e) = weight_of V e + 2
  weight_of V (Not e) = weight_of V e + 2
  weight_of V (Bin op a b) = weight_of V a + weight_of V b + 4
  weight_of V (Cond c x y) = weight_of V c + weight_of V x + weight_of V y + 4
  weight_of V (Call es f) = weight_of_args V es + weight_of V f + 3
  weight_of V (tree.Valof n) = V n
  weight_of V _ = 1

  pub weight_of_args : (ℕ → ℕ) → Args → ℕ
  weight_of_args V no_argument = 0
  weight_of_args V (argument e es) = weight_of V e + weight_of_args V es + 2

abbrev pub weight_of_variables : (ℕ → ℕ) → List Variable → ℕ
weight_of_variables V [] = 1
weight_of_variables V (Initial e ∷ vs) = weight_of V e + weight_of_variables V vs + 3
weight_of_variables V (Vector n ∷ vs) = weight_of_variables V vs + 1

abbrev pub weight_of_declarations : (ℕ → ℕ) → List (List Variable) → ℕ
weight_of_declarations V [] = 0
weight_of_declarations V (vs ∷ ds) = weight_of_variables V vs + weight_of_declarations V ds + 3

abbrev mutual
  pub weight_of_command : (ℕ → ℕ) → Command → ℕ
  weight_of_command V (commands.Call e) = weight_of V e + 2
  weight_of_command V (commands.Assign v a) = weight_of V v + weight_of V a + 5
  weight_of_command V (commands.If sense e b) = weight_of V e + weight_of_block V b + 4
  weight_of_command V (commands.Test e b c) = weight_of V e + weight_of_block V b + weight_of_block V c + 5
  weight_of_command V (commands.While sense e b) = weight_of V e + weight_of_block V b + 5
  weight_of_command V (commands.Repeat b) = weight_of_block V b + 2
  weight_of_command V (commands.RepeatWhile b sense e) = weight_of_block V b + weight_of V e + 5
  weight_of_command V (commands.For start limit by b) = weight_of V start + weight_of V limit + weight_of_block V b + 7
  weight_of_command V (commands.SwitchOn e is) = weight_of V e + weight_of_items V is + 5
  weight_of_command V (commands.ResultIs e) = weight_of V e + 2
  weight_of_command V (commands.Nested b) = weight_of_block V b + 1
  weight_of_command V _ = 1

  pub weight_of_block : (ℕ → ℕ) → Block → ℕ
  weight_of_block V (block ds is) = weight_of_declarations V ds + weight_of_items V is + 3

  pub weight_of_items : (ℕ → ℕ) → Items → ℕ
  weight_of_items V no_item = 1
  weight_of_items V (command c is) = weight_of_command V c + weight_of_items V is + 2
  weight_of_items V (case k is) = weight_of_items V is + 1
  weight_of_items V (default is) = weight_of_items V is + 1
  weight_of_items V (label l is) = weight_of_items V is + 1

abbrev pub weight_of_valof : ℕ → List Valof → ℕ → ℕ
weight_of_valof first [] n = 0
weight_of_valof first (v ∷ vs) n =
    elim (n == first) [
      | true ↦ weight_of_block (weight_of_valof (first + 1) vs) v.body + 2
      | false ↦ weight_of_valof (first + 1) vs n
    ]

abbrev pub valofs_at : Spot → ℕ → ℕ
valofs_at E = weight_of_valof E.first E.valofs

abbrev pub weight_of_work : Work → ℕ
weight_of_work (machine.Evaluate E e s) = weight_of (valofs_at E) e
weight_of_work (machine.Decide E e s) = weight_of (valofs_at E) e + 2
weight_of_work (machine.Argue E vs es level f n s) = weight_of_args (valofs_at E) es + weight_of (valofs_at E) f + 2
weight_of_work (machine.Store E v a s) = weight_of (valofs_at E) v + weight_of (valofs_at E) a + 3
weight_of_work (machine.Perform E c s) = weight_of_command (valofs_at E) c
weight_of_work (machine.Enter E b s) = weight_of_block (valofs_at E) b
weight_of_work (machine.Declare E ds is s level) = weight_of_declarations (valofs_at E) ds + weight_of_items (valofs_at E) is + 2
weight_of_work (machine.Initialise E vs k s) = weight_of_variables (valofs_at E) vs
weight_of_work (machine.Listing E is s at) = weight_of_items (valofs_at E) is
weight_of_work (machine.Round E limit by b s) = weight_of_block (valofs_at E) b + 2
weight_of_work (machine.Give a) = 0

abbrev pub weight_of_rest : Rest → ℕ
weight_of_rest (machine.Operates E op b s) = weight_of (valofs_at E) b + 2
weight_of_rest (machine.Conjoins E b s) = weight_of (valofs_at E) b + 3
weight_of_rest (machine.Disjoins E b s) = weight_of (valofs_at E) b + 3
weight_of_rest (machine.Selects E x y s) = weight_of (valofs_at E) x + weight_of (valofs_at E) y + 1
weight_of_rest (machine.Argues E vs es level f n s) = weight_of_args (valofs_at E) es + weight_of (valofs_at E) f + 3
weight_of_rest (machine.Stores E a s) = weight_of (valofs_at E) a + 2
weight_of_rest (machine.Ifs E sense b s) = weight_of_block (valofs_at E) b + 1
weight_of_rest (machine.Chooses E b c s) = weight_of_block (valofs_at E) b + weight_of_block (valofs_at E) c + 2
weight_of_rest (machine.Whiles E sense e b s) = weight_of_block (valofs_at E) b + 2
weight_of_rest (machine.RepeatWhileBody E b sense e s) = weight_of (valofs_at E) e + 4
weight_of_rest (machine.Limits E limit by b s) = weight_of (valofs_at E) limit + weight_of_block (valofs_at E) b + 4
weight_of_rest (machine.Fors E by b s) = weight_of_block (valofs_at E) b + 3
weight_of_rest (machine.Switches E is s) = weight_of_items (valofs_at E) is + 3
weight_of_rest (machine.Declares E ds is s level) = weight_of_declarations (valofs_at E) ds + weight_of_items (valofs_at E) is + 3
weight_of_rest (machine.Initialises E vs k s) = weight_of_variables (valofs_at E) vs + 1
weight_of_rest (machine.Follows E is s) = weight_of_items (valofs_at E) is + 1
weight_of_rest _ = 1

abbrev pub weight_of_rests : List Rest → ℕ
weight_of_rests [] = 0
weight_of_rests (r ∷ rs) = weight_of_rest r + weight_of_rests rs

-- the weight of the lists that a jump may still enter, since its GOTO has already taken its turn
abbrev pub listed_in : Rest → ℕ
listed_in (machine.Listed E is s) = weight_of_items (valofs_at E) is + 1
listed_in _ = 0

abbrev pub lists_in : List Rest → ℕ
lists_in [] = 0
lists_in (r ∷ rs) = listed_in r + lists_in rs

abbrev pub of_exit : Exit → List Rest → ℕ
of_exit (Jumped l) rs = lists_in rs
of_exit _ rs = 0

abbrev pub of_answer : Answer → List Rest → ℕ
of_answer (Left x) rs = of_exit x rs
of_answer _ rs = 0

abbrev pub of_jump : Work → List Rest → ℕ
of_jump (machine.Give a) rs = of_answer a rs
of_jump _ rs = 0

abbrev pub weight : Work → List Rest → ℕ
weight w rs = weight_of_work w + weight_of_rests rs + of_jump w rs

-- a step never increases the remaining turns, and decreases the weight if it takes no turn
abbrev pub Lessens : (turns weight : ℕ) → Outcome At → Type 0
Lessens t m (Done at st) = (st.turns ≤ t) × (t ≤ st.turns → weight at.work at.rests < m)
Lessens t m (Ended e streams) = Unit {0}
Lessens t m (Going streams) = Unit {0}
Lessens t m Wild = Unit {0}
