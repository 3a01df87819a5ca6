-- Resolved commands, routines and sections, as the definitions use them.
use Rattle.std.specs.Prelude.{ℕ, Bool, List, Option}
use Rattle.bc_core.specs.Tree.{Exp}

-- a variable with its initialiser, or a vector with the cells 0 to this number
pub data Variable : Type 0 where
  Initial : Exp → Variable
  Vector : ℕ → Variable

mutual
  -- A command. `sense` is the truth of the test for which a condition holds: false for UNLESS and UNTIL.
  pub data Command : Type 0 where
    Call : Exp → Command
    Assign : (value address : Exp) → Command
    If : (sense : Bool) → Exp → Block → Command
    Test : Exp → (this that : Block) → Command
    While : (sense : Bool) → Exp → Block → Command
    Repeat : Block → Command
    RepeatWhile : Block → (sense : Bool) → Exp → Command
    For : (start limit : Exp) → (by : ℕ) → Block → Command
    SwitchOn : Exp → Items → Command
    Break : Command
    Loop : Command
    EndCase : Command
    Return : Command
    ResultIs : Exp → Command
    Finish : Command
    Goto : ℕ → Command
    Nested : Block → Command

  -- a block: its declarations, each of which declares its variables at once, and its command list
  pub data Block : Type 0 where
    block : List (List Variable) → Items → Block

  -- a command list: commands, and the places where it can be entered: CASE, DEFAULT and labels
  pub data Items : Type 0 where
    no_item : Items
    command : Command → Items → Items
    case : ℕ → Items → Items
    default : Items → Items
    label : ℕ → Items → Items

-- the body of a routine: `F(..) = E` gives the value of E, `F(..) BE C` does C
pub data Body : Type 0 where
  Gives : Exp → Body
  Does : Block → Body

-- a routine
pub record Routine : Type 0 where
  -- the global that is set to the routine's address before the run, if there is one
  pub global : Option ℕ
  pub parameters : ℕ
  pub body : Body

-- what a label of a section denotes: a routine, the word of a static, the words of a table, or the bytes of a string
pub data Place : Type 0 where
  Code : Routine → Place
  Static : ℕ → Place
  Table : List ℕ → Place
  Text : List ℕ → Place

-- a VALOF: its level, and its body
pub record Valof : Type 0 where
  pub level : ℕ
  pub body : Block

-- A resolved section: its places, labelled 1, 2, .. in text order, and its VALOFs, numbered 0, 1, .. in text order.
pub record Core : Type 0 where
  pub places : List Place
  pub valofs : List Valof
