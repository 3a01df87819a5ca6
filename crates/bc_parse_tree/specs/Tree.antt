-- Syntax trees as the definitions use them: the types of `src/tree.rt` without pointers. Names and strings are lists
-- of bytes, a string with its quotes.
use Rattle.std.specs.Prelude.{ℕ, List}
use Rattle.bc_parse_tree.specs.declared.tree.Storage.{Storage}
use Rattle.bc_parse_tree.specs.declared.tree.UnaryOp as unary
use Rattle.bc_parse_tree.specs.declared.tree.BinaryOp as binary

mutual
  -- an expression
  pub data Exp : Type 0 where
    Name : List ℕ → Exp
    Num : ℕ → Exp
    Character : ℕ → Exp
    Text : List ℕ → Exp
    True : Exp
    False : Exp
    Table : Exps → Exp
    Valof : Block → Exp
    Unary : unary.UnaryOp → Exp → Exp
    Bin : binary.BinaryOp → Exp → Exp → Exp
    Cond : Exp → Exp → Exp → Exp
    Call : Exp → Exps → Exp

  -- a list of expressions
  pub data Exps : Type 0 where
    none : Exps
    more : Exp → Exps → Exps

  -- declarations, then items
  pub data Block : Type 0 where
    block : Declarations → Items → Block

  -- a declaration: a list of constants, or a LET with its definitions
  pub data Declaration : Type 0 where
    Constants : Storage → Entries → Declaration
    Let : Definitions → Declaration

  -- a list of declarations
  pub data Declarations : Type 0 where
    no_declarations : Declarations
    declaration : Declaration → Declarations → Declarations

  -- names with their constants
  pub data Entries : Type 0 where
    no_entries : Entries
    entry : List ℕ → Exp → Entries → Entries

  -- what the LET defines comes first: names of variables, or a name; a routine's parameters come next
  pub data Definition : Type 0 where
    Variables : List (List ℕ) → Exps → Definition
    Vector : List ℕ → Exp → Definition
    Function : List ℕ → List (List ℕ) → Exp → Definition
    Routine : List ℕ → List (List ℕ) → Block → Definition

  -- the definitions of a LET
  pub data Definitions : Type 0 where
    no_definitions : Definitions
    definition : Definition → Definitions → Definitions

  -- labels with a command, or only labels
  pub data Item : Type 0 where
    Labelled : Labels → Command → Item
    Labels_alone : Labels → Item

  -- a list of items
  pub data Items : Type 0 where
    no_items : Items
    item : Item → Items → Items

  -- a label: `CASE K:`, `DEFAULT:`, or `N:`
  pub data Label : Type 0 where
    Case : Exp → Label
    Default : Label
    Named : List ℕ → Label

  -- the labels of an item
  pub data Labels : Type 0 where
    no_labels : Labels
    label : Label → Labels → Labels

  -- a command
  pub data Command : Type 0 where
    Assign : Exps → Exps → Command
    -- a call as a command
    Do : Exp → Exps → Command
    -- a block as a command
    Compound : Block → Command
    Break : Command
    Loop : Command
    EndCase : Command
    Return : Command
    Finish : Command
    ResultIs : Exp → Command
    Goto : List ℕ → Command
    Repeat : Command → Command
    RepeatWhile : Command → Exp → Command
    RepeatUntil : Command → Exp → Command
    If : Exp → Block → Command
    Unless : Exp → Block → Command
    While : Exp → Block → Command
    Until : Exp → Block → Command
    Test : Exp → Block → Block → Command
    For : List ℕ → Exp → Exp → Block → Command
    -- a FOR with BY and its step
    ForBy : List ℕ → Exp → Exp → Exp → Block → Command
    SwitchOn : Exp → Items → Command
