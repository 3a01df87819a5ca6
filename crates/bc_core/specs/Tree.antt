-- Resolved expressions and roots, as the definitions use them.
use Rattle.std.specs.Prelude.{ℕ, ◌+◌, Bool}
use Rattle.bc_word.specs.declared.operator.Op.{Op}

mutual
  -- an expression; every value is a word
  pub data Exp : Type 0 where
    Num : ℕ → Exp
    -- the address of the cell at this offset of the frame, of the global with this number, and of the place with this
    -- label
    Frame : ℕ → Exp
    Glob : ℕ → Exp
    Place : ℕ → Exp
    -- the content of the cell at this address
    Load : Exp → Exp
    Neg : Exp → Exp
    Not : Exp → Exp
    Bin : Op → (left right : Exp) → Exp
    -- `condition -> this, that`
    Cond : (condition this that : Exp) → Exp
    Call : Args → (routine : Exp) → Exp
    -- the VALOF with this number
    Valof : ℕ → Exp

  -- the arguments of a call, in order
  pub data Args : Type 0 where
    no_argument : Args
    argument : Exp → Args → Args

-- how many arguments there are
abbrev pub count : Args → ℕ
count no_argument = 0
count (argument e es) = 1 + count es

-- a whole expression, test or assignment, for which code is chosen, with its level
pub data Root : Type 0 where
  Value : (level : ℕ) → Exp → Root
  -- a jump if the truth is `sense`
  Test : (level : ℕ) → (sense : Bool) → Exp → Root
  Assign : (level : ℕ) → (value address : Exp) → Root
