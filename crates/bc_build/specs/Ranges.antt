-- For proofs: the numbers of entries are in the ranges of their types.
use Rattle.std.specs.Prelude.{◌≤◌, ◌<◌, ◌^◌, All}
use Rattle.bc_core.specs.Tree.{Exp, Num, Frame, Glob, Place, Load, Neg, Not, Bin, Cond, Call, Valof, Args, no_argument, argument, Root, Value, Test, Assign}
use Rattle.bc_rules_defs.specs.Entry.{Entry}
use Rattle.bc_rules_defs.specs.declared.entry.Entry as code
use Rattle.bc_rules_defs.specs.View.{entry}

abbrev mutual
  -- the numbers in an expression are words
  pub AreSmall : Exp → Type 0
  AreSmall (Num n) = n ≤ 65535
  AreSmall (Frame k) = k ≤ 65535
  AreSmall (Glob n) = n ≤ 65535
  AreSmall (Place m) = m ≤ 65535
  AreSmall (Valof n) = n ≤ 65535
  AreSmall (Load e) = AreSmall e
  AreSmall (Neg e) = AreSmall e
  AreSmall (Not e) = AreSmall e
  AreSmall (Bin op a b) = AreSmall a × AreSmall b
  AreSmall (Cond c x y) = AreSmall c × (AreSmall x × AreSmall y)
  AreSmall (Call es f) = AllAreSmall es × AreSmall f

  -- the numbers in all arguments are words
  pub AllAreSmall : Args → Type 0
  AllAreSmall no_argument = Unit {0}
  AllAreSmall (argument e es) = AreSmall e × AllAreSmall es

-- the numbers in a root's expressions are words
abbrev pub RootIsSmall : Root → Type 0
RootIsSmall (Value s e) = AreSmall e
RootIsSmall (Test s sense e) = AreSmall e
RootIsSmall (Assign s v a) = AreSmall v × AreSmall a

-- the numbers of an entry are in the ranges of their types
pub record EntryIsSmall (e : Entry) : Type 0 where
  pub segment : e.segment < 2 ^ 64
  pub item : e.item < 2 ^ 64
  pub target : e.target ≤ 65535
  pub first : e.first ≤ 65535
  pub bodies : All (λ n. n < 2 ^ 64) e.bodies
  pub root : RootIsSmall e.root

-- the same for an entry of the program
abbrev pub IsSmallEntry : code.Entry → Type 0
IsSmallEntry e = EntryIsSmall (entry e)
