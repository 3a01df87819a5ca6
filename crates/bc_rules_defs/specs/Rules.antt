-- The rule table: which derivations an expression, a test or an assignment has. Each constructor is a rule with its premises
-- and the derivations of its parts, in the order of its code. `Code` has the code of each rule, `docs/rules.md` explains them.
use Rattle.std.specs.Prelude.{◌≡◌, ℕ, Bool, true, false, not, Some, None, IsTrue}
use Rattle.bc_word.specs.declared.operator.Op.{Op}
use Rattle.bc_word.specs.declared.operator.Op.TheVariants.{Add, Subtract, Equal, NotEqual, And, Or}
use Rattle.bc_word.specs.Mirror.{mirror_of}
use Rattle.bc_core.specs.declared.operands.Operand.{Operand}
use Rattle.bc_core.specs.Tree.{Exp, Num, Load, Neg, Not, Bin, Cond, Call, Valof, Args, no_argument, argument, Root, Value, Test, Assign}
use Rattle.bc_core.specs.Operand.{operand_of}
use Rattle.bc_rules_defs.specs.declared.rule.Table.{Table}
use Rattle.bc_rules_defs.specs.declared.rule.Table.TheVariants.{Two}
use Rattle.bc_rules_defs.specs.declared.rule.Mode.{Mode}
use Rattle.bc_rules_defs.specs.declared.rule.Mode.TheVariants.{Any, Push}
use Rattle.bc_rules_defs.specs.declared.rule.Aim.{Aim}
use Rattle.bc_rules_defs.specs.declared.rule.Aim.TheVariants.{Gets, Jumps}
use Rattle.bc_rules_defs.specs.declared.rule.Rule.{Rule}
use Rattle.bc_rules_defs.specs.declared.rule.Rule.TheVariants as rule
use Rattle.bc_rules_defs.specs.Free.{are_free, is_plain, beside_zero, without_zero}

mutual
  -- the derivations of an expression for an aim, by a table
  pub data Derives : Table → Exp → Aim → Type 0 where
    -- any expression in mode Any
    v0 : {T : Table} {e : Exp} → Derives T e (Gets Push) → Derives T e (Gets Any)
    -- an operand in mode Push
    v1 : {T : Table} {e : Exp} {o : Operand} → operand_of e ≡ Some o → Derives T e (Gets Push)
    -- !e, -e, NOT e
    v2 : {T : Table} {e : Exp} {m : Mode} → Derives T e (Gets m) → Derives T (Load e) (Gets m)
    v3 : {T : Table} {e : Exp} {m : Mode} → Derives T e (Gets m) → Derives T (Neg e) (Gets m)
    v4 : {T : Table} {e : Exp} {m : Mode} → Derives T e (Gets m) → Derives T (Not e) (Gets m)
    -- a + b, where b or a is an operand
    v6 : {T : Table} {a b : Exp} {m : Mode} {o : Operand} → operand_of b ≡ Some o → Derives T a (Gets m) → Derives T (Bin Add a b) (Gets m)
    v7 : {T : Table} {a b : Exp} {m : Mode} {o : Operand} → operand_of a ≡ Some o → IsTrue (are_free a b) → Derives T b (Gets m)
        → Derives T (Bin Add a b) (Gets m)
    -- c + 0, c - 0, 0 + c
    v8 : {T : Table} {op : Op} {a b c : Exp} {m : Mode} → without_zero op a b ≡ Some c → Derives T c (Gets m) → Derives T (Bin op a b) (Gets m)
    -- a - n
    v9 : {T : Table} {a : Exp} {n : ℕ} {m : Mode} → Derives T a (Gets m) → Derives T (Bin Subtract a (Num n)) (Gets m)
    -- a - b, where b or a is an operand
    v10 : {T : Table} {a b : Exp} {m : Mode} {o : Operand} → operand_of b ≡ Some o → Derives T a (Gets m) → Derives T (Bin Subtract a b) (Gets m)
    v11 : {T : Table} {a b : Exp} {m : Mode} {o : Operand} → operand_of a ≡ Some o → IsTrue (are_free a b) → Derives T b (Gets m)
        → Derives T (Bin Subtract a b) (Gets m)
    -- a op b, the part that comes second in mode Push
    v12 : {T : Table} {op : Op} {a b : Exp} → Derives T a (Gets Any) → Derives T b (Gets Push) → Derives T (Bin op a b) (Gets Any)
    v13 : {T : Table} {op q : Op} {a b : Exp} → mirror_of op ≡ Some q → IsTrue (are_free a b) → Derives T b (Gets Any) → Derives T a (Gets Push)
        → Derives T (Bin op a b) (Gets Any)
    v14 : {T : Table} {a b : Exp} → IsTrue (are_free a b) → Derives T b (Gets Any) → Derives T a (Gets Push) → Derives T (Bin Subtract a b) (Gets Any)
    -- a op b, the part that comes first stored in a cell
    v15 : {T : Table} {op q : Op} {a b : Exp} → mirror_of op ≡ Some q → Derives T a (Gets Any) → Derives T b (Gets Any) → Derives T (Bin op a b) (Gets Any)
    v16 : {T : Table} {op : Op} {a b : Exp} → IsTrue (are_free a b) → Derives T b (Gets Any) → Derives T a (Gets Any) → Derives T (Bin op a b) (Gets Any)
    -- a op b, both parts stored
    v17 : {T : Table} {op : Op} {a b : Exp} → Derives T a (Gets Any) → Derives T b (Gets Any) → Derives T (Bin op a b) (Gets Any)
    -- a + b and a - b, the first part stored and then added from its cell
    v18 : {T : Table} {a b : Exp} → Derives T a (Gets Any) → Derives T b (Gets Any) → Derives T (Bin Add a b) (Gets Any)
    v19 : {T : Table} {a b : Exp} → Derives T a (Gets Any) → Derives T b (Gets Any) → Derives T (Bin Subtract a b) (Gets Any)
    -- c -> x, y
    v20 : {T : Table} {c x y : Exp} → Derives T c (Jumps false) → Derives T x (Gets Any) → Derives T y (Gets Any) → Derives T (Cond c x y) (Gets Any)
    v21 : {T : Table} {c x y : Exp} → Derives T c (Jumps true) → Derives T y (Gets Any) → Derives T x (Gets Any) → Derives T (Cond c x y) (Gets Any)
    -- a call; a VALOF
    v22 : {T : Table} {es : Args} {f : Exp} → DerivesAll T es → Derives T f (Gets Any) → Derives T (Call es f) (Gets Any)
    v22_valof : {T : Table} {n : ℕ} → Derives T (Valof n) (Gets Any)
    -- NOT e, as a test
    j1 : {T : Table} {e : Exp} {sense : Bool} → Derives T e (Jumps (not sense)) → Derives T (Not e) (Jumps sense)
    -- a & b
    j2 : {T : Table} {a b : Exp} → Derives T a (Jumps false) → Derives T b (Jumps false) → Derives T (Bin And a b) (Jumps false)
    j3 : {T : Table} {a b : Exp} → Derives T a (Jumps false) → Derives T b (Jumps true) → Derives T (Bin And a b) (Jumps true)
    -- a | b
    j4 : {T : Table} {a b : Exp} → Derives T a (Jumps true) → Derives T b (Jumps true) → Derives T (Bin Or a b) (Jumps true)
    j5 : {T : Table} {a b : Exp} → Derives T a (Jumps true) → Derives T b (Jumps false) → Derives T (Bin Or a b) (Jumps false)
    -- any expression without NOT, `&` or `|` on top
    j6 : {T : Table} {e : Exp} {sense : Bool} → IsTrue (is_plain e) → Derives T e (Gets Any) → Derives T e (Jumps sense)
    -- a number
    j7 : {T : Table} {n : ℕ} {sense : Bool} → Derives T (Num n) (Jumps sense)
    -- c = 0 and 0 = c; c NE 0 and 0 NE c
    j8 : {T : Table} {a b c : Exp} {sense : Bool} → T ≡ Two → beside_zero a b ≡ Some c → Derives T c (Gets Any) → Derives T (Bin Equal a b) (Jumps sense)
    j9 : {T : Table} {a b c : Exp} {sense : Bool} → T ≡ Two → beside_zero a b ≡ Some c → Derives T c (Gets Any) → Derives T (Bin NotEqual a b) (Jumps sense)

  -- the arguments of a call
  pub data DerivesAll : Table → Args → Type 0 where
    no_more : {T : Table} → DerivesAll T no_argument
    one_more : {T : Table} {e : Exp} {es : Args} → Derives T e (Gets Any) → DerivesAll T es → DerivesAll T (argument e es)

-- the derivations of a root by a table
pub data RootDerives : Table → Root → Type 0 where
  value : {T : Table} {s : ℕ} {e : Exp} → Derives T e (Gets Any) → RootDerives T (Value s e)
  test : {T : Table} {s : ℕ} {sense : Bool} {e : Exp} → Derives T e (Jumps sense) → RootDerives T (Test s sense e)
  -- an assignment of v to the cell at a, where a is an operand (A1) or isn't (A2, A3)
  a1 : {T : Table} {s : ℕ} {v a : Exp} {o : Operand} → operand_of a ≡ Some o → Derives T v (Gets Any) → RootDerives T (Assign s v a)
  a2 : {T : Table} {s : ℕ} {v a : Exp} → operand_of a ≡ None → IsTrue (are_free v a) → Derives T a (Gets Any) → Derives T v (Gets Any)
      → RootDerives T (Assign s v a)
  a3 : {T : Table} {s : ℕ} {v a : Exp} → operand_of a ≡ None → Derives T v (Gets Any) → Derives T a (Gets Any) → RootDerives T (Assign s v a)

-- Trees of rule names: a rule and the trees of its parts.
mutual
  pub data Tree : Type 0 where
    by : Rule → Trees → Tree

  -- a list of trees
  pub data Trees : Type 0 where
    no_part : Trees
    part : Tree → Trees → Trees

-- lists of one, two and three trees
abbrev pub one : Tree → Trees
one x = part x no_part

abbrev pub two : Tree → Tree → Trees
two x y = part x (one y)

abbrev pub three : Tree → Tree → Tree → Trees
three x y z = part x (two y z)

-- a tree appended to a list
abbrev pub end_with : Trees → Tree → Trees
end_with no_part y = one y
end_with (part x xs) y = part x (end_with xs y)

-- the rule names of a derivation
abbrev mutual
  pub shape : {T : Table} {e : Exp} {aim : Aim} → Derives T e aim → Tree
  shape (v0 d) = by rule.V0 (one (shape d))
  shape (v1 h) = by rule.V1 no_part
  shape (v2 d) = by rule.V2 (one (shape d))
  shape (v3 d) = by rule.V3 (one (shape d))
  shape (v4 d) = by rule.V4 (one (shape d))
  shape (v6 h d) = by rule.V6 (one (shape d))
  shape (v7 h free d) = by rule.V7 (one (shape d))
  shape (v8 h d) = by rule.V8 (one (shape d))
  shape (v9 d) = by rule.V9 (one (shape d))
  shape (v10 h d) = by rule.V10 (one (shape d))
  shape (v11 h free d) = by rule.V11 (one (shape d))
  shape (v12 a b) = by rule.V12 (two (shape a) (shape b))
  shape (v13 h free b a) = by rule.V13 (two (shape b) (shape a))
  shape (v14 free b a) = by rule.V14 (two (shape b) (shape a))
  shape (v15 h a b) = by rule.V15 (two (shape a) (shape b))
  shape (v16 free b a) = by rule.V16 (two (shape b) (shape a))
  shape (v17 a b) = by rule.V17 (two (shape a) (shape b))
  shape (v18 a b) = by rule.V18 (two (shape a) (shape b))
  shape (v19 a b) = by rule.V19 (two (shape a) (shape b))
  shape (v20 c x y) = by rule.V20 (three (shape c) (shape x) (shape y))
  shape (v21 c y x) = by rule.V21 (three (shape c) (shape y) (shape x))
  shape (v22 ds f) = by rule.V22 (end_with (shapes ds) (shape f))
  shape v22_valof = by rule.V22 no_part
  shape (j1 d) = by rule.J1 (one (shape d))
  shape (j2 a b) = by rule.J2 (two (shape a) (shape b))
  shape (j3 a b) = by rule.J3 (two (shape a) (shape b))
  shape (j4 a b) = by rule.J4 (two (shape a) (shape b))
  shape (j5 a b) = by rule.J5 (two (shape a) (shape b))
  shape (j6 h d) = by rule.J6 (one (shape d))
  shape j7 = by rule.J7 no_part
  shape (j8 h k d) = by rule.J8 (one (shape d))
  shape (j9 h k d) = by rule.J9 (one (shape d))

  pub shapes : {T : Table} {es : Args} → DerivesAll T es → Trees
  shapes no_more = no_part
  shapes (one_more d ds) = part (shape d) (shapes ds)

-- the rule names of a root's derivation
abbrev pub root_shape : {T : Table} {r : Root} → RootDerives T r → Tree
root_shape (value d) = shape d
root_shape (test d) = shape d
root_shape (a1 h v) = by rule.A1 (one (shape v))
root_shape (a2 h free a v) = by rule.A2 (two (shape a) (shape v))
root_shape (a3 h v a) = by rule.A3 (two (shape v) (shape a))
