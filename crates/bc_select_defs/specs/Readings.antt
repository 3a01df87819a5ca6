-- For proofs: the trees of rule names to which the choices of an expression and of its parts lead.
use Rattle.std.specs.Prelude.{ℕ, ◌+◌, Bool, true, false, Option, Some, None}
use Rattle.bc_core.specs.Tree.{Exp, Num, Frame, Glob, Place, Load, Neg, Not, Bin, Cond, Call, Valof, Args, no_argument, argument, count}
use Rattle.bc_core.specs.Operand.{constant_of}
use Rattle.bc_rules_defs.specs.declared.rule.Table.{Table}
use Rattle.bc_rules_defs.specs.declared.rule.Mode.TheVariants.{Any, Push}
use Rattle.bc_rules_defs.specs.declared.rule.Aim.{Aim}
use Rattle.bc_rules_defs.specs.declared.rule.Aim.TheVariants.{Gets, Jumps}
use Rattle.bc_rules_defs.specs.declared.rule.Rule.{Rule}
use Rattle.bc_rules_defs.specs.declared.rule.Rule.TheVariants.{V0, V1, J6, J7}
use Rattle.bc_rules_defs.specs.declared.takes.Takes.{Takes}
use Rattle.bc_rules_defs.specs.declared.takes.Takes.TheVariants as taken
use Rattle.bc_rules_defs.specs.Takes.{takes}
use Rattle.bc_rules_defs.specs.Rules.{Tree, Trees, by, no_part, part, one, two, three, end_with}
use Rattle.bc_select_defs.specs.declared.choice.Choice.{Choice}
use Rattle.bc_select_defs.specs.declared.choice.Choices.{Choices}
use Rattle.bc_select_defs.specs.Choices.{zero_number, choices}

-- the tree for each aim
pub record Readings : Type 0 where
  pub any : Tree
  pub push : Tree
  pub on_false : Tree
  pub on_true : Tree

-- the tree for an aim
abbrev pub tree_for : Aim → Readings → Tree
tree_for (Gets Any) r = r.any
tree_for (Gets Push) r = r.push
tree_for (Jumps false) r = r.on_false
tree_for (Jumps true) r = r.on_true

-- the tree of a choice: its rule over the trees of that rule's parts
abbrev pub tree_of : Option Choice → (Rule → Trees) → Tree
tree_of None parts = by V1 no_part
tree_of (Some c) parts = by c.rule (parts c.rule)

abbrev pub push_parts : (Rule → Trees) → Rule → Trees
push_parts own V1 = no_part
push_parts own r = own r

abbrev pub value_parts : Tree → (Rule → Trees) → Rule → Trees
value_parts push own V0 = one push
value_parts push own r = own r

abbrev pub test_parts : Tree → (Rule → Trees) → Rule → Trees
test_parts any own J6 = one any
test_parts any own J7 = no_part
test_parts any own r = own r

-- the trees for all aims, given the parts that the expression's own rules have
abbrev pub read_line : Choices → (Aim → Rule → Trees) → Readings
read_line c own =
    let push = tree_of c.push (push_parts (own (Gets Push))) in
    let any = tree_of c.any (value_parts push (own (Gets Any))) in
    record {
      any = any;
      push = push;
      on_false = tree_of c.on_false (test_parts any (own (Jumps false)));
      on_true = tree_of c.on_true (test_parts any (own (Jumps true)));
    }

abbrev pub leaf_parts : Aim → Rule → Trees
leaf_parts aim r = no_part

-- the trees of the parts that a rule takes: at a node with one part, with two, at a condition with two values
abbrev pub one_taken : Takes → Readings → Trees
one_taken (taken.First aim) e = one (tree_for aim e)
one_taken _ e = no_part

-- at a node with two parts
abbrev pub two_taken : Takes → (a b : Readings) → Trees
two_taken (taken.First aim) a b = one (tree_for aim a)
two_taken (taken.Second aim) a b = one (tree_for aim b)
two_taken (taken.InOrder f g) a b = two (tree_for f a) (tree_for g b)
two_taken (taken.Turned f g) a b = two (tree_for g b) (tree_for f a)
two_taken _ a b = no_part

abbrev pub choice_taken : Takes → (c x y : Readings) → Trees
choice_taken (taken.Choice false) c x y = three c.on_false x.any y.any
choice_taken (taken.Choice true) c x y = three c.on_true y.any x.any
choice_taken _ c x y = no_part

-- the trees of a node with one part
abbrev pub part_parts : Readings → Aim → Rule → Trees
part_parts e aim r = one_taken (takes r aim false) e

-- the trees of the operands that a rule takes; `drops` says whether the second one is 0
abbrev pub pair_parts : (drops : Bool) → (a b : Readings) → Aim → Rule → Trees
pair_parts drops a b aim r = two_taken (takes r aim drops) a b

-- the trees of a condition with two values
abbrev pub cond_parts : (c x y : Readings) → Aim → Rule → Trees
cond_parts c x y aim r = choice_taken (takes r aim false) c x y

abbrev pub call_parts : Trees → Readings → Aim → Rule → Trees
call_parts arguments routine aim r = end_with arguments routine.any

abbrev mutual
  -- the trees of an expression at level s
  pub readings : Table → Exp → ℕ → Readings
  readings T (Num n) s = read_line (choices T (Num n) s) leaf_parts
  readings T (Frame k) s = read_line (choices T (Frame k) s) leaf_parts
  readings T (Glob n) s = read_line (choices T (Glob n) s) leaf_parts
  readings T (Place m) s = read_line (choices T (Place m) s) leaf_parts
  readings T (Load e) s = read_line (choices T (Load e) s) (part_parts (readings T e s))
  readings T (Neg e) s = read_line (choices T (Neg e) s) (part_parts (readings T e s))
  readings T (Not e) s = read_line (choices T (Not e) s) (part_parts (readings T e s))
  readings T (Bin op a b) s = read_line (choices T (Bin op a b) s) (pair_parts (zero_number (constant_of b)) (readings T a (s + 1)) (readings T b (s + 1)))
  readings T (Cond c x y) s = read_line (choices T (Cond c x y) s) (cond_parts (readings T c s) (readings T x s) (readings T y s))
  readings T (Call es f) s = read_line (choices T (Call es f) s) (call_parts (readings_of_all T es (s + 2)) (readings T f (s + 2 + count es)))
  readings T (Valof n) s = read_line (choices T (Valof n) s) leaf_parts

  -- the trees of the arguments of a call
  pub readings_of_all : Table → Args → ℕ → Trees
  readings_of_all T no_argument s = no_part
  readings_of_all T (argument e es) s = part (readings T e s).any (readings_of_all T es (s + 1))
