-- For proofs: whether a tree of rule names is a derivation, as a Boolean function.
use Rattle.std.specs.Prelude.{◌+◌, Bool, true, false, ◌&&◌, ◌||◌, not, cond, Option, Some, None}
use Rattle.bc_core.specs.Tree.{Exp, Bin, no_argument, argument, Root, Value, Test, Assign}
use Rattle.bc_core.specs.Value.{has_call}
use Rattle.bc_rules_defs.specs.declared.rule.Table.{Table}
use Rattle.bc_rules_defs.specs.declared.rule.Table.TheVariants.{One, Two}
use Rattle.bc_rules_defs.specs.declared.rule.Mode.TheVariants.{Any}
use Rattle.bc_rules_defs.specs.declared.rule.Aim.{Aim}
use Rattle.bc_rules_defs.specs.declared.rule.Aim.TheVariants.{Gets, Jumps}
use Rattle.bc_rules_defs.specs.declared.rule.Rule.{Rule}
use Rattle.bc_rules_defs.specs.declared.rule.Rule.TheVariants.{V7, V11, V13, V14, V16, J8, J9, A2}
use Rattle.bc_rules_defs.specs.Rules.{Tree, Trees, by, no_part, part}
use Rattle.bc_rules_defs.specs.Free.{are_free, is_direct}
use Rattle.bc_rules_defs.specs.Parts.{Parts, no_rule, leaf, single, pair, triple, called, parts_of, assignment_parts}

abbrev pub is_two : Table → Bool
is_two One = false
is_two Two = true

-- whether the table has the rule
abbrev pub in_table : Table → Rule → Bool
in_table T J8 = is_two T
in_table T J9 = is_two T
in_table T r = true

-- the rules that evaluate the right operand first
abbrev pub turns : Rule → Bool
turns V7 = true
turns V11 = true
turns V13 = true
turns V14 = true
turns V16 = true
turns A2 = true
turns _ = false

-- whether an operator has a direct operand
abbrev pub has_direct_side : Exp → Bool
has_direct_side (Bin op a b) = is_direct a || is_direct b
has_direct_side _ = false

-- a rule that reverses its operands has free ones
abbrev pub turns_freely : Rule → (calls : Bool) → Exp → Bool
turns_freely r calls e = not (turns r && calls) || has_direct_side e

-- whether the rule's order of evaluation is allowed at an expression
abbrev pub may_turn : Rule → Exp → Bool
may_turn r e = turns_freely r (has_call e) e

abbrev mutual
  -- whether the tree is a derivation of the expression for the aim
  pub fits : Table → Tree → Aim → Exp → Bool
  fits T (by r ds) aim e = in_table T r && (may_turn r e && parts_fit T (parts_of r aim e) ds)

  -- whether the trees are derivations of the parts
  pub parts_fit : Table → Parts → Trees → Bool
  parts_fit T (leaf valof) no_part = true
  parts_fit T (single m a) (part d no_part) = fits T d m a
  parts_fit T (pair m a n b) (part d (part c no_part)) = fits T d m a && fits T c n b
  parts_fit T (triple m h n x l y) (part d (part c (part g no_part))) = fits T d m h && (fits T c n x && fits T g l y)
  parts_fit T (called i no_argument e) (part d no_part) = fits T d (Gets Any) e
  parts_fit T (called i (argument a es) e) (part d ds) = fits T d (Gets Any) a && parts_fit T (called (i + 1) es e) ds
  parts_fit T p ds = false

-- whether the parts contain a call or a VALOF
abbrev pub parts_call : Parts → Bool
parts_call (leaf valof) = valof
parts_call (single m a) = has_call a
parts_call (pair m a n b) = has_call a || has_call b
parts_call (triple m c n x l y) = has_call c || has_call x || has_call y
parts_call (called i es e) = true
parts_call no_rule = false

-- None if trees are no derivations, else whether a call or a VALOF is in what they derive
abbrev pub found : (fit calls : Bool) → Option Bool
found fit calls = cond fit (Some calls) None

-- whether the sides of an assignment are free, if its rule reverses them
abbrev pub sides_free : Rule → Exp → Exp → Bool
sides_free r v a = not (turns r) || are_free v a

-- the same, given whether the sides contain a call or a VALOF
abbrev pub sides_turn : Rule → (calls : Bool) → Exp → Exp → Bool
sides_turn r calls v a = not (turns r && calls) || is_direct v || is_direct a

-- whether the tree is a derivation of an assignment
abbrev pub assignment_fits : Table → Tree → Exp → Exp → Bool
assignment_fits T (by r ds) v a = sides_free r v a && parts_fit T (assignment_parts r v a) ds

-- whether the tree is a derivation of the root
abbrev pub root_fits : Table → Root → Tree → Bool
root_fits T (Value s e) x = fits T x (Gets Any) e
root_fits T (Test s sense e) x = fits T x (Jumps sense) e
root_fits T (Assign s v a) x = assignment_fits T x v a
