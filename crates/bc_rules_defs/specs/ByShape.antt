-- For proofs: the code and the labels of a tree of rule names at an expression, as functions.
use Rattle.std.specs.Prelude.{ℕ, ◌+◌, Bool, true, false, not, cond, Option, Some, None, List, [], ◌∷◌, ◌++◌}
use Rattle.bc_word.specs.declared.operator.Op.{Op}
use Rattle.bc_word.specs.Mirror.{mirror_of}
use Rattle.bc_word.specs.Words.{number_of, negated}
use Rattle.bc_core.specs.declared.operands.Operand.{Operand}
use Rattle.bc_core.specs.Tree.{Exp, Num, Bin, Valof, no_argument, argument, Root, Value, Test, Assign}
use Rattle.bc_core.specs.Operand.{operand_of, constant_of}
use Rattle.bc_rules_defs.specs.declared.rule.Mode.TheVariants.{Any}
use Rattle.bc_rules_defs.specs.declared.rule.Aim.{Aim}
use Rattle.bc_rules_defs.specs.declared.rule.Aim.TheVariants.{Gets, Jumps}
use Rattle.bc_rules_defs.specs.declared.rule.Rule.{Rule}
use Rattle.bc_rules_defs.specs.declared.rule.Rule.TheVariants.{V0, V1, V2, V3, V4, V6, V7, V9, V10, V11, V12, V13, V14, V15, V16, V17, V18, V19, V20, V21, J1, J3, J5, J6, J8, J9, A2}
use Rattle.bc_rules_defs.specs.declared.piece.Piece.{Piece}
use Rattle.bc_rules_defs.specs.declared.piece.Piece.TheVariants.{Body}
use Rattle.bc_rules_defs.specs.Free.{jumps_at}
use Rattle.bc_rules_defs.specs.Piece.{L, S, A, A_number, SP, LIP, AIP, SIP, X, K, J, jump_if, label}
use Rattle.bc_rules_defs.specs.Rules.{Tree, Trees, by, no_part, part}
use Rattle.bc_rules_defs.specs.Parts.{Parts, leaf, single, pair, triple, called, parts_of, assignment_parts}

-- the number of a rule's own labels, if it has parts
abbrev pub own_labels : Rule → ℕ
own_labels V20 = 2
own_labels V21 = 2
own_labels J3 = 1
own_labels J5 = 1
own_labels _ = 0

-- the level of the part of a rule that has one part
abbrev pub part_level : Rule → ℕ → ℕ
part_level V0 s = s
part_level V2 s = s
part_level V3 s = s
part_level V4 s = s
part_level J1 s = s
part_level J6 s = s
part_level _ s = s + 1

-- the target of the first of two parts
abbrev pub first_target : Rule → (t f : ℕ) → ℕ
first_target J3 t f = f
first_target J5 t f = f
first_target _ t f = t

-- an operation on an operand, if there is one, before the other pieces
abbrev pub with_operand : (Operand → Piece) → Option Operand → List Piece → List Piece
with_operand i None ps = ps
with_operand i (Some o) ps = i o ∷ ps

-- `A` with the negation of a number, if there is one
abbrev pub less_constant : Option ℕ → List Piece
less_constant None = []
less_constant (Some n) = A_number (negated n) ∷ []

-- the left side of an operator, if it is an operand
abbrev pub left_operand : Exp → Option Operand
left_operand (Bin op a b) = operand_of a
left_operand _ = None

-- the right side of an operator, if it is an operand
abbrev pub right_operand : Exp → Option Operand
right_operand (Bin op a b) = operand_of b
right_operand _ = None

-- the right side of an operator, if it is a number
abbrev pub right_constant : Exp → Option ℕ
right_constant (Bin op a b) = constant_of b
right_constant _ = None

-- the jump of a test on its sense, or on the opposite
abbrev pub jump_at : Aim → (same : Bool) → ℕ → List Piece
jump_at (Gets m) same t = []
jump_at (Jumps sense) true t = jump_if sense t ∷ []
jump_at (Jumps sense) false t = jump_if (not sense) t ∷ []

-- the operation of an operator
abbrev pub operator_number : Exp → List Piece
operator_number (Bin op a b) = X (number_of op) ∷ []
operator_number _ = []

abbrev pub mirror_number : Option Op → List Piece
mirror_number None = []
mirror_number (Some q) = X (number_of q) ∷ []

-- the operation of an operator's mirror
abbrev pub operator_mirror : Exp → List Piece
operator_mirror (Bin op a b) = mirror_number (mirror_of op)
operator_mirror _ = []

-- the code of a rule without parts
abbrev pub number_jump : Aim → ℕ → ℕ → List Piece
number_jump (Gets m) n t = []
number_jump (Jumps sense) n t = cond (jumps_at sense n) (J t ∷ []) []

-- the whole code of a rule without parts; f is the label after the body of a VALOF
abbrev pub leaf_code : Rule → Aim → Exp → (t f : ℕ) → List Piece
leaf_code V1 aim e t f = with_operand L (operand_of e) []
leaf_code r aim (Num n) t f = number_jump aim n t
leaf_code r aim (Valof n) t f = Body n ∷ label f ∷ []
leaf_code r aim e t f = []

-- what follows the part of a rule that has one part
abbrev pub after_single : Rule → Aim → Exp → (t : ℕ) → List Piece
after_single V2 aim e t = X 1 ∷ []
after_single V3 aim e t = X 2 ∷ []
after_single V4 aim e t = X 3 ∷ []
after_single V6 aim e t = with_operand A (right_operand e) []
after_single V7 aim e t = with_operand A (left_operand e) []
after_single V9 aim e t = less_constant (right_constant e)
after_single V10 aim e t = X 2 ∷ with_operand A (right_operand e) (X 2 ∷ [])
after_single V11 aim e t = X 2 ∷ with_operand A (left_operand e) []
after_single J6 aim e t = jump_at aim true t
after_single J8 aim e t = jump_at aim false t
after_single J9 aim e t = jump_at aim true t
after_single _ aim e t = []

-- what comes between two parts, and after them
abbrev pub between : Rule → ℕ → List Piece
between V15 s = SP s ∷ []
between V16 s = SP s ∷ []
between V17 s = SP s ∷ []
between V18 s = SP s ∷ []
between V19 s = SP s ∷ []
between _ s = []

-- the pieces after both parts
abbrev pub after_pair : Rule → Exp → (s f : ℕ) → List Piece
after_pair V12 e s f = operator_number e
after_pair V13 e s f = operator_mirror e
after_pair V14 e s f = X 9 ∷ X 2 ∷ []
after_pair V15 e s f = LIP s ∷ operator_mirror e
after_pair V16 e s f = LIP s ∷ operator_number e
after_pair V17 e s f = SP (s + 1) ∷ LIP s ∷ LIP (s + 1) ∷ operator_number e
after_pair V18 e s f = AIP s ∷ []
after_pair V19 e s f = X 2 ∷ AIP s ∷ []
after_pair J3 e s f = label f ∷ []
after_pair J5 e s f = label f ∷ []
after_pair _ e s f = []

-- the number of labels of the code
abbrev mutual
  pub labels_by : Tree → Aim → Exp → ℕ
  labels_by (by r ds) aim e = labels_of_parts r (parts_of r aim e) ds

  -- the labels of a rule with these parts
  pub labels_of_parts : Rule → Parts → Trees → ℕ
  labels_of_parts r (leaf valof) no_part = cond valof 1 0
  labels_of_parts r (single m a) (part d no_part) = labels_by d m a
  labels_of_parts r (pair m a n b) (part d (part c no_part)) = own_labels r + labels_by d m a + labels_by c n b
  labels_of_parts r (triple m h n x l y) (part d (part c (part g no_part))) =
      2 + labels_by d m h + labels_by c n x + labels_by g l y
  labels_of_parts r (called i no_argument e) (part d no_part) = labels_by d (Gets Any) e
  labels_of_parts r (called i (argument a es) e) (part d ds) = labels_by d (Gets Any) a + labels_of_parts r (called (i + 1) es e) ds
  labels_of_parts r p ds = 0

-- the code at level s, with target t, and with labels from f on
abbrev mutual
  pub code_by : Tree → Aim → Exp → (s t f : ℕ) → List Piece
  code_by (by r ds) aim e s t f = code_of_parts r aim e (parts_of r aim e) ds s t f

  -- the code of a rule with these parts
  pub code_of_parts : Rule → Aim → Exp → Parts → Trees → (s t f : ℕ) → List Piece
  code_of_parts r aim e (leaf valof) no_part s t f = leaf_code r aim e t f
  code_of_parts r aim e (single m a) (part d no_part) s t f = code_by d m a (part_level r s) t f ++ after_single r aim e t
  code_of_parts r aim e (pair m a n b) (part d (part c no_part)) s t f =
      let g = f + own_labels r in
      (code_by d m a (s + 1) (first_target r t f) g ++ (between r s ++ code_by c n b (s + 1) t (g + labels_by d m a))) ++ after_pair r e s f
  code_of_parts r aim e (triple m h n x l y) (part d (part c (part g no_part))) s t f =
      let k = f + 2 + labels_by d m h in
      code_by d m h s f (f + 2) ++ code_by c n x s t k ++ J (f + 1) ∷ label f ∷ code_by g l y s t (k + labels_by c n x) ++ label (f + 1) ∷ []
  code_of_parts r aim e (called i no_argument h) (part d no_part) s t f = code_by d (Gets Any) h (s + 2 + i) t f ++ K s ∷ []
  code_of_parts r aim e (called i (argument a es) h) (part d ds) s t f =
      code_by d (Gets Any) a (s + 2 + i) t f ++ SP (s + 2 + i) ∷ code_of_parts r aim e (called (i + 1) es h) ds s t (f + labels_by d (Gets Any) a)
  code_of_parts r aim e p ds s t f = []

-- the labels and the code of a root
abbrev pub labels_of_sides : Parts → Trees → ℕ
labels_of_sides (single m a) (part d no_part) = labels_by d m a
labels_of_sides (pair m a n b) (part d (part c no_part)) = labels_by d m a + labels_by c n b
labels_of_sides p ds = 0

-- the labels of a root, given the tree of its derivation
abbrev pub root_labels_by : Root → Tree → ℕ
root_labels_by (Value s e) x = labels_by x (Gets Any) e
root_labels_by (Test s sense e) x = labels_by x (Jumps sense) e
root_labels_by (Assign s v a) (by r ds) = labels_of_sides (assignment_parts r v a) ds

-- what follows the two sides of an assignment
abbrev pub after_sides : Rule → ℕ → List Piece
after_sides A2 s = SIP s ∷ []
after_sides _ s = SP (s + 1) ∷ LIP s ∷ SIP (s + 1) ∷ []

-- the code of an assignment whose rule has these parts
abbrev pub code_of_sides : Rule → Exp → Parts → Trees → (s t f : ℕ) → List Piece
code_of_sides r address (single m a) (part d no_part) s t f = code_by d m a s t f ++ with_operand S (operand_of address) []
code_of_sides r address (pair m a n b) (part d (part c no_part)) s t f =
    code_by d m a (s + 1) t f ++ SP s ∷ code_by c n b (s + 1) t (f + labels_by d m a) ++ after_sides r s
code_of_sides r address p ds s t f = []

-- the code of a root, given the tree of its derivation
abbrev pub root_code_by : Root → Tree → (t f : ℕ) → List Piece
root_code_by (Value s e) x t f = code_by x (Gets Any) e s t f
root_code_by (Test s sense e) x t f = code_by x (Jumps sense) e s t f
root_code_by (Assign s v a) (by r ds) t f = code_of_sides r a (assignment_parts r v a) ds s t f
