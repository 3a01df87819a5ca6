-- For proofs: the choices of a node, computed from those of its parts. Each list of candidates has the rules that a node may
-- have for an aim, in the order of their numbers.
use Rattle.std.specs.Prelude.{ℕ, ◌+◌, ◌*◌, ◌==◌, Bool, true, false, not, ◌||◌, cond, List, [], ◌∷◌, ◌++◌, Option, Some, None, is_some}
use Rattle.bc_word.specs.declared.operator.Op.{Op}
use Rattle.bc_word.specs.declared.operator.Op.TheVariants.{Add, Subtract, Equal, NotEqual, And, Or}
use Rattle.bc_word.specs.Words.{negated}
use Rattle.bc_word.specs.Mirror.{mirror_of}
use Rattle.bc_core.specs.declared.operands.Operand.{Operand}
use Rattle.bc_core.specs.Tree.{Exp, Num, Frame, Glob, Place, Load, Neg, Not, Bin, Cond, Call, Valof, Args, no_argument, argument, count}
use Rattle.bc_core.specs.Operand.{operand_of, constant_of}
use Rattle.bc_core.specs.Value.{has_call}
use Rattle.bc_core.specs.WellFormed.{nodes}
use Rattle.bc_rules_defs.specs.declared.rule.Table.{Table}
use Rattle.bc_rules_defs.specs.declared.rule.Table.TheVariants.{One, Two}
use Rattle.bc_rules_defs.specs.declared.rule.Mode.TheVariants.{Any, Push}
use Rattle.bc_rules_defs.specs.declared.rule.Aim.{Aim}
use Rattle.bc_rules_defs.specs.declared.rule.Aim.TheVariants.{Gets, Jumps}
use Rattle.bc_rules_defs.specs.declared.rule.Rule.{Rule}
use Rattle.bc_rules_defs.specs.declared.rule.Rule.TheVariants.{V0, V1, V2, V3, V4, V6, V7, V8, V9, V10, V11, V12, V13, V14, V15, V16, V17, V18, V19, V20, V21, V22, J1, J2, J3, J4, J5, J6, J7, J8, J9}
use Rattle.bc_rules_defs.specs.Free.{direct_operand, is_plain_operator, jumps_at}
use Rattle.bc_rules_defs.specs.Piece.{w}
use Rattle.bc_select_defs.specs.declared.choice.Choice.{Choice}
use Rattle.bc_select_defs.specs.declared.choice.Choices.{Choices}
use Rattle.bc_select_defs.specs.declared.choice.Candidate.{Candidate}
use Rattle.bc_select_defs.specs.declared.choice.Asked.{Asked}
use Rattle.bc_select_defs.specs.Options.{plus, more, sum, given, only, operand_cost, words_of, candidate, least_from}

-- the choice for an aim
abbrev pub choice_for : Aim → Choices → Option Choice
choice_for (Gets Any) c = c.any
choice_for (Gets Push) c = c.push
choice_for (Jumps false) c = c.on_false
choice_for (Jumps true) c = c.on_true

-- the words of the choice for an aim
abbrev pub words_for : Aim → Choices → Option ℕ
words_for aim c = words_of (choice_for aim c)

-- The choices of a node from the candidates of its own rules. V1 loads an operand in mode Push, V0 makes a value in mode Push one in
-- mode Any, and the tests are given the words of the value in mode Any.
abbrev pub line : Option Operand → (pushes values : List Candidate) → (tests : Option ℕ → Bool → List Candidate) → Choices
line o pushes values tests =
    let push = least_from None (candidate V1 (operand_cost o) ∷ pushes) in
    let any = least_from None (candidate V0 (words_of push) ∷ values) in
    record {
      any = any;
      push = push;
      on_false = least_from None (tests (words_of any) false);
      on_true = least_from None (tests (words_of any) true);
    }

-- a test by J6, from the words of the value
abbrev pub by_value : Option ℕ → Bool → List Candidate
by_value any sense = candidate J6 (plus any 2) ∷ []

-- an address
abbrev pub leaf_choices : Option Operand → Choices
leaf_choices o = line o [] [] by_value

-- the tests of a number, by J6 and by J7
abbrev pub number_tests : ℕ → Option ℕ → Bool → List Candidate
number_tests n any sense = candidate J6 (plus any 2) ∷ candidate J7 (Some (cond (jumps_at sense n) 2 0)) ∷ []

-- a number
abbrev pub number_choices : Option Operand → ℕ → Choices
number_choices o n = line o [] [] (number_tests n)

-- a form with one part, by its rule
abbrev pub unary_choices : Rule → Option Operand → Choices → Choices
unary_choices rule o c = line o (candidate rule (plus (words_of c.push) 1) ∷ []) (candidate rule (plus (words_of c.any) 1) ∷ []) by_value

-- the test of NOT, by J1
abbrev pub not_tests : Choices → Option ℕ → Bool → List Candidate
not_tests c any sense = candidate J1 (words_for (Jumps (not sense)) c) ∷ []

-- NOT
abbrev pub not_choices : Choices → Choices
not_choices c = line None (candidate V4 (plus (words_of c.push) 1) ∷ []) (candidate V4 (plus (words_of c.any) 1) ∷ []) (not_tests c)

-- whether two operands are free
abbrev pub free : Asked → Asked → Bool
free a b = not (a.calls || b.calls) || direct_operand a.operand || direct_operand b.operand

-- whether there is a number and it is 0
abbrev pub zero_number : Option ℕ → Bool
zero_number None = false
zero_number (Some n) = n == 0

-- the words of adding the negation of a number
unfoldable pub number_cost : Option ℕ → Option ℕ
number_cost None = None
number_cost (Some n) = Some (w (negated n))

-- of x and y, the one that belongs to the operand beside a 0
abbrev pub beside : Asked → Asked → (x y : Option ℕ) → Option ℕ
beside a b x y = cond (zero_number b.number) x (cond (zero_number a.number) y None)

-- of x and y, the one that remains when rule V8 drops a 0
abbrev pub without : Op → Asked → Asked → (x y : Option ℕ) → Option ℕ
without Add a b x y = beside a b x y
without Subtract a b x y = cond (zero_number b.number) x None
without _ a b x y = None

-- the rules that have one operand in an instruction; x and y are the words of the operands in the mode
abbrev pub mixed : Op → Asked → Asked → (x y : Option ℕ) → List Candidate
mixed op a b x y =
    candidate V6 (only Add op (sum x (operand_cost b.operand)))
    ∷ candidate V7 (only Add op (given (free a b) (sum y (operand_cost a.operand))))
    ∷ candidate V8 (without op a b x y)
    ∷ candidate V9 (only Subtract op (sum x (number_cost b.number)))
    ∷ candidate V10 (only Subtract op (sum x (more 2 (operand_cost b.operand))))
    ∷ candidate V11 (only Subtract op (given (free a b) (sum y (more 1 (operand_cost a.operand)))))
    ∷ []

-- the rules that evaluate both operands
abbrev pub worked : Op → Asked → Asked → (s : ℕ) → List Candidate
worked op a b s =
    let x = words_of a.choices.any in
    let y = words_of b.choices.any in
    let pushed_first = words_of a.choices.push in
    let pushed_second = words_of b.choices.push in
    let mirrored = is_some (mirror_of op) in
    candidate V12 (plus (sum x pushed_second) 1)
    ∷ candidate V13 (given mirrored (given (free a b) (plus (sum y pushed_first) 1)))
    ∷ candidate V14 (only Subtract op (given (free a b) (plus (sum y pushed_first) 2)))
    ∷ candidate V15 (given mirrored (plus (sum x y) (1 + 2 * w s)))
    ∷ candidate V16 (given (free a b) (plus (sum y x) (1 + 2 * w s)))
    ∷ candidate V17 (plus (sum x y) (1 + 2 * w s + 2 * w (s + 1)))
    ∷ candidate V18 (only Add op (plus (sum x y) (2 * w s)))
    ∷ candidate V19 (only Subtract op (plus (sum x y) (1 + 2 * w s)))
    ∷ []

abbrev pub has_tests_of_zero : Table → Bool
has_tests_of_zero One = false
has_tests_of_zero Two = true

-- the tests of an operator
abbrev pub pair_tests : Table → Op → Asked → Asked → Option ℕ → Bool → List Candidate
pair_tests T op a b any false =
    candidate J2 (only And op (sum (words_of a.choices.on_false) (words_of b.choices.on_false)))
    ∷ candidate J5 (only Or op (sum (words_of a.choices.on_true) (words_of b.choices.on_false)))
    ∷ candidate J6 (given (is_plain_operator op) (plus any 2))
    ∷ candidate J8 (given (has_tests_of_zero T) (only Equal op (plus (beside a b (words_of a.choices.any) (words_of b.choices.any)) 2)))
    ∷ candidate J9 (given (has_tests_of_zero T) (only NotEqual op (plus (beside a b (words_of a.choices.any) (words_of b.choices.any)) 2)))
    ∷ []
pair_tests T op a b any true =
    candidate J3 (only And op (sum (words_of a.choices.on_false) (words_of b.choices.on_true)))
    ∷ candidate J4 (only Or op (sum (words_of a.choices.on_true) (words_of b.choices.on_true)))
    ∷ candidate J6 (given (is_plain_operator op) (plus any 2))
    ∷ candidate J8 (given (has_tests_of_zero T) (only Equal op (plus (beside a b (words_of a.choices.any) (words_of b.choices.any)) 2)))
    ∷ candidate J9 (given (has_tests_of_zero T) (only NotEqual op (plus (beside a b (words_of a.choices.any) (words_of b.choices.any)) 2)))
    ∷ []

-- a binary operator
abbrev pub pair_choices : Table → Op → Option Operand → Asked → Asked → ℕ → Choices
pair_choices T op o a b s =
    line o (mixed op a b (words_of a.choices.push) (words_of b.choices.push)) (mixed op a b (words_of a.choices.any) (words_of b.choices.any)
    ++ worked op a b s) (pair_tests T op a b)

-- a condition with two values
abbrev pub cond_choices : (c x y : Choices) → Choices
cond_choices c x y =
    line None [] (candidate V20 (plus (sum (sum (words_of c.on_false) (words_of x.any)) (words_of y.any)) 2)
    ∷ candidate V21 (plus (sum (sum (words_of c.on_true) (words_of y.any)) (words_of x.any)) 2) ∷ []) by_value

-- a call, from the words of all its arguments and the choices of its routine
abbrev pub call_choices : Option ℕ → Choices → ℕ → Choices
call_choices arguments routine s = line None [] (candidate V22 (plus (sum arguments (words_of routine.any)) (w s)) ∷ []) by_value

-- a VALOF
abbrev pub valof_choices : Choices
valof_choices = line None [] (candidate V22 (Some 0) ∷ []) by_value

abbrev pub node : Exp → Choices → Asked
node e c = record { choices = c; operand = operand_of e; number = constant_of e; calls = has_call e; nodes = nodes e }

abbrev mutual
  -- the choices of an expression at level s
  pub choices : Table → Exp → ℕ → Choices
  choices T (Num n) s = number_choices (operand_of (Num n)) n
  choices T (Frame k) s = leaf_choices (operand_of (Frame k))
  choices T (Glob n) s = leaf_choices (operand_of (Glob n))
  choices T (Place m) s = leaf_choices (operand_of (Place m))
  choices T (Load e) s = unary_choices V2 (operand_of (Load e)) (choices T e s)
  choices T (Neg e) s = unary_choices V3 None (choices T e s)
  choices T (Not e) s = not_choices (choices T e s)
  choices T (Bin op a b) s = pair_choices T op (operand_of (Bin op a b)) (node a (choices T a (s + 1))) (node b (choices T b (s + 1))) s
  choices T (Cond c x y) s = cond_choices (choices T c s) (choices T x s) (choices T y s)
  choices T (Call es f) s = call_choices (words_of_all T es (s + 2)) (choices T f (s + 2 + count es)) s
  choices T (Valof n) s = valof_choices

  pub words_of_all : Table → Args → ℕ → Option ℕ
  words_of_all T no_argument s = Some 0
  words_of_all T (argument e es) s = sum (plus (words_of (choices T e s).any) (w s)) (words_of_all T es (s + 1))

abbrev pub node_of : Table → Exp → ℕ → Asked
node_of T e s = node e (choices T e s)
