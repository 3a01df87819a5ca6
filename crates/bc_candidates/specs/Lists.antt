-- For proofs: the candidate rules of a node for each aim, from the choices of its parts. A candidate without words doesn't apply.
use Rattle.std.specs.Prelude.{ℕ, ◌+◌, Bool, true, false, List, [], ◌∷◌, ◌++◌, Option, Some, None}
use Rattle.bc_core.specs.declared.operands.Operand.{Operand}
use Rattle.bc_core.specs.Tree.{Exp, Num, Frame, Glob, Place, Load, Neg, Not, Bin, Cond, Call, Valof, count}
use Rattle.bc_core.specs.Operand.{operand_of}
use Rattle.bc_rules_defs.specs.declared.rule.Table.{Table}
use Rattle.bc_rules_defs.specs.declared.rule.Table.TheVariants.{Two}
use Rattle.bc_rules_defs.specs.declared.rule.Mode.TheVariants.{Any, Push}
use Rattle.bc_rules_defs.specs.declared.rule.Aim.{Aim}
use Rattle.bc_rules_defs.specs.declared.rule.Aim.TheVariants.{Gets, Jumps}
use Rattle.bc_rules_defs.specs.declared.rule.Rule.{Rule}
use Rattle.bc_rules_defs.specs.declared.rule.Rule.TheVariants.{V0, V1, V2, V3, V4, V20, V21, V22}
use Rattle.bc_rules_defs.specs.Piece.{w}
use Rattle.bc_select_defs.specs.declared.choice.Choices.{Choices}
use Rattle.bc_select_defs.specs.declared.choice.Candidate.{Candidate}
use Rattle.bc_select_defs.specs.declared.choice.Asked.{Asked}
use Rattle.bc_select_defs.specs.Options.{plus, sum, operand_cost, words_of, candidate, least_from}
use Rattle.bc_select_defs.specs.Choices.{by_value, number_tests, not_tests, mixed, worked, pair_tests, choices, words_of_all, node_of}
use Rattle.bc_word.specs.declared.operator.Op.{Op}
use Rattle.bc_candidates.specs.declared.candidate.Beginning.{Beginning}
use Rattle.bc_candidates.specs.Aims.{ForAims}

-- the candidates of a node for each aim
pub record Lists : Type 0 where
  pub any : List Candidate
  pub push : List Candidate
  pub on_false : List Candidate
  pub on_true : List Candidate

-- the candidates for an aim
abbrev pub list_for : Aim → Lists → List Candidate
list_for (Gets Any) f = f.any
list_for (Gets Push) f = f.push
list_for (Jumps false) f = f.on_false
list_for (Jumps true) f = f.on_true

-- the candidates of values: V1 loads an operand in mode Push, V0 makes a value in mode Push one in mode Any
abbrev pub pushes : Option Operand → List Candidate → List Candidate
pushes o own = candidate V1 (operand_cost o) ∷ own

-- the candidates in mode Any, given those in mode Push
abbrev pub values : (pushed own : List Candidate) → List Candidate
values pushed own = candidate V0 (words_of (least_from None pushed)) ∷ own

-- the least words among candidates
abbrev pub least_words_of : List Candidate → Option ℕ
least_words_of cs = words_of (least_from None cs)

-- the lists of a node, given the candidates of its own rules
abbrev pub line : Option Operand → (own_pushes own_values : List Candidate) → (tests : Option ℕ → Bool → List Candidate) → Lists
line o own_pushes own_values tests =
    let push = pushes o own_pushes in
    let any = values push own_values in
    record { any = any; push = push; on_false = tests (least_words_of any) false; on_true = tests (least_words_of any) true }

-- the lists of a form with one part, given the form's rule
abbrev pub unary : Rule → Option Operand → Choices → (Option ℕ → Bool → List Candidate) → Lists
unary r o c tests = line o (candidate r (plus (words_of c.push) 1) ∷ []) (candidate r (plus (words_of c.any) 1) ∷ []) tests

-- the lists of a binary operator
abbrev pub pair : Table → Op → Option Operand → Asked → Asked → ℕ → Lists
pair T op o a b s =
    line o (mixed op a b (words_of a.choices.push) (words_of b.choices.push))
    (mixed op a b (words_of a.choices.any) (words_of b.choices.any) ++ worked op a b s) (pair_tests T op a b)

-- the lists of a condition with two values
abbrev pub conditional : (c x y : Choices) → Lists
conditional c x y =
    line None [] (candidate V20 (plus (sum (sum (words_of c.on_false) (words_of x.any)) (words_of y.any)) 2)
    ∷ candidate V21 (plus (sum (sum (words_of c.on_true) (words_of y.any)) (words_of x.any)) 2) ∷ []) by_value

-- the lists of a call, given the words of its arguments
abbrev pub called : Option ℕ → Choices → ℕ → Lists
called arguments routine s = line None [] (candidate V22 (plus (sum arguments (words_of routine.any)) (w s)) ∷ []) by_value

-- the lists of an expression at level s
abbrev pub lists : Table → Exp → ℕ → Lists
lists T (Num n) s = line (operand_of (Num n)) [] [] (number_tests n)
lists T (Frame k) s = line (operand_of (Frame k)) [] [] by_value
lists T (Glob n) s = line (operand_of (Glob n)) [] [] by_value
lists T (Place m) s = line (operand_of (Place m)) [] [] by_value
lists T (Load e) s = unary V2 (operand_of (Load e)) (choices T e s) by_value
lists T (Neg e) s = unary V3 None (choices T e s) by_value
lists T (Not e) s = unary V4 None (choices T e s) (not_tests (choices T e s))
lists T (Bin op a b) s = pair T op (operand_of (Bin op a b)) (node_of T a (s + 1)) (node_of T b (s + 1)) s
lists T (Cond c x y) s = conditional (choices T c s) (choices T x s) (choices T y s)
lists T (Call es f) s = called (words_of_all T es (s + 2)) (choices T f (s + 2 + count es)) s
lists T (Valof n) s = line None [] (candidate V22 (Some 0) ∷ []) by_value

-- the choices of these lists
abbrev pub choices_of : Lists → Choices
choices_of f = record { any = least_from None f.any; push = least_from None f.push; on_false = least_from None f.on_false; on_true = least_from None f.on_true }

-- the candidates that apply
abbrev pub applying : Rule → Option ℕ → List Beginning → List Beginning
applying r None bs = bs
applying r (Some n) bs = record { rule = r; words = n } ∷ bs

-- the rules of the candidates that apply, with their words
abbrev pub beginnings : List Candidate → List Beginning
beginnings [] = []
beginnings (c ∷ cs) = applying c.rule c.words (beginnings cs)

-- the candidates of all lists that apply
abbrev pub applying_lists : Lists → ForAims
applying_lists f = record { any = beginnings f.any; push = beginnings f.push; on_false = beginnings f.on_false; on_true = beginnings f.on_true }

-- the candidates of a node
abbrev pub candidates_at : Exp × ℕ → ForAims
candidates_at node = applying_lists (lists Two node.0 node.1)
