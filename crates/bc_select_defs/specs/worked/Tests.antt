-- Worked examples: a derivation by each rule for tests that has none in `Examples` of the rule table, with its code. Each jumps to
-- label 9 on false or on true.
use Rattle.std.specs.Prelude.{◌≡◌, ℕ, true, false, [], ◌∷◌, refl}
use Rattle.bc_word.specs.declared.operator.Op.TheVariants.{NotEqual, And, Or}
use Rattle.bc_core.specs.Tree.{Num, Not, Bin, Root, Test}
use Rattle.bc_rules_defs.specs.declared.rule.Table.TheVariants.{One, Two}
use Rattle.bc_rules_defs.specs.Piece.{LIP, J, jump_if, label}
use Rattle.bc_rules_defs.specs.Rules.{j1, j2, j3, j4, j6, j7, j9, RootDerives, test}
use Rattle.bc_rules_defs.specs.Code.{root_code, root_cost}
use Rattle.bc_select_defs.specs.worked.Values.{at, get}

-- ---- Worked examples

-- NOT v, to jump on false: a jump where v is true
abbrev not_true : RootDerives One (Test 4 false (Not (at 2)))
not_true = test (j1 (j6 refl get))

not_true_code : root_code not_true 9 1 ≡ LIP 2 ∷ jump_if true 9 ∷ []
not_true_code = refl

-- v & w, to jump on false: a jump where either is false
abbrev both_true : RootDerives One (Test 4 false (Bin And (at 2) (at 3)))
both_true = test (j2 (j6 refl get) (j6 refl get))

both_true_code : root_code both_true 9 1 ≡ LIP 2 ∷ jump_if false 9 ∷ LIP 3 ∷ jump_if false 9 ∷ []
both_true_code = refl

-- v & w, to jump on true: where v is false, the jump on w is skipped
abbrev if_both : RootDerives One (Test 4 true (Bin And (at 2) (at 3)))
if_both = test (j3 (j6 refl get) (j6 refl get))

if_both_code : root_code if_both 9 1 ≡ LIP 2 ∷ jump_if false 1 ∷ LIP 3 ∷ jump_if true 9 ∷ label 1 ∷ []
if_both_code = refl

-- v | w, to jump on true: a jump where either is true
abbrev if_either : RootDerives One (Test 4 true (Bin Or (at 2) (at 3)))
if_either = test (j4 (j6 refl get) (j6 refl get))

if_either_code : root_code if_either 9 1 ≡ LIP 2 ∷ jump_if true 9 ∷ LIP 3 ∷ jump_if true 9 ∷ []
if_either_code = refl

-- a number jumps always, or never and then without code
abbrev always : RootDerives One (Test 4 true (Num 1))
always = test j7

always_code : root_code always 9 1 ≡ J 9 ∷ []
always_code = refl

abbrev never : RootDerives One (Test 4 false (Num 1))
never = test j7

never_code : (root_code never 9 1 ≡ []) × (root_cost never ≡ 0)
never_code = (refl, refl)

-- 0 is false
abbrev of_zero : RootDerives One (Test 4 false (Num 0))
of_zero = test j7

of_zero_words : root_cost of_zero ≡ 2
of_zero_words = refl

-- 0 NE v, to jump on true, by table 2: a jump where v is true
abbrev not_zero : RootDerives Two (Test 4 true (Bin NotEqual (Num 0) (at 2)))
not_zero = test (j9 refl refl get)

not_zero_code : root_code not_zero 9 1 ≡ LIP 2 ∷ jump_if true 9 ∷ []
not_zero_code = refl
