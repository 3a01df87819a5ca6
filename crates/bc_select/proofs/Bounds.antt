-- The words of a node are at most sixteen times the number of its nodes.
use Rattle.std.proofs.Common.{◌≡◌, ℕ, ◌+◌, ◌*◌, ◌≤◌, ◌<◌, ◌^◌, List, [], ◌∷◌, ◌++◌, Bool, true, false, not, Option, Some, None, cond, sym, subst, arith}
use Rattle.std.specs.Prelude.{nat_lt, nat_le}
use Rattle.std.proofs.lemmas.Bool.{cond_both}
use Rattle.bc_word.specs.declared.operator.Op.{Op}
use Rattle.bc_word.specs.declared.operator.Op.TheVariants as operators
use Rattle.bc_word.specs.Words.{negated}
use Rattle.bc_text_items.specs.declared.item.Base.{Base}
use Rattle.bc_text_items.specs.declared.item.Base.TheVariants.{Number, P, G, Label}
use Rattle.bc_text_items.specs.Sizes.{operation_size}
use Rattle.bc_core.specs.declared.operands.Operand.{Operand}
use Rattle.bc_core.specs.Tree.{Exp, Num, Frame, Glob, Place, Load, Neg, Not, Bin, Cond, Call, Valof, Args, no_argument, argument, count}
use Rattle.bc_core.specs.Operand.{operand_of}
use Rattle.bc_core.specs.WellFormed.{nodes, nodes_of_args}
use Rattle.bc_rules_defs.specs.declared.rule.Table.{Table}
use Rattle.bc_rules_defs.specs.declared.rule.Rule.{Rule}
use Rattle.bc_rules_defs.specs.declared.rule.Rule.TheVariants as rule
use Rattle.bc_rules_defs.specs.declared.rule.Aim.TheVariants.{Jumps}
use Rattle.bc_rules_defs.specs.Piece.{w, operand_words}
use Rattle.bc_rules_defs.specs.Free.{jumps_at}
use Rattle.bc_select_defs.specs.declared.choice.Choice.{Choice}
use Rattle.bc_select_defs.specs.declared.choice.Choices.{Choices}
use Rattle.bc_select_defs.specs.declared.choice.Candidate.{Candidate}
use Rattle.bc_select_defs.specs.declared.choice.Asked.{Asked}
use Rattle.bc_select_defs.specs.Options.{plus, more, sum, given, operand_cost, words_of, choice, candidate, better, least_from}
use Rattle.bc_select_defs.specs.Choices.{words_for, line, by_value, number_tests, not_tests, zero_number, number_cost, without, mixed, worked, pair_tests, choices, words_of_all, node_of}
use Rattle.bc_select.specs.Small.{Small, AreSmall, UpTo}

pub record Bound (x : Option ℕ) (k : ℕ) : Type 0 where
  pub fact : UpTo x k

none_bound : (k : ℕ) → Bound None k
none_bound k = record { fact = tt }

some_bound : (n k : ℕ) → n ≤ k → Bound (Some n) k
some_bound n k h = record { fact = h }

wider_up : (x : Option ℕ) (k j : ℕ) → k ≤ j → UpTo x k → UpTo x j
wider_up None k j h i = tt
wider_up (Some n) k j h i = omega arith

pub wider : (x : Option ℕ) (k j : ℕ) → Bound x k → k ≤ j → Bound x j
wider x k j i h = record { fact = wider_up x k j h i.fact }

plus_up : (x : Option ℕ) (k j : ℕ) → UpTo x k → UpTo (plus x j) (k + j)
unfolding plus
plus_up None k j h = tt
plus_up (Some n) k j h = omega arith

pub plus_bound : (x : Option ℕ) (k j : ℕ) → Bound x k → Bound (plus x j) (k + j)
plus_bound x k j h = record { fact = plus_up x k j h.fact }

more_up : (x : Option ℕ) (k j : ℕ) → UpTo x k → UpTo (more j x) (j + k)
unfolding more
more_up None k j h = tt
more_up (Some n) k j h = omega arith

more_bound : (x : Option ℕ) (k j : ℕ) → Bound x k → Bound (more j x) (j + k)
more_bound x k j h = record { fact = more_up x k j h.fact }

sum_up : (x y : Option ℕ) (k j : ℕ) → UpTo x k → UpTo y j → UpTo (sum x y) (k + j)
unfolding sum
sum_up None y k j h i = tt
sum_up (Some n) None k j h i = tt
sum_up (Some n) (Some m) k j h i = omega arith

pub sum_bound : (x y : Option ℕ) (k j : ℕ) → Bound x k → Bound y j → Bound (sum x y) (k + j)
sum_bound x y k j h i = record { fact = sum_up x y k j h.fact i.fact }

given_bound : (b : Bool) (x : Option ℕ) (k : ℕ) → Bound x k → Bound (given b x) k
unfolding given
given_bound true x k h = h
given_bound false x k h = none_bound k

pub w_few : (n : ℕ) → w n ≤ 2
w_few n = cond_both (nat_le n 511) 1 2 (λ k. k ≤ 2) (λ e. omega arith) (λ e. omega arith)

size_few : (b : Base) (n : ℕ) → operation_size b n ≤ 2
size_few Label n = omega arith
size_few Number n = w_few n
size_few P n = w_few n
size_few G n = w_few n

operand_bound : (p : Option Operand) → Bound (operand_cost p) 2
unfolding operand_cost
operand_bound None = none_bound 2
operand_bound (Some o) = some_bound (operand_words o) 2 (size_few o.base o.n)

number_bound : (p : Option ℕ) → Bound (number_cost p) 2
unfolding number_cost
number_bound None = none_bound 2
number_bound (Some n) = some_bound (w (negated n)) 2 (w_few (negated n))

beside_up : (a b : Bool) (x y : Option ℕ) (k : ℕ) → Bound x k → Bound y k → Bound (cond b x (cond a y None)) k
beside_up a true x y k h i = h
beside_up true false x y k h i = i
beside_up false false x y k h i = none_bound k

without_bound : (op : Op) (a b : Asked) (x y : Option ℕ) (k : ℕ) → Bound x k → Bound y k → Bound (without op a b x y) k
without_bound operators.Multiply a b x y k h i = none_bound k
without_bound operators.Divide a b x y k h i = none_bound k
without_bound operators.Remainder a b x y k h i = none_bound k
without_bound operators.Add a b x y k h i = beside_up (zero_number a.number) (zero_number b.number) x y k h i
without_bound operators.Subtract a b x y k h i = beside_up false (zero_number b.number) x y k h i
without_bound operators.Equal a b x y k h i = none_bound k
without_bound operators.NotEqual a b x y k h i = none_bound k
without_bound operators.Less a b x y k h i = none_bound k
without_bound operators.GreaterEqual a b x y k h i = none_bound k
without_bound operators.Greater a b x y k h i = none_bound k
without_bound operators.LessEqual a b x y k h i = none_bound k
without_bound operators.ShiftLeft a b x y k h i = none_bound k
without_bound operators.ShiftRight a b x y k h i = none_bound k
without_bound operators.And a b x y k h i = none_bound k
without_bound operators.Or a b x y k h i = none_bound k
without_bound operators.NotEquivalent a b x y k h i = none_bound k
without_bound operators.Equivalent a b x y k h i = none_bound k

abbrev pub AllBound : List Candidate → ℕ → Type 0
AllBound [] k = Unit {0}
AllBound (c ∷ cs) k = Bound c.words k × AllBound cs k

bound_append : (cs ds : List Candidate) (k : ℕ) → AllBound cs k → AllBound ds k → AllBound (cs ++ ds) k
bound_append [] ds k h i = i
bound_append (c ∷ cs) ds k h i = (h.0, bound_append cs ds k h.1 i)

better_bound : (best : Option Choice) (r : Rule) (x : Option ℕ) (k : ℕ) → Bound (words_of best) k → Bound x k → Bound (words_of (better best r x)) k
unfolding better
better_bound None r None k h i = h
better_bound (Some b) r None k h i = h
better_bound None r (Some n) k h i = i
better_bound (Some b) r (Some n) k h i = cond_both (nat_lt n b.words) (choice r n) b (λ c. Bound (Some c.words) k) (λ e. i) (λ e. h)

least_bound : (best : Option Choice) (cs : List Candidate) (k : ℕ) → Bound (words_of best) k → AllBound cs k → Bound (words_of (least_from best cs)) k
unfolding least_from
least_bound best [] k h i = h
least_bound best (c ∷ cs) k h i = least_bound (better best c.rule c.words) cs k (better_bound best c.rule c.words k h i.0) i.1

all_bound : (cs : List Candidate) (k : ℕ) → AllBound cs k → Bound (words_of (least_from None cs)) k
all_bound cs k h = least_bound None cs k (none_bound k) h

-- the words of all choices of an expression with n nodes
pub record IsUnder (c : Choices) (n : ℕ) : Type 0 where
  pub bound : ℕ
  pub under : bound + 4 ≤ 16 * n
  pub any : Bound (words_of c.any) bound
  pub push : Bound (words_of c.push) bound
  pub on_false : Bound (words_of c.on_false) (bound + 2)
  pub on_true : Bound (words_of c.on_true) (bound + 2)

pub line_bound : (o : Option Operand) (pushes values : List Candidate) (tests : Option ℕ → Bool → List Candidate) (n k : ℕ) → 2 ≤ k → k + 4 ≤ 16 * n → AllBound pushes k → AllBound values k → ((any : Option ℕ) (sense : Bool) → Bound any k → AllBound (tests any sense) (k + 2)) → IsUnder (line o pushes values tests) n
line_bound o pushes values tests n k few under hp hv ht =
    let push = all_bound (candidate rule.V1 (operand_cost o) ∷ pushes) k (wider _ 2 k (operand_bound o) few, hp) in
    let c = line o pushes values tests in
    let any = all_bound (candidate rule.V0 (words_of c.push) ∷ values) k (push, hv) in
    record {
      bound = k;
      under = under;
      any = any;
      push = push;
      on_false = all_bound (tests (words_of c.any) false) (k + 2) (ht (words_of c.any) false any);
      on_true = all_bound (tests (words_of c.any) true) (k + 2) (ht (words_of c.any) true any);
    }

pub by_value_bound : (k : ℕ) (any : Option ℕ) (sense : Bool) → Bound any k → AllBound (by_value any sense) (k + 2)
by_value_bound k any sense h = (plus_bound any k 2 h, tt)

unary_bound : (r : Rule) (o : Option Operand) (c : Choices) (n : ℕ) → IsUnder c n → IsUnder (line o (candidate r (plus (words_of c.push) 1) ∷ []) (candidate r (plus (words_of c.any) 1) ∷ []) by_value) (1 + n)
unary_bound r o c n h =
    let b = h.bound in let u = h.under in
    line_bound o _ _ by_value (1 + n) (b + 12) (omega arith) (omega arith) (wider _ (b + 1) (b + 12) (plus_bound _ b 1 h.push) (omega arith), tt) (wider _ (b + 1) (b + 12) (plus_bound _ b 1 h.any) (omega arith), tt) (by_value_bound (b + 12))

turned_bound : (c : Choices) (b k : ℕ) (sense : Bool) → b + 2 ≤ k → Bound (words_of c.on_false) (b + 2) → Bound (words_of c.on_true) (b + 2) → Bound (words_for (Jumps (not sense)) c) k
turned_bound c b k true h f t = wider _ (b + 2) k f h
turned_bound c b k false h f t = wider _ (b + 2) k t h

not_bound : (c : Choices) (n : ℕ) → IsUnder c n → IsUnder (line None (candidate rule.V4 (plus (words_of c.push) 1) ∷ []) (candidate rule.V4 (plus (words_of c.any) 1) ∷ []) (not_tests c)) (1 + n)
not_bound c n h =
    let b = h.bound in let u = h.under in
    line_bound None _ _ (not_tests c) (1 + n) (b + 12) (omega arith) (omega arith) (wider _ (b + 1) (b + 12) (plus_bound _ b 1 h.push) (omega arith), tt) (wider _ (b + 1) (b + 12) (plus_bound _ b 1 h.any) (omega arith), tt) (λ any sense i. (turned_bound c b (b + 12 + 2) sense (omega arith) h.on_false h.on_true, tt))

mixed_bound : (op : Op) (a b : Asked) (x y : Option ℕ) (i j k : ℕ) → Bound x i → Bound y j → i + j + 4 ≤ k → AllBound (mixed op a b x y) k
mixed_bound op a b x y i j k hx hy h = (
  given_bound _ _ k (wider _ (i + 2) k (sum_bound _ _ i 2 hx (operand_bound b.operand)) (omega arith)),
  (
    given_bound _ _ k (given_bound _ _ k (wider _ (j + 2) k (sum_bound _ _ j 2 hy (operand_bound a.operand)) (omega arith))),
    (
      without_bound op a b x y k (wider _ i k hx (omega arith)) (wider _ j k hy (omega arith)),
      (
        given_bound _ _ k (wider _ (i + 2) k (sum_bound _ _ i 2 hx (number_bound b.number)) (omega arith)),
        (
          given_bound _ _ k (wider _ (i + (2 + 2)) k (sum_bound _ _ i (2 + 2) hx (more_bound _ 2 2 (operand_bound b.operand))) (omega arith)),
          (
            given_bound _ _ k (given_bound _ _ k (wider _ (j + (1 + 2)) k (sum_bound _ _ j (1 + 2) hy (more_bound _ 2 1 (operand_bound a.operand))) (omega arith))),
            tt,
          ),
        ),
      ),
    ),
  ),
)

both_bound : (x y : Option ℕ) (i j m k : ℕ) → Bound x i → Bound y j → i + j + m ≤ k → Bound (plus (sum x y) m) k
both_bound x y i j m k hx hy h = wider _ (i + j + m) k (plus_bound _ (i + j) m (sum_bound x y i j hx hy)) h

worked_bound : (op : Op) (a b : Asked) (s m n k : ℕ) (ha : IsUnder a.choices m) (hb : IsUnder b.choices n) → ha.bound + hb.bound + 9 ≤ k → AllBound (worked op a b s) k
worked_bound op a b s m n k ha hb h =
    let i = ha.bound in let j = hb.bound in
    let w1 = w_few s in let w2 = w_few (s + 1) in (
      both_bound _ _ i j 1 k ha.any hb.push (omega arith),
      (
        given_bound _ _ k (given_bound _ _ k (both_bound _ _ j i 1 k hb.any ha.push (omega arith))),
        (
          given_bound _ _ k (given_bound _ _ k (both_bound _ _ j i 2 k hb.any ha.push (omega arith))),
          (
            given_bound _ _ k (both_bound _ _ i j (1 + 2 * w s) k ha.any hb.any (omega arith)),
            (
              given_bound _ _ k (both_bound _ _ j i (1 + 2 * w s) k hb.any ha.any (omega arith)),
              (
                both_bound _ _ i j (1 + 2 * w s + 2 * w (s + 1)) k ha.any hb.any (omega arith),
                (
                  given_bound _ _ k (both_bound _ _ i j (2 * w s) k ha.any hb.any (omega arith)),
                  (
                    given_bound _ _ k (both_bound _ _ i j (1 + 2 * w s) k ha.any hb.any (omega arith)),
                    tt,
                  ),
                ),
              ),
            ),
          ),
        ),
      ),
    )

tests_bound : (T : Table) (op : Op) (a b : Asked) (m n k : ℕ) (ha : IsUnder a.choices m) (hb : IsUnder b.choices n) → ha.bound + hb.bound + 9 ≤ k → (any : Option ℕ) (sense : Bool) → Bound any k → AllBound (pair_tests T op a b any sense) (k + 2)
tests_bound T op a b m n k ha hb h any false hv =
    let i = ha.bound in let j = hb.bound in
    let zero = plus_bound _ k 2 (beside_up (zero_number a.number) (zero_number b.number) (words_of a.choices.any) (words_of b.choices.any) k (wider _ i k ha.any (omega arith)) (wider _ j k hb.any (omega arith))) in (
      given_bound _ _ (k + 2) (wider _ (i + 2 + (j + 2)) (k + 2) (sum_bound _ _ (i + 2) (j + 2) ha.on_false hb.on_false) (omega arith)),
      (
        given_bound _ _ (k + 2) (wider _ (i + 2 + (j + 2)) (k + 2) (sum_bound _ _ (i + 2) (j + 2) ha.on_true hb.on_false) (omega arith)),
        (
          given_bound _ _ (k + 2) (plus_bound any k 2 hv),
          (
            given_bound _ _ (k + 2) (given_bound _ _ (k + 2) zero),
            (
              given_bound _ _ (k + 2) (given_bound _ _ (k + 2) zero),
              tt,
            ),
          ),
        ),
      ),
    )
tests_bound T op a b m n k ha hb h any true hv =
    let i = ha.bound in let j = hb.bound in
    let zero = plus_bound _ k 2 (beside_up (zero_number a.number) (zero_number b.number) (words_of a.choices.any) (words_of b.choices.any) k (wider _ i k ha.any (omega arith)) (wider _ j k hb.any (omega arith))) in (
      given_bound _ _ (k + 2) (wider _ (i + 2 + (j + 2)) (k + 2) (sum_bound _ _ (i + 2) (j + 2) ha.on_false hb.on_true) (omega arith)),
      (
        given_bound _ _ (k + 2) (wider _ (i + 2 + (j + 2)) (k + 2) (sum_bound _ _ (i + 2) (j + 2) ha.on_true hb.on_true) (omega arith)),
        (
          given_bound _ _ (k + 2) (plus_bound any k 2 hv),
          (
            given_bound _ _ (k + 2) (given_bound _ _ (k + 2) zero),
            (
              given_bound _ _ (k + 2) (given_bound _ _ (k + 2) zero),
              tt,
            ),
          ),
        ),
      ),
    )

pair_bound : (T : Table) (op : Op) (o : Option Operand) (a b : Asked) (s m n : ℕ) → IsUnder a.choices m → IsUnder b.choices n → IsUnder (line o (mixed op a b (words_of a.choices.push) (words_of b.choices.push)) (mixed op a b (words_of a.choices.any) (words_of b.choices.any) ++ worked op a b s) (pair_tests T op a b)) (1 + m + n)
pair_bound T op o a b s m n ha hb =
    let i = ha.bound in let j = hb.bound in let u = ha.under in let v = hb.under in
    let k = i + j + 12 in
    line_bound o _ _ (pair_tests T op a b) (1 + m + n) k (omega arith) (omega arith)
    (mixed_bound op a b (words_of a.choices.push) (words_of b.choices.push) i j k ha.push hb.push (omega arith))
    (bound_append (mixed op a b (words_of a.choices.any) (words_of b.choices.any)) (worked op a b s) k (mixed_bound op a b (words_of a.choices.any) (words_of b.choices.any) i j k ha.any hb.any (omega arith)) (worked_bound op a b s m n k ha hb (omega arith)))
    (tests_bound T op a b m n k ha hb (omega arith))

three_bound : (x y z : Option ℕ) (h i j k : ℕ) → Bound x h → Bound y i → Bound z j → h + i + j + 2 ≤ k → Bound (plus (sum (sum x y) z) 2) k
three_bound x y z h i j k hx hy hz e = wider _ (h + i + j + 2) k (plus_bound _ (h + i + j) 2 (sum_bound _ _ (h + i) j (sum_bound x y h i hx hy) hz)) e

pub number_tests_bound : (n k : ℕ) (any : Option ℕ) (sense : Bool) → Bound any k → AllBound (number_tests n any sense) (k + 2)
number_tests_bound n k any sense h = (plus_bound any k 2 h, (some_bound _ (k + 2) (cond_both (jumps_at sense n) 2 0 (λ c. c ≤ k + 2) (λ e. omega arith) (λ e. omega arith)), tt))

mutual
  pub under : (T : Table) (e : Exp) (s : ℕ) → IsUnder (choices T e s) (nodes e)
  under T (Num n) s = line_bound (operand_of (Num n)) [] [] (number_tests n) 1 2 (omega arith) (omega arith) tt tt (number_tests_bound n 2)
  under T (Frame k) s = line_bound (operand_of (Frame k)) [] [] by_value 1 2 (omega arith) (omega arith) tt tt (by_value_bound 2)
  under T (Glob n) s = line_bound (operand_of (Glob n)) [] [] by_value 1 2 (omega arith) (omega arith) tt tt (by_value_bound 2)
  under T (Place m) s = line_bound (operand_of (Place m)) [] [] by_value 1 2 (omega arith) (omega arith) tt tt (by_value_bound 2)
  under T (Load e) s = unary_bound rule.V2 (operand_of (Load e)) (choices T e s) (nodes e) (under T e s)
  under T (Neg e) s = unary_bound rule.V3 None (choices T e s) (nodes e) (under T e s)
  under T (Not e) s = not_bound (choices T e s) (nodes e) (under T e s)
  under T (Bin op a b) s = pair_bound T op (operand_of (Bin op a b)) (node_of T a (s + 1)) (node_of T b (s + 1)) s (nodes a) (nodes b) (under T a (s + 1)) (under T b (s + 1))
  under T (Cond c x y) s =
      let hc = under T c s in let hx = under T x s in let hy = under T y s in
      let h = hc.bound in let i = hx.bound in let j = hy.bound in
      let u1 = hc.under in let u2 = hx.under in let u3 = hy.under in
      let k = h + i + j + 12 in
      line_bound None [] _ by_value (1 + nodes c + nodes x + nodes y) k (omega arith) (omega arith) tt
      (three_bound _ _ _ (h + 2) i j k hc.on_false hx.any hy.any (omega arith), (three_bound _ _ _ (h + 2) j i k hc.on_true hy.any hx.any (omega arith), tt))
      (by_value_bound k)
  under T (Call es f) s =
      let hs = under_all T es (s + 2) in let hf = under T f (s + 2 + count es) in
      let j = hf.bound in let u = hf.under in let w1 = w_few s in
      let k = 16 * nodes_of_args es + j + 12 in
      line_bound None [] _ by_value (1 + nodes_of_args es + nodes f) k (omega arith) (omega arith) tt
      (both_bound _ _ (16 * nodes_of_args es) j (w s) k hs hf.any (omega arith), tt)
      (by_value_bound k)
  under T (Valof n) s = line_bound None [] _ by_value 1 2 (omega arith) (omega arith) tt (some_bound 0 2 (omega arith), tt) (by_value_bound 2)

  pub under_all : (T : Table) (es : Args) (s : ℕ) → Bound (words_of_all T es s) (16 * nodes_of_args es)
  under_all T no_argument s = some_bound 0 _ (omega arith)
  under_all T (argument e es) s =
      let h = under T e s in let b = h.bound in let u = h.under in let w1 = w_few s in
      wider _ (b + w s + 16 * nodes_of_args es) (16 * (nodes e + nodes_of_args es)) (sum_bound _ _ (b + w s) (16 * nodes_of_args es) (plus_bound _ b (w s) h.any) (under_all T es (s + 1))) (omega arith)

small_up : (x : Option ℕ) (k : ℕ) → UpTo x k → k < 2 ^ 60 → Small x
small_up None k h i = tt
small_up (Some n) k h i = omega arith

pub small_bound : (x : Option ℕ) (k : ℕ) → Bound x k → k < 2 ^ 60 → Small x
small_bound x k h i = small_up x k h.fact i

-- hence the words of every node are far below the limit of 64 bits
pub small : (T : Table) (e : Exp) (s : ℕ) → nodes e ≤ 2 ^ 40 → AreSmall (choices T e s)
small T e s h =
    let i = under T e s in let b = i.bound in let u = i.under in
    record {
      any = small_bound _ b i.any (omega arith);
      push = small_bound _ b i.push (omega arith);
      on_false = small_bound _ (b + 2) i.on_false (omega arith);
      on_true = small_bound _ (b + 2) i.on_true (omega arith);
    }

pub all_small : (T : Table) (es : Args) (s : ℕ) → nodes_of_args es ≤ 2 ^ 40 → Small (words_of_all T es s)
all_small T es s h = small_bound _ (16 * nodes_of_args es) (under_all T es s) (omega arith)

-- every expression has at least one node
pub some_node : (e : Exp) → 1 ≤ nodes e
some_node (Num n) = omega arith
some_node (Frame k) = omega arith
some_node (Glob n) = omega arith
some_node (Place m) = omega arith
some_node (Load e) = omega arith
some_node (Neg e) = omega arith
some_node (Not e) = omega arith
some_node (Bin op a b) = omega arith
some_node (Cond c x y) = omega arith
some_node (Call es f) = omega arith
some_node (Valof n) = omega arith

pub count_of_args : (es : Args) → count es ≤ nodes_of_args es
count_of_args no_argument = omega arith
count_of_args (argument e es) = let h = count_of_args es in let i = some_node e in omega arith

pub value_small : (T : Table) (c : Choices) (e : Exp) (s : ℕ) → nodes e ≤ 2 ^ 40 → c ≡ choices T e s → Small (words_of c.any)
value_small T c e s h i = let P : Choices → Type 0 = λ x. Small (words_of x.any) in subst P (sym i) (small T e s h).any

pub choices_small : (T : Table) (c : Choices) (e : Exp) (s : ℕ) → nodes e ≤ 2 ^ 40 → c ≡ choices T e s → AreSmall c
choices_small T c e s h i = let P : Choices → Type 0 = λ x. AreSmall x in subst P (sym i) (small T e s h)

pub words_small : (T : Table) (x : Option ℕ) (es : Args) (s : ℕ) → nodes_of_args es ≤ 2 ^ 40 → x ≡ words_of_all T es s → Small x
words_small T x es s h i = let P : Option ℕ → Type 0 = λ y. Small y in subst P (sym i) (all_small T es s h)

pub under_small : (c : Choices) (n : ℕ) → IsUnder c n → n ≤ 2 ^ 40 → AreSmall c
under_small c n i h =
    let b = i.bound in let u = i.under in
    record {
      any = small_bound _ b i.any (omega arith);
      push = small_bound _ b i.push (omega arith);
      on_false = small_bound _ (b + 2) i.on_false (omega arith);
      on_true = small_bound _ (b + 2) i.on_true (omega arith);
    }

-- an argument with the instruction that stores it
pub stored_small : (T : Table) (x : Option ℕ) (e : Exp) (s : ℕ) → nodes e ≤ 2 ^ 40 → x ≡ plus (words_of (choices T e s).any) (w s) → Small x
stored_small T x e s h i =
    let k = under T e s in let b = k.bound in let u = k.under in let few = w_few s in
    let P : Option ℕ → Type 0 = λ y. Small y in subst P (sym i) (small_bound _ (b + w s) (plus_bound _ b (w s) k.any) (omega arith))
