-- The waiting parts: what expanding a part into none, one, two or three sub-parts does to their greatest extent and weight.
use Rattle.std.proofs.Common.{◌≡◌, ℕ, ◌+◌, ◌<◌, max, List, [], ◌∷◌, ◌++◌, length, refl, ap, ◌∙◌, arith}
use Rattle.bc_core.specs.declared.expression.CoreExp.{CoreExp}
use Rattle.bc_core.specs.Tree.{count}
use Rattle.bc_core.specs.View.{args}
use Rattle.bc_interpret_frames.specs.declared.part.Construct.{Construct}
use Rattle.bc_interpret_frames.specs.Parts.{cells_of, weight_of_part, greatest, weight_of_all, Expanded}

pub greatest_more : (xs : List Construct) (x : Construct) → greatest (xs ++ x ∷ []) ≡ max (cells_of x) (greatest xs)
greatest_more [] x = refl
greatest_more (y ∷ xs) x = let h = greatest_more xs x in omega arith

pub weight_more : (xs : List Construct) (x : Construct) → weight_of_all (xs ++ x ∷ []) ≡ weight_of_part x + 1 + weight_of_all xs
weight_more [] x = refl
weight_more (y ∷ xs) x = let h = weight_more xs x in omega arith

pub count_args : (es : List CoreExp) → count (args es) ≡ length es
count_args [] = refl
count_args (e ∷ es) = let h = count_args es in omega arith

-- the greatest extent of the waiting parts and one more
pub grown : (x c g l n : ℕ) → l ≡ max x g → n ≡ max c l → n ≡ max (max x c) g
grown x c g l n e f = omega arith

counted : (own x g n cells : ℕ) → n ≡ max x g → cells ≡ max own x → max own n ≡ max cells g
counted own x g n cells e f = omega arith

regrouped : (a b c : ℕ) → max a (max b c) ≡ max (max a b) c
regrouped a b c = omega arith

pub none_waits : (cells weight : ℕ) (old : List Construct) → cells ≡ 0 → Expanded 0 cells weight old old
none_waits cells weight old e = record { greatest_is = omega arith; lighter = omega arith }

pub one_waits : (own cells weight c w : ℕ) (old new : List Construct)
    → greatest new ≡ max c (greatest old) → weight_of_all new ≡ w + 1 + weight_of_all old → cells ≡ max own c → w < weight → Expanded own cells weight old new
one_waits own cells weight c w old new e f g h = record { greatest_is = counted own c (greatest old) (greatest new) cells e g; lighter = omega arith }

pub two_wait : (own cells weight c w c1 w1 : ℕ) (old middle new : List Construct)
    → greatest middle ≡ max c (greatest old) → weight_of_all middle ≡ w + 1 + weight_of_all old
    → greatest new ≡ max c1 (greatest middle) → weight_of_all new ≡ w1 + 1 + weight_of_all middle
    → cells ≡ max own (max c c1) → w + w1 + 1 < weight → Expanded own cells weight old new
two_wait own cells weight c w c1 w1 old middle new e f e1 f1 g h = record {
  greatest_is = counted own (max c c1) (greatest old) (greatest new) cells (grown c c1 (greatest old) (greatest middle) (greatest new) e e1) g;
  lighter = omega arith;
}

pub three_wait : (own cells weight c w c1 w1 c2 w2 : ℕ) (old middle later new : List Construct)
    → greatest middle ≡ max c (greatest old) → weight_of_all middle ≡ w + 1 + weight_of_all old
    → greatest later ≡ max c1 (greatest middle) → weight_of_all later ≡ w1 + 1 + weight_of_all middle
    → greatest new ≡ max c2 (greatest later) → weight_of_all new ≡ w2 + 1 + weight_of_all later
    → cells ≡ max own (max c (max c1 c2)) → w + w1 + w2 + 2 < weight → Expanded own cells weight old new
three_wait own cells weight c w c1 w1 c2 w2 old middle later new e f e1 f1 e2 f2 g h = record {
  greatest_is =
      counted own (max (max c c1) c2) (greatest old) (greatest new) cells
      (grown (max c c1) c2 (greatest old) (greatest later) (greatest new) (grown c c1 (greatest old) (greatest middle) (greatest later) e e1) e2)
      (g ∙ ap (max own) (regrouped c c1 c2));
  lighter = omega arith;
}
