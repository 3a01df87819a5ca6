-- Where the nodes of parts end, and the words of arguments, summed from the last to the first.
use Rattle.std.proofs.Common.{◌≡◌, ◌||◌, ℕ, ◌+◌, ◌*◌, ◌≤◌, ◌^◌, List, [], ◌∷◌, ◌++◌, length, Option, Some, Result, Ok, Err, refl, ap, sym, ◌∙◌, arith, append_assoc}
use Rattle.std.specs.Prelude.{OnOk}
use Rattle.bc_word.specs.declared.operator.Op.{Op}
use Rattle.bc_core.specs.Tree.{Exp, Bin, Cond, Call, Args, no_argument, argument, count}
use Rattle.bc_core.specs.WellFormed.{nodes, nodes_of_args}
use Rattle.bc_core.proofs.Rows.{then_argument, args_append}
use Rattle.bc_core.specs.declared.expression.CoreExp.{CoreExp}
use Rattle.bc_core.specs.View.{exp, args}
use Rattle.bc_rules_defs.specs.declared.rule.Table.TheVariants.{Two}
use Rattle.bc_rules_defs.specs.Piece.{w}
use Rattle.bc_select_defs.specs.Choices.{choices, words_of_all, cond_choices}
use Rattle.bc_select_defs.specs.Options.{plus, sum, words_of}
use Rattle.bc_select.specs.declared.node.PartNode.{PartNode}
use Rattle.bc_select.specs.declared.node_of_parts.Arguments.{Arguments}
use Rattle.bc_select.specs.Cut.{IsCut}
use Rattle.bc_select.specs.Laid.{EndsInParts, EndsInArguments, AreFew, words_before}
use Rattle.bc_select.specs.Small.{Small}
use Rattle.bc_select.specs.Vector.{node, before_all, vector}
use Rattle.bc_select.proofs.Bounds.{Bound, under, small_bound, sum_bound, plus_bound, wider, w_few}
use Rattle.bc_select.proofs.Readings.{before_all-then, nodes-then}
use Rattle.bc_select.proofs.Wholes.{args_count}

pub right_of : (ns : List PartNode) (op : Op) (a b : Exp) (s : ℕ) (h : EndsInParts ns (Bin op a b) s) → ns ≡ (h.front ++ vector a (s + 1)) ++ vector b (s + 1)
right_of ns op a b s h = h.is ∙ sym (append_assoc h.front (vector a (s + 1)) (vector b (s + 1)))

pub that_of : (ns : List PartNode) (c x y : Exp) (s : ℕ) (h : EndsInParts ns (Cond c x y) s) → ns ≡ (h.front ++ (vector c s ++ vector x s)) ++ vector y s
that_of ns c x y s h = h.is ∙ sym (append_assoc h.front (vector c s ++ vector x s) (vector y s))

pub this_of : (ns front : List PartNode) (c x : Exp) (s : ℕ) → ns ≡ front ++ (vector c s ++ vector x s) → ns ≡ (front ++ vector c s) ++ vector x s
this_of ns front c x s h = h ∙ sym (append_assoc front (vector c s) (vector x s))

pub routine_of : (ns : List PartNode) (es : Args) (f : Exp) (s : ℕ) (h : EndsInParts ns (Call es f) s) → ns ≡ (h.front ++ before_all es (s + 2)) ++ vector f (s + 2 + count es)
routine_of ns es f s h = h.is ∙ sym (append_assoc h.front (before_all es (s + 2)) (vector f (s + 2 + count es)))

stored : Exp → ℕ → Option ℕ
stored e s = plus (words_of (choices Two e s).any) (w s)

pub words_before-then : (es : Args) (e : Exp) (s : ℕ) (following : Option ℕ) → words_before (then_argument es e) s following ≡ words_before es s (sum (plus (words_of (choices Two e (s + count es)).any) (w (s + count es))) following)
unfolding stored
words_before-then no_argument e s following = let same : s ≡ s + count no_argument = omega arith in ap (λ n. sum (stored e n) following) same
words_before-then (argument d es) e s following =
    ap (sum (stored d s)) (words_before-then es e (s + 1) following) ∙ ap (λ n. sum (stored d s) (words_before es (s + 1) (sum (stored e n) following))) (omega arith)

pub words_all : (es : Args) (s : ℕ) → words_before es s (Some 0) ≡ words_of_all Two es s
words_all no_argument s = refl
words_all (argument e es) s = ap (sum (plus (words_of (choices Two e s).any) (w s))) (words_all es (s + 1))

pub few_bound : (a : Arguments) → AreFew a → Bound a.words (16 * a.nodes)
few_bound a h = record { fact = h.words }

pub few_small : (a : Arguments) → AreFew a → a.nodes ≤ 2 ^ 40 → Small a.words
few_small a h i = small_bound a.words (16 * a.nodes) (few_bound a h) (omega arith)

-- with one more argument before the others
pub few_more : (a b : Arguments) (e : Exp) (s : ℕ) → AreFew a → b.words ≡ sum (plus (words_of (choices Two e s).any) (w s)) a.words → b.nodes ≡ nodes e + a.nodes → AreFew b
unfolding stored
few_more a b e s h i j =
    let k = under Two e s in let n = k.bound in let u = k.under in let few = w_few s in
    let all : Bound (sum (stored e s) a.words) (16 * (nodes e + a.nodes)) = wider _ (n + w s + 16 * a.nodes) _ (sum_bound _ a.words (n + w s) (16 * a.nodes) (plus_bound _ n (w s) k.any) (few_bound a h)) (omega arith) in
    record { words = rw (i, j) all.fact }

-- the last argument's nodes are the last
pub last_argument : (ns : List PartNode) (es others : List CoreExp) (e : CoreExp) (s : ℕ) (h : EndsInArguments ns (args es) s) → es ≡ others ++ (e ∷ []) → ns ≡ (h.front ++ before_all (args others) s) ++ vector (exp e) (s + length others)
last_argument ns es others e s h i =
    h.is ∙ ap (λ x. h.front ++ before_all x s) (ap args i ∙ args_append others e) ∙ ap (λ x. h.front ++ x) (before_all-then (args others) (exp e) s)
    ∙ sym (append_assoc h.front (before_all (args others) s) (vector (exp e) (s + count (args others)))) ∙ ap (λ m. (h.front ++ before_all (args others) s) ++ vector (exp e) (s + m)) (args_count others)

pub last_nodes : (es others : List CoreExp) (e : CoreExp) → es ≡ others ++ (e ∷ []) → nodes_of_args (args es) ≡ nodes_of_args (args others) + nodes (exp e)
last_nodes es others e h = ap nodes_of_args (ap args h ∙ args_append others e) ∙ nodes-then (args others) (exp e)

pub last_words : (es others : List CoreExp) (e : CoreExp) (s : ℕ) (following : Option ℕ) → es ≡ others ++ (e ∷ []) → words_before (args es) s following ≡ words_before (args others) s (sum (plus (words_of (choices Two (exp e) (s + length others)).any) (w (s + length others))) following)
last_words es others e s following h =
    ap (λ x. words_before x s following) (ap args h ∙ args_append others e) ∙ words_before-then (args others) (exp e) s following
    ∙ ap (λ m. words_before (args others) s (sum (plus (words_of (choices Two (exp e) (s + m)).any) (w (s + m))) following)) (args_count others)

-- what `last` and `cut` say about nodes
abbrev pub CutOf : List PartNode → List PartNode → List PartNode → Type 0
CutOf ns front back = (xs : List PartNode) (e : Exp) (s : ℕ) → ns ≡ xs ++ vector e s → IsCut front back xs (vector e s)

pub front_of_right : (ns front back : List PartNode) (op : Op) (a b : Exp) (s : ℕ) (h : EndsInParts ns (Bin op a b) s) → CutOf ns front back → front ≡ h.front ++ vector a (s + 1)
front_of_right ns front back op a b s h f = (f (h.front ++ vector a (s + 1)) b (s + 1) (right_of ns op a b s h)).first_is

pub front_of_that : (ns front back : List PartNode) (c x y : Exp) (s : ℕ) (h : EndsInParts ns (Cond c x y) s) → CutOf ns front back → front ≡ (h.front ++ vector c s) ++ vector x s
front_of_that ns front back c x y s h f = this_of front h.front c x s (f (h.front ++ (vector c s ++ vector x s)) y s (that_of ns c x y s h)).first_is

pub front_of_this : (ns front back test this : List PartNode) (c x y : Exp) (s : ℕ) (h : EndsInParts ns (Cond c x y) s) → CutOf ns front back → CutOf front test this → test ≡ h.front ++ vector c s
front_of_this ns front back test this c x y s h f g = (g (h.front ++ vector c s) x s (front_of_that ns front back c x y s h f)).first_is

joined : PartNode → PartNode → PartNode → PartNode
joined c x y = record { choices = cond_choices c.choices x.choices y.choices; calls = c.calls || x.calls || y.calls; nodes = 1 + c.nodes + x.nodes + y.nodes }

pub cond_whole : (r c x y : PartNode) (ec ex ey : Exp) (s : ℕ) → c ≡ node ec s → x ≡ node ex s → y ≡ node ey s → r ≡ record { choices = cond_choices c.choices x.choices y.choices; calls = c.calls || x.calls || y.calls; nodes = 1 + c.nodes + x.nodes + y.nodes } → r ≡ node (Cond ec ex ey) s
unfolding joined
cond_whole r c x y ec ex ey s i j k h =
    h ∙ ap (λ q. joined q x y) i ∙ ap (λ q. joined (node ec s) q y) j ∙ ap (λ q. joined (node ec s) (node ex s) q) k

pub on_ok : {A E : Type 0} (r : Result A E) (P Q : Type 0) → (P → Q) → OnOk r P → OnOk r Q
on_ok (Ok x) P Q f h = f h
on_ok (Err e) P Q f h = tt
