-- What the walk knows of a node, from what it knows of the node's parts.
use Rattle.std.proofs.Common.{◌≡◌, ℕ, ◌+◌, ◌<◌, ◌≤◌, List, [], ◌∷◌, ◌++◌, length, get_or, drop, map, Option, Some, None, refl, ap, sym, subst, ◌∙◌, append_assoc, append-nil, arith}
use Rattle.std.proofs.lemmas.List.{map-append, drop_more, drop_all}
use Rattle.bc_core.specs.declared.expression.CoreExp.{CoreExp}
use Rattle.bc_core.specs.Tree.{Exp, Num, Frame, Glob, Place, Load, Neg, Not, Bin, Cond, Call, Valof, Args, no_argument, argument, count}
use Rattle.bc_core.specs.View.{exp, args}
use Rattle.bc_core.specs.WellFormed.{nodes}
use Rattle.bc_rules_defs.specs.declared.rule.Table.TheVariants.{Two}
use Rattle.bc_rules_defs.specs.Piece.{w}
use Rattle.bc_select_defs.specs.Options.{plus, sum, words_of}
use Rattle.bc_select_defs.specs.Choices.{choices, words_of_all}
use Rattle.bc_select_defs.specs.declared.choice.Choices.{Choices}
use Rattle.bc_select_defs.specs.Nodes.{in_order, all_in_order}
use Rattle.bc_candidates.specs.declared.nodes.Arguments.{Arguments}
use Rattle.bc_candidates.specs.Aims.{ForAims}
use Rattle.bc_select.specs.Order.{parts_in_order}
use Rattle.bc_select.proofs.Wholes.{args_count}
use Rattle.bc_candidates.specs.Lists.{lists, choices_of, candidates_at}
use Rattle.bc_candidates.specs.Below.{AreArguments, Adds, IsOnTheWay}

pub choices_are : (e : Exp) (s : ℕ) → choices_of (lists Two e s) ≡ choices Two e s
choices_are (Num n) s = refl
choices_are (Frame k) s = refl
choices_are (Glob n) s = refl
choices_are (Place m) s = refl
choices_are (Load e) s = refl
choices_are (Neg e) s = refl
choices_are (Not e) s = refl
choices_are (Bin op a b) s = refl
choices_are (Cond c x y) s = refl
choices_are (Call es f) s = refl
choices_are (Valof n) s = refl

ends_in : (e : Exp) (s : ℕ) → in_order e s ≡ parts_in_order e s ++ ((e, s) ∷ [])
ends_in (Num n) s = refl
ends_in (Frame k) s = refl
ends_in (Glob n) s = refl
ends_in (Place m) s = refl
ends_in (Load e) s = refl
ends_in (Neg e) s = refl
ends_in (Not e) s = refl
ends_in (Bin op a b) s = refl
ends_in (Cond c x y) s = refl
ends_in (Call es f) s = refl
ends_in (Valof n) s = refl

pub both_added : (old mid new : List ForAims) (xs ys : List (Exp × ℕ)) → Adds old mid xs → Adds mid new ys → Adds old new (xs ++ ys)
both_added old mid new xs ys h i = record { is = i.is ∙ ap (λ z. z ++ map candidates_at ys) h.is ∙ append_assoc old (map candidates_at xs) (map candidates_at ys) ∙ ap (λ z. old ++ z) (sym (map-append candidates_at xs ys)) }

pub whole_added : (old mid new : List ForAims) (e : Exp) (s : ℕ) → Adds old mid (parts_in_order e s) → new ≡ mid ++ (candidates_at (e, s) ∷ []) → Adds old new (in_order e s)
whole_added old mid new e s h i = let P : List (Exp × ℕ) → Type 0 = λ xs. Adds old new xs in subst P (sym (ends_in e s)) (both_added old mid new (parts_in_order e s) ((e, s) ∷ []) h (record { is = i }))

sum_nought : (x : Option ℕ) → sum (Some 0) x ≡ x
unfolding sum
sum_nought None = refl
sum_nought (Some n) = let same : 0 + n ≡ n = omega arith in ap Some same

nought_sum : (x : Option ℕ) → sum x (Some 0) ≡ x
unfolding sum
nought_sum None = refl
nought_sum (Some n) = let same : n + 0 ≡ n = omega arith in ap Some same

sum_assoc : (x y z : Option ℕ) → sum (sum x y) z ≡ sum x (sum y z)
unfolding sum
sum_assoc None y z = refl
sum_assoc (Some x) None z = refl
sum_assoc (Some x) (Some y) None = refl
sum_assoc (Some x) (Some y) (Some z) = let same : x + y + z ≡ x + (y + z) = omega arith in ap Some same

pub on_begin : (a : Arguments) (old : List ForAims) (es : Args) (first : ℕ) → a.words ≡ Some 0 → a.nodes ≡ 0 → IsOnTheWay a old old es es first first
on_begin a old es first h i = record { words = ap (λ x. sum x (words_of_all Two es first)) h ∙ sum_nought (words_of_all Two es first); nodes = omega arith; found = refl }

pub on_step : (a b : Arguments) (old mid new : List ForAims) (e : Exp) (left es : Args) (level next first : ℕ) → IsOnTheWay a old mid (argument e left) es level first → b.words ≡ sum a.words (plus (words_of (choices Two e level).any) (w level)) → b.nodes ≡ a.nodes + nodes e → Adds mid new (in_order e level) → next ≡ level + 1 → IsOnTheWay b old new left es next first
on_step a b old mid new e left es level next first h i j k n =
    let P : ℕ → Type 0 = λ t. IsOnTheWay b old new left es t first in
    let hn = h.nodes in
    subst P (sym n) (record {
      words = ap (λ x. sum x (words_of_all Two left (level + 1))) i ∙ sum_assoc a.words (plus (words_of (choices Two e level).any) (w level)) (words_of_all Two left (level + 1)) ∙ h.words;
      nodes = omega arith;
      found = ap (λ z. z ++ map candidates_at (all_in_order left (level + 1))) k.is ∙ append_assoc mid (map candidates_at (in_order e level)) (map candidates_at (all_in_order left (level + 1))) ∙ ap (λ z. mid ++ z) (sym (map-append candidates_at (in_order e level) (all_in_order left (level + 1)))) ∙ h.found;
    })

pub on_end : (a : Arguments) (old new : List ForAims) (es : Args) (level first : ℕ) → IsOnTheWay a old new no_argument es level first → AreArguments a es first × Adds old new (all_in_order es first)
on_end a old new es level first h = let hn = h.nodes in (record { words = sym (nought_sum a.words) ∙ h.words; nodes = omega arith }, record { is = sym (append-nil new) ∙ h.found })

pub args_left : (es : List CoreExp) (i : ℕ) (e : CoreExp) → i < length es → e ≡ get_or es i e → args (drop i es) ≡ argument (exp e) (args (drop (i + 1) es))
args_left es i e h k = ap args (drop_more es i e h) ∙ ap (λ x. argument (exp x) (args (drop (i + 1) es))) (sym k)

pub none_left : (es : List CoreExp) (i : ℕ) → length es ≤ i → args (drop i es) ≡ no_argument
none_left es i h = ap args (drop_all i es h)

-- the level of a call's routine
pub after_all : (es : List CoreExp) (s inside following : ℕ) → inside ≡ s + 2 → following ≡ inside + length es → following ≡ s + 2 + count (args es)
after_all es s inside following h i = let k = args_count es in omega arith

-- the words of a call
pub call_words : (es : Args) (f : Exp) (s inside following k : ℕ) (c : Choices) (stored own all words : Option ℕ) → inside ≡ s + 2 → following ≡ s + 2 + count es → stored ≡ words_of_all Two es inside → c ≡ choices Two f following → own ≡ words_of c.any → all ≡ sum stored own → k ≡ w s → words ≡ plus all k → words ≡ plus (sum (words_of_all Two es (s + 2)) (words_of (choices Two f (s + 2 + count es)).any)) (w s)
call_words es f s inside following k c stored own all words hi hb hs hc ho ha hk hw =
    let first : stored ≡ words_of_all Two es (s + 2) = hs ∙ ap (words_of_all Two es) hi in
    let last : own ≡ words_of (choices Two f (s + 2 + count es)).any = ho ∙ ap (λ q. words_of q.any) (hc ∙ ap (choices Two f) hb) in
    let both : all ≡ sum (words_of_all Two es (s + 2)) (words_of (choices Two f (s + 2 + count es)).any) = ha ∙ ap (λ x. sum x own) first ∙ ap (sum (words_of_all Two es (s + 2))) last in
    hw ∙ ap (λ x. plus x k) both ∙ ap (plus (sum (words_of_all Two es (s + 2)) (words_of (choices Two f (s + 2 + count es)).any))) hk
