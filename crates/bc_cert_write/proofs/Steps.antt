-- The nodes of a call's arguments, appended one argument at a time.
use Rattle.std.proofs.Common.{◌≡◌, ℕ, ◌+◌, ◌<◌, Option, List, ◌∷◌, ◌++◌, length, get_or, drop, ap, sym, ◌∙◌, arith, add-one, append_assoc, drop-cons, Result, Ok, Err, OnOk}
use Rattle.bc_core.specs.declared.expression.CoreExp.{CoreExp}
use Rattle.bc_core.specs.Tree.{Exp, argument, count}
use Rattle.bc_core.specs.View.{exp, args}
use Rattle.bc_core.specs.WellFormed.{nodes, nodes_of_args}
use Rattle.bc_rules_defs.specs.declared.derivation.Derivation.{Derivation}
use Rattle.bc_rules_defs.specs.Rules.{Tree}
use Rattle.bc_rules_defs.specs.View.{derivations}
use Rattle.bc_select.proofs.Wholes.{args_count}
use Rattle.bc_cert_write.specs.declared.mark.NodeMark.{NodeMark}
use Rattle.bc_cert_write.specs.Walked.{first, rest, mark, all_with, whole_with, after_arguments}
use Rattle.bc_cert_write.proofs.Seen.{next_trees, after_seen_all}

pub next_argument : (es : List CoreExp) (i : ℕ) (e : CoreExp) → i < length es → e ≡ get_or es i e → args (drop i es) ≡ argument (exp e) (args (drop (i + 1) es))
next_argument es i e h is =
    ap args (drop-cons es i e h ∙ ap (λ n. get_or es i e ∷ drop n es) (sym (add-one i)))
    ∙ ap (λ x. argument (exp x) (args (drop (i + 1) es))) (sym is)

moved : (xs ys zs us vs ws : List NodeMark) → ys ≡ xs ++ zs → us ≡ zs ++ vs → xs ++ us ≡ ws → ys ++ vs ≡ ws
moved xs ys zs us vs ws h i j = ap (λ l. l ++ vs) h ∙ append_assoc xs zs vs ∙ ap (λ l. xs ++ l) (sym i) ∙ j

-- the nodes of the i-th argument follow those of the arguments before it
pub arguments_more : (now new whole : List NodeMark) (es : List CoreExp) (xs : List Derivation) (s i : ℕ) (e : CoreExp) (t : Option Tree)
    → i < length es → e ≡ get_or es i e → t ≡ first (derivations (drop i xs)) → new ≡ now ++ whole_with mark (exp e) (s + i) t
    → now ++ all_with mark (args (drop i es)) (s + i) (derivations (drop i xs)) ≡ whole
    → new ++ all_with mark (args (drop (i + 1) es)) (s + (i + 1)) (derivations (drop (i + 1) xs)) ≡ whole
arguments_more now new whole es xs s i e t h is at news so_far =
    let n : s + i + 1 ≡ s + (i + 1) = omega arith in
    let parted : all_with mark (args (drop i es)) (s + i) (derivations (drop i xs)) ≡ whole_with mark (exp e) (s + i) t ++ all_with mark (args (drop (i + 1) es)) (s + (i + 1)) (derivations (drop (i + 1) xs)) =
    ap (λ a. all_with mark a (s + i) (derivations (drop i xs))) (next_argument es i e h is)
    ∙ ap (λ q. whole_with mark (exp e) (s + i) q ++ all_with mark (args (drop (i + 1) es)) (s + i + 1) (rest (derivations (drop i xs)))) (sym at)
    ∙ ap (λ m. whole_with mark (exp e) (s + i) t ++ all_with mark (args (drop (i + 1) es)) m (rest (derivations (drop i xs)))) n
    ∙ ap (λ q. whole_with mark (exp e) (s + i) t ++ all_with mark (args (drop (i + 1) es)) (s + (i + 1)) q) (sym (next_trees xs i)) in
    moved now new (whole_with mark (exp e) (s + i) t) _ _ whole news parted so_far

pub nodes_more : (es : List CoreExp) (i : ℕ) (e : CoreExp) → i < length es → e ≡ get_or es i e → nodes_of_args (args (drop i es)) ≡ nodes (exp e) + nodes_of_args (args (drop (i + 1) es))
nodes_more es i e h is = ap nodes_of_args (next_argument es i e h is)

pub on_ok : {X E P Q : Type 0} (r : Result X E) → (P → Q) → OnOk r P → OnOk r Q
on_ok (Ok x) f h = f h
on_ok (Err e) f h = h

-- the routine's nodes follow those of the arguments
pub routine_after : (old mid new : List NodeMark) (es : List CoreExp) (f : Exp) (s : ℕ) (xs : List Derivation) (t : Option Tree)
    → mid ≡ old ++ all_with mark (args es) (s + 2) (derivations xs) → t ≡ first (derivations (drop (length es) xs))
    → new ≡ mid ++ whole_with mark f (s + 2 + length es) t
    → new ≡ old ++ (all_with mark (args es) (s + 2) (derivations xs) ++ whole_with mark f (s + 2 + count (args es)) (first (after_arguments (args es) (derivations xs))))
routine_after old mid new es f s xs t h i j =
    j ∙ ap (λ n. mid ++ whole_with mark f (s + 2 + n) t) (sym (args_count es))
    ∙ ap (λ q. mid ++ whole_with mark f (s + 2 + count (args es)) q) (i ∙ ap first (sym (after_seen_all es xs)))
    ∙ ap (λ l. l ++ whole_with mark f (s + 2 + count (args es)) (first (after_arguments (args es) (derivations xs)))) h
    ∙ append_assoc old _ _
