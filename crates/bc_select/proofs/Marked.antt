-- Building from the marks of trees gives these trees.
use Rattle.std.proofs.Common.{◌≡◌, ℕ, zero, suc, ◌+◌, ◌-◌, ◌<◌, refl, ap, sym, ◌∙◌, List, [], ◌∷◌, ◌++◌, length, take, drop, append-nil, append_assoc, length-append, arith, add-one}
use Rattle.bc_rules_defs.specs.declared.derivation.Derivation.{Derivation}
use Rattle.bc_rules_defs.specs.declared.rule.Rule.{Rule}
use Rattle.bc_rules_defs.specs.Rules.{Tree, Trees, by, no_part, part, one, end_with}
use Rattle.bc_rules_defs.specs.View.{derivation, derivations}
use Rattle.bc_select.specs.declared.derivations.RuleMark.{RuleMark}
use Rattle.bc_select.specs.declared.node.PartNode.{PartNode}
use Rattle.bc_select.specs.declared.pending.Waiting.{Waiting}
use Rattle.bc_select.specs.Marks.{size, marks, marks_of_all, first, rest, close, unwind}
use Rattle.bc_select.specs.Waiting.{tree_of, trees_of, Added}
use Rattle.bc_select.proofs.Waits.{joined, joined_nothing, joined_shift, joined_size, trees_append, trees_size}

-- the first trees of a joined list
first_joined : (ts us : Trees) → first (size ts) (joined ts us) ≡ ts
first_joined no_part us = refl
first_joined (part t ts) us = rw (add-one (size ts)) (ap (part t) (first_joined ts us))

rest_joined : (ts us : Trees) → rest (size ts) (joined ts us) ≡ us
rest_joined no_part us = refl
rest_joined (part t ts) us = rw (add-one (size ts)) (rest_joined ts us)

unwind_append : (xs ys : List RuleMark) (ts : Trees) → unwind (xs ++ ys) ts ≡ unwind xs (unwind ys ts)
unwind_append [] ys ts = refl
unwind_append (x ∷ xs) ys ts = ap (close x) (unwind_append xs ys ts)

mutual
  one_back : (t : Tree) (us : Trees) → unwind (marks t) us ≡ end_with us t
  one_back (by r ts) us =
      let both = joined us ts in
      let few : size both - size ts ≡ size us = omega (arith, joined_size us ts) in
      ap (close (record { rule = r; parts = size ts })) (all_back ts us)
      ∙ ap (λ k. end_with (first k both) (by r (rest k both))) few
      ∙ ap (λ x. end_with x (by r (rest (size us) both))) (first_joined us ts) ∙ ap (λ x. end_with us (by r x)) (rest_joined us ts)

  all_back : (ts us : Trees) → unwind (marks_of_all ts) us ≡ joined us ts
  all_back no_part us = sym (joined_nothing us)
  all_back (part t ts) us =
      unwind_append (marks_of_all ts) (marks t) us ∙ ap (unwind (marks_of_all ts)) (one_back t us) ∙ all_back ts (end_with us t) ∙ joined_shift us ts t

pub made : (ms : List RuleMark) (ts : Trees) → ms ≡ marks_of_all ts → unwind ms no_part ≡ ts
made ms ts h = ap (λ x. unwind x no_part) h ∙ all_back ts no_part

pub unwind_last : (xs : List RuleMark) (x : RuleMark) (ts : Trees) → unwind (xs ++ (x ∷ [])) ts ≡ unwind xs (close x ts)
unwind_last xs x ts = unwind_append xs (x ∷ []) ts

marks_joined : (ts us : Trees) → marks_of_all (joined ts us) ≡ marks_of_all us ++ marks_of_all ts
marks_joined no_part us = sym (append-nil (marks_of_all us))
marks_joined (part t ts) us = ap (λ x. x ++ marks t) (marks_joined ts us) ∙ append_assoc (marks_of_all us) (marks_of_all ts) (marks t)

-- derivations as trees
pub derivations_end : (ds : List Derivation) (d : Derivation) → derivations (ds ++ (d ∷ [])) ≡ end_with (derivations ds) (derivation d)
derivations_end [] d = refl
derivations_end (x ∷ ds) d = ap (part (derivation x)) (derivations_end ds d)

pub derivations_first : (n : ℕ) (ds : List Derivation) → derivations (take n ds) ≡ first n (derivations ds)
derivations_first zero ds = refl
derivations_first (suc n) [] = refl
derivations_first (suc n) (d ∷ ds) = ap (part (derivation d)) (derivations_first n ds)

pub derivations_rest : (n : ℕ) (ds : List Derivation) → derivations (drop n ds) ≡ rest n (derivations ds)
derivations_rest zero ds = refl
derivations_rest (suc n) [] = refl
derivations_rest (suc n) (d ∷ ds) = derivations_rest n ds

pub derivations_size : (ds : List Derivation) → size (derivations ds) ≡ length ds
derivations_size [] = refl
derivations_size (d ∷ ds) = omega (arith, derivations_size ds)

-- one step of the loop: the last waiting expression is taken and replaced by its parts
pub listed_more : (nodes : List PartNode) (old left new : List Waiting) (next : Waiting) (rule : Rule) (ts : Trees) (done all : List RuleMark) (n : ℕ) → old ≡ left ++ (next ∷ []) → Added nodes left new ts → by rule ts ≡ tree_of next → n + length left ≡ length new → done ++ marks_of_all (trees_of old) ≡ all → (done ++ (record { rule = rule; parts = n } ∷ [])) ++ marks_of_all (trees_of new) ≡ all
listed_more nodes old left new next rule ts done all n h i j k l =
    let few : n ≡ size ts = omega (arith, ap length i.is, length-append left i.added, trees_size i.added, ap size i.trees_are, k) in
    let mark : RuleMark = record { rule = rule; parts = n } in
    let now : trees_of new ≡ joined (trees_of left) ts = ap trees_of i.is ∙ trees_append left i.added ∙ ap (joined (trees_of left)) i.trees_are in
    let was : trees_of old ≡ joined (trees_of left) (one (by rule ts)) = ap trees_of h ∙ trees_append left (next ∷ []) ∙ ap (λ x. joined (trees_of left) (one x)) (sym j) in
    append_assoc done (mark ∷ []) (marks_of_all (trees_of new))
    ∙ ap (λ x. done ++ (record { rule = rule; parts = x } ∷ marks_of_all (trees_of new))) few
    ∙ ap (λ x. done ++ (record { rule = rule; parts = size ts } ∷ x)) (ap marks_of_all now ∙ marks_joined (trees_of left) ts)
    ∙ ap (λ x. done ++ x) (sym (ap marks_of_all was ∙ marks_joined (trees_of left) (one (by rule ts)))) ∙ l

-- with one mark more, fewer remain
pub fewer : (done more all : List RuleMark) (m : RuleMark) (us : List RuleMark) → (done ++ (m ∷ [])) ++ us ≡ all → more ≡ done ++ (m ∷ []) → length all - length more < length all - length done
fewer done more all m us h i =
    omega (arith, sym (ap length h), length-append (done ++ (m ∷ [])) us, length-append done (m ∷ []), ap length i)
