-- Appending to the waiting expressions.
use Rattle.std.proofs.Common.{◌≡◌, ◌+◌, refl, ap, sym, ◌∙◌, List, [], ◌∷◌, ◌++◌, length, append-nil, append_assoc, arith}
use Rattle.bc_rules_defs.specs.Rules.{Tree, Trees, no_part, part, one, two, three, end_with}
use Rattle.bc_select.specs.declared.node.PartNode.{PartNode}
use Rattle.bc_select.specs.declared.pending.Waiting.{Waiting}
use Rattle.bc_select.specs.Marks.{size}
use Rattle.bc_select.specs.Waiting.{tree_of, trees_of, IsReady, AreReady, Added}

abbrev pub joined : Trees → Trees → Trees
joined no_part us = us
joined (part t ts) us = part t (joined ts us)

pub joined_one : (ts : Trees) (t : Tree) → joined ts (one t) ≡ end_with ts t
joined_one no_part t = refl
joined_one (part x ts) t = ap (part x) (joined_one ts t)

pub joined_nothing : (ts : Trees) → joined ts no_part ≡ ts
joined_nothing no_part = refl
joined_nothing (part x ts) = ap (part x) (joined_nothing ts)

-- a tree can be moved from the end of one list to the start of the next
pub joined_shift : (us ts : Trees) (t : Tree) → joined (end_with us t) ts ≡ joined us (part t ts)
joined_shift no_part ts t = refl
joined_shift (part x us) ts t = ap (part x) (joined_shift us ts t)

pub joined_size : (ts us : Trees) → size (joined ts us) ≡ size ts + size us
joined_size no_part us = omega arith
joined_size (part t ts) us = omega (arith, joined_size ts us)

pub trees_append : (xs ys : List Waiting) → trees_of (xs ++ ys) ≡ joined (trees_of xs) (trees_of ys)
trees_append [] ys = refl
trees_append (x ∷ xs) ys = ap (part (tree_of x)) (trees_append xs ys)

pub trees_size : (xs : List Waiting) → size (trees_of xs) ≡ length xs
trees_size [] = refl
trees_size (x ∷ xs) = omega (arith, trees_size xs)

pub ready_append : (all : List PartNode) (xs ys : List Waiting) → AreReady all xs → AreReady all ys → AreReady all (xs ++ ys)
ready_append all [] ys h i = i
ready_append all (x ∷ xs) ys h i = (h.0, ready_append all xs ys h.1 i)

pub ready_front : (all : List PartNode) (xs ys : List Waiting) → AreReady all (xs ++ ys) → AreReady all xs
ready_front all [] ys h = tt
ready_front all (x ∷ xs) ys h = (h.0, ready_front all xs ys h.1)

pub ready_last : (all : List PartNode) (xs : List Waiting) (y : Waiting) → AreReady all (xs ++ (y ∷ [])) → IsReady all y
ready_last all [] y h = h.0
ready_last all (x ∷ xs) y h = ready_last all xs y h.1

pub added_nothing : (all : List PartNode) (xs : List Waiting) → Added all xs xs no_part
added_nothing all xs = record { added = []; is = sym (append-nil xs); ready = tt; trees_are = refl }

pub added_then : (all : List PartNode) (a b c : List Waiting) (t : Tree) (ts : Trees) → Added all a b (one t) → Added all b c ts → Added all a c (part t ts)
added_then all a b c t ts h i = record {
  added = h.added ++ i.added;
  is = i.is ∙ ap (λ x. x ++ i.added) h.is ∙ append_assoc a h.added i.added;
  ready = ready_append all h.added i.added h.ready i.ready;
  trees_are = trees_append h.added i.added ∙ ap (λ x. joined x (trees_of i.added)) h.trees_are ∙ ap (part t) i.trees_are;
}

pub added_end : (all : List PartNode) (a b c : List Waiting) (ts : Trees) (t : Tree) → Added all a b ts → Added all b c (one t) → Added all a c (end_with ts t)
added_end all a b c ts t h i = record {
  added = h.added ++ i.added;
  is = i.is ∙ ap (λ x. x ++ i.added) h.is ∙ append_assoc a h.added i.added;
  ready = ready_append all h.added i.added h.ready i.ready;
  trees_are = trees_append h.added i.added ∙ ap (λ x. joined x (trees_of i.added)) h.trees_are ∙ ap (joined ts) i.trees_are ∙ joined_one ts t;
}

pub added_two : (all : List PartNode) (a b c : List Waiting) (t u : Tree) → Added all a b (one t) → Added all b c (one u) → Added all a c (two t u)
added_two all a b c t u h i = added_then all a b c t (one u) h i

pub added_three : (all : List PartNode) (a b c d : List Waiting) (t u v : Tree) → Added all a b (one t) → Added all b c (one u) → Added all c d (one v) → Added all a d (three t u v)
added_three all a b c d t u v h i j = added_then all a b d t (two u v) h (added_two all b c d u v i j)
