-- Where the nodes of an expression and of its parts end among those of a root.
use Rattle.std.proofs.Common.{◌≡◌, ℕ, ◌+◌, ◌-◌, List, [], ◌∷◌, ◌++◌, length, ap, sym, ◌∙◌, arith, length-append, append_assoc, append-nil}
use Rattle.bc_core.specs.Tree.{Exp}
use Rattle.bc_select.specs.declared.node.PartNode.{PartNode}
use Rattle.bc_select.specs.Ends.{EndsAt}
use Rattle.bc_select.specs.Vector.{node, before, vector}

-- all nodes end after the last
pub all_end : (ns ys : List PartNode) (end : ℕ) → ns ≡ ys → end ≡ length ns → EndsAt ns end ys
all_end ns ys end h i = record { front = []; following = []; is = h ∙ sym (append-nil ys); count = omega (arith, i, ap length h) }

-- of adjacent parts the last one ends where all end
pub last_part : (ns : List PartNode) (end : ℕ) (xs ys : List PartNode) → EndsAt ns end (xs ++ ys) → EndsAt ns end ys
last_part ns end xs ys h = record {
  front = h.front ++ xs;
  following = h.following;
  is = h.is ∙ ap (λ x. x ++ h.following) (sym (append_assoc h.front xs ys));
  count = omega (arith, h.count, length-append xs ys, length-append h.front xs);
}

-- the parts before it end where it begins
pub first_part : (ns : List PartNode) (end start : ℕ) (xs ys : List PartNode) → EndsAt ns end (xs ++ ys) → start ≡ end - length ys → EndsAt ns start xs
first_part ns end start xs ys h i = record {
  front = h.front;
  following = ys ++ h.following;
  is = h.is ∙ ap (λ x. x ++ h.following) (sym (append_assoc h.front xs ys)) ∙ append_assoc (h.front ++ xs) ys h.following;
  count = omega (arith, h.count, i, length-append xs ys);
}

-- the node of the expression itself is the last
pub at_end : (ns : List PartNode) (end : ℕ) (xs : List PartNode) (e : Exp) (s : ℕ) (h : EndsAt ns end (xs ++ vector e s)) → ns ≡ ((h.front ++ (xs ++ before e s)) ++ (node e s ∷ [])) ++ h.following
at_end ns end xs e s h =
    let last : List PartNode = node e s ∷ [] in
    h.is ∙ ap (λ x. x ++ h.following) (ap (λ x. h.front ++ x) (sym (append_assoc xs (before e s) last)) ∙ sym (append_assoc h.front (xs ++ before e s) last))

pub at_end_count : (ns : List PartNode) (end : ℕ) (xs : List PartNode) (e : Exp) (s : ℕ) (h : EndsAt ns end (xs ++ vector e s)) → end ≡ length (h.front ++ (xs ++ before e s)) + 1
at_end_count ns end xs e s h =
    omega (arith, h.count, length-append xs (vector e s), length-append (before e s) (node e s ∷ []), length-append h.front (xs ++ before e s), length-append xs (before e s))
