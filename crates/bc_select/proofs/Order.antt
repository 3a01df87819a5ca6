-- Expressions in the order of their nodes, and making the nodes one after the other.
use Rattle.std.proofs.Common.{◌≡◌, ℕ, ◌+◌, ◌*◌, ◌-◌, ◌≤◌, ◌<◌, ◌^◌, List, [], ◌∷◌, ◌++◌, length, map, reverse, Option, Some, Result, Ok, Err, refl, ap, sym, subst, ◌∙◌, arith, append-nil, append_assoc, length-append}
use Rattle.std.specs.Prelude.{IfOk}
use Rattle.std.proofs.lemmas.List.{reverse-append, length-map, length-reverse}
use Rattle.bc_core.specs.Tree.{Exp, Num, Frame, Glob, Place, Load, Neg, Not, Bin, Cond, Call, Valof, Args, no_argument, argument, count, Root}
use Rattle.bc_core.specs.View.{exp}
use Rattle.bc_core.specs.WellFormed.{nodes, nodes_of_args}
use Rattle.bc_select_defs.specs.Nodes.{in_order, all_in_order}
use Rattle.bc_select.specs.declared.layout.AtLevel.{AtLevel}
use Rattle.bc_select.specs.declared.node.PartNode.{PartNode}
use Rattle.bc_select.specs.Order.{expression_at, from_the_end, in_order_of, parts_in_order, Fits, AllFit, listed, AreOf, ArgumentsPut, PartsPut, node_at, CanFollow}
use Rattle.bc_select.specs.Selection.{root_vector}
use Rattle.bc_select.proofs.Bounds.{some_node, count_of_args}
use Rattle.bc_select.proofs.Vectors.{before_is, root_vector_is}

-- an expression comes after all its parts
whole_last : (e : Exp) (s : ℕ) → in_order e s ≡ parts_in_order e s ++ ((e, s) ∷ [])
whole_last (Num n) s = refl
whole_last (Frame k) s = refl
whole_last (Glob n) s = refl
whole_last (Place m) s = refl
whole_last (Load e) s = refl
whole_last (Neg e) s = refl
whole_last (Not e) s = refl
whole_last (Bin op a b) s = refl
whole_last (Cond c x y) s = refl
whole_last (Call es f) s = refl
whole_last (Valof n) s = refl

order_append : (xs ys : List AtLevel) → in_order_of (xs ++ ys) ≡ in_order_of xs ++ in_order_of ys
order_append [] ys = refl
order_append (x ∷ xs) ys = ap (λ zs. in_order (exp x.e.now) x.level ++ zs) (order_append xs ys) ∙ sym (append_assoc (in_order (exp x.e.now) x.level) (in_order_of xs) (in_order_of ys))

order_of_one : (x : AtLevel) → in_order_of (x ∷ []) ≡ in_order (exp x.e.now) x.level
order_of_one x = append-nil (in_order (exp x.e.now) x.level)

fit_append : (xs ys : List AtLevel) → AllFit xs → AllFit ys → AllFit (xs ++ ys)
fit_append [] ys h i = i
fit_append (x ∷ xs) ys h i = (h.0, fit_append xs ys h.1 i)

fit_front : (xs ys : List AtLevel) → AllFit (xs ++ ys) → AllFit xs
fit_front [] ys h = tt
fit_front (x ∷ xs) ys h = (h.0, fit_front xs ys h.1)

pub fit_last : (xs : List AtLevel) (x : AtLevel) → AllFit (xs ++ (x ∷ [])) → Fits x
fit_last [] x h = h.0
fit_last (y ∷ xs) x h = fit_last xs x h.1

end_more : (xs : List AtLevel) (x : AtLevel) → from_the_end (xs ++ (x ∷ [])) ≡ expression_at x ∷ from_the_end xs
end_more xs x = ap (map expression_at) (reverse-append xs (x ∷ []))

-- the arguments of a call are appended, and its routine is the last part
pub call_parts : (old new : List AtLevel) (es : Args) (f : Exp) (s : ℕ) (x whole : AtLevel) → exp whole.e.now ≡ Call es f → whole.level ≡ s → ArgumentsPut old new es (s + 2) → exp x.e.now ≡ f → x.level ≡ s + 2 + count es → Fits whole → PartsPut old new (Some x) whole
call_parts old new es f s x whole h i j k l m =
    let few = count_of_args es in let n : nodes (exp whole.e.now) ≡ 1 + nodes_of_args es + nodes f = ap nodes h in let o : nodes (exp x.e.now) ≡ nodes f = ap nodes k in let p = m.is in
    record {
      added = j.added;
      is = j.is;
      fit = fit_append j.added (x ∷ []) j.fit (record { is = omega arith }, tt);
      order =
          order_append j.added (x ∷ []) ∙ ap (λ y. y ++ in_order_of (x ∷ [])) j.order ∙ ap (λ y. all_in_order es (s + 2) ++ y) (order_of_one x)
          ∙ ap (λ y. all_in_order es (s + 2) ++ in_order y x.level) k ∙ ap (λ y. all_in_order es (s + 2) ++ in_order f y) l
          ∙ sym (ap (λ y. parts_in_order y whole.level) h ∙ ap (parts_in_order (Call es f)) i);
    }

-- one step of the loop: an expression is listed and replaced by its parts
pub fit_more : (old new : List AtLevel) (last : Option AtLevel) (x : AtLevel) → PartsPut old new last x → AllFit (old ++ (x ∷ [])) → AllFit (new ++ listed last)
fit_more old new last x h i =
    subst AllFit (sym (ap (λ y. y ++ listed last) h.is ∙ append_assoc old h.added (listed last))) (fit_append old (h.added ++ listed last) (fit_front old (x ∷ []) i) h.fit)

pub order_more : (old new order : List AtLevel) (last : Option AtLevel) (x : AtLevel) (all : List (Exp × ℕ)) → PartsPut old new last x → in_order_of (old ++ (x ∷ [])) ++ from_the_end order ≡ all → in_order_of (new ++ listed last) ++ from_the_end (order ++ (x ∷ [])) ≡ all
order_more old new order last x all h i =
    let e = exp x.e.now in let s = x.level in let front = in_order_of old in let parts = parts_in_order e s in let back = from_the_end order in
    ap (λ y. in_order_of (y ++ listed last) ++ from_the_end (order ++ (x ∷ []))) h.is
    ∙ ap (λ y. in_order_of y ++ from_the_end (order ++ (x ∷ []))) (append_assoc old h.added (listed last))
    ∙ ap (λ y. y ++ from_the_end (order ++ (x ∷ []))) (order_append old (h.added ++ listed last) ∙ ap (λ y. front ++ y) h.order)
    ∙ ap (λ y. (front ++ parts) ++ y) (end_more order x)
    ∙ append_assoc front parts ((e, s) ∷ back)
    ∙ ap (λ y. front ++ y) (sym (append_assoc parts ((e, s) ∷ []) back))
    ∙ sym (append_assoc front (parts ++ ((e, s) ∷ [])) back)
    ∙ ap (λ y. (front ++ y) ++ back) (sym (order_of_one x ∙ whole_last e s))
    ∙ ap (λ y. y ++ back) (sym (order_append old (x ∷ []))) ∙ i

end_length : (xs : List AtLevel) → length (from_the_end xs) ≡ length xs
end_length xs = length-map (reverse xs) expression_at ∙ length-reverse xs

-- with one expression more listed, fewer remain
pub fewer : (order more : List AtLevel) (front all : List (Exp × ℕ)) (x : AtLevel) → more ≡ order ++ (x ∷ []) → front ++ from_the_end more ≡ all → length all - length more < length all - length order
fewer order more front all x h i =
    omega (arith, sym (ap length i), length-append front (from_the_end more), end_length more, ap length h, length-append order (x ∷ []))

-- making nodes one after the other, and then further ones
follow_then : (made : List PartNode) (xs ys : List (Exp × ℕ)) → CanFollow made xs → CanFollow (made ++ map node_at xs) ys → CanFollow made (xs ++ ys)
follow_then made [] ys h i = subst (λ m. CanFollow m ys) (append-nil made) i
follow_then made (x ∷ xs) ys h i = (h.0, follow_then (made ++ (node_at x ∷ [])) xs ys h.1 (subst (λ m. CanFollow m ys) (sym (append_assoc made (node_at x ∷ []) (map node_at xs))) i))

whole_follows : (made : List PartNode) (e : Exp) (s : ℕ) → s + 2 * nodes e ≤ 2 ^ 40 → CanFollow made (parts_in_order e s) → CanFollow made (in_order e s)
whole_follows made e s h i =
    subst (CanFollow made) (sym (whole_last e s))
    (follow_then made (parts_in_order e s) ((e, s) ∷ []) i (record { fits = h; laid = record { front = made; is = ap (λ x. made ++ x) (sym (before_is e s)) } }, tt))

mutual
  can_follow : (made : List PartNode) (e : Exp) (s : ℕ) → s + 2 * nodes e ≤ 2 ^ 40 → CanFollow made (in_order e s)
  can_follow made (Num n) s h = whole_follows made (Num n) s h tt
  can_follow made (Frame k) s h = whole_follows made (Frame k) s h tt
  can_follow made (Glob n) s h = whole_follows made (Glob n) s h tt
  can_follow made (Place m) s h = whole_follows made (Place m) s h tt
  can_follow made (Load e) s h = whole_follows made (Load e) s h (can_follow made e s (omega arith))
  can_follow made (Neg e) s h = whole_follows made (Neg e) s h (can_follow made e s (omega arith))
  can_follow made (Not e) s h = whole_follows made (Not e) s h (can_follow made e s (omega arith))
  can_follow made (Bin op a b) s h =
      whole_follows made (Bin op a b) s h (follow_then made (in_order a (s + 1)) (in_order b (s + 1)) (can_follow made a (s + 1) (omega arith)) (can_follow _ b (s + 1) (omega arith)))
  can_follow made (Cond c x y) s h =
      whole_follows made (Cond c x y) s h
      (follow_then made (in_order c s ++ in_order x s) (in_order y s) (follow_then made (in_order c s) (in_order x s) (can_follow made c s (omega arith)) (can_follow _ x s (omega arith))) (can_follow _ y s (omega arith)))
  can_follow made (Call es f) s h =
      let few = count_of_args es in
      whole_follows made (Call es f) s h
      (follow_then made (all_in_order es (s + 2)) (in_order f (s + 2 + count es)) (all_can_follow made es (s + 2) (omega arith)) (can_follow _ f (s + 2 + count es) (omega arith)))
  can_follow made (Valof n) s h = whole_follows made (Valof n) s h tt

  all_can_follow : (made : List PartNode) (es : Args) (s : ℕ) → s + 2 * nodes_of_args es ≤ 2 ^ 40 → CanFollow made (all_in_order es s)
  all_can_follow made no_argument s h = tt
  all_can_follow made (argument e es) s h =
      let some = some_node e in
      follow_then made (in_order e s) (all_in_order es (s + 1)) (can_follow made e s (omega arith)) (all_can_follow _ es (s + 1) (omega arith))

pub order_can_follow : (xs : List AtLevel) (made : List PartNode) → AllFit xs → CanFollow made (in_order_of xs)
order_can_follow [] made h = tt
order_can_follow (x ∷ xs) made h = follow_then made (in_order (exp x.e.now) x.level) (in_order_of xs) (can_follow made (exp x.e.now) x.level h.0.is) (order_can_follow xs _ h.1)

pub nodes_of_root : (r : Root) (found : List AtLevel) (made : List PartNode) → AreOf found r → made ≡ map node_at (in_order_of found) → made ≡ root_vector r
nodes_of_root r found made h i = i ∙ ap (map node_at) h.order ∙ sym (root_vector_is r)

pub if_ok : {A E : Type 0} (r : Result A E) (P Q : A → Type 0) → ((x : A) → P x → Q x) → IfOk r P → IfOk r Q
if_ok (Ok x) P Q f h = f x h
if_ok (Err e) P Q f h = tt
