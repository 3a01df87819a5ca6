-- The things found in several parts, one part after another.
use Rattle.std.proofs.Common.{◌≡◌, ◌+◌, ℕ, refl, ap, ◌∙◌, sym, List, [], ◌∷◌, ◌++◌, drop, append_assoc, length, take, subst, Result, Ok, Err}
use Rattle.std.proofs.lemmas.List.{append-nil, drop-drop}
use Rattle.bc_core.specs.Commands as core
use Rattle.bc_scope_defs.specs.Scope.{Env, Numbers, after_labels}
use Rattle.bc_scope_defs.specs.Scoping.{in_list}
use Rattle.bc_scope_defs.specs.Numbering.{labels_of, labels_in, following, after_command, after_items}
use Rattle.bc_scope_defs.specs.Found.{Thing, AValof, ARoutine, Data, found, found_in_sides, found_in_command, found_in_items}
use Rattle.bc_scope_defs.specs.Translation.{valof_of, core_routine, core_datum, places_of, valofs_of}
use Rattle.bc_scope_names.proofs.Extends.{left}
use Rattle.bc_scope_names.specs.View.{numbers_view, Extends}
use Rattle.bc_scope_names.specs.declared.scope.Entry.{Entry}
use Rattle.bc_parse_tree.specs.Tree.{Exp, Exps, more, Items, no_items, item, Labelled, Labels_alone}
use Rattle.bc_scope_translate.specs.declared.gathered.Gathered.{Gathered}
use Rattle.bc_scope_translate.specs.Finding.{core_view, found_after, nothing, with_valof, with_place, found_items, head_level, GathersWithin}

pub found_along : (c : core.Core) (xs ys : List Thing) → found_after c (xs ++ ys) ≡ found_after (found_after c xs) ys
found_along c [] ys = refl
found_along c (AValof f ∷ xs) ys = found_along (with_valof c (valof_of f)) xs ys
found_along c (ARoutine r ∷ xs) ys = found_along (with_place c (core.Code (core_routine r))) xs ys
found_along c (Data q d ∷ xs) ys = found_along (with_place c (core_datum d)) xs ys

abbrev made : List core.Place → List core.Valof → core.Core
made ps vs = record { places = ps; valofs = vs }

both : (ps qs : List core.Place) (us vs : List core.Valof) → ps ≡ qs → us ≡ vs → made ps us ≡ made qs vs
both ps qs us vs p u = ap (λ x. made x us) p ∙ ap (made qs) u

found_all : (c : core.Core) (xs : List Thing) → found_after c xs ≡ made (c.places ++ places_of xs) (c.valofs ++ valofs_of xs)
found_all c [] = both c.places (c.places ++ []) c.valofs (c.valofs ++ []) (sym (append-nil c.places)) (sym (append-nil c.valofs))
found_all c (AValof f ∷ xs) = found_all (with_valof c (valof_of f)) xs ∙ ap (made (c.places ++ places_of xs)) (append_assoc c.valofs (valof_of f ∷ []) (valofs_of xs))
found_all c (ARoutine r ∷ xs) = found_all (with_place c (core.Code (core_routine r))) xs ∙ ap (λ ps. made ps (c.valofs ++ valofs_of xs)) (append_assoc c.places (core.Code (core_routine r) ∷ []) (places_of xs))
found_all c (Data q d ∷ xs) = found_all (with_place c (core_datum d)) xs ∙ ap (λ ps. made ps (c.valofs ++ valofs_of xs)) (append_assoc c.places (core_datum d ∷ []) (places_of xs))

-- beginning with nothing, the result is all that is found
pub found_whole : (xs : List Thing) → found_after nothing xs ≡ record { places = places_of xs; valofs = valofs_of xs }
found_whole xs = found_all nothing xs

pub found_items_is : (E : Env) (k : ℕ) (at : Numbers) (is : Items) (s : ℕ) → found_in_items E k at is s ≡ found_items E at is s
found_items_is E k at no_items s = refl
found_items_is E k at (item (Labelled ls c) is) s = ap (λ ts. found_in_command E at c s ++ ts) (found_items_is E (k + labels_of ls) (after_command at c) is s)
found_items_is E k at (item (Labels_alone ls) is) s = found_items_is E (k + labels_of ls) at is s

-- what remains to be found after the first things
pub left_over : (c d w : core.Core) (xs ys : List Thing) → d ≡ found_after c xs → found_after c (xs ++ ys) ≡ w → found_after d ys ≡ w
left_over c d w xs ys p q = ap (λ x. found_after x ys) p ∙ sym (found_along c xs ys) ∙ q

-- two parts, one after the other
pub then_found : {X F : Type 0} (r : Result X F) (f g h : Gathered) (n : Numbers) (xs ys : List Thing) (k l : List Entry)
    → core_view g ≡ found_after (core_view f) xs → GathersWithin r g h n ys k l → GathersWithin r f h n (xs ++ ys) k l
then_found (Ok x) f g h n xs ys k l p q = (q.0 ∙ ap (λ c. found_after c ys) p ∙ sym (found_along (core_view f) xs ys), q.1, q.2)
then_found (Err e) f g h n xs ys k l p q = q

-- two parts that are all of a tree
pub parts_found : {X F : Type 0} (r : Result X F) (f g h : Gathered) (n m : Numbers) (xs ys all : List Thing) (k l : List Entry)
    → m ≡ n → all ≡ xs ++ ys → core_view g ≡ found_after (core_view f) xs → GathersWithin r g h n ys k l → GathersWithin r f h m all k l
parts_found r f g h n m xs ys all k l e q p v =
    subst (λ (o : Numbers). GathersWithin r f h o all k l) (sym e) (subst (λ (ts : List Thing). GathersWithin r f h n ts k l) (sym q) (then_found r f g h n xs ys k l p v))

-- a command list after other parts, with the names after these
pub list_found : {X F : Type 0} (r : Result X F) (f g h : Gathered) (ts : List Thing) (S E : Env) (B : Numbers) (is : Items) (l s : ℕ) (before after : List Entry)
    → numbers_view g.at ≡ B → S ≡ E → l ≡ s → core_view g ≡ found_after (core_view f) ts
    → GathersWithin r g h (after_items (after_labels (numbers_view g.at) (labels_in is)) is) (found_items (in_list g.at.label is S) (after_labels (numbers_view g.at) (labels_in is)) is l) before after
    → GathersWithin r f h (after_items (after_labels B (labels_in is)) is) (ts ++ found_in_items (in_list B.label is E) B.label (after_labels B (labels_in is)) is s) before after
list_found r f g h ts S E B is l s before after e d k p v =
    let at0 = numbers_view g.at in
    let n = after_items (after_labels at0 (labels_in is)) is in
    let b = after_labels at0 (labels_in is) in
    let found_l = subst (λ (m : ℕ). GathersWithin r g h n (found_items (in_list at0.label is S) b is m) before after) k v in
    let found_E = subst (λ (D : Env). GathersWithin r g h n (found_items (in_list at0.label is D) b is s) before after) d found_l in
    let it = subst (λ (ys : List Thing). GathersWithin r g h n ys before after) (sym (found_items_is (in_list at0.label is E) at0.label b is s)) found_E in
    subst (λ (N : Numbers). GathersWithin r f h (after_items (after_labels N (labels_in is)) is) (ts ++ found_in_items (in_list N.label is E) N.label (after_labels N (labels_in is)) is s) before after) e
    (then_found r f g h n ts (found_in_items (in_list at0.label is E) at0.label b is s) before after p it)

pub side_on : (E : Env) (at : Numbers) (e : Exp) (es : Exps) (ss : List ℕ)
    → found_in_sides E at (more e es) ss ≡ found E at e (head_level ss) ++ found_in_sides E (following at e) es (drop 1 ss)
side_on E at e es [] = refl
side_on E at e es (s ∷ ss) = refl

pub drop_one : {A : Type 0} (ss : List A) (i : ℕ) → drop 1 (drop i ss) ≡ drop (i + 1) ss
drop_one ss i = drop-drop 1 i ss

-- after `leave`, a scope is as it was at the mark
pub taken_back : (a b c d : List Entry) (n : ℕ) → n ≡ length a → Extends a b → c ≡ b → d ≡ take n c → d ≡ a
taken_back a b c d n e x s p = p ∙ ap (λ es. take n es) s ∙ left a b n x e
