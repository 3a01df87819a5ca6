-- An assignment of one pair, and of several pairs.
use Rattle.std.proofs.Common.{◌≡◌, ◌≢◌, refl, ap, ◌∙◌, sym, List, [], ◌∷◌, ◌++◌, ◌⊎◌, inl, inr, None, Global, map, length, get_or, arith}
use Rattle.std.proofs.lemmas.List.{append-nil}
use Rattle.std.specs.Vec.Iter.{into_iter_items, into_iter_len, into_iter_steps}
use Rattle.std.specs.declared.vec.IntoIter.{IntoIter}
use Rattle.bc_core.specs.declared.command.ListItem.{ListItem}
use Rattle.bc_core.specs.View.{items}
use Rattle.bc_scope_translate.specs.declared.forms.Formed as code
use Rattle.bc_scope_translate.specs.Seen.{entry_view, entry_list, formed_list}
use Rattle.bc_scope_translate.proofs.Lists.{items_seen}
use Rattle.bc_core.specs.Commands as core
use Rattle.bc_parse_tree.specs.declared.tree.Exp.{Exp}
use Rattle.bc_parse_tree.specs.View.{exp_view, exps_view}
use Rattle.bc_scope_defs.specs.Numbering.{following, after_all}
use Rattle.bc_scope_defs.specs.Scope.{Env, Numbers}
use Rattle.bc_scope_defs.specs.Translation.{Forms, forms, forms_of_all, assignment, assignments}

pub single_is : (E : Env) (at : Numbers) (xs es : List Exp) (x e : Exp) → length xs ≡ 1 → length es ≡ 1 → x ≡ get_or xs 0 x → e ≡ get_or es 0 e
    → core.Assign (forms E (following at (exp_view x)) (exp_view e)).content (forms E at (exp_view x)).address ≡ assignment (forms_of_all E at (exps_view xs)) (forms_of_all E (after_all at (exps_view xs)) (exps_view es))
single_is E at [] es x e lx le px pe = absurd (omega (arith, lx))
single_is E at (y ∷ z ∷ xs) es x e lx le px pe = absurd (omega (arith, lx))
single_is E at (y ∷ []) [] x e lx le px pe = absurd (omega (arith, le))
single_is E at (y ∷ []) (f ∷ g ∷ es) x e lx le px pe = absurd (omega (arith, le))
single_is E at (y ∷ []) (f ∷ []) x e lx le px pe =
    ap (λ a. core.Assign (forms E (following at (exp_view a)) (exp_view e)).content (forms E at (exp_view a)).address) px
    ∙ ap (λ b. core.Assign (forms E (following at (exp_view y)) (exp_view b)).content (forms E at (exp_view y)).address) pe

pub several_addresses : (E : Env) (at at1 : Numbers) (xs es : List Exp) → length xs ≢ 1
    → core.Nested (core.block [] (assignments (forms_of_all E at (exps_view xs)) (forms_of_all E at1 (exps_view es)))) ≡ assignment (forms_of_all E at (exps_view xs)) (forms_of_all E at1 (exps_view es))
several_addresses E at at1 [] es h = refl
several_addresses E at at1 (x ∷ []) es h = absurd (h refl)
several_addresses E at at1 (x ∷ y ∷ xs) es h = refl

pub several_values : (E : Env) (at at1 : Numbers) (xs es : List Exp) → length es ≢ 1
    → core.Nested (core.block [] (assignments (forms_of_all E at (exps_view xs)) (forms_of_all E at1 (exps_view es)))) ≡ assignment (forms_of_all E at (exps_view xs)) (forms_of_all E at1 (exps_view es))
several_values E at at1 [] es h = refl
several_values E at at1 (x ∷ []) [] h = refl
several_values E at at1 (x ∷ []) (e ∷ []) h = absurd (h refl)
several_values E at at1 (x ∷ []) (e ∷ f ∷ es) h = refl
several_values E at at1 (x ∷ y ∷ xs) es h = refl

empty : {X : Type 0} (xs : List X) → length xs ≡ 0 → xs ≡ []
empty [] e = refl
empty (x ∷ xs) e = absurd (omega (arith, e))

no_addresses : (xs es : List code.Formed) → length xs ≡ 0 → entry_list (assignments (formed_list xs) (formed_list es)) ≡ []
no_addresses xs es e = ap (λ ys. entry_list (assignments (formed_list ys) (formed_list es))) (empty xs e)

no_values : (xs es : List code.Formed) → length es ≡ 0 → entry_list (assignments (formed_list xs) (formed_list es)) ≡ []
no_values [] es e = refl
no_values (x ∷ xs) es e = ap (λ ys. entry_list (assignments (formed_list (x ∷ xs)) (formed_list ys))) (empty es e)

-- when one side has ended
ended : (a b : IntoIter code.Formed Global) → ((u : IntoIter code.Formed Global) × into_iter_steps a None u) ⊎ ((u : IntoIter code.Formed Global) × into_iter_steps b None u)
    → into_iter_len a ≡ length (into_iter_items a) → into_iter_len b ≡ length (into_iter_items b)
    → entry_list (assignments (formed_list (into_iter_items a)) (formed_list (into_iter_items b))) ≡ []
ended a b (inl h) p q = no_addresses (into_iter_items a) (into_iter_items b) (sym p ∙ h.1.0)
ended a b (inr h) p q = no_values (into_iter_items a) (into_iter_items b) (sym q ∙ h.1.0)

-- the list is complete when one side has ended
pub pairs_done : (vs : List ListItem) (a b : IntoIter code.Formed Global) (ps es : List Forms)
    → ((u : IntoIter code.Formed Global) × into_iter_steps a None u) ⊎ ((u : IntoIter code.Formed Global) × into_iter_steps b None u)
    → into_iter_len a ≡ length (into_iter_items a) → into_iter_len b ≡ length (into_iter_items b)
    → map entry_view vs ++ entry_list (assignments (formed_list (into_iter_items a)) (formed_list (into_iter_items b))) ≡ entry_list (assignments ps es)
    → items vs ≡ assignments ps es
pairs_done vs a b ps es h p q e =
    items_seen vs (assignments ps es) (sym (append-nil (map entry_view vs)) ∙ ap (◌++◌ (map entry_view vs)) (sym (ended a b h p q)) ∙ e)
