-- Folds over candidates compose.
use Rattle.std.proofs.Common.{◌≡◌, List, [], ◌∷◌, ◌++◌, Option, None, ap, sym, ◌∙◌, refl}
use Rattle.bc_select_defs.specs.declared.choice.Choice.{Choice}
use Rattle.bc_select_defs.specs.declared.choice.Choices.{Choices}
use Rattle.bc_select_defs.specs.declared.choice.Candidate.{Candidate}
use Rattle.bc_select_defs.specs.Options.{better, least_from}

least_from-append : (best : Option Choice) (xs ys : List Candidate) → least_from best (xs ++ ys) ≡ least_from (least_from best xs) ys
unfolding least_from
least_from-append best [] ys = refl
least_from-append best (x ∷ xs) ys = least_from-append (better best x.rule x.words) xs ys

pub first_then : (x : Candidate) (xs : List Candidate) (own r : Option Choice) → own ≡ least_from None (x ∷ []) → r ≡ least_from own xs → r ≡ least_from None (x ∷ xs)
unfolding least_from
first_then x xs own r h i = i ∙ ap (λ b. least_from b xs) h

pub first_then_both : (x : Candidate) (xs ys : List Candidate) (own m r : Option Choice) → own ≡ least_from None (x ∷ []) → m ≡ least_from own xs → r ≡ least_from m ys → r ≡ least_from None (x ∷ (xs ++ ys))
unfolding least_from
first_then_both x xs ys own m r h i j = j ∙ ap (λ b. least_from b ys) (first_then x xs own m h i) ∙ sym (least_from-append None (x ∷ xs) ys)

pub same_choices : (any push on_false on_true any1 push1 on_false1 on_true1 : Option Choice) → any ≡ any1 → push ≡ push1 → on_false ≡ on_false1 → on_true ≡ on_true1 → ◌≡◌ {A = Choices} (record { any = any; push = push; on_false = on_false; on_true = on_true }) (record { any = any1; push = push1; on_false = on_false1; on_true = on_true1 })
same_choices any push on_false on_true any1 push1 on_false1 on_true1 h i j k = cc
