-- Entries that fit, taken one at a time.
use Rattle.std.proofs.Common.{◌≡◌, ℕ, ◌+◌, ◌<◌, ◌↔◌, length, IsTrue, Bool, true, false, List, ◌∷◌, map, drop, get_or, subst, sym, ap, ◌∙◌}
use Rattle.std.proofs.lemmas.List.{drop_more}
use Rattle.bc_text_items.specs.declared.item.Item.{Item}
use Rattle.bc_cert_defs.specs.declared.mismatch.Mismatch.{Mismatch}
use Rattle.bc_cert_defs.specs.declared.verdict.Judged as code
use Rattle.bc_cert_defs.specs.Verdict.{Judged}
use Rattle.bc_cert_defs.specs.View.{judged}
use Rattle.bc_cert_defs.specs.Against.{IsAfter, LiesIn, StandsIn, Fit, Misfit, later}

-- what holds of the remaining entries, counted from n on, holds of all
pub record Gone (segments : List (List Item)) (segment item n : ℕ) (rest all : List Judged) : Type 0 where
  pub fit : Fit segments segment item rest → Fit segments 0 0 all
  pub misfit : (m : Mismatch) → Misfit segments segment item n rest m → Misfit segments 0 0 0 all m

pub gone_start : (segments : List (List Item)) (all : List Judged) → Gone segments 0 0 0 all all
gone_start segments all = record { fit = λ h. h; misfit = λ m h. h }

pub gone_turn : (segments : List (List Item)) (segment item n : ℕ) (e : Judged) (rest all : List Judged) → Gone segments segment item n (e ∷ rest) all → IsAfter segment item e → LiesIn segments e → StandsIn segments e → Gone segments e.segment e.item (n + 1) rest all
gone_turn segments segment item n e rest all g b l s = record { fit = λ h. g.fit (b, l, s, h); misfit = λ m h. g.misfit m (later b l s h) }

-- the remaining entries are the next one and those after it
pub next_entry : (xs : List code.Judged) (i : ℕ) (d : code.Judged) → i < length xs → map judged (drop i xs) ≡ judged (get_or xs i d) ∷ map judged (drop (i + 1) xs)
next_entry xs i d le = ap (map judged) (drop_more xs i d le)

pub holds : {P : Type 0} (b : Bool) → b ≡ true → IsTrue b ↔ P → P
holds b e h = h.0 e

pub fails : {P : Type 0} (b : Bool) → b ≡ false → IsTrue b ↔ P → P → ⊥
fails b e h p = let k : false ≡ true = sym e ∙ h.1 p in cc

pub here : (segments : List (List Item)) (segment item n : ℕ) (xs : List code.Judged) (d : code.Judged) → n < length xs → d ≡ get_or xs n d → Gone segments segment item n (map judged (drop n xs)) (map judged xs) → Gone segments segment item n (judged d ∷ map judged (drop (n + 1) xs)) (map judged xs)
here segments segment item n xs d le e g =
    subst (λ es. Gone segments segment item n es (map judged xs))
    (next_entry xs n d le ∙ ap (λ x. judged x ∷ map judged (drop (n + 1) xs)) (sym e)) g
