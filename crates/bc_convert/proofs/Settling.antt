-- What is settled: a sublist of the candidates, which rises and changes the text; all of them if they do so.
use Rattle.std.proofs.Common.{◌≡◌, ℕ, ◌≤◌, List, [], ◌∷◌, length, refl, Bool, true, false, slice_range, cond, ap, ◌∙◌}
use Rattle.std.specs.Prelude.{nat_le}
use Rattle.std.specs.Str.{bytes_eq}
use Rattle.std.specs.Bool.{Decides}
use Rattle.std.proofs.lemmas.Bool.Decides.{Decides-and, Decides-not}
use Rattle.std.proofs.lemmas.Bool.{leb-true, le-leb}
use Rattle.std.proofs.lemmas.Slice.Eq.{bytes_eq-Decides}
use Rattle.std.proofs.lemmas.List.Elements.{All-cons, All-nil, All-head, All-tail}
use Rattle.bc_convert.specs.declared.replacement.Replacement.{Replacement}
use Rattle.bc_convert.specs.Converted.{RiseWithin, Changes, ChangesText}
use Rattle.bc_convert.specs.Settled.{changes, fits, settled_from, IsSublist, none, kept, left_out}

-- what it means that a replacement fits
abbrev Fits : ℕ → List ℕ → Replacement → Type 0
Fits at text r = (at ≤ r.start) × ((r.start ≤ r.end) × ((r.end ≤ length text) × Changes text r))

Decides-le : (a b : ℕ) → Decides (nat_le a b) (a ≤ b)
Decides-le a b = (leb-true a b, le-leb a b)

fits-Decides : (at : ℕ) (text : List ℕ) (r : Replacement) → Decides (fits at text r) (Fits at text r)
fits-Decides at text r =
    let differs : Decides (changes text r) (Changes text r) =
    Decides-not (bytes_eq (slice_range text r.start r.end) r.text.items) (bytes_eq-Decides (slice_range text r.start r.end) r.text.items) in
    Decides-and (nat_le at r.start) _ (Decides-le at r.start) (Decides-and (nat_le r.start r.end) _ (Decides-le r.start r.end)
    (Decides-and (nat_le r.end (length text)) _ (Decides-le r.end (length text)) differs))

either-sublist : (b : Bool) (r : Replacement) (here there all : List Replacement) → IsSublist here all → IsSublist there all
    → IsSublist (cond b (r ∷ here) there) (r ∷ all)
either-sublist true r here there all h t = kept r here all h
either-sublist false r here there all h t = left_out r there all t

pub settled-sublist : (at : ℕ) (text : List ℕ) (rs : List Replacement) → IsSublist (settled_from at text rs) rs
settled-sublist at text [] = none
settled-sublist at text (r ∷ rs) = either-sublist (fits at text r) r (settled_from r.end text rs) (settled_from at text rs) rs
    (settled-sublist r.end text rs) (settled-sublist at text rs)

either-rise : (b : Bool) (at : ℕ) (text : List ℕ) (r : Replacement) (here there : List Replacement) → (b ≡ true → Fits at text r)
    → (r.end ≤ length text → RiseWithin r.end (length text) here) → RiseWithin at (length text) there
    → RiseWithin at (length text) (cond b (r ∷ here) there)
either-rise true at text r here there fit h t = let f : Fits at text r = fit refl in (f.0, f.1.0, f.1.1.0, h f.1.1.0)
either-rise false at text r here there fit h t = t

pub settled-rise : (at : ℕ) (text : List ℕ) (rs : List Replacement) → at ≤ length text → RiseWithin at (length text) (settled_from at text rs)
settled-rise at text [] within = within
settled-rise at text (r ∷ rs) within = either-rise (fits at text r) at text r (settled_from r.end text rs) (settled_from at text rs)
    ((fits-Decides at text r).0) (λ e. settled-rise r.end text rs e) (settled-rise at text rs within)

either-change : (b : Bool) (text : List ℕ) (r : Replacement) (here there : List Replacement) → (b ≡ true → Changes text r)
    → ChangesText text here → ChangesText text there → ChangesText text (cond b (r ∷ here) there)
either-change true text r here there fit h t = All-cons (Changes text) r here (fit refl) h
either-change false text r here there fit h t = t

pub settled-change : (at : ℕ) (text : List ℕ) (rs : List Replacement) → ChangesText text (settled_from at text rs)
settled-change at text [] = All-nil (Changes text)
settled-change at text (r ∷ rs) = either-change (fits at text r) text r (settled_from r.end text rs) (settled_from at text rs)
    (λ e. let f : Fits at text r = (fits-Decides at text r).0 e in f.1.1.1) (settled-change r.end text rs) (settled-change at text rs)

when-true : (b : Bool) (here there : List Replacement) → b ≡ true → cond b here there ≡ here
when-true b here there e = ap (λ t. cond t here there) e

pub settled-all : (at : ℕ) (text : List ℕ) (rs : List Replacement) → RiseWithin at (length text) rs → ChangesText text rs → settled_from at text rs ≡ rs
settled-all at text [] rise change = refl
settled-all at text (r ∷ rs) rise change =
    let fit : fits at text r ≡ true = (fits-Decides at text r).1 (rise.0, (rise.1, (rise.2, All-head (Changes text) r rs change))) in
    when-true (fits at text r) (r ∷ settled_from r.end text rs) (settled_from at text rs) fit
    ∙ ap (λ xs. r ∷ xs) (settled-all r.end text rs rise.3 (All-tail (Changes text) r rs change))
