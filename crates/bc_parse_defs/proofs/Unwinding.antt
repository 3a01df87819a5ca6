-- The code closes sections one by one, from the innermost outwards; this is the count of the definition.
use Rattle.std.proofs.Common.{◌≡◌, ◌∙◌, ℕ, ◌+◌, Bool, true, false, cond, List, [], ◌∷◌, ◌++◌, map, Option, Some, None, Result, Ok, Err, refl, ap, append_assoc, add-one}
use Rattle.std.specs.Prelude.{replicate}
use Rattle.bc_lex_tokens.specs.declared.symbol.Symbol.TheVariants as sign
use Rattle.bc_parse_tree.specs.Parts.{A}
use Rattle.bc_parse_defs.specs.Closing.{Fault, NotOpen, Placed, is_matched, one_more, closes, closing}
use Rattle.bc_parse_defs.specs.Seen.{Lists, with_placed, after_closing, tags}
use Rattle.std.specs.Borrow.{Bor}
use Rattle.std.proofs.Common.{reverse}
use Rattle.std.proofs.lemmas.List.{map_push, reverse-append}

-- one more section is closed
abbrev pub one_closed : ℕ → Lists → Lists
one_closed at c = with_placed c ((A sign.CloseSection, at) ∷ [])

abbrev pub unwind : List ℕ → ℕ → Lists → List (List ℕ) → Result (Lists × List (List ℕ)) Fault
unwind tag at c [] = Err (NotOpen at)
unwind tag at c (t ∷ opened) = cond (is_matched tag t) (Ok (one_closed at c, opened)) (unwind tag at (one_closed at c) opened)

with_one_more : (at : ℕ) (c : Lists) (n : ℕ) → with_placed (one_closed at c) (replicate n (A sign.CloseSection, at)) ≡ with_placed c (replicate (n + 1) (A sign.CloseSection, at))
with_one_more at c n =
    let x : Placed = (A sign.CloseSection, at) in
    let more_n : replicate (n + 1) x ≡ x ∷ replicate n x = rw add-one refl in
    rw (more_n, append_assoc, append_assoc) refl

one_more_closed : (at : ℕ) (c : Lists) (o : Option (ℕ × List (List ℕ))) → after_closing (one_closed at c) (closing at o) ≡ after_closing c (closing at (one_more o))
one_more_closed at c None = refl
one_more_closed at c (Some d) = ap (λ (x : Lists). Ok (x, d.1)) (with_one_more at c d.0)

pub unwind_is : (tag : List ℕ) (at : ℕ) (c : Lists) (opened : List (List ℕ)) → unwind tag at c opened ≡ after_closing c (closing at (closes tag opened))
unwind_is tag at c [] = refl
unwind_is tag at c (t ∷ opened) = go (unwind_is tag at (one_closed at c) opened) (is_matched tag t)
  where
    go : unwind tag at (one_closed at c) opened ≡ after_closing (one_closed at c) (closing at (closes tag opened)) → (b : Bool) → cond b (Ok (one_closed at c, opened)) (unwind tag at (one_closed at c) opened) ≡ after_closing c (closing at (cond b (Some (1, opened)) (one_more (closes tag opened))))
    go again true = refl
    go again false = again ∙ one_more_closed at c (closes tag opened)

pub tags_push : (xs : List (Bor (List ℕ))) (x : Bor (List ℕ)) → tags (xs ++ x ∷ []) ≡ x.now ∷ tags xs
tags_push xs x = ap (λ (ts : List (List ℕ)). reverse ts) (map_push (λ (t : Bor (List ℕ)). t.now) xs x) ∙ reverse-append (map (λ (t : Bor (List ℕ)). t.now) xs) (x.now ∷ [])
