-- Worked examples: verdicts that fit segments, and the first entry of others that doesn't.
use Rattle.std.specs.Prelude.{◌≡◌, ℕ, true, false, List, [], ◌∷◌}
use Rattle.std.proofs.Common.{inl, inr, ⊎_elim, refl, arith}
use Rattle.bc_text_items.specs.declared.item.Item.{Item}
use Rattle.bc_text_items.specs.declared.item.Item.TheVariants.{Label, Operation, Global}
use Rattle.bc_text_items.specs.declared.item.Base.TheVariants.{Number, P, G}
use Rattle.bc_text_items.specs.declared.item.Function.TheVariants.{Load as Loads, Store as Stores, Call as Calls, Execute}
use Rattle.bc_rules_defs.specs.declared.piece.Piece.{Piece}
use Rattle.bc_rules_defs.specs.declared.piece.Piece.TheVariants as pieces
use Rattle.bc_core.specs.Tree.{Num, Glob, Load, Call, no_argument, argument, Root, Value}
use Rattle.bc_cert_defs.specs.declared.mismatch.Mismatch.TheVariants as faults
use Rattle.bc_cert_defs.specs.Verdict.{Judged}
use Rattle.bc_cert_defs.specs.Against.{Passes, an_item, a_body, Stands, nothing_more, one_more, LiesIn, StandsIn, IsAfter, Fit, Misfit, order, outside, differs, later}

-- ---- Worked examples

abbrev load_number : ℕ → Item
load_number n = Operation Loads false Number n

abbrev store : ℕ → Item
store k = Operation Stores false P k

abbrev load_global : ℕ → Item
load_global n = Operation Loads true G n

abbrev calls : ℕ → Item
calls k = Operation Calls false Number k

abbrev ends : Item
ends = Operation Execute false Number 4

-- LET START() BE WRCH('A'), with START in global 1: `1 L65 SP4 LIG14 K2 L0 X4 G1L1`
abbrev one_segment : List (List Item)
one_segment = (Label 1 ∷ load_number 65 ∷ store 4 ∷ load_global 14 ∷ calls 2 ∷ load_number 0 ∷ ends ∷ Global 1 1 ∷ []) ∷ []

abbrev wrch_a : Root
wrch_a = Value 2 (Call (argument (Num 65) no_argument) (Load (Glob 14)))

-- an entry that states this place and this code
abbrev entry : (segment item : ℕ) → List Piece → Judged
entry segment item code = record { segment = segment; item = item; root = wrch_a; target = 0; first = 2; code = code; words = 4 }

-- `L65 SP4 LIG14 K2`
abbrev the_code : List Piece
the_code = pieces.Item (load_number 65) ∷ pieces.Item (store 4) ∷ pieces.Item (load_global 14) ∷ pieces.Item (calls 2) ∷ []

-- the code is at item 1
stands : StandsIn one_segment (entry 0 1 the_code)
stands = one_more an_item (one_more an_item (one_more an_item (one_more an_item nothing_more)))

lies : LiesIn one_segment (entry 0 1 the_code)
lies = record { segment = omega arith; items = omega arith }

is_first : (item : ℕ) → IsAfter 0 0 (entry 0 item the_code)
is_first item = inr (refl, omega arith)

fits : Fit one_segment 0 0 (entry 0 1 the_code ∷ [])
fits = (is_first 1, lies, stands, tt)

-- two entries at one place: an entry may have the place of the preceding one
fits_twice : Fit one_segment 0 0 (entry 0 1 the_code ∷ entry 0 1 the_code ∷ [])
fits_twice = (is_first 1, lies, stands, (inr (refl, omega arith), lies, stands, tt))

-- items that begin with code begin with the item of its first piece, and the rest begins with the rest of the code
same_front : {i j : Item} {items more : List Item} → Passes (pieces.Item i) (j ∷ items) more → i ≡ j
same_front an_item = refl

first_item : {i j : Item} {ps : List Piece} {items : List Item} → Stands (pieces.Item i ∷ ps) (j ∷ items) → i ≡ j
first_item (one_more p s) = same_front p

after_item : {i j : Item} {ps : List Piece} {items : List Item} → Stands (pieces.Item i ∷ ps) (j ∷ items) → Stands ps items
after_item (one_more an_item s) = s

-- it isn't at item 2, which is `SP4`
one_too_far : ¬ StandsIn one_segment (entry 0 2 the_code)
one_too_far h = let e : load_number 65 ≡ store 4 = first_item h in cc

one_too_far_is : Misfit one_segment 0 0 0 (entry 0 2 the_code ∷ []) (faults.CodeDiffers 0)
one_too_far_is = differs (is_first 2) (record { segment = omega arith; items = omega arith }) one_too_far

-- `L65 SP4 LIG15 K2` isn't at item 1, where global 14 is loaded
abbrev other_code : List Piece
other_code = pieces.Item (load_number 65) ∷ pieces.Item (store 4) ∷ pieces.Item (load_global 15) ∷ pieces.Item (calls 2) ∷ []

other_global : ¬ StandsIn one_segment (entry 0 1 other_code)
other_global h = let e : load_global 15 ≡ load_global 14 = first_item (after_item (after_item h)) in cc

-- so it is the second entry that doesn't fit
other_global_is : Misfit one_segment 0 0 0 (entry 0 1 the_code ∷ entry 0 1 other_code ∷ []) (faults.CodeDiffers 1)
other_global_is = later (is_first 1) lies stands (differs (inr (refl, omega arith)) (record { segment = omega arith; items = omega arith }) other_global)

-- three items of a body are skipped, whatever they are: `L65 ?3 L0`
with_body : StandsIn one_segment (entry 0 1 (pieces.Item (load_number 65) ∷ pieces.Body 3 ∷ pieces.Item (load_number 0) ∷ []))
with_body = one_more an_item (one_more (a_body (store 4 ∷ load_global 14 ∷ calls 2 ∷ [])) (one_more an_item nothing_more))

-- the segment has eight items: four of them begin at item 4, but not at item 5
last_four : LiesIn one_segment (entry 0 4 the_code)
last_four = record { segment = omega arith; items = omega arith }

past_the_end : ¬ LiesIn one_segment (entry 0 5 the_code)
past_the_end h = omega (arith, h.items)

past_the_end_is : Misfit one_segment 0 0 0 (entry 0 5 the_code ∷ []) (faults.OutsideText 0)
past_the_end_is = outside (is_first 5) past_the_end

-- a segment that doesn't exist
no_segment : ¬ LiesIn one_segment (entry 1 0 the_code)
no_segment h = omega (arith, h.segment)

no_segment_is : Misfit one_segment 0 0 0 (entry 1 0 the_code ∷ []) (faults.OutsideText 0)
no_segment_is = outside (inl (omega arith)) no_segment

-- an entry without items can be at the segment's end, but no further
at_the_end : Fit one_segment 0 0 (entry 0 8 [] ∷ [])
at_the_end = (inr (refl, omega arith), record { segment = omega arith; items = omega arith }, nothing_more, tt)

after_the_end : ¬ LiesIn one_segment (entry 0 9 [])
after_the_end h = omega (arith, h.items)

-- a place before that of the preceding entry
in_front : ¬ IsAfter 0 1 (entry 0 0 the_code)
in_front h = ⊎_elim (λ a. omega (arith, a)) (λ b. omega (arith, b.1)) h

in_front_is : Misfit one_segment 0 0 0 (entry 0 1 the_code ∷ entry 0 0 the_code ∷ []) (faults.Order 1)
in_front_is = later (is_first 1) lies stands (order in_front)

-- any item of a later segment is a later place; an earlier segment isn't
later_segment : IsAfter 0 5 (entry 1 0 the_code)
later_segment = inl (omega arith)

earlier_segment : ¬ IsAfter 1 0 (entry 0 5 the_code)
earlier_segment h = ⊎_elim (λ a. omega (arith, a)) (λ b. omega (arith, b.0)) h

-- a verdict without entries fits all segments
none_fit : (segments : List (List Item)) → Fit segments 0 0 []
none_fit segments = tt
