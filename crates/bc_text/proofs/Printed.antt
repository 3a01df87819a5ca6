-- Printed segments read back.
use Rattle.std.proofs.Common.{◌≡◌, ℕ, ◌+◌, ◌-◌, ◌*◌, ◌/◌, ◌%◌, ◌^◌, ◌<◌, ◌≤◌, List, [], ◌∷◌, ◌++◌, length, map, flat_map, inl, true, refl, sym, ap, subst, ◌∙◌, arith, append_assoc, length-append}
use Rattle.std.proofs.lemmas.Fmt.{decimal_by_steps}
use Rattle.std.proofs.lemmas.Bool.Decides.{nat_tests}
use Rattle.std.specs.List.{AllByRecursion}
use Rattle.std.specs.Fmt.{decimal}
use Rattle.std.specs.Char.{is_ascii_digit}
use Rattle.std.specs.Str.{all_ascii_digits}
use Rattle.bc_text_items.specs.declared.item.Item.{Item}
use Rattle.bc_text_items.specs.declared.item.Item.TheVariants as items
use Rattle.bc_text_items.specs.declared.item.Base.{Base}
use Rattle.bc_text_items.specs.declared.item.Base.TheVariants as bases
use Rattle.bc_text.specs.Numbers.{value_of_digits, IsNumber}
use Rattle.bc_text.specs.Spelling.{Spells, IsOperationNumber}
use Rattle.bc_text.specs.Texts.{Begins, Element, an_item, end_of_segment, elements_of, nothing, blank, item, segment_end}
use Rattle.bc_text.specs.Printed.{printed, line, printed_segment, IsItem, ReadsBack}
use Rattle.bc_text.proofs.FaultsMet.{value_from-append}
use Rattle.bc_text.proofs.Sound.{all_digits-more}

-- digits that mean the number
abbrev Stands : ℕ → List ℕ → Type 0
Stands n digits = (all_ascii_digits digits ≡ true) × (value_of_digits digits ≡ n) × (0 < length digits)

digit_of : (n : ℕ) → n < 10 → is_ascii_digit (48 + n) ≡ true
digit_of n h = grind (arith, nat_tests)

one_digit : (n : ℕ) → n < 10 → Stands n ((48 + n) ∷ [])
one_digit n h = (rw (digit_of n h) refl, omega arith, omega arith)

one_more : (n : ℕ) (digits : List ℕ) → 10 ≤ n → Stands (n / 10) digits → Stands n (digits ++ ((48 + n % 10) ∷ []))
one_more n digits h s =
    let d = 48 + n % 10 in (
      all_digits-more digits d s.0 (digit_of (n % 10) (omega arith)),
      value_from-append 0 d digits ∙ ap (λ v. v * 10 + (d - 48)) s.1 ∙ omega arith,
      omega (arith, length-append digits (d ∷ [])),
    )

decimal_stands : (n : ℕ) → n < 2 ^ 64 → Stands n (decimal n)
decimal_stands n h = decimal_by_steps Stands one_digit one_more n h

as_number : (limit n : ℕ) (digits : List ℕ) → Stands n digits → n ≤ limit → IsNumber limit digits n
as_number limit n [] s h = absurd (omega (arith, s.2))
as_number limit n (d ∷ digits) s h = (s.0, s.1, h)

pub decimal_is_number : (limit n : ℕ) → n ≤ limit → limit ≤ 65535 → IsNumber limit (decimal n) n
decimal_is_number limit n h k = as_number limit n (decimal n) (decimal_stands n (omega arith)) h

operation_number : (base : Base) (n : ℕ) → n ≤ 65535 → IsOperationNumber base (decimal n) n
operation_number bases.Label n h = decimal_is_number 65535 n h (omega arith)
operation_number bases.Number n h = inl (decimal_is_number 65535 n h (omega arith))
operation_number bases.P n h = inl (decimal_is_number 65535 n h (omega arith))
operation_number bases.G n h = inl (decimal_is_number 65535 n h (omega arith))

-- an item is spelled as it is printed
pub printed_spells : (it : Item) → IsItem it → Spells (printed it) it
printed_spells (items.Label n) h = decimal_is_number 65535 n h (omega arith)
printed_spells (items.Data n) h = (decimal n, refl, inl (decimal_is_number 65535 n h (omega arith)))
printed_spells (items.DataLabel m) h = (decimal m, refl, decimal_is_number 65535 m h (omega arith))
printed_spells (items.Byte n) h = (decimal n, refl, decimal_is_number 255 n h (omega arith))
printed_spells (items.Operation function indirect base n) h = (decimal n, refl, operation_number base n h)
printed_spells (items.Global n m) h = (decimal n, decimal m, refl, decimal_is_number 511 n h.0 (omega arith), decimal_is_number 65535 m h.1 (omega arith))

-- lines, and what follows them
lines_begin : (list : List Item) (more rest : List ℕ) (elements : List Element) → AllByRecursion IsItem list → Begins more elements rest
    → Begins (flat_map line list ++ more) (map an_item list ++ elements) rest
lines_begin [] more rest elements h begins = begins
lines_begin (it ∷ list) more rest elements h begins =
    subst (λ t. Begins t (an_item it ∷ (map an_item list ++ elements)) rest)
    (sym (append_assoc (line it) (flat_map line list) more ∙ append_assoc (printed it) (10 ∷ []) (flat_map line list ++ more)))
    (item (printed it) it (printed_spells it h.0) refl (blank refl (lines_begin list more rest elements h.1 begins)))

segment_begins : (list : List Item) (more rest : List ℕ) (elements : List Element) → AllByRecursion IsItem list → Begins more elements rest
    → Begins (printed_segment list ++ more) (map an_item list ++ end_of_segment ∷ elements) rest
segment_begins list more rest elements h begins =
    subst (λ t. Begins t (map an_item list ++ end_of_segment ∷ elements) rest) (sym (append_assoc (flat_map line list) (90 ∷ 10 ∷ []) more))
    (lines_begin list (90 ∷ 10 ∷ more) rest (end_of_segment ∷ elements) h (segment_end (blank refl begins)))

-- the printed text is a text of the segments
pub reads_back : (segments : List (List Item)) → ReadsBack segments
reads_back [] h = nothing
reads_back (segment ∷ segments) h =
    segment_begins segment (flat_map printed_segment segments) [] (elements_of segments) h.0 (reads_back segments h.1)
