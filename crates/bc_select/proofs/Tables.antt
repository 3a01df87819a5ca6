-- Rows and spans represent nodes.
use Rattle.std.proofs.Common.{◌≡◌, ℕ, List, [], ◌∷◌, ◌++◌, length, map, take, drop, Option, Some, None, refl, ap, sym, ◌∙◌}
use Rattle.std.proofs.lemmas.List.{take-map, drop-map, map-append, length-map}
use Rattle.bc_select_defs.specs.declared.choice.Choice.{Choice}
use Rattle.bc_select_defs.specs.declared.choice.Choices.{Choices}
use Rattle.bc_select_defs.specs.Options.{words_of, rule_of}
use Rattle.bc_select.specs.declared.node.PartNode.{PartNode}
use Rattle.bc_select.specs.declared.row.Row.{Row}
use Rattle.bc_select.specs.declared.table.Span.{Span}
use Rattle.bc_select.specs.Row.{row_of, row_of_part, span_of, choice_in, choices_in, part_in, parts_in, AreParts}
use Rattle.bc_select.proofs.Lines.{same_choices}

choice_back : (x : Option Choice) → choice_in (words_of x) (rule_of x) ≡ x
choice_back None = refl
choice_back (Some c) = refl

pub choices_back : (c : Choices) → choices_in (row_of c).costs (row_of c).rules ≡ c
choices_back c = same_choices _ _ _ _ _ _ _ _ (choice_back c.any) (choice_back c.push) (choice_back c.on_false) (choice_back c.on_true)

with_choices : PartNode → Choices → PartNode
with_choices p c = record p { choices = c }

part_back : (p : PartNode) → part_in (row_of_part p) (span_of p) ≡ p
unfolding with_choices
part_back p = ap (with_choices p) (choices_back p.choices)

parts_back : (ps : List PartNode) → parts_in (map row_of_part ps) (map span_of ps) ≡ ps
parts_back [] = refl
parts_back (p ∷ ps) = ap (λ q. q ∷ parts_in (map row_of_part ps) (map span_of ps)) (part_back p) ∙ ap (λ qs. p ∷ qs) (parts_back ps)

pub stand_for : (rows : List Row) (spans : List Span) (ps : List PartNode) → rows ≡ map row_of_part ps → spans ≡ map span_of ps → parts_in rows spans ≡ ps
stand_for rows spans ps h i = ap (λ x. parts_in x spans) h ∙ ap (parts_in (map row_of_part ps)) i ∙ parts_back ps

pub are_parts : (rows : List Row) (spans : List Span) (ps : List PartNode) → rows ≡ map row_of_part ps → spans ≡ map span_of ps → AreParts rows spans
are_parts rows spans ps h i =
    let same = sym (stand_for rows spans ps h i) in
    record { rows_are = h ∙ ap (map row_of_part) same; spans_are = i ∙ ap (map span_of) same }

-- after one node is appended
pub rows_more : (rows more : List Row) (spans : List Span) (p : PartNode) → AreParts rows spans → more ≡ rows ++ (row_of_part p ∷ []) → more ≡ map row_of_part (parts_in rows spans ++ (p ∷ []))
rows_more rows more spans p h i = i ∙ ap (λ x. x ++ (row_of_part p ∷ [])) h.rows_are ∙ sym (map-append row_of_part (parts_in rows spans) (p ∷ []))

pub spans_more : (rows : List Row) (spans more : List Span) (p : PartNode) → AreParts rows spans → more ≡ spans ++ (span_of p ∷ []) → more ≡ map span_of (parts_in rows spans ++ (p ∷ []))
spans_more rows spans more p h i = i ∙ ap (λ x. x ++ (span_of p ∷ [])) h.spans_are ∙ sym (map-append span_of (parts_in rows spans) (p ∷ []))

-- after the nodes are split
pub rows_take : (rows : List Row) (spans : List Span) (n : ℕ) → AreParts rows spans → take n rows ≡ map row_of_part (take n (parts_in rows spans))
rows_take rows spans n h = ap (take n) h.rows_are ∙ take-map row_of_part n (parts_in rows spans)

pub spans_take : (rows : List Row) (spans : List Span) (n : ℕ) → AreParts rows spans → take n spans ≡ map span_of (take n (parts_in rows spans))
spans_take rows spans n h = ap (take n) h.spans_are ∙ take-map span_of n (parts_in rows spans)

pub rows_drop : (rows : List Row) (spans : List Span) (n : ℕ) → AreParts rows spans → drop n rows ≡ map row_of_part (drop n (parts_in rows spans))
rows_drop rows spans n h = ap (drop n) h.rows_are ∙ drop-map row_of_part n (parts_in rows spans)

pub spans_drop : (rows : List Row) (spans : List Span) (n : ℕ) → AreParts rows spans → drop n spans ≡ map span_of (drop n (parts_in rows spans))
spans_drop rows spans n h = ap (drop n) h.spans_are ∙ drop-map span_of n (parts_in rows spans)

pub rows_length : (rows : List Row) (spans : List Span) → AreParts rows spans → length rows ≡ length (parts_in rows spans)
rows_length rows spans h = ap length h.rows_are ∙ length-map (parts_in rows spans) row_of_part

pub spans_length : (rows : List Row) (spans : List Span) → AreParts rows spans → length spans ≡ length (parts_in rows spans)
spans_length rows spans h = ap length h.spans_are ∙ length-map (parts_in rows spans) span_of

-- the last node
pub last_row : (rows : List Row) (spans : List Span) (xs : List PartNode) (p : PartNode) → AreParts rows spans → parts_in rows spans ≡ xs ++ (p ∷ []) → rows ≡ map row_of_part xs ++ (row_of_part p ∷ [])
last_row rows spans xs p h i = h.rows_are ∙ ap (map row_of_part) i ∙ map-append row_of_part xs (p ∷ [])

pub last_span : (rows : List Row) (spans : List Span) (xs : List PartNode) (p : PartNode) → AreParts rows spans → parts_in rows spans ≡ xs ++ (p ∷ []) → spans ≡ map span_of xs ++ (span_of p ∷ [])
last_span rows spans xs p h i = h.spans_are ∙ ap (map span_of) i ∙ map-append span_of xs (p ∷ [])
