-- The entries have the shortest code, and fit the segments.
use Rattle.std.proofs.Common.{◌≡◌, ◌⊎◌, inl, inr, ℕ, ◌+◌, ◌<◌, ◌≤◌, List, [], ◌∷◌, ◌++◌, map, length, take, drop, get_or, refl, sym, ap, subst, arith, append_assoc, length-append, length-drop}
use Rattle.std.specs.Prelude.{All}
use Rattle.std.proofs.Math.Seq.{get_or-append_seam}
use Rattle.std.proofs.lemmas.List.{map-append, take-append-drop, length-take-le}
use Rattle.std.proofs.lemmas.List.Elements.{All-nil, All-cons, All-append}
use Rattle.bc_text_items.specs.declared.item.Item.{Item}
use Rattle.bc_rules_defs.specs.declared.rule.Table.TheVariants.{Two}
use Rattle.bc_rules_defs.specs.declared.piece.Piece.{Piece}
use Rattle.bc_rules_defs.specs.declared.piece.Piece.TheVariants as pieces
use Rattle.bc_rules_defs.specs.Code.{root_code}
use Rattle.bc_rules_defs.specs.Entry.{Entry}
use Rattle.bc_parse_tree.specs.Tree.{Declarations}
use Rattle.bc_core.specs.Commands.{Core}
use Rattle.bc_scope_defs.specs.Translation.{core_of}
use Rattle.bc_select_defs.specs.Chosen.{chosen, chosen_is_least, chosen_has_least_parts}
use Rattle.bc_gen_defs.specs.Bodies.{Coding}
use Rattle.bc_gen_defs.specs.Section.{routines_code, section_items, data_items, setting_items}
use Rattle.bc_gen_defs.specs.Entries.{Marked, Plain, Begins, plain_items, marked_code, section_entries}
use Rattle.bc_gen_defs.specs.Entries as marks
use Rattle.bc_gen_defs.specs.Laws.{RiseFrom, Begin, AllStandAt}
use Rattle.bc_gen_defs.proofs.Standing.{entries_rise, entries_stand, marks_add_nothing}
use Rattle.bc_cert_defs.specs.Verdict.{Judged}
use Rattle.bc_cert_defs.specs.Against.{Passes, an_item, a_body, Stands, nothing_more, one_more, extent, LiesIn, StandsIn, Fit}
use Rattle.bc_gen.specs.Chosen.{coding}
use Rattle.bc_build.specs.Code.{items_of, in_segment, entries_of, entries_from}
use Rattle.bc_cert_laws.specs.Written.{with_bodies}
use Rattle.bc_build.specs.Least.{IsLeast, judged, AreLeast}

-- ---- Code among items

body_passes : (count : ℕ) (is : List Item) → count ≤ length is → Passes (pieces.Body count) is (drop count is)
body_passes count is h =
    let P : ℕ → List Item → Type 0 = λ n items. Passes (pieces.Body n) items (drop count is) in
    subst (λ items. P count items) (take-append-drop count is)
    (subst (λ n. P n (take count is ++ drop count is)) (length-take-le count is h) (a_body (take count is)))

begin_stands : (ps : List Piece) (counts : List ℕ) (is : List Item) → Begin ps counts is → Stands (with_bodies ps counts) is
begin_stands [] counts is h = nothing_more
begin_stands (pieces.Item i ∷ ps) counts [] h = absurd h
begin_stands (pieces.Item i ∷ ps) counts (j ∷ is) h = one_more (subst (λ x. Passes (pieces.Item i) (x ∷ is) is) h.0 an_item) (begin_stands ps counts is h.1)
begin_stands (pieces.Body n ∷ ps) [] is h = absurd h
begin_stands (pieces.Body n ∷ ps) (count ∷ counts) is h = one_more (body_passes count is h.0) (begin_stands ps counts (drop count is) h.1)

begin_extent : (ps : List Piece) (counts : List ℕ) (is : List Item) → Begin ps counts is → extent (with_bodies ps counts) ≤ length is
begin_extent [] counts is h = omega arith
begin_extent (pieces.Item i ∷ ps) counts [] h = absurd h
begin_extent (pieces.Item i ∷ ps) counts (j ∷ is) h = let r = begin_extent ps counts is h.1 in omega (arith, r)
begin_extent (pieces.Body n ∷ ps) [] is h = absurd h
begin_extent (pieces.Body n ∷ ps) (count ∷ counts) is h =
    let b : count ≤ length is = h.0 in
    let r = begin_extent ps counts (drop count is) h.1 in
    let d = length-drop count is in
    omega (arith, b, r, d)

-- ---- No entry's place is after the items

abbrev Within : ℕ → List Entry → Type 0
Within n [] = Unit {0}
Within n (e ∷ es) = (e.item ≤ n) × Within n es

marks_within : (n k : ℕ) (ps : List Marked) → k + length (plain_items ps) ≤ n → Within n (marks.entries_from k ps)
marks_within n k [] h = tt
marks_within n k (Plain i ∷ ps) h = marks_within n (k + 1) ps (omega (arith, h))
marks_within n k (Begins m ∷ ps) h = (omega (arith, h), marks_within n k ps h)

section_within : (c : Coding) (core : Core) → Within (length (section_items c core)) (section_entries c core)
section_within c core =
    let same = ap length (marks_add_nothing c core) in
    let long = length-append (routines_code c core).0 (data_items 0 core.places ++ setting_items 0 core.places) in
    marks_within (length (section_items c core)) 0 (marked_code c core) (omega (arith, same, long))

-- ---- One segment

-- the place is in a segment before k, or in segment k and not after the item j
abbrev IsBefore : (segment item k j : ℕ) → Type 0
IsBefore segment item k j = (segment < k) ⊎ ((segment ≡ k) × (item ≤ j))

before_later : (segment item k j i : ℕ) → j ≤ i → IsBefore segment item k j → IsBefore segment item k i
before_later segment item k j i h (inl b) = inl b
before_later segment item k j i h (inr b) = let n : item ≤ j = b.1 in inr (b.0, omega (arith, h, n))

before_at : (segment item k j : ℕ) → IsBefore segment item k j → segment ≤ k
before_at segment item k j (inl b) = omega (arith, b)
before_at segment item k j (inr b) = let n : segment ≡ k = b.0 in omega (arith, n)

-- the segments have these items as the segment k
record HaveAt (segments : List (List Item)) (k : ℕ) (items : List Item) : Type 0 where
  there : k < length segments
  is : get_or segments k [] ≡ items

entry_stands : (segments : List (List Item)) (k : ℕ) (items : List Item) → HaveAt segments k items → (e : Entry)
    → Begin (coding.pieces e.root e.target e.first) e.bodies (drop e.item items) → StandsIn segments (judged (in_segment k e))
unfolding coding
entry_stands segments k items at e h =
    begin_stands (root_code (chosen Two e.root) e.target e.first) e.bodies (drop e.item (get_or segments k []))
    (subst (λ is. Begin (root_code (chosen Two e.root) e.target e.first) e.bodies (drop e.item is)) (sym at.is) h)

entry_lies : (segments : List (List Item)) (k : ℕ) (items : List Item) → HaveAt segments k items → (e : Entry) → e.item ≤ length items
    → Begin (coding.pieces e.root e.target e.first) e.bodies (drop e.item items) → LiesIn segments (judged (in_segment k e))
unfolding coding
entry_lies segments k items at e within h =
    let x = begin_extent (root_code (chosen Two e.root) e.target e.first) e.bodies (drop e.item items) h in
    let d = length-drop e.item items in
    let n = ap length at.is in
    record { segment = at.there; items = omega (arith, within, x, d, n) }

entries_fit : (segments : List (List Item)) (k : ℕ) (items : List Item) → HaveAt segments k items
    → (rest : List Judged) → ((s i : ℕ) → s ≤ k → Fit segments s i rest)
    → (es : List Entry) (segment item j : ℕ) → IsBefore segment item k j → RiseFrom j es → Within (length items) es → AllStandAt coding items es
    → Fit segments segment item (map judged (map (in_segment k) es) ++ rest)
entries_fit segments k items at rest then [] segment item j before rise within stand = then segment item (before_at segment item k j before)
entries_fit segments k items at rest then (e ∷ es) segment item j before rise within stand =
    let same : k ≡ k = refl in
    let here : e.item ≤ e.item = omega arith in (
      before_later segment item k j e.item rise.0 before,
      entry_lies segments k items at e within.0 stand.0.1,
      entry_stands segments k items at e stand.0.1,
      entries_fit segments k items at rest then es k e.item e.item (inr (same, here)) rise.1 within.1 stand.1,
    )

entry_least : (segments : List (List Item)) (k : ℕ) (items : List Item) → HaveAt segments k items → (e : Entry)
    → e.derivation ≡ coding.derivation e.root → Begin (coding.pieces e.root e.target e.first) e.bodies (drop e.item items)
    → IsLeast segments (in_segment k e)
unfolding coding
entry_least segments k items at e named h = record {
  derivation = chosen Two e.root;
  named = sym named;
  least = chosen_is_least Two e.root;
  parts = chosen_has_least_parts Two e.root;
  stands = entry_stands segments k items at e h;
}

entries_least : (segments : List (List Item)) (k : ℕ) (items : List Item) → HaveAt segments k items → (es : List Entry) → AllStandAt coding items es
    → All (IsLeast segments) (map (in_segment k) es)
entries_least segments k items at [] stand = All-nil (IsLeast segments)
entries_least segments k items at (e ∷ es) stand =
    All-cons (IsLeast segments) (in_segment k e) (map (in_segment k) es) (entry_least segments k items at e stand.0.0 stand.0.1) (entries_least segments k items at es stand.1)

-- ---- All segments

-- after these segments the section is the next
next_at : (front : List (List Item)) (s : Declarations) (sections : List Declarations) → HaveAt (front ++ map items_of (s ∷ sections)) (length front) (items_of s)
next_at front s sections =
    let long = length-append front (map items_of (s ∷ sections)) in
    record { there = omega (arith, long); is = get_or-append_seam front (items_of s) (map items_of sections) [] }

abbrev FitFrom : List (List Item) → List Declarations → (segment item : ℕ) → Type 0
FitFrom front sections segment item = Fit (front ++ map items_of sections) segment item (map judged (entries_from (length front) sections))

-- a section is one of the segments before the others
record Moved (front : List (List Item)) (s : Declarations) (sections : List Declarations) : Type 0 where
  segments : (front ++ items_of s ∷ []) ++ map items_of sections ≡ front ++ map items_of (s ∷ sections)
  number : length (front ++ items_of s ∷ []) ≡ length front + 1

moved : (front : List (List Item)) (s : Declarations) (sections : List Declarations) → Moved front s sections
moved front s sections =
    let long = length-append front (items_of s ∷ []) in
    record { segments = append_assoc front (items_of s ∷ []) (map items_of sections); number = omega (arith, long) }

sections_fit : (front : List (List Item)) (sections : List Declarations) (segment item : ℕ) → IsBefore segment item (length front) 0 → FitFrom front sections segment item
sections_fit front [] segment item before = tt
sections_fit front (s ∷ sections) segment item before =
    let k = length front in
    let segments = front ++ map items_of (s ∷ sections) in
    let m = moved front s sections in
    let core = core_of s in
    let rest = map judged (entries_from (k + 1) sections) in
    let fits : (t i : ℕ) → t ≤ k → Fit segments t i rest =
    λ t i h.
    let n = m.number in
    let b : t < length (front ++ items_of s ∷ []) = omega (arith, h, n) in
    subst (λ q. Fit segments t i (map judged (entries_from q sections))) n
    (subst (λ ss. Fit ss t i (map judged (entries_from (length (front ++ items_of s ∷ [])) sections))) m.segments
    (sections_fit (front ++ items_of s ∷ []) sections t i (inl b)))
    in
    subst (Fit segments segment item) (sym (map-append judged (entries_of k s) (entries_from (k + 1) sections)))
    (entries_fit segments k (items_of s) (next_at front s sections) rest fits (section_entries coding core) segment item 0 before
    (entries_rise coding core) (section_within coding core) (entries_stand coding core))

sections_least : (front : List (List Item)) (sections : List Declarations) → All (IsLeast (front ++ map items_of sections)) (entries_from (length front) sections)
sections_least front [] = All-nil (IsLeast (front ++ []))
sections_least front (s ∷ sections) =
    let k = length front in
    let segments = front ++ map items_of (s ∷ sections) in
    let m = moved front s sections in
    All-append (IsLeast segments) (entries_of k s) (entries_from (k + 1) sections)
    (entries_least segments k (items_of s) (next_at front s sections) (section_entries coding (core_of s)) (entries_stand coding (core_of s)))
    (subst (λ q. All (IsLeast segments) (entries_from q sections)) m.number
    (subst (λ ss. All (IsLeast ss) (entries_from (length (front ++ items_of s ∷ [])) sections)) m.segments (sections_least (front ++ items_of s ∷ []) sections)))

-- the entries of all sections
pub are_least : (sections : List Declarations) → AreLeast (map items_of sections) (entries_from 0 sections)
are_least sections =
    let same : 0 ≡ 0 = refl in
    record { each = sections_least [] sections; fit = sections_fit [] sections 0 0 (inr (same, omega arith)) }
