-- Whether items begin with code, decided a piece at a time.
use Rattle.std.proofs.Common.{◌≡◌, ℕ, ◌+◌, ◌≤◌, ◌<◌, ◌↔◌, List, [], ◌∷◌, length, take, drop, get_or, refl, sym, subst, ap, arith, length-append}
use Rattle.std.proofs.Math.Seq.{drop-append_seam}
use Rattle.std.proofs.lemmas.List.{length-take-le, take-append-drop, drop_more}
use Rattle.bc_text_items.specs.declared.item.Item.{Item}
use Rattle.bc_rules_defs.specs.declared.piece.Piece.{Piece}
use Rattle.bc_rules_defs.specs.declared.piece.Piece.TheVariants as pieces
use Rattle.bc_cert_defs.specs.Against.{Passes, an_item, a_body, Stands, one_more, taken, extent}

-- ---- One piece

pub after_is : {p : Piece} {items following : List Item} → Passes p items following → following ≡ drop (taken p) items
after_is an_item = refl
after_is (a_body {items = items} body) = sym (drop-append_seam body items)

pub has_items : {p : Piece} {items following : List Item} → Passes p items following → taken p ≤ length items
has_items (an_item {items = items}) = omega arith
has_items (a_body {items = items} body) = omega (arith, length-append body items)

pub item_first : {i : Item} {items following : List Item} → Passes (pieces.Item i) items following → items ≡ i ∷ following
item_first an_item = refl

pub body_passes : (n : ℕ) (items : List Item) → n ≤ length items → Passes (pieces.Body n) items (drop n items)
body_passes n items le =
    subst (λ m. Passes (pieces.Body m) items (drop n items)) (length-take-le n items le)
    (subst (λ is. Passes (pieces.Body (length (take n items))) is (drop n items)) (take-append-drop n items) (a_body (take n items)))

-- ---- All of them

pub after_first : {p : Piece} {ps : List Piece} {items : List Item} → Stands (p ∷ ps) items → Stands ps (drop (taken p) items)
after_first (one_more {ps = ps} h k) = subst (Stands ps) (after_is h) k

pub first_passes : {p : Piece} {ps : List Piece} {items : List Item} → Stands (p ∷ ps) items → (following : List Item) × Passes p items following
first_passes (one_more {following = following} h k) = (following, h)

-- code from the i-th piece on, with which the remaining items begin
pub turn : (code : List Piece) (i : ℕ) (d : Piece) (items following : List Item) → i < length code → Passes (get_or code i d) items following → Stands (drop (i + 1) code) following ↔ Stands (drop i code) items
turn code i d items following le h = (
  (λ k. subst (λ ps. Stands ps items) (sym (drop_more code i d le)) (one_more h k)),
  (λ k. subst (Stands (drop (i + 1) code)) (sym (after_is h)) (after_first (subst (λ ps. Stands ps items) (drop_more code i d le) k))),
)

pub no_turn : (code : List Piece) (i : ℕ) (d : Piece) (items : List Item) → i < length code → ((following : List Item) → Passes (get_or code i d) items following → ⊥) → Stands (drop i code) items → ⊥
no_turn code i d items le never k = let p = first_passes (subst (λ ps. Stands ps items) (drop_more code i d le) k) in never p.0 p.1

pub extent_turn : (code : List Piece) (i : ℕ) (d : Piece) → i < length code → extent (drop i code) ≡ taken (get_or code i d) + extent (drop (i + 1) code)
extent_turn code i d le = ap extent (drop_more code i d le)

-- ---- Whether a piece is there

pub item_passes : (i : Item) (items : List Item) (d : Item) → 1 ≤ length items → get_or items 0 d ≡ i → Passes (pieces.Item i) items (drop 1 items)
item_passes i [] d le e = absurd (omega arith)
item_passes i (x ∷ items) d le e = subst (λ y. Passes (pieces.Item y) (x ∷ items) items) e an_item

pub passing_item : (i : Item) (items : List Item) (d : Item) → Passes (pieces.Item i) items (drop 1 items) → get_or items 0 d ≡ i
passing_item i items d h = ap (λ is. get_or is 0 d) (item_first h)

pub no_other : (i : Item) (items : List Item) → (Passes (pieces.Item i) items (drop 1 items) → ⊥) → (following : List Item) → Passes (pieces.Item i) items following → ⊥
no_other i items never following h = never (subst (Passes (pieces.Item i) items) (after_is h) h)

pub no_room : (n : ℕ) (items : List Item) → length items < n → (following : List Item) → Passes (pieces.Body n) items following → ⊥
no_room n items lt following h = absurd (omega (arith, has_items h))
