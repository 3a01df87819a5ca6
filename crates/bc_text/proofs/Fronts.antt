-- What a writer has taken: the first bytes of what was written to it.
use Rattle.std.proofs.Common.{◌≡◌, ℕ, ◌+◌, ◌-◌, ◌<◌, ◌≤◌, min, List, [], ◌∷◌, ◌++◌, length, take, drop, get_or, flat_map, Option, sym, ap, subst, ◌∙◌, arith, append_assoc, append-nil, take-append-drop, length-drop}
use Rattle.std.proofs.Math.Seq.{take-add, take-append-add}
use Rattle.std.proofs.lemmas.List.{take_min, take_all, take-append-le, take_more, drop_all}
use Rattle.std.proofs.lemmas.Grind.{flat_map-append}
use Rattle.std.proofs.KnownBytes.{Appends-trans}
use Rattle.std.specs.Io.KnownBytes.{Appends}
use Rattle.bc_text_items.specs.declared.item.Item.{Item}
use Rattle.bc_text.specs.Printed.{line, printed_segment, AppendsFront}

-- the slice of the remaining bytes is what follows the first n
slice_left : (bytes : List ℕ) (n : ℕ) → take (length bytes - n) (drop n bytes) ≡ drop n bytes
slice_left bytes n = take_all (length bytes - n) (drop n bytes) (omega (arith, length-drop n bytes))

-- some of the bytes, and then some of the remaining ones
pub taken_more : (a b c : Option (List ℕ)) (bytes : List ℕ) (n m : ℕ) → Appends a b (take n bytes) → Appends b c (take m (take (length bytes - n) (drop n bytes)))
    → Appends a c (take (n + m) bytes)
taken_more a b c bytes n m one two =
    subst (Appends a c) (sym (take-add n m bytes))
    (Appends-trans a b c (take n bytes) (take m (drop n bytes)) one (subst (λ t. Appends b c (take m t)) (slice_left bytes n) two))

pub fits_more : (bytes : List ℕ) (n m : ℕ) → n ≤ length bytes → m ≤ length (take (length bytes - n) (drop n bytes)) → n + m ≤ length bytes
fits_more bytes n m h k = omega (arith, ap length (slice_left bytes n), length-drop n bytes)

-- bytes, and then the first of the next ones, are the first of all
pub front_joined : (a b c : Option (List ℕ)) (xs ys rest bytes : List ℕ) → Appends a b xs → AppendsFront b c ys → bytes ≡ xs ++ (ys ++ rest) → AppendsFront a c bytes
front_joined a b c xs ys rest bytes one (n, two) e =
    let m = min n (length ys) in
    let front : take (length xs + m) bytes ≡ xs ++ take n ys =
    ap (take (length xs + m)) e ∙ take-append-add xs (ys ++ rest) m ∙ ap (λ t. xs ++ t) (take-append-le m ys rest (omega arith) ∙ take_min n ys) in
    (length xs + m, subst (Appends a c) (sym front) (Appends-trans a b c xs (take n ys) one two))

-- a segment is printed as the lines before, this one, and the rest
pub segment_parted : (items : List Item) (i : ℕ) (d : Item) → i < length items
    → printed_segment items ≡ flat_map line (take i items) ++ (line (get_or items i d) ++ printed_segment (drop (i + 1) items))
segment_parted items i d h =
    let z = 90 ∷ 10 ∷ [] in
    let rest = flat_map line (drop (i + 1) items) in
    ap (λ t. t ++ z)
    (ap (flat_map line) (sym (take-append-drop (i + 1) items))
    ∙ flat_map-append line (take (i + 1) items) (drop (i + 1) items)
    ∙ ap (λ t. t ++ rest)
    (ap (flat_map line) (take_more items i d h)
    ∙ flat_map-append line (take i items) (get_or items i d ∷ [])
    ∙ ap (λ t. flat_map line (take i items) ++ t) (append-nil (line (get_or items i d)))))
    ∙ append_assoc (flat_map line (take i items) ++ line (get_or items i d)) rest z
    ∙ append_assoc (flat_map line (take i items)) (line (get_or items i d)) (rest ++ z)

pub segment_parted_at : (items : List Item) (i : ℕ) (it : Item) (bytes : List ℕ) → i < length items → it ≡ get_or items i it → bytes ≡ line it
    → printed_segment items ≡ flat_map line (take i items) ++ (bytes ++ printed_segment (drop (i + 1) items))
segment_parted_at items i it bytes h is spelled =
    segment_parted items i it h ∙ ap (λ t. flat_map line (take i items) ++ (t ++ printed_segment (drop (i + 1) items))) (sym (spelled ∙ ap line is))

-- the `Z` follows the last line
pub segment_whole : (items : List Item) (i : ℕ) → length items ≤ i → printed_segment items ≡ flat_map line (take i items) ++ ((90 ∷ 10 ∷ []) ++ [])
segment_whole items i h =
    ap (λ t. flat_map line t ++ 90 ∷ 10 ∷ []) (sym (sym (append-nil (take i items)) ∙ ap (λ t. take i items ++ t) (sym (drop_all i items h)) ∙ take-append-drop i items))
