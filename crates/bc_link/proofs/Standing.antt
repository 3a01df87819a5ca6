-- Where the words of segments are in the store.
use Rattle.std.proofs.Common.{◌≡◌, ◌∙◌, ℕ, zero, suc, ◌+◌, ◌-◌, ◌<◌, ◌≤◌, List, [], ◌∷◌, ◌++◌, Some, take, drop, set, slice_get, length, replicate, length-append, length-drop, length-set, append_assoc, refl, ap, sym, add_assoc, add-zero, arith, subst}
use Rattle.std.proofs.Math.Seq.{take-append_seam, drop-append-add}
use Rattle.std.proofs.lemmas.List.{take-append-le, drop-append-le, length-replicate}
use Rattle.bc_text_items.specs.Sizes.{size_of_all}
use Rattle.bc_text_items.specs.Assembled.{assembled, label_places, global_settings}
use Rattle.bc_text_items.specs.declared.item.Item.{Item}
use Rattle.bc_link.proofs.Lengths.{length-assembled}
use Rattle.bc_link.specs.Labels.{label_address}
use Rattle.bc_link.specs.Layout.{size_of_segments, stack_base_of, place_at, places_from}
use Rattle.bc_link.specs.Laws.{IsSegment, PlacesAreStarts, RangesLieBetween, RangesAreDisjoint, WordsStandAtStarts, StoreIsWhole}
use Rattle.bc_link.specs.Store.{boot, words_from, with_settings, with_globals_from, globals_of, store_of}

-- the words before the segment with this number
abbrev front_of : List (List Item) → ℕ → ℕ
front_of segments k = size_of_segments (take k segments)

place : (start : ℕ) (segments : List (List Item)) (k : ℕ) (segment : List Item) → IsSegment segments k segment → slice_get (places_from start segments) k ≡ Some (place_at (start + front_of segments k) segment)
place start [] k segment h = cc
place start (s ∷ ss) zero segment h = let e : s ≡ segment = cc in ap (λ x. Some (place_at start x)) e ∙ ap (λ n. Some (place_at n segment)) (sym (add-zero start))
place start (s ∷ ss) (suc k) segment h = place (start + size_of_all s) ss k segment h ∙ ap (λ n. Some (place_at n segment)) (add_assoc start (size_of_all s) (front_of ss k))

pub places_are_starts : PlacesAreStarts
places_are_starts segments k segment h = place 520 segments k segment h

-- the words before a segment and those of the segment are at most all words
front-size-le : (segments : List (List Item)) (k : ℕ) (segment : List Item) → IsSegment segments k segment → front_of segments k + size_of_all segment ≤ size_of_segments segments
front-size-le [] k segment h = cc
front-size-le (s ∷ ss) zero segment h = let e : s ≡ segment = cc in let f = ap size_of_all e in omega arith
front-size-le (s ∷ ss) (suc k) segment h = let rest = front-size-le ss k segment h in omega arith

pub ranges_lie_between : RangesLieBetween
ranges_lie_between segments k segment h = let all = front-size-le segments k segment h in (omega arith, omega arith)

front-size-lt : (segments : List (List Item)) (j k : ℕ) (segment : List Item) → j < k → IsSegment segments j segment → front_of segments j + size_of_all segment ≤ front_of segments k
front-size-lt [] j k segment less h = cc
front-size-lt (s ∷ ss) j zero segment less h = absurd (omega arith)
front-size-lt (s ∷ ss) zero (suc k) segment less h = let e : s ≡ segment = cc in let f = ap size_of_all e in omega arith
front-size-lt (s ∷ ss) (suc j) (suc k) segment less h = let rest = front-size-lt ss j k segment (omega arith) h in omega arith

pub ranges_are_disjoint : RangesAreDisjoint
ranges_are_disjoint segments j k segment less h = let before = front-size-lt segments j k segment less h in omega arith

-- the words of segments are as many as their sizes
length-words_from : (start : ℕ) (segments : List (List Item)) → length (words_from start segments) ≡ size_of_segments segments
length-words_from start [] = refl
length-words_from start (s ∷ ss) =
    let f = label_address (label_places start s) in
    let here = length-assembled f s in
    let rest = length-words_from (start + size_of_all s) ss in
    let both = length-append (assembled f s) (words_from (start + size_of_all s) ss) in
    omega arith

abbrev Stands : ℕ → List (List Item) → ℕ → List Item → Type 0
Stands start segments k segment =
    take (size_of_all segment) (drop (front_of segments k) (words_from start segments)) ≡ assembled (label_address (label_places (start + front_of segments k) segment)) segment

first : (start : ℕ) (s : List Item) (ss : List (List Item)) → Stands start (s ∷ ss) 0 s
first start s ss =
    let f = label_address (label_places start s) in
    let rest = words_from (start + size_of_all s) ss in
    ap (λ n. take n (assembled f s ++ rest)) (sym (length-assembled f s)) ∙ take-append_seam (assembled f s) rest ∙ ap (λ n. assembled (label_address (label_places n s)) s) (sym (add-zero start))

stands : (start : ℕ) (segments : List (List Item)) (k : ℕ) (segment : List Item) → IsSegment segments k segment → Stands start segments k segment
stands start [] k segment h = cc
stands start (s ∷ ss) zero segment h = let e : s ≡ segment = cc in subst (λ x. take (size_of_all x) (words_from start (s ∷ ss)) ≡ assembled (label_address (label_places (start + 0) x)) x) e (first start s ss)
stands start (s ∷ ss) (suc k) segment h =
    let f = label_address (label_places start s) in
    let rest = words_from (start + size_of_all s) ss in
    let n = front_of ss k in
    let following : drop (size_of_all s + n) (assembled f s ++ rest) ≡ drop n rest = ap (λ m. drop (m + n) (assembled f s ++ rest)) (sym (length-assembled f s)) ∙ drop-append-add (assembled f s) rest n in
    ap (take (size_of_all segment)) following ∙ stands (start + size_of_all s) ss k segment h ∙ ap (λ m. assembled (label_address (label_places m segment)) segment) (add_assoc start (size_of_all s) n)

-- the number of cells stays the same
length-with_settings : (address : ℕ → ℕ) (settings : List (ℕ × ℕ)) (cells : List ℕ) → length (with_settings address settings cells) ≡ length cells
length-with_settings address [] cells = refl
length-with_settings address ((number, label) ∷ settings) cells = length-with_settings address settings (set cells number (address label)) ∙ length-set cells number (address label)

length-with_globals_from : (start : ℕ) (segments : List (List Item)) (cells : List ℕ) → length (with_globals_from start segments cells) ≡ length cells
length-with_globals_from start [] cells = refl
length-with_globals_from start (s ∷ ss) cells =
    length-with_globals_from (start + size_of_all s) ss (with_settings (label_address (label_places start s)) (global_settings s) cells)
    ∙ length-with_settings (label_address (label_places start s)) (global_settings s) cells

length-globals_of : (segments : List (List Item)) → length (globals_of segments) ≡ 512
length-globals_of segments = length-with_globals_from 520 segments (replicate 512 0) ∙ length-replicate {A = ℕ} 512 0

-- the words at 0 to 7
abbrev low : List ℕ
low = boot ++ replicate 5 0

abbrev zeros : List (List Item) → List ℕ
zeros segments = replicate (65536 - stack_base_of segments) 0

length-front : (segments : List (List Item)) → length (low ++ globals_of segments) ≡ 520
length-front segments = let g = length-globals_of segments in let l = length-append low (globals_of segments) in omega arith

-- the store, before the segments and after
store-parts : (segments : List (List Item)) → store_of segments ≡ (low ++ globals_of segments) ++ (words_from 520 segments ++ zeros segments)
store-parts segments = append_assoc (low ++ globals_of segments) (words_from 520 segments) (zeros segments)

-- a part of the first of two appended lists
part-of-append : (xs ys : List ℕ) (n size : ℕ) → n + size ≤ length xs → take size (drop n (xs ++ ys)) ≡ take size (drop n xs)
part-of-append xs ys n size fits =
    let l = length-drop n xs in
    ap (take size) (drop-append-le n xs ys (omega arith)) ∙ take-append-le size (drop n xs) ys (omega arith)

pub words_stand_at_starts : WordsStandAtStarts
words_stand_at_starts segments k segment h =
    let n = front_of segments k in
    let all = front-size-le segments k segment h in
    let size = length-words_from 520 segments in
    let front = low ++ globals_of segments in
    let code = words_from 520 segments ++ zeros segments in
    let following : drop (520 + n) (store_of segments) ≡ drop n code = ap (drop (520 + n)) (store-parts segments) ∙ ap (λ m. drop (m + n) (front ++ code)) (sym (length-front segments)) ∙ drop-append-add front code n in
    ap (take (size_of_all segment)) following ∙ part-of-append (words_from 520 segments) (zeros segments) n (size_of_all segment) (omega arith) ∙ stands 520 segments k segment h

pub store_is_whole : StoreIsWhole
store_is_whole segments =
    let g = length-globals_of segments in
    let code = words_from 520 segments ++ zeros segments in
    let parts : store_of segments ≡ low ++ (globals_of segments ++ code) = store-parts segments ∙ append_assoc low (globals_of segments) code in
    let cells : take 512 (globals_of segments ++ code) ≡ globals_of segments = ap (λ n. take n (globals_of segments ++ code)) (sym g) ∙ take-append_seam (globals_of segments) code in (
      ap (take 3) parts,
      ap (λ s. take 512 (drop 8 s)) parts ∙ cells,
      λ fits.
          let l = length-front segments in
          let w = length-words_from 520 segments in
          let z = length-replicate {A = ℕ} (65536 - stack_base_of segments) 0 in
          let a = length-append (low ++ globals_of segments) code in
          let b = length-append (words_from 520 segments) (zeros segments) in
          let e = ap length (store-parts segments) in
          omega arith,
    )
