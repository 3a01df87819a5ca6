-- The addresses of labels, and sections with them.
use Rattle.std.proofs.Common.{◌≡◌, ℕ, Bool, true, false, List, [], ◌∷◌, ◌++◌, length, map, Some, None, refl, sym, ap, ◌∙◌, arith}
use Rattle.std.specs.Prelude.{◌==◌, cond, unwrap_or, Option, slice_index, slice_index_or}
use Rattle.std.specs.Global.{Vec}
use Rattle.std.proofs.lemmas.List.{map-append, append_assoc, append-nil}
use Rattle.bc_machine_defs.specs.declared.image.SegmentPlace.{SegmentPlace}
use Rattle.bc_machine_defs.specs.Places.{address_in}
use Rattle.bc_link.specs.Labels.{label_address}
use Rattle.bc_core.specs.Commands.{Core}
use Rattle.bc_core.specs.Map.{Placed, placed}
use Rattle.bc_core.specs.View.{section}
use Rattle.bc_core.specs.declared.command.Place.{Place}
use Rattle.bc_core.specs.declared.command.Valof.{Valof}
use Rattle.bc_interpret_steps.specs.declared.sections.Section.{Section}
use Rattle.bc_interpret_steps.specs.Sections.{placed_of, program_of}
use Rattle.bc_interpret.specs.Placing.{IsAddressed, addresses_of, label_addresses}

by_test : (b : Bool) (x d : ℕ) → unwrap_or (cond b (Some x) None) d ≡ cond b x d
by_test true x d = refl
by_test false x d = refl

both_by_test : (b : Bool) (x d e : ℕ) (o o1 : Option ℕ) → unwrap_or o d ≡ unwrap_or o1 e → unwrap_or (cond b (Some x) o) d ≡ unwrap_or (cond b (Some x) o1) e
both_by_test true x d e o o1 h = refl
both_by_test false x d e o o1 h = h

pub last_pair : (before : List (ℕ × ℕ)) (pair : ℕ × ℕ) (l d : ℕ) → unwrap_or (address_in l (before ++ pair ∷ [])) d ≡ unwrap_or (address_in l before) (cond (l == pair.0) pair.1 d)
last_pair [] pair l d = by_test (l == pair.0) pair.1 d
last_pair (q ∷ qs) pair l d = both_by_test (l == q.0) q.1 d (cond (l == pair.0) pair.1 d) _ _ (last_pair qs pair l d)

pub labels_more : (pairs left before : List (ℕ × ℕ)) (pair : ℕ × ℕ) (old new : List ℕ) → left ≡ before ++ pair ∷ [] → ((k : ℕ) → label_address pairs k ≡ unwrap_or (address_in k left) (slice_index old k))
    → ((k : ℕ) → slice_index new k ≡ cond (k == pair.0) pair.1 (slice_index old k)) → (k : ℕ) → label_address pairs k ≡ unwrap_or (address_in k before) (slice_index new k)
labels_more pairs left before pair old new e h put k =
    h k ∙ (ap (λ l. unwrap_or (address_in k l) (slice_index old k)) e ∙ (last_pair before pair k (slice_index old k) ∙ ap (unwrap_or (address_in k before)) (sym (put k))))

pub no_label_left : (pairs left : List (ℕ × ℕ)) (addresses : List ℕ) → length left ≡ 0 → ((k : ℕ) → label_address pairs k ≡ unwrap_or (address_in k left) (slice_index addresses k)) → IsAddressed pairs addresses
no_label_left pairs [] addresses e h k = sym (h k)
no_label_left pairs (x ∷ xs) addresses e h k = absurd (omega arith)

pub addresses_more : (all : List (Vec ℕ)) (a : Vec ℕ) (place : SegmentPlace) (following : List SegmentPlace) (whole : List (ℕ → ℕ)) → IsAddressed place.labels a.items
    → addresses_of all ++ label_addresses (place ∷ following) ≡ whole → addresses_of (all ++ a ∷ []) ++ label_addresses following ≡ whole
addresses_more all a place following whole e h =
    let f : Vec ℕ → ℕ → ℕ = λ addresses l. slice_index_or addresses.items l 0 in
    ap (λ xs. xs ++ label_addresses following) (map-append f all (a ∷ []))
    ∙ (append_assoc (addresses_of all) ((λ l. slice_index_or a.items l 0) ∷ []) (label_addresses following)
    ∙ (ap (λ x. addresses_of all ++ x ∷ label_addresses following) (λ i l. e l i) ∙ h))

pub section_more : (sections : List Section) (s : Section) (core : Core) (following : List Core) (address : ℕ → ℕ) (further : List (ℕ → ℕ)) (whole : List Placed) → placed_of s ≡ record { core = core; address = address }
    → program_of sections ++ placed (core ∷ following) (address ∷ further) ≡ whole → program_of (sections ++ s ∷ []) ++ placed following further ≡ whole
section_more sections s core following address further whole e h =
    ap (λ xs. xs ++ placed following further) (map-append placed_of sections (s ∷ []))
    ∙ (append_assoc (program_of sections) (placed_of s ∷ []) (placed following further)
    ∙ (ap (λ x. program_of sections ++ x ∷ placed following further) e ∙ h))

-- one core more, with its addresses
pub core_more : (sections : List Section) (s : Section) (cores following : List (List Place × List Valof)) (core : List Place × List Valof) (others further : List (Vec ℕ)) (all : Vec ℕ) (whole : List Placed) → cores ≡ core ∷ following → others ≡ all ∷ further
    → s.places.now ≡ core.0 → s.valofs.now ≡ core.1 → s.addresses.now ≡ all.items
    → program_of sections ++ placed (map section cores) (addresses_of others) ≡ whole → program_of (sections ++ s ∷ []) ++ placed (map section following) (addresses_of further) ≡ whole
core_more sections s cores following core others further all whole ec eo ep ev ea h =
    section_more sections s (section core) (map section following) (λ l. slice_index_or all.items l 0) (addresses_of further) whole
    (λ i. record { core = section (ep i, ev i); address = λ l. slice_index_or (ea i) l 0 })
    ((λ i. program_of sections ++ placed (map section (sym ec i)) (addresses_of (sym eo i))) ∙ h)

pub no_core : (sections : List Section) (cores : List (List Place × List Valof)) (others : List (Vec ℕ)) (whole : List Placed) → length cores ≡ 0
    → program_of sections ++ placed (map section cores) (addresses_of others) ≡ whole → program_of sections ≡ whole
no_core sections [] others whole e h = sym (append-nil (program_of sections)) ∙ h
no_core sections (x ∷ xs) others whole e h = absurd (omega arith)

pub no_place : (sections : List Section) (cores : List (List Place × List Valof)) (others : List (Vec ℕ)) (whole : List Placed) → length others ≡ 0
    → program_of sections ++ placed (map section cores) (addresses_of others) ≡ whole → program_of sections ≡ whole
no_place sections [] [] whole e h = sym (append-nil (program_of sections)) ∙ h
no_place sections (c ∷ cs) [] whole e h = sym (append-nil (program_of sections)) ∙ h
no_place sections [] (x ∷ xs) whole e h = absurd (omega arith)
no_place sections (c ∷ cs) (x ∷ xs) whole e h = absurd (omega arith)
