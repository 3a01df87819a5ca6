-- The entries' items never decrease, and each entry's code is at its item.
use Rattle.std.proofs.Common.{ℕ, ◌+◌, ◌==◌, ◌≡◌, ◌≤◌, Bool, true, false, List, [], ◌∷◌, ◌++◌, length, drop, map, refl, ap, sym, arith, subst, length-append, append_assoc}
use Rattle.std.proofs.Math.Seq.{drop-append_seam}
use Rattle.std.proofs.lemmas.List.{drop-append-le}
use Rattle.bc_text_items.specs.declared.item.Item.{Item}
use Rattle.bc_rules_defs.specs.declared.piece.Piece.{Piece}
use Rattle.bc_rules_defs.specs.declared.piece.Piece.TheVariants as pieces
use Rattle.bc_rules_defs.specs.Entry.{Entry}
use Rattle.bc_core.specs.Commands.{Core, Valof}
use Rattle.bc_gen_defs.specs.Entries.{Marked, Plain, Begins, plain_items, count_items, entries_from, marked_over, marked_code}
use Rattle.bc_gen_defs.specs.Emit.{Code, zero_item, emit_block}
use Rattle.bc_gen_defs.specs.Bodies.{BodiesCode, Coding, fill, label_ahead, body_exits, emit_valof, bodies_from, level_of}
use Rattle.bc_gen_defs.specs.Section.{data_items, setting_items}
use Rattle.bc_gen_defs.specs.Laws.{RiseFrom, EntriesRise, MarksAddNothing, Begin, AllStandAt, EntriesStand}
use Rattle.bc_gen_defs.proofs.Plainly.{plain_append, section_plain}
use Rattle.bc_gen_defs.proofs.Closed.{Keeps, OfRoots, block_kept, routines_kept}

rise_lower : (j k : ℕ) (es : List Entry) → j ≤ k → RiseFrom k es → RiseFrom j es
rise_lower j k [] h r = tt
rise_lower j k (e ∷ es) h r = let b : k ≤ e.item = r.0 in (omega (arith, b), r.1)

entries_from_rise : (k : ℕ) (ps : List Marked) → RiseFrom k (entries_from k ps)
entries_from_rise k [] = tt
entries_from_rise k (Plain i ∷ ps) = rise_lower k (k + 1) (entries_from (k + 1) ps) (omega arith) (entries_from_rise (k + 1) ps)
entries_from_rise k (Begins m ∷ ps) = let r : k ≤ k = omega arith in (r, entries_from_rise k ps)

pub entries_rise : EntriesRise
entries_rise coding core = entries_from_rise 0 (marked_code coding core)

pub marks_add_nothing : MarksAddNothing
marks_add_nothing coding core = ap (λ x. x.0) (section_plain coding core)

-- ---- Each entry's code is at its item

begin_longer : (ps : List Piece) (counts : List ℕ) (is js : List Item) → Begin ps counts is → Begin ps counts (is ++ js)
begin_longer [] counts is js h = tt
begin_longer (pieces.Item i ∷ ps) counts [] js h = absurd h
begin_longer (pieces.Item i ∷ ps) counts (j ∷ is) js h = (h.0, begin_longer ps counts is js h.1)
begin_longer (pieces.Body n ∷ ps) [] is js h = absurd h
begin_longer (pieces.Body n ∷ ps) (count ∷ counts) is js h =
    let b : count ≤ length is = h.0 in
    (omega (arith, length-append is js, b), rw (drop-append-le count is js b) (begin_longer ps counts (drop count is) js h.1))

-- the code of each mark follows it
abbrev Right : Coding → List Marked → Type 0
Right coding [] = Unit {0}
Right coding (Plain i ∷ ps) = Right coding ps
Right coding (Begins m ∷ ps) = (m.derivation ≡ coding.derivation m.root) × Begin (coding.pieces m.root m.target m.first) m.bodies (plain_items ps) × Right coding ps

right_append : (coding : Coding) (xs ys : List Marked) → Right coding xs → Right coding ys → Right coding (xs ++ ys)
right_append coding [] ys p q = q
right_append coding (Plain i ∷ xs) ys p q = right_append coding xs ys p q
right_append coding (Begins m ∷ xs) ys p q =
    (p.0, rw (plain_append xs ys) (begin_longer (coding.pieces m.root m.target m.first) m.bodies (plain_items xs) (plain_items ys) p.1), right_append coding xs ys p.2 q)

right_kept : (coding : Coding) → Keeps (Right coding)
right_kept coding = record { nothing = tt; item = λ i. tt; following = λ xs ys. right_append coding xs ys }

count_plain : (xs : List Marked) → length (plain_items xs) ≡ count_items xs
count_plain [] = refl
count_plain (Plain i ∷ xs) = let h = count_plain xs in omega (arith, h)
count_plain (Begins m ∷ xs) = count_plain xs

fill_begins : (levels : ℕ → ℕ) (bodies : BodiesCode Marked) (ps : List Piece) (f : ℕ)
    → let x = fill Plain levels bodies ps f in Begin ps (map count_items x.2) (plain_items x.0)
fill_begins levels bodies [] f = tt
fill_begins levels bodies (pieces.Item i ∷ ps) f = (refl, fill_begins levels bodies ps f)
fill_begins levels bodies (pieces.Body n ∷ ps) f =
    let b = bodies n (levels n) (label_ahead ps) f in
    let x = fill Plain levels bodies ps b.1 in
    rw (plain_append b.0 x.0, sym (count_plain b.0))
    (omega (arith, length-append (plain_items b.0) (plain_items x.0)), rw (drop-append_seam (plain_items b.0) (plain_items x.0)) (fill_begins levels bodies ps b.1))

abbrev AllRight : Coding → BodiesCode Marked → Type 0
AllRight coding bodies = (n s l f : ℕ) → Right coding (bodies n s l f).0

fill_right : (coding : Coding) (levels : ℕ → ℕ) (bodies : BodiesCode Marked) → AllRight coding bodies → (ps : List Piece) (f : ℕ) → Right coding (fill Plain levels bodies ps f).0
fill_right coding levels bodies h [] f = tt
fill_right coding levels bodies h (pieces.Item i ∷ ps) f = fill_right coding levels bodies h ps f
fill_right coding levels bodies h (pieces.Body n ∷ ps) f =
    let b = bodies n (levels n) (label_ahead ps) f in
    right_append coding b.0 (fill Plain levels bodies ps b.1).0 (h n (levels n) (label_ahead ps) f) (fill_right coding levels bodies h ps b.1)

roots_right : (coding : Coding) (levels : ℕ → ℕ) (bodies : BodiesCode Marked) → AllRight coding bodies → OfRoots (Right coding) (marked_over coding levels bodies)
roots_right coding levels bodies h r t f =
    let ps = coding.pieces r t f in
    let g = f + coding.labels r in
    (refl, fill_begins levels bodies ps g, fill_right coding levels bodies h ps g)

either_right : (coding : Coding) (t : Bool) (x y : Code Marked) → Right coding x.0 → Right coding y.0 → Right coding (let z : Code Marked = elim t [ true ↦ x | false ↦ y ] in z.0)
either_right coding true x y p q = p
either_right coding false x y p q = q

bodies_right : (coding : Coding) (levels : ℕ → ℕ) (first : ℕ) (vs : List Valof) → AllRight coding (bodies_from Plain (marked_over coding levels) first vs)
bodies_right coding levels first [] n s l f = tt
bodies_right coding levels first (v ∷ vs) n s l f =
    let inner = bodies_from Plain (marked_over coding levels) (first + 1) vs in
    let h = bodies_right coding levels (first + 1) vs in
    let k = right_kept coding in
    either_right coding (n == first) (emit_valof Plain (marked_over coding levels inner) v.body n s l f) (inner n s l f)
    (k.following (emit_block Plain (marked_over coding levels inner) v.body s (body_exits l) f).0 (Plain zero_item ∷ []) (block_kept (Right coding) k (marked_over coding levels inner) (roots_right coding levels inner h) v.body s (body_exits l) f) (k.item zero_item))
    (h n s l f)

code_right : (coding : Coding) (core : Core) → Right coding (marked_code coding core)
code_right coding core =
    let levels = level_of core.valofs in
    let inner = bodies_from Plain (marked_over coding levels) 0 core.valofs in
    routines_kept (Right coding) (right_kept coding) (marked_over coding levels inner) (roots_right coding levels inner (bodies_right coding levels 0 core.valofs)) 0 core.places (length core.places + 1)

all_stand : (coding : Coding) (front : List Item) (ps : List Marked) (back : List Item) → Right coding ps
    → AllStandAt coding (front ++ (plain_items ps ++ back)) (entries_from (length front) ps)
all_stand coding front [] back r = tt
all_stand coding front (Plain i ∷ ps) back r =
    let h = all_stand coding (front ++ i ∷ []) ps back r in
    let A : List Item → ℕ → Type 0 = λ is k. AllStandAt coding is (entries_from k ps) in
    let e : (front ++ i ∷ []) ++ (plain_items ps ++ back) ≡ front ++ (i ∷ plain_items ps ++ back) = append_assoc front (i ∷ []) (plain_items ps ++ back) in
    subst (λ is. A is (length front + 1)) e (subst (A ((front ++ i ∷ []) ++ (plain_items ps ++ back))) (length-append front (i ∷ [])) h)
all_stand coding front (Begins m ∷ ps) back r =
    let h = begin_longer (coding.pieces m.root m.target m.first) m.bodies (plain_items ps) back r.1 in
    ((r.0, rw (drop-append_seam front (plain_items ps ++ back)) h), all_stand coding front ps back r.2)

pub entries_stand : EntriesStand
entries_stand coding core =
    let back = data_items 0 core.places ++ setting_items 0 core.places in
    rw (sym (marks_add_nothing coding core)) (all_stand coding [] (marked_code coding core) back (code_right coding core))
