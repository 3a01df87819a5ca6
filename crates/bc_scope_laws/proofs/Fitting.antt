-- The translation of a section without fault is well formed.
use Rattle.std.proofs.Common.{◌≡◌, ◌∙◌, ℕ, suc, ◌+◌, ◌≤◌, ◌&&◌, true, List, [], ◌∷◌, map, length, slice_get, Option, Some, None, refl, sym, ap, subst, arith}
use Rattle.std.specs.Prelude.{nat_le}
use Rattle.bc_parse_tree.specs.Tree.{Declarations}
use Rattle.bc_parse_tree.specs.Size.{exp_size, declarations_size}
use Rattle.bc_core.specs.Commands as core
use Rattle.bc_core.specs.Level.{level_after_parameters}
use Rattle.bc_core.specs.Layout.{frame_size, cells_of_valofs}
use Rattle.bc_core.specs.WellFormed.{Around, stands_at, body_fits, places_fit, valofs_fit}
use Rattle.bc_scope_defs.specs.Scope.{Env, nothing_known}
use Rattle.bc_scope_defs.specs.Found.{RoutineBody, Gives, Does, Thing, AValof, ARoutine, Data, AStatic, ATable, AText, found_in_section, section_start}
use Rattle.bc_scope_defs.specs.FramesAlong.{frame_of}
use Rattle.bc_scope_defs.specs.Translation.{forms, core_body, core_routine, places_of, valofs_of}
use Rattle.bc_scope_defs.specs.Faults.{Fault, AFrameTooLarge, or_else, unless, places_fault, section_fault, allowed_in_routine, allowed_in_valof}
use Rattle.bc_scope_defs.specs.FaultsAlong.{declarations_fault, frames_fault}
use Rattle.bc_scope_laws.specs.Laws.{SectionsFit}
use Rattle.bc_scope_laws.proofs.Small.{small}
use Rattle.bc_scope_laws.proofs.Table.{same_number}
use Rattle.bc_scope_laws.proofs.Numbered.{Nested, body_of, routine_body, found_in_routine, all_nested}
use Rattle.bc_scope_laws.proofs.Widths.{AllWide, table_wide, wide_in_routine, first_wide}
use Rattle.bc_scope_laws.proofs.Fits.{AllThings, first, Stands, IsLabel, Sound, none_left, none_right, no_fault, exp_fit}
use Rattle.bc_scope_laws.proofs.FitsCommands.{most_size, root_fit, block_fit}
use Rattle.bc_scope_laws.proofs.AlikeFaults.{same_section_fault}
use Rattle.bc_scope_laws.proofs.Cleanness.{Clean, body_fault, body_size, clean_declarations}

abbrev among : (places first : ℕ) → List ℕ → Around
among places from levels = record { places = places; first = from; levels = levels }

abbrev levels_of : List Thing → List ℕ
levels_of fs = map (λ (v : core.Valof). v.level) (valofs_of fs)

le_is : (a b : ℕ) → a ≤ b → nat_le a b ≡ true
le_is a b h = grind arith

is_label : (places m q : ℕ) → m ≡ q → 1 ≤ q → q ≤ places → IsLabel places m
is_label places m q e h k = let a : 1 ≤ m = omega arith in let b : m ≤ places = omega arith in λ i. le_is 1 m a i && le_is m places b i

stands : (places from n q : ℕ) (levels : List ℕ) (fs : List Thing) → Nested n q fs → from ≤ n → 1 ≤ q → q + length (places_of fs) ≤ places + 1
    → ((i : ℕ) → slice_get (levels_of fs) i ≡ slice_get levels (n + i)) → AllThings (Stands (among places from levels)) fs
stands places from n q levels [] h l o w g = tt
stands places from n q levels (ARoutine r ∷ fs) h l o w g =
    (is_label places r.label q h.2 o (omega arith), stands places from n (q + 1) levels fs h.1 l (omega arith) (omega arith) g)
stands places from n q levels (Data m (AStatic v) ∷ fs) h l o w g = (is_label places m q h.1 o (omega arith), stands places from n (q + 1) levels fs h.0 l (omega arith) (omega arith) g)
stands places from n q levels (Data m (ATable v) ∷ fs) h l o w g = (is_label places m q h.1 o (omega arith), stands places from n (q + 1) levels fs h.0 l (omega arith) (omega arith) g)
stands places from n q levels (Data m (AText v) ∷ fs) h l o w g = (is_label places m q h.1 o (omega arith), stands places from n (q + 1) levels fs h.0 l (omega arith) (omega arith) g)
stands places from n q levels (AValof f ∷ fs) h l o w g =
    let e : n + 0 ≡ n = omega arith in
    let a : from ≤ f.number = omega (arith, h.0) in
    let at_number : slice_get levels f.number ≡ Some f.level = (λ i. slice_get levels (h.0 i)) ∙ (λ i. slice_get levels (sym e i)) ∙ sym (g 0) in (
      (le_is from f.number a, ap (λ (x : Option ℕ). stands_at x f.level) at_number ∙ same_number f.level f.level refl),
      stands places from (n + 1) q levels fs h.2 (omega arith) o w (λ i. let m : n + suc i ≡ (n + 1) + i = omega arith in g (suc i) ∙ ap (slice_get levels) m),
    )

valofs_stand : (places n q : ℕ) (levels : List ℕ) (fs : List Thing) → Nested n q fs → 1 ≤ q → q + length (places_of fs) ≤ places + 1
    → ((i : ℕ) → slice_get (levels_of fs) i ≡ slice_get levels (n + i)) → AllThings (Clean places) fs → valofs_fit (among places n levels) (valofs_of fs) ≡ true
valofs_stand places n q levels [] h o w g c = refl
valofs_stand places n q levels (ARoutine r ∷ fs) h o w g c = valofs_stand places n (q + 1) levels fs h.1 (omega arith) (omega arith) g c.1
valofs_stand places n q levels (Data m (AStatic v) ∷ fs) h o w g c = valofs_stand places n (q + 1) levels fs h.0 (omega arith) (omega arith) g c.1
valofs_stand places n q levels (Data m (ATable v) ∷ fs) h o w g c = valofs_stand places n (q + 1) levels fs h.0 (omega arith) (omega arith) g c.1
valofs_stand places n q levels (Data m (AText v) ∷ fs) h o w g c = valofs_stand places n (q + 1) levels fs h.0 (omega arith) (omega arith) g c.1
valofs_stand places n q levels (AValof f ∷ fs) h o w g c =
    let A : Around = among places (n + 1) levels in
    let g1 : (i : ℕ) → slice_get (levels_of fs) i ≡ slice_get levels ((n + 1) + i) = λ i. let m : n + suc i ≡ (n + 1) + i = omega arith in g (suc i) ∙ ap (slice_get levels) m in
    let l : n + 1 ≤ n + 1 = omega arith in
    let st = stands places (n + 1) (n + 1) q levels fs h.2 l o w g1 in
    let of_body = first (Stands A) (body_of f) h.1.0 (subst (λ gs. AllThings (Stands A) gs) h.1.1 st) in
    let hb = block_fit A allowed_in_valof [] f.names f.numbers f.body f.level c.0.2 c.0.0 of_body c.0.1 in
    λ i. hb i && valofs_stand places (n + 1) q levels fs h.2 o w g1 c.1 i

bodies_fit : (A : Around) (E : Env) (at : _) (b : RoutineBody) (s : ℕ) → body_size b ≤ most_size → Sound A.places [] E → AllThings (Stands A) (found_in_routine E at b s) → body_fault E at b s ≡ None → body_fits A (core_body E at b s) s ≡ true
bodies_fit A E at (Gives e) s z so h n = root_fit A (forms E at e).content s (exp_size e) (small E at e).1 z (exp_fit A E at e s so h).1
bodies_fit A E at (Does b) s z so h n = block_fit A allowed_in_routine [] E at b s z so h n

places_stand : (A : Around) (all : List Thing) (n q : ℕ) (fs : List Thing) → Nested n q fs → AllThings (Stands A) fs → AllWide (cells_of_valofs 0 (valofs_of all)) fs → AllThings (Clean A.places) fs
    → frames_fault fs ≡ None → places_fit A (valofs_of all) (places_of fs) ≡ true
places_stand A all n q [] h st w c f = refl
places_stand A all n q (AValof v ∷ fs) h st w c f = places_stand A all (n + 1) q fs h.2 st.1 w.1 c.1 f
places_stand A all n q (Data m (AStatic v) ∷ fs) h st w c f = λ i. true && places_stand A all n (q + 1) fs h.0 st.1 w c.1 f i
places_stand A all n q (Data m (ATable v) ∷ fs) h st w c f = λ i. true && places_stand A all n (q + 1) fs h.0 st.1 w c.1 f i
places_stand A all n q (Data m (AText v) ∷ fs) h st w c f = λ i. le_is (length v) 255 c.0 i && places_stand A all n (q + 1) fs h.0 st.1 w c.1 f i
places_stand A all n q (ARoutine r ∷ fs) h st w c f =
    let s = level_after_parameters r.parameters in
    let V = cells_of_valofs 0 (valofs_of all) in
    let this : Option Fault = unless (nat_le (frame_of r) 32768) AFrameTooLarge in
    let wide = wide_in_routine all r (first_wide V (routine_body r) h.0.0 (subst (λ gs. AllWide V gs) h.0.1 w)) in
    let frame : nat_le (frame_size (valofs_of all) (core_routine r)) 32768 ≡ true = ap (λ k. nat_le k 32768) (sym wide) ∙ no_fault (nat_le (frame_of r) 32768) AFrameTooLarge (none_left this (frames_fault fs) f) in
    let of_body = first (Stands A) (routine_body r) h.0.0 (subst (λ gs. AllThings (Stands A) gs) h.0.1 st.1) in
    let hb = bodies_fit A r.names r.numbers r.body s c.0.2 c.0.0 of_body c.0.1 in
    λ i. (c.0.3 i && frame i && hb i) && places_stand A all n (q + 1) fs h.1 st.1 w c.1 (none_right this (frames_fault fs) f) i

section_stands : (ds : Declarations) → let fs = found_in_section ds in AllThings (Stands (among (length (places_of fs)) 0 (levels_of fs))) fs
section_stands ds =
    let fs = found_in_section ds in
    let places = length (places_of fs) in
    let g : (i : ℕ) → slice_get (levels_of fs) i ≡ slice_get (levels_of fs) (0 + i) = λ i. let m : i ≡ 0 + i = omega arith in ap (slice_get (levels_of fs)) m in
    stands places 0 0 1 (levels_of fs) fs (all_nested ds) (omega arith) (omega arith) (omega arith) g

-- each routine and VALOF of a section without fault is without fault
pub section_clean : (ds : Declarations) → declarations_size ds ≤ 524288 → section_fault ds ≡ None → let fs = found_in_section ds in AllThings (Clean (length (places_of fs))) fs
section_clean ds z n =
    let fs = found_in_section ds in
    let empty : Sound (length (places_of fs)) [] nothing_known = record { from = λ q. tt } in
    clean_declarations (among (length (places_of fs)) 0 (levels_of fs)) [] nothing_known section_start ds 0 z empty (section_stands ds)
    (none_left (declarations_fault nothing_known section_start ds 0) (or_else (frames_fault fs) (places_fault fs)) (same_section_fault ds ∙ n))

pub sections_fit : SectionsFit
sections_fit ds z n =
    let fs = found_in_section ds in
    let places = length (places_of fs) in
    let A : Around = among places 0 (levels_of fs) in
    let nested = all_nested ds in
    let following = or_else (frames_fault fs) (places_fault fs) in
    let n1 = none_left (frames_fault fs) (places_fault fs) (none_right (declarations_fault nothing_known section_start ds 0) following (same_section_fault ds ∙ n)) in
    let o : 1 ≤ 1 = omega arith in
    let w : 1 + length (places_of fs) ≤ places + 1 = omega arith in
    let g : (i : ℕ) → slice_get (levels_of fs) i ≡ slice_get (levels_of fs) (0 + i) = λ i. let m : i ≡ 0 + i = omega arith in ap (slice_get (levels_of fs)) m in
    let c = section_clean ds z n in
    λ i. places_stand A fs 0 1 fs nested (section_stands ds) (table_wide 0 1 fs nested) c n1 i && valofs_stand places 0 1 (levels_of fs) fs nested o w g c i
