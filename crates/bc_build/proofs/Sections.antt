-- The levels of the roots of a section without fault are within the frames of its routines.
use Rattle.std.proofs.Common.{ℕ, suc, ◌+◌, ◌<◌, ◌≤◌, ◌==◌, ◌≡◌, ◌∙◌, cond, Bool, true, false, Option, Some, None, List, [], ◌∷◌, length, refl, sym, ap, subst, arith}
use Rattle.std.specs.Prelude.{nat_le}
use Rattle.bc_core.specs.Tree.{Root}
use Rattle.bc_core.specs.Commands as core
use Rattle.bc_core.specs.Level.{level_after_parameters}
use Rattle.bc_core.specs.Layout.{Bodies, cells_of_block, cells_of_body}
use Rattle.bc_scope_defs.specs.Scope.{nothing_known}
use Rattle.bc_scope_defs.specs.Found.{Found, FoundRoutine, RoutineBody, Gives, Does, Thing, AValof, ARoutine, Data, AStatic, ATable, AText, found_in_section, section_start}
use Rattle.bc_scope_defs.specs.Translation.{core_block, valofs_of, places_of, core_body, core_routine, core_of}
use Rattle.bc_scope_defs.specs.FramesAlong.{width_of_body, frame_of}
use Rattle.bc_scope_defs.specs.Faults.{Fault, AFrameTooLarge, or_else, unless, places_fault}
use Rattle.bc_scope_defs.specs.FaultsAlong.{frames_fault, declarations_fault}
use Rattle.bc_scope_laws.proofs.AlikeFaults.{same_section_fault}
use Rattle.bc_scope_laws.proofs.Table.{same_number, other_number}
use Rattle.bc_scope_laws.proofs.Numbered.{Nested, body_of, routine_body, found_in_routine, all_nested}
use Rattle.bc_scope_laws.proofs.Widths.{AllWide, block_wide, exp_wide, first_wide}
use Rattle.bc_gen_defs.specs.Emit.{Roots}
use Rattle.bc_gen_defs.specs.Bodies.{coding_of, bodies_from, emit_body, level_of}
use Rattle.bc_gen_defs.specs.Section.{emit_routines}
use Rattle.bc_gen_defs.specs.Entries.{Marked, Plain, marked_over, marked_code, section_entries}
use Rattle.bc_build.specs.RoomLaws.{HasLevels, RootsHaveLevels}
use Rattle.bc_build.proofs.Marks.{AllMarks, marks_both, entries_of_marks, roots_of_entries}
use Rattle.bc_build.proofs.Frames.{most, left_most, right_most, RootFits}
use Rattle.bc_build.proofs.Framed.{body_framed}
use Rattle.bc_build.proofs.Tables.{strict, table, Leveled, roots_placed, bodies_placed}

-- each VALOF that is found is at the level of its number
abbrev AllAt : (ℕ → ℕ) → List Thing → Type 0
AllAt levels [] = Unit {0}
AllAt levels (AValof f ∷ fs) = (levels f.number ≡ f.level) × AllAt levels fs
AllAt levels (ARoutine r ∷ fs) = AllAt levels fs
AllAt levels (Data q d ∷ fs) = AllAt levels fs

all_at : (levels : ℕ → ℕ) (n q : ℕ) (fs : List Thing) → Nested n q fs → ((i : ℕ) → levels (n + i) ≡ level_of (valofs_of fs) i) → AllAt levels fs
all_at levels n q [] h g = tt
all_at levels n q (ARoutine r ∷ fs) h g = all_at levels n (q + 1) fs h.1 g
all_at levels n q (Data m d ∷ fs) h g = all_at levels n (q + 1) fs h.0 g
all_at levels n q (AValof f ∷ fs) h g =
    let e : n ≡ n + 0 = omega arith in (
      ap levels (h.0 ∙ e) ∙ g 0,
      all_at levels (n + 1) q fs h.2 (λ i. let m : (n + 1) + i ≡ n + suc i = omega arith in ap levels m ∙ g (suc i)),
    )

-- hence the table has for each what was found
lifted : (levels : ℕ → ℕ) (n m q : ℕ) (f : Found) (vs : List core.Valof) (v : core.Valof) (gs : List Thing) → n < m → Nested m q gs
    → AllWide (strict levels (table levels (n + 1) vs)) gs → AllWide (strict levels (table levels n (v ∷ vs))) gs
lifted levels n m q f vs v [] l h r = tt
lifted levels n m q f vs v (ARoutine g ∷ gs) l h r = lifted levels n m (q + 1) f vs v gs l h.1 r
lifted levels n m q f vs v (Data x g ∷ gs) l h r = lifted levels n m (q + 1) f vs v gs l h.0 r
lifted levels n m q f vs v (AValof g ∷ gs) l h r =
    let inner = table levels (n + 1) vs in (
      ap (λ (b : Bool). let c : ℕ = elim b [ true ↦ cells_of_block (strict levels inner) v.body g.level | false ↦ inner g.number g.level ] in cond (levels g.number == g.level) c 32769) (other_number n g.number (subst (λ k. n < k) (sym h.0) l)) ∙ r.0,
      lifted levels n (m + 1) q f vs v gs (omega arith) h.2 r.1,
    )

table_wide : (levels : ℕ → ℕ) (n q : ℕ) (fs : List Thing) → Nested n q fs → AllAt levels fs → AllWide (strict levels (table levels n (valofs_of fs))) fs
table_wide levels n q [] h g = tt
table_wide levels n q (ARoutine r ∷ fs) h g = table_wide levels n (q + 1) fs h.1 g
table_wide levels n q (Data m d ∷ fs) h g = table_wide levels n (q + 1) fs h.0 g
table_wide levels n q (AValof f ∷ fs) h g =
    let vs = valofs_of fs in
    let V = table levels (n + 1) vs in
    let inner = strict levels V in
    let body = core_block f.names f.numbers f.body f.level in
    let rest = table_wide levels (n + 1) q fs h.2 g.1 in
    let of_body = first_wide inner (body_of f) h.1.0 (subst (λ gs. AllWide inner gs) h.1.1 rest) in
    let here : cond (levels f.number == f.level) (table levels n (valofs_of (AValof f ∷ fs)) f.number f.level) 32769 ≡ table levels n (valofs_of (AValof f ∷ fs)) f.number f.level =
    ap (λ (b : Bool). cond b (table levels n (valofs_of (AValof f ∷ fs)) f.number f.level) 32769) (same_number f.level (levels f.number) g.0) in (
      here ∙ ap (λ (b : Bool). elim b [ true ↦ cells_of_block inner body f.level | false ↦ V f.number f.level ]) (same_number n f.number h.0) ∙ block_wide inner f.names f.numbers f.body f.level of_body,
      lifted levels n (n + 1) q f vs (record { level = f.level; body = body }) fs (omega arith) h.2 rest,
    )

-- if two have no fault, neither has one
none_left : (a b : Option Fault) → or_else a b ≡ None → a ≡ None
none_left None b h = refl
none_left (Some f) b h = h

none_right : (a b : Option Fault) → or_else a b ≡ None → b ≡ None
none_right None b h = h
none_right (Some f) b h = absurd (cc)

no_fault : (t : Bool) (f : Fault) → unless t f ≡ None → t ≡ true
no_fault true f h = refl
no_fault false f h = absurd (cc)

-- the routines
body_wide : (V : Bodies) (r : FoundRoutine) → AllWide V (routine_body r) → let s = level_after_parameters r.parameters in cells_of_body V (core_routine r).body s ≡ width_of_body r.names r.numbers r.body s
body_wide V r h = of_body r.body h where
  of_body : (b : RoutineBody) → AllWide V (found_in_routine r.names r.numbers b (level_after_parameters r.parameters))
      → cells_of_body V (core_body r.names r.numbers b (level_after_parameters r.parameters)) (level_after_parameters r.parameters) ≡ width_of_body r.names r.numbers b (level_after_parameters r.parameters)
  of_body (Gives e) k = (exp_wide V r.names r.numbers e (level_after_parameters r.parameters) k).1
  of_body (Does b) k = block_wide V r.names r.numbers b (level_after_parameters r.parameters) k

module _ (V : Bodies) (roots : Roots Marked) (known : (x : Root) (t f : ℕ) → RootFits V x → AllMarks Leveled (roots x t f).0) where
  routines_leveled : (j n q : ℕ) (fs : List Thing) (f : ℕ) → Nested n q fs → AllWide V fs → frames_fault fs ≡ None → AllMarks Leveled (emit_routines Plain roots j (places_of fs) f).0
  routines_leveled j n q [] f h w k = tt
  routines_leveled j n q (AValof g ∷ fs) f h w k = routines_leveled j (n + 1) q fs f h.2 w.1 k
  routines_leveled j n q (Data m (AStatic v) ∷ fs) f h w k = routines_leveled (j + 1) n (q + 1) fs f h.0 w k
  routines_leveled j n q (Data m (ATable v) ∷ fs) f h w k = routines_leveled (j + 1) n (q + 1) fs f h.0 w k
  routines_leveled j n q (Data m (AText v) ∷ fs) f h w k = routines_leveled (j + 1) n (q + 1) fs f h.0 w k
  routines_leveled j n q (ARoutine r ∷ fs) f h w k =
      let s = level_after_parameters r.parameters in
      let x = emit_body Plain roots (core_routine r).body s f in
      let this : Option Fault = unless (nat_le (frame_of r) 32768) AFrameTooLarge in
      let wide = body_wide V r (first_wide V (routine_body r) h.0.0 (subst (λ gs. AllWide V gs) h.0.1 w)) in
      let small : nat_le (frame_of r) 32768 ≡ true = no_fault (nat_le (frame_of r) 32768) AFrameTooLarge (none_left this (frames_fault fs) k) in
      let frame : frame_of r ≤ most = grind arith in
      let width = width_of_body r.names r.numbers r.body s in
      let own : s ≤ most = left_most s width frame in
      let cells : cells_of_body V (core_routine r).body s ≤ most = subst (λ c. c ≤ most) (sym wide) (right_most s width frame) in
      marks_both Leveled x.0 _ (body_framed V Leveled roots known (core_routine r).body s f own cells)
      (routines_leveled (j + 1) n (q + 1) fs x.1 h.1 w (none_right this (frames_fault fs) k))

pub roots_have_levels : RootsHaveLevels
roots_have_levels T choice ds n =
    let fs = found_in_section ds in
    let c = core_of ds in
    let coding = coding_of choice in
    let levels = level_of c.valofs in
    let nested = all_nested ds in
    let following = or_else (frames_fault fs) (places_fault fs) in
    let frames = none_left (frames_fault fs) (places_fault fs) (none_right (declarations_fault nothing_known section_start ds 0) following (same_section_fault ds ∙ n)) in
    let V = table levels 0 c.valofs in
    let wide = table_wide levels 0 1 fs nested (all_at levels 0 1 fs nested (λ i. let m : 0 + i ≡ i = omega arith in ap levels m)) in
    let bodies = bodies_from Plain (marked_over coding levels) 0 c.valofs in
    let marks = routines_leveled (strict levels V) (marked_over coding levels bodies) (roots_placed choice levels V bodies (bodies_placed choice levels 0 c.valofs)) 0 0 1 fs (length c.places + 1) nested wide frames in
    roots_of_entries HasLevels (section_entries coding c) (entries_of_marks Leveled (λ e. HasLevels e.root) (λ k m h. h) 0 (marked_code coding c) marks)
