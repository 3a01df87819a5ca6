-- Levels and frame sizes of a translation are those of the section; labels and numbers rise by one.
use Rattle.std.proofs.Common.{◌≡◌, ◌∙◌, ℕ, ◌+◌, List, [], ◌∷◌, map, refl, sym, subst}
use Rattle.bc_core.specs.Level.{side_level}
use Rattle.bc_core.specs.Layout.{cells_of_valofs}
use Rattle.bc_scope_defs.specs.Translation.{Forms, forms_of_all, places_of, valofs_of}
use Rattle.bc_scope_defs.specs.Found.{Thing, AValof, ARoutine, Data, AStatic, ATable, AText, found_in_section}
use Rattle.bc_scope_laws.specs.Laws.{LevelsAreTheSections, FramesAreTheSections, NumbersRise, frames_of_places, frames_found, labels_found, numbers_found, counted}
use Rattle.bc_scope_laws.proofs.Forms.{count_kept}
use Rattle.bc_scope_laws.proofs.Items.{levels}
use Rattle.bc_scope_laws.proofs.Declared as declared
use Rattle.bc_scope_laws.proofs.SideLevels.{levels_kept}
use Rattle.bc_scope_laws.proofs.Numbered.{Nested, routine_body, all_nested}
use Rattle.bc_scope_laws.proofs.AlikeWidths.{same_frame}
use Rattle.bc_scope_laws.proofs.Widths.{AllWide, table_wide, wide_in_routine, first_wide}

levels_are : (fs : List Forms) (s : ℕ) → levels fs s ≡ map (λ (f : Forms). side_level f.address s) fs
levels_are [] s = refl
levels_are (f ∷ fs) s = λ i. side_level f.address s ∷ levels_are fs s i

pub levels_are_the_sections : LevelsAreTheSections
levels_are_the_sections = record {
  after_declarations = declared.level_kept;
  of_sides = λ E at xs s. levels_kept E at xs s ∙ levels_are (forms_of_all E at xs) s;
  of_arguments = count_kept;
}

frames_kept : (all : List Thing) (n q : ℕ) (things : List Thing) → AllWide (cells_of_valofs 0 (valofs_of all)) things → Nested n q things → frames_of_places (valofs_of all) (places_of things) ≡ frames_found things
frames_kept all n q [] w k = refl
frames_kept all n q (AValof f ∷ things) w k = frames_kept all (n + 1) q things w.1 k.2
frames_kept all n q (Data label (AStatic word) ∷ things) w k = frames_kept all n (q + 1) things w k.0
frames_kept all n q (Data label (ATable words) ∷ things) w k = frames_kept all n (q + 1) things w k.0
frames_kept all n q (Data label (AText bytes) ∷ things) w k = frames_kept all n (q + 1) things w k.0
frames_kept all n q (ARoutine r ∷ things) w k =
    let V = cells_of_valofs 0 (valofs_of all) in
    let wide = wide_in_routine all r (first_wide V (routine_body r) k.0.0 (subst (λ gs. AllWide V gs) k.0.1 w)) in
    λ i. (sym wide ∙ same_frame r) i ∷ frames_kept all n (q + 1) things w k.1 i

pub frames_are_the_sections : FramesAreTheSections
frames_are_the_sections ds =
    let things = found_in_section ds in frames_kept things 0 1 things (table_wide 0 1 things (all_nested ds)) (all_nested ds)

labels_rise : (n q : ℕ) (things : List Thing) → Nested n q things → labels_found things ≡ counted q (labels_found things)
labels_rise n q [] k = refl
labels_rise n q (AValof f ∷ things) k = labels_rise (n + 1) q things k.2
labels_rise n q (ARoutine r ∷ things) k = λ i. k.2 i ∷ labels_rise n (q + 1) things k.1 i
labels_rise n q (Data label d ∷ things) k = λ i. k.1 i ∷ labels_rise n (q + 1) things k.0 i

valofs_rise : (n q : ℕ) (things : List Thing) → Nested n q things → numbers_found things ≡ counted n (numbers_found things)
valofs_rise n q [] k = refl
valofs_rise n q (AValof f ∷ things) k = λ i. k.0 i ∷ valofs_rise (n + 1) q things k.2 i
valofs_rise n q (ARoutine r ∷ things) k = valofs_rise n (q + 1) things k.1
valofs_rise n q (Data label d ∷ things) k = valofs_rise n (q + 1) things k.0

pub numbers_rise : NumbersRise
numbers_rise ds = let things = found_in_section ds in (labels_rise 0 1 things (all_nested ds), valofs_rise 0 1 things (all_nested ds))
