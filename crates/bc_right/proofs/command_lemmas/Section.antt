-- If the sections' code is in the store, each routine's code is at its address.
use Rattle.std.proofs.Common.{◌≡◌, ℕ, ◌+◌, ◌==◌, Bool, true, false, Option, Some, None, List, [], ◌∷◌, refl, sym, ◌∙◌, subst}
use Rattle.std.proofs.lemmas.Bool.{eqb-true}
use Rattle.bc_core.specs.Commands as commands
use Rattle.bc_core.specs.Commands.{Place, Routine}
use Rattle.bc_core.specs.Level.{level_after_parameters}
use Rattle.bc_core.specs.Primitive.{Primitive, primitives, primitive_among}
use Rattle.bc_core.specs.Map.{Placed}
use Rattle.bc_core.specs.Meaning.{Callee, OfSection, OfLibrary, callee, callee_among, of_library, or_else}
use Rattle.bc_right.specs.steps.Landing.{Moment, Stands}
use Rattle.bc_gen_defs.specs.Bodies.{bodies_from, emit_body, level_of}
use Rattle.bc_right.specs.commands.Calls.{RoutineStands}
use Rattle.bc_gen_defs.specs.Section.{emit_routines}
use Rattle.bc_right.specs.commands.Section.{PlacesLevelled, SectionStands, AllStand, SectionsStand}
use Rattle.bc_right.proofs.step_lemmas.Steps.{parts, at_label, after_label}

same_section : (s s1 : Placed) (r r1 : Routine) → OfSection s r ≡ OfSection s1 r1 → s ≡ s1
same_section s s1 r r1 e = cc

same_routine : (s s1 : Placed) (r r1 : Routine) → OfSection s r ≡ OfSection s1 r1 → r ≡ r1
same_routine s s1 r r1 e = cc

of_some : (k k1 : Callee) → Some k ≡ Some k1 → k ≡ k1
of_some k k1 e = cc

no_callee : (k : Callee) → None ≡ Some k → ⊥
no_callee k e = cc

no_routine : (q : Primitive) (s : Placed) (r : Routine) → OfLibrary q ≡ OfSection s r → ⊥
no_routine q s r e = cc

-- the routine that is called by this address has its code there
abbrev Found : Moment → ℕ → Option Callee → Type 0
Found S v k = (section : Placed) (r : Routine) → k ≡ Some (OfSection section r) → RoutineStands S section r v

found_here : (S : Moment) (v : ℕ) (section : Placed) (r : Routine) → RoutineStands S section r v → Found S v (Some (OfSection section r))
found_here S v section r own s1 r1 e =
    let k = of_some (OfSection section r) (OfSection s1 r1) e in
    subst (λ z. RoutineStands S s1 z v) (same_routine section s1 r r1 k) (subst (λ z. RoutineStands S z r v) (same_section section s1 r r1 k) own)

module _ (S : Moment) (section : Placed) (own : SectionStands S section) (v : ℕ) where
  found_among : (places : List Place) (j f c end : ℕ) → PlacesLevelled (level_of section.core.valofs) places → Stands section.address S c (emit_routines (λ i. i) (own.over (bodies_from (λ i. i) own.over 0 section.core.valofs)) j places f).0 end → Found S v (callee_among section (j + 1) places v)
  found_among [] j f c end lv st s1 r1 e = absurd (no_callee (OfSection s1 r1) e)
  found_among (commands.Code r ∷ places) j f c end lv st s1 r1 e =
      let roots = own.over (bodies_from (λ i. i) own.over 0 section.core.valofs) in
      let x = emit_body (λ i. i) roots r.body (level_after_parameters r.parameters) f in
      let q = parts x.0 (emit_routines (λ i. i) roots (j + 1) places x.1).0 (after_label st) in
      by_address (section.address (j + 1) == v) refl (λ found. record {
        over = own.over;
        first = f;
        end = q.middle;
        right = own.right;
        levelled = lv.0;
        valofs = own.valofs;
        stands = subst (λ z. Stands section.address S z x.0 q.middle) (sym (at_label st) ∙ found) q.front;
      }) (found_among places (j + 1) x.1 q.middle end lv.1 q.back) s1 r1 e where
        by_address : (t : Bool) → (section.address (j + 1) == v) ≡ t → (section.address (j + 1) ≡ v → RoutineStands S section r v) → Found S v (callee_among section (j + 1 + 1) places v) → Found S v (elim t [ true ↦ Some (OfSection section r) | false ↦ callee_among section (j + 1 + 1) places v ])
        by_address true e g k = found_here S v section r (g (eqb-true (section.address (j + 1)) v e))
        by_address false e g k = k
  found_among (commands.Static w ∷ places) j f c end lv st s1 r1 e = found_among places (j + 1) f c end lv st s1 r1 e
  found_among (commands.Table ws ∷ places) j f c end lv st s1 r1 e = found_among places (j + 1) f c end lv st s1 r1 e
  found_among (commands.Text bytes ∷ places) j f c end lv st s1 r1 e = found_among places (j + 1) f c end lv st s1 r1 e

found_or : (S : Moment) (v : ℕ) (k other : Option Callee) → Found S v k → Found S v other → Found S v (or_else k other)
found_or S v None other h g = g
found_or S v (Some k) other h g = h

of_library_alone : (S : Moment) (v : ℕ) (q : Option Primitive) → Found S v (of_library q)
of_library_alone S v None s r e = absurd (no_callee (OfSection s r) e)
of_library_alone S v (Some q) s r e = absurd (no_routine q s r (of_some (OfLibrary q) (OfSection s r) e))

found : (S : Moment) (v : ℕ) (program : List Placed) → AllStand S program → Found S v (callee program v)
found S v [] all = of_library_alone S v (primitive_among primitives v)
found S v (section ∷ sections) all =
    let own = all.0 in
    found_or S v (callee_among section 1 section.core.places v) (callee sections v)
    (found_among S section own v section.core.places 0 own.first own.begin own.end own.places own.stands)
    (found S v sections all.1)

pub sections_stand : SectionsStand
sections_stand S program all v section r e = found S v program all section r e
