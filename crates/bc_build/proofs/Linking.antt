-- The linker refuses accepted sections only for a global that is set twice or for their size.
use Rattle.std.proofs.Common.{◌≡◌, ◌∙◌, ℕ, ◌+◌, Bool, true, false, cond, List, [], ◌∷◌, map, Option, Some, None, refl, sym, ap, arith}
use Rattle.std.specs.Option.{option_map}
use Rattle.bc_text_items.specs.declared.item.Item.{Item}
use Rattle.bc_parse_tree.specs.Tree.{Declarations}
use Rattle.bc_lex.specs.Files.{File}
use Rattle.bc_link.specs.declared.link_error.LinkError.{LinkError}
use Rattle.bc_link.specs.declared.link_error.LinkError.TheVariants.{LabelUnset, LabelTwice, GlobalTwice, TooLarge, Memory}
use Rattle.bc_link.specs.Refusals.{first_of, label_twice_from, label_unset_from, repeated_global_of, global_twice, too_large, refusal_of}
use Rattle.bc_link.specs.Linked.{IsRefusal}
use Rattle.bc_run.specs.Runs.{with_primitives}
use Rattle.bc_rules_defs.specs.declared.rule.Table.TheVariants.{Two}
use Rattle.bc_select_defs.specs.Chosen.{chosen}
use Rattle.bc_scope_defs.specs.Translation.{core_of}
use Rattle.bc_gen.specs.Chosen.{coding}
use Rattle.bc_gen_laws.specs.labels.Laws.{LabelsStand, LabelsStandOnce}
use Rattle.bc_scope_laws.specs.Laws.{SectionsFit}
use Rattle.bc_build.specs.Compiled.{AreAccepted}
use Rattle.bc_build.specs.Code.{items_of}
use Rattle.bc_build.specs.Refused.{IsLinkFault}

-- no label is set twice or missing in these segments
record LabelsAreRight (segments : List (List Item)) : Type 0 where
  twice : (k : ℕ) → label_twice_from k segments ≡ None
  unset : (k : ℕ) → label_unset_from k segments ≡ None

one_more : (segment : List Item) (segments : List (List Item)) → LabelsStand segment → LabelsAreRight segments → LabelsAreRight (segment ∷ segments)
one_more segment segments h rest = record {
  twice = λ k. ap (λ x. first_of (option_map (LabelTwice k) x) (label_twice_from (k + 1) segments)) h.0 ∙ rest.twice (k + 1);
  unset = λ k. ap (λ x. first_of (option_map (LabelUnset k) x) (label_unset_from (k + 1) segments)) h.1 ∙ rest.unset (k + 1);
}

labels_are_right : LabelsStandOnce → SectionsFit → (files : List File) (mains : List ℕ) (sections : List Declarations) → AreAccepted files mains sections → LabelsAreRight (map items_of sections)
unfolding coding
labels_are_right once keep files [] [] h = record { twice = λ k. refl; unset = λ k. refl }
labels_are_right once keep files [] (s ∷ ss) h = absurd h
labels_are_right once keep files (main ∷ mains) [] h = absurd h
labels_are_right once keep files (main ∷ mains) (s ∷ ss) h =
    let small = h.0.is_section.small in
    one_more (items_of s) (map items_of ss) (once Two (chosen Two) (core_of s) (keep s (omega (arith, small)) h.0.faultless)) (labels_are_right once keep files mains ss h.1)

nothing_after : (x : Option LinkError) → first_of x None ≡ x
nothing_after None = refl
nothing_after (Some e) = refl

refusal_is : (segments : List (List Item)) → LabelsAreRight segments → refusal_of (with_primitives segments) ≡ first_of (global_twice (with_primitives segments)) (too_large (with_primitives segments))
refusal_is segments h =
    let all = with_primitives segments in
    let twice : label_twice_from 0 all ≡ None = h.twice 1 in
    let unset : label_unset_from 0 all ≡ None = h.unset 1 in
    ap (λ x. first_of x (first_of (global_twice all) (first_of (too_large all) (label_unset_from 0 all)))) twice
    ∙ ap (λ x. first_of (global_twice all) (first_of (too_large all) x)) unset
    ∙ ap (λ x. first_of (global_twice all) x) (nothing_after (too_large all))

-- the refusal, given the global that is set twice, if any, and whether there is room
abbrev due : Option ℕ → Bool → Option LinkError
due x room = first_of (option_map GlobalTwice x) (cond room None (Some TooLarge))

no_label_twice : (x : Option ℕ) (room : Bool) (k l : ℕ) → due x room ≡ Some (LabelTwice k l) → ⊥
no_label_twice (Some n) room k l h = cc
no_label_twice None true k l h = cc
no_label_twice None false k l h = cc

no_label_unset : (x : Option ℕ) (room : Bool) (k l : ℕ) → due x room ≡ Some (LabelUnset k l) → ⊥
no_label_unset (Some n) room k l h = cc
no_label_unset None true k l h = cc
no_label_unset None false k l h = cc

a_global : (x : Option ℕ) (room : Bool) (n : ℕ) → due x room ≡ Some (GlobalTwice n) → option_map GlobalTwice x ≡ Some (GlobalTwice n)
a_global (Some m) room n h = h
a_global None true n h = absurd (cc)
a_global None false n h = absurd (cc)

the_size : (x : Option ℕ) (room : Bool) → due x room ≡ Some TooLarge → (option_map GlobalTwice x ≡ None) × (cond room None (Some TooLarge) ≡ Some TooLarge)
the_size (Some m) room h = absurd (cc)
the_size None true h = absurd (cc)
the_size None false h = (refl, refl)

fault_of : (segments : List (List Item)) (e : LinkError) → refusal_of segments ≡ first_of (global_twice segments) (too_large segments) → IsRefusal (refusal_of segments) e → IsLinkFault segments e
fault_of segments Memory r h = tt
fault_of segments (LabelUnset k l) r h = no_label_unset (repeated_global_of segments) _ k l (sym r ∙ h)
fault_of segments (LabelTwice k l) r h = no_label_twice (repeated_global_of segments) _ k l (sym r ∙ h)
fault_of segments (GlobalTwice n) r h = a_global (repeated_global_of segments) _ n (sym r ∙ h)
fault_of segments TooLarge r h = the_size (repeated_global_of segments) _ (sym r ∙ h)

pub link_fault : LabelsStandOnce → SectionsFit → (files : List File) (mains : List ℕ) (sections : List Declarations) (e : LinkError) → AreAccepted files mains sections
    → IsRefusal (refusal_of (with_primitives (map items_of sections))) e → IsLinkFault (with_primitives (map items_of sections)) e
link_fault once keep files mains sections e accepted h =
    fault_of (with_primitives (map items_of sections)) e (refusal_is (map items_of sections) (labels_are_right once keep files mains sections accepted)) h
