-- The run of the image, by the law `sections_run` of bc_right.
use Rattle.std.proofs.Common.{◌≡◌, ◌∙◌, ℕ, ◌+◌, ◌<◌, List, [], ◌∷◌, map, refl, sym, ap, subst, arith}
use Rattle.std.specs.Prelude.{None, All, slice_index}
use Rattle.std.proofs.lemmas.List.Elements.{All-nil, All-cons}
use Rattle.bc_text_items.specs.Sizes.{size_of_all}
use Rattle.bc_text_items.specs.Assembled.{label_places}
use Rattle.bc_text_items.specs.declared.item.Item.{Item}
use Rattle.bc_machine_defs.specs.State.{start}
use Rattle.bc_machine_defs.specs.declared.image.Image.{Image}
use Rattle.bc_machine_defs.specs.declared.image.SegmentPlace.{SegmentPlace}
use Rattle.bc_link.specs.Labels.{label_address}
use Rattle.bc_link.specs.Layout.{places_from, stack_base_of}
use Rattle.bc_link.specs.Linked.{image_of}
use Rattle.bc_link.specs.Refusals.{refusal_of}
use Rattle.bc_link.specs.Store.{store_of}
use Rattle.bc_run.specs.Runs.{with_primitives}
use Rattle.bc_parse_tree.specs.Tree.{Declarations}
use Rattle.bc_core.specs.Map.{Map, IsMap}
use Rattle.bc_core.specs.Commands.{Core}
use Rattle.bc_core.specs.Meaning.{meaning}
use Rattle.bc_core.specs.Same.{Same}
use Rattle.bc_scope_defs.specs.Translation.{core_of}
use Rattle.bc_scope_defs.specs.Sections.{meaning_of_sections}
use Rattle.bc_rules_defs.specs.declared.rule.Table.TheVariants.{Two}
use Rattle.bc_select_defs.specs.Chosen.{chosen}
use Rattle.bc_gen_defs.specs.Bodies.{Coding, coding_of}
use Rattle.bc_gen_defs.specs.Section.{section_items}
use Rattle.bc_right.specs.programs.Linked.{LinkedMapIsMap, ProgramsRun, library_items, segments_of, sections_of, addresses_from, linked_map}
use Rattle.bc_right.specs.sections.Whole.{IsFaultless, SectionsRun}
use Rattle.bc_gen.specs.Chosen.{coding}
use Rattle.bc_lex.specs.Files.{File}
use Rattle.bc_build.specs.Compiled.{AreAccepted}
use Rattle.bc_build.specs.Code.{items_of}
use Rattle.bc_build.specs.Runs.{addresses, RunsAsMeant}
use Rattle.bc_build.specs.Generated.{GeneratedRuns}

all_faultless : (files : List File) (mains : List ℕ) (sections : List Declarations) → AreAccepted files mains sections → All IsFaultless sections
all_faultless files [] [] h = All-nil IsFaultless
all_faultless files [] (s ∷ ss) h = absurd h
all_faultless files (main ∷ mains) [] h = absurd h
all_faultless files (main ∷ mains) (s ∷ ss) h =
    let small = h.0.is_section.small in
    All-cons IsFaultless s ss (record { no_fault = h.0.faultless; size = omega (arith, small) }) (all_faultless files mains ss h.1)

places_are : (from : ℕ) (segments : List (List Item)) → map (λ (place : SegmentPlace). label_address place.labels) (places_from from segments) ≡ addresses_from from segments
places_are from [] = refl
places_are from (segment ∷ segments) = ap (λ rest. label_address (label_places from segment) ∷ rest) (places_are (from + size_of_all segment) segments)

-- the addresses of the image are the linker's
addresses_are : (c : Coding) (cores : List Core) → addresses (image_of (segments_of c cores)) ≡ linked_map c cores
addresses_are c cores = ap (λ places. let m : Map = record { places = places; stack_base = stack_base_of (segments_of c cores) } in m) (places_are (520 + size_of_all library_items) (sections_of c cores))

linked_runs : LinkedMapIsMap → SectionsRun → (sections : List Declarations) → All IsFaultless sections
    → (let segments = segments_of (coding_of (chosen Two)) (map core_of sections) in
    refusal_of segments ≡ None → ((i : ℕ) → slice_index (store_of segments) i < 65536) → RunsAsMeant sections (image_of segments))
linked_runs linked_map_is_map sections_run sections faultless linked words =
    let c = coding_of (chosen Two) in
    let cores = map core_of sections in
    let segments = segments_of c cores in
    let e = sym (addresses_are c cores) in
    record {
      is_map = subst (IsMap cores) e (linked_map_is_map Two (chosen Two) cores linked);
      same = λ streams bytes n. subst (λ m. Same (meaning_of_sections sections m streams n) n (start (store_of segments) (stack_base_of segments) streams)) e (sections_run Two (chosen Two) sections faultless linked words streams bytes n);
    }

items_are : (c : Coding) (sections : List Declarations) → map (λ section. section_items c (core_of section)) sections ≡ sections_of c (map core_of sections)
items_are c [] = refl
items_are c (s ∷ ss) = ap (λ rest. section_items c (core_of s) ∷ rest) (items_are c ss)

segments_are : (sections : List Declarations) → with_primitives (map items_of sections) ≡ segments_of (coding_of (chosen Two)) (map core_of sections)
unfolding coding
segments_are sections = ap (λ rest. library_items ∷ rest) (items_are (coding_of (chosen Two)) sections)

-- accepted sections run from their image as they mean
pub runs_as_meant : LinkedMapIsMap → SectionsRun → (files : List File) (mains : List ℕ) (sections : List Declarations) (image : Image) → AreAccepted files mains sections
    → refusal_of (with_primitives (map items_of sections)) ≡ None → image ≡ image_of (with_primitives (map items_of sections)) → ((i : ℕ) → slice_index image.words i < 65536)
    → RunsAsMeant sections image
runs_as_meant maps runs files mains sections image accepted linked is words =
    let e = segments_are sections in
    let here : image ≡ image_of (segments_of (coding_of (chosen Two)) (map core_of sections)) = is ∙ ap image_of e in
    subst (RunsAsMeant sections) (sym here)
    (linked_runs maps runs sections (all_faultless files mains sections accepted) (subst (λ s. refusal_of s ≡ None) e linked)
    (λ i. subst (λ (x : Image). slice_index x.words i < 65536) here (words i)))

-- the items of `generate` for any well-formed Cores
pub generated_runs : ProgramsRun → GeneratedRuns
unfolding coding
generated_runs programs_run cores fit linked words streams bytes n =
    let c = coding_of (chosen Two) in
    let segments = segments_of c cores in
    subst (λ m. Same (meaning cores m streams n) n (start (store_of segments) (stack_base_of segments) streams)) (sym (addresses_are c cores))
    (programs_run Two (chosen Two) cores fit linked words streams bytes n)
