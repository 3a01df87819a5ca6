-- The clauses of `build` about a built program, combined.
use Rattle.std.proofs.Common.{ℕ, ◌<◌, List, [], ◌∷◌, map, sym, ap, ◌∙◌, subst}
use Rattle.std.specs.Prelude.{slice_index}
use Rattle.bc_text_items.specs.declared.item.Item.{Item}
use Rattle.bc_rules_defs.specs.Entry.{Entry}
use Rattle.bc_rules_defs.specs.View.{entry as entry_view}
use Rattle.bc_rules_defs.specs.declared.entry.Entry as code
use Rattle.bc_parse_tree.specs.Tree.{Declarations}
use Rattle.bc_lex.specs.Files.{File}
use Rattle.bc_right.specs.programs.Linked.{LinkedMapIsMap}
use Rattle.bc_right.specs.sections.Whole.{SectionsRun}
use Rattle.bc_link.specs.Linked.{image_of}
use Rattle.bc_run.specs.Runs.{with_primitives}
use Rattle.bc_build.specs.Parsed.{AreParsed}
use Rattle.bc_build.specs.Compiled.{AreAccepted}
use Rattle.bc_build.specs.Code.{items_of, HasCode}
use Rattle.bc_build.specs.Built.{IsBuilt}
use Rattle.bc_build.specs.Runs.{RunsAsMeant}
use Rattle.bc_build.specs.Least.{AreLeast}
use Rattle.bc_build.specs.Size.{HasSize}
use Rattle.bc_build.specs.Text.{ReadsAs}
use Rattle.bc_build.specs.Steps.{IsLinked, IsWhole}
use Rattle.bc_build.specs.declared.building.Built.{Built}
use Rattle.bc_build.proofs.Running.{runs_as_meant}
use Rattle.bc_build.proofs.Fitting.{are_least}
use Rattle.bc_build.proofs.Reading.{reads_as, has_size}
use Rattle.bc_build.proofs.Rooted.{of_sections}

are_parsed : (files : List File) (mains : List ℕ) (sections : List Declarations) → AreAccepted files mains sections → AreParsed files mains sections
are_parsed files [] [] h = tt
are_parsed files [] (s ∷ ss) h = absurd h
are_parsed files (main ∷ mains) [] h = absurd h
are_parsed files (main ∷ mains) (s ∷ ss) h =
    (record { tokens = h.0.tokens; lexed = h.0.is_section.lexed; read = h.0.is_section.read }, are_parsed files mains ss h.1)

pub is_built : (files : List File) (mains : List ℕ) (built : Built) → IsWhole files mains built → IsBuilt files mains built
is_built files mains built w = record {
  sections = w.sections;
  parsed = are_parsed files mains w.sections w.accepted;
  only = w.only;
  roots = ap (λ (es : List Entry). map (λ (e : Entry). e.root) es) w.coded.entries ∙ of_sections 0 w.sections;
  image = w.image ∙ ap (λ s. image_of (with_primitives s)) (sym w.coded.segments);
}

pub built_runs : LinkedMapIsMap → SectionsRun → (files : List File) (mains : List ℕ) (built : Built) → IsWhole files mains built → ((i : ℕ) → slice_index built.image.words i < 65536)
    → (sections : List Declarations) → AreParsed files mains sections → RunsAsMeant sections built.image
built_runs maps runs files mains built w words sections are =
    subst (λ ss. RunsAsMeant ss built.image) (sym (w.only sections are)) (runs_as_meant maps runs files mains w.sections built.image w.accepted w.coded.linked w.image words)

pub built_accepted : (files : List File) (mains : List ℕ) (built : Built) → IsWhole files mains built → (sections : List Declarations) → AreParsed files mains sections → AreAccepted files mains sections
built_accepted files mains built w sections are = subst (AreAccepted files mains) (sym (w.only sections are)) w.accepted

pub built_code : (files : List File) (mains : List ℕ) (built : Built) → IsWhole files mains built → (sections : List Declarations) → AreParsed files mains sections → HasCode sections built
built_code files mains built w sections are = subst (λ ss. HasCode ss built) (sym (w.only sections are)) w.coded

pub built_size : (files : List File) (mains : List ℕ) (built : Built) → IsWhole files mains built → (sections : List Declarations) → AreParsed files mains sections → HasSize sections built.image
built_size files mains built w sections are = subst (λ ss. HasSize ss built.image) (sym (w.only sections are)) (has_size w.sections built.image w.image)

pub built_least : (files : List File) (mains : List ℕ) (built : Built) → IsWhole files mains built → AreLeast built.segments.items (map entry_view built.entries.items)
built_least files mains built w =
    subst (λ segments. AreLeast segments (map entry_view built.entries.items)) (sym w.coded.segments)
    (subst (AreLeast (map items_of w.sections)) (sym w.coded.entries) (are_least w.sections))

pub built_text : (segments : List (List Item)) (entries : List code.Entry) (built : Built) → IsLinked segments entries built → ReadsAs built.segments.items built.image
built_text segments entries built l = subst (λ ss. ReadsAs ss built.image) (sym l.segments_are) (reads_as segments built.image l.items l.accepted l.image_is)
