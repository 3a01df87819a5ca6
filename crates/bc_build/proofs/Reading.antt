-- The printed text is read as the segments, and gives the image; the image has the sections' size.
use Rattle.std.proofs.Common.{◌≡◌, ◌∙◌, ℕ, List, [], ◌∷◌, map, Some, refl, sym, ap, subst, arith}
use Rattle.std.specs.Prelude.{None, All}
use Rattle.std.specs.List.{AllByRecursion}
use Rattle.std.proofs.lemmas.List.Elements.{All-weaker, recursion_from_All}
use Rattle.bc_text_items.specs.Sizes.{size_of_all}
use Rattle.bc_text_items.specs.declared.item.Item.{Item}
use Rattle.bc_machine_defs.specs.declared.image.Image.{Image}
use Rattle.bc_text.specs.Texts.{IsText}
use Rattle.bc_text.specs.Printed.{IsItem}
use Rattle.bc_text.proofs.Printed.{reads_back}
use Rattle.bc_text.proofs.TextLaws.{one_text}
use Rattle.bc_link.specs.Layout.{size_of_segments}
use Rattle.bc_link.specs.Linked.{image_of}
use Rattle.bc_link.specs.Refusals.{refusal_of}
use Rattle.bc_run.specs.Primitives.{words_of_primitives}
use Rattle.bc_machine_defs.specs.Streams.{Content}
use Rattle.bc_machine_defs.specs.State.{start}
use Rattle.bc_machine_defs.specs.declared.state.End.{End}
use Rattle.bc_machine.specs.Ran.{Ran}
use Rattle.bc_run.specs.Runs.{with_primitives, IsRunOf}
use Rattle.bc_parse_tree.specs.Tree.{Declarations}
use Rattle.bc_scope_defs.specs.Translation.{core_of}
use Rattle.bc_rules_defs.specs.declared.rule.Table.TheVariants.{Two}
use Rattle.bc_select_defs.specs.Chosen.{chosen}
use Rattle.bc_gen_laws.proofs.root_lemmas.Words.{size_is_by_the_roots}
use Rattle.bc_gen.specs.Chosen.{coding}
use Rattle.bc_build.specs.Code.{items_of}
use Rattle.bc_build.specs.Size.{section_words, words_of, HasSize}
use Rattle.bc_build.specs.Text.{text_of, ReadsAs, IsRunFrom}

are_items : (segments : List (List Item)) → All (All IsItem) segments → AllByRecursion (AllByRecursion IsItem) segments
are_items segments h = recursion_from_All (AllByRecursion IsItem) segments (All-weaker (All IsItem) (AllByRecursion IsItem) (λ s k. recursion_from_All IsItem s k) segments h)

pub reads_as : (segments : List (List Item)) (image : Image) → All (All IsItem) segments → refusal_of (with_primitives segments) ≡ None → image ≡ image_of (with_primitives segments) → ReadsAs segments image
reads_as segments image items linked is =
    let text : IsText (text_of segments) segments = reads_back segments (are_items segments items) in
    record { text = text; only = (one_text (text_of segments) segments text).0; linked = linked; image_is = is }

items_words : (section : Declarations) → size_of_all (items_of section) ≡ section_words section
unfolding coding
items_words section = size_is_by_the_roots Two (chosen Two) (core_of section)

segments_words : (sections : List Declarations) → size_of_segments (map items_of sections) ≡ words_of sections
segments_words [] = refl
segments_words (s ∷ ss) = let h = items_words s in let i = segments_words ss in omega (arith, h, i)

pub has_size : (sections : List Declarations) (image : Image) → image ≡ image_of (with_primitives (map items_of sections)) → HasSize sections image
has_size sections image is =
    let e = ap (λ (x : Image). x.stack_base) is in
    let p = words_of_primitives in
    let s = segments_words sections in
    omega (arith, e, p, s)

-- the text reads as the segments, and so gives their image
pub text_runs : (segments : List (List Item)) (image : Image) (steps : ℕ) (told tells : Type 0) (old new : Content) (before after : ℕ) (end : End) → ReadsAs segments image
    → IsRunOf (Some (text_of segments)) steps told tells old new before after end → IsRunFrom image steps told tells old new before after end
text_runs segments image steps told tells old new before after end reads run =
    let read = run.2 in
    let same = reads.only run.0 (subst (λ bytes. IsText bytes run.0) (sym read.1) read.3) in
    let e : image_of (with_primitives run.0) ≡ image = ap (λ s. image_of (with_primitives s)) same ∙ sym reads.image_is in
    (run.1, run.4, subst (λ (x : Image). Ran told tells steps (start x.words x.stack_base old) run.1 end before after) e run.5)
