-- The INTCODE text of a program.
use Rattle.std.specs.Prelude.{ℕ, ◌≡◌, List, None, flat_map}
use Rattle.bc_text_items.specs.declared.item.Item.{Item}
use Rattle.bc_machine_defs.specs.Streams.{Content}
use Rattle.bc_machine_defs.specs.State.{State, start}
use Rattle.bc_machine_defs.specs.declared.state.End.{End}
use Rattle.bc_machine.specs.Ran.{Ran}
use Rattle.bc_text.specs.Texts.{IsText}
use Rattle.bc_text.specs.Printed.{printed_segment}
use Rattle.bc_machine_defs.specs.declared.image.Image.{Image}
use Rattle.bc_link.specs.Refusals.{refusal_of}
use Rattle.bc_link.specs.Linked.{image_of}
use Rattle.bc_run.specs.Runs.{with_primitives}

-- The segments, printed one after another.
abbrev pub text_of : List (List Item) → List ℕ
text_of segments = flat_map printed_segment segments

-- The text reads as these segments and no others. The linker refuses nothing of them, and gives the image.
pub record ReadsAs (segments : List (List Item)) (image : Image) : Type 0 where
  pub text : IsText (text_of segments) segments
  pub only : (others : List (List Item)) → IsText (text_of segments) others → others ≡ segments
  pub linked : refusal_of (with_primitives segments) ≡ None
  pub image_is : image ≡ image_of (with_primitives segments)

-- A run of at most `steps` instructions from the image has this end.
abbrev pub IsRunFrom : Image → ℕ → Type 0 → Type 0 → Content → Content → ℕ → ℕ → End → Type 0
IsRunFrom image steps told tells old new before after end =
    (last : State) × (last.streams ≡ new) × Ran told tells steps (start image.words image.stack_base old) last end before after
