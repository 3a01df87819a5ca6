-- The image of a program does what its sections mean.
use Rattle.std.specs.Prelude.{ℕ, List, map, drop}
use Rattle.bc_machine_defs.specs.Streams.{Content, HoldBytes}
use Rattle.bc_machine_defs.specs.State.{State, start}
use Rattle.bc_machine_defs.specs.declared.image.Image.{Image}
use Rattle.bc_machine_defs.specs.declared.image.SegmentPlace.{SegmentPlace}
use Rattle.bc_link.specs.Labels.{label_address}
use Rattle.bc_parse_tree.specs.Tree.{Declarations}
use Rattle.bc_core.specs.Map.{Map, IsMap}
use Rattle.bc_core.specs.Meaning.{Result}
use Rattle.bc_core.specs.Same.{Same}
use Rattle.bc_scope_defs.specs.Translation.{core_of}
use Rattle.bc_scope_defs.specs.Sections.{meaning_of_sections}

-- The addresses of the sections' places, which the image lists after those of the primitives, and the beginning of its stack.
abbrev pub addresses : Image → Map
addresses image = record { places = map (λ (place : SegmentPlace). label_address place.labels) (drop 1 image.places); stack_base = image.stack_base }

-- The meaning of the sections with these streams in n turns, where their places have the addresses of the image.
abbrev pub meant : List Declarations → Image → Content → ℕ → Result
meant sections image streams n = meaning_of_sections sections (addresses image) streams n

-- The machine at the start of a run from the image.
abbrev pub started : Image → Content → State
started image streams = start image.words image.stack_base streams

-- The addresses of the image are a map: statics, tables, strings and the first words of routines don't overlap, and are above the
-- globals and below the stack. For all inputs of bytes and every number n of turns: if the meaning of the sections ends within n turns,
-- the machine's run from the image ends in the same way with the same output; if the meaning is still going, the machine is still
-- running after n or more instructions, with the same output; or the meaning is wild.
pub record RunsAsMeant (sections : List Declarations) (image : Image) : Type 0 where
  pub is_map : IsMap (map core_of sections) (addresses image)
  pub same : (streams : Content) → HoldBytes streams.inputs → (n : ℕ) → Same (meant sections image streams n) n (started image streams)
