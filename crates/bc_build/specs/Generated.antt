-- The items that `generate` returns do what its input means, for all `Core`s and not only for those of sources.
use Rattle.std.specs.Prelude.{ℕ, ◌≡◌, ◌<◌, true, List, map, All, None, slice_index}
use Rattle.bc_text_items.specs.declared.item.Item.{Item}
use Rattle.bc_machine_defs.specs.Streams.{Content, HoldBytes}
use Rattle.bc_link.specs.Refusals.{refusal_of}
use Rattle.bc_link.specs.Linked.{image_of}
use Rattle.bc_run.specs.Runs.{with_primitives}
use Rattle.bc_core.specs.Commands.{Core}
use Rattle.bc_core.specs.WellFormed.{is_core}
use Rattle.bc_core.specs.Meaning.{meaning}
use Rattle.bc_core.specs.Same.{Same}
use Rattle.bc_gen_defs.specs.Section.{section_items}
use Rattle.bc_gen.specs.Chosen.{coding}
use Rattle.bc_build.specs.Runs.{addresses, started}

-- the items that `generate` returns for each of these sections
abbrev pub generated : List Core → List (List Item)
generated cores = map (section_items coding) cores

-- For all well-formed Cores, all inputs of bytes and every number of turns: if the linker refuses nothing, and the image's words are
-- words, as they always are, the run of these items after the primitives is what the Cores mean, or the meaning is wild.
abbrev pub GeneratedRuns : Type 0
GeneratedRuns =
    (cores : List Core) → All (λ core. is_core core ≡ true) cores
    → (let segments = with_primitives (generated cores) in
    let image = image_of segments in
    refusal_of segments ≡ None → ((i : ℕ) → slice_index image.words i < 65536)
    → (streams : Content) → HoldBytes streams.inputs → (n : ℕ) → Same (meaning cores (addresses image) streams n) n (started image streams))
