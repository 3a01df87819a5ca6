-- The image of a program, and the laws about its map and its run. The items are those of the generator's definitions, the store is
-- that of the linker's.
use Rattle.std.specs.Prelude.{ℕ, ◌≡◌, ◌+◌, ◌<◌, List, [], ◌∷◌, ◌++◌, map, All, None, true, false, slice_index}
use Rattle.bc_text_items.specs.Sizes.{size_of_all}
use Rattle.bc_text_items.specs.Assembled.{label_places}
use Rattle.bc_text_items.specs.declared.item.Item.{Item}
use Rattle.bc_text_items.specs.declared.item.Item.TheVariants.{Label, Operation, Global}
use Rattle.bc_text_items.specs.declared.item.Base.TheVariants as bases
use Rattle.bc_text_items.specs.declared.item.Function.TheVariants as functions
use Rattle.bc_machine_defs.specs.Streams.{Content, HoldBytes}
use Rattle.bc_machine_defs.specs.State.{start}
use Rattle.bc_core.specs.Commands.{Core}
use Rattle.bc_core.specs.WellFormed.{is_core}
use Rattle.bc_core.specs.Map.{Map, IsMap}
use Rattle.bc_core.specs.Meaning.{meaning}
use Rattle.bc_core.specs.Same.{Same}
use Rattle.bc_rules_defs.specs.declared.rule.Table.{Table}
use Rattle.bc_gen_defs.specs.Bodies.{Choice, Coding, coding_of}
use Rattle.bc_gen_defs.specs.Emit.{execute}
use Rattle.bc_gen_defs.specs.Section.{section_items}
use Rattle.bc_link.specs.Labels.{label_address}
use Rattle.bc_link.specs.Layout.{stack_base_of}
use Rattle.bc_link.specs.Refusals.{refusal_of}
use Rattle.bc_link.specs.Store.{store_of}

-- `LIP2` and `L0`
abbrev pub argument : Item
argument = Operation functions.Load true bases.P 2

abbrev pub nought : Item
nought = Operation functions.Load false bases.Number 0

-- the first segment of every program: the eight primitives with their globals
abbrev pub library_routines : List Item
library_routines =
    Label 1 ∷ argument ∷ execute 24 ∷ nought ∷ execute 4 ∷
    Label 2 ∷ argument ∷ execute 25 ∷ nought ∷ execute 4 ∷
    Label 3 ∷ execute 26 ∷ execute 4 ∷
    Label 4 ∷ argument ∷ execute 27 ∷ nought ∷ execute 4 ∷
    Label 5 ∷ argument ∷ execute 28 ∷ execute 4 ∷
    Label 6 ∷ argument ∷ execute 29 ∷ execute 4 ∷
    Label 7 ∷ execute 33 ∷ nought ∷ execute 4 ∷
    Label 8 ∷ execute 34 ∷ nought ∷ execute 4 ∷ []

abbrev pub library_settings : List Item
library_settings = Global 11 1 ∷ Global 12 2 ∷ Global 13 3 ∷ Global 14 4 ∷ Global 15 5 ∷ Global 16 6 ∷ Global 17 7 ∷ Global 18 8 ∷ []

abbrev pub library_items : List Item
library_items = library_routines ++ library_settings

-- the segments of a program: the primitives, followed by its sections
abbrev pub sections_of : Coding → List Core → List (List Item)
sections_of coding cores = map (section_items coding) cores

abbrev pub segments_of : Coding → List Core → List (List Item)
segments_of coding cores = library_items ∷ sections_of coding cores

-- the addresses of each segment's labels, where the segments are placed from `start` on
abbrev pub addresses_from : ℕ → List (List Item) → List (ℕ → ℕ)
addresses_from start [] = []
addresses_from start (segment ∷ segments) = label_address (label_places start segment) ∷ addresses_from (start + size_of_all segment) segments

-- the addresses of the sections' places and of the stack, as the linker gives them
abbrev pub linked_map : Coding → List Core → Map
linked_map coding cores = record {
  places = addresses_from (520 + size_of_all library_items) (sections_of coding cores);
  stack_base = stack_base_of (segments_of coding cores);
}

-- If the linker refuses nothing, the addresses in the image are a map.
abbrev pub LinkedMapIsMap : Type 0
LinkedMapIsMap =
    (T : Table) (choice : Choice T) (cores : List Core)
    → refusal_of (segments_of (coding_of choice) cores) ≡ None → IsMap cores (linked_map (coding_of choice) cores)

-- For every list of well-formed sections, every choice of derivations by either table, all inputs and n: if the linker refuses
-- nothing and the store holds words, the run of the machine from the image's start does what the sections mean.
abbrev pub ProgramsRun : Type 0
ProgramsRun =
    (T : Table) (choice : Choice T) (cores : List Core) → All (λ core. is_core core ≡ true) cores
    → (let segments = segments_of (coding_of choice) cores in
    refusal_of segments ≡ None → ((i : ℕ) → slice_index (store_of segments) i < 65536)
    → (streams : Content) → HoldBytes streams.inputs → (n : ℕ)
    → Same (meaning cores (linked_map (coding_of choice) cores) streams n) n (start (store_of segments) (stack_base_of segments) streams))
