-- The words of the store of linked segments.
use Rattle.std.specs.Prelude.{ℕ, ◌+◌, ◌-◌, ◌≡◌, List, [], ◌∷◌, ◌++◌, true, false, replicate, slice_set, refl}
use Rattle.bc_text_items.specs.Sizes.{size_of_all}
use Rattle.bc_text_items.specs.Assembled.{assembled, label_places, global_settings}
use Rattle.bc_text_items.specs.declared.item.Item.{Item}
use Rattle.bc_text_items.specs.declared.item.Item.TheVariants.{Label, DataLabel, Operation}
use Rattle.bc_text_items.specs.declared.item.Base.TheVariants as bases
use Rattle.bc_text_items.specs.declared.item.Function.TheVariants as functions
use Rattle.bc_link.specs.Labels.{label_address}
use Rattle.bc_link.specs.Layout.{stack_base_of}

-- the items at address 0: `LIG1 K2 X22`, which call the routine in global 1 and end the run
abbrev pub boot_items : List Item
boot_items = Operation functions.Load true bases.G 1 ∷ Operation functions.Call false bases.Number 2 ∷ Operation functions.Execute false bases.Number 22 ∷ []

-- the boot words, at address 0
abbrev pub boot : List ℕ
boot = assembled (λ label. 0) boot_items

-- The words of segments that follow one another from `start` on. Each segment has its own labels.
abbrev pub words_from : ℕ → List (List Item) → List ℕ
words_from start [] = []
words_from start (segment ∷ segments) = assembled (label_address (label_places start segment)) segment ++ words_from (start + size_of_all segment) segments

-- the cells of the globals after all settings; a setting is a pair of a global's number and the label whose address is written to its cell
abbrev pub with_settings : (ℕ → ℕ) → List (ℕ × ℕ) → List ℕ → List ℕ
with_settings address [] cells = cells
with_settings address ((number, label) ∷ settings) cells = with_settings address settings (slice_set cells number (address label))

-- the same after all settings of segments that follow one another from `start` on
abbrev pub with_globals_from : ℕ → List (List Item) → List ℕ → List ℕ
with_globals_from start [] cells = cells
with_globals_from start (segment ∷ segments) cells =
    with_globals_from (start + size_of_all segment) segments (with_settings (label_address (label_places start segment)) (global_settings segment) cells)

-- the 512 cells of the globals, 0 for those that no segment sets
abbrev pub globals_of : List (List Item) → List ℕ
globals_of segments = with_globals_from 520 segments (replicate 512 0)

-- The whole store, 65,536 words: the boot words at 0, the globals at 8 to 519, the segments from 520 on, and 0 everywhere else.
abbrev pub store_of : List (List Item) → List ℕ
store_of segments = boot ++ replicate 5 0 ++ globals_of segments ++ words_from 520 segments ++ replicate (65536 - stack_base_of segments) 0

-- ---- Worked examples

pub boot_is : boot ≡ 5121 ∷ 49154 ∷ 57366 ∷ []
boot_is = refl

-- `1 LL1` and `DL2 2`: each segment has its own labels
pub two_segments : words_from 520 ((Label 1 ∷ Operation functions.Load false bases.Label 1 ∷ []) ∷ (DataLabel 2 ∷ Label 2 ∷ []) ∷ []) ≡ 512 ∷ 520 ∷ 523 ∷ []
two_segments = refl

-- `G1L5` and `G0L6`, where 5 is at 546 and 6 at 547
pub two_settings : with_settings (label_address ((5, 546) ∷ (6, 547) ∷ [])) ((1, 5) ∷ (0, 6) ∷ []) (0 ∷ 0 ∷ 0 ∷ []) ≡ 547 ∷ 546 ∷ 0 ∷ []
two_settings = refl
