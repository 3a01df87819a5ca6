-- The primitives: eight routines on streams that can't be written in the language.
use Rattle.std.specs.Prelude.{ℕ, ◌≡◌, List, [], ◌∷◌, ◌++◌, false, true, refl}
use Rattle.bc_text_items.specs.Sizes.{size_of_all}
use Rattle.bc_text_items.specs.declared.item.Item.{Item}
use Rattle.bc_text_items.specs.declared.item.Item.TheVariants.{Label, Operation, Global}
use Rattle.bc_text_items.specs.declared.item.Base.TheVariants as bases
use Rattle.bc_text_items.specs.declared.item.Function.TheVariants as functions

-- `LIP2`: loads the first argument
abbrev pub argument : Item
argument = Operation functions.Load true bases.P 2

-- `L0`: loads 0, the value of a routine that returns nothing
abbrev pub nought : Item
nought = Operation functions.Load false bases.Number 0

-- `Xn`: executes operation n
abbrev pub execute : ℕ → Item
execute n = Operation functions.Execute false bases.Number n

-- the eight routines: select input, select output, read, write, find input, find output, end reading, end writing
abbrev pub routines : List Item
routines =
    Label 1 ∷ argument ∷ execute 24 ∷ nought ∷ execute 4 ∷
    Label 2 ∷ argument ∷ execute 25 ∷ nought ∷ execute 4 ∷
    Label 3 ∷ execute 26 ∷ execute 4 ∷
    Label 4 ∷ argument ∷ execute 27 ∷ nought ∷ execute 4 ∷
    Label 5 ∷ argument ∷ execute 28 ∷ execute 4 ∷
    Label 6 ∷ argument ∷ execute 29 ∷ execute 4 ∷
    Label 7 ∷ execute 33 ∷ nought ∷ execute 4 ∷
    Label 8 ∷ execute 34 ∷ nought ∷ execute 4 ∷ []

-- the globals 11 to 18 are set to these routines
abbrev pub settings : List Item
settings = Global 11 1 ∷ Global 12 2 ∷ Global 13 3 ∷ Global 14 4 ∷ Global 15 5 ∷ Global 16 6 ∷ Global 17 7 ∷ Global 18 8 ∷ []

-- the items of the segment of the primitives
abbrev pub primitive_items : List Item
primitive_items = routines ++ settings

-- ---- Worked examples

pub words_of_primitives : size_of_all primitive_items ≡ 26
words_of_primitives = refl
