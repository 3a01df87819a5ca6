-- The code of the primitives, and that it does what they mean.
use Rattle.std.specs.Prelude.{ℕ, ◌≡◌, true, List, [], ◌∷◌, Some}
use Rattle.bc_text_items.specs.declared.item.Item.{Item}
use Rattle.bc_text_items.specs.declared.item.Item.TheVariants.{Operation}
use Rattle.bc_text_items.specs.declared.item.Base.TheVariants as bases
use Rattle.bc_text_items.specs.declared.item.Function.TheVariants as functions
use Rattle.bc_machine_defs.specs.declared.streams.Side.{Side}
use Rattle.bc_machine_defs.specs.declared.streams.Side.TheVariants as sides
use Rattle.bc_core.specs.Primitive.{Primitive, Select, ReadByte, WriteByte, Find, EndStream}
use Rattle.bc_core.specs.Map.{Placed}
use Rattle.bc_core.specs.Meaning.{OfLibrary, callee}
use Rattle.bc_gen_defs.specs.Emit.{execute}
use Rattle.bc_right.specs.commands.Exits.{return_items}
use Rattle.bc_right.specs.steps.Landing.{Moment, Stands}
use Rattle.bc_right.specs.commands.Calls.{LibraryLands}

-- `LIP2`
abbrev pub argument_item : Item
argument_item = Operation functions.Load true bases.P 2

abbrev pub select_number : Side → ℕ
select_number sides.Input = 24
select_number sides.Output = 25

abbrev pub find_number : Side → ℕ
find_number sides.Input = 28
find_number sides.Output = 29

abbrev pub end_number : Side → ℕ
end_number sides.Input = 33
end_number sides.Output = 34

abbrev pub primitive_items : Primitive → List Item
primitive_items (Select side) = argument_item ∷ execute (select_number side) ∷ return_items
primitive_items ReadByte = execute 26 ∷ execute 4 ∷ []
primitive_items WriteByte = argument_item ∷ execute 27 ∷ return_items
primitive_items (Find side) = argument_item ∷ execute (find_number side) ∷ execute 4 ∷ []
primitive_items (EndStream side) = execute (end_number side) ∷ return_items

abbrev pub LibraryStands : Moment → List Placed → Type 0
LibraryStands S program =
    (v : ℕ) (q : Primitive) → callee program v ≡ Some (OfLibrary q) → (end : ℕ) × Stands (λ l. 0) S v (primitive_items q) end

-- If the primitives' code is in the store, each does what it means.
abbrev pub PrimitivesLand : Type 0
PrimitivesLand = (S : Moment) (program : List Placed) → LibraryStands S program → LibraryLands S program
