-- The items of a section: the code of its routines, its data, and the settings of globals.
use Rattle.std.specs.Prelude.{ℕ, ◌+◌, ◌≤◌, List, [], ◌∷◌, ◌++◌, map, length, Option, Some, None}
use Rattle.bc_text_items.specs.declared.item.Item.{Item}
use Rattle.bc_text_items.specs.declared.item.Item.TheVariants.{Label, Data, Byte, Global}
use Rattle.bc_core.specs.Commands as commands
use Rattle.bc_core.specs.Commands.{Place, Core}
use Rattle.bc_core.specs.Level.{level_after_parameters}
use Rattle.bc_gen_defs.specs.Emit.{Code, Roots}
use Rattle.bc_gen_defs.specs.Bodies.{BodiesCode, Coding, over, bodies_from, emit_body, level_of}

-- the routines in text order, each with the label of its place; j places come before these
abbrev pub emit_routines : {X : Type 0} → (Item → X) → Roots X → (j : ℕ) → List Place → (f : ℕ) → Code X
emit_routines of roots j [] f = ([], f)
emit_routines of roots j (commands.Code r ∷ places) f =
    let x = emit_body of roots r.body (level_after_parameters r.parameters) f in
    let y = emit_routines of roots (j + 1) places x.1 in
    (of (Label (j + 1)) ∷ (x.0 ++ y.0), y.1)
emit_routines of roots j (commands.Static w ∷ places) f = emit_routines of roots (j + 1) places f
emit_routines of roots j (commands.Table ws ∷ places) f = emit_routines of roots (j + 1) places f
emit_routines of roots j (commands.Text bytes ∷ places) f = emit_routines of roots (j + 1) places f

-- statics, tables and strings in text order, each with its label; a string begins with its length
abbrev pub data_items : (j : ℕ) → List Place → List Item
data_items j [] = []
data_items j (commands.Code r ∷ places) = data_items (j + 1) places
data_items j (commands.Static w ∷ places) = Label (j + 1) ∷ Data w ∷ data_items (j + 1) places
data_items j (commands.Table ws ∷ places) = Label (j + 1) ∷ (map Data ws ++ data_items (j + 1) places)
data_items j (commands.Text bytes ∷ places) = Label (j + 1) ∷ Byte (length bytes) ∷ (map Byte bytes ++ data_items (j + 1) places)

-- the setting of the global, if any, that a place sets to its label
abbrev pub setting : Option ℕ → ℕ → List Item
setting None l = []
setting (Some n) l = Global n l ∷ []

-- the settings of globals by the places, the first of which has label j + 1
abbrev pub setting_items : (j : ℕ) → List Place → List Item
setting_items j [] = []
setting_items j (commands.Code r ∷ places) = setting r.global (j + 1) ++ setting_items (j + 1) places
setting_items j (commands.Static w ∷ places) = setting_items (j + 1) places
setting_items j (commands.Table ws ∷ places) = setting_items (j + 1) places
setting_items j (commands.Text bytes ∷ places) = setting_items (j + 1) places

-- the code of all routines; its labels come after those of the places
abbrev pub routines_over : {X : Type 0} → (Item → X) → (BodiesCode X → Roots X) → Core → Code X
routines_over of roots_over core =
    emit_routines of (roots_over (bodies_from of roots_over 0 core.valofs)) 0 core.places (length core.places + 1)

-- the items of all routines, and the next free label
abbrev pub routines_code : Coding → Core → Code Item
routines_code coding core = routines_over (λ i. i) (over coding (level_of core.valofs)) core

-- The items of a section: routines, data, settings of globals.
abbrev pub section_items : Coding → Core → List Item
section_items coding core = (routines_code coding core).0 ++ (data_items 0 core.places ++ setting_items 0 core.places)

-- The greatest label that a section may take.
abbrev pub greatest_label : ℕ
greatest_label = 20000

-- The section takes at most 20,000 labels. They are those from 1 to one below the next free label.
abbrev pub labels_suffice : Coding → Core → Type 0
labels_suffice coding core = (routines_code coding core).1 ≤ greatest_label + 1
