-- Worked examples: the code of commands whose roots have no code, the items of data, and sizes.
use Rattle.std.specs.Prelude.{◌≡◌, true, List, [], ◌∷◌, Some, refl}
use Rattle.bc_text_items.specs.declared.item.Item.{Item}
use Rattle.bc_text_items.specs.declared.item.Item.TheVariants.{Label, Data, DataLabel, Byte, Global}
use Rattle.bc_core.specs.Tree.{Num}
use Rattle.bc_core.specs.Commands.{Block, block, Items, no_item, command, case, default, label, Place, Does}
use Rattle.bc_core.specs.Commands as commands
use Rattle.bc_gen_defs.specs.Emit.{Roots, jump, execute, emit, emit_block}
use Rattle.bc_gen_defs.specs.Bodies.{body_exits}
use Rattle.bc_gen_defs.specs.Section.{data_items, setting_items}
use Rattle.bc_gen_defs.specs.Size.{words_of_places}

abbrev no_code : Roots Item
no_code r target first = ([], first)

abbrev only : commands.Command → Block
only c = block [] (command c no_item)

-- `WHILE 1 DO BREAK` takes the labels 5 and 6
pub while_code : emit (λ i. i) no_code (commands.While true (Num 1) (only commands.Break)) 2 (body_exits 0) 5
    ≡ (Label 5 ∷ jump 6 ∷ jump 5 ∷ Label 6 ∷ [], 7)
while_code = refl

-- LOOP in a FOR jumps to the label before the step
pub for_code : emit (λ i. i) no_code (commands.For (Num 1) (Num 9) 1 (only commands.Loop)) 2 (body_exits 0) 5
    ≡ (Label 5 ∷ jump 7 ∷ Label 7 ∷ jump 5 ∷ Label 6 ∷ [], 8)
for_code = refl

-- a SWITCHON takes a label for its end, then one for each CASE and DEFAULT
pub switchon_code : emit (λ i. i) no_code (commands.SwitchOn (Num 1) (case 3 (command commands.EndCase (default (case 4 no_item))))) 2 (body_exits 0) 5
    ≡ (execute 23 ∷ Data 2 ∷ DataLabel 7 ∷ Data 3 ∷ DataLabel 6 ∷ Data 4 ∷ DataLabel 8 ∷ Label 6 ∷ jump 5 ∷ Label 7 ∷ Label 8 ∷ Label 5 ∷ [], 9)
switchon_code = refl

-- `A: GOTO A`, and a label to which nothing jumps
pub goto_code : emit_block (λ i. i) no_code (block [] (label 30 (command (commands.Goto 30) (label 31 no_item)))) 2 (body_exits 0) 5
    ≡ (Label 5 ∷ jump 5 ∷ Label 6 ∷ [], 7)
goto_code = refl

-- a routine that sets global 1, a static, a table and a string
abbrev some_places : List Place
some_places =
    commands.Code (record { global = Some 1; parameters = 0; body = Does (block [] no_item) }) ∷ commands.Text (72 ∷ 105 ∷ []) ∷ commands.Static 7
    ∷ commands.Table (8 ∷ 9 ∷ []) ∷ []

pub data_code : data_items 0 some_places
    ≡ Label 2 ∷ Byte 2 ∷ Byte 72 ∷ Byte 105 ∷ Label 3 ∷ Data 7 ∷ Label 4 ∷ Data 8 ∷ Data 9 ∷ []
data_code = refl

pub settings : setting_items 0 some_places ≡ Global 1 1 ∷ []
settings = refl

pub some_words : words_of_places (λ r. 0) some_places ≡ 7
some_words = refl
