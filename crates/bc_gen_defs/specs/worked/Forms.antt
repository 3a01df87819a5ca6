-- Worked examples: the code of each form of command. The roots have code too, which shows the labels that each part takes.
use Rattle.std.specs.Prelude.{◌≡◌, ℕ, ◌+◌, true, false, List, [], ◌∷◌, ◌++◌, refl}
use Rattle.bc_text_items.specs.declared.item.Item.{Item}
use Rattle.bc_text_items.specs.declared.item.Item.TheVariants.{Label, Data, DataLabel}
use Rattle.bc_core.specs.Tree.{Exp, Num, Frame}
use Rattle.bc_core.specs.Commands.{Initial, Vector, Command, Block, block, Items, no_item, command, case, default, label, Gives, Does}
use Rattle.bc_core.specs.Commands as commands
use Rattle.bc_gen_defs.specs.Emit.{Code, Roots, Exits, jump, execute, zero_item, emit, emit_block}
use Rattle.bc_gen_defs.specs.Bodies.{emit_body}

-- ---- Worked examples

-- the code of a root here: `DLt` with its target, and the one label that it takes
abbrev root : ℕ → ℕ → List Item
root target first = DataLabel target ∷ Label first ∷ []

abbrev roots : Roots Item
roots r target first = (root target first, first + 1)

-- exits with different labels
abbrev around : Exits
around = record { broken = 91; looped = 92; cases = 93; result = 94; labels = λ k. 95 }

-- the code of a command, with the next free offset 2 and the next free label 5
abbrev code : Command → Code Item
code c = emit (λ i. i) roots c 2 around 5

-- a block of one root
abbrev body : Block
body = block [] (command (commands.Call (Num 1)) no_item)

call : code (commands.Call (Num 1)) ≡ (root 0 5, 6)
call = refl

assignment : code (commands.Assign (Num 1) (Frame 2)) ≡ (root 0 5, 6)
assignment = refl

if_code : code (commands.If true (Num 1) body) ≡ (root 5 6 ++ root 0 7 ++ Label 5 ∷ [], 8)
if_code = refl

test_code : code (commands.Test (Num 1) body body) ≡ (root 5 7 ++ root 0 8 ++ jump 6 ∷ Label 5 ∷ root 0 9 ++ Label 6 ∷ [], 10)
test_code = refl

while_code : code (commands.While true (Num 1) body) ≡ (Label 5 ∷ root 6 7 ++ root 0 8 ++ jump 5 ∷ Label 6 ∷ [], 9)
while_code = refl

repeat_code : code (commands.Repeat body) ≡ (Label 5 ∷ root 0 7 ++ jump 5 ∷ Label 6 ∷ [], 8)
repeat_code = refl

-- the condition comes after the body, and takes its labels after the body's
repeat_while_code : code (commands.RepeatWhile body true (Num 1)) ≡ (Label 5 ∷ root 0 8 ++ Label 7 ∷ root 5 9 ++ Label 6 ∷ [], 10)
repeat_while_code = refl

-- the roots of a FOR in order: start, limit, test, body and step
for_code : code (commands.For (Num 1) (Num 9) 1 body)
    ≡ (root 0 8 ++ root 0 9 ++ Label 5 ∷ root 6 10 ++ root 0 11 ++ Label 7 ∷ root 0 12 ++ jump 5 ∷ Label 6 ∷ [], 13)
for_code = refl

-- the labels in order: the end's, those of CASE and DEFAULT, the value's, those of the list, then the commands'
switch_code : code (commands.SwitchOn (Num 1) (case 3 (command (commands.Call (Num 1)) (default (label 40 (command (commands.Goto 40) no_item))))))
    ≡ (root 0 8 ++ execute 23 ∷ Data 1 ∷ DataLabel 7 ∷ Data 3 ∷ DataLabel 6 ∷ Label 6 ∷ root 0 10 ++ Label 7 ∷ Label 9 ∷ jump 9 ∷ Label 5 ∷ [], 11)
switch_code = refl

-- without DEFAULT all other values jump to the end
without_default : code (commands.SwitchOn (Num 1) (case 3 no_item))
    ≡ (root 0 7 ++ execute 23 ∷ Data 1 ∷ DataLabel 5 ∷ Data 3 ∷ DataLabel 6 ∷ Label 6 ∷ Label 5 ∷ [], 8)
without_default = refl

-- the jumps take no label
jumps : (code commands.Break ≡ (jump 91 ∷ [], 5)) × (code commands.Loop ≡ (jump 92 ∷ [], 5)) × (code commands.EndCase ≡ (jump 93 ∷ [], 5))
jumps = (refl, refl, refl)

goto_code : code (commands.Goto 40) ≡ (jump 95 ∷ [], 5)
goto_code = refl

result_code : code (commands.ResultIs (Num 1)) ≡ (root 0 5 ++ jump 94 ∷ [], 6)
result_code = refl

ends : (code commands.Return ≡ (zero_item ∷ execute 4 ∷ [], 5)) × (code commands.Finish ≡ (execute 22 ∷ [], 5))
ends = (refl, refl)

-- the label of a block's list, then those of its variable and its vector
block_code : code (commands.Nested (block ((Initial (Num 1) ∷ Vector 3 ∷ []) ∷ []) (label 40 (command (commands.Call (Num 1)) no_item))))
    ≡ (root 0 6 ++ root 0 7 ++ Label 5 ∷ root 0 8, 9)
block_code = refl

-- routines declared with `=` and with BE
gives_code : emit_body (λ i. i) roots (Gives (Num 1)) 2 5 ≡ (root 0 5 ++ execute 4 ∷ [], 6)
gives_code = refl

does_code : emit_body (λ i. i) roots (Does body) 2 5 ≡ (root 0 5 ++ zero_item ∷ execute 4 ∷ [], 6)
does_code = refl
