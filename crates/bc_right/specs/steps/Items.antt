-- The instructions that code consists of.
use Rattle.std.specs.Prelude.{ℕ, Bool, true, false, not, [], ◌∷◌}
use Rattle.bc_word.specs.declared.operator.Op.{Op}
use Rattle.bc_word.specs.Words.{number_of}
use Rattle.bc_text_items.specs.declared.item.Item.{Item}
use Rattle.bc_text_items.specs.declared.item.Item.TheVariants.{Operation}
use Rattle.bc_text_items.specs.declared.item.Base.TheVariants as bases
use Rattle.bc_text_items.specs.declared.item.Function.{Function}
use Rattle.bc_text_items.specs.declared.item.Function.TheVariants as functions
use Rattle.bc_core.specs.declared.operands.Operand.{Operand}
use Rattle.bc_right.specs.steps.Landing.{Moment, Stands}

-- an operation with an operand
abbrev pub with_operand : Function → Operand → Item
with_operand f o = Operation f (not o.direct) o.base o.n

-- `Xn`, and the `Xn` of an operator on B and A
abbrev pub execute : ℕ → Item
execute n = Operation functions.Execute false bases.Number n

abbrev pub operate : Op → Item
operate op = execute (number_of op)

-- `SPk` stores A at offset k, `LIPk` loads it again, `AIPk` adds it to A, and `SIPk` stores A at the address that is there
abbrev pub hold_item : ℕ → Item
hold_item k = Operation functions.Store false bases.P k

abbrev pub take_item : ℕ → Item
take_item k = Operation functions.Load true bases.P k

abbrev pub add_item : ℕ → Item
add_item k = Operation functions.Add true bases.P k

abbrev pub store_item : ℕ → Item
store_item k = Operation functions.Store true bases.P k

-- `Ks`
abbrev pub call_item : ℕ → Item
call_item s = Operation functions.Call false bases.Number s

-- `JL`, and `TL` or `FL`
abbrev pub jump : ℕ → Item
jump l = Operation functions.Jump false bases.Label l

abbrev pub test_item : Bool → ℕ → Item
test_item true l = Operation functions.JumpIfTrue false bases.Label l
test_item false l = Operation functions.JumpIfFalse false bases.Label l

-- a jump to this label is at this address
abbrev pub JumpAt : (ℕ → ℕ) → Moment → (c label : ℕ) → Type 0
JumpAt address S c l = (end : ℕ) × Stands address S c (jump l ∷ []) end
