-- Pieces of code, with the names that INTCODE gives them, and the number of words that they take.
use Rattle.std.specs.Prelude.{ℕ, ◌+◌, Bool, true, false, cond, nat_le, List, [], ◌∷◌}
use Rattle.bc_text_items.specs.declared.item.Item.TheVariants as items
use Rattle.bc_text_items.specs.declared.item.Item.TheVariants.{Operation, Byte}
use Rattle.bc_text_items.specs.declared.item.Base.TheVariants.{Number, P, Label}
use Rattle.bc_text_items.specs.declared.item.Function.{Function}
use Rattle.bc_text_items.specs.declared.item.Function.TheVariants.{Load, Store, Add, Jump, JumpIfTrue, JumpIfFalse, Call, Execute}
use Rattle.bc_text_items.specs.Sizes.{size, operation_size}
use Rattle.bc_core.specs.declared.operands.Operand.{Operand}
use Rattle.bc_rules_defs.specs.declared.piece.Piece.{Piece}
use Rattle.bc_rules_defs.specs.declared.piece.Piece.TheVariants.{Item, Body}

-- an operation on an operand: `L o`, `S o`, `A o`
abbrev pub on : Function → Operand → Piece
on f o = Item (Operation f (cond o.direct false true) o.base o.n)

abbrev pub L : Operand → Piece
L o = on Load o

abbrev pub S : Operand → Piece
S o = on Store o

abbrev pub A : Operand → Piece
A o = on Add o

-- `An`: adds a number
abbrev pub A_number : ℕ → Piece
A_number n = Item (Operation Add false Number n)

-- operations on the frame's cell at an offset: `SPs`, `LIPs`, `AIPs`, `SIPs`
abbrev pub SP : ℕ → Piece
SP s = Item (Operation Store false P s)

abbrev pub LIP : ℕ → Piece
LIP s = Item (Operation Load true P s)

abbrev pub AIP : ℕ → Piece
AIP s = Item (Operation Add true P s)

abbrev pub SIP : ℕ → Piece
SIP s = Item (Operation Store true P s)

-- `Xn`, an operation of the machine, and `Ks`, a call with the new frame at s
abbrev pub X : ℕ → Piece
X n = Item (Operation Execute false Number n)

abbrev pub K : ℕ → Piece
K s = Item (Operation Call false Number s)

-- a jump to a label: `JLt`; if A is true `TLt`, if it is false `FLt`; and the label itself
abbrev pub J : ℕ → Piece
J t = Item (Operation Jump false Label t)

-- a jump if A has this truth
abbrev pub jump_if : (sense : Bool) → ℕ → Piece
jump_if true t = Item (Operation JumpIfTrue false Label t)
jump_if false t = Item (Operation JumpIfFalse false Label t)

-- the label itself
abbrev pub label : ℕ → Piece
label n = Item (items.Label n)

-- the words of an instruction with this number, and of one with this operand
abbrev pub w : ℕ → ℕ
w n = cond (nat_le n 511) 1 2

-- the words of an instruction with this operand
abbrev pub operand_words : Operand → ℕ
operand_words o = operation_size o.base o.n

-- the words of pieces: adjacent bytes share a word in pairs; labels and bodies take none
abbrev pub words : List Piece → ℕ
words [] = 0
words (Item (Byte high) ∷ Item (Byte low) ∷ ps) = 1 + words ps
words (Item i ∷ ps) = size i + words ps
words (Body n ∷ ps) = words ps
