-- Worked examples: which expressions are operands of one instruction, and the words of that instruction.
use Rattle.std.specs.Prelude.{◌≡◌, ℕ, true, false, Some, None, refl}
use Rattle.bc_word.specs.declared.operator.Op.TheVariants.{Add, Subtract}
use Rattle.bc_text_items.specs.declared.item.Base.TheVariants.{Number, P, G, Label}
use Rattle.bc_core.specs.declared.operands.Operand.{Operand}
use Rattle.bc_core.specs.Tree.{Exp, Num, Frame, Glob, Place, Load, Neg, Bin}
use Rattle.bc_core.specs.Operand.{direct, operand_of}
use Rattle.bc_rules_defs.specs.Piece.{operand_words}

-- ---- Worked examples

abbrev content : Operand → Operand
content o = record o { direct = false }

number : operand_of (Num 5) ≡ Some (direct Number 5)
number = refl

variable : operand_of (Load (Frame 2)) ≡ Some (content (direct P 2))
variable = refl

global : operand_of (Load (Glob 100)) ≡ Some (content (direct G 100))
global = refl

static : operand_of (Load (Place 3)) ≡ Some (content (direct Label 3))
static = refl

-- `!5` is the content of the cell at address 5: I on a number
content_of_number : operand_of (Load (Num 5)) ≡ Some (content (direct Number 5))
content_of_number = refl

-- `!!v` is no operand: one instruction reads only one cell
content_of_content : operand_of (Load (Load (Frame 2))) ≡ None
content_of_content = refl

-- `@v + 3` and `3 + @v`
moved_by_three : operand_of (Bin Add (Frame 2) (Num 3)) ≡ Some (direct P 5)
moved_by_three = refl

three_and_moved : operand_of (Bin Add (Num 3) (Frame 2)) ≡ Some (direct P 5)
three_and_moved = refl

-- the sum of offset and number wraps to a word
wraps : operand_of (Bin Add (Frame 65535) (Num 3)) ≡ Some (direct P 2)
wraps = refl

wraps_global : operand_of (Load (Bin Add (Num 65535) (Glob 4))) ≡ Some (content (direct G 3))
wraps_global = refl

-- `(@v)!2` is an operand; `v!2` isn't, since v must be loaded first
element : operand_of (Load (Bin Add (Frame 2) (Num 2))) ≡ Some (content (direct P 4))
element = refl

element_of_variable : operand_of (Load (Bin Add (Load (Frame 2)) (Num 2))) ≡ None
element_of_variable = refl

-- `(@static)!2` is no operand: only the linker knows a label's address
element_of_static : operand_of (Load (Bin Add (Place 3) (Num 2))) ≡ None
element_of_static = refl

sum_of_numbers : operand_of (Bin Add (Num 2) (Num 3)) ≡ None
sum_of_numbers = refl

sum_of_addresses : operand_of (Bin Add (Frame 2) (Frame 3)) ≡ None
sum_of_addresses = refl

difference : operand_of (Bin Subtract (Frame 5) (Num 1)) ≡ None
difference = refl

negative : operand_of (Neg (Num 5)) ≡ None
negative = refl

-- a number up to 511 takes one word, a greater one two; a label takes two
short : operand_words (direct Number 511) ≡ 1
short = refl

long : operand_words (direct Number 512) ≡ 2
long = refl

short_offset : operand_words (content (direct P 511)) ≡ 1
short_offset = refl

long_offset : operand_words (content (direct P 512)) ≡ 2
long_offset = refl

label : operand_words (direct Label 1) ≡ 2
label = refl
