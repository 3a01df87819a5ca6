-- For proofs: the item of INTCODE that a field describes, computed as the program does it.
use Rattle.std.specs.Prelude.{ℕ, ◌==◌, Bool, true, false, cond, nat_le, nat_lt, List, [], ◌∷◌, Option, Some, None}
use Rattle.bc_text_items.specs.declared.item.Item.{Item}
use Rattle.bc_text_items.specs.declared.item.Item.TheVariants as items
use Rattle.bc_text_items.specs.declared.item.Base.{Base}
use Rattle.bc_text_items.specs.declared.item.Base.TheVariants as base
use Rattle.bc_text_items.specs.declared.item.Function.{Function}
use Rattle.bc_text_items.specs.declared.item.Function.TheVariants.{Load, Store, Add, Jump, JumpIfTrue, JumpIfFalse, Call, Execute}
use Rattle.bc_cert_read.specs.Fields.{small, is_digit, cut}

abbrev pub label_of : Option ℕ → Option Item
label_of None = None
label_of (Some n) = Some (items.Label n)

abbrev pub plain_data_of : Option ℕ → Option Item
plain_data_of None = None
plain_data_of (Some n) = Some (items.Data n)

abbrev pub data_label_of : Option ℕ → Option Item
data_label_of None = None
data_label_of (Some n) = Some (items.DataLabel n)

abbrev pub data_of : List ℕ → Option Item
data_of [] = plain_data_of (small [])
data_of (b ∷ bs) = cond (b == 76) (data_label_of (small bs)) (plain_data_of (small (b ∷ bs)))

abbrev pub byte_of : Option ℕ → Option Item
byte_of None = None
byte_of (Some n) = cond (nat_le n 255) (Some (items.Byte n)) None

abbrev pub global_with : Option ℕ → Option ℕ → Option Item
global_with (Some g) (Some label) = cond (nat_lt g 512) (Some (items.Global g label)) None
global_with (Some g) None = None
global_with None label = None

abbrev pub global_at : List ℕ → Option (List ℕ) → Option Item
global_at first None = None
global_at first (Some rest) = global_with (small first) (small rest)

abbrev pub global_of : List ℕ → Option Item
global_of text = global_at (cut 76 text).first (cut 76 text).following

abbrev pub function_of : ℕ → Option Function
function_of b =
    cond (b == 76) (Some Load)
    (cond (b == 83) (Some Store)
    (cond (b == 65) (Some Add)
    (cond (b == 74) (Some Jump)
    (cond (b == 84) (Some JumpIfTrue)
    (cond (b == 70) (Some JumpIfFalse)
    (cond (b == 75) (Some Call)
    (cond (b == 88) (Some Execute) None)))))))

abbrev pub numbered_of : Function → Bool → Base → Option ℕ → Option Item
numbered_of f indirect b None = None
numbered_of f indirect b (Some n) = Some (items.Operation f indirect b n)

abbrev pub addressed_of : Function → Bool → List ℕ → Option Item
addressed_of f indirect [] = None
addressed_of f indirect (b ∷ bs) =
    cond (b == 80) (numbered_of f indirect base.P (small bs))
    (cond (b == 71) (numbered_of f indirect base.G (small bs))
    (cond (b == 76) (numbered_of f indirect base.Label (small bs))
    (numbered_of f indirect base.Number (small (b ∷ bs)))))

abbrev pub operation_of : Function → List ℕ → Option Item
operation_of f [] = None
operation_of f (b ∷ bs) = cond (b == 73) (addressed_of f true bs) (addressed_of f false (b ∷ bs))

abbrev pub function_item : Option Function → List ℕ → Option Item
function_item None text = None
function_item (Some f) text = operation_of f text

abbrev pub item : List ℕ → Option Item
item [] = None
item (b ∷ bs) =
    cond (is_digit b) (label_of (small (b ∷ bs)))
    (cond (b == 68) (data_of bs)
    (cond (b == 67) (byte_of (small bs))
    (cond (b == 71) (global_of bs)
    (function_item (function_of b) bs))))
