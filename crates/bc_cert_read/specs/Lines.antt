-- For proofs: what a line says, computed as the program does it.
use Rattle.std.specs.Prelude.{◌≡◌, ℕ, ◌==◌, ◌&&◌, Bool, true, false, cond, List, [], ◌∷◌, ◌++◌, Option, Some, None}
use Rattle.bc_word.specs.declared.operator.Op.{Op}
use Rattle.bc_word.specs.declared.operator.Op.TheVariants.{Multiply, Divide, Remainder, Add, Subtract, Equal, NotEqual, Less, GreaterEqual, Greater, LessEqual, ShiftLeft, ShiftRight, And, Or, NotEquivalent, Equivalent}
use Rattle.bc_word.specs.Words.{number_of}
use Rattle.bc_text_items.specs.declared.item.Item.{Item}
use Rattle.bc_rules_defs.specs.declared.piece.Piece.{Piece}
use Rattle.bc_rules_defs.specs.declared.piece.Piece.TheVariants as pieces
use Rattle.bc_rules_defs.specs.declared.rule.Rule.TheVariants.{A1, A2, A3}
use Rattle.bc_rules_defs.specs.declared.rule.Table.{Table}
use Rattle.bc_rules_defs.specs.declared.rule.Table.TheVariants.{One, Two}
use Rattle.bc_cert_read.specs.declared.form.Form.{Form}
use Rattle.bc_cert_read.specs.declared.form.Form.TheVariants as forms
use Rattle.bc_cert_defs.specs.declared.head.Head.{Head}
use Rattle.bc_cert_read.specs.declared.lines.NodeLine.{NodeLine}
use Rattle.bc_cert_read.specs.declared.lines.RootLine.{RootLine}
use Rattle.bc_cert_read.specs.declared.lines.RootLine.TheVariants.{Value, Test, Assign}
use Rattle.bc_cert_read.specs.Fields.{◌>>=◌, field, fields, following, number, small, level, number_or_none}
use Rattle.bc_cert_read.specs.Chains.{rules}
use Rattle.bc_cert_read.specs.Items.{item}

-- the rule table that the last byte of a header names
abbrev pub table_of : List ℕ → Option Table
table_of (b ∷ []) = cond (b == 49) (Some One) (cond (b == 50) (Some Two) None)
table_of _ = None

abbrev pub after_byte : ℕ → List ℕ → Option (List ℕ)
after_byte b [] = None
after_byte b (c ∷ cs) = cond (c == b) (Some cs) None

abbrev pub after_bytes : List ℕ → List ℕ → Option (List ℕ)
after_bytes [] text = Some text
after_bytes (b ∷ bs) text = after_byte b text >>= (λ rest. after_bytes bs rest)

-- `BCPLCERT `, followed by the table
abbrev pub header : List ℕ → Option Table
header line = after_bytes (66 ∷ 67 ∷ 80 ∷ 76 ∷ 67 ∷ 69 ∷ 82 ∷ 84 ∷ 32 ∷ []) line >>= (λ rest. table_of rest)

abbrev pub entry_line : List ℕ → Option Head
entry_line line =
    following line 69 >>= (λ text.
    field text >>= (λ segment_field.
    field segment_field.1 >>= (λ item_field.
    field item_field.1 >>= (λ target_field.
    field target_field.1 >>= (λ first_field.
    number segment_field.0 >>= (λ segment.
    number item_field.0 >>= (λ place.
    small target_field.0 >>= (λ target.
    small first_field.0 >>= (λ first.
    number first_field.1 >>= (λ words.
    Some (record { segment = segment; item = place; target = target; first = first; words = words })))))))))))

abbrev pub end_line : List ℕ → Option ℕ
end_line line = following line 90 >>= (λ text. number text)

abbrev pub operators : List Op
operators = Multiply ∷ Divide ∷ Remainder ∷ Add ∷ Subtract ∷ Equal ∷ NotEqual ∷ Less ∷ GreaterEqual ∷ Greater ∷ LessEqual ∷ ShiftLeft ∷ ShiftRight ∷ And
    ∷ Or ∷ NotEquivalent ∷ Equivalent ∷ []

abbrev pub op_among : ℕ → List Op → Option Op
op_among n [] = None
op_among n (op ∷ ops) = cond (number_of op == n) (Some op) (op_among n ops)

abbrev pub op_numbered : ℕ → Option Op
op_numbered n = op_among n operators

abbrev pub operator_form : Option Op → Option Form
operator_form None = None
operator_form (Some op) = Some (forms.Bin op)

abbrev pub sign : ℕ → Option Form
sign b = cond (b == 33) (Some forms.Load) (cond (b == 77) (Some forms.Neg) (cond (b == 126) (Some forms.Not) (cond (b == 63) (Some forms.Cond) None)))

abbrev pub lettered : ℕ → ℕ → Option Form
lettered b n =
    cond (b == 78) (Some (forms.Num n))
    (cond (b == 80) (Some (forms.Frame n))
    (cond (b == 71) (Some (forms.Glob n))
    (cond (b == 76) (Some (forms.Place n))
    (cond (b == 86) (Some (forms.Valof n))
    (cond (b == 75) (Some (forms.Call n))
    (cond (b == 88) (operator_form (op_numbered n)) None))))))

abbrev pub form : List ℕ → Option Form
form [] = None
form (b ∷ []) = sign b
form (b ∷ c ∷ bs) = small (c ∷ bs) >>= (λ n. lettered b n)

abbrev pub node_line : List ℕ → Option NodeLine
node_line line =
    field line >>= (λ level_field.
    field level_field.1 >>= (λ form_field.
    field form_field.1 >>= (λ any_field.
    field any_field.1 >>= (λ push_field.
    field push_field.1 >>= (λ false_field.
    field false_field.1 >>= (λ true_field.
    level level_field.0 >>= (λ s.
    form form_field.0 >>= (λ f.
    number any_field.0 >>= (λ any.
    number_or_none push_field.0 >>= (λ push.
    number false_field.0 >>= (λ on_false.
    number true_field.0 >>= (λ on_true.
    rules true_field.1 >>= (λ r.
    Some (record { level = s; form = f; costs = record { any = any; push = push; on_false = on_false; on_true = on_true }; rules = r }))))))))))))))

abbrev pub assigned : ℕ → List ℕ → Option RootLine
assigned b digits = level digits >>= (λ s. cond (b == 49) (Some (Assign A1 s)) (cond (b == 50) (Some (Assign A2 s)) (cond (b == 51) (Some (Assign A3 s)) None)))

abbrev pub root_of : List ℕ → Option RootLine
root_of (a ∷ []) = cond (a == 86) (Some Value) (cond (a == 70) (Some (Test false)) (cond (a == 84) (Some (Test true)) None))
root_of (a ∷ n ∷ b ∷ digits) = cond (a == 65 && b == 32) (assigned n digits) None
root_of _ = None

abbrev pub root_line : List ℕ → Option RootLine
root_line line = following line 82 >>= (λ text. root_of text)

-- the pieces of a code line
abbrev pub body_of : Option ℕ → Option Piece
body_of None = None
body_of (Some n) = Some (pieces.Body n)

abbrev pub item_piece : Option Item → Option Piece
item_piece None = None
item_piece (Some i) = Some (pieces.Item i)

abbrev pub piece : List ℕ → Option Piece
piece [] = None
piece (b ∷ bs) = cond (b == 63) (body_of (number bs)) (item_piece (item (b ∷ bs)))

-- the flag says whether the field describes a piece; if so, that piece is appended
abbrev pub Adds : Bool → Option Piece → (old new : List Piece) → Type 0
Adds true (Some p) old new = new ≡ old ++ p ∷ []
Adds false None old new = Unit {0}
Adds _ _ old new = ⊥

abbrev pub pieces_after : List Piece → List (List ℕ) → Option (List Piece)
pieces_after ps [] = Some ps
pieces_after ps (f ∷ fs) = piece f >>= (λ p. pieces_after (ps ++ p ∷ []) fs)

abbrev pub code_of_line : List ℕ → Option (List Piece)
code_of_line (b ∷ []) = cond (b == 67) (Some []) None
code_of_line line = following line 67 >>= (λ text. pieces_after [] (fields 32 text))
