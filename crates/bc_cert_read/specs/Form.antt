-- For proofs: what the form of a node determines: the number of parts, whether it is a call, whether a test may be made of its value.
use Rattle.std.specs.Prelude.{ℕ, ◌+◌, Bool, true, false}
use Rattle.bc_rules_defs.specs.Free.{is_plain_operator}
use Rattle.bc_cert_read.specs.declared.form.Form.{Form}
use Rattle.bc_cert_read.specs.declared.form.Form.TheVariants.{Valof, Load, Neg, Not, Bin, Cond, Call}

abbrev pub parts_of : Form → ℕ
parts_of Load = 1
parts_of Neg = 1
parts_of Not = 1
parts_of (Bin op) = 2
parts_of Cond = 3
parts_of (Call n) = n + 1
parts_of _ = 0

abbrev pub calls_itself : Form → Bool
calls_itself (Valof n) = true
calls_itself (Call n) = true
calls_itself _ = false

abbrev pub is_plain : Form → Bool
is_plain Not = false
is_plain (Bin op) = is_plain_operator op
is_plain _ = true
