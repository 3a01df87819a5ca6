-- Worked examples: the last label and the last offset that fit into a word, and one more of each.
use Rattle.std.specs.Prelude.{◌≡◌, ℕ, ◌≤◌, refl}
use Rattle.std.proofs.Common.{arith}
use Rattle.bc_word.specs.declared.operator.Op.TheVariants.{Multiply}
use Rattle.bc_core.specs.Tree.{Exp, Frame, Load, Bin, Cond, Root, Value}
use Rattle.bc_rules_defs.specs.declared.rule.Table.{Table}
use Rattle.bc_rules_defs.specs.declared.rule.Table.TheVariants.{One}
use Rattle.bc_rules_defs.specs.declared.rule.Mode.TheVariants.{Any}
use Rattle.bc_rules_defs.specs.declared.rule.Aim.TheVariants.{Gets}
use Rattle.bc_rules_defs.specs.Rules.{Derives, v0, v1, v17, v20, j6, RootDerives, value, root_shape}
use Rattle.bc_rules_defs.specs.Code.{root_labels}
use Rattle.bc_rules.specs.Code.{LacksRoom}

-- ---- Worked examples

-- the variable at an offset of the frame
abbrev at : ℕ → Exp
at k = Load (Frame k)

abbrev get : {T : _} {k : ℕ} → Derives T (at k) (Gets Any)
get = v0 (v1 refl)

-- v -> w, x by V20, which takes two labels
abbrev choice : Root
choice = Value 5 (Cond (at 2) (at 3) (at 4))

abbrev by_choice : RootDerives One choice
by_choice = value (v20 (j6 refl get) get get)

two_labels : {T : Table} (d : RootDerives T choice) → root_shape d ≡ root_shape by_choice → 2 ≤ root_labels d
two_labels (value (v20 c x y)) e = omega arith
two_labels (value _) e = cc

-- numbered from 65,534 they are the last two labels; numbered from 65,535 the second is no word
labels_fit : ¬ LacksRoom choice (root_shape by_choice) 65534
labels_fit h = h.exact One by_choice refl (omega arith) (omega arith)

one_label_more : LacksRoom choice (root_shape by_choice) 65535
one_label_more = record { exact = λ T d e labels cells. let two = two_labels d e in omega arith }

-- v * w by V17, which stores two values: at its level and at the next one
abbrev product : ℕ → Root
product s = Value s (Bin Multiply (at 2) (at 3))

abbrev held : {s : ℕ} → RootDerives One (product s)
held = value (v17 get get)

-- at level 65,534 these are the last two offsets; at 65,535 the second is no word
offsets_fit : ¬ LacksRoom (product 65534) (root_shape (held {s = 65534})) 1
offsets_fit h = h.exact One held refl (omega arith) (omega arith)

one_offset_more : LacksRoom (product 65535) (root_shape (held {s = 65535})) 1
one_offset_more = record { exact = λ T d e labels cells. omega arith }
