-- For proofs: what the answers of the fast path mean. Is: the expression is pure and has this worth. Calls: it contains a call. Unknown:
-- nothing.
use Rattle.std.specs.Prelude.{ℕ, true, false, ◌≡◌, Some}
use Rattle.bc_word.specs.declared.operator.Op.{Op}
use Rattle.bc_word.specs.Words.{value_of as operator_value}
use Rattle.bc_core.specs.Tree.{Exp}
use Rattle.bc_core.specs.Store.{cell_at}
use Rattle.bc_core.specs.Value.{has_call, is_true}
use Rattle.bc_interpret_defs.specs.Quiet.{Sight, Is, found, worth, chained, combined}
use Rattle.bc_interpret_pure.specs.declared.fast_path.Quick.{Quick}
use Rattle.bc_interpret_pure.specs.declared.fast_path.Quick.TheVariants as quick

-- the answer is right about the value of the expression
abbrev pub IsQuickValue : Sight → Exp → Quick → Type 0
IsQuickValue S e (quick.Is v) = (has_call e ≡ false) × ((worth S e).value ≡ Is v)
IsQuickValue S e quick.Calls = has_call e ≡ true
IsQuickValue S e quick.Unknown = Unit {0}

-- the truth of the expression is that of the number
abbrev pub IsQuickTruth : Sight → Exp → Quick → Type 0
IsQuickTruth S e (quick.Is v) = (has_call e ≡ false) × ((worth S e).truth ≡ Is (is_true v))
IsQuickTruth S e quick.Calls = has_call e ≡ true
IsQuickTruth S e quick.Unknown = Unit {0}

-- the number is the value of the expression; any other answer says nothing
abbrev pub IsQuickLeaf : Sight → Exp → Quick → Type 0
IsQuickLeaf S e (quick.Is v) = (has_call e ≡ false) × ((worth S e).value ≡ Is v)
IsQuickLeaf S e quick.Calls = Unit {0}
IsQuickLeaf S e quick.Unknown = Unit {0}

-- the answer is right about the word of the cell at this address
abbrev pub IsWordAt : Sight → ℕ → Quick → Type 0
IsWordAt S a (quick.Is w) = found a (cell_at S.cells a) ≡ Is w
IsWordAt S a quick.Calls = ⊥
IsWordAt S a quick.Unknown = Unit {0}

-- the answer is right about the result of an operator on two numbers
abbrev pub IsMadeOf : Op → ℕ → ℕ → Quick → Type 0
IsMadeOf op x y (quick.Is w) = operator_value op x y ≡ Some w
IsMadeOf op x y quick.Calls = ⊥
IsMadeOf op x y quick.Unknown = Unit {0}

-- the result of an operator on the number x and this expression
abbrev pub IsSecond : Sight → Op → ℕ → Exp → Quick → Type 0
IsSecond S op x e (quick.Is w) = (has_call e ≡ false) × (chained (worth S e).value (combined op x) ≡ Is w)
IsSecond S op x e quick.Calls = has_call e ≡ true
IsSecond S op x e quick.Unknown = Unit {0}
