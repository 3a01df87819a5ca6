-- Worked examples: with which wild access a pure expression fails.
use Rattle.std.specs.Prelude.{◌≡◌, ℕ, [], ◌∷◌, List, refl}
use Rattle.bc_word.specs.declared.operator.Op.TheVariants.{Add, Divide}
use Rattle.bc_core.specs.Tree.{Exp, Num, Frame, Load, Bin, Cond}
use Rattle.bc_core.specs.Store.{Cell, Dead, Unset, Set}
use Rattle.bc_interpret_defs.specs.Causes as causes
use Rattle.bc_interpret_defs.specs.Quiet.{Worth, Is, Divides, Fails, worth}

-- cell 0 is dead, cell 1 is unset, cell 2 has a 0 and cell 3 a 7
abbrev store : List Cell
store = Dead ∷ Unset ∷ Set 0 ∷ Set 7 ∷ []

abbrev of : Exp → Worth ℕ
of e = (worth (record { cells = store; address = λ l. 0; frame = 0 }) e).value

abbrev at : ℕ → Exp
at k = Load (Frame k)

abbrev by_zero : Exp
by_zero = Bin Divide (Num 1) (at 2)

reads : of (at 3) ≡ Is 7
reads = refl

reads_unset : of (at 1) ≡ Fails (causes.Unset 1)
reads_unset = refl

-- addresses past the last cell are dead
reads_dead : (of (at 0) ≡ Fails (causes.Dead 0)) × (of (at 4) ≡ Fails (causes.Dead 4))
reads_dead = (refl, refl)

-- of two wild accesses the left one is named
first_of_two : (of (Bin Add (at 1) (at 0)) ≡ Fails (causes.Unset 1)) × (of (Bin Add (at 0) (at 1)) ≡ Fails (causes.Dead 0))
first_of_two = (refl, refl)

-- where the address itself is read from a wild cell, that access is named
address_first : of (Load (at 1)) ≡ Fails (causes.Unset 1)
address_first = refl

-- a wild access in the second operand takes precedence over a zero divisor in the first
outweighs : (of by_zero ≡ Divides) × (of (Bin Add by_zero (at 1)) ≡ Fails (causes.Unset 1))
outweighs = (refl, refl)

-- a branch that isn't taken isn't evaluated
not_taken : (of (Cond (at 2) (at 0) (at 3)) ≡ Is 7) × (of (Cond (at 3) (at 0) (at 1)) ≡ Fails (causes.Dead 0))
not_taken = (refl, refl)
