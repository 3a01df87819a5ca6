-- Giving a number to a continuation, case by case.
use Rattle.std.proofs.Common.{◌≡◌, ℕ, List, Some, None, sym, ap}
use Rattle.bc_word.specs.declared.operator.Op.{Op}
use Rattle.bc_word.specs.Words.{value_of}
use Rattle.bc_core.specs.Store.{Dead, Unset, Set, cell_at}
use Rattle.bc_interpret_defs.specs.Causes as causes
use Rattle.bc_interpret_defs.specs.Quiet.{Stops, Sight, QuietRest, Number, Give, Divided, Loads, Operated, found, quotient, as_number, gives, on, number_taken}

pub loaded_dead : (S : Sight) (a : ℕ) (rs : List QuietRest) → Dead ≡ cell_at S.cells a → number_taken S Loads a rs ≡ Stops (causes.Dead a)
loaded_dead S a rs e = ap (λ c. gives (as_number (found a c)) rs) (sym e)

pub loaded_unset : (S : Sight) (a : ℕ) (rs : List QuietRest) → Unset ≡ cell_at S.cells a → number_taken S Loads a rs ≡ Stops (causes.Unset a)
loaded_unset S a rs e = ap (λ c. gives (as_number (found a c)) rs) (sym e)

pub loaded_set : (S : Sight) (a w : ℕ) (rs : List QuietRest) → Set w ≡ cell_at S.cells a → number_taken S Loads a rs ≡ on (Give (Number w)) rs
loaded_set S a w rs e = ap (λ c. gives (as_number (found a c)) rs) (sym e)

pub operated : (S : Sight) (op : Op) (x v w : ℕ) (rs : List QuietRest) → value_of op x v ≡ Some w → number_taken S (Operated op x) v rs ≡ on (Give (Number w)) rs
operated S op x v w rs e = ap (λ o. gives (as_number (quotient o)) rs) e

pub not_operated : (S : Sight) (op : Op) (x v : ℕ) (rs : List QuietRest) → value_of op x v ≡ None → number_taken S (Operated op x) v rs ≡ on Divided rs
not_operated S op x v rs e = ap (λ o. gives (as_number (quotient o)) rs) e
