-- Giving a number to a continuation, case by case.
use Rattle.std.proofs.Common.{◌≡◌, ℕ, List, Some, None, sym, ap}
use Rattle.bc_word.specs.declared.operator.Op.{Op}
use Rattle.bc_word.specs.Words.{value_of}
use Rattle.bc_core.specs.Map.{Placed}
use Rattle.bc_core.specs.Store.{Cell, Dead, Unset, Set, cell_at}
use Rattle.bc_core.specs.Outcome.{State, Done, Ended, Wild, ZeroDivide, followed, content_of_cell, read, write}
use Rattle.bc_interpret_defs.specs.Causes as causes
use Rattle.bc_interpret_defs.specs.Causes.{Cause}
use Rattle.bc_interpret_defs.specs.Meeting.{IsWildBy}
use Rattle.bc_interpret_defs.proofs.Naming.{wild_then, wild_read_dead, wild_read_unset}
use Rattle.bc_core.specs.Value.{given}
use Rattle.bc_interpret_defs.specs.Machine.{Number, Nothing, Rest, Loads, Operated, StoresAt, give, next}

pub loaded_dead : (program : List Placed) (v : ℕ) (rs : List Rest) (st : State) → Dead ≡ cell_at st.cells v → next program Loads (Number v) rs st ≡ Wild
loaded_dead program v rs st e = ap (λ c. followed (content_of_cell c st) (λ x. give (Number x) rs)) (sym e)

pub loaded_by_dead : (program : List Placed) (v : ℕ) (rs : List Rest) (cells : List Cell) → Dead ≡ cell_at cells v → IsWildBy (next program Loads (Number v) rs) cells (causes.Dead v)
loaded_by_dead program v rs cells e = wild_then (read v) (λ x. give (Number x) rs) cells (causes.Dead v) (wild_read_dead v cells (sym e))

pub loaded_by_unset : (program : List Placed) (v : ℕ) (rs : List Rest) (cells : List Cell) → Unset ≡ cell_at cells v → IsWildBy (next program Loads (Number v) rs) cells (causes.Unset v)
loaded_by_unset program v rs cells e = wild_then (read v) (λ x. give (Number x) rs) cells (causes.Unset v) (wild_read_unset v cells (sym e))

pub loaded_unset : (program : List Placed) (v : ℕ) (rs : List Rest) (st : State) → Unset ≡ cell_at st.cells v → next program Loads (Number v) rs st ≡ Wild
loaded_unset program v rs st e = ap (λ c. followed (content_of_cell c st) (λ x. give (Number x) rs)) (sym e)

pub loaded_set : (program : List Placed) (v w : ℕ) (rs : List Rest) (st : State) → Set w ≡ cell_at st.cells v → next program Loads (Number v) rs st ≡ give (Number w) rs st
loaded_set program v w rs st e = ap (λ c. followed (content_of_cell c st) (λ x. give (Number x) rs)) (sym e)

pub operated : (program : List Placed) (op : Op) (x v w : ℕ) (rs : List Rest) (st : State) → value_of op x v ≡ Some w → next program (Operated op x) (Number v) rs st ≡ give (Number w) rs st
operated program op x v w rs st e = ap (λ o. followed (given o st) (λ y. give (Number y) rs)) e

pub not_operated : (program : List Placed) (op : Op) (x v : ℕ) (rs : List Rest) (st : State) → value_of op x v ≡ None → next program (Operated op x) (Number v) rs st ≡ Ended ZeroDivide st.streams
not_operated program op x v rs st e = ap (λ o. followed (given o st) (λ y. give (Number y) rs)) e

pub stored : (program : List Placed) (a w : ℕ) (rs : List Rest) (old new : State) → write a w old ≡ Done tt new → next program (StoresAt a) (Number w) rs old ≡ give Nothing rs new
stored program a w rs old new e = ap (λ o. followed o (λ u. give Nothing rs)) e

pub not_stored : (program : List Placed) (a w : ℕ) (rs : List Rest) (old : State) → write a w old ≡ Wild → next program (StoresAt a) (Number w) rs old ≡ Wild
not_stored program a w rs old e = ap (λ o. followed o (λ u. give Nothing rs)) e

pub stored_by : (program : List Placed) (a w : ℕ) (rs : List Rest) (cells : List Cell) (c : Cause) → IsWildBy (write a w) cells c → IsWildBy (next program (StoresAt a) (Number w) rs) cells c
stored_by program a w rs cells c h = wild_then (write a w) (λ u. give Nothing rs) cells c h
