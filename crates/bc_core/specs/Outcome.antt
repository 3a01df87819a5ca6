-- What running a part of a source results in, and how runs are combined.
use Rattle.std.specs.Prelude.{ℕ, zero, suc, Bool, true, false, List, slice_set}
use Rattle.bc_machine_defs.specs.Streams.{Content}
use Rattle.bc_core.specs.Store.{Cell, Dead, Unset, Set, cell_at, opened, closed}

-- the state of a run: the cells, the contents of the streams, and the remaining turns
pub record State : Type 0 where
  pub cells : List Cell
  pub streams : Content
  pub turns : ℕ

-- how a run ends: it finished, or it met a zero divisor
pub data Ending : Type 0 where
  Finished : Ending
  ZeroDivide : Ending

-- The outcome of a part: it is done, with a value and the state after it; or the whole run ended; or the run would go
-- on but has no turn left; or it met a wild cell.
pub data Outcome (A : Type 0) : Type 0 where
  Done : A → State → Outcome A
  Ended : Ending → Content → Outcome A
  Going : Content → Outcome A
  Wild : Outcome A

-- a run: from a state to an outcome
abbrev pub Run : Type 0 → Type 0
Run A = State → Outcome A

-- the run that is wild
abbrev pub wild : {A : Type 0} → Run A
wild st = Wild

-- the run that ends here, with this ending
abbrev pub ends : {A : Type 0} → Ending → Run A
ends ending st = Ended ending st.streams

-- what follows an outcome: if the part is done, `f` goes on with its value
abbrev pub followed : {A B : Type 0} → Outcome A → (A → Run B) → Outcome B
followed (Done x st) f = f x st
followed (Ended e streams) f = Ended e streams
followed (Going streams) f = Going streams
followed Wild f = Wild

-- a run, then what `f` does with its value
abbrev pub then_do : {A B : Type 0} → Run A → (A → Run B) → Run B
then_do r f st = followed (r st) f

-- the first run if true, else the second
abbrev pub choose : {A : Type 0} → Bool → Run A → Run A → Run A
choose true this that st = this st
choose false this that st = that st

-- a run that takes one of n remaining turns; if none remains, the run is going
abbrev pub taken : {A : Type 0} → ℕ → Run A → Run A
taken zero r st = Going st.streams
taken (suc n) r st = r (record st { turns = n })

-- a run that takes a turn
abbrev pub in_turn : {A : Type 0} → Run A → Run A
in_turn r st = taken st.turns r st

-- reading a cell gives its word; if it isn't live or is unset, the read is wild
abbrev pub content_of_cell : Cell → Run ℕ
content_of_cell Dead st = Wild
content_of_cell Unset st = Wild
content_of_cell (Set w) st = Done w st

-- reads the cell at an address
abbrev pub read : ℕ → Run ℕ
read a st = content_of_cell (cell_at st.cells a) st

-- writing a cell stores the word; if the cell isn't live, the write is wild
abbrev pub written : Cell → ℕ → ℕ → Run (Unit {0})
written Dead a w st = Wild
written Unset a w st = Done tt (record st { cells = slice_set st.cells a (Set w) })
written (Set old) a w st = Done tt (record st { cells = slice_set st.cells a (Set w) })

-- writes the cell at an address
abbrev pub write : ℕ → ℕ → Run (Unit {0})
write a w st = written (cell_at st.cells a) a w st

-- an outcome after which n cells from the address a on are no longer live
abbrev pub left : {A : Type 0} → ℕ → ℕ → Outcome A → Outcome A
left n a (Done x st) = Done x (record st { cells = closed n a st.cells })
left n a (Ended e streams) = Ended e streams
left n a (Going streams) = Going streams
left n a Wild = Wild

-- A run during which n cells from the address a on are live. They are unset when it begins, and given back when it is
-- done.
abbrev pub with_cells : {A : Type 0} → ℕ → ℕ → Run A → Run A
with_cells n a r st = left n a (r (record st { cells = opened n a st.cells }))

-- If the first of two sides ended the run by a zero divisor, and neither side contains a call or a VALOF, then a wild
-- second side outweighs this: the whole is wild. Otherwise the run ends there.
abbrev pub outweighed : {A B : Type 0} → Ending → Content → Outcome A → Outcome B
outweighed e streams (Done x st) = Ended e streams
outweighed e streams (Ended e1 streams1) = Ended e streams
outweighed e streams (Going streams1) = Ended e streams
outweighed e streams Wild = Wild

-- the second side, after the outcome of the first
abbrev pub second_side : {A B C : Type 0} → (calls : Bool) → Outcome A → Run B → (A → B → Run C) → Run C
second_side calls (Done x st1) second f st = followed (second st1) (f x)
second_side false (Ended e streams) second f st = outweighed e streams (second st)
second_side true (Ended e streams) second f st = Ended e streams
second_side calls (Going streams) second f st = Going streams
second_side calls Wild second f st = Wild

-- Two sides, one after the other, then what `f` does with both values. `calls` says whether one of them contains a
-- call or a VALOF.
abbrev pub both : {A B C : Type 0} → (calls : Bool) → Run A → Run B → (A → B → Run C) → Run C
both calls first second f st = second_side calls (first st) second f st

-- the outcome of one round of a loop: another round follows, or the loop is left
pub data Round (A B : Type 0) : Type 0 where
  Again : A → Round A B
  Leave : B → Round A B

-- after a round: another one, or done
abbrev pub next_round : {A B : Type 0} → (A → Run B) → Round A B → Run B
next_round again (Again x) = again x
next_round again (Leave y) = Done y

-- At most n rounds. `repeated` gives one more than the remaining turns, and each round that is followed by another
-- one takes a turn. So n never runs out before the turns do.
abbrev pub rounds : {A B : Type 0} → ℕ → (A → Run (Round A B)) → A → Run B
rounds zero f x st = Going st.streams
rounds (suc n) f x st = followed (f x st) (next_round (rounds n f))

-- rounds until one of them leaves
abbrev pub repeated : {A B : Type 0} → (A → Run (Round A B)) → A → Run B
repeated f x st = rounds (suc st.turns) f x st
