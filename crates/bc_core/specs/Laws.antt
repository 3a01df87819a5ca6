-- The laws of the meaning, which hold of every program.
use Rattle.std.specs.Prelude.{ℕ, ◌≡◌, ◌+◌, ◌≤◌, Bool, true, false, List, [], ◌∷◌, ◌++◌}
use Rattle.bc_machine_defs.specs.Streams.{Content}
use Rattle.bc_machine_defs.specs.StreamCalls.{output_of}
use Rattle.bc_core.specs.Commands.{Core}
use Rattle.bc_core.specs.Map.{Map, Placed}
use Rattle.bc_core.specs.Store.{Cell, Dead, Unset, Set, cell_at}
use Rattle.bc_core.specs.Outcome.{State, Outcome, Done, Ending}
use Rattle.bc_core.specs.Outcome as outcomes
use Rattle.bc_core.specs.Tree.{Exp}
use Rattle.bc_core.specs.Value.{Context, has_call, value, truth}
use Rattle.bc_core.specs.Meaning.{Result, Ended, Going, Wild, meaning, calls}

-- whether a cell is live
abbrev pub is_live : Cell → Bool
is_live Dead = false
is_live Unset = true
is_live (Set w) = true

-- the same cells are live
abbrev pub SameLive : List Cell → List Cell → Type 0
SameLive old new = (a : ℕ) → is_live (cell_at new a) ≡ is_live (cell_at old a)

-- no cell from the address `top` on is live
abbrev pub DeadFrom : ℕ → List Cell → Type 0
DeadFrom top cells = (a : ℕ) → top ≤ a → is_live (cell_at cells a) ≡ false

-- each output has the bytes that it had, and may have more
abbrev pub Longer : List (List ℕ) → List (List ℕ) → Type 0
Longer [] [] = Unit {0}
Longer (old ∷ olds) (new ∷ news) = ((more : List ℕ) × (new ≡ old ++ more)) × Longer olds news
Longer _ _ = ⊥

-- What a run leaves that began with these cells and streams: the outputs may be longer. If its part of the source is
-- done, the same cells are live as before, provided that none was live from `top` on.
abbrev pub Tidy : {A : Type 0} → ℕ → List Cell → Content → Outcome A → Type 0
Tidy top cells streams (Done x st) = Longer (output_of streams) (output_of st.streams) × (DeadFrom top cells → SameLive cells st.cells)
Tidy top cells streams (outcomes.Ended e streams1) = Longer (output_of streams) (output_of streams1)
Tidy top cells streams (outcomes.Going streams1) = Longer (output_of streams) (output_of streams1)
Tidy top cells streams outcomes.Wild = Unit {0}

-- every call is tidy: one that returns gives back exactly the cells of its frame, and outputs only grow
abbrev pub CallsAreTidy : Type 0
CallsAreTidy =
    (program : List Placed) (n a : ℕ) (arguments : List ℕ) (frame : ℕ) (st : State)
    → Tidy frame st.cells st.streams (calls program n a arguments frame st)

-- A run that is calm: its part of the source is done in the state in which it began; or it ended by a zero divisor,
-- with the streams unchanged; or it is wild.
abbrev pub IsCalm : {A : Type 0} → State → Outcome A → Type 0
IsCalm st (Done x st1) = st ≡ st1
IsCalm st (outcomes.Ended e streams) = (e ≡ outcomes.ZeroDivide) × (streams ≡ st.streams)
IsCalm st (outcomes.Going streams) = ⊥
IsCalm st outcomes.Wild = Unit {0}

-- an expression without call and VALOF is calm, as a value and as a test
abbrev pub CallFreeIsCalm : Type 0
CallFreeIsCalm =
    (C : Context) (e : Exp) → has_call e ≡ false → (p s : ℕ) (st : State)
    → IsCalm st (value C e p s st) × IsCalm st (truth C e p s st)

-- what a run with more turns may result in: if the run had ended or was wild, the same; if it was going, a longer
-- output, or wild
abbrev pub Further : Result → Result → Type 0
Further (Ended output e) r = r ≡ Ended output e
Further Wild r = r ≡ Wild
Further (Going output) (Ended more e) = Longer output more
Further (Going output) (Going more) = Longer output more
Further (Going output) Wild = Unit {0}

-- a run with more turns goes further in this sense
abbrev pub MoreTurnsGoFurther : Type 0
MoreTurnsGoFurther =
    (cores : List Core) (map : Map) (streams : Content) (n more : ℕ)
    → Further (meaning cores map streams n) (meaning cores map streams (n + more))
