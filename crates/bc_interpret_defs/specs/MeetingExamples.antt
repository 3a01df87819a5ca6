-- Worked examples: which causes a wild step meets, and which it doesn't.
use Rattle.std.specs.Prelude.{ℕ, zero, suc, ◌≡◌, ◌+◌, List, [], ◌∷◌, Some, None, refl, slice_set}
use Rattle.std.proofs.Common.{arith, ap, sym, subst}
use Rattle.bc_machine_defs.specs.StreamStart.{start_streams}
use Rattle.bc_core.specs.Tree.{Frame, Load}
use Rattle.bc_core.specs.Store.{Cell, cell_at}
use Rattle.bc_core.specs.Store as cells
use Rattle.bc_core.specs.Outcome.{State, Run, Outcome, Wild, followed, content_of_cell, written}
use Rattle.bc_core.specs.Primitive.{Primitive, WriteByte, primitive_work}
use Rattle.bc_core.specs.Meaning.{OfLibrary, callee, passed}
use Rattle.bc_interpret_defs.specs.Causes.{Cause, Unset, Dead, NoCell, NotRoutine, FrameTooLarge, Malformed}
use Rattle.bc_interpret_defs.specs.Machine.{Spot, Number, Work, Evaluate, Give, Loads, StoresAt, Calls, Closes, Nothing, At, give, step}
use Rattle.bc_interpret_defs.specs.Called.{IsCall}
use Rattle.bc_interpret_defs.specs.Trails.{Within}
use Rattle.bc_interpret_defs.specs.Meeting.{KeepsWords, HasNoWord, IsWildBy, Meets, ByCell, ByArgument, ByCall, ByForm, ComesTo}

-- cell 0 is dead, cell 1 is unset, and cell 2 has a 7
abbrev store : List Cell
store = cells.Dead ∷ cells.Unset ∷ cells.Set 7 ∷ []

abbrev over : List Cell → State
over all = record { cells = all; streams = start_streams [] []; turns = 9 }

-- a program without sections, in a frame at 0
abbrev spot : Spot
spot = record { address = λ l. 0; first = 0; valofs = []; frame = 0 }

-- reads cell 1, which is unset
abbrev reading : Work
reading = Evaluate spot (Load (Frame 1)) 3

-- a read of a cell without a word is wild
no_read : {A : Type 0} (c : Cell) (st : State) (f : ℕ → Run A) → HasNoWord c → followed (content_of_cell c st) f ≡ Wild
no_read cells.Dead st f h = refl
no_read cells.Unset st f h = refl
no_read (cells.Set w) st f h = absurd h

meets_unset : Meets [] reading [] store (Unset 1)
meets_unset = ByCell (λ v vs f c. let h = c.work in cc) (refl, λ st keeps h. no_read (cell_at st.cells 1) st _ h)

-- cell 0 is dead too, but with a word in cell 1 and none in cell 0 the step isn't wild
abbrev word_in_1 : State
word_in_1 = over (cells.Dead ∷ cells.Set 5 ∷ cells.Set 7 ∷ [])

keeps_7 : KeepsWords store word_in_1
keeps_7 zero w e = cc
keeps_7 (suc zero) w e = cc
keeps_7 (suc (suc zero)) w e = e
keeps_7 (suc (suc (suc b))) w e = cc

not_the_first : Meets [] reading [] store (Dead 0) → ⊥
not_the_first (ByCell n h) = let k = h.1 word_in_1 keeps_7 tt in cc
not_the_first (ByArgument v vs f q c k fits e) = let h = c.work in cc
not_the_first (ByCall v vs f c e) = let h = c.work in cc
not_the_first (ByForm n e h) = cc

-- nor is the cell beyond the last one at fault, or any other that isn't live
not_beyond : Meets [] reading [] store (Dead 3) → ⊥
not_beyond (ByCell n h) = let k = h.1 word_in_1 keeps_7 tt in cc
not_beyond (ByArgument v vs f q c k fits e) = let h = c.work in cc
not_beyond (ByCall v vs f c e) = let h = c.work in cc
not_beyond (ByForm n e h) = cc

-- cell 1 isn't dead
not_dead : Meets [] reading [] store (Dead 1) → ⊥
not_dead (ByCell n h) = let k = h.0 in cc
not_dead (ByArgument v vs f q c k fits e) = let h = c.work in cc
not_dead (ByCall v vs f c e) = let h = c.work in cc
not_dead (ByForm n e h) = cc

-- a cell that holds a word is no cause
not_set : Meets [] reading [] store (Unset 2) → ⊥
not_set (ByCell n h) = let k = h.0 in cc
not_set (ByArgument v vs f q c k fits e) = let h = c.work in cc
not_set (ByCall v vs f c e) = let h = c.work in cc
not_set (ByForm n e h) = cc

-- with a word in cell 1 the step isn't wild, so the form isn't at fault
not_malformed : Meets [] reading [] store Malformed → ⊥
not_malformed (ByCell n h) = h
not_malformed (ByArgument v vs f q c k fits e) = e
not_malformed (ByCall v vs f c e) = e
not_malformed (ByForm n e h) = let k = h word_in_1 in cc

-- writes 5 to cell 0, which is dead
writes_dead : Meets [] (Give (Number 5)) (StoresAt 0 ∷ []) store (NoCell 0)
writes_dead =
    ByCell (λ v vs f c. let h = c.rests in cc)
    (refl, (λ st keeps h. ap (λ c. followed (written c 0 5 st) (λ u. give Nothing [])) h, λ st w keeps. overwrites st.cells st w)) where
      writes : List Cell → State → Outcome At
      writes all st = step [] (Give (Number 5)) (StoresAt 0 ∷ []) (record st { cells = all })

      overwrites : (all : List Cell) (st : State) (w : ℕ) → writes (slice_set all 0 cells.Unset) st ≡ writes (slice_set all 0 (cells.Set w)) st
      overwrites [] st w = refl
      overwrites (c ∷ all) st w = refl

-- that is no read: with cell 0 live and unset the step isn't wild
abbrev unset_0 : State
unset_0 = over (cells.Unset ∷ cells.Unset ∷ cells.Set 7 ∷ [])

keeps_too : KeepsWords store unset_0
keeps_too zero w e = cc
keeps_too (suc zero) w e = cc
keeps_too (suc (suc zero)) w e = e
keeps_too (suc (suc (suc b))) w e = cc

not_read : Meets [] (Give (Number 5)) (StoresAt 0 ∷ []) store (Dead 0) → ⊥
not_read (ByCell n h) = let k = h.1 unset_0 keeps_too tt in cc
not_read (ByArgument v vs f q c k fits e) = let h = c.rests in cc
not_read (ByCall v vs f c e) = let h = c.rests in cc
not_read (ByForm n e h) = cc

-- and a read of cell 0 is no write: where the cell is unset the step is wild, where it has a word it isn't
reads_dead : Meets [] (Give (Number 0)) (Loads ∷ []) store (Dead 0)
reads_dead = ByCell (λ v vs f c. let h = c.rests in cc) (refl, λ st keeps h. no_read (cell_at st.cells 0) st _ h)

not_written : Meets [] (Give (Number 0)) (Loads ∷ []) store (NoCell 0) → ⊥
not_written (ByCell n h) = let k = h.1.1 unset_0 5 keeps_too in cc
not_written (ByArgument v vs f q c k fits e) = let h = c.rests in cc
not_written (ByCall v vs f c e) = let h = c.rests in cc
not_written (ByForm n e h) = cc

-- `WRCH()`: the cell of its argument, two above the frame, is live and unset
writes_nothing : Meets [] (Give (Number 530)) (Calls [] 0 ∷ []) store (Unset 2)
writes_nothing =
    ByArgument 530 [] 0 WriteByte (record { following = []; work = refl; rests = refl }) refl (omega arith)
    (refl, λ st keeps h. no_read (cell_at st.cells 2) st _ h)

keeps_none : KeepsWords (passed 1 2 [] store) (over store)
keeps_none zero w e = cc
keeps_none (suc zero) w e = cc
keeps_none (suc (suc zero)) w e = cc
keeps_none (suc (suc (suc b))) w e = cc

-- cell 0 has no part in it
not_in_it : Meets [] (Give (Number 530)) (Calls [] 0 ∷ []) store (Dead 0) → ⊥
not_in_it (ByCell n h) = n 530 [] 0 (record { following = []; work = refl; rests = refl })
not_in_it (ByArgument v vs f q c k fits e) =
    let called : 530 ≡ v = (let h = c.work in cc) in
    let bare : [] ≡ vs = (let h = c.rests in cc) in
    let framed : 0 ≡ f = (let h = c.rests in cc) in
    let k1 : callee [] 530 ≡ Some (OfLibrary q) = subst (λ z. callee [] z ≡ Some (OfLibrary q)) (sym called) k in
    let writes : q ≡ WriteByte = (let k2 : Some (OfLibrary WriteByte) ≡ Some (OfLibrary q) = k1 in cc) in
    let e1 = subst (λ z. IsWildBy (primitive_work z f) (passed 1 (f + 2) vs store) (Dead 0)) writes e in
    let e2 = subst (λ z. IsWildBy (primitive_work WriteByte z) (passed 1 (z + 2) vs store) (Dead 0)) (sym framed) e1 in
    let e3 = subst (λ z. IsWildBy (primitive_work WriteByte 0) (passed 1 2 z store) (Dead 0)) (sym bare) e2 in
    let wild = e3.1 (over store) keeps_none tt in cc
not_in_it (ByCall v vs f c e) = e
not_in_it (ByForm n e h) = cc

-- calls 7, in a frame at 0
no_routine : Meets [] (Give (Number 7)) (Calls [] 0 ∷ []) store (NotRoutine 7)
no_routine = ByCall 7 [] 0 (record { following = []; work = refl; rests = refl }) (refl, refl)

-- no cell is at fault there
not_a_cell : Meets [] (Give (Number 7)) (Calls [] 0 ∷ []) store (Dead 0) → ⊥
not_a_cell (ByCell n h) = n 7 [] 0 (record { following = []; work = refl; rests = refl })
not_a_cell (ByArgument v vs f q c k fits e) = let h = c.work in cc
not_a_cell (ByCall v vs f c e) = e
not_a_cell (ByForm n e h) = cc

-- calls WRCH in a frame at 65,534, which would need three cells
no_room : Meets [] (Give (Number 530)) (Calls [] 65534 ∷ []) store (FrameTooLarge 65534)
no_room = ByCall 530 [] 65534 (record { following = []; work = refl; rests = refl }) (refl, omega arith)

-- cell 2 is freed and then read: it is dead at the wild step, though it wasn't at the start
read_after_closing : ComesTo [] (record { work = Give (Number 2); rests = Closes None 1 2 ∷ Loads ∷ [] }) (over store) (Dead 2) []
read_after_closing = record {
  steps = 1;
  at = record { work = Give (Number 2); rests = Loads ∷ [] };
  state = record (over store) { cells = cells.Dead ∷ cells.Unset ∷ cells.Dead ∷ [] };
  comes = refl;
  wild = refl;
  meets = ByCell (λ v vs f c. let h = c.rests in cc) (refl, λ st keeps h. no_read (cell_at st.cells 2) st _ h);
  during = Within (λ v vs f c. let h = c.rests in cc) refl;
}
