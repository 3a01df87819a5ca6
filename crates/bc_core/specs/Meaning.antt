-- What a program of resolved sections means: its output and its ending in a number of turns.
use Rattle.std.specs.Prelude.{ℕ, zero, suc, ◌+◌, ◌==◌, nat_le, true, false, List, [], ◌∷◌, slice_set, Option, Some, None}
use Rattle.bc_machine_defs.specs.Streams.{Content}
use Rattle.bc_machine_defs.specs.StreamCalls.{output_of}
use Rattle.bc_core.specs.Commands.{Place, Code, Routine, Body, Gives, Does, Core, Valof}
use Rattle.bc_core.specs.Level.{level_after_parameters}
use Rattle.bc_core.specs.Layout.{frame_size}
use Rattle.bc_core.specs.Map.{Map, Placed, placed, standing}
use Rattle.bc_core.specs.Store.{Cell, Unset, Set}
use Rattle.bc_core.specs.Outcome.{State, Outcome, Done, Run, Ending, Finished, wild, then_do, choose, in_turn, left}
use Rattle.bc_core.specs.Outcome as outcomes
use Rattle.bc_core.specs.Value.{Context, value}
use Rattle.bc_core.specs.Exit.{Exit, Past, Returned, Resulted}
use Rattle.bc_core.specs.Command.{perform_block}
use Rattle.bc_core.specs.Primitive.{Primitive, primitives, primitive_among, primitive_frame, primitive_work}
use Rattle.bc_core.specs.Start.{start_cells}

-- the value of a routine of BE is 0; only going past its end or RETURN can leave it
abbrev pub routine_value : Exit → Run ℕ
routine_value Past = Done 0
routine_value Returned = Done 0
routine_value _ = wild

-- the value of a VALOF is that of RESULTIS, or 0 if its body ends without one
abbrev pub valof_value : Exit → Run ℕ
valof_value Past = Done 0
valof_value (Resulted v) = Done v
valof_value _ = wild

-- what a call does: given the routine's value, the arguments, and the address of the new frame
abbrev pub Call : Type 0
Call = ℕ → List ℕ → ℕ → Run ℕ

-- the context of an expression, from its three components
abbrev pub context : (ℕ → ℕ) → Call → (ℕ → ℕ → ℕ → Run ℕ) → Context
context place call valof = record { place = place; call = call; valof = valof }

-- What the VALOFs of a section do, from the number `first` on: given a number, the frame and the level. A body
-- contains only VALOFs with greater numbers.
abbrev pub valofs_from : (ℕ → ℕ) → Call → ℕ → List Valof → ℕ → ℕ → ℕ → Run ℕ
valofs_from place call first [] n p s = wild
valofs_from place call first (v ∷ vs) n p s =
    let inner = valofs_from place call (first + 1) vs in
    elim (n == first) [
      | true ↦ then_do (perform_block (context place call inner) v.body p s) valof_value
      | false ↦ inner n p s
    ]

-- the context of the expressions of a section
abbrev pub context_in : Placed → Call → Context
context_in section call =
    context section.address call (valofs_from section.address call 0 section.core.valofs)

-- the value of a routine's body
abbrev pub body_value : Context → Body → (p s : ℕ) → Run ℕ
body_value C (Gives e) p s = value C e p s
body_value C (Does b) p s = then_do (perform_block C b p s) routine_value

-- n cells from the address a on receive arguments; a missing argument leaves its cell unset, extra arguments are
-- dropped
abbrev pub passed : ℕ → ℕ → List ℕ → List Cell → List Cell
passed zero a vs cells = cells
passed (suc n) a [] cells = passed n (a + 1) [] (slice_set cells a Unset)
passed (suc n) a (v ∷ vs) cells = passed n (a + 1) vs (slice_set cells a (Set v))

-- a run during which the cells of n parameters are live
abbrev pub with_arguments : ℕ → ℕ → List ℕ → Run ℕ → Run ℕ
with_arguments n a vs r st = left n a (r (record st { cells = passed n a vs st.cells }))

-- A call with its frame at f. If the frame would pass the address 65,535 the call is wild; otherwise it takes a turn.
abbrev pub in_frame : ℕ → ℕ → Run ℕ → Run ℕ
in_frame f size r = choose (nat_le (f + size) 65536) (in_turn r) wild

-- what a call can reach: a routine of a section, or a primitive
pub data Callee : Type 0 where
  OfSection : Placed → Routine → Callee
  OfLibrary : Primitive → Callee

-- the routine at the address a among places, the first of which has this label
abbrev pub callee_among : Placed → (label : ℕ) → List Place → ℕ → Option Callee
callee_among section label [] a = None
callee_among section label (Code r ∷ places) a =
    elim (section.address label == a) [ true ↦ Some (OfSection section r) | false ↦ callee_among section (label + 1) places a ]
callee_among section label (place ∷ places) a = callee_among section (label + 1) places a

-- a primitive as such
abbrev pub of_library : Option Primitive → Option Callee
of_library None = None
of_library (Some primitive) = Some (OfLibrary primitive)

-- the first one, if there is one, else the second
abbrev pub or_else : Option Callee → Option Callee → Option Callee
or_else (Some callee) other = Some callee
or_else None other = other

-- the routine or primitive at the address a, if there is one
abbrev pub callee : List Placed → ℕ → Option Callee
callee [] a = of_library (primitive_among primitives a)
callee (section ∷ sections) a = or_else (callee_among section 1 section.core.places a) (callee sections a)

-- what a call enters: the number of parameters, the cells of the frame, and what the body does in a frame
pub record Entered : Type 0 where
  pub parameters : ℕ
  pub frame : ℕ
  pub body : Call → ℕ → Run ℕ

-- a call of what was found at an address; if nothing was found, the call is wild
abbrev pub entered : Call → Option Entered → List ℕ → ℕ → Run ℕ
entered call None vs f = wild
entered call (Some e) vs f = in_frame f e.frame (with_arguments e.parameters (f + 2) vs (e.body call f))

-- Calls that nest at most n deep. `run_of` gives one more than the remaining turns, and each call takes a turn. So n
-- never runs out before the turns do.
abbrev pub calls_over : (find : ℕ → Option Entered) → ℕ → Call
calls_over find zero a vs f st = outcomes.Going st.streams
calls_over find (suc n) a vs f st = entered (calls_over find n) (find a) vs f st

-- what a call of a routine or a primitive enters
abbrev pub entered_of : Option Callee → Option Entered
entered_of None = None
entered_of (Some (OfSection section r)) = Some (record {
  parameters = r.parameters;
  frame = frame_size section.core.valofs r;
  body = λ call f. body_value (context_in section call) r.body f (level_after_parameters r.parameters);
})
entered_of (Some (OfLibrary primitive)) =
    Some (record { parameters = 1; frame = primitive_frame; body = λ call f. primitive_work primitive f })

-- what a call of the address a enters, if anything
abbrev pub entered_at : List Placed → ℕ → Option Entered
entered_at program a = entered_of (callee program a)

-- the calls of a program, at most n deep
abbrev pub calls : List Placed → ℕ → Call
calls program n = calls_over (entered_at program) n

-- The result of a run: it ended, with this output and ending; or it would go on, and has this output up to here; or
-- it met a wild cell.
pub data Result : Type 0 where
  Ended : List (List ℕ) → Ending → Result
  Going : List (List ℕ) → Result
  Wild : Result

-- the result of an outcome; a run whose START returns has finished
abbrev pub result_of : {A : Type 0} → Outcome A → Result
result_of (Done x st) = Ended (output_of st.streams) Finished
result_of (outcomes.Ended e streams) = Ended (output_of streams) e
result_of (outcomes.Going streams) = Going (output_of streams)
result_of outcomes.Wild = Wild

-- The whole run: it calls the routine in global 1, at the address 9, with its frame two cells above the stack base.
abbrev pub run_of : (find : ℕ → Option Entered) → ℕ → Run ℕ
run_of find stack_base st =
    then_do (outcomes.read 9) (λ start. calls_over find (suc st.turns) start [] (stack_base + 2)) st

-- the result in n turns, over the cells and streams when the run begins
abbrev pub meaning_over : List Cell → (find : ℕ → Option Entered) → ℕ → Content → ℕ → Result
meaning_over cells find stack_base streams n =
    result_of (run_of find stack_base (record { cells = cells; streams = streams; turns = n }))

-- The meaning of sections in n turns, where a map says which addresses their places have, over the streams that are
-- given.
abbrev pub meaning : List Core → Map → Content → ℕ → Result
meaning cores map streams n =
    let program = placed cores map.places in
    meaning_over (start_cells (standing program)) (entered_at program) map.stack_base streams n
