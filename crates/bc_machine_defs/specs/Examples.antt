-- Worked examples of the machine.
use Rattle.std.specs.Prelude.{ℕ, ◌≡◌, List, [], ◌∷◌, Some, None}
use Rattle.std.proofs.Common.{refl}
use Rattle.bc_machine_defs.specs.declared.state.End.TheVariants.{Finished, BudgetSpent, ZeroDivide, BadInstruction}
use Rattle.bc_machine_defs.specs.declared.streams.Side.TheVariants as sides
use Rattle.bc_machine_defs.specs.StreamStart.{start_streams}
use Rattle.bc_machine_defs.specs.StreamCalls.{find_stream, select_stream, read_byte, after_read, after_write, end_stream, output_of}
use Rattle.bc_machine_defs.specs.Streams.{Content}
use Rattle.bc_machine_defs.specs.State.{State, start}
use Rattle.bc_machine_defs.specs.Text.{bytes_from, string_at}
use Rattle.bc_machine_defs.specs.Switch.{case_of, switch_of}
use Rattle.bc_machine_defs.specs.Step.{step}
use Rattle.bc_machine_defs.specs.Run.{runs}

-- one input A that holds the bytes 1 and 2, and an output O
abbrev small : Content
small = start_streams ((65 ∷ [], 1 ∷ 2 ∷ []) ∷ []) ((79 ∷ []) ∷ [])

found : find_stream sides.Input (65 ∷ []) small ≡ 1
found = refl

not_found : find_stream sides.Input (66 ∷ []) small ≡ 0
not_found = refl

reads_on : read_byte (after_read small) ≡ Some 2
reads_on = refl

reads_end : read_byte (after_read (after_read small)) ≡ None
reads_end = refl

-- an ended input can still be found and selected, but gives no byte
ended_reads_nothing : read_byte (select_stream sides.Input 1 (end_stream sides.Input small)) ≡ None
ended_reads_nothing = refl

-- a byte written after an end is dropped
writes : output_of (after_write 8 (select_stream sides.Output 1 (end_stream sides.Output (after_write 7 small)))) ≡ (7 ∷ []) ∷ []
writes = refl

-- `LIG1 K2 X22`, and at address 10 the routine of global 1: `L65 X27 X4`
abbrev prints_A : List ℕ
prints_A = 5121 ∷ 49154 ∷ 57366 ∷ 0 ∷ 0 ∷ 0 ∷ 0 ∷ 0 ∷ 0 ∷ 10 ∷ 65 ∷ 57371 ∷ 57348 ∷ 0 ∷ 0 ∷ 0 ∷ 0 ∷ 0 ∷ 0 ∷ []

started : State
started = start prints_A 14 small

finishes : (runs 6 started).1 ≡ Finished
unfolding runs step started
finishes = refl

printed : output_of (runs 6 started).0.streams ≡ (65 ∷ []) ∷ []
unfolding runs step started
printed = refl

one_less : (runs 5 started).1 ≡ BudgetSpent
unfolding runs step started
one_less = refl

-- `L0 X6` divides by 0, and the division changes nothing
divides : runs 9 (start (0 ∷ 57350 ∷ []) 2 small) ≡ (
  record { registers = record { a = 0; b = 0; c = 1; p = 2 }; store = 0 ∷ 57350 ∷ []; streams = small },
  ZeroDivide,
)
unfolding runs step
divides = refl

-- `X30` isn't an operation
bad : (runs 1 (start (57374 ∷ []) 1 small)).1 ≡ BadInstruction 0
unfolding runs step
bad = refl

-- the string "AB" is 577 16896
string_AB : string_at 0 (577 ∷ 16896 ∷ []) ≡ 65 ∷ 66 ∷ []
unfolding bytes_from
string_AB = refl

-- the table of a switch with the pairs 1 40 and 2 50 and the default 30
switch_fits : switch_of 0 2 (2 ∷ 30 ∷ 1 ∷ 40 ∷ 2 ∷ 50 ∷ []) ≡ 50
unfolding case_of
switch_fits = refl

switch_default : switch_of 0 9 (2 ∷ 30 ∷ 1 ∷ 40 ∷ 2 ∷ 50 ∷ []) ≡ 30
unfolding case_of
switch_default = refl
