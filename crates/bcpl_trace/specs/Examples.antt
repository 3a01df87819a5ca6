-- Worked examples of what an instruction writes. Beside each yes there is a no.
use Rattle.std.specs.Prelude.{ℕ, ◌≡◌, ◌≢◌, List, [], ◌∷◌, None}
use Rattle.std.proofs.Common.{refl, ap}
use Rattle.bc_machine_defs.specs.StreamStart.{start_streams}
use Rattle.bc_machine_defs.specs.StreamCalls.{select_stream, after_write, end_stream}
use Rattle.bc_machine_defs.specs.Streams.{Content}
use Rattle.bc_machine_defs.specs.declared.streams.Side.TheVariants as sides
use Rattle.bc_machine_defs.specs.State.{State}
use Rattle.bc_machine.specs.Ran.{Held, held_state}
use Rattle.bcpl_trace.specs.declared.change.Change.TheVariants.{Nothing, Cell, Links, Byte}
use Rattle.bcpl_trace.specs.Changes.{written_at, Wrote}

-- a machine before the first of these words: A is 321, B is 7, P is 3
abbrev before : List ℕ → Held
before words = record { registers = record { a = 321; b = 7; c = 0; p = 3 }; store = words; ended = None }

-- `S4`
store_writes_its_cell : written_at (before (8196 ∷ 0 ∷ [])) ≡ Cell 4
store_writes_its_cell = refl

store_writes_no_links : written_at (before (8196 ∷ 0 ∷ [])) ≢ Links 4
store_writes_no_links h = let e : Cell 4 ≡ Links 4 = h in cc

store_writes_no_other_cell : written_at (before (8196 ∷ 0 ∷ [])) ≢ Cell 5
store_writes_no_other_cell h = let e : Cell 4 ≡ Cell 5 = h in cc

-- `SI1`, where cell 1 has 9
store_by_a_cell : written_at (before (12289 ∷ 9 ∷ [])) ≡ Cell 9
store_by_a_cell = refl

store_by_a_cell_keeps_it : written_at (before (12289 ∷ 9 ∷ [])) ≢ Cell 1
store_by_a_cell_keeps_it h = let e : Cell 9 ≡ Cell 1 = h in cc

-- `K5`
call_writes_links : written_at (before (49157 ∷ [])) ≡ Links 8
call_writes_links = refl

call_is_from_the_frame : written_at (before (49157 ∷ [])) ≢ Links 5
call_is_from_the_frame h = let e : Links 8 ≡ Links 5 = h in cc

-- `L4`
load_writes_nothing : written_at (before (4 ∷ [])) ≡ Nothing
load_writes_nothing = refl

load_writes_no_cell : written_at (before (4 ∷ [])) ≢ Cell 0
load_writes_no_cell h = let e : Nothing ≡ Cell 0 = h in cc

-- `X27`, the low byte of A
write_writes_a_byte : written_at (before (57371 ∷ [])) ≡ Byte 65
write_writes_a_byte = refl

write_is_not_nothing : written_at (before (57371 ∷ [])) ≢ Nothing
write_is_not_nothing h = let e : Byte 65 ≡ Nothing = h in cc

-- `X26`
read_writes_nothing : written_at (before (57370 ∷ [])) ≡ Nothing
read_writes_nothing = refl

read_writes_no_byte : written_at (before (57370 ∷ [])) ≢ Byte 65
read_writes_no_byte h = let e : Nothing ≡ Byte 65 = h in cc

-- ---- The state after it

-- an output O, selected
abbrev selected : Content
selected = select_stream sides.Output 1 (start_streams [] ((79 ∷ []) ∷ []))

-- the same machine with these streams, as before an instruction, or after it with another store
abbrev at : List ℕ → Content → State
at words streams = held_state (before words) streams

-- `S1`
stored : Wrote (Cell 1) (at (8193 ∷ 5 ∷ 6 ∷ []) selected) (at (8193 ∷ 321 ∷ 6 ∷ []) selected)
stored = (refl, refl)

stored_beside : Wrote (Cell 1) (at (8193 ∷ 5 ∷ 6 ∷ []) selected) (at (8193 ∷ 321 ∷ 0 ∷ []) selected) → ⊥
stored_beside h = absurd (let e : 8193 ∷ 321 ∷ 0 ∷ [] ≡ 8193 ∷ 321 ∷ 6 ∷ [] = h.0 in cc)

-- a store isn't nothing
stored_nothing : Wrote Nothing (at (8193 ∷ 5 ∷ 6 ∷ []) selected) (at (8193 ∷ 321 ∷ 6 ∷ []) selected) → ⊥
stored_nothing h = absurd (let e : 8193 ∷ 321 ∷ 6 ∷ [] ≡ 8193 ∷ 5 ∷ 6 ∷ [] = h.0 in cc)

-- `K65535` in the long form, so the frame is at 2
linked : Wrote (Links 2) (at (49664 ∷ 65535 ∷ 0 ∷ 0 ∷ []) selected) (at (49664 ∷ 65535 ∷ 3 ∷ 2 ∷ []) selected)
linked = (refl, refl)

linked_one : Wrote (Cell 2) (at (49664 ∷ 65535 ∷ 0 ∷ 0 ∷ []) selected) (at (49664 ∷ 65535 ∷ 3 ∷ 2 ∷ []) selected) → ⊥
linked_one h = absurd (let e : 49664 ∷ 65535 ∷ 3 ∷ 2 ∷ [] ≡ 49664 ∷ 65535 ∷ 321 ∷ 0 ∷ [] = h.0 in cc)

wrote : Wrote (Byte 65) (at (57371 ∷ []) selected) (at (57371 ∷ []) (after_write 65 selected))
wrote = (refl, refl)

-- a byte that is written isn't nothing
wrote_nothing : Wrote Nothing (at (57371 ∷ []) selected) (at (57371 ∷ []) (after_write 65 selected)) → ⊥
wrote_nothing h = absurd (let e : (65 ∷ []) ∷ [] ≡ [] ∷ [] = h.1 in cc)

-- an output that is ended is given nothing, and it isn't a byte
ended : Wrote Nothing (at (57378 ∷ []) selected) (at (57378 ∷ []) (end_stream sides.Output selected))
ended = (refl, refl)

ended_byte : Wrote (Byte 65) (at (57378 ∷ []) selected) (at (57378 ∷ []) (end_stream sides.Output selected)) → ⊥
ended_byte h = absurd (let e : 0 ≡ 1 = ap (λ (c : Content). c.output) h.1 in cc)
