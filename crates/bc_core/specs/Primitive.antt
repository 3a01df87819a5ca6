-- The primitives: routines that every program is linked with, which work on streams.
use Rattle.std.specs.Prelude.{ℕ, zero, suc, ◌+◌, ◌/◌, ◌%◌, ◌==◌, cond, List, [], ◌∷◌, true, false, Option, Some, None}
use Rattle.bc_machine_defs.specs.declared.streams.Side.{Side}
use Rattle.bc_machine_defs.specs.declared.streams.Side.TheVariants.{Input, Output}
use Rattle.bc_machine_defs.specs.Streams.{Content}
use Rattle.bc_machine_defs.specs.StreamCalls.{find_stream, select_stream, read_byte, after_read, after_write, end_stream}
use Rattle.bc_machine_defs.specs.Execute.{byte_or_end}
use Rattle.bc_core.specs.Outcome.{Done, Run, then_do, read}

-- what a primitive does: select a stream, read or write a byte, find a stream, or end the selected one
pub data Primitive : Type 0 where
  Select : Side → Primitive
  ReadByte : Primitive
  WriteByte : Primitive
  Find : Side → Primitive
  EndStream : Side → Primitive

-- a primitive with the global that names it and the address of its code, which is the same in every image
pub record Known : Type 0 where
  pub global : ℕ
  pub address : ℕ
  pub primitive : Primitive

-- such a primitive, from its components
abbrev pub known : ℕ → ℕ → Primitive → Known
known global address primitive = record { global = global; address = address; primitive = primitive }

-- SELECTINPUT, SELECTOUTPUT, RDCH, WRCH, FINDINPUT, FINDOUTPUT, ENDREAD and ENDWRITE
abbrev pub primitives : List Known
primitives =
    known 11 520 (Select Input) ∷ known 12 524 (Select Output) ∷ known 13 528 ReadByte ∷ known 14 530 WriteByte
    ∷ known 15 534 (Find Input) ∷ known 16 537 (Find Output) ∷ known 17 540 (EndStream Input) ∷ known 18 543 (EndStream Output) ∷ []

-- the code of the primitives begins at 520
abbrev pub first_primitive_word : ℕ
first_primitive_word = 520

-- and has 26 words
abbrev pub primitive_words : ℕ
primitive_words = 26

-- the primitive at the address a, if there is one
abbrev pub primitive_among : List Known → ℕ → Option Primitive
primitive_among [] a = None
primitive_among (k ∷ ks) a = elim (k.address == a) [ true ↦ Some k.primitive | false ↦ primitive_among ks a ]

-- the address of the primitive for a global, if there is one
abbrev pub address_among : List Known → ℕ → Option ℕ
address_among [] global = None
address_among (k ∷ ks) global = elim (k.global == global) [ true ↦ Some k.address | false ↦ address_among ks global ]

-- byte k of the string at an address; its words are read like any others
abbrev pub byte_of_string : ℕ → ℕ → Run ℕ
byte_of_string address k =
    then_do (read ((address + k / 2) % 65536)) (λ word. Done (cond (k % 2 == 0) (word / 256) (word % 256)))

-- n bytes of the string at an address, from byte k on
abbrev pub bytes_of_string : ℕ → ℕ → ℕ → Run (List ℕ)
bytes_of_string zero k address = Done []
bytes_of_string (suc n) k address =
    then_do (byte_of_string address k) (λ byte. then_do (bytes_of_string n (k + 1) address) (λ bytes. Done (byte ∷ bytes)))

-- the bytes of the string at an address: byte 0 is its length
abbrev pub string_of : ℕ → Run (List ℕ)
string_of address = then_do (byte_of_string address 0) (λ n. bytes_of_string n 1 address)

-- the streams change, and the value is v
abbrev pub on_streams : (Content → Content) → ℕ → Run ℕ
on_streams change v st = Done v (record st { streams = change st.streams })

-- reads the next byte of the selected input
abbrev pub read_next : Run ℕ
read_next st = on_streams after_read (byte_or_end (read_byte st.streams)) st

-- the frame of a primitive has cells for the links and one argument
abbrev pub primitive_frame : ℕ
primitive_frame = 3

-- what a primitive does in the frame at f; its argument is at f + 2
abbrev pub primitive_work : Primitive → ℕ → Run ℕ
primitive_work (Select side) f = then_do (read (f + 2)) (λ n. on_streams (select_stream side n) 0)
primitive_work ReadByte f = read_next
primitive_work WriteByte f = then_do (read (f + 2)) (λ w. on_streams (after_write (w % 256)) 0)
primitive_work (Find side) f =
    then_do (read (f + 2)) (λ address. then_do (string_of address) (λ name st. Done (find_stream side name st.streams) st))
primitive_work (EndStream side) f = on_streams (end_stream side) 0
