-- Statements of what the routines of BLIB do in every program that has BLIB as its first section.
use Rattle.std.specs.Prelude.{ℕ, suc, ◌≡◌, ◌+◌, ◌*◌, ◌/◌, ◌%◌, ◌<◌, ◌≤◌, ◌==◌, ◌≢◌, cond, List, [], ◌∷◌, ◌++◌, length, slice_set, ℤ, pos, negsuc, Some}
use Rattle.std.specs.Fmt.{decimal, signed_decimal}
use Rattle.bc_word.specs.Words.{signed}
use Rattle.bc_machine_defs.specs.Streams.{Content}
use Rattle.bc_machine_defs.specs.StreamCalls.{after_write, output_of}
use Rattle.bc_core.specs.Tree.{Num}
use Rattle.bc_core.specs.Commands.{Core, Code, Does}
use Rattle.bc_core.specs.Commands as commands_of
use Rattle.bc_core.specs.Map.{IsMap, placed}
use Rattle.bc_core.specs.Store.{Cell, Set, cell_at}
use Rattle.bc_core.specs.Outcome.{State, Done, Finished}
use Rattle.bc_core.specs.Laws.{DeadFrom}
use Rattle.bc_core.specs.Meaning.{Ended, calls, meaning}
use Rattle.bc_library_laws.specs.Library.{library, commands, calling}

-- the streams after these bytes were written, in order, to the selected output
abbrev pub after_writes : List ℕ → Content → Content
after_writes [] streams = streams
after_writes (byte ∷ bytes) streams = after_writes bytes (after_write byte streams)

-- the state of a run with these cells, streams and remaining turns
abbrev pub state : List Cell → Content → ℕ → State
state cells streams turns = record { cells = cells; streams = streams; turns = turns }

-- a routine of the library can be called with its frame at f: no cell from f on is live, there is room for this number of cells from f
-- on, and the globals that the library reads still have their first values
pub record Ready (address : ℕ → ℕ) (cells : List Cell) (f most : ℕ) : Type 0 where
  pub whole : length cells ≡ 65536
  pub free : DeadFrom f cells
  pub room : f + most ≤ 65536
  pub write_char : cell_at cells 22 ≡ Set 530
  pub get_byte : cell_at cells 28 ≡ Set (address 1)
  pub write_s : cell_at cells 30 ≡ Set (address 3)
  pub write_n : cell_at cells 31 ≡ Set (address 5)

-- In this program: call the routine with this label and these arguments, in a store of which `Given` holds, in a frame with this room, with
-- at least these turns left. The call returns this value. The store is changed by `change` and in nothing else, these bytes are written to
-- the selected output, and exactly these turns are used.
abbrev pub CallIn : (cores : List Core) → (address : ℕ → ℕ) → (places : List (ℕ → ℕ)) → (label : ℕ) → (arguments : List ℕ)
    → (room turns : ℕ) → (Given : List Cell → Type 0) → (value : ℕ) → (change : List Cell → List Cell) → (bytes : List ℕ) → Type 0
CallIn cores address places label arguments room turns Given value change bytes =
    (cells : List Cell) (streams : Content) (f n t : ℕ) → Ready address cells f room → Given cells
    → calls (placed cores (address ∷ places)) (turns + n) (address label) arguments f (state cells streams (turns + t))
    ≡ Done value (state (change cells) (after_writes bytes streams) t)

-- the same in every program of the library and other sections, under every map of it
abbrev pub Call : (label : ℕ) → (arguments : List ℕ) → (room turns : ℕ) → (Given : List Cell → Type 0)
    → (value : ℕ) → (change : List Cell → List Cell) → (bytes : List ℕ) → Type 0
Call label arguments room turns Given value change bytes =
    (cores : List Core) (address : ℕ → ℕ) (places : List (ℕ → ℕ)) (base : ℕ)
    → IsMap (library ∷ cores) (record { places = address ∷ places; stack_base = base })
    → CallIn (library ∷ cores) address places label arguments room turns Given value change bytes

-- nothing is required of the store
abbrev pub anything : List Cell → Type 0
anything cells = Unit {0}

-- the store isn't changed
abbrev pub unchanged : List Cell → List Cell
unchanged cells = cells

-- the cell at s + i / 2 has this word
abbrev pub IsWordOf : (s i word : ℕ) → List Cell → Type 0
IsWordOf s i word cells = cell_at cells ((s + i / 2) % 65536) ≡ Set word

-- the turns of WRITEN: two for each digit, and one for a sign
abbrev pub turns_of : ℤ → ℕ
turns_of (pos n) = 2 * length (decimal n)
turns_of (negsuc n) = 1 + 2 * length (decimal (suc n))

-- byte i, from the word in which it is packed: the high byte if i is even, else the low byte
abbrev pub byte_in : ℕ → ℕ → ℕ
byte_in i word = cond (i % 2 == 0) (word / 256) (word % 256)

-- the word with its byte i replaced by this byte
abbrev pub with_byte : (i byte word : ℕ) → ℕ
with_byte i byte word = cond (i % 2 == 0) (byte * 256 + word % 256) (word / 256 * 256 + byte)

-- these bytes are packed at s, from byte i on
abbrev pub HoldsBytes : List Cell → (s i : ℕ) → List ℕ → Type 0
HoldsBytes cells s i [] = Unit {0}
HoldsBytes cells s i (byte ∷ bytes) =
    ((word : ℕ) × (cell_at cells ((s + i / 2) % 65536) ≡ Set word) × (byte_in i word ≡ byte) × (byte < 256)) × HoldsBytes cells s (i + 1) bytes

-- a string of these bytes is at s: byte 0 is their number
abbrev pub HoldsString : List Cell → (s : ℕ) → List ℕ → Type 0
HoldsString cells s bytes = HoldsBytes cells s 0 (length bytes ∷ bytes)

-- A piece of a format: a plain byte; `%N`, `%S` and `%C` with the word that they take (and the bytes of the string); `%` with another
-- byte; and a `%` at the end.
pub data Piece : Type 0 where
  Plain : ℕ → Piece
  OfNumber : ℕ → Piece
  OfString : ℕ → List ℕ → Piece
  OfCharacter : ℕ → Piece
  Escaped : ℕ → Piece
  Lone : Piece

-- the bytes of the format with these pieces
abbrev pub format_of : List Piece → List ℕ
format_of [] = []
format_of (Plain byte ∷ pieces) = byte ∷ format_of pieces
format_of (OfNumber w ∷ pieces) = 37 ∷ 78 ∷ format_of pieces
format_of (OfString s bytes ∷ pieces) = 37 ∷ 83 ∷ format_of pieces
format_of (OfCharacter w ∷ pieces) = 37 ∷ 67 ∷ format_of pieces
format_of (Escaped byte ∷ pieces) = 37 ∷ byte ∷ format_of pieces
format_of (Lone ∷ pieces) = 37 ∷ format_of pieces

-- the words that these pieces take, in order
abbrev pub taken_by : List Piece → List ℕ
taken_by [] = []
taken_by (Plain byte ∷ pieces) = taken_by pieces
taken_by (OfNumber w ∷ pieces) = w ∷ taken_by pieces
taken_by (OfString s bytes ∷ pieces) = s ∷ taken_by pieces
taken_by (OfCharacter w ∷ pieces) = w ∷ taken_by pieces
taken_by (Escaped byte ∷ pieces) = taken_by pieces
taken_by (Lone ∷ pieces) = taken_by pieces

-- the bytes that these pieces write
abbrev pub written_by : List Piece → List ℕ
written_by [] = []
written_by (Plain byte ∷ pieces) = byte ∷ written_by pieces
written_by (OfNumber w ∷ pieces) = signed_decimal (signed w) ++ written_by pieces
written_by (OfString s bytes ∷ pieces) = bytes ++ written_by pieces
written_by (OfCharacter w ∷ pieces) = w % 256 ∷ written_by pieces
written_by (Escaped byte ∷ pieces) = byte ∷ written_by pieces
written_by (Lone ∷ pieces) = 37 ∷ written_by pieces

-- the turns that these pieces use
abbrev pub turns_by : List Piece → ℕ
turns_by [] = 0
turns_by (Plain byte ∷ pieces) = 3 + turns_by pieces
turns_by (OfNumber w ∷ pieces) = 2 + (turns_of (signed w) + (1 + turns_by pieces))
turns_by (OfString s bytes ∷ pieces) = 2 + ((2 + 3 * length bytes) + (1 + turns_by pieces))
turns_by (OfCharacter w ∷ pieces) = 4 + turns_by pieces
turns_by (Escaped byte ∷ pieces) = 5 + turns_by pieces
turns_by (Lone ∷ pieces) = 3 + turns_by pieces

-- the pieces are well formed: a plain byte isn't `%`, a word has 16 bits, a string is where its word says, an escaped byte is none of N,
-- S and C, and only the last piece is a lone `%`
abbrev pub ArePieces : List Cell → List Piece → Type 0
ArePieces cells [] = Unit {0}
ArePieces cells (Plain byte ∷ pieces) = (byte ≢ 37) × ArePieces cells pieces
ArePieces cells (OfNumber w ∷ pieces) = (w < 65536) × ArePieces cells pieces
ArePieces cells (OfString s bytes ∷ pieces) = HoldsString cells s bytes × ArePieces cells pieces
ArePieces cells (OfCharacter w ∷ pieces) = ArePieces cells pieces
ArePieces cells (Escaped byte ∷ pieces) = ((byte ≢ 78) × (byte ≢ 83) × (byte ≢ 67)) × ArePieces cells pieces
ArePieces cells (Lone ∷ pieces) = (length (format_of pieces) ≡ 0) × ArePieces cells pieces

-- GETBYTE returns byte i of the bytes packed at s, if the word with that byte is set
abbrev pub GetbyteGivesItsByte : Type 0
GetbyteGivesItsByte = (s i word : ℕ) → Call 1 (s ∷ i ∷ []) 8 1 (IsWordOf s i word) (byte_in i word) unchanged []

-- PUTBYTE sets byte i of the bytes packed at s to the low byte of c, if the word with that byte is set, and changes no other byte
abbrev pub PutbyteSetsItsByte : Type 0
PutbyteSetsItsByte =
    (s i c word : ℕ) → word < 65536
    → Call 2 (s ∷ i ∷ c ∷ []) 11 1 (IsWordOf s i word) 0 (λ cells. slice_set cells ((s + i / 2) % 65536) (Set (with_byte i (c % 256) word))) []

-- WRITES writes the bytes of the string at s
abbrev pub WritesWritesItsString : Type 0
WritesWritesItsString =
    (s : ℕ) (bytes : List ℕ) → Call 3 (s ∷ []) 15 (2 + 3 * length bytes) (λ cells. HoldsString cells s bytes) 0 unchanged bytes

-- NEWLINE writes the byte 10
abbrev pub NewlineWritesALineBreak : Type 0
NewlineWritesALineBreak = Call 4 [] 8 2 anything 0 unchanged (10 ∷ [])

-- WRITEN writes the word as a signed number in decimal
abbrev pub WritenWritesItsNumber : Type 0
WritenWritesItsNumber = (w : ℕ) → w < 65536 → Call 5 (w ∷ []) 20 (turns_of (signed w)) anything 0 unchanged (signed_decimal (signed w))

-- WRITEF writes the pieces of its format, which take their words from the further arguments, at most four
abbrev pub WritefWritesItsPieces : Type 0
WritefWritesItsPieces =
    (s : ℕ) (pieces : List Piece) (more : List ℕ) → length (taken_by pieces) ≤ 4
    → Call 6 (s ∷ (taken_by pieces ++ more)) 37 (2 + turns_by pieces)
    (λ cells. HoldsString cells s (format_of pieces) × ArePieces cells pieces) 0 unchanged (written_by pieces)

-- the section START() BE WRITEN(w)
abbrev pub start : ℕ → Core
start w = record { places = Code (record { global = Some 1; parameters = 0; body = Does (commands (commands_of.Call (calling 23 (Num w ∷ [])) ∷ [])) }) ∷ []; valofs = [] }

-- for every word, every map that leaves room for the stack, all inputs and every sufficient number of turns: the program prints the
-- number and finishes
abbrev pub AProgramPrintsItsNumber : Type 0
AProgramPrintsItsNumber =
    (w : ℕ) → w < 65536 → (address other : ℕ → ℕ) (base : ℕ)
    → IsMap (library ∷ start w ∷ []) (record { places = address ∷ other ∷ []; stack_base = base })
    → base + 24 ≤ 65536 → (streams : Content) (n : ℕ)
    → meaning (library ∷ start w ∷ []) (record { places = address ∷ other ∷ []; stack_base = base }) streams (suc (turns_of (signed w) + n))
    ≡ Ended (output_of (after_writes (signed_decimal (signed w)) streams)) Finished
