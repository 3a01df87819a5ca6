-- Statements of what routines of EXTLIB do in every program that has BLIB and EXTLIB as its first two sections.
use Rattle.std.specs.Prelude.{ℕ, zero, suc, ◌≡◌, ◌≢◌, ◌+◌, ◌*◌, ◌/◌, ◌%◌, ◌<◌, ◌≤◌, ◌^◌, nat_le, nat_lt, ◌==◌, ◌&&◌, ◌-◌, cond, true, List, [], ◌∷◌, ◌++◌, length, map, slice_set, ℤ, pos, negsuc}
use Rattle.std.specs.Fmt.{decimal, signed_decimal}
use Rattle.bc_word.specs.Words.{signed}
use Rattle.bc_machine_defs.specs.Streams.{Content}
use Rattle.bc_core.specs.Commands.{Core}
use Rattle.bc_core.specs.Words.{string_words}
use Rattle.bc_core.specs.Map.{IsMap, placed}
use Rattle.bc_core.specs.Store.{Cell, Set, cell_at}
use Rattle.bc_core.specs.Outcome.{Done}
use Rattle.bc_core.specs.Laws.{is_live}
use Rattle.bc_core.specs.Meaning.{calls}
use Rattle.bc_library_laws.specs.Library.{library}
use Rattle.bc_library_laws.specs.Laws.{state, Ready, HoldsString, after_writes, anything, unchanged}
use Rattle.bc_library_laws.specs.extension.Extension.{extension}

-- a routine of EXTLIB can be called with its frame at f: a routine of BLIB can, and PUTBYTE and CAPITALCH have their first values
pub record Able (address further : ℕ → ℕ) (cells : List Cell) (f most : ℕ) : Type 0 where
  pub ready : Ready address cells f most
  pub put_byte : cell_at cells 29 ≡ Set (address 2)
  pub capital_ch : cell_at cells 57 ≡ Set (further 32)

-- In every program of BLIB, EXTLIB and other sections, under every map of it: call the routine of EXTLIB with this label and these
-- arguments, in a store of which `Given` holds, in a frame with this room, with at least these turns left. The call returns this value.
-- The store is changed by `change` and in nothing else, these bytes are written to the selected output, and exactly these turns are used.
abbrev pub Call : (label : ℕ) → (arguments : List ℕ) → (room turns : ℕ) → (Given : List Cell → Type 0)
    → (value : ℕ) → (change : List Cell → List Cell) → (bytes : List ℕ) → Type 0
Call label arguments room turns Given value change bytes =
    (cores : List Core) (address further : ℕ → ℕ) (places : List (ℕ → ℕ)) (base : ℕ)
    → IsMap (library ∷ extension ∷ cores) (record { places = address ∷ further ∷ places; stack_base = base })
    → (cells : List Cell) (streams : Content) (f n t : ℕ) → Able address further cells f room → Given cells
    → calls (placed (library ∷ extension ∷ cores) (address ∷ further ∷ places)) (turns + n) (further label) arguments f (state cells streams (turns + t))
    ≡ Done value (state (change cells) (after_writes bytes streams) t)

-- the n cells from v on are live, and above the globals
abbrev pub IsVector : List Cell → (v n : ℕ) → Type 0
IsVector cells v n = (520 ≤ v) × ((k : ℕ) → k < n → is_live (cell_at cells (v + k)) ≡ true)

-- the bytes 0 to n - 1 of what is packed at s are in none of the m cells from v on
abbrev pub IsApart : (s n v m : ℕ) → Type 0
IsApart s n v m = (i k : ℕ) → i < n → k < m → (s + i / 2) % 65536 ≢ v + k

-- the store with these cells from the address a on
abbrev pub laid : ℕ → List Cell → List Cell → List Cell
laid a [] cells = cells
laid a (k ∷ ks) cells = laid (a + 1) ks (slice_set cells a k)

-- the store with these words in the cells from v on
abbrev pub with_words : (v : ℕ) → List ℕ → List Cell → List Cell
with_words v words cells = laid v (map (λ w. Set w) words) cells

-- these words are in the cells from v on
abbrev pub HoldsWords : List Cell → (v : ℕ) → List ℕ → Type 0
HoldsWords cells v [] = Unit {0}
HoldsWords cells v (word ∷ words) = (cell_at cells v ≡ Set word) × HoldsWords cells (v + 1) words

-- UNPACKSTRING sets the cells of a vector to the length and the bytes of the string at s. The vector has a cell for each, and the string
-- is in none of them.
abbrev pub UnpackstringUnpacksItsString : Type 0
UnpackstringUnpacksItsString =
    (s v : ℕ) (bytes : List ℕ)
    → Call 36 (s ∷ v ∷ []) 15 (4 + 2 * length bytes)
    (λ cells. HoldsString cells s bytes × IsVector cells v (1 + length bytes) × IsApart s (1 + length bytes) v (1 + length bytes))
    0 (λ cells. with_words v (length bytes ∷ bytes) cells) []

-- the last digits of n, this many, each of so many bits, the highest first
abbrev pub last_digits : (bits count n : ℕ) → List ℕ
last_digits bits zero n = []
last_digits bits (suc i) n = n / 2 ^ (bits * i) % 2 ^ bits ∷ last_digits bits i n

-- the character of a hexadecimal digit: 0 to 9, A to F
abbrev pub hex_character : ℕ → ℕ
hex_character d = cond (nat_lt d 10) (48 + d) (55 + d)

-- a word as a number that isn't negative: 0 in place of a negative one
abbrev pub not_negative : ℕ → ℕ
not_negative word = cond (nat_lt word 32768) word 0

-- WRITEOCT writes the last digits of a word in octal, as many as it is asked for, at most 21,846; none for a negative count but -32,768
abbrev pub WriteoctWritesItsDigits : Type 0
WriteoctWritesItsDigits =
    (w count : ℕ) → w < 65536 → count < 65536 → count ≢ 32768 → not_negative count ≤ 21846
    → Call 27 (w ∷ count ∷ []) 13 (1 + 2 * not_negative count) anything 0 unchanged (map (λ d. 48 + d) (last_digits 3 (not_negative count) w))

-- WRITEHEX writes the last digits of a word in hexadecimal, as many as it is asked for, at most 16,384; none for a negative count but
-- -32,768
abbrev pub WritehexWritesItsDigits : Type 0
WritehexWritesItsDigits =
    (w count : ℕ) → w < 65536 → count < 65536 → count ≢ 32768 → not_negative count ≤ 16384
    → Call 29 (w ∷ count ∷ []) 12 (1 + 2 * not_negative count) anything 0 unchanged (map hex_character (last_digits 4 (not_negative count) w))

-- a character, as a capital letter if it is a small one
abbrev pub capital : ℕ → ℕ
capital c = cond (nat_le 97 c && nat_le c 122) (c - 32) c

-- -1, 0 or 1: how two strings compare, letter by letter without regard to case; a string that begins another is the less
abbrev pub compared : List ℕ → List ℕ → ℕ
compared [] [] = 0
compared [] (y ∷ ys) = 65535
compared (x ∷ xs) [] = 1
compared (x ∷ xs) (y ∷ ys) = cond (capital x == capital y) (compared xs ys) (cond (nat_lt (capital x) (capital y)) 65535 1)

-- the turns of the comparison: four for each pair of letters, and one more for each pair before the deciding one
abbrev pub turns_of_comparison : List ℕ → List ℕ → ℕ
turns_of_comparison [] ys = 0
turns_of_comparison (x ∷ xs) [] = 0
turns_of_comparison (x ∷ xs) (y ∷ ys) = 4 + cond (capital x == capital y) (1 + turns_of_comparison xs ys) 0

-- COMPSTRING compares the strings at s and t
abbrev pub CompstringComparesStrings : Type 0
CompstringComparesStrings =
    (s t : ℕ) (xs ys : List ℕ)
    → Call 34 (s ∷ t ∷ []) 20 (3 + turns_of_comparison xs ys) (λ cells. HoldsString cells s xs × HoldsString cells t ys) (compared xs ys) unchanged []

-- the n cells from v on are none of the m cells from s on
abbrev pub AreOthers : (v n s m : ℕ) → Type 0
AreOthers v n s m = (i k : ℕ) → i < n → k < m → v + i ≢ s + k

-- PACKSTRING packs into a vector the string whose length is in the low byte of the word at v, and whose characters are in the low bytes
-- of the words after it. The vector has a cell for each two bytes, and none of these words. The value is the last index of the vector.
abbrev pub PackstringPacksItsString : Type 0
PackstringPacksItsString =
    (v s word : ℕ) (words : List ℕ) → word % 256 ≡ length words
    → Call 35 (v ∷ s ∷ []) 18 (3 + length words / 2 + 2 * length words)
    (λ cells. HoldsWords cells v (word ∷ words) × IsVector cells s (1 + length words / 2) × AreOthers v (1 + length words) s (1 + length words / 2))
    (length words / 2) (λ cells. with_words s (string_words (map (λ w. w % 256) words)) cells) []

-- this many blanks
abbrev pub blanks : ℕ → List ℕ
blanks zero = []
blanks (suc n) = 32 ∷ blanks n

-- bytes at the right of a field of this width; more bytes than that take more
abbrev pub in_field : (width : ℕ) → List ℕ → List ℕ
in_field width bytes = blanks (width - length bytes) ++ bytes

-- the turns of a number in a field: the digits are found, the blanks, the sign and the digits are written
abbrev pub turns_in_field : (sign digits width : ℕ) → ℕ
turns_in_field sign digits width = digits - 1 + (2 * (width - (sign + digits)) + (sign + 2 * digits))

-- the same of a signed number
abbrev pub turns_of_signed : (width : ℕ) → ℤ → ℕ
turns_of_signed width (pos n) = turns_in_field 0 (length (decimal n)) width
turns_of_signed width (negsuc n) = turns_in_field 1 (length (decimal (suc n))) width

-- WRITEU writes a word in decimal at the right of a field of any width but 32,767; a negative width counts as 0
abbrev pub WriteuWritesItsNumber : Type 0
WriteuWritesItsNumber =
    (w width : ℕ) → w < 65536 → width < 65536 → width ≢ 32767
    → Call 26 (w ∷ width ∷ []) 23 (2 + turns_in_field 0 (length (decimal w)) (not_negative width)) anything 0 unchanged
    (in_field (not_negative width) (decimal w))

-- WRITED writes a word as a signed number in decimal at the right of such a field
abbrev pub WritedWritesItsNumber : Type 0
WritedWritesItsNumber =
    (w width : ℕ) → w < 65536 → width < 65536 → width ≢ 32767
    → Call 25 (w ∷ width ∷ []) 23 (2 + turns_of_signed (not_negative width) (signed w)) anything 0 unchanged
    (in_field (not_negative width) (signed_decimal (signed w)))
