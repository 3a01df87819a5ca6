-- Statements of what EXTLIB's RDCH and READN do in every program that has BLIB and EXTLIB as its first two sections.
use Rattle.std.specs.Prelude.{ℕ, zero, suc, ◌≡◌, ◌≢◌, ◌⊎◌, ◌+◌, ◌-◌, ◌*◌, ◌%◌, ◌<◌, ◌≤◌, ◌==◌, ◌||◌, Bool, cond, true, false, List, [], ◌∷◌, ◌++◌, length, slice_set, Option, Some, None}
use Rattle.bc_word.specs.Words.{negated}
use Rattle.bc_machine_defs.specs.Streams.{Input, Content, numbered, AreBytes}
use Rattle.bc_machine_defs.specs.StreamCalls.{read_byte, after_read}
use Rattle.bc_machine_defs.specs.Execute.{byte_or_end}
use Rattle.bc_core.specs.Commands.{Core}
use Rattle.bc_core.specs.Map.{IsMap, placed}
use Rattle.bc_core.specs.Store.{Cell, Set, cell_at}
use Rattle.bc_core.specs.Outcome.{Done}
use Rattle.bc_core.specs.Laws.{is_live}
use Rattle.bc_core.specs.Meaning.{calls}
use Rattle.bc_library_laws.specs.Library.{library}
use Rattle.bc_library_laws.specs.Laws.{state}
use Rattle.bc_library_laws.specs.extension.Extension.{extension}
use Rattle.bc_library_laws.specs.extension.Laws.{Able}

-- As `Call`, of a routine without arguments that reads. What is given may also be about the streams and the addresses of EXTLIB's places,
-- and so may the change of the store. The call takes from the selected input what `reads` says.
abbrev pub ReadingCall : (label room turns : ℕ) → (Given : (ℕ → ℕ) → List Cell → Content → Type 0) → (value : Content → ℕ)
    → (change : (ℕ → ℕ) → Content → List Cell → List Cell) → (reads : Content → Content) → Type 0
ReadingCall label room turns Given value change reads =
    (cores : List Core) (address further : ℕ → ℕ) (places : List (ℕ → ℕ)) (base : ℕ)
    → IsMap (library ∷ extension ∷ cores) (record { places = address ∷ further ∷ places; stack_base = base })
    → (cells : List Cell) (streams : Content) (f n t : ℕ) → Able address further cells f room → Given further cells streams
    → calls (placed (library ∷ extension ∷ cores) (address ∷ further ∷ places)) (turns + n) (further label) [] f (state cells streams (turns + t))
    ≡ Done (value streams) (state (change further streams cells) (reads streams) t)

-- where KEPT's table has the last character of the input with this number; the word after it says whether RDCH gives that once more
abbrev pub last_at : (further : ℕ → ℕ) → ℕ → ℕ
last_at further i = further 7 + 4 * i

-- INPUTNOW is i, from 1 to 31, and `again` says whether RDCH gives the last character of this input once more
pub record IsSelected (further : ℕ → ℕ) (cells : List Cell) (i again : ℕ) : Type 0 where
  pub low : 1 ≤ i
  pub high : i ≤ 31
  pub number : cell_at cells (further 1) ≡ Set i
  pub last : is_live (cell_at cells (last_at further i)) ≡ true
  pub flag : cell_at cells (last_at further i + 1) ≡ Set again

-- the global RDCH of LIBHDR has the primitive
abbrev pub HasPrimitive : List Cell → Type 0
HasPrimitive cells = cell_at cells 21 ≡ Set 528

-- the next byte of the selected input; ENDSTREAMCH at its end, once it was ended, and if none is selected
abbrev pub next_of : Content → ℕ
next_of streams = byte_or_end (read_byte streams)

-- RDCH gives the next byte, and keeps it as the input's last character, if no character was taken back
abbrev pub RdchGivesTheNextByte : Type 0
RdchGivesTheNextByte =
    (i : ℕ) → ReadingCall 8 10 3 (λ further cells streams. IsSelected further cells i 0 × HasPrimitive cells) next_of
    (λ further streams cells. slice_set cells (last_at further i) (Set (next_of streams))) after_read

-- after UNRDCH it gives the last character once more, and takes nothing from the input
abbrev pub RdchGivesACharacterOnceMore : Type 0
RdchGivesACharacterOnceMore =
    (i last again : ℕ) → again ≢ 0
    → ReadingCall 8 10 2 (λ further cells streams. IsSelected further cells i again × (cell_at cells (last_at further i) ≡ Set last)) (λ streams. last)
    (λ further streams cells. slice_set cells (last_at further i + 1) (Set 0)) (λ streams. streams)

-- of an input with any other number it gives the next byte, and keeps nothing
abbrev pub RdchKeepsNothingOfOthers : Type 0
RdchKeepsNothingOfOthers =
    (i : ℕ) → i < 65536 → (i < 1) ⊎ (31 < i)
    → ReadingCall 8 10 3 (λ further cells streams. (cell_at cells (further 1) ≡ Set i) × HasPrimitive cells) next_of
    (λ further streams cells. cells) after_read

-- what remains to be read of an input; nothing once it was ended, and if there is none
abbrev pub remaining_in : Option Input → List ℕ
remaining_in None = []
remaining_in (Some input) = cond input.ended [] input.rest

-- what remains to be read of the selected input
abbrev pub remaining : Content → List ℕ
remaining streams = remaining_in (numbered streams.inputs streams.input)

-- the streams after this many reads
abbrev pub after_reads : ℕ → Content → Content
after_reads zero streams = streams
after_reads (suc n) streams = after_reads n (after_read streams)

-- the first of these bytes, or ENDSTREAMCH
abbrev pub first_of : List ℕ → ℕ
first_of [] = 65535
first_of (byte ∷ bytes) = byte

-- the bytes after it
abbrev pub rest_of : List ℕ → List ℕ
rest_of [] = []
rest_of (byte ∷ bytes) = bytes

-- a blank, a tab, a line break, CR or FF
abbrev pub is_blank : ℕ → Bool
is_blank c = c == 32 || c == 9 || c == 10 || c == 13 || c == 12

abbrev pub AreBlanks : List ℕ → Type 0
AreBlanks [] = Unit {0}
AreBlanks (byte ∷ bytes) = (is_blank byte ≡ true) × AreBlanks bytes

abbrev pub AreDigits : List ℕ → Type 0
AreDigits [] = Unit {0}
AreDigits (byte ∷ bytes) = ((48 ≤ byte) × (byte ≤ 57)) × AreDigits bytes

-- the number of these digits, after those of the number n
abbrev pub number_from : ℕ → List ℕ → ℕ
number_from n [] = n
number_from n (digit ∷ digits) = number_from (10 * n + (digit - 48)) digits

-- no sign, `+` or `-`
pub data Sign : Type 0 where
  Unsigned : Sign
  Plus : Sign
  Minus : Sign

abbrev pub bytes_of_sign : Sign → List ℕ
bytes_of_sign Unsigned = []
bytes_of_sign Plus = 43 ∷ []
bytes_of_sign Minus = 45 ∷ []

-- the word with this sign
abbrev pub with_sign : Sign → ℕ → ℕ
with_sign Minus word = negated word
with_sign _ word = word

-- these bytes may follow a number: there are none, or the first of them is a byte and no digit
abbrev pub EndsNumber : List ℕ → Type 0
EndsNumber [] = Unit {0}
EndsNumber (byte ∷ bytes) = (byte < 256) × ((byte < 48) ⊎ (57 < byte))

-- where neither a sign nor a digit is, the byte that follows is no blank and no sign
abbrev pub IsSplit : Sign → (digits rest : List ℕ) → Type 0
IsSplit Unsigned [] (byte ∷ rest) = (is_blank byte ≡ false) × (byte ≢ 43) × (byte ≢ 45)
IsSplit _ _ _ = Unit {0}

-- a number in the input: blanks, a sign, digits, and what follows; without digits it counts as 0
pub record Text : Type 0 where
  pub blanks : List ℕ
  pub sign : Sign
  pub digits : List ℕ
  pub rest : List ℕ

abbrev pub bytes_of_text : Text → List ℕ
bytes_of_text text = text.blanks ++ (bytes_of_sign text.sign ++ (text.digits ++ text.rest))

pub record IsText (text : Text) : Type 0 where
  pub blank : AreBlanks text.blanks
  pub decimal : AreDigits text.digits
  pub ends : EndsNumber text.rest
  pub split : IsSplit text.sign text.digits text.rest

-- READN can be called: as RDCH, of which the global is that of EXTLIB; TERMINATOR is live
pub record CanRead (further : ℕ → ℕ) (cells : List Cell) (i again : ℕ) : Type 0 where
  pub selected : IsSelected further cells i again
  pub primitive : HasPrimitive cells
  pub routine : cell_at cells 48 ≡ Set (further 8)
  pub terminator : is_live (cell_at cells 46) ≡ true

-- the store after READN, with this last character
abbrev pub with_character : (further : ℕ → ℕ) → (i c : ℕ) → List Cell → List Cell
with_character further i c cells = slice_set (slice_set cells (last_at further i) (Set c)) 46 (Set c)

-- how many bytes READN takes before the one after the number
abbrev pub length_of_text : Text → ℕ
length_of_text text = length text.blanks + (length (bytes_of_sign text.sign) + length text.digits)

-- the turns of READN: four for each blank and each digit, three for a sign and for the byte after the number, and that of its call
abbrev pub turns_of_text : Text → ℕ
turns_of_text text = 4 + 4 * length text.blanks + 3 * length (bytes_of_sign text.sign) + 4 * length text.digits

-- If no character was taken back, READN gives the number modulo 65,536. It takes the byte after it too, which is then in TERMINATOR,
-- and is the input's last character.
abbrev pub ReadnReadsItsNumber : Type 0
ReadnReadsItsNumber =
    (i : ℕ) (text : Text) → IsText text
    → ReadingCall 23 14 (turns_of_text text) (λ further cells streams. CanRead further cells i 0 × (remaining streams ≡ bytes_of_text text))
    (λ streams. with_sign text.sign (number_from 0 text.digits % 65536))
    (λ further streams cells. with_character further i (first_of text.rest) cells) (after_reads (suc (length_of_text text)))

-- After UNRDCH the number begins with the character that was taken back, which may be ENDSTREAMCH. RDCH takes a turn less for it.
abbrev pub ReadnBeginsWithACharacterTakenBack : Type 0
ReadnBeginsWithACharacterTakenBack =
    (i again : ℕ) (text : Text) → again ≢ 0 → IsText text
    → ReadingCall 23 14 (turns_of_text text - 1) (λ further cells streams. CanRead further cells i again
    × (cell_at cells (last_at further i) ≡ Set (first_of (bytes_of_text text))) × (remaining streams ≡ rest_of (bytes_of_text text)))
    (λ streams. with_sign text.sign (number_from 0 text.digits % 65536))
    (λ further streams cells. with_character further i (first_of text.rest) (slice_set cells (last_at further i + 1) (Set 0)))
    (after_reads (length_of_text text))

-- all bytes are such a number, with what follows it: so these laws leave out no bytes of an input
abbrev pub EveryInputIsAText : Type 0
EveryInputIsAText = (bytes : List ℕ) → AreBytes bytes → (text : Text) × IsText text × (bytes_of_text text ≡ bytes)
