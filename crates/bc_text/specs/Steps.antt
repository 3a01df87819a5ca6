-- For proofs: the reader as a pure function, byte by byte. The code is proved equal to it. Texts and faults are defined without it.
use Rattle.std.specs.Prelude.{ℕ, ◌+◌, ◌-◌, ◌*◌, ◌%◌, ◌==◌, List, [], ◌∷◌, ◌++◌, Bool, true, false, ◌&&◌, cond, min, nat_lt, nat_le, Option, Some, None, Result, Ok, Err}
use Rattle.std.specs.Char.{is_ascii_digit}
use Rattle.bc_text_items.specs.declared.item.Item.{Item}
use Rattle.bc_text_items.specs.declared.item.Item.TheVariants.{Label, Data, DataLabel, Byte, Operation, Global}
use Rattle.bc_text_items.specs.declared.item.Base.TheVariants as bases
use Rattle.bc_text_items.specs.declared.item.Function.TheVariants as functions
use Rattle.bc_text.specs.Letters.{is_blank}
use Rattle.bc_text.specs.Heads.{allows, limit}
use Rattle.bc_text.specs.Faults.{capped}
use Rattle.bc_text.specs.declared.head.Head.{Head}
use Rattle.bc_text.specs.declared.head.Head.TheVariants as heads
use Rattle.bc_text.specs.declared.head.Ended.{Ended}
use Rattle.bc_text.specs.declared.head.Ended.TheVariants as ended
use Rattle.bc_text.specs.declared.head.Position.{Position}
use Rattle.bc_text.specs.declared.head.Position.TheVariants as places
use Rattle.bc_text.specs.declared.text_error.TextError.{TextError}
use Rattle.bc_text.specs.declared.text_error.TextError.TheVariants as errors

-- The state of a reader: complete segments, the items after them, the state between two bytes, and the number of bytes read.
pub record Progress : Type 0 where
  pub segments : List (List Item)
  pub items : List Item
  pub place : Position
  pub at : ℕ

-- the state before the first byte
abbrev pub start : Progress
start = record { segments = []; items = []; place = places.Between; at = 0 }

-- the head that a letter begins
abbrev pub head_of : ℕ → Option Head
head_of byte =
    cond (byte == 76) (Some (heads.Operation functions.Load false bases.Number))
    (cond (byte == 83) (Some (heads.Operation functions.Store false bases.Number))
    (cond (byte == 65) (Some (heads.Operation functions.Add false bases.Number))
    (cond (byte == 74) (Some (heads.Operation functions.Jump false bases.Number))
    (cond (byte == 84) (Some (heads.Operation functions.JumpIfTrue false bases.Number))
    (cond (byte == 70) (Some (heads.Operation functions.JumpIfFalse false bases.Number))
    (cond (byte == 75) (Some (heads.Operation functions.Call false bases.Number))
    (cond (byte == 88) (Some (heads.Operation functions.Execute false bases.Number))
    (cond (byte == 68) (Some heads.Data)
    (cond (byte == 67) (Some heads.Byte)
    (cond (byte == 71) (Some heads.Global) None))))))))))

-- the head with one more letter
abbrev pub longer : Head → ℕ → Option Head
longer heads.Data byte = cond (byte == 76) (Some heads.DataLabel) None
longer (heads.Operation function indirect bases.Number) byte =
    cond (byte == 73 && cond indirect false true) (Some (heads.Operation function true bases.Number))
    (cond (byte == 80) (Some (heads.Operation function indirect bases.P))
    (cond (byte == 71) (Some (heads.Operation function indirect bases.G))
    (cond (byte == 76) (Some (heads.Operation function indirect bases.Label)) None)))
longer head byte = None

-- the place after a head, or the fault if there is no head
abbrev pub after_letter : Option Head → TextError → Result Position TextError
after_letter (Some head) fault = Ok (places.Head head)
after_letter None fault = Err fault

-- the greatest number that may follow the head, with or without a sign
abbrev pub greatest : Head → Bool → ℕ
greatest head negative = cond negative (min (limit head) 32768) (limit head)

-- a number that is being read is one that may follow its head
abbrev pub is_in_range : Position → Bool
is_in_range places.Between = true
is_in_range places.Comment = true
is_in_range (places.Head head) = true
is_in_range (places.Minus head from) = true
is_in_range (places.Digits head from negative value) = nat_le value (limit head)

-- the place in the digits of a number, if it is in range
abbrev pub if_in_range : Head → ℕ → Bool → ℕ → Result Position TextError
if_in_range head from negative value =
    cond (nat_lt (greatest head negative) value) (Err (errors.BadNumber from)) (Ok (places.Digits head from negative value))

-- the place after one more digit
abbrev pub with_digit : Head → ℕ → Bool → ℕ → ℕ → Result Position TextError
with_digit head from negative value byte = if_in_range head from negative (value * 10 + (byte - 48))

-- the place after a byte that follows a head
abbrev pub after_head : Head → ℕ → ℕ → Result Position TextError
after_head head byte at =
    cond (is_ascii_digit byte) (with_digit head at false 0 byte)
    (cond (byte == 45 && allows head 45) (Ok (places.Minus head at))
    (after_letter (longer head byte) (errors.BadNumber at)))

-- the place after a byte that follows a `-`
abbrev pub after_minus : Head → ℕ → ℕ → ℕ → Result Position TextError
after_minus head from byte at =
    cond (is_ascii_digit byte) (with_digit head from true 0 byte) (Err (errors.BadNumber at))

-- the place after a byte between items, other than `Z`
abbrev pub between : ℕ → ℕ → Result Position TextError
between byte at =
    cond (is_blank byte) (Ok places.Between)
    (cond (byte == 47) (Ok places.Comment)
    (cond (is_ascii_digit byte) (with_digit heads.Label at false 0 byte)
    (after_letter (head_of byte) (errors.BadCharacter at))))

-- the place after a byte that follows the number of a global
abbrev pub after_global : ℕ → ℕ → ℕ → Result Position TextError
after_global number byte at =
    cond (byte == 76) (Ok (places.Head (heads.GlobalLabel number))) (Err (errors.MissingLabel at))

-- the word of a number with or without a sign
abbrev pub word_of : Bool → ℕ → ℕ
word_of negative value = cond negative ((65536 - value) % 65536) value

-- what a number completes when its digits end
abbrev pub ended_number : Head → Bool → ℕ → Ended
ended_number heads.Label negative value = ended.Item (Label (word_of negative value))
ended_number heads.Data negative value = ended.Item (Data (word_of negative value))
ended_number heads.DataLabel negative value = ended.Item (DataLabel (word_of negative value))
ended_number heads.Byte negative value = ended.Item (Byte value)
ended_number (heads.Operation function indirect base) negative value =
    ended.Item (Operation function indirect base (word_of negative value))
ended_number heads.Global negative value = ended.Global value
ended_number (heads.GlobalLabel number) negative value = ended.Item (Global number (word_of negative value))

-- the state with another place
abbrev pub placed : Progress → Position → Progress
placed p place = record p { place = place }

-- the state with the next place, or the fault
abbrev pub placed_at : Progress → Result Position TextError → Result Progress TextError
placed_at p (Ok place) = Ok (placed p place)
placed_at p (Err fault) = Err fault

-- the state after the end of a segment, which has the items read since the last one
abbrev pub closed : Progress → Progress
closed p = record p { segments = p.segments ++ p.items ∷ []; items = []; place = places.Between }

-- the state with one more item
abbrev pub with_item : Progress → Item → Progress
with_item p item = record p { items = p.items ++ item ∷ [] }

-- takes a byte at position `at`, at which an item may begin
abbrev pub begun : Progress → ℕ → ℕ → Result Progress TextError
begun p byte at = cond (byte == 90) (Ok (closed p)) (placed_at p (between byte at))

-- takes the byte after a number, and what the number completed
abbrev pub after_number : Progress → Ended → ℕ → ℕ → Result Progress TextError
after_number p (ended.Item item) byte at = begun (with_item p item) byte at
after_number p (ended.Global number) byte at = placed_at p (after_global number byte at)

-- takes a byte in the digits of a number
abbrev pub in_digits : Progress → Head → ℕ → Bool → ℕ → ℕ → ℕ → Result Progress TextError
in_digits p head from negative value byte at =
    cond (is_ascii_digit byte) (placed_at p (with_digit head from negative value byte))
    (after_number p (ended_number head negative value) byte at)

-- takes a byte at a place
abbrev pub at_place : Progress → Position → ℕ → ℕ → Result Progress TextError
at_place p places.Between byte at = begun p byte at
at_place p places.Comment byte at = cond (byte == 10) (Ok (placed p places.Between)) (Ok p)
at_place p (places.Head head) byte at = placed_at p (after_head head byte at)
at_place p (places.Minus head from) byte at = placed_at p (after_minus head from byte at)
at_place p (places.Digits head from negative value) byte at = in_digits p head from negative value byte at

-- takes one more byte
unfoldable pub step : Progress → ℕ → Result Progress TextError
step p byte = at_place (record p { at = capped (p.at + 1) }) p.place byte p.at

-- continues after a step without a fault
abbrev pub on_ok : Result Progress TextError → (Progress → Result Progress TextError) → Result Progress TextError
on_ok (Ok p) next = next p
on_ok (Err fault) next = Err fault

-- takes bytes one after another, up to the first fault
unfoldable pub run : List ℕ → Progress → Result Progress TextError
run [] p = Ok p
run (byte ∷ bytes) p = on_ok (step p byte) (run bytes)

-- the segments at the end of the bytes, if no item is incomplete and none follows the last `Z`
abbrev pub finished_at : Position → List Item → List (List Item) → Result (List (List Item)) TextError
finished_at places.Between [] segments = Ok segments
finished_at places.Comment [] segments = Ok segments
finished_at place items segments = Err errors.Unended

-- the segments of a reader at the end of the bytes
abbrev pub finished : Progress → Result (List (List Item)) TextError
finished p = finished_at p.place p.items p.segments

-- the result of reading bytes to their end
abbrev pub answer_of : Result Progress TextError → Result (List (List Item)) TextError
answer_of (Ok p) = finished p
answer_of (Err fault) = Err fault

abbrev pub answer : List ℕ → Progress → Result (List (List Item)) TextError
answer bytes p = answer_of (run bytes p)
