-- The fault of bytes that aren't a text, and its position.
use Rattle.std.specs.Prelude.{ℕ, ◌+◌, ◌-◌, ◌^◌, ◌≡◌, ◌≢◌, ◌<◌, ◌≤◌, ◌==◌, ◌⊎◌, min, List, [], ◌∷◌, ◌++◌, length, Bool, true, false, ◌||◌}
use Rattle.std.specs.Char.{is_ascii_digit}
use Rattle.std.specs.Str.{all_ascii_digits}
use Rattle.std.specs.List.{list_any}
use Rattle.bc_text_items.specs.declared.item.Item.{Item}
use Rattle.bc_text.specs.Numbers.{IsNumber, value_of_digits}
use Rattle.bc_text.specs.Letters.{is_blank}
use Rattle.bc_text.specs.Texts.{Element, Begins, IsText, GoesOn}
use Rattle.bc_text.specs.Heads.{IsHead, allows, limit}
use Rattle.bc_text.specs.declared.head.Head.{Head}
use Rattle.bc_text.specs.declared.head.Head.TheVariants as heads
use Rattle.bc_text.specs.declared.text_error.TextError.{TextError}
use Rattle.bc_text.specs.declared.text_error.TextError.TheVariants as errors

-- positions count bytes from the start of the stream, and saturate at 2^64 - 1
abbrev pub capped : ℕ → ℕ
capped n = min n (2 ^ 64 - 1)

-- the letters that begin an item: L S A J T F K X D C G
abbrev pub first_letters : List ℕ
first_letters = 76 ∷ 83 ∷ 65 ∷ 74 ∷ 84 ∷ 70 ∷ 75 ∷ 88 ∷ 68 ∷ 67 ∷ 71 ∷ []

-- the bytes that are allowed between items: a blank, the `/` of a comment, the `Z` that ends a segment, a digit, or a letter that begins
-- an item
abbrev pub may_begin : ℕ → Bool
may_begin byte =
    is_blank byte || byte == 47 || byte == 90 || is_ascii_digit byte || list_any (λ letter. byte == letter) first_letters

-- These bytes, which begin between items at position `at`, have this fault at once.
pub data Breaks : ℕ → List ℕ → TextError → Type 0 where
  -- no item begins with the byte
  no_item : (at byte : ℕ) (more : List ℕ) → may_begin byte ≡ false
      → Breaks at (byte ∷ more) (errors.BadCharacter (capped at))
  -- a head is followed neither by a digit nor by another byte that it allows
  no_digit : (at byte : ℕ) (more front : List ℕ) (head : Head) → IsHead front head → head ≢ heads.Label
      → is_ascii_digit byte ≡ false → allows head byte ≡ false
      → Breaks at (front ++ byte ∷ more) (errors.BadNumber (capped (at + length front)))
  -- a `-` isn't followed by a digit
  no_digit_after_minus : (at byte : ℕ) (more front : List ℕ) (head : Head) → IsHead front head → allows head 45 ≡ true
      → is_ascii_digit byte ≡ false
      → Breaks at (front ++ 45 ∷ byte ∷ more) (errors.BadNumber (capped (at + length front + 1)))
  -- a digit makes a number too large: the position is that of the number's first byte
  too_large : (at digit : ℕ) (more front digits : List ℕ) (head : Head) → IsHead front head
      → all_ascii_digits (digits ++ digit ∷ []) ≡ true → value_of_digits digits ≤ limit head
      → limit head < value_of_digits (digits ++ digit ∷ [])
      → Breaks at (front ++ digits ++ digit ∷ more) (errors.BadNumber (capped (at + length front)))
  -- the same after a `-`, which is the number's first byte
  too_small : (at digit : ℕ) (more front digits : List ℕ) (head : Head) → IsHead front head → allows head 45 ≡ true
      → all_ascii_digits (digits ++ digit ∷ []) ≡ true → value_of_digits digits ≤ 32768
      → 32768 < value_of_digits (digits ++ digit ∷ [])
      → Breaks at (front ++ 45 ∷ (digits ++ digit ∷ more)) (errors.BadNumber (capped (at + length front)))
  -- the number of a global isn't followed by `L`
  no_label : (at byte n : ℕ) (more number : List ℕ) → IsNumber 511 number n → is_ascii_digit byte ≡ false → byte ≢ 76
      → Breaks at (71 ∷ (number ++ byte ∷ more)) (errors.MissingLabel (capped (at + 1 + length number)))

-- The bytes are elements and separators, followed by this fault. It is the first one, since everything before it is correct.
abbrev pub HasFault : List ℕ → TextError → Type 0
HasFault bytes fault =
    (at : ℕ) × (elements : List Element) × (rest : List ℕ)
    × Begins bytes elements rest × (at + length rest ≡ length bytes) × Breaks at rest fault

-- the bytes aren't a text, but can be continued to one: they end within an item, or have items after the last `Z`
abbrev pub IsUnended : List ℕ → Type 0
IsUnended bytes = ((segments : List (List Item)) → IsText bytes segments → ⊥) × GoesOn bytes

-- this is the fault of bytes that aren't a text
abbrev pub IsFaultOf : List ℕ → TextError → Type 0
IsFaultOf bytes fault = HasFault bytes fault ⊎ ((fault ≡ errors.Unended) × IsUnended bytes)
