-- What the reader's contracts promise.
use Rattle.std.specs.Prelude.{ℕ, ◌≡◌, ◌⊎◌, List, flat_map, Vec, Option, Some, None, Result, Ok, Err, MatchResult}
use Rattle.std.specs.declared.alloc.Global.{Global}
use Rattle.std.specs.Borrow.{Bor}
use Rattle.bc_text_items.specs.declared.item.Item.{Item}
use Rattle.bc_text.specs.Texts.{IsText, GoesOn}
use Rattle.bc_text.specs.Faults.{HasFault, IsFaultOf}
use Rattle.bc_text.specs.Steps.{Progress, start, run, finished}
use Rattle.bc_text.specs.declared.text_error.TextError.{TextError}
use Rattle.bc_text.specs.declared.text_error.TextError.TheVariants as errors

-- the reader has read exactly these bytes, without a fault
abbrev pub HasRead : Option Progress → List ℕ → Type 0
HasRead None bytes = ⊥
HasRead (Some progress) bytes = run bytes start ≡ Ok progress

-- the reader has returned an error
abbrev pub HasFailed : Option Progress → Type 0
HasFailed reader = reader ≡ None

-- The result of a reader that has been fed these bytes in all: Ok exactly if they can be continued to a text, else their first fault, or
-- Memory.
abbrev pub IsAnswer : {X : Type 0} → List ℕ → Result X TextError → Type 0
IsAnswer bytes (Ok x) = GoesOn bytes
IsAnswer bytes (Err fault) = (fault ≡ errors.Memory) ⊎ HasFault bytes fault

-- The result at the end of these bytes: the segments of which they are a text, or their fault.
abbrev pub IsAnswerAtEnd : List ℕ → Result (Vec (List Item) Global) TextError → Type 0
IsAnswerAtEnd bytes (Ok v) = IsText bytes v.items
IsAnswerAtEnd bytes (Err fault) = IsFaultOf bytes fault

-- a reader that is fed a piece does the steps of its bytes
abbrev pub Feeds : {X : Type 0} → Option Progress → List ℕ → Result X TextError → Option Progress → Type 0
Feeds None piece result new = (result ≡ Err errors.Failed) × (new ≡ None)
Feeds (Some old) piece (Ok x) None = ⊥
Feeds (Some old) piece (Ok x) (Some new) = run piece old ≡ Ok new
Feeds (Some old) piece (Err fault) new = ((fault ≡ errors.Memory) ⊎ (run piece old ≡ Err fault)) × (new ≡ None)

-- a reader at the end gives the result of its definition
abbrev pub Finishes : Option Progress → Result (Vec (List Item) Global) TextError → Type 0
Finishes None result = result ≡ Err errors.Failed
Finishes (Some p) (Ok v) = finished p ≡ Ok v.items
Finishes (Some p) (Err fault) = finished p ≡ Err fault

-- the bytes of all pieces, one after another
abbrev pub bytes_of : List (Bor (List ℕ)) → List ℕ
bytes_of pieces = flat_map (λ piece. piece.now) pieces

-- The result of reading these bytes to the end: the segments of which they are a text, or their fault, or Memory.
abbrev pub IsWholeAnswer : List ℕ → Result (Vec (List Item) Global) TextError → Type 0
IsWholeAnswer bytes (Ok v) = IsText bytes v.items
IsWholeAnswer bytes (Err fault) = (fault ≡ errors.Memory) ⊎ IsFaultOf bytes fault

-- if the bytes are a text of some segments, the result is these segments, or Memory
abbrev pub IsOnly : List ℕ → Result (Vec (List Item) Global) TextError → Type 0
IsOnly bytes result =
    (segments : List (List Item)) → IsText bytes segments → MatchResult result (λ v. v.items ≡ segments) (λ fault. fault ≡ errors.Memory)

-- if the bytes have a fault, the result is that fault, or Memory
abbrev pub IsRefused : List ℕ → Result (Vec (List Item) Global) TextError → Type 0
IsRefused bytes result =
    (wrong : TextError) → IsFaultOf bytes wrong → MatchResult result (λ v. ⊥) (λ fault. (fault ≡ errors.Memory) ⊎ (fault ≡ wrong))
