-- The laws of texts and their faults.
use Rattle.std.specs.Prelude.{ℕ, ◌≡◌, ◌⊎◌, List, ◌++◌}
use Rattle.bc_text_items.specs.declared.item.Item.{Item}
use Rattle.bc_text.specs.Texts.{IsText, GoesOn}
use Rattle.bc_text.specs.Faults.{HasFault, IsFaultOf}
use Rattle.bc_text.specs.declared.text_error.TextError.{TextError}

-- if these bytes are a text of some segments, they are a text of no others and have no fault
abbrev pub IsOneText : List ℕ → Type 0
IsOneText bytes =
    (segments : List (List Item)) → IsText bytes segments
    → ((others : List (List Item)) → IsText bytes others → others ≡ segments) × ((fault : TextError) → IsFaultOf bytes fault → ⊥)

-- these bytes have at most one fault
abbrev pub HasOneFault : List ℕ → Type 0
HasOneFault bytes = (one other : TextError) → IsFaultOf bytes one → IsFaultOf bytes other → one ≡ other

-- these bytes are a text or have a fault
abbrev pub IsTextOrFault : List ℕ → Type 0
IsTextOrFault bytes = ((segments : List (List Item)) × IsText bytes segments) ⊎ ((fault : TextError) × IsFaultOf bytes fault)

-- a fault stays the fault however the bytes go on, and bytes can be continued to a text or have a fault, never both
pub record IsFirst (bytes : List ℕ) : Type 0 where
  pub stays : (fault : TextError) (more : List ℕ) → HasFault bytes fault → HasFault (bytes ++ more) fault
  pub known : GoesOn bytes ⊎ ((fault : TextError) × HasFault bytes fault)
  pub apart : (fault : TextError) → HasFault bytes fault → GoesOn bytes → ⊥
