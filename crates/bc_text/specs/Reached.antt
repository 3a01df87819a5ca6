-- For proofs: that the reader's code does the steps of its definition.
use Rattle.std.specs.Prelude.{◌≡◌, ◌⊎◌, List, Result, Ok, Err, Vec}
use Rattle.std.specs.declared.alloc.Global.{Global}
use Rattle.bc_text_items.specs.declared.item.Item.{Item}
use Rattle.bc_text.specs.Steps as steps
use Rattle.bc_text.specs.declared.progress.Progress.{Progress}
use Rattle.bc_text.specs.declared.text_error.TextError.{TextError}
use Rattle.bc_text.specs.declared.text_error.TextError.TheVariants as errors

-- the state of the reader as the definition has it
abbrev pub progress_of : Progress → steps.Progress
progress_of p = record { segments = p.segments.items; items = p.items.items; place = p.place; at = p.at }

-- A call that returned Ok and left this state did what the step does. One that returned an error returned the step's error, or Memory.
abbrev pub Reaches : {X : Type 0} → Result X TextError → steps.Progress → Result steps.Progress TextError → Type 0
Reaches (Ok x) progress expected = expected ≡ Ok progress
Reaches (Err fault) progress expected = (fault ≡ errors.Memory) ⊎ (expected ≡ Err fault)

-- the same where the state is the result
abbrev pub GivesProgress : Result Progress TextError → Result steps.Progress TextError → Type 0
GivesProgress (Ok p) expected = expected ≡ Ok (progress_of p)
GivesProgress (Err fault) expected = (fault ≡ errors.Memory) ⊎ (expected ≡ Err fault)

-- the same for the segments at the end; this call allocates nothing
abbrev pub GivesSegments : Result (Vec (List Item) Global) TextError → Result (List (List Item)) TextError → Type 0
GivesSegments (Ok v) expected = expected ≡ Ok v.items
GivesSegments (Err fault) expected = expected ≡ Err fault
