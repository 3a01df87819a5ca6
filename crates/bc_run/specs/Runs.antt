-- The result of reading, linking and running a text.
use Rattle.std.specs.Prelude.{ℕ, ◌≡◌, ◌≤◌, ◌⊎◌, List, ◌∷◌, ◌++◌, length, Option, None, IfSome}
use Rattle.bc_text_items.specs.declared.item.Item.{Item}
use Rattle.bc_machine_defs.specs.Streams.{Content}
use Rattle.bc_machine_defs.specs.State.{State, start}
use Rattle.bc_machine_defs.specs.declared.state.End.{End}
use Rattle.bc_text.specs.Texts.{IsText}
use Rattle.bc_text.specs.Faults.{HasFault, IsUnended}
use Rattle.bc_text.specs.declared.text_error.TextError.{TextError}
use Rattle.bc_text.specs.declared.text_error.TextError.TheVariants as texts
use Rattle.bc_link.specs.Refusals.{refusal_of}
use Rattle.bc_link.specs.Linked.{image_of, IsRefusal}
use Rattle.bc_machine.specs.Ran.{Ran}
use Rattle.bc_run.specs.Primitives.{primitive_items}
use Rattle.bc_run.specs.declared.running.RunFault.{RunFault}
use Rattle.bc_run.specs.declared.running.RunFault.TheVariants as faults

-- the greatest length of a text, in bytes
abbrev pub text_limit : ℕ
text_limit = 16777216

-- These are the segments of the text that a reader returns up to its end, which has at most `text_limit` bytes. If the reader says which
-- bytes it holds, they are this text.
abbrev pub IsTextOf : Option (List ℕ) → List (List Item) → Type 0
IsTextOf known segments = (bytes : List ℕ) × IfSome known (λ xs. xs ≡ bytes) × (length bytes ≤ text_limit) × IsText bytes segments

-- all begins with these bytes
abbrev pub BeginsWith : List ℕ → List ℕ → Type 0
BeginsWith bytes all = (rest : List ℕ) × (all ≡ bytes ++ rest)

-- The first bytes that a reader returns have this fault, whatever follows them. If the reader says which bytes it holds, they begin with
-- these.
abbrev pub HasFaultInFront : Option (List ℕ) → TextError → Type 0
HasFaultInFront known fault = (bytes : List ℕ) × IfSome known (BeginsWith bytes) × HasFault bytes fault

-- The bytes that a reader returns up to its end aren't a text but could be continued to one, and there are at most `text_limit` of them. If
-- the reader says which bytes it holds, they are these.
abbrev pub IsUnendedInAll : Option (List ℕ) → Type 0
IsUnendedInAll known = (bytes : List ℕ) × IfSome known (λ xs. xs ≡ bytes) × (length bytes ≤ text_limit) × IsUnended bytes

-- The fault of the bytes that a reader returns, or Memory. Unended is a fault of all of the bytes, any other one of the first of them.
abbrev pub IsTextFault : Option (List ℕ) → TextError → Type 0
IsTextFault known fault = (fault ≡ texts.Memory) ⊎ (HasFaultInFront known fault ⊎ ((fault ≡ texts.Unended) × IsUnendedInAll known))

-- the segments, preceded by the primitives
abbrev pub with_primitives : List (List Item) → List (List Item)
with_primitives segments = primitive_items ∷ segments

-- The error is the fault of the text, or else the error of linking its segments after the primitives. Nothing is said of Read and Memory.
abbrev pub IsRunFault : Option (List ℕ) → RunFault → Type 0
IsRunFault known faults.Read = Unit {0}
IsRunFault known faults.Memory = Unit {0}
IsRunFault known (faults.Text fault) = IsTextFault known fault
IsRunFault known (faults.Link fault) = (segments : List (List Item)) × IsTextOf known segments × IsRefusal (refusal_of (with_primitives segments)) fault

-- The end is that of the machine's run of at most `steps` instructions, from the image of the primitives followed by the text's segments.
abbrev pub IsRunOf : Option (List ℕ) → ℕ → Type 0 → Type 0 → Content → Content → ℕ → ℕ → End → Type 0
IsRunOf known steps told tells old new before after end =
    (segments : List (List Item)) × (last : State) × IsTextOf known segments × (refusal_of (with_primitives segments) ≡ None) × (last.streams ≡ new)
    × Ran told tells steps (start (image_of (with_primitives segments)).words (image_of (with_primitives segments)).stack_base old) last end before after
