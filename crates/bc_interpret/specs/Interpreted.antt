-- What the interpreter promises of a run of sections whose places are where an image has them.
use Rattle.std.specs.Prelude.{ℕ, ◌≡◌, ◌≤◌, List, map, drop}
use Rattle.bc_machine_defs.specs.Streams.{Content}
use Rattle.bc_machine.specs.Rose.{Rose}
use Rattle.bc_machine_defs.specs.declared.image.Image.{Image}
use Rattle.bc_machine_defs.specs.declared.image.SegmentPlace.{SegmentPlace}
use Rattle.bc_link.specs.Labels.{label_address}
use Rattle.bc_core.specs.Commands.{Core}
use Rattle.bc_core.specs.Map.{Map, placed}
use Rattle.bc_core.specs.Meaning.{meaning}
use Rattle.bc_interpret_defs.specs.Running.{start_at, start_state}
use Rattle.bc_interpret.specs.declared.run.Interpreted.{Interpreted as Reported}
use Rattle.bc_interpret.specs.declared.run.Outcome.TheVariants.{Device}
use Rattle.bc_interpret.specs.Results.{IsResult, NamesBy}

-- the addresses that an image gives the places of its sections, without the primitives, and where its stack begins
abbrev pub map_of : Image → Map
map_of image = record { places = map (λ (place : SegmentPlace). label_address place.labels) (drop 1 image.places); stack_base = image.stack_base }

-- from the start of the sections' run, the machine reaches a step that is wild with the reported cause, and the reported trail is that of
-- the step
abbrev pub NamesFrom : List Core → Map → Content → (turns : ℕ) → Reported → Type 0
NamesFrom cores map streams turns i =
    let program = placed cores map.places in NamesBy program (start_at map.stack_base) (start_state program streams turns) i

-- The promise. If the content of the streams is known, it stays known, the outcome and the output are those of the sections' meaning, and
-- a wild run meets the reported cause, at the reported trail. A device failure is reported only if the count of failures rose or
-- is at its greatest value, and that count never falls.
pub record Interpreted (cores : List Core) (image : Image) (turns : ℕ)
    (known tells : Type 0) (before after : Content) (failures risen : ℕ) (i : Reported) : Type 0 where
  pub means : known → IsResult (meaning cores (map_of image) before turns) i.outcome after
  pub names : known → NamesFrom cores (map_of image) before turns i
  pub kept : known → tells
  pub failed : i.outcome ≡ Device → Rose failures risen
  pub counted : failures ≤ risen

-- the same for streams, given what is known of them, what they hold and how often they failed
abbrev pub InterpretedOn :
    {T : Type 0} → (T → Type 0) → (T → Content) → (T → ℕ) → List Core → Image → ℕ → T → T → Reported → Type 0
InterpretedOn {T} known content failures cores image turns streams streams_new i =
    Interpreted cores image turns (known streams) (known streams_new) (content streams) (content streams_new) (failures streams) (failures streams_new) i
