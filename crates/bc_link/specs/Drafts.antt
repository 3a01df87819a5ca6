-- For proofs: the parts of an image for the segments that have been added.
use Rattle.std.specs.Prelude.{ℕ, ◌≡◌, ◌+◌, ◌-◌, replicate, List, [], ◌∷◌, ◌++◌, None, vec_len}
use Rattle.bc_text_items.specs.Sizes.{size_of_all}
use Rattle.bc_text_items.specs.Assembled.{assembled, label_places, global_settings}
use Rattle.bc_text_items.specs.declared.item.Item.{Item}
use Rattle.bc_link.specs.declared.draft.Draft.{Draft}
use Rattle.std.specs.Option.{option_map}
use Rattle.bc_machine_defs.specs.declared.image.Image.{Image}
use Rattle.bc_link.specs.declared.link_error.LinkError.{LinkError}
use Rattle.bc_link.specs.declared.link_error.LinkError.TheVariants.{LabelUnset}
use Rattle.bc_link.specs.Linked.{IsRefusal}
use Rattle.bc_link.specs.Labels.{label_address, labels_of, uses_of}
use Rattle.bc_link.specs.Layout.{place_at, places_from, size_of_segments}
use Rattle.bc_link.specs.Store.{with_settings, with_globals_from, words_from, globals_of, boot}
use Rattle.bc_link.specs.Refusals.{first_unset, label_unset_from}

-- the address of the next segment
abbrev pub next_start : Draft → ℕ
next_start d = 520 + vec_len d.code

-- the new draft is the old one with this segment added
pub record Added (old new : Draft) (segment : List Item) : Type 0 where
  pub globals : new.globals.items ≡ with_settings (label_address (label_places (next_start old) segment)) (global_settings segment) old.globals.items
  pub cells : vec_len new.globals ≡ 512
  pub code : new.code.items ≡ old.code.items ++ assembled (label_address (label_places (next_start old) segment)) segment
  pub size : vec_len new.code ≡ vec_len old.code + size_of_all segment
  pub places : new.places.items ≡ old.places.items ++ place_at (next_start old) segment ∷ []
  pub unset : first_unset (labels_of segment) (uses_of segment) ≡ None

-- adding the remaining segments turns the draft into that of all; `k` is the number of the first remaining one
pub record Becomes (d : Draft) (k : ℕ) (rest segments : List (List Item)) : Type 0 where
  pub globals : with_globals_from (next_start d) rest d.globals.items ≡ globals_of segments
  pub cells : vec_len d.globals ≡ 512
  pub code : d.code.items ++ words_from (next_start d) rest ≡ words_from 520 segments
  pub size : vec_len d.code + size_of_segments rest ≡ size_of_segments segments
  pub places : d.places.items ++ places_from (next_start d) rest ≡ places_from 520 segments
  pub unset : label_unset_from k rest ≡ label_unset_from 0 segments

-- the error is the first label that this segment refers to but doesn't set, or Memory
abbrev pub IsUnsetIn : ℕ → List Item → LinkError → Type 0
IsUnsetIn number segment e = IsRefusal (option_map (LabelUnset number) (first_unset (labels_of segment) (uses_of segment))) e

-- the image of a draft
pub record IsImageOf (d : Draft) (stack_base : ℕ) (image : Image) : Type 0 where
  pub words : image.words ≡ boot ++ replicate 5 0 ++ d.globals.items ++ d.code.items ++ replicate (65536 - stack_base) 0
  pub base : image.stack_base ≡ stack_base
  pub places : image.places ≡ d.places.items
