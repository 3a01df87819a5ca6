-- For proofs: what holds of a program that is partly built.
use Rattle.std.specs.Prelude.{ℕ, ◌≡◌, ◌<◌, ◌^◌, List, ◌++◌, map, length, slice_index, All, Option, None}
use Rattle.bc_text_items.specs.declared.item.Item.{Item}
use Rattle.bc_rules_defs.specs.View.{entry as entry_view}
use Rattle.bc_rules_defs.specs.declared.entry.Entry as code
use Rattle.bc_parse_tree.specs.Tree.{Declarations}
use Rattle.bc_lex.specs.Files.{File}
use Rattle.bc_build.specs.Parsed.{AreParsed}
use Rattle.bc_build.specs.Compiled.{AreAccepted}
use Rattle.bc_build.specs.Code.{items_of, entries_from, HasCode}
use Rattle.bc_scope_defs.specs.Faults.{Fault}
use Rattle.bc_link.specs.Refusals.{refusal_of}
use Rattle.bc_link.specs.Linked.{image_of, IsRefusal}
use Rattle.bc_run.specs.Runs.{with_primitives}
use Rattle.bc_text.specs.Printed.{IsItem}
use Rattle.bc_build.specs.Ranges.{IsSmallEntry}
use Rattle.bc_build.specs.Refused.{IsScopeFault, IsFirstRefusal}
use Rattle.bc_build.specs.declared.building.Built.{Built}
use Rattle.bc_build.specs.declared.build_error.BuildError.{BuildError}
use Rattle.bc_build.specs.declared.build_error.BuildError.TheVariants.{Scope, Link, Memory}

-- the refusal for a fault of a main's scopes
abbrev pub IsScopeRefusal : ℕ → Option Fault → BuildError → Type 0
IsScopeRefusal main due (Scope at e) = (at ≡ main) × IsScopeFault due e
IsScopeRefusal main due Memory = Unit {0}
IsScopeRefusal main due _ = ⊥

-- the program has these segments and entries, and the image of the primitives followed by the segments
pub record IsLinked (segments : List (List Item)) (entries : List code.Entry) (built : Built) : Type 0 where
  pub segments_are : built.segments.items ≡ segments
  pub entries_are : built.entries.items ≡ entries
  pub accepted : refusal_of (with_primitives segments) ≡ None
  pub image_is : built.image ≡ image_of (with_primitives segments)
  pub words : (i : ℕ) → slice_index built.image.words i < 65536
  pub items : All (All IsItem) segments
  pub small : All IsSmallEntry entries
  pub number : length entries < 2 ^ 64

-- why the segments were not linked
abbrev pub IsLinkRefusal : List (List Item) → BuildError → Type 0
IsLinkRefusal segments (Link e) = IsRefusal (refusal_of (with_primitives segments)) e
IsLinkRefusal segments Memory = Unit {0}
IsLinkRefusal segments _ = ⊥

-- The first `number` mains have these segments and entries, and the mains `left` remain. However the remaining mains are accepted or
-- refused, so are all mains.
pub record AreCoded (files : List File) (mains : List ℕ) (number : ℕ) (left : List ℕ) (segments : List (List Item)) (entries : List code.Entry) : Type 0 where
  pub sections : List Declarations
  pub count : length sections ≡ number
  pub accepted : (rest : List Declarations) → AreAccepted files left rest → AreAccepted files mains (sections ++ rest)
  pub only : (others : List Declarations) → AreParsed files mains others → (rest : List Declarations) × AreParsed files left rest
      × (others ≡ sections ++ rest)
  pub refused : (e : BuildError) → IsFirstRefusal files left e → IsFirstRefusal files mains e
  pub segments_are : segments ≡ map items_of sections
  pub entries_are : map entry_view entries ≡ entries_from 0 sections

-- All mains have code: they are accepted sections, and are parsed as no others. The program has their code.
pub record IsWhole (files : List File) (mains : List ℕ) (built : Built) : Type 0 where
  pub sections : List Declarations
  pub accepted : AreAccepted files mains sections
  pub only : (others : List Declarations) → AreParsed files mains others → others ≡ sections
  pub coded : HasCode sections built
  pub image : built.image ≡ image_of (with_primitives (map items_of sections))
