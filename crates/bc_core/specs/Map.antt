-- Where the places of sections are in the store.
use Rattle.std.specs.Prelude.{ℕ, ◌≡◌, ◌+◌, ◌≤◌, ◌⊎◌, List, [], ◌∷◌, ◌++◌, length, map, Option, All}
use Rattle.bc_core.specs.Commands.{Place, Code, Core}
use Rattle.bc_core.specs.Words.{data_words}
use Rattle.bc_core.specs.Primitive.{first_primitive_word, primitive_words}

-- for each section the address of each of its places, by label; and where the stack begins
pub record Map : Type 0 where
  pub places : List (ℕ → ℕ)
  pub stack_base : ℕ

-- a section, and the address of each of its places, by label
pub record Placed : Type 0 where
  pub core : Core
  pub address : ℕ → ℕ

-- each section with its addresses
abbrev pub placed : List Core → List (ℕ → ℕ) → List Placed
placed (core ∷ cores) (address ∷ addresses) = record { core = core; address = address } ∷ placed cores addresses
placed _ _ = []

-- what is at a place: a routine, which may set a global, or words
pub data Holding : Type 0 where
  ARoutine : (global : Option ℕ) → Holding
  Words : List ℕ → Holding

-- a place: its address, and what is there
pub record Standing : Type 0 where
  pub address : ℕ
  pub holding : Holding

-- what is at a place of a section
abbrev pub held_by : Place → Holding
held_by (Code r) = ARoutine r.global
held_by place = Words (data_words place)

-- the places of a section, the first of which has this label
abbrev pub standing_from : (ℕ → ℕ) → ℕ → List Place → List Standing
standing_from address label [] = []
standing_from address label (place ∷ places) =
    record { address = address label; holding = held_by place } ∷ standing_from address (label + 1) places

-- the places of all sections; those of each section are labelled from 1 on
abbrev pub standing : List Placed → List Standing
standing [] = []
standing (section ∷ sections) = standing_from section.address 1 section.core.places ++ standing sections

-- neighbouring words: the address of the first, and how many there are
pub record Range : Type 0 where
  pub from : ℕ
  pub size : ℕ

-- a range from its address and size
abbrev pub range : ℕ → ℕ → Range
range from size = record { from = from; size = size }

-- how many words are at a place; of a routine only its first word counts here
abbrev pub size_of : Holding → ℕ
size_of (ARoutine global) = 1
size_of (Words words) = length words

-- the range of a place
abbrev pub range_of : Standing → Range
range_of s = range s.address (size_of s.holding)

-- the ranges of the primitives and of all places
abbrev pub ranges : List Standing → List Range
ranges all = range first_primitive_word primitive_words ∷ map range_of all

-- two ranges don't overlap
abbrev pub Apart : Range → Range → Type 0
Apart x y = (x.from + x.size ≤ y.from) ⊎ (y.from + y.size ≤ x.from)

-- no two ranges overlap
abbrev pub AllApart : List Range → Type 0
AllApart [] = Unit {0}
AllApart (x ∷ xs) = All (Apart x) xs × AllApart xs

-- a range is above the globals and below the stack
abbrev pub Inside : ℕ → Range → Type 0
Inside stack_base x = (520 ≤ x.from) × (x.from + x.size ≤ stack_base)

-- A map of sections: it has addresses for each section; all places are above the globals and below the stack; and no
-- two of them, nor one of them and the primitives, overlap.
pub record IsMap (cores : List Core) (map : Map) : Type 0 where
  pub named : length cores ≡ length map.places
  pub inside : All (Inside map.stack_base) (ranges (standing (placed cores map.places)))
  pub apart : AllApart (ranges (standing (placed cores map.places)))
