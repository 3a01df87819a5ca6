-- For proofs: the places and VALOFs found up to some point, followed by those found after it.
use Rattle.std.specs.Prelude.{◌≡◌, ◌++◌, List, [], ◌∷◌, ℕ, map, Result, IfOk}
use Rattle.bc_core.specs.Commands as core
use Rattle.bc_core.specs.View.{place_of}
use Rattle.bc_core.specs.View as view
use Rattle.bc_scope_translate.specs.declared.gathered.Gathered.{Gathered}
use Rattle.bc_scope_defs.specs.Scope as scoping
use Rattle.bc_scope_defs.specs.Scope.{Env}
use Rattle.bc_scope_defs.specs.Numbering.{after_item}
use Rattle.bc_scope_defs.specs.Found.{Thing, AValof, ARoutine, Data, found_in_command}
use Rattle.bc_scope_defs.specs.Translation.{valof_of, core_routine, core_datum}
use Rattle.bc_scope_names.specs.View.{numbers_view}
use Rattle.bc_scope_names.specs.declared.scope.Entry.{Entry}
use Rattle.bc_parse_tree.specs.Tree.{Item, Items, no_items, item, Labelled, Labels_alone}

-- the places and VALOFs found up to here
unfoldable pub core_view : Gathered → core.Core
core_view g = record { places = map place_of g.places.items; valofs = map view.valof_of g.valofs.items }

-- nothing found yet
abbrev pub nothing : core.Core
nothing = record { places = []; valofs = [] }

-- with one VALOF more
abbrev pub with_valof : core.Core → core.Valof → core.Core
with_valof c v = record { places = c.places; valofs = c.valofs ++ v ∷ [] }

-- with one place more
abbrev pub with_place : core.Core → core.Place → core.Core
with_place c p = record { places = c.places ++ p ∷ []; valofs = c.valofs }

-- what was found, followed by the translations of these things
abbrev pub found_after : core.Core → List Thing → core.Core
found_after c [] = c
found_after c (AValof f ∷ things) = found_after (with_valof c (valof_of f)) things
found_after c (ARoutine r ∷ things) = found_after (with_place c (core.Code (core_routine r))) things
found_after c (Data q d ∷ things) = found_after (with_place c (core_datum d)) things

-- what is found in an item
abbrev pub item_found : Env → scoping.Numbers → Item → (s : ℕ) → List Thing
item_found E at (Labelled ls c) s = found_in_command E at c s
item_found E at (Labels_alone ls) s = []

-- what is found in the items of a list, whatever the numbers of its labels
abbrev pub found_items : Env → scoping.Numbers → Items → (s : ℕ) → List Thing
found_items E at no_items s = []
found_items E at (item i is) s = item_found E at i s ++ found_items E (after_item at i) is s

-- the first level, or 0
abbrev pub head_level : List ℕ → ℕ
head_level [] = 0
head_level (s ∷ ss) = s

-- without an error, these things were found, and then these are the next numbers
abbrev pub Gathers : {X E : Type 0} → Result X E → (before after : Gathered) → (following : scoping.Numbers) → List Thing → Type 0
Gathers result before after following things =
    IfOk result (λ _. (core_view after ≡ found_after (core_view before) things) × (numbers_view after.at ≡ following))

-- the same, and the scope is as it was before
abbrev pub GathersWithin : {X E : Type 0} → Result X E → (before after : Gathered) → (following : scoping.Numbers) → List Thing
    → (known_before known_after : List Entry) → Type 0
GathersWithin result before after following things known_before known_after =
    IfOk result (λ _. (core_view after ≡ found_after (core_view before) things) × (numbers_view after.at ≡ following) × (known_after ≡ known_before))
