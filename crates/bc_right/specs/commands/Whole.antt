-- A whole run, from the start of an image, whose boot code calls START.
use Rattle.std.specs.Prelude.{ℕ, ◌≡◌, ◌+◌, ◌≤◌, true, List, [], ◌∷◌}
use Rattle.bc_text_items.specs.declared.item.Item.{Item}
use Rattle.bc_text_items.specs.declared.item.Item.TheVariants.{Operation}
use Rattle.bc_text_items.specs.declared.item.Base.TheVariants as bases
use Rattle.bc_text_items.specs.declared.item.Function.TheVariants as functions
use Rattle.bc_machine_defs.specs.Streams.{Content}
use Rattle.bc_machine_defs.specs.State.{start}
use Rattle.bc_core.specs.Commands.{Core}
use Rattle.bc_core.specs.Map.{Map, Placed, placed, standing}
use Rattle.bc_core.specs.Start.{start_cells}
use Rattle.bc_core.specs.Meaning.{entered_at, meaning_over, meaning}
use Rattle.bc_core.specs.Same.{Same}
use Rattle.bc_gen_defs.specs.Emit.{execute}
use Rattle.bc_right.specs.steps.Leads.{AreWords}
use Rattle.bc_right.specs.steps.Agreement.{Holds}
use Rattle.bc_right.specs.steps.Landing.{Moment, Stands}
use Rattle.bc_right.specs.steps.Items.{call_item}
use Rattle.bc_right.specs.commands.Calls.{ProgramStands, LibraryLands}
use Rattle.bc_right.specs.commands.Library.{LibraryStands}
use Rattle.bc_right.specs.commands.Section.{AllStand}

-- `LIG1 K2 X22`
abbrev pub boot_items : List Item
boot_items = Operation functions.Load true bases.G 1 ∷ call_item 2 ∷ execute 22 ∷ []

-- If the boot code, the routines and the primitives are in the store, and it agrees with the cells, a run of the machine does what the
-- source means.
abbrev pub RunsAreSame : Type 0
RunsAreSame =
    (S : Moment) (program : List Placed) (address : ℕ → ℕ) (stack_base end : ℕ)
    → Stands address S 0 boot_items end → ProgramStands S program → LibraryLands S program
    → S.top ≤ stack_base + 2 → stack_base + 4 ≤ 65536 → Holds (stack_base + 2) S.cells S.store
    → (streams : Content) (n : ℕ) → AreWords (start S.store stack_base streams)
    → Same (meaning_over S.cells (entered_at program) stack_base streams n) n (start S.store stack_base streams)

-- The same for sections and a map.
abbrev pub MeaningIsRun : Type 0
MeaningIsRun =
    (S : Moment) (cores : List Core) (map : Map) (address : ℕ → ℕ) (end : ℕ)
    → (let program = placed cores map.places in
    Stands address S 0 boot_items end → AllStand S program → LibraryStands S program → S.cells ≡ start_cells (standing program)
    → S.top ≤ map.stack_base + 2 → map.stack_base + 4 ≤ 65536 → Holds (map.stack_base + 2) S.cells S.store
    → (streams : Content) (n : ℕ) → AreWords (start S.store map.stack_base streams)
    → Same (meaning cores map streams n) n (start S.store map.stack_base streams))
