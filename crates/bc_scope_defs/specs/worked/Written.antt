-- Sections, written briefly for the examples, with their faults, frames and runs.
use Rattle.std.specs.Prelude.{ℕ, ◌+◌, List, [], ◌∷◌, ◌++◌, Option}
use Rattle.bc_parse_tree.specs.declared.tree.Storage.TheVariants as storage
use Rattle.bc_parse_tree.specs.declared.tree.BinaryOp.TheVariants as binary
use Rattle.bc_parse_tree.specs.declared.tree.UnaryOp.TheVariants as unary
use Rattle.bc_parse_tree.specs.Tree.{Exp, Block, Declaration, Declarations, Labelled, Item, no_labels, label, Command}
use Rattle.bc_parse_tree.specs.Tree as tree
use Rattle.bc_machine_defs.specs.StreamStart.{start_streams}
use Rattle.bc_core.specs.Tree as core
use Rattle.bc_core.specs.Commands as c
use Rattle.bc_core.specs.Outcome.{Finished}
use Rattle.bc_core.specs.Start.{cells_from}
use Rattle.bc_core.specs.Meaning.{Result, Ended, meaning_over}
use Rattle.bc_scope_defs.specs.Scope.{Name}
use Rattle.bc_scope_defs.specs.Found.{Thing, AValof, ARoutine, Data, found_in_section}
use Rattle.bc_scope_defs.specs.Frames.{frame_of}
use Rattle.bc_scope_defs.specs.Sections.{PlacedSection, find, standing_in}
use Rattle.bc_scope_defs.specs.Faults.{Fault, section_fault}
use Rattle.bc_scope_defs.specs.Examples.{start, wrch, number, two, do_call, commands, lets, constants, declarations, alone}

-- ---- Worked examples

-- Faults

-- the fault of `LET START() BE ..`
abbrev pub fault_in : Block → Option Fault
fault_in b = section_fault (alone b)

abbrev pub fault_of : Command → Option Fault
fault_of c = fault_in (commands (c ∷ []))

-- Expressions

abbrev pub load : Exp → Exp
load e = tree.Unary unary.Load e

abbrev pub address_of : Exp → Exp
address_of e = tree.Unary unary.Address e

abbrev pub minus : Exp → Exp
minus e = tree.Unary unary.Neg e

abbrev pub opposite : Exp → Exp
opposite e = tree.Unary unary.Not e

abbrev pub plus : Exp → Exp → Exp
plus d e = two binary.Add d e

abbrev pub index : Exp → Exp → Exp
index d e = two binary.Index d e

-- Commands

abbrev pub store : Exp → Exp → Command
store x e = tree.Assign (tree.more x tree.none) (tree.more e tree.none)

abbrev pub print : Exp → Command
print e = do_call wrch (e ∷ [])

-- prints a small number as a digit
abbrev pub digit : Exp → Command
digit e = print (plus (number 48) e)

abbrev pub cased : Exp → Command → Item
cased k c = Labelled (label (tree.Case k) no_labels) c

abbrev pub by_default : Command → Item
by_default c = Labelled (label tree.Default no_labels) c

-- Sections: `GLOBAL $( START:1; WRCH:14 $)`, these declarations, and `LET START() BE ..`
abbrev pub section : List Declaration → Block → Declarations
section ds b =
    declarations (constants storage.Global ((start, number 1) ∷ (wrch, number 14) ∷ []) ∷ (ds ++ lets (tree.Routine start [] b ∷ []) ∷ []))

-- `MANIFEST $( N = k $)`
abbrev pub manifest : Name → ℕ → Declaration
manifest n k = constants storage.Manifest ((n, number k) ∷ [])

-- Runs, with places at 546, 547, .. by their labels, and one output
abbrev pub runs : Declarations → Result
runs ds =
    let placed : List PlacedSection = record { declarations = ds; address = λ label. 545 + label } ∷ [] in
    meaning_over (cells_from 600 0 (standing_in placed)) (find placed) 560 (start_streams [] ((79 ∷ []) ∷ [])) 100

abbrev pub run : Block → Result
run b = runs (section [] b)

abbrev pub printed : List ℕ → Result
printed bytes = Ended (bytes ∷ []) Finished

-- Frames of the routines, in text order
abbrev pub frames_among : List Thing → List ℕ
frames_among [] = []
frames_among (ARoutine r ∷ things) = frame_of r ∷ frames_among things
frames_among (AValof f ∷ things) = frames_among things
frames_among (Data m d ∷ things) = frames_among things

abbrev pub frames : Declarations → List ℕ
frames ds = frames_among (found_in_section ds)

-- Translations

abbrev pub at : ℕ → core.Exp
at k = core.Load (core.Frame k)

abbrev pub these : List c.Command → c.Items
these [] = c.no_item
these (d ∷ ds) = c.command d (these ds)

abbrev pub routine : Option ℕ → c.Block → c.Place
routine global b = c.Code (record { global = global; parameters = 0; body = c.Does b })
