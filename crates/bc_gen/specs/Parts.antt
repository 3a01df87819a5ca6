-- The views of the program's marks and parts of code.
use Rattle.std.specs.Prelude.{List, map}
use Rattle.bc_core.specs.View.{root}
use Rattle.bc_rules_defs.specs.View.{derivation}
use Rattle.bc_gen_defs.specs.Entries.{Marked, Plain, Begins}
use Rattle.bc_gen_defs.specs.Entries as entries
use Rattle.bc_gen.specs.declared.root_mark.RootMark.{RootMark}
use Rattle.bc_gen.specs.declared.marked_items.MarkedItem.{MarkedItem}
use Rattle.bc_gen.specs.declared.marked_items.MarkedItem.TheVariants as variants

-- the view of a mark
abbrev pub mark : RootMark → entries.Mark
mark m = record { target = m.target; first = m.first; root = root m.root; derivation = derivation m.derivation; bodies = m.bodies.items }

abbrev pub part : MarkedItem → Marked
part (variants.Item i) = Plain i
part (variants.Begins m) = Begins (mark m.value)

-- the view of parts
abbrev pub parts : List MarkedItem → List Marked
parts ps = map part ps
