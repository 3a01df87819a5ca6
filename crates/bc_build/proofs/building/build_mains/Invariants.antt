use Rattle.std.proofs.Common.{drop, map}
use Rattle.std.specs.List.{AllZip}
use Rattle.bc_rules_defs.specs.View.{entry as entry_view}
use Rattle.bc_cert_write.specs.Workings.{WorkedOut}
use Rattle.bc_lex.specs.Files.{files_of}
use Rattle.bc_build.specs.Steps.{AreCoded}
use Rattle.bc_build.proofs.building.build_mains.Given as goal

abbrev pub invariant-loop-number : goal.invariant-loop-number
invariant-loop-number l = record {
  coded : AreCoded (files_of l.sources) l.mains l.number (drop l.number l.mains) l.segments.items l.entries.items;
  worked : AllZip WorkedOut (map entry_view l.entries.items) l.workings.items;
}
