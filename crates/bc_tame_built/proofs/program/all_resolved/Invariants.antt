use Rattle.std.proofs.Common.{drop, map}
use Rattle.bc_core.specs.View.{section}
use Rattle.bc_lex.specs.Files.{files_of}
use Rattle.bc_tame_built.specs.Laws.{AreResolved}
use Rattle.bc_tame_built.proofs.program.all_resolved.Given as goal

abbrev pub invariant-loop-main : goal.invariant-loop-main
invariant-loop-main l = AreResolved (files_of l.sources) l.mains (drop l.main-index l.mains) (map section l.cores.items)
