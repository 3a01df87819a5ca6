use Rattle.std.proofs.Common.{◌≡◌, drop}
use Rattle.bc_lex.specs.Files.{files_of}
use Rattle.bc_lex.specs.Search.{source_from}
use Rattle.bc_lex.proofs.source.source_named.Given as goal

abbrev pub invariant-loop-index : goal.invariant-loop-index
invariant-loop-index l = source_from l.string l.index (files_of (drop l.index l.sources)) ≡ source_from l.string 0 (files_of l.sources)
