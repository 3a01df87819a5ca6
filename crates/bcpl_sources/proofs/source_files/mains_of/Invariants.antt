use Rattle.std.specs.Prelude.{◌<◌, All}
use Rattle.bcpl_sources.proofs.source_files.mains_of.Given as goal

abbrev pub invariant-loop-source : goal.invariant-loop-source
invariant-loop-source l = All (λ main. main < l.fn.sources) l.mains.items
