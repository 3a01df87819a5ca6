use Rattle.bc_build.proofs.Ending.{run_ends_as_meant}
use Rattle.bc_build.proofs.laws.run_ends_as_meant.Goals as goal

pub returns : goal.returns
returns g c = λ sections image steps old new end runs_so known run.
    run_ends_as_meant sections image steps _ _ _ _ _ _ end runs_so known (g.S.Streams.holds_bytes old known) run
