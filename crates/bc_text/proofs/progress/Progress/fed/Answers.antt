-- Taking byte after byte is the run over the piece.
use Rattle.std.proofs.Common.{sym, ◌∙◌}
use Rattle.std.proofs.lemmas.Result.{err_from_is_err_and}
use Rattle.bc_text.proofs.Runs.{run-step, run-refused, run-all}
use Rattle.bc_text.proofs.progress.Progress.fed.Goals as goal

pub returns-in_err-take : goal.returns-in_err-take
returns-in_err-take c =
    let p = err_from_is_err_and c.from_residual.result c.from_residual.ensures.1 in
    rw (p.1, p.2) (run-refused _ _ _ _ _ c.loop-byte-test.true c.loop-byte.invariant c.in_err-take.ensures)

pub loop-byte-preserved : goal.loop-byte-preserved
loop-byte-preserved c = run-step _ _ _ _ c.loop-byte-test.true c.in_ok-take.ensures ∙ c.loop-byte.invariant

pub returns : goal.returns
returns c = sym c.loop-byte.invariant ∙ run-all _ _ _ c.loop-byte-test.false
