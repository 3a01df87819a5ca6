-- The pieces up to here, and the result after them.
use Rattle.std.proofs.lemmas.Result.{err_from_is_err_and}
use Rattle.bc_text.proofs.Feeding.{whole_only, whole_refused, piece_refused, all_read}
use Rattle.bc_text.proofs.reader.read_all.Goals as goal

pub returns-in_err-feed-clause-answer : goal.returns-in_err-feed-clause-answer
returns-in_err-feed-clause-answer c =
    let p = err_from_is_err_and c.from_residual.result c.from_residual.ensures.1 in
    rw (p.1, p.2) (piece_refused _ _ _ _ c.loop-piece-test.true (c.in_err-feed.ensures.answer _ c.loop-piece.invariant))

pub returns-in_err-feed-clause-only : goal.returns-in_err-feed-clause-only
returns-in_err-feed-clause-only c =
    let p = err_from_is_err_and c.from_residual.result c.from_residual.ensures.1 in
    whole_only _ _ (rw (p.1, p.2) (piece_refused _ _ _ _ c.loop-piece-test.true (c.in_err-feed.ensures.answer _ c.loop-piece.invariant)))

pub returns-in_err-feed-clause-refused : goal.returns-in_err-feed-clause-refused
returns-in_err-feed-clause-refused c =
    let p = err_from_is_err_and c.from_residual.result c.from_residual.ensures.1 in
    whole_refused _ _ (rw (p.1, p.2) (piece_refused _ _ _ _ c.loop-piece-test.true (c.in_err-feed.ensures.answer _ c.loop-piece.invariant)))

pub returns-clause-only : goal.returns-clause-only
returns-clause-only c = whole_only _ _ (all_read _ _ _ c.loop-piece-test.false (c.finish.ensures.answer _ c.loop-piece.invariant))

pub returns-clause-refused : goal.returns-clause-refused
returns-clause-refused c = whole_refused _ _ (all_read _ _ _ c.loop-piece-test.false (c.finish.ensures.answer _ c.loop-piece.invariant))
