use Rattle.std.proofs.Common.{◌++◌, take, inl, inr, arith}
use Rattle.bc_run.proofs.Given.{begins-part, all-given, wrong-in-all}
use Rattle.bc_run.proofs.running.read_text.Goals as goal
use Rattle.bc_run.proofs.running.read_text.Goals.{in-Ok-finish, in-Err}

pub returns-in-Err-feed-clause-fault : goal.returns-in-Err-feed-clause-fault
returns-in-Err-feed-clause-fault g c =
    let bytes = c.loop.invariant.0 in
    let kept = c.min-kept.result in
    let front = begins-part (g.R.Read.remaining c.args.text) _ _ bytes c.read.new.buf kept c.in-Ok.count (omega arith) c.loop.invariant.2 c.in-Ok.ensures.bytes.0 in
    let answer = c.in-Err-feed.ensures.answer bytes c.loop.invariant.1 in
    elim answer [ inl memory ↦ inl memory | inr fault ↦ inr (inl (bytes ++ take kept c.read.new.buf, front, fault)) ]

pub returns-then-count-eq0-clause-fault : goal.returns-then-count-eq0-clause-fault
returns-then-count-eq0-clause-fault g c =
    let known = g.R.Read.remaining c.args.text in
    let bytes = c.loop.invariant.0 in
    let all = all-given known _ _ bytes c.read.new.buf c.in-Ok.count c.if-count-eq0.true c.loop.invariant.2 c.in-Ok.ensures.bytes.0 (c.in-Ok.ensures.bytes.1 c.if-count-eq0.true (omega arith)) in
    elim c.match-finish.branch [
      | in-Ok-finish w ↦ rw w.result-is tt
      | in-Err w ↦ rw w.result-is (wrong-in-all known bytes w.in-Err.fault all (omega (arith, c.loop.invariant.3)) (w.in-Err.ensures.answer bytes c.loop.invariant.1))
    ]
