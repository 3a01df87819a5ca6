-- The state after the bytes read up to here, and the result at the end of the input.
use Rattle.std.specs.Prelude.{OnOk, Ok, Err}
use Rattle.std.proofs.Common.{◌∙◌, subst, ◌++◌, ◌≤◌, ◌+◌, [], take, length, length-take, arith}
use Rattle.bc_cert_defs.specs.View.{verdict}
use Rattle.bc_cert_read.specs.TreeView.{Gives}
use Rattle.bc_cert_laws.specs.Judging.{start, finished}
use Rattle.bc_cert.specs.View.{fed}
use Rattle.bc_cert.proofs.Steps.{answer_at_end, fault_given, fed_more, consumes_more}
use Rattle.bc_cert.proofs.Summed.{own_is_fed}
use Rattle.bc_cert.specs.Answer.{IsShort}
use Rattle.bc_cert.proofs.Short.{leaves_less, short_at_end}
use Rattle.bc_cert.proofs.checking.check.Goals as goal

pub returns-then-count-eq0-clause-answer : goal.returns-then-count-eq0-clause-answer
returns-then-count-eq0-clause-answer g c =
    let so_far = c.loop.invariant.so_far in
    let read = (c.in-Ok.ensures {u = tt}).bytes in
    answer_at_end (g.R.Read.remaining c.args.input) _ _ so_far.0 c.read.new.buf c.in-Ok.count (fed c.loop.checker) c.finish.result c.if-count-eq0.true so_far.2 read.0 (read.1 c.if-count-eq0.true (omega arith)) so_far.1
    (subst (λ s. Gives verdict c.finish.result (finished s)) (own_is_fed c.loop.checker c.loop.invariant.passed) c.finish.ensures)

pub returns-in-Err-clause-answer : goal.returns-in-Err-clause-answer
returns-in-Err-clause-answer g c =
    let so_far = c.loop.invariant.so_far in
    let read = (c.in-Ok.ensures {u = tt}).bytes in
    fault_given (g.R.Read.remaining c.args.input) _ _ so_far.0 c.read.new.buf c.min-kept.result c.in-Ok.count (fed c.loop.checker) c.in-Err.fault (omega arith) so_far.2 read.0 so_far.1 (c.in-Err.ensures {u = tt}).exact

pub loop-preserved : goal.loop-preserved
loop-preserved g c =
    let so_far = c.loop.invariant.so_far in
    let read = (c.in-Ok.ensures {u = tt}).bytes in
    let done = c.in_default-feed.ensures {u = tt} in
    let short : length (take c.min-kept.result c.read.new.buf) ≤ c.min-kept.result = simp length-take (omega arith) in
    let few : c.feed.new.self.lines ≤ c.loop.checker.lines + length (take c.min-kept.result c.read.new.buf) = done.few in
    record {
      so_far = (
        so_far.0 ++ take c.min-kept.result c.read.new.buf,
        fed_more so_far.0 (take c.min-kept.result c.read.new.buf) (start, []) (fed c.loop.checker) (fed c.feed.new.self) so_far.1 done.exact,
        consumes_more (g.R.Read.remaining c.args.input) _ _ so_far.0 c.read.new.buf c.min-kept.result c.in-Ok.count (omega arith) so_far.2 read.0,
      );
      parallel = done.parallel;
      few = omega (arith, short, few, c.loop.invariant.few);
      nodes = done.nodes;
      passed = done.passed ∙ c.loop.invariant.passed;
      short = leaves_less (g.R.Read.remaining c.args.input) _ _ c.read.new.buf c.loop.left c.min-kept.result c.in-Ok.count (omega arith) (omega arith) c.loop.invariant.short read.0;
    }

pub returns-then-count-eq0-clause-bound : goal.returns-then-count-eq0-clause-bound
returns-then-count-eq0-clause-bound g c =
    let read = (c.in-Ok.ensures {u = tt}).bytes in
    elim c.finish.result as (λ r. OnOk r (IsShort (g.R.Read.remaining c.args.input))) [
      | Ok v ↦ short_at_end (g.R.Read.remaining c.args.input) _ _ c.read.new.buf c.loop.left c.in-Ok.count c.if-count-eq0.true c.loop.invariant.short read.0 (read.1 c.if-count-eq0.true (omega arith))
      | Err f ↦ tt
    ]
