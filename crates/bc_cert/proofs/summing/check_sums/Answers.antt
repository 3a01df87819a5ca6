-- The state after the bytes read up to here, and the result at the end of the input.
use Rattle.std.specs.Prelude.{OnOk, Err}
use Rattle.std.proofs.Common.{◌∙◌, ◌≡◌, ◌≤◌, ◌+◌, Ok, refl, ap, sym, subst, take, length, length-take, arith}
use Rattle.bc_cert_defs.specs.View.{judged}
use Rattle.bc_cert_read.specs.Stacks.{AreParallel}
use Rattle.bc_cert.specs.View.{own, fed_after, gone}
use Rattle.bc_cert.proofs.Lengths.{seen_length}
use Rattle.bc_cert.proofs.Summed.{own_is_fed, found_none, found_more, found_moved, found_few, found_fault, found_answer}
use Rattle.bc_cert.specs.Answer.{IsShort}
use Rattle.bc_cert.proofs.Short.{leaves_all, leaves_less, short_at_end}
use Rattle.bc_cert.proofs.summing.check_sums.Goals as goal

pub loop-init : goal.loop-init
loop-init g c =
    let fresh = c.new-checker.ensures in
    let begins = own_is_fed c.new-checker.result fresh.passed ∙ fresh.exact in
    record {
      so_far = found_none (g.R.Read.remaining c.args.input) (own c.new-checker.result, c.new-checker.result.line.items) c.new-checker.result.passed 0 begins fresh.passed refl;
      parallel = fresh.parallel;
      few = omega (arith, fresh.lines.0);
      nodes = omega (arith, fresh.lines.0, fresh.lines.1);
      passed = omega (arith, fresh.passed);
      none = ap (λ x. x.0.entries) begins;
      short = leaves_all (g.R.Read.remaining c.args.input);
    }

pub returns-then-count-eq0-clause-answer : goal.returns-then-count-eq0-clause-answer
returns-then-count-eq0-clause-answer g c =
    let read = (c.in-Ok.ensures {u = tt}).bytes in
    found_answer (g.R.Read.remaining c.args.input) _ _ (own c.loop.checker, c.loop.checker.line.items) c.loop.checker.passed c.loop.words c.read.new.buf c.in-Ok.count c.sums.result c.if-count-eq0.true c.loop.invariant.so_far read.0 (read.1 c.if-count-eq0.true (omega arith)) c.loop.invariant.none c.sums.ensures.exact c.sums.ensures.sums

pub returns-in-Err-clause-answer : goal.returns-in-Err-clause-answer
returns-in-Err-clause-answer g c =
    let read = (c.in-Ok.ensures {u = tt}).bytes in
    found_fault (g.R.Read.remaining c.args.input) _ _ (own c.loop.checker, c.loop.checker.line.items) c.loop.checker.passed c.loop.words c.read.new.buf c.min-kept.result c.in-Ok.count c.in-Err.fault (omega arith) c.loop.invariant.so_far read.0 (c.in-Err.ensures {u = tt}).exact

pub forget-words-requires : goal.forget-words-requires
forget-words-requires g c =
    let done = c.in_default-feed.ensures {u = tt} in
    let passed = done.passed in
    let led = done.exact ∙ ap (λ n. Ok (fed_after (gone n) (own c.feed.new.self, c.feed.new.self.line.items))) passed in
    let few = found_few (own c.loop.checker, c.loop.checker.line.items) (own c.feed.new.self, c.feed.new.self.line.items) c.loop.checker.passed _ _ c.loop.words (take c.min-kept.result c.read.new.buf) c.loop.invariant.so_far c.loop.invariant.none led in
    let short : length (take c.min-kept.result c.read.new.buf) ≤ c.min-kept.result = simp length-take (omega arith) in
    let seen = seen_length judged c.feed.new.self.entries.items in
    omega (arith, few, short, seen, passed, c.loop.invariant.passed)

pub loop-preserved : goal.loop-preserved
loop-preserved g c =
    let read = (c.in-Ok.ensures {u = tt}).bytes in
    let done = c.in_default-feed.ensures {u = tt} in
    let forgot = c.forget-words.ensures in
    let passed = done.passed in
    let led = done.exact ∙ ap (λ n. Ok (fed_after (gone n) (own c.feed.new.self, c.feed.new.self.line.items))) passed in
    let few = found_few (own c.loop.checker, c.loop.checker.line.items) (own c.feed.new.self, c.feed.new.self.line.items) c.loop.checker.passed _ _ c.loop.words (take c.min-kept.result c.read.new.buf) c.loop.invariant.so_far c.loop.invariant.none led in
    let short : length (take c.min-kept.result c.read.new.buf) ≤ c.min-kept.result = simp length-take (omega arith) in
    let seen = seen_length judged c.feed.new.self.entries.items in
    let more : c.feed.new.self.lines ≤ c.loop.checker.lines + length (take c.min-kept.result c.read.new.buf) = done.few in
    let lines : c.forget-words.new.self.lines ≡ c.feed.new.self.lines = ap (λ st. st.lines) forgot.own in
    let nodes : c.forget-words.new.self.nodes ≡ c.feed.new.self.nodes = ap (λ st. st.nodes) forgot.own in
    let gone_on = forgot.passed in
    record {
      so_far = found_moved (g.R.Read.remaining c.args.input) _ _ _ _ _ c.forget-words.result
          (found_more (g.R.Read.remaining c.args.input) _ _ (own c.loop.checker, c.loop.checker.line.items) (own c.feed.new.self, c.feed.new.self.line.items) c.loop.checker.passed c.loop.words c.forget-words.result c.read.new.buf c.min-kept.result c.in-Ok.count (omega arith) c.loop.invariant.so_far read.0 c.loop.invariant.none led forgot.words)
          (ap (λ st. (st, c.feed.new.self.line.items)) (sym forgot.own) ∙ ap (λ l. (own c.forget-words.new.self, l)) (sym forgot.kept))
          (omega (arith, seen, passed, gone_on));
      parallel = subst (λ st. AreParallel st.trees) (sym forgot.own) done.parallel;
      few = omega (arith, short, more, lines, c.loop.invariant.few);
      nodes = omega (arith, lines, nodes, done.nodes);
      passed = omega (arith, few, short, seen, passed, gone_on, c.loop.invariant.passed);
      none = ap (λ st. st.entries) forgot.own;
      short = leaves_less (g.R.Read.remaining c.args.input) _ _ c.read.new.buf c.loop.left c.min-kept.result c.in-Ok.count (omega arith) (omega arith) c.loop.invariant.short read.0;
    }

pub returns-then-count-eq0-clause-bound : goal.returns-then-count-eq0-clause-bound
returns-then-count-eq0-clause-bound g c =
    let read = (c.in-Ok.ensures {u = tt}).bytes in
    elim c.sums.result as (λ r. OnOk r (IsShort (g.R.Read.remaining c.args.input))) [
      | Ok v ↦ short_at_end (g.R.Read.remaining c.args.input) _ _ c.read.new.buf c.loop.left c.in-Ok.count c.if-count-eq0.true c.loop.invariant.short read.0 (read.1 c.if-count-eq0.true (omega arith))
      | Err f ↦ tt
    ]
