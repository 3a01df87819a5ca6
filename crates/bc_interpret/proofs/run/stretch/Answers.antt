use Rattle.std.proofs.Common.{refl, arith, subst, ◌∙◌}
use Rattle.bc_machine.proofs.Failures.{rose_from}
use Rattle.bc_interpret.specs.Moving.{next_of, Keeps, Tracks, Lessened}
use Rattle.bc_interpret.specs.declared.run.Moved.TheVariants.{On, Over}
use Rattle.bc_interpret.proofs.Moving.{keeps_on, tracks_on}
use Rattle.bc_interpret.proofs.run.stretch.Goals as goal

pub loop-moved-init : goal.loop-moved-init
loop-moved-init g c = record {
  keeps = λ known program t n l. refl;
  tracks = λ known program t cause calls h. h;
  same = refl;
  kept = λ known. known;
  counted = omega arith;
}

pub returns-then-run-before : goal.returns-then-run-before
returns-then-run-before g c =
    let i = c.loop-moved.invariant in
    let h = c.in_ok-moved.ensures in
    let same = i.same in
    record {
      keeps = λ known. keeps_on c.args.table.now (next_of c.args.run.now) c.args.run.now c.loop-moved.run c.advance.new.run (g.S.Streams.content c.args.streams.now) (g.S.Streams.content c.loop-moved.streams) (g.S.Streams.content c.advance.new.streams) On (i.keeps known) (omega (arith, same))
          (subst (λ m. Keeps c.args.table.now (next_of c.loop-moved.run) c.loop-moved.run (g.S.Streams.content c.loop-moved.streams) m c.advance.new.run (g.S.Streams.content c.advance.new.streams)) c.in-On.is (h.keeps (i.kept known)));
      tracks = λ known. tracks_on c.args.table.now (next_of c.args.run.now) c.args.run.now c.loop-moved.run c.advance.new.run (g.S.Streams.content c.args.streams.now) (g.S.Streams.content c.loop-moved.streams) (g.S.Streams.content c.advance.new.streams) On (i.tracks known)
          (subst (λ m. Tracks c.args.table.now (next_of c.loop-moved.run) c.loop-moved.run (g.S.Streams.content c.loop-moved.streams) m c.advance.new.run (g.S.Streams.content c.advance.new.streams)) c.in-On.is (h.tracks (i.kept known)));
      turn = omega (arith, same, c.if-run-before.true);
      kept = λ known. h.kept (i.kept known);
      failed = λ e. absurd cc;
      counted = omega (arith, i.counted, h.counted);
    }

pub loop-moved-preserved : goal.loop-moved-preserved
loop-moved-preserved g c =
    let i = c.loop-moved.invariant in
    let h = c.in_ok-moved.ensures in
    let same = i.same in
    let less = subst (λ m. Lessened (next_of c.loop-moved.run) c.loop-moved.run m c.advance.new.run) c.in-On.is h.lessened in
    record {
      keeps = λ known. keeps_on c.args.table.now (next_of c.args.run.now) c.args.run.now c.loop-moved.run c.advance.new.run (g.S.Streams.content c.args.streams.now) (g.S.Streams.content c.loop-moved.streams) (g.S.Streams.content c.advance.new.streams) On (i.keeps known) (omega (arith, same))
          (subst (λ m. Keeps c.args.table.now (next_of c.loop-moved.run) c.loop-moved.run (g.S.Streams.content c.loop-moved.streams) m c.advance.new.run (g.S.Streams.content c.advance.new.streams)) c.in-On.is (h.keeps (i.kept known)));
      tracks = λ known. tracks_on c.args.table.now (next_of c.args.run.now) c.args.run.now c.loop-moved.run c.advance.new.run (g.S.Streams.content c.args.streams.now) (g.S.Streams.content c.loop-moved.streams) (g.S.Streams.content c.advance.new.streams) On (i.tracks known)
          (subst (λ m. Tracks c.args.table.now (next_of c.loop-moved.run) c.loop-moved.run (g.S.Streams.content c.loop-moved.streams) m c.advance.new.run (g.S.Streams.content c.advance.new.streams)) c.in-On.is (h.tracks (i.kept known)));
      same = omega (arith, same, less.0, c.if-run-before.false);
      kept = λ known. h.kept (i.kept known);
      counted = omega (arith, i.counted, h.counted);
    }

pub loop-moved-smaller : goal.loop-moved-smaller
loop-moved-smaller g c =
    let less = subst (λ m. Lessened (next_of c.loop-moved.run) c.loop-moved.run m c.advance.new.run) c.in-On.is c.in_ok-moved.ensures.lessened in
    less.1 c.if-run-before.false

pub returns-in-Over : goal.returns-in-Over
returns-in-Over g c =
    let i = c.loop-moved.invariant in
    let h = c.in_ok-moved.ensures in
    let same = i.same in
    record {
      keeps = λ known. keeps_on c.args.table.now (next_of c.args.run.now) c.args.run.now c.loop-moved.run c.advance.new.run (g.S.Streams.content c.args.streams.now) (g.S.Streams.content c.loop-moved.streams) (g.S.Streams.content c.advance.new.streams) (Over c.in-Over.outcome) (i.keeps known) (omega (arith, same))
          (subst (λ m. Keeps c.args.table.now (next_of c.loop-moved.run) c.loop-moved.run (g.S.Streams.content c.loop-moved.streams) m c.advance.new.run (g.S.Streams.content c.advance.new.streams)) c.in-Over.is (h.keeps (i.kept known)));
      tracks = λ known. tracks_on c.args.table.now (next_of c.args.run.now) c.args.run.now c.loop-moved.run c.advance.new.run (g.S.Streams.content c.args.streams.now) (g.S.Streams.content c.loop-moved.streams) (g.S.Streams.content c.advance.new.streams) (Over c.in-Over.outcome) (i.tracks known)
          (subst (λ m. Tracks c.args.table.now (next_of c.loop-moved.run) c.loop-moved.run (g.S.Streams.content c.loop-moved.streams) m c.advance.new.run (g.S.Streams.content c.advance.new.streams)) c.in-Over.is (h.tracks (i.kept known)));
      turn = tt;
      kept = λ known. h.kept (i.kept known);
      failed = λ e. rose_from _ _ _ i.counted h.counted (h.failed (c.in-Over.is ∙ e));
      counted = omega (arith, i.counted, h.counted);
    }
