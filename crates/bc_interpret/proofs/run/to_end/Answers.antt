use Rattle.std.proofs.Common.{refl, arith, subst, ap, ◌∙◌}
use Rattle.bc_machine.proofs.Failures.{rose_from}
use Rattle.bc_interpret.specs.Moving.{next_of, Keeps, Tracks}
use Rattle.bc_interpret.specs.declared.run.Moved.TheVariants.{On, Over}
use Rattle.bc_interpret.proofs.Moving.{keeps_on, tracks_on, turn_taken}
use Rattle.bc_interpret.proofs.run.to_end.Goals as goal

pub loop-moved-init : goal.loop-moved-init
loop-moved-init g c = record {
  keeps = λ known program t n l. refl;
  tracks = λ known program t cause calls h. h;
  fewer = omega arith;
  kept = λ known. known;
  counted = omega arith;
}

pub loop-moved-preserved : goal.loop-moved-preserved
loop-moved-preserved g c =
    let i = c.loop-moved.invariant in
    let h = c.in_ok-moved.ensures in
    let fewer = i.fewer in
    let less = turn_taken c.in_ok-moved.moved c.loop-moved.run c.stretch.new.run c.in-On.is h.turn in
    record {
      keeps = λ known. keeps_on c.args.table.now (next_of c.args.run.now) c.args.run.now c.loop-moved.run c.stretch.new.run (g.S.Streams.content c.args.streams.now) (g.S.Streams.content c.loop-moved.streams) (g.S.Streams.content c.stretch.new.streams) On (i.keeps known) fewer
          (subst (λ m. Keeps c.args.table.now (next_of c.loop-moved.run) c.loop-moved.run (g.S.Streams.content c.loop-moved.streams) m c.stretch.new.run (g.S.Streams.content c.stretch.new.streams)) c.in-On.is (h.keeps (i.kept known)));
      tracks = λ known. tracks_on c.args.table.now (next_of c.args.run.now) c.args.run.now c.loop-moved.run c.stretch.new.run (g.S.Streams.content c.args.streams.now) (g.S.Streams.content c.loop-moved.streams) (g.S.Streams.content c.stretch.new.streams) On (i.tracks known)
          (subst (λ m. Tracks c.args.table.now (next_of c.loop-moved.run) c.loop-moved.run (g.S.Streams.content c.loop-moved.streams) m c.stretch.new.run (g.S.Streams.content c.stretch.new.streams)) c.in-On.is (h.tracks (i.kept known)));
      fewer = omega (arith, fewer, less);
      kept = λ known. h.kept (i.kept known);
      counted = omega (arith, i.counted, h.counted);
    }

pub loop-moved-smaller : goal.loop-moved-smaller
loop-moved-smaller g c = turn_taken c.in_ok-moved.moved c.loop-moved.run c.stretch.new.run c.in-On.is c.in_ok-moved.ensures.turn

pub returns-in-Over : goal.returns-in-Over
returns-in-Over g c =
    let i = c.loop-moved.invariant in
    let h = c.in_ok-moved.ensures in
    record {
      means = λ known. keeps_on c.args.table.now (next_of c.args.run.now) c.args.run.now c.loop-moved.run c.stretch.new.run (g.S.Streams.content c.args.streams.now) (g.S.Streams.content c.loop-moved.streams) (g.S.Streams.content c.stretch.new.streams) (Over c.in-Over.outcome) (i.keeps known) i.fewer
          (subst (λ m. Keeps c.args.table.now (next_of c.loop-moved.run) c.loop-moved.run (g.S.Streams.content c.loop-moved.streams) m c.stretch.new.run (g.S.Streams.content c.stretch.new.streams)) c.in-Over.is (h.keeps (i.kept known)));
      names = λ known. tracks_on c.args.table.now (next_of c.args.run.now) c.args.run.now c.loop-moved.run c.stretch.new.run (g.S.Streams.content c.args.streams.now) (g.S.Streams.content c.loop-moved.streams) (g.S.Streams.content c.stretch.new.streams) (Over c.in-Over.outcome) (i.tracks known)
          (subst (λ m. Tracks c.args.table.now (next_of c.loop-moved.run) c.loop-moved.run (g.S.Streams.content c.loop-moved.streams) m c.stretch.new.run (g.S.Streams.content c.stretch.new.streams)) c.in-Over.is (h.tracks (i.kept known)));
      kept = λ known. h.kept (i.kept known);
      failed = λ e. rose_from _ _ _ i.counted h.counted (h.failed (c.in-Over.is ∙ ap Over e));
      counted = omega (arith, i.counted, h.counted);
    }
