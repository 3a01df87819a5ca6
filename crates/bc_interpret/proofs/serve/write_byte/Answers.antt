use Rattle.std.proofs.Common.{sym, ap, ◌∙◌, arith}
use Rattle.std.specs.Prelude.{◌%◌}
use Rattle.bc_machine_defs.specs.StreamCalls.{after_write}
use Rattle.bc_core.specs.Outcome.{Done}
use Rattle.bc_core.specs.Primitive.{on_streams, primitive_work}
use Rattle.bc_core.specs.Primitive as primitives
use Rattle.bc_interpret_steps.specs.Came.{state_of}
use Rattle.bc_interpret.proofs.Serving.{written, not_read, wild_now}
use Rattle.bc_interpret.proofs.serve.write_byte.Goals as goal

pub returns-in-Ok-write : goal.returns-in-Ok-write
returns-in-Ok-write g c = λ f e.
    let st = c.args.state.now in
    let w = c.in-Ok.word in
    record {
      exact = λ known. written st c.args.argument f w e c.in-Ok.ensures (g.S.Streams.content c.args.streams.now)
          ∙ ap (λ s. Done 0 (state_of st s)) (sym (c.in-Ok-write.ensures.ok known));
      numbers = λ streams. (0, after_write (w % 256) streams, written st c.args.argument f w e c.in-Ok.ensures streams);
      blamed = tt;
      kept = c.in-Ok-write.ensures.known;
      failed = λ x. absurd cc;
      counted = omega (arith, c.in-Ok-write.ensures.counted);
    }

pub returns-in-Err-write : goal.returns-in-Err-write
returns-in-Err-write g c = λ f e. record {
  exact = λ known. tt;
  numbers = tt;
  blamed = tt;
  kept = c.in-Err-write.ensures.known;
  failed = λ x. c.in-Err-write.ensures.failed;
  counted = omega (arith, c.in-Err-write.ensures.counted);
}

pub returns-in-Err : goal.returns-in-Err
returns-in-Err g c = λ f e.
    let st = c.args.state.now in
    let cause = c.in-Err.cause in
    let blamed = not_read st c.args.argument f cause (λ m. on_streams (after_write (m % 256)) 0) e c.in-Err.ensures in
    record {
      exact = λ known. wild_now (primitive_work primitives.WriteByte f) st cause blamed (g.S.Streams.content c.args.streams.now);
      numbers = tt;
      blamed = blamed;
      kept = λ known. known;
      failed = λ x. absurd cc;
      counted = omega arith;
    }
