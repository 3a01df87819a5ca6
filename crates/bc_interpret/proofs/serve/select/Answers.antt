use Rattle.std.proofs.Common.{sym, ap, ◌∙◌, arith}
use Rattle.bc_machine_defs.specs.StreamCalls.{select_stream}
use Rattle.bc_core.specs.Outcome.{Done}
use Rattle.bc_core.specs.Primitive.{on_streams, primitive_work}
use Rattle.bc_core.specs.Primitive as primitives
use Rattle.bc_interpret_steps.specs.Came.{state_of}
use Rattle.bc_interpret.proofs.Serving.{selected, not_read, wild_now}
use Rattle.bc_interpret.proofs.serve.select.Goals as goal

pub returns-in-Ok : goal.returns-in-Ok
returns-in-Ok g c = λ f e.
    let st = c.args.state.now in
    let side = c.args.side in
    let n = c.in-Ok.number in
    let before = g.S.Streams.content c.args.streams.now in
    record {
      exact = λ known. selected st side c.args.argument f n e c.in-Ok.ensures before
          ∙ ap (λ s. Done 0 (state_of st s)) (ap (λ m. select_stream side m before) (sym c.new.ensures) ∙ sym (c.select.ensures.content known));
      numbers = λ streams. (0, select_stream side n streams, selected st side c.args.argument f n e c.in-Ok.ensures streams);
      blamed = tt;
      kept = c.select.ensures.known;
      failed = λ x. absurd cc;
      counted = omega (arith, c.select.ensures.counted);
    }

pub returns-in-Err : goal.returns-in-Err
returns-in-Err g c = λ f e.
    let st = c.args.state.now in
    let cause = c.in-Err.cause in
    let blamed = not_read st c.args.argument f cause (λ m. on_streams (select_stream c.args.side m) 0) e c.in-Err.ensures in
    record {
      exact = λ known. wild_now (primitive_work (primitives.Select c.args.side) f) st cause blamed (g.S.Streams.content c.args.streams.now);
      numbers = tt;
      blamed = blamed;
      kept = λ known. known;
      failed = λ x. absurd cc;
      counted = omega arith;
    }
