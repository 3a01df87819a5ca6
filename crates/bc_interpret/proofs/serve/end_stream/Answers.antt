use Rattle.std.proofs.Common.{refl, sym, ap, arith}
use Rattle.bc_machine_defs.specs.StreamCalls.{end_stream}
use Rattle.bc_core.specs.Outcome.{Done}
use Rattle.bc_interpret_steps.specs.Came.{state_of}
use Rattle.bc_interpret.proofs.serve.end_stream.Goals as goal

pub returns-in-Ok : goal.returns-in-Ok
returns-in-Ok g c = λ f. record {
  exact = λ known. ap (λ s. Done 0 (state_of c.args.state.now s)) (sym (c.in-Ok.ensures.ok known));
  numbers = λ streams. (0, end_stream c.args.side streams, refl);
  blamed = tt;
  kept = c.in-Ok.ensures.known;
  failed = λ x. absurd cc;
  counted = omega (arith, c.in-Ok.ensures.counted);
}

pub returns-in-Err : goal.returns-in-Err
returns-in-Err g c = λ f. record {
  exact = λ known. tt;
  numbers = tt;
  blamed = tt;
  kept = c.in-Err.ensures.known;
  failed = λ x. c.in-Err.ensures.failed;
  counted = omega (arith, c.in-Err.ensures.counted);
}
