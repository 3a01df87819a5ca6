use Rattle.std.proofs.Common.{refl, arith}
use Rattle.bc_machine_defs.specs.Execute.{byte_or_end}
use Rattle.bc_machine_defs.specs.StreamCalls.{read_byte, after_read}
use Rattle.bc_interpret.proofs.Serving.{was_read}
use Rattle.bc_interpret.proofs.serve.read_byte.Goals as goal

pub returns-in-Ok : goal.returns-in-Ok
returns-in-Ok g c = λ f. record {
  exact = λ known. was_read c.args.state.now f c.value_of.result c.in-Ok.byte (g.S.Streams.content c.args.streams.now) (g.S.Streams.content c.read.new.self) c.value_of.ensures (c.in-Ok.ensures.byte known) (c.in-Ok.ensures.ok known);
  numbers = λ streams. (byte_or_end (read_byte streams), after_read streams, refl);
  blamed = tt;
  kept = c.in-Ok.ensures.known;
  failed = λ x. absurd cc;
  counted = omega (arith, c.in-Ok.ensures.counted);
}

pub returns-in-Err : goal.returns-in-Err
returns-in-Err g c = λ f. record {
  exact = λ known. tt;
  numbers = tt;
  blamed = tt;
  kept = c.in-Err.ensures.known;
  failed = λ x. c.in-Err.ensures.failed;
  counted = omega (arith, c.in-Err.ensures.counted);
}
