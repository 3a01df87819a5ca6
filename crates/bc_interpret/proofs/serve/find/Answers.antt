use Rattle.std.proofs.Common.{sym, ap, ◌∙◌, subst, arith}
use Rattle.bc_machine_defs.specs.StreamCalls.{find_stream}
use Rattle.bc_core.specs.Outcome.{Done, then_do}
use Rattle.bc_core.specs.Primitive.{string_of, primitive_work}
use Rattle.bc_core.specs.Primitive as primitives
use Rattle.bc_interpret_steps.specs.Came.{state_of}
use Rattle.bc_interpret.specs.Serving.{GetsName}
use Rattle.bc_interpret.proofs.Serving.{found, not_found, not_read, wild_now}
use Rattle.bc_interpret.proofs.serve.find.Goals as goal

pub returns-in-None : goal.returns-in-None
returns-in-None g c = λ f e.
    let st = c.args.state.now in
    let name = c.string.new.name.items in
    let named = subst (λ fault. GetsName (string_of c.in-Ok.address) st fault name) c.in-None.is c.in_ok-fault-in-Ok.ensures in
    let content = g.S.Streams.content c.args.streams.now in
    record {
      exact = λ known. found st c.args.side c.args.argument f c.in-Ok.address name e c.in-Ok.ensures named content
          ∙ ap (λ v. Done v (state_of st content)) (sym (c.get.ensures.same ∙ (c.find.ensures known ∙ ap (λ xs. find_stream c.args.side xs content) c.deref.ensures.value)));
      numbers = λ streams. (find_stream c.args.side name streams, streams, found st c.args.side c.args.argument f c.in-Ok.address name e c.in-Ok.ensures named streams);
      blamed = tt;
      kept = λ known. known;
      failed = λ x. absurd cc;
      counted = omega arith;
    }

pub returns-in-Some : goal.returns-in-Some
returns-in-Some g c = λ f e.
    let st = c.args.state.now in
    let name = c.string.new.name.items in
    let named = subst (λ fault. GetsName (string_of c.in-Ok.address) st fault name) c.in-Some.is c.in_ok-fault-in-Ok.ensures in
    let cause = c.in-Some.cause in
    let blamed = not_found st c.args.side c.args.argument f c.in-Ok.address name cause e c.in-Ok.ensures named in
    record {
      exact = λ known. wild_now (primitive_work (primitives.Find c.args.side) f) st cause blamed (g.S.Streams.content c.args.streams.now);
      numbers = tt;
      blamed = blamed;
      kept = λ known. known;
      failed = λ x. absurd cc;
      counted = omega arith;
    }

pub returns-in-Err : goal.returns-in-Err
returns-in-Err g c = λ f e.
    let st = c.args.state.now in
    let cause = c.in-Err.cause in
    let blamed = not_read st c.args.argument f cause (λ x. then_do (string_of x) (λ bytes s. Done (find_stream c.args.side bytes s.streams) s)) e c.in-Err.ensures in
    record {
      exact = λ known. wild_now (primitive_work (primitives.Find c.args.side) f) st cause blamed (g.S.Streams.content c.args.streams.now);
      numbers = tt;
      blamed = blamed;
      kept = λ known. known;
      failed = λ x. absurd cc;
      counted = omega arith;
    }
