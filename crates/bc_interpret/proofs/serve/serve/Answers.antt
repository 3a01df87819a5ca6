use Rattle.std.proofs.Common.{◌≡◌, ◌+◌, ap, refl, ◌∙◌}
use Rattle.bc_core.specs.Primitive.{primitive_work}
use Rattle.bc_core.specs.Store.{closed}
use Rattle.bc_interpret_steps.specs.Came.{primitive_of}
use Rattle.bc_interpret_steps.specs.declared.state.State.{State}
use Rattle.bc_interpret.proofs.Serving.{closed_serves, closed_numbers}
use Rattle.bc_interpret.proofs.serve.serve.Goals as goal

pub returns : goal.returns
returns g c =
    let old = c.args.state.now in
    let f = c.args.call.frame in
    let q = primitive_of c.args.primitive in
    let new : State = record old { store = c.close.new.self } in
    let h = c.in_ok-served.ensures f c.in_ok-argument.ensures in
    let e : new.store ≡ closed 1 (f + 2) old.store = c.close.ensures ∙ ap (λ a. closed 1 a old.store) (c.from.ensures ∙ c.in_ok-argument.ensures) in
    record {
      exact = λ known. closed_serves (primitive_work q f) (f + 2) old new _ _ c.in_ok-served.served e refl (h.exact known);
      numbers = closed_numbers (primitive_work q f) (f + 2) old new c.in_ok-served.served e refl h.numbers;
      blamed = h.blamed;
      kept = h.kept;
      failed = h.failed;
      counted = h.counted;
    }
