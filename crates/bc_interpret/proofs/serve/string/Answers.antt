use Rattle.std.proofs.Common.{◌≡◌, ◌+◌, ap, subst, sym}
use Rattle.bc_interpret.specs.Serving.{Gets, Naming}
use Rattle.bc_core.specs.Primitive.{byte_of_string}
use Rattle.bc_interpret.proofs.Serving.{naming_more, no_name}
use Rattle.bc_interpret.proofs.serve.string.Goals as goal
use Rattle.std.specs.Prelude.{Ok, Err}

pub returns-in-Err-byte_at : goal.returns-in-Err-byte_at
returns-in-Err-byte_at c =
    let e : c.from.result + 1 ≡ c.loop-k.k + 1 = ap (λ n. n + 1) c.from.ensures in
    no_name c.args.state.now c.args.address c.in-Ok.length c.loop-k.k c.loop-k.name.items c.loop-k.name.items c.in-Err-byte_at.cause c.in-Ok.ensures c.loop-k-test.true c.loop-k.invariant
    (subst (λ n. Gets (byte_of_string c.args.address n) c.args.state.now (Err c.in-Err-byte_at.cause)) e c.in-Err-byte_at.ensures)

pub loop-k-preserved : goal.loop-k-preserved
loop-k-preserved c =
    let e : c.from.result + 1 ≡ c.loop-k.k + 1 = ap (λ n. n + 1) c.from.ensures in
    subst (λ name. Naming c.args.state.now c.args.address c.in-Ok.length (c.loop-k.k + 1) name) (sym c.in_ok-push-in-Ok-byte_at.ensures.items)
    (naming_more c.args.state.now c.args.address c.in-Ok.length c.loop-k.k c.loop-k.name.items c.in-Ok-byte_at.byte c.loop-k-test.true c.loop-k.invariant
    (subst (λ n. Gets (byte_of_string c.args.address n) c.args.state.now (Ok c.in-Ok-byte_at.byte)) e c.in-Ok-byte_at.ensures))
