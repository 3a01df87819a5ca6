use Rattle.std.proofs.Common.{sym, subst}
use Rattle.bc_interpret.specs.declared.run.Run.{Run}
use Rattle.bc_interpret.specs.Moving.{next_of, RanIs}
use Rattle.bc_interpret.proofs.run.seen_step.Goals as goal

pub returns : goal.returns
returns g c = λ program t.
    let old = c.args.run.now in
    let P : Run → Type 0 = λ r. RanIs program (next_of r) r.stacks.rests.items r.state c.step.new.stacks.next c.step.new.stacks.rests.items c.step.new.state in
    let Q : Run → Type 0 = λ r. RanIs program (next_of old) old.stacks.rests.items old.state r.stacks.next r.stacks.rests.items r.state in
    subst Q (sym c.see_after.ensures) (subst P c.see_before.ensures (c.in_ok-step.ensures program t))
