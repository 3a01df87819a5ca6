use Rattle.std.proofs.Common.{sym, subst, OnOk}
use Rattle.bc_interpret_defs.specs.Machine.{Nothing, next}
use Rattle.bc_interpret_steps.specs.Code.{nothing_rest}
use Rattle.bc_interpret_steps.specs.Came.{Goes}
use Rattle.bc_interpret_steps.proofs.exits.nothing_taken.Goals as goal

pub returns-in-Limits : goal.returns-in-Limits
returns-in-Limits c st program =
    let f = c.limits in
    subst (λ r. OnOk f.result (Goes (next program (nothing_rest r) Nothing) c.args.stacks.now.rests.items st f.new.stacks.next f.new.stacks.rests.items st)) (sym c.in-Limits.is)
    (f.ensures st program)
