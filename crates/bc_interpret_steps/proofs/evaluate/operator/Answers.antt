use Rattle.std.proofs.Common.{◌∷◌, subst, OnOk}
use Rattle.bc_core.specs.View.{exp}
use Rattle.bc_interpret_defs.specs.Machine as machine
use Rattle.bc_interpret_steps.specs.Code.{spot_of}
use Rattle.bc_interpret_steps.specs.Came.{Goes}
use Rattle.bc_interpret_steps.proofs.evaluate.operator.Goals as goal

pub returns : goal.returns
returns c st =
    let f = c.part_of in
    let E = spot_of c.args.site in
    subst (λ n. OnOk f.result (Goes (λ rs. machine.go (machine.Evaluate E (exp c.args.operands.0.now) n) (machine.Operates E c.args.op (exp c.args.operands.1.now) c.args.site.level ∷ rs)) c.args.stacks.now.rests.items st f.new.stacks.next f.new.stacks.rests.items st))
    c.in_ok-level.ensures (f.ensures st)
