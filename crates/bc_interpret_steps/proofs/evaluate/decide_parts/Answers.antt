use Rattle.std.proofs.Common.{sym, ap, subst, ◌∙◌, ◌∷◌}
use Rattle.std.proofs.lemmas.Result.{on_ok_weaker}
use Rattle.bc_core.specs.Tree as tree
use Rattle.bc_core.specs.View.{exp}
use Rattle.bc_interpret_defs.specs.Machine as machine
use Rattle.bc_interpret_steps.specs.Code.{spot_of}
use Rattle.bc_interpret_steps.specs.Came.{Goes}
use Rattle.bc_interpret_steps.proofs.Quiet.{went_goes}
use Rattle.bc_interpret_steps.proofs.evaluate.decide_parts.Goals as goal

pub returns-in-Not : goal.returns-in-Not
returns-in-Not c st =
    let f = c.decide_part in
    let q = c.deref.ensures in
    on_ok_weaker f.result (λ h. subst (λ e. Goes (machine.decide_parts (spot_of c.args.site) e c.args.site.level) c.args.stacks.now.rests.items st f.new.stacks.next f.new.stacks.rests.items st)
    ((λ i. tree.Not (exp (q i))) ∙ sym (ap exp c.in-Not.is)) (went_goes (λ rs. machine.go (machine.Decide (spot_of c.args.site) (exp c.deref.result.now) c.args.site.level) (machine.Opposes ∷ rs)) c.args.stacks.now.rests.items st f.new.stacks.next f.new.stacks.rests.items st h)) (f.ensures st)
