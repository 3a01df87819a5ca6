use Rattle.std.proofs.Common.{◌∷◌, sym, subst, OnOk}
use Rattle.std.proofs.lemmas.Result.{on_ok_weaker}
use Rattle.bc_core.specs.Exit.{Past}
use Rattle.bc_core.specs.Outcome.{choose}
use Rattle.bc_core.specs.View.{exp, block_of}
use Rattle.bc_interpret_defs.specs.Machine as machine
use Rattle.bc_interpret_steps.specs.Code.{spot_of, truth_rest, stack, given}
use Rattle.bc_interpret_steps.specs.Came.{Goes}
use Rattle.bc_interpret_steps.proofs.Quiet.{went_goes}
use Rattle.bc_interpret_steps.proofs.conditions.truth_taken.Goals as goal

pub returns-in-Ifs : goal.returns-in-Ifs
returns-in-Ifs c program =
    let before = c.args.stacks.now.rests.items in
    let after = c.enter_if.new.stacks.rests.items in
    let p = c.enter_if.new.stacks.next in
    let t = c.in-Ifs in
    let E = spot_of t.site in
    let b = block_of t.body.now in
    on_ok_weaker c.enter_if.result (λ h. subst (λ r. Goes (machine.next program (truth_rest r) (machine.Verdict c.args.t)) before c.args.state.now p after c.enter_if.new.state) (sym t.is)
    (subst (λ h. Goes (λ rs. choose h (machine.enter E b t.site.level rs) (machine.give (machine.Left Past) rs)) before c.args.state.now p after c.enter_if.new.state) c.agrees-holds.ensures
    (went_goes (λ rs. choose c.agrees-holds.result (machine.enter E b t.site.level rs) (machine.give (machine.Left Past) rs)) before c.args.state.now p after c.enter_if.new.state h))) c.enter_if.ensures

pub returns-in-Chooses : goal.returns-in-Chooses
returns-in-Chooses c program =
    let before = c.args.stacks.now.rests.items in
    let after = c.enter_either.new.stacks.rests.items in
    let t = c.in-Chooses in
    let E = spot_of t.site in
    on_ok_weaker c.enter_either.result (λ h. subst (λ r. Goes (machine.next program (truth_rest r) (machine.Verdict c.args.t)) before c.args.state.now c.enter_either.new.stacks.next after c.enter_either.new.state) (sym c.in-Chooses.is)
    (went_goes (λ rs. choose c.args.t (machine.enter E (block_of t.this.now) t.site.level (machine.Skips (block_of t.that.now) ∷ rs)) (machine.enter E (block_of t.that.now) t.site.level rs)) before c.args.state.now c.enter_either.new.stacks.next after c.enter_either.new.state h)) c.enter_either.ensures

pub returns-in-Whiles : goal.returns-in-Whiles
returns-in-Whiles c program =
    let before = c.args.stacks.now.rests.items in
    let after = c.enter_while.new.stacks.rests.items in
    let p = c.enter_while.new.stacks.next in
    let t = c.in-Whiles in
    let E = spot_of t.site in
    let b = block_of t.body.now in
    let sense = t.condition.now.sense in
    let e = exp t.condition.now.test in
    on_ok_weaker c.enter_while.result (λ h. subst (λ r. Goes (machine.next program (truth_rest r) (machine.Verdict c.args.t)) before c.args.state.now p after c.enter_while.new.state) (sym t.is)
    (subst (λ h. Goes (λ rs. choose h (machine.enter E b t.site.level (machine.WhileBody E sense e b t.site.level ∷ rs)) (machine.give (machine.Left Past) rs)) before c.args.state.now p after c.enter_while.new.state) c.agrees-holds-in-Whiles.ensures
    (went_goes (λ rs. choose c.agrees-holds-in-Whiles.result (machine.enter E b t.site.level (machine.WhileBody E sense e b t.site.level ∷ rs)) (machine.give (machine.Left Past) rs)) before c.args.state.now p after c.enter_while.new.state h))) c.enter_while.ensures

pub returns-in-Conjoins : goal.returns-in-Conjoins
returns-in-Conjoins c program =
    let before = c.args.stacks.now.rests.items in
    let st = c.args.state.now in
    subst (λ r. OnOk c.conjoins.result (Goes (machine.next program (truth_rest r) (machine.Verdict c.args.t)) before st c.conjoins.new.stacks.next c.conjoins.new.stacks.rests.items st)) (sym c.in-Conjoins.is)
    (c.conjoins.ensures st program)

pub returns-in-Disjoins : goal.returns-in-Disjoins
returns-in-Disjoins c program =
    let before = c.args.stacks.now.rests.items in
    let st = c.args.state.now in
    subst (λ r. OnOk c.disjoins.result (Goes (machine.next program (truth_rest r) (machine.Verdict c.args.t)) before st c.disjoins.new.stacks.next c.disjoins.new.stacks.rests.items st)) (sym c.in-Disjoins.is)
    (c.disjoins.ensures st program)

pub returns-in-Selects : goal.returns-in-Selects
returns-in-Selects c program =
    let before = c.args.stacks.now.rests.items in
    let st = c.args.state.now in
    subst (λ r. Goes (machine.next program (truth_rest r) (machine.Verdict c.args.t)) before st c.branch_next-stacks.result before st) (sym c.in-Selects.is)
    (c.branch_next-stacks.ensures st program (stack before) (given before))

pub returns-in-RepeatWhiles : goal.returns-in-RepeatWhiles
returns-in-RepeatWhiles c program =
    let before = c.args.stacks.now.rests.items in
    subst (λ r. Goes (machine.next program (truth_rest r) (machine.Verdict c.args.t)) before c.args.state.now c.repeats-stacks.result before c.repeats-stacks.new.state) (sym c.in-RepeatWhiles.is)
    (c.repeats-stacks.ensures program (stack before) (given before))
