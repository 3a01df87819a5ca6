use Rattle.std.proofs.lemmas.Result.{on_ok_weaker}
use Rattle.bc_core.specs.View.{exp, args}
use Rattle.bc_interpret_steps.specs.Code.{spot_of, stack, given}
use Rattle.bc_interpret_steps.proofs.Direct.{landed_at, called_plainly}
use Rattle.bc_interpret_steps.proofs.calls.begin_call.Goals as goal

pub returns-in_ok-frame-in-Some : goal.returns-in_ok-frame-in-Some
returns-in_ok-frame-in-Some c program table =
    let after = c.call_value.new.stacks.rests.items in
    on_ok_weaker c.call_value.result (λ h. landed_at program c.args.state.now (spot_of c.args.site) (args c.args.arguments.now) (exp c.args.routine.now) c.args.site.level c.in_ok-frame-in-Some.frame c.in-Some.value
    c.evaluate_pure_call.new.self.arguments.items c.args.stacks.now.rests c.evaluate_pure_call.new.self.rests c.in_ok-found.found c.call_value.new.stacks.next (stack after) (given after) c.call_value.new.state
    c.in_ok-found.ensures.worked c.in-Some.is c.in_ok-found.ensures.rests c.in_ok-frame-in-Some.ensures h) (c.call_value.ensures program table)

pub returns-in-None : goal.returns-in-None
returns-in-None c program table =
    let after = c.call.new.stacks.rests.items in
    on_ok_weaker c.call.result (λ h. called_plainly program c.args.state.now (spot_of c.args.site) (args c.args.arguments.now) (exp c.args.routine.now) c.args.site.level c.args.stacks.now.rests c.evaluate_pure_call.new.self.rests
    c.call.new.stacks.next (stack after) (given after) c.in_ok-found.ensures.rests h) c.call.ensures
