use Rattle.bc_interpret_steps.proofs.Gathers.{takes_one, takes_none}
use Rattle.bc_interpret_steps.proofs.arguments.take_given.Goals as goal

pub returns-in_ok-push-in-Some-given_by-clause-takes : goal.returns-in_ok-push-in-Some-given_by-clause-takes
returns-in_ok-push-in-Some-given_by-clause-takes c =
    let g = c.in-Some-given_by in
    takes_one c.args.rests.now.items c.pop.new.self.items c.in-Some.rest g.v g.first c.args.arguments.now.items c.push.new.self.items c.in-Some.ensures.items g.ensures c.in_ok-push-in-Some-given_by.ensures.items

pub returns-in_ok-push-in-None-given_by-clause-takes : goal.returns-in_ok-push-in-None-given_by-clause-takes
returns-in_ok-push-in-None-given_by-clause-takes c =
    takes_none c.args.rests.now.items c.pop.new.self.items c.push-in-None-given_by.new.self.items c.in-Some.rest c.args.arguments.now.items c.in-Some.ensures.items c.in-None-given_by.ensures c.in_ok-push-in-None-given_by.ensures.items
