use Rattle.std.proofs.Common.{◌∙◌}
use Rattle.bc_interpret_steps.specs.Code.{given_for, given}
use Rattle.bc_interpret_steps.proofs.Gathers.{still}
use Rattle.bc_interpret_steps.proofs.arguments.gather.Goals as goal

pub loop-more-preserved : goal.loop-more-preserved
loop-more-preserved c =
    let i = c.loop-more.invariant in
    let took = c.in_ok-more.ensures.takes in
    let wanted = given_for c.args.fresh (given c.args.rests.now.items) in
    record {
      stack = took.0 ∙ i.stack;
      gathering = took.1 wanted (still c.loop-more.more wanted c.loop-more.rests.items c.loop-more.arguments.items c.loop-more-test.true i.gathering);
    }
