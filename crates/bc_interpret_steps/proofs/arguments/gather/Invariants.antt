use Rattle.std.proofs.Common.{◌≡◌, ◌+◌, cond, vec_len}
use Rattle.bc_interpret_steps.specs.Code.{given_for, stack, given, Gathering}
use Rattle.bc_interpret_steps.proofs.arguments.gather.Given as goal

abbrev pub invariant-loop-more : goal.invariant-loop-more
invariant-loop-more l = record {
  stack : stack l.rests.items ≡ stack l.fn.rests.items;
  gathering : Gathering l.more (given_for l.fn.fresh (given l.fn.rests.items)) l.rests.items l.arguments.items;
}

abbrev pub decreases-loop-more : goal.decreases-loop-more
decreases-loop-more l = vec_len l.rests + cond l.more 1 0
