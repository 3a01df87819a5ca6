use Rattle.std.proofs.Common.{◌≡◌, true, rules, arith}
use Rattle.std.proofs.lemmas.Grind.{common_steps}
use Rattle.bc_tame_check.specs.Views.{held_of, test_of, reads_at}
use Rattle.bc_tame_check.proofs.Knowledge.{all_next}
use Rattle.bc_tame_check.proofs.knows.all_between.Goals as goal

pub loop-left-preserved : goal.loop-left-preserved
loop-left-preserved c =
    let passed : test_of c.args.test (held_of c.held_at.result) ≡ true = first_of (cc, search rules, grind (arith, common_steps)) in
    (λ h. c.loop-left.invariant.0 (all_next (test_of c.args.test) (reads_at c.args.at) c.loop-left.left c.loop-left.offset (held_of c.held_at.result) passed c.held_at.ensures (omega arith) h), omega arith)
