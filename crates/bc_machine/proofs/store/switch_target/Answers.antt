use Rattle.std.proofs.Common.{arith, sym, ◌∙◌}
use Rattle.bc_machine.proofs.Cases.{case_of-found, case_of-passed, case_of-spent}
use Rattle.bc_machine.proofs.store.switch_target.Goals as goal

pub returns-then-store-at : goal.returns-then-store-at
returns-then-store-at c =
    sym (case_of-found c.loop-left.left c.loop-left.at c.args.a _ c.args.store.now (omega arith) c.if-store-at.true) ∙ c.loop-left.invariant

pub loop-left-preserved : goal.loop-left-preserved
loop-left-preserved c =
    sym (case_of-passed c.loop-left.left c.loop-left.at c.args.a _ c.args.store.now (omega arith) c.if-store-at.false) ∙ c.loop-left.invariant

pub returns : goal.returns
returns c = sym (case_of-spent c.loop-left.left c.loop-left.at c.args.a _ c.args.store.now (omega arith)) ∙ c.loop-left.invariant
