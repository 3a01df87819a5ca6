use Rattle.std.proofs.Common.{subst}
use Rattle.bc_link.proofs.Front.{drop-front}
use Rattle.bc_link.proofs.Growing.{Becomes-Added}
use Rattle.bc_link.specs.Drafts.{Becomes}
use Rattle.bc_link.proofs.draft.Draft.of.Goals as goal

pub loop-number-preserved : goal.loop-number-preserved
loop-number-preserved c =
    let segments = c.args.segments.now in
    let front = drop-front segments c.loop-number.number c.index-segments-number.result c.loop-number-test.true c.index-segments-number.is in
    Becomes-Added c.loop-number.draft c.add.new.self c.loop-number.number c.index-segments-number.result _ segments (subst (λ rest. Becomes c.loop-number.draft c.loop-number.number rest segments) front c.loop-number.invariant) c.in_ok-add.ensures.ok
