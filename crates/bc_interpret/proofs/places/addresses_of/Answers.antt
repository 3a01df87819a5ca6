use Rattle.bc_interpret.proofs.Placing.{labels_more}
use Rattle.bc_interpret.proofs.places.addresses_of.Goals as goal

pub loop-pair-preserved : goal.loop-pair-preserved
loop-pair-preserved c =
    labels_more c.args.place.now.labels c.loop-pair.left.now c.in-Some.before.now c.in-Some.pair.now c.loop-pair.addresses.items c.put_address.new.addresses.items c.in-Some.ensures.cases.0
    c.loop-pair.invariant c.in_ok-put_address.ensures
