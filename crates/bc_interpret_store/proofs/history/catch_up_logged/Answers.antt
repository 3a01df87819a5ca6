use Rattle.std.proofs.Common.{◌∙◌, refl}
use Rattle.bc_interpret_store.proofs.Following.{extends_none, extends_trans, but_less}
use Rattle.bc_interpret_store.proofs.history.catch_up_logged.Goals as goal

pub loop-address-init : goal.loop-address-init
loop-address-init c = record { length_kept = refl; extends = extends_none _ _ _ refl; agrees = c.requires }

pub loop-address-preserved : goal.loop-address-preserved
loop-address-preserved c =
    let so_far = c.loop-address.invariant in
    let step = c.in_ok-catch_up_at.ensures in
    record {
      length_kept = step.length ∙ so_far.length_kept;
      extends = extends_trans _ _ _ _ _ _ so_far.extends step.extends;
      agrees = but_less c.loop-address.left.now c.in-Some.later.now c.in-Some.address.now _ _ _ c.in-Some.ensures.cases.0 so_far.agrees step.updates step.length;
    }
