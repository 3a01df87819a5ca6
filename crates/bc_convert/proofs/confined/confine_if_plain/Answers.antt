use Rattle.bc_convert.proofs.Confining.{kept_confined, if_ok}
use Rattle.bc_convert.proofs.confined.confine_if_plain.Goals as goal

pub returns : goal.returns
returns c =
    let kept = rw c.as_slice.ensures.value at c.confine.ensures in
    if_ok c.confine.result _ _ (λ taken is plain. kept_confined c.args.text.now c.in_ok-tokens.tokens.items c.args.candidates.items taken.items c.in_ok-tokens.ensures is) kept
