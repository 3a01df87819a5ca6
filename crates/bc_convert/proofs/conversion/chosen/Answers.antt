use Rattle.bc_convert.proofs.Confining.{some_confined, if_ok}
use Rattle.bc_convert.proofs.conversion.chosen.Goals as goal

pub returns-clause-confined : goal.returns-clause-confined
returns-clause-confined c =
    if_ok c.settle.result _ _ (λ taken some plain. some_confined c.args.text.now taken.items c.in_ok-confined.confined.items some (c.in_ok-confined.ensures plain)) c.settle.ensures.candidates
