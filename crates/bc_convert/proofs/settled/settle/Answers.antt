use Rattle.std.proofs.Common.{◌≡◌, length, ◌∙◌, subst, sym, arith}
use Rattle.std.proofs.lemmas.Grind.{common_steps}
use Rattle.bc_convert.specs.Converted.{RiseWithin, ChangesText}
use Rattle.bc_convert.specs.Settled.{settled, IsSublist}
use Rattle.bc_convert.proofs.Settling.{settled-sublist, settled-rise, settled-change, settled-all}
use Rattle.bc_convert.proofs.settled.settle.Goals as goal

pub returns-clause-candidates : goal.returns-clause-candidates
returns-clause-candidates c =
    let e : c.loop-candidate.taken.items ≡ settled c.args.text.now c.args.candidates.items = grind (arith, common_steps) in
    subst (λ xs. IsSublist xs c.args.candidates.items) (sym e) (settled-sublist 0 c.args.text.now c.args.candidates.items)

pub returns-clause-rise : goal.returns-clause-rise
returns-clause-rise c =
    let e : c.loop-candidate.taken.items ≡ settled c.args.text.now c.args.candidates.items = grind (arith, common_steps) in
    subst (λ xs. RiseWithin 0 (length c.args.text.now) xs) (sym e) (settled-rise 0 c.args.text.now c.args.candidates.items (omega arith))

pub returns-clause-change : goal.returns-clause-change
returns-clause-change c =
    let e : c.loop-candidate.taken.items ≡ settled c.args.text.now c.args.candidates.items = grind (arith, common_steps) in
    subst (λ xs. ChangesText c.args.text.now xs) (sym e) (settled-change 0 c.args.text.now c.args.candidates.items)

pub returns-clause-all : goal.returns-clause-all
returns-clause-all c rise change =
    let e : c.loop-candidate.taken.items ≡ settled c.args.text.now c.args.candidates.items = grind (arith, common_steps) in
    e ∙ settled-all 0 c.args.text.now c.args.candidates.items rise change
