use Rattle.std.proofs.Common.{◌≡◌, ◌+◌, ◌<◌, ◌∷◌, max, map, sym, subst, arith}
use Rattle.bc_core.specs.Layout.{cells_of_exp, cells_of_initials}
use Rattle.bc_core.specs.View.{exp, variable}
use Rattle.bc_interpret_defs.specs.Weight.{weight_of, weight_of_variables}
use Rattle.bc_interpret_frames.specs.Parts.{bodies, weights, weight_of_all, Expanded}
use Rattle.bc_interpret_frames.proofs.Waits.{one_waits}
use Rattle.bc_interpret_frames.proofs.expand.first_variable.Goals as goal

pub returns-in_ok-put_both-in-Value : goal.returns-in_ok-put_both-in-Value
returns-in_ok-put_both-in-Value c =
    let W = c.args.within in
    let vs = map variable c.args.left.now in
    let old = c.args.waiting.now.items in
    let new = c.put_both.new.waiting.items in
    let e = exp c.in-Value.e in
    let ensured = c.in_ok-put_both-in-Value.ensures in
    let weight : weight_of_all new ≡ weight_of (weights W) e + weight_of_variables (weights W) vs + 1 + 1 + weight_of_all old = omega (arith, ensured.weight) in
    subst (λ d. Expanded 0 (cells_of_initials (bodies W) (variable d ∷ vs) c.args.s) (weight_of_variables (weights W) (variable d ∷ vs)) old new) (sym c.in-Value.is)
    (one_waits 0 _ _ (max (cells_of_exp (bodies W) e c.args.s) (cells_of_initials (bodies W) vs c.args.s)) (weight_of (weights W) e + weight_of_variables (weights W) vs + 1) old new ensured.greatest weight (omega arith) (omega arith))
