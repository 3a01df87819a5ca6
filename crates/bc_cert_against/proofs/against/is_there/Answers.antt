-- One more piece, and both ends of the loop.
use Rattle.std.proofs.Common.{◌≡◌, true, false, subst, sym, refl}
use Rattle.std.proofs.Math.ListN.{drop_of_length-le}
use Rattle.bc_cert_defs.specs.Against.{Passes, Stands, nothing_more}
use Rattle.bc_cert_defs.proofs.Standing.{turn, no_turn}
use Rattle.bc_cert_against.proofs.against.is_there.Goals as goal

pub returns-in-None : goal.returns-in-None
returns-in-None c = (
  (λ h. absurd (let k : false ≡ true = h in cc)),
  (λ h. absurd (no_turn _ _ _ _ c.loop-piece-test.true (λ more k. c.in-None.ensures more (subst (λ p. Passes p c.loop-piece.rest.now more) (sym c.piece-item.is) k)) (c.loop-piece.invariant.1 h))),
)

pub loop-piece-preserved : goal.loop-piece-preserved
loop-piece-preserved c =
    let t = turn c.args.code.now c.loop-piece.piece-index c.piece-item.result c.loop-piece.rest.now c.in-Some.more.now c.loop-piece-test.true (subst (λ p. Passes p c.loop-piece.rest.now c.in-Some.more.now) c.piece-item.is c.in-Some.ensures) in
    ((λ k. c.loop-piece.invariant.0 (t.0 k)), (λ k. t.1 (c.loop-piece.invariant.1 k)))

pub returns : goal.returns
returns c = (
  (λ h. c.loop-piece.invariant.0 (subst (λ ps. Stands ps c.loop-piece.rest.now) (sym (drop_of_length-le c.args.code.now c.loop-piece-test.false)) nothing_more)),
  (λ h. refl),
)
